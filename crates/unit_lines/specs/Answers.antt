-- What an answer says of a definition that may have no value: the value is there, or there is none,
-- or there was no memory to say which.
use Rattle.std.specs.Prelude.{◌≡◌, Some, None, Ok, Err, Option, Result, ⊤}
use Rattle.unit_lines.specs.declared.error.LineError.{LineError}
use Rattle.unit_lines.specs.declared.error.LineError.TheVariants.{Unreadable, Memory}

abbrev pub Reads : {T X : Type 0} → Result T LineError → Option X → (T → X) → Type 0
Reads (Ok x) o value = o ≡ Some (value x)
Reads (Err Unreadable) o value = o ≡ None
Reads (Err Memory) o value = ⊤
