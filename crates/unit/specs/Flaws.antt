-- What may be wrong with one column. A number, or a part, lies outside its table; or a kind is unknown,
-- a flag over 1, a part empty that must not be.
use Rattle.std.specs.Prelude.{ℕ, ◌+◌, Some, None, Option, ◌==◌, nat_le, nat_lt}
use Rattle.std.specs.Bool.{then_some}
use Rattle.tables.specs.First.{◌then◌}
use Rattle.tables.specs.declared.parts.Part.{Part}
use Rattle.unit.specs.Bytes.{Bytes, rows}
use Rattle.unit.specs.declared.flaws.Flaw.{Flaw}
use Rattle.unit.specs.declared.flaws.Flaw.TheVariants as flaw
use Rattle.unit.specs.declared.refusal.Refusal.{Refusal}
use Rattle.unit.specs.declared.refusal.Refusal.TheVariants as refusal
use Rattle.unit.specs.declared.table.Table.{Table}

-- a number that is no row of the table `of`
abbrev pub number_flaw : Bytes → Table → ℕ → Option Flaw
number_flaw b of number = then_some (nat_le (rows b of) number) flaw.Outside

abbrev pub optional_flaw : Bytes → Table → Option ℕ → Option Flaw
optional_flaw b of None = None
optional_flaw b of (Some number) = number_flaw b of number

abbrev pub part_flaw : Bytes → Table → Part → Option Flaw
part_flaw b of part = then_some (nat_lt (rows b of) (part.first + part.count)) flaw.Outside

abbrev pub empty_flaw : Part → Option Flaw
empty_flaw part = then_some (part.count == 0) flaw.Unknown

abbrev pub flag_flaw : ℕ → Option Flaw
flag_flaw flag = then_some (nat_lt 1 flag) flaw.Unknown

-- a kind below the least or above the most
abbrev pub kind_flaw : ℕ → ℕ → ℕ → Option Flaw
kind_flaw least most kind = then_some (nat_lt kind least) flaw.Unknown then then_some (nat_lt most kind) flaw.Unknown

-- the refusal that tells such a flaw with its place
abbrev pub at : Table → ℕ → Flaw → Refusal
at table row flaw.Outside = refusal.Outside table row
at table row flaw.Unknown = refusal.Unknown table row
