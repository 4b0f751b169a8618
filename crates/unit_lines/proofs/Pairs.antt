-- The loop `for pair in text.chunks(2)` that decodes a text.
use Rattle.std.proofs.Common.{◌≡◌, ℕ, ◌<◌, min, List, [], ◌∷◌, ◌++◌, length, Some, None, Option, sym, refl, ap, append_assoc, arith}
use Rattle.std.specs.Option.{option_map}
use Rattle.std.proofs.lemmas.List.{nil_from_length}
use Rattle.unit_lines.specs.Hexadecimal.{byte_of, byte_before, hex_bytes}

-- bytes that are read already before those that are still to come
abbrev pub after : List ℕ → Option (List ℕ) → Option (List ℕ)
after bytes rest = option_map (λ more. bytes ++ more) rest

-- a byte more is read
pub after_push : (bytes : List ℕ) (byte : ℕ) (rest : Option (List ℕ))
    → after bytes (byte_before (Some byte) rest) ≡ after (bytes ++ byte ∷ []) rest
after_push bytes byte None = refl
after_push bytes byte (Some more) = ap Some (sym (append_assoc bytes (byte ∷ []) more))

-- what a turn takes is the first pair
pub first_pair : (pair left : List ℕ) → length pair ≡ min 2 (length (pair ++ left)) → 0 < length (pair ++ left)
    → hex_bytes (pair ++ left) ≡ byte_before (byte_of pair) (hex_bytes left)
first_pair [] left e l = absurd (omega arith)
first_pair (c ∷ []) left e l = let none : left ≡ [] = nil_from_length left (omega arith) in rw none
first_pair (h ∷ l ∷ []) left e z = refl
first_pair (h ∷ l ∷ m ∷ pair) left e z = absurd (omega arith)
