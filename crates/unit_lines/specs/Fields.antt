-- A line is cut at its spaces into fields. A field is a table: `-` where it is empty, else its bytes in
-- hexadecimal.
use Rattle.std.specs.Prelude.{ℕ, if◌then◌else◌, List, [], ◌∷◌, Some, None, Option, ◌==◌}
use Rattle.std.specs.Borrow.{Bor}
use Rattle.std.specs.Option.{option_map}
use Rattle.unit_lines.specs.Hexadecimal.{hex_bytes}

-- a character more before the first space
abbrev pub longer : ℕ → List ℕ × List ℕ → List ℕ × List ℕ
longer character p = (character ∷ p.0, p.1)

-- what stands before the first space (32) and what stands behind it
abbrev pub cut : List ℕ → Option (List ℕ × List ℕ)
cut [] = None
cut (character ∷ text) = if character == 32 then Some ([], text) else option_map (longer character) (cut text)

-- two slices as what they hold
abbrev pub parts : Bor (List ℕ) × Bor (List ℕ) → List ℕ × List ℕ
parts p = (p.0.now, p.1.now)

-- one character is no byte, so that it can only be the `-` (45)
abbrev pub field_bytes : List ℕ → Option (List ℕ)
field_bytes [] = None
field_bytes (character ∷ []) = if character == 45 then Some [] else None
field_bytes (high ∷ low ∷ text) = hex_bytes (high ∷ low ∷ text)

-- a field's table and the rest of the line
abbrev pub with_rest : Option (List ℕ × List ℕ) → Option (List ℕ × List ℕ)
with_rest None = None
with_rest (Some p) = option_map (λ table. (table, p.1)) (field_bytes p.0)

abbrev pub field_then : List ℕ → Option (List ℕ × List ℕ)
field_then text = with_rest (cut text)
