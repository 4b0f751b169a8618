-- Lower-case hexadecimal is read two digits a byte, the higher first. A text of other characters, or of an
-- odd number of them, stands for no bytes.
use Rattle.std.specs.Prelude.{ℕ, ◌+◌, ◌-◌, ◌*◌, if◌then◌else◌, ◌&&◌, List, [], ◌∷◌, Some, None, Option, nat_le}
use Rattle.std.specs.Option.{option_map}

abbrev pub digit_of : ℕ → Option ℕ
digit_of character =
    if nat_le 48 character && nat_le character 57 then Some (character - 48)
    else if nat_le 97 character && nat_le character 102 then Some (character - 87)
    else None

abbrev pub byte_of_digits : Option ℕ → Option ℕ → Option ℕ
byte_of_digits None low = None
byte_of_digits (Some high) None = None
byte_of_digits (Some high) (Some low) = Some (16 * high + low)

-- the byte that two characters stand for
abbrev pub byte_of : List ℕ → Option ℕ
byte_of [] = None
byte_of (character ∷ []) = None
byte_of (high ∷ low ∷ []) = byte_of_digits (digit_of high) (digit_of low)
byte_of (high ∷ low ∷ more ∷ text) = None

-- a byte before more bytes, where all of them are there
abbrev pub byte_before : Option ℕ → Option (List ℕ) → Option (List ℕ)
byte_before None rest = None
byte_before (Some byte) rest = option_map (λ bytes. byte ∷ bytes) rest

abbrev pub hex_bytes : List ℕ → Option (List ℕ)
hex_bytes [] = Some []
hex_bytes (character ∷ []) = None
hex_bytes (high ∷ low ∷ text) = byte_before (byte_of (high ∷ low ∷ [])) (hex_bytes text)
