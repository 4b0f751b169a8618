-- How a unit is written as a line: its ten tables with one space between, each `-` where it is empty, else
-- two lower-case hexadecimal digits a byte. A line stands for a unit exactly when it is the unit's own line.
use Rattle.std.specs.Prelude.{◌≡◌, ℕ, ◌+◌, ◌/◌, ◌%◌, ◌<◌, if◌then◌else◌, ◌↔◌, List, [], ◌∷◌, Some, All, nat_lt}
use Rattle.std.specs.List.{flat_map, join_with_byte}
use Rattle.unit.specs.Bytes.{Bytes}
use Rattle.unit_lines.specs.Line.{line_tables}

abbrev pub digit_text : ℕ → ℕ
digit_text digit = if nat_lt digit 10 then 48 + digit else 87 + digit

abbrev pub byte_text : ℕ → List ℕ
byte_text byte = digit_text (byte / 16) ∷ digit_text (byte % 16) ∷ []

abbrev pub hex_text : List ℕ → List ℕ
hex_text bytes = flat_map byte_text bytes

abbrev pub field_text : List ℕ → List ℕ
field_text [] = 45 ∷ []
field_text (byte ∷ bytes) = hex_text (byte ∷ bytes)

abbrev pub line_of : Bytes → List ℕ
line_of b = join_with_byte 32 (
    field_text b.word_bytes ∷ field_text b.words ∷ field_text b.identifiers ∷ field_text b.places ∷
    field_text b.functions ∷ field_text b.blocks ∷ field_text b.phis ∷ field_text b.instructions ∷
    field_text b.declared ∷ field_text b.steps ∷ [])

-- a table holds bytes, and no larger numbers
abbrev pub OfBytes : List ℕ → Type 0
OfBytes table = All (λ byte. byte < 256) table

pub record TablesOfBytes (b : Bytes) : Type 0 where
  pub word_bytes : OfBytes b.word_bytes
  pub words : OfBytes b.words
  pub identifiers : OfBytes b.identifiers
  pub places : OfBytes b.places
  pub functions : OfBytes b.functions
  pub blocks : OfBytes b.blocks
  pub phis : OfBytes b.phis
  pub instructions : OfBytes b.instructions
  pub declared : OfBytes b.declared
  pub steps : OfBytes b.steps

abbrev pub ReadsItsOwnLine : List ℕ → Type 0
ReadsItsOwnLine line = (b : Bytes) → line_tables line ≡ Some b ↔ (line ≡ line_of b) × TablesOfBytes b
