-- A line of a file ends with LF (10) or CR LF (13, 10), and the last one may end with neither or with a CR alone.
use Rattle.std.specs.Prelude.{◌≡◌, ℕ, ◌-◌, ◌≤◌, if◌then◌else◌, ◌&&◌, List, [], ◌∷◌, ◌++◌, length, take, ◌==◌, nat_lt, slice_index}

-- a text without its last character, where that is `last`
abbrev pub without_last : ℕ → List ℕ → List ℕ
without_last last text =
    if nat_lt 0 (length text) && slice_index text (length text - 1) == last then take (length text - 1) text else text

abbrev pub line_text : List ℕ → List ℕ
line_text line = without_last 13 (without_last 10 line)

-- what may end a line
pub data LineEnd : List ℕ → Type 0 where
  Nothing : LineEnd []
  Lf : LineEnd (10 ∷ [])
  CrLf : LineEnd (13 ∷ 10 ∷ [])
  Cr : LineEnd (13 ∷ [])

-- the text is what stands before the longest end that the line has
pub record IsTextOfLine (line text : List ℕ) : Type 0 where
  pub ended : (end : List ℕ) × LineEnd end × (line ≡ text ++ end)
  pub longest : (before end : List ℕ) → LineEnd end → line ≡ before ++ end → length text ≤ length before
