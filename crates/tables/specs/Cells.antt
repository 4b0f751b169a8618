-- A table is bytes, cut into rows of one width. A cell is four bytes of a row, the lowest first.
-- The largest number that fits means that there is none.
use Rattle.std.specs.Prelude.{ℕ, ◌+◌, ◌*◌, Bool, if◌then◌else◌, List, take, drop, Some, None, Option, ◌==◌, slice_index}

abbrev pub row_of : List ℕ → ℕ → ℕ → List ℕ
row_of table width row = take width (drop (row * width) table)

-- the number in the four bytes from `at` on
abbrev pub number_at : List ℕ → ℕ → ℕ
number_at bytes at =
    slice_index bytes at + slice_index bytes (at + 1) * 256 + slice_index bytes (at + 2) * 65536 + slice_index bytes (at + 3) * 16777216

-- the number in a column of a row
unfoldable pub cell : List ℕ → ℕ → ℕ
cell row column = number_at row (4 * column)

abbrev pub optional : ℕ → Option ℕ
optional number = if number == 4294967295 then None else Some number

-- a flag is set where its cell is 1
abbrev pub flag_at : List ℕ → ℕ → Bool
flag_at row column = cell row column == 1
