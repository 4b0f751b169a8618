-- The first refusal in order, whatever a refusal is: of one thing and then another, of numbered things,
-- and of the rows of a table.
use Rattle.std.specs.Prelude.{ℕ, zero, suc, ◌/◌, List, length, None, Option}
use Rattle.std.specs.Option.{option_or, option_map}
use Rattle.tables.specs.Cells.{row_of}

infixr 20 ◌then◌
-- the first refusal, or the second where there is no first
abbrev pub ◌then◌ : {R : Type 0} → Option R → Option R → Option R
◌then◌ = option_or

-- the first of f 0, f 1, .. f (n - 1) that is there
abbrev pub first : {R : Type 0} → (ℕ → Option R) → ℕ → Option R
first f zero = None
first f (suc n) = first f n then f n

-- what is wrong with one row of a table, told with its number
abbrev pub row_refusal : {F R : Type 0} → (ℕ → F → R) → (List ℕ → Option F) → List ℕ → ℕ → ℕ → Option R
row_refusal tell flaw table width row = option_map (tell row) (flaw (row_of table width row))

abbrev pub first_row : {F R : Type 0} → (ℕ → F → R) → (List ℕ → Option F) → List ℕ → ℕ → Option R
first_row tell flaw table width = first (row_refusal tell flaw table width) (length table / width)
