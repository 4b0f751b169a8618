-- A part is two columns of a row: the first row of some table, and how many rows from there on.
-- It lies inside a table when their sum, which never wraps, is at most the table's rows.
use Rattle.std.specs.Prelude.{ℕ, ◌+◌, ◌≤◌, List}
use Rattle.tables.specs.Cells.{cell}
use Rattle.tables.specs.declared.parts.Part.{Part}

abbrev pub part_of : List ℕ → ℕ → Part
part_of row column = record { first = cell row column; count = cell row (column + 1) }

abbrev pub PartInside : ℕ → Part → Type 0
PartInside rows part = part.first + part.count ≤ rows
