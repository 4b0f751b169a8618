-- Two laws of the verdict. Accepted exactly: nothing of a unit is refused exactly when it is sound.
-- Refused first: what a refusal tells of is wrong, and all that comes before it in the order is right.
use Rattle.std.specs.Prelude.{◌≡◌, ℕ, ◌<◌, ◌↔◌, IfSome, None}
use Rattle.unit.specs.Bytes.{Bytes, rows, row_at}
use Rattle.unit.specs.Format.{number}
use Rattle.unit.specs.Sound.{Sized, RowSound, RowsSound, Sound}
use Rattle.unit.specs.Verdict.{verdict}
use Rattle.unit.specs.declared.refusal.Refusal.{Refusal}
use Rattle.unit.specs.declared.refusal.Refusal.TheVariants.{Size, Outside, Unknown}
use Rattle.unit.specs.declared.table.Table.{Table}

abbrev pub AcceptedExactly : Bytes → Type 0
AcceptedExactly b = verdict b ≡ None ↔ Sound b

pub record FirstBadSize (b : Bytes) (table : Table) : Type 0 where
  pub bad : Sized b table → ⊥
  pub before : (t : Table) → number t < number table → Sized b t

pub record FirstBadRow (b : Bytes) (table : Table) (row : ℕ) : Type 0 where
  pub there : row < rows b table
  pub bad : RowSound b table (row_at b table row) → ⊥
  pub sizes : (t : Table) → Sized b t
  pub tables_before : (t : Table) → number t < number table → RowsSound b t
  pub rows_before : (i : ℕ) → i < row → RowSound b table (row_at b table i)

abbrev pub ToldFirst : Bytes → Refusal → Type 0
ToldFirst b (Size table) = FirstBadSize b table
ToldFirst b (Outside table row) = FirstBadRow b table row
ToldFirst b (Unknown table row) = FirstBadRow b table row

abbrev pub RefusedFirst : Bytes → Type 0
RefusedFirst b = IfSome (verdict b) (ToldFirst b)
