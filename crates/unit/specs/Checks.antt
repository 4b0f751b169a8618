-- What the check gives: a checked unit over the tables, or their first refusal. With the answer go the two laws of it.
use Rattle.std.specs.Prelude.{◌≡◌, ℕ, List, Result, IfOk}
use Rattle.std.specs.Borrow.{Bor}
use Rattle.std.specs.Result.{result_err}
use Rattle.unit.specs.Bytes.{bytes_of}
use Rattle.unit.specs.Law.{AcceptedExactly, RefusedFirst}
use Rattle.unit.specs.Verdict.{verdict}
use Rattle.unit.specs.declared.checked.CheckedUnit.{CheckedUnit}
use Rattle.unit.specs.declared.refusal.Refusal.{Refusal}
use Rattle.unit.specs.declared.unit_tables.Tables.{Tables}

pub record Checks (tables : Tables (Bor (List ℕ))) (result : Result CheckedUnit Refusal) : Type 0 where
  pub answer : result_err result ≡ verdict (bytes_of tables)
  pub filled : IfOk result (λ u. u.tables ≡ tables)
  pub exactly : AcceptedExactly (bytes_of tables)
  pub first : RefusedFirst (bytes_of tables)
