use Rattle.std.proofs.Common.{◌≡◌, ℕ, ◌+◌, ◌<◌, Option, Some, None, drop, length, slice_index_or, sym, ap, ◌∙◌, rules}
use Rattle.std.proofs.lemmas.List.{at_drop_more}
use Rattle.std.proofs.lemmas.Result.{err_from_is_err_and}
use Rattle.tables.specs.First.{◌then◌}
use Rattle.unit.specs.Bytes.{bytes_of}
use Rattle.unit.specs.Format.{every_table}
use Rattle.unit.specs.Verdict.{size_verdict, first_of}
use Rattle.unit.specs.declared.refusal.Refusal.{Refusal}
use Rattle.unit.specs.declared.table.Table.{Table}
use Rattle.unit.specs.declared.table.Table.TheVariants.{WordBytes}
use Rattle.unit.proofs.table_checks.Tables+ref+slice+u8.check_sizes.Goals as goal

-- the tables from the i-th on are this one and then the others
from_here : (f : Table → Option Refusal) (i : ℕ) (o : Option Refusal) → i < length every_table → f (slice_index_or every_table i WordBytes) ≡ o
    → first_of f (drop i every_table) ≡ o then first_of f (drop (i + 1) every_table)
from_here f i o inside this =
    at_drop_more (first_of f) every_table i WordBytes inside ∙ ap (λ p. p then first_of f (drop (i + 1) every_table)) this

pub loop-table-preserved : goal.loop-table-preserved
loop-table-preserved c =
    let passed : size_verdict (bytes_of c.args.self.now) (slice_index_or every_table c.loop-table.table-index WordBytes) ≡ None = search rules in
    c.loop-table.invariant ∙ from_here _ c.loop-table.table-index None c.loop-table-test.true passed

pub returns-in_err-check_size : goal.returns-in_err-check_size
returns-in_err-check_size c =
    let p = err_from_is_err_and c.from_residual.result c.from_residual.ensures.1 in
    let refused : size_verdict (bytes_of c.args.self.now) (slice_index_or every_table c.loop-table.table-index WordBytes) ≡ Some c.in_err-check_size.field-0.0 = search rules in
    rw (p.1, p.2) (sym (c.loop-table.invariant ∙ from_here _ c.loop-table.table-index _ c.loop-table-test.true refused))
