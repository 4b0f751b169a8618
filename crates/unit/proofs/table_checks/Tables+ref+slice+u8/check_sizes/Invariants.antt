use Rattle.std.proofs.Common.{◌≡◌, drop}
use Rattle.unit.specs.Bytes.{bytes_of}
use Rattle.unit.specs.Format.{every_table}
use Rattle.unit.specs.Verdict.{size_verdict, first_of}
use Rattle.unit.proofs.table_checks.Tables+ref+slice+u8.check_sizes.Given as goal

abbrev pub invariant-loop-table : goal.invariant-loop-table
invariant-loop-table l =
    first_of (size_verdict (bytes_of l.self)) every_table ≡ first_of (size_verdict (bytes_of l.self)) (drop l.table-index every_table)
