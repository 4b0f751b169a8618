use Rattle.std.specs.Iterator.Adapters.{enumerate_source, enumerate_count}
use Rattle.std.specs.Slice.Iter.{chunks_exact_rest, chunks_exact_size}
use Rattle.tables.proofs.Rows.{Searching}
use Rattle.unit.specs.Bytes.{bytes_of, bytes_at}
use Rattle.unit.specs.Flaws.{at}
use Rattle.unit.specs.Format.{width}
use Rattle.unit.specs.Verdict.{row_flaw}
use Rattle.unit.proofs.table_checks.Tables+ref+slice+u8.check_rows.Given as goal

abbrev pub invariant-loop-row : goal.invariant-loop-row
invariant-loop-row g l =
    let table = g.R.Record.TABLE in
    record {
      can_next : (goal.iterator-loop-row g).can_next l.row-iterator;
      is_finite : (goal.iterator-loop-row g).is_finite l.row-iterator;
      searching : Searching (at table) (row_flaw (bytes_of l.self) table) (bytes_at (bytes_of l.self) table) (width table)
          (enumerate_count l.row-iterator) (chunks_exact_size (enumerate_source l.row-iterator)) (chunks_exact_rest (enumerate_source l.row-iterator));
    }
