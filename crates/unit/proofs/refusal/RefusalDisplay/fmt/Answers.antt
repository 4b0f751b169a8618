use Rattle.std.proofs.Common.{◌≡◌, ℕ, ◌++◌, codes, decimal, append-nil, arith}
use Rattle.std.proofs.lemmas.Fmt.{decimal_digit}
use Rattle.unit.specs.Told.{refusal_text}
use Rattle.unit.specs.Format.{number}
use Rattle.unit.specs.declared.refusal.Refusal.TheVariants.{Size, Outside, Unknown}
use Rattle.unit.specs.declared.table.Table.{Table}
use Rattle.unit.proofs.refusal.RefusalDisplay.fmt.Goals as goal

size_text : (table : Table) → refusal_text (Size table) ≡ codes "refused 1, table " ++ decimal (number table)
size_text table = rw (decimal_digit 1 (omega arith), append-nil (decimal (number table)))

outside_text : (table : Table) (row : ℕ)
    → refusal_text (Outside table row) ≡ codes "refused 2, table " ++ (decimal (number table) ++ (codes ", row " ++ decimal row))
outside_text table row = rw (decimal_digit 2 (omega arith), append-nil (decimal row))

unknown_text : (table : Table) (row : ℕ)
    → refusal_text (Unknown table row) ≡ codes "refused 3, table " ++ (decimal (number table) ++ (codes ", row " ++ decimal row))
unknown_text table row = rw (decimal_digit 3 (omega arith), append-nil (decimal row))

pub returns-in-Size-clause-writes : goal.returns-in-Size-clause-writes
returns-in-Size-clause-writes g c = rw (c.in-Size.is, size_text c.in-Size.table, ← c.number.ensures) c.write.ensures.writes

pub returns-in-Outside-clause-writes : goal.returns-in-Outside-clause-writes
returns-in-Outside-clause-writes g c =
    rw (c.in-Outside.is, outside_text c.in-Outside.table c.in-Outside.row, ← c.number-in-Outside.ensures)
    c.write-in-Outside.ensures.writes

pub returns-in-Unknown-clause-writes : goal.returns-in-Unknown-clause-writes
returns-in-Unknown-clause-writes g c =
    rw (c.in-Unknown.is, unknown_text c.in-Unknown.table c.in-Unknown.row, ← c.number-in-Unknown.ensures)
    c.write-in-Unknown.ensures.writes
