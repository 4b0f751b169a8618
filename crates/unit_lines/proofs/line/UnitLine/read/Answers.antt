use Rattle.unit_lines.proofs.OwnLine.{own_line}
use Rattle.unit_lines.proofs.line.UnitLine.read.Goals as goal

pub returns-then-is_err-clause-own : goal.returns-then-is_err-clause-own
returns-then-is_err-clause-own c = own_line c.args.line.now

pub returns-else-is_err-clause-own : goal.returns-else-is_err-clause-own
returns-else-is_err-clause-own c = own_line c.args.line.now
