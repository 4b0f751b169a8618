use Rattle.std.proofs.Common.{rules}
use Rattle.unit.specs.Bytes.{bytes_of}
use Rattle.unit.specs.Verdict.{verdict}
use Rattle.unit.proofs.Exact.{accepted_exactly}
use Rattle.unit.proofs.Order.{refused_first}
use Rattle.unit.proofs.table_checks.Tables+ref+slice+u8.check.Goals as goal

pub returns-in_err-check_sizes : goal.returns-in_err-check_sizes
unfolding verdict
returns-in_err-check_sizes c = let b = bytes_of c.args.self.now in record { answer = search rules; exactly = accepted_exactly b; first = refused_first b }

pub returns : goal.returns
unfolding verdict
returns c = let b = bytes_of c.args.self.now in record { answer = search rules; exactly = accepted_exactly b; first = refused_first b }
