use Rattle.runs.proofs.Squares.{carries_over_where}
use Rattle.runs.proofs.laws.carries_over_where.Goals as goal

pub returns : goal.returns
returns g c = carries_over_where (g.C.Claim.holds c.args.claim.now) _ _ _
