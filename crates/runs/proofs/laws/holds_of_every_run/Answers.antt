use Rattle.runs.proofs.Invariants.{holds_of_every_run}
use Rattle.runs.proofs.laws.holds_of_every_run.Goals as goal

pub returns : goal.returns
returns g c = holds_of_every_run (g.C.Claim.holds c.args.claim.now) _ _
