use Rattle.runs.proofs.Over.{stays_over}
use Rattle.runs.proofs.laws.stays_over.Goals as goal

pub returns : goal.returns
returns g c = stays_over _ _ _
