use Rattle.runs.proofs.Walks.{ended_stays}
use Rattle.runs.proofs.laws.ended_stays.Goals as goal

pub returns : goal.returns
returns g c = ended_stays _ _ _
