use Rattle.runs.proofs.Walks.{finished_at_the_count}
use Rattle.runs.proofs.laws.finished_at_the_count.Goals as goal

pub returns : goal.returns
returns g c = finished_at_the_count _ _ _
