use Rattle.runs.proofs.Over.{one_count}
use Rattle.runs.proofs.laws.one_count.Goals as goal

pub returns : goal.returns
returns g c = one_count _ _ _
