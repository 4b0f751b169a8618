use Rattle.runs.proofs.Counting.{counts_its_steps}
use Rattle.runs.proofs.laws.counts_its_steps.Goals as goal

pub returns : goal.returns
returns g c = counts_its_steps _ _ _
