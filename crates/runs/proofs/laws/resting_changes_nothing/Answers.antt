use Rattle.runs.proofs.Walks.{resting_changes_nothing}
use Rattle.runs.proofs.laws.resting_changes_nothing.Goals as goal

pub returns : goal.returns
returns g c = resting_changes_nothing _ _ _
