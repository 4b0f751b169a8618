use Rattle.runs.proofs.Runs.{two_runs_are_one}
use Rattle.runs.proofs.laws.two_runs_are_one.Goals as goal

pub returns : goal.returns
returns g c = two_runs_are_one _ _ _
