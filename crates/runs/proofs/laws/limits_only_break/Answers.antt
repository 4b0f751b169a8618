use Rattle.runs.proofs.Guards.{limits_only_break}
use Rattle.runs.proofs.laws.limits_only_break.Goals as goal

pub returns : goal.returns
returns g c = limits_only_break _ _ _
