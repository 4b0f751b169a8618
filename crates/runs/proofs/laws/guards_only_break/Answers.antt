use Rattle.runs.proofs.Guards.{guards_only_break}
use Rattle.runs.proofs.laws.guards_only_break.Goals as goal

pub returns : goal.returns
returns g c = guards_only_break _ _ _
