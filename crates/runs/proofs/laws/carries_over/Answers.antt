use Rattle.runs.proofs.Squares.{carries_over}
use Rattle.runs.proofs.laws.carries_over.Goals as goal

pub returns : goal.returns
returns g c = carries_over _ _ _ _
