use Rattle.first_wins.proofs.Pinned.{answers_are_pinned}
use Rattle.first_wins.proofs.laws.answers_are_pinned.Goals as goal

pub returns : goal.returns
returns g c = answers_are_pinned _
