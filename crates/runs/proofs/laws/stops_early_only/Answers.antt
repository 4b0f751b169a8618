use Rattle.runs.proofs.Walks.{stops_early_only}
use Rattle.runs.proofs.laws.stops_early_only.Goals as goal

pub returns : goal.returns
returns g c = stops_early_only _ _ _
