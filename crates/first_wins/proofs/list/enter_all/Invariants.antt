use Rattle.std.proofs.Common.{take}
use Rattle.std.specs.Prelude.{All}
use Rattle.first_wins.proofs.Sequences.{Growing}
use Rattle.first_wins.proofs.list.enter_all.Given as goal

abbrev pub invariant-loop-index : goal.invariant-loop-index
invariant-loop-index g l =
    record {
      grows : Growing (g.K.Keys.same l.keys) l.initial.slice l.len l.sequence l.index l.used l.slice;
      admitted : All (g.K.Keys.admits l.keys) (take l.used l.slice);
    }
