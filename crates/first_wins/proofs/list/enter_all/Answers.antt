use Rattle.std.proofs.Common.{rules, take, arith}
use Rattle.std.proofs.lemmas.Grind.{common_steps}
use Rattle.first_wins.proofs.Lawful.{laws_hold}
use Rattle.first_wins.proofs.Sequences.{growing_ends, growing_known, growing_new}
use Rattle.first_wins.proofs.list.enter_all.Goals as goal
use Rattle.first_wins.proofs.list.enter_all.Goals.{in-Known, in-New}

pub loop-index-preserved : goal.loop-index-preserved
loop-index-preserved g c =
    let same = g.K.Keys.same c.args.keys.now in
    let grows = c.loop-index.invariant.grows in
    let more = c.loop-index-test.true in
    let here = c.index-sequence-index.is in
    elim c.match-enter.branch [
      | in-Known w ↦
          let told = w.in-Known.ensures in
          let next = growing_known same _ _ _ _ _ _ grows c.index-sequence-index.result more here c.enter.new.slice told.holds told.grown in
          search rules
      | in-New w ↦
          let told = w.in-New.ensures in
          let next = growing_new same _ _ _ _ _ _ grows c.index-sequence-index.result more here _ c.enter.new.slice told.answer told.holds in
          search rules
    ]

-- at the end all of the sequence was entered, so that the laws hold
pub returns : goal.returns
returns g c =
    let same = g.K.Keys.same c.args.keys.now in
    let laws = laws_hold same (g.K.Keys.lawful c.args.keys.now) (take c.args.len c.args.slice.now) c.args.sequence.now _ (growing_ends same _ _ _ _ _ _ c.loop-index.invariant.grows c.loop-index-test.false) in
    grind (arith, common_steps)
