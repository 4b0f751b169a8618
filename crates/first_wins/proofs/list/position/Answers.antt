use Rattle.std.proofs.Common.{rules, ◌≡◌, true, false}
use Rattle.std.proofs.lemmas.Iterator.{YieldsList-from_slice, IsFirst-from_position}
use Rattle.first_wins.proofs.Known.{first_at}
use Rattle.first_wins.proofs.list.position.Goals as goal

-- where the chain ends is where the first entry with the key stands
pub returns : goal.returns
returns g c =
    let same = g.K.Keys.same c.args.keys.now in
    let sought = c.args.sought.now in
    let first =
    first_at same c.args.list.now sought c.position.result
    (IsFirst-from_position _ _ _ (λ y. same y sought ≡ true) (λ y. same y sought ≡ false) c.position.ensures.ran (YieldsList-from_slice c.args.list.now c.iter.ensures.rest) (λ x q k. search rules) (λ x q k. search rules)) in
    search rules
