-- The four laws of a list that a sequence was entered into, together.
use Rattle.std.proofs.Common.{◌≡◌, Bool, List, subst}
use Rattle.first_wins.specs.Keys.{Equivalence}
use Rattle.first_wins.specs.Entering.{entered_all}
use Rattle.first_wins.specs.Laws.{EarliestOfAll, OnceEach, NothingTwice, InARow}
use Rattle.first_wins.proofs.Once.{once_each}
use Rattle.first_wins.proofs.Wins.{earliest_of_all, nothing_twice, in_a_row}

module _ {X : Type 0} (same : X → X → Bool) (lawful : Equivalence same) (before ys : List X) where
  pub record Lawful (after : List X) : Type 0 where
    pub earliest : EarliestOfAll same before ys after
    pub once : OnceEach same before ys after
    pub again : NothingTwice same before ys after
    pub row : InARow same before ys after

  pub laws_hold : (after : List X) → entered_all same before ys ≡ after → Lawful after
  laws_hold after all =
      subst Lawful all (
      record {
        earliest = earliest_of_all same lawful.transitive before ys;
        once = once_each same lawful before ys;
        again = nothing_twice same lawful.reflexive before ys;
        row = in_a_row same before ys;
      }
      )
