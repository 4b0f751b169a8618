-- Entering in a row, entering twice, and the earliest entries. Each section asks for the part of the equivalence that it uses.
use Rattle.std.proofs.Common.{◌≡◌, Bool, true, false, ◌||◌, List, [], ◌∷◌, ◌++◌, slice_index_or, sym, refl, ap, ◌∙◌}
use mathlib.Core.Bool.{or-false}
use Rattle.std.proofs.lemmas.List.Elements.{All-nil, All-cons, All-head, All-tail, All-append, All-weaker, All-contains}
use Rattle.std.proofs.lemmas.List.Sums.{fold-append}
use Rattle.std.proofs.lemmas.List.{append-nil, append_assoc}
use Rattle.std.proofs.lemmas.List.Folds.{list_any_at}
use Rattle.std.proofs.lemmas.Bool.{or_left, or_right}
use Rattle.std.specs.Prelude.{if◌then◌else◌, All, Contains}
use Rattle.first_wins.specs.Keys.{known}
use Rattle.first_wins.specs.Entering.{entered, entered_all}
use Rattle.first_wins.specs.Earliest.{earliest_after, earliest}
use Rattle.first_wins.specs.Laws.{EarliestOfAll, NothingTwice, InARow}
use Rattle.first_wins.proofs.Known.{known-push, known_like}

module _ {X : Type 0} (same : X → X → Bool) where
  -- what was known stays known
  known-entered : (xs : List X) (y z : X) → known same xs z ≡ true → known same (entered same xs y) z ≡ true
  known-entered xs y z k = go (known same xs y)
    where
      go : (t : Bool) → known same (if t then xs else xs ++ y ∷ []) z ≡ true
      go true = k
      go false = known-push same xs y z ∙ or_left (known same xs z) (same y z) k

  known-entered_all : (xs ys : List X) (z : X) → known same xs z ≡ true → known same (entered_all same xs ys) z ≡ true
  known-entered_all xs [] z k = k
  known-entered_all xs (y ∷ ys) z k = known-entered_all (entered same xs y) ys z (known-entered xs y z k)

  -- In a row: nothing is asked of the test.
  pub in_a_row : (before ys : List X) → InARow same before ys (entered_all same before ys)
  in_a_row before ys start past e = ap (λ l. entered_all same l ys) e ∙ sym (fold-append (entered same) start past ys)

  entered-known : (xs ys : List X) → All (λ y. known same xs y ≡ true) ys → entered_all same xs ys ≡ xs
  entered-known xs [] h = refl
  entered-known xs (y ∷ ys) h =
      let k : known same xs y ≡ true = All-head (λ z. known same xs z ≡ true) y ys h in
      simp k (entered-known xs ys (All-tail (λ z. known same xs z ≡ true) y ys h))

  module _ (reflexive : (a : X) → same a a ≡ true) where
    knows_itself : (xs : List X) → All (λ x. known same xs x ≡ true) xs
    knows_itself xs k d inside = list_any_at (λ y. same y (slice_index_or xs k d)) xs k d inside (reflexive (slice_index_or xs k d))

    known_new : (xs : List X) (y : X) → known same (entered same xs y) y ≡ true
    known_new xs y = go (known same xs y) refl
      where
        go : (t : Bool) → known same xs y ≡ t → known same (if t then xs else xs ++ y ∷ []) y ≡ true
        go true k = k
        go false k = known-push same xs y y ∙ or_right (known same xs y) (same y y) (reflexive y)

    knows_all : (xs ys : List X) → All (λ y. known same (entered_all same xs ys) y ≡ true) ys
    knows_all xs [] = All-nil (λ y. known same xs y ≡ true)
    knows_all xs (y ∷ ys) =
        All-cons (λ z. known same (entered_all same xs (y ∷ ys)) z ≡ true) y ys
        (known-entered_all (entered same xs y) ys y (known_new xs y)) (knows_all (entered same xs y) ys)

    pub nothing_twice : (before ys : List X) → NothingTwice same before ys (entered_all same before ys)
    nothing_twice before ys again h =
        let after = entered_all same before ys in
        let there : All (λ y. known same (entered_all same before ys) y ≡ true) (before ++ ys) =
        All-append (λ y. known same after y ≡ true) before ys
        (All-weaker (λ y. known same before y ≡ true) (λ y. known same after y ≡ true) (λ y k. known-entered_all before ys y k) before (knows_itself before))
        (knows_all before ys) in
        entered-known after again
        (All-weaker (Contains (before ++ ys)) (λ y. known same after y ≡ true) (λ y k. All-contains (λ z. known same after z ≡ true) (before ++ ys) y there k) again h)

  module _ (transitive : (a b c : X) → same a b ≡ true → same b c ≡ true → same a c ≡ true) where
    -- a list that knows what the past knows
    abbrev Alike : List X → List X → Type 0
    Alike xs past = (z : X) → known same xs z ≡ known same past z

    alike_known : (xs past : List X) (x : X) → Alike xs past → known same past x ≡ true → Alike xs (past ++ x ∷ [])
    alike_known xs past x h k z = h z ∙ sym (known-push same past x z ∙ again (same x z) refl)
      where
        again : (t : Bool) → same x z ≡ t → (known same past z || t) ≡ known same past z
        again true q = let n = known_like same transitive past x z k q in simp n
        again false q = or-false (known same past z)

    alike_new : (xs past : List X) (x : X) → Alike xs past → Alike (xs ++ x ∷ []) (past ++ x ∷ [])
    alike_new xs past x h z = known-push same xs x z ∙ ap (λ t. t || same x z) (h z) ∙ sym (known-push same past x z)

    entered_after : (xs past ys : List X) → Alike xs past → entered_all same xs ys ≡ xs ++ earliest_after same past ys
    entered_after xs past [] h = sym (append-nil xs)
    entered_after xs past (y ∷ ys) h = go (known same past y) refl (λ ks. entered_after ks (past ++ y ∷ []) ys)
      where
        go : (t : Bool) → known same past y ≡ t
            → ((ks : List X) → Alike ks (past ++ y ∷ []) → entered_all same ks ys ≡ ks ++ earliest_after same (past ++ y ∷ []) ys)
            → entered_all same xs (y ∷ ys) ≡ xs ++ earliest_after same past (y ∷ ys)
        go true e rest = let k : known same xs y ≡ true = h y ∙ e in simp (k, e) (rest xs (alike_known xs past y h e))
        go false e rest =
            let k : known same xs y ≡ false = h y ∙ e in
            simp (k, e) (rest (xs ++ y ∷ []) (alike_new xs past y h) ∙ append_assoc xs (y ∷ []) (earliest_after same (past ++ y ∷ []) ys))

    entered-earliest : (ys : List X) → entered_all same [] ys ≡ earliest same ys
    entered-earliest ys = entered_after [] [] ys (λ z. refl)

    pub earliest_of_all : (before ys : List X) → EarliestOfAll same before ys (entered_all same before ys)
    earliest_of_all before ys past e = in_a_row before ys [] past (e ∙ sym (entered-earliest past)) ∙ entered-earliest (past ++ ys)
