-- Which keys a list knows, as it grows.
use Rattle.std.proofs.Common.{◌≡◌, ℕ, ◌<◌, Bool, true, false, ◌||◌, List, [], ◌∷◌, ◌++◌, length, take, Option, None, Some, arith, ap, ◌∙◌, inl, inr}
use mathlib.Core.Bool.{or-false}
use Rattle.std.proofs.lemmas.List.{get_or-take, length-take}
use Rattle.std.proofs.lemmas.List.Elements.{All-from_all_within}
use Rattle.std.proofs.lemmas.List.Folds.{list_any-append, list_any_at, list_any_none}
use Rattle.std.proofs.lemmas.Bool.{or_cases, or_left, or_right}
use Rattle.std.specs.Prelude.{MatchOption}
use Rattle.std.specs.List.{AllWithin, HoldsAt}
use Rattle.first_wins.specs.Keys.{known, FirstAt}

module _ {X : Type 0} (same : X → X → Bool) where
  -- what a list with one more entry knows
  pub known-push : (xs : List X) (y x : X) → known same (xs ++ y ∷ []) x ≡ (known same xs x || same y x)
  known-push xs y x = list_any-append (λ z. same z x) xs (y ∷ []) ∙ ap (λ t. known same xs x || t) (or-false (same y x))

  -- a list that knows a key knows each that is the same
  pub known_like : ((a b c : X) → same a b ≡ true → same b c ≡ true → same a c ≡ true)
      → (xs : List X) (y z : X) → known same xs y ≡ true → same y z ≡ true → known same xs z ≡ true
  known_like transitive [] y z k e = k
  known_like transitive (x ∷ xs) y z k e =
      elim (or_cases (same x y) (known same xs y) k) [
        | inl h ↦ or_left (same x z) (known same xs z) (transitive x y z h e)
        | inr h ↦ or_right (same x z) (known same xs z) (known_like transitive xs y z h e)
      ]

  -- a list knows the key whose first entry it has
  pub first_known : (xs : List X) (x : X) (i : ℕ) → FirstAt same xs x (Some i) → known same xs x ≡ true
  first_known xs x i (inside, here, before) = list_any_at (λ y. same y x) xs i x inside (here x)

  -- where a search for the key of x ends: no entry before has it
  pub first_at : (xs : List X) (x : X) (r : Option ℕ)
      → MatchOption r (AllWithin (λ y. same y x ≡ false) xs 0 (length xs)) (λ i. (i < length xs) × HoldsAt (λ y. same y x ≡ true) xs i × AllWithin (λ y. same y x ≡ false) xs 0 i)
      → FirstAt same xs x r
  first_at xs x None none = list_any_none (λ y. same y x) xs (All-from_all_within (λ y. same y x ≡ false) xs none)
  first_at xs x (Some i) (inside, here, none) =
      let short = length-take i xs in (
        inside,
        here,
        list_any_none (λ y. same y x) (take i xs) (λ k d low. ap (λ y. same y x) (get_or-take i xs k d (omega arith)) ∙ none k d (omega arith) (omega arith)),
      )
