-- Runs are carried over as their steps are.
use Rattle.std.proofs.Common.{◌≡◌, ℕ, zero, suc, List, refl, ap, ◌∙◌}
use Rattle.runs.specs.Invariants.{Kept, Holds, Invariant}
use Rattle.runs.specs.Machine.{Outcome, Next, Done, Failed, Machine}
use Rattle.runs.specs.Runs.{Run, Rest, Broken, also, go_on, more, after}
use Rattle.runs.specs.Squares.{map_outcome, map_run, Commutes, Anywhere, CarriesOver, CarriesOverWhere}
use Rattle.runs.proofs.Invariants.{run_keeps}

module _ {S T F R : Type 0} (P : S → Type 0) (m : Machine S F R) (l : Machine T F R) (f : S → T) (keeps : Invariant P m) (commutes : Commutes P m l f) where
  go_carries : (s : S) (told : List R) (outcome : Outcome S F) → Kept P outcome → go_on l (f s) told (map_outcome f outcome) ≡ map_run f (go_on m s told outcome)
  go_carries s told (Next t) k = ap (λ r. Rest (f t) (also told r)) (commutes.reports t k)
  go_carries s told Done k = refl
  go_carries s told (Failed e) k = refl

  more_carries : (run : Run S F R) → Holds P run → more l (map_run f run) ≡ map_run f (more m run)
  more_carries (Rest s told) h = ap (go_on l (f s) told) (commutes.steps s h) ∙ go_carries s told (m.next s) (keeps s h)
  more_carries (Broken e told) h = refl

  run_carries : (start : S) → P start → (n : ℕ) → after l (f start) n ≡ map_run f (after m start n)
  run_carries start h zero = refl
  run_carries start h (suc n) = ap (more l) (run_carries start h n) ∙ more_carries (after m start n) (run_keeps P m keeps start h n)

pub carries_over_where : {S : Type 0} (P : S → Type 0) (T F R : Type 0) → CarriesOverWhere P T F R
carries_over_where P T F R m l f keeps commutes start h n = run_carries P m l f keeps commutes start h n

anywhere_kept : {S F : Type 0} (outcome : Outcome S F) → Kept Anywhere outcome
anywhere_kept (Next t) = tt
anywhere_kept Done = tt
anywhere_kept (Failed f) = tt

pub carries_over : (S T F R : Type 0) → CarriesOver S T F R
carries_over S T F R m l f commutes start n = run_carries Anywhere m l f (λ s _. anywhere_kept (m.next s)) commutes start tt n
