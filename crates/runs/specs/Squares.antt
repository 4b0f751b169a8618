-- One machine is carried to another by a function on states when a step and then the function is the function and then a step:
-- a commuting square. It need commute only where some invariant holds. Their runs are then carried too, step by step.
use Rattle.std.specs.Prelude.{◌≡◌, ℕ, ⊤}
use Rattle.runs.specs.Invariants.{Invariant}
use Rattle.runs.specs.Machine.{Outcome, Next, Done, Failed, Machine}
use Rattle.runs.specs.Runs.{Run, Rest, Broken, after}

abbrev pub map_outcome : {S T F : Type 0} → (S → T) → Outcome S F → Outcome T F
map_outcome f (Next s) = Next (f s)
map_outcome f Done = Done
map_outcome f (Failed e) = Failed e

abbrev pub map_run : {S T F R : Type 0} → (S → T) → Run S F R → Run T F R
map_run f (Rest s told) = Rest (f s) told
map_run f (Broken e told) = Broken e told

-- the square commutes at the states of which P holds
pub record Commutes {S T F R : Type 0} (P : S → Type 0) (m : Machine S F R) (l : Machine T F R) (f : S → T) : Type 0 where
  pub steps : (s : S) → P s → l.next (f s) ≡ map_outcome f (m.next s)
  pub reports : (s : S) → P s → l.report (f s) ≡ m.report s

abbrev pub Anywhere : {S : Type 0} → S → Type 0
Anywhere s = ⊤

abbrev pub CarriesOver : (S T F R : Type 0) → Type 0
CarriesOver S T F R =
    (m : Machine S F R) (l : Machine T F R) (f : S → T) → Commutes Anywhere m l f → (start : S) (n : ℕ)
    → after l (f start) n ≡ map_run f (after m start n)

abbrev pub CarriesOverWhere : {S : Type 0} → (S → Type 0) → (T F R : Type 0) → Type 0
CarriesOverWhere {S} P T F R =
    (m : Machine S F R) (l : Machine T F R) (f : S → T) → Invariant P m → Commutes P m l f → (start : S) → P start → (n : ℕ)
    → after l (f start) n ≡ map_run f (after m start n)
