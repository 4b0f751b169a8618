-- A run is where a machine has come to: it rests at a state, or it broke with a fault. The reports that fell due on the way are
-- told beside, in order; the report of a state is told when a step arrives there.
use Rattle.std.specs.Prelude.{◌≡◌, ℕ, zero, suc, ◌+◌, List, [], ◌∷◌, ◌++◌, Some, None, Option}
use Rattle.runs.specs.Machine.{Outcome, Next, Done, Failed, Machine}

pub data Run (S F R : Type 0) : Type 0 where
  Rest : S → List R → Run S F R
  Broken : F → List R → Run S F R

-- the reports with one more, if there is one
abbrev pub also : {R : Type 0} → List R → Option R → List R
also told None = told
also told (Some r) = told ++ r ∷ []

-- what becomes of a run that rests at s
abbrev pub go_on : {S F R : Type 0} → Machine S F R → S → List R → Outcome S F → Run S F R
go_on m s told (Next t) = Rest t (also told (m.report t))
go_on m s told Done = Rest s told
go_on m s told (Failed f) = Broken f told

-- one step more of a run; one that is done or broke stays
abbrev pub more : {S F R : Type 0} → Machine S F R → Run S F R → Run S F R
more m (Rest s told) = go_on m s told (m.next s)
more m (Broken f told) = Broken f told

-- n steps more of a run
abbrev pub onward : {S F R : Type 0} → Machine S F R → ℕ → Run S F R → Run S F R
onward m zero run = run
onward m (suc n) run = more m (onward m n run)

-- the run after n steps
abbrev pub after : {S F R : Type 0} → Machine S F R → S → ℕ → Run S F R
after m start n = onward m n (Rest start [])

-- a run with reports that were told before it began
abbrev pub told_before : {S F R : Type 0} → List R → Run S F R → Run S F R
told_before past (Rest s told) = Rest s (past ++ told)
told_before past (Broken f told) = Broken f (past ++ told)

-- two runs are one: i steps and then n are i + n, also if the second run begins afresh where the first came to rest
abbrev pub TwoRunsAreOne : (S F R : Type 0) → Type 0
TwoRunsAreOne S F R =
    (m : Machine S F R) (start : S) (i n : ℕ)
    → (onward m n (after m start i) ≡ after m start (i + n))
    × ((s : S) (told : List R) → after m start i ≡ Rest s told → after m start (i + n) ≡ told_before told (after m s n))
