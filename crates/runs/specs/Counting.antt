-- Any machine can count its steps: beside the state stands how many were taken. A limit on the number of steps is then a limit on such
-- states, tried in front of a step.
use Rattle.std.specs.Prelude.{◌≡◌, ℕ, suc, ◌<◌, ◌≤◌}
use Rattle.runs.specs.Machine.{Done, Machine}
use Rattle.runs.specs.Runs.{Run, Rest, Broken, after}
use Rattle.runs.specs.Squares.{map_outcome}

abbrev pub counting : {S F R : Type 0} → Machine S F R → Machine (S × ℕ) F R
counting m = record { next = λ p. map_outcome (λ t. (t, suc p.1)) (m.next p.0); report = λ p. m.report p.0 }

-- the run is the same, and the number is that of the steps so far, which stops growing only where the machine is done
abbrev pub Counted : {S F R : Type 0} → Machine S F R → S → ℕ → Run (S × ℕ) F R → Type 0
Counted m start n (Rest p told) = (after m start n ≡ Rest p.0 told) × (p.1 ≤ n) × (p.1 < n → m.next p.0 ≡ Done)
Counted m start n (Broken f told) = after m start n ≡ Broken f told

abbrev pub CountsItsSteps : (S F R : Type 0) → Type 0
CountsItsSteps S F R = (m : Machine S F R) (start : S) (n : ℕ) → Counted m start n (after (counting m) (start, 0) n)
