-- A counting machine beside the machine itself.
use Rattle.std.proofs.Common.{◌≡◌, ℕ, zero, suc, List, refl, ap, arith}
use Rattle.runs.specs.Counting.{counting, Counted, CountsItsSteps}
use Rattle.runs.specs.Machine.{Outcome, Next, Done, Failed, Machine}
use Rattle.runs.specs.Runs.{Run, Rest, Broken, go_on, more, after}
use Rattle.runs.specs.Squares.{map_outcome}
use Rattle.runs.proofs.Over.{next_not_done}
use Rattle.runs.proofs.Runs.{steps_on}

module _ {S F R : Type 0} (m : Machine S F R) (start : S) where
  go_counted : (n k : ℕ) (s : S) (told : List R) (outcome : Outcome S F) → Counted m start n (Rest (s, k) told) → m.next s ≡ outcome
      → Counted m start (suc n) (go_on (counting m) (s, k) told (map_outcome (λ t. (t, suc k)) outcome))
  go_counted n k s told (Next t) (h, most, over) e =
      (steps_on m start n s told (Next t) h e, omega arith, λ l. absurd (next_not_done (m.next s) t e (over (omega arith))))
  go_counted n k s told Done (h, most, over) e = (steps_on m start n s told Done h e, omega arith, λ _. e)
  go_counted n k s told (Failed f) (h, most, over) e = steps_on m start n s told (Failed f) h e

  more_counted : (n : ℕ) (run : Run (S × ℕ) F R) → Counted m start n run → Counted m start (suc n) (more (counting m) run)
  more_counted n (Rest (s, k) told) h = go_counted n k s told (m.next s) h refl
  more_counted n (Broken f told) h = ap (more m) h

  run_counted : (n : ℕ) → Counted m start n (after (counting m) (start, 0) n)
  run_counted zero = (refl, omega arith, λ l. absurd (omega arith))
  run_counted (suc n) = more_counted n (after (counting m) (start, 0) n) (run_counted n)

pub counts_its_steps : (S F R : Type 0) → CountsItsSteps S F R
counts_its_steps S F R m start n = run_counted m start n
