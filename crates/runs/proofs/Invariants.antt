-- An invariant holds of every run.
use Rattle.std.proofs.Common.{ℕ, zero, suc, List}
use Rattle.runs.specs.Invariants.{Kept, Holds, Invariant, HoldsOfEveryRun}
use Rattle.runs.specs.Machine.{Outcome, Next, Done, Failed, Machine}
use Rattle.runs.specs.Runs.{Run, Rest, Broken, go_on, more, after}

module _ {S F R : Type 0} (P : S → Type 0) (m : Machine S F R) (keeps : Invariant P m) where
  go_keeps : (s : S) (told : List R) (outcome : Outcome S F) → P s → Kept P outcome → Holds P (go_on m s told outcome)
  go_keeps s told (Next t) h k = k
  go_keeps s told Done h k = h
  go_keeps s told (Failed f) h k = tt

  more_keeps : (run : Run S F R) → Holds P run → Holds P (more m run)
  more_keeps (Rest s told) h = go_keeps s told (m.next s) h (keeps s h)
  more_keeps (Broken f told) h = tt

  pub run_keeps : (start : S) → P start → (n : ℕ) → Holds P (after m start n)
  run_keeps start h zero = h
  run_keeps start h (suc n) = more_keeps (after m start n) (run_keeps start h n)

pub holds_of_every_run : {S : Type 0} (P : S → Type 0) (F R : Type 0) → HoldsOfEveryRun P F R
holds_of_every_run P F R m keeps start h n = run_keeps P m keeps start h n
