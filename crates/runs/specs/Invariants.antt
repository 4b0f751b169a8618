-- An invariant is something said of states that every step keeps: if it holds before the step, it holds after. It then holds
-- wherever a run rests that began where it holds.
use Rattle.std.specs.Prelude.{ℕ, ⊤}
use Rattle.runs.specs.Machine.{Outcome, Next, Done, Failed, Machine}
use Rattle.runs.specs.Runs.{Run, Rest, Broken, after}

module _ {S : Type 0} (P : S → Type 0) where
  abbrev pub Kept : {F : Type 0} → Outcome S F → Type 0
  Kept (Next s) = P s
  Kept Done = ⊤
  Kept (Failed f) = ⊤

  abbrev pub Holds : {F R : Type 0} → Run S F R → Type 0
  Holds (Rest s told) = P s
  Holds (Broken f told) = ⊤

  abbrev pub Invariant : {F R : Type 0} → Machine S F R → Type 0
  Invariant m = (s : S) → P s → Kept (m.next s)

  abbrev pub HoldsOfEveryRun : (F R : Type 0) → Type 0
  HoldsOfEveryRun F R = (m : Machine S F R) → Invariant m → (start : S) → P start → (n : ℕ) → Holds (after m start n)
