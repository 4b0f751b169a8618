-- A guard refuses steps: at some states the step is not taken and the machine fails instead. Where no step is to be taken none is
-- refused. A limit is tried in front of a step, on its state, or as the step ends, on the state that it would leave.
use Rattle.std.specs.Prelude.{◌≡◌, ℕ, ◌<◌, ◌⊎◌, Some, None, Option}
use Rattle.runs.specs.Machine.{Outcome, Next, Done, Failed, Machine}
use Rattle.runs.specs.Runs.{Run, Rest, Broken, after}

abbrev pub unless : {S F : Type 0} → Option F → Outcome S F → Outcome S F
unless None outcome = outcome
unless (Some f) (Next t) = Failed f
unless (Some f) Done = Done
unless (Some f) (Failed e) = Failed f

-- the machine whose steps are refused in front
abbrev pub guarded : {S F R : Type 0} → (S → Option F) → Machine S F R → Machine S F R
guarded refused m = record { next = λ s. unless (refused s) (m.next s); report = m.report }

-- what a limit on states says of a step as it ends
abbrev pub as_it_ends : {S F : Type 0} → (S → Option F) → Outcome S F → Option F
as_it_ends full (Next t) = full t
as_it_ends full Done = None
as_it_ends full (Failed e) = None

-- the machine whose states are limited
abbrev pub limited : {S F R : Type 0} → (S → Option F) → Machine S F R → Machine S F R
limited full m = guarded (λ s. as_it_ends full (m.next s)) m

module _ {S F R : Type 0} (m : Machine S F R) (start : S) (n : ℕ) where
  -- a guarded run that has not broken is the run as it was; one that broke rested, as the run did, where the next step was refused or was
  -- the machine's own fault
  abbrev pub Guarded : (S → Option F) → Run S F R → Type 0
  Guarded refused (Rest s told) = after m start n ≡ Rest s told
  Guarded refused (Broken f told) =
      (k : ℕ) × (s : S) × (k < n) × (after (guarded refused m) start k ≡ Rest s told) × (after m start k ≡ Rest s told)
      × ((refused s ≡ Some f) ⊎ ((refused s ≡ None) × (m.next s ≡ Failed f)))

  -- a limited run that has not broken is the run as it was, within the limit; one that broke rested, as the run did, where the next step went
  -- beyond the limit or was the machine's own fault
  abbrev pub Limited : (S → Option F) → Run S F R → Type 0
  Limited full (Rest s told) = (after m start n ≡ Rest s told) × (full start ≡ None → full s ≡ None)
  Limited full (Broken f told) =
      (k : ℕ) × (s : S) × (k < n) × (after (limited full m) start k ≡ Rest s told) × (after m start k ≡ Rest s told)
      × (((t : S) × (m.next s ≡ Next t) × (full t ≡ Some f)) ⊎ (m.next s ≡ Failed f))

abbrev pub GuardsOnlyBreak : (S F R : Type 0) → Type 0
GuardsOnlyBreak S F R = (m : Machine S F R) (refused : S → Option F) (start : S) (n : ℕ) → Guarded m start n refused (after (guarded refused m) start n)

abbrev pub LimitsOnlyBreak : (S F R : Type 0) → Type 0
LimitsOnlyBreak S F R = (m : Machine S F R) (full : S → Option F) (start : S) (n : ℕ) → Limited m start n full (after (limited full m) start n)
