-- Guarded and limited runs beside the runs as they were.
use Rattle.std.proofs.Common.{◌≡◌, ℕ, zero, suc, List, Some, None, Option, refl, inl, inr, arith}
use Rattle.runs.specs.Guards.{unless, guarded, as_it_ends, limited, Guarded, Limited, GuardsOnlyBreak, LimitsOnlyBreak}
use Rattle.runs.specs.Invariants.{Kept, Holds}
use Rattle.runs.specs.Machine.{Outcome, Next, Done, Failed, Machine}
use Rattle.runs.specs.Runs.{Run, Rest, Broken, go_on, more, after}
use Rattle.runs.proofs.Invariants.{run_keeps}
use Rattle.runs.proofs.Runs.{steps_on}

module _ {S F R : Type 0} (m : Machine S F R) (refused : S → Option F) (start : S) where
  go_guarded : (n : ℕ) (s : S) (told : List R) (outcome : Outcome S F) (refusal : Option F)
      → after (guarded refused m) start n ≡ Rest s told → after m start n ≡ Rest s told → m.next s ≡ outcome → refused s ≡ refusal
      → Guarded m start (suc n) refused (go_on (guarded refused m) s told (unless refusal outcome))
  go_guarded n s told (Next t) None g h e q = steps_on m start n s told (Next t) h e
  go_guarded n s told (Next t) (Some f) g h e q = (n, s, omega arith, g, h, inl q)
  go_guarded n s told Done None g h e q = steps_on m start n s told Done h e
  go_guarded n s told Done (Some f) g h e q = steps_on m start n s told Done h e
  go_guarded n s told (Failed f) None g h e q = (n, s, omega arith, g, h, inr (q, e))
  go_guarded n s told (Failed f) (Some e') g h e q = (n, s, omega arith, g, h, inl q)

  more_guarded : (n : ℕ) (run : Run S F R) → after (guarded refused m) start n ≡ run → Guarded m start n refused run
      → Guarded m start (suc n) refused (more (guarded refused m) run)
  more_guarded n (Rest s told) g h = go_guarded n s told (m.next s) (refused s) g h refl refl
  more_guarded n (Broken f told) g (k, s, l, rested, h, why) = (k, s, omega arith, rested, h, why)

  run_guarded : (n : ℕ) → Guarded m start n refused (after (guarded refused m) start n)
  run_guarded zero = refl
  run_guarded (suc n) = more_guarded n (after (guarded refused m) start n) refl (run_guarded n)

pub guards_only_break : (S F R : Type 0) → GuardsOnlyBreak S F R
guards_only_break S F R m refused start n = run_guarded m refused start n

module _ {S F R : Type 0} (m : Machine S F R) (full : S → Option F) where
  abbrev Within : S → Type 0
  Within s = full s ≡ None

  arrives_within : (t : S) (refusal : Option F) → full t ≡ refusal → Kept Within (unless refusal (Next t))
  arrives_within t None e = e
  arrives_within t (Some f) e = tt

  steps_within : (outcome : Outcome S F) → Kept Within (unless (as_it_ends full outcome) outcome)
  steps_within (Next t) = arrives_within t (full t) refl
  steps_within Done = tt
  steps_within (Failed f) = tt

  beyond : (outcome : Outcome S F) (f : F) → as_it_ends full outcome ≡ Some f → (t : S) × (outcome ≡ Next t) × (full t ≡ Some f)
  beyond (Next t) f e = (t, refl, e)
  beyond Done f e = absurd (grind arith)
  beyond (Failed g) f e = absurd (grind arith)

  run_limited : (start : S) (n : ℕ) (run : Run S F R) → Guarded m start n (λ s. as_it_ends full (m.next s)) run → (Within start → Holds Within run)
      → Limited m start n full run
  run_limited start n (Rest s told) h within = (h, within)
  run_limited start n (Broken f told) (k, s, l, rested, h, inl q) within = (k, s, l, rested, h, inl (beyond (m.next s) f q))
  run_limited start n (Broken f told) (k, s, l, rested, h, inr (q, e)) within = (k, s, l, rested, h, inr e)

pub limits_only_break : (S F R : Type 0) → LimitsOnlyBreak S F R
limits_only_break S F R m full start n =
    run_limited m full start n (after (limited full m) start n) (guards_only_break S F R m (λ s. as_it_ends full (m.next s)) start n)
    (λ within. run_keeps (Within m full) (limited full m) (λ s _. steps_within m full (m.next s)) start within n)
