-- Steps in a row.
use Rattle.std.proofs.Common.{◌≡◌, ℕ, zero, suc, ◌+◌, List, [], ◌∷◌, ◌++◌, Some, None, Option, sym, refl, ap, ◌∙◌, add-zero, add-suc}
use Rattle.std.proofs.lemmas.List.{append-nil, append_assoc}
use Rattle.runs.specs.Machine.{Outcome, Next, Done, Failed, Machine}
use Rattle.runs.specs.Runs.{Run, Rest, Broken, also, go_on, more, onward, after, told_before, TwoRunsAreOne}

module _ {S F R : Type 0} (m : Machine S F R) where
  -- the step after n, where the run rests at s
  pub steps_on : (start : S) (n : ℕ) (s : S) (told : List R) (outcome : Outcome S F) → after m start n ≡ Rest s told → m.next s ≡ outcome
      → after m start (suc n) ≡ go_on m s told outcome
  steps_on start n s told outcome h e = ap (more m) h ∙ ap (go_on m s told) e

  pub onward-add : (i n : ℕ) (run : Run S F R) → onward m n (onward m i run) ≡ onward m (i + n) run
  onward-add i zero run = rw add-zero refl
  onward-add i (suc n) run = rw add-suc (ap (more m) (onward-add i n run))

  also_before : (past told : List R) (r : Option R) → also (past ++ told) r ≡ past ++ also told r
  also_before past told None = refl
  also_before past told (Some r) = append_assoc past told (r ∷ [])

  go_before : (past told : List R) (s : S) (outcome : Outcome S F) → go_on m s (past ++ told) outcome ≡ told_before past (go_on m s told outcome)
  go_before past told s (Next t) = ap (Rest t) (also_before past told (m.report t))
  go_before past told s Done = refl
  go_before past told s (Failed f) = refl

  more_before : (past : List R) (run : Run S F R) → more m (told_before past run) ≡ told_before past (more m run)
  more_before past (Rest s told) = go_before past told s (m.next s)
  more_before past (Broken f told) = refl

  onward_before : (past : List R) (n : ℕ) (run : Run S F R) → onward m n (told_before past run) ≡ told_before past (onward m n run)
  onward_before past zero run = refl
  onward_before past (suc n) run = ap (more m) (onward_before past n run) ∙ more_before past (onward m n run)

  afresh : (start : S) (i n : ℕ) (s : S) (told : List R) → after m start i ≡ Rest s told → after m start (i + n) ≡ told_before told (after m s n)
  afresh start i n s told h =
      sym (onward-add i n (Rest start [])) ∙ ap (onward m n) (h ∙ ap (Rest s) (sym (append-nil told))) ∙ onward_before told n (Rest s [])

pub two_runs_are_one : (S F R : Type 0) → TwoRunsAreOne S F R
two_runs_are_one S F R m start i n = (onward-add m i n (Rest start []), afresh m start i n)
