-- Runs that are over.
use Rattle.std.proofs.Common.{◌≡◌, ℕ, zero, suc, ◌+◌, ◌-◌, ◌<◌, ◌≤◌, ◌⊎◌, [], sym, refl, ap, ◌∙◌, subst, inl, inr, arith}
use Rattle.std.proofs.lemmas.Bool.{cases_order}
use Rattle.runs.specs.Machine.{Outcome, Next, Done, Failed, Machine}
use Rattle.runs.specs.Over.{Over, FirstOver, StaysOver, OneCount}
use Rattle.runs.specs.Runs.{Run, Rest, Broken, go_on, more, onward, after}
use Rattle.runs.proofs.Runs.{onward-add}

pub next_not_done : {S F : Type 0} (outcome : Outcome S F) (t : S) → outcome ≡ Next t → outcome ≡ Done → ⊥
next_not_done outcome t e d = absurd (grind arith)

pub failed_not_done : {S F : Type 0} (outcome : Outcome S F) (f : F) → outcome ≡ Failed f → outcome ≡ Done → ⊥
failed_not_done outcome f e d = absurd (grind arith)

is_done_or_not : {S F : Type 0} (outcome : Outcome S F) → (outcome ≡ Done) ⊎ (outcome ≡ Done → ⊥)
is_done_or_not (Next t) = inr (next_not_done (Next t) t refl)
is_done_or_not Done = inl refl
is_done_or_not (Failed f) = inr (failed_not_done (Failed f) f refl)

module _ {S F R : Type 0} (m : Machine S F R) where
  over_or_not : (run : Run S F R) → Over m run ⊎ (Over m run → ⊥)
  over_or_not (Rest s told) = is_done_or_not (m.next s)
  over_or_not (Broken f told) = inl tt

  more_over : (run : Run S F R) → Over m run → more m run ≡ run
  more_over (Rest s told) d = ap (go_on m s told) d
  more_over (Broken f told) d = refl

  onward_over : (run : Run S F R) → Over m run → (n : ℕ) → onward m n run ≡ run
  onward_over run d zero = refl
  onward_over run d (suc n) = ap (more m) (onward_over run d n) ∙ more_over run d

  module _ (start : S) where
    pub stays : (n : ℕ) → Over m (after m start n) → (k : ℕ) → after m start (n + k) ≡ after m start n
    stays n d k = sym (onward-add m n k (Rest start [])) ∙ onward_over (after m start n) d k

    -- a run that goes on after n steps was not over before
    pub not_over_before : (n : ℕ) → (Over m (after m start n) → ⊥) → (k : ℕ) → k < suc n → Over m (after m start k) → ⊥
    not_over_before n goes k l d =
        let same : k + (n - k) ≡ n = omega arith in
        goes (subst (λ i. Over m (after m start i)) same (subst (Over m) (sym (stays k d (n - k))) d))

    one : (i n : ℕ) → FirstOver m start i → FirstOver m start n → i ≡ n
    one i n a b =
        elim (cases_order i n) [
          | inl e ↦ e
          | inr d ↦ elim d [ inl l ↦ absurd (b.not_before i l a.over) | inr l ↦ absurd (a.not_before n l b.over) ]
        ]

    abbrev Found : ℕ → Type 0
    Found n = (k : ℕ) × (k ≤ n) × FirstOver m start k

    found : (n : ℕ) → Found n ⊎ (Over m (after m start n) → ⊥)
    found zero =
        elim (over_or_not (after m start 0)) [
          | inl d ↦ inl (0, omega arith, record { over = d; not_before = λ k l. absurd (omega arith) })
          | inr goes ↦ inr goes
        ]
    found (suc n) =
        elim (found n) [
          | inl h ↦ inl (h.0, omega arith, h.2)
          | inr goes ↦
              elim (over_or_not (after m start (suc n))) [
                | inl d ↦ inl (suc n, omega arith, record { over = d; not_before = not_over_before n goes })
                | inr still ↦ inr still
              ]
        ]

    counted : (n : ℕ) → Over m (after m start n) → Found n
    counted n d = elim (found n) [ inl h ↦ h | inr goes ↦ absurd (goes d) ]

pub stays_over : (S F R : Type 0) → StaysOver S F R
stays_over S F R m start n d k = stays m start n d k

pub one_count : (S F R : Type 0) → OneCount S F R
one_count S F R m start = (one m start, counted m start)
