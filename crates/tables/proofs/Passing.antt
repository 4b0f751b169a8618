-- What it says that nothing is refused, part by part.
use Rattle.std.proofs.Common.{◌≡◌, ℕ, zero, suc, ◌<◌, ◌≤◌, Bool, true, false, not, nat_eq, nat_lt, nat_le, ◌⊎◌, ◌↔◌, is_some, Some, None, Option, refl, inl, inr, ⊎_elim, arith}
use Rattle.std.specs.Prelude.{⊤}
use Rattle.std.specs.Bool.{then_some}
use Rattle.std.specs.Option.{option_map}
use Rattle.std.proofs.lemmas.Bool.{ltb-false, leb-false, eqb-false, le-ltb, lt-leb, ne_eqb, cases_eq}
use Rattle.tables.specs.First.{◌then◌, first}

-- nothing is refused exactly when P holds
abbrev pub Passes : {R : Type 0} → Option R → Type 0 → Type 0
Passes o P = o ≡ None ↔ P

below : (i n : ℕ) → i < suc n → (i < n) ⊎ (i ≡ n)
below i n h = ⊎_elim (λ e. inr e) (λ d. inl (omega (arith, d))) (cases_eq i n)

module _ {R : Type 0} where
  pub passes_then : (o q : Option R) {P Q : Type 0} → Passes o P → Passes q Q → Passes (o then q) (P × Q)
  passes_then None q p s = (λ e. (p.0 refl, s.0 e), λ h. s.1 h.1)
  passes_then (Some x) q p s = (λ e. absurd (grind arith), λ h. p.1 h.0)

  pub passes_always : Passes {R = R} None ⊤
  passes_always = (λ e. tt, λ h. refl)

  pub passes_mapped : {S : Type 0} (f : R → S) (o : Option R) {P : Type 0} → Passes o P → Passes (option_map f o) P
  passes_mapped f None p = (λ e. p.0 refl, λ h. refl)
  passes_mapped f (Some x) p = (λ e. absurd (grind arith), λ h. let e = p.1 h in absurd (grind arith))

  pub none_from_not : (o : Option R) → not (is_some o) ≡ true → o ≡ None
  none_from_not None e = refl
  none_from_not (Some x) e = absurd (grind arith)

  unless : (bad : Bool) (x : R) → then_some bad x ≡ None → bad ≡ false
  unless true x e = absurd (grind arith)
  unless false x e = refl

  pub passes_le : (a b : ℕ) (x : R) → Passes (then_some (nat_lt a b) x) (b ≤ a)
  passes_le a b x = (λ e. ltb-false a b (unless (nat_lt a b) x e), λ h. rw (le-ltb a b h))

  pub passes_lt : (a b : ℕ) (x : R) → Passes (then_some (nat_le a b) x) (b < a)
  passes_lt a b x = (λ e. leb-false a b (unless (nat_le a b) x e), λ h. rw (lt-leb a b h))

  pub passes_some : (n : ℕ) (x : R) → Passes (then_some (nat_eq n 0) x) (0 < n)
  passes_some n x = (
    λ e. let ne : n ≡ 0 → ⊥ = eqb-false n 0 (unless (nat_eq n 0) x e) in omega (arith, ne),
    λ h. let ne : n ≡ 0 → ⊥ = λ z. omega arith in rw (ne_eqb n 0 ne),
  )

  -- the same in other words
  pub passes_as : {P Q : Type 0} {o : Option R} → Passes o P → (P → Q) → (Q → P) → Passes o Q
  passes_as p f g = (λ e. f (p.0 e), λ q. p.1 (g q))

  pub passes_first : (f : ℕ → Option R) (P : ℕ → Type 0) → ((i : ℕ) → Passes (f i) (P i)) → (n : ℕ)
      → Passes (first f n) ((i : ℕ) → i < n → P i)
  passes_first f P each zero = (λ e i h. absurd (omega arith), λ h. refl)
  passes_first f P each (suc n) =
      let rest = passes_then (first f n) (f n) (passes_first f P each n) (each n) in (
        λ e i h. ⊎_elim (λ q. let l : i < n = omega arith in (rest.0 e).0 i l) (λ q. rw q (rest.0 e).1) (below i n h),
        λ h. rest.1 (λ i l. let m : i < suc n = omega arith in h i m, let m : n < suc n = omega arith in h n m),
      )
