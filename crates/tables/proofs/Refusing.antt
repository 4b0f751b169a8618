-- What it says that something is refused: it is refused itself, and nothing before it is.
use Rattle.std.proofs.Common.{◌≡◌, ℕ, zero, suc, ◌<◌, Bool, true, false, Some, None, Option, refl, arith}
use Rattle.std.specs.Bool.{then_some}
use Rattle.std.specs.Option.{option_map}
use Rattle.tables.specs.First.{◌then◌, first}
use Rattle.tables.proofs.Passing.{Passes, passes_first}

module _ {R G : Type 0} where
  -- the first refusal, or the second where there is no first
  pub then-Some : (o q : Option R) (e : R) → o then q ≡ Some e → (o ≡ Some e → G) → (o ≡ None → q ≡ Some e → G) → G
  then-Some None q e h one two = two refl h
  then-Some (Some x) q e h one two = one h

  pub first_some : (f : ℕ → Option R) (n : ℕ) (e : R) → first f n ≡ Some e
      → ((i : ℕ) → i < n → f i ≡ Some e → ((j : ℕ) → j < i → f j ≡ None) → G) → G
  first_some f zero e h go = absurd (grind arith)
  first_some f (suc n) e h go =
      then-Some (first f n) (f n) e h
      (λ earlier. first_some f n e earlier (λ i l here none. let m : i < suc n = omega arith in go i m here none))
      (λ none here. let m : n < suc n = omega arith in go n m here ((passes_first f (λ i. f i ≡ None) (λ i. (λ x. x, λ x. x)) n).0 none))

  pub mapped_some : {F : Type 0} (tell : F → R) (o : Option F) (e : R) → option_map tell o ≡ Some e
      → ((x : F) → o ≡ Some x → tell x ≡ e → G) → G
  mapped_some tell None e h go = absurd (grind arith)
  mapped_some tell (Some x) e h go = let same : tell x ≡ e = cc in go x refl same

pub when_some : {R : Type 0} (bad : Bool) (x e : R) → then_some bad x ≡ Some e → x ≡ e
when_some true x e h = cc
when_some false x e h = absurd (grind arith)

-- one refusal for two reasons
pub either_some : {R : Type 0} (bad worse : Bool) (x e : R) → then_some bad x then then_some worse x ≡ Some e → x ≡ e
either_some bad worse x e h = then-Some (then_some bad x) (then_some worse x) e h (when_some bad x e) (λ none. when_some worse x e)

-- what is refused does not hold
pub refused_not : {R P : Type 0} (o : Option R) (e : R) → Passes o P → o ≡ Some e → P → ⊥
refused_not o e p h holds = let none = p.1 holds in grind arith
