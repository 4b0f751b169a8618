-- When two entries have one key is a test on them, `same`. It has to be an equivalence: then an entry stands
-- for all that have its key, and it does not matter with which of them another is compared.
use Rattle.std.specs.Prelude.{◌≡◌, ℕ, ◌<◌, Bool, true, false, List, length, take, Some, None, Option}
use Rattle.std.specs.List.{HoldsAt, list_any}

pub record Equivalence {X : Type 0} (same : X → X → Bool) : Type 0 where
  pub reflexive : (a : X) → same a a ≡ true
  pub symmetric : (a b : X) → same a b ≡ true → same b a ≡ true
  pub transitive : (a b c : X) → same a b ≡ true → same b c ≡ true → same a c ≡ true

-- some entry of the list has the key of x
abbrev pub known : {X : Type 0} → (X → X → Bool) → List X → X → Bool
known same xs x = list_any (λ y. same y x) xs

-- where the first entry with the key of x stands, or that there is none
abbrev pub FirstAt : {X : Type 0} → (X → X → Bool) → List X → X → Option ℕ → Type 0
FirstAt same xs x (Some i) = (i < length xs) × HoldsAt (λ y. same y x ≡ true) xs i × (known same (take i xs) x ≡ false)
FirstAt same xs x None = known same xs x ≡ false
