-- The steps of a loop that looks for the first refusal.
use Rattle.std.proofs.Common.{◌≡◌, ℕ, zero, suc, ◌+◌, ◌-◌, ◌<◌, Some, None, Option, add-zero, add-suc, add-one, arith}
use Rattle.tables.specs.First.{first}

module _ {R : Type 0} (f : ℕ → Option R) where
  -- one more that is not refused
  pub first_more : (i : ℕ) → first f i ≡ None → f i ≡ None → first f (i + 1) ≡ None
  first_more i a b = rw (add-one, a) b

  stays : (m k : ℕ) (e : R) → first f m ≡ Some e → first f (m + k) ≡ Some e
  stays m zero e h = rw add-zero h
  stays m (suc k) e h = rw (add-suc, stays m k e h)

  -- the one that is refused, where none before it is
  pub first_found : (i n : ℕ) (e : R) → i < n → first f i ≡ None → f i ≡ Some e → first f n ≡ Some e
  first_found i n e l a b =
      let here : first f (suc i) ≡ Some e = rw a b in
      let sum : suc i + (n - suc i) ≡ n = omega arith in
      rw sum at (stays (suc i) (n - suc i) e here)
