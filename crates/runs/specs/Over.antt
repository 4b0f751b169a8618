-- A run is over when no step is left to be taken: it rests where the machine is done, or it broke. It stays as it is from then on, and
-- it is over for the first time after one number of steps only, the count of the run.
use Rattle.std.specs.Prelude.{◌≡◌, ℕ, ◌+◌, ◌<◌, ◌≤◌, ⊤}
use Rattle.runs.specs.Machine.{Done, Machine}
use Rattle.runs.specs.Runs.{Run, Rest, Broken, after}

abbrev pub Over : {S F R : Type 0} → Machine S F R → Run S F R → Type 0
Over m (Rest s told) = m.next s ≡ Done
Over m (Broken f told) = ⊤

pub record FirstOver {S F R : Type 0} (m : Machine S F R) (start : S) (n : ℕ) : Type 0 where
  pub over : Over m (after m start n)
  pub not_before : (k : ℕ) → k < n → Over m (after m start k) → ⊥

abbrev pub StaysOver : (S F R : Type 0) → Type 0
StaysOver S F R = (m : Machine S F R) (start : S) (n : ℕ) → Over m (after m start n) → (k : ℕ) → after m start (n + k) ≡ after m start n

-- the count is one number, and a run that is over has one
abbrev pub OneCount : (S F R : Type 0) → Type 0
OneCount S F R =
    (m : Machine S F R) (start : S)
    → ((i n : ℕ) → FirstOver m start i → FirstOver m start n → i ≡ n)
    × ((n : ℕ) → Over m (after m start n) → (k : ℕ) × (k ≤ n) × FirstOver m start k)
