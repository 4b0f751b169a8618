-- The earliest entries of a sequence are those that have no earlier entry with the same key, in their order.
-- Nothing is said here of a list that grows; that entering a sequence gives its earliest entries is a law.
use Rattle.std.specs.Prelude.{Bool, if◌then◌else◌, List, [], ◌∷◌, ◌++◌}
use Rattle.first_wins.specs.Keys.{known}

-- of a sequence that comes after the entries `past`
abbrev pub earliest_after : {X : Type 0} → (X → X → Bool) → List X → List X → List X
earliest_after same past [] = []
earliest_after same past (x ∷ xs) =
    if known same past x then earliest_after same (past ++ x ∷ []) xs else x ∷ earliest_after same (past ++ x ∷ []) xs

abbrev pub earliest : {X : Type 0} → (X → X → Bool) → List X → List X
earliest same xs = earliest_after same [] xs
