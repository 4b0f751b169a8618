-- An entry is entered into a list by standing behind its last entry, unless one with its key is there: the first wins.
-- The list is the front of a slice, so that there may be no room; what stands behind the list is left alone.
use Rattle.std.specs.Prelude.{◌≡◌, ℕ, ◌+◌, ◌<◌, ◌≤◌, Bool, false, if◌then◌else◌, List, [], ◌∷◌, ◌++◌, length, take, drop, fold, Some, Ok, Err, Result, slice_set}
use Rattle.std.specs.List.{HoldsAt}
use Rattle.first_wins.specs.Keys.{known, FirstAt}
use Rattle.first_wins.specs.declared.list.Entered.{Entered}
use Rattle.first_wins.specs.declared.list.Entered.TheVariants.{Known, New, NoRoom}
use Rattle.first_wins.specs.declared.list.Full.{Full}

-- the list with x, where there is room
abbrev pub entered : {X : Type 0} → (X → X → Bool) → List X → X → List X
entered same xs x = if known same xs x then xs else xs ++ x ∷ []

-- the list with the entries of a sequence, one after another, where there is room
abbrev pub entered_all : {X : Type 0} → (X → X → Bool) → List X → List X → List X
entered_all same xs ys = fold (entered same) xs ys

-- when which answer is given, for the first `len` entries of a slice
abbrev pub Answered : {X : Type 0} → (X → X → Bool) → List X → ℕ → X → Entered → Type 0
Answered same slice len x (Known i) = FirstAt same (take len slice) x (Some i)
Answered same slice len x (New i) = (i ≡ len) × (len < length slice) × (known same (take len slice) x ≡ false)
Answered same slice len x NoRoom = (length slice ≤ len) × (known same (take len slice) x ≡ false)

-- what the slice holds after an answer
abbrev pub written : {X : Type 0} → List X → X → Entered → List X
written slice x (Known i) = slice
written slice x (New i) = slice_set slice i x
written slice x NoRoom = slice

-- how many entries are in use after an answer
abbrev pub used_after : ℕ → Entered → ℕ
used_after len (Known i) = len
used_after len (New i) = len + 1
used_after len NoRoom = len

-- an answer that found room leaves the list with x
abbrev pub Grown : {X : Type 0} → (X → X → Bool) → (before after : List X) → X → Entered → Type 0
Grown same before after x (Known i) = after ≡ entered same before x
Grown same before after x (New i) = after ≡ entered same before x
Grown same before after x NoRoom = after ≡ before

-- a list at the front of a slice
abbrev pub laid : {X : Type 0} → List X → List X → List X
laid xs slice = xs ++ drop (length xs) slice

-- what a sequence gives: all of it is entered, or the slice is full of what came before the first entry that finds no room
abbrev pub AnsweredAll : {X : Type 0} → (X → X → Bool) → (before after : List X) → ℕ → List X → Result ℕ Full → Type 0
AnsweredAll same before after len ys (Ok n) =
    (n ≤ length before) × (n ≡ length (entered_all same (take len before) ys)) × (after ≡ laid (entered_all same (take len before) ys) before)
AnsweredAll same before after len ys (Err full) =
    (full.index < length ys)
    × (length after ≡ length before)
    × (after ≡ entered_all same (take len before) (take full.index ys))
    × HoldsAt (λ y. known same after y ≡ false) ys full.index
