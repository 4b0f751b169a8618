-- What a first-wins list is for. The first four laws are about a list `before`, a sequence `ys` that is entered into it, and the
-- list `after` that this gives; of the equivalence, each uses what its line says and no more. The last is about the answers.
use Rattle.std.specs.Prelude.{◌≡◌, ℕ, Bool, List, ◌++◌, length, filter, All, Contains, Option, Result}
use Rattle.first_wins.specs.Earliest.{earliest}
use Rattle.first_wins.specs.Entering.{entered_all, Answered, AnsweredAll}
use Rattle.first_wins.specs.Keys.{FirstAt}
use Rattle.first_wins.specs.declared.list.Entered.{Entered}
use Rattle.first_wins.specs.declared.list.Full.{Full}

-- exactly one entry of the list has the key of x
abbrev pub Once : {X : Type 0} → (X → X → Bool) → List X → X → Type 0
Once same xs x = length (filter (λ y. same y x) xs) ≡ 1

module _ {X : Type 0} (same : X → X → Bool) (before ys after : List X) where
  -- a list that has the earliest of some sequence has then the earliest of it and ys; an empty list, those of ys: transitive
  abbrev pub EarliestOfAll : Type 0
  EarliestOfAll = (past : List X) → before ≡ earliest same past → after ≡ earliest same (past ++ ys)

  -- if it had each of its keys once, it has each of its keys and those of ys once: reflexive, symmetric, transitive
  abbrev pub OnceEach : Type 0
  OnceEach = All (Once same before) before → All (Once same after) (before ++ ys)

  -- entering again any entries that were there or were entered changes nothing: reflexive
  abbrev pub NothingTwice : Type 0
  NothingTwice = (again : List X) → All (Contains (before ++ ys)) again → entered_all same after again ≡ after

  -- entering one sequence and then ys is entering both in a row: this holds of any test
  abbrev pub InARow : Type 0
  InARow = (start past : List X) → before ≡ entered_all same start past → after ≡ entered_all same start (past ++ ys)

-- what is said of a search, of an entry and of a sequence can be said of one answer only, and of one slice: this holds of any test
pub record OneAnswer {X : Type 0} (same : X → X → Bool) : Type 0 where
  pub of_position : (xs : List X) (x : X) (q r : Option ℕ) → FirstAt same xs x q → FirstAt same xs x r → q ≡ r
  pub of_enter : (slice : List X) (len : ℕ) (x : X) (q r : Entered) → Answered same slice len x q → Answered same slice len x r → q ≡ r
  pub of_enter_all : (before a b : List X) (len : ℕ) (ys : List X) (q r : Result ℕ Full)
      → AnsweredAll same before a len ys q → AnsweredAll same before b len ys r → (q ≡ r) × (a ≡ b)

abbrev pub AnswersArePinned : Type 0 → Type 0
AnswersArePinned X = (same : X → X → Bool) → OneAnswer same
