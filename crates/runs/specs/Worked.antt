-- A machine that counts down, reports 2 and fails at 7, and what its runs and walks come to. Here the definitions can be seen at work.
use Rattle.std.specs.Prelude.{◌≡◌, ℕ, ◌-◌, if◌then◌else◌, List, [], ◌∷◌, Some, None, Option, ◌==◌, nat_lt}
use Rattle.runs.specs.Counting.{counting}
use Rattle.runs.specs.Guards.{guarded, limited}
use Rattle.runs.specs.Machine.{Next, Done, Failed, Machine}
use Rattle.runs.specs.Runs.{Rest, Broken, after}
use Rattle.runs.specs.Walks.{Walk, walk, Resting, Waiting, Finished, Fallen, Call, Advance, Settle, Look, opened, performed}

pub data Fault : Type 0 where
  Unlucky : Fault
  Stopped : Fault

abbrev pub countdown : Machine ℕ Fault ℕ
countdown =
    record {
      next = λ s. if s == 0 then Done else if s == 7 then Failed Unlucky else Next (s - 1);
      report = λ s. if s == 2 then Some s else None;
    }

-- stops at a state below 2
abbrev pub low : ℕ → Option Fault
low s = if nat_lt s 2 then Some Stopped else None

-- stops at the third step
abbrev pub third : ℕ × ℕ → Option Fault
third p = if p.1 == 2 then Some Stopped else None

abbrev pub calls : List (Call Fault) → Walk ℕ Fault ℕ
calls list = performed countdown list (opened countdown 4)

pub record WorkedRuns : Type 0 where
  pub rests : after countdown 4 3 ≡ Rest 1 (2 ∷ [])
  pub stays : after countdown 4 9 ≡ Rest 0 (2 ∷ [])
  pub breaks : after countdown 8 3 ≡ Broken Unlucky []
  -- the guard is in front: 1 is reached, and no step goes on from there
  pub guards : after (guarded low countdown) 4 9 ≡ Broken Stopped (2 ∷ [])
  pub guards_later : after (guarded low countdown) 4 3 ≡ Rest 1 (2 ∷ [])
  -- the limit is tried as a step ends: 1 is not reached
  pub limits : after (limited low countdown) 4 3 ≡ Broken Stopped (2 ∷ [])
  pub counts : after (guarded third (counting countdown)) (4, 0) 9 ≡ Broken Stopped (2 ∷ [])
  -- a guard refuses no step where none is to be taken
  pub done : after (guarded low countdown) 0 1 ≡ Rest 0 []
  pub due : calls (Advance 3 ∷ []) ≡ walk 2 2 (2 ∷ []) Waiting
  pub unsettled : calls (Advance 3 ∷ Advance 9 ∷ Look ∷ []) ≡ walk 2 2 (2 ∷ []) Waiting
  pub settled_twice : calls (Settle None ∷ Advance 3 ∷ Settle None ∷ Advance 1 ∷ []) ≡ walk 1 3 (2 ∷ []) Resting
  pub finished : calls (Advance 2 ∷ Settle None ∷ Advance 2 ∷ []) ≡ walk 0 4 (2 ∷ []) Finished
  pub fallen : calls (Advance 2 ∷ Settle (Some Stopped) ∷ Settle None ∷ Advance 2 ∷ []) ≡ walk 2 2 (2 ∷ []) (Fallen Stopped)
  pub faulty : performed countdown (Advance 5 ∷ []) (opened countdown 9) ≡ walk 7 2 [] (Fallen Unlucky)
