-- A walk takes a machine's steps some at a time. An advance has an allowance and stops early only where a report falls due, the machine is
-- done or a fault comes. Between advances a walk is looked at, and one that waits with a report is settled; neither moves the machine.
use Rattle.std.specs.Prelude.{◌≡◌, ℕ, zero, suc, ◌+◌, ◌<◌, ◌≤◌, ◌↔◌, List, [], ◌∷◌, ◌++◌, Some, None, Option, ◌≢◌, ⊤}
use Rattle.runs.specs.Machine.{Outcome, Next, Done, Failed, Machine}
use Rattle.runs.specs.Over.{FirstOver}
use Rattle.runs.specs.Runs.{Rest, after}

pub data Standing (F : Type 0) : Type 0 where
  Resting : Standing F
  Waiting : Standing F
  Finished : Standing F
  Fallen : F → Standing F

pub record Walk (S F R : Type 0) : Type 0 where
  pub state : S
  pub steps : ℕ
  pub told : List R
  pub standing : Standing F

abbrev pub walk : {S F R : Type 0} → S → ℕ → List R → Standing F → Walk S F R
walk s n told standing = record { state = s; steps = n; told = told; standing = standing }

-- how a walk stands whose allowance is used up; a fault is met only by the step itself
abbrev pub resting_at : {S F : Type 0} → Outcome S F → Standing F
resting_at (Next t) = Resting
resting_at Done = Finished
resting_at (Failed f) = Resting

module _ {S F R : Type 0} (m : Machine S F R) where
  -- a step arrived at t; `onward` goes on from there where nothing is to be reported
  abbrev pub arrived : S → ℕ → List R → Option R → (S → ℕ → List R → Walk S F R) → Walk S F R
  arrived t n told None onward = onward t n told
  arrived t n told (Some r) onward = walk t n (told ++ r ∷ []) Waiting

  abbrev pub tried : S → ℕ → List R → Outcome S F → (S → ℕ → List R → Walk S F R) → Walk S F R
  tried s n told (Next t) onward = arrived t (suc n) told (m.report t) onward
  tried s n told Done onward = walk s n told Finished
  tried s n told (Failed f) onward = walk s n told (Fallen f)

  -- at most so many steps, from a state that was reached after n
  abbrev pub up_to : ℕ → S → ℕ → List R → Walk S F R
  up_to zero s n told = walk s n told (resting_at (m.next s))
  up_to (suc allowance) s n told = tried s n told (m.next s) (up_to allowance)

  abbrev pub opened : S → Walk S F R
  opened start = up_to 0 start 0 []

-- a settlement lets a walk that waits go on, or makes it fall
pub data Call (F : Type 0) : Type 0 where
  Advance : ℕ → Call F
  Settle : Option F → Call F
  Look : Call F

abbrev pub settled : {F : Type 0} → Option F → Standing F
settled None = Resting
settled (Some f) = Fallen f

module _ {S F R : Type 0} (m : Machine S F R) where
  -- a call does what it does to a walk that stands so; to any other it does nothing
  abbrev pub called : Call F → S → ℕ → List R → Standing F → Walk S F R
  called (Advance allowance) s n told Resting = up_to m allowance s n told
  called (Advance allowance) s n told Waiting = walk s n told Waiting
  called (Advance allowance) s n told Finished = walk s n told Finished
  called (Advance allowance) s n told (Fallen f) = walk s n told (Fallen f)
  called (Settle verdict) s n told Resting = walk s n told Resting
  called (Settle verdict) s n told Waiting = walk s n told (settled verdict)
  called (Settle verdict) s n told Finished = walk s n told Finished
  called (Settle verdict) s n told (Fallen f) = walk s n told (Fallen f)
  called Look s n told standing = walk s n told standing

  abbrev pub performed : List (Call F) → Walk S F R → Walk S F R
  performed [] w = w
  performed (call ∷ calls) w = performed calls (called call w.state w.steps w.told w.standing)

-- what an advance of a walk with n steps has come to
module _ {S F R : Type 0} (m : Machine S F R) (allowance n : ℕ) (told : List R) where
  abbrev pub Came : S → ℕ → List R → Standing F → Type 0
  Came s i said Resting = (i ≡ n + allowance) × (said ≡ told) × (m.next s ≢ Done)
  Came s i said Waiting = (n < i) × (i ≤ n + allowance) × ((r : R) × (m.report s ≡ Some r) × (said ≡ told ++ r ∷ []))
  Came s i said Finished = (i ≤ n + allowance) × (said ≡ told) × (m.next s ≡ Done)
  Came s i said (Fallen f) = (i < n + allowance) × (said ≡ told) × (m.next s ≡ Failed f)

-- an advance takes all its steps, or stops at the first report, where the machine is done, or at a fault
abbrev pub StopsEarlyOnly : (S F R : Type 0) → Type 0
StopsEarlyOnly S F R =
    (m : Machine S F R) (allowance : ℕ) (s : S) (n : ℕ) (told : List R)
    → let w : Walk S F R = up_to m allowance s n told in Came m allowance n told w.state w.steps w.told w.standing

-- whatever the allowances and settlements: the walk is where the run of as many steps is, and has told what that has
abbrev pub RestingChangesNothing : (S F R : Type 0) → Type 0
RestingChangesNothing S F R =
    (m : Machine S F R) (start : S) (calls : List (Call F))
    → let w : Walk S F R = performed m calls (opened m start) in after m start w.steps ≡ Rest w.state w.told

-- a report has to be settled before the machine can be done
abbrev pub NotDoneWhereItReports : {S F R : Type 0} → Machine S F R → Type 0
NotDoneWhereItReports {S} {F} {R} m = (s : S) (r : R) → m.report s ≡ Some r → m.next s ≢ Done

-- a walk is finished exactly when its steps are the count
abbrev pub FinishedAtTheCount : (S F R : Type 0) → Type 0
FinishedAtTheCount S F R =
    (m : Machine S F R) → NotDoneWhereItReports m → (start : S) (calls : List (Call F))
    → let w : Walk S F R = performed m calls (opened m start) in (w.standing ≡ Finished) ↔ FirstOver m start w.steps

abbrev pub Ended : {F : Type 0} → Standing F → Type 0
Ended Resting = ⊥
Ended Waiting = ⊥
Ended Finished = ⊤
Ended (Fallen f) = ⊤

-- a walk that is finished or fell stays as it is
abbrev pub EndedStays : (S F R : Type 0) → Type 0
EndedStays S F R = (m : Machine S F R) (calls : List (Call F)) (w : Walk S F R) → Ended w.standing → performed m calls w ≡ w
