-- Walks beside the runs of as many steps.
use Rattle.std.proofs.Common.{◌≡◌, ℕ, zero, suc, ◌<◌, ◌↔◌, List, [], ◌∷◌, Some, None, Option, sym, refl, ap, ◌∙◌, subst, arith}
use Rattle.runs.specs.Machine.{Outcome, Next, Done, Failed, Machine}
use Rattle.runs.specs.Over.{Over, FirstOver}
use Rattle.runs.specs.Runs.{Rest, also, after}
use Rattle.runs.specs.Walks.{Standing, Resting, Waiting, Finished, Fallen, Walk, walk, resting_at, arrived, tried, up_to, opened, Call, Advance, Settle, Look, settled, called, performed, Came, StopsEarlyOnly, RestingChangesNothing, NotDoneWhereItReports, FinishedAtTheCount, Ended, EndedStays}
use Rattle.runs.proofs.Over.{next_not_done, failed_not_done, not_over_before}
use Rattle.runs.proofs.Runs.{steps_on}

-- How far an advance comes.
module _ {S F R : Type 0} (m : Machine S F R) where
  abbrev Comes : (allowance n : ℕ) → List R → Walk S F R → Type 0
  Comes allowance n told w = Came m allowance n told w.state w.steps w.told w.standing

  -- with one step behind it, an advance comes as far as its rest does
  come_on : (allowance n : ℕ) (told : List R) (s : S) (i : ℕ) (said : List R) (standing : Standing F)
      → Came m allowance (suc n) told s i said standing → Came m (suc allowance) n told s i said standing
  come_on allowance n told s i said Resting (i_is, said_is, goes) = (omega arith, said_is, goes)
  come_on allowance n told s i said Waiting (after_n, most, due) = (omega arith, omega arith, due)
  come_on allowance n told s i said Finished (most, said_is, done) = (omega arith, said_is, done)
  come_on allowance n told s i said (Fallen f) (most, said_is, failed) = (omega arith, said_is, failed)

  rests : (s : S) (n : ℕ) (told : List R) (outcome : Outcome S F) → m.next s ≡ outcome → Came m 0 n told s n told (resting_at outcome)
  rests s n told (Next t) e = (omega arith, refl, next_not_done (m.next s) t e)
  rests s n told Done e = (omega arith, refl, e)
  rests s n told (Failed f) e = (omega arith, refl, failed_not_done (m.next s) f e)

  module _ (allowance : ℕ) (further : (s : S) (n : ℕ) (told : List R) → Comes allowance n told (up_to m allowance s n told)) where
    come_arrived : (t : S) (n : ℕ) (told : List R) (report : Option R) → m.report t ≡ report → Comes (suc allowance) n told (arrived m t (suc n) told report (up_to m allowance))
    come_arrived t n told None e =
        let w = up_to m allowance t (suc n) told in
        come_on allowance n told w.state w.steps w.told w.standing (further t (suc n) told)
    come_arrived t n told (Some r) e = (omega arith, omega arith, (r, e, refl))

    come_tried : (s : S) (n : ℕ) (told : List R) (outcome : Outcome S F) → m.next s ≡ outcome → Comes (suc allowance) n told (tried m s n told outcome (up_to m allowance))
    come_tried s n told (Next t) e = come_arrived t n told (m.report t) refl
    come_tried s n told Done e = (omega arith, refl, e)
    come_tried s n told (Failed f) e = (omega arith, refl, e)

  comes : (allowance : ℕ) (s : S) (n : ℕ) (told : List R) → Comes allowance n told (up_to m allowance s n told)
  comes zero s n told = rests s n told (m.next s) refl
  comes (suc allowance) s n told = come_tried allowance (comes allowance) s n told (m.next s) refl

pub stops_early_only : (S F R : Type 0) → StopsEarlyOnly S F R
stops_early_only S F R m allowance s n told = comes m allowance s n told

-- What every step keeps of a state, its number and the reports told, every walk keeps.
module _ {S F R : Type 0} (m : Machine S F R) (P : S → ℕ → List R → Type 0)
    (steps : (s t : S) (n : ℕ) (told : List R) → P s n told → m.next s ≡ Next t → P t (suc n) (also told (m.report t))) where
  abbrev Keeps : Walk S F R → Type 0
  Keeps w = P w.state w.steps w.told

  module _ (onward : S → ℕ → List R → Walk S F R) (further : (s : S) (n : ℕ) (told : List R) → P s n told → Keeps (onward s n told)) where
    arrived_keeps : (t : S) (n : ℕ) (told : List R) (report : Option R) → P t n (also told report) → Keeps (arrived m t n told report onward)
    arrived_keeps t n told None h = further t n told h
    arrived_keeps t n told (Some r) h = h

    tried_keeps : (s : S) (n : ℕ) (told : List R) (outcome : Outcome S F) → m.next s ≡ outcome → P s n told → Keeps (tried m s n told outcome onward)
    tried_keeps s n told (Next t) e h = arrived_keeps t (suc n) told (m.report t) (steps s t n told h e)
    tried_keeps s n told Done e h = h
    tried_keeps s n told (Failed f) e h = h

  up_to_keeps : (allowance : ℕ) (s : S) (n : ℕ) (told : List R) → P s n told → Keeps (up_to m allowance s n told)
  up_to_keeps zero s n told h = h
  up_to_keeps (suc allowance) s n told h = tried_keeps (up_to m allowance) (up_to_keeps allowance) s n told (m.next s) refl h

  called_keeps : (call : Call F) (s : S) (n : ℕ) (told : List R) (standing : Standing F) → P s n told → Keeps (called m call s n told standing)
  called_keeps (Advance allowance) s n told Resting h = up_to_keeps allowance s n told h
  called_keeps (Advance allowance) s n told Waiting h = h
  called_keeps (Advance allowance) s n told Finished h = h
  called_keeps (Advance allowance) s n told (Fallen f) h = h
  called_keeps (Settle verdict) s n told Resting h = h
  called_keeps (Settle verdict) s n told Waiting h = h
  called_keeps (Settle verdict) s n told Finished h = h
  called_keeps (Settle verdict) s n told (Fallen f) h = h
  called_keeps Look s n told standing h = h

  performed_keeps : (calls : List (Call F)) (w : Walk S F R) → Keeps w → Keeps (performed m calls w)
  performed_keeps [] w h = h
  performed_keeps (call ∷ calls) w h =
      performed_keeps calls (called m call w.state w.steps w.told w.standing) (called_keeps call w.state w.steps w.told w.standing h)

pub resting_changes_nothing : (S F R : Type 0) → RestingChangesNothing S F R
resting_changes_nothing S F R m start calls =
    performed_keeps m (λ s n told. after m start n ≡ Rest s told) (λ s t n told h e. steps_on m start n s told (Next t) h e) calls (opened m start) refl

-- Done is said exactly where the machine is done.
module _ {S F R : Type 0} (m : Machine S F R) (waits : NotDoneWhereItReports m) where
  abbrev Says : S → Standing F → Type 0
  Says s Resting = m.next s ≡ Done → ⊥
  Says s Waiting = m.next s ≡ Done → ⊥
  Says s Finished = m.next s ≡ Done
  Says s (Fallen f) = m.next s ≡ Done → ⊥

  came_says : (allowance n : ℕ) (told : List R) (s : S) (i : ℕ) (said : List R) (standing : Standing F) → Came m allowance n told s i said standing → Says s standing
  came_says allowance n told s i said Resting (i_is, said_is, goes) = goes
  came_says allowance n told s i said Waiting (after_n, most, due) = waits s due.0 due.1
  came_says allowance n told s i said Finished (most, said_is, done) = done
  came_says allowance n told s i said (Fallen f) (most, said_is, failed) = failed_not_done (m.next s) f failed

  up_to_says : (allowance : ℕ) (s : S) (n : ℕ) (told : List R) → Says (up_to m allowance s n told).state (up_to m allowance s n told).standing
  up_to_says allowance s n told =
      let w = up_to m allowance s n told in came_says allowance n told w.state w.steps w.told w.standing (comes m allowance s n told)

  settled_says : (s : S) (verdict : Option F) → (m.next s ≡ Done → ⊥) → Says s (settled verdict)
  settled_says s None h = h
  settled_says s (Some f) h = h

  called_says : (call : Call F) (s : S) (n : ℕ) (told : List R) (standing : Standing F) → Says s standing
      → Says (called m call s n told standing).state (called m call s n told standing).standing
  called_says (Advance allowance) s n told Resting h = up_to_says allowance s n told
  called_says (Advance allowance) s n told Waiting h = h
  called_says (Advance allowance) s n told Finished h = h
  called_says (Advance allowance) s n told (Fallen f) h = h
  called_says (Settle verdict) s n told Resting h = h
  called_says (Settle verdict) s n told Waiting h = settled_says s verdict h
  called_says (Settle verdict) s n told Finished h = h
  called_says (Settle verdict) s n told (Fallen f) h = h
  called_says Look s n told standing h = h

  performed_says : (calls : List (Call F)) (w : Walk S F R) → Says w.state w.standing → Says (performed m calls w).state (performed m calls w).standing
  performed_says [] w h = h
  performed_says (call ∷ calls) w h =
      performed_says calls (called m call w.state w.steps w.told w.standing) (called_says call w.state w.steps w.told w.standing h)

  finishes : (s : S) (standing : Standing F) → Says s standing → m.next s ≡ Done → standing ≡ Finished
  finishes s Resting h d = absurd (h d)
  finishes s Waiting h d = absurd (h d)
  finishes s Finished h d = refl
  finishes s (Fallen f) h d = absurd (h d)

  module _ (start : S) where
    record Counts (s : S) (n : ℕ) (told : List R) : Type 0 where
      pub reached : after m start n ≡ Rest s told
      pub early : (k : ℕ) → k < n → Over m (after m start k) → ⊥

    counts_on : (s t : S) (n : ℕ) (told : List R) → Counts s n told → m.next s ≡ Next t → Counts t (suc n) (also told (m.report t))
    counts_on s t n told h e =
        record {
          reached = steps_on m start n s told (Next t) h.reached e;
          early = not_over_before m start n (λ d. next_not_done (m.next s) t e (subst (Over m) h.reached d));
        }

    count : (calls : List (Call F)) → let w : Walk S F R = performed m calls (opened m start) in (w.standing ≡ Finished) ↔ FirstOver m start w.steps
    count calls =
        let w : Walk S F R = performed m calls (opened m start) in
        let counts = performed_keeps m Counts counts_on calls (opened m start) (record { reached = refl; early = λ k l. absurd (omega arith) }) in
        let says = performed_says calls (opened m start) (up_to_says 0 start 0 []) in (
          λ e. record { over = subst (Over m) (sym counts.reached) (subst (Says w.state) e says); not_before = counts.early },
          λ first. finishes w.state w.standing says (subst (Over m) counts.reached first.over),
        )

pub finished_at_the_count : (S F R : Type 0) → FinishedAtTheCount S F R
finished_at_the_count S F R m waits start calls = count m waits start calls

-- No call does anything to a walk that has ended.
module _ {S F R : Type 0} (m : Machine S F R) where
  called_ended : (call : Call F) (s : S) (n : ℕ) (told : List R) (standing : Standing F) → Ended standing
      → called m call s n told standing ≡ walk s n told standing
  called_ended call s n told Resting h = absurd h
  called_ended call s n told Waiting h = absurd h
  called_ended (Advance allowance) s n told Finished h = refl
  called_ended (Settle verdict) s n told Finished h = refl
  called_ended Look s n told Finished h = refl
  called_ended (Advance allowance) s n told (Fallen f) h = refl
  called_ended (Settle verdict) s n told (Fallen f) h = refl
  called_ended Look s n told (Fallen f) h = refl

  performed_ended : (calls : List (Call F)) (w : Walk S F R) → Ended w.standing → performed m calls w ≡ w
  performed_ended [] w h = refl
  performed_ended (call ∷ calls) w h =
      ap (performed m calls) (called_ended call w.state w.steps w.told w.standing h) ∙ performed_ended calls w h

pub ended_stays : (S F R : Type 0) → EndedStays S F R
ended_stays S F R m calls w h = performed_ended m calls w h
