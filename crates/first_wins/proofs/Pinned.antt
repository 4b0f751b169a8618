-- What is said of a search, of an entry and of a sequence can be said of one answer only.
use Rattle.std.proofs.Common.{◌≡◌, ℕ, ◌+◌, ◌<◌, ◌≤◌, Bool, true, false, List, [], ◌∷◌, ◌++◌, length, slice_index_or, take, drop, Some, None, Ok, Err, Option, Result, sym, refl, ap, ◌∙◌, inl, inr, arith}
use Rattle.std.proofs.lemmas.List.{get_or_default, get_or-take, length_push, length-take, take-append-drop, take-take}
use Rattle.std.proofs.lemmas.List.Folds.{list_any_at}
use Rattle.std.proofs.lemmas.Bool.{both_ways, cases_order}
use Rattle.std.specs.Prelude.{if◌then◌else◌}
use Rattle.first_wins.specs.Entering.{entered, entered_all, Answered, AnsweredAll}
use Rattle.first_wins.specs.Keys.{known, FirstAt}
use Rattle.first_wins.specs.Laws.{AnswersArePinned}
use Rattle.first_wins.specs.declared.list.Entered.{Entered}
use Rattle.first_wins.specs.declared.list.Entered.TheVariants.{Known, New, NoRoom}
use Rattle.first_wins.specs.declared.list.Full.{Full}
use Rattle.first_wins.proofs.Known.{first_known}
use Rattle.first_wins.proofs.Sequences.{listed, listed_more, listed_all}
use Rattle.std.proofs.lemmas.List.Sums.{fold-append}

some_entry : {X : Type 0} (xs : List X) → 0 < length xs → X
some_entry [] some = absurd (omega arith)
some_entry (x ∷ xs) some = x

module _ {X : Type 0} (same : X → X → Bool) where
  -- an entry with the key stands at i, so that a later one is not the first
  not_later : (xs : List X) (x : X) (i j : ℕ) → FirstAt same xs x (Some i) → FirstAt same xs x (Some j) → i < j → ⊥
  not_later xs x i j (inside, here, _) (inside', _, none) before =
      let long = length-take j xs in
      both_ways (known same (take j xs) x) none
      (list_any_at (λ y. same y x) (take j xs) i x (omega arith) (ap (λ y. same y x) (get_or-take j xs i x before) ∙ here x))

  one_index : (xs : List X) (x : X) (i j : ℕ) → FirstAt same xs x (Some i) → FirstAt same xs x (Some j) → i ≡ j
  one_index xs x i j p q =
      elim (cases_order i j) [
        | inl e ↦ e
        | inr d ↦ elim d [ inl l ↦ absurd (not_later xs x i j p q l) | inr l ↦ absurd (not_later xs x j i q p l) ]
      ]

  known_and_not : {A : Type 0} (xs : List X) (x : X) (i : ℕ) → FirstAt same xs x (Some i) → known same xs x ≡ false → A
  known_and_not xs x i p none = absurd (both_ways (known same xs x) none (first_known same xs x i p))

  one_position : (xs : List X) (x : X) (q r : Option ℕ) → FirstAt same xs x q → FirstAt same xs x r → q ≡ r
  one_position xs x (Some i) (Some j) p q = ap Some (one_index xs x i j p q)
  one_position xs x (Some i) None p q = known_and_not xs x i p q
  one_position xs x None (Some j) p q = known_and_not xs x j q p
  one_position xs x None None p q = refl

  one_enter : (slice : List X) (len : ℕ) (x : X) (q r : Entered) → Answered same slice len x q → Answered same slice len x r → q ≡ r
  one_enter slice len x (Known i) (Known j) p q = ap Known (one_index (take len slice) x i j p q)
  one_enter slice len x (Known i) (New j) p (_, _, none) = known_and_not (take len slice) x i p none
  one_enter slice len x (Known i) NoRoom p (_, none) = known_and_not (take len slice) x i p none
  one_enter slice len x (New i) (Known j) (_, _, none) q = known_and_not (take len slice) x j q none
  one_enter slice len x (New i) (New j) (at, _, _) (at', _, _) = ap New (at ∙ sym at')
  one_enter slice len x (New i) NoRoom (_, room, _) (full, _) = absurd (omega arith)
  one_enter slice len x NoRoom (Known j) (_, none) q = known_and_not (take len slice) x j q none
  one_enter slice len x NoRoom (New j) (full, _) (_, room, _) = absurd (omega arith)
  one_enter slice len x NoRoom NoRoom p q = refl

  -- a list that is entered into only grows
  grows_one : (xs : List X) (y : X) (t : Bool) → length xs ≤ length (if t then xs else xs ++ y ∷ [])
  grows_one xs y true = omega arith
  grows_one xs y false = let more = length_push xs y in omega arith

  grows : (xs ys : List X) → length xs ≤ length (entered_all same xs ys)
  grows xs [] = omega arith
  grows xs (y ∷ ys) =
      let one = grows_one xs y (known same xs y) in
      let rest = grows (entered same xs y) ys in
      omega arith

  module _ (before : List X) (len : ℕ) (ys : List X) where
    abbrev list : ℕ → List X
    list i = listed same before len ys i

    -- an entry that is new makes every later list longer
    longer : (i k : ℕ) (y : X) → i < length ys → y ≡ slice_index_or ys i y → known same (list i) y ≡ false → i < k → length (list i) < length (list k)
    longer i k y inside here new later =
        let rest = drop (i + 1) (take k ys) in
        let one : length (list (i + 1)) ≡ length (list i) + 1 =
        rw (listed_more same before len ys i y inside here) (simp (new, length_push)) in
        let parts : take (i + 1) ys ++ drop (i + 1) (take k ys) ≡ take k ys =
        ap (λ l. l ++ rest) (sym (take-take (i + 1) k ys (omega arith))) ∙ take-append-drop (i + 1) (take k ys) in
        let whole : length (list k) ≡ length (entered_all same (list (i + 1)) (drop (i + 1) (take k ys))) =
        ap length (ap (entered_all same (take len before)) (sym parts) ∙ fold-append (entered same) (take len before) (take (i + 1) ys) rest) in
        let more = grows (list (i + 1)) rest in
        omega arith

    -- the entry that finds no room makes every later list too long
    too_long : (a : List X) (full : Full) → AnsweredAll same before a len ys (Err full) → (k : ℕ) → full.index < k → length before < length (list k)
    too_long a full (inside, size, held, new) k later =
        let d = some_entry ys (omega arith) in
        let unknown = ap (λ l. known same l (slice_index_or ys full.index d)) (sym held) ∙ new d in
        let count = ap length held in
        let more = longer full.index k (slice_index_or ys full.index d) inside (get_or_default ys full.index d (slice_index_or ys full.index d) inside) unknown later in
        omega arith

    -- so a sequence of which an entry finds no room does not fit
    not_both : {A : Type 0} (a : List X) (n : ℕ) (full : Full) → n ≤ length before → n ≡ length (entered_all same (take len before) ys)
        → AnsweredAll same before a len ys (Err full) → A
    not_both a n full fits n_is p =
        let more = too_long a full p (length ys) p.0 in
        let all = ap length (listed_all same before len ys (length ys) (omega arith)) in
        absurd (omega arith)

    one_full : (a b : List X) (full full' : Full) → AnsweredAll same before a len ys (Err full) → AnsweredAll same before b len ys (Err full') → full.index < full'.index → ⊥
    one_full a b full full' p q l =
        let more = too_long a full p full'.index l in
        let size = q.1 in
        let count = ap length q.2 in
        omega arith

    one_enter_all : (a b : List X) (q r : Result ℕ Full) → AnsweredAll same before a len ys q → AnsweredAll same before b len ys r → (q ≡ r) × (a ≡ b)
    one_enter_all a b (Ok n) (Ok k) (_, n_is, held) (_, k_is, held') = (ap Ok (n_is ∙ sym k_is), held ∙ sym held')
    one_enter_all a b (Ok n) (Err full) (fits, n_is, _) q = not_both b n full fits n_is q
    one_enter_all a b (Err full) (Ok n) p (fits, n_is, _) = not_both a n full fits n_is p
    one_enter_all a b (Err full) (Err full') p q =
        elim (cases_order full.index full'.index) [
          | inl e ↦ (ap (λ i. Err (record { index = i })) e, p.2 ∙ ap list e ∙ sym q.2)
          | inr d ↦ elim d [ inl l ↦ absurd (one_full a b full full' p q l) | inr l ↦ absurd (one_full b a full' full q p l) ]
        ]

pub answers_are_pinned : (X : Type 0) → AnswersArePinned X
answers_are_pinned X same =
    record {
      of_position = one_position same;
      of_enter = one_enter same;
      of_enter_all = λ before a b len ys. one_enter_all same before len ys a b;
    }
