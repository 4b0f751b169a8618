-- A slice into which the first entries of a sequence have been entered, and one more.
use Rattle.std.proofs.Common.{◌≡◌, ℕ, ◌+◌, ◌-◌, ◌<◌, ◌≤◌, Bool, false, List, [], ◌∷◌, ◌++◌, length, slice_index_or, take, drop, set, sym, ap, ◌∙◌, arith}
use Rattle.std.proofs.lemmas.List.Sums.{fold-append}
use Rattle.std.proofs.Math.Seq.{set-append_seam, take-append_seam}
use Rattle.std.proofs.lemmas.List.{append_assoc, length-append, length-drop, drop_more, length_push, take_all, take_more}
use Rattle.first_wins.specs.Keys.{known}
use Rattle.first_wins.specs.Entering.{entered, entered_all, laid}

module _ {X : Type 0} where
  -- what is written just behind a list at the front of a slice is one more entry of it
  laid-push : (xs slice : List X) (y : X) → length xs < length slice → set (laid xs slice) (length xs) y ≡ laid (xs ++ y ∷ []) slice
  laid-push xs slice y room = rw (drop_more slice (length xs) y room, set-append_seam, length_push, append_assoc)

module _ {X : Type 0} (same : X → X → Bool) (slice : List X) (len : ℕ) (ys : List X) where
  -- the list of the first i entries of the sequence
  abbrev pub listed : ℕ → List X
  listed i = entered_all same (take len slice) (take i ys)

  pub listed_more : (i : ℕ) (y : X) → i < length ys → y ≡ slice_index_or ys i y → listed (i + 1) ≡ entered same (listed i) y
  listed_more i y inside here =
      ap (entered_all same (take len slice)) (take_more ys i y inside ∙ ap (λ z. take i ys ++ z ∷ []) (sym here))
      ∙ fold-append (entered same) (take len slice) (take i ys) (y ∷ [])

  pub listed_all : (i : ℕ) → length ys ≤ i → listed i ≡ entered_all same (take len slice) ys
  listed_all i over = ap (entered_all same (take len slice)) (take_all i ys over)

  -- `used` entries of the slice are in use, the list of the first i entries of the sequence, and what stands behind is as it was
  pub record Growing (i used : ℕ) (present : List X) : Type 0 where
    pub count : used ≡ length (listed i)
    pub fits : used ≤ length slice
    pub holds : present ≡ laid (listed i) slice

  module _ (i used : ℕ) (present : List X) (now : Growing i used present) where
    pub growing_list : take used present ≡ listed i
    growing_list = rw (now.count, now.holds) (take-append_seam (listed i) (drop (length (listed i)) slice))

    long : length present ≡ length (listed i) + (length slice - length (listed i))
    long = rw now.holds (simp (length-append, length-drop))

    pub growing_ends : length ys ≤ i → entered_all same (take len slice) ys ≡ take used present
    growing_ends over = sym (growing_list ∙ listed_all i over)

    module _ (y : X) (inside : i < length ys) (here : y ≡ slice_index_or ys i y) where
      pub growing_known : (after : List X) → after ≡ present → take used after ≡ entered same (take used present) y → Growing (i + 1) used after
      growing_known after same_slice grown =
          let still : listed i ≡ listed (i + 1) = cc (growing_list, listed_more i y inside here) in
          record { count = cc; fits = now.fits; holds = cc }

      pub growing_new : (k : ℕ) (after : List X) → (k ≡ used) × (used < length present) × (known same (take used present) y ≡ false)
          → after ≡ set present k y → Growing (i + 1) (used + 1) after
      growing_new k after (at, room, new) wrote =
          let much = long in
          let apart : known same (listed i) y ≡ false = cc growing_list in
          let grown : listed (i + 1) ≡ listed i ++ y ∷ [] = rw (listed_more i y inside here) (simp apart) in
          let wider : used + 1 ≡ length (listed i ++ y ∷ []) = omega (arith, length_push (listed i) y) in
          let pushed = laid-push (listed i) slice y (omega arith) in
          record { count = cc; fits = omega arith; holds = cc }
