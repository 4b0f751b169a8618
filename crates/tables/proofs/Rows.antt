-- The loop `for (row, bytes) in table.chunks_exact(width).enumerate()` that looks for the first refused row.
use Rattle.std.proofs.Common.{◌≡◌, ℕ, ◌+◌, ◌*◌, ◌/◌, ◌<◌, ◌≤◌, List, ◌++◌, length, take, drop, Some, None, Option, sym, refl, ap, ◌∙◌, add-mul, one-mul, le-div_iff_mul-le, zero-mul, add-one, arith, length-append, length-drop}
use native.Mathlib.Nat.{div-eq_of_lt-le}
use Rattle.std.specs.Option.{option_map}
use Rattle.std.proofs.lemmas.List.{take_at, drop_at, drop-drop}
use Rattle.tables.specs.Cells.{row_of}
use Rattle.tables.specs.First.{first, row_refusal, first_row}
use Rattle.tables.proofs.Firsts.{first_more, first_found}

-- what a turn takes, as the iterator says it: `size`, `left` and `over`, the bytes that make no row, are what it holds before,
-- `size'`, `left'` and `over'` after
abbrev pub Turn : (count size : ℕ) (left over : List ℕ) (row : ℕ) (bytes : List ℕ) (count' size' : ℕ) (left' over' : List ℕ) → Type 0
Turn count size left over row bytes count' size' left' over' =
    ((size' ≡ size) × ((left ≡ bytes ++ left') × (length bytes ≡ size)) × (over' ≡ over)) × (row ≡ count) × (count' ≡ count + 1) × (row + 1 < 18446744073709551616)

next_multiple : (i width : ℕ) → (i + 1) * width ≡ i * width + width
next_multiple i width = rw (add-mul, one-mul)

-- At the row `count` none before it is refused, and what is left is the table without those rows.
pub record Searching {F R : Type 0} (tell : ℕ → F → R) (flaw : List ℕ → Option F) (table : List ℕ) (width count size : ℕ) (left : List ℕ) : Type 0 where
  pub some : 0 < width
  pub sized : size ≡ width
  pub rest : left ≡ drop (count * width) table
  pub past : count * width ≤ length table
  pub none : first (row_refusal tell flaw table width) count ≡ None

module _ {F R : Type 0} (tell : ℕ → F → R) (flaw : List ℕ → Option F) (table : List ℕ) (width : ℕ) where
  pub search_begins : 0 < width → Searching tell flaw table width 0 width table
  search_begins h = record { some = h; sized = refl; rest = rw zero-mul; past = rw zero-mul (omega arith); none = refl }

  module _ (count size : ℕ) (left : List ℕ) (so_far : Searching tell flaw table width count size left) where
    -- where no whole row is left, no row was refused
    pub search_ends : length left < size → first_row tell flaw table width ≡ None
    search_ends short =
        let less : length table < (count + 1) * width = rw next_multiple (omega (arith, so_far.sized, so_far.past, length-drop (count * width) table, ap length so_far.rest)) in
        rw (div-eq_of_lt-le width so_far.past less) so_far.none

    module _ (over : List ℕ) (row : ℕ) (bytes : List ℕ) (count' size' : ℕ) (left' over' : List ℕ)
        (turn : Turn count size left over row bytes count' size' left' over') where
      cut : drop (count * width) table ≡ bytes ++ left'
      cut = sym so_far.rest ∙ turn.0.1.0

      pub row_long : length bytes ≡ width
      row_long = turn.0.1.1 ∙ so_far.sized

      row_is : bytes ≡ row_of table width count
      row_is = sym (ap (take width) cut ∙ take_at bytes left' width row_long)

      -- what is wrong with the turn's bytes is wrong with its row
      row_told : (o : Option F) → o ≡ flaw bytes → row_refusal tell flaw table width count ≡ option_map (tell row) o
      row_told o h = rw turn.1 (ap (λ r. option_map (tell count) (flaw r)) (sym row_is) ∙ ap (option_map (tell count)) (sym h))

      past' : (count + 1) * width ≤ length table
      past' = rw next_multiple (omega (arith, row_long, so_far.past, length-drop (count * width) table, ap length cut, length-append bytes left'))

      rest' : left' ≡ drop ((count + 1) * width) table
      rest' = sym (ap (λ n. drop n table) (next_multiple count width) ∙ sym (drop-drop width (count * width) table) ∙ ap (drop width) cut ∙ drop_at bytes left' width row_long)

      pub search_goes_on : None ≡ flaw bytes → Searching tell flaw table width count' size' left'
      search_goes_on h =
          record {
            some = so_far.some;
            sized = turn.0.0 ∙ so_far.sized;
            rest = rw turn.2 rest';
            past = rw turn.2 past';
            none = rw turn.2 (first_more (row_refusal tell flaw table width) count so_far.none (row_told None h));
          }

      pub search_finds : (e : F) → Some e ≡ flaw bytes → first_row tell flaw table width ≡ Some (tell row e)
      search_finds e h =
          let inside : count < length table / width = (le-div_iff_mul-le so_far.some).1 (rw add-one at past') in
          first_found (row_refusal tell flaw table width) count (length table / width) (tell row e) inside so_far.none (row_told (Some e) h)
