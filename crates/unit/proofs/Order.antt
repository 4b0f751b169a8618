-- A refusal tells of the first thing that is wrong, in the order of the tables' numbers and then of the rows.
use Rattle.std.proofs.Common.{◌≡◌, ℕ, suc, ◌%◌, ◌<◌, ◌≤◌, nat_lt, List, [], ◌∷◌, length, slice_index_or, IfSome, Some, None, Option, sym, refl, ap, ◌∙◌, ⊎_elim, arith}
use Rattle.std.specs.Prelude.{⊤}
use Rattle.std.proofs.lemmas.Bool.{cases_eq}
use Rattle.tables.specs.First.{row_refusal}
use Rattle.tables.proofs.Passing.{passes_mapped}
use Rattle.tables.proofs.Refusing.{then-Some, first_some, mapped_some, either_some, refused_not}
use Rattle.unit.specs.Bytes.{Bytes, bytes_at, rows, row_at}
use Rattle.unit.specs.Flaws.{at}
use Rattle.unit.specs.Format.{number, width, limit, columned, every_table}
use Rattle.unit.specs.Law.{FirstBadRow, ToldFirst, RefusedFirst}
use Rattle.unit.specs.Sound.{Sized, RowsSound}
use Rattle.unit.specs.Verdict.{row_flaw, size_verdict, rows_verdict, first_of, verdict}
use Rattle.unit.specs.declared.flaws.Flaw.{Flaw}
use Rattle.unit.specs.declared.flaws.Flaw.TheVariants as flaw
use Rattle.unit.specs.declared.refusal.Refusal.{Refusal}
use Rattle.unit.specs.declared.refusal.Refusal.TheVariants.{Size}
use Rattle.unit.specs.declared.table.Table.{Table}
use Rattle.unit.specs.declared.table.Table.TheVariants.{WordBytes, Words, Identifiers, Places, Functions, Blocks, Phis, Instructions, Declared, Steps}
use Rattle.unit.proofs.Exact.{size_passes, sizes_pass, row_passes, rows_pass}

-- a table is known by its number
by_number : (table : Table) → slice_index_or every_table (number table) WordBytes ≡ table
by_number WordBytes = refl
by_number Words = refl
by_number Identifiers = refl
by_number Places = refl
by_number Functions = refl
by_number Blocks = refl
by_number Phis = refl
by_number Instructions = refl
by_number Declared = refl
by_number Steps = refl

same_table : (s t : Table) → number s ≡ number t → s ≡ t
same_table s t e = sym (by_number s) ∙ ap (λ n. slice_index_or every_table n WordBytes) e ∙ by_number t

-- tables whose numbers count up from k
abbrev Counted : ℕ → List Table → Type 0
Counted k [] = ⊤
Counted k (table ∷ tables) = (number table ≡ k) × Counted (suc k) tables

-- the first table of such a list that is refused
first_table : {G : Type 0} (f : Table → Option Refusal) (k : ℕ) (tables : List Table) (e : Refusal) → Counted k tables
    → first_of f tables ≡ Some e
    → ((t : Table) → f t ≡ Some e → ((s : Table) → k ≤ number s → number s < number t → f s ≡ None) → G) → G
first_table f k [] e c h go = absurd (grind arith)
first_table f k (table ∷ tables) e c h go =
    then-Some (f table) (first_of f tables) e h
    (λ here. go table here (λ s least less. let count = c.0 in absurd (omega arith)))
    (λ none later. first_table f (suc k) tables e c.1 later (λ t here before. go t here (λ s least less.
    ⊎_elim (λ same. rw (same_table s table (same ∙ sym c.0)) none) (λ other. let more : suc k ≤ number s = omega (arith, other) in before s more less) (cases_eq (number s) k))))

module _ (b : Bytes) where
  size_told : (table : Table) (e : Refusal) → size_verdict b table ≡ Some e → Size table ≡ e
  size_told table e h =
      either_some (nat_lt 0 (length (bytes_at b table) % width table)) (nat_lt (limit table) (rows b table)) (Size table) e h

  sizes_first : (e : Refusal) → first_of (size_verdict b) every_table ≡ Some e → ToldFirst b e
  sizes_first e h =
      first_table (size_verdict b) 0 every_table e (refl, (refl, (refl, (refl, (refl, (refl, (refl, (refl, (refl, (refl, tt)))))))))) h (λ t here before.
      rw (← size_told t e here) record {
        bad = refused_not (size_verdict b t) e (size_passes b t) here;
        before = λ s less. (size_passes b s).0 (before s (omega arith) less);
      })

  row_first : (table : Table) (row : ℕ) (x : Flaw) → FirstBadRow b table row → ToldFirst b (at table row x)
  row_first table row flaw.Outside h = h
  row_first table row flaw.Unknown h = h

  -- the word bytes have no columns, so that none of them is refused
  columned_only : (table : Table) → (1 ≤ number table → RowsSound b table) → RowsSound b table
  columned_only table h =
      ⊎_elim (λ first. rw (same_table table WordBytes first) (λ row l. tt)) (λ other. h (omega (arith, other))) (cases_eq (number table) 0)

  rows_first : (e : Refusal) → ((table : Table) → Sized b table) → first_of (rows_verdict b) columned ≡ Some e → ToldFirst b e
  rows_first e sizes h =
      first_table (rows_verdict b) 1 columned e (refl, (refl, (refl, (refl, (refl, (refl, (refl, (refl, (refl, tt))))))))) h (λ t here before.
      first_some (row_refusal (at t) (row_flaw b t) (bytes_at b t) (width t)) (rows b t) e here (λ row there told none.
      mapped_some (at t row) (row_flaw b t (row_at b t row)) e told (λ x flawed same.
      rw (← same) (row_first t row x record {
        there = there;
        bad = refused_not (row_flaw b t (row_at b t row)) x (row_passes b t (row_at b t row)) flawed;
        sizes = sizes;
        tables_before = λ s less. columned_only s (λ least. (rows_pass b s).0 (before s least less));
        rows_before = λ i l. (passes_mapped (at t i) (row_flaw b t (row_at b t i)) (row_passes b t (row_at b t i))).0 (none i l);
      }))))

pub refused_first : (b : Bytes) → RefusedFirst b
unfolding verdict
refused_first b = by (verdict b) refl
  where
    by : (o : Option Refusal) → verdict b ≡ o → IfSome o (ToldFirst b)
    by None h = tt
    by (Some e) h =
        then-Some (first_of (size_verdict b) every_table) (first_of (rows_verdict b) columned) e h (sizes_first b e)
        (λ none later. rows_first b e ((sizes_pass b).0 none) later)
