-- A refusal by its number and what it tells: the table, and the row where there is one.
-- In words it is `refused 1, table 3`, or `refused 2, table 5, row 17`.
use Rattle.std.specs.Prelude.{ℕ, List, [], ◌∷◌, ◌++◌, codes, decimal}
use Rattle.unit.specs.Format.{number}
use Rattle.unit.specs.declared.refusal.Refusal.{Refusal}
use Rattle.unit.specs.declared.refusal.Refusal.TheVariants.{Size, Outside, Unknown}

abbrev pub told : Refusal → List ℕ
told (Size table) = 1 ∷ number table ∷ []
told (Outside table row) = 2 ∷ number table ∷ row ∷ []
told (Unknown table row) = 3 ∷ number table ∷ row ∷ []

-- each number in decimal, behind its label
abbrev pub labelled : List (List ℕ) → List ℕ → List ℕ
labelled labels [] = []
labelled [] (n ∷ numbers) = []
labelled (label ∷ labels) (n ∷ numbers) = label ++ (decimal n ++ labelled labels numbers)

abbrev pub refusal_text : Refusal → List ℕ
refusal_text r = labelled (codes "refused " ∷ codes ", table " ∷ codes ", row " ∷ []) (told r)
