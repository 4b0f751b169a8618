-- A cut of a text at its first space, by the place that `position` finds.
use Rattle.std.proofs.Common.{◌≡◌, ℕ, ◌+◌, ◌==◌, Bool, true, false, if◌then◌else◌, not, List, [], ◌∷◌, length, take, drop, nat_lt, Some, None, Option, refl, position, arith}
use Rattle.std.specs.Option.{option_map}
use Rattle.std.specs.List.{position_or_len}
use Rattle.std.proofs.lemmas.Bool.Decides.{nat_tests}
use Rattle.unit_lines.specs.Fields.{cut, longer}

abbrev pub cut_at : List ℕ → ℕ → List ℕ × List ℕ
cut_at text i = (take i text, drop (i + 1) text)

-- the cut at a place that may be past the end
cut_within : List ℕ → ℕ → Option (List ℕ × List ℕ)
cut_within text i = option_map (cut_at text) (if nat_lt i (length text) then Some i else None)

here : (c : ℕ) (text : List ℕ) → Some ([], text) ≡ cut_within (c ∷ text) 0
unfolding cut_within
here c text = grind (arith, nat_tests)

further : (c n : ℕ) (text : List ℕ) → option_map (longer c) (cut_within text n) ≡ cut_within (c ∷ text) (1 + n)
unfolding cut_within
further c n text = grind (arith, nat_tests)

pub cut_by_position : (text : List ℕ) → cut text ≡ option_map (cut_at text) (position (λ c. c == 32) text)
unfolding cut_within
cut_by_position [] = refl
cut_by_position (c ∷ text) = rw (cut_by_position text) (by (c == 32))
  where
    by : (space : Bool) → (if space then Some ([], text) else option_map (longer c) (cut_within text (position_or_len (λ d. d == 32) text)))
        ≡ cut_within (c ∷ text) (if not space then 1 + position_or_len (λ d. d == 32) text else 0)
    by true = here c text
    by false = further c (position_or_len (λ d. d == 32) text) text
