-- What a kind's number gives: where it is one of the kinds, what a row of that kind says, and else the number itself.
use Rattle.std.specs.Prelude.{◌≡◌, ℕ, ◌<◌, ◌≤◌, ◌⊎◌, Result, MatchResult}
use Rattle.unit.specs.declared.records.UnknownKind.{UnknownKind}

abbrev pub OfKind : {T : Type 0} → (least most number : ℕ) → T → Result T UnknownKind → Type 0
OfKind least most number value result =
    MatchResult result (λ x. (least ≤ number) × (number ≤ most) × (x ≡ value)) (λ e. (e.0 ≡ number) × ((number < least) ⊎ (most < number)))
