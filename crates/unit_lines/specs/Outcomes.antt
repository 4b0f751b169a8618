-- What is said of a line: its unit is accepted, or refused, or there is none. A line is called accepted exactly
-- when it is the own line of a sound unit.
use Rattle.std.specs.Prelude.{◌≡◌, ℕ, ◌↔◌, List, Some, None, codes, Option}
use Rattle.unit.specs.Bytes.{Bytes}
use Rattle.unit.specs.Sound.{Sound}
use Rattle.unit.specs.Told.{refusal_text}
use Rattle.unit.specs.Verdict.{verdict}
use Rattle.unit.specs.declared.refusal.Refusal.{Refusal}
use Rattle.unit_lines.specs.Line.{line_tables}
use Rattle.unit_lines.specs.Written.{line_of, TablesOfBytes}
use Rattle.unit_lines.specs.declared.outcome.Outcome.{Outcome}
use Rattle.unit_lines.specs.declared.outcome.Outcome.TheVariants.{Accepted, Refused, Unreadable}

abbrev pub judged : Option Refusal → Outcome
judged None = Accepted
judged (Some refusal) = Refused refusal

abbrev pub outcome_of_tables : Option Bytes → Outcome
outcome_of_tables None = Unreadable
outcome_of_tables (Some b) = judged (verdict b)

abbrev pub outcome_of : List ℕ → Outcome
outcome_of line = outcome_of_tables (line_tables line)

abbrev pub outcome_text : Outcome → List ℕ
outcome_text Accepted = codes "accepted"
outcome_text (Refused refusal) = refusal_text refusal
outcome_text Unreadable = codes "unreadable"

abbrev pub AcceptedLine : List ℕ → Type 0
AcceptedLine line = outcome_of line ≡ Accepted ↔ ((b : Bytes) × ((line ≡ line_of b) × (TablesOfBytes b × Sound b)))
