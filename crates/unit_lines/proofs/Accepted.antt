-- A line is called accepted exactly when it is the own line of a sound unit.
use Rattle.std.proofs.Common.{◌≡◌, ℕ, List, Some, None, Option, refl, arith}
use Rattle.unit.specs.Bytes.{Bytes}
use Rattle.unit.specs.Sound.{Sound}
use Rattle.unit.specs.Verdict.{verdict}
use Rattle.unit.specs.declared.refusal.Refusal.{Refusal}
use Rattle.unit.proofs.Exact.{accepted_exactly}
use Rattle.unit_lines.specs.Line.{line_tables}
use Rattle.unit_lines.specs.Outcomes.{judged, outcome_of_tables, AcceptedLine}
use Rattle.unit_lines.specs.Written.{line_of, TablesOfBytes}
use Rattle.unit_lines.specs.declared.outcome.Outcome.TheVariants.{Accepted}
use Rattle.unit_lines.proofs.OwnLine.{own_line}

accepted_none : (o : Option Refusal) → judged o ≡ Accepted → o ≡ None
accepted_none None e = refl
accepted_none (Some refusal) e = absurd (grind arith)

pub accepted_line : (line : List ℕ) → AcceptedLine line
accepted_line line = (by (line_tables line) refl, λ h. rw ((own_line line h.0).1 (h.1.0, h.1.1.0), (accepted_exactly h.0).1 h.1.1.1))
  where
    by : (o : Option Bytes) → line_tables line ≡ o → outcome_of_tables o ≡ Accepted → (b : Bytes) × ((line ≡ line_of b) × (TablesOfBytes b × Sound b))
    by None e h = absurd (grind arith)
    by (Some b) e h =
        let own = (own_line line b).0 e in
        (b, (own.0, (own.1, (accepted_exactly b).0 (accepted_none (verdict b) h))))
