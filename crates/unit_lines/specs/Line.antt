-- The tables that a line stands for, in the order of their numbers. `line_tables` reads a line field by field,
-- and has none where a field is missing, is no table, or is one too many.
use Rattle.std.specs.Prelude.{ℕ, List, Some, None, Option}
use Rattle.std.specs.Option.{option_map}
use Rattle.unit.specs.Bytes.{Bytes}
use Rattle.unit_lines.specs.Fields.{field_bytes, field_then}

abbrev pub on_field : Option (List ℕ × List ℕ) → (List ℕ → List ℕ → Option Bytes) → Option Bytes
on_field None next = None
on_field (Some p) next = next p.0 p.1

abbrev pub line_tables : List ℕ → Option Bytes
line_tables line =
    on_field (field_then line) (λ word_bytes rest.
    on_field (field_then rest) (λ words rest.
    on_field (field_then rest) (λ identifiers rest.
    on_field (field_then rest) (λ places rest.
    on_field (field_then rest) (λ functions rest.
    on_field (field_then rest) (λ blocks rest.
    on_field (field_then rest) (λ phis rest.
    on_field (field_then rest) (λ instructions rest.
    on_field (field_then rest) (λ declared rest.
    option_map (λ steps. record {
      word_bytes = word_bytes;
      words = words;
      identifiers = identifiers;
      places = places;
      functions = functions;
      blocks = blocks;
      phis = phis;
      instructions = instructions;
      declared = declared;
      steps = steps;
    }) (field_bytes rest))))))))))
