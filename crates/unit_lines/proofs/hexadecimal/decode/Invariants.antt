use Rattle.std.proofs.Common.{◌≡◌, vec_items}
use Rattle.std.specs.Slice.Iter.{chunks_rest, chunks_size}
use Rattle.unit_lines.specs.Hexadecimal.{hex_bytes}
use Rattle.unit_lines.proofs.Pairs.{after}
use Rattle.unit_lines.proofs.hexadecimal.decode.Given as goal

abbrev pub invariant-loop-pair : goal.invariant-loop-pair
invariant-loop-pair l =
    (goal.iterator-loop-pair).can_next l.pair-iterator ×
    (goal.iterator-loop-pair).is_finite l.pair-iterator ×
    (chunks_size l.pair-iterator ≡ 2) ×
    (hex_bytes l.text ≡ after (vec_items l.into) (hex_bytes (chunks_rest l.pair-iterator)))
