-- The text of a line is what stands before its end.
use Rattle.std.proofs.Common.{◌≡◌, ◌≢◌, ℕ, ◌+◌, ◌-◌, ◌<◌, ◌≤◌, List, [], ◌∷◌, ◌++◌, length, take, slice_index_or, sym, ap, ◌∙◌, append_assoc, append-nil, length-append, length-take, arith, inl, inr, ◌⊎◌}
use Rattle.std.proofs.lemmas.Bool.Decides.{nat_tests}
use Rattle.std.proofs.lemmas.List.{take_more}
use Rattle.std.proofs.Math.Seq.{take-append_seam, take-length, get_or-append_seam}
use Rattle.unit_lines.specs.Ending.{without_last, line_text, LineEnd, Nothing, Lf, CrLf, Cr, IsTextOfLine}

shorter : (last : ℕ) (text : List ℕ) → length (without_last last text) ≤ length text
shorter last text = grind (arith, nat_tests, length-take)

-- the last character of a text, and what stands before it
seam : (text : List ℕ) (end : ℕ) → (length (text ++ end ∷ []) ≡ length text + 1) × (slice_index_or (text ++ end ∷ []) (length (text ++ end ∷ []) - 1) 0 ≡ end) × (take (length (text ++ end ∷ []) - 1) (text ++ end ∷ []) ≡ text)
seam text end =
    let longer = length-append text (end ∷ []) in
    let n : length (text ++ end ∷ []) - 1 ≡ length text = omega arith in
    (longer, rw (n, get_or-append_seam), rw (n, take-append_seam))

dropped : (last : ℕ) (text : List ℕ) → without_last last (text ++ last ∷ []) ≡ text
dropped last text = grind (arith, nat_tests, seam text last)

kept : (last end : ℕ) (text : List ℕ) → end ≢ last → without_last last (text ++ end ∷ []) ≡ text ++ end ∷ []
kept last end text other = grind (arith, nat_tests, seam text end)

-- the last character is dropped, or nothing is
rejoined : (text : List ℕ) → 0 < length text → take (length text - 1) text ++ slice_index_or text (length text - 1) 0 ∷ [] ≡ text
rejoined text some =
    let n : length text - 1 + 1 ≡ length text = omega arith in
    sym (take_more text (length text - 1) 0 (omega arith)) ∙ rw (n, take-length)

either : (last : ℕ) (text : List ℕ) → (text ≡ without_last last text) ⊎ (text ≡ without_last last text ++ last ∷ [])
either last text = grind (arith, nat_tests, rejoined text)

ended : (line without_lf text : List ℕ) → (line ≡ without_lf) ⊎ (line ≡ without_lf ++ 10 ∷ []) → (without_lf ≡ text) ⊎ (without_lf ≡ text ++ 13 ∷ [])
    → (end : List ℕ) × LineEnd end × (line ≡ text ++ end)
ended line without_lf text (inl a) (inl b) = ([], Nothing, a ∙ b ∙ sym (append-nil text))
ended line without_lf text (inl a) (inr b) = (13 ∷ [], Cr, a ∙ b)
ended line without_lf text (inr a) (inl b) = (10 ∷ [], Lf, rw (← b) a)
ended line without_lf text (inr a) (inr b) = (13 ∷ 10 ∷ [], CrLf, a ∙ rw (b, append_assoc))

longest : (line before end : List ℕ) → LineEnd end → line ≡ before ++ end → length (line_text line) ≤ length before
longest line before _ Nothing e =
    omega (arith, shorter 10 line, shorter 13 (without_last 10 line), ap length (e ∙ append-nil before))
longest line before _ Lf e =
    let same : line_text line ≡ without_last 13 before = ap line_text e ∙ ap (without_last 13) (dropped 10 before) in
    omega (arith, ap length same, shorter 13 before)
longest line before _ CrLf e =
    let cut = e ∙ sym (append_assoc before (13 ∷ []) (10 ∷ [])) in
    let same : line_text line ≡ before = ap line_text cut ∙ (ap (without_last 13) (dropped 10 (before ++ 13 ∷ [])) ∙ dropped 13 before) in
    omega (arith, ap length same)
longest line before _ Cr e =
    let same : line_text line ≡ before = ap line_text e ∙ (ap (without_last 13) (kept 10 13 before (omega arith)) ∙ dropped 13 before) in
    omega (arith, ap length same)

pub text_of_line : (line text : List ℕ) → text ≡ line_text line → IsTextOfLine line text
text_of_line line text same =
    rw same (record {
      ended = ended line (without_last 10 line) (line_text line) (either 10 line) (either 13 (without_last 10 line));
      longest = longest line;
    })
