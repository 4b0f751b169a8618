-- A line stands for a unit exactly when it is the unit's own line: digit by digit, byte by byte, field by field.
use Rattle.std.proofs.Common.{◌≡◌, ℕ, ◌+◌, ◌*◌, ◌/◌, ◌%◌, ◌<◌, ◌==◌, false, List, [], ◌∷◌, ◌++◌, Some, None, Option, refl, ap, ◌∙◌, arith}
use Rattle.std.specs.List.{AllByRecursion}
use Rattle.std.specs.Option.{option_map}
use Rattle.std.proofs.lemmas.Bool.Decides.{nat_tests}
use Rattle.std.proofs.lemmas.List.Elements.{All-nil, All-cons, All-head, All-tail}
use Rattle.unit.specs.Bytes.{Bytes}
use Rattle.unit_lines.specs.Hexadecimal.{digit_of, byte_of_digits, byte_of, byte_before, hex_bytes}
use Rattle.unit_lines.specs.Fields.{cut, field_bytes, with_rest, field_then}
use Rattle.unit_lines.specs.Line.{on_field, line_tables}
use Rattle.unit_lines.specs.Written.{digit_text, byte_text, hex_text, field_text, line_of, OfBytes, TablesOfBytes, ReadsItsOwnLine}

digit_back : (d : ℕ) → d < 16 → digit_of (digit_text d) ≡ Some d
digit_back d l = grind (arith, nat_tests)

digit_forth : (c d : ℕ) → digit_of c ≡ Some d → (c ≡ digit_text d) × (d < 16)
digit_forth c d e = (grind (arith, nat_tests), grind (arith, nat_tests))

digits_of : (a b : ℕ) → b < 16 → ((16 * a + b) / 16 ≡ a) × ((16 * a + b) % 16 ≡ b)
digits_of a b l = (omega arith, omega arith)

digit_no_space : (d : ℕ) → (digit_text d == 32) ≡ false
digit_no_space d = grind (arith, nat_tests)

byte_back : (x : ℕ) → x < 256 → byte_of (byte_text x) ≡ Some x
byte_back x l =
    let high : x / 16 < 16 = omega arith in
    let low : x % 16 < 16 = omega arith in
    let whole : 16 * (x / 16) + x % 16 ≡ x = omega arith in
    rw (digit_back (x / 16) high, digit_back (x % 16) low, whole)

byte_forth : (h l x : ℕ) → byte_of (h ∷ l ∷ []) ≡ Some x → (h ∷ l ∷ [] ≡ byte_text x) × (x < 256)
byte_forth h l x e = by (digit_of h) (digit_of l) (digit_forth h) (digit_forth l) e
  where
    by : (a b : Option ℕ) → ((d : ℕ) → a ≡ Some d → (h ≡ digit_text d) × (d < 16)) → ((d : ℕ) → b ≡ Some d → (l ≡ digit_text d) × (d < 16))
        → byte_of_digits a b ≡ Some x → (h ∷ l ∷ [] ≡ byte_text x) × (x < 256)
    by None b p q r = absurd (grind arith)
    by (Some a) None p q r = absurd (grind arith)
    by (Some a) (Some b) p q r =
        let high = p a refl in
        let low = q b refl in
        let is : x ≡ 16 * a + b = cc in
        let parts = digits_of a b low.1 in
        (rw (is, parts.0, parts.1, high.0, low.0), omega arith)

abbrev IsByte : ℕ → Type 0
IsByte x = x < 256

hex_back : (xs : List ℕ) → OfBytes xs → hex_bytes (hex_text xs) ≡ Some xs
hex_back [] h = refl
hex_back (x ∷ xs) h = rw (byte_back x (All-head IsByte x xs h), hex_back xs (All-tail IsByte x xs h))

hex_forth : (t xs : List ℕ) → hex_bytes t ≡ Some xs → (t ≡ hex_text xs) × OfBytes xs
hex_forth [] xs e = let none : xs ≡ [] = cc in rw none (refl, All-nil IsByte)
hex_forth (c ∷ []) xs e = absurd (grind arith)
hex_forth (h ∷ l ∷ t) xs e = by (byte_of (h ∷ l ∷ [])) (hex_bytes t) refl (hex_forth t) e
  where
    by : (o : Option ℕ) (q : Option (List ℕ)) → byte_of (h ∷ l ∷ []) ≡ o
        → ((ys : List ℕ) → q ≡ Some ys → (t ≡ hex_text ys) × OfBytes ys) → byte_before o q ≡ Some xs
        → (h ∷ l ∷ t ≡ hex_text xs) × OfBytes xs
    by None q p r s = absurd (grind arith)
    by (Some x) None p r s = absurd (grind arith)
    by (Some x) (Some ys) p r s =
        let is : xs ≡ x ∷ ys = cc in
        let first = byte_forth h l x p in
        let rest = r ys refl in
        rw is (ap (λ (pair : List ℕ). pair ++ t) first.0 ∙ rw rest.0, All-cons IsByte x ys first.1 rest.1)

field_back : (xs : List ℕ) → OfBytes xs → field_bytes (field_text xs) ≡ Some xs
field_back [] h = refl
field_back (x ∷ xs) h = hex_back (x ∷ xs) h

dash_forth : (c : ℕ) (xs : List ℕ) → field_bytes (c ∷ []) ≡ Some xs → (c ∷ [] ≡ field_text xs) × (xs ≡ [])
dash_forth c xs e = (grind (arith, nat_tests), grind (arith, nat_tests))

field_forth : (t xs : List ℕ) → field_bytes t ≡ Some xs → (t ≡ field_text xs) × OfBytes xs
field_forth [] xs e = absurd (grind arith)
field_forth (c ∷ []) xs e = let dash = dash_forth c xs e in (dash.0, rw dash.1 (All-nil IsByte))
field_forth (h ∷ l ∷ t) [] e = let p = (hex_forth (h ∷ l ∷ t) [] e).0 in absurd (grind arith)
field_forth (h ∷ l ∷ t) (x ∷ xs) e = hex_forth (h ∷ l ∷ t) (x ∷ xs) e

-- a text without a space
abbrev NoSpace : List ℕ → Type 0
NoSpace t = AllByRecursion (λ c. (c == 32) ≡ false) t

hex_no_space : (xs : List ℕ) → NoSpace (hex_text xs)
hex_no_space [] = tt
hex_no_space (x ∷ xs) = (digit_no_space (x / 16), (digit_no_space (x % 16), hex_no_space xs))

field_no_space : (xs : List ℕ) → NoSpace (field_text xs)
field_no_space [] = (refl, tt)
field_no_space (x ∷ xs) = hex_no_space (x ∷ xs)

cut_back : (f r : List ℕ) → NoSpace f → cut (f ++ (32 ∷ r)) ≡ Some (f, r)
cut_back [] r h = refl
cut_back (c ∷ f) r h = rw (h.0, cut_back f r h.1)

cut_step : (c : ℕ) (t f r : List ℕ) → ((g q : List ℕ) → cut t ≡ Some (g, q) → t ≡ g ++ (32 ∷ q)) → cut (c ∷ t) ≡ Some (f, r) → c ∷ t ≡ f ++ (32 ∷ r)
cut_step c t f r more e = grind (arith, nat_tests)

cut_forth : (t f r : List ℕ) → cut t ≡ Some (f, r) → t ≡ f ++ (32 ∷ r)
cut_forth [] f r e = absurd (grind arith)
cut_forth (c ∷ t) f r e = cut_step c t f r (cut_forth t) e

-- a field with the space and the rest of the line behind it
abbrev field_before : List ℕ → List ℕ → List ℕ
field_before table rest = field_text table ++ (32 ∷ rest)

then_back : (xs r : List ℕ) → OfBytes xs → field_then (field_before xs r) ≡ Some (xs, r)
then_back xs r h = rw (cut_back (field_text xs) r (field_no_space xs), field_back xs h)

-- from a field that is read to what is written of it: its text, and the rest behind it
then_forth : (t xs r : List ℕ) → field_then t ≡ Some (xs, r) → (t ≡ field_before xs r) × OfBytes xs
then_forth t xs r e = by (cut t) (cut_forth t) e
  where
    parts : (table : Option (List ℕ)) (rest : List ℕ) → option_map {U = List ℕ × List ℕ} (λ ys. (ys, rest)) table ≡ Some (xs, r)
        → (table ≡ Some xs) × (rest ≡ r)
    parts None rest e = absurd (grind arith)
    parts (Some table) rest e = (grind arith, grind arith)

    by : (o : Option (List ℕ × List ℕ)) → ((f q : List ℕ) → o ≡ Some (f, q) → t ≡ f ++ (32 ∷ q)) → with_rest o ≡ Some (xs, r)
        → (t ≡ field_before xs r) × OfBytes xs
    by None p q = absurd (grind arith)
    by (Some (f, rest)) p q =
        let same = parts (field_bytes f) rest q in
        let field = field_forth f xs same.0 in
        (rw (p f rest refl, field.0, same.1), field.1)

-- a line that is read as b begins with a field, and its rest goes on to b
first_forth : {G : Type 0} (t : List ℕ) (next : List ℕ → List ℕ → Option Bytes) (b : Bytes) → on_field (field_then t) next ≡ Some b
    → ((xs r : List ℕ) → t ≡ field_before xs r → OfBytes xs → next xs r ≡ Some b → G) → G
first_forth {G} t next b e go = by (field_then t) refl e
  where
    by : (o : Option (List ℕ × List ℕ)) → field_then t ≡ o → on_field o next ≡ Some b → G
    by None p q = absurd (grind arith)
    by (Some x) p q = let first = then_forth t x.0 x.1 p in go x.0 x.1 first.0 first.1 q

-- the last field has nothing behind it
last_forth : {G : Type 0} (t : List ℕ) (made : List ℕ → Bytes) (b : Bytes) → option_map made (field_bytes t) ≡ Some b
    → ((xs : List ℕ) → t ≡ field_text xs → OfBytes xs → made xs ≡ b → G) → G
last_forth {G} t made b e go = by (field_bytes t) refl e
  where
    by : (o : Option (List ℕ)) → field_bytes t ≡ o → option_map made o ≡ Some b → G
    by None p q = absurd (grind arith)
    by (Some xs) p q = let field = field_forth t xs p in let same : made xs ≡ b = cc in go xs field.0 field.1 same

line_forth : (line : List ℕ) (b : Bytes) → line_tables line ≡ Some b → (line ≡ line_of b) × TablesOfBytes b
line_forth line b e =
    first_forth line _ b e (λ x0 r0 t0 h0 e0.
    first_forth r0 _ b e0 (λ x1 r1 t1 h1 e1.
    first_forth r1 _ b e1 (λ x2 r2 t2 h2 e2.
    first_forth r2 _ b e2 (λ x3 r3 t3 h3 e3.
    first_forth r3 _ b e3 (λ x4 r4 t4 h4 e4.
    first_forth r4 _ b e4 (λ x5 r5 t5 h5 e5.
    first_forth r5 _ b e5 (λ x6 r6 t6 h6 e6.
    first_forth r6 _ b e6 (λ x7 r7 t7 h7 e7.
    first_forth r7 _ b e7 (λ x8 r8 t8 h8 e8.
    last_forth r8 _ b e8 (λ x9 t9 h9 same.
    rw (← same) (
      rw (t0, t1, t2, t3, t4, t5, t6, t7, t8, t9),
      record {
        word_bytes = h0;
        words = h1;
        identifiers = h2;
        places = h3;
        functions = h4;
        blocks = h5;
        phis = h6;
        instructions = h7;
        declared = h8;
        steps = h9;
      },
    )))))))))))

first_back : (xs r : List ℕ) (next : List ℕ → List ℕ → Option Bytes) → OfBytes xs
    → on_field (field_then (field_before xs r)) next ≡ next xs r
first_back xs r next h = rw (then_back xs r h)

line_back : (b : Bytes) → TablesOfBytes b → line_tables (line_of b) ≡ Some b
line_back b h =
    first_back b.word_bytes _ _ h.word_bytes ∙ (first_back b.words _ _ h.words ∙ (first_back b.identifiers _ _ h.identifiers
    ∙ (first_back b.places _ _ h.places ∙ (first_back b.functions _ _ h.functions ∙ (first_back b.blocks _ _ h.blocks
    ∙ (first_back b.phis _ _ h.phis ∙ (first_back b.instructions _ _ h.instructions ∙ (first_back b.declared _ _ h.declared
    ∙ rw (field_back b.steps h.steps)))))))))

pub own_line : (line : List ℕ) → ReadsItsOwnLine line
own_line line b = (line_forth line b, λ h. rw h.0 (line_back b h.1))
