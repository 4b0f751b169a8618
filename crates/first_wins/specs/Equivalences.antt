-- A test that decides whether two entries have one and the same key, whatever a key is, is an equivalence.
-- A context names its proof where it says what its keys are, so that these stand here and not with the other proofs.
use Rattle.std.specs.Prelude.{◌≡◌, ◌↔◌, ℕ, Bool, List, IsTrue, nat_eq, refl}
use Rattle.std.proofs.Common.{sym, ◌∙◌}
use Rattle.std.proofs.lemmas.Slice.Eq.{bytes_eq-Decides}
use Rattle.std.proofs.lemmas.Bool.Decides.{Decides-eqb}
use Rattle.std.specs.Str.{bytes_eq}
use Rattle.first_wins.specs.Keys.{Equivalence}

module _ {X Y : Type 0} (key : X → Y) (same : X → X → Bool) (decides : (a b : X) → IsTrue (same a b) ↔ (key a ≡ key b)) where
  pub by_key : Equivalence same
  by_key =
      record {
        reflexive = λ a. (decides a a).1 refl;
        symmetric = λ a b h. (decides b a).1 (sym ((decides a b).0 h));
        transitive = λ a b c h k. (decides a c).1 ((decides a b).0 h ∙ (decides b c).0 k);
      }

pub numbers_equivalence : Equivalence nat_eq
numbers_equivalence = by_key (λ (a : ℕ). a) nat_eq Decides-eqb

pub bytes_equivalence : {X : Type 0} (bytes : X → List ℕ) → Equivalence (λ a b. bytes_eq (bytes a) (bytes b))
bytes_equivalence bytes = by_key bytes (λ a b. bytes_eq (bytes a) (bytes b)) (λ a b. bytes_eq-Decides (bytes a) (bytes b))
