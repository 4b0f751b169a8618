-- A list that grows by entering has each key once. All three parts of the equivalence are used.
use Rattle.std.proofs.Common.{◌≡◌, Bool, true, false, List, [], ◌∷◌, ◌++◌, length, filter, sym, refl, ap, ◌∙◌, subst, inl, inr, arith}
use Rattle.std.proofs.lemmas.List.Elements.{All-head, All-tail, All-push, All-weaker, filter_agree, filter-append}
use Rattle.std.proofs.lemmas.List.{append-nil, append_assoc}
use Rattle.std.proofs.lemmas.Bool.{cases_Bool, or_cases, or_parts, both_ways as not_both}
use Rattle.std.specs.Cmp.{both_ways}
use Rattle.std.specs.Prelude.{if◌then◌else◌, All}
use Rattle.first_wins.specs.Keys.{known, Equivalence}
use Rattle.first_wins.specs.Entering.{entered, entered_all}
use Rattle.first_wins.specs.Laws.{Once, OnceEach}
use Rattle.first_wins.proofs.Known.{known_like}

module _ {X : Type 0} (same : X → X → Bool) (lawful : Equivalence same) where
  -- the entries with the key of x
  abbrev sharing : X → List X → List X
  sharing x xs = filter (λ y. same y x) xs

  none_sharing : (xs : List X) (x : X) → known same xs x ≡ false → sharing x xs ≡ []
  none_sharing [] x h = refl
  none_sharing (y ∷ ys) x h = let p = or_parts (same y x) (known same ys x) h in let q = p.0 in simp q (none_sharing ys x p.1)

  Once-known : (xs : List X) (x : X) → Once same xs x → known same xs x ≡ true
  Once-known xs x h = elim (cases_Bool (known same xs x)) [ inl k ↦ k | inr k ↦ absurd (omega (arith, h, ap length (none_sharing xs x k))) ]

  -- an entry that is new has another key than any that is there
  new_apart : (xs : List X) (x y : X) → Once same xs x → known same xs y ≡ false → same y x ≡ false
  new_apart xs x y h new =
      elim (cases_Bool (same y x)) [
        | inl e ↦ absurd (not_both (known same xs y) new (known_like same lawful.transitive xs x y (Once-known xs x h) (lawful.symmetric y x e)))
        | inr e ↦ e
      ]

  Once-push : (xs : List X) (x y : X) → Once same xs x → known same xs y ≡ false → Once same (xs ++ y ∷ []) x
  Once-push xs x y h new =
      let apart = new_apart xs x y h new in
      rw filter-append (simp (apart, append-nil) h)

  once_new : (xs : List X) (y : X) → known same xs y ≡ false → Once same (xs ++ y ∷ []) y
  once_new xs y new =
      rw (filter-append (λ z. same z y) xs (y ∷ []), none_sharing xs y new) (simp (lawful.reflexive y))

  -- entries of one key are shared alike
  shared_alike : (x y : X) → same x y ≡ true → (xs : List X) → sharing x xs ≡ sharing y xs
  shared_alike x y e =
      filter_agree (λ z. same z x) (λ z. same z y)
      (λ z. both_ways (same z x) (same z y) (λ h. lawful.transitive z x y h e) (λ h. lawful.transitive z y x h (lawful.symmetric x y e)))

  once_like : (xs ys : List X) (y : X) → All (Once same xs) ys → known same ys y ≡ true → Once same xs y
  once_like xs [] y h k = absurd (not_both false refl k)
  once_like xs (x ∷ ys) y h k =
      elim (or_cases (same x y) (known same ys y) k) [
        | inl e ↦ ap length (sym (shared_alike x y e xs)) ∙ All-head (Once same xs) x ys h
        | inr e ↦ once_like xs ys y (All-tail (Once same xs) x ys h) e
      ]

  -- a list that has each of its keys, and each of those that it was given, once
  record Each (xs given : List X) : Type 0 where
    pub own : All (Once same xs) xs
    pub all : All (Once same xs) given

  each_entered : (xs given : List X) (y : X) → Each xs given → (t : Bool) → known same xs y ≡ t → Each (if t then xs else xs ++ y ∷ []) (given ++ y ∷ [])
  each_entered xs given y h true k =
      record { own = h.own; all = All-push (Once same xs) given y h.all (once_like xs xs y h.own k) }
  each_entered xs given y h false k =
      let more = λ (zs : List X) (a : All (Once same xs) zs). All-push (Once same (xs ++ y ∷ [])) zs y (All-weaker (Once same xs) (Once same (xs ++ y ∷ [])) (λ z o. Once-push xs z y o k) zs a) (once_new xs y k) in
      record { own = more xs h.own; all = more given h.all }

  each_entered_all : (xs given ys : List X) → Each xs given → All (Once same (entered_all same xs ys)) (given ++ ys)
  each_entered_all xs given [] h = subst (All (Once same xs)) (sym (append-nil given)) h.all
  each_entered_all xs given (y ∷ ys) h =
      subst (All (Once same (entered_all same xs (y ∷ ys)))) (append_assoc given (y ∷ []) ys)
      (each_entered_all (entered same xs y) (given ++ y ∷ []) ys (each_entered xs given y h (known same xs y) refl))

  pub once_each : (before ys : List X) → OnceEach same before ys (entered_all same before ys)
  once_each before ys h = each_entered_all before before ys (record { own = h; all = h })
