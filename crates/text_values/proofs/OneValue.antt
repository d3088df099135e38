-- A shape shows one value of a kind at most.
use Rattle.std.proofs.Common.{◌≡◌, ℕ, zero, suc, ℤ, pos, ◌+ℤ◌, ◌≤ℤ◌, List, [], ◌∷◌, refl}
use Rattle.std.proofs.Common.{sym, ap, ap₂, ◌∙◌, subst, arith, inl, inr, replicate}
use Rattle.std.proofs.Common.{slice_get}
use Rattle.std.proofs.lemmas.Int.{ints}
use Rattle.text_reader.specs.Grammar.{nothing, leaf, both, left, right, pick}
use Rattle.est_syntax.specs.Least.{IsIn}
use Rattle.est_syntax.specs.declared.kind.Kind.{Kind, out-Kind}
use Rattle.est_syntax.specs.declared.kind.Kind.TheOpen as kinds
use Rattle.est_syntax.specs.declared.kind.FieldKind.{FieldKind}
use Rattle.est_values.specs.declared.value.Value.{Value, out-Value, roll-Value, roll-out-Value}
use Rattle.est_values.specs.declared.value.Value.TheOpen as seen
use Rattle.est_values.specs.FittingValues.{KindLayer, AscendFrom, ordinal_count, first_ordinal}
use Rattle.est_values.specs.FittingValues.{last_ordinal}
use Rattle.est_values.specs.PartsOfValues.{ValueLayer}
use Rattle.est_values.specs.OrdinalTuples.{ordinals_of}
use Rattle.text_reader.specs.Tests.{value, code}
use Rattle.text_reader.specs.Going.{Shape}
use Rattle.text_values.specs.TraceGrammar.{host_by, field_kinds}
use Rattle.text_values.specs.ValueShapes.{AreShown, AreEnclosed, AreBracketed, ShowsInteger}
use Rattle.text_values.specs.ValueShapes.{ShowsCharacter, ShowsConstant, ShowsOrdinalBy}
use Rattle.text_values.specs.ValueShapes.{ShowsOrdinal, ShowsSet, ShowsValue, ShowsValues}
use Rattle.text_values.specs.ValueShapes.{undefined, ordinal, set, array, fields, no_values}
use Rattle.text_values.specs.ValueShapes.{one_more}
use Rattle.text_values.proofs.Places.{some_same}

-- ORDINALS

pick_same : (i j : ℕ) (t u : Shape) → pick i t ≡ pick j u → i ≡ j
pick_same zero zero t u e = refl
pick_same zero (suc j) t u e = absurd cc
pick_same (suc i) zero t u e = absurd cc
pick_same (suc i) (suc j) t u e =
    let q : pick i t ≡ pick j u = cc in ap suc (pick_same i j t u q)

one_constant : (k : Kind) (z w : ℤ) (t : Shape) → ShowsConstant k z t → ShowsConstant k w t
    → z ≡ w
one_constant k z w t p q =
    let i : p.0 ≡ q.0 = pick_same p.0 q.0 nothing nothing (sym p.2 ∙ q.2) in
    some_same (sym p.1 ∙ (ap (slice_get (ordinals_of k)) i ∙ q.1))

one_integer : (z w : ℤ) (t : Shape) → ShowsInteger z t → ShowsInteger w t → z ≡ w
one_integer z w (left (leaf (value n))) p q = p ∙ sym q
one_integer z w (right (leaf (value n))) p q = p ∙ sym q
one_integer z w _ p q = absurd p

one_character : (z w : ℤ) (t : Shape) → ShowsCharacter z t → ShowsCharacter w t → z ≡ w
one_character z w (left (leaf (code c))) p q = p ∙ sym q
one_character z w (right (both (leaf (value n)) nothing)) p q = p ∙ sym q
one_character z w _ p q = absurd p

one_ordinal_by : (l : KindLayer) (k : Kind) (z w : ℤ) (t : Shape) → ShowsOrdinalBy l k z t
    → ShowsOrdinalBy l k w t → z ≡ w
one_ordinal_by kinds.Integer k z w t p q = one_integer z w t p q
one_ordinal_by kinds.Boolean k z w t p q = one_constant k z w t p q
one_ordinal_by kinds.Char k z w t p q = one_character z w t p q
one_ordinal_by (kinds.Enumeration declared names) k z w t p q = one_constant k z w t p q
one_ordinal_by (kinds.Part host low high) k z w t p q = absurd p
one_ordinal_by (kinds.SetOf base) k z w t p q = absurd p
one_ordinal_by (kinds.ArrayOf index of) k z w t p q = absurd p
one_ordinal_by (kinds.Fields fs) k z w t p q = absurd p

pub one_ordinal : (k : Kind) (z w : ℤ) (t : Shape) → ShowsOrdinal k z t → ShowsOrdinal k w t
    → z ≡ w
one_ordinal k z w t p q = one_ordinal_by (out-Kind (host_by (out-Kind k) k)) k z w t p q

-- a kind of this form has no ordinals
no_ordinal : (l : KindLayer) (k : Kind) (z : ℤ) (t : Shape) → out-Kind k ≡ l
    → host_by l k ≡ k → (ShowsOrdinalBy l k z t → ⊥) → ShowsOrdinal k z t → ⊥
no_ordinal l k z t e h n s = n (subst (λ (m : KindLayer). ShowsOrdinalBy m k z t) e
    (subst (λ (j : Kind). ShowsOrdinalBy (out-Kind j) k z t) h
    (subst (λ (m : KindLayer). ShowsOrdinalBy (out-Kind (host_by m k)) k z t) e s)))

pub no_ordinal_set : (k base : Kind) (z : ℤ) (t : Shape) → out-Kind k ≡ kinds.SetOf base
    → ShowsOrdinal k z t → ⊥
no_ordinal_set k base z t e s = no_ordinal (kinds.SetOf base) k z t e refl (λ h. h) s

pub no_ordinal_array : (k index of : Kind) (z : ℤ) (t : Shape)
    → out-Kind k ≡ kinds.ArrayOf index of → ShowsOrdinal k z t → ⊥
no_ordinal_array k index of z t e s = no_ordinal (kinds.ArrayOf index of) k z t e refl (λ h. h) s

pub no_ordinal_record : (k : Kind) (fs : List FieldKind) (z : ℤ) (t : Shape)
    → out-Kind k ≡ kinds.Fields fs → ShowsOrdinal k z t → ⊥
no_ordinal_record k fs z t e s = no_ordinal (kinds.Fields fs) k z t e refl (λ h. h) s

-- SETS

in_above : (low high z : ℤ) (xs : List ℤ) → AscendFrom low high xs → IsIn z xs → low ≤ℤ z
in_above low high z [] h m = absurd m
in_above low high z (x ∷ xs) h (inl e) = subst (λ y. low ≤ℤ y) e h.0
in_above low high z (x ∷ xs) h (inr m) =
    let r = in_above (x +ℤ pos 1) high z xs h.2 m in omega (arith, ints, r, h.0)

-- the members of one that are above the first are those of another
rest_in : (x y high z : ℤ) (xs ys : List ℤ) → x ≡ y → AscendFrom (x +ℤ pos 1) high xs
    → (IsIn z (x ∷ xs) → IsIn z (y ∷ ys)) → IsIn z xs → IsIn z ys
rest_in x y high z xs ys e h f m = by (f (inr m))
  where
    by : IsIn z (y ∷ ys) → IsIn z ys
    by (inl q) = let r = in_above (x +ℤ pos 1) high z xs h m in absurd (omega (arith, ints, r, q, e))
    by (inr q) = q

-- two lists that ascend with the same members are one
same_members : (low low' high : ℤ) (xs ys : List ℤ) → AscendFrom low high xs
    → AscendFrom low' high ys → ((z : ℤ) → IsIn z xs → IsIn z ys)
    → ((z : ℤ) → IsIn z ys → IsIn z xs) → xs ≡ ys
same_members low low' high [] [] h g f b = refl
same_members low low' high [] (y ∷ ys) h g f b = absurd (b y (inl refl))
same_members low low' high (x ∷ xs) [] h g f b = absurd (f x (inl refl))
same_members low low' high (x ∷ xs) (y ∷ ys) h g f b =
    let p = in_above y high x (y ∷ ys) (omega (arith, ints), g.1, g.2) (f x (inl refl)) in
    let q = in_above x high y (x ∷ xs) (omega (arith, ints), h.1, h.2) (b y (inl refl)) in
    let e : x ≡ y = omega (arith, ints, p, q) in
    ap₂ (λ z zs. z ∷ zs) e (same_members (x +ℤ pos 1) (y +ℤ pos 1) high xs ys h.2 g.2
    (λ z. rest_in x y high z xs ys e h.2 (f z)) (λ z. rest_in y x high z ys xs (sym e) g.2 (b z)))

pub one_set : (base : Kind) (xs ys : List ℤ) (t : Shape) → ShowsSet base xs t → ShowsSet base ys t
    → xs ≡ ys
one_set base xs ys t p q = same_members (first_ordinal base) (first_ordinal base)
    (last_ordinal base) xs ys p.0 q.0 (λ z m. (q.1 z).1 ((p.1 z).0 m))
    (λ z m. (p.1 z).1 ((q.1 z).0 m))

-- VALUES

-- what opens into the same form is one
pub alike_by : {X L : Type 0} (out : X → L) (roll : L → X) → ((x : X) → roll (out x) ≡ x)
    → (v w : X) (l m : L) → out v ≡ l → out w ≡ m → l ≡ m → v ≡ w
alike_by out roll back v w l m e f g =
    sym (back v) ∙ (ap roll (e ∙ (g ∙ sym f)) ∙ back w)

alike : (v w : Value) (l m : ValueLayer) → out-Value v ≡ l → out-Value w ≡ m → l ≡ m → v ≡ w
alike v w l m e f g = alike_by out-Value roll-Value roll-out-Value v w l m e f g

-- the kinds of the parts of a group are one list
module _ (Is : List Kind → Type 0) where
  pub same_array : {index of index' of' : Kind} {l : KindLayer} → l ≡ kinds.ArrayOf index of
      → l ≡ kinds.ArrayOf index' of' → Is (replicate (ordinal_count index') of')
      → Is (replicate (ordinal_count index) of)
  same_array {index} {of} {index'} {of'} e f s =
      let i : index' ≡ index = cc in
      let o : of' ≡ of = cc in
      subst (λ (j : Kind). Is (replicate (ordinal_count j) of)) i
      (subst (λ (j : Kind). Is (replicate (ordinal_count index') j)) o s)

  pub same_fields : {fs gs : List FieldKind} {l : KindLayer} → l ≡ kinds.Fields fs
      → l ≡ kinds.Fields gs → Is (field_kinds gs) → Is (field_kinds fs)
  same_fields {fs} {gs} e f s =
      let i : gs ≡ fs = cc in subst (λ (l : List FieldKind). Is (field_kinds l)) i s

pub same_set : {base base' : Kind} (zs : List ℤ) (t : Shape) {l : KindLayer}
    → l ≡ kinds.SetOf base → l ≡ kinds.SetOf base' → ShowsSet base' zs t → ShowsSet base zs t
same_set {base} {base'} zs t e f s =
    let i : base' ≡ base = cc in subst (λ (j : Kind). ShowsSet j zs t) i s

pub not_both : {A : Type 0} {index of : Kind} {fs : List FieldKind} {l : KindLayer}
    → l ≡ kinds.ArrayOf index of → l ≡ kinds.Fields fs → A
not_both e f = absurd cc

mutual
  pub one_value : (k : Kind) (v w : Value) (t : Shape) → ShowsValue k v t → ShowsValue k w t → v ≡ w
  one_value k v w _ (undefined s e) (undefined r f) =
      alike v w seen.Undefined seen.Undefined e f refl
  one_value k v w _ (ordinal {t = t} z e s) (ordinal y f r) =
      alike v w (seen.Ordinal z) (seen.Ordinal y) e f (ap seen.Ordinal (one_ordinal k z y t s r))
  one_value k v w _ (ordinal {t = t} z e s) (set base zs i f r) =
      absurd (no_ordinal_set k base z t i s)
  one_value k v w _ (set base zs i e s) (ordinal {t = t} z f r) =
      absurd (no_ordinal_set k base z t i r)
  one_value k v w _ (set {t = t} base zs i e s) (set base' ys j f r) =
      alike v w (seen.Set zs) (seen.Set ys) e f
      (ap seen.Set (one_set base zs ys t s (same_set ys t i j r)))
  one_value k v w _ (array {t = t} index of ps i e s) (array index' of' qs j f r) =
      alike v w (seen.Group ps) (seen.Group qs) e f
      (ap seen.Group (one_list (replicate (ordinal_count index) of) ps qs t s
      (same_array (λ ks. ShowsValues ks qs t) i j r)))
  one_value k v w _ (array {t = t} index of ps i e s) (fields fs qs j f r) = not_both i j
  one_value k v w _ (fields {t = t} fs ps i e s) (array index of qs j f r) = not_both j i
  one_value k v w _ (fields {t = t} fs ps i e s) (fields gs qs j f r) =
      alike v w (seen.Group ps) (seen.Group qs) e f
      (ap seen.Group (one_list (field_kinds fs) ps qs t s
      (same_fields (λ ks. ShowsValues ks qs t) i j r)))

  one_list : (ks : List Kind) (vs ws : List Value) (t : Shape) → ShowsValues ks vs t
      → ShowsValues ks ws t → vs ≡ ws
  one_list _ _ _ _ no_values no_values = refl
  one_list _ _ _ _ (one_more {k = k} {ks} {v} {vs} {t} {u} s r) (one_more {v = w} {vs = ws} p q) =
      ap₂ (λ x xs. x ∷ xs) (one_value k v w t s p) (one_list ks vs ws u r q)

-- LISTS

module _ {A B : Type 0} (R : A → B → Shape → Type 0) (one : (a : A) (b c : B) (t : Shape)
    → R a b t → R a c t → b ≡ c) where
  one_shown : (xs : List A) (ys zs : List B) (t : Shape) → AreShown R xs ys t
      → AreShown R xs zs t → ys ≡ zs
  one_shown [] [] [] t p q = refl
  one_shown (x ∷ xs) (y ∷ ys) (z ∷ zs) (both t u) p q =
      ap₂ (λ b bs. b ∷ bs) (one x y z t p.0 q.0) (one_shown xs ys zs u p.1 q.1)
  one_shown [] [] (z ∷ zs) t p q = absurd q
  one_shown [] (y ∷ ys) zs t p q = absurd p
  one_shown (x ∷ xs) [] zs t p q = absurd p
  one_shown (x ∷ xs) (y ∷ ys) [] t p q = absurd q
  one_shown (x ∷ xs) (y ∷ ys) (z ∷ zs) _ p q = absurd p

  one_enclosed : (xs : List A) (ys zs : List B) (t : Shape) → AreEnclosed R xs ys t
      → AreEnclosed R xs zs t → ys ≡ zs
  one_enclosed xs ys zs (both t nothing) p q = one_shown xs ys zs t p q
  one_enclosed xs ys zs _ p q = absurd p

  pub one_bracketed : (xs : List A) (ys zs : List B) (t : Shape) → AreBracketed R xs ys t
      → AreBracketed R xs zs t → ys ≡ zs
  one_bracketed (x ∷ xs) ys zs t p q = one_enclosed (x ∷ xs) ys zs t p q
  one_bracketed [] [] [] t p q = refl
  one_bracketed [] [] (z ∷ zs) t p q = absurd q
  one_bracketed [] (y ∷ ys) zs t p q = absurd p

-- the values of parameters, and subscripts
pub one_values : (ks : List Kind) (vs ws : List Value) (t : Shape)
    → AreBracketed ShowsValue ks vs t → AreBracketed ShowsValue ks ws t → vs ≡ ws
one_values = one_bracketed ShowsValue one_value

pub one_index : (ks : List Kind) (zs ws : List ℤ) (t : Shape)
    → AreBracketed ShowsOrdinal ks zs t → AreBracketed ShowsOrdinal ks ws t → zs ≡ ws
one_index = one_bracketed ShowsOrdinal one_ordinal
