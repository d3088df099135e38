-- Values, and what was seen of them, as they are read.
use Rattle.std.proofs.Common.{◌≡◌, ℕ, zero, suc, ◌+◌, ◌-◌, ◌<◌, ◌≤◌, ℤ, Bool, true, false, IsTrue}
use Rattle.std.proofs.Common.{List, [], ◌∷◌, length, drop, replicate, refl, sym, ap, ◌∙◌, subst}
use Rattle.std.proofs.Common.{◌==◌, arith, Option, Some, None, IfSome, slice_get}
use Rattle.std.specs.Option.{IsSomeAnd}
use Rattle.est_lexer.specs.declared.kind.Symbol.{Symbol}
use Rattle.est_lexer.specs.declared.kind.Symbol.TheVariants as symbols
use Rattle.text_reader.specs.Grammar.{done, rule, nothing, both, left, right}
use Rattle.text_reader.specs.Marks.{can_be_empty}
use Rattle.text_reader.specs.Shown.{node}
use Rattle.est_syntax.specs.declared.kind.Kind.{Kind, out-Kind}
use Rattle.est_syntax.specs.declared.kind.Kind.TheOpen as kinds
use Rattle.est_syntax.specs.declared.kind.FieldKind.{FieldKind}
use Rattle.est_values.specs.declared.value.Value.{Value, out-Value}
use Rattle.est_values.specs.declared.value.Value.TheOpen as opened
use Rattle.est_values.specs.declared.value.Value.TheVariants as value
use Rattle.est_values.specs.FittingValues.{KindLayer, scalar_of, ordinal_count}
use Rattle.text_reader.specs.declared.reader.Reader.{Reader}
use Rattle.text_reader.specs.declared.outcome.Outcome.{Outcome}
use Rattle.text_reader.specs.declared.outcome.Outcome.TheVariants.{Well, Wrong, TooDeep, NoMemory}
use Rattle.text_reader.specs.Moving.{Does, Sees, Takes, Still, Kept}
use Rattle.text_reader.specs.Going.{Shape, Finds, Fails, Goes}
use Rattle.text_reader.proofs.Going.{take, goes_still, rule_goes}
use Rattle.text_reader.proofs.Steps.{still_well}
use Rattle.text_values.specs.TraceGrammar as grammar
use Rattle.text_values.specs.TraceGrammar.{Production, Rule, production, marks, enclosed, bracketed}
use Rattle.text_values.specs.TraceGrammar.{symbol, scalar, group, formed, value_by}
use Rattle.text_values.specs.TraceGrammar.{value_of, a_value, field_kinds}
use Rattle.text_values.specs.ValueReading.{plain, Reads}
use Rattle.text_values.specs.ValueShapes.{AreShown, AreEnclosed, AreBracketed, ShowsOrdinal}
use Rattle.text_values.specs.ValueShapes.{ShowsSet, ShowsValue, ShowsValues, undefined, ordinal}
use Rattle.text_values.specs.ValueShapes.{set, array, fields, no_values, one_more}
use Rattle.text_values.specs.inside.Gathering.{after, TakesComma, ReadsNext}
use Rattle.text_values.specs.inside.Scalars.{ShowsScalar, ShowsOrdinalValue, ShowsSetValue}
use Rattle.text_values.proofs.Solid.{ordinal_solid}
use Rattle.text_values.proofs.Known.{known}
use Rattle.text_values.proofs.Walks.{AreApart, done_goes}
use Rattle.text_values.proofs.Places.{some_same}
use Rattle.text_values.proofs.Chosen.{still_goes}
use Rattle.text_values.proofs.SetParts.{underscore, ordinal_apart, set_apart, undefined_goes}
use Rattle.text_values.proofs.SetParts.{defined_goes}

-- STEPS

comma_goes : (n : ℕ) {g : Rule} {A B C : Reader} {t : Shape} → TakesComma n A B
    → Goes plain g B (node t) C → Goes plain (after n g) A (node t) C
comma_goes zero {g} {C = C} {t} e y = subst (λ (r : Reader). Goes plain g r (node t) C) e y
comma_goes (suc n) x y = take known x y

-- an item that is read and put last
pub next_read : {V : Type 0} (g : Rule) (Is : V → Shape → Type 0) (n : ℕ) (x y : V)
    {A B C D : Reader} {xs ys : List V} → x ≡ y → TakesComma n A B → Reads g (Is y) B C
    → Kept C D xs x ys → ReadsNext (after n g) Is A xs D ys
next_read g Is n x y e c r k = record {
  shape = r.shape;
  goes = comma_goes n c (goes_still r.goes k.still (λ w. refl));
  is = λ w. (x, subst (λ v. Is v r.shape) (sym e) (r.is (still_well k.still w)), k.added w);
}

-- nothing was read before
pub reads_after : {g : Rule} {Is : Shape → Type 0} {A B C : Reader} → Still A B → Reads g Is B C
    → Reads g Is A C
reads_after s r = record { shape = r.shape; goes = still_goes s r.goes; is = r.is }

-- there was no memory
spent : (P P' : ℕ → Type 0) (Q : ℕ → Bool → Type 0) (a b : ℕ) (o o' : Outcome)
    → Does P (λ i z. ⊥) a o b o' → (o' ≡ Well → ⊥) → Does P' Q a o b o'
spent P P' Q a b Well Well x n = absurd (n refl)
spent P P' Q a b Well Wrong x n = absurd x
spent P P' Q a b Well TooDeep x n = absurd x
spent P P' Q a b Well NoMemory x n = tt
spent P P' Q a b Wrong o' x n = x
spent P P' Q a b TooDeep o' x n = x
spent P P' Q a b NoMemory o' x n = x

pub reads_none : (g : Rule) (Is : Shape → Type 0) {A B : Reader} → Still A B
    → (B.outcome ≡ Well → ⊥) → Reads g Is A B
reads_none g Is {A} {B} s n = record {
  shape = nothing;
  goes = record {
    moves = spent (λ b. b ≡ A.at) (Finds plain A.tokens.now g A.levels A.at (node nothing))
        (Fails plain A.tokens.now g A.levels A.at) A.at B.at A.outcome B.outcome s.stays n;
    same = s.same;
  };
  is = λ w. absurd (n w);
}

-- LISTS

pub bracketed_read : {K V : Type 0} (f : K → Rule) (R : K → V → Shape → Type 0)
    (first last : Symbol) (ks : List K) (vs : List V) {A B : Reader} → (ks ≡ [] → ⊥)
    → Reads (enclosed first last f ks) (AreEnclosed R ks vs) A B
    → Reads (bracketed first last f ks) (AreBracketed R ks vs) A B
bracketed_read f R first last [] vs n r = absurd (n refl)
bracketed_read f R first last (k ∷ ks) vs n r =
    record { shape = r.shape; goes = r.goes; is = r.is }

pub nothing_read : {K V : Type 0} (f : K → Rule) (R : K → V → Shape → Type 0)
    (first last : Symbol) (ks : List K) (vs : List V) {A : Reader} → ks ≡ [] → vs ≡ []
    → Reads (bracketed first last f ks) (AreBracketed R ks vs) A A
nothing_read f R first last ks vs {A} e q =
    subst (λ l. Reads (bracketed first last f l) (AreBracketed R l vs) A A) (sym e)
    (subst (λ l. Reads (bracketed first last f []) (AreBracketed R [] l) A A) (sym q)
    record { shape = nothing; goes = done_goes; is = λ w. tt })

-- whether a list is empty
pub empty_list : {X : Type 0} (xs : List X) → true ≡ (length xs == 0) → xs ≡ []
empty_list [] e = refl
empty_list (x ∷ xs) e = absurd (filled (length xs) e)
  where
    filled : (n : ℕ) → true ≡ (suc n == 0) → ⊥
    filled n q = grind arith

pub not_empty : {X : Type 0} (xs : List X) → false ≡ (length xs == 0) → xs ≡ [] → ⊥
not_empty [] e q = cc
not_empty (x ∷ xs) e q = cc

-- the item at a place, and those after it
pub drop_item : {X : Type 0} (xs : List X) (i : ℕ) (x : X) → slice_get xs i ≡ Some x
    → drop i xs ≡ x ∷ drop (i + 1) xs
drop_item [] i x e = absurd cc
drop_item (y ∷ ys) zero x e = ap (λ z. z ∷ ys) (some_same e)
drop_item (y ∷ ys) (suc i) x e =
    let q : suc (i + 1) ≡ suc i + 1 = omega arith in
    drop_item ys i x e ∙ ap (λ n. x ∷ drop n (y ∷ ys)) q

pub replicated : {X : Type 0} (n i : ℕ) (x : X) → i < n
    → replicate (n - i) x ≡ x ∷ replicate (n - (i + 1)) x
replicated n i x l =
    let e : n - i ≡ suc (n - (i + 1)) = omega (arith, l) in ap (λ m. replicate m x) e

pub none_replicated : {X : Type 0} (n i : ℕ) (x : X) → n ≤ i → replicate (n - i) x ≡ []
none_replicated n i x l = let e : n - i ≡ 0 = omega (arith, l) in ap (λ m. replicate m x) e

-- SCALARS

module _ {X V : Type 0} (g : Rule) (D : AreApart g (symbol symbols.Underscore done))
    (solid : can_be_empty marks g ≡ false) (R : X → Shape → Type 0) (made : X → V) (none : V)
  where
    scalar_undefined : {A B : Reader} → Sees A underscore true → Takes underscore A B
        → Reads (scalar g) (ShowsScalar R made none none) A B
    scalar_undefined s x = record {
      shape = right nothing;
      goes = undefined_goes g D solid s x;
      is = λ w. refl;
    }

    scalar_defined : (v : V) (x : X) {A B : Reader} → v ≡ made x → Sees A underscore false
        → Reads g (R x) A B → Reads (scalar g) (ShowsScalar R made none v) A B
    scalar_defined v x e s r = record {
      shape = left r.shape;
      goes = defined_goes g D solid s r.goes;
      is = λ w. (x, e, r.is w);
    }

    -- it was read, and then memory ran out
    scalar_lost : (v : V) (x : X) {A B C : Reader} → Sees A underscore false → Reads g (R x) A B
        → Still B C → (C.outcome ≡ Well → ⊥) → Reads (scalar g) (ShowsScalar R made none v) A C
    scalar_lost v x s r q n = record {
      shape = left r.shape;
      goes = goes_still (defined_goes g D solid s r.goes) q (λ w. refl);
      is = λ w. absurd (n w);
    }

-- an ordinal, of which something is made
module _ {V : Type 0} (k : Kind) (made : ℤ → V) (none : V) where
  pub ordinal_undefined : {A B : Reader} → Sees A underscore true → Takes underscore A B
      → Reads (scalar (grammar.ordinal k)) (ShowsScalar (ShowsOrdinal k) made none none) A B
  ordinal_undefined s x = scalar_undefined (grammar.ordinal k) (ordinal_apart k) (ordinal_solid k)
      (ShowsOrdinal k) made none s x

  pub ordinal_defined : (v : V) (z : ℤ) {A B : Reader} → v ≡ made z → Sees A underscore false
      → Reads (grammar.ordinal k) (λ t. ShowsOrdinal k z t) A B
      → Reads (scalar (grammar.ordinal k)) (ShowsScalar (ShowsOrdinal k) made none v) A B
  ordinal_defined v z e s r = scalar_defined (grammar.ordinal k) (ordinal_apart k)
      (ordinal_solid k) (ShowsOrdinal k) made none v z e s r

-- a set, of which something is made
module _ {V : Type 0} (base : Kind) (made : List ℤ → V) (none : V) where
  pub set_undefined : {A B : Reader} → Sees A underscore true → Takes underscore A B
      → Reads (scalar (grammar.set base)) (ShowsScalar (ShowsSet base) made none none) A B
  set_undefined s x =
      scalar_undefined (grammar.set base) (set_apart base) refl (ShowsSet base) made none s x

  pub set_defined : (v : V) (zs : List ℤ) {A B : Reader} → v ≡ made zs → Sees A underscore false
      → Reads (grammar.set base) (λ t. ShowsSet base zs t) A B
      → Reads (scalar (grammar.set base)) (ShowsScalar (ShowsSet base) made none v) A B
  set_defined v zs e s r =
      scalar_defined (grammar.set base) (set_apart base) refl (ShowsSet base) made none v zs e s r

  pub set_lost : (v : V) (zs : List ℤ) {A B C : Reader} → Sees A underscore false
      → Reads (grammar.set base) (λ t. ShowsSet base zs t) A B → Still B C
      → (C.outcome ≡ Well → ⊥)
      → Reads (scalar (grammar.set base)) (ShowsScalar (ShowsSet base) made none v) A C
  set_lost v zs s r q n =
      scalar_lost (grammar.set base) (set_apart base) refl (ShowsSet base) made none v zs s r q n

-- FORMS

-- a production
pub reads_rule : (p : Production) {Is : Shape → Type 0} {A B : Reader}
    → Reads (production p) Is A B → Reads (rule p) Is A B
reads_rule p r = record { shape = r.shape; goes = rule_goes known r.goes; is = r.is }

-- a scalar, by its form
pub scalar_as : {X V : Type 0} (R : X → Shape → Type 0) (made : X → V) (none v : V)
    (As : Shape → Type 0) → ((x : X) (u : Shape) → v ≡ made x → R x u → As (left u))
    → (v ≡ none → As (right nothing)) → (t : Shape) → ShowsScalar R made none v t → As t
scalar_as R made none v As f g (left t) h = f h.0 t h.1 h.2
scalar_as R made none v As f g (right nothing) h = g h
scalar_as R made none v As f g _ h = absurd h

-- what stands in brackets, by its items
pub enclosed_as : {V : Type 0} (R : Kind → V → Shape → Type 0) (ks : List Kind) (vs : List V)
    (As : Shape → Type 0) → ((u : Shape) → AreShown R ks vs u → As (both u nothing)) → (t : Shape)
    → AreEnclosed R ks vs t → As t
enclosed_as R ks vs As f (both t nothing) h = f t h
enclosed_as R ks vs As f _ h = absurd h

-- items one after the other
pub all_shown : {V : Type 0} (R : Kind → V → Shape → Type 0)
    (Each : List Kind → List V → Shape → Type 0) → Each [] [] nothing
    → ((k : Kind) (ks : List Kind) (v : V) (vs : List V) (t u : Shape) → R k v t → Each ks vs u
    → Each (k ∷ ks) (v ∷ vs) (both t u))
    → (ks : List Kind) (vs : List V) (t : Shape) → AreShown R ks vs t → Each ks vs t
all_shown R Each none more [] [] nothing h = none
all_shown R Each none more (k ∷ ks) (v ∷ vs) (both t u) h =
    more k ks v vs t u h.0 (all_shown R Each none more ks vs u h.1)
all_shown R Each none more [] (v ∷ vs) t h = absurd h
all_shown R Each none more (k ∷ ks) [] t h = absurd h
all_shown R Each none more [] [] _ h = absurd h
all_shown R Each none more (k ∷ ks) (v ∷ vs) _ h = absurd h

module _ (part : Kind → Rule) (k : Kind) (l : KindLayer) (same : out-Kind k ≡ l)
    (As : Shape → Type 0) where
  -- a value of a kind of this form
  pub formed_read : (g : Rule) {Is : Shape → Type 0} {A B : Reader} → formed part l k ≡ g
      → ((t : Shape) → Is t → As t) → Reads g Is A B → Reads (formed part (out-Kind k) k) As A B
  formed_read g {A = A} {B} f more r = record {
    shape = r.shape;
    goes = subst (λ (m : KindLayer). Goes plain (formed part m k) A (node r.shape) B) (sym same)
        (subst (λ h. Goes plain h A (node r.shape) B) (sym f) r.goes);
    is = λ w. more r.shape (r.is w);
  }

  -- one that is made of another one of the same kind
  pub formed_of : {K : Type 0} (f : K → Rule) (Is : K → Shape → Type 0) (x y : K) {A B : Reader}
      → formed part l k ≡ f y → x ≡ y → ((t : Shape) → Is y t → As t)
      → Reads (f x) (Is x) A B → Reads (formed part (out-Kind k) k) As A B
  formed_of f Is x y {A} {B} e q more r =
      formed_read (f y) e more (subst (λ z. Reads (f z) (Is z) A B) q r)

-- VALUES

as_scalar : (k : Kind) (v : Value) → IsTrue (scalar_of (out-Kind k)) → (t : Shape)
    → ShowsOrdinalValue k v t → ShowsValue k v t
as_scalar k v s = scalar_as (ShowsOrdinal k) value.Ordinal value.Undefined v (ShowsValue k v)
    (λ z u e h. ordinal z (ap out-Value e ∙ value.outs-Ordinal z) h)
    (λ e. undefined s (ap out-Value e ∙ value.outs-Undefined))

pub scalar_read : (k : Kind) (v : Value) (l : KindLayer) {A B : Reader} → out-Kind k ≡ l
    → scalar_of l ≡ true → value_by l k ≡ scalar (grammar.ordinal k)
    → Reads (scalar (grammar.ordinal k)) (λ t. ShowsOrdinalValue k v t) A B
    → Reads (a_value k) (λ t. ShowsValue k v t) A B
scalar_read k v l e s f r = reads_rule (value_of k)
    (formed_read a_value k l e (ShowsValue k v) (scalar (grammar.ordinal k)) f
    (as_scalar k v (ap scalar_of e ∙ s)) r)

as_set : (k base : Kind) (v : Value) → out-Kind k ≡ kinds.SetOf base → (t : Shape)
    → ShowsSetValue base v t → ShowsValue k v t
as_set k base v e = scalar_as (ShowsSet base) value.Set value.Undefined v (ShowsValue k v)
    (λ zs u q h. set base zs e (ap out-Value q ∙ value.outs-Set zs) h)
    (λ q. undefined (ap scalar_of e) (ap out-Value q ∙ value.outs-Undefined))

pub set_read : (k base given : Kind) (v : Value) {A B : Reader} → out-Kind k ≡ kinds.SetOf base
    → given ≡ base → Reads (scalar (grammar.set given)) (λ t. ShowsSetValue given v t) A B
    → Reads (a_value k) (λ t. ShowsValue k v t) A B
set_read k base given v e q r = reads_rule (value_of k)
    (formed_of a_value k (kinds.SetOf base) e (ShowsValue k v)
    (λ (j : Kind). scalar (grammar.set j)) (λ (j : Kind) (t : Shape). ShowsSetValue j v t) given
    base refl q (as_set k base v e) r)

-- values one after the other
pub shown_values : (ks : List Kind) (vs : List Value) (t : Shape) → AreShown ShowsValue ks vs t
    → ShowsValues ks vs t
shown_values ks vs t h =
    all_shown ShowsValue ShowsValues no_values (λ k ks v vs t u h r. one_more h r) ks vs t h

-- values in parentheses, where there are some
abbrev IsGroupOf : Option (List Value) → List Kind → Shape → Type 0
IsGroupOf o ks t = IsSomeAnd o (λ vs. AreEnclosed ShowsValue ks vs t)

-- a group that was read
grouped : (ks : List Kind) (o : Option (List Value)) (v : Value) (k : Kind)
    → ((vs : List Value) (u : Shape) → out-Value v ≡ opened.Group vs → ShowsValues ks vs u
    → ShowsValue k v (both u nothing))
    → IfSome o (λ vs. v ≡ value.Group vs) → (t : Shape) → IsGroupOf o ks t → ShowsValue k v t
grouped ks (Some vs) v k f e t h = enclosed_as ShowsValue ks vs (ShowsValue k v)
    (λ u g. f vs u (ap out-Value e ∙ value.outs-Group vs) (shown_values ks vs u g)) t h
grouped ks None v k f e t h = absurd h

pub array_read : (k index of given : Kind) (n : ℕ) (v : Value) (o : Option (List Value))
    {A B : Reader} → out-Kind k ≡ kinds.ArrayOf index of → given ≡ of → n ≡ ordinal_count index
    → IfSome o (λ vs. v ≡ value.Group vs)
    → Reads (group (replicate n given))
    (λ t. IsSomeAnd o (λ vs. AreEnclosed ShowsValue (replicate n given) vs t)) A B
    → Reads (a_value k) (λ t. ShowsValue k v t) A B
array_read k index of given n v o e q f g r =
    let ks = replicate (ordinal_count index) of in
    let same : replicate n given ≡ ks =
    ap (λ (j : Kind). replicate n j) q ∙ ap (λ m. replicate m of) f in
    reads_rule (value_of k) (formed_of a_value k (kinds.ArrayOf index of) e (ShowsValue k v) group
    (IsGroupOf o) (replicate n given) ks refl same
    (grouped ks o v k (λ vs u c h. array index of vs e c h) g) r)

pub record_read : (k : Kind) (fs given : List FieldKind) (v : Value) (o : Option (List Value))
    {A B : Reader} → out-Kind k ≡ kinds.Fields fs → given ≡ fs
    → IfSome o (λ vs. v ≡ value.Group vs)
    → Reads (group (field_kinds given))
    (λ t. IsSomeAnd o (λ vs. AreEnclosed ShowsValue (field_kinds given) vs t)) A B
    → Reads (a_value k) (λ t. ShowsValue k v t) A B
record_read k fs given v o e q g r =
    let ks = field_kinds fs in
    let same : field_kinds given ≡ ks = ap (λ (l : List FieldKind). field_kinds l) q in
    reads_rule (value_of k) (formed_of a_value k (kinds.Fields fs) e (ShowsValue k v) group
    (IsGroupOf o) (field_kinds given) ks refl same
    (grouped ks o v k (λ vs u c h. fields fs vs e c h) g) r)
