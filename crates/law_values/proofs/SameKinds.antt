-- Alike kinds are those that the same values fit.
use Rattle.std.specs.Prelude.{slice_get}
use Rattle.std.specs.Int.{int_gap}
use Rattle.std.specs.Ordering.{int_eq}
use Rattle.std.proofs.Common.{◌≡◌, refl, sym, ap, subst, ◌∙◌, arith, ℕ, zero, suc, ℤ, pos, negsuc}
use Rattle.std.proofs.Common.{◌≤ℤ◌, ◌+ℤ◌, Bool, true, false, ◌&&◌, List, [], ◌∷◌, length, Some}
use Rattle.std.proofs.Common.{true≢false, eqb-true}
use Rattle.std.proofs.lemmas.Option.{same_Some, none-some}
use Rattle.std.proofs.lemmas.Bool.Decides.{Decides-int_eq}
use Rattle.std.proofs.lemmas.Int.{ints}
use Rattle.est_syntax.specs.Names.{is_name}
use Rattle.est_syntax.specs.Kinds.{is_ordinal}
use Rattle.est_syntax.specs.declared.kind.Kind.{Kind, out-Kind}
use Rattle.est_syntax.specs.declared.kind.FieldKind.{FieldKind}
use Rattle.est_syntax.specs.declared.kind.Kind.TheOpen as seen
use Rattle.est_values.specs.declared.value.Value.{Value}
use Rattle.est_values.specs.FittingValues.{KindLayer, first_of, last_of, first_ordinal}
use Rattle.est_values.specs.FittingValues.{last_ordinal, ordinal_count, scalar_of, last_constant}
use Rattle.est_values.specs.FittingValues.{IsOrdinalOf, AscendFrom, AreMembersOf, is_scalar, Fits}
use Rattle.est_values.specs.FittingValues as fitting
use Rattle.est_values.specs.Alike.{is_alike, is_alike_field, are_alike}
use Rattle.est_values.proofs.Rows.{layer_alike, layers_alike}
use Rattle.law_values.specs.SameKinds.{HasSizes, is_unnamed, AreSame}
use Rattle.law_values.specs.SoundnessLaws.{AlikeKindsHaveOneValue}
use Rattle.law_values.specs.SameKinds as same

-- LAYERS

pub same_base : (l : KindLayer) (b c : Kind) → l ≡ seen.SetOf b → l ≡ seen.SetOf c → b ≡ c
same_base l b c e g = cc

pub same_index : (l : KindLayer) (i of h held : Kind) → l ≡ seen.ArrayOf i of
    → l ≡ seen.ArrayOf h held → i ≡ h
same_index l i of h held e g = cc

pub same_held : (l : KindLayer) (i of h held : Kind) → l ≡ seen.ArrayOf i of
    → l ≡ seen.ArrayOf h held → of ≡ held
same_held l i of h held e g = cc

pub same_fields : (l : KindLayer) (fs gs : List FieldKind) → l ≡ seen.Fields fs
    → l ≡ seen.Fields gs → fs ≡ gs
same_fields l fs gs e g = cc

-- an ordinal kind is that of scalars
ordinals_scalar : (k : Kind) → is_ordinal k ≡ true → is_scalar k ≡ true
ordinals_scalar k h = by (out-Kind k) refl
  where
    by : (l : KindLayer) → out-Kind k ≡ l → is_scalar k ≡ true
    by (seen.ArrayOf i of) e = let no : false ≡ true = rw e at h in absurd (true≢false (sym no))
    by (seen.Fields fs) e = let no : false ≡ true = rw e at h in absurd (true≢false (sym no))
    by seen.Integer e = ap scalar_of e
    by seen.Boolean e = ap scalar_of e
    by seen.Char e = ap scalar_of e
    by (seen.Enumeration place names) e = ap scalar_of e
    by (seen.Part host low high) e = ap scalar_of e
    by (seen.SetOf base) e = ap scalar_of e

-- ORDINALS

-- kinds that the same values fit have the same ordinals
pub same_bounds : (j k : Kind) → AreSame j k
    → (first_ordinal j ≡ first_ordinal k) × (last_ordinal j ≡ last_ordinal k)
same_bounds j k (same.ordinals a b f l) = (f, l)
same_bounds j k (same.sets b c e g f l) =
    (ap first_of e ∙ sym (ap first_of g), ap last_of e ∙ sym (ap last_of g))
same_bounds j k (same.arrays i of h held e g n s) =
    (ap first_of e ∙ sym (ap first_of g), ap last_of e ∙ sym (ap last_of g))
same_bounds j k (same.records fs gs e g n s) =
    (ap first_of e ∙ sym (ap first_of g), ap last_of e ∙ sym (ap last_of g))

pub same_count : (j k : Kind) → AreSame j k → ordinal_count j ≡ ordinal_count k
same_count j k s = let b = same_bounds j k s in
    λ i. int_gap (b.0 i) (b.1 i +ℤ pos 1)

-- ORDER

pub same_back : (j k : Kind) → AreSame j k → AreSame k j
same_back j k (same.ordinals a b f l) = same.ordinals b a (sym f) (sym l)
same_back j k (same.sets b c e g f l) = same.sets c b g e (sym f) (sym l)
same_back j k (same.arrays i of h held e g n s) =
    same.arrays h held i of g e (sym n) (same_back of held s)
same_back j k (same.records fs gs e g n s) = same.records gs fs g e (sym n)
    (λ i f h a b. same_back h.kind f.kind (s i h f b a))

-- what ordinal kinds are not
pub no_set : (k base : Kind) → is_ordinal k ≡ true → out-Kind k ≡ seen.SetOf base → ⊥
no_set k base h e = let no : false ≡ true = rw e at h in true≢false (sym no)

pub no_array : (k i of : Kind) → is_ordinal k ≡ true → out-Kind k ≡ seen.ArrayOf i of → ⊥
no_array k i of h e = let no : false ≡ true = rw e at h in true≢false (sym no)

pub no_record : (k : Kind) (fs : List FieldKind) → is_ordinal k ≡ true → out-Kind k ≡ seen.Fields fs
    → ⊥
no_record k fs h e = let no : false ≡ true = rw e at h in true≢false (sym no)

-- no set is an array, and so on
pub set_array : (k b i of : Kind) → out-Kind k ≡ seen.SetOf b → out-Kind k ≡ seen.ArrayOf i of → ⊥
set_array k b i of e g = true≢false (ap scalar_of (sym e ∙ g))

pub set_record : (k b : Kind) (fs : List FieldKind) → out-Kind k ≡ seen.SetOf b
    → out-Kind k ≡ seen.Fields fs → ⊥
set_record k b fs e g = true≢false (ap scalar_of (sym e ∙ g))

abbrev array_layer : KindLayer → Bool
array_layer (seen.ArrayOf i of) = true
array_layer _ = false

pub array_record : (k i of : Kind) (fs : List FieldKind) → out-Kind k ≡ seen.ArrayOf i of
    → out-Kind k ≡ seen.Fields fs → ⊥
array_record k i of fs e g = true≢false (ap array_layer (sym e ∙ g))

-- the other one of a pair of lists as long
pub other_there : (fs gs : List FieldKind) (i : ℕ) (f : FieldKind) → length fs ≡ length gs
    → slice_get fs i ≡ Some f → (g : FieldKind) × (slice_get gs i ≡ Some g)
other_there [] gs i f n h = cc
other_there (x ∷ fs) [] i f n h = cc
other_there (x ∷ fs) (g ∷ gs) zero f n h = (g, refl)
other_there (x ∷ fs) (g ∷ gs) (suc i) f n h =
    other_there fs gs i f (let m : length fs ≡ length gs = omega (arith, n) in m) h

pub same_on : (j k l : Kind) → AreSame j k → AreSame k l → AreSame j l
same_on j k l (same.ordinals a b f g) (same.ordinals c d h m) = same.ordinals a d (f ∙ h) (g ∙ m)
same_on j k l (same.ordinals a b f g) (same.sets x y e i h m) = absurd (no_set k x b e)
same_on j k l (same.ordinals a b f g) (same.arrays x of y held e i n s) =
    absurd (no_array k x of b e)
same_on j k l (same.ordinals a b f g) (same.records x y e i n s) = absurd (no_record k x b e)
same_on j k l (same.sets b c e i f g) (same.ordinals a d h m) = absurd (no_set k c a i)
same_on j k l (same.sets b c e i f g) (same.sets x y d u h m) =
    let s = same_base (out-Kind k) c x i d in
    same.sets b y e u (f ∙ ap first_ordinal s ∙ h) (g ∙ ap last_ordinal s ∙ m)
same_on j k l (same.sets b c e i f g) (same.arrays x of y held d u n s) =
    absurd (set_array k c x of i d)
same_on j k l (same.sets b c e i f g) (same.records x y d u n s) = absurd (set_record k c x i d)
same_on j k l (same.arrays x of y held e i n s) (same.ordinals a d h m) =
    absurd (no_array k y held a i)
same_on j k l (same.arrays x of y held e i n s) (same.sets b c d u f g) =
    absurd (set_array k b y held d i)
same_on j k l (same.arrays x of y held e i n s) (same.arrays v w p q d u m r) =
    let a = same_index (out-Kind k) y held v w i d in
    let b = same_held (out-Kind k) y held v w i d in
    same.arrays x of p q e u (n ∙ ap ordinal_count a ∙ m)
    (same_on of held q s (subst (λ z. AreSame z q) (sym b) r))
same_on j k l (same.arrays x of y held e i n s) (same.records v w d u m r) =
    absurd (array_record k y held v i d)
same_on j k l (same.records x y e i n s) (same.ordinals a d h m) = absurd (no_record k y a i)
same_on j k l (same.records x y e i n s) (same.sets b c d u f g) = absurd (set_record k b y d i)
same_on j k l (same.records x y e i n s) (same.arrays v w p q d u m r) =
    absurd (array_record k v w y d i)
same_on j k l (same.records x y e i n s) (same.records v w d u m r) =
    let a = same_fields (out-Kind k) y v i d in
    same.records x w e u (n ∙ ap length a ∙ m)
    (λ z f h p q. let o = other_there x y z f n p in
    same_on f.kind o.0.kind h.kind (s z f o.0 p o.1)
    (r z o.0 h (subst (λ fs. slice_get fs z ≡ Some o.0) a o.1) q))

-- VALUES

-- what an array or a record of this kind is not
no_ordinals : (k : Kind) (z : ℤ) → first_ordinal k ≡ pos 0 → last_ordinal k ≡ negsuc 0
    → IsOrdinalOf k z → ⊥
no_ordinals k z f l h = let a = h.0 in let b = h.1 in omega (arith, ints, f, l, a, b)

-- members of one base are those of another with the same ordinals
moved_members : (a b c d : ℤ) (zs : List ℤ) → a ≡ c → b ≡ d → AscendFrom a b zs → AscendFrom c d zs
moved_members a b c d zs f g h =
    subst (λ x. AscendFrom x d zs) f (subst (λ x. AscendFrom a x zs) g h)

pub same_fits : (j k : Kind) (v : Value) → AreSame j k → Fits j v → Fits k v
same_fits j k v (same.ordinals a b f l) (fitting.undefined e s) =
    fitting.undefined e (ordinals_scalar k b)
same_fits j k v (same.ordinals a b f l) (fitting.ordinal z e o) =
    fitting.ordinal z e (subst (λ x. x ≤ℤ z) f o.0, subst (λ x. z ≤ℤ x) l o.1)
same_fits j k v (same.ordinals a b f l) (fitting.set x zs g e m) = absurd (no_set j x a g)
same_fits j k v (same.ordinals a b f l) (fitting.array i of ps g e n s) =
    absurd (no_array j i of a g)
same_fits j k v (same.ordinals a b f l) (fitting.fields fs ps g e n s) =
    absurd (no_record j fs a g)
same_fits j k v (same.sets b c d g f l) (fitting.undefined e s) =
    fitting.undefined e (ap scalar_of g)
same_fits j k v (same.sets b c d g f l) (fitting.ordinal z e o) =
    absurd (no_ordinals j z (ap first_of d) (ap last_of d) o)
same_fits j k v (same.sets b c d g f l) (fitting.set x zs h e m) =
    let i = same_base (out-Kind j) x b h d in
    fitting.set c zs g e (moved_members _ _ _ _ zs (ap first_ordinal i ∙ f)
    (ap last_ordinal i ∙ l) m)
same_fits j k v (same.sets b c d g f l) (fitting.array i of ps h e n s) =
    absurd (set_array j b i of d h)
same_fits j k v (same.sets b c d g f l) (fitting.fields fs ps h e n s) =
    absurd (set_record j b fs d h)
same_fits j k v (same.arrays x of y held d g n s) (fitting.undefined e h) =
    absurd (true≢false (sym h ∙ ap scalar_of d))
same_fits j k v (same.arrays x of y held d g n s) (fitting.ordinal z e o) =
    absurd (no_ordinals j z (ap first_of d) (ap last_of d) o)
same_fits j k v (same.arrays x of y held d g n s) (fitting.set b zs h e m) =
    absurd (set_array j b x of h d)
same_fits j k v (same.arrays x of y held d g n s) (fitting.array i part ps h e m each) =
    let a = same_index (out-Kind j) i part x of h d in
    let b = same_held (out-Kind j) i part x of h d in
    fitting.array y held ps g e (m ∙ ap ordinal_count a ∙ n)
    (λ z w at. same_fits of held w s (subst (λ q. Fits q w) b (each z w at)))
same_fits j k v (same.arrays x of y held d g n s) (fitting.fields fs ps h e m each) =
    absurd (array_record j x of fs d h)
same_fits j k v (same.records x y d g n s) (fitting.undefined e h) =
    absurd (true≢false (sym h ∙ ap scalar_of d))
same_fits j k v (same.records x y d g n s) (fitting.ordinal z e o) =
    absurd (no_ordinals j z (ap first_of d) (ap last_of d) o)
same_fits j k v (same.records x y d g n s) (fitting.set b zs h e m) =
    absurd (set_record j b x h d)
same_fits j k v (same.records x y d g n s) (fitting.array i part ps h e m each) =
    absurd (array_record j i part x h d)
same_fits j k v (same.records x y d g n s) (fitting.fields fs ps h e m each) =
    let a = same_fields (out-Kind j) fs x h d in
    fitting.fields y ps g e (m ∙ ap length a ∙ n)
    (λ z o w p at. let f = other_there y x z o (sym n) p in
    same_fits f.0.kind o.kind w (s z f.0 o f.1 p)
    (each z f.0 w (subst (λ q. slice_get q z ≡ Some f.0) (sym a) f.1) at))

-- ALIKE KINDS

-- what is said of the sizes of a form
abbrev pub SizesIn : (ℕ → ℕ) → KindLayer → Type 0
SizesIn sizes (seen.Enumeration place names) = length names ≡ sizes place
SizesIn sizes (seen.SetOf base) = HasSizes sizes base
SizesIn sizes (seen.ArrayOf index of) = HasSizes sizes index × HasSizes sizes of
SizesIn sizes (seen.Fields fields) = (i : ℕ) (field : FieldKind) → slice_get fields i ≡ Some field
    → HasSizes sizes field.kind
SizesIn sizes _ = Unit {0}

unnamed_in : (sizes : ℕ → ℕ) (l : KindLayer) → is_unnamed l ≡ true → SizesIn sizes l
unnamed_in sizes seen.Integer h = tt
unnamed_in sizes seen.Boolean h = tt
unnamed_in sizes seen.Char h = tt
unnamed_in sizes (seen.Part host low high) h = tt
unnamed_in sizes _ h = absurd (true≢false (sym h))

pub sizes_in : (sizes : ℕ → ℕ) (k : Kind) → HasSizes sizes k → SizesIn sizes (out-Kind k)
sizes_in sizes k (same.unnamed h) = unnamed_in sizes (out-Kind k) h
sizes_in sizes k (same.enumeration place names e h) = subst (SizesIn sizes) (sym e) h
sizes_in sizes k (same.set base e h) = subst (SizesIn sizes) (sym e) h
sizes_in sizes k (same.array index of e h g) = subst (SizesIn sizes) (sym e) (h, g)
sizes_in sizes k (same.fields fs e each) = subst (SizesIn sizes) (sym e) each

-- ordinal forms that have the same ordinals
record HaveOneRange (l m : KindLayer) : Type 0 where
  first : first_of m ≡ first_of l
  last : last_of m ≡ last_of l

first_true : (a b : Bool) → a && b ≡ true → a ≡ true
first_true true b h = refl
first_true false b h = absurd (true≢false (sym h))

second_true : (a b : Bool) → a && b ≡ true → b ≡ true
second_true true b h = h
second_true false b h = absurd (true≢false (sym h))

one_range : (l m : KindLayer) → is_unnamed l ≡ true → layer_alike l m ≡ true
    → (is_unnamed m ≡ true) × HaveOneRange l m
one_range seen.Integer seen.Integer u h = (refl, record { first = refl; last = refl })
one_range seen.Integer _ u h = absurd (true≢false (sym h))
one_range seen.Boolean seen.Boolean u h = (refl, record { first = refl; last = refl })
one_range seen.Boolean _ u h = absurd (true≢false (sym h))
one_range seen.Char seen.Char u h = (refl, record { first = refl; last = refl })
one_range seen.Char _ u h = absurd (true≢false (sym h))
one_range (seen.Part host low high) (seen.Part other from to) u h =
    let s = first_true (int_eq low from && int_eq high to) (is_alike host other) h in (
      refl,
      record {
        first = sym ((Decides-int_eq low from).0 (first_true (int_eq low from) (int_eq high to) s));
        last = sym ((Decides-int_eq high to).0 (second_true (int_eq low from) (int_eq high to) s));
      },
    )
one_range (seen.Part host low high) _ u h = absurd (true≢false (sym h))
one_range _ m u h = absurd (true≢false (sym u))

unnamed_ordinal : (k : Kind) (l : KindLayer) → out-Kind k ≡ l → is_unnamed l ≡ true
    → is_ordinal k ≡ true
unnamed_ordinal k seen.Integer e h = rw e refl
unnamed_ordinal k seen.Boolean e h = rw e refl
unnamed_ordinal k seen.Char e h = rw e refl
unnamed_ordinal k (seen.Part host low high) e h = rw e refl
unnamed_ordinal k _ e h = absurd (true≢false (sym h))

-- fields in order
alike_lengths : (fs gs : List FieldKind) → are_alike fs gs ≡ true → length gs ≡ length fs
alike_lengths [] [] h = refl
alike_lengths [] (g ∷ gs) h = absurd (true≢false (sym h))
alike_lengths (f ∷ fs) [] h = absurd (true≢false (sym h))
alike_lengths (f ∷ fs) (g ∷ gs) h =
    ap suc (alike_lengths fs gs (second_true (is_alike_field f g) (are_alike fs gs) h))

alike_fields : (fs gs : List FieldKind) (i : ℕ) (f g : FieldKind) → are_alike fs gs ≡ true
    → slice_get fs i ≡ Some f → slice_get gs i ≡ Some g → is_alike f.kind g.kind ≡ true
alike_fields [] gs i f g h a b = absurd (none-some f a)
alike_fields (x ∷ fs) [] i f g h a b = absurd (none-some g b)
alike_fields (x ∷ fs) (y ∷ gs) zero f g h a b =
    subst (λ (z : FieldKind). is_alike f.kind z.kind ≡ true) (same_Some y g b)
    (subst (λ (z : FieldKind). is_alike z.kind y.kind ≡ true) (same_Some x f a)
    (second_true (is_name x.name.bytes y.name.bytes) (is_alike x.kind y.kind)
    (first_true (is_alike_field x y) (are_alike fs gs) h)))
alike_fields (x ∷ fs) (y ∷ gs) (suc i) f g h a b =
    alike_fields fs gs i f g (second_true (is_alike_field x y) (are_alike fs gs) h) a b

pub alike_same : (sizes : ℕ → ℕ) (j k : Kind) → HasSizes sizes j → HasSizes sizes k
    → is_alike j k ≡ true → AreSame k j
alike_same sizes j k (same.unnamed u) b h =
    let r = one_range (out-Kind j) (out-Kind k) u (sym (layers_alike j k) ∙ h) in
    same.ordinals (unnamed_ordinal k (out-Kind k) refl r.0) (unnamed_ordinal j (out-Kind j) refl u)
    r.1.first r.1.last
alike_same sizes j k (same.enumeration place names e n) b h =
    by (out-Kind k) refl (sym (ap (λ l. layer_alike l (out-Kind k)) e) ∙ sym (layers_alike j k) ∙ h)
    (sizes_in sizes k b)
  where
    by : (l : KindLayer) → out-Kind k ≡ l → layer_alike (seen.Enumeration place names) l ≡ true
        → SizesIn sizes l → AreSame k j
    by (seen.Enumeration other others) g i m =
        let p : place ≡ other = eqb-true place other i in
        same.ordinals (rw g refl) (rw e refl) (ap first_of g ∙ sym (ap first_of e))
        (ap last_of g ∙ ap last_constant (m ∙ ap sizes (sym p) ∙ sym n) ∙ sym (ap last_of e))
    by _ g i m = absurd (true≢false (sym i))
alike_same sizes j k (same.set base e s) b h =
    by (out-Kind k) refl (sym (ap (λ l. layer_alike l (out-Kind k)) e) ∙ sym (layers_alike j k) ∙ h)
    (sizes_in sizes k b) (λ other m i. alike_same sizes base other s m i)
  where
    by : (l : KindLayer) → out-Kind k ≡ l → layer_alike (seen.SetOf base) l ≡ true
        → SizesIn sizes l → ((other : Kind) → HasSizes sizes other → is_alike base other ≡ true
        → AreSame other base) → AreSame k j
    by (seen.SetOf other) g i m again =
        let r = same_bounds other base (again other m i) in same.sets other base g e r.0 r.1
    by _ g i m again = absurd (true≢false (sym i))
alike_same sizes j k (same.array index of e s p) b h =
    by (out-Kind k) refl (sym (ap (λ l. layer_alike l (out-Kind k)) e) ∙ sym (layers_alike j k) ∙ h)
    (sizes_in sizes k b) (λ other m i. alike_same sizes index other s m i)
    (λ held m i. alike_same sizes of held p m i)
  where
    by : (l : KindLayer) → out-Kind k ≡ l → layer_alike (seen.ArrayOf index of) l ≡ true
        → SizesIn sizes l → ((other : Kind) → HasSizes sizes other → is_alike index other ≡ true
        → AreSame other index) → ((held : Kind) → HasSizes sizes held → is_alike of held ≡ true
        → AreSame held of) → AreSame k j
    by (seen.ArrayOf other held) g i m first second =
        same.arrays other held index of g e (same_count other index
        (first other m.0 (first_true (is_alike index other) (is_alike of held) i)))
        (second held m.1 (second_true (is_alike index other) (is_alike of held) i))
    by _ g i m first second = absurd (true≢false (sym i))
alike_same sizes j k (same.fields fs e each) b h =
    by (out-Kind k) refl (sym (ap (λ l. layer_alike l (out-Kind k)) e) ∙ sym (layers_alike j k) ∙ h)
    (sizes_in sizes k b) (λ n f d x m i. alike_same sizes f.kind x (each n f d) m i)
  where
    by : (l : KindLayer) → out-Kind k ≡ l → layer_alike (seen.Fields fs) l ≡ true
        → SizesIn sizes l → ((n : ℕ) (f : FieldKind) → slice_get fs n ≡ Some f → (x : Kind)
        → HasSizes sizes x → is_alike f.kind x ≡ true → AreSame x f.kind) → AreSame k j
    by (seen.Fields gs) g i m again =
        same.records gs fs g e (alike_lengths fs gs i)
        (λ n x f c d. again n f d x.kind (m n x c) (alike_fields fs gs n f x i d c))
    by _ g i m again = absurd (true≢false (sym i))

pub alike_fit : AlikeKindsHaveOneValue
alike_fit sizes j k v a b h f = same_fits k j v (alike_same sizes j k a b h) f
