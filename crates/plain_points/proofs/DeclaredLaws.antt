-- Whether an interaction point is one that a header declares, without a list of them.
use Rattle.std.proofs.Common.{◌≡◌, refl, sym, ap, ◌∙◌, subst, arith, ℕ, zero, suc, ◌+◌, ◌<◌, nat_eq}
use Rattle.std.proofs.Common.{ℤ, pos, negsuc, ◌+ℤ◌, ◌-ℤ◌, ◌≤ℤ◌, ◌<ℤ◌, Bool, true, false, ◌&&◌, ◌||◌}
use Rattle.std.proofs.Common.{◌≤◌, List, [], ◌∷◌, map, length, drop, slice_get, Some}
use Rattle.std.specs.Prelude.{flat_map}
use Rattle.std.specs.List.{list_any, range_with_len}
use Rattle.std.specs.Ordering.{int_eq}
use Rattle.std.specs.Cmp.Lexicographic.{pointwise}
use Rattle.std.proofs.lemmas.Bool.Decides.{Decides-int_eq}
use Rattle.std.proofs.lemmas.Int.{ints}
use Rattle.std.proofs.lemmas.List.Concat.{flat_map-cons}
use Rattle.std.proofs.lemmas.Option.{same_Some}
use Rattle.std.proofs.lemmas.List.Folds.{list_any-append}
use Rattle.est_syntax.specs.declared.kind.Kind.{Kind}
use Rattle.plain_declared.specs.rule_scope.Outline.{Outline}
use Rattle.est_values.specs.FittingValues.{first_ordinal, last_ordinal, ordinal_count}
use Rattle.est_values.specs.OrdinalTuples.{ordinals_of, ordinal_tuples}
use Rattle.est_values.proofs.Gaps.{gap_counted, gap_none}
use Rattle.plain_declared.specs.mean_blocks.declared.situation.InteractionPoint.{InteractionPoint}
use Rattle.plain_declared.specs.mean_blocks.GlobalSituation.{is_point}
use Rattle.plain_declared.specs.mean_blocks.InstancePoints.{point, indices_of, points_of}
use Rattle.plain_declared.specs.mean_blocks.NamesInRuns.{places_of}
use Rattle.plain_points.specs.PointsOfHeaders.{is_at}
use Rattle.plain_declared.specs.rule_scope.declared.declaration.Sort.TheVariants as sort

-- TESTS OF LISTS

any_map : {A B : Type 0} (p : B → Bool) (f : A → B) (xs : List A)
    → list_any p (map f xs) ≡ list_any (λ x. p (f x)) xs
any_map p f [] = refl
any_map p f (x ∷ xs) = ap (λ b. p (f x) || b) (any_map p f xs)

any_flat : {A B : Type 0} (p : B → Bool) (f : A → List B) (xs : List A)
    → list_any p (flat_map f xs) ≡ list_any (λ x. list_any p (f x)) xs
any_flat p f [] = refl
any_flat p f (x ∷ xs) =
    ap (list_any p) (flat_map-cons f x xs) ∙ list_any-append p (f x) (flat_map f xs)
    ∙ ap (λ b. list_any p (f x) || b) (any_flat p f xs)

any_same : {A : Type 0} (p q : A → Bool) → ((x : A) → p x ≡ q x) → (xs : List A)
    → list_any p xs ≡ list_any q xs
any_same p q h [] = refl
any_same p q h (x ∷ xs) = ap (λ b. b || list_any p xs) (h x)
    ∙ ap (λ b. q x || b) (any_same p q h xs)

any_none : {A : Type 0} (xs : List A) → list_any (λ x. false) xs ≡ false
any_none [] = refl
any_none (x ∷ xs) = any_none xs

any_both : {A : Type 0} (b : Bool) (q : A → Bool) (xs : List A)
    → list_any (λ x. b && q x) xs ≡ (b && list_any q xs)
any_both true q xs = refl
any_both false q xs = any_none xs

or_and : (a b c : Bool) → ((a && c) || (b && c)) ≡ ((a || b) && c)
or_and true true true = refl
or_and true true false = refl
or_and true false true = refl
or_and true false false = refl
or_and false b c = refl

any_with : {A : Type 0} (p : A → Bool) (c : Bool) (xs : List A)
    → list_any (λ x. p x && c) xs ≡ (list_any p xs && c)
any_with p c [] = refl
any_with p c (x ∷ xs) = ap (λ b. (p x && c) || b) (any_with p c xs)
    ∙ or_and (p x) (list_any p xs) c

-- TUPLES

-- whether each ordinal is one of its kind
pub fits_tuple : List Kind → List ℤ → Bool
fits_tuple [] [] = true
fits_tuple [] (z ∷ zs) = false
fits_tuple (k ∷ ks) [] = false
fits_tuple (k ∷ ks) (z ∷ zs) = list_any (int_eq z) (ordinals_of k) && fits_tuple ks zs

abbrev is_tuple : List Kind → List ℤ → Bool
is_tuple ks zs = list_any (pointwise int_eq zs) (ordinal_tuples ks)

abbrev begun : List (List ℤ) → ℤ → List (List ℤ)
begun b z = map (λ (t : List ℤ). z ∷ t) b

pub tuple_there : (ks : List Kind) (zs : List ℤ) → is_tuple ks zs ≡ fits_tuple ks zs
unfolding fits_tuple
tuple_there [] [] = refl
tuple_there [] (z ∷ zs) = refl
tuple_there (k ∷ ks) [] =
    any_flat (pointwise int_eq []) (begun (ordinal_tuples ks)) (ordinals_of k)
    ∙ any_same (λ (y : ℤ). list_any (pointwise int_eq []) (begun (ordinal_tuples ks) y))
    (λ y. false)
    (λ y. any_map (pointwise int_eq []) (λ (t : List ℤ). y ∷ t) (ordinal_tuples ks)
    ∙ any_none (ordinal_tuples ks)) (ordinals_of k)
    ∙ any_none (ordinals_of k)
tuple_there (k ∷ ks) (z ∷ zs) =
    let b = ordinal_tuples ks in
    let q = list_any (pointwise int_eq zs) b in
    any_flat (pointwise int_eq (z ∷ zs)) (begun b) (ordinals_of k)
    ∙ any_same (λ (y : ℤ). list_any (pointwise int_eq (z ∷ zs)) (begun b y))
    (λ (y : ℤ). int_eq z y && q)
    (λ y. any_map (pointwise int_eq (z ∷ zs)) (λ (t : List ℤ). y ∷ t) b
    ∙ any_both (int_eq z y) (pointwise int_eq zs) b) (ordinals_of k)
    ∙ any_with (int_eq z) q (ordinals_of k)
    ∙ ap (λ c. list_any (int_eq z) (ordinals_of k) && c) (tuple_there ks zs)

-- a tuple of another length is none
pub tuple_short : (ks : List Kind) (zs : List ℤ) → (length ks ≡ length zs → ⊥)
    → fits_tuple ks zs ≡ false
unfolding fits_tuple
tuple_short [] [] h = absurd (h refl)
tuple_short [] (z ∷ zs) h = refl
tuple_short (k ∷ ks) [] h = refl
tuple_short (k ∷ ks) (z ∷ zs) h = and_none (list_any (int_eq z) (ordinals_of k)) _
    (tuple_short ks zs (λ e. h (ap suc e)))
  where
    and_none : (a b : Bool) → b ≡ false → (a && b) ≡ false
    and_none true b e = e
    and_none false b e = refl

-- one ordinal that is none of its kind decides
pub tuple_unfit : (b c : Bool) → b ≡ false → (b && c) ≡ false
tuple_unfit false c e = refl
tuple_unfit true c e = absurd (cc)

-- one that is of its kind does not
pub tuple_fit : (b c : Bool) → b ≡ true → (b && c) ≡ c
tuple_fit true c e = refl
tuple_fit false c e = absurd (cc)

-- after so many that fit, the others decide
pub tuple_after : (ks : List Kind) (zs : List ℤ) (i : ℕ) (k : Kind) (z : ℤ)
    → slice_get ks i ≡ Some k → slice_get zs i ≡ Some z
    → fits_tuple (drop i ks) (drop i zs)
    ≡ (list_any (int_eq z) (ordinals_of k) && fits_tuple (drop (i + 1) ks) (drop (i + 1) zs))
unfolding fits_tuple
tuple_after [] zs i k z g h = absurd (cc)
tuple_after (c ∷ ks) [] i k z g h = absurd (cc)
tuple_after (c ∷ ks) (y ∷ zs) zero k z g h =
    ap (λ x. list_any (int_eq y) (ordinals_of x) && fits_tuple ks zs) (same_Some c k g)
    ∙ ap (λ x. list_any (int_eq x) (ordinals_of k) && fits_tuple ks zs) (same_Some y z h)
tuple_after (c ∷ ks) (y ∷ zs) (suc i) k z g h =
    let e : suc (i + 1) ≡ suc i + 1 = omega arith in
    tuple_after ks zs i k z g h
    ∙ ap (λ n. list_any (int_eq z) (ordinals_of k)
    && fits_tuple (drop n (c ∷ ks)) (drop n (y ∷ zs))) e

-- after all of them nothing is left to decide
pub tuple_end : (ks : List Kind) (zs : List ℤ) (i : ℕ) → length ks ≡ length zs
    → length ks ≤ i → fits_tuple (drop i ks) (drop i zs) ≡ true
unfolding fits_tuple
tuple_end [] [] zero e l = refl
tuple_end [] [] (suc i) e l = refl
tuple_end [] (z ∷ zs) i e l = absurd (omega (arith, e))
tuple_end (k ∷ ks) [] i e l = absurd (omega (arith, e))
tuple_end (k ∷ ks) (z ∷ zs) zero e l = absurd (omega (arith, l))
tuple_end (k ∷ ks) (z ∷ zs) (suc i) e l =
    tuple_end ks zs i (omega (arith, e)) (omega (arith, l))

-- ORDINALS

not_both : (b : Bool) → b ≡ true → b ≡ false → ⊥
not_both true e f = absurd (cc)
not_both false e f = absurd (cc)

or_second : (b c : Bool) → (b ≡ false → c ≡ true) → (b || c) ≡ true
or_second true c h = refl
or_second false c h = h refl

in_range : (a z : ℤ) (n c : ℕ) → (a +ℤ pos n) ≤ℤ z → z <ℤ (a +ℤ pos (n + c))
    → list_any (int_eq z) (map (λ (i : ℕ). a +ℤ pos i) (range_with_len n c)) ≡ true
in_range a z n zero l m =
    let e : n + 0 ≡ n = omega arith in
    let k : z <ℤ (a +ℤ pos n) = subst (λ k. z <ℤ (a +ℤ pos k)) e m in
    absurd (omega (arith, ints, l, k))
in_range a z n (suc c) l m =
    let q : n + suc c ≡ (n + 1) + c = omega arith in
    or_second (int_eq z (a +ℤ pos n)) _ (λ e.
    let other : z ≡ a +ℤ pos n → ⊥ =
    λ s. not_both (int_eq z (a +ℤ pos n)) ((Decides-int_eq z (a +ℤ pos n)).1 s) e in
    in_range a z (n + 1) c (omega (arith, ints, l, other))
    (subst (λ k. z <ℤ (a +ℤ pos k)) q m))

-- where the first alternative fails, a test of a list is that of its rest
not_first : (b c : Bool) → b ≡ false → (b || c) ≡ c
not_first false c e = refl
not_first true c e = absurd (cc)

differ : (x y : ℤ) → (x ≡ y → ⊥) → int_eq x y ≡ false
differ x y h = by (int_eq x y) refl
  where
    by : (b : Bool) → int_eq x y ≡ b → b ≡ false
    by true e = absurd (h ((Decides-int_eq x y).0 e))
    by false e = refl

below_range : (a z : ℤ) (n c : ℕ) → z <ℤ (a +ℤ pos n)
    → list_any (int_eq z) (map (λ (i : ℕ). a +ℤ pos i) (range_with_len n c)) ≡ false
below_range a z n zero l = refl
below_range a z n (suc c) l =
    not_first (int_eq z (a +ℤ pos n)) _
    (differ z (a +ℤ pos n) (λ e. absurd (omega (arith, ints, l, e))))
    ∙ below_range a z (n + 1) c (omega (arith, ints, l))

above_range : (a z : ℤ) (n c : ℕ) → (a +ℤ pos (n + c)) ≤ℤ z
    → list_any (int_eq z) (map (λ (i : ℕ). a +ℤ pos i) (range_with_len n c)) ≡ false
above_range a z n zero l = refl
above_range a z n (suc c) l =
    let q : n + suc c ≡ (n + 1) + c = omega arith in
    let m = subst (λ k. (a +ℤ pos k) ≤ℤ z) q l in
    not_first (int_eq z (a +ℤ pos n)) _
    (differ z (a +ℤ pos n) (λ e. absurd (omega (arith, ints, l, e))))
    ∙ above_range a z (n + 1) c m

pub ordinal_there : (k : Kind) (z : ℤ) → first_ordinal k ≤ℤ z → z ≤ℤ last_ordinal k
    → list_any (int_eq z) (ordinals_of k) ≡ true
ordinal_there k z l m = by (last_ordinal k -ℤ first_ordinal k) refl
  where
    a : ℤ
    a = first_ordinal k

    by : (x : ℤ) → last_ordinal k -ℤ a ≡ x → list_any (int_eq z) (ordinals_of k) ≡ true
    by (pos n) e =
        let g : n + 1 ≡ ordinal_count k = gap_counted a (last_ordinal k) n (sym e) in
        let h : z <ℤ (a +ℤ pos (0 + (n + 1))) = omega (arith, ints, m, e) in
        in_range a z 0 (ordinal_count k) (omega (arith, ints, l))
        (subst (λ c. z <ℤ (a +ℤ pos (0 + c))) g h)
    by (negsuc n) e = absurd (omega (arith, ints, l, m, e))

pub ordinal_below : (k : Kind) (z : ℤ) → z <ℤ first_ordinal k
    → list_any (int_eq z) (ordinals_of k) ≡ false
ordinal_below k z l =
    below_range (first_ordinal k) z 0 (ordinal_count k) (omega (arith, ints, l))

pub ordinal_above : (k : Kind) (z : ℤ) → last_ordinal k <ℤ z
    → list_any (int_eq z) (ordinals_of k) ≡ false
ordinal_above k z l = by (last_ordinal k -ℤ first_ordinal k) refl
  where
    a : ℤ
    a = first_ordinal k

    by : (x : ℤ) → last_ordinal k -ℤ a ≡ x → list_any (int_eq z) (ordinals_of k) ≡ false
    by (pos n) e =
        let g : n + 1 ≡ ordinal_count k = gap_counted a (last_ordinal k) n (sym e) in
        let h : (a +ℤ pos (0 + (n + 1))) ≤ℤ z = omega (arith, ints, l, e) in
        above_range a z 0 (ordinal_count k) (subst (λ c. (a +ℤ pos (0 + c)) ≤ℤ z) g h)
    by (negsuc n) e =
        let h : (last_ordinal k -ℤ a) <ℤ pos 0 = omega (arith, ints, e) in
        let g : 0 ≡ ordinal_count k = gap_none a (last_ordinal k) h in
        subst (λ c. list_any (int_eq z) (map (λ (i : ℕ). a +ℤ pos i) (range_with_len 0 c)) ≡ false)
        g refl

-- INTERACTION POINTS

-- an interaction point is one of those of an instance that a header declares
pub point_declared : (o : Outline) (p : InteractionPoint) (n header : ℕ)
    → list_any (is_point p) (points_of o n header)
    ≡ (nat_eq p.instance n && list_any (is_at o p) (places_of o sort.Point header))
point_declared o p n header =
    let places = places_of o sort.Point header in
    any_flat (is_point p) (λ d. map (point n d) (indices_of o d)) places
    ∙ any_same (λ d. list_any (is_point p) (map (point n d) (indices_of o d)))
    (λ d. nat_eq p.instance n && is_at o p d) (at o p n) places
    ∙ any_both (nat_eq p.instance n) (is_at o p) places
  where
    at : (o : Outline) (p : InteractionPoint) (n d : ℕ)
        → list_any (is_point p) (map (point n d) (indices_of o d))
        ≡ (nat_eq p.instance n && is_at o p d)
    at o p n d =
        any_map (is_point p) (point n d) (indices_of o d)
        ∙ any_both (nat_eq p.instance n)
        (λ zs. nat_eq p.declared d && pointwise int_eq p.index zs) (indices_of o d)
        ∙ ap (λ b. nat_eq p.instance n && b)
        (any_both (nat_eq p.declared d) (pointwise int_eq p.index) (indices_of o d))

-- none where the instance is another one
pub point_elsewhere : (o : Outline) (p : InteractionPoint) (n header : ℕ)
    → nat_eq p.instance n ≡ false → list_any (is_point p) (points_of o n header) ≡ false
point_elsewhere o p n header e = point_declared o p n header ∙ tuple_unfit _ _ e

-- and else the declaration decides
pub point_here : (o : Outline) (p : InteractionPoint) (n header : ℕ)
    → nat_eq p.instance n ≡ true → list_any (is_point p) (points_of o n header)
    ≡ list_any (is_at o p) (places_of o sort.Point header)
point_here o p n header e = point_declared o p n header ∙ tuple_fit _ _ e
