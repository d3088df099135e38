-- The tuple after one in the list of tuples is the next one.
use Rattle.std.proofs.Common.{◌≡◌, refl, sym, ap, ◌∙◌, subst, arith, ℕ, zero, suc, ◌+◌, ◌<◌}
use Rattle.std.specs.Int.{int_gap}
use Rattle.std.proofs.Common.{ℤ, pos, negsuc, ◌<ℤ◌, ◌+ℤ◌, true, false, List, [], ◌∷◌, ◌++◌, map}
use Rattle.std.proofs.Common.{length}
use Rattle.std.proofs.Common.{Option, Some, None, slice_get, ◌⊎◌, inl, inr}
use Rattle.std.specs.Prelude.{int_lt, flat_map, if◌then◌else◌}
use Rattle.std.specs.List.{range_with_len}
use Rattle.std.proofs.lemmas.Int.{ints}
use Rattle.std.proofs.lemmas.List.{length-map}
use Rattle.std.proofs.lemmas.Option.{same_Some}
use Rattle.est_syntax.specs.declared.kind.Kind.{Kind}
use Rattle.est_values.specs.FittingValues.{first_ordinal, last_ordinal, ordinal_count}
use Rattle.est_values.specs.OrdinalTuples.{ordinal_tuples, first_tuple, carried}
use Rattle.est_values.specs.OrdinalTuples.{next_tuple, TuplesFollow}

-- what stands in the first of two lists, or in the second
first_of_both : {T : Type 0} (xs ys : List T) (i : ℕ) (x : T) → slice_get xs i ≡ Some x
    → slice_get (xs ++ ys) i ≡ Some x
first_of_both [] ys i x at = cc
first_of_both (y ∷ xs) ys zero x at = at
first_of_both (y ∷ xs) ys (suc i) x at = first_of_both xs ys i x at

second_of_both : {T : Type 0} (xs ys : List T) (i : ℕ)
    → slice_get (xs ++ ys) (length xs + i) ≡ slice_get ys i
second_of_both [] ys i = ap (slice_get ys) (omega arith)
second_of_both (x ∷ xs) ys i =
    let e : length (x ∷ xs) + i ≡ suc (length xs + i) = omega arith in
    ap (slice_get (x ∷ (xs ++ ys))) e ∙ second_of_both xs ys i

abbrev InEither : {T : Type 0} → List T → List T → ℕ → T → Type 0
InEither xs ys i x =
    (slice_get xs i ≡ Some x) ⊎ ((j : ℕ) × (i ≡ length xs + j) × (slice_get ys j ≡ Some x))

in_either : {T : Type 0} (xs ys : List T) (i : ℕ) (x : T) → slice_get (xs ++ ys) i ≡ Some x
    → InEither xs ys i x
in_either [] ys i x at = inr (i, omega arith, at)
in_either (y ∷ xs) ys zero x at = inl at
in_either (y ∷ xs) ys (suc i) x at = later (in_either xs ys i x at)
  where
    later : InEither xs ys i x → InEither (y ∷ xs) ys (suc i) x
    later (inl e) = inl e
    later (inr e) = inr (e.0, omega (arith, e.1), e.2)

-- what a list is made of by a function
unmapped : {A B : Type 0} (f : A → B) (xs : List A) (i : ℕ) (y : B)
    → slice_get (map f xs) i ≡ Some y → (x : A) × (slice_get xs i ≡ Some x) × (f x ≡ y)
unmapped f [] i y at = cc
unmapped f (x ∷ xs) zero y at = (x, refl, same_Some (f x) y at)
unmapped f (x ∷ xs) (suc i) y at = unmapped f xs i y at

mapped : {A B : Type 0} (f : A → B) (xs : List A) (i : ℕ) (x : A) → slice_get xs i ≡ Some x
    → slice_get (map f xs) i ≡ Some (f x)
mapped f [] i x at = cc
mapped f (y ∷ xs) zero x at = ap (λ z. Some (f z)) (same_Some y x at)
mapped f (y ∷ xs) (suc i) x at = mapped f xs i x at

-- the last of a list
last_place : {T : Type 0} (xs : List T) (i : ℕ) (x : T) → slice_get xs i ≡ Some x
    → slice_get xs (suc i) ≡ None → suc i ≡ length xs
last_place [] i x at past = cc
last_place (y ∷ []) zero x at past = refl
last_place (y ∷ []) (suc i) x at past = cc
last_place (y ∷ z ∷ xs) zero x at past = cc
last_place (y ∷ z ∷ xs) (suc i) x at past = ap suc (last_place (z ∷ xs) i x at past)

-- the ordinals from one on, and the tuples that begin with so many of them in turn, where the rest
-- are those of a list
abbrev nth : ℤ → ℕ → ℤ
nth first s = first +ℤ pos s

abbrev begun : ℤ → List (List ℤ) → List (List ℤ)
begun z b = map (λ (t : List ℤ). z ∷ t) b

abbrev blocks : ℤ → List (List ℤ) → ℕ → ℕ → List (List ℤ)
blocks first b s n =
    flat_map (λ (z : ℤ). map (λ (t : List ℤ). z ∷ t) b)
    (map (λ (i : ℕ). first +ℤ pos i) (range_with_len s n))

-- where there are any, the first of them begins with the first ordinal
block_head : (first : ℤ) (b : List (List ℤ)) (s n : ℕ) (f : List ℤ) → 0 < n
    → slice_get b 0 ≡ Some f → slice_get (blocks first b s n) 0 ≡ Some (nth first s ∷ f)
block_head first b s zero f h is = absurd (omega (arith, h))
block_head first b s (suc n) f h is =
    first_of_both (begun (nth first s) b) (blocks first b (s + 1) n) 0 (nth first s ∷ f)
    (mapped (λ (t : List ℤ). nth first s ∷ t) b 0 f is)

-- a tuple among them has a rest in the list
abbrev HasRest : List (List ℤ) → ℕ → Type 0
HasRest b n = (j : ℕ) × (u : List ℤ) × (slice_get b j ≡ Some u) × (0 < n)

block_rest : (first : ℤ) (b : List (List ℤ)) (s n i : ℕ) (t : List ℤ)
    → slice_get (blocks first b s n) i ≡ Some t → HasRest b n
block_rest first b s zero i t at = cc
block_rest first b s (suc n) i t at =
    by (λ j a. block_rest first b (s + 1) n j t a)
    (in_either (begun (nth first s) b) (blocks first b (s + 1) n) i t at)
  where
    by : ((j : ℕ) → slice_get (blocks first b (s + 1) n) j ≡ Some t → HasRest b n)
        → InEither (begun (nth first s) b) (blocks first b (s + 1) n) i t → HasRest b (suc n)
    by later (inl e) =
        let m = unmapped (λ (t : List ℤ). nth first s ∷ t) b i t e in (i, m.0, m.1, omega arith)
    by later (inr e) = let r = later e.0 e.2 in (r.0, r.1, r.2, omega arith)

-- the first tuple is that of the first ordinals
head_is_first : (ks : List Kind) (i : ℕ) (t : List ℤ) → slice_get (ordinal_tuples ks) i ≡ Some t
    → slice_get (ordinal_tuples ks) 0 ≡ Some (first_tuple ks)
head_is_first [] i t at = refl
head_is_first (k ∷ ks) i t at =
    let r = block_rest (first_ordinal k) (ordinal_tuples ks) 0 (ordinal_count k) i t at in
    let z : first_ordinal k +ℤ pos 0 ≡ first_ordinal k = omega (arith, ints) in
    block_head (first_ordinal k) (ordinal_tuples ks) 0 (ordinal_count k) (first_tuple ks) r.3
    (head_is_first ks r.0 r.1 r.2)
    ∙ ap (λ y. Some (y ∷ first_tuple ks)) z

-- so many ordinals reach from one to another
gap_reaches : (a b : ℤ) → 0 < int_gap a b → a +ℤ pos (int_gap a b) ≡ b
gap_reaches (pos a) (pos b) h = omega (arith, ints, h)
gap_reaches (pos a) (negsuc b) h = absurd (omega (arith, h))
gap_reaches (negsuc a) (pos b) h = omega (arith, ints)
gap_reaches (negsuc a) (negsuc b) h = omega (arith, ints, h)

-- the tests of an ordinal and the last one
is_less : (z last : ℤ) → z <ℤ last → int_lt z last ≡ true
is_less z last h = grind (arith, ints)

is_last : (z last : ℤ) → z ≡ last → int_lt z last ≡ false
is_last z last h = grind (arith, ints)

abbrev Follows : Kind → List Kind → ℕ → ℕ → ℕ → List ℤ → Type 0
Follows k ks s n i t =
    slice_get (blocks (first_ordinal k) (ordinal_tuples ks) s n) (suc i) ≡ next_tuple (k ∷ ks) t

abbrev Reaches : Kind → ℕ → ℕ → Type 0
Reaches k s n = 0 < n → first_ordinal k +ℤ pos (s + n) ≡ last_ordinal k +ℤ pos 1

-- after the last tuple that begins with an ordinal comes the first one that begins with the next
over : (k : Kind) (ks : List Kind) (s n i : ℕ) (u : List ℤ) → Reaches k s (suc n)
    → slice_get (ordinal_tuples ks) i ≡ Some u
    → slice_get (blocks (first_ordinal k) (ordinal_tuples ks) (s + 1) n) 0
    ≡ carried k ks (nth (first_ordinal k) s) None
over k ks s zero i u reaches at =
    let z = nth (first_ordinal k) s in
    let r = reaches (omega arith) in
    let e : z ≡ last_ordinal k = omega (arith, ints, r) in
    sym (ap (λ b. if b then Some ((z +ℤ pos 1) ∷ first_tuple ks) else None)
    (is_last z (last_ordinal k) e))
over k ks s (suc n) i u reaches at =
    let z = nth (first_ordinal k) s in
    let r = reaches (omega arith) in
    let e : z <ℤ last_ordinal k = omega (arith, ints, r) in
    let next : nth (first_ordinal k) (s + 1) ≡ z +ℤ pos 1 = omega (arith, ints) in
    block_head (first_ordinal k) (ordinal_tuples ks) (s + 1) (suc n) (first_tuple ks) (omega arith)
    (head_is_first ks i u at)
    ∙ ap (λ y. Some (y ∷ first_tuple ks)) next
    ∙ sym (ap (λ b. if b then Some ((z +ℤ pos 1) ∷ first_tuple ks) else None)
    (is_less z (last_ordinal k) e))

-- a tuple that begins with an ordinal is followed by the next one
here : (k : Kind) (ks : List Kind) (s n i : ℕ) (u : List ℤ) → Reaches k s (suc n)
    → slice_get (ordinal_tuples ks) i ≡ Some u → (o : Option (List ℤ))
    → slice_get (ordinal_tuples ks) (suc i) ≡ o → next_tuple ks u ≡ o
    → Follows k ks s (suc n) i (nth (first_ordinal k) s ∷ u)
here k ks s n i u reaches at (Some w) more is =
    let z = nth (first_ordinal k) s in
    first_of_both (begun z (ordinal_tuples ks))
    (blocks (first_ordinal k) (ordinal_tuples ks) (s + 1) n) (suc i) (z ∷ w)
    (mapped (λ (t : List ℤ). z ∷ t) (ordinal_tuples ks) (suc i) w more)
    ∙ ap (carried k ks z) (sym is)
here k ks s n i u reaches at None more is =
    let z = nth (first_ordinal k) s in
    let front = begun z (ordinal_tuples ks) in
    let rest = blocks (first_ordinal k) (ordinal_tuples ks) (s + 1) n in
    let l : suc i ≡ length front + 0 =
    omega (
      arith,
      last_place (ordinal_tuples ks) i u at more,
      length-map (ordinal_tuples ks) (λ (t : List ℤ). z ∷ t),
    ) in
    ap (slice_get (front ++ rest)) l ∙ second_of_both front rest 0
    ∙ over k ks s n i u reaches at ∙ ap (carried k ks z) (sym is)

-- those that begin with an ordinal, and those after them
abbrev front_of : Kind → List Kind → ℕ → List (List ℤ)
front_of k ks s = begun (nth (first_ordinal k) s) (ordinal_tuples ks)

abbrev rest_of : Kind → List Kind → ℕ → ℕ → List (List ℤ)
rest_of k ks s n = blocks (first_ordinal k) (ordinal_tuples ks) (s + 1) n

-- and so is each
follow : (k : Kind) (ks : List Kind)
    → ((i : ℕ) (t : List ℤ) → slice_get (ordinal_tuples ks) i ≡ Some t
    → slice_get (ordinal_tuples ks) (suc i) ≡ next_tuple ks t)
    → (s n i : ℕ) (t : List ℤ) → Reaches k s n
    → slice_get (blocks (first_ordinal k) (ordinal_tuples ks) s n) i ≡ Some t
    → Follows k ks s n i t
follow k ks rests s zero i t reaches at = cc
follow k ks rests s (suc n) i t reaches at =
    by (λ j r a. follow k ks rests (s + 1) n j t r a)
    (in_either (front_of k ks s) (rest_of k ks s n) i t at)
  where
    by : ((j : ℕ) → Reaches k (s + 1) n → slice_get (rest_of k ks s n) j ≡ Some t
        → Follows k ks (s + 1) n j t)
        → InEither (front_of k ks s) (rest_of k ks s n) i t → Follows k ks s (suc n) i t
    by later (inl e) =
        let m = unmapped (λ (t : List ℤ). nth (first_ordinal k) s ∷ t) (ordinal_tuples ks) i t e in
        subst (Follows k ks s (suc n) i) m.2
        (here k ks s n i m.0 reaches m.1 (next_tuple ks m.0) (rests i m.0 m.1) refl)
    by later (inr e) =
        let l : suc i ≡ length (front_of k ks s) + suc e.0 = omega (arith, e.1) in
        let r : Reaches k (s + 1) n =
        λ h. ap (λ m. first_ordinal k +ℤ pos m) (omega arith) ∙ reaches (omega arith) in
        ap (slice_get (front_of k ks s ++ rest_of k ks s n)) l
        ∙ second_of_both (front_of k ks s) (rest_of k ks s n) (suc e.0)
        ∙ later e.0 r e.2

pub tuples_follow : TuplesFollow
tuples_follow [] i t at = refl
tuples_follow (k ∷ ks) i t at =
    follow k ks (tuples_follow ks) 0 (ordinal_count k) i t
    (λ h. let z : 0 + ordinal_count k ≡ ordinal_count k = omega arith in
    ap (λ m. first_ordinal k +ℤ pos m) z
    ∙ gap_reaches (first_ordinal k) (last_ordinal k +ℤ pos 1) h) at
