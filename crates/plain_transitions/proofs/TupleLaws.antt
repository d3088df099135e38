-- Tuples of ordinals by their numbers.
use Rattle.std.proofs.Common.{◌≡◌, refl, sym, ap, subst, ◌∙◌, arith, ℕ, zero, suc, ◌+◌, ◌-◌, ◌*◌}
use Rattle.std.proofs.Common.{◌/◌, ◌%◌, ◌<◌, ◌≤◌, ℤ, pos, negsuc, ◌+ℤ◌, ◌<ℤ◌, ◌≤ℤ◌, List, []}
use Rattle.std.proofs.Common.{◌∷◌, ◌++◌, map, length, length-append, get_or, drop}
use Rattle.std.proofs.Common.{Option, Some, None, slice_get}
use Rattle.std.specs.Prelude.{flat_map, reverse}
use Rattle.std.specs.Int.{int_gap}
use Rattle.std.specs.List.{range_with_len}
use Rattle.std.proofs.lemmas.Int.{ints}
use Rattle.std.proofs.lemmas.List.{length-map, reverse-append}
use Rattle.std.proofs.lemmas.List.FromFn.{length-map-range_with_len}
use Rattle.std.proofs.lemmas.Option.{same_Some, slice_get-get_or, slice_get_past, slice_get_within}
use Rattle.std.specs.Borrow.{Bor}
use Rattle.est_syntax.specs.declared.kind.Kind.{Kind}
use Rattle.est_values.specs.FittingValues.{first_ordinal, last_ordinal, ordinal_count}
use Rattle.est_values.specs.OrdinalTuples.{ordinals_of, ordinal_tuples}
use Rattle.plain_transitions.specs.WrittenTransitions.{kinds_held}
use Rattle.plain_transitions.specs.inside.ChosenTuples.{IsAbove, IsTaken}
use Rattle.plain_transitions.specs.inside.ChosenTuples.{IsDivided}

-- THE ORDINALS OF A KIND

gap_above : (a b : ℤ) (n : ℕ) → (a +ℤ pos n) ≤ℤ b → n < int_gap a (b +ℤ pos 1)
gap_above (pos a) (pos b) n h = omega (arith, ints, h)
gap_above (pos a) (negsuc zero) n h = absurd (omega (arith, ints, h))
gap_above (pos a) (negsuc (suc b)) n h = absurd (omega (arith, ints, h))
gap_above (negsuc a) (pos b) n h = omega (arith, ints, h)
gap_above (negsuc a) (negsuc zero) n h = omega (arith, ints, h)
gap_above (negsuc a) (negsuc (suc b)) n h =
    let e : negsuc (suc b) +ℤ pos 1 ≡ negsuc b = omega (arith, ints) in
    let g : n < a - b = omega (arith, ints, h) in
    subst (λ z. n < int_gap (negsuc a) z) (sym e) g

gap_below : (a b : ℤ) (n : ℕ) → b <ℤ (a +ℤ pos n) → int_gap a (b +ℤ pos 1) ≤ n
gap_below (pos a) (pos b) n h = omega (arith, ints, h)
gap_below (pos a) (negsuc zero) n h = omega (arith, ints, h)
gap_below (pos a) (negsuc (suc b)) n h =
    let e : negsuc (suc b) +ℤ pos 1 ≡ negsuc b = omega (arith, ints) in
    let g : 0 ≤ n = omega arith in
    subst (λ z. int_gap (pos a) z ≤ n) (sym e) g
gap_below (negsuc a) (pos b) n h = omega (arith, ints, h)
gap_below (negsuc a) (negsuc zero) n h = omega (arith, ints, h)
gap_below (negsuc a) (negsuc (suc b)) n h =
    let e : negsuc (suc b) +ℤ pos 1 ≡ negsuc b = omega (arith, ints) in
    let g : a - b ≤ n = omega (arith, ints, h) in
    subst (λ z. int_gap (negsuc a) z ≤ n) (sym e) g

mapped : {A B : Type 0} (f : A → B) (xs : List A) (i : ℕ) (x : A) → slice_get xs i ≡ Some x
    → slice_get (map f xs) i ≡ Some (f x)
mapped f [] i x e = absurd (cc)
mapped f (y ∷ ys) zero x e = ap (λ z. Some (f z)) (same_Some y x e)
mapped f (y ∷ ys) (suc i) x e = mapped f ys i x e

range_get : (a c n : ℕ) → n < c → slice_get (range_with_len a c) n ≡ Some (a + n)
range_get a zero n l = absurd (omega (arith, l))
range_get a (suc c) zero l = ap Some (omega arith)
range_get a (suc c) (suc n) l =
    let e : (a + 1) + n ≡ a + suc n = omega arith in
    range_get (a + 1) c n (omega (arith, l)) ∙ ap Some e

ordinals_number : (k : Kind) → length (ordinals_of k) ≡ ordinal_count k
ordinals_number k =
    length-map-range_with_len (λ (i : ℕ). first_ordinal k +ℤ pos i) 0 (ordinal_count k)

ordinal_there : (k : Kind) (n : ℕ) → n < ordinal_count k
    → slice_get (ordinals_of k) n ≡ Some (first_ordinal k +ℤ pos n)
ordinal_there k n l =
    let e : 0 + n ≡ n = omega arith in
    mapped (λ (i : ℕ). first_ordinal k +ℤ pos i) (range_with_len 0 (ordinal_count k)) n n
    (range_get 0 (ordinal_count k) n l ∙ ap Some e)

pub ordinal_found : (k : Kind) (n : ℕ) (first last : ℤ) (r : Option ℤ) → first ≡ first_ordinal k
    → last ≡ last_ordinal k → IsAbove first last n r → r ≡ slice_get (ordinals_of k) n
ordinal_found k n first last (Some z) e f h =
    ap Some (h.0 ∙ ap (λ x. x +ℤ pos n) e)
    ∙ sym (ordinal_there k n (gap_above (first_ordinal k) (last_ordinal k) n
    (subst (λ x. (x +ℤ pos n) ≤ℤ last_ordinal k) e
    (subst (λ x. (first +ℤ pos n) ≤ℤ x) f (subst (λ x. x ≤ℤ last) h.0 h.1)))))
ordinal_found k n first last None e f h =
    let l : ordinal_count k ≤ n = gap_below (first_ordinal k) (last_ordinal k) n
    (subst (λ x. last_ordinal k <ℤ (x +ℤ pos n)) e (subst (λ x. x <ℤ (first +ℤ pos n)) f h)) in
    let m = ordinals_number k in
    sym (slice_get_past (ordinals_of k) n (omega (arith, l, m)))

-- an ordinal that is left over where a number is divided
pub is_taken : (k : Kind) (number quotient digit : ℕ) (r : Option ℤ)
    → r ≡ slice_get (ordinals_of k) digit → digit < ordinal_count k
    → number ≡ ordinal_count k * quotient + digit → IsTaken k number quotient r
is_taken k number quotient digit None h l e =
    let there = ordinal_there k digit l in
    let no : None ≡ Some (first_ordinal k +ℤ pos digit) = h ∙ there in absurd (cc)
is_taken k number quotient digit (Some z) h l e = (digit, sym h, e)

pub taken_by : (k : Kind) (number count : ℕ) (r : Option ℤ) → count ≡ ordinal_count k
    → (count ≡ 0 → ⊥) → r ≡ slice_get (ordinals_of k) (number % count)
    → IsTaken k number (number / count) r
taken_by k number count r e z h =
    let p : 0 < count = omega (arith, z) in
    let l : number % count < count = omega arith in
    let s : number ≡ count * (number / count) + number % count = omega arith in
    is_taken k number (number / count) (number % count) r h (omega (arith, l, e))
    (s ∙ ap (λ c. c * (number / count) + number % count) e)

-- THE TUPLES OF KINDS

in_first : {A : Type 0} (xs ys : List A) (i : ℕ) → i < length xs
    → slice_get (xs ++ ys) i ≡ slice_get xs i
in_first [] ys i l = absurd (omega (arith, l))
in_first (x ∷ xs) ys zero l = refl
in_first (x ∷ xs) ys (suc i) l = in_first xs ys i (omega (arith, l))

in_second : {A : Type 0} (xs ys : List A) (i : ℕ)
    → slice_get (xs ++ ys) (length xs + i) ≡ slice_get ys i
in_second [] ys i = ap (slice_get ys) (omega arith)
in_second (x ∷ xs) ys i =
    let e : length (x ∷ xs) + i ≡ suc (length xs + i) = omega arith in
    ap (slice_get (x ∷ (xs ++ ys))) e ∙ in_second xs ys i

abbrev begun : List (List ℤ) → ℤ → List (List ℤ)
begun b z = map (λ (t : List ℤ). z ∷ t) b

module _ (f : ℕ → ℤ) (b : List (List ℤ)) where
  abbrev blocks : ℕ → ℕ → List (List ℤ)
  blocks a c = flat_map (begun b) (map f (range_with_len a c))

  begun_length : (z : ℤ) → length (begun b z) ≡ length b
  begun_length z = length-map b (λ (t : List ℤ). z ∷ t)

  blocks_length : (a c : ℕ) → length (blocks a c) ≡ c * length b
  blocks_length a zero = omega arith
  blocks_length a (suc c) =
      let r = blocks_length (a + 1) c in
      let n = begun_length (f a) in
      let s : suc c * length b ≡ length b + c * length b = omega arith in
      length-append (begun b (f a)) (blocks (a + 1) c) ∙ omega (arith, r, n, s)

  block_get : (a c d r : ℕ) (t : List ℤ) → d < c → slice_get b r ≡ Some t
      → slice_get (blocks a c) (d * length b + r) ≡ Some (f (a + d) ∷ t)
  block_get a zero d r t l h = absurd (omega (arith, l))
  block_get a (suc c) zero r t l h =
      let w = slice_get_within b r t h in
      let n = begun_length (f a) in
      let e : 0 * length b + r ≡ r = omega arith in
      let z : a ≡ a + 0 = omega arith in
      ap (slice_get (begun b (f a) ++ blocks (a + 1) c)) e
      ∙ in_first (begun b (f a)) (blocks (a + 1) c) r (omega (arith, w, n))
      ∙ mapped (λ (u : List ℤ). f a ∷ u) b r t h ∙ ap (λ x. Some (f x ∷ t)) z
  block_get a (suc c) (suc d) r t l h =
      let n = begun_length (f a) in
      let s : suc d * length b ≡ length b + d * length b = omega arith in
      let e : suc d * length b + r ≡ length (begun b (f a)) + (d * length b + r) =
      omega (arith, n, s) in
      let z : (a + 1) + d ≡ a + suc d = omega arith in
      ap (slice_get (begun b (f a) ++ blocks (a + 1) c)) e
      ∙ in_second (begun b (f a)) (blocks (a + 1) c) (d * length b + r)
      ∙ block_get (a + 1) c d r t (omega (arith, l)) h ∙ ap (λ x. Some (f x ∷ t)) z

abbrev nth_ordinal : Kind → ℕ → ℤ
nth_ordinal k i = first_ordinal k +ℤ pos i

tuples_number : (k : Kind) (ks : List Kind) → length (ordinal_tuples (k ∷ ks))
    ≡ ordinal_count k * length (ordinal_tuples ks)
tuples_number k ks = blocks_length (nth_ordinal k) (ordinal_tuples ks) 0 (ordinal_count k)

tuple_there : (k : Kind) (ks : List Kind) (d r : ℕ) (z : ℤ) (t : List ℤ)
    → slice_get (ordinals_of k) d ≡ Some z → slice_get (ordinal_tuples ks) r ≡ Some t
    → slice_get (ordinal_tuples (k ∷ ks)) (d * length (ordinal_tuples ks) + r) ≡ Some (z ∷ t)
tuple_there k ks d r z t g h =
    let w = slice_get_within (ordinals_of k) d z g in
    let n = ordinals_number k in
    let l : d < ordinal_count k = omega (arith, w, n) in
    let e : 0 + d ≡ d = omega arith in
    let same : nth_ordinal k d ≡ z =
    same_Some (nth_ordinal k d) z (sym (ordinal_there k d l) ∙ g) in
    block_get (nth_ordinal k) (ordinal_tuples ks) 0 (ordinal_count k) d r t l h
    ∙ ap (λ x. Some (nth_ordinal k x ∷ t)) e ∙ ap (λ x. Some (x ∷ t)) same

-- a kind without ordinals
no_tuples : (ks : List Kind) (j : ℕ) (k : Kind) → slice_get ks j ≡ Some k
    → ordinal_count k ≡ 0 → length (ordinal_tuples ks) ≡ 0
no_tuples [] j k h e = absurd (cc)
no_tuples (x ∷ ks) zero k h e =
    let c : ordinal_count x ≡ 0 = ap ordinal_count (same_Some x k h) ∙ e in
    tuples_number x ks ∙ ap (λ n. n * length (ordinal_tuples ks)) c ∙ omega arith
no_tuples (x ∷ ks) (suc j) k h e =
    tuples_number x ks ∙ ap (λ n. ordinal_count x * n) (no_tuples ks j k h e) ∙ omega arith

-- THE NUMBER DIVIDED

drop_all : {A : Type 0} (xs : List A) (i : ℕ) → length xs ≤ i → drop i xs ≡ []
drop_all [] zero l = refl
drop_all [] (suc i) l = refl
drop_all (x ∷ xs) zero l = absurd (omega (arith, l))
drop_all (x ∷ xs) (suc i) l = drop_all xs i (omega (arith, l))

from_here : {X : Type 0} (xs : List X) (i : ℕ) (x : X) → slice_get xs i ≡ Some x
    → drop i xs ≡ x ∷ drop (suc i) xs
from_here [] i x e = absurd (cc)
from_here (y ∷ ys) zero x e = ap (λ z. z ∷ ys) (same_Some y x e)
from_here (y ∷ ys) (suc i) x e = from_here ys i x e

held_at : (ks : List (Bor Kind)) (i : ℕ) (k : Bor Kind) → i < length ks → k ≡ get_or ks i k
    → slice_get (kinds_held ks) i ≡ Some k.now
held_at ks i k l is =
    mapped (λ (x : Bor Kind). x.now) ks i k (slice_get-get_or ks i k l ∙ ap Some (sym is))

pub divided_none : (ks : List (Bor Kind)) (tuple : List ℤ) (number : ℕ) → tuple ≡ []
    → IsDivided (kinds_held ks) tuple (length ks) number number
divided_none ks tuple number e =
    let n : length (kinds_held ks) ≡ length ks = length-map ks (λ (x : Bor Kind). x.now) in
    let all : drop (length ks) (kinds_held ks) ≡ [] =
    drop_all (kinds_held ks) (length ks) (omega (arith, n)) in
    record {
      rank = 0;
      is = let one : number ≡ number * 1 + 0 = omega arith in
          one ∙ ap (λ l. number * length (ordinal_tuples l) + 0) (sym all);
      stands = ap (λ l. slice_get (ordinal_tuples l) 0) all
          ∙ sym (ap (λ l. Some (reverse l)) e);
    }

pub pushed : (xs ys : List ℤ) (z : ℤ) → ys ≡ xs ++ z ∷ [] → reverse ys ≡ z ∷ reverse xs
pushed xs ys z e = ap reverse e ∙ reverse-append xs (z ∷ [])

product : (c q d l r : ℕ) → (c * q + d) * l + r ≡ q * (c * l) + (d * l + r)
product c q d l r = omega arith

divided_on : (ks : List Kind) (tuple more : List ℤ) (j number quotient next : ℕ) (k : Kind)
    (z : ℤ) → slice_get ks j ≡ Some k → reverse more ≡ z ∷ reverse tuple
    → IsTaken k quotient next (Some z) → IsDivided ks tuple (suc j) number quotient
    → IsDivided ks more j number next
divided_on ks tuple more j number quotient next k z h e t d =
    let rest : List Kind = drop (suc j) ks in
    let here : drop j ks ≡ k ∷ rest = from_here ks j k h in
    let size : ℕ = length (ordinal_tuples rest) in record {
      rank = t.0 * size + d.rank;
      is = d.is ∙ ap (λ n. n * size + d.rank) t.2
          ∙ product (ordinal_count k) next t.0 size d.rank
          ∙ ap (λ n. next * n + (t.0 * size + d.rank)) (sym (tuples_number k rest))
          ∙ ap (λ l. next * length (ordinal_tuples l) + (t.0 * size + d.rank)) (sym here);
      stands = ap (λ l. slice_get (ordinal_tuples l) (t.0 * size + d.rank)) here
          ∙ tuple_there k rest t.0 d.rank z (reverse tuple) t.1 d.stands ∙ ap Some (sym e);
    }

pub divided_more : (ks : List (Bor Kind)) (tuple more : List ℤ) (i number quotient next : ℕ)
    (k : Bor Kind) (z : ℤ) → 0 < i → i ≤ length ks → k ≡ get_or ks (i - 1) k
    → reverse more ≡ z ∷ reverse tuple → IsTaken k.now quotient next (Some z)
    → IsDivided (kinds_held ks) tuple i number quotient
    → IsDivided (kinds_held ks) more (i - 1) number next
divided_more ks tuple more i number quotient next k z p l is e t d =
    let same : suc (i - 1) ≡ i = omega (arith, p) in
    divided_on (kinds_held ks) tuple more (i - 1) number quotient next k.now z
    (held_at ks (i - 1) k (omega (arith, p, l)) is) e t
    (subst (λ n. IsDivided (kinds_held ks) tuple n number quotient) (sym same) d)

pub divided_nowhere : (ks : List (Bor Kind)) (i number : ℕ) (k : Bor Kind) → 0 < i
    → i ≤ length ks → k ≡ get_or ks (i - 1) k → ordinal_count k.now ≡ 0
    → None ≡ slice_get (ordinal_tuples (kinds_held ks)) number
divided_nowhere ks i number k p l is e =
    let none = no_tuples (kinds_held ks) (i - 1) k.now
    (held_at ks (i - 1) k (omega (arith, p, l)) is) e in
    sym (slice_get_past (ordinal_tuples (kinds_held ks)) number (omega (arith, none)))

pub divided_all : (ks : List Kind) (tuple all : List ℤ) (i number quotient : ℕ) → i ≤ 0
    → quotient ≡ 0 → all ≡ reverse tuple → IsDivided ks tuple i number quotient
    → Some all ≡ slice_get (ordinal_tuples ks) number
divided_all ks tuple all zero number quotient l e same d =
    let n : ℕ = length (ordinal_tuples ks) in
    let q : quotient * n ≡ 0 * n = ap (λ m. m * n) e in
    let is : number ≡ quotient * n + d.rank = d.is in
    let at : number ≡ d.rank = omega (arith, is, q) in
    ap Some same ∙ sym d.stands ∙ ap (slice_get (ordinal_tuples ks)) (sym at)
divided_all ks tuple all (suc i) number quotient l e same d = absurd (omega (arith, l))

pub divided_past : (ks : List Kind) (tuple : List ℤ) (i number quotient : ℕ) → i ≤ 0
    → (quotient ≡ 0 → ⊥) → IsDivided ks tuple i number quotient
    → None ≡ slice_get (ordinal_tuples ks) number
divided_past ks tuple zero number zero l e d = absurd (e refl)
divided_past ks tuple zero number (suc q) l e d =
    let n : ℕ = length (ordinal_tuples ks) in
    let is : number ≡ suc q * n + d.rank = d.is in
    let s : suc q * n ≡ n + q * n = omega arith in
    sym (slice_get_past (ordinal_tuples ks) number (omega (arith, is, s)))
divided_past ks tuple (suc i) number quotient l e d = absurd (omega (arith, l))
