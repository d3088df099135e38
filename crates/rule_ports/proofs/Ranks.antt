-- The numbers of values and tuples.
use Rattle.std.proofs.Common.{◌≡◌, ℕ, zero, suc, ◌+◌, ◌-◌, ◌*◌, ◌<◌, ◌≤◌, min, ℤ, pos}
use Rattle.std.proofs.Common.{List, [], ◌∷◌, map, take, drop, length, refl, sym, ap, ◌∙◌}
use Rattle.std.proofs.Common.{subst, Some, None, slice_get, get_or, arith}
use Rattle.std.specs.Prelude.{flat_map, ◌+ℤ◌, ◌<ℤ◌}
use Rattle.std.specs.List.{range_with_len}
use Rattle.std.proofs.lemmas.Int.{ints}
use Rattle.std.proofs.lemmas.List.{length-map}
use Rattle.std.proofs.lemmas.Option.{same_Some, slice_get-get_or}
use Rattle.est_syntax.specs.declared.kind.Kind.{Kind}
use Rattle.rule_declares.specs.rule_kinds.TypeTexts.{count}
use Rattle.rule_ports.proofs.CountSteps.{from_here}
use Rattle.rule_declares.specs.OrdinalValues.{first_value, values_of, tuples_of}
use Rattle.rule_ports.specs.PortTable.{capped}
use Rattle.rule_ports.specs.inside.Making.{IsOffset, IsRank}
use Rattle.rule_ports.proofs.Capped.{most, capped_product, capped_sum}
use Rattle.rule_ports.proofs.Listing.{within, mapped, flat_get, flat_place, ahead}
use Rattle.rule_ports.proofs.Tuples.{number_of, values_number, flat_number, tuples_number}

range_get : (a c n : ℕ) → n < c → slice_get (range_with_len a c) n ≡ Some (a + n)
range_get a zero n l = absurd (omega (arith, l))
range_get a (suc c) zero l = ap Some (omega arith)
range_get a (suc c) (suc n) l =
    let e : (a + 1) + n ≡ a + suc n = omega arith in
    range_get (a + 1) c n (omega (arith, l)) ∙ ap Some e

-- values
value_at : (k : Kind) (n : ℕ) → n < count k
    → slice_get (values_of k) n ≡ Some (first_value k +ℤ pos n)
unfolding values_of
value_at k n l =
    let e : 0 + n ≡ n = omega arith in
    mapped (λ (i : ℕ). first_value k +ℤ pos i) (range_with_len 0 (count k)) n n
    (range_get 0 (count k) n l ∙ ap Some e)

value_of : (k : Kind) (n : ℕ) (z : ℤ) → slice_get (values_of k) n ≡ Some z
    → (n < count k) × (z ≡ first_value k +ℤ pos n)
value_of k n z e =
    let l : n < count k = subst (λ m. n < m) (values_number k) (within (values_of k) n z e) in
    (l, same_Some z (first_value k +ℤ pos n) (sym e ∙ value_at k n l))

pub offset_is : (k : Kind) (z : ℤ) (n : ℕ) → n < count k → z ≡ first_value k +ℤ pos n
    → IsOffset k z (Some n)
offset_is k z n l e = value_at k n l ∙ ap Some (sym e)

pub offset_past : (k : Kind) (z : ℤ) (n : ℕ) → count k ≤ n → z ≡ first_value k +ℤ pos n
    → IsOffset k z None
offset_past k z n l e = λ m q.
    let v = value_of k m z q in
    let same : first_value k +ℤ pos m ≡ first_value k +ℤ pos n = sym v.1 ∙ e in
    omega (arith, ints, same, v.0, l)

pub offset_before : (k : Kind) (z : ℤ) → z <ℤ first_value k → IsOffset k z None
offset_before k z l = λ m q.
    let v = value_of k m z q in
    let e : z ≡ first_value k +ℤ pos m = v.1 in
    omega (arith, ints, e, l)

-- tuples
pub unmapped : {A B : Type 0} (f : A → B) (xs : List A) (i : ℕ) (y : B)
    → slice_get (map f xs) i ≡ Some y → (x : A) × (slice_get xs i ≡ Some x) × (f x ≡ y)
unmapped f [] i y e = cc
unmapped f (x ∷ xs) zero y e = (x, refl, same_Some (f x) y e)
unmapped f (x ∷ xs) (suc i) y e = unmapped f xs i y e

abbrev after : List Kind → ℤ → List (List ℤ)
after ks z = map (λ (t : List ℤ). z ∷ t) (tuples_of ks)

length-take_all : {A : Type 0} (m : ℕ) (xs : List A) → m ≤ length xs → length (take m xs) ≡ m
length-take_all zero xs l = refl
length-take_all (suc m) [] l = absurd (omega (arith, l))
length-take_all (suc m) (x ∷ xs) l = ap suc (length-take_all m xs (omega (arith, l)))

tuple_at : (k : Kind) (ks : List Kind) (z : ℤ) (t : List ℤ) (m n : ℕ)
    → slice_get (values_of k) m ≡ Some z → slice_get (tuples_of ks) n ≡ Some t
    → slice_get (tuples_of (k ∷ ks)) (m * number_of ks + n) ≡ Some (z ∷ t)
tuple_at k ks z t m n e f =
    let vs = values_of k in
    let number = λ (v : ℤ). length-map (tuples_of ks) (λ (u : List ℤ). v ∷ u) ∙ tuples_number ks in
    let a : length (flat_map (after ks) (take m vs)) ≡ length (take m vs) * number_of ks =
    flat_number (after ks) (number_of ks) number (take m vs) in
    let w = within vs m z e in
    let b : length (take m vs) ≡ m = length-take_all m vs (omega (arith, w)) in
    let c : ahead (after ks) m vs ≡ m * number_of ks = a ∙ ap (λ l. l * number_of ks) b in
    let l : n < length (after ks z) = subst (λ r. n < r) (sym (length-map (tuples_of ks)
    (λ (u : List ℤ). z ∷ u))) (within (tuples_of ks) n t f) in
    ap (λ r. slice_get (tuples_of (k ∷ ks)) (r + n)) (sym c)
    ∙ flat_get (after ks) vs m z n e l ∙ mapped (λ (u : List ℤ). z ∷ u) (tuples_of ks) n t f

-- what a tuple consists of
tuple_parts : (k : Kind) (ks : List Kind) (n : ℕ) (t : List ℤ)
    → slice_get (tuples_of (k ∷ ks)) n ≡ Some t
    → (z : ℤ) × ((u : List ℤ) × ((m : ℕ) × ((r : ℕ) × (t ≡ z ∷ u)
    × (slice_get (values_of k) m ≡ Some z) × (slice_get (tuples_of ks) r ≡ Some u))))
tuple_parts k ks n t e =
    let p = flat_place (after ks) (values_of k) n t e in
    let z = p.1.0 in
    let q = unmapped (λ (u : List ℤ). z ∷ u) (tuples_of ks) p.1.1.0 t p.1.1.2 in
    (z, (q.0, (p.0, (p.1.1.0, sym q.2, p.1.1.1, q.1))))

pub tuple_length : (ks : List Kind) (n : ℕ) (t : List ℤ) → slice_get (tuples_of ks) n ≡ Some t
    → length t ≡ length ks
tuple_length [] zero t e = ap length (sym (same_Some [] t e))
tuple_length [] (suc n) t e = cc
tuple_length (k ∷ ks) n t e =
    let p = tuple_parts k ks n t e in
    ap length p.1.1.1.1 ∙ ap suc (tuple_length ks p.1.1.1.0 p.1.0 p.1.1.1.3)

pub tuple_value : (ks : List Kind) (n : ℕ) (t : List ℤ) (j : ℕ) (k : Kind) (z : ℤ)
    → slice_get (tuples_of ks) n ≡ Some t → slice_get ks j ≡ Some k → slice_get t j ≡ Some z
    → (m : ℕ) × (slice_get (values_of k) m ≡ Some z)
tuple_value [] n t j k z e f g = cc
tuple_value (x ∷ ks) n t zero k z e f g =
    let p = tuple_parts x ks n t e in
    let s : slice_get (p.0 ∷ p.1.0) 0 ≡ Some z = ap (λ u. slice_get u 0) (sym p.1.1.1.1) ∙ g in
    let same : p.0 ≡ z = same_Some p.0 z s in (
      p.1.1.0,
      ap (λ v. slice_get (values_of v) p.1.1.0) (sym (same_Some x k f)) ∙ p.1.1.1.2
          ∙ ap Some same,
    )
tuple_value (x ∷ ks) n t (suc j) k z e f g =
    let p = tuple_parts x ks n t e in
    let s : slice_get p.1.0 j ≡ Some z = ap (λ u. slice_get u (suc j)) (sym p.1.1.1.1) ∙ g in
    tuple_value ks p.1.1.1.0 p.1.0 j k z p.1.1.1.3 f s

-- what was found of a tuple from a place on
pub record IsRankedFrom (ks : List Kind) (t : List ℤ) (i rank size : ℕ) : Type 0 where
  pub number : ℕ
  pub stands : slice_get (tuples_of (drop i ks)) number ≡ Some (drop i t)
  pub rank_is : rank ≡ capped number
  pub size_is : size ≡ capped (number_of (drop i ks))

drop_all : {A : Type 0} (xs : List A) (i : ℕ) → length xs ≤ i → drop i xs ≡ []
drop_all [] zero l = refl
drop_all [] (suc i) l = refl
drop_all (x ∷ xs) zero l = absurd (omega (arith, l))
drop_all (x ∷ xs) (suc i) l = drop_all xs i (omega (arith, l))

pub ranked_none : (ks : List Kind) (t : List ℤ) → length ks ≡ length t
    → IsRankedFrom ks t (length ks) 0 1
ranked_none ks t e =
    let a : drop (length ks) ks ≡ [] = drop_all ks (length ks) (omega arith) in
    let b : drop (length ks) t ≡ [] = drop_all t (length ks) (omega (arith, e)) in
    record {
      number = 0;
      stands = ap (λ l. slice_get (tuples_of l) 0) a ∙ ap Some (sym b);
      rank_is = refl;
      size_is = ap (λ l. capped (number_of l)) (sym a);
    }

pub ranked_more : (ks : List Kind) (t : List ℤ) (i rank size : ℕ) (k : Kind) (z : ℤ) (m : ℕ)
    → slice_get ks i ≡ Some k → slice_get t i ≡ Some z → IsOffset k z (Some m)
    → IsRankedFrom ks t (suc i) rank size
    → IsRankedFrom ks t i (min (min (m * size) most + rank) most) (min (count k * size) most)
ranked_more ks t i rank size k z m e f offset r =
    let a = from_here ks i k e in
    let b = from_here t i z f in
    let n = number_of (drop (suc i) ks) in
    record {
      number = m * n + r.number;
      stands = ap (λ l. slice_get (tuples_of l) (m * n + r.number)) a
          ∙ tuple_at k (drop (suc i) ks) z (drop (suc i) t) m r.number offset r.stands
          ∙ ap Some (sym b);
      rank_is = ap (λ s. min (min (m * s) most + rank) most) r.size_is
          ∙ ap (λ s. min (s + rank) most) (capped_product m n most)
          ∙ ap (λ s. min (min (m * n) most + s) most) r.rank_is
          ∙ capped_sum (m * n) r.number most;
      size_is = ap (λ s. min (count k * s) most) r.size_is
          ∙ capped_product (count k) n most ∙ ap (λ l. capped (number_of l)) (sym a);
    }

pub ranked_all : (ks : List Kind) (t : List ℤ) (rank size : ℕ) → IsRankedFrom ks t 0 rank size
    → IsRank ks t (Some rank)
ranked_all ks t rank size r = (r.number, r.stands, r.rank_is)

pub no_rank : (ks : List Kind) (t : List ℤ) (i : ℕ) (k : Kind) (z : ℤ) → slice_get ks i ≡ Some k
    → slice_get t i ≡ Some z → IsOffset k z None → IsRank ks t None
no_rank ks t i k z e f none = λ n q. let v = tuple_value ks n t i k z q e f in none v.0 v.1

pub other_length : (ks : List Kind) (t : List ℤ) → (length ks ≡ length t → ⊥) → IsRank ks t None
other_length ks t d = λ n q. d (sym (tuple_length ks n t q))

pub ranked_step : (ks : List Kind) (t : List ℤ) (i rank size : ℕ) (k other : Kind)
    (m product next number larger : ℕ) → 0 < i → i ≤ length ks → length ks ≡ length t
    → k ≡ get_or ks (i - 1) k → other ≡ get_or ks (i - 1) other
    → IsOffset k (get_or t (i - 1) (pos 0)) (Some m) → product ≡ min (m * size) most
    → next ≡ min (product + rank) most → number ≡ count other → larger ≡ min (number * size) most
    → IsRankedFrom ks t i rank size → IsRankedFrom ks t (i - 1) next larger
ranked_step ks t i rank size k other m product next number larger p l e is also o a b c d r =
    let j = i - 1 in
    let there : slice_get ks j ≡ Some (get_or ks j k) = slice_get-get_or ks j k (omega (arith, p, l))
    in
    let other_there : slice_get ks j ≡ Some (get_or ks j other) =
    slice_get-get_or ks j other (omega (arith, p, l)) in
    let value : slice_get t j ≡ Some (get_or t j (pos 0)) =
    slice_get-get_or t j (pos 0) (omega (arith, p, l, e)) in
    let kind_is : slice_get ks j ≡ Some k = there ∙ ap Some (sym is) in
    let same : other ≡ k = same_Some other k (ap Some also ∙ sym other_there ∙ kind_is) in
    let from : suc j ≡ i = omega (arith, p) in
    let before : IsRankedFrom ks t (suc j) rank size =
    subst (λ n. IsRankedFrom ks t n rank size) (sym from) r in
    let made : IsRankedFrom ks t j (min (min (m * size) most + rank) most)
    (min (count k * size) most) =
    ranked_more ks t j rank size k (get_or t j (pos 0)) m kind_is value o before in
    subst (λ n. IsRankedFrom ks t j n larger) (sym (b ∙ ap (λ n. min (n + rank) most) a))
    (subst (λ n. IsRankedFrom ks t j (min (min (m * size) most + rank) most) n)
    (sym (d ∙ ap (λ n. min (n * size) most) (c ∙ ap count same))) made)

pub no_step : (ks : List Kind) (t : List ℤ) (i : ℕ) (k : Kind) → 0 < i → i ≤ length ks
    → length ks ≡ length t → k ≡ get_or ks (i - 1) k
    → IsOffset k (get_or t (i - 1) (pos 0)) None → IsRank ks t None
no_step ks t i k p l e is none =
    let j = i - 1 in
    no_rank ks t j k (get_or t j (pos 0)) (slice_get-get_or ks j k (omega (arith, p, l))
    ∙ ap Some (sym is)) (slice_get-get_or t j (pos 0) (omega (arith, p, l, e))) none

pub ranked_end : (ks : List Kind) (t : List ℤ) (i rank size : ℕ) → i ≤ 0
    → IsRankedFrom ks t i rank size → IsRank ks t (Some rank)
ranked_end ks t i rank size l r =
    let z : i ≡ 0 = omega (arith, l) in
    ranked_all ks t rank size (subst (λ n. IsRankedFrom ks t n rank size) z r)
