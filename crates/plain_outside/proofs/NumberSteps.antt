-- The tuples of ordinals by their numbers, an ordinal at a time.
use Rattle.std.proofs.Common.{◌≡◌, ℕ, zero, suc, ◌+◌, ◌-◌, ◌*◌, ◌/◌, ◌%◌, ◌<◌, ◌≤◌, ℤ, pos}
use Rattle.std.proofs.Common.{List, [], ◌∷◌, ◌++◌, map, take, drop, length, reverse, refl, sym, ap}
use Rattle.std.proofs.Common.{◌∙◌, subst, Some, None, slice_get, get_or, arith}
use Rattle.std.specs.Prelude.{◌+ℤ◌}
use Rattle.std.proofs.lemmas.List.{length-map, length-take-le, reverse-append}
use Rattle.std.proofs.lemmas.Option.{same_Some, slice_get-get_or, slice_get_past}
use Rattle.est_syntax.specs.declared.kind.Kind.{Kind}
use Rattle.est_meaning.specs.rule_kinds.TypeTexts.{count}
use Rattle.est_meaning.specs.rule_declares.OrdinalValues.{first_value, values_of, tuples_of}
use Rattle.rule_ports.proofs.Listing.{within, mapped, flat_get, ahead}
use Rattle.rule_ports.proofs.Ranks.{offset_is}
use Rattle.rule_ports.proofs.Tuples.{flat_number, values_number}
use Rattle.plain_outside.specs.inside.NumberedTuples.{IsTupleFrom}

abbrev after : List Kind → ℤ → List (List ℤ)
after ks z = map (λ (t : List ℤ). z ∷ t) (tuples_of ks)

after_number : (ks : List Kind) (z : ℤ) → length (after ks z) ≡ length (tuples_of ks)
after_number ks z = length-map (tuples_of ks) (λ (t : List ℤ). z ∷ t)

-- the tuples of one kind more
more_tuples : (k : Kind) (ks : List Kind)
    → length (tuples_of (k ∷ ks)) ≡ count k * length (tuples_of ks)
more_tuples k ks =
    flat_number (after ks) (length (tuples_of ks)) (after_number ks) (values_of k)
    ∙ ap (λ n. n * length (tuples_of ks)) (values_number k)

tuple_at : (k : Kind) (ks : List Kind) (z : ℤ) (t : List ℤ) (m n : ℕ)
    → slice_get (values_of k) m ≡ Some z → slice_get (tuples_of ks) n ≡ Some t
    → slice_get (tuples_of (k ∷ ks)) (m * length (tuples_of ks) + n) ≡ Some (z ∷ t)
tuple_at k ks z t m n e f =
    let vs = values_of k in
    let size = length (tuples_of ks) in
    let w = within vs m z e in
    let l : n < length (after ks z) = omega (arith, within (tuples_of ks) n t f, after_number ks z)
    in
    let c : ahead (after ks) m vs ≡ m * size =
    flat_number (after ks) size (after_number ks) (take m vs)
    ∙ ap (λ j. j * size) (length-take-le m vs (omega (arith, w))) in
    ap (λ r. slice_get (tuples_of (k ∷ ks)) (r + n)) (sym c)
    ∙ flat_get (after ks) vs m z n e l ∙ mapped (λ (u : List ℤ). z ∷ u) (tuples_of ks) n t f

from_here : {X : Type 0} (xs : List X) (i : ℕ) (x : X) → slice_get xs i ≡ Some x
    → drop i xs ≡ x ∷ drop (suc i) xs
from_here [] i x e = cc
from_here (y ∷ ys) zero x e = cc
from_here (y ∷ ys) (suc i) x e = from_here ys i x e

drop_all : {A : Type 0} (xs : List A) (i : ℕ) → length xs ≤ i → drop i xs ≡ []
drop_all [] zero l = refl
drop_all [] (suc i) l = refl
drop_all (x ∷ xs) zero l = absurd (omega (arith, l))
drop_all (x ∷ xs) (suc i) l = drop_all xs i (omega (arith, l))

-- none is there yet
pub tuple_none : (ks : List Kind) (number : ℕ) → IsTupleFrom ks number (length ks) number []
tuple_none ks number =
    let e : drop (length ks) ks ≡ [] = drop_all ks (length ks) (omega arith) in
    let l : length (tuples_of (drop (length ks) ks)) ≡ 1 = ap (λ xs. length (tuples_of xs)) e in
    let n : number ≡ number * 1 + 0 = omega arith in
    record {
      own = 0;
      stands = ap (λ xs. slice_get (tuples_of xs) 0) e;
      number_is = n ∙ ap (λ x. number * x + 0) (sym l);
    }

-- of a number that is parted in two
parted : (rest quotient digit values size own : ℕ) → rest ≡ quotient * values + digit
    → rest * size + own ≡ quotient * (values * size) + (digit * size + own)
parted rest quotient digit values size own e = rw e (omega arith)

-- one is there more
pub tuple_more : (ks : List Kind) (number i rest : ℕ) (ordinals : List ℤ) (k : Kind)
    (quotient digit : ℕ) (z : ℤ) → slice_get ks i ≡ Some k → digit < count k
    → rest ≡ quotient * count k + digit → z ≡ first_value k +ℤ pos digit
    → IsTupleFrom ks number (suc i) rest ordinals
    → IsTupleFrom ks number i quotient (ordinals ++ z ∷ [])
tuple_more ks number i rest ordinals k quotient digit z e l parts value h =
    let before = drop (suc i) ks in
    let size = length (tuples_of before) in
    let a = from_here ks i k e in
    record {
      own = digit * size + h.own;
      stands = ap (λ xs. slice_get (tuples_of xs) (digit * size + h.own)) a
          ∙ tuple_at k before z (reverse ordinals) digit h.own (offset_is k z digit l value)
          h.stands
          ∙ ap Some (sym (reverse-append ordinals (z ∷ [])));
      number_is = h.number_is ∙ parted rest quotient digit (count k) size h.own parts
          ∙ ap (λ n. quotient * n + (digit * size + h.own))
          (sym (ap (λ xs. length (tuples_of xs)) a ∙ more_tuples k before));
    }

-- all are there
pub tuple_all : (ks : List Kind) (number i : ℕ) (ordinals : List ℤ) → i ≤ 0
    → IsTupleFrom ks number i 0 ordinals
    → Some (reverse ordinals) ≡ slice_get (tuples_of ks) number
tuple_all ks number i ordinals l h =
    let z : i ≡ 0 = omega (arith, l) in
    let s : slice_get (tuples_of ks) h.own ≡ Some (reverse ordinals) =
    ap (λ n. slice_get (tuples_of (drop n ks)) h.own) (sym z) ∙ h.stands in
    let n : number ≡ h.own = h.number_is ∙ omega arith in
    sym (ap (slice_get (tuples_of ks)) n ∙ s)

past_all : (number rest size own : ℕ) → 0 < rest → number ≡ rest * size + own → size ≤ number
past_all number zero size own l e = absurd (omega (arith, l))
past_all number (suc rest) size own l e = omega (arith, e)

-- there is no such tuple
pub tuple_past : (ks : List Kind) (number i rest : ℕ) (ordinals : List ℤ) → i ≤ 0 → 0 < rest
    → IsTupleFrom ks number i rest ordinals → None ≡ slice_get (tuples_of ks) number
tuple_past ks number i rest ordinals l r h =
    let z : i ≡ 0 = omega (arith, l) in
    let n : number ≡ rest * length (tuples_of ks) + h.own =
    h.number_is ∙ ap (λ j. rest * length (tuples_of (drop j ks)) + h.own) z in
    sym (slice_get_past (tuples_of ks) number
    (past_all number rest (length (tuples_of ks)) h.own r n))

-- a kind that has no values has no tuples
pub no_tuples : (ks : List Kind) (number i : ℕ) (k : Kind) → slice_get ks i ≡ Some k → count k ≡ 0
    → None ≡ slice_get (tuples_of ks) number
no_tuples ks number i k e z =
    sym (slice_get_past (tuples_of ks) number (let n = none ks i e in omega (arith, n)))
  where
    none : (ks : List Kind) (i : ℕ) → slice_get ks i ≡ Some k → length (tuples_of ks) ≡ 0
    none [] i e = absurd cc
    none (x ∷ xs) zero e =
        more_tuples x xs ∙ ap (λ y. count y * length (tuples_of xs)) (same_Some x k e)
        ∙ ap (λ n. n * length (tuples_of xs)) z ∙ omega arith
    none (x ∷ xs) (suc i) e =
        more_tuples x xs ∙ ap (λ n. count x * n) (none xs i e) ∙ omega arith

-- one is there more, as the loop goes
pub tuple_step : (ks : List Kind) (number i rest : ℕ) (ordinals : List ℤ) (k : Kind) (values : ℕ)
    (low z : ℤ) → 0 < i → i ≤ length ks → k ≡ get_or ks (i - 1) k → values ≡ count k
    → (values ≡ 0 → ⊥) → low ≡ first_value k → z ≡ low +ℤ pos (rest % values)
    → IsTupleFrom ks number i rest ordinals
    → IsTupleFrom ks number (i - 1) (rest / values) (ordinals ++ z ∷ [])
tuple_step ks number i rest ordinals k values low z p l is counts some first value h =
    let j = i - 1 in
    let kind_is : slice_get ks j ≡ Some k =
    slice_get-get_or ks j k (omega (arith, p, l)) ∙ ap Some (sym is) in
    let from : i ≡ suc j = omega (arith, p) in
    let before : IsTupleFrom ks number (suc j) rest ordinals =
    subst (λ n. IsTupleFrom ks number n rest ordinals) from h in
    let positive : 0 < values = omega (arith, some) in
    let small : rest % values < count k = omega (arith, positive, counts) in
    let parts : rest ≡ (rest / values) * values + rest % values = omega (arith, positive) in
    tuple_more ks number j rest ordinals k (rest / values) (rest % values) z kind_is small
    (parts ∙ ap (λ n. (rest / values) * n + rest % values) counts)
    (value ∙ ap (λ y. y +ℤ pos (rest % values)) first) before
