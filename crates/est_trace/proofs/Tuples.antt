-- Tuples of ordinals among those that number the elements of an array.
use Rattle.std.proofs.Common.{◌≡◌, ℕ, ◌+◌, ℤ, List, [], ◌∷◌, map}
use Rattle.std.proofs.Common.{refl, sym, ap, ◌∙◌, subst, arith, true, false, Bool, ◌&&◌, Some}
use Rattle.std.proofs.Common.{slice_get}
use Rattle.std.specs.Ordering.{int_eq}
use Rattle.std.specs.List.{AllZip}
use Rattle.std.proofs.lemmas.Bool.Decides.{Decides-int_eq}
use Rattle.std.proofs.lemmas.Int.{ints}
use Rattle.std.proofs.lemmas.Option.{same_Some}
use Rattle.est_syntax.specs.declared.kind.Kind.{Kind}
use Rattle.est_values.specs.FittingValues.{first_ordinal, IsOrdinalOf}
use Rattle.est_meaning.proofs.of_rule_declares.Names.{once_differ}
use Rattle.est_meaning.specs.rule_declares.OrdinalValues.{values_of, tuples_of}
use Rattle.rule_ports.proofs.Listing.{within, mapped, ahead, flat_get, flat_place}
use Rattle.rule_ports.proofs.Ranks.{offset_is, unmapped}
use Rattle.rule_ports.proofs.Tuples.{itself, values_number, tuples_once}
use Rattle.est_trace.specs.PortNames.{are_first}
use Rattle.est_trace.proofs.Ordinals.{ordinal_there}

-- nothing stands ahead of the first
pub ahead_none : {X A : Type 0} (f : X → List A) (xs : List X) → ahead f 0 xs ≡ 0
ahead_none f [] = refl
ahead_none f (x ∷ xs) = refl

-- the tuples that begin with an ordinal
abbrev after : List Kind → ℤ → List (List ℤ)
after ks z = map (λ (t : List ℤ). z ∷ t) (tuples_of ks)

tuple_in : (k : Kind) (ks : List Kind) (z : ℤ) (t : List ℤ) (m n : ℕ)
    → slice_get (values_of k) m ≡ Some z → slice_get (tuples_of ks) n ≡ Some t
    → slice_get (tuples_of (k ∷ ks)) (ahead (after ks) m (values_of k) + n) ≡ Some (z ∷ t)
tuple_in k ks z t m n e f =
    let at : slice_get (after ks z) n ≡ Some (z ∷ t) =
    mapped (λ (u : List ℤ). z ∷ u) (tuples_of ks) n t f in
    flat_get (after ks) (values_of k) m z n e (within (after ks z) n (z ∷ t) at) ∙ at

-- each tuple of ordinals is there
pub tuple_there : (ks : List Kind) (t : List ℤ) → AllZip IsOrdinalOf ks t
    → (n : ℕ) × (slice_get (tuples_of ks) n ≡ Some t)
tuple_there [] [] h = (0, refl)
tuple_there [] (z ∷ t) h = absurd h
tuple_there (k ∷ ks) [] h = absurd h
tuple_there (k ∷ ks) (z ∷ t) h =
    let m = ordinal_there k z h.0 in
    let n = tuple_there ks t h.1 in
    (ahead (after ks) m.0 (values_of k) + n.0, tuple_in k ks z t m.0 n.0 m.1 n.1)

-- the first of all
abbrev pub firsts : List Kind → List ℤ
firsts ks = map first_ordinal ks

pub are_firsts : (ks : List Kind) → are_first ks (firsts ks) ≡ true
are_firsts [] = refl
are_firsts (k ∷ ks) =
    let e = (Decides-int_eq (first_ordinal k) (first_ordinal k)).1 refl in
    ap (λ b. b && are_first ks (firsts ks)) e ∙ are_firsts ks

both_true : (a b : Bool) → (a && b) ≡ true → (a ≡ true) × (b ≡ true)
both_true true b e = (refl, e)
both_true false b e = cc

pub firsts_are : (ks : List Kind) (t : List ℤ) → are_first ks t ≡ true → t ≡ firsts ks
firsts_are [] [] e = refl
firsts_are [] (z ∷ t) e = cc
firsts_are (k ∷ ks) [] e = cc
firsts_are (k ∷ ks) (z ∷ t) e =
    let b = both_true (int_eq z (first_ordinal k)) (are_first ks t) e in
    let h : z ≡ first_ordinal k = (Decides-int_eq z (first_ordinal k)).0 b.0 in
    let r = firsts_are ks t b.1 in
    λ i. h i ∷ r i

-- where there is some tuple, that one is there too, before all others
pub first_there : (ks : List Kind) (n : ℕ) (t : List ℤ) → slice_get (tuples_of ks) n ≡ Some t
    → slice_get (tuples_of ks) 0 ≡ Some (firsts ks)
first_there [] n t e = refl
first_there (k ∷ ks) n t e =
    let p = flat_place (after ks) (values_of k) n t e in
    let z = p.1.0 in
    let u = unmapped (λ (v : List ℤ). z ∷ v) (tuples_of ks) p.1.1.0 t p.1.1.2 in
    let l = within (values_of k) p.0 z p.1.1.1 in
    let c = values_number k in
    let first = offset_is k (first_ordinal k) 0 (omega (arith, l, c)) (omega (arith, ints)) in
    let rest = first_there ks p.1.1.0 u.0 u.1 in
    let i : ahead (after ks) 0 (values_of k) + 0 ≡ 0 =
    (let a = ahead_none (after ks) (values_of k) in omega (arith, a)) in
    subst (λ m. slice_get (tuples_of (k ∷ ks)) m ≡ Some (firsts (k ∷ ks))) i
    (tuple_in k ks (first_ordinal k) (firsts ks) 0 0 first rest)

pub first_place : (ks : List Kind) (n : ℕ) (t : List ℤ) → slice_get (tuples_of ks) n ≡ Some t
    → are_first ks t ≡ true → n ≡ 0
first_place ks n t e h =
    once_differ itself (tuples_of ks) (tuples_once ks) n 0 t (firsts ks) e (first_there ks n t e)
    (firsts_are ks t h)

pub first_at : (ks : List Kind) (n : ℕ) (t : List ℤ) → slice_get (tuples_of ks) n ≡ Some t
    → n ≡ 0 → are_first ks t ≡ true
first_at ks n t e z =
    let same : t ≡ firsts ks = same_Some t (firsts ks) (sym e ∙ ap (slice_get (tuples_of ks)) z
    ∙ first_there ks n t e) in
    ap (are_first ks) same ∙ are_firsts ks
