-- How many tuples there are, and that no two are one.
use Rattle.std.proofs.Common.{◌≡◌, ℕ, zero, suc, ◌+◌, ◌*◌, ◌<◌, ℤ, pos, List, [], ◌∷◌, map}
use Rattle.std.proofs.Common.{length, refl, ap, ◌∙◌, arith, length-append}
use Rattle.std.specs.Prelude.{◌+ℤ◌, flat_map}
use Rattle.std.proofs.lemmas.List.{length-map}
use Rattle.std.specs.List.{range_with_len}
use Rattle.std.proofs.lemmas.Int.{ints}
use Rattle.std.proofs.lemmas.List.FromFn.{length-map-range_with_len}
use Rattle.est_syntax.specs.declared.kind.Kind.{Kind}
use Rattle.rule_declares.specs.rule_kinds.TypeTexts.{count}
use Rattle.rule_declares.proofs.Names.{IsNew, AreOnce}
use Rattle.rule_declares.specs.OrdinalValues.{first_value, values_of, tuples_of}
use Rattle.rule_ports.proofs.Once.{once_map, of_map, once_flat}

-- the product of the numbers of values
abbrev pub number_of : List Kind → ℕ
number_of [] = 1
number_of (k ∷ ks) = count k * number_of ks

pub values_number : (k : Kind) → length (values_of k) ≡ count k
unfolding values_of
values_number k =
    length-map-range_with_len (λ (i : ℕ). first_value k +ℤ pos i) 0 (count k)

-- lists of one length, one after the other
pub flat_number : {X A : Type 0} (f : X → List A) (n : ℕ) → ((x : X) → length (f x) ≡ n)
    → (xs : List X) → length (flat_map f xs) ≡ length xs * n
flat_number f n h [] = omega arith
flat_number f n h (x ∷ xs) =
    let e = flat_number f n h xs in
    let l = h x in
    let s : suc (length xs) * n ≡ n + length xs * n = omega arith in
    length-append (f x) (flat_map f xs) ∙ omega (arith, e, l, s)

pub tuples_number : (ks : List Kind) → length (tuples_of ks) ≡ number_of ks
tuples_number [] = refl
tuples_number (k ∷ ks) =
    flat_number (λ (z : ℤ). map (λ (t : List ℤ). z ∷ t) (tuples_of ks)) (number_of ks)
    (λ z. length-map (tuples_of ks) (λ (t : List ℤ). z ∷ t) ∙ tuples_number ks) (values_of k)
    ∙ ap (λ n. n * number_of ks) (values_number k)

-- no two values are one
abbrev pub itself : {A : Type 0} → A → A
itself x = x

number_new : (i a n : ℕ) → i < a → IsNew {A = ℕ} itself i (range_with_len a n)
number_new i a zero l = tt
number_new i a (suc n) l = (λ e. omega (arith, e, l), number_new i (a + 1) n (omega (arith, l)))

numbers_once : (a n : ℕ) → AreOnce {A = ℕ} itself (range_with_len a n)
numbers_once a zero = tt
numbers_once a (suc n) = (number_new a (a + 1) n (omega arith), numbers_once (a + 1) n)

told : (z : ℤ) (i j : ℕ) → z +ℤ pos i ≡ z +ℤ pos j → i ≡ j
told z i j e = omega (arith, ints, e)

values_once : (k : Kind) → AreOnce {A = ℤ} itself (values_of k)
unfolding values_of
values_once k =
    once_map {A = ℤ} itself itself (λ (i : ℕ). first_value k +ℤ pos i) (told (first_value k))
    (range_with_len 0 (count k)) (numbers_once 0 (count k))

-- no two tuples are one
abbrev head_of : List ℤ → ℤ
head_of [] = pos 0
head_of (z ∷ zs) = z

same_rest : (z : ℤ) (s t : List ℤ) → z ∷ s ≡ z ∷ t → s ≡ t
same_rest z s t e = cc

pub tuples_once : (ks : List Kind) → AreOnce {A = List ℤ} itself (tuples_of ks)
tuples_once [] = (tt, tt)
tuples_once (k ∷ ks) =
    once_flat {A = List ℤ} itself head_of itself
    (λ (z : ℤ). map (λ (t : List ℤ). z ∷ t) (tuples_of ks))
    (λ z. of_map {A = List ℤ} itself head_of z (λ (t : List ℤ). z ∷ t) (λ t. refl) (tuples_of ks))
    (λ z. once_map {A = List ℤ} itself itself (λ (t : List ℤ). z ∷ t) (same_rest z) (tuples_of ks)
    (tuples_once ks)) (values_of k) (values_once k)
