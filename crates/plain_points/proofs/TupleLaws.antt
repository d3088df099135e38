-- Tuples of ordinals as they are listed.
use Rattle.std.proofs.Common.{◌≡◌, refl, sym, ap, ◌∙◌, arith, ℕ, zero, suc, ◌-◌, ◌<◌, ◌≤◌, nat_lt}
use Rattle.std.proofs.Common.{ℤ, pos, ◌+ℤ◌, ◌&&◌, Bool, true, false, List, [], ◌∷◌, ◌++◌, map}
use Rattle.std.proofs.Common.{length, take, Some, None, slice_get}
use Rattle.std.specs.Prelude.{flat_map}
use Rattle.std.specs.List.{list_all, range_with_len}
use Rattle.std.proofs.lemmas.Bool.{ltb-true, ltb-false}
use Rattle.std.proofs.lemmas.Int.{ints}
use Rattle.std.proofs.lemmas.List.{length-map}
use Rattle.std.proofs.lemmas.Option.{same_Some, slice_get_within}
use Rattle.est_syntax.specs.declared.kind.Kind.{Kind}
use Rattle.est_values.specs.FittingValues.{first_ordinal, ordinal_count}
use Rattle.est_values.specs.OrdinalTuples.{ordinal_tuples, first_tuple, next_tuple}
use Rattle.est_values.proofs.TuplesInOrder.{tuples_follow}
use Rattle.plain_points.specs.PointsOfHeaders.{AreListed}

-- THE FIRST TUPLE

abbrev begun : List (List ℤ) → ℤ → List (List ℤ)
begun b z = map (λ (t : List ℤ). z ∷ t) b

abbrev blocks : (ℕ → ℤ) → List (List ℤ) → ℕ → List (List ℤ)
blocks f b n = flat_map (begun b) (map f (range_with_len 0 n))

block_head : (f : ℕ → ℤ) (b : List (List ℤ)) (n : ℕ) (t : List ℤ) → 0 < n
    → slice_get b 0 ≡ Some t → slice_get (blocks f b n) 0 ≡ Some (f 0 ∷ t)
block_head f b zero t h g = absurd (omega (arith, h))
block_head f [] (suc n) t h g = absurd (cc)
block_head f (u ∷ us) (suc n) t h g = ap (λ (v : List ℤ). Some (f 0 ∷ v)) (same_Some u t g)

halves : (a b : Bool) → (a && b) ≡ true → (a ≡ true) × (b ≡ true)
halves true true e = (refl, refl)
halves true false e = absurd (cc)
halves false b e = absurd (cc)

abbrev has_ordinal : Kind → Bool
has_ordinal k = nat_lt 0 (ordinal_count k)

pub some_tuples : (ks : List Kind) → list_all has_ordinal ks ≡ true
    → slice_get (ordinal_tuples ks) 0 ≡ Some (first_tuple ks)
some_tuples [] h = refl
some_tuples (k ∷ ks) h =
    let e = halves (has_ordinal k) (list_all has_ordinal ks) h in
    let z : first_ordinal k +ℤ pos 0 ≡ first_ordinal k = omega (arith, ints) in
    block_head (λ (i : ℕ). first_ordinal k +ℤ pos i) (ordinal_tuples ks) (ordinal_count k)
    (first_tuple ks) (ltb-true 0 (ordinal_count k) e.0) (some_tuples ks e.1)
    ∙ ap (λ (y : ℤ). Some (y ∷ first_tuple ks)) z

-- NO TUPLE

nothing_begun : (zs : List ℤ) → flat_map (begun []) zs ≡ []
nothing_begun [] = refl
nothing_begun (z ∷ zs) = nothing_begun zs

no_blocks : (f : ℕ → ℤ) (b : List (List ℤ)) (n : ℕ) → n ≡ 0 → blocks f b n ≡ []
no_blocks f b n h = ap (blocks f b) h

none_arm : (f : ℕ → ℤ) (b : List (List ℤ)) (n : ℕ) (c d : Bool) → nat_lt 0 n ≡ c
    → (c && d) ≡ false → (d ≡ false → b ≡ []) → blocks f b n ≡ []
none_arm f b n true d e h k =
    ap (λ (l : List (List ℤ)). blocks f l n) (k h) ∙ nothing_begun (map f (range_with_len 0 n))
none_arm f b n false d e h k =
    let l : n ≤ 0 = ltb-false 0 n e in no_blocks f b n (omega (arith, l))

pub no_tuples : (ks : List Kind) → list_all has_ordinal ks ≡ false → ordinal_tuples ks ≡ []
no_tuples [] h = absurd (cc)
no_tuples (k ∷ ks) h =
    none_arm (λ (i : ℕ). first_ordinal k +ℤ pos i) (ordinal_tuples ks) (ordinal_count k)
    (has_ordinal k) (list_all has_ordinal ks) refl h (no_tuples ks)

-- ONE MORE

one_taken : {A : Type 0} (xs : List A) (i : ℕ) (x : A) → slice_get xs i ≡ Some x
    → take (suc i) xs ≡ take i xs ++ x ∷ []
one_taken [] i x h = absurd (cc)
one_taken (y ∷ ys) zero x h = ap (λ z. z ∷ []) (same_Some y x h)
one_taken (y ∷ ys) (suc i) x h = ap (λ zs. y ∷ zs) (one_taken ys i x h)

all_taken : {A : Type 0} (xs : List A) (i : ℕ) → slice_get xs i ≡ None → take i xs ≡ xs
all_taken [] zero h = refl
all_taken [] (suc i) h = refl
all_taken (y ∷ ys) zero h = absurd (cc)
all_taken (y ∷ ys) (suc i) h = ap (λ zs. y ∷ zs) (all_taken ys i h)

next_length : (xs : List (List ℤ)) (t : List ℤ) → length (xs ++ t ∷ []) ≡ suc (length xs)
next_length [] t = refl
next_length (x ∷ xs) t = ap suc (next_length xs t)

module _ (ks : List Kind) (xs more : List (List ℤ)) (t u : List ℤ) (d : AreListed ks xs t)
    (m : more ≡ xs ++ u ∷ []) (e : u ≡ t) where
  long : length more ≡ suc (length xs)
  long = ap length m ∙ next_length xs u

  listed : more ≡ take (suc (length xs)) (ordinal_tuples ks)
  listed = m ∙ ap (λ v. xs ++ v ∷ []) e ∙ ap (λ ys. ys ++ t ∷ []) d.so_far
      ∙ sym (one_taken (ordinal_tuples ks) (length xs) t d.next)

  pub listed_more : (v : List ℤ) → next_tuple ks t ≡ Some v → length v ≡ length ks
      → AreListed ks more v
  listed_more v n l = record {
    so_far = listed ∙ ap (λ k. take k (ordinal_tuples ks)) (sym long);
    next = ap (slice_get (ordinal_tuples ks)) long
        ∙ tuples_follow ks (length xs) t d.next ∙ n;
    long = l;
  }

  pub listed_all : next_tuple ks t ≡ None → more ≡ ordinal_tuples ks
  listed_all n = listed ∙ all_taken (ordinal_tuples ks) (suc (length xs))
      (tuples_follow ks (length xs) t d.next ∙ n)

pub listed_within : (ks : List Kind) (xs : List (List ℤ)) (t : List ℤ) → AreListed ks xs t
    → length xs < length (ordinal_tuples ks)
listed_within ks xs t d = slice_get_within (ordinal_tuples ks) (length xs) t d.next

pub listed_less : (ks : List Kind) (xs more : List (List ℤ)) (t u : List ℤ) → AreListed ks xs t
    → more ≡ xs ++ u ∷ []
    → length (ordinal_tuples ks) - length more < length (ordinal_tuples ks) - length xs
listed_less ks xs more t u d m =
    let w : length xs < length (ordinal_tuples ks) = listed_within ks xs t d in
    let l : length more ≡ suc (length xs) = ap length m ∙ next_length xs u in
    omega (arith, w, l)

none_taken : {A : Type 0} (xs : List A) → take 0 xs ≡ []
none_taken [] = refl
none_taken (x ∷ xs) = refl

-- before the first one
pub listed_none : (ks : List Kind) (xs : List (List ℤ)) (t : List ℤ) → xs ≡ []
    → t ≡ first_tuple ks → list_all has_ordinal ks ≡ true → AreListed ks xs t
listed_none ks xs t h e a = record {
  so_far = h ∙ sym (ap (λ (ys : List (List ℤ)). take (length ys) (ordinal_tuples ks)) h
      ∙ none_taken (ordinal_tuples ks));
  next = ap (λ (ys : List (List ℤ)). slice_get (ordinal_tuples ks) (length ys)) h
      ∙ some_tuples ks a ∙ ap (λ (v : List ℤ). Some v) (sym e);
  long = ap length e ∙ length-map ks first_ordinal;
}
