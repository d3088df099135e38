-- What is found first in a list.
use Rattle.std.proofs.Common.{◌≡◌, refl, sym, ap, ◌∙◌, arith, ◌+◌, nat_lt, not, Bool, true, false}
use Rattle.std.proofs.Common.{cond, List, [], ◌∷◌, ◌++◌, length, length-append, Option, Some, None}
use Rattle.std.specs.List.{filter, find, position, position_or_len}
use Rattle.std.specs.Option.{option_or}
use Rattle.std.proofs.lemmas.Bool.{lt-ltb}
use Rattle.std.proofs.lemmas.Option.{same_Some}

-- FILTERS

false_if : (b : Bool) → (b ≡ true → false ≡ true) → b ≡ false
false_if true h = sym (h refl)
false_if false h = refl

-- where all that passes a test is kept, the first of it is the same
kept_arm : {A : Type 0} (other : A → Bool) (x : A) (xs kept : List A) (c : Bool)
    → (other x ≡ true → c ≡ true) → find other kept ≡ find other xs
    → find other (cond c (x ∷ kept) kept) ≡ find other (x ∷ xs)
kept_arm other x xs kept true h k = ap (λ o. cond (other x) (Some x) o) k
kept_arm other x xs kept false h k =
    k ∙ sym (ap (λ b. cond b (Some x) (find other xs)) (false_if (other x) h))

pub found_kept : {A : Type 0} (test other : A → Bool) (xs : List A)
    → ((a : A) → other a ≡ true → test a ≡ true)
    → find other (filter test xs) ≡ find other xs
found_kept test other [] h = refl
found_kept test other (x ∷ xs) h =
    kept_arm other x xs (filter test xs) (test x) (h x) (found_kept test other xs h)

-- where none of it is kept, there is none
none_arm : {A : Type 0} (other : A → Bool) (x : A) (kept : List A) (c : Bool)
    → (other x ≡ true → c ≡ false) → find other kept ≡ None
    → find other (cond c (x ∷ kept) kept) ≡ None
none_arm other x kept true h k =
    ap (λ b. cond b (Some x) (find other kept)) (false_if (other x) (λ e. sym (h e))) ∙ k
none_arm other x kept false h k = k

pub found_none : {A : Type 0} (test other : A → Bool) (xs : List A)
    → ((a : A) → other a ≡ true → test a ≡ false) → find other (filter test xs) ≡ None
found_none test other [] h = refl
found_none test other (x ∷ xs) h =
    none_arm other x (filter test xs) (test x) (h x) (found_none test other xs h)

-- TWO LISTS

front_arm : {A : Type 0} (x : A) (o p q : Option A) (b : Bool) → o ≡ option_or p q
    → cond b (Some x) o ≡ option_or (cond b (Some x) p) q
front_arm x o p q true h = refl
front_arm x o p q false h = h

-- what is found in the first of two lists, or in the second
pub found_in_both : {A : Type 0} (test : A → Bool) (xs ys : List A)
    → find test (xs ++ ys) ≡ option_or (find test xs) (find test ys)
found_in_both test [] ys = refl
found_in_both test (x ∷ xs) ys =
    front_arm x (find test (xs ++ ys)) (find test xs) (find test ys) (test x)
    (found_in_both test xs ys)

-- THE LAST THING

passed : {A : Type 0} (b : Bool) (x : A) (o : Option A) → cond b (Some x) o ≡ None
    → (b ≡ false) × (o ≡ None)
passed true x o h = absurd (cc)
passed false x o h = (refl, h)

last_number : {A : Type 0} (test : A → Bool) (xs : List A) (x : A) → find test xs ≡ None
    → test x ≡ true → position_or_len test (xs ++ x ∷ []) ≡ length xs
last_number test [] x n e = ap (λ b. cond (not b) (1 + 0) 0) e
last_number test (y ∷ ys) x n e =
    let q = passed (test y) y (find test ys) n in
    let one : 1 + length ys ≡ length (y ∷ ys) = omega arith in
    ap (λ b. cond (not b) (1 + position_or_len test (ys ++ x ∷ [])) 0) q.0
    ∙ ap (λ k. 1 + k) (last_number test ys x q.1 e) ∙ one

-- what is put last where nothing else passes stands there
pub last_place : {A : Type 0} (test : A → Bool) (xs : List A) (x : A) → find test xs ≡ None
    → test x ≡ true → position test (xs ++ x ∷ []) ≡ Some (length xs)
last_place test xs x n e =
    let k : position_or_len test (xs ++ x ∷ []) ≡ length xs = last_number test xs x n e in
    let l : length (xs ++ x ∷ []) ≡ length xs + 1 = length-append xs (x ∷ []) in
    let t : nat_lt (position_or_len test (xs ++ x ∷ [])) (length (xs ++ x ∷ [])) ≡ true =
    lt-ltb _ _ (omega (arith, k, l)) in
    ap (λ b. cond b (Some (position_or_len test (xs ++ x ∷ []))) None) t ∙ ap (λ m. Some m) k

-- WHAT IS FOUND

passes_arm : {A : Type 0} (test : A → Bool) (y x : A) (ys : List A) (c : Bool) → test y ≡ c
    → cond c (Some y) (find test ys) ≡ Some x → (find test ys ≡ Some x → test x ≡ true)
    → test x ≡ true
passes_arm test y x ys true e h later = ap test (sym (same_Some y x h)) ∙ e
passes_arm test y x ys false e h later = later h

-- it passes
pub found_passes : {A : Type 0} (test : A → Bool) (xs : List A) (x : A) → find test xs ≡ Some x
    → test x ≡ true
found_passes test [] x h = absurd (cc)
found_passes test (y ∷ ys) x h =
    passes_arm test y x ys (test y) refl h (found_passes test ys x)
