-- Members of lists, and firings in order.
use Rattle.std.proofs.Common.{◌≡◌, ◌<◌, ◌+◌, ◌⊎◌, refl, sym, ap, subst, ◌∙◌, inl, inr, ℕ, Bool}
use Rattle.std.proofs.Common.{true, false, cond, List, [], ◌∷◌, ◌++◌, arith, length, drop, get_or}
use Rattle.std.proofs.Common.{zero, suc, add-one, drop-cons}
use Rattle.std.specs.List.{filter}
use Rattle.est_syntax.specs.Least.{IsIn}
use Rattle.est_meaning.specs.declared.firing.Firing.{Firing}
use Rattle.est_meaning.specs.FiringOrder.{FiringBefore, IsBeforeAll, IsAscending}
use Rattle.plain_choices.specs.declared.offers.Offer.{Offer}
use Rattle.plain_choices.specs.inside.InstanceOffers.{firings_of}

-- MEMBERS

pub in_append : {A : Type 0} (x : A) (xs ys : List A) → IsIn x (xs ++ ys) → IsIn x xs ⊎ IsIn x ys
in_append x [] ys a = inr a
in_append x (z ∷ xs) ys a = elim a [
  | inl e ↦ inl (inl e)
  | inr b ↦ elim (in_append x xs ys b) [ inl c ↦ inl (inr c) | inr c ↦ inr c ]
]

pub in_front : {A : Type 0} (x : A) (xs ys : List A) → IsIn x xs → IsIn x (xs ++ ys)
in_front x [] ys a = absurd a
in_front x (z ∷ xs) ys a = elim a [ inl e ↦ inl e | inr b ↦ inr (in_front x xs ys b) ]

pub in_back : {A : Type 0} (x : A) (xs ys : List A) → IsIn x ys → IsIn x (xs ++ ys)
in_back x [] ys a = a
in_back x (z ∷ xs) ys a = inr (in_back x xs ys a)

pub in_snoc : {A : Type 0} (x y : A) (xs : List A) → IsIn x (xs ++ y ∷ []) → IsIn x xs ⊎ (y ≡ x)
in_snoc x y xs a = elim (in_append x xs (y ∷ []) a) [
  | inl b ↦ inl b
  | inr b ↦ elim b [ inl e ↦ inr e | inr n ↦ absurd n ]
]

pub in_last : {A : Type 0} (y : A) (xs : List A) → IsIn y (xs ++ y ∷ [])
in_last y xs = in_back y xs (y ∷ []) (inl refl)

-- the items of a list from a number on
pub from_number : {A : Type 0} (xs : List A) (i : ℕ) (x : A) → i < length xs
    → x ≡ get_or xs i x → drop i xs ≡ x ∷ drop (i + 1) xs
from_number xs i x lt e = subst (λ j. drop i xs ≡ x ∷ drop j xs) (sym (add-one i))
    (subst (λ y. drop i xs ≡ y ∷ drop (suc i) xs) (sym e) (drop-cons xs i x lt))

pub in_number : {A : Type 0} (xs : List A) (i : ℕ) (x : A) → i < length xs → x ≡ get_or xs i x
    → IsIn x xs
in_number [] i x lt e = absurd (omega (arith, lt))
in_number (y ∷ xs) zero x lt e = inl (sym e)
in_number (y ∷ xs) (suc i) x lt e = inr (in_number xs i x (omega (arith, lt)) e)

-- what is read at a number, whatever is read past the end
pub at_number : {A : Type 0} (xs : List A) (i : ℕ) (d : A) → i < length xs
    → get_or xs i d ≡ get_or xs i (get_or xs i d)
at_number [] i d lt = absurd (omega (arith, lt))
at_number (y ∷ xs) zero d lt = refl
at_number (y ∷ xs) (suc i) d lt = at_number xs i d (omega (arith, lt))

-- OFFERS

pub offer_of : (f : Firing) (os : List Offer) → IsIn f (firings_of os)
    → (o : Offer) × IsIn o os × (o.firing ≡ f)
offer_of f [] a = absurd a
offer_of f (o ∷ os) a = elim a [
  | inl e ↦ (o, inl refl, e)
  | inr b ↦ (let w = offer_of f os b in (w.0, inr w.1, w.2))
]

pub firing_in : (o : Offer) (os : List Offer) → IsIn o os → IsIn o.firing (firings_of os)
firing_in o [] a = absurd a
firing_in o (p ∷ os) a = elim a [
  | inl e ↦ inl (ap (λ (q : Offer). q.firing) e)
  | inr b ↦ inr (firing_in o os b)
]

pub firings_snoc : (os : List Offer) (o : Offer)
    → firings_of (os ++ o ∷ []) ≡ firings_of os ++ o.firing ∷ []
firings_snoc [] o = refl
firings_snoc (p ∷ os) o = ap (λ fs. p.firing ∷ fs) (firings_snoc os o)

-- FILTERS

passed_arm : {A : Type 0} (x y : A) (ys zs : List A) (test : A → Bool) (b : Bool) → test y ≡ b
    → (IsIn x zs → IsIn x ys × (test x ≡ true)) → IsIn x (cond b (y ∷ zs) zs)
    → IsIn x (y ∷ ys) × (test x ≡ true)
passed_arm x y ys zs test true e h a = elim a [
  | inl q ↦ (inl q, ap test (sym q) ∙ e)
  | inr b ↦ (let w = h b in (inr w.0, w.1))
]
passed_arm x y ys zs test false e h a = (let w = h a in (inr w.0, w.1))

pub passed : {A : Type 0} (x : A) (ys : List A) (test : A → Bool) → IsIn x (filter test ys)
    → IsIn x ys × (test x ≡ true)
passed x [] test a = absurd a
passed x (y ∷ ys) test a = passed_arm x y ys (filter test ys) test (test y) refl
    (λ b. passed x ys test b) a

passes_arm : {A : Type 0} (x y : A) (zs : List A) (test : A → Bool) (b : Bool) → test y ≡ b
    → test x ≡ true → (y ≡ x) ⊎ IsIn x zs → IsIn x (cond b (y ∷ zs) zs)
passes_arm x y zs test true e h a = a
passes_arm x y zs test false e h a = elim a [
  | inl q ↦ (let n : true ≡ false = sym h ∙ ap test (sym q) ∙ e in cc)
  | inr b ↦ b
]

pub passes : {A : Type 0} (x : A) (ys : List A) (test : A → Bool) → IsIn x ys → test x ≡ true
    → IsIn x (filter test ys)
passes x [] test a h = a
passes x (y ∷ ys) test a h = passes_arm x y (filter test ys) test (test y) refl h (elim a [
  | inl q ↦ inl q
  | inr b ↦ inr (passes x ys test b h)
])

-- ORDER

pub before_append : (f : Firing) (fs gs : List Firing) → IsBeforeAll f fs
    → ((g : Firing) → IsIn g gs → FiringBefore f g) → IsBeforeAll f (fs ++ gs)
before_append f [] [] b lt = tt
before_append f [] (g ∷ gs) b lt =
    (lt g (inl refl), before_append f [] gs tt (λ h a. lt h (inr a)))
before_append f (x ∷ fs) gs b lt = (b.0, before_append f fs gs b.1 lt)

pub ascending_append : (fs gs : List Firing) → IsAscending fs → IsAscending gs
    → ((f g : Firing) → IsIn f fs → IsIn g gs → FiringBefore f g) → IsAscending (fs ++ gs)
ascending_append [] gs a b lt = b
ascending_append (x ∷ fs) gs a b lt = (
  before_append x fs gs a.0 (λ g c. lt x g (inl refl) c),
  ascending_append fs gs a.1 b (λ f g c d. lt f g (inr c) d),
)

pub ascending_snoc : (g : Firing) (fs : List Firing) → IsAscending fs
    → ((f : Firing) → IsIn f fs → FiringBefore f g) → IsAscending (fs ++ g ∷ [])
ascending_snoc g fs a lt = ascending_append fs (g ∷ []) a (tt, tt) (λ f h b c. elim c [
  | inl e ↦ subst (FiringBefore f) e (lt f b)
  | inr n ↦ absurd n
])

before_filter_arm : (f : Firing) (o : Offer) (os : List Offer) (b : Bool)
    → FiringBefore f o.firing → IsBeforeAll f (firings_of os)
    → IsBeforeAll f (firings_of (cond b (o ∷ os) os))
before_filter_arm f o os true lt h = (lt, h)
before_filter_arm f o os false lt h = h

before_filter : (f : Firing) (os : List Offer) (test : Offer → Bool)
    → IsBeforeAll f (firings_of os) → IsBeforeAll f (firings_of (filter test os))
before_filter f [] test h = h
before_filter f (o ∷ os) test h =
    before_filter_arm f o (filter test os) (test o) h.0 (before_filter f os test h.1)

ascending_filter_arm : (o : Offer) (os : List Offer) (b : Bool)
    → IsBeforeAll o.firing (firings_of os) → IsAscending (firings_of os)
    → IsAscending (firings_of (cond b (o ∷ os) os))
ascending_filter_arm o os true lt h = (lt, h)
ascending_filter_arm o os false lt h = h

pub ascending_filter : (os : List Offer) (test : Offer → Bool) → IsAscending (firings_of os)
    → IsAscending (firings_of (filter test os))
ascending_filter [] test h = h
ascending_filter (o ∷ os) test h = ascending_filter_arm o (filter test os) (test o)
    (before_filter o.firing os test h.0) (ascending_filter os test h.1)

-- what stands before a list in order stands before what is left without one of them
before_without : (x g : Firing) (fs gs : List Firing) → IsBeforeAll x (fs ++ g ∷ gs)
    → IsBeforeAll x (fs ++ gs)
before_without x g [] gs b = b.1
before_without x g (f ∷ fs) gs b = (b.0, before_without x g fs gs b.1)

pub ascending_without : (g : Firing) (fs gs : List Firing) → IsAscending (fs ++ g ∷ gs)
    → IsAscending (fs ++ gs)
ascending_without g [] gs a = a.1
ascending_without g (f ∷ fs) gs a = (before_without f g fs gs a.0, ascending_without g fs gs a.1)
