-- Priorities, and the best of the offers that are due.
use Rattle.std.proofs.Common.{◌≡◌, ◌<◌, ◌+◌, ◌⊎◌, refl, sym, ap, subst, ◌∙◌, inl, inr, ℕ, ℤ, Bool}
use Rattle.std.proofs.Common.{true, false, List, [], ◌∷◌, Option, Some, None, arith, length, drop}
use Rattle.std.proofs.Common.{get_or}
use Rattle.std.specs.Prelude.{int_lt}
use Rattle.std.proofs.lemmas.Int.{ints}
use Rattle.est_syntax.specs.Least.{IsIn}
use Rattle.est_meaning.specs.TransitionSelection.{outranks}
use Rattle.plain_choices.specs.declared.offers.Offer.{Offer}
use Rattle.plain_choices.specs.inside.InstanceOffers.{is_better, IsBestDue}
use Rattle.plain_choices.proofs.Members.{from_number, in_number}

-- PRIORITIES

int_between : (a b c : ℤ) → int_lt a c ≡ true → int_lt a b ≡ false → int_lt b c ≡ true
int_between a b c h k = grind (arith, ints)

int_first : (a b c : ℤ) → int_lt a b ≡ true → int_lt c b ≡ false → int_lt c a ≡ false
int_first a b c h k = grind (arith, ints)

int_not_self : (a : ℤ) → int_lt a a ≡ false
int_not_self a = grind (arith, ints)

-- what outranks a priority is outranked by none that is the best
pub outranks_below : (p b q : Option ℤ) → outranks p q ≡ true → outranks p b ≡ false
    → outranks b q ≡ true
outranks_below None b q h k = absurd (cc)
outranks_below (Some p) None q h k = absurd (cc)
outranks_below (Some p) (Some b) None h k = refl
outranks_below (Some p) (Some b) (Some q) h k = int_between p b q h k

pub outranks_first : (p b q : Option ℤ) → outranks p b ≡ true → outranks q b ≡ false
    → outranks q p ≡ false
outranks_first p b None h k = refl
outranks_first None b (Some q) h k = absurd (cc)
outranks_first (Some p) None (Some q) h k = absurd (cc)
outranks_first (Some p) (Some b) (Some q) h k = int_first p b q h k

pub outranks_not_self : (p : Option ℤ) → outranks p p ≡ false
outranks_not_self None = refl
outranks_not_self (Some p) = int_not_self p

-- THE BEST

-- the best of the offers that are due, but for those that are left
pub record IsBestBut (os left : List Offer) (best : Option Offer) : Type 0 where
  pub sound : (b : Offer) → best ≡ Some b → IsIn b os × (b.due ≡ true)
  pub complete : (o : Offer) → IsIn o os → o.due ≡ true
      → ((b : Offer) × (best ≡ Some b) × (outranks o.priority b.priority ≡ false))
      ⊎ IsIn o left

best_step : (os left : List Offer) (x : Offer) (best : Option Offer)
    → IsBestBut os (x ∷ left) best → IsIn x os → x.due ≡ true → is_better best x ≡ true
    → IsBestBut os left (Some x)
best_step os left x best v a e h = record {
  sound = λ b q. let k : x ≡ b = cc in
      subst (λ y. IsIn y os × (y.due ≡ true)) k (a, e);
  complete = λ o c d. elim (v.complete o c d) [
    | inl w ↦ inl (
      x,
      refl,
      outranks_first x.priority w.0.priority o.priority
          (subst (λ y. is_better y x ≡ true) w.1 h) w.2,
    )
    | inr b ↦ elim b [
      | inl q ↦ inl (
        x,
        refl,
        subst (λ (y : Offer). outranks y.priority x.priority ≡ false) q
            (outranks_not_self x.priority),
      )
      | inr n ↦ inr n
    ]
  ];
}

kept_by : (x : Offer) (best : Option Offer) → is_better best x ≡ false
    → (b : Offer) × (best ≡ Some b) × (outranks x.priority b.priority ≡ false)
kept_by x None h = absurd (cc)
kept_by x (Some b) h = (b, refl, h)

best_keeps : (os left : List Offer) (x : Offer) (best : Option Offer)
    → IsBestBut os (x ∷ left) best → (x.due ≡ true → is_better best x ≡ false)
    → IsBestBut os left best
best_keeps os left x best v h = record {
  sound = v.sound;
  complete = λ o c d. elim (v.complete o c d) [
    | inl w ↦ inl w
    | inr b ↦ elim b [
      | inl q ↦ inl (subst (λ (y : Offer). (b : Offer) × (best ≡ Some b)
          × (outranks y.priority b.priority ≡ false)) q (kept_by x best
          (h (ap (λ (y : Offer). y.due) q ∙ d))))
      | inr n ↦ inr n
    ]
  ];
}

pub best_none : (os : List Offer) → IsBestBut os os None
best_none os = record {
  sound = λ b q. absurd (cc);
  complete = λ o a d. inr a;
}

module _ (os : List Offer) (i : ℕ) (x : Offer) (lt : i < length os) (e : x ≡ get_or os i x)
    (best : Option Offer) (v : IsBestBut os (drop i os) best) where
  pub best_takes : x.due ≡ true → is_better best x ≡ true
      → IsBestBut os (drop (i + 1) os) (Some x)
  best_takes d h = best_step os (drop (i + 1) os) x best
      (subst (λ left. IsBestBut os left best) (from_number os i x lt e) v)
      (in_number os i x lt e) d h

  pub best_stays : (x.due ≡ true → is_better best x ≡ false)
      → IsBestBut os (drop (i + 1) os) best
  best_stays h = best_keeps os (drop (i + 1) os) x best
      (subst (λ left. IsBestBut os left best) (from_number os i x lt e) v) h

pub best_ends : (os : List Offer) (best : Option Offer) → IsBestBut os [] best
    → IsBestDue os best
best_ends os None v = λ o a. undue o (o.due) refl a
  where
    undue : (o : Offer) (b : Bool) → o.due ≡ b → IsIn o os → o.due ≡ false
    undue o false e a = e
    undue o true e a = elim (v.complete o a e) [
      | inl w ↦ (let n = w.1 in absurd (cc))
      | inr n ↦ absurd n
    ]
best_ends os (Some b) v = (
  (v.sound b refl).0,
  (v.sound b refl).1,
  λ o a d. elim (v.complete o a d) [
    | inl w ↦ (let k : b ≡ w.0 = (let q : Some b ≡ Some w.0 = w.1 in cc) in
        subst (λ (y : Offer). outranks o.priority y.priority ≡ false) (sym k) w.2)
    | inr n ↦ absurd n
  ],
)
