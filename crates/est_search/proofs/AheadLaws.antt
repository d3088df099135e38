-- What a step does to what is ahead.
use Rattle.std.proofs.Common.{◌≡◌, ◌⊎◌, List, [], ◌∷◌, ◌++◌, Option, Some, None}
use Rattle.std.proofs.Common.{ap, subst, inl, inr}
use Rattle.est_meaning.specs.Order.{Mark, MarkBefore, StartsWith, Before, longer, differs}
use Rattle.est_meaning.specs.Run.{Setup}
use Rattle.est_meaning.proofs.OrderLaws.{mark_transitive, starts_self, starts_less, starts_cases}
use Rattle.est_meaning.proofs.TreeLaws.{IsInTree, nothing_starts}
use Rattle.est_search.specs.inside.Ahead.{IsLater, IsAfter, IsAhead}

-- LATER

before_later : (x y : List Mark) → IsLater x y → Before x y
before_later x y l = differs l.common l.mark l.next l.order l.starts l.goes_on

later_by : (m n : Mark) (h y : List Mark) → MarkBefore m n → StartsWith y (n ∷ h)
    → IsLater (m ∷ h) y
later_by m n h y lt s = record {
  common = h;
  mark = m;
  next = n;
  order = lt;
  starts = starts_self (m ∷ h);
  goes_on = s;
}

-- what is later than a list is later than what goes on from it
later_more : (m : Mark) (h y : List Mark) → IsLater h y → IsLater (m ∷ h) y
later_more m h y l = record {
  common = l.common;
  mark = l.mark;
  next = l.next;
  order = l.order;
  starts = (m ∷ l.starts.0, ap (λ w. m ∷ w) l.starts.1);
  goes_on = l.goes_on;
}

-- what is later than m ∷ h goes on from h by a later mark, or is later than h
LaterCases : Mark → List Mark → List Mark → Type 0
LaterCases m h y = ((n : Mark) × MarkBefore m n × StartsWith y (n ∷ h)) ⊎ IsLater h y

later_split : (m : Mark) (h y common : List Mark) (k n : Mark) (later : List Mark)
    → m ∷ h ≡ later ++ k ∷ common → MarkBefore k n → StartsWith y (n ∷ common)
    → LaterCases m h y
unfolding LaterCases
later_split m h y common k n [] e lt s =
    let a : k ≡ m = cc in
    let b : common ≡ h = cc in
    inl (n, subst (λ w. MarkBefore w n) a lt, subst (λ w. StartsWith y (n ∷ w)) b s)
later_split m h y common k n (z ∷ later) e lt s =
    let b : h ≡ later ++ k ∷ common = cc in
    inr (record {
      common = common;
      mark = k;
      next = n;
      order = lt;
      starts = (later, b);
      goes_on = s;
    })

later_cases : (m : Mark) (h y : List Mark) → IsLater (m ∷ h) y → LaterCases m h y
later_cases m h y l =
    later_split m h y l.common l.mark l.next l.starts.0 l.starts.1 l.order l.goes_on

after_more : (d : Option Mark) (k n : Mark) → IsAfter d k → MarkBefore k n → IsAfter d n
after_more None k n a lt = tt
after_more (Some m) k n a lt = mark_transitive m k n a lt

-- STEPS

-- z was ahead and comes before all that is ahead now, and all else that was ahead is so still
pub record Turn (c : Setup) (P P' : List Mark → Type 0) (z : List Mark) : Type 0 where
  pub was : P z
  pub on : (x : List Mark) → IsInTree c x → P x → P' x ⊎ (x ≡ z)
  pub back : (x : List Mark) → P' x → P x
  pub after : (x : List Mark) → P' x → Before z x

-- all that was ahead is so still
pub record Skip (c : Setup) (P P' : List Mark → Type 0) : Type 0 where
  pub on : (x : List Mark) → IsInTree c x → P x → P' x
  pub back : (x : List Mark) → P' x → P x

-- of what goes on from h, k comes next
pub record IsNextMark (c : Setup) (h : List Mark) (d : Option Mark) (k : Mark) : Type 0 where
  pub after : IsAfter d k
  pub next : (n : Mark) (x : List Mark) → IsInTree c x → IsAfter d n → StartsWith x (n ∷ h)
      → (n ≡ k) ⊎ MarkBefore k n

module _ (c : Setup) (h : List Mark) (d : Option Mark) (k : Mark) (next : IsNextMark c h d k) where
  was_ahead : IsAhead h d (k ∷ h)
  was_ahead = inl (k, next.after, starts_self (k ∷ h))

  back_there : (x : List Mark) → IsAhead h (Some k) x → IsAhead h d x
  back_there x p = elim p [
    | inl a ↦ inl (a.0, after_more d k a.0 next.after a.1, a.2)
    | inr l ↦ inr l
  ]

  after_there : (x : List Mark) → IsAhead h (Some k) x → Before (k ∷ h) x
  after_there x p = elim p [
    | inl a ↦ differs h k a.0 a.1 (starts_self (k ∷ h)) a.2
    | inr l ↦ before_later (k ∷ h) x (later_more k h x l)
  ]

  -- it leads on
  pub turn_on : Turn c (IsAhead h d) (IsAhead (k ∷ h) None) (k ∷ h)
  unfolding LaterCases
  turn_on = record {
    was = was_ahead;
    on = λ x tree p. elim p [
      | inl a ↦ elim (next.next a.0 x tree a.1 a.2) [
        | inl e ↦ elim (starts_cases x (k ∷ h) (subst (λ w. StartsWith x (w ∷ h)) e a.2)) [
          | inl w ↦ inr w
          | inr s ↦ inl (inl (s.0, tt, s.1))
        ]
        | inr lt ↦ inl (inr (later_by k a.0 h x lt a.2))
      ]
      | inr l ↦ inl (inr (later_more k h x l))
    ];
    back = λ x p. elim p [
      | inl a ↦ inl (k, next.after, starts_less x a.0 (k ∷ h) a.2)
      | inr l ↦ elim (later_cases k h x l) [
        | inl a ↦ inl (a.0, after_more d k a.0 next.after a.1, a.2)
        | inr m ↦ inr m
      ]
    ];
    after = λ x p. elim p [
      | inl a ↦ longer a.0 a.2
      | inr l ↦ before_later (k ∷ h) x l
    ];
  }

  -- it does not lead on
  pub turn_off : ((x : List Mark) → IsInTree c x → StartsWith x (k ∷ h) → x ≡ k ∷ h)
      → Turn c (IsAhead h d) (IsAhead h (Some k)) (k ∷ h)
  turn_off only = record {
    was = was_ahead;
    on = λ x tree p. elim p [
      | inl a ↦ elim (next.next a.0 x tree a.1 a.2) [
        | inl e ↦ inr (only x tree (subst (λ w. StartsWith x (w ∷ h)) e a.2))
        | inr lt ↦ inl (inl (a.0, lt, a.2))
      ]
      | inr l ↦ inl (inr l)
    ];
    back = back_there;
    after = after_there;
  }

  -- it cannot be done
  pub skip_mark : ((x : List Mark) → IsInTree c x → StartsWith x (k ∷ h) → ⊥)
      → Skip c (IsAhead h d) (IsAhead h (Some k))
  skip_mark never = record {
    on = λ x tree p. elim p [
      | inl a ↦ elim (next.next a.0 x tree a.1 a.2) [
        | inl e ↦ absurd (never x tree (subst (λ w. StartsWith x (w ∷ h)) e a.2))
        | inr lt ↦ inl (a.0, lt, a.2)
      ]
      | inr l ↦ inr l
    ];
    back = back_there;
  }

-- nothing goes on from k ∷ h any more
pub skip_back : (c : Setup) (h : List Mark) (d : Option Mark) (k : Mark)
    → ((n : Mark) (x : List Mark) → IsInTree c x → IsAfter d n → StartsWith x (n ∷ k ∷ h) → ⊥)
    → Skip c (IsAhead (k ∷ h) d) (IsAhead h (Some k))
unfolding LaterCases
skip_back c h d k none = record {
  on = λ x tree p. elim p [
    | inl a ↦ absurd (none a.0 x tree a.1 a.2)
    | inr l ↦ later_cases k h x l
  ];
  back = λ x p. elim p [
    | inl a ↦ inr (later_by k a.0 h x a.1 a.2)
    | inr l ↦ inr (later_more k h x l)
  ];
}

-- nothing goes on from the start any more
pub skip_all : (c : Setup) (d : Option Mark)
    → ((n : Mark) (x : List Mark) → IsInTree c x → IsAfter d n → StartsWith x (n ∷ []) → ⊥)
    → Skip c (IsAhead [] d) (λ x. ⊥)
skip_all c d none = record {
  on = λ x tree p. elim p [
    | inl a ↦ none a.0 x tree a.1 a.2
    | inr l ↦ nothing_starts l.mark l.common l.starts
  ];
  back = λ x p. absurd p;
}
