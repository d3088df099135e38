-- The way up from an instance, of which no more steps are new than there are rows.
use Rattle.std.proofs.Common.{◌≡◌, ◌<◌, ◌≤◌, ◌+◌, ◌-◌, ◌⊎◌, refl, sym, ap, subst, ◌∙◌, inl, inr, ℕ}
use Rattle.std.proofs.Common.{◌||◌}
use Rattle.std.proofs.Common.{zero, suc, Bool, true, false, cond, List, [], ◌∷◌, Option, Some, None}
use Rattle.std.proofs.Common.{arith, length, nat_eq, eqb, is_some}
use Rattle.std.specs.Prelude.{find}
use Rattle.std.specs.Option.{option_map_or}
use Rattle.std.specs.List.{IsDistinct, AllByRecursion, list_any}
use Rattle.std.proofs.lemmas.Bool.{cases_lt, eqb-true}
use Rattle.std.proofs.lemmas.Map.Steps.{length-le_from_distinct_below}
use Rattle.est_syntax.specs.Least.{IsIn}
use Rattle.est_meaning.specs.mean_blocks.declared.situation.Row.{Row}
use Rattle.est_meaning.specs.mean_blocks.GlobalSituation.{Situation, row_of, is_numbered, lives}
use Rattle.est_meaning.specs.TransitionSelection.{IsAncestor, parent, beyond}
use Rattle.plain_choices.specs.inside.SystemOffers.{IsPreceded}
use Rattle.plain_choices.proofs.Surveys.{not_both}

-- TWO OF MANY

-- the first values of a sequence, the last one first
abbrev values : (ℕ → ℕ) → ℕ → List ℕ
values f zero = []
values f (suc k) = f k ∷ values f k

values_length : (f : ℕ → ℕ) (k : ℕ) → length (values f k) ≡ k
values_length f zero = refl
values_length f (suc k) = ap suc (values_length f k)

-- two steps of a sequence have one value
abbrev pub Meets : (ℕ → ℕ) → ℕ → Type 0
Meets f k = (i : ℕ) × (j : ℕ) × (i < j) × (j < k) × (f i ≡ f j)

meets_later : (f : ℕ → ℕ) (k : ℕ) → Meets f k → Meets f (suc k)
meets_later f k (i, j, a, b, e) = (i, j, a, omega (arith, b), e)

-- a value is among the first ones, or apart from each
among_or_apart : (f : ℕ → ℕ) (x k : ℕ)
    → ((i : ℕ) × (i < k) × (f i ≡ x)) ⊎ AllByRecursion (λ y. eqb x y ≡ false) (values f k)
among_or_apart f x zero = inr tt
among_or_apart f x (suc k) = elim (among_or_apart f x k) [
  | inl w ↦ inl (w.0, (let h = w.1 in omega arith), w.2)
  | inr a ↦ by (eqb x (f k)) refl a
]
  where
    by : (b : Bool) → eqb x (f k) ≡ b → AllByRecursion (λ y. eqb x y ≡ false) (values f k)
        → ((i : ℕ) × (i < suc k) × (f i ≡ x))
        ⊎ AllByRecursion (λ y. eqb x y ≡ false) (f k ∷ values f k)
    by true e a = inl (k, omega arith, sym (eqb-true x (f k) e))
    by false e a = inr (e, a)

meets_or_apart : (f : ℕ → ℕ) (k : ℕ) → Meets f k ⊎ IsDistinct eqb (values f k)
unfolding IsDistinct
meets_or_apart f zero = inr tt
meets_or_apart f (suc k) = elim (meets_or_apart f k) [
  | inl w ↦ inl (meets_later f k w)
  | inr d ↦ elim (among_or_apart f (f k) k) [
    | inl w ↦ inl (w.0, k, w.1, omega arith, w.2)
    | inr a ↦ inr (a, d)
  ]
]

one_of : (f : ℕ → ℕ) (k q : ℕ) → list_any (eqb q) (values f k) ≡ true
    → (i : ℕ) × (i < k) × (f i ≡ q)
one_of f zero q h = absurd (cc)
one_of f (suc k) q h = by (eqb q (f k)) refl (λ g. one_of f k q g) h
  where
    by : (b : Bool) → eqb q (f k) ≡ b
        → (list_any (eqb q) (values f k) ≡ true → (i : ℕ) × (i < k) × (f i ≡ q))
        → (b || list_any (eqb q) (values f k)) ≡ true
        → (i : ℕ) × (i < suc k) × (f i ≡ q)
    by true e one g = (k, omega arith, sym (eqb-true q (f k) e))
    by false e one g = (let w = one g in (w.0, (let l = w.1 in omega arith), w.2))

-- of more steps than there are values two have one value
pub meets : (f : ℕ → ℕ) (n : ℕ) → ((i : ℕ) → i ≤ n → f i < n) → Meets f (suc n)
meets f n h = elim (meets_or_apart f (suc n)) [
  | inl w ↦ w
  | inr d ↦ (let l : length (values f (suc n)) ≤ n = length-le_from_distinct_below
      (values f (suc n)) n d (λ q e. small q (one_of f (suc n) q e)) in
      let m : length (values f (suc n)) ≡ suc n = values_length f (suc n) in
      absurd (omega arith))
]
  where
    small : (q : ℕ) → (i : ℕ) × (i < suc n) × (f i ≡ q) → q < n
    small q (i, a, e) = subst (λ x. x < n) e (h i (omega (arith, a)))

-- PLACES OF ROWS

abbrev place : ℕ → List Row → ℕ
place n [] = 0
place n (r ∷ rs) = cond (nat_eq n r.number) 0 (suc (place n rs))

place_within : (n : ℕ) (rs : List Row) → is_some (find (is_numbered n) rs) ≡ true
    → place n rs < length rs
place_within n [] h = absurd (cc)
place_within n (r ∷ rs) h = by (nat_eq n r.number) (λ e. place_within n rs e) h
  where
    by : (b : Bool)
        → (is_some (find (is_numbered n) rs) ≡ true → place n rs < length rs)
        → is_some (cond b (Some r) (find (is_numbered n) rs)) ≡ true
        → cond b 0 (suc (place n rs)) < suc (length rs)
    by true one e = omega arith
    by false one e = (let l = one e in omega arith)

place_same : (m n : ℕ) (rs : List Row) → is_some (find (is_numbered m) rs) ≡ true
    → is_some (find (is_numbered n) rs) ≡ true → place m rs ≡ place n rs → m ≡ n
place_same m n [] h k e = absurd (cc)
place_same m n (r ∷ rs) h k e = by (nat_eq m r.number) (nat_eq n r.number) refl refl
    (λ x y z. place_same m n rs x y z) h k e
  where
    by : (a b : Bool) → nat_eq m r.number ≡ a → nat_eq n r.number ≡ b
        → (is_some (find (is_numbered m) rs) ≡ true → is_some (find (is_numbered n) rs) ≡ true
        → place m rs ≡ place n rs → m ≡ n)
        → is_some (cond a (Some r) (find (is_numbered m) rs)) ≡ true
        → is_some (cond b (Some r) (find (is_numbered n) rs)) ≡ true
        → cond a 0 (suc (place m rs)) ≡ cond b 0 (suc (place n rs)) → m ≡ n
    by true true p q same h k e = eqb-true m r.number p ∙ sym (eqb-true n r.number q)
    by true false p q same h k e = absurd (omega (arith, e))
    by false true p q same h k e = absurd (omega (arith, e))
    by false false p q same h k e = same h k (omega (arith, e))

-- THE WAY UP

-- the parent of an instance, if it lives
abbrev pub parent_of : Situation → ℕ → ℕ
parent_of s n = option_map_or (λ (r : Row). r.parent) (row_of s n) 0

-- where so many steps up lead
abbrev pub climb : Situation → ℕ → ℕ → ℕ
climb s n zero = n
climb s n (suc k) = parent_of s (climb s n k)

climb_first : (s : Situation) (n k : ℕ) → climb s (parent_of s n) k ≡ climb s n (suc k)
climb_first s n zero = refl
climb_first s n (suc k) = ap (parent_of s) (climb_first s n k)

-- where two steps lead to one instance, so do those after them
climb_same : (s : Situation) (n i j k : ℕ) → climb s n i ≡ climb s n j
    → climb s n (k + i) ≡ climb s n (k + j)
climb_same s n i j zero e =
    subst (λ a. climb s n a ≡ climb s n (0 + j)) (add-zero i)
    (subst (λ b. climb s n i ≡ climb s n b) (add-zero j) e)
  where
    add-zero : (m : ℕ) → m ≡ 0 + m
    add-zero m = omega arith
climb_same s n i j (suc k) e =
    subst (λ a. climb s n a ≡ climb s n (suc k + j)) (add-suc k i)
    (subst (λ b. climb s n (suc (k + i)) ≡ climb s n b) (add-suc k j)
    (ap (parent_of s) (climb_same s n i j k e)))
  where
    add-suc : (m l : ℕ) → suc (m + l) ≡ suc m + l
    add-suc m l = omega arith

-- a way up on which all live before the last
abbrev pub IsWay : Situation → ℕ → ℕ → Type 0
IsWay s n k = (j : ℕ) → j ≤ k → lives s (climb s n j) ≡ true

living_row : (s : Situation) (n : ℕ) (r : Row) → row_of s n ≡ Some r
    → (lives s n ≡ true) × (parent_of s n ≡ r.parent)
living_row s n r e = (ap is_some e, ap (λ o. option_map_or (λ (x : Row). x.parent) o 0) e)

way_first : (s : Situation) (n k : ℕ) → lives s n ≡ true → IsWay s (parent_of s n) k
    → IsWay s n (suc k)
way_first s n k h w zero le = h
way_first s n k h w (suc j) le =
    subst (λ m. lives s m ≡ true) (climb_first s n j) (w j (omega (arith, le)))

-- an ancestor is met on the way up
abbrev IsMet : Situation → ℕ → ℕ → Type 0
IsMet s a n = (k : ℕ) × IsWay s n k × (climb s n (suc k) ≡ a)

met_first : (s : Situation) (a n : ℕ) (r : Row) → row_of s n ≡ Some r → r.parent ≡ a → IsMet s a n
met_first s a n r e h = (
  0,
  λ j le. subst (λ i. lives s (climb s n i) ≡ true) (none j le) (living_row s n r e).0,
  (living_row s n r e).1 ∙ h,
)
  where
    none : (j : ℕ) → j ≤ 0 → 0 ≡ j
    none j le = omega arith

met_later : (s : Situation) (a n : ℕ) (r : Row) → row_of s n ≡ Some r → IsMet s a r.parent
    → IsMet s a n
met_later s a n r e (k, w, h) = (
  suc k,
  way_first s n k (living_row s n r e).0
      (subst (λ m. IsWay s m k) (sym (living_row s n r e).1) w),
  sym (climb_first s n (suc k)) ∙ ap (λ m. climb s m (suc k)) (living_row s n r e).1 ∙ h,
)

met : (s : Situation) (a n : ℕ) → IsAncestor s a n → IsMet s a n
met s a n (parent _ r e h) = met_first s a n r e h
met s a n (beyond _ r e b) = met_later s a n r e (met s a r.parent b)

-- where a way up leads that is not longer than another one
shorter : (s : Situation) (n k j : ℕ) → IsWay s n k → j ≤ k → IsWay s n j
shorter s n k j w le i l = w i (omega arith)

-- a way up of as many steps as there are rows comes round
round : (s : Situation) (n : ℕ) → IsWay s n (length s.rows)
    → Meets (climb s n) (suc (length s.rows))
round s n w =
    let m = meets (λ k. place (climb s n k) s.rows) (length s.rows)
    (λ i le. place_within (climb s n i) s.rows (w i le)) in (
      m.0,
      m.1,
      m.2,
      m.3,
      place_same (climb s n m.0) (climb s n m.1) s.rows
          (w m.0 (let a = m.2 in let b = m.3 in omega arith))
          (w m.1 (let b = m.3 in omega arith)) m.4,
    )

-- NO DUE ANCESTOR

-- none of the first steps up leads to one of these
abbrev pub IsFree : Situation → List ℕ → ℕ → ℕ → Type 0
IsFree s dues n k = (j : ℕ) → j < k → IsIn (climb s n (suc j)) dues → ⊥

-- where a way up came round, it leads where a shorter one does
again : (s : Situation) (dues : List ℕ) (n fuel k : ℕ) → k < suc fuel
    → ((m : ℕ) → m < fuel → IsWay s n m → IsIn (climb s n (suc m)) dues → ⊥) → IsWay s n k
    → IsIn (climb s n (suc k)) dues → Meets (climb s n) (suc (length s.rows))
    → length s.rows ≤ k → ⊥
again s dues n fuel k lt free w a (i, j, p, q, e) l =
    let x : suc k - j + j ≡ suc k = omega arith in
    let y : suc k - j + i ≡ suc (k - (j - i)) = omega arith in
    free (k - (j - i)) (omega arith) (shorter s n k (k - (j - i)) w (omega arith))
    (subst (λ b. IsIn (climb s n b) dues) y
    (subst (λ b. IsIn b dues) (sym (climb_same s n i j (suc k - j) e))
    (subst (λ b. IsIn (climb s n b) dues) (sym x) a)))

free_within : (s : Situation) (dues : List ℕ) (n fuel k : ℕ) → k < fuel
    → IsFree s dues n (length s.rows) → IsWay s n k → IsIn (climb s n (suc k)) dues → ⊥
free_within s dues n zero k lt f w a = absurd (omega (arith, lt))
free_within s dues n (suc fuel) k lt f w a = elim (cases_lt k (length s.rows)) [
  | inl l ↦ f k l a
  | inr l ↦ again s dues n fuel k lt
      (λ m h v b. free_within s dues n fuel m h f v b) w a
      (round s n (shorter s n k (length s.rows) w l)) l
]

-- where none of as many steps up as there are rows leads to one of these, no ancestor is one
pub never_preceded : (s : Situation) (dues : List ℕ) (n : ℕ) → IsFree s dues n (length s.rows)
    → IsPreceded s dues n → ⊥
never_preceded s dues n f (a, b, h) =
    let w = met s a n h in
    free_within s dues n (suc w.0) w.0 (omega arith) f w.1
    (subst (λ m. IsIn m dues) (sym w.2) b)

-- nor where the way up ends
pub ends_unpreceded : (s : Situation) (dues : List ℕ) (n k : ℕ) → IsFree s dues n k
    → row_of s (climb s n k) ≡ None → IsPreceded s dues n → ⊥
ends_unpreceded s dues n k f e (a, b, h) =
    let w = met s a n h in
    elim (cases_lt w.0 k) [
      | inl l ↦ f w.0 l (subst (λ m. IsIn m dues) (sym w.2) b)
      | inr l ↦ not_both (lives s (climb s n k)) (w.1 k l) (ap is_some e)
    ]

-- an instance to which steps up lead goes before
pub climbed_precedes : (s : Situation) (dues : List ℕ) (n k : ℕ)
    → ((j : ℕ) → j ≤ k → lives s (climb s n j) ≡ true) → IsIn (climb s n (suc k)) dues
    → IsPreceded s dues n
climbed_precedes s dues n k w a = (climb s n (suc k), a, above n k w)
  where
    rowed : (m : ℕ) → lives s m ≡ true → (r : Row) × (row_of s m ≡ Some r)
    rowed m h = by (row_of s m) refl h
      where
        by : (o : Option Row) → row_of s m ≡ o → is_some o ≡ true
            → (r : Row) × (row_of s m ≡ Some r)
        by None e g = absurd (cc)
        by (Some r) e g = (r, e)

    above : (m i : ℕ) → IsWay s m i → IsAncestor s (climb s m (suc i)) m
    above m zero v = (let x = rowed m (v 0 (omega arith)) in
        parent m x.0 x.1 (sym (living_row s m x.0 x.1).1))
    above m (suc i) v = (let x = rowed m (v 0 (omega arith)) in
        beyond m x.0 x.1
        (subst (λ q. IsAncestor s (climb s m (suc (suc i))) q) (living_row s m x.0 x.1).1
        (subst (λ q. IsAncestor s q (parent_of s m)) (climb_first s m (suc i))
        (above (parent_of s m) i (λ j le. subst (λ q. lives s q ≡ true)
        (sym (climb_first s m j)) (v (suc j) (omega (arith, le))))))))

-- so many steps up lead here, and met none of these
pub record IsClimbed (s : Situation) (dues : List ℕ) (n k m : ℕ) : Type 0 where
  pub is : m ≡ climb s n k
  pub lives : (j : ℕ) → j < k → lives s (climb s n j) ≡ true
  pub free : IsFree s dues n k

pub climbed_none : (s : Situation) (dues : List ℕ) (n : ℕ) → IsClimbed s dues n 0 n
climbed_none s dues n = record {
  is = refl;
  lives = λ j h. absurd (omega (arith, h));
  free = λ j h a. omega (arith, h);
}

module _ (s : Situation) (dues : List ℕ) (n k m : ℕ) (c : IsClimbed s dues n k m) where
  -- the way ends
  pub climbed_ends : row_of s m ≡ None → IsPreceded s dues n → ⊥
  climbed_ends e = ends_unpreceded s dues n k c.free (ap (row_of s) (sym c.is) ∙ e)

  -- it came round
  pub climbed_whole : k ≡ length s.rows → IsPreceded s dues n → ⊥
  climbed_whole e = never_preceded s dues n (subst (IsFree s dues n) e c.free)

  way_here : (r : Row) → row_of s m ≡ Some r → (j : ℕ) → j ≤ k → lives s (climb s n j) ≡ true
  way_here r e j le = elim (cases_lt j k) [
    | inl l ↦ c.lives j l
    | inr l ↦ (let q : k ≡ j = omega arith in subst (λ i. lives s (climb s n i) ≡ true) q
        (ap (lives s) (sym c.is) ∙ (living_row s m r e).0))
  ]

  next_here : (r : Row) → row_of s m ≡ Some r → climb s n (suc k) ≡ r.parent
  next_here r e = ap (parent_of s) (sym c.is) ∙ (living_row s m r e).1

  -- the next one is one of these
  pub climbed_meets : (r : Row) → row_of s m ≡ Some r → IsIn r.parent dues → IsPreceded s dues n
  climbed_meets r e a = climbed_precedes s dues n k (way_here r e)
      (subst (λ i. IsIn i dues) (sym (next_here r e)) a)

  -- it is not
  pub climbed_more : (r : Row) → row_of s m ≡ Some r → (IsIn r.parent dues → ⊥)
      → IsClimbed s dues n (k + 1) r.parent
  climbed_more r e h = subst (λ i. IsClimbed s dues n i r.parent) (one k) (record {
    is = sym (next_here r e);
    lives = λ j lt. way_here r e j (omega (arith, lt));
    free = λ j lt a. elim (cases_lt j k) [
      | inl l ↦ c.free j l a
      | inr l ↦ (let q : j ≡ k = omega arith in
          h (subst (λ i. IsIn i dues) (next_here r e)
          (subst (λ i. IsIn (climb s n (suc i)) dues) q a)))
    ];
  })
    where
      one : (i : ℕ) → suc i ≡ i + 1
      one i = omega arith
