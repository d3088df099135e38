-- Not more runs than there are.
use Rattle.std.proofs.Common.{◌≡◌, ◌∙◌, ◌≤◌, ◌+◌, ◌⊎◌, inl, inr, ℕ, List, [], ◌∷◌, length, refl}
use Rattle.std.proofs.Common.{sym, subst, arith, zero-le}
use Rattle.est_syntax.specs.Least.{IsIn}
use Rattle.mean_ports.specs.declared.moves.PortMove.{PortMove}
use Rattle.mean_ports.specs.HowMany.{AreDistinct, HasMany, HasAtMost}

-- a list without one of its items
record Removed (x : List PortMove) (ys : List (List PortMove)) : Type 0 where
  rest : List (List PortMove)
  count : length ys ≡ length rest + 1
  others : (y : List PortMove) → IsIn y ys → (x ≡ y) ⊎ IsIn y rest

removed : (x : List PortMove) (ys : List (List PortMove)) → IsIn x ys → Removed x ys
removed x [] a = absurd a
removed x (y ∷ ys) a = elim a [
  | inl e ↦ record {
    rest = ys;
    count = omega arith;
    others = λ z b. elim b [ inl f ↦ inl (sym e ∙ f) | inr i ↦ inr i ];
  }
  | inr i ↦
      (let r = removed x ys i in
      let n = r.count in
      record {
        rest = y ∷ r.rest;
        count = omega arith;
        others = λ z b. elim b [
          | inl f ↦ inr (inl f)
          | inr j ↦ elim (r.others z j) [ inl f ↦ inl f | inr k ↦ inr (inr k) ]
        ];
      })
]

-- a list in which nothing stands twice is no longer than one that has all its items
no_longer : (xs ys : List (List PortMove)) → AreDistinct xs
    → ((x : List PortMove) → IsIn x xs → IsIn x ys) → length xs ≤ length ys
no_longer [] ys distinct all = zero-le
no_longer (x ∷ xs) ys distinct all =
    let r = removed x ys (all x (inl refl)) in
    let n = r.count in
    let le = no_longer xs r.rest distinct.1 (λ y i. elim (r.others y (all y (inr i))) [
      | inl e ↦ absurd (distinct.0 (subst (λ w. IsIn w xs) (sym e) i))
      | inr k ↦ k
    ]) in
    omega arith

-- more runs than a budget are not at most as many
pub too_many : (P : List PortMove → Type 0) (budget : ℕ) → HasMany P (budget + 1)
    → HasAtMost P budget → ⊥
too_many P budget m a =
    let le = no_longer m.runs a.2.found.runs m.distinct (λ x i. a.2.all x (m.each x i)) in
    let n = m.count in
    let k = a.2.found.count in
    let few = a.1 in
    omega arith
