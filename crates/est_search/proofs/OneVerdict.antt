-- No two verdicts hold.
use Rattle.std.proofs.Common.{◌≡◌, ℕ, zero, suc, ◌+◌, ◌≤◌, ◌⊎◌, List, [], ◌∷◌}
use Rattle.std.proofs.Common.{Option, Some, None, length, reverse, refl, sym, ap, subst, ◌∙◌}
use Rattle.std.proofs.Common.{inl, inr, zero-le, arith}
use Rattle.std.proofs.lemmas.Bool.{cases_lt}
use Rattle.std.proofs.lemmas.List.{reverse-reverse}
use Rattle.est_syntax.specs.Least.{IsIn}
use Rattle.est_meaning.specs.mean_blocks.declared.fault.BlockFault.{BlockFault}
use Rattle.est_meaning.specs.mean_blocks.Outcome.{Fault}
use Rattle.est_meaning.specs.mean_blocks.TextByPlace.{text_of}
use Rattle.est_meaning.specs.declared.firing.Firing.{Firing}
use Rattle.est_meaning.specs.FiringSteps.{outcome}
use Rattle.est_meaning.specs.declared.run.Move.{Move}
use Rattle.est_meaning.specs.Order.{Mark, Trying, marks_of, NotAfter, IsFirst, IsEarliest}
use Rattle.est_meaning.specs.Run.{Setup, Place, IsBoundedRun, Yields}
use Rattle.est_meaning.specs.Trials.{AreDistinct, HasMany, HasAtMost, ComesTo, Faults, mark_passed}
use Rattle.est_meaning.proofs.OrderLaws.{marks_same, before_asymmetric}
use Rattle.est_meaning.proofs.RunLaws.{one_place, yields_below_all}
use Rattle.est_meaning.proofs.StackLaws.{faulted}
use Rattle.est_search.specs.declared.verdict.Faulted.{Faulted}
use Rattle.est_search.specs.declared.verdict.Verdict.{Verdict}
use Rattle.est_search.specs.declared.verdict.Verdict.TheVariants.{Accepted, Refused}
use Rattle.est_search.specs.declared.verdict.Verdict.TheVariants.{OverFirings, OverAction}
use Rattle.est_search.specs.Verdict.{HasEvents, IsLeastUnyielded, IsFirstFaulted, VerdictIsUnique}

-- COUNTING

-- a list without one of its items
record Removed (x : List Move) (ys : List (List Move)) : Type 0 where
  rest : List (List Move)
  count : length ys ≡ length rest + 1
  others : (y : List Move) → IsIn y ys → (x ≡ y) ⊎ IsIn y rest

removed : (x : List Move) (ys : List (List Move)) → IsIn x ys → Removed x ys
removed x [] a = absurd a
removed x (y ∷ ys) a = elim a [
  | inl e ↦ record {
    rest = ys;
    count = omega arith;
    others = λ z b. elim b [ inl f ↦ inl (sym e ∙ f) | inr i ↦ inr i ];
  }
  | inr i ↦
      (let r = removed x ys i in
      let n = r.count in
      record {
        rest = y ∷ r.rest;
        count = omega arith;
        others = λ z b. elim b [
          | inl f ↦ inr (inl f)
          | inr j ↦ elim (r.others z j) [ inl f ↦ inl f | inr k ↦ inr (inr k) ]
        ];
      })
]

-- a list in which nothing stands twice is no longer than one that has all its items
no_longer : (xs ys : List (List Move)) → AreDistinct xs
    → ((x : List Move) → IsIn x xs → IsIn x ys) → length xs ≤ length ys
no_longer [] ys distinct all = zero-le
no_longer (x ∷ xs) ys distinct all =
    let r = removed x ys (all x (inl refl)) in
    let n = r.count in
    let le = no_longer xs r.rest distinct.1 (λ y i. elim (r.others y (all y (inr i))) [
      | inl e ↦ absurd (distinct.0 (subst (λ w. IsIn w xs) (sym e) i))
      | inr k ↦ k
    ]) in
    omega arith

pub too_many : (P : List Move → Type 0) (budget : ℕ) → HasMany P (budget + 1) → HasAtMost P budget
    → ⊥
too_many P budget m a =
    let le = no_longer m.runs a.2.found.runs m.distinct (λ x i. a.2.all x (m.each x i)) in
    let n = m.count in
    let k = a.2.found.count in
    let few = a.1 in
    omega arith

-- FIRST

same_run : (x y : List Move) → NotAfter x y → NotAfter y x → x ≡ y
same_run x y a b = elim a [
  | inl e ↦ e
  | inr l ↦ elim b [
    | inl e ↦ sym e
    | inr r ↦ absurd (before_asymmetric (marks_of x) (marks_of y) l r)
  ]
]

one_first : (P : List Move → Type 0) (x y : List Move) → IsFirst P x → IsFirst P y → x ≡ y
one_first P x y a b = same_run x y (a.least y b.has) (b.least x a.has)

one_earliest : (P : List Mark → Type 0) (x y : List Mark) → IsEarliest P x → IsEarliest P y
    → x ≡ y
one_earliest P x y a b = elim (a.least y b.has) [
  | inl e ↦ e
  | inr l ↦ elim (b.least x a.has) [
    | inl e ↦ sym e
    | inr r ↦ absurd (before_asymmetric x y l r)
  ]
]

reversed_same : (x y : List Move) → reverse x ≡ reverse y → x ≡ y
reversed_same x y e = sym (reverse-reverse x) ∙ ap reverse e ∙ reverse-reverse y

one_number : (c : Setup) (m n : ℕ) → IsLeastUnyielded c m → IsLeastUnyielded c n → m ≡ n
one_number c m n a b = elim (cases_lt m n) [
  | inl lt ↦ (let r = b.below m lt in absurd (a.unyielded r.0 r.1))
  | inr ge ↦ elim (cases_lt n m) [
    | inl lt ↦ (let r = a.below n lt in absurd (b.unyielded r.0 r.1))
    | inr le ↦ omega arith
  ]
]

-- the first run that yields one fewer
one_before : (c : Setup) (m n : ℕ) (x y : List Move) → m ≡ n → IsLeastUnyielded c m
    → ((k : ℕ) → k + 1 ≡ m → IsFirst (λ r. Yields c r k) x)
    → ((k : ℕ) → k + 1 ≡ n → IsFirst (λ r. Yields c r k) y) → x ≡ y
one_before c zero n x y e least a b = absurd (least.unyielded [] (yields_below_all.start c))
one_before c (suc k) n x y e least a b =
    one_first (λ r. Yields c r k) x y (a k (omega arith)) (b k (omega arith))

-- FAULTS

fault_same : (f g : BlockFault) → faulted f ≡ faulted g → f ≡ g
fault_same f g e = cc

one_fault : (c : Setup) (x y : List Move) (f g : Firing) (a b : BlockFault) → x ≡ y → f ≡ g
    → ComesTo c x f (Fault a) → ComesTo c y g (Fault b) → a ≡ b
one_fault c x y f g a b e same s t =
    let p : s.place ≡ t.place = one_place c y s.place t.place
    (subst (λ w. IsBoundedRun c w s.place) e s.inner.is_run) t.inner.is_run in
    fault_same a b (sym s.outcome_is
    ∙ ap (λ (w : Place). outcome c.limit (text_of c.spec) w.situation f) p
    ∙ ap (λ w. outcome c.limit (text_of c.spec) t.place.situation w) same ∙ t.outcome_is)

same_faulted : (a b : Faulted) → a.run ≡ b.run → a.firing ≡ b.firing → a.fault ≡ b.fault → a ≡ b
same_faulted a b r f g =
    ap (λ x. let w : Faulted = record { run = x; firing = a.firing; fault = a.fault } in w) r
    ∙ ap (λ x. let w : Faulted = record { run = b.run; firing = x; fault = a.fault } in w) f
    ∙ ap (λ x. let w : Faulted = record { run = b.run; firing = b.firing; fault = x } in w) g

one_faulted : (c : Setup) (a b : Option Faulted) → IsFirstFaulted c a → IsFirstFaulted c b → a ≡ b
one_faulted c None None x y = refl
one_faulted c None (Some b) x y = absurd (x _ y.earliest.has)
one_faulted c (Some a) None x y = absurd (y _ x.earliest.has)
one_faulted c (Some a) (Some b) x y =
    let e : Trying a.firing ∷ marks_of (reverse a.run) ≡ Trying b.firing ∷ marks_of (reverse b.run)
    = one_earliest (Faults c) _ _ x.earliest y.earliest in
    let f : a.firing ≡ b.firing = cc in
    let m : marks_of (reverse a.run) ≡ marks_of (reverse b.run) = cc in
    let r : reverse a.run ≡ reverse b.run = marks_same (reverse a.run) (reverse b.run) m in
    let g : a.fault ≡ b.fault = one_fault c (reverse a.run) (reverse b.run) a.firing b.firing
    a.fault
    b.fault r f x.comes y.comes in
    ap Some (same_faulted a b (reversed_same a.run b.run r) f g)

passed_same : (f g : Option Firing) → mark_passed f ≡ mark_passed g → f ≡ g
passed_same None None e = refl
passed_same None (Some g) e = cc
passed_same (Some f) None e = cc
passed_same (Some f) (Some g) e = (let s : f ≡ g = cc in ap Some s)

-- a run has one number of events
one_count : (c : Setup) (x y : List Move) (m n : ℕ) → x ≡ y → HasEvents c x m → HasEvents c y n
    → m ≡ n
one_count c x y m n e s t =
    let p : s.place ≡ t.place = one_place c y s.place t.place
    (subst (λ w. IsBoundedRun c w s.place) e s.is_run) t.is_run in
    sym s.count ∙ ap (λ (w : Place). length w.events) p ∙ t.count

-- VERDICTS

pub verdict_unique : VerdictIsUnique
verdict_unique c budget (Accepted x) (Accepted y) a b =
    ap (λ r. let v : Verdict = Accepted r in v)
    (reversed_same x y (one_first _ (reverse x) (reverse y) a.first b.first))
verdict_unique c budget (Accepted x) (Refused at y f) a b =
    absurd (b.unexplained.none (reverse x) a.first.has)
verdict_unique c budget (Accepted x) (OverFirings tried) a b =
    absurd (too_many _ budget (b.1.late (reverse x) a.first.has) a.tried)
verdict_unique c budget (Accepted x) (OverAction y n f) a b =
    absurd (b.unexplained.none (reverse x) a.first.has)
verdict_unique c budget (Refused at x f) (Accepted y) a b =
    absurd (a.unexplained.none (reverse y) b.first.has)
verdict_unique c budget (Refused m x f) (Refused n y g) a b =
    let e = one_number c m n a.least b.least in
    let r = reversed_same x y (one_before c m n (reverse x) (reverse y) e a.least a.first b.first)
    in
    ap (λ w. let v : Verdict = Refused w x f in v) e
    ∙ ap (λ w. let v : Verdict = Refused n w f in v) r
    ∙ ap (λ w. let v : Verdict = Refused n y w in v) (one_faulted c f g a.faulted_is b.faulted_is)
verdict_unique c budget (Refused at x f) (OverFirings tried) a b =
    absurd (too_many _ budget b.1.size a.unexplained.size)
verdict_unique c budget (Refused at x f) (OverAction y n g) a b =
    absurd (a.within _ b.first.has)
verdict_unique c budget (OverFirings tried) (Accepted y) a b =
    absurd (too_many _ budget (a.1.late (reverse y) b.first.has) b.tried)
verdict_unique c budget (OverFirings tried) (Refused at y f) a b =
    absurd (too_many _ budget a.1.size b.unexplained.size)
verdict_unique c budget (OverFirings m) (OverFirings n) a b =
    ap (λ w. let v : Verdict = OverFirings w in v) (a.0 ∙ sym b.0)
verdict_unique c budget (OverFirings tried) (OverAction y n f) a b =
    absurd (too_many _ budget a.1.size b.unexplained.size)
verdict_unique c budget (OverAction x m f) (Accepted y) a b =
    absurd (a.unexplained.none (reverse y) b.first.has)
verdict_unique c budget (OverAction x m f) (Refused at y g) a b =
    absurd (b.within _ a.first.has)
verdict_unique c budget (OverAction x m f) (OverFirings tried) a b =
    absurd (too_many _ budget b.1.size a.unexplained.size)
verdict_unique c budget (OverAction x m f) (OverAction y n g) a b =
    let e : mark_passed f ∷ marks_of (reverse x) ≡ mark_passed g ∷ marks_of (reverse y) =
    one_earliest _ _ _ a.first b.first in
    let h : mark_passed f ≡ mark_passed g = cc in
    let k : marks_of (reverse x) ≡ marks_of (reverse y) = cc in
    let r = marks_same (reverse x) (reverse y) k in
    ap (λ w. let v : Verdict = OverAction w m f in v) (reversed_same x y r)
    ∙ ap (λ w. let v : Verdict = OverAction y w f in v)
    (one_count c (reverse x) (reverse y) m n r a.reached b.reached)
    ∙ ap (λ w. let v : Verdict = OverAction y n w in v) (passed_same f g h)
