-- The tree: what the runs, trials and guards that a search may meet begin with.
use Rattle.std.proofs.Common.{◌≡◌, ◌⊎◌, ℕ, List, [], ◌∷◌, ◌++◌, sym, ap, subst, inl, inr}
use Rattle.mean_blocks.specs.TextByPlace.{text_of}
use Rattle.est_meaning.specs.TransitionSelection.{IsPossible}
use Rattle.est_meaning.specs.declared.run.Move.{Move}
use Rattle.est_meaning.specs.declared.run.Move.TheVariants.{Take, Fire}
use Rattle.est_meaning.specs.Order.{Mark, Taking, Guarding, Trying, mark_of, marks_of, StartsWith}
use Rattle.est_meaning.specs.Run.{Setup, Place, Takes, Moves, IsBoundedRun, Follows, Explains}
use Rattle.est_meaning.specs.Run.{YieldsFirst}
use Rattle.est_meaning.specs.Trials.{IsTrial, PassesLimit, guards, block, Faults}
use Rattle.est_meaning.proofs.OrderLaws.{marks_same}
use Rattle.est_meaning.proofs.RunLaws.{one_place, run_starts, follows_grows, explains_follows}

-- what is done there is defined
abbrev pub IsDefined : Setup → Place → Mark → Type 0
IsDefined c p Taking = (q : Place) × Takes c p q
IsDefined c p Guarding = Unit {0}
IsDefined c p (Trying f) = IsPossible c.limit (text_of c.spec) p.situation f

-- after the bounded run this can be done
pub record CanGoOn (c : Setup) (h : List Move) (m : Mark) : Type 0 where
  pub place : Place
  pub is_run : IsBoundedRun c h place
  pub defined : IsDefined c place m

-- a bounded run that follows the trace
pub record IsOnTree (c : Setup) (h : List Move) : Type 0 where
  pub place : Place
  pub is_run : IsBoundedRun c h place
  pub follows : Follows c place

-- what is done leads on to a run that follows the trace
abbrev pub LeadsOn : Setup → Mark → List Move → Type 0
LeadsOn c Taking h = IsOnTree c (Take ∷ h)
LeadsOn c Guarding h = ⊥
LeadsOn c (Trying f) h = IsOnTree c (Fire f ∷ h)

-- wherever x goes on from a run, what is done there can be done, and it ends x or leads on
abbrev pub IsInTree : Setup → List Mark → Type 0
IsInTree c x = (m : Mark) (h : List Move) → StartsWith x (m ∷ marks_of h)
    → CanGoOn c h m × ((x ≡ m ∷ marks_of h) ⊎ LeadsOn c m h)

pub nothing_starts : (m : Mark) (h : List Mark) → StartsWith [] (m ∷ h) → ⊥
nothing_starts m h ([], e) = cc
nothing_starts m h (x ∷ later, e) = cc

-- where the marks of a run go on from those of another, the run does
marks_split : (k : List Move) (later : List Mark) (m : Mark) (h : List Move)
    → marks_of k ≡ later ++ m ∷ marks_of h → (n : Move) × (mark_of n ≡ m) × StartsWith k (n ∷ h)
marks_split [] [] m h e = absurd (nothing_starts m (marks_of h) ([], e))
marks_split [] (z ∷ later) m h e = absurd (nothing_starts m (marks_of h) (z ∷ later, e))
marks_split (n ∷ k) [] m h e =
    let a : mark_of n ≡ m = cc in
    let b : marks_of k ≡ marks_of h = cc in
    (n, a, ([], ap (λ w. n ∷ w) (marks_same k h b)))
marks_split (n ∷ k) (z ∷ later) m h e =
    let b : marks_of k ≡ later ++ m ∷ marks_of h = cc in
    let r = marks_split k later m h b in
    (r.0, r.1, (n ∷ r.2.0, ap (λ w. n ∷ w) r.2.1))

defined_by_move : (c : Setup) (p : Place) (m : Move) (q : Place) → Moves c p m q
    → IsDefined c p (mark_of m)
defined_by_move c p Take q t = (q, t)
defined_by_move c p (Fire f) q t = t.step.possible

can_go_on : (c : Setup) (h : List Move) (m : Move) (p : Place) → IsBoundedRun c (m ∷ h) p
    → CanGoOn c h (mark_of m)
can_go_on c h m p r = record { place = r.0; is_run = r.1; defined = defined_by_move c r.0 m p r.2 }

leads_by_move : (c : Setup) (m : Move) (h : List Move) → IsOnTree c (m ∷ h)
    → LeadsOn c (mark_of m) h
leads_by_move c Take h on = on
leads_by_move c (Fire f) h on = on

-- what a run that follows the trace begins with follows it
pub starts_on_tree : (c : Setup) (r h : List Move) (p : Place) → IsBoundedRun c r p → Follows c p
    → StartsWith r h → IsOnTree c h
starts_on_tree c r h p is follows s =
    let a = run_starts c r h p is s in
    record {
      place = a.place;
      is_run = a.is_run;
      follows = follows_grows c a.place p a.grows follows;
    }

-- wherever a run that follows the trace goes on, it leads on
goes_on : (c : Setup) (r : List Move) (p : Place) → IsBoundedRun c r p → Follows c p → (m : Mark)
    (h : List Move) → StartsWith (marks_of r) (m ∷ marks_of h) → CanGoOn c h m × LeadsOn c m h
goes_on c r p is follows m h s =
    let n = marks_split r s.0 m h s.1 in
    let a = run_starts c r (n.0 ∷ h) p is n.2 in (
      subst (λ w. CanGoOn c h w) n.1 (can_go_on c h n.0 a.place a.is_run),
      subst (λ w. LeadsOn c w h) n.1
          (leads_by_move c n.0 h (starts_on_tree c r (n.0 ∷ h) p is follows n.2)),
    )

-- whatever is done after a run that follows the trace is in the tree
pub more_in_tree : (c : Setup) (m : Mark) (e : List Move) (p : Place) → IsBoundedRun c e p
    → Follows c p → IsDefined c p m → IsInTree c (m ∷ marks_of e)
more_in_tree c m e p is follows defined n h ([], eq) =
    let a : m ≡ n = cc in
    let b : marks_of e ≡ marks_of h = cc in
    let can : CanGoOn c e m = record { place = p; is_run = is; defined = defined } in (
      subst (λ w. CanGoOn c w n) (marks_same e h b) (subst (λ w. CanGoOn c e w) a can),
      inl eq,
    )
more_in_tree c m e p is follows defined n h (x ∷ later, eq) =
    let b : marks_of e ≡ later ++ n ∷ marks_of h = cc in
    let t = goes_on c e p is follows n h (later, b) in
    (t.0, inr t.1)

pub explains_in_tree : (c : Setup) (r : List Move) → Explains c r → IsInTree c (marks_of r)
explains_in_tree c r e m h s =
    let t = goes_on c r e.place e.is_run (explains_follows c r e) m h s in
    (t.0, inr t.1)

pub trial_in_tree : (c : Setup) (x : List Move) → IsTrial c x → IsInTree c (marks_of x)
trial_in_tree c [] t = absurd t
trial_in_tree c (Take ∷ e) t = absurd t
trial_in_tree c (Fire f ∷ e) t = more_in_tree c (Trying f) e t.0 t.1.is_run t.1.follows t.2

pub yields_in_tree : (c : Setup) (r : List Move) (k : ℕ) → YieldsFirst c r k
    → IsInTree c (marks_of r)
yields_in_tree c [] k y = λ m h s. absurd (nothing_starts m (marks_of h) s)
yields_in_tree c (m ∷ e) k y =
    let b = y.before in
    let can = can_go_on c e m y.place y.is_run in
    more_in_tree c (mark_of m) e can.place can.is_run
    (subst (λ w. Follows c w) (one_place c e b.0 can.place b.1 can.is_run) b.2) can.defined

pub passes_in_tree : (c : Setup) (x : List Mark) → PassesLimit c x → IsInTree c x
passes_in_tree c x (guards run at u) = subst (IsInTree c) (sym at)
    (more_in_tree c Guarding run u.place u.inner.is_run u.inner.follows tt)
passes_in_tree c x (block earlier f at t) = subst (IsInTree c) (sym at)
    (more_in_tree c (Trying f) earlier t.place t.inner.is_run t.inner.follows t.possible)

pub faults_in_tree : (c : Setup) (x : List Mark) → Faults c x → IsInTree c x
faults_in_tree c x t = subst (IsInTree c) (sym t.at)
    (more_in_tree c (Trying t.firing) t.earlier t.comes.place t.comes.inner.is_run
    t.comes.inner.follows t.comes.possible)
