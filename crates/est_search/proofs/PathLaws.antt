-- What is left to be tried, and the best run on a path.
use Rattle.std.proofs.Common.{◌≡◌, ℕ, ◌+◌, ◌≤◌, ◌⊎◌, List, [], ◌∷◌, ◌++◌}
use Rattle.std.proofs.Common.{Option, Some, None, length, refl, sym, ap, subst, ◌∙◌}
use Rattle.std.proofs.Common.{inl, inr, arith}
use Rattle.est_syntax.specs.Least.{IsIn}
use Rattle.est_meaning.specs.mean_blocks.GlobalSituation.{Situation}
use Rattle.est_meaning.specs.mean_blocks.TextByPlace.{text_of}
use Rattle.est_meaning.specs.declared.firing.Firing.{Firing}
use Rattle.est_meaning.specs.TransitionSelection.{IsPossible}
use Rattle.est_meaning.specs.FiringOrder.{FiringBefore, IsBeforeAll}
use Rattle.est_meaning.specs.declared.run.Move.{Move}
use Rattle.est_meaning.specs.declared.run.Move.TheVariants.{Fire}
use Rattle.est_meaning.specs.Order.{Mark, Taking, Guarding, Trying, MarkBefore, marks_of}
use Rattle.est_meaning.specs.Order.{StartsWith}
use Rattle.est_meaning.specs.Run.{Setup, Place, IsBoundedRun, YieldsFirst}
use Rattle.est_meaning.specs.Trials.{IsInner}
use Rattle.est_meaning.proofs.AgreementLaws.{so_many_first}
use Rattle.est_meaning.proofs.OrderLaws.{firing_irreflexive, mark_transitive}
use Rattle.est_meaning.proofs.RunLaws.{one_place}
use Rattle.est_meaning.proofs.TreeLaws.{IsInTree, IsOnTree, CanGoOn}
use Rattle.run_paths.specs.declared.path.Stage.{Stage}
use Rattle.run_paths.specs.declared.path.Stage.TheVariants.{Fresh, Taken, Listed}
use Rattle.run_paths.specs.declared.path.Level.{Level}
use Rattle.run_paths.specs.declared.path.Best.{Best}
use Rattle.est_search.specs.inside.Ahead.{IsAfter}
use Rattle.est_search.specs.inside.Known.{KnowsBest}
use Rattle.est_search.specs.inside.Path.{place_at, IsNode, AreLeft, StageIs}
use Rattle.run_paths.specs.Paths.{IsKept, HasReached}
use Rattle.run_paths.proofs.BestRuns.{at_most, kept_more, kept_reached}
use Rattle.est_search.proofs.AheadLaws.{Turn, IsNextMark}
use Rattle.est_search.proofs.KnownLaws.{best_on, best_more}

-- INNER RUNS

pub inner_at : (c : Setup) (h : List Move) (s : Situation) (l : Level) (n : IsNode c h s l)
    → IsInner c h (place_at s l n.events)
inner_at c h s l n = record {
  is_run = n.is_run;
  follows = so_many_first l.matched c.trace.events n.events n.agree;
  unfinished = n.unfinished;
}

-- THE NEXT MARK

taking_or_later : (n : Mark) → (n ≡ Taking) ⊎ MarkBefore Taking n
taking_or_later Taking = inl refl
taking_or_later Guarding = inr tt
taking_or_later (Trying f) = inr tt

-- first of all an event is taken
pub taking_first : (c : Setup) (h : List Mark) → IsNextMark c h None Taking
taking_first c h = record { after = tt; next = λ n x tree a s. taking_or_later n }

guarding_or_later : (n : Mark) → MarkBefore Taking n → (n ≡ Guarding) ⊎ MarkBefore Guarding n
guarding_or_later Taking lt = absurd lt
guarding_or_later Guarding lt = inl refl
guarding_or_later (Trying f) lt = inr tt

-- then the guards are evaluated
pub guarding_next : (c : Setup) (h : List Mark) → IsNextMark c h (Some Taking) Guarding
guarding_next c h = record { after = tt; next = λ n x tree a s. guarding_or_later n a }

-- nothing goes on from guards
pub guarding_ends : (c : Setup) (h : List Move) (x : List Mark) → IsInTree c x
    → StartsWith x (Guarding ∷ marks_of h) → x ≡ Guarding ∷ marks_of h
guarding_ends c h x tree s = elim (tree Guarding h s).1 [ inl e ↦ e | inr l ↦ absurd l ]

never_taking : (m : Mark) → MarkBefore m Taking → ⊥
never_taking Taking lt = lt
never_taking Guarding lt = lt
never_taking (Trying f) lt = lt

never_guarding : (m : Mark) → MarkBefore Taking m → MarkBefore m Guarding → ⊥
never_guarding Taking past lt = past
never_guarding Guarding past lt = lt
never_guarding (Trying f) past lt = lt

before_each : (f g : Firing) (fs : List Firing) → IsBeforeAll f fs → IsIn g fs → FiringBefore f g
before_each f g [] b a = absurd a
before_each f g (x ∷ fs) b a = elim a [
  | inl e ↦ subst (λ w. FiringBefore f w) e b.0
  | inr t ↦ before_each f g fs b.1 t
]

-- the situation of a run that can go on by a firing is that of the node
pub possible_there : (c : Setup) (h : List Move) (p : Place) (f : Firing) → IsBoundedRun c h p
    → CanGoOn c h (Trying f) → IsPossible c.limit (text_of c.spec) p.situation f
possible_there c h p f is can =
    subst (λ (w : Place). IsPossible c.limit (text_of c.spec) w.situation f)
    (one_place c h can.place p can.is_run is) can.defined

firing_next_by : (c : Setup) (h : List Move) (p : Place) (m : Mark) (f : Firing)
    (fs : List Firing) → IsBoundedRun c h p → MarkBefore Taking m
    → AreLeft c p.situation m (f ∷ fs) → (n : Mark) (x : List Mark) → IsInTree c x
    → MarkBefore m n → StartsWith x (n ∷ marks_of h) → (n ≡ Trying f) ⊎ MarkBefore (Trying f) n
firing_next_by c h p m f fs is past left Taking x tree lt s = absurd (never_taking m lt)
firing_next_by c h p m f fs is past left Guarding x tree lt s = absurd (never_guarding m past lt)
firing_next_by c h p m f fs is past left (Trying g) x tree lt s =
    elim (left.all g (possible_there c h p g is (tree (Trying g) h s).0) lt) [
      | inl e ↦ inl (ap Trying (sym e))
      | inr t ↦ inr (before_each f g fs left.ascending.0 t)
    ]

-- then the first of those that are left is tried
pub firing_next : (c : Setup) (h : List Move) (p : Place) (m : Mark) (f : Firing)
    (fs : List Firing) → IsBoundedRun c h p → MarkBefore Taking m
    → AreLeft c p.situation m (f ∷ fs) → IsNextMark c (marks_of h) (Some m) (Trying f)
firing_next c h p m f fs is past left = record {
  after = left.later f (inl refl);
  next = λ n x tree a s. firing_next_by c h p m f fs is past left n x tree a s;
}

-- where the firing does not lead on, nothing goes on from it
pub firing_ends : (c : Setup) (f : Firing) (h : List Move) → (IsOnTree c (Fire f ∷ h) → ⊥)
    → (x : List Mark) → IsInTree c x → StartsWith x (Trying f ∷ marks_of h)
    → x ≡ Trying f ∷ marks_of h
firing_ends c f h off x tree s = elim (tree (Trying f) h s).1 [ inl e ↦ e | inr l ↦ absurd (off l) ]

-- where no firing is left, nothing goes on
none_left_by : (c : Setup) (h : List Move) (p : Place) (m : Mark) → IsBoundedRun c h p
    → MarkBefore Taking m → AreLeft c p.situation m [] → (n : Mark) (x : List Mark)
    → IsInTree c x → MarkBefore m n → StartsWith x (n ∷ marks_of h) → ⊥
none_left_by c h p m is past left Taking x tree lt s = never_taking m lt
none_left_by c h p m is past left Guarding x tree lt s = never_guarding m past lt
none_left_by c h p m is past left (Trying g) x tree lt s =
    left.all g (possible_there c h p g is (tree (Trying g) h s).0) lt

pub none_left : (c : Setup) (h : List Move) (p : Place) (m : Mark) → IsBoundedRun c h p
    → MarkBefore Taking m → AreLeft c p.situation m [] → (n : Mark) (x : List Mark)
    → IsInTree c x → IsAfter (Some m) n → StartsWith x (n ∷ marks_of h) → ⊥
none_left c h p m is past left n x tree a s = none_left_by c h p m is past left n x tree a s

-- WHAT IS LEFT

-- after the first of them the others are left
pub left_next : (c : Setup) (s : Situation) (m : Mark) (f : Firing) (fs : List Firing)
    → AreLeft c s m (f ∷ fs) → AreLeft c s (Trying f) fs
left_next c s m f fs left = record {
  ascending = left.ascending.1;
  possible = λ g a. left.possible g (inr a);
  later = λ g a. before_each f g fs left.ascending.0 a;
  all = λ g p lt. elim (left.all g p (mark_transitive m (Trying f) (Trying g)
      (left.later f (inl refl)) lt)) [
        | inl e ↦ absurd (firing_irreflexive f (subst (λ w. FiringBefore f w) (sym e) lt))
        | inr t ↦ t
      ];
}

-- the next one of all that are left is the next one of the top
pub record IsNextOf (mine rest : List Firing) (f : Firing) (fs : List Firing) (n : ℕ)
    : Type 0 where
  pub others : List Firing
  pub mine_is : mine ≡ f ∷ others
  pub rest_is : fs ≡ others ++ rest
  pub count : length others ≡ n

pub next_mine : (mine rest : List Firing) (f : Firing) (fs : List Firing) (n : ℕ)
    → f ∷ fs ≡ mine ++ rest → length mine ≡ n + 1 → IsNextOf mine rest f fs n
next_mine [] rest f fs n e count = absurd (omega arith)
next_mine (g ∷ mine) rest f fs n e count =
    let a : f ≡ g = cc in
    let b : fs ≡ mine ++ rest = cc in
    record {
      others = mine;
      mine_is = ap (λ w. w ∷ mine) (sym a);
      rest_is = b;
      count = omega arith;
    }

pub none_mine : (mine rest : List Firing) → (length mine ≡ 0) ⊎ (mine ++ rest ≡ [])
    → mine ≡ []
none_mine [] rest e = refl
none_mine (g ∷ mine) rest e = elim e [ inl a ↦ absurd (omega arith) | inr a ↦ cc ]

-- the stage of firings
pub record IsListed (c : Setup) (s : Situation) (stage : Stage) (dealt : Option Mark)
    (firings : List Firing) : Type 0 where
  pub stage_is : stage ≡ Listed
  pub mark : Mark
  pub dealt_is : dealt ≡ Some mark
  pub past : MarkBefore Taking mark
  pub left : AreLeft c s mark firings

not_nil : (f : Firing) (fs : List Firing) → f ∷ fs ≡ [] → ⊥
not_nil f fs e = cc

-- where firings are left, they were listed
pub listed_stage : (c : Setup) (s : Situation) (stage : Stage) (dealt : Option Mark)
    (mine : List Firing) (f : Firing) (fs : List Firing) → mine ≡ f ∷ fs
    → StageIs c s stage dealt mine → IsListed c s stage dealt (f ∷ fs)
listed_stage c s Fresh dealt mine f fs e is = absurd (not_nil f fs (sym e ∙ is.1))
listed_stage c s Taken dealt mine f fs e is = absurd (not_nil f fs (sym e ∙ is.1))
listed_stage c s Listed dealt mine f fs e is = record {
  stage_is = refl;
  mark = is.0;
  dealt_is = is.1;
  past = is.2;
  left = subst (λ w. AreLeft c s is.0 w) e is.3;
}

-- where all are tried that were listed
pub spent_stage : (c : Setup) (s : Situation) (stage : Stage) (dealt : Option Mark)
    (mine : List Firing) → stage ≡ Listed → mine ≡ [] → StageIs c s stage dealt mine
    → IsListed c s stage dealt []
spent_stage c s stage dealt mine listed e is =
    let l = subst (λ w. StageIs c s w dealt mine) listed is in
    record {
      stage_is = listed;
      mark = l.0;
      dealt_is = l.1;
      past = l.2;
      left = subst (λ w. AreLeft c s l.0 w) e l.3;
    }

-- THE BEST RUN

-- the best run after a step
pub record BestAfter (c : Setup) (P : List Mark → Type 0) (moves : List Move)
    (best : Best Move) : Type 0 where
  pub run : List Move
  pub kept : IsKept moves best run
  pub knows : KnowsBest c P best.yields run

module _ (c : Setup) (P P' : List Mark → Type 0) (h : List Move) (last : Move)
    (turn : Turn c P P' (marks_of (last ∷ h))) (old new : Best Move) (run : List Move) (made k : ℕ)
  where
    -- after a run that yields k
    pub best_reached : (more : List Move) → StartsWith more h → made ≡ length h
        → HasReached old new made last k → YieldsFirst c (last ∷ h) k
        → ((r : List Move) (j : ℕ) → marks_of r ≡ marks_of (last ∷ h) → YieldsFirst c r j → j ≤ k)
        → IsKept h old run → KnowsBest c P old.yields run → BestAfter c P' more new
    best_reached more s made_is reached y few kept knows =
        elim (at_most k old.yields) [
          | inl le ↦
              (let same = reached.less le in
              let after : BestAfter c P' more old = record {
                run = run;
                kept = kept_more h more old run s kept;
                knows = best_on c P P' (marks_of (last ∷ h)) turn old.yields run
                    (λ r j e q. (let w = few r j e q in omega arith)) knows;
              } in
              subst (λ b. BestAfter c P' more b) (sym same) after)
          | inr lt ↦
              (let raised = reached.more lt in
              record {
                run = last ∷ h;
                kept = kept_reached h more last old new made k s made_is reached lt;
                knows = subst (λ n. KnowsBest c P' n (last ∷ h)) (sym raised.0)
                    (best_more c P P' (last ∷ h) turn old.yields k run y (λ j q. few (last ∷ h) j
                    refl q)
                    lt knows);
              })
        ]
