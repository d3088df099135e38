-- What an event that is given does to what is known.
use Rattle.std.proofs.Common.{◌≡◌, ℕ, ◌+◌, ◌<◌, ◌⊎◌, Bool, true, false}
use Rattle.std.proofs.Common.{List, [], ◌∷◌, ◌++◌, Option, None, length, map}
use Rattle.std.proofs.Common.{refl, sym, ap, subst, ◌∙◌, inl, inr, append_assoc, arith}
use Rattle.std.proofs.lemmas.List.{length-append}
use Rattle.est_meaning.specs.mean_blocks.GlobalSituation.{Situation}
use Rattle.est_meaning.specs.declared.event.Event.{Event}
use Rattle.est_meaning.specs.declared.firing.Firing.{Firing}
use Rattle.est_meaning.specs.declared.trace.Expected.TheVariants.{Known}
use Rattle.est_meaning.specs.Agreement.{AgreeAll}
use Rattle.est_meaning.specs.declared.run.Move.{Move}
use Rattle.est_meaning.specs.declared.run.Move.TheVariants.{Take, Fire}
use Rattle.est_meaning.specs.Order.{Mark, Guarding, Trying, mark_of, marks_of}
use Rattle.est_meaning.specs.Order.{StartsWith}
use Rattle.est_meaning.specs.Run.{Setup, Place, IsBoundedRun, Follows, FollowsBefore, YieldsFirst}
use Rattle.est_meaning.specs.Trials.{IsTrial, PassesLimit, guards, block}
use Rattle.est_meaning.proofs.AgreementLaws.{first_taken}
use Rattle.est_meaning.proofs.OrderLaws.{marks_same, starts_cases, starts_trans}
use Rattle.est_meaning.proofs.RunLaws.{one_place, explains_yields}
use Rattle.est_meaning.proofs.TreeLaws.{IsOnTree, starts_on_tree, nothing_starts}
use Rattle.run_paths.specs.declared.path.Level.{Level}
use Rattle.est_search.specs.inside.Ahead.{IsLater, IsAhead}
use Rattle.est_search.specs.inside.Known.{KnowsTrials}
use Rattle.est_search.specs.inside.Path.{place_at, IsNode, AreLeft, AreLeftBelow, AreLower}
use Rattle.mean_watch.specs.Watching.{so_far}
use Rattle.mean_watch.specs.WatchLaws.{GoesOnFromAll, BeginsYielding}
use Rattle.mean_watch.proofs.Growing.{known_length, grown_run, trials_grow}
use Rattle.mean_watch.proofs.Parting.{take_joined, frontiers_part}
use Rattle.est_watch.specs.inside.Known.{IsSought, IsMet, Knows}
use Rattle.est_watch.proofs.Sought.{few_open, node_length, sought_yields}

-- MARKS

-- what goes on from what is ahead is ahead
ahead_more : (h : List Mark) (d : Option Mark) (x y : List Mark) → IsAhead h d y → StartsWith x y
    → IsAhead h d x
ahead_more h d x y p s = elim p [
  | inl a ↦ inl (a.0, a.1, starts_trans x y (a.0 ∷ h) s a.2)
  | inr l ↦ inr (record {
    common = l.common;
    mark = l.mark;
    next = l.next;
    order = l.order;
    starts = l.starts;
    goes_on = starts_trans x y (l.next ∷ l.common) s l.goes_on;
  })
]

-- the marks of a run that starts with another start with those of the other
starts_marks : (later h : List Move) (r : List Move) → r ≡ later ++ h
    → StartsWith (marks_of r) (marks_of h)
starts_marks [] h r e = ([], ap marks_of e)
starts_marks (m ∷ later) h [] e = (let never : ⊥ = cc in absurd never)
starts_marks (m ∷ later) h (n ∷ r) e =
    let b : r ≡ later ++ h = cc in
    let s = starts_marks later h r b in
    (mark_of n ∷ s.0, ap (λ w. mark_of n ∷ w) s.1)

-- and a run whose marks do starts with it
marks_start : (later : List Mark) (e h : List Move) → marks_of e ≡ later ++ marks_of h
    → StartsWith e h
marks_start [] e h eq = ([], marks_same e h eq)
marks_start (z ∷ later) [] h eq = (let never : ⊥ = cc in absurd never)
marks_start (z ∷ later) (n ∷ e) h eq =
    let b : marks_of e ≡ later ++ marks_of h = cc in
    let r = marks_start later e h b in
    (n ∷ r.0, ap (λ w. n ∷ w) r.1)

-- a mark behind a run: where the whole goes on from another run, the run starts with that one
tail_start : (later : List Mark) (m n : Mark) (e h : List Move)
    → m ∷ marks_of e ≡ later ++ n ∷ marks_of h → StartsWith e h
tail_start [] m n e h eq = (let b : marks_of e ≡ marks_of h = cc in ([], marks_same e h b))
tail_start (z ∷ later) m n e h eq =
    let b : marks_of e ≡ later ++ n ∷ marks_of h = cc in
    marks_start (later ++ n ∷ []) e h (b ∙ sym (append_assoc later (n ∷ []) (marks_of h)))

-- THE PATH

module _ (c : Setup) (given : List Event) (e : Event) where
  abbrev now : Setup
  now = so_far c given

  abbrev next : Setup
  next = so_far c (given ++ e ∷ [])

  pub one_more : length (map Known (given ++ e ∷ [])) ≡ length given + 1
  one_more = known_length (given ++ e ∷ []) ∙ length-append given (e ∷ [])

  node_grows : (h : List Move) (s : Situation) (l : Level) → IsNode now h s l → IsNode next h s l
  node_grows h s l n =
      let k = node_length now h s l n in
      let m : length (map Known given) ≡ length given = known_length given in
      let w = n.within in
      let o = one_more in
      record {
        events = n.events;
        is_run = grown_run c given (e ∷ []) h (place_at s l n.events) n.is_run;
        within = omega arith;
        agree = subst (λ xs. AgreeAll xs n.events)
            (sym (take_joined l.matched given (e ∷ []) (omega arith))) n.agree;
        unfinished = few_open next (place_at s l n.events) (omega arith);
      }

  left_grows : (s : Situation) (m : Mark) (fs : List Firing) → AreLeft now s m fs
      → AreLeft next s m fs
  left_grows s m fs l = record {
    ascending = l.ascending;
    possible = l.possible;
    later = l.later;
    all = l.all;
  }

  left_below_grows : (s : Situation) (m : Move) (fs : List Firing) → AreLeftBelow now s m fs
      → AreLeftBelow next s m fs
  left_below_grows s Take fs l = l
  left_below_grows s (Fire f) fs l = left_grows s (Trying f) fs l

  pub lower_grows : (ls : List Level) (h : List Move) (below : List Situation) (fs : List Firing)
      → AreLower now ls h below fs → AreLower next ls h below fs
  lower_grows [] [] [] fs a = a
  lower_grows [] [] (s ∷ below) fs a = absurd a
  lower_grows [] (m ∷ h) below fs a = absurd a
  lower_grows (l ∷ ls) [] below fs a = absurd a
  lower_grows (l ∷ ls) (m ∷ h) [] fs a = absurd a
  lower_grows (l ∷ ls) (m ∷ h) (s ∷ below) fs a = (
    a.0,
    a.1,
    a.2,
    a.3,
    node_grows h s l a.4,
    left_below_grows s m a.0 a.5,
    lower_grows ls h below a.1 a.6,
  )

  -- WHAT IS KNOWN

  module _ (h : List Move) (tried : ℕ) (passed : Bool)
      (trials : KnowsTrials now (IsAhead (marks_of h) None) tried)
      (sought : (run : List Move) → YieldsFirst now run (length now.trace.events)
      → (run ≡ h) ⊎ IsAhead (marks_of h) None (marks_of run))
      (met : IsMet now (IsAhead (marks_of h) None) passed) where
    abbrev ahead : List Mark → Type 0
    ahead = IsAhead (marks_of h) None

    -- what goes on from a run that explains the events so far is ahead
    from_all : (x : List Mark) → GoesOnFromAll c given x → ahead x
    from_all x g =
        let y = explains_yields now g.run (length now.trace.events) (omega arith) g.explains in
        elim (sought g.run y) [
          | inl same ↦
              inl (g.mark, tt, ([], g.marks ∙ ap (λ r. g.mark ∷ marks_of r) same))
          | inr p ↦ ahead_more (marks_of h) None x (marks_of g.run) p (g.mark ∷ [], g.marks)
        ]

    pub known_trials : KnowsTrials next ahead tried
    known_trials = record {
      trials = trials.trials;
      count = trials.count;
      distinct = trials.distinct;
      each = λ x a. trials_grow.last c (given ++ e ∷ []) x
          (trials_grow.grow c given (e ∷ []) x (trials_grow.all c given x (trials.each x a)));
      all = λ x t. elim (frontiers_part.trials c given e x t) [
        | inl before ↦ trials.all x before
        | inr g ↦ inr (from_all (marks_of x) g)
      ];
      earlier = trials.earlier;
    }

    pub known_met : (b : Bool) → IsMet now ahead b → IsMet next ahead b
    known_met false m = λ x k. elim (frontiers_part.limits c given e x k) [
      | inl before ↦ m x before
      | inr g ↦ from_all x g
    ]
    known_met true m = (m.0, frontiers_part.more c given (e ∷ []) m.0 m.1)

    -- a run that yields the event as well is that of the path, or ahead
    pub known_sought : (run : List Move) → YieldsFirst next run (length next.trace.events)
        → (run ≡ h) ⊎ ahead (marks_of run)
    known_sought run y =
        let b : BeginsYielding c given run =
        frontiers_part.yields c given e run (subst (λ n. YieldsFirst next run n) one_more y) in
        let k : length (map Known given) ≡ length given = known_length given in
        elim (sought b.first (subst (λ n. YieldsFirst now b.first n) (sym k) b.yields)) [
          | inl same ↦ elim (starts_cases run h (subst (λ w. StartsWith run w) same b.starts)) [
            | inl is ↦ inl is
            | inr s ↦ inr (inl (mark_of s.0, tt, starts_marks s.1.0 (s.0 ∷ h) run s.1.1))
          ]
          | inr p ↦ inr (ahead_more (marks_of h) None (marks_of run) (marks_of b.first) p
              (starts_marks b.starts.0 b.first run b.starts.1))
        ]

-- THE RUN AT WHICH IT STANDS

-- a run with events that differ from those given, or are more, does not follow them
pub more_off : (c : Setup) (h : List Move) (p : Place) → IsBoundedRun c h p
    → length c.trace.events < length p.events → IsOnTree c h → ⊥
more_off c h p is more on =
    let e : on.place ≡ p = one_place c h on.place p on.is_run is in
    let f : Follows c p = subst (λ w. Follows c w) e on.follows in
    let a = (first_taken c.trace.events p.events f).0 in
    omega arith

-- IT IS LEFT

-- a trial, or what passes its limit, goes on from a run that follows the trace
pub record HasRoot (c : Setup) (x : List Mark) : Type 0 where
  pub mark : Mark
  pub run : List Move
  pub marks : x ≡ mark ∷ marks_of run
  pub on : IsOnTree c run

trial_root : (c : Setup) (x : List Move) → IsTrial c x → HasRoot c (marks_of x)
trial_root c [] t = absurd t
trial_root c (Take ∷ e) t = absurd t
trial_root c (Fire f ∷ e) t = record {
  mark = Trying f;
  run = e;
  marks = refl;
  on = record { place = t.0; is_run = t.1.is_run; follows = t.1.follows };
}

limit_root : (c : Setup) (x : List Mark) → PassesLimit c x → HasRoot c x
limit_root c x (guards run at u) = record {
  mark = Guarding;
  run = run;
  marks = at;
  on = record { place = u.place; is_run = u.inner.is_run; follows = u.inner.follows };
}
limit_root c x (block earlier f at t) = record {
  mark = Trying f;
  run = earlier;
  marks = at;
  on = record { place = t.place; is_run = t.inner.is_run; follows = t.inner.follows };
}

module _ (c : Setup) (h : List Move) (off : IsOnTree c h → ⊥) where
  -- nothing that has a root goes on from a run that does not follow
  root_later : (x : List Mark) → HasRoot c x → IsAhead (marks_of h) None x → IsLater (marks_of h) x
  root_later x r p = elim p [
    | inl a ↦
        (let s = tail_start a.2.0 r.mark a.0 r.run h (sym r.marks ∙ a.2.1) in
        absurd (off (starts_on_tree c r.run h r.on.place r.on.is_run r.on.follows s)))
    | inr l ↦ l
  ]

  run_root : (r : List Move) → FollowsBefore c r → (r ≡ []) ⊎ HasRoot c (marks_of r)
  run_root [] b = inl refl
  run_root (m ∷ r) b = inr (record {
    mark = mark_of m;
    run = r;
    marks = refl;
    on = record { place = b.0; is_run = b.1; follows = b.2 };
  })

  nil_not_more : (a : (n : Mark) × Unit {0} × StartsWith [] (n ∷ marks_of h)) → ⊥
  nil_not_more a = nothing_starts a.0 (marks_of h) a.2

  module _ (exact : Bool) (tried : ℕ) (passed : Bool) (never : IsSought c exact h → ⊥)
      (trials : KnowsTrials c (IsAhead (marks_of h) None) tried)
      (sought : (run : List Move) → IsSought c exact run
      → (run ≡ h) ⊎ IsAhead (marks_of h) None (marks_of run))
      (met : IsMet c (IsAhead (marks_of h) None) passed) where
    left_sought : (run : List Move) → IsSought c exact run → IsLater (marks_of h) (marks_of run)
    left_sought run s = elim (sought run s) [
      | inl same ↦ absurd (never (subst (IsSought c exact) same s))
      | inr p ↦ elim (run_root run (sought_yields c exact run s).before) [
        | inl none ↦ elim (subst (λ w. IsAhead (marks_of h) None (marks_of w)) none p) [
          | inl a ↦ absurd (nil_not_more a)
          | inr l ↦ subst (λ w. IsLater (marks_of h) (marks_of w)) (sym none) l
        ]
        | inr r ↦ root_later (marks_of run) r p
      ]
    ]

    left_met : (b : Bool) → IsMet c (IsAhead (marks_of h) None) b
        → IsMet c (IsLater (marks_of h)) b
    left_met false m = λ x k. root_later x (limit_root c x k) (m x k)
    left_met true m = m

    -- it is left: all that is sought is later
    pub known_left : Knows c exact (IsLater (marks_of h)) tried passed
    known_left = record {
      trials = record {
        trials = trials.trials;
        count = trials.count;
        distinct = trials.distinct;
        each = trials.each;
        all = λ x t. elim (trials.all x t) [
          | inl a ↦ inl a
          | inr p ↦ inr (root_later (marks_of x) (trial_root c x t) p)
        ];
        earlier = λ x y a l. trials.earlier x y a (inr l);
      };
      sought = left_sought;
      met = left_met passed met;
    }
