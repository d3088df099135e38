-- A replay from its start over its moves to its end.
use Rattle.std.proofs.Common.{◌≡◌, ◌≤◌, ◌<◌, ◌+◌, ◌-◌, ℕ, List, [], ◌∷◌, ◌++◌, length, take, drop}
use Rattle.std.proofs.Common.{reverse, get_or, min, refl, sym, ap, subst, ◌∙◌, inl, inr, arith}
use Rattle.std.proofs.lemmas.List.{take_all, take_rest, get_or_default, take_more, drop_more}
use Rattle.std.proofs.lemmas.List.{take-append-drop, drop_all, length-take, length-take-le}
use Rattle.std.proofs.lemmas.List.{reverse-append}
use Rattle.est_syntax.specs.declared.specification.Spec.{Spec}
use Rattle.est_meaning.specs.mean_blocks.GlobalSituation.{Situation}
use Rattle.est_meaning.specs.mean_blocks.TextByPlace.{text_of}
use Rattle.est_meaning.specs.declared.event.Event.{Event}
use Rattle.est_meaning.specs.declared.trace.Expected.{Expected}
use Rattle.est_meaning.specs.declared.firing.Firing.{Firing}
use Rattle.est_meaning.specs.Agreement.{AgreeAll, AgreeFirst}
use Rattle.est_meaning.specs.Endings.{IsTraceEnd}
use Rattle.est_meaning.specs.RecordedTraces.{Recorded}
use Rattle.est_meaning.specs.SituationStacks.{Stack, Keeps}
use Rattle.est_meaning.specs.declared.run.Move.{Move}
use Rattle.est_meaning.specs.declared.run.Move.TheVariants.{Take, Fire}
use Rattle.est_meaning.specs.Task.{IsSetup, Suits}
use Rattle.est_meaning.specs.Run.{Setup, Place, first_place}
use Rattle.est_meaning.specs.Run.{IsBoundedRun, Follows, IsWhole, Yields}
use Rattle.est_meaning.proofs.AgreementLaws.{first_taken}
use Rattle.est_meaning.proofs.Endings.{ends_whole, whole_ends}
use Rattle.est_meaning.proofs.RunLaws.{one_place}
use Rattle.est_explanation.specs.declared.verdict.Why.{Why}
use Rattle.est_explanation.specs.declared.verdict.Why.TheVariants as why
use Rattle.est_explanation.specs.declared.verdict.Replayed.{Replayed}
use Rattle.est_explanation.specs.declared.verdict.Replayed.TheVariants.{Confirmed, Rejected}
use Rattle.est_explanation.specs.declared.replay.Standing.{Standing}
use Rattle.est_explanation.specs.declared.replay.Moved.TheVariants.{Passed, Failed}
use Rattle.est_explanation.specs.Replay.{AgreesSoFar, FiringFails, MoveFails, IsPassed}
use Rattle.est_explanation.specs.Replay.{IsRejected, IsAnswer, ClaimsBeyondAskAll}
use Rattle.est_explanation.specs.inside.Standing.{IsReady, AgreesUpTo, HasMoved}
use Rattle.est_explanation.specs.inside.Standing.{IsStanding, IsMet, IsEnding, asked_of, place_of}
use Rattle.est_explanation.proofs.Checks.{Passes, follows_agrees, one_on}

-- WHAT IS COMPARED

-- events that begin the trace up to more than it has are no more than it has
prefix_of_all : (trace : List Expected) (events : List Event) (claim : ℕ) → length trace < claim
    → AgreeFirst trace (take claim events) → AgreeFirst trace events
prefix_of_all trace events claim lt p =
    let a = (first_taken trace (take claim events) p).0 in
    let b : length (take claim events) ≡ min claim (length events) = length-take claim events in
    let few : length events ≤ claim = omega arith in
    subst (λ w. AgreeFirst trace w) (take_all claim events few) p

whole_prefix : (trace : List Expected) (events : List Event)
    → AgreeFirst trace (take (length trace + 1) events) → AgreeFirst trace events
whole_prefix trace events p = (let lt : length trace < length trace + 1 =
    omega arith in prefix_of_all trace events (length trace + 1) lt p)

pub beyond_asks_all : ClaimsBeyondAskAll
beyond_asks_all c claim p lt a = prefix_of_all c.trace.events p.events claim lt a

pub agrees_left : (c : Setup) (claim : ℕ) (left : List Move) (p : Place)
    → AgreesUpTo c (asked_of (length c.trace.events) claim left) p → AgreesSoFar c claim left p
agrees_left c claim [] p a = a
agrees_left c claim (m ∷ left) p a = whole_prefix c.trace.events p.events a

pub agrees_asked : (c : Setup) (claim : ℕ) (left : List Move) (p : Place)
    → AgreesSoFar c claim left p → AgreesUpTo c (asked_of (length c.trace.events) claim left) p
agrees_asked c claim [] p a = a
agrees_asked c claim (m ∷ left) p a = follows_agrees c (length c.trace.events + 1) [] p a

firing_fails_alike : (c : Setup) (A B : Place → Type 0) → ((q : Place) → A q → B q)
    → ((q : Place) → B q → A q) → (p : Place) (f : Firing) (w : Why) → FiringFails c A p f w
    → FiringFails c B p f w
firing_fails_alike c A B there back p f why.Limit h = h
firing_fails_alike c A B there back p f why.NotOffered h = h
firing_fails_alike c A B there back p f (why.Fault g) h = h
firing_fails_alike c A B there back p f why.WrongOutput h = (h.0, h.1, λ b. h.2 (back h.0 b))
firing_fails_alike c A B there back p f why.TooSilent h = (h.0, h.1, there h.0 h.2, h.3)
firing_fails_alike c A B there back p f (why.NoStart g) h = absurd h
firing_fails_alike c A B there back p f why.NoEvent h = absurd h
firing_fails_alike c A B there back p f why.NotAll h = absurd h

pub fails_alike : (c : Setup) (A B : Place → Type 0) → ((q : Place) → A q → B q)
    → ((q : Place) → B q → A q) → (p : Place) (m : Move) (w : Why) → MoveFails c A p m w
    → MoveFails c B p m w
fails_alike c A B there back p Take w h = h
fails_alike c A B there back p (Fire f) w h = firing_fails_alike c A B there back p f w h

-- THE START

pub rejects_start : (c : Setup) (spec : Spec) (limit silent : ℕ) (trace : Recorded)
    (stack : Stack) (outs : List Event) (moves : List Move) (claim : ℕ)
    → IsSetup c spec limit silent trace stack outs
    → (AgreeFirst trace.events (take (asked_of (length trace.events) claim moves) outs) → ⊥)
    → IsRejected c moves claim 0 why.WrongOutput
rejects_start c spec limit silent trace stack outs moves claim s off =
    inl (record {
      at_is = refl;
      why_is = refl;
      differs = λ a. off (subst (λ es. AgreeFirst trace.events
          (take (asked_of (length trace.events) claim moves) es)) s.outs_are
          (subst (λ (w : Recorded). AgreeFirst w.events
          (take (asked_of (length w.events) claim moves) c.start_outs))
          s.suits.trace_is (agrees_asked c claim moves (first_place c) a)));
    })

pub stands_first : (c : Setup) (spec : Spec) (limit silent : ℕ) (trace : Recorded) (stack : Stack)
    (outs : List Event) (moves : List Move) (claim : ℕ)
    → IsSetup c spec limit silent trace stack outs
    → AgreeFirst trace.events (take (asked_of (length trace.events) claim moves) outs)
    → IsStanding c claim moves 0 stack.now (record { events = length outs; silent_in_row = 0 })
stands_first c spec limit silent trace stack outs moves claim s on = (
  first_place c,
  record {
    is_run = refl;
    before = tt;
    agrees = agrees_left c claim moves (first_place c)
        (subst (λ (w : Recorded). AgreeFirst w.events
        (take (asked_of (length w.events) claim moves) c.start_outs)) (sym s.suits.trace_is)
        (subst (λ es. AgreeFirst trace.events
        (take (asked_of (length trace.events) claim moves) es)) (sym s.outs_are) on));
  },
  record { situation_is = s.start_is; many = ap length s.outs_are; silent_in_row_is = refl },
)

-- what was compared at the start, and what agrees there
pub begins_on : (trace trace' : List Expected) (outs : List Event) (asked claim : ℕ)
    (moves : List Move) → trace' ≡ trace → asked ≡ asked_of (length trace') claim moves
    → AgreeFirst (drop 0 trace') (take (asked - 0) outs)
    → AgreeFirst trace (take (asked_of (length trace) claim moves) outs)
begins_on trace trace' outs asked claim moves same is h =
    let e : asked - 0 ≡ asked = omega arith in
    subst (λ (w : List Expected). AgreeFirst w (take (asked_of (length w) claim moves) outs)) same
    (subst (λ n. AgreeFirst trace' (take n outs)) (e ∙ is) h)

pub begins_back : (trace trace' : List Expected) (outs : List Event) (asked claim : ℕ)
    (moves : List Move) → trace' ≡ trace → asked ≡ asked_of (length trace') claim moves
    → AgreeFirst trace (take (asked_of (length trace) claim moves) outs)
    → AgreeFirst (drop 0 trace') (take (asked - 0) outs)
begins_back trace trace' outs asked claim moves same is h =
    let e : asked - 0 ≡ asked = omega arith in
    subst (λ n. AgreeFirst trace' (take n outs)) (sym (e ∙ is))
    (subst (λ (w : List Expected). AgreeFirst w (take (asked_of (length w) claim moves) outs))
    (sym same) h)

-- A MOVE

module _ (c : Setup) (claim : ℕ) (moves : List Move) (made : ℕ) (s : Situation) (at : Standing)
    (standing : IsStanding c claim moves made s at) (m : Move) (lt : made < length moves)
    (is : get_or moves made m ≡ m) where
  left_is : drop made moves ≡ m ∷ drop (made + 1) moves
  left_is = drop_more moves made m lt ∙ ap (λ x. x ∷ drop (made + 1) moves) is

  follows_there : Follows c standing.0
  follows_there = (let a : AgreesSoFar c claim (m ∷ drop (made + 1) moves) standing.0 =
      subst (λ l. AgreesSoFar c claim l standing.0) left_is standing.1.agrees in a)

  first_there : (length standing.0.events ≤ length c.trace.events)
      × AgreeAll (take (length standing.0.events) c.trace.events) standing.0.events
  first_there = first_taken c.trace.events standing.0.events follows_there

  agree_there : AgreeAll (take at.events c.trace.events) standing.0.events
  agree_there = subst (λ n. AgreeAll (take n c.trace.events) standing.0.events) standing.2.many
      first_there.1

  within_there : at.events ≤ length c.trace.events
  within_there = (let n = first_there.0 in let k = standing.2.many in omega arith)

  there_is : (stack : Stack) → stack.now ≡ s → standing.0 ≡ place_of stack standing.0.events at
  there_is stack e =
      let p = standing.0 in
      ap (λ x. let r : Place = record {
        situation = x;
        events = p.events;
        silent_in_row = p.silent_in_row;
      } in r) (standing.2.situation_is ∙ sym e)
      ∙ ap (λ x. let r : Place = record {
        situation = stack.now;
        events = p.events;
        silent_in_row = x;
      } in r) standing.2.silent_in_row_is

  ready_there : (spec : Spec) (limit silent : ℕ) (trace : Recorded) (stack : Stack)
      → stack.now ≡ s → Suits c spec limit silent trace
      → IsReady c spec limit silent trace stack at standing.0.events
  ready_there spec limit silent trace stack e suits =
      record {
        suits = suits;
        run = reverse (take made moves);
        is_run = subst (IsBoundedRun c (reverse (take made moves))) (there_is stack e)
            standing.1.is_run;
        agree = subst (λ (w : Recorded). AgreeAll (take at.events w.events) standing.0.events)
            suits.trace_is agree_there;
      }

  passed_there : (stack : Stack) → stack.now ≡ s
      → IsPassed c claim (reverse (take made moves)) (m ∷ drop (made + 1) moves)
      (place_of stack standing.0.events at)
  passed_there stack e = subst (IsPassed c claim (reverse (take made moves))
      (m ∷ drop (made + 1) moves)) (there_is stack e)
      (subst (λ l. IsPassed c claim (reverse (take made moves)) l standing.0) left_is standing.1)

  run_is : reverse (take (made + 1) moves) ≡ m ∷ reverse (take made moves)
  run_is = ap reverse (take_more moves made m lt ∙ ap (λ x. take made moves ++ x ∷ []) is)
      ∙ reverse-append (take made moves) (m ∷ [])

  stands_on : (stack : Stack) (asked : ℕ) (t : Situation) (next : Standing) → stack.now ≡ s
      → asked ≡ asked_of (length c.trace.events) claim (drop (made + 1) moves)
      → HasMoved c asked (place_of stack standing.0.events at) m t (Passed next)
      → IsStanding c claim moves (made + 1) t next
  stands_on stack asked t next e a h =
      let left = drop (made + 1) moves in
      let pass : Passes c (AgreesSoFar c claim left) (place_of stack standing.0.events at) m h.0 =
      record {
        moves = h.1;
        bounded = h.2;
        agreed = agrees_left c claim left h.0 (subst (λ n. AgreesUpTo c n h.0) a h.3);
      } in (
        h.0,
        subst (λ r. IsPassed c claim r left h.0) (sym run_is)
            (one_on c claim m (reverse (take made moves)) left
            (place_of stack standing.0.events at) h.0 (passed_there stack e) pass),
        h.4,
      )

  rejects_move : (stack : Stack) (asked : ℕ) (t : Situation) (w : Why) → stack.now ≡ s
      → asked ≡ asked_of (length c.trace.events) claim (drop (made + 1) moves)
      → HasMoved c asked (place_of stack standing.0.events at) m t (Failed w)
      → IsRejected c moves claim (made + 1) w
  rejects_move stack asked t w e a h =
      let left = drop (made + 1) moves in
      let many : length (take made moves) ≡ made = length-take-le made moves (omega arith) in
      inr (inl (record {
        earlier = take made moves;
        move = m;
        left = left;
        moves_are = sym (take-append-drop made moves) ∙ ap (λ l. take made moves ++ l) left_is;
        at_is = ap (λ n. n + 1) (sym many);
        place = place_of stack standing.0.events at;
        passed = passed_there stack e;
        fails = fails_alike c (AgreesUpTo c asked) (AgreesSoFar c claim left)
            (λ q x. agrees_left c claim left q (subst (λ n. AgreesUpTo c n q) a x))
            (λ q x. subst (λ n. AgreesUpTo c n q) (sym a) (agrees_asked c claim left q x))
            (place_of stack standing.0.events at) m w h;
      }))

-- the same, in the words of the calls
module _ (c : Setup) (claim : ℕ) (moves : List Move) (made : ℕ) (at : Standing) (spec : Spec)
    (limit silent : ℕ) (trace : Recorded) (stack : Stack)
    (suits : Suits c spec limit silent trace) (standing : IsStanding c claim moves made stack.now
    at) (lt : made < length moves) where
  abbrev next_move : Move
  next_move = get_or moves made Take

  next_is : get_or moves made next_move ≡ next_move
  next_is = get_or_default moves made next_move Take lt

  pub within_call : at.events ≤ length trace.events
  within_call = subst (λ (w : Recorded). at.events ≤ length w.events) suits.trace_is
      (within_there c claim moves made stack.now at standing next_move lt next_is)

  pub ready_call : IsReady c spec limit silent trace stack at standing.0.events
  ready_call = ready_there c claim moves made stack.now at standing next_move lt next_is spec limit
      silent trace stack refl suits

  module _ (asked : ℕ) (a : asked ≡ asked_of (length trace.events) claim
      (take (length moves - (made + 1)) (drop (made + 1) moves))) (t : Situation) where
    asked_is : asked ≡ asked_of (length c.trace.events) claim (drop (made + 1) moves)
    asked_is = a ∙ ap (asked_of (length trace.events) claim) (take_rest moves (made + 1))
        ∙ ap (λ (w : Recorded). asked_of (length w.events) claim (drop (made + 1) moves))
        (sym suits.trace_is)

    pub stands_call : (next : Standing)
        → HasMoved c asked (place_of stack standing.0.events at) next_move t (Passed next)
        → IsStanding c claim moves (made + 1) t next
    stands_call next h = stands_on c claim moves made stack.now at standing next_move lt next_is
        stack asked t next refl asked_is h

    pub rejects_call : (w : Why)
        → HasMoved c asked (place_of stack standing.0.events at) next_move t (Failed w)
        → IsRejected c moves claim (made + 1) w
    rejects_call w h = rejects_move c claim moves made stack.now at standing next_move lt next_is
        stack asked t w refl asked_is h

-- calls one after the other keep what each of them keeps
pub keeps_both : {W : Type 0} (speaks : W → Spec → Type 0) (limit : W → ℕ) (a b d : W)
    → Keeps speaks limit a b → Keeps speaks limit b d → Keeps speaks limit a d
keeps_both speaks limit a b d x y = record {
  forward = λ s h. y.forward s (x.forward s h);
  backward = λ s h. x.backward s (y.backward s h);
  limit_is = y.limit_is ∙ x.limit_is;
}

-- THE END

module _ (c : Setup) (claim : ℕ) (moves : List Move) (s : Situation) (at : Standing)
    (standing : IsStanding c claim moves (length moves) s at) where
  run_whole : reverse (take (length moves) moves) ≡ reverse moves
  run_whole = ap reverse (take_all (length moves) moves (omega arith))

  passed_whole : IsPassed c claim (reverse moves) [] standing.0
  passed_whole =
      subst (λ r. IsPassed c claim r [] standing.0) run_whole
      (subst (λ l. IsPassed c claim (reverse (take (length moves) moves)) l standing.0)
      (drop_all (length moves) moves (omega arith)) standing.1)

  yields_first : claim ≤ length c.trace.events → claim ≤ at.events → Yields c (reverse moves) claim
  yields_first within many =
      let p = standing.0 in
      let a = passed_whole in
      let k = standing.2.many in
      let enough : claim ≤ length p.events = omega arith in
      inl (record {
        place = p;
        is_run = a.is_run;
        before = a.before;
        many = enough;
        within = within;
        agree = subst (λ n. AgreeAll (take n c.trace.events) (take claim p.events))
            (length-take-le claim p.events enough)
            (first_taken c.trace.events (take claim p.events) a.agrees).1;
      })

  -- where the claim is above the number of the trace's events, all events are a prefix of it
  all_agree : claim ≡ length c.trace.events + 1 → Follows c standing.0
  all_agree e = whole_prefix c.trace.events standing.0.events
      (subst (λ n. AgreesUpTo c n standing.0) e passed_whole.agrees)

  taken_there : claim ≡ length c.trace.events + 1 → (at.events ≤ length c.trace.events)
      × AgreeAll (take at.events c.trace.events) standing.0.events
  taken_there e = subst (λ n. (n ≤ length c.trace.events)
      × AgreeAll (take n c.trace.events) standing.0.events) standing.2.many
      (first_taken c.trace.events standing.0.events (all_agree e))

  -- the trace ends with these events, in a situation
  abbrev EndsIn : Situation → Type 0
  EndsIn u = IsTraceEnd c.trace c.limit (text_of c.spec) u at.events

  yields_all : claim ≡ length c.trace.events + 1 → EndsIn s → Yields c (reverse moves) claim
  yields_all e end = inr (
    e,
    record {
      place = standing.0;
      is_run = passed_whole.is_run;
      whole = ends_whole c standing.0 at.events (taken_there e).1
          (subst EndsIn (sym standing.2.situation_is) end);
    },
  )

  met_yields : IsMet c.trace c.limit (text_of c.spec) s claim at.events
      → Yields c (reverse moves) claim
  met_yields met = elim met [ inl a ↦ yields_first a.0 a.1 | inr a ↦ yields_all a.0 a.1 ]

  yields_met : Yields c (reverse moves) claim
      → IsMet c.trace c.limit (text_of c.spec) s claim at.events
  yields_met y =
      let k = standing.2.many in
      elim y [
        | inl a ↦ (let e : length a.place.events ≡ length standing.0.events =
            ap (λ (p : Place). length p.events) (one_place c (reverse moves) a.place standing.0
            a.is_run passed_whole.is_run) in
            let many = a.many in
            inl (a.within, omega arith))
        | inr a ↦ (let x = a.1 in
            let w : IsWhole c standing.0 = subst (IsWhole c) (one_place c (reverse moves) x.place
            standing.0 x.is_run passed_whole.is_run) x.whole in
            let taken = taken_there a.0 in
            inr (
              a.0,
              subst EndsIn standing.2.situation_is
                  (whole_ends c standing.0 at.events taken.0 taken.1 w),
            ))
      ]

  confirms : IsMet c.trace c.limit (text_of c.spec) s claim at.events
      → IsAnswer c moves claim (Confirmed claim)
  confirms met = (refl, met_yields met)

  rejects_end : (IsMet c.trace c.limit (text_of c.spec) s claim at.events → ⊥)
      → IsRejected c moves claim (length moves + 1) why.NotAll
  rejects_end unmet = inr (inr (record {
    at_is = refl;
    why_is = refl;
    place = standing.0;
    passed = passed_whole;
    unyielded = λ y. unmet (yields_met y);
  }))

-- the same, in the words of the calls
module _ (c : Setup) (claim : ℕ) (moves : List Move) (made : ℕ) (s : Situation) (at : Standing)
    (spec : Spec) (limit silent : ℕ) (trace : Recorded)
    (suits : Suits c spec limit silent trace) (standing : IsStanding c claim moves made s at)
    (all : made ≡ length moves) where
  standing_last : IsStanding c claim moves (length moves) s at
  standing_last = subst (λ n. IsStanding c claim moves n s at) all standing

  met_there : IsMet trace limit (text_of spec) s claim at.events
      → IsMet c.trace c.limit (text_of c.spec) s claim at.events
  met_there met =
      subst (λ (r : Recorded). IsMet r c.limit (text_of c.spec) s claim at.events)
      (sym suits.trace_is)
      (subst (λ n. IsMet trace n (text_of c.spec) s claim at.events) (sym suits.limit_is)
      (subst (λ x. IsMet trace limit (text_of x) s claim at.events) (sym suits.spec_is) met))

  met_here : IsMet c.trace c.limit (text_of c.spec) s claim at.events
      → IsMet trace limit (text_of spec) s claim at.events
  met_here met =
      subst (λ x. IsMet trace limit (text_of x) s claim at.events) suits.spec_is
      (subst (λ n. IsMet trace n (text_of c.spec) s claim at.events) suits.limit_is
      (subst (λ (r : Recorded). IsMet r c.limit (text_of c.spec) s claim at.events) suits.trace_is
      met))

  pub ends_call : (answer : Replayed)
      → IsEnding trace limit (text_of spec) s claim (length moves) at.events answer
      → IsAnswer c moves claim answer
  ends_call (Confirmed k) h = (
    h.0,
    (confirms c claim moves s at standing_last (met_there h.1)).1,
  )
  ends_call (Rejected number w) h = subst (λ n. IsRejected c moves claim n w) (sym h.0)
      (subst (λ v. IsRejected c moves claim (length moves + 1) v) (sym h.1)
      (rejects_end c claim moves s at standing_last (λ met. h.2 (met_here met))))
