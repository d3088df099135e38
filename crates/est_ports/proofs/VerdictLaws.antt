-- What the end of a walk says.
use Rattle.std.proofs.Common.{◌≡◌, ℕ, ◌+◌, ◌≤◌, List, [], ◌∷◌, ◌++◌, Option, Some, None}
use Rattle.std.proofs.Common.{length, map, take, reverse, refl, sym, ap, subst, ◌∙◌, inl, inr}
use Rattle.std.proofs.Common.{arith}
use Rattle.std.proofs.Common.{Result, Ok, Err, IfOk}
use Rattle.std.proofs.lemmas.Bool.{cases_lt}
use Rattle.std.proofs.lemmas.List.{append-nil, length-append, length-take-le, map-append}
use Rattle.std.proofs.lemmas.List.{reverse-append}
use Rattle.est_meaning.specs.Run.{Setup, IsBegun, IsBoundedRun, Explains, Yields}
use Rattle.est_meaning.specs.Run.{YieldsFirst}
use Rattle.est_meaning.specs.RecordedTraces.{Recorded, known_trace}
use Rattle.est_meaning.specs.SituationStacks.{Stack}
use Rattle.est_meaning.specs.declared.event.Event.{Event}
use Rattle.est_meaning.specs.declared.firing.Firing.{Firing}
use Rattle.est_meaning.specs.declared.run.Move.{Move}
use Rattle.mean_ports.specs.declared.lists.PortLists.{PortLists}
use Rattle.mean_ports.specs.declared.moves.PortMove.{PortMove}
use Rattle.mean_ports.specs.declared.verdict.PortsVerdict.{PortsVerdict}
use Rattle.mean_ports.specs.declared.verdict.PortsVerdict.TheVariants.{Accepted, Refused}
use Rattle.mean_ports.specs.declared.verdict.PortsVerdict.TheVariants.{OverTries, OverAction}
use Rattle.mean_ports.proofs.GivenMerges
use Rattle.mean_ports.proofs.Lengths.{known_length, merges_as_long}
use Rattle.mean_ports.proofs.UsingUp.{used_up_runs_explain, explaining_runs_use_up}
use Rattle.mean_ports.proofs.Yielding.{yields_are_port_yields}
use Rattle.mean_ports.specs.HowMany.{HasMany, HasAtMost}
use Rattle.mean_ports.specs.Merges.{IsMerge, AreAllowedLists}
use Rattle.mean_ports.specs.PortRunLaws.{plain_move, plain_place}
use Rattle.mean_ports.specs.PortRuns.{along}
use Rattle.mean_ports.specs.PortTrials.{IsPortTrial, IsFiringTrial, PassesOnTree, PassesIn}
use Rattle.mean_ports.specs.PortsVerdict.{NoneExplains, IsAcceptedMerge}
use Rattle.mean_ports.specs.PortsVerdict.{IsRefusedEverywhere, IsOverSomewhere, IsPortsVerdict}
use Rattle.est_ports.specs.declared.left.Used.{Used}
use Rattle.est_ports.specs.declared.walk.Passed.{Passed}
use Rattle.est_ports.specs.declared.walk.Walk.{Walk}
use Rattle.est_ports.specs.declared.walk.Step.{Step}
use Rattle.est_ports.specs.declared.walk.Step.TheVariants.{Going, Accepting, Over}
use Rattle.est_ports.specs.declared.walk.Step.TheVariants as step
use Rattle.est_ports.specs.inside.Known.{IsPassAhead, IsPassNoted, IsNoted, Knows}
use Rattle.est_ports.specs.inside.Leftover.{MergesFrom, used_of}
use Rattle.est_ports.specs.inside.Standing.{HasFront, of_run, of_start, of_firing}
use Rattle.est_ports.specs.inside.Walk.{Accepts, IsDone, StepIs, BeginsWith, Concludes}
use Rattle.est_ports.specs.inside.Walk.{IsAnswered, Answers}
use Rattle.est_ports.proofs.KnownLaws.{firings_many}

-- LISTS

-- the moves of a run that is read backwards
map_reverse : (xs : List PortMove) → reverse (map plain_move xs) ≡ map plain_move (reverse xs)
map_reverse [] = refl
map_reverse (x ∷ xs) = reverse-append (plain_move x ∷ []) (map plain_move xs)
    ∙ ap (λ w. w ++ plain_move x ∷ []) (map_reverse xs)
    ∙ sym (ap (λ w. map plain_move w) (reverse-append (x ∷ []) xs)
    ∙ map-append plain_move (reverse xs) (x ∷ []))

nil_start : (later start : List PortMove) → [] ≡ later ++ start → start ≡ []
nil_start [] start e = sym e
nil_start (x ∷ later) start e = (let never : ⊥ = cc in absurd never)

none_added : (es rest : List Event) → length (es ++ rest) ≡ length es → rest ≡ []
none_added es [] n = refl
none_added es (e ∷ rest) n =
    let m : length (es ++ e ∷ rest) ≡ length es + length (e ∷ rest) =
    length-append es (e ∷ rest) in
    absurd (omega arith)

-- MERGES

module _ (c : Setup) (lists : PortLists) where
  -- a merge that begins with all events of another one is that one
  whole_merge : (events : List Event) (merge : Recorded) → IsMerge lists (known_trace events)
      → MergesFrom lists events merge → known_trace events ≡ merge
  whole_merge events merge whole m =
      let a = merges_as_long lists (known_trace events) whole in
      let b = merges_as_long lists merge m.is_merge in
      let n = known_length events in
      let k : length merge.events ≡ length (events ++ m.rest) =
      ap (λ (r : Recorded). length r.events) m.merge_is ∙ known_length (events ++ m.rest) in
      let none : m.rest ≡ [] = none_added events m.rest (omega arith) in
      sym (m.merge_is ∙ ap (λ w. known_trace (events ++ w)) none
      ∙ ap known_trace (append-nil events))

  -- what a run has used up it yields of a merge that begins with that
  pub front_yields : (run : List PortMove) (events : List Event) (merge : Recorded)
      → HasFront c lists run events → MergesFrom lists events merge
      → YieldsFirst (along c merge) (map plain_move run) (length events)
  front_yields run events merge (of_run p r is) m =
      GivenMerges.run_yields c merge lists run (length events) p m.rest r
      (let n = ap length is in omega arith)
      (m.merge_is ∙ ap (λ w. known_trace (w ++ m.rest)) is)
  front_yields run events merge (of_start many after within next is) m =
      let size : length events ≡ many = ap length is ∙ length-take-le many c.start_outs within in
      GivenMerges.start_yields c merge lists (length events) m.rest (record {
        many = many;
        after = after;
        within = within;
        next = next;
        enough = omega arith;
      }) (m.merge_is ∙ ap (λ w. known_trace (w ++ m.rest)) is)
  front_yields run events merge
      (of_firing {earlier = earlier} f p next outs many after r step silent within are is) m =
      let size : length events ≡ length p.events + many = ap length is
      ∙ length-append p.events (take many outs)
      ∙ ap (λ w. length p.events + w) (length-take-le many outs within) in
      GivenMerges.firing_yields c merge lists earlier (length events) f p next outs m.rest r step
      silent (record {
        many = many;
        after = after;
        within = within;
        next = are;
        enough = omega arith;
      }) (m.merge_is ∙ ap (λ w. known_trace (w ++ m.rest)) is)

  -- ACCEPTED

  pub accepted : (used : List Used) (moves : List PortMove) (merge : Recorded) (run : List Move)
      → AreAllowedLists c.spec lists → Accepts c lists used moves → BeginsWith lists used merge
      → run ≡ map plain_move moves → IsAcceptedMerge c lists merge run
  accepted used moves merge run allowed a from is =
      let m = from a.place.left a.place.events allowed.many a.uses in
      let x = used_up_runs_explain c lists moves a.place allowed
      (record { is_run = a.is_run; all_used = a.all_used }) in
      let same = whole_merge a.place.events merge x.is_merge m in
      record {
        is_merge = m.is_merge;
        explains = subst (λ (r : Recorded). Explains (along c r) run) same
            (subst (λ w. Explains (along c (known_trace a.place.events)) w) (sym is) x.explains);
      }

  -- NOTHING IS AHEAD

  module _ (tried fired most budget : ℕ) (passed : Option Passed)
      (k : Knows c lists (λ x. ⊥) (λ x. ⊥) tried fired most passed) (le : tried ≤ budget)
      (begun : IsBegun c) (allowed : AreAllowedLists c.spec lists) where
    all_tried : HasAtMost (IsPortTrial c lists) budget
    all_tried =
        let t = k.trials in (
          tried,
          le,
          record {
            found = record {
              runs = t.trials;
              count = t.count;
              distinct = t.distinct;
              each = t.each;
            };
            all = λ x is. elim (t.all x is) [ inl a ↦ a | inr p ↦ absurd p ];
          },
        )

    none_explains : NoneExplains c lists
    none_explains merge run m x =
        let u = explaining_runs_use_up c lists merge run begun allowed m x in
        k.using u.moves (record {
          place = u.place;
          is_run = u.uses_up.is_run;
          all_used = u.uses_up.all_used;
        })

    none_ahead : (run : List PortMove) (o : Option Firing)
        → IsPassAhead (λ x. ⊥) (λ x. ⊥) run o → ⊥
    none_ahead run None a = a
    none_ahead run (Some f) a = a

    none_passes : passed ≡ None → PassesOnTree c lists → ⊥
    none_passes none u =
        let n : (u : PassesOnTree c lists) → IsPassAhead (λ x. ⊥) (λ x. ⊥) u.run u.firing =
        subst (λ o. IsNoted c lists (λ x. ⊥) (λ x. ⊥) o) none k.passes in
        none_ahead u.run u.firing (n u)

    no_more : (other : Recorded) (r : List Move) (j : ℕ) → IsMerge lists other
        → Yields (along c other) r j → j ≤ most
    no_more other r j m y = elim (cases_lt most j) [
      | inr few ↦ few
      | inl lt ↦ elim y [
        | inl a ↦
            (let p = yields_are_port_yields c lists other r j begun allowed m a in
            absurd (k.more p.moves j p.yields lt))
        | inr a ↦ absurd (none_explains other r m a.1)
      ]
    ]

    -- nothing passes its limit
    pub refused : (many : ℕ) (merge : Recorded) (run : List Move) (moves : List PortMove)
        (events : List Event) → passed ≡ None → many ≡ most → run ≡ map plain_move moves
        → HasFront c lists moves events → length events ≡ most → MergesFrom lists events merge
        → IsRefusedEverywhere c lists budget many merge run
    refused many merge run moves events none many_is is front count m =
        let y = front_yields moves events merge front m in
        record {
          size = all_tried;
          none = none_explains;
          within = none_passes none;
          greatest = record {
            is_merge = m.is_merge;
            yields = inl (subst (λ n. YieldsFirst (along c merge) run n) (count ∙ sym many_is)
                (subst (λ r. YieldsFirst (along c merge) r (length events)) (sym is) y));
            no_more = λ other r j is_merge yields. subst (λ n. j ≤ n) (sym many_is)
                (no_more other r j is_merge yields);
          };
        }

    -- this was noted
    over : (p : Passed) (merge : Recorded) (run : List Move) (events : ℕ)
        (firing : Option Firing) → passed ≡ Some p → run ≡ map plain_move (reverse p.run)
        → events ≡ p.events → firing ≡ p.firing → BeginsWith lists (reverse p.used) merge
        → IsOverSomewhere c lists budget merge run events firing
    over p merge run events firing some is many firing_is from =
        let n : IsPassNoted c lists p =
        subst (λ o. IsNoted c lists (λ x. ⊥) (λ x. ⊥) o) some k.passes in
        let m = from n.place.left n.place.events allowed.many n.uses in
        let a = GivenMerges.run_along c merge lists (reverse p.run) n.place m.rest n.is_run
        m.is_merge m.merge_is in
        record {
          size = all_tried;
          none = none_explains;
          is_merge = m.is_merge;
          place = plain_place n.place;
          is_run = subst (λ r. IsBoundedRun (along c merge) r (plain_place n.place)) (sym is)
              a.is_run;
          follows = a.follows;
          count = n.count ∙ sym many;
          passes = subst (λ o. PassesIn c n.place.situation o) (sym firing_is) n.passes;
        }

  best_is : (w : Walk) (d : IsDone c lists w) → d.is_best.run ≡ w.best.tail.items
  best_is w d =
      let k = d.is_best.is_kept in
      k.run_is ∙ ap (λ s. w.best.tail.items ++ s) (nil_start k.starts.0 k.start k.starts.1)
      ∙ append-nil w.best.tail.items

  pub concluded : (w : Walk) (d : IsDone c lists w) (budget : ℕ) → w.tried ≤ budget → IsBegun c
      → AreAllowedLists c.spec lists → (verdict : PortsVerdict) → Concludes lists w verdict
      → IsPortsVerdict c lists budget verdict
  concluded w d budget le begun allowed (Accepted merge run) a = absurd a
  concluded w d budget le begun allowed (OverTries tried) a = absurd a
  concluded w d budget le begun allowed (Refused most merge run) a =
      let b = d.is_best in
      refused w.tried w.fired w.best.yields budget w.passed d.knows le begun allowed most merge
      (reverse run) b.run b.events a.0 a.1
      (a.2 ∙ ap (λ m. map plain_move m) (sym (best_is w d))) b.front b.count
      (a.3 b.left b.events allowed.many b.uses)
  concluded w d budget le begun allowed (OverAction merge run events firing) a =
      over w.tried w.fired w.best.yields budget w.passed d.knows le begun allowed a.0 merge
      (reverse run) events firing a.1 (ap reverse a.2 ∙ map_reverse a.0.run) a.3 a.4 a.5

accepting_by : (c : Setup) (lists : PortLists) (w : Walk) (budget : ℕ) (verdict : PortsVerdict)
    → Accepts c lists (used_of w.rest) (reverse w.path.moves.items)
    → AreAllowedLists c.spec lists → IsAnswered lists w verdict
    → IsPortsVerdict c lists budget verdict
accepting_by c lists w budget (Accepted merge run) s allowed a =
    accepted c lists (used_of w.rest) (reverse w.path.moves.items) merge (reverse run) allowed s a.1
    (ap reverse a.0 ∙ map_reverse w.path.moves.items)
accepting_by c lists w budget (Refused most merge run) s allowed a = absurd a
accepting_by c lists w budget (OverTries tried) s allowed a = absurd a
accepting_by c lists w budget (OverAction merge run events firing) s allowed a = absurd a

-- what the walk answers
pub answered : (c : Setup) (lists : PortLists) (stack : Stack) (w : Walk) (budget : ℕ)
    (step : Step) (verdict : PortsVerdict) → StepIs c lists stack step w → IsBegun c
    → AreAllowedLists c.spec lists → w.tried ≤ budget → (step ≡ Over → w.tried ≡ budget)
    → Answers lists w budget step verdict → IsPortsVerdict c lists budget verdict
answered c lists stack w budget Going verdict s begun allowed le over a = absurd a
answered c lists stack w budget Accepting verdict s begun allowed le over a =
    accepting_by c lists w budget verdict s.0 allowed a
answered c lists stack w budget Over verdict s begun allowed le over a =
    subst (λ v. IsPortsVerdict c lists budget v) (sym a) (
      refl,
      subst (λ n. HasMany (IsPortTrial c lists) (n + 1)) (over refl) s.0,
    )
answered c lists stack w budget step.Done verdict s begun allowed le over a =
    concluded c lists w s budget le begun allowed verdict a

-- so many firings were tried
pub step_many : (c : Setup) (lists : PortLists) (stack : Stack) (step : Step) (w : Walk)
    → StepIs c lists stack step w → HasMany (IsFiringTrial c lists) w.fired
step_many c lists stack Going w s =
    firings_many c lists s.knows.trials.trials w.fired s.knows.trials.firings
step_many c lists stack Accepting w s = s.1
step_many c lists stack Over w s = s.1
step_many c lists stack step.Done w s =
    firings_many c lists s.knows.trials.trials w.fired s.knows.trials.firings

pub if_ok : {T E : Type 0} {P Q : T → Type 0} (r : Result T E) → ((v : T) → P v → Q v) → IfOk r P
    → IfOk r Q
if_ok (Ok v) f p = f v p
if_ok (Err e) f p = p
