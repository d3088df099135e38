-- The steps of a walk that try a firing, as the code asks for them.
use Rattle.std.proofs.Common.{◌≡◌, ℕ, ◌+◌, ◌≤◌, List, ◌∷◌, Some}
use Rattle.std.proofs.Common.{Result, Ok, Err, OnErr, refl, sym, ap, subst, ◌∙◌, arith}
use Rattle.std.specs.Option.{option_or}
use Rattle.est_syntax.specs.declared.specification.Spec.{Spec}
use Rattle.est_meaning.proofs.StackLaws.{done, faulted, limited, limit_done, fault_done, fired_done}
use Rattle.est_meaning.proofs.StackLaws.{fired_fault, fired_limit}
use Rattle.est_meaning.specs.FiringSteps.{outcome}
use Rattle.est_meaning.specs.Run.{Setup}
use Rattle.est_meaning.specs.SituationStacks.{Stack, FiredAs}
use Rattle.est_meaning.specs.TransitionSelection.{IsPossible}
use Rattle.est_meaning.specs.declared.answers.Fired.TheVariants as fired
use Rattle.est_meaning.specs.declared.event.Event.{Event}
use Rattle.est_meaning.specs.declared.firing.Firing.{Firing}
use Rattle.est_meaning.specs.mean_blocks.GlobalSituation.{Situation}
use Rattle.est_meaning.specs.mean_blocks.Outcome.{Outcome}
use Rattle.est_meaning.specs.mean_blocks.TextByPlace.{text_of}
use Rattle.est_meaning.specs.mean_blocks.declared.fault.BlockFault.{BlockFault}
use Rattle.mean_ports.specs.declared.lists.PortLists.{PortLists}
use Rattle.mean_ports.specs.declared.moves.PortMove.{PortMove}
use Rattle.mean_ports.specs.declared.moves.PortMove.TheVariants.{Fire}
use Rattle.mean_ports.specs.HowMany.{HasMany}
use Rattle.mean_ports.specs.PortRuns.{PortPlace, IsPortRun}
use Rattle.mean_ports.specs.PortTrials.{IsFiringTrial}
use Rattle.mean_ports.specs.PortYields.{PortYields}
use Rattle.run_paths.specs.Paths.{View, view_of, IsNext}
use Rattle.est_ports.specs.declared.walk.Passed.{Passed}
use Rattle.est_ports.specs.declared.walk.Walk.{Walk}
use Rattle.est_ports.specs.inside.Known.{IsPassNoted}
use Rattle.est_ports.specs.inside.Walk.{IsOnWay, IsWalk, IsTrying, IsFired}
use Rattle.est_ports.proofs.CallLaws.{on_way_by}
use Rattle.est_ports.proofs.PortTree.{IsOnTree}
use Rattle.est_ports.proofs.StepLaws.{after_next, many_fired, off_quiet, off_noted}
use Rattle.est_ports.proofs.TakeCalls.{at, defined_at}
use Rattle.est_ports.proofs.YieldLaws.{fired_there, firing_few, block_passes}

pub on_err : {T E P : Type 0} (r : Result T E) → P → OnErr r P
on_err (Ok v) p = tt
on_err (Err e) p = p

-- a block that faults does not pass its limit
fault_limit : (fault : BlockFault) → faulted fault ≡ limited → ⊥
fault_limit fault e = cc

-- IT IS NOT DONE

module _ (c : Setup) (spec : Spec) (limit silent : ℕ) (lists : PortLists) (stack : Stack)
    (w : Walk) (f : Firing) (t : IsTrying c spec limit silent lists stack w (Fire f)) where
  abbrev here : PortPlace
  here = at c spec limit silent lists stack w (Fire f) t

  possible_there : IsPossible c.limit (text_of c.spec) stack.now f
  possible_there = defined_at c spec limit silent lists stack w (Fire f) t

  pub possible_call : IsPossible limit (text_of spec) stack.now f
  possible_call = subst (λ l. IsPossible l (text_of spec) stack.now f) t.suits.limit_is
      (subst (λ x. IsPossible c.limit (text_of x) stack.now f) t.suits.spec_is possible_there)

  pub many_trying : HasMany (IsFiringTrial c lists) (w.fired + 1)
  many_trying = many_fired c lists stack t.before w.rest t.tried w.fired w.best w.best_used w.passed
      t.on_way (Fire f) (view_of w.path) t.next (w.fired + 1) refl

  outcome_there : (o : Outcome Situation (List Event))
      → outcome limit (text_of spec) stack.now f ≡ o
      → outcome c.limit (text_of c.spec) stack.now f ≡ o
  outcome_there o is =
      ap (λ l. outcome l (text_of c.spec) stack.now f) t.suits.limit_is
      ∙ ap (λ x. outcome limit (text_of x) stack.now f) t.suits.spec_is ∙ is

  -- it comes to something else than the end of its block
  module _ (o : Outcome Situation (List Event))
      (is : outcome c.limit (text_of c.spec) stack.now f ≡ o)
      (never : (s : Situation) (outs : List Event) → o ≡ done outs s → ⊥) where
    off_tree : IsOnTree c lists (Fire f ∷ t.before.moves) → ⊥
    off_tree on =
        let r = fired_there c lists t.before.moves f here t.on_way.at.node.is_run on in
        never r.situation r.outs (sym is ∙ r.step.done)

    none_yielded : (j : ℕ) → PortYields c lists (Fire f ∷ t.before.moves) j → j ≤ w.best.yields
    none_yielded = firing_few c lists t.before.moves f here t.on_way.at.node.is_run w.best.yields
        (λ q r. absurd (off_tree (q, r)))
        (λ s outs step silent n after le a. absurd (never s outs (sym is ∙ step.done)))

  -- the walk with one block more fired
  pub fault_call : (fault : BlockFault) (events : List Event) (stack' : Stack) (new : Walk)
      → FiredAs (outcome limit (text_of spec) stack.now f) (fired.Fault fault) events stack stack'
      → new.path ≡ w.path → new.rest ≡ w.rest → new.tried ≡ w.tried → new.fired ≡ w.fired + 1
      → new.best ≡ w.best → new.best_used ≡ w.best_used → new.passed ≡ w.passed
      → IsWalk c lists stack' new
  fault_call fault events stack' new is path rest tried fires best bu passed =
      let a = fired_fault (outcome limit (text_of spec) stack.now f) fault events stack stack' is in
      let o = outcome_there (faulted fault) a.0 in
      let never = λ (s : Situation) (outs : List Event). fault_done fault s outs in
      on_way_by c lists stack stack' new
      (after_next c lists stack t.before w.rest t.tried w.fired w.best w.best_used w.passed t.on_way
      (Fire f) (view_of w.path) t.next) w.rest (t.tried + 1) (w.fired + 1) w.best w.best_used
      w.passed a.1 (ap view_of path ∙ t.next.next_is) rest (tried ∙ t.counted) fires best bu passed
      (off_quiet c lists stack t.before w.rest t.tried w.fired w.best w.best_used w.passed t.on_way
      (Fire f) (view_of w.path) t.next (off_tree (faulted fault) o never) w.rest (w.fired + 1)
      w.best w.best_used refl t.on_way.at.stands refl (omega arith)
      (none_yielded (faulted fault) o never) t.on_way.is_best
      (block_passes c lists t.before.moves f here t.on_way.at.node.is_run
      (λ l. fault_limit fault (sym o ∙ l))))

  -- that it passes its limit is noted where nothing was
  abbrev NoteOf : Passed
  NoteOf = record {
    run = w.path.moves.items;
    used = w.rest.used.items;
    events = w.path.top.matched;
    firing = Some f;
  }

  moves_same : (view_of w.path).moves ≡ t.before.moves
  moves_same = ap (λ (x : View PortMove PortMove). x.moves) t.next.next_is

  note_is : outcome c.limit (text_of c.spec) stack.now f ≡ limited → IsPassNoted c lists NoteOf
  note_is o = record {
    place = here;
    is_run = subst (λ h. IsPortRun c lists h here) (sym moves_same) t.on_way.at.node.is_run;
    uses = t.on_way.at.node.uses;
    count = t.on_way.at.node.count
        ∙ sym (ap (λ (x : View PortMove PortMove). x.top.matched) t.next.next_is);
    passes = (possible_there, o);
  }

  pub limit_call : (events : List Event) (stack' : Stack) (new : Walk)
      → FiredAs (outcome limit (text_of spec) stack.now f) fired.Limit events stack stack'
      → new.path ≡ w.path → new.rest ≡ w.rest → new.tried ≡ w.tried → new.fired ≡ w.fired + 1
      → new.best ≡ w.best → new.best_used ≡ w.best_used
      → new.passed ≡ option_or w.passed (Some NoteOf) → IsWalk c lists stack' new
  limit_call events stack' new is path rest tried fires best bu passed =
      let a = fired_limit (outcome limit (text_of spec) stack.now f) events stack stack' is in
      let o = outcome_there limited a.0 in
      let never = λ (s : Situation) (outs : List Event). limit_done s outs in
      on_way_by c lists stack stack' new
      (after_next c lists stack t.before w.rest t.tried w.fired w.best w.best_used w.passed t.on_way
      (Fire f) (view_of w.path) t.next) w.rest (t.tried + 1) (w.fired + 1) w.best w.best_used
      (option_or w.passed (Some NoteOf)) a.1 (ap view_of path ∙ t.next.next_is) rest
      (tried ∙ t.counted) fires best bu passed
      (off_noted c lists stack t.before w.rest t.tried w.fired w.best w.best_used w.passed t.on_way
      (Fire f) (view_of w.path) t.next (off_tree limited o never) w.rest (w.fired + 1)
      w.best w.best_used NoteOf refl t.on_way.at.stands refl (omega arith)
      (none_yielded limited o never) t.on_way.is_best (note_is o))

  -- it is done
  pub fired_call : (stack' : Stack) (new : Walk)
      → FiredAs (outcome limit (text_of spec) stack.now f) fired.Done new.outs.items stack stack'
      → new.path ≡ w.path → new.rest ≡ w.rest → new.tried ≡ w.tried → new.fired ≡ w.fired + 1
      → new.best ≡ w.best → new.best_used ≡ w.best_used → new.passed ≡ w.passed
      → (limit' : ℕ) → limit' ≡ limit → IsFired c spec limit' silent lists stack' new f
  fired_call stack' new is path rest tried fires best bu passed limit' same =
      let a = fired_done (outcome limit (text_of spec) stack.now f) new.outs.items stack stack' is
      in
      record {
        suits = record {
          spec_is = t.suits.spec_is;
          limit_is = t.suits.limit_is ∙ sym same;
          silent_is = t.suits.silent_is;
          begun = t.suits.begun;
          allowed = t.suits.allowed;
        };
        before = t.before;
        tried = t.tried;
        fired = w.fired;
        earlier = stack;
        situation = a.0;
        next = subst (λ p. IsNext t.before (Fire f) p) (ap view_of (sym path)) t.next;
        counted = tried ∙ t.counted;
        fired_is = fires;
        on_way =
            subst (λ r. IsOnWay c lists stack t.before r t.tried w.fired new.best new.best_used
            new.passed) (sym rest)
            (subst (λ b. IsOnWay c lists stack t.before w.rest t.tried w.fired b new.best_used
            new.passed) (sym best)
            (subst (λ u. IsOnWay c lists stack t.before w.rest t.tried w.fired w.best u new.passed)
            (sym bu)
            (subst (λ o. IsOnWay c lists stack t.before w.rest t.tried w.fired w.best w.best_used o)
            (sym passed) t.on_way)));
        done = outcome_there (done new.outs.items a.0) a.1;
        stack_is = a.2;
      }
