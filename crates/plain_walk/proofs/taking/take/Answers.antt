use Rattle.std.proofs.Common.{sym, refl, None}
use Rattle.plain_frames.specs.plain_systems.HeldSystems.{situation_of}
use Rattle.est_plain.specs.plain_guards.plain_clauses.declared.candidate.Candidate.{Candidate}
use Rattle.plain_walk.proofs.TakenItems.{row_missing, transition_missing, transition_there}
use Rattle.plain_walk.proofs.taking.take.Goals as goal

pub returns-in_default : goal.returns-in_default
returns-in_default c =
    let s = situation_of c.args.working.now.system in
    row_missing c.args.limit c.args.behaviour.now s s c.args.firing.now None
    (sym c.in_default.ensures) refl

pub returns-in_default-transition : goal.returns-in_default-transition
returns-in_default-transition c =
    let s = situation_of c.args.working.now.system in
    transition_missing c.args.limit c.args.behaviour.now s s c.args.firing.now None
    c.in-Some.row.now (sym c.in-Some.ensures) c.in_default-transition.ensures refl

pub returns : goal.returns
returns c =
    let candidate : Candidate = record {
      instance = c.args.firing.now.instance;
      state = c.in-Some.row.now.state;
      number = c.args.firing.now.transition;
      transition = c.in-Some-transition.transition;
    } in
    transition_there c.args.limit c.args.behaviour.now
    (situation_of c.args.working.now.system) (situation_of c.take_choice.new.working.system)
    c.args.firing.now c.in_ok-item.item c.text-text.result.now c.in-Some.row.now
    c.in-Some-transition.ensures.0 candidate c.text-text.ensures (sym c.in-Some.ensures)
    c.in-Some-transition.ensures.1 c.in-Some-transition.ensures.2 refl refl refl
    c.in_ok-item.ensures.taken c.in_ok-item.ensures.rows
