use Rattle.std.proofs.Common.{◌≤◌, List, reverse, refl, sym, subst, ◌∙◌, arith}
use Rattle.std.proofs.Math.Logic.{∥∥₁_elim}
use Rattle.std.specs.Coded.{le_prop}
use Rattle.est_meaning.proofs.Endings.{not_true}
use Rattle.est_meaning.specs.AllowedEvents.{most_events}
use Rattle.est_ports.specs.declared.left.Used.{Used}
use Rattle.est_ports.specs.inside.Walk.{BeginsWith}
use Rattle.est_ports.proofs.StartLaws.{most_few, answer_departs, answer_whole, beginning, height_of}
use Rattle.est_ports.proofs.explain.search.Goals as goal

pub overflow_cast-result : goal.overflow_cast-result
overflow_cast-result g c =
    let le : c.in_ok-matched.matched ≤ most_events =
    ∥∥₁_elim (g.met.W.World.spoken c.args.world.now) le_prop (λ s.
    most_few (g.setup s.0) s.0 (g.W.World.limit c.args.world.now) c.args.task.now.silent
    c.args.task.now.lists.now (g.W.World.stack c.args.world.now s.0) c.args.start_outs.now
    (c.requires.1.1 s.0 s.1) c.in_ok-rest.rest c.use_up.new.self c.in_ok-matched.matched
    c.in_ok-matched.ensures.within c.in_ok-rest.ensures.stands c.in_ok-matched.ensures.stands) in
    omega arith

pub returns-then-matched-start_outs-clause-verdict :
    goal.returns-then-matched-start_outs-clause-verdict
returns-then-matched-start_outs-clause-verdict g c spec speaks =
    answer_departs (g.setup spec) spec (g.W.World.limit c.args.world.now) c.args.task.now.silent
    c.args.task.now.lists.now (g.W.World.stack c.args.world.now spec) c.args.start_outs.now
    (c.requires.1.1 spec speaks) c.in_ok-rest.rest c.use_up.new.self c.in_ok-matched.matched
    c.in_ok-matched.ensures.within c.in_ok-rest.ensures.stands c.in_ok-matched.ensures.stands
    c.args.task.now.budget c.in_ok-matched.matched c.in_ok-merge_of.field-0
    c.new-then-matched-start_outs.result c.if-matched-start_outs.true refl
    c.new-then-matched-start_outs.ensures
    (subst (λ (us : List Used). BeginsWith c.args.task.now.lists.now (reverse us)
    c.in_ok-merge_of.field-0) c.deref.ensures.value c.in_ok-merge_of.ensures)

-- the events of the start use the lists up
pub returns-then-is_all_used-clause-verdict : goal.returns-then-is_all_used-clause-verdict
returns-then-is_all_used-clause-verdict g c spec speaks =
    answer_whole (g.setup spec) spec (g.W.World.limit c.args.world.now) c.args.task.now.silent
    c.args.task.now.lists.now (g.W.World.stack c.args.world.now spec) c.args.start_outs.now
    (c.requires.1.1 spec speaks) c.in_ok-rest.rest c.use_up.new.self c.in_ok-matched.matched
    c.in_ok-matched.ensures.within c.in_ok-rest.ensures.stands c.in_ok-matched.ensures.stands
    c.if-matched-start_outs.false c.args.task.now.budget c.in_ok-merge_of-2.field-0
    c.new-then-is_all_used.result
    (λ left events st. (c.is_all_used.ensures left events st).0 c.if-is_all_used.true)
    c.new-then-is_all_used.ensures
    (subst (λ (us : List Used). BeginsWith c.args.task.now.lists.now (reverse us)
    c.in_ok-merge_of-2.field-0) c.deref-then-is_all_used.ensures.value c.in_ok-merge_of-2.ensures)

-- they do not
pub overflow_cast-matched : goal.overflow_cast-matched
overflow_cast-matched g c =
    let le : c.in_ok-matched.matched ≤ most_events =
    ∥∥₁_elim (g.met.W.World.spoken c.args.world.now) le_prop (λ s.
    most_few (g.setup s.0) s.0 (g.W.World.limit c.args.world.now) c.args.task.now.silent
    c.args.task.now.lists.now (g.W.World.stack c.args.world.now s.0) c.args.start_outs.now
    (c.requires.1.1 s.0 s.1) c.in_ok-rest.rest c.use_up.new.self c.in_ok-matched.matched
    c.in_ok-matched.ensures.within c.in_ok-rest.ensures.stands c.in_ok-matched.ensures.stands) in
    omega arith

pub walk_on-requires : goal.walk_on-requires
walk_on-requires g c κs within = (
  within,
  (
    c.requires.1.0,
    λ spec speaks.
        beginning (g.setup spec) spec (g.W.World.limit c.args.world.now) c.args.task.now.silent
        c.args.task.now.lists.now (g.W.World.stack c.args.world.now spec) c.args.start_outs.now
        (c.requires.1.1 spec speaks) c.in_ok-rest.rest c.use_up.new.self c.in_ok-matched.matched
        c.in_ok-matched.ensures.within c.in_ok-rest.ensures.stands c.in_ok-matched.ensures.stands
        c.if-matched-start_outs.false
        (λ left events st all. not_true (sym c.if-is_all_used.false
        ∙ (c.is_all_used.ensures left events st).1 all))
        (height_of c.in_ok-rest.rest c.use_up.new.self c.in_ok-matched.matched
        c.in_ok-matched.ensures.used c.in_ok-rest.ensures.used),
  ),
)
