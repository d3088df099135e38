use Rattle.std.proofs.Common.{◌+◌, ◌-◌, refl, sym, subst, ◌∙◌, arith}
use Rattle.est_meaning.specs.Trials.{IsTrial, HasMany}
use Rattle.est_meaning.proofs.Endings.{not_true}
use Rattle.est_search.specs.Verdict.{IsWithinTried}
use Rattle.est_search.specs.inside.Agreement.{AgreeFor}
use Rattle.est_search.proofs.StartLaws.{answer_departs, answer_whole, whole_tried, beginning}
use Rattle.est_search.proofs.StartLaws.{none_fired}
use Rattle.est_search.proofs.VerdictLaws.{if_ok}
use Rattle.est_search.proofs.explain.search.Goals as goal

pub returns-then-matched-start_outs-clause-verdict :
    goal.returns-then-matched-start_outs-clause-verdict
returns-then-matched-start_outs-clause-verdict g c spec speaks = answer_departs (g.setup spec) spec
    (g.W.World.limit c.args.world.now) c.args.task.now.silent c.args.task.now.trace.now
    (g.W.World.stack c.args.world.now spec) c.args.start_outs.now (c.requires.1.1.1 spec speaks)
    c.agreed-matched.result
    (subst (λ es. AgreeFor es 0 c.args.start_outs.now c.agreed-matched.result)
    (c.as_slice-trace.ensures ∙ c.events.ensures) c.agreed-matched.ensures)
    c.args.task.now.budget (c.agreed-matched.result + 1) c.new.result
    c.if-matched-start_outs.true refl c.new.ensures

pub returns-in_err-whole-clause-size : goal.returns-in_err-whole-clause-size
returns-in_err-whole-clause-size g c spec speaks =
    let w = g.W.World in
    none_fired (IsTrial (g.setup spec)) (w.fired c.ends_at.new.world)
    (w.fired c.args.world.now) c.in_err-whole.ensures.fired

-- the trace ends at the start
pub returns-then-whole-clause-size : goal.returns-then-whole-clause-size
returns-then-whole-clause-size g c spec speaks =
    let w = g.W.World in
    none_fired (IsTrial (g.setup spec)) (w.fired c.ends_at.new.world)
    (w.fired c.args.world.now) c.in_ok-whole.ensures.fired

pub returns-then-whole-clause-verdict : goal.returns-then-whole-clause-verdict
returns-then-whole-clause-verdict g c spec speaks =
    let w = g.W.World in
    answer_whole (g.setup spec) spec (w.limit c.args.world.now) c.args.task.now.silent
    c.args.task.now.trace.now (w.stack c.args.world.now spec) c.args.start_outs.now
    (c.requires.1.1.1 spec speaks) c.agreed-matched.result
    (subst (λ es. AgreeFor es 0 c.args.start_outs.now c.agreed-matched.result)
    (c.as_slice-trace.ensures ∙ c.events.ensures) c.agreed-matched.ensures)
    c.if-matched-start_outs.false ((c.in_ok-whole.ensures.ends spec speaks).0 c.if-whole.true)
    c.new-then-whole.result c.new-then-whole.ensures c.args.task.now.budget

pub returns-then-whole-clause-tried : goal.returns-then-whole-clause-tried
returns-then-whole-clause-tried g c spec speaks =
    let w = g.W.World in
    whole_tried (g.setup spec) spec (w.limit c.args.world.now) c.args.task.now.silent
    c.args.task.now.trace.now (w.stack c.args.world.now spec) c.args.start_outs.now
    (c.requires.1.1.1 spec speaks) c.agreed-matched.result
    (subst (λ es. AgreeFor es 0 c.args.start_outs.now c.agreed-matched.result)
    (c.as_slice-trace.ensures ∙ c.events.ensures) c.agreed-matched.ensures)
    c.if-matched-start_outs.false ((c.in_ok-whole.ensures.ends spec speaks).0 c.if-whole.true)
    c.new-then-whole.result c.new-then-whole.ensures
    (w.fired c.ends_at.new.world - w.fired c.args.world.now)
    (let same = c.in_ok-whole.ensures.fired in omega arith)

-- it does not
pub search_on-requires : goal.search_on-requires
search_on-requires g c κs within =
    let fired = c.in_ok-whole.ensures.fired in
    let room = c.requires.1.0 in (
      within,
      (
        omega arith,
        (
          c.requires.1.1.0,
          λ spec speaks. (
              let w = g.W.World in
              let keeps = c.in_ok-whole.ensures.keeps in
              let here = keeps.backward spec speaks in
              let ends = c.in_ok-whole.ensures.ends spec here in
              beginning (g.setup spec) spec (w.limit c.args.world.now) c.args.task.now.silent
              c.args.task.now.trace.now (w.stack c.args.world.now spec) c.args.start_outs.now
              (c.requires.1.1.1 spec here) c.agreed-matched.result
              (subst (λ es. AgreeFor es 0 c.args.start_outs.now c.agreed-matched.result)
              (c.as_slice-trace.ensures ∙ c.events.ensures) c.agreed-matched.ensures)
              c.if-matched-start_outs.false (λ end. not_true (sym c.if-whole.false ∙ ends.1 end))
              (w.limit c.ends_at.new.world) (w.stack c.ends_at.new.world spec) keeps.limit_is
              (c.in_ok-whole.ensures.stack spec here)),
        ),
      ),
    )

pub returns-clause-stack : goal.returns-clause-stack
returns-clause-stack g c spec speaks =
    c.search_on.ensures.stack spec (c.in_ok-whole.ensures.keeps.forward spec speaks)
    ∙ c.in_ok-whole.ensures.stack spec speaks

pub returns-clause-size : goal.returns-clause-size
returns-clause-size g c spec speaks =
    let w = g.W.World in
    subst (λ n. HasMany (IsTrial (g.setup spec)) (w.fired c.search_on.new.world - n))
    c.in_ok-whole.ensures.fired
    (c.search_on.ensures.size spec (c.in_ok-whole.ensures.keeps.forward spec speaks))

pub returns-clause-verdict : goal.returns-clause-verdict
returns-clause-verdict g c = if_ok c.search_on.result
    (λ verdict h spec speaks. h spec (c.in_ok-whole.ensures.keeps.forward spec speaks))
    c.search_on.ensures.verdict

pub returns-clause-tried : goal.returns-clause-tried
returns-clause-tried g c =
    let w = g.W.World in
    if_ok c.search_on.result (λ verdict h spec speaks.
    subst (λ n. IsWithinTried (g.setup spec) verdict (w.fired c.search_on.new.world - n))
    c.in_ok-whole.ensures.fired (h spec (c.in_ok-whole.ensures.keeps.forward spec speaks)))
    c.search_on.ensures.tried
