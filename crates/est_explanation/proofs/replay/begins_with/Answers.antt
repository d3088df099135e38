use Rattle.std.proofs.Common.{refl, sym, ◌∙◌, arith}
use Rattle.est_meaning.proofs.AgreementLaws.{agree_more}
use Rattle.est_meaning.proofs.Endings.{not_true}
use Rattle.est_explanation.proofs.Events.{begins_whole, no_longer, no_difference}
use Rattle.est_explanation.proofs.replay.begins_with.Goals as goal

pub returns-then-events-trace : goal.returns-then-events-trace
returns-then-events-trace c = (
  λ e. absurd (not_true e),
  λ p. absurd (no_longer c.args.trace.now c.args.events.now c.if-events-trace.true p),
)

pub returns-then-not-agrees : goal.returns-then-not-agrees
returns-then-not-agrees c = (
  λ e. absurd (not_true e),
  λ p. absurd (no_difference c.args.trace.now c.args.events.now c.loop-index.index
      c.index-trace-index.result c.index-events-index.result c.loop-index-test.true
      (sym c.index-trace-index.is) (sym c.index-events-index.is)
      (λ a. not_true (sym c.if-not-agrees.true ∙ c.agrees.ensures.1 a)) p),
)

pub loop-index-preserved : goal.loop-index-preserved
loop-index-preserved c =
    let short = c.if-events-trace.false in
    let more = c.loop-index-test.true in
    agree_more c.args.trace.now c.args.events.now c.loop-index.index c.index-trace-index.result
    c.index-events-index.result (omega arith) (omega arith) (sym c.index-trace-index.is)
    (sym c.index-events-index.is) c.loop-index.invariant
    (c.agrees.ensures.0 c.if-not-agrees.false)

pub returns : goal.returns
returns c = (
  λ _. begins_whole c.args.trace.now c.args.events.now c.loop-index.index c.loop-index-test.false
      c.loop-index.invariant,
  λ _. refl,
)
