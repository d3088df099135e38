use Rattle.run_make.specs.Words.{stream_at}
use Rattle.run_make.proofs.Drawing.{values_none, one_value}
use Rattle.run_make.proofs.values.draw_values.Goals as goal

pub loop-kind-init : goal.loop-kind-init
loop-kind-init c =
    values_none (stream_at c.args.rng.now) c.in_ok-values.values c.in_ok-values.ensures

pub loop-kind-preserved : goal.loop-kind-preserved
loop-kind-preserved c =
    one_value c.args.kinds.now c.as_slice-kind-items.result.now c.loop-kind.kind-index
    c.kind-item.result
    (stream_at c.args.rng.now) (stream_at c.loop-kind.rng) (stream_at c.draw_value.new.rng)
    c.loop-kind.values c.push.new.self c.in_ok-value.value c.as_slice-kind-items.ensures
    c.loop-kind-test.true c.kind-item.is
    c.loop-kind.invariant c.in_ok-value.ensures c.in_ok-push.ensures.ok
