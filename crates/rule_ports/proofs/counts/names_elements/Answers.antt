use Rattle.std.proofs.Common.{◌-◌, arith}
use Rattle.std.proofs.lemmas.Grind.{common_steps}
use Rattle.rule_ports.proofs.CountSteps.{elements_at}
use Rattle.rule_ports.proofs.counts.names_elements.Goals as goal

pub loop-i-preserved : goal.loop-i-preserved
loop-i-preserved c =
    let step = elements_at c.args.outline.now c.args.names.now (c.loop-i.i - 1)
    (c.entry.result.0.now, c.entry.result.1) c.entry.ensures in
    grind (arith, common_steps, step)
