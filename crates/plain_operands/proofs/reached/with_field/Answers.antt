use Rattle.std.proofs.Common.{ap}
use Rattle.mean_blocks.specs.ReachedVariables.{Component, with_field}
use Rattle.mean_blocks.proofs.Answering.{answers_by}
use Rattle.plain_operands.specs.ExecutionSites.{view_of}
use Rattle.plain_operands.specs.HeldVariables.{reached_of, reached_in}
use Rattle.plain_operands.specs.declared.reached.Reached.{Reached}
use Rattle.plain_operands.proofs.reached.with_field.Goals as goal

pub returns-in-Component : goal.returns-in-Component
returns-in-Component c = λ n.
    let v = view_of c.args.site.now c.args.working.now in
    let used = c.args.used.now in
    answers_by (with_field v used (Component c.in-Component.place c.in-Component.kind.now) n)
    (with_field v used (reached_of c.args.reached) n) (reached_in c.field.result) n
    (ap (λ (r : Reached). with_field v used (reached_of r) n) c.in-Component.is)
    (c.field.ensures v n)
