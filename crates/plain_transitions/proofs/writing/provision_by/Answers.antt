use Rattle.std.proofs.Common.{sym}
use Rattle.plain_transitions.specs.WrittenTransitions.{referred}
use Rattle.plain_transitions.specs.inside.HeldClauses.{held, conditions_of}
use Rattle.plain_transitions.proofs.WritingLaws.{provides_condition, provides_otherwise}
use Rattle.plain_transitions.proofs.writing.provision_by.Goals as goal

pub returns-in-Some : goal.returns-in-Some
returns-in-Some c = provides_condition (conditions_of c.args.given.now) (held c.args.context.now)
    c.args.ruling.now c.in-Some.condition.now c.requires (sym c.in-Some.ensures)

pub returns-in_ok-conditions-in-None : goal.returns-in_ok-conditions-in-None
returns-in_ok-conditions-in-None c = provides_otherwise (conditions_of c.args.given.now)
    (held c.args.context.now) c.args.ruling.now
    (referred c.in_ok-conditions-in-None.conditions.items) c.requires (sym c.in-None.ensures)
    c.in_ok-conditions-in-None.ensures
