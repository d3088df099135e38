use Rattle.std.proofs.Common.{sym}
use Rattle.plain_transitions.specs.inside.HeldClauses.{held, conditions_of}
use Rattle.plain_transitions.proofs.WritingLaws.{provides_always}
use Rattle.plain_transitions.proofs.writing.provision.Goals as goal

pub returns-in-None : goal.returns-in-None
returns-in-None c = provides_always (conditions_of c.args.given.now) (held c.args.context.now)
    (sym c.in-None.ensures)
