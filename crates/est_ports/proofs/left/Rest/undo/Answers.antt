use Rattle.std.proofs.Common.{refl, subst}
use Rattle.est_ports.specs.declared.left.Rest.{Rest}
use Rattle.est_ports.specs.inside.Leftover.{Uses, stand_of}
use Rattle.est_ports.proofs.BackLaws.{undone_at}
use Rattle.est_ports.proofs.left.Rest.undo.Goals as goal

pub returns-in-At-clause-leads : goal.returns-in-At-clause-leads
returns-in-At-clause-leads c s events u =
    let old = c.args.self.now in
    let new : Rest = record { phase = old.phase; cursors = c.retreat.new.cursors; used = old.used }
    in
    undone_at c.args.lists.now old new c.in-At.port refl c.retreat.ensures s events
    (subst (λ w. Uses c.args.lists.now s w (stand_of old events)) c.in-At.is u)
