use Rattle.std.proofs.Common.{sym, subst}
use Rattle.plain_transitions.specs.FittingTransitions.{AtState, IsNextFitting}
use Rattle.plain_transitions.specs.inside.BodyTables.{AreFitting}
use Rattle.plain_transitions.proofs.fits.Fits.next.Goals as goal

pub returns : goal.returns
returns c =
    let i = c.self.inside in
    let f : AreFitting c.args.self.now i.written.now i.each.now i.named.now i.timed =
    subst (λ (x : AtState). AreFitting x i.written.now i.each.now i.named.now i.timed)
    c.self.view_is c.self.invariant in
    subst (IsNextFitting c.args.self.now.text c.args.self.now.body c.args.self.now.state
    c.args.after) (sym c.smaller.ensures) (f.next c.args.after c.least_above-each.result
    c.least_above.result c.least_above-each.ensures c.least_above.ensures)
