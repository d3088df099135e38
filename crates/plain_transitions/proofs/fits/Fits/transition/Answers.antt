use Rattle.std.proofs.Common.{subst}
use Rattle.plain_transitions.specs.FittingTransitions.{AtState}
use Rattle.plain_transitions.specs.inside.BodyTables.{AreFitting}
use Rattle.plain_transitions.proofs.TableLaws.{held_at}
use Rattle.plain_transitions.proofs.fits.Fits.transition.Goals as goal

pub returns : goal.returns
returns c =
    let i = c.self.inside in
    let f : AreFitting c.args.self.now i.written.now i.each.now i.named.now i.timed =
    subst (λ (x : AtState). AreFitting x i.written.now i.each.now i.named.now i.timed)
    c.self.view_is c.self.invariant in
    held_at c.args.self.now.text c.args.self.now.body i.written.now f.written c.args.number
    c.item_at.result c.if-number-eq0.false c.item_at.ensures
