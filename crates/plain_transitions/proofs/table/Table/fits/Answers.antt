use Rattle.std.proofs.Common.{sym, subst}
use Rattle.est_meaning.specs.mean_blocks.TextByPlace.{Text}
use Rattle.plain_transitions.specs.FittingTransitions.{AtState}
use Rattle.plain_transitions.specs.inside.BodyTables.{AreFitting, naming}
use Rattle.plain_transitions.proofs.TableLaws.{at_state}
use Rattle.plain_transitions.proofs.table.Table.fits.Goals as goal

pub invariant_of-result : goal.invariant_of-result
invariant_of-result c =
    let i = c.self.inside in
    let t : Text = record { spec = i.spec.now; outline = i.outline.now } in
    let x : AtState = record { text = t; body = i.place; state = c.args.state } in
    let named = naming i.fitting c.args.state in
    subst (λ n. AreFitting x c.as_slice.result.now c.as_slice-2.result.now n i.timed)
    (sym c.naming.ensures)
    (subst (λ e. AreFitting x c.as_slice.result.now e named i.timed) (sym c.as_slice-2.ensures)
    (subst (λ w. AreFitting x w i.fitting.each named i.timed) (sym c.as_slice.ensures.value)
    (at_state (record { text = t; place = i.place }) i.written.items i.fitting i.timed
    c.self.invariant c.args.state)))
