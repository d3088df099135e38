use Rattle.std.proofs.Common.{sym, subst, ◌∙◌}
use Rattle.plain_transitions.specs.FittingTransitions.{AtState}
use Rattle.plain_transitions.specs.inside.BodyTables.{AreFitting}
use Rattle.plain_transitions.proofs.TableLaws.{untimed_body}
use Rattle.plain_transitions.proofs.fits.Fits.is_timed.Goals as goal

pub returns : goal.returns
returns c =
    let i = c.self.inside in
    let f : AreFitting c.args.self.now i.written.now i.each.now i.named.now i.timed =
    subst (λ (x : AtState). AreFitting x i.written.now i.each.now i.named.now i.timed)
    c.self.view_is c.self.invariant in record {
      timed = f.delays;
      untimed = λ none. untimed_body c.args.self.now.text c.args.self.now.body (sym f.delays ∙ none);
    }
