use Rattle.std.proofs.Common.{◌≡◌, ◌∙◌, sym, ap, Some}
use Rattle.std.specs.Prelude.{slice_get}
use Rattle.est_ports.specs.inside.Leftover.{Stand}
use Rattle.est_ports.proofs.CursorLaws.{get_below}
use Rattle.est_ports.proofs.StandLaws.{stand_is}
use Rattle.est_ports.proofs.left.Rest.step_at.Goals as goal

pub returns-clause-leads : goal.returns-clause-leads
returns-clause-leads c events t u =
    let list : slice_get c.lists_at-now.result.now c.args.port ≡ Some u.list =
    ap (λ w. slice_get w c.args.port) c.lists_at-now.ensures ∙ u.list_is in
    let moved = c.advance.ensures u.cursor u.list u.cursor_is list
    (get_below u.list u.cursor u.event u.event_is) in
    stand_is t c.args.self.now.phase c.advance.new.cursors.items
    (sym (ap (λ (w : Stand). w.phase) u.leads))
    (moved ∙ sym (ap (λ (w : Stand). w.cursors) u.leads))
