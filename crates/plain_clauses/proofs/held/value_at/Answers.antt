use Rattle.std.proofs.Common.{sym, ap, ◌∙◌}
use Rattle.est_meaning.specs.mean_blocks.Frames.{found}
use Rattle.plain_clauses.proofs.held.value_at.Goals as goal

pub returns-in-Some : goal.returns-in-Some
returns-in-Some c = c.value_in_slot.ensures c.args.instance c.args.declared c.in-Some.field-0-0
    (sym (ap (found c.args.declared) c.as_slice.ensures) ∙ sym c.in-Some.ensures)
