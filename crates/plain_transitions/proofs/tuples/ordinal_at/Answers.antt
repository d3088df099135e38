use Rattle.std.proofs.Common.{◌∙◌, rules, w32}
use Rattle.std.proofs.lemmas.Int.{to_z-of_z}
use mir.Val.{SFits, to_z, of_z}
use Rattle.plain_transitions.proofs.TupleLaws.{ordinal_found}
use Rattle.plain_transitions.proofs.tuples.ordinal_at.Goals as goal

pub returns : goal.returns
returns c =
    let first = c.first_ordinal.result in
    let last = c.last_ordinal.result in
    let f : SFits w32 first = search rules in
    let g : SFits w32 last = search rules in
    ordinal_found c.args.kind.now c.args.number (to_z w32 (of_z w32 first))
    (to_z w32 (of_z w32 last)) c.ordinal_above.result
    (to_z-of_z w32 first f ∙ c.first_ordinal.ensures)
    (to_z-of_z w32 last g ∙ c.last_ordinal.ensures) c.ordinal_above.ensures
