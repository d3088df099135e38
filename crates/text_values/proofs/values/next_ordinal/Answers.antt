use Rattle.std.proofs.Common.{rules, w32}
use Rattle.std.proofs.lemmas.Int.{to_z-of_z}
use mir.Val.{SFits}
use Rattle.text_values.specs.TraceGrammar as grammar
use Rattle.text_values.specs.ValueShapes.{ShowsOrdinal}
use Rattle.text_values.proofs.Groups.{next_read}
use Rattle.text_values.proofs.values.next_ordinal.Goals as goal

pub returns : goal.returns
returns c =
    let fits : SFits w32 c.ordinal-next.result = search rules in
    next_read (grammar.ordinal c.args.kind.now) (ShowsOrdinal c.args.kind.now) c.args.before _
    c.ordinal-next.result (to_z-of_z w32 c.ordinal-next.result fits) c.comma.ensures
    c.ordinal-next.ensures c.keep.ensures
