use Rattle.std.proofs.Common.{rules, ◌∙◌, w32}
use Rattle.std.proofs.lemmas.Int.{to_z-of_z}
use mir.Val.{SFits}
use Rattle.text_values.specs.TraceGrammar.{bytes_of}
use Rattle.text_reader.proofs.Steps.{still_here}
use Rattle.text_values.proofs.Chosen.{constant_read}
use Rattle.text_values.proofs.constants.constant.Goals as goal

pub returns : goal.returns
returns c =
    let fits : SFits w32 c.unwrap_or.result = search rules in
    constant_read (bytes_of c.args.names.now) c.args.kind.now c.constant_here-found.result c.is_some.result _
    still_here (λ w. c.constant_here-found.ensures) c.is_some.ensures
    c.step.ensures (to_z-of_z w32 c.unwrap_or.result fits ∙ c.unwrap_or.ensures)
