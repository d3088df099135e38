use Rattle.std.proofs.Common.{rules, ◌∙◌, w32}
use Rattle.std.proofs.lemmas.Int.{to_z-of_z}
use mir.Val.{SFits}
use Rattle.text_values.specs.TraceGrammar.{boolean_names}
use Rattle.text_reader.proofs.Steps.{still_here}
use Rattle.text_values.proofs.Chosen.{constant_read}
use Rattle.text_values.proofs.constants.boolean.Goals as goal

pub returns : goal.returns
returns c =
    let fits : SFits w32 c.unwrap_or.result = search rules in
    constant_read boolean_names c.args.kind.now c.boolean_here-found.result c.is_some.result _
    still_here (λ w. c.boolean_here-found.ensures) c.is_some.ensures
    c.step.ensures (to_z-of_z w32 c.unwrap_or.result fits ∙ c.unwrap_or.ensures)
