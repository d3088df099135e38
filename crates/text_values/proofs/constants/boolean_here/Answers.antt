use Rattle.text_values.specs.TraceGrammar.{boolean_names}
use Rattle.text_values.proofs.Chosen.{found}
use Rattle.text_values.proofs.constants.boolean_here.Goals as goal

pub returns : goal.returns
returns c = found boolean_names c.args.kind.now c.args.reader.now.tokens.now c.args.reader.now.at
    c.boolean_at.result c.constant_of.result c.boolean_at.ensures c.constant_of.ensures
