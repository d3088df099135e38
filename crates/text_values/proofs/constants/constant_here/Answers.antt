use Rattle.text_values.specs.TraceGrammar.{bytes_of}
use Rattle.text_values.proofs.Chosen.{found}
use Rattle.text_values.proofs.constants.constant_here.Goals as goal

pub returns : goal.returns
returns c = found (bytes_of c.args.names.now) c.args.kind.now c.args.reader.now.tokens.now
    c.args.reader.now.at c.position_of.result c.constant_of.result c.position_of.ensures
    c.constant_of.ensures
