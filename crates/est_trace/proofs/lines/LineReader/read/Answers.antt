use Rattle.std.proofs.Common.{subst}
use Rattle.est_lexer.specs.Offsets.{text_of, tokens_of}
use Rattle.est_trace.specs.LineText.{ReadsLine}
use Rattle.est_trace.proofs.AtPorts.{allowed_events}
use Rattle.est_trace.proofs.lines.LineReader.read.Goals as goal

pub returns-clause-reads : goal.returns-clause-reads
returns-clause-reads g c = subst (λ ports. ReadsLine c.args.most ports (text_of c.args.tokens.now)
    (tokens_of c.args.tokens.now) c.read_line.result) c.requires.0.ports
    c.read_line.ensures.reads

pub returns-clause-allowed : goal.returns-clause-allowed
returns-clause-allowed g c = allowed_events g.spec c.args.self.now.directory.ports.now
    c.read_line.result c.requires.0.ports c.read_line.ensures.at_ports
