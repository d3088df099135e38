use Rattle.std.proofs.Common.{subst}
use Rattle.std.specs.Option.{IsSomeAnd}
use Rattle.text_values.specs.TraceGrammar as grammar
use Rattle.text_values.specs.ValueReading.{Reads}
use Rattle.est_trace.specs.TraceShapes.{ShowsBrackets}
use Rattle.est_trace.proofs.Interactions.{passing_reads}
use Rattle.est_trace.proofs.interaction.port_signal.Goals as goal

pub returns : goal.returns
returns c =
    let k = c.element-port.result in
    let m = c.signal-signal.result in
    let d = c.args.direction in
    let f = c.args.format in
    let r = c.brackets.result in
    passing_reads d c.args.directory.now.ports.now c.requires.good f k m c.head-head.result r
    c.signals-signals.result.now c.signals-signals.ensures c.head-head.ensures
    c.element-port.ensures c.symbol.ensures c.signal-signal.ensures
    (subst (λ ks. Reads (grammar.brackets d f ks)
    (λ t. IsSomeAnd r (λ x. ShowsBrackets d f k m x ks t)) c.signal-signal.new.reader
    c.brackets.new.reader) c.parameters_at.ensures c.brackets.ensures)
