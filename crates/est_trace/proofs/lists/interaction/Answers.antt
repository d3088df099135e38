use Rattle.std.proofs.Common.{subst}
use Rattle.std.specs.Option.{IsSomeAnd}
use Rattle.text_values.specs.TraceGrammar.{parameters}
use Rattle.text_values.specs.ValueReading.{Reads}
use Rattle.text_values.specs.ValueShapes.{AreBracketed, ShowsValue}
use Rattle.est_trace.proofs.ListItems.{interaction_reads}
use Rattle.est_trace.proofs.lists.interaction.Goals as goal

pub returns : goal.returns
returns c = interaction_reads c.args.direction c.args.signals.now c.args.port
    c.signal-signal.result c.values-values.result c.valued.result c.requires
    c.signal-signal.ensures
    (subst (λ ks. Reads (parameters ks) (λ t. IsSomeAnd c.values-values.result
    (λ vs. AreBracketed ShowsValue ks vs t)) c.signal-signal.new.reader
    c.values-values.new.reader) c.parameters_at.ensures c.values-values.ensures) c.valued.ensures
