use Rattle.est_trace.proofs.Interactions.{signals_different}
use Rattle.est_trace.proofs.ListItems.{leaving_reads, arriving_reads}
use Rattle.est_trace.proofs.lists.port_event.Goals as goal

pub interaction-requires : goal.interaction-requires
interaction-requires c =
    signals_different c.args.directory.now.ports.now c.requires.good c.args.port.head
    c.signals-signals.result.now c.signals-signals.ensures

pub interaction-requires-2 : goal.interaction-requires-2
interaction-requires-2 c =
    signals_different c.args.directory.now.ports.now c.requires.good c.args.port.head
    c.signals-signals.result.now c.signals-signals.ensures

pub returns-then-sees_word : goal.returns-then-sees_word
returns-then-sees_word c = leaving_reads c.args.directory.now.ports.now c.args.port
    c.signals-signals.result.now c.signals-signals.ensures c.interaction.result
    c.departure.result c.if-sees_word.ensures c.take_word.ensures c.interaction.ensures
    c.departure.ensures

pub returns : goal.returns
returns c = arriving_reads c.args.directory.now.ports.now c.args.port
    c.signals-signals.result.now c.signals-signals.ensures c.interaction-2.result
    c.arrival.result c.if-sees_word.ensures c.take_word-2.ensures c.interaction-2.ensures
    c.arrival.ensures
