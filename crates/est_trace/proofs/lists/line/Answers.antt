use Rattle.std.proofs.Common.{◌∙◌, [], ◌∷◌, sym, subst, length, Some}
use Rattle.est_meaning.specs.declared.event.Event.TheVariants.{Passes}
use Rattle.text_reader.specs.Moving.{OneSeen}
use Rattle.text_values.specs.TraceGrammar.{list_starts}
use Rattle.est_trace.specs.inside.GrowingLists.{GrowsBy}
use Rattle.est_trace.specs.inside.ListReading.{named, signals_named, TakesLine}
use Rattle.est_trace.proofs.GrowingLists.{counted}
use Rattle.est_trace.proofs.ListLines.{port_taken, time_taken, event_taken}
use Rattle.est_trace.proofs.lists.line.Goals as goal

pub returns-then-sees_word : goal.returns-then-sees_word
returns-then-sees_word c = port_taken c.args.directory.now.ports.now c.requires.directory.good
    c.port.result c.args.at c.args.found.now c.if-sees_word.ensures c.take_word.ensures
    c.port.ensures

pub returns-then-sees_word-2 : goal.returns-then-sees_word-2
returns-then-sees_word-2 c =
    let ports = c.args.directory.now.ports.now in
    time_taken ports c.if-sees_word-2.ensures c.enter.ensures
    c.take_word-then-sees_word-2.ensures c.number-units.ensures c.end_phase.ensures.still c.args.at
    c.args.found.now c.end_phase.new.self
    (λ w. subst (λ m. GrowsBy m (Passes c.number-units.result ∷ []) c.args.found.now
    c.end_phase.new.self) (c.count.ensures ∙ counted (length ports) c.requires.directory.few)
    (c.end_phase.ensures.grown w))

pub returns : goal.returns
returns c =
    let ports = c.args.directory.now.ports.now in
    let p = c.in-Some.port in
    subst (λ at. TakesLine ports at (Some p) c.args.found.now c.add.new.self c.args.reader.now
    c.add.new.reader) (sym c.in-Some.is)
    (event_taken ports c.if-sees_word.ensures c.if-sees_word-2.ensures p c.port_event-event.result
    c.args.found.now c.add.new.self
    (subst (λ at. OneSeen c.args.reader.now (list_starts (signals_named (named ports at))))
    c.in-Some.is c.requires.seen) c.enter-2.ensures c.port_event-event.ensures
    c.add.ensures.still c.add.ensures.grown)
