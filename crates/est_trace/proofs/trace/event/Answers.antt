use Rattle.std.proofs.Common.{refl}
use Rattle.est_trace.proofs.OneEvent.{time_reads, arrival_reads, departure_reads}
use Rattle.est_trace.proofs.trace.event.Goals as goal

pub returns-then-sees_word : goal.returns-then-sees_word
returns-then-sees_word c = arrival_reads c.args.format c.args.directory.now.ports.now
    c.port_signal.result c.if-sees_word.ensures c.take_word.ensures c.port_signal.ensures

pub returns-then-sees_word-2 : goal.returns-then-sees_word-2
returns-then-sees_word-2 c = departure_reads c.args.format c.args.directory.now.ports.now
    c.port_signal-then-sees_word-2.result c.if-sees_word-2.ensures
    c.take_word-then-sees_word-2.ensures c.port_signal-then-sees_word-2.ensures

pub returns : goal.returns
returns c = time_reads c.args.format c.args.directory.now.ports.now _ refl
    (c.if-sees_word.ensures, (c.if-sees_word-2.ensures, tt)) c.take_word-2.ensures
    c.number.ensures
