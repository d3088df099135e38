use Rattle.std.proofs.Common.{◌≡◌}
use mathlib.Core.Logic.{∥∥₁_elim}
use Rattle.call_watch.specs.Answers.{ended}
use Rattle.call_watch.specs.declared.answering.Went.TheVariants.{Ended}
use Rattle.call_watch.specs.inside.Recordings.{standing_of}
use Rattle.call_watch.proofs.ReadingLaws.{Ends, ends_prop, line_ends, counted_ended, closed_ended}
use Rattle.call_watch.proofs.ReadingLaws.{ended_line}
use Rattle.call_watch.proofs.reading.close_line.Goals as goal

pub returns-in-Ok-Ended-clause-closed : goal.returns-in-Ok-Ended-clause-closed
returns-in-Ok-Ended-clause-closed g c = λ spec says.
    let e : c.in-Ok-Ended.field-0 ≡ Ended c.in-Ok-Ended.status = cc in
    let is = c.in-Ok-Ended.ensures.answers spec says in
    let new = standing_of c.answer_line.new.recording in
    closed_ended new (g.K.Sink.written c.args.sink.now) c.in-Ok-Ended.status
    (ended_line new c.deref.ensures.value e is.1) is.2

pub returns-in-Ok-Ended-clause-sink : goal.returns-in-Ok-Ended-clause-sink
returns-in-Ok-Ended-clause-sink g c =
    let e : c.in-Ok-Ended.field-0 ≡ Ended c.in-Ok-Ended.status = cc in
    let is : Ends (ended c.in-Ok-Ended.status) =
    ∥∥₁_elim (g.met.W.World.spoken c.args.reading.now.recording.watcher.world)
    (ends_prop c.in-Ok-Ended.status)
    (λ s. line_ends (ended_line (standing_of c.answer_line.new.recording) c.deref.ensures.value e
    (c.in-Ok-Ended.ensures.answers s.0 s.1).1)) in
    counted_ended c.in-Ok-Ended.status is c.in-Ok-Ended.ensures.sink
