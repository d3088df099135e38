use Rattle.std.proofs.Common.{◌≡◌, arith, refl}
use Rattle.call_watch.specs.inside.Recordings.{standing_of}
use Rattle.call_watch.proofs.ReadingLaws.{after_feed, spent_byte}
use Rattle.call_watch.proofs.reading.take_byte.Goals as goal

pub returns-then-byte-eq10-clause-after : goal.returns-then-byte-eq10-clause-after
returns-then-byte-eq10-clause-after g c = λ spec says taken before far.
    let feed : c.args.byte ≡ 10 = omega arith in
    after_feed (standing_of c.close_line.new.reading.recording)
    (g.K.Sink.written c.close_line.new.sink) c.args.byte c.close_line.result feed far
    c.requires.1.1.1.1.1
    (c.close_line.ensures.closed spec says) c.close_line.ensures.next

pub returns-in-Err-clause-after : goal.returns-in-Err-clause-after
returns-in-Err-clause-after g c = λ spec says taken before far short rest.
    spent_byte c.args.byte rest (λ (e : c.args.byte ≡ 10). absurd (omega arith)) far
    c.requires.1.1.1.1.1
    short refl
