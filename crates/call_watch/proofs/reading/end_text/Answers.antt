use Rattle.std.proofs.Common.{◌≡◌, length, ap, arith}
use Rattle.std.proofs.lemmas.Grind.{common_steps}
use Rattle.call_watch.specs.inside.Recordings.{standing_of}
use Rattle.call_watch.proofs.ReadingLaws.{all_answered-none, stops_at_end, goes_after, ends_after}
use Rattle.call_watch.proofs.ReadingLaws.{nothing_in}
use Rattle.call_watch.proofs.reading.end_text.Goals as goal

pub returns-then-is_empty-clause-stops : goal.returns-then-is_empty-clause-stops
returns-then-is_empty-clause-stops g c = λ spec says taken before far short.
    let n : length c.args.reading.now.line.items ≡ 0 = grind (arith, common_steps) in
    stops_at_end c.no_end.result
    (all_answered-none (nothing_in c.args.reading.now.line.items n) far) short c.no_end.ensures.last

pub returns-in-On-clause-stops : goal.returns-in-On-clause-stops
returns-in-On-clause-stops g c = λ spec says taken before far short.
    let n : length c.args.reading.now.line.items ≡ 0 → ⊥ = grind (arith, common_steps) in
    let next = c.close_line.ensures.next c.in-On.is in
    stops_at_end c.no_end-in-On.result
    (goes_after (standing_of c.close_line.new.reading.recording)
    (g.K.Sink.written c.close_line.new.sink) c.close_line.result c.in-On.is far
    (λ e. n (ap length e)) c.requires.1.1.1.1.1 (c.close_line.ensures.closed spec says) next.1)
    short
    c.no_end-in-On.ensures.last

pub returns-in-Ended-clause-stops : goal.returns-in-Ended-clause-stops
returns-in-Ended-clause-stops g c = λ spec says taken before far short.
    let n : length c.args.reading.now.line.items ≡ 0 → ⊥ = grind (arith, common_steps) in
    ends_after (standing_of c.close_line.new.reading.recording)
    (g.K.Sink.written c.close_line.new.sink) c.close_line.result c.in-Ended.status c.in-Ended.is far
    (λ e. n (ap length e)) c.requires.1.1.1.1.1 short (c.close_line.ensures.closed spec says)
