use Rattle.std.proofs.Common.{◌≡◌, ◌∙◌, ◌≤◌, ◌+◌, [], ◌∷◌, ap, arith, refl, Some, None, inl, inr}
use Rattle.std.proofs.Common.{length, min}
use Rattle.std.proofs.lemmas.List.Elements.{All-nil, All-same}
use Rattle.call_files.specs.FaultCounts.{last_count}
use Rattle.call_files.specs.Pieces.{TakesOff}
use Rattle.call_files.proofs.CountLaws.{AllStay-then, rose_then}
use Rattle.call_files.proofs.PieceLaws.{SameTold-then}
use Rattle.call_watch.specs.Endings.{standard_input}
use Rattle.call_watch.specs.inside.Reading.{IsCounted}
use Rattle.call_watch.specs.inside.Recordings.{standing_of, watch_of}
use Rattle.call_watch.specs.declared.answering.Went.TheVariants.{Ended}
use Rattle.call_watch.proofs.CallLaws.{so_far-begun, reading_on, watches_ended, watches_end}
use Rattle.call_watch.proofs.CallLaws.{watches_long, watches_fault}
use Rattle.call_watch.proofs.ReadingLaws.{takes_nothing, counted_rose, counted_usage, counted_read}
use Rattle.call_watch.proofs.ReadingLaws.{counted_same, counted_on, counted_as, counted_then}
use Rattle.call_watch.proofs.ReadingLaws.{some_then}
use Rattle.call_watch.proofs.ReadingLaws.{none_then}
use Rattle.call_watch.proofs.reading.watch_text.Goals as goal

pub bytes-init : goal.bytes-init
bytes-init g c = record {
  within = omega arith;
  same = c.start.ensures.told;
  quiet = c.in-Ok.ensures.quiet;
  started = c.start.ensures.started;
  asked = c.start.ensures.asked;
  reads = c.in-Ok.ensures.reads;
  count = c.in-Ok.ensures.begun.0;
  sink = refl;
  reading = record {
    taken = [];
    size = refl;
    front = takes_nothing (g.S.Shelf.told c.args.shelf.now standard_input)
        (g.S.Shelf.left c.start.new.self) c.in-Ok.ensures.left;
    waiting = assumption c.requires;
    speaks_on = λ spec says. says;
    budget_is = refl;
    one = All-same (λ b. b ≡ 10 → ⊥) c.new.result.items [] c.new.ensures.items
        (All-nil (λ b. b ≡ 10 → ⊥));
    short = omega (arith, ap length c.new.ensures.items);
    row_in = omega arith;
    far = λ spec says. so_far-begun (watch_of g.setup c.args.recording.limits.budget spec)
        (g.K.Sink.written c.args.sink.now) c.new.result.items (standing_of c.args.recording)
        c.new.ensures.items (assumption c.requires);
  };
}

pub returns-in-Ok-None-clause-told : goal.returns-in-Ok-None-clause-told
returns-in-Ok-None-clause-told g c = SameTold-then c.bytes.invariant.same c.next_byte.ensures.told

pub returns-in-Ok-None-clause-started : goal.returns-in-Ok-None-clause-started
returns-in-Ok-None-clause-started g c = c.next_byte.ensures.started ∙ c.bytes.invariant.started

pub returns-in-Ok-None-clause-idle : goal.returns-in-Ok-None-clause-idle
returns-in-Ok-None-clause-idle g c = λ e. absurd (omega (arith, e, c.next_byte.ensures.asked))

pub returns-in-Ok-None-clause-quiet : goal.returns-in-Ok-None-clause-quiet
returns-in-Ok-None-clause-quiet g c = λ other. AllStay-then c.bytes.invariant.quiet
    c.in-Ok-None.ensures.quiet

pub returns-in-Ok-None-clause-failed : goal.returns-in-Ok-None-clause-failed
returns-in-Ok-None-clause-failed g c =
    let is : IsCounted (Ended c.end_text.result) (g.K.Sink.faults c.args.sink.now) (g.K.Sink.faults
    c.end_text.new.sink) = counted_then (g.K.Sink.faults c.end_text.new.sink) (Ended
    c.end_text.result)
    c.bytes.invariant.sink c.end_text.ensures.sink in
    λ e. absurd (counted_read (g.K.Sink.faults c.args.sink.now) (g.K.Sink.faults
    c.end_text.new.sink) c.end_text.result is e)

pub returns-in-Ok-None-clause-unwritten : goal.returns-in-Ok-None-clause-unwritten
returns-in-Ok-None-clause-unwritten g c =
    let is : IsCounted (Ended c.end_text.result) (g.K.Sink.faults c.args.sink.now) (g.K.Sink.faults
    c.end_text.new.sink) = counted_then (g.K.Sink.faults c.end_text.new.sink) (Ended
    c.end_text.result)
    c.bytes.invariant.sink c.end_text.ensures.sink in
    λ e. counted_rose c.end_text.result is e

pub returns-in-Ok-None-clause-written : goal.returns-in-Ok-None-clause-written
returns-in-Ok-None-clause-written g c =
    let is : IsCounted (Ended c.end_text.result) (g.K.Sink.faults c.args.sink.now) (g.K.Sink.faults
    c.end_text.new.sink) = counted_then (g.K.Sink.faults c.end_text.new.sink) (Ended
    c.end_text.result)
    c.bytes.invariant.sink c.end_text.ensures.sink in
    λ e. counted_same c.end_text.result is e

pub returns-in-Ok-None-clause-usage : goal.returns-in-Ok-None-clause-usage
returns-in-Ok-None-clause-usage g c =
    let is : IsCounted (Ended c.end_text.result) (g.K.Sink.faults c.args.sink.now) (g.K.Sink.faults
    c.end_text.new.sink) = counted_then (g.K.Sink.faults c.end_text.new.sink) (Ended
    c.end_text.result)
    c.bytes.invariant.sink c.end_text.ensures.sink in
    counted_usage (g.K.Sink.faults c.args.sink.now) (g.K.Sink.faults c.end_text.new.sink)
    c.end_text.result is

pub returns-in-Ok-None-clause-bytewise : goal.returns-in-Ok-None-clause-bytewise
returns-in-Ok-None-clause-bytewise g c =
    let b : c.in-Ok-None.field-0 ≡ None = cc in
    let no_more : g.S.Shelf.taken c.next_byte.new.shelf ≡ min (g.S.Shelf.taken c.bytes.shelf)
    last_count =
    none_then (g.S.Shelf.taken c.next_byte.new.shelf ≡ min (g.S.Shelf.taken c.bytes.shelf)
    last_count)
    c.in-Ok-None.field-0 b c.in-Ok-None.ensures.no_more in
    let size : g.S.Shelf.taken c.next_byte.new.shelf ≡ c.bytes.taken = omega (
      arith,
      no_more,
      c.bytes.invariant.count,
      c.bytes.invariant.within,
    ) in
    λ some. inr (omega (arith, size, c.next_byte.ensures.asked, c.bytes.invariant.asked))

pub returns-in-Ok-None-clause-watches : goal.returns-in-Ok-None-clause-watches
returns-in-Ok-None-clause-watches g c =
    let b : c.in-Ok-None.field-0 ≡ None = cc in
    let no_more : g.S.Shelf.taken c.next_byte.new.shelf ≡ min (g.S.Shelf.taken c.bytes.shelf)
    last_count =
    none_then (g.S.Shelf.taken c.next_byte.new.shelf ≡ min (g.S.Shelf.taken c.bytes.shelf)
    last_count)
    c.in-Ok-None.field-0 b c.in-Ok-None.ensures.no_more in
    let size : g.S.Shelf.taken c.next_byte.new.shelf ≡ c.bytes.taken = omega (
      arith,
      no_more,
      c.bytes.invariant.count,
      c.bytes.invariant.within,
    ) in
    let end = none_then _ c.in-Ok-None.field-0 b c.in-Ok-None.ensures.end in
    λ some. watches_end c.bytes.invariant.reading _ (g.K.Sink.written c.end_text.new.sink)
    c.end_text.result refl size
    c.bytes.invariant.within end c.end_text.ensures.stops

pub returns-in-Err-next_byte-clause-told : goal.returns-in-Err-next_byte-clause-told
returns-in-Err-next_byte-clause-told g c = SameTold-then c.bytes.invariant.same
    c.next_byte.ensures.told

pub returns-in-Err-next_byte-clause-started : goal.returns-in-Err-next_byte-clause-started
returns-in-Err-next_byte-clause-started g c = c.next_byte.ensures.started ∙
    c.bytes.invariant.started

pub returns-in-Err-next_byte-clause-idle : goal.returns-in-Err-next_byte-clause-idle
returns-in-Err-next_byte-clause-idle g c = λ e. absurd (omega (arith, e, c.next_byte.ensures.asked))

pub returns-in-Err-next_byte-clause-failed : goal.returns-in-Err-next_byte-clause-failed
returns-in-Err-next_byte-clause-failed g c = λ e. rose_then c.bytes.invariant.quiet standard_input
    (c.in-Err-next_byte.ensures.failed standard_input c.bytes.invariant.reads)

pub returns-in-Err-next_byte-clause-written : goal.returns-in-Err-next_byte-clause-written
returns-in-Err-next_byte-clause-written g c = λ other. c.bytes.invariant.sink

pub returns-in-Err-next_byte-clause-bytewise : goal.returns-in-Err-next_byte-clause-bytewise
returns-in-Err-next_byte-clause-bytewise g c = λ some. inr (omega (
  arith,
  c.in-Err-next_byte.ensures.untaken,
  c.bytes.invariant.count,
  c.next_byte.ensures.asked,
  c.bytes.invariant.asked,
))

pub returns-in-Err-next_byte-clause-watches : goal.returns-in-Err-next_byte-clause-watches
returns-in-Err-next_byte-clause-watches g c = λ some. watches_fault c.bytes.invariant.reading _ refl
    (c.in-Err-next_byte.ensures.untaken ∙ c.bytes.invariant.count) c.bytes.invariant.within
    (rose_then c.bytes.invariant.quiet standard_input (c.in-Err-next_byte.ensures.failed
    standard_input c.bytes.invariant.reads))

pub returns-then-taken-limit-clause-told : goal.returns-then-taken-limit-clause-told
returns-then-taken-limit-clause-told g c = SameTold-then c.bytes.invariant.same
    c.next_byte.ensures.told

pub returns-then-taken-limit-clause-started : goal.returns-then-taken-limit-clause-started
returns-then-taken-limit-clause-started g c = c.next_byte.ensures.started ∙
    c.bytes.invariant.started

pub returns-then-taken-limit-clause-idle : goal.returns-then-taken-limit-clause-idle
returns-then-taken-limit-clause-idle g c = λ e. absurd (omega (arith, e, c.next_byte.ensures.asked))

pub returns-then-taken-limit-clause-quiet : goal.returns-then-taken-limit-clause-quiet
returns-then-taken-limit-clause-quiet g c = λ other. AllStay-then c.bytes.invariant.quiet
    c.in-Ok-Some.ensures.quiet

pub returns-then-taken-limit-clause-failed : goal.returns-then-taken-limit-clause-failed
returns-then-taken-limit-clause-failed g c =
    let is : IsCounted (Ended c.too_long.result) (g.K.Sink.faults c.args.sink.now) (g.K.Sink.faults
    c.too_long.new.sink) = counted_then (g.K.Sink.faults c.too_long.new.sink) (Ended
    c.too_long.result)
    c.bytes.invariant.sink c.too_long.ensures.sink in
    λ e. absurd (counted_read (g.K.Sink.faults c.args.sink.now) (g.K.Sink.faults
    c.too_long.new.sink) c.too_long.result is e)

pub returns-then-taken-limit-clause-unwritten : goal.returns-then-taken-limit-clause-unwritten
returns-then-taken-limit-clause-unwritten g c =
    let is : IsCounted (Ended c.too_long.result) (g.K.Sink.faults c.args.sink.now) (g.K.Sink.faults
    c.too_long.new.sink) = counted_then (g.K.Sink.faults c.too_long.new.sink) (Ended
    c.too_long.result)
    c.bytes.invariant.sink c.too_long.ensures.sink in
    λ e. counted_rose c.too_long.result is e

pub returns-then-taken-limit-clause-written : goal.returns-then-taken-limit-clause-written
returns-then-taken-limit-clause-written g c =
    let is : IsCounted (Ended c.too_long.result) (g.K.Sink.faults c.args.sink.now) (g.K.Sink.faults
    c.too_long.new.sink) = counted_then (g.K.Sink.faults c.too_long.new.sink) (Ended
    c.too_long.result)
    c.bytes.invariant.sink c.too_long.ensures.sink in
    λ e. counted_same c.too_long.result is e

pub returns-then-taken-limit-clause-usage : goal.returns-then-taken-limit-clause-usage
returns-then-taken-limit-clause-usage g c =
    let is : IsCounted (Ended c.too_long.result) (g.K.Sink.faults c.args.sink.now) (g.K.Sink.faults
    c.too_long.new.sink) = counted_then (g.K.Sink.faults c.too_long.new.sink) (Ended
    c.too_long.result)
    c.bytes.invariant.sink c.too_long.ensures.sink in
    counted_usage (g.K.Sink.faults c.args.sink.now) (g.K.Sink.faults c.too_long.new.sink)
    c.too_long.result is

pub returns-then-taken-limit-clause-bytewise : goal.returns-then-taken-limit-clause-bytewise
returns-then-taken-limit-clause-bytewise g c =
    let b : c.in-Ok-Some.field-0 ≡ Some c.in-Ok-Some.byte = cc in
    let piece : TakesOff (g.S.Shelf.left c.bytes.shelf) (c.in-Ok-Some.byte ∷ [])
    (g.S.Shelf.left c.next_byte.new.shelf) = some_then (λ byte. TakesOff (g.S.Shelf.left
    c.bytes.shelf)
    (byte ∷ []) (g.S.Shelf.left c.next_byte.new.shelf)) c.in-Ok-Some.field-0 c.in-Ok-Some.byte b
    c.in-Ok-Some.ensures.byte in
    let more : g.S.Shelf.taken c.next_byte.new.shelf
    ≡ min (g.S.Shelf.taken c.bytes.shelf + 1) last_count = some_then (λ byte. g.S.Shelf.taken
    c.next_byte.new.shelf ≡ min (g.S.Shelf.taken c.bytes.shelf + 1) last_count) c.in-Ok-Some.field-0
    c.in-Ok-Some.byte b c.in-Ok-Some.ensures.more in
    let size : g.S.Shelf.taken c.next_byte.new.shelf ≡ c.bytes.taken + 1 = omega (
      arith,
      more,
      c.bytes.invariant.count,
      c.bytes.invariant.within,
    ) in
    λ some. inl (omega (arith, size, c.next_byte.ensures.asked, c.bytes.invariant.asked))

pub returns-then-taken-limit-clause-watches : goal.returns-then-taken-limit-clause-watches
returns-then-taken-limit-clause-watches g c =
    let b : c.in-Ok-Some.field-0 ≡ Some c.in-Ok-Some.byte = cc in
    let piece : TakesOff (g.S.Shelf.left c.bytes.shelf) (c.in-Ok-Some.byte ∷ [])
    (g.S.Shelf.left c.next_byte.new.shelf) = some_then (λ byte. TakesOff (g.S.Shelf.left
    c.bytes.shelf)
    (byte ∷ []) (g.S.Shelf.left c.next_byte.new.shelf)) c.in-Ok-Some.field-0 c.in-Ok-Some.byte b
    c.in-Ok-Some.ensures.byte in
    let more : g.S.Shelf.taken c.next_byte.new.shelf
    ≡ min (g.S.Shelf.taken c.bytes.shelf + 1) last_count = some_then (λ byte. g.S.Shelf.taken
    c.next_byte.new.shelf ≡ min (g.S.Shelf.taken c.bytes.shelf + 1) last_count) c.in-Ok-Some.field-0
    c.in-Ok-Some.byte b c.in-Ok-Some.ensures.more in
    let size : g.S.Shelf.taken c.next_byte.new.shelf ≡ c.bytes.taken + 1 = omega (
      arith,
      more,
      c.bytes.invariant.count,
      c.bytes.invariant.within,
    ) in
    let full : c.bytes.taken ≡ 8388608 = omega arith in
    λ some. watches_long c.bytes.invariant.reading _ (g.S.Shelf.left c.next_byte.new.shelf)
    (g.K.Sink.written c.too_long.new.sink) c.in-Ok-Some.byte c.too_long.result refl size full piece
    c.too_long.ensures.last

pub returns-in-Ended-clause-told : goal.returns-in-Ended-clause-told
returns-in-Ended-clause-told g c = SameTold-then c.bytes.invariant.same c.next_byte.ensures.told

pub returns-in-Ended-clause-started : goal.returns-in-Ended-clause-started
returns-in-Ended-clause-started g c = c.next_byte.ensures.started ∙ c.bytes.invariant.started

pub returns-in-Ended-clause-idle : goal.returns-in-Ended-clause-idle
returns-in-Ended-clause-idle g c = λ e. absurd (omega (arith, e, c.next_byte.ensures.asked))

pub returns-in-Ended-clause-quiet : goal.returns-in-Ended-clause-quiet
returns-in-Ended-clause-quiet g c = λ other. AllStay-then c.bytes.invariant.quiet
    c.in-Ok-Some.ensures.quiet

pub returns-in-Ended-clause-failed : goal.returns-in-Ended-clause-failed
returns-in-Ended-clause-failed g c =
    let is : IsCounted (Ended c.in-Ended.status) (g.K.Sink.faults c.args.sink.now) (g.K.Sink.faults
    c.take_byte.new.sink) = counted_then (g.K.Sink.faults c.take_byte.new.sink) (Ended
    c.in-Ended.status)
    c.bytes.invariant.sink (counted_as (g.K.Sink.faults c.bytes.sink) (g.K.Sink.faults
    c.take_byte.new.sink) c.take_byte.result c.in-Ended.status c.in-Ended.is
    c.take_byte.ensures.sink) in
    λ e. absurd (counted_read (g.K.Sink.faults c.args.sink.now) (g.K.Sink.faults
    c.take_byte.new.sink) c.in-Ended.status is e)

pub returns-in-Ended-clause-unwritten : goal.returns-in-Ended-clause-unwritten
returns-in-Ended-clause-unwritten g c =
    let is : IsCounted (Ended c.in-Ended.status) (g.K.Sink.faults c.args.sink.now) (g.K.Sink.faults
    c.take_byte.new.sink) = counted_then (g.K.Sink.faults c.take_byte.new.sink) (Ended
    c.in-Ended.status)
    c.bytes.invariant.sink (counted_as (g.K.Sink.faults c.bytes.sink) (g.K.Sink.faults
    c.take_byte.new.sink) c.take_byte.result c.in-Ended.status c.in-Ended.is
    c.take_byte.ensures.sink) in
    λ e. counted_rose c.in-Ended.status is e

pub returns-in-Ended-clause-written : goal.returns-in-Ended-clause-written
returns-in-Ended-clause-written g c =
    let is : IsCounted (Ended c.in-Ended.status) (g.K.Sink.faults c.args.sink.now) (g.K.Sink.faults
    c.take_byte.new.sink) = counted_then (g.K.Sink.faults c.take_byte.new.sink) (Ended
    c.in-Ended.status)
    c.bytes.invariant.sink (counted_as (g.K.Sink.faults c.bytes.sink) (g.K.Sink.faults
    c.take_byte.new.sink) c.take_byte.result c.in-Ended.status c.in-Ended.is
    c.take_byte.ensures.sink) in
    λ e. counted_same c.in-Ended.status is e

pub returns-in-Ended-clause-usage : goal.returns-in-Ended-clause-usage
returns-in-Ended-clause-usage g c =
    let is : IsCounted (Ended c.in-Ended.status) (g.K.Sink.faults c.args.sink.now) (g.K.Sink.faults
    c.take_byte.new.sink) = counted_then (g.K.Sink.faults c.take_byte.new.sink) (Ended
    c.in-Ended.status)
    c.bytes.invariant.sink (counted_as (g.K.Sink.faults c.bytes.sink) (g.K.Sink.faults
    c.take_byte.new.sink) c.take_byte.result c.in-Ended.status c.in-Ended.is
    c.take_byte.ensures.sink) in
    counted_usage (g.K.Sink.faults c.args.sink.now) (g.K.Sink.faults c.take_byte.new.sink)
    c.in-Ended.status is

pub returns-in-Ended-clause-bytewise : goal.returns-in-Ended-clause-bytewise
returns-in-Ended-clause-bytewise g c =
    let b : c.in-Ok-Some.field-0 ≡ Some c.in-Ok-Some.byte = cc in
    let piece : TakesOff (g.S.Shelf.left c.bytes.shelf) (c.in-Ok-Some.byte ∷ [])
    (g.S.Shelf.left c.next_byte.new.shelf) = some_then (λ byte. TakesOff (g.S.Shelf.left
    c.bytes.shelf)
    (byte ∷ []) (g.S.Shelf.left c.next_byte.new.shelf)) c.in-Ok-Some.field-0 c.in-Ok-Some.byte b
    c.in-Ok-Some.ensures.byte in
    let more : g.S.Shelf.taken c.next_byte.new.shelf
    ≡ min (g.S.Shelf.taken c.bytes.shelf + 1) last_count = some_then (λ byte. g.S.Shelf.taken
    c.next_byte.new.shelf ≡ min (g.S.Shelf.taken c.bytes.shelf + 1) last_count) c.in-Ok-Some.field-0
    c.in-Ok-Some.byte b c.in-Ok-Some.ensures.more in
    let size : g.S.Shelf.taken c.next_byte.new.shelf ≡ c.bytes.taken + 1 = omega (
      arith,
      more,
      c.bytes.invariant.count,
      c.bytes.invariant.within,
    ) in
    λ some. inl (omega (arith, size, c.next_byte.ensures.asked, c.bytes.invariant.asked))

pub returns-in-Ended-clause-watches : goal.returns-in-Ended-clause-watches
returns-in-Ended-clause-watches g c =
    let b : c.in-Ok-Some.field-0 ≡ Some c.in-Ok-Some.byte = cc in
    let piece : TakesOff (g.S.Shelf.left c.bytes.shelf) (c.in-Ok-Some.byte ∷ [])
    (g.S.Shelf.left c.next_byte.new.shelf) = some_then (λ byte. TakesOff (g.S.Shelf.left
    c.bytes.shelf)
    (byte ∷ []) (g.S.Shelf.left c.next_byte.new.shelf)) c.in-Ok-Some.field-0 c.in-Ok-Some.byte b
    c.in-Ok-Some.ensures.byte in
    let more : g.S.Shelf.taken c.next_byte.new.shelf
    ≡ min (g.S.Shelf.taken c.bytes.shelf + 1) last_count = some_then (λ byte. g.S.Shelf.taken
    c.next_byte.new.shelf ≡ min (g.S.Shelf.taken c.bytes.shelf + 1) last_count) c.in-Ok-Some.field-0
    c.in-Ok-Some.byte b c.in-Ok-Some.ensures.more in
    let size : g.S.Shelf.taken c.next_byte.new.shelf ≡ c.bytes.taken + 1 = omega (
      arith,
      more,
      c.bytes.invariant.count,
      c.bytes.invariant.within,
    ) in
    let short : c.bytes.taken + 1 ≤ 8388608 = omega arith in
    λ some. watches_ended c.bytes.invariant.reading _ (g.S.Shelf.left c.next_byte.new.shelf)
    (g.K.Sink.written c.take_byte.new.sink) c.take_byte.new.reading c.in-Ok-Some.byte
    c.take_byte.result c.in-Ended.status refl size short piece c.in-Ended.is
    c.take_byte.ensures.after

pub bytes-preserved : goal.bytes-preserved
bytes-preserved g c =
    let b : c.in-Ok-Some.field-0 ≡ Some c.in-Ok-Some.byte = cc in
    let piece : TakesOff (g.S.Shelf.left c.bytes.shelf) (c.in-Ok-Some.byte ∷ [])
    (g.S.Shelf.left c.next_byte.new.shelf) = some_then (λ byte. TakesOff (g.S.Shelf.left
    c.bytes.shelf)
    (byte ∷ []) (g.S.Shelf.left c.next_byte.new.shelf)) c.in-Ok-Some.field-0 c.in-Ok-Some.byte b
    c.in-Ok-Some.ensures.byte in
    let more : g.S.Shelf.taken c.next_byte.new.shelf
    ≡ min (g.S.Shelf.taken c.bytes.shelf + 1) last_count = some_then (λ byte. g.S.Shelf.taken
    c.next_byte.new.shelf ≡ min (g.S.Shelf.taken c.bytes.shelf + 1) last_count) c.in-Ok-Some.field-0
    c.in-Ok-Some.byte b c.in-Ok-Some.ensures.more in
    let size : g.S.Shelf.taken c.next_byte.new.shelf ≡ c.bytes.taken + 1 = omega (
      arith,
      more,
      c.bytes.invariant.count,
      c.bytes.invariant.within,
    ) in
    record {
      within = omega arith;
      same = SameTold-then c.bytes.invariant.same c.next_byte.ensures.told;
      quiet = AllStay-then c.bytes.invariant.quiet c.in-Ok-Some.ensures.quiet;
      started = c.next_byte.ensures.started ∙ c.bytes.invariant.started;
      asked = omega (arith, c.next_byte.ensures.asked, c.bytes.invariant.asked);
      reads = c.next_byte.ensures.reads standard_input c.bytes.invariant.reads;
      count = size;
      sink = counted_on (g.K.Sink.faults c.bytes.sink) (g.K.Sink.faults c.take_byte.new.sink)
          c.take_byte.result c.in-On.is c.take_byte.ensures.sink ∙ c.bytes.invariant.sink;
      reading = reading_on c.bytes.invariant.reading (g.S.Shelf.left c.next_byte.new.shelf)
          (g.K.Sink.written c.take_byte.new.sink) c.take_byte.new.reading c.in-Ok-Some.byte
          c.take_byte.result piece c.in-On.is (c.take_byte.ensures.waiting c.in-On.is)
          c.take_byte.ensures.keeps c.take_byte.ensures.limits (c.take_byte.ensures.one c.in-On.is)
          (c.take_byte.ensures.longer c.in-On.is) (c.take_byte.ensures.lower c.in-On.is)
          c.take_byte.ensures.after;
    }
