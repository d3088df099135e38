use Rattle.std.proofs.Common.{◌≡◌, ℕ, Bool, true, false, length, IfOk, refl, sym, ap, subst}
use Rattle.std.proofs.Common.{◌∙◌, arith}
use Rattle.est_lexer.specs.Offsets.{text_of, tokens_of}
use Rattle.est_syntax.specs.declared.specification.Spec.{Spec}
use Rattle.est_meaning.specs.rule_declares.PortList.{ports_of}
use Rattle.est_watch.specs.Watchers.{given_to}
use Rattle.call_files.specs.declared.status.Status.TheVariants.{BadTrace}
use Rattle.call_watch.specs.Lines.{HasEvents, IsRefusedLine, IsEndLine, room_after}
use Rattle.call_watch.specs.declared.answering.Went.{Went}
use Rattle.call_watch.specs.declared.answering.Went.TheVariants.{On, Ended}
use Rattle.call_watch.specs.declared.line.Found.{Found}
use Rattle.call_watch.specs.declared.recording.Recording.{Recording}
use Rattle.call_watch.specs.inside.Recordings.{standing_of, watch_of}
use Rattle.call_watch.specs.inside.Work.{AreGiven, IsFound, after_events}
use Rattle.call_watch.proofs.LineKinds.{no_tokens, some_tokens, tokens_end, tokens_no_end}
use Rattle.call_watch.proofs.Taken.{skipped_taken, end_taken, refused_taken, events_taken}
use Rattle.call_watch.proofs.answering.answer_line.Goals as goal
use Rattle.call_watch.proofs.answering.answer_line.Goals.{else-not-recording-via-then-not-recording+else-is_end, else-not-recording-via-else-not-recording}

pub returns-then-count-eq0-clause-answers : goal.returns-then-count-eq0-clause-answers
returns-then-count-eq0-clause-answers g c spec speaks =
    let none : length (tokens_of c.in_ok-own.own) ≡ 0 =
    sym c.count.ensures ∙ c.if-count-eq0.true in
    skipped_taken (watch_of g.setup c.args.recording.now.limits.budget spec) c.args.row
    (standing_of c.args.recording.now) c.args.bytes.now (g.K.Sink.written c.args.sink.now)
    (no_tokens c.args.bytes.now (tokens_of c.in_ok-own.own) c.in_ok-own.ensures.tokens none)

pub returns-then-is_end-clause-answers : goal.returns-then-is_end-clause-answers
returns-then-is_end-clause-answers g c spec speaks =
    end_taken (watch_of g.setup c.args.recording.now.limits.budget spec) c.args.row
    (standing_of c.args.recording.now) (standing_of c.finish.new.recording) c.args.bytes.now
    c.finish.result (g.K.Sink.written c.args.sink.now) (g.K.Sink.written c.finish.new.sink)
    c.if-not-recording.true
    (tokens_end c.args.bytes.now (text_of c.in_ok-own.own) (tokens_of c.in_ok-own.own)
    c.is_end.result c.in_ok-own.ensures.same_text c.in_ok-own.ensures.tokens c.is_end.ensures
    c.if-is_end.true)
    (c.finish.ensures.answers spec speaks)

pub returns-in-Events-clause-answers : goal.returns-in-Events-clause-answers
returns-in-Events-clause-answers g c spec speaks =
    let r = c.args.recording.now in
    let kept = c.requires.1.1.0.recording in
    let some : length (tokens_of c.in_ok-own.own) ≡ 0 → ⊥ =
    λ none. c.if-count-eq0.false (c.count.ensures ∙ none) in
    let found : HasEvents (ports_of r.checked.now) (room_after r.given) r.is_first
    c.args.bytes.now c.in-Events.events =
    subst (λ (f : Found). IsFound (ports_of r.checked.now) (room_after r.given) r.is_first
    c.args.bytes.now f) c.in-Events.is c.in_ok-events.ensures.found in
    let counted : HasEvents (ports_of r.checked.now) (room_after (length (given_to r.watcher)))
    r.is_first c.args.bytes.now c.in-Events.events =
    subst (λ (n : ℕ). HasEvents (ports_of r.checked.now) (room_after n) r.is_first
    c.args.bytes.now c.in-Events.events) kept.count found in
    events_taken (watch_of g.setup r.limits.budget spec) c.args.row (standing_of r)
    (after_events (given_to c.give_all.new.recording.watcher))
    (standing_of c.give_all.new.recording) c.args.bytes.now c.in-Events.events
    c.give_all.result (g.K.Sink.written c.args.sink.now)
    (g.K.Sink.written c.give_all.new.sink)
    (some_tokens c.args.bytes.now (tokens_of c.in_ok-own.own) c.in_ok-own.ensures.tokens some)
    (subst (λ (s : Spec). HasEvents (ports_of s) (room_after (length (given_to r.watcher)))
    r.is_first c.args.bytes.now c.in-Events.events) (sym (kept.alone spec speaks)) counted)
    (λ on. ap (λ (b : Bool). record {
      first = b;
      given = given_to c.give_all.new.recording.watcher;
    }) (sym (subst (λ x. IfOk x (λ (went : Went). went ≡ On
    → c.give_all.new.recording.is_first ≡ false)) on c.give_all.ensures.first refl)))
    (subst (λ (x : Recording g.row.W.Denot). (spec : Spec)
    → g.W.World.speaks x.watcher.world spec
    → AreGiven (watch_of g.setup x.limits.budget spec) (given_to x.watcher) c.in-Events.events
    (after_events (given_to c.give_all.new.recording.watcher)) c.give_all.result
    (g.K.Sink.written c.args.sink.now) (g.K.Sink.written c.give_all.new.sink))
    c.in_ok-events.ensures.others c.give_all.ensures.answers spec speaks)

pub returns-clause-answers : goal.returns-clause-answers
returns-clause-answers g c spec speaks =
    let r = c.args.recording.now in
    let kept = c.requires.1.1.0.recording in
    let some : length (tokens_of c.in_ok-own.own) ≡ 0 → ⊥ =
    λ none. c.if-count-eq0.false (c.count.ensures ∙ none) in
    let no_end : r.is_first ≡ false → IsEndLine c.args.bytes.now → ⊥ =
    λ later. elim c.else-not-recording.branch [
      | else-not-recording-via-then-not-recording+else-is_end w ↦
          tokens_no_end c.args.bytes.now (text_of c.in_ok-own.own)
          (tokens_of c.in_ok-own.own) w.is_end.result c.in_ok-own.ensures.same_text
          c.in_ok-own.ensures.tokens w.is_end.ensures w.if-is_end.false
      | else-not-recording-via-else-not-recording w ↦
          λ line. (let differ : false ≡ true = sym later ∙ w.if-not-recording.false in cc)
    ] in
    let found : IsRefusedLine (ports_of r.checked.now) (room_after r.given) r.is_first
    c.args.bytes.now c.in-Refused.column c.in-Refused.why.now =
    subst (λ (f : Found). IsFound (ports_of r.checked.now) (room_after r.given) r.is_first
    c.args.bytes.now f) c.in-Refused.is c.in_ok-events.ensures.found in
    let counted : IsRefusedLine (ports_of r.checked.now)
    (room_after (length (given_to r.watcher))) r.is_first c.args.bytes.now
    c.in-Refused.column c.in-Refused.why.now =
    subst (λ (n : ℕ). IsRefusedLine (ports_of r.checked.now) (room_after n) r.is_first
    c.args.bytes.now c.in-Refused.column c.in-Refused.why.now) kept.count found in
    refused_taken (watch_of g.setup r.limits.budget spec) c.args.row (standing_of r)
    (standing_of c.read_line.new.recording) c.args.bytes.now c.in-Refused.column
    c.in-Refused.why.now c.refuse.result (g.K.Sink.written c.args.sink.now)
    (g.K.Sink.written c.refuse.new.sink)
    (some_tokens c.args.bytes.now (tokens_of c.in_ok-own.own) c.in_ok-own.ensures.tokens some)
    no_end
    (subst (λ (s : Spec). IsRefusedLine (ports_of s) (room_after (length (given_to r.watcher)))
    r.is_first c.args.bytes.now c.in-Refused.column c.in-Refused.why.now)
    (sym (kept.alone spec speaks)) counted)
    (λ went is. subst (λ x. IfOk x (λ (y : Went). y ≡ Ended BadTrace)) is c.refuse.ensures.went)
    c.refuse.ensures.put
