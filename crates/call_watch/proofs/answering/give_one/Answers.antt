use Rattle.std.proofs.Common.{◌+◌, ◌++◌, [], ◌∷◌, ℕ, refl, ap, subst, ◌∙◌}
use Rattle.est_meaning.specs.declared.run.Limits.{Limits}
use Rattle.mean_watch.specs.Watching.{IsWatched}
use Rattle.est_watch.specs.Watchers.{given_to}
use Rattle.call_watch.specs.Answers.{event_line}
use Rattle.call_watch.specs.inside.Recordings.{watch_of}
use Rattle.call_watch.specs.inside.Work.{after_events}
use Rattle.call_watch.proofs.Answered.{one_spent, one_unwritten, one_written}
use Rattle.call_watch.proofs.answering.give_one.Goals as goal

pub returns-in_err-answer-clause-answers : goal.returns-in_err-answer-clause-answers
returns-in_err-answer-clause-answers g c spec speaks =
    one_spent (watch_of g.setup c.args.recording.now.limits.budget spec)
    (given_to c.args.recording.now.watcher) c.args.event
    (after_events (given_to c.event.new.self)) c.from_residual.result
    (g.K.Sink.written c.args.sink.now) c.from_residual.ensures.1

pub returns-in_err-line-clause-answers : goal.returns-in_err-line-clause-answers
returns-in_err-line-clause-answers g c spec speaks =
    one_spent (watch_of g.setup c.args.recording.now.limits.budget spec)
    (given_to c.args.recording.now.watcher) c.args.event
    (after_events (given_to c.event.new.self)) c.from_residual-in_err-line.result
    (g.K.Sink.written c.args.sink.now) c.from_residual-in_err-line.ensures.1

pub returns-in_err-put_line-clause-answers : goal.returns-in_err-put_line-clause-answers
returns-in_err-put_line-clause-answers g c spec speaks =
    let w = watch_of g.setup c.args.recording.now.limits.budget spec in
    let waits = c.requires.1.1.0.recording in
    one_unwritten w (given_to c.args.recording.now.watcher) c.args.event c.in_ok-answer.answer
    c.as_str.result.now (after_events (given_to c.event.new.self)) c.in_err-put_line.field-0.0
    c.from_residual-in_err-put_line.result (g.K.Sink.written c.args.sink.now)
    (g.K.Sink.written c.put_line.new.sink)
    (subst (λ (l : Limits). IsWatched (g.setup spec) l.budget
    (given_to c.args.recording.now.watcher ++ c.args.event ∷ []) c.in_ok-answer.answer)
    waits.limits (c.in_ok-answer.ensures.answer c.requires.1.1.0.is_open spec speaks))
    (c.as_str.ensures.value ∙ c.in_ok-line.ensures w refl (waits.limit_is spec speaks)
    ∙ ap (λ (n : ℕ). event_line w (n + 1) c.in_ok-answer.answer) waits.count)
    c.in_err-put_line.ensures.put c.from_residual-in_err-put_line.ensures.1

pub returns-clause-answers : goal.returns-clause-answers
returns-clause-answers g c spec speaks =
    let w = watch_of g.setup c.args.recording.now.limits.budget spec in
    let waits = c.requires.1.1.0.recording in
    one_written w (given_to c.args.recording.now.watcher) (given_to c.event.new.self) c.args.event
    c.in_ok-answer.answer c.went_by.result c.as_str.result.now (g.K.Sink.written c.args.sink.now)
    (g.K.Sink.written c.put_line.new.sink)
    (subst (λ (l : Limits). IsWatched (g.setup spec) l.budget
    (given_to c.args.recording.now.watcher ++ c.args.event ∷ []) c.in_ok-answer.answer)
    waits.limits (c.in_ok-answer.ensures.answer c.requires.1.1.0.is_open spec speaks))
    (c.as_str.ensures.value ∙ c.in_ok-line.ensures w refl (waits.limit_is spec speaks)
    ∙ ap (λ (n : ℕ). event_line w (n + 1) c.in_ok-answer.answer) waits.count)
    (c.in_ok-answer.ensures.given c.requires.1.1.0.is_open) c.went_by.ensures
    c.in_ok-put_line.ensures.put
