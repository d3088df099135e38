use Rattle.std.proofs.Common.{ℕ, List, refl, ap, subst, ◌∙◌}
use Rattle.est_meaning.specs.declared.run.Limits.{Limits}
use Rattle.mean_watch.specs.Watching.{IsFinished}
use Rattle.est_watch.specs.Watchers.{given_to}
use Rattle.call_files.specs.Pieces.{appended}
use Rattle.call_files.specs.declared.status.Status.{Status}
use Rattle.call_watch.specs.Answers.{finish_line}
use Rattle.call_watch.specs.declared.answering.Went.TheVariants.{Ended}
use Rattle.call_watch.specs.inside.Recordings.{watch_of}
use Rattle.call_watch.proofs.Answered.{end_cut}
use Rattle.call_watch.proofs.answering.finish.Goals as goal

pub returns-in_err-put_line-clause-answers : goal.returns-in_err-put_line-clause-answers
returns-in_err-put_line-clause-answers g c spec speaks =
    let w = watch_of g.setup c.args.recording.now.limits.budget spec in
    let waits = c.requires.1.1.recording in
    end_cut w (given_to c.args.recording.now.watcher) c.in_ok-answer.answer c.as_str.result.now
    c.in_err-put_line.field-0.0 c.from_residual-in_err-put_line.result
    (g.K.Sink.written c.args.sink.now) (g.K.Sink.written c.put_line.new.sink)
    (subst (λ (l : Limits). IsFinished (g.setup spec) l.budget
    (given_to c.args.recording.now.watcher) c.in_ok-answer.answer)
    waits.limits (c.in_ok-answer.ensures.answer c.requires.1.1.is_open spec speaks))
    (c.as_str.ensures.value ∙ c.in_ok-line.ensures w refl (waits.limit_is spec speaks)
    ∙ ap (λ (n : ℕ). finish_line w n c.in_ok-answer.answer) waits.count)
    c.in_err-put_line.ensures.put c.from_residual-in_err-put_line.ensures.1

pub returns-clause-answers : goal.returns-clause-answers
returns-clause-answers g c spec speaks =
    let w = watch_of g.setup c.args.recording.now.limits.budget spec in
    let waits = c.requires.1.1.recording in (
      c.in_ok-answer.answer,
      subst (λ (l : Limits). IsFinished (g.setup spec) l.budget
          (given_to c.args.recording.now.watcher) c.in_ok-answer.answer)
          waits.limits (c.in_ok-answer.ensures.answer c.requires.1.1.is_open spec speaks),
      ap (λ (s : Status). Ended s) c.watched_status.ensures,
      c.in_ok-put_line.ensures.put
          ∙ ap (λ (line : List ℕ). appended (g.K.Sink.written c.args.sink.now) line)
          (c.as_str.ensures.value ∙ c.in_ok-line.ensures w refl (waits.limit_is spec speaks)
          ∙ ap (λ (n : ℕ). finish_line w n c.in_ok-answer.answer) waits.count),
    )
