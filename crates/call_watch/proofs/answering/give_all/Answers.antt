use Rattle.std.proofs.Common.{◌++◌, [], ◌∷◌, List, Ok, Err, refl, sym, ap, subst, ◌∙◌}
use Rattle.std.proofs.Common.{append_assoc}
use Rattle.std.proofs.lemmas.List.{append-nil}
use Rattle.std.specs.Vec.Iter.{into_iter_items}
use Rattle.est_meaning.specs.declared.event.Event.{Event}
use Rattle.est_meaning.specs.declared.run.Limits.{Limits}
use Rattle.est_watch.specs.Watchers.{given_to}
use Rattle.call_watch.specs.declared.answering.Went.{Went}
use Rattle.call_watch.specs.inside.Recordings.{watch_of}
use Rattle.call_watch.specs.inside.Work.{AreGiven, after_events}
use Rattle.call_watch.proofs.Answered.{none_so_far, more_so_far, stop_so_far, cut_off_so_far}
use Rattle.call_watch.proofs.answering.give_all.Goals as goal

pub loop-event-init : goal.loop-event-init
loop-event-init g c = record {
  waiting = c.requires.1.1.0;
  keeps = record { forward = λ spec speaks. speaks; backward = λ spec speaks. speaks; limit_is = refl };
  limits = refl;
  sink = refl;
  given = sym (append-nil (given_to c.args.recording.now.watcher));
  left = c.into_iter-event-iterator.ensures.into_iter_gives.0 ∙ c.events.view_is;
  answers = λ spec speaks. none_so_far
      (watch_of g.setup c.args.recording.now.limits.budget spec)
      (given_to c.args.recording.now.watcher) (g.K.Sink.written c.args.sink.now);
}

pub returns-in_err-went-clause-answers : goal.returns-in_err-went-clause-answers
returns-in_err-went-clause-answers g c spec speaks =
    let so_far = c.loop-event.invariant in
    cut_off_so_far (watch_of g.setup c.args.recording.now.limits.budget spec)
    (given_to c.args.recording.now.watcher) c.loop-event.yielded
    (given_to c.loop-event.recording.watcher)
    (after_events (given_to c.give_one.new.recording.watcher))
    (after_events (given_to c.give_one.new.recording.watcher)) c.in-Some.event
    (into_iter_items c.next.new.self) c.args.events c.in_err-went.field-0.0
    c.from_residual.result (g.K.Sink.written c.args.sink.now)
    (g.K.Sink.written c.loop-event.sink) (g.K.Sink.written c.give_one.new.sink)
    (so_far.answers spec speaks)
    (subst (λ (l : Limits). AreGiven (watch_of g.setup l.budget spec)
    (given_to c.loop-event.recording.watcher) (c.in-Some.event ∷ [])
    (after_events (given_to c.give_one.new.recording.watcher))
    (Err c.in_err-went.field-0.0) (g.K.Sink.written c.loop-event.sink)
    (g.K.Sink.written c.give_one.new.sink)) so_far.limits
    (c.in_err-went.ensures.answers spec (so_far.keeps.forward spec speaks)))
    c.from_residual.ensures.1
    (ap (λ (es : List Event). c.loop-event.yielded ++ es) (sym c.in-Some.ensures.steps.0)
    ∙ so_far.left)

pub returns-in-Ended-clause-answers : goal.returns-in-Ended-clause-answers
returns-in-Ended-clause-answers g c spec speaks =
    let so_far = c.loop-event.invariant in
    stop_so_far (watch_of g.setup c.args.recording.now.limits.budget spec)
    (given_to c.args.recording.now.watcher) c.loop-event.yielded
    (given_to c.loop-event.recording.watcher)
    (after_events (given_to c.give_one.new.recording.watcher))
    (after_events (given_to c.give_one.new.recording.watcher)) c.in-Some.event
    (into_iter_items c.next.new.self) c.args.events c.in_ok-went.went c.in-Ended.field-0
    (g.K.Sink.written c.args.sink.now) (g.K.Sink.written c.loop-event.sink)
    (g.K.Sink.written c.give_one.new.sink) (so_far.answers spec speaks)
    (subst (λ (l : Limits). AreGiven (watch_of g.setup l.budget spec)
    (given_to c.loop-event.recording.watcher) (c.in-Some.event ∷ [])
    (after_events (given_to c.give_one.new.recording.watcher))
    (Ok c.in_ok-went.went) (g.K.Sink.written c.loop-event.sink)
    (g.K.Sink.written c.give_one.new.sink)) so_far.limits
    (c.in_ok-went.ensures.answers spec (so_far.keeps.forward spec speaks)))
    c.in-Ended.is
    (ap (λ (es : List Event). c.loop-event.yielded ++ es) (sym c.in-Some.ensures.steps.0)
    ∙ so_far.left)

pub loop-event-preserved : goal.loop-event-preserved
loop-event-preserved g c =
    let so_far = c.loop-event.invariant in
    record {
      waiting = c.in_ok-went.ensures.waiting c.in-On.is;
      keeps = record {
        forward = λ spec speaks. c.in_ok-went.ensures.keeps.forward spec
            (so_far.keeps.forward spec speaks);
        backward = λ spec speaks. so_far.keeps.backward spec
            (c.in_ok-went.ensures.keeps.backward spec speaks);
        limit_is = c.in_ok-went.ensures.keeps.limit_is ∙ so_far.keeps.limit_is;
      };
      limits = c.in_ok-went.ensures.limits ∙ so_far.limits;
      sink = c.in_ok-went.ensures.sink ∙ so_far.sink;
      given = c.in_ok-went.ensures.given
          ∙ ap (λ (es : List Event). es ++ c.in-Some.event ∷ []) so_far.given
          ∙ append_assoc (given_to c.args.recording.now.watcher) c.loop-event.yielded
          (c.in-Some.event ∷ []);
      left = append_assoc c.loop-event.yielded (c.in-Some.event ∷ [])
          (into_iter_items c.next.new.self)
          ∙ ap (λ (es : List Event). c.loop-event.yielded ++ es) (sym c.in-Some.ensures.steps.0)
          ∙ so_far.left;
      answers = λ spec speaks. more_so_far
          (watch_of g.setup c.args.recording.now.limits.budget spec)
          (given_to c.args.recording.now.watcher) c.loop-event.yielded
          (given_to c.loop-event.recording.watcher) (given_to c.give_one.new.recording.watcher)
          c.in-Some.event (g.K.Sink.written c.args.sink.now)
          (g.K.Sink.written c.loop-event.sink) (g.K.Sink.written c.give_one.new.sink)
          (so_far.answers spec speaks)
          (subst (λ (x : Went). AreGiven
          (watch_of g.setup c.args.recording.now.limits.budget spec)
          (given_to c.loop-event.recording.watcher) (c.in-Some.event ∷ [])
          (after_events (given_to c.give_one.new.recording.watcher)) (Ok x)
          (g.K.Sink.written c.loop-event.sink) (g.K.Sink.written c.give_one.new.sink)) c.in-On.is
          (subst (λ (l : Limits). AreGiven (watch_of g.setup l.budget spec)
          (given_to c.loop-event.recording.watcher) (c.in-Some.event ∷ [])
          (after_events (given_to c.give_one.new.recording.watcher))
          (Ok c.in_ok-went.went) (g.K.Sink.written c.loop-event.sink)
          (g.K.Sink.written c.give_one.new.sink)) so_far.limits
          (c.in_ok-went.ensures.answers spec (so_far.keeps.forward spec speaks))));
    }
