-- From the answer of a replay on a world to that of a replay.
use Rattle.std.proofs.Common.{◌≡◌, ℕ, List, Result, Ok, Err, IfOk, sym, ap, subst, ◌∙◌}
use Rattle.est_syntax.specs.declared.specification.Spec.{Spec}
use Rattle.est_meaning.specs.mean_blocks.GlobalSituation.{Situation}
use Rattle.est_meaning.specs.mean_blocks.Outcome.{Done}
use Rattle.est_meaning.specs.mean_blocks.TextByPlace.{text_of}
use Rattle.est_meaning.specs.declared.event.Event.{Event}
use Rattle.est_meaning.specs.RecordedTraces.{Recorded}
use Rattle.est_meaning.specs.FiringSteps.{start_of}
use Rattle.est_meaning.specs.declared.run.Move.{Move}
use Rattle.est_meaning.specs.Run.{Setup}
use Rattle.est_explanation.specs.declared.verdict.Replayed.{Replayed}
use Rattle.est_explanation.specs.Replay.{IsAnswer, AnswersFrom, IsReplay}

abbrev pub setup_at : ℕ → ℕ → Recorded → Situation → List Event → Spec → Setup
setup_at limit silent trace t outs spec = record {
  spec = spec;
  limit = limit;
  silent = silent;
  trace = trace;
  start = t;
  start_outs = outs;
}

pub starts_so : (limit limit' : ℕ) (spec : Spec) (t : Situation) (outs outs' : List Event)
    → limit' ≡ limit → outs' ≡ outs → start_of limit (text_of spec) ≡ Done outs t
    → start_of limit' (text_of spec) ≡ Done outs' t
starts_so limit limit' spec t outs outs' l o e = ap (λ n. start_of n (text_of spec)) l ∙ e
    ∙ ap (λ es. Done es t) (sym o)

pub answers_from : (limit limit' silent : ℕ) (spec : Spec) (trace : Recorded) (t : Situation)
    (outs outs' : List Event) (moves : List Move) (claim : ℕ) (a : Replayed)
    → limit' ≡ limit → outs' ≡ outs → start_of limit (text_of spec) ≡ Done outs t
    → IsAnswer (setup_at limit' silent trace t outs' spec) moves claim a
    → IsReplay limit silent spec trace moves claim a
answers_from limit limit' silent spec trace t outs outs' moves claim a l o e h =
    subst (AnswersFrom limit silent spec trace moves claim a) (sym e)
    (subst (λ es. IsAnswer (setup_at limit silent trace t es spec) moves claim a) o
    (subst (λ n. IsAnswer (setup_at n silent trace t outs' spec) moves claim a) l h))

pub if_ok_alike : {X E : Type 0} (P Q : X → Type 0) (r : Result X E) → ((x : X) → P x → Q x)
    → IfOk r P → IfOk r Q
if_ok_alike P Q (Ok x) f h = f x h
if_ok_alike P Q (Err e) f h = h
