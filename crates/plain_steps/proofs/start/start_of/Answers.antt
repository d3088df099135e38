use Rattle.std.proofs.Common.{rules, ◌≡◌, sym, ap, subst, ◌∙◌, None, Ok, Err}
use Rattle.est_meaning.specs.mean_blocks.KeepingLaws.{AreNumbered}
use Rattle.est_meaning.specs.mean_blocks.StartMeaning.{start_before}
use Rattle.est_meaning.specs.mean_blocks.TextByPlace.{Text}
use Rattle.plain_frames.specs.plain_systems.declared.system.Working.{Working}
use Rattle.plain_frames.specs.plain_systems.HeldSystems.{situation_of}
use Rattle.est_meaning.specs.DelayStamps.{restamped}
use Rattle.est_meaning.specs.FiringSteps.{start_of}
use Rattle.est_meaning.specs.OutsideEvents.{departures}
use Rattle.plain_starts.specs.StartedSystems.{Starts}
use Rattle.plain_steps.specs.declared.step.Stepped.{Stepped}
use Rattle.plain_steps.specs.SteppedSystems.{Steps}
use Rattle.plain_steps.proofs.FiredSteps.{start_stops, start_done, numbered_start}
use Rattle.plain_steps.proofs.start.start_of.Goals as goal

pub returns-in_err-started : goal.returns-in_err-started
returns-in_err-started c =
    let e = c.in_err-started.field-0.0 in
    let r : c.from_residual.result ≡ Err e = search rules in
    rw r (subst (λ (t : Text). Steps (start_of c.args.limit t) (Err e)) c.text.ensures
    (start_stops c.args.limit c.text.result.now e c.in_err-started.ensures))

pub end-requires-clause-numbered : goal.end-requires-clause-numbered
end-requires-clause-numbered c = subst (λ (w : Working). AreNumbered (situation_of w.system))
    (sym c.working_of-working.ensures)
    (numbered_start c.args.limit c.text.result.now c.in_ok-started.started
    c.in_ok-started.ensures)

pub returns : goal.returns
returns c =
    let t = c.args.behaviour.now in
    let limit = c.args.limit in
    let same = c.working_of-working.ensures in
    start_done limit t c.in_ok-started.started c.stepped.result
    (subst (λ (u : Text). Starts (start_before u limit) (Ok c.in_ok-started.started))
    c.text.ensures c.in_ok-started.ensures)
    (ap (λ (x : Stepped). x.outs) c.stepped.ensures ∙ c.in_ok-events.ensures.events
    ∙ ap (λ (w : Working). departures t w.outs) same)
    (ap (λ (x : Stepped). situation_of x.system) c.stepped.ensures
    ∙ c.in_ok-events.ensures.system
    ∙ ap (λ (w : Working). restamped limit t None (situation_of w.system)) same)
