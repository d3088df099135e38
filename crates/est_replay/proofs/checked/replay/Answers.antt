use Rattle.std.proofs.Common.{◌≤◌, length, ap, subst, sym, ◌∙◌, arith}
use Rattle.est_meaning.specs.mean_blocks.TextByPlace.{Text}
use Rattle.est_meaning.specs.AllowedEvents.{IsAllowedTrace}
use Rattle.est_explanation.specs.Replay.{IsReplay, most_moves}
use Rattle.est_explanation.proofs.FromStart.{starts_so, answers_from, if_ok_alike}
use Rattle.est_replay.proofs.checked.replay.Goals as goal

pub replay_in-requires : goal.replay_in-requires
replay_in-requires c =
    let s = rw c.in-Ready.is at c.in_ok-started.ensures in
    record {
      start = λ spec speaks. starts_so c.args.limits.now.statements c.in-Ready.world.limit spec _
          c.in-Ready.outs c.as_slice.result.now s.1.limit_is c.as_slice.ensures
          (s.1.stack_is spec speaks);
      room = (let u = s.1.fired_none in omega arith);
      allowed = λ spec speaks. subst (λ x. IsAllowedTrace x c.args.trace.now)
          (ap (λ (t : Text). t.spec) (sym s.0 ∙ speaks)) c.requires.allowed;
      few = subst (λ ms. length ms ≤ most_moves) (sym c.as_slice-in-Ready.ensures) c.requires.few;
    }

pub returns-in-Ready : goal.returns-in-Ready
returns-in-Ready c =
    let s = rw c.in-Ready.is at c.in_ok-started.ensures in
    let limits = c.args.limits.now in
    let claim = c.args.explanation.now.claim in
    if_ok_alike _ _ c.replay_in.result
    (λ a h.
    let found : IsReplay limits.statements limits.silent c.args.checked.now c.args.trace.now
    c.as_slice-in-Ready.result.now claim a =
    answers_from limits.statements c.in-Ready.world.limit limits.silent c.args.checked.now
    c.args.trace.now _ c.in-Ready.outs c.as_slice.result.now
    c.as_slice-in-Ready.result.now claim a
    s.1.limit_is c.as_slice.ensures (s.1.stack_is c.args.checked.now s.0)
    (h c.args.checked.now s.0) in
    subst (λ ms. IsReplay limits.statements limits.silent c.args.checked.now c.args.trace.now ms
    claim a) c.as_slice-in-Ready.ensures found)
    c.replay_in.ensures.answer
