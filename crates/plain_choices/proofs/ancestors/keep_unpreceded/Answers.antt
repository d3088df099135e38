use Rattle.std.proofs.Common.{◌∙◌, ap, arith, get_or, inl, inr}
use Rattle.plain_choices.proofs.ancestors.keep_unpreceded.Goals.{then-not-is_one_of+in_ok-push}
use Rattle.plain_choices.proofs.ancestors.keep_unpreceded.Goals.{else-not-is_one_of}
use Rattle.plain_guards.specs.plain_systems.HeldSystems.{situation_of}
use Rattle.plain_choices.proofs.Blocking.{blocked_answer}
use Rattle.plain_choices.proofs.Keeping.{kept_ends, turn_in}
use Rattle.plain_choices.proofs.Rows.{from_length}
use Rattle.plain_choices.proofs.ancestors.keep_unpreceded.Goals as goal

pub loop-firing-preserved : goal.loop-firing-preserved
loop-firing-preserved c = turn_in (situation_of c.args.system.now) c.args.found.now.dues.items
    c.args.found.now.firings.items c.as_slice-firing-items.result.now
    c.as_slice-firing-items.ensures.value c.loop-firing.firing-index
    (record { instance = 0; transition = 0; choice = 0 }) c.loop-firing-test.true
    c.loop-firing.into.items c.if-not-is_one_of.into.items c.loop-firing.invariant
    c.is_one_of.result
    (blocked_answer (situation_of c.args.system.now) c.args.found.now.dues.items
    c.as_slice.result.now c.find_blocked.new.blocked.items c.as_slice-in-loop-firing.result.now
    c.as_slice.ensures.value c.as_slice-in-loop-firing.ensures.value c.in_ok-find_blocked.ensures
    (get_or c.as_slice-firing-items.result.now c.loop-firing.firing-index
    (record { instance = 0; transition = 0; choice = 0 })).instance c.is_one_of.result
    c.is_one_of.ensures)
    (elim c.if-not-is_one_of.branch [
      | then-not-is_one_of+in_ok-push w ↦ inl (
        w.if-not-is_one_of.true,
        ap (λ v. v.items) w.into-is ∙ w.in_ok-push.ensures.items,
      )
      | else-not-is_one_of w ↦ inr (w.if-not-is_one_of.false, ap (λ v. v.items) w.into-is)
    ])

pub returns : goal.returns
returns c = kept_ends (situation_of c.args.system.now) c.args.found.now.dues.items
    c.args.found.now.firings.items _ c.loop-firing.into.items
    (from_length c.as_slice-firing-items.result.now c.loop-firing.firing-index (omega arith))
    c.loop-firing.invariant
