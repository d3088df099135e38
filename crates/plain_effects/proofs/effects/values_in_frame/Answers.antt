use Rattle.std.proofs.Common.{sym, ap, ◌∙◌, ◌+◌, ◌++◌, ◌∷◌, [], drop, List, arith}
use Rattle.std.proofs.lemmas.List.{drop_all}
use Rattle.std.specs.Prelude.{map}
use Rattle.est_values.specs.declared.value.Value.{Value}
use Rattle.est_values.proofs.QueueLaws.{none_taken}
use Rattle.plain_effects.specs.SystemSteps.{bound_value}
use Rattle.plain_effects.proofs.FrameValues.{values_step, values_end}
use Rattle.plain_effects.proofs.effects.values_in_frame.Goals as goal

pub loop-i-preserved : goal.loop-i-preserved
loop-i-preserved c =
    let bs = c.args.frame.now in
    ap (λ (l : List Value). l ++ map bound_value (drop (c.loop-i.i + 1) bs))
    (c.in_ok-push-in-Some.ensures.ok ∙ ap (λ v. c.loop-i.values ++ v ∷ [])
    c.in_ok-value-in-Some.ensures)
    ∙ values_step bound_value bs c.loop-i.i c.in-Some.binding.now c.loop-i.values
    (map bound_value bs) (sym c.in-Some.ensures) c.loop-i.invariant

pub returns-in-None : goal.returns-in-None
returns-in-None c = values_end bound_value c.args.frame.now c.loop-i.i c.loop-i.values
    (map bound_value c.args.frame.now)
    (none_taken c.args.frame.now c.loop-i.i (sym c.in-None.ensures)) c.loop-i.invariant

pub returns : goal.returns
returns c = values_end bound_value c.args.frame.now c.loop-i.i c.loop-i.values
    (map bound_value c.args.frame.now)
    (drop_all c.loop-i.i c.args.frame.now (omega (arith, c.len-i-end.ensures))) c.loop-i.invariant
