use Rattle.std.proofs.Common.{ap, ◌∙◌, ◌++◌, ◌∷◌, [], rules, w32}
use Rattle.std.proofs.lemmas.Int.{to_z-of_z}
use mir.Val.{SFits}
use Rattle.plain_transitions.specs.WrittenTransitions.{kinds_held}
use Rattle.plain_transitions.proofs.TupleLaws.{divided_nowhere, divided_more, divided_past, pushed}
use Rattle.plain_transitions.proofs.tuples.tuple_at.Goals as goal

pub returns-in-None : goal.returns-in-None
returns-in-None c = divided_nowhere c.args.kinds.now c.loop-i.i c.args.number
    c.index-kinds-i.result c.loop-i-test.true c.loop-i.auto.i c.index-kinds-i.is
    c.in-None.ensures

pub loop-i-preserved : goal.loop-i-preserved
loop-i-preserved c =
    let fits : SFits w32 c.in-Some.ordinal = search rules in
    divided_more c.args.kinds.now c.loop-i.tuple.items c.push.new.self.items
    c.loop-i.i c.args.number c.loop-i.quotient c.take_ordinal.new.number c.index-kinds-i.result
    c.in-Some.ordinal c.loop-i-test.true c.loop-i.auto.i c.index-kinds-i.is
    (pushed c.loop-i.tuple.items c.push.new.self.items c.in-Some.ordinal
    (c.in_ok-push-in-Some.ensures.items
    ∙ ap (λ z. c.loop-i.tuple.items ++ z ∷ []) (to_z-of_z w32 c.in-Some.ordinal fits)))
    c.in-Some.ensures c.loop-i.invariant

pub returns-then-quotient-ne0 : goal.returns-then-quotient-ne0
returns-then-quotient-ne0 c = divided_past (kinds_held c.args.kinds.now) c.loop-i.tuple.items
    c.loop-i.i c.args.number c.loop-i.quotient c.loop-i-test.false c.if-quotient-ne0.true
    c.loop-i.invariant
