use Rattle.std.proofs.Common.{◌≡◌, sym, ◌∙◌, subst, ℤ, pos, ◌-◌, suc, arith, rules, w32}
use Rattle.std.proofs.Common.{slice_index_or, slice_set}
use Rattle.std.proofs.lemmas.Int.{ints, to_z-of_z}
use mir.Val.{SFits, to_z, of_z}
use Rattle.est_values.specs.FittingValues.{first_ordinal}
use Rattle.est_values.proofs.NextTuples.{IsCarried, raised, carried_more, same_test}
use Rattle.est_values.proofs.tuples.next_tuple.Goals as goal

pub returns-then-tuple-i-clause-next : goal.returns-then-tuple-i-clause-next
returns-then-tuple-i-clause-next c _ =
    let i = c.loop-i.i - 1 in
    let z = slice_index_or c.loop-i.tuple i (pos 0) in
    let f : SFits w32 z = search rules in
    let g : SFits w32 c.last_ordinal.result = search rules in
    let after : c.loop-i.i ≡ suc i = omega arith in
    raised c.args.kinds.now c.args.tuple.now c.loop-i.tuple i c.loop-i.i c.index-kinds-i.result _
    c.requires after c.loop-i.invariant c.index-kinds-i.is
    (same_test _ _ _ _ f g c.last_ordinal.ensures c.if-tuple-i.true) (grind (arith, ints))

pub loop-i-preserved : goal.loop-i-preserved
loop-i-preserved c =
    let i = c.loop-i.i - 1 in
    let z = slice_index_or c.loop-i.tuple i (pos 0) in
    let f : SFits w32 z = search rules in
    let g : SFits w32 c.last_ordinal.result = search rules in
    let h : SFits w32 c.first_ordinal.result = search rules in
    let after : c.loop-i.i ≡ suc i = omega arith in
    let e : first_ordinal c.index-kinds-i.result ≡ to_z w32 (of_z w32 c.first_ordinal.result) =
    sym c.first_ordinal.ensures ∙ sym (to_z-of_z w32 c.first_ordinal.result h) in
    subst
    (λ (x : ℤ). IsCarried c.args.kinds.now c.args.tuple.now (slice_set c.loop-i.tuple i x) i) e
    (carried_more c.args.kinds.now c.args.tuple.now c.loop-i.tuple i c.loop-i.i
    c.index-kinds-i.result c.requires after c.loop-i.invariant c.index-kinds-i.is
    (same_test _ _ _ _ f g c.last_ordinal.ensures c.if-tuple-i.false))
