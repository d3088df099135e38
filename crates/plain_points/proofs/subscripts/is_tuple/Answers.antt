use Rattle.std.proofs.Common.{◌≡◌, refl, sym, ◌∙◌, ◌<◌, ◌≤◌, pos, arith, rules, true, false}
use Rattle.std.proofs.Common.{length, slice_index_or}
use Rattle.std.proofs.lemmas.Option.{slice_get_read, slice_get-get_or}
use Rattle.std.specs.List.{list_any}
use Rattle.std.specs.Ordering.{int_eq}
use Rattle.est_values.specs.OrdinalTuples.{ordinals_of}
use Rattle.plain_points.proofs.DeclaredLaws.{tuple_there, tuple_short, tuple_after}
use Rattle.plain_points.proofs.DeclaredLaws.{tuple_fit, tuple_unfit, tuple_end}
use Rattle.plain_points.proofs.subscripts.is_tuple.Goals as goal

pub returns-then-kinds-tuple : goal.returns-then-kinds-tuple
returns-then-kinds-tuple c =
    let h : length c.args.kinds.now ≡ length c.args.tuple.now → ⊥ = grind arith in
    sym (tuple_there c.args.kinds.now c.args.tuple.now
    ∙ tuple_short c.args.kinds.now c.args.tuple.now h)

pub returns-then-not-is_ordinal : goal.returns-then-not-is_ordinal
returns-then-not-is_ordinal c =
    let z = slice_index_or c.args.tuple.now c.loop-i.i (pos 0) in
    let l : c.loop-i.i < length c.args.kinds.now = grind arith in
    let m : c.loop-i.i < length c.args.tuple.now = grind arith in
    let kind = slice_get_read c.args.kinds.now (length c.args.kinds.now) c.loop-i.i
    c.index-kinds-i.result refl l c.index-kinds-i.is in
    let there = slice_get-get_or c.args.tuple.now c.loop-i.i (pos 0) m in
    let unfit : list_any (int_eq z) (ordinals_of c.index-kinds-i.result) ≡ false = search rules in
    sym (tuple_there c.args.kinds.now c.args.tuple.now ∙ c.loop-i.invariant
    ∙ tuple_after c.args.kinds.now c.args.tuple.now c.loop-i.i c.index-kinds-i.result z
    kind there
    ∙ tuple_unfit _ _ unfit)

pub loop-i-preserved : goal.loop-i-preserved
loop-i-preserved c =
    let z = slice_index_or c.args.tuple.now c.loop-i.i (pos 0) in
    let l : c.loop-i.i < length c.args.kinds.now = grind arith in
    let m : c.loop-i.i < length c.args.tuple.now = grind arith in
    let kind = slice_get_read c.args.kinds.now (length c.args.kinds.now) c.loop-i.i
    c.index-kinds-i.result refl l c.index-kinds-i.is in
    let there = slice_get-get_or c.args.tuple.now c.loop-i.i (pos 0) m in
    let fit : list_any (int_eq z) (ordinals_of c.index-kinds-i.result) ≡ true = search rules in
    c.loop-i.invariant
    ∙ tuple_after c.args.kinds.now c.args.tuple.now c.loop-i.i c.index-kinds-i.result z
    kind there
    ∙ tuple_fit _ _ fit

pub returns : goal.returns
returns c =
    let e : length c.args.kinds.now ≡ length c.args.tuple.now = grind arith in
    let l : length c.args.kinds.now ≤ c.loop-i.i = grind arith in
    sym (tuple_there c.args.kinds.now c.args.tuple.now ∙ c.loop-i.invariant
    ∙ tuple_end c.args.kinds.now c.args.tuple.now c.loop-i.i e l)
