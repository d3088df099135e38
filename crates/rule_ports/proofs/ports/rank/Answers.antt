use Rattle.std.proofs.Common.{◌-◌, rules, get_or, pos, w32, FitsSigned}
use Rattle.std.proofs.lemmas.Int.{to_z-of_z}
use Rattle.rule_ports.proofs.Ranks.{ranked_none, ranked_step, ranked_end, no_step, other_length}
use Rattle.rule_ports.proofs.ports.rank.Goals as goal

pub returns-then-kinds-index : goal.returns-then-kinds-index
returns-then-kinds-index c = other_length c.args.kinds.now c.args.index.now c.if-kinds-index.true

pub loop-i-init : goal.loop-i-init
loop-i-init c = ranked_none c.args.kinds.now c.args.index.now c.if-kinds-index.false

pub loop-i-preserved : goal.loop-i-preserved
loop-i-preserved c =
    let fits : FitsSigned w32 (get_or c.args.index.now (c.loop-i.i - 1) (pos 0)) = search rules in
    ranked_step c.args.kinds.now c.args.index.now c.loop-i.i c.loop-i.rank c.loop-i.size
    c.index-kinds-i.result c.index-kinds-i-in-Some.result c.in-Some.number c.saturating_mul.result
    c.saturating_add-rank.result c.count.result c.saturating_mul-size.result c.loop-i-test.true
    c.loop-i.auto.i c.if-kinds-index.false c.index-kinds-i.is c.index-kinds-i-in-Some.is
    (simp to_z-of_z at c.in-Some.ensures) c.saturating_mul.ensures c.saturating_add-rank.ensures
    c.count.ensures c.saturating_mul-size.ensures c.loop-i.invariant

pub returns-in-None : goal.returns-in-None
returns-in-None c =
    let fits : FitsSigned w32 (get_or c.args.index.now (c.loop-i.i - 1) (pos 0)) = search rules in
    no_step c.args.kinds.now c.args.index.now c.loop-i.i c.index-kinds-i.result c.loop-i-test.true
    c.loop-i.auto.i c.if-kinds-index.false c.index-kinds-i.is
    (simp to_z-of_z at c.in-None.ensures)

pub returns : goal.returns
returns c =
    ranked_end c.args.kinds.now c.args.index.now c.loop-i.i c.loop-i.rank c.loop-i.size
    c.loop-i-test.false c.loop-i.invariant
