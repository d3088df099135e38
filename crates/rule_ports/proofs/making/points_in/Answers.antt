use Rattle.std.proofs.Common.{ℕ, List, [], sym, subst, arith}
use Rattle.rule_ports.specs.PortTable.{Points}
use Rattle.rule_ports.specs.declared.known.Sides.{Sides}
use Rattle.rule_ports.specs.inside.Making.{AreMadeTo}
use Rattle.rule_ports.proofs.TableSteps.{made_none, made_fresh, made_more, made_all}
use Rattle.rule_ports.proofs.making.points_in.Goals as goal

pub loop-i-init : goal.loop-i-init
loop-i-init c =
    let o = c.args.outline.now in
    let names = c.args.names.now in
    subst (λ (ps : Points). AreMadeTo o names 0 ps c.new-known.result) (sym c.new-points.ensures)
    (subst (λ (ks : List (ℕ × Sides)). AreMadeTo o names 0 [] ks) (sym c.new-known.ensures)
    (made_none o names))

pub push_point-requires-clause-fresh : goal.push_point-requires-clause-fresh
push_point-requires-clause-fresh c =
    made_fresh c.args.outline.now c.args.names.now c.loop-i.i c.loop-i.points c.loop-i.known
    (c.entry.result.0.now, c.entry.result.1) c.entry.ensures c.loop-i.invariant

pub loop-i-preserved : goal.loop-i-preserved
loop-i-preserved c =
    made_more c.args.outline.now c.args.names.now c.loop-i.i c.loop-i.points c.push_point.new.points
    c.loop-i.known c.push_point.new.known (c.entry.result.0.now, c.entry.result.1) c.entry.ensures
    c.requires.different c.in_ok-push_point.ensures.point c.in_ok-push_point.ensures.known
    c.loop-i.invariant

pub returns : goal.returns
returns c =
    made_all c.args.outline.now c.args.names.now c.loop-i.i c.loop-i.points c.loop-i.known
    (omega arith) c.loop-i.invariant
