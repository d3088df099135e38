use Rattle.std.proofs.Common.{◌≡◌, sym, subst, nat_eq, true, false, rules, Some}
use Rattle.std.specs.Prelude.{IfOk}
use Rattle.std.specs.List.{list_any}
use Rattle.plain_queues.specs.rule_scope.declared.declaration.Sort.TheVariants as sort
use Rattle.plain_queues.specs.plain_systems.HeldSystems.{situation_of}
use Rattle.plain_queues.specs.mean_blocks.InstancePoints.{header_of}
use Rattle.plain_queues.specs.mean_blocks.NamesInRuns.{places_of}
use Rattle.plain_points.specs.PointsOfHeaders.{is_at}
use Rattle.plain_outputs.proofs.OutsideLaws.{outside_elsewhere, outside_here}
use Rattle.plain_outputs.proofs.outputs.is_outside.Goals as goal

pub returns-then-point-ne-ROOT : goal.returns-then-point-ne-ROOT
returns-then-point-ne-ROOT c =
    let e : nat_eq c.args.point.now.instance 1 ≡ false = search rules in
    sym (outside_elsewhere c.args.text.now (situation_of c.args.system.now) c.args.point.now e)

pub returns-in-Some : goal.returns-in-Some
returns-in-Some c =
    let t = c.args.text.now in
    let s = situation_of c.args.system.now in
    let p = c.args.point.now in
    let e : nat_eq p.instance 1 ≡ true = search rules in
    let f : header_of t.outline s 1 ≡ Some c.in-Some.header = search rules in
    outside_here t s p c.in-Some.header e f c.is_declared.result
    (subst (λ o. IfOk c.is_declared.result
    (λ b. b ≡ list_any (is_at o p) (places_of o sort.Point c.in-Some.header)))
    c.outline-in-Some.ensures c.is_declared.ensures)
