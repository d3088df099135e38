use Rattle.std.proofs.Common.{◌∙◌, Some, None, arith}
use Rattle.rule_ports.proofs.Listing.{within}
use Rattle.rule_ports.proofs.Numbered.{no_name, no_tuple, found, too_far}
use Rattle.rule_ports.proofs.Numbered.{no_elements, elements_are, rank_along}
use Rattle.rule_ports.proofs.ports.find_in.Goals as goal

pub returns-in_default : goal.returns-in_default
returns-in_default c =
    no_name c.args.points.now c.args.name.now c.args.index.now c.in_default.ensures

pub returns-in_default-elements : goal.returns-in_default-elements
returns-in_default-elements c = absurd (no_elements c.args.points.now c.in-Some.point
    c.args.name.now c.in-Some.ensures.0 c.in-Some.ensures.1 c.in_default-elements.ensures)

pub returns-in_default-rank : goal.returns-in_default-rank
returns-in_default-rank c =
    let e = c.in-Some-elements.elements.now in
    no_tuple c.args.points.now c.requires c.args.name.now c.args.index.now c.in-Some.point e
    (elements_are c.args.points.now c.in-Some.point c.args.name.now c.in-Some.ensures.0 e
    c.in-Some.ensures.1 c.in-Some-elements.ensures)
    (rank_along e.kinds c.as_slice.result.now c.args.index.now None
    (c.as_slice.ensures ∙ c.get.ensures) c.in_default-rank.ensures)

pub ports_before-requires-clause-point : goal.ports_before-requires-clause-point
ports_before-requires-clause-point c =
    let l = within c.args.points.now c.in-Some.point (c.args.name.now, c.in-Some.ensures.0)
    c.in-Some.ensures.1 in
    omega (arith, l)

pub returns-then-number : goal.returns-then-number
returns-then-number c =
    let e = c.in-Some-elements.elements.now in
    found c.args.points.now c.in-Some.point c.args.name.now e c.args.index.now c.in-Some-rank.rank
    c.ports_before.result c.saturating_add-number.result
    (elements_are c.args.points.now c.in-Some.point c.args.name.now c.in-Some.ensures.0 e
    c.in-Some.ensures.1 c.in-Some-elements.ensures)
    (rank_along e.kinds c.as_slice.result.now c.args.index.now (Some c.in-Some-rank.rank)
    (c.as_slice.ensures ∙ c.get.ensures) c.in-Some-rank.ensures) c.ports_before.ensures
    c.saturating_add-number.ensures (omega arith)

pub returns-else-number : goal.returns-else-number
returns-else-number c =
    let e = c.in-Some-elements.elements.now in
    too_far c.args.points.now c.requires c.in-Some.point c.args.name.now e c.args.index.now
    c.in-Some-rank.rank c.ports_before.result c.saturating_add-number.result
    (elements_are c.args.points.now c.in-Some.point c.args.name.now c.in-Some.ensures.0 e
    c.in-Some.ensures.1 c.in-Some-elements.ensures)
    (rank_along e.kinds c.as_slice.result.now c.args.index.now (Some c.in-Some-rank.rank)
    (c.as_slice.ensures ∙ c.get.ensures) c.in-Some-rank.ensures) c.ports_before.ensures
    c.saturating_add-number.ensures c.if-number.false
