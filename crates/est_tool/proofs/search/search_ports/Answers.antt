use Rattle.std.proofs.Common.{ap, subst, sym, ◌∙◌}
use Rattle.est_meaning.specs.mean_blocks.TextByPlace.{Text}
use Rattle.mean_ports.specs.Merges.{AreAllowedLists}
use Rattle.est_tool.proofs.SearchLaws.{found_ports, found_few}
use Rattle.est_tool.proofs.search.search_ports.Goals as goal

pub explain_ports-requires-clause-allowed : goal.explain_ports-requires-clause-allowed
explain_ports-requires-clause-allowed c =
    let s = rw c.in-Ready.is at c.in_ok-started.ensures in
    λ spec speaks. subst (λ x. AreAllowedLists x c.args.lists.now)
    (ap (λ (t : Text). t.spec) (sym s.0 ∙ speaks)) c.requires

pub returns-in_ok-verdict-in-Ready-clause-found : goal.returns-in_ok-verdict-in-Ready-clause-found
returns-in_ok-verdict-in-Ready-clause-found c =
    let s = rw c.in-Ready.is at c.in_ok-started.ensures in
    found_ports c.args.limits.now c.args.checked.now c.args.lists.now _ _ _ _ c.requires
    c.as_slice.ensures
    (s.1.stack_is c.args.checked.now s.0)
    (c.in_ok-verdict-in-Ready.ensures.verdict c.args.checked.now s.0)

pub returns-in_ok-verdict-in-Ready-clause-few : goal.returns-in_ok-verdict-in-Ready-clause-few
returns-in_ok-verdict-in-Ready-clause-few c =
    let s = rw c.in-Ready.is at c.in_ok-started.ensures in
    found_few _ c.args.checked.now c.args.lists.now _ _ c.requires
    (c.in_ok-verdict-in-Ready.ensures.verdict c.args.checked.now s.0)
