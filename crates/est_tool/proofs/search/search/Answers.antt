use Rattle.std.proofs.Common.{ap, subst, sym, ◌∙◌}
use Rattle.est_meaning.specs.mean_blocks.TextByPlace.{Text}
use Rattle.est_meaning.specs.AllowedEvents.{IsAllowedTrace}
use Rattle.est_tool.proofs.SearchLaws.{found_searched}
use Rattle.est_tool.proofs.search.search.Goals as goal

pub explain-requires-clause-allowed : goal.explain-requires-clause-allowed
explain-requires-clause-allowed c =
    let s = rw c.in-Ready.is at c.in_ok-started.ensures in
    λ spec speaks. subst (λ x. IsAllowedTrace x c.args.trace.now)
    (ap (λ (t : Text). t.spec) (sym s.0 ∙ speaks)) c.requires

pub returns-in_ok-verdict-in-Ready : goal.returns-in_ok-verdict-in-Ready
returns-in_ok-verdict-in-Ready c =
    let s = rw c.in-Ready.is at c.in_ok-started.ensures in
    found_searched c.args.limits.now c.args.checked.now c.args.trace.now _ _ _ _ c.as_slice.ensures
    (s.1.stack_is c.args.checked.now s.0)
    (c.in_ok-verdict-in-Ready.ensures.verdict c.args.checked.now s.0)
