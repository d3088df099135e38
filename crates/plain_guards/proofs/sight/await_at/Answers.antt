use Rattle.std.proofs.Common.{sym, ap, ◌∙◌}
use Rattle.std.specs.List.{list_any}
use Rattle.plain_clauses.specs.plain_systems.HeldSystems.{situation_of}
use Rattle.plain_clauses.specs.plain_transitions.WrittenTransitions.{awaited_of}
use Rattle.plain_blocks.specs.plain_operands.ExecutionSites.{site_of, view_of}
use Rattle.plain_clauses.specs.declared.sights.Sight.{Sight}
use Rattle.plain_clauses.specs.EvaluatedParts.{is_past, ordinals_held}
use Rattle.plain_clauses.proofs.ArrivalLaws.{parts_are, no_subscripts, at_point}
use Rattle.plain_guards.proofs.sight.await_at.Goals as goal

pub returns-in_default-clause-sight : goal.returns-in_default-clause-sight
returns-in_default-clause-sight c = λ ch b known here.
    no_subscripts c.args.limit c.args.text.now (situation_of c.args.working.now.system) ch
    (awaited_of c.args.awaits.now) c.args.declared here c.args.candidate.now.instance
    c.args.working.now.frames b (site_of c.site_at-site.result) c.site_at-site.ensures.site
    c.in_ok-parts.parts
    (parts_are c.args.limit c.args.text.now c.site_at-site.result.text.now c.args.declared
    c.args.awaits.now.at.now.index c.as_slice-index.result.now
    (view_of c.site_at-site.result c.args.working.now) c.in_ok-parts.parts
    c.site_at-site.ensures.text c.as_slice-index.ensures c.in_ok-parts.ensures)
    c.args.working.now.frames c.nothing.result
    (ap (λ (y : Sight). y.passes) c.nothing.ensures ∙ c.is_some_past-passes.ensures
    ∙ ap (list_any is_past) c.as_slice.ensures)
    (sym c.in_default.is ∙ c.in_ok-index.ensures ∙ ap ordinals_held c.as_slice-2.ensures)
    (ap (λ (y : Sight). y.holds) c.nothing.ensures)

pub returns-clause-sight : goal.returns-clause-sight
returns-clause-sight c = λ ch b known here.
    at_point c.args.limit c.args.text.now (situation_of c.args.working.now.system) ch
    (awaited_of c.args.awaits.now) c.args.declared here c.args.candidate.now.instance
    c.args.working.now.frames b (site_of c.site_at-site.result) c.site_at-site.ensures.site
    c.in_ok-parts.parts
    (parts_are c.args.limit c.args.text.now c.site_at-site.result.text.now c.args.declared
    c.args.awaits.now.at.now.index c.as_slice-index.result.now
    (view_of c.site_at-site.result c.args.working.now) c.in_ok-parts.parts
    c.site_at-site.ensures.text c.as_slice-index.ensures c.in_ok-parts.ensures)
    c.take.new.working.frames c.in_ok-sight.sight
    (c.in_ok-sight.ensures.passes ∙ c.is_some_past-passes.ensures
    ∙ ap (list_any is_past) c.as_slice.ensures)
    c.in-Some.index
    (sym c.in-Some.is ∙ c.in_ok-index.ensures ∙ ap ordinals_held c.as_slice-2.ensures)
    (c.in_ok-sight.ensures.sight known)
