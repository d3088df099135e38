use Rattle.std.proofs.Common.{◌≡◌, false, ap, sym, ◌∙◌}
use Rattle.std.specs.List.{list_any}
use Rattle.est_meaning.specs.mean_blocks.InstancePoints.{point}
use Rattle.est_meaning.specs.mean_blocks.QueueEffects.{queue_of}
use Rattle.plain_queues.specs.plain_systems.HeldSystems.{situation_of}
use Rattle.plain_clauses.specs.JudgedClauses.{is_awaited_first}
use Rattle.plain_clauses.proofs.MissedLaws.{unmet, no_head, missed_verdict}
use Rattle.plain_clauses.proofs.missed.is_missed.Goals as goal

pub returns : goal.returns
returns c = λ h t limit chosen ch of.
    let x = c.args.candidate.now in
    let s = c.args.system.now in
    let f = c.in-Some.fixed in
    let none : list_any (is_awaited_first x.instance f) s.queues ≡ false =
    ap (list_any (is_awaited_first x.instance f))
    (sym (c.as_slice-queues.ensures ∙ c.get.ensures))
    ∙ sym c.is_first_of_some.ensures ∙ unmet c.is_first_of_some.result h in
    missed_verdict limit t (situation_of s) x chosen ch of f
    (λ zs. no_head x.instance f s.queues (queue_of t (point x.instance f.point zs)) none)
    c.in-Some.is
