use Rattle.std.proofs.Common.{◌≡◌, true, subst, rules, arith}
use Rattle.est_meaning.specs.mean_blocks.GlobalSituation.{Situation}
use Rattle.plain_clauses.specs.plain_systems.HeldSystems.{situation_of}
use Rattle.est_meaning.specs.GuardParts.{seen_by}
use Rattle.plain_clauses.specs.JudgedClauses.{IsJudged}
use Rattle.plain_clauses.proofs.JudgedLaws.{verdict_holds}
use Rattle.plain_guards.proofs.judging.judge.Goals as goal

pub returns-clause-verdict : goal.returns-clause-verdict
returns-clause-verdict c = λ ch of.
    let limit = c.args.limit in
    let t = c.args.text.now in
    let frames = c.look.new.working.frames in
    let h : c.in_ok-sight.sight.holds ≡ true = first_of (search rules, grind arith) in
    verdict_holds limit t (situation_of c.args.working.now.system) ch frames c.in_ok-sight.sight
    (c.in_ok-sight.ensures.sight ch of) c.in_ok-verdict.verdict h
    (subst (λ (y : Situation). IsJudged limit y ch (seen_by t y ch frames)
    c.in_ok-sight.sight.passes c.in_ok-verdict.verdict) c.in_ok-sight.ensures.system
    (c.in_ok-verdict.ensures c.args.chosen ch of))
