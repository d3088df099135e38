use Rattle.plain_clauses.specs.plain_systems.HeldSystems.{situation_of}
use Rattle.plain_clauses.specs.plain_transitions.WrittenTransitions.{awaited_of}
use Rattle.plain_clauses.proofs.KnownLaws.{at_plain_point}
use Rattle.plain_guards.proofs.sight.await_plain.Goals as goal

pub returns-clause-sight : goal.returns-clause-sight
returns-clause-sight c = λ limit ch b known here none.
    at_plain_point limit c.args.text.now (situation_of c.args.working.now.system) ch
    (awaited_of c.args.awaits.now) c.args.declared here c.args.candidate.now.instance
    c.args.working.now.frames b c.take.new.working.frames c.in_ok-sight.sight
    c.new.result none c.new.ensures c.in_ok-sight.ensures.passes
    (c.in_ok-sight.ensures.sight known)
