use Rattle.std.proofs.Common.{◌≡◌, sym, subst, Option, Some}
use Rattle.std.specs.Option.{option_map}
use Rattle.plain_clauses.specs.plain_systems.HeldSystems.{situation_of}
use Rattle.plain_clauses.specs.plain_transitions.WrittenTransitions.{awaited_of}
use Rattle.plain_clauses.specs.plain_transitions.declared.written.Awaits.{Awaits}
use Rattle.plain_clauses.specs.JudgedClauses.{IsArrival}
use Rattle.plain_clauses.proofs.KnownLaws.{is_known}
use Rattle.plain_guards.proofs.sight.await_one.Goals as goal

pub returns-clause-sight : goal.returns-clause-sight
returns-clause-sight c = λ ch b written.
    let x = c.args.candidate.now.transition.now in
    let e : x.awaits ≡ Some c.in-Some.awaits = cc in
    subst (λ (w : Option Awaits). IsArrival c.args.limit c.args.text.now
    (situation_of c.args.working.now.system) ch (option_map awaited_of w)
    c.await_this.new.working.frames c.in_ok-sight.sight) (sym e)
    (c.in_ok-sight.ensures.sight ch b
    (is_known c.args.text.now.outline ch.transition x c.in-Some.awaits written e))
