use Rattle.std.proofs.Common.{◌≡◌, true, sym, subst, ◌∙◌, rules, arith}
use Rattle.std.specs.Option.{option_map}
use Rattle.plain_clauses.specs.plain_systems.declared.system.System.{System}
use Rattle.plain_clauses.specs.plain_systems.HeldSystems.{situation_of}
use Rattle.plain_clauses.specs.plain_transitions.WrittenTransitions.{awaited_of}
use Rattle.plain_clauses.specs.JudgedClauses.{IsArrival}
use Rattle.plain_clauses.proofs.JudgedLaws.{before, from_holds}
use Rattle.plain_guards.proofs.sight.look.Goals as goal

pub returns-clause-sight : goal.returns-clause-sight
returns-clause-sight c = λ ch of.
    let limit = c.args.limit in
    let t = c.args.text.now in
    let s = situation_of c.args.working.now.system in
    let x = c.args.candidate.now in
    let f : c.fits.result ≡ true = first_of (search rules, grind arith) in
    from_holds limit t s x c.args.chosen ch of c.await_one.new.working.frames
    c.in_ok-sight.sight (sym c.fits.ensures ∙ f)
    (subst (λ (y : System). IsArrival limit t (situation_of y) ch
    (option_map awaited_of x.transition.now.awaits) c.await_one.new.working.frames
    c.in_ok-sight.sight) c.in_ok-begin.ensures.system
    (c.in_ok-sight.ensures.sight ch
    (before limit t s x c.args.chosen ch of c.begin.new.working.frames
    c.in_ok-begin.ensures.frames) of.transition))
