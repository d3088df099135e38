use Rattle.std.proofs.Common.{◌≡◌, refl, sym, ◌∙◌}
use Rattle.est_meaning.proofs.Endings.{not_true}
use Rattle.est_explanation.proofs.replay.end.Goals as goal

pub returns-then-met-clause-ending : goal.returns-then-met-clause-ending
returns-then-met-clause-ending g c spec speaks =
    (refl, (c.in_ok-met.ensures.met spec speaks).0 c.if-met.true)

pub returns-else-met-clause-ending : goal.returns-else-met-clause-ending
returns-else-met-clause-ending g c spec speaks = (
  refl,
  refl,
  λ met. not_true (sym c.if-met.false ∙ (c.in_ok-met.ensures.met spec speaks).1 met),
)
