use Rattle.std.proofs.Common.{◌≡◌, sym, ◌∙◌, subst}
use Rattle.std.specs.Prelude.{OnOk}
use Rattle.est_meaning.specs.mean_blocks.GlobalSituation.{Situation}
use Rattle.plain_outputs.specs.plain_systems.HeldSystems.{situation_of}
use Rattle.plain_outside.proofs.OutsideSteps.{arrives_not, arrives}
use Rattle.plain_outside.proofs.outside.Outside.arrive.Goals as goal

pub returns-in_default : goal.returns-in_default
returns-in_default c = arrives_not c.args.self.now (situation_of c.args.system.now)
    c.args.interaction.now (sym c.in_default.is ∙ c.in_ok-item.ensures)

pub returns : goal.returns
returns c =
    subst (λ (y : Situation). OnOk c.deliver_at.result
    (situation_of c.deliver_at.new.system ≡ y))
    (arrives c.args.self.now c.args.text.now (situation_of c.args.system.now)
    c.args.interaction.now c.in-Some.item c.in_ok-point.point c.requires c.in_ok-point.ensures
    (sym c.in-Some.is ∙ c.in_ok-item.ensures)) c.deliver_at.ensures
