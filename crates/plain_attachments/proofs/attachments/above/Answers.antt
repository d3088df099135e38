use Rattle.std.proofs.Common.{ap, ◌∙◌, sym, refl}
use Rattle.std.specs.List.{list_any}
use Rattle.plain_texts.specs.mean_blocks.GlobalSituation.{is_point}
use Rattle.plain_systems.specs.declared.system.Link.{Link}
use Rattle.plain_systems.specs.HeldSystems.{situation_of}
use Rattle.plain_attachments.proofs.AttachmentLaws.{not_above}
use Rattle.plain_attachments.proofs.attachments.above.Goals as goal

pub returns-then-not-is_reached : goal.returns-then-not-is_reached
returns-then-not-is_reached c =
    sym (not_above c.args.text.now (situation_of c.args.system.now) c.args.point.now
    c.args.system.now.downs refl
    (sym (c.is_reached.ensures
    ∙ ap (list_any (λ (l : Link). is_point c.args.point.now l.to)) c.get.ensures)
    ∙ c.if-not-is_reached.true))
