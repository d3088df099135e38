use Rattle.std.proofs.Common.{ap, ◌∙◌, None, List, [], ◌∷◌, ◌++◌}
use Rattle.plain_texts.specs.mean_blocks.LinkEffects.{with_point}
use Rattle.plain_systems.specs.declared.system.Link.{Link}
use Rattle.plain_systems.specs.HeldSystems.{linked}
use Rattle.plain_attachments.proofs.LinkLaws.{last_link}
use Rattle.plain_attachments.proofs.links.link.Goals as goal

pub returns : goal.returns
returns c =
    ap linked c.in_ok-push.ensures.ok
    ∙ ap (λ (l : Link). linked (c.cut.new.links ++ l ∷ [])) c.in_ok-link.ensures
    ∙ last_link c.args.from.now c.args.to.now c.cut.new.links (linked c.args.links.now)
    (c.cut.ensures
    ∙ ap (λ (ls : List Link). with_point c.args.from.now None (linked ls))
    c.in_ok-links.ensures.value)
