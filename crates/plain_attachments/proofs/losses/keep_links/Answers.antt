use Rattle.std.proofs.Common.{ap, ◌∙◌, List}
use Rattle.plain_texts.specs.mean_blocks.InstanceEffects.{links_without}
use Rattle.plain_systems.specs.declared.system.Link.{Link}
use Rattle.plain_systems.specs.HeldSystems.{linked}
use Rattle.plain_attachments.proofs.LostLaws.{links_kept}
use Rattle.plain_attachments.proofs.losses.keep_links.Goals as goal

pub returns : goal.returns
returns c =
    links_kept c.args.gone.now c.in_ok-links.links.now c.keep_from.new.links
    c.leave_out.new.links c.as_slice.result.now c.keep_from.ensures
    (c.as_slice.ensures ∙ c.in_ok-points.ensures) c.leave_out.ensures
    ∙ ap (λ (ls : List Link). links_without c.args.gone.now (linked ls))
    c.in_ok-links.ensures.value
