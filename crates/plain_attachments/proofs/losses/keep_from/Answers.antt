use Rattle.std.proofs.Common.{rules, ap, ◌∙◌, not, List}
use Rattle.std.specs.List.{filter}
use Rattle.std.proofs.lemmas.Fn.{filter_same}
use Rattle.plain_texts.specs.mean_blocks.InstanceEffects.{is_among}
use Rattle.plain_systems.specs.declared.system.Link.{Link}
use Rattle.plain_attachments.proofs.losses.keep_from.Goals as goal

pub returns : goal.returns
returns c =
    filter_same _ (λ (l : Link). not (is_among c.args.gone.now l.from.instance)) _
    (λ x b f' k. search rules) _ _ c.retain.ensures.filtered
    ∙ ap (λ (ls : List Link).
    filter (λ (l : Link). not (is_among c.args.gone.now l.from.instance)) ls) c.links.view_is
