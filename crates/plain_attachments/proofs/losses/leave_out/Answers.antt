use Rattle.std.proofs.Common.{rules, ap, ◌∙◌, not, List}
use Rattle.std.specs.List.{filter, list_any}
use Rattle.std.proofs.lemmas.Fn.{filter_same}
use Rattle.plain_texts.specs.mean_blocks.declared.situation.InteractionPoint.{InteractionPoint}
use Rattle.plain_texts.specs.mean_blocks.GlobalSituation.{is_point}
use Rattle.plain_systems.specs.declared.system.Link.{Link}
use Rattle.plain_attachments.proofs.losses.leave_out.Goals as goal

pub returns : goal.returns
returns c =
    filter_same _ (λ (l : Link). not (list_any (λ (own : InteractionPoint). is_point own l.from)
    c.args.points.now)) _ (λ x b f' k. search rules) _ _ c.retain.ensures.filtered
    ∙ ap (λ (ls : List Link). filter (λ (l : Link).
    not (list_any (λ (own : InteractionPoint). is_point own l.from) c.args.points.now)) ls)
    c.links.view_is
