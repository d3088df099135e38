use Rattle.std.proofs.Common.{rules, ap, ◌∙◌, not, List}
use Rattle.std.specs.List.{filter}
use Rattle.std.proofs.lemmas.Fn.{filter_same}
use Rattle.plain_systems.specs.declared.system.Link.{Link}
use Rattle.plain_systems.specs.HeldSystems.{is_from, linked}
use Rattle.plain_attachments.proofs.LinkLaws.{cut_links}
use Rattle.plain_attachments.proofs.links.cut.Goals as goal

pub returns : goal.returns
returns c =
    ap linked (filter_same _ (λ (l : Link). not (is_from c.args.from.now l)) _
    (λ x b f' k. search rules) _ _ c.retain.ensures.filtered)
    ∙ ap (λ (ls : List Link). linked (filter (λ (l : Link). not (is_from c.args.from.now l)) ls))
    c.links.view_is
    ∙ cut_links c.args.from.now c.args.links.now
