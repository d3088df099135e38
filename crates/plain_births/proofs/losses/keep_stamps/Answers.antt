use Rattle.std.proofs.Common.{rules, ap, ◌∙◌, not, List}
use Rattle.std.specs.List.{filter}
use Rattle.std.proofs.lemmas.Fn.{filter_same}
use Rattle.plain_texts.specs.mean_blocks.InstanceEffects.{is_among}
use Rattle.plain_frames.specs.plain_systems.declared.system.Stamp.{Stamp}
use Rattle.plain_frames.specs.plain_systems.HeldSystems.{stamped}
use Rattle.plain_births.proofs.StampLaws.{kept_stamps}
use Rattle.plain_births.proofs.losses.keep_stamps.Goals as goal

pub returns : goal.returns
returns c =
    ap stamped (filter_same _ (λ (s : Stamp). not (is_among c.args.gone.now s.instance)) _
    (λ x b f' k. search rules) _ _ c.retain.ensures.filtered)
    ∙ ap (λ (ss : List Stamp).
    stamped (filter (λ (s : Stamp). not (is_among c.args.gone.now s.instance)) ss))
    (c.stamps.view_is ∙ c.in_ok-stamps.ensures.value)
    ∙ kept_stamps c.args.gone.now c.args.stamps.now
