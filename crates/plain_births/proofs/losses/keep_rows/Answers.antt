use Rattle.std.proofs.Common.{rules, ap, ◌∙◌, not}
use Rattle.std.proofs.lemmas.Fn.{filter_same}
use Rattle.plain_texts.specs.mean_blocks.declared.situation.Row.{Row}
use Rattle.plain_texts.specs.mean_blocks.InstanceEffects.{is_among}
use Rattle.plain_births.specs.LostRows.{rows_without}
use Rattle.plain_births.proofs.losses.keep_rows.Goals as goal

pub returns : goal.returns
returns c =
    filter_same _ (λ (r : Row). not (is_among c.args.gone.now r.number)) _
    (λ x b f' k. search rules) _ _ c.retain.ensures.filtered
    ∙ ap (rows_without c.args.gone.now) (c.rows.view_is ∙ c.in_ok-rows.ensures.value)
