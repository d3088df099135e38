use Rattle.std.proofs.Common.{ap, sym, ◌∙◌}
use Rattle.rule_uses.specs.Closed.{all_free}
use Rattle.rule_uses.specs.NamesInTexts.{text_names, texts_names}
use Rattle.rule_uses.proofs.Sequences.{both_free, first_bound}
use Rattle.rule_uses.proofs.TextRows.{array_at}
use Rattle.rule_uses.proofs.text.+type_text.Goals as goal

pub type_text-returns-then-type_texts : goal.type_text-returns-then-type_texts
type_text-returns-then-type_texts t c =
    both_free c.args.outline.now c.args.routine _ _ _ _ (array_at _ _ _ _ c.in-Array.is)
    (sym c.if-type_texts.true ∙ c.type_texts.ensures
    ∙ ap (λ l. all_free c.args.outline.now c.args.routine (texts_names l)) c.as_slice.ensures)
    (c.type_text.ensures
    ∙ ap (λ l. all_free c.args.outline.now c.args.routine (text_names l)) c.get.ensures)

pub type_text-returns-else-type_texts : goal.type_text-returns-else-type_texts
type_text-returns-else-type_texts t c =
    c.if-type_texts.false
    ∙ first_bound c.args.outline.now c.args.routine _ _ _ (array_at _ _ _ _ c.in-Array.is)
    (sym c.if-type_texts.false ∙ c.type_texts.ensures
    ∙ ap (λ l. all_free c.args.outline.now c.args.routine (texts_names l)) c.as_slice.ensures)
