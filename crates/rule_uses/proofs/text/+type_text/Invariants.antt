use Rattle.std.proofs.Common.{◌≡◌, drop}
use Rattle.rule_uses.specs.Closed.{all_free}
use Rattle.rule_uses.specs.NamesInTexts.{texts_names, vardefs_names}
use Rattle.rule_uses.proofs.text.+type_text.Given as goal

abbrev pub invariant-type_texts-loop-text : goal.invariant-type_texts-loop-text
invariant-type_texts-loop-text l =
    all_free l.outline l.routine (texts_names (drop l.text-index l.texts))
    ≡ all_free l.outline l.routine (texts_names l.texts)

abbrev pub invariant-vardefs-loop-def : goal.invariant-vardefs-loop-def
invariant-vardefs-loop-def l =
    all_free l.outline l.routine (vardefs_names (drop l.def-index l.defs))
    ≡ all_free l.outline l.routine (vardefs_names l.defs)
