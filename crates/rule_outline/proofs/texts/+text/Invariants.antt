use Rattle.std.proofs.Common.{◌≡◌, drop}
use Rattle.rule_outline.specs.inside.DeclaredTexts.{texts_declare, fields_declare}
use Rattle.rule_outline.proofs.texts.+text.Given as goal

abbrev pub invariant-texts_declare-loop-text : goal.invariant-texts_declare-loop-text
invariant-texts_declare-loop-text l = texts_declare l.within (drop l.text-index l.texts) l.outline
    ≡ texts_declare l.within l.texts l.fn.outline

abbrev pub invariant-fields_declare-loop-field : goal.invariant-fields_declare-loop-field
invariant-fields_declare-loop-field l = fields_declare l.within l.region
    (drop l.field-index l.fields) l.outline ≡ fields_declare l.within l.region l.fields l.fn.outline
