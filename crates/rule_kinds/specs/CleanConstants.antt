-- What the definitions keep.
use Rattle.std.specs.Prelude.{◌≡◌, [], Some}
use Rattle.est_syntax.specs.declared.constant.Constant.{Constant}
use Rattle.est_syntax.specs.declared.type_text.TypeText.{TypeText}
use Rattle.rule_scope.specs.declared.declaration.Measured.{Measured}
use Rattle.rule_scope.specs.Outline.{Outline}
use Rattle.rule_kinds.specs.declared.value.Valued.{Valued}
use Rattle.rule_kinds.specs.Constants.{constant_value, constant_faults}
use Rattle.rule_kinds.specs.TypeTexts.{text_type, text_faults}

-- a constant with a value breaks no rule
abbrev pub ConstantsAreClean : Type 0
ConstantsAreClean = (o : Outline) (c : Constant) (v : Valued) → constant_value o c ≡ Some v
    → constant_faults o c ≡ []

-- the text of a type with a kind breaks no rule
abbrev pub TextsAreClean : Type 0
TextsAreClean = (o : Outline) (t : TypeText) (m : Measured) → text_type o t ≡ Some m
    → text_faults o t ≡ []
