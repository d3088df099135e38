-- What the parts of the text of a type declare, over lists.
use Rattle.std.specs.Prelude.{ℕ, List, [], ◌∷◌}
use Rattle.est_syntax.specs.declared.type_text.TypeText.{TypeText}
use Rattle.est_syntax.specs.declared.type_text.VarDef.{VarDef}
use Rattle.rule_declares.specs.rule_scope.declared.declaration.Member.TheVariants as member
use Rattle.rule_declares.specs.rule_scope.declared.declaration.Within.{Within}
use Rattle.rule_declares.specs.rule_scope.Outline.{Outline}
use Rattle.rule_declares.specs.Declares.{text_declares, names_put}

abbrev pub texts_declare : Within → List TypeText → Outline → Outline
texts_declare w [] o = o
texts_declare w (t ∷ ts) o = texts_declare w ts (text_declares w t o)

abbrev pub field_declares : Within → ℕ → VarDef → Outline → Outline
field_declares w region v o = text_declares w v.text (names_put region v.names member.Field o)

abbrev pub fields_declare : Within → ℕ → List VarDef → Outline → Outline
fields_declare w region [] o = o
fields_declare w region (v ∷ vs) o = fields_declare w region vs (field_declares w region v o)
