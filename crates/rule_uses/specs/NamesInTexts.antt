-- The names that constants and texts of types look up, in the order of the text (ISO 7185, 6.3 and
-- 6.4).
use Rattle.std.specs.Prelude.{List, [], ◌∷◌, ◌++◌}
use Rattle.est_syntax.specs.declared.name.Used.{Used}
use Rattle.est_syntax.specs.declared.constant.Constant.{Constant}
use Rattle.est_syntax.specs.declared.constant.Constant.TheVariants as constant
use Rattle.est_syntax.specs.declared.type_text.TypeText.{TypeText, Row_of-TypeText}
use Rattle.est_syntax.specs.declared.type_text.TypeText.{end_of-TypeText}
use Rattle.est_syntax.specs.declared.type_text.TypeText.{more_of-TypeText, Row_of-VarDef}
use Rattle.est_syntax.specs.declared.type_text.TypeText.{end_of-VarDef, more_of-VarDef}
use Rattle.est_syntax.specs.declared.type_text.TypeText.TheVariants as text
use Rattle.est_syntax.specs.declared.type_text.VarDef.{VarDef}

-- A constant looks up the name that it is.
abbrev pub constant_names : Constant → List Used
constant_names (constant.Named sign name place) = name ∷ []
constant_names _ = []

-- Constants look up what each of them does.
abbrev pub constants_names : List Constant → List Used
constants_names [] = []
constants_names (c ∷ cs) = constant_names c ++ constants_names cs

abbrev mutual
  -- The text of a type looks up the names of types and constants in it, and declares the others.
  pub text_names : TypeText → List Used
  text_names (text.Named u) = u ∷ []
  text_names (text.Range low high) = constant_names low ++ constant_names high
  text_names (text.Names names place) = []
  text_names (text.Array' n index p element place) = texts_row index ++ text_box element
  text_names (text.Fields' n fields place) = fields_row fields
  text_names (text.Set' p base place) = text_box base

  -- The text in a box looks up what it does outside.
  pub text_box : {n : _} → Row_of-TypeText n → List Used
  text_box end_of-TypeText = []
  text_box (more_of-TypeText t rest) = text_names t

  -- The texts within a text look up what each of them does.
  pub texts_row : {n : _} → Row_of-TypeText n → List Used
  texts_row end_of-TypeText = []
  texts_row (more_of-TypeText t rest) = text_names t ++ texts_row rest

  -- The fields of a record look up what their texts do.
  pub fields_row : {n : _} → Row_of-VarDef n → List Used
  fields_row end_of-VarDef = []
  fields_row (more_of-VarDef names t rest) = text_names t ++ fields_row rest

-- Texts of types look up what each of them does.
abbrev pub texts_names : List TypeText → List Used
texts_names [] = []
texts_names (t ∷ ts) = text_names t ++ texts_names ts

-- Names declared with one type look up what its text does.
abbrev pub vardef_names : VarDef → List Used
vardef_names d = text_names d.text

-- Such declarations look up what each of them does.
abbrev pub vardefs_names : List VarDef → List Used
vardefs_names [] = []
vardefs_names (d ∷ ds) = vardef_names d ++ vardefs_names ds
