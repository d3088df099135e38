-- Trees as sentences have them: what their constants and the texts of their types use, and that
-- their enumerations have constants, the first right after the token that the enumeration begins
-- with (ISO 7185, 6.4.2.3).
use Rattle.std.specs.Prelude.{◌≡◌, ℕ, suc, ◌<◌, ◌≤◌, List, [], ◌∷◌, length}
use Rattle.est_syntax.specs.Kinds.{maxint}
use Rattle.est_syntax.specs.declared.name.Used.{Used}
use Rattle.est_syntax.specs.declared.constant.Constant.{Constant}
use Rattle.est_syntax.specs.declared.constant.Constant.TheVariants as constants
use Rattle.est_syntax.specs.declared.type_text.TypeText.{TypeText, Row_of-TypeText, end_of-TypeText}
use Rattle.est_syntax.specs.declared.type_text.TypeText.{more_of-TypeText, Row_of-VarDef}
use Rattle.est_syntax.specs.declared.type_text.TypeText.{end_of-VarDef, more_of-VarDef}
use Rattle.est_syntax.specs.declared.type_text.TypeText.TheVariants as text

-- the name that a constant uses, and each name that the text of a type does
module _ (Q : Used → Type 0) where
  abbrev pub OfConstant : Constant → Type 0
  OfConstant (constants.Named sign u place) = Q u
  OfConstant _ = Unit {0}

  abbrev mutual
    pub EachUse : TypeText → Type 0
    EachUse (text.Named u) = Q u
    EachUse (text.Range low high) = OfConstant low × OfConstant high
    EachUse (text.Names names place) = Unit {0}
    EachUse (text.Array' a index b of place) = RowUse index × RowUse of
    EachUse (text.Fields' a defs place) = FieldsUse defs
    EachUse (text.Set' a of place) = RowUse of

    pub RowUse : {n : _} → Row_of-TypeText n → Type 0
    RowUse end_of-TypeText = Unit {0}
    RowUse (more_of-TypeText t rest) = EachUse t × RowUse rest

    pub FieldsUse : {n : _} → Row_of-VarDef n → Type 0
    FieldsUse end_of-VarDef = Unit {0}
    FieldsUse (more_of-VarDef names t rest) = EachUse t × FieldsUse rest

-- the first of these names stands right after a place
abbrev pub FirstAfter : ℕ → List Used → Type 0
FirstAfter place [] = Unit {0}
FirstAfter place (u ∷ us) = u.place ≡ suc place

-- each enumeration within the text of a type has a constant, and not more than there are integers;
-- the first one stands right after the token that the enumeration begins with
abbrev mutual
  pub HasConstants : TypeText → Type 0
  HasConstants (text.Named u) = Unit {0}
  HasConstants (text.Range low high) = Unit {0}
  HasConstants (text.Names names place) =
      (0 < length names) × (length names ≤ suc maxint) × FirstAfter place names
  HasConstants (text.Array' a index b of place) = RowHas index × RowHas of
  HasConstants (text.Fields' a defs place) = FieldsHave defs
  HasConstants (text.Set' a of place) = RowHas of

  pub RowHas : {n : _} → Row_of-TypeText n → Type 0
  RowHas end_of-TypeText = Unit {0}
  RowHas (more_of-TypeText t rest) = HasConstants t × RowHas rest

  pub FieldsHave : {n : _} → Row_of-VarDef n → Type 0
  FieldsHave end_of-VarDef = Unit {0}
  FieldsHave (more_of-VarDef names t rest) = HasConstants t × FieldsHave rest
