-- What holds of each name that a constant or the text of a type uses.
use Rattle.std.proofs.Common.{ℕ, ◌<◌}
use Rattle.est_syntax.specs.declared.constant.Constant.{Constant}
use Rattle.est_syntax.specs.declared.constant.Constant.TheVariants as constants
use Rattle.est_syntax.specs.declared.name.Used.{Used}
use Rattle.est_syntax.specs.declared.type_text.TypeText.{TypeText, Row_of-TypeText, end_of-TypeText}
use Rattle.est_syntax.specs.declared.type_text.TypeText.{more_of-TypeText, Row_of-VarDef}
use Rattle.est_syntax.specs.declared.type_text.TypeText.{end_of-VarDef, more_of-VarDef}
use Rattle.est_syntax.specs.declared.type_text.TypeText.TheVariants as text
use Rattle.law_sentences.specs.WrittenExpressions.{OfConstant, EachUse, RowUse, FieldsUse}

-- the names that a constant and a text use stand before a place
abbrev pub NameBefore : ℕ → Constant → Type 0
NameBefore b c = OfConstant (λ u. u.place < b) c

abbrev pub UsesBefore : ℕ → TypeText → Type 0
UsesBefore b t = EachUse (λ u. u.place < b) t

abbrev pub RowBefore : ℕ → {n : _} → Row_of-TypeText n → Type 0
RowBefore b row = RowUse (λ u. u.place < b) row

abbrev pub FieldsBefore : ℕ → {n : _} → Row_of-VarDef n → Type 0
FieldsBefore b row = FieldsUse (λ u. u.place < b) row

-- what holds of names so holds of them otherwise
module _ (Q R : Used → Type 0) (f : (u : Used) → Q u → R u) where
  pub constant_then : (c : Constant) → OfConstant Q c → OfConstant R c
  constant_then (constants.Named sign u place) q = f u q
  constant_then (constants.Number sign n place) q = tt
  constant_then (constants.Character code place) q = tt

  mutual
    pub text_then : (t : TypeText) → EachUse Q t → EachUse R t
    text_then (text.Named u) q = f u q
    text_then (text.Range low high) q = (constant_then low q.0, constant_then high q.1)
    text_then (text.Names names place) q = tt
    text_then (text.Array' x index y of place) q = (row_then index q.0, row_then of q.1)
    text_then (text.Fields' x defs place) q = fields_then defs q
    text_then (text.Set' x of place) q = row_then of q

    row_then : {n : _} (row : Row_of-TypeText n) → RowUse Q row → RowUse R row
    row_then end_of-TypeText q = tt
    row_then (more_of-TypeText t rest) q = (text_then t q.0, row_then rest q.1)

    fields_then : {n : _} (row : Row_of-VarDef n) → FieldsUse Q row → FieldsUse R row
    fields_then end_of-VarDef q = tt
    fields_then (more_of-VarDef names t rest) q = (text_then t q.0, fields_then rest q.1)

-- what holds of every name holds of those
module _ (Q : Used → Type 0) (all : (u : Used) → Q u) where
  pub of_constant : (c : Constant) → OfConstant Q c
  of_constant (constants.Named sign u place) = all u
  of_constant (constants.Number sign n place) = tt
  of_constant (constants.Character code place) = tt

  mutual
    pub of_text : (t : TypeText) → EachUse Q t
    of_text (text.Named u) = all u
    of_text (text.Range low high) = (of_constant low, of_constant high)
    of_text (text.Names names place) = tt
    of_text (text.Array' x index y of place) = (of_row index, of_row of)
    of_text (text.Fields' x defs place) = of_fields defs
    of_text (text.Set' x of place) = of_row of

    of_row : {n : _} (row : Row_of-TypeText n) → RowUse Q row
    of_row end_of-TypeText = tt
    of_row (more_of-TypeText t rest) = (of_text t, of_row rest)

    of_fields : {n : _} (row : Row_of-VarDef n) → FieldsUse Q row
    of_fields end_of-VarDef = tt
    of_fields (more_of-VarDef names t rest) = (of_text t, of_fields rest)
