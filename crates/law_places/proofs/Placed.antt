-- Where names, constants and the texts of types stand, as these are made of rows.
use Rattle.std.proofs.Common.{ℕ, suc, ◌<◌, ◌≤◌, ◌^◌, List}
use Rattle.std.proofs.Common.{[], ◌∷◌, arith}
use Rattle.std.proofs.Common.{Option, Some, None}
use Rattle.est_syntax.specs.declared.constant.Sign.{Sign}
use Rattle.est_syntax.specs.declared.name.Used.{Used}
use Rattle.est_syntax.specs.declared.constant.Constant.{Constant}
use Rattle.est_syntax.specs.declared.constant.Constant.TheVariants as constant
use Rattle.est_syntax.specs.declared.type_text.TypeText.{TypeText, Row_of-TypeText, end_of-TypeText}
use Rattle.est_syntax.specs.declared.type_text.TypeText.{more_of-TypeText, Row_of-VarDef}
use Rattle.est_syntax.specs.declared.type_text.TypeText.{end_of-VarDef, more_of-VarDef}
use Rattle.est_syntax.specs.declared.type_text.TypeText.TheVariants as text
use Rattle.rule_kinds.specs.Constants.{constant_place, constant_last, number_place}
use Rattle.rule_kinds.specs.TypeTexts.{text_place}
use Rattle.rule_declares.specs.Lasts.{names_last, text_last, row_last, row_fields_last}

-- names stand between two places, one after the other
abbrev pub NamesPlaced : ℕ → ℕ → List Used → Type 0
NamesPlaced i j [] = i ≤ j
NamesPlaced i j (u ∷ us) = (i ≤ u.place) × NamesPlaced (suc u.place) j us

-- a constant stands between two places
abbrev pub ConstantPlaced : ℕ → ℕ → Constant → Type 0
ConstantPlaced i j (constant.Number sign n place) = (i ≤ place) × (place < j)
ConstantPlaced i j (constant.Named sign name place) =
    (i ≤ place) × (place ≤ name.place) × (name.place < j)
ConstantPlaced i j (constant.Character code place) = (i ≤ place) × (place < j)

-- the text of a type stands between two places, and each part of it after the one before it
abbrev mutual
  pub TextPlaced : ℕ → ℕ → TypeText → Type 0
  TextPlaced i j (text.Named u) = (i ≤ u.place) × (u.place < j)
  TextPlaced i j (text.Range low high) =
      (k : ℕ) × ConstantPlaced i k low × ConstantPlaced k j high
  TextPlaced i j (text.Names names place) = (i ≤ place) × NamesPlaced place j names
  TextPlaced i j (text.Array' a index b of place) =
      (k : ℕ) × (i ≤ place) × RowPlaced place k index × RowPlaced k j of × IsMore of
  TextPlaced i j (text.Fields' a defs place) = (i ≤ place) × FieldsPlaced place j defs
  TextPlaced i j (text.Set' a of place) = (i ≤ place) × RowPlaced place j of

  pub RowPlaced : ℕ → ℕ → {n : _} → Row_of-TypeText n → Type 0
  RowPlaced i j end_of-TypeText = i ≤ j
  RowPlaced i j (more_of-TypeText t rest) = (k : ℕ) × TextPlaced i k t × RowPlaced k j rest

  pub FieldsPlaced : ℕ → ℕ → {n : _} → Row_of-VarDef n → Type 0
  FieldsPlaced i j end_of-VarDef = i ≤ j
  FieldsPlaced i j (more_of-VarDef names t rest) =
      (k : ℕ) × (m : ℕ) × NamesPlaced i k names × TextPlaced k m t × FieldsPlaced m j rest

  -- a row has a text
  pub IsMore : {n : _} → Row_of-TypeText n → Type 0
  IsMore end_of-TypeText = ⊥
  IsMore (more_of-TypeText t rest) = Unit {0}

-- the name of a type or a range, which stands between two places
abbrev pub ShortPlaced : ℕ → ℕ → TypeText → Type 0
ShortPlaced i j (text.Named u) = (i ≤ u.place) × (u.place < j)
ShortPlaced i j (text.Range low high) =
    (k : ℕ) × ConstantPlaced i k low × ConstantPlaced k j high
ShortPlaced i j _ = ⊥

pub short_text : (i j : ℕ) (t : TypeText) → ShortPlaced i j t → TextPlaced i j t
short_text i j (text.Named u) h = h
short_text i j (text.Range low high) h = h
short_text i j (text.Names names place) h = absurd h
short_text i j (text.Array' a index b of place) h = absurd h
short_text i j (text.Fields' a defs place) h = absurd h
short_text i j (text.Set' a of place) h = absurd h

-- the second place is not before the first
pub names_on : (i j : ℕ) (us : List Used) → NamesPlaced i j us → i ≤ j
names_on i j [] h = h
names_on i j (u ∷ us) h = omega (arith, h.0, names_on (suc u.place) j us h.1)

pub constant_on : (i j : ℕ) (c : Constant) → ConstantPlaced i j c → i < j
constant_on i j (constant.Number sign n place) h = omega (arith, h.0, h.1)
constant_on i j (constant.Named sign name place) h = omega (arith, h.0, h.1, h.2)
constant_on i j (constant.Character code place) h = omega (arith, h.0, h.1)

mutual
  pub text_on : (i j : ℕ) (t : TypeText) → TextPlaced i j t → i ≤ j
  text_on i j (text.Named u) h = omega (arith, h.0, h.1)
  text_on i j (text.Range low high) h =
      omega (arith, constant_on i h.0 low h.1, constant_on h.0 j high h.2)
  text_on i j (text.Names names place) h = omega (arith, h.0, names_on place j names h.1)
  text_on i j (text.Array' a index b of place) h =
      omega (arith, h.1, row_on place h.0 index h.2, row_on h.0 j of h.3)
  text_on i j (text.Fields' a defs place) h = omega (arith, h.0, fields_on place j defs h.1)
  text_on i j (text.Set' a of place) h = omega (arith, h.0, row_on place j of h.1)

  pub row_on : (i j : ℕ) {n : _} (row : Row_of-TypeText n) → RowPlaced i j row → i ≤ j
  row_on i j end_of-TypeText h = h
  row_on i j (more_of-TypeText t rest) h =
      omega (arith, text_on i h.0 t h.1, row_on h.0 j rest h.2)

  pub fields_on : (i j : ℕ) {n : _} (row : Row_of-VarDef n) → FieldsPlaced i j row → i ≤ j
  fields_on i j end_of-VarDef h = h
  fields_on i j (more_of-VarDef names t rest) h =
      omega (arith, names_on i h.0 names h.2, text_on h.0 h.1 t h.3, fields_on h.1 j rest h.4)

-- the last place of names: not before what they stand after, and before their end
pub names_from : (m i j d : ℕ) (us : List Used) → NamesPlaced i j us → m ≤ i → m ≤ d
    → m ≤ names_last us d
names_from m i j d [] h l n = n
names_from m i j d (u ∷ us) h l n =
    names_from m (suc u.place) j u.place us h.1 (omega (arith, h.0)) (omega (arith, h.0))

pub names_before : (i j d : ℕ) (us : List Used) → NamesPlaced i j us → d < j → names_last us d < j
names_before i j d [] h l = l
names_before i j d (u ∷ us) h l =
    names_before (suc u.place) j u.place us h.1 (omega (arith, names_on (suc u.place) j us h.1))

-- names stand up to the last one
pub names_upto : (i j d : ℕ) (us : List Used) → NamesPlaced i j us → i ≤ suc d
    → NamesPlaced i (suc (names_last us d)) us
names_upto i j d [] h l = l
names_upto i j d (u ∷ us) h l =
    (h.0, names_upto (suc u.place) j u.place us h.1 (omega arith))

-- a constant and the text of a type begin and end after what they stand after
number_from : (m place : ℕ) (sign : Option Sign) → m ≤ place → place < 2 ^ 32
    → m ≤ number_place sign place
number_from m place (Some sign) l n = omega arith
number_from m place None l n = l

pub constant_from : (i j : ℕ) (c : Constant) → j ≤ 2 ^ 32 → ConstantPlaced i j c
    → (i ≤ constant_place c) × (i ≤ constant_last c)
constant_from i j (constant.Number sign n place) fits h =
    (h.0, number_from i place sign h.0 (omega (arith, h.1)))
constant_from i j (constant.Named sign name place) fits h = (h.0, omega (arith, h.0, h.1))
constant_from i j (constant.Character code place) fits h = (h.0, h.0)

mutual
  pub text_from : (i j : ℕ) (t : TypeText) → j ≤ 2 ^ 32 → TextPlaced i j t → i ≤ text_last t
  text_from i j (text.Named u) fits h = h.0
  text_from i j (text.Range low high) fits h =
      omega (arith, constant_on i h.0 low h.1, (constant_from h.0 j high fits h.2).1)
  text_from i j (text.Names names place) fits h =
      names_from i place j place names h.1 h.0 h.0
  text_from i j (text.Array' a index b of place) fits h =
      row_from i h.0 j place of fits h.3 (omega (arith, h.1, row_on place h.0 index h.2)) h.1
  text_from i j (text.Fields' a defs place) fits h =
      fields_from i place j place defs fits h.1 h.0 h.0
  text_from i j (text.Set' a of place) fits h = row_from i place j place of fits h.1 h.0 h.0

  pub row_from : (m i j d : ℕ) {n : _} (row : Row_of-TypeText n) → j ≤ 2 ^ 32 → RowPlaced i j row
      → m ≤ i → m ≤ d → m ≤ row_last row d
  row_from m i j d end_of-TypeText fits h l n = n
  row_from m i j d (more_of-TypeText t rest) fits h l n =
      let e = row_on h.0 j rest h.2 in
      let f : i ≤ text_last t = text_from i h.0 t (omega arith) h.1 in omega arith

  pub fields_from : (m i j d : ℕ) {n : _} (row : Row_of-VarDef n) → j ≤ 2 ^ 32
      → FieldsPlaced i j row → m ≤ i → m ≤ d → m ≤ row_fields_last row d
  fields_from m i j d end_of-VarDef fits h l n = n
  fields_from m i j d (more_of-VarDef names t rest) fits h l n =
      let e = fields_on h.1 j rest h.4 in
      let k = names_on i h.0 names h.2 in
      let g = text_on h.0 h.1 t h.3 in
      let f : h.0 ≤ text_last t = text_from h.0 h.1 t (omega arith) h.3 in
      fields_from m h.1 j (text_last t) rest fits h.4 (omega arith) (omega arith)

-- a constant begins before its end
pub constant_within : (i j : ℕ) (c : Constant) → ConstantPlaced i j c → constant_place c < j
constant_within i j (constant.Number sign n place) h = h.1
constant_within i j (constant.Named sign name place) h = omega (arith, h.1, h.2)
constant_within i j (constant.Character code place) h = h.1

-- the text of a type begins after what it stands after
pub text_begins : (i j : ℕ) (t : TypeText) → j ≤ 2 ^ 32 → TextPlaced i j t → i ≤ text_place t
text_begins i j (text.Named u) fits h = h.0
text_begins i j (text.Range low high) fits h =
    let e = constant_on h.0 j high h.2 in
    (constant_from i h.0 low (omega arith) h.1).0
text_begins i j (text.Names names place) fits h = h.0
text_begins i j (text.Array' a index b of place) fits h = h.1
text_begins i j (text.Fields' a defs place) fits h = h.0
text_begins i j (text.Set' a of place) fits h = h.0

-- the text of a type begins no later than its end
pub text_within : (i j : ℕ) (t : TypeText) → TextPlaced i j t → text_place t ≤ j
text_within i j (text.Named u) h = omega (arith, h.1)
text_within i j (text.Range low high) h =
    omega (arith, constant_within i h.0 low h.1, constant_on h.0 j high h.2)
text_within i j (text.Names names place) h = names_on place j names h.1
text_within i j (text.Array' a index b of place) h =
    omega (arith, row_on place h.0 index h.2, row_on h.0 j of h.3)
text_within i j (text.Fields' a defs place) h = fields_on place j defs h.1
text_within i j (text.Set' a of place) h = row_on place j of h.1

-- a row that has a text ends with it
pub box_from : (i j d : ℕ) {n : _} (row : Row_of-TypeText n) → j ≤ 2 ^ 32 → RowPlaced i j row
    → IsMore row → i ≤ row_last row d
box_from i j d end_of-TypeText fits h more = absurd more
box_from i j d (more_of-TypeText t rest) fits h more =
    let e = row_on h.0 j rest h.2 in text_from i h.0 t (omega arith) h.1

-- a short type begins before its end
pub short_within : (i j : ℕ) (t : TypeText) → ShortPlaced i j t → text_place t < j
short_within i j (text.Named u) h = h.1
short_within i j (text.Range low high) h =
    omega (arith, constant_within i h.0 low h.1, constant_on h.0 j high h.2)
short_within i j (text.Names names place) h = absurd h
short_within i j (text.Array' a index b of place) h = absurd h
short_within i j (text.Fields' a defs place) h = absurd h
short_within i j (text.Set' a of place) h = absurd h
