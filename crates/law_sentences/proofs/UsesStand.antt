-- Where the names stand that constants and texts of types use.
use Rattle.std.proofs.Common.{ℕ, suc, ◌≤◌, ◌^◌, arith}
use Rattle.est_syntax.specs.declared.constant.Constant.{Constant}
use Rattle.est_syntax.specs.declared.constant.Constant.TheVariants as constants
use Rattle.est_syntax.specs.declared.type_text.TypeText.{TypeText, Row_of-TypeText, end_of-TypeText}
use Rattle.est_syntax.specs.declared.type_text.TypeText.{more_of-TypeText, Row_of-VarDef}
use Rattle.est_syntax.specs.declared.type_text.TypeText.{end_of-VarDef, more_of-VarDef}
use Rattle.est_syntax.specs.declared.type_text.TypeText.TheBlock.{shape-the_row-TypeText-1}
use Rattle.est_syntax.specs.declared.type_text.TypeText.TheVariants as text
use Rattle.rule_kinds.specs.Constants.{constant_last}
use Rattle.rule_declares.specs.Lasts.{text_last, row_fields_last}
use Rattle.text_reader.specs.Shown.{node}
use Rattle.law_places.specs.PlaceOrder.{Stands}
use Rattle.law_places.proofs.FromTexts.{constant_placed, type_placed, short_placed}
use Rattle.law_places.proofs.FromTexts.{short_text_placed}
use Rattle.law_places.proofs.Placed.{ConstantPlaced, TextPlaced, RowPlaced, FieldsPlaced}
use Rattle.law_places.proofs.Placed.{ShortPlaced, constant_on, text_on, row_on, fields_on}
use Rattle.law_places.proofs.Placed.{constant_from, text_from, fields_from, names_on}
use Rattle.text_productions.specs.Nodes.{layer, a_constant, a_type, a_short_type}
use Rattle.law_sentences.specs.WrittenExpressions.{HasConstants}
use Rattle.law_sentences.proofs.Uses.{NameBefore, UsesBefore, RowBefore, FieldsBefore}

-- before the end of a constant or a text, or a later place
name_before : (i j d : ℕ) (c : Constant) → j ≤ d → ConstantPlaced i j c → NameBefore d c
name_before i j d (constants.Named sign u place) le h = omega (arith, h.2)
name_before i j d (constants.Number sign n place) le h = tt
name_before i j d (constants.Character code place) le h = tt

mutual
  text_before : (i j d : ℕ) (t : TypeText) → j ≤ d → TextPlaced i j t → UsesBefore d t
  text_before i j d (text.Named u) le h = omega (arith, h.1)
  text_before i j d (text.Range low high) le h =
      let k = constant_on h.0 j high h.2 in
      (name_before i h.0 d low (omega arith) h.1, name_before h.0 j d high le h.2)
  text_before i j d (text.Names names place) le h = tt
  text_before i j d (text.Array' x index y of place) le h =
      let k = row_on h.0 j of h.3 in
      (row_before place h.0 d index (omega arith) h.2, row_before h.0 j d of le h.3)
  text_before i j d (text.Fields' x defs place) le h = fields_before place j d defs le h.1
  text_before i j d (text.Set' x of place) le h = row_before place j d of le h.1

  row_before : (i j d : ℕ) {n : _} (row : Row_of-TypeText n) → j ≤ d → RowPlaced i j row
      → RowBefore d row
  row_before i j d end_of-TypeText le h = tt
  row_before i j d (more_of-TypeText t rest) le h =
      let k = row_on h.0 j rest h.2 in
      (text_before i h.0 d t (omega arith) h.1, row_before h.0 j d rest le h.2)

  fields_before : (i j d : ℕ) {n : _} (row : Row_of-VarDef n) → j ≤ d → FieldsPlaced i j row
      → FieldsBefore d row
  fields_before i j d end_of-VarDef le h = tt
  fields_before i j d (more_of-VarDef names t rest) le h =
      let k = fields_on h.1 j rest h.4 in
      (text_before h.0 h.1 d t (omega arith) h.3, fields_before h.1 j d rest le h.4)

-- up to their last place
pub name_to_last : (c : Constant) → NameBefore (suc (constant_last c)) c
name_to_last (constants.Named sign u place) = omega arith
name_to_last (constants.Number sign n place) = tt
name_to_last (constants.Character code place) = tt

mutual
  unfolding shape-the_row-TypeText-1

  text_upto : (i j : ℕ) (t : TypeText) → j ≤ 2 ^ 32 → TextPlaced i j t
      → UsesBefore (suc (text_last t)) t
  text_upto i j (text.Named u) fits h = omega arith
  text_upto i j (text.Range low high) fits h =
      let k = (constant_from h.0 j high fits h.2).1 in (
        name_before i h.0 (suc (constant_last high)) low (omega arith) h.1,
        name_to_last high,
      )
  text_upto i j (text.Names names place) fits h = tt
  text_upto i j (text.Array' x index y (more_of-TypeText of end_of-TypeText) place) fits h =
      let k : h.0 ≤ text_last of = text_from h.0 h.3.0 of (omega (arith, h.3.2)) h.3.1 in (
        row_before place h.0 (suc (text_last of)) index (omega arith) h.2,
        (text_upto h.0 h.3.0 of (omega (arith, h.3.2)) h.3.1, tt),
      )
  text_upto i j (text.Fields' x defs place) fits h = fields_upto place j place defs fits h.1
  text_upto i j (text.Set' x (more_of-TypeText of end_of-TypeText) place) fits h =
      (text_upto place h.1.0 of (omega (arith, h.1.2)) h.1.1, tt)

  fields_upto : (i j last : ℕ) {n : _} (row : Row_of-VarDef n) → j ≤ 2 ^ 32 → FieldsPlaced i j row
      → FieldsBefore (suc (row_fields_last row last)) row
  fields_upto i j last end_of-VarDef fits h = tt
  fields_upto i j last (more_of-VarDef us t end_of-VarDef) fits h =
      (text_upto h.0 h.1 t (omega (arith, h.4)) h.3, tt)
  fields_upto i j last (more_of-VarDef us t (more_of-VarDef vs u rest)) fits h =
      let r = h.4 in
      let k = fields_on r.1 j rest r.4 in
      let l = text_from r.0 r.1 u (omega arith) r.3 in
      let m = text_on r.0 r.1 u r.3 in
      let n : h.1 ≤ r.0 = names_on h.1 r.0 vs r.2 in
      let q = fields_from h.1 r.1 j (text_last u) rest fits r.4 (omega arith) (omega arith) in (
        text_before h.0 h.1 (suc (row_fields_last rest (text_last u))) t (omega arith) h.3,
        fields_upto h.1 j (text_last t) (more_of-VarDef vs u rest) fits h.4,
      )

-- so it is of what stands in order
pub name_stands : (c : Constant) (a b : ℕ) → Stands layer (node (a_constant c)) a b
    → NameBefore b c
name_stands c a b s = name_before a b b c (omega arith) (constant_placed c s)

pub text_stands : (t : TypeText) (a b d : ℕ) → b ≤ d → Stands layer (node (a_type t)) a b
    → UsesBefore d t
text_stands t a b d le s = text_before a b d t le (type_placed t s)

pub short_stands : (t : TypeText) (a b d : ℕ) → b ≤ d → Stands layer (node (a_short_type t)) a b
    → UsesBefore d t
short_stands t a b d le s = text_before a b d t le (short_text_placed t a b s)

pub text_to_last : (t : TypeText) (a b : ℕ) → b ≤ 2 ^ 32 → Stands layer (node (a_type t)) a b
    → UsesBefore (suc (text_last t)) t
text_to_last t a b le s = text_upto a b t le (type_placed t s)

-- a name and a range hold no enumeration
placed_has : (i j : ℕ) (t : TypeText) → ShortPlaced i j t → HasConstants t
placed_has i j (text.Named u) h = tt
placed_has i j (text.Range low high) h = tt
placed_has i j (text.Names names place) h = absurd h
placed_has i j (text.Array' x index y of place) h = absurd h
placed_has i j (text.Fields' x defs place) h = absurd h
placed_has i j (text.Set' x of place) h = absurd h

pub short_has : (t : TypeText) (a b : ℕ) → Stands layer (node (a_short_type t)) a b
    → HasConstants t
short_has t a b s = placed_has a b t (short_placed t s)
