-- Constants, the texts of types and dimensions say in a later outline what they say in this one.
use Rattle.std.proofs.Common.{◌≡◌, ℕ, suc, ◌<◌, ◌≤◌, ◌^◌, Bool, ◌&&◌, List}
use Rattle.std.proofs.Common.{[], ◌∷◌, refl, ap, Option, Some, None}
use Rattle.std.proofs.Common.{if◌then◌else◌, map, arith}
use Rattle.est_syntax.specs.declared.kind.Kind.{Kind}
use Rattle.est_syntax.specs.declared.kind.Kind.TheVariants as kind
use Rattle.est_syntax.specs.declared.name.Used.{Used}
use Rattle.est_syntax.specs.declared.constant.Constant.{Constant}
use Rattle.est_syntax.specs.declared.constant.Constant.TheVariants as constant
use Rattle.est_syntax.specs.declared.type_text.TypeText.{TypeText, Row_of-TypeText, end_of-TypeText}
use Rattle.est_syntax.specs.declared.type_text.TypeText.{more_of-TypeText, Row_of-VarDef}
use Rattle.est_syntax.specs.declared.type_text.TypeText.{end_of-VarDef, more_of-VarDef}
use Rattle.est_syntax.specs.declared.type_text.TypeText.TheVariants as text
use Rattle.rule_scope.specs.declared.declaration.Measured.{Measured}
use Rattle.rule_scope.specs.declared.declaration.Sort.TheVariants as sort
use Rattle.rule_scope.specs.Outline.{Outline}
use Rattle.rule_kinds.specs.declared.value.Gathered.{Gathered}
use Rattle.rule_kinds.specs.Constants.{constant_value, constant_last, signed_value}
use Rattle.rule_kinds.specs.TypeTexts.{text_type, row_type, row_arrays, row_fields, are_declared}
use Rattle.rule_kinds.specs.TypeTexts.{enumeration, scalar, are_members, known_fields, with_fields}
use Rattle.rule_kinds.specs.TypeTexts.{array_of, record_of, set_of, range, no_fields}
use Rattle.rule_kinds.specs.Dims.{dims_after, dims_of, with_dim}
use Rattle.rule_declares.specs.Lasts.{names_last, text_last, row_last, row_fields_last}
use Rattle.rule_declares.specs.Declares.{with_state, states_named}
use Rattle.law_places.specs.Later.{Later}
use Rattle.law_places.proofs.Meanings.{declaration_stays, value_stays, type_stays}
use Rattle.law_places.proofs.Placed.{NamesPlaced, ConstantPlaced, TextPlaced, RowPlaced}
use Rattle.law_places.proofs.Placed.{FieldsPlaced, names_on, names_from, constant_on, text_on}
use Rattle.law_places.proofs.Placed.{row_on}
use Rattle.law_places.proofs.Placed.{fields_on, constant_from, box_from, fields_from, ShortPlaced}
use Rattle.law_places.proofs.PlacedParts.{InOrder}
use Rattle.law_places.proofs.Declaring.{dims_on}

module _ (a c : ℕ) (o p : Outline) (later : Later a c o p) where
  -- the places before j and up to another are none after place c
  abbrev Reaches : ℕ → ℕ → Type 0
  Reaches j last = (q : ℕ) → q < j → q ≤ last → q ≤ c

  pub constant_stays : (i j : ℕ) (k : Constant) → ConstantPlaced i j k
      → ((q : ℕ) → q < j → q ≤ constant_last k → q ≤ c) → constant_value p k ≡ constant_value o k
  constant_stays i j (constant.Number sign n place) h reach = refl
  constant_stays i j (constant.Named sign name place) h reach =
      ap (signed_value sign)
      (value_stays a c o p later name (reach name.place h.2 (omega arith)))
  constant_stays i j (constant.Character code place) h reach = refl

  -- names before place a are declared there too, or not
  declared_stay : (i j : ℕ) (us : List Used) → NamesPlaced i j us → j ≤ a
      → are_declared p us ≡ are_declared o us
  declared_stay i j [] h l = refl
  declared_stay i j (u ∷ us) h l =
      let n = names_on (suc u.place) j us h.1 in
      λ k. later.declares u.place (omega arith) k && declared_stay (suc u.place) j us h.1 l k

  members_stay : (i j : ℕ) (us : List Used) → NamesPlaced i j us → j ≤ a
      → are_members p us ≡ are_members o us
  members_stay i j [] h l = refl
  members_stay i j (u ∷ us) h l =
      let n = names_on (suc u.place) j us h.1 in
      λ k. later.members u.place (omega arith) k && members_stay (suc u.place) j us h.1 l k

  -- names up to place c mean the same states
  pub states_stay : (i j d : ℕ) (us : List Used) → NamesPlaced i j us → names_last us d ≤ c
      → states_named p us ≡ states_named o us
  states_stay i j d [] h l = refl
  states_stay i j d (u ∷ us) h l =
      let place = u.place in
      let n : place ≤ names_last us place =
      names_from place (suc place) j place us h.1 (omega arith) (omega arith) in
      let m : names_last us place ≤ c = l in
      λ k. with_state (declaration_stays a c o p later u (omega arith) sort.State refl k)
      (states_stay (suc place) j place us h.1 l k)

  enumeration_stays : (i j : ℕ) (us : List Used) (place : ℕ) → NamesPlaced i j us → j ≤ a
      → enumeration p us place ≡ enumeration o us place
  enumeration_stays i j [] place h l = refl
  enumeration_stays i j (u ∷ us) place h l =
      ap (λ (b : Bool). if b
      then Some (scalar (kind.Enumeration place (map (λ (x : Used). x.name) (u ∷ us)))) else None)
      (declared_stay i j (u ∷ us) h l)

  mutual
    pub text_stays : (i j : ℕ) (t : TypeText) → j ≤ 2 ^ 32 → TextPlaced i j t → j ≤ a
        → ((q : ℕ) → q < j → q ≤ text_last t → q ≤ c) → text_type p t ≡ text_type o t
    text_stays i j (text.Named u) fits h l reach =
        type_stays a c o p later u (reach u.place h.1 (omega arith))
    text_stays i j (text.Range low high) fits h l reach =
        let n = constant_on h.0 j high h.2 in
        let f = (constant_from h.0 j high fits h.2).1 in
        λ k. range
        (constant_stays i h.0 low h.1 (λ q m e. reach q (omega arith) (omega arith)) k)
        (constant_stays h.0 j high h.2 reach k)
    text_stays i j (text.Names names place) fits h l reach =
        enumeration_stays place j names place h.1 l
    text_stays i j (text.Array' x index y of place) fits h l reach =
        let n = row_on h.0 j of h.3 in
        let f = box_from h.0 j place of fits h.3 h.4 in
        arrays_stay place h.0 index (row_type p of) (row_type o of) (omega arith) h.2 (omega arith)
        (λ q m. reach q (omega arith) (omega arith))
        (box_stays h.0 j place of fits h.3 l reach)
    text_stays i j (text.Fields' x defs place) fits h l reach =
        ap record_of (fields_stay place j place defs (Some no_fields) (Some no_fields) fits h.1 l
        reach refl)
    text_stays i j (text.Set' x of place) fits h l reach =
        ap set_of (box_stays place j place of fits h.1 l reach)

    box_stays : (i j d : ℕ) {n : _} (row : Row_of-TypeText n) → j ≤ 2 ^ 32 → RowPlaced i j row
        → j ≤ a → ((q : ℕ) → q < j → q ≤ row_last row d → q ≤ c)
        → row_type p row ≡ row_type o row
    box_stays i j d end_of-TypeText fits h l reach = refl
    box_stays i j d (more_of-TypeText t rest) fits h l reach =
        let n = row_on h.0 j rest h.2 in
        text_stays i h.0 t (omega arith) h.1 (omega arith) (λ q m e. reach q (omega arith) e)

    arrays_stay : (i j : ℕ) {n : _} (row : Row_of-TypeText n) (x y : Option Measured)
        → j ≤ 2 ^ 32 → RowPlaced i j row → j ≤ a → ((q : ℕ) → q < j → q ≤ c) → x ≡ y
        → row_arrays p row x ≡ row_arrays o row y
    arrays_stay i j end_of-TypeText x y fits h l reach same = same
    arrays_stay i j (more_of-TypeText t rest) x y fits h l reach same =
        let n = row_on h.0 j rest h.2 in
        λ k. array_of (text_stays i h.0 t (omega arith) h.1 (omega arith)
        (λ q m e. reach q (omega arith)) k) (arrays_stay h.0 j rest x y fits h.2 l reach same k)

    fields_stay : (i j d : ℕ) {n : _} (row : Row_of-VarDef n) (x y : Option Gathered)
        → j ≤ 2 ^ 32 → FieldsPlaced i j row → j ≤ a
        → ((q : ℕ) → q < j → q ≤ row_fields_last row d → q ≤ c) → x ≡ y
        → row_fields p row x ≡ row_fields o row y
    fields_stay i j d end_of-VarDef x y fits h l reach same = same
    fields_stay i j d (more_of-VarDef names t rest) x y fits h l reach same =
        let n = fields_on h.1 j rest h.4 in
        let m = text_on h.0 h.1 t h.3 in
        fields_stay h.1 j (text_last t) rest
        (with_fields (known_fields p names x) names (text_type p t))
        (with_fields (known_fields o names y) names (text_type o t)) fits h.4 l reach
        (λ k. with_fields (if members_stay i h.0 names h.2 (omega arith) k then same k else None)
        names (text_stays h.0 h.1 t (omega arith) h.3 (omega arith)
        (λ q r e. reach q (omega arith)
        (fields_from q h.1 j (text_last t) rest fits h.4 (omega arith) e)) k))

  -- dimensions, all of whose names stand up to place c
  pub short_stays : (i j : ℕ) (t : TypeText) → j ≤ 2 ^ 32 → ShortPlaced i j t
      → ((q : ℕ) → q < j → q ≤ text_last t → q ≤ c) → text_type p t ≡ text_type o t
  short_stays i j (text.Named u) fits h reach =
      type_stays a c o p later u (reach u.place h.1 (omega arith))
  short_stays i j (text.Range low high) fits h reach =
      let n = constant_on h.0 j high h.2 in
      let f = (constant_from h.0 j high fits h.2).1 in
      λ k. range
      (constant_stays i h.0 low h.1 (λ q m e. reach q (omega arith) (omega arith)) k)
      (constant_stays h.0 j high h.2 reach k)
  short_stays i j (text.Names names place) fits h reach = absurd h
  short_stays i j (text.Array' x index y of place) fits h reach = absurd h
  short_stays i j (text.Fields' x defs place) fits h reach = absurd h
  short_stays i j (text.Set' x of place) fits h reach = absurd h

  dims_after_stay : (i j : ℕ) (ts : List TypeText) (x y : Option (List Kind)) → j ≤ 2 ^ 32
      → InOrder ShortPlaced i j ts → j ≤ suc c → x ≡ y → dims_after p x ts ≡ dims_after o y ts
  dims_after_stay i j [] x y fits h l same = same
  dims_after_stay i j (t ∷ ts) x y fits h l same =
      let e = dims_on h.0 j ts h.2 in
      dims_after_stay h.0 j ts (with_dim x (text_type p t)) (with_dim y (text_type o t)) fits h.2 l
      (λ k. with_dim (same k) (short_stays i h.0 t (omega arith) h.1 (λ q m n. omega arith) k))

  pub dims_stay : (i j : ℕ) (ts : List TypeText) → j ≤ 2 ^ 32 → InOrder ShortPlaced i j ts
      → j ≤ suc c → dims_of p ts ≡ dims_of o ts
  dims_stay i j ts fits h l = dims_after_stay i j ts (Some []) (Some []) fits h l refl
