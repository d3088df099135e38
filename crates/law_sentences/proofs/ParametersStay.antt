-- Parameters stand first in their regions, whatever parts without parameters declare after them.
use Rattle.std.proofs.Common.{◌≡◌, ℕ, suc, ◌<◌, ◌≤◌, Bool, true, false, List, [], ◌∷◌, refl, Option}
use Rattle.std.proofs.Common.{Some, None, arith, if◌then◌else◌}
use Rattle.est_syntax.specs.declared.body.StateSet.{StateSet}
use Rattle.est_syntax.specs.declared.channel.Role.{Role}
use Rattle.est_syntax.specs.declared.channel.Role.TheVariants.{Second}
use Rattle.est_syntax.specs.declared.constant.ConstDef.{ConstDef}
use Rattle.est_syntax.specs.declared.header.ModvarDef.{ModvarDef}
use Rattle.est_syntax.specs.declared.header.Point.{Point}
use Rattle.est_syntax.specs.declared.name.Used.{Used}
use Rattle.est_syntax.specs.declared.type_text.TypeDef.{TypeDef}
use Rattle.est_syntax.specs.declared.type_text.TypeText.{TypeText, Row_of-TypeText, end_of-TypeText}
use Rattle.est_syntax.specs.declared.type_text.TypeText.{more_of-TypeText, Row_of-VarDef}
use Rattle.est_syntax.specs.declared.type_text.TypeText.{end_of-VarDef, more_of-VarDef}
use Rattle.est_syntax.specs.declared.type_text.TypeText.TheVariants as text
use Rattle.est_syntax.specs.declared.type_text.VarDef.{VarDef}
use Rattle.rule_scope.specs.Declaring.{declared, put, amended, lying, with_kind}
use Rattle.rule_scope.specs.Outline.{Outline}
use Rattle.rule_scope.specs.Uses.{declaration_of}
use Rattle.rule_scope.specs.declared.declaration.Entry.{Entry}
use Rattle.rule_scope.specs.declared.declaration.Measured.{Measured}
use Rattle.rule_scope.specs.declared.declaration.Member.{Member}
use Rattle.rule_scope.specs.declared.declaration.Member.TheVariants as member
use Rattle.rule_scope.specs.declared.declaration.Sort.TheVariants as sort
use Rattle.rule_scope.specs.declared.declaration.Within.{Within}
use Rattle.rule_kinds.specs.Constants.{constant_value, constant_last}
use Rattle.rule_kinds.specs.Dims.{dims_of, dims_elements}
use Rattle.rule_kinds.specs.TypeTexts.{text_type, text_place, enumeration}
use Rattle.rule_kinds.specs.declared.value.Valued.{Valued}
use Rattle.rule_declares.specs.Declares.{names_declare, constdef_declares, consts_declare}
use Rattle.rule_declares.specs.Declares.{numbers_declare, kinds_given, enumeration_declares}
use Rattle.rule_declares.specs.Declares.{names_put, text_declares, row_declares, row_fields_declare}
use Rattle.rule_declares.specs.Declares.{typedef_named, typedef_declares, types_declare}
use Rattle.rule_declares.specs.Declares.{vardef_named}
use Rattle.rule_declares.specs.Declares.{vardef_declares, vars_declare, roles_put, side_of}
use Rattle.rule_declares.specs.Declares.{point_declares, points_declare, modvar_declares}
use Rattle.rule_declares.specs.Declares.{modvars_declare, before, after, stands_before}
use Rattle.rule_declares.specs.Declares.{sections_declare, states_declare, states_named}
use Rattle.rule_declares.specs.Declares.{stateset_declares}
use Rattle.rule_declares.specs.Declares.{statesets_declare}
use Rattle.rule_declares.specs.Entries.{plain, constant, numbered, point, module_variable}
use Rattle.rule_declares.specs.Entries.{state_set}
use Rattle.rule_declares.specs.Lasts.{names_last, text_last}
use Rattle.law_places.proofs.Declaring.{order_on, constdef_on, typedef_on, vardef_on, vars_on}
use Rattle.law_places.proofs.Declaring.{dims_on, point_on, modvar_on, stateset_on}
use Rattle.law_places.proofs.Placed.{NamesPlaced, TextPlaced, RowPlaced, FieldsPlaced, names_on}
use Rattle.law_places.proofs.Placed.{constant_on, text_on, row_on, fields_on}
use Rattle.law_places.proofs.PlacedParts.{InOrder, ConstDefPlaced, TypeDefPlaced, VarDefPlaced}
use Rattle.law_places.proofs.PlacedParts.{PointPlaced, ModvarPlaced, StateSetPlaced}
use Rattle.rule_expressions.specs.Selections.{is_parameter}
use Rattle.law_sentences.proofs.ParametersKept.{Leading, IsBefore, KeepsSection, declared_keeps}
use Rattle.law_sentences.proofs.ParametersKept.{put_keeps, amended_keeps, lying_keeps}

-- what is declared between two places is no parameter, and its region begins before them
abbrev pub IsOther : (ℕ → Type 0) → ℕ → ℕ → Within → Entry → Type 0
IsOther B a b w e =
    ((q : ℕ) → a ≤ q → q < b → IsBefore B b w.region) × (is_parameter e.section ≡ false)

-- where a part stands that declares such
abbrev pub Fits : (ℕ → Type 0) → ℕ → ℕ → Within → Type 0
Fits B a b w =
    ((q : ℕ) → a ≤ q → q < b → IsBefore B b w.region) × (is_parameter w.section ≡ false)

constant_other : (B : ℕ → Type 0) (a b : ℕ) (w : Within) (v : Option Valued) → Fits B a b w
    → IsOther B a b w (constant w v)
constant_other B a b w None fit = fit
constant_other B a b w (Some v) fit = fit

-- headers: the exports before a place, and those after it, stand in order too
before_order : (i j place : ℕ) (vs : List VarDef) → InOrder VarDefPlaced i j vs
    → InOrder VarDefPlaced i j (before vs place)
before_order i j place [] h = h
before_order i j place (v ∷ vs) h =
    by (stands_before v place) (before_order h.0 j place vs h.2)
  where
    by : (t : Bool) → InOrder VarDefPlaced h.0 j (before vs place)
        → InOrder VarDefPlaced i j (if t then v ∷ before vs place else [])
    by true rest = (h.0, h.1, rest)
    by false rest = vars_on i j (v ∷ vs) h

after_order : (i j place : ℕ) (vs : List VarDef) → InOrder VarDefPlaced i j vs
    → (k : ℕ) × (i ≤ k) × InOrder VarDefPlaced k j (after vs place)
after_order i j place [] h = (i, omega arith, h)
after_order i j place (v ∷ vs) h =
    by (stands_before v place) (after_order h.0 j place vs h.2)
  where
    by : (t : Bool) → (k : ℕ) × (h.0 ≤ k) × InOrder VarDefPlaced k j (after vs place)
        → (k : ℕ) × (i ≤ k)
        × InOrder VarDefPlaced k j (if t then after vs place else v ∷ vs)
    by true rest = let e = vardef_on i h.0 v h.1 in let f = rest.1 in
        (rest.0, omega arith, rest.2)
    by false rest = (i, omega arith, h)

module _ (B : ℕ → Type 0) (a b : ℕ) where
  abbrev Keeps : Outline → Outline → Type 0
  Keeps o p = Leading B a b o → Leading B a b p

  keeps_then : {o x p : Outline} → Keeps o x → Keeps x p → Keeps o p
  keeps_then f g k = g (f k)

  keeps_nothing : {o : Outline} → Keeps o o
  keeps_nothing k = k

  keeps_lying : {o : Outline} (w : Within) (place : ℕ) → Keeps o (lying w place o)
  keeps_lying {o} w place k = lying_keeps a b o w place k

  keeps_declared : {o : Outline} (w : Within) (u : Used) (last : ℕ) (e : Entry) → a ≤ u.place
      → u.place < b → IsOther B a b w e → Keeps o (declared w u last e o)
  keeps_declared {o} w u last e l m n k =
      declared_keeps a b o w u last e l m (n.0 u.place l m, n.1) k

  keeps_put : {o : Outline} (region : ℕ) (u : Used) (x : Member) → region < b → a ≤ u.place
      → u.place < b → Keeps o (put region u x o)
  keeps_put {o} region u x n l m k = put_keeps a b o region u x n l m k

  keeps_amended : {o : Outline} (f : Entry → Entry) (place : ℕ) → KeepsSection f
      → Keeps o (amended f place o)
  keeps_amended {o} f place keeps k = amended_keeps a b o f place keeps k

  names_keep : (w : Within) (us : List Used) (last : ℕ) (e : Entry) (o : Outline) (i j : ℕ)
      → NamesPlaced i j us → a ≤ i → j ≤ b → IsOther B a b w e
      → Keeps o (names_declare w us last e o)
  names_keep w [] last e o i j h l m n = keeps_nothing
  names_keep w (u ∷ us) last e o i j h l m n =
      let k = names_on (suc u.place) j us h.1 in
      let q = h.0 in
      keeps_then (keeps_declared w u last e (omega arith) (omega arith) n)
      (names_keep w us last e (declared w u last e o) (suc u.place) j h.1 (omega arith) m n)

  -- constants
  constdef_keeps : (w : Within) (c : ConstDef) (o : Outline) (i j : ℕ) → ConstDefPlaced i j c
      → a ≤ i → j ≤ b → Fits B a b w → Keeps o (constdef_declares w c o)
  constdef_keeps w c o i j h l m fit =
      let k = constant_on (suc c.name.place) j c.value h.1 in
      let q = h.0 in
      let o1 = lying w c.name.place o in
      let v = constant_value o1 c.value in
      keeps_then (keeps_lying w c.name.place)
      (keeps_declared w c.name (constant_last c.value) (constant w v) (omega arith) (omega arith)
      (constant_other B a b w v fit))

  pub consts_keep : (w : Within) (cs : List ConstDef) (o : Outline) (i j : ℕ)
      → InOrder ConstDefPlaced i j cs → a ≤ i → j ≤ b → Fits B a b w
      → Keeps o (consts_declare w cs o)
  consts_keep w [] o i j h l m fit = keeps_nothing
  consts_keep w (c ∷ cs) o i j h l m fit =
      let e = order_on ConstDefPlaced constdef_on h.0 j cs h.2 in
      let f = constdef_on i h.0 c h.1 in
      keeps_then (constdef_keeps w c o i h.0 h.1 l (omega arith) fit)
      (consts_keep w cs (constdef_declares w c o) h.0 j h.2 (omega arith) m fit)

  -- types
  numbers_keep : (w : Within) (us : List Used) (last n : ℕ) (o : Outline) (i j : ℕ)
      → NamesPlaced i j us → a ≤ i → j ≤ b → Fits B a b w
      → Keeps o (numbers_declare w us last n o)
  numbers_keep w [] last n o i j h l m r = keeps_nothing
  numbers_keep w (u ∷ us) last n o i j h l m r =
      let k = names_on (suc u.place) j us h.1 in
      let q = h.0 in
      keeps_then (keeps_declared w u last (numbered w n) (omega arith) (omega arith) r)
      (numbers_keep w us last (suc n) (declared w u last (numbered w n) o) (suc u.place) j h.1
      (omega arith) m r)

  kinds_keep : (us : List Used) (k : Option Measured) (o : Outline) → Keeps o (kinds_given us k o)
  kinds_keep [] k o = keeps_nothing
  kinds_keep (u ∷ us) k o =
      keeps_then (keeps_amended (with_kind k) u.place (λ e. (refl, refl)))
      (kinds_keep us k (amended (with_kind k) u.place o))

  enumeration_keeps : (w : Within) (us : List Used) (place : ℕ) (o : Outline) (j : ℕ)
      → NamesPlaced place j us → a ≤ place → j ≤ b → Fits B a b w
      → Keeps o (enumeration_declares w us place o)
  enumeration_keeps w us place o j h l m fit =
      let o1 = numbers_declare w us (names_last us place) 0 o in
      keeps_then (numbers_keep w us (names_last us place) 0 o place j h l m fit)
      (kinds_keep us (enumeration o1 us place) o1)

  put_keep : (region : ℕ) (us : List Used) (x : Member) (o : Outline) (i j : ℕ)
      → NamesPlaced i j us → region ≤ i → a ≤ i → j ≤ b
      → Keeps o (names_put region us x o)
  put_keep region [] x o i j h r l m = keeps_nothing
  put_keep region (u ∷ us) x o i j h r l m =
      let k = names_on (suc u.place) j us h.1 in
      let q = h.0 in
      keeps_then (keeps_put region u x (omega arith) (omega arith) (omega arith))
      (put_keep region us x (put region u x o) (suc u.place) j h.1 (omega arith) (omega arith) m)

  mutual
    pub text_keeps : (w : Within) (t : TypeText) (o : Outline) (i j : ℕ) → TextPlaced i j t → a ≤ i
        → j ≤ b → Fits B a b w → Keeps o (text_declares w t o)
    text_keeps w (text.Named u) o i j h l m fit = keeps_nothing
    text_keeps w (text.Range low high) o i j h l m fit = keeps_nothing
    text_keeps w (text.Names names place) o i j h l m fit =
        let q = h.0 in enumeration_keeps w names place o j h.1 (omega arith) m fit
    text_keeps w (text.Array' x index y of place) o i j h l m fit =
        let q = h.1 in
        let e = row_on place h.0 index h.2 in
        let f = row_on h.0 j of h.3 in
        keeps_then (row_keeps w index o place h.0 h.2 (omega arith) (omega arith) fit)
        (row_keeps w of (row_declares w index o) h.0 j h.3 (omega arith) m fit)
    text_keeps w (text.Fields' x defs place) o i j h l m fit =
        let q = h.0 in fields_keep w place defs o place j h.1 (omega arith) (omega arith) m fit
    text_keeps w (text.Set' x of place) o i j h l m fit =
        let q = h.0 in row_keeps w of o place j h.1 (omega arith) m fit

    row_keeps : (w : Within) {n : _} (row : Row_of-TypeText n) (o : Outline) (i j : ℕ)
        → RowPlaced i j row → a ≤ i → j ≤ b → Fits B a b w → Keeps o (row_declares w row o)
    row_keeps w end_of-TypeText o i j h l m fit = keeps_nothing
    row_keeps w (more_of-TypeText t rest) o i j h l m fit =
        let e = text_on i h.0 t h.1 in
        let f = row_on h.0 j rest h.2 in
        keeps_then (text_keeps w t o i h.0 h.1 l (omega arith) fit)
        (row_keeps w rest (text_declares w t o) h.0 j h.2 (omega arith) m fit)

    fields_keep : (w : Within) (region : ℕ) {n : _} (row : Row_of-VarDef n) (o : Outline)
        (i j : ℕ) → FieldsPlaced i j row → region ≤ i → a ≤ i → j ≤ b → Fits B a b w
        → Keeps o (row_fields_declare w region row o)
    fields_keep w region end_of-VarDef o i j h r l m fit = keeps_nothing
    fields_keep w region (more_of-VarDef names t rest) o i j h r l m fit =
        let d = names_on i h.0 names h.2 in
        let e = text_on h.0 h.1 t h.3 in
        let f = fields_on h.1 j rest h.4 in
        let o1 = names_put region names member.Field o in
        keeps_then (put_keep region names member.Field o i h.0 h.2 r l (omega arith))
        (keeps_then (text_keeps w t o1 h.0 h.1 h.3 (omega arith) (omega arith) fit)
        (fields_keep w region rest (text_declares w t o1) h.1 j h.4 (omega arith) (omega arith) m
        fit))

  typedef_keeps : (w : Within) (t : TypeDef) (o : Outline) (i j : ℕ) → TypeDefPlaced i j t → a ≤ i
      → j ≤ b → Fits B a b w → Keeps o (typedef_declares w t o)
  typedef_keeps w t o i j h l m fit =
      let q = h.0 in
      let e = text_on (suc t.name.place) j t.text h.1 in
      let o1 = lying w t.name.place o in
      let o2 = typedef_named w t o1 in
      let o3 = text_declares w t.text o2 in
      keeps_then (keeps_lying w t.name.place)
      (keeps_then (keeps_declared w t.name (text_last t.text) (plain w sort.TypeName) (omega arith)
      (omega arith) fit)
      (keeps_then (text_keeps w t.text o2 (suc t.name.place) j h.1 (omega arith) m fit)
      (keeps_amended (with_kind (text_type o3 t.text)) t.name.place (λ e. (refl, refl)))))

  pub types_keep : (w : Within) (ts : List TypeDef) (o : Outline) (i j : ℕ)
      → InOrder TypeDefPlaced i j ts → a ≤ i → j ≤ b → Fits B a b w → Keeps o (types_declare w ts o)
  types_keep w [] o i j h l m fit = keeps_nothing
  types_keep w (t ∷ ts) o i j h l m fit =
      let e = order_on TypeDefPlaced typedef_on h.0 j ts h.2 in
      let f = typedef_on i h.0 t h.1 in
      keeps_then (typedef_keeps w t o i h.0 h.1 l (omega arith) fit)
      (types_keep w ts (typedef_declares w t o) h.0 j h.2 (omega arith) m fit)

  -- variables
  vardef_keeps : (w : Within) (v : VarDef) (o : Outline) (i j : ℕ) → VarDefPlaced i j v → a ≤ i
      → j ≤ b → Fits B a b w → Keeps o (vardef_declares w v o)
  vardef_keeps w v o i j h l m fit =
      let d = names_on i h.0 v.names h.1 in
      let e = text_on h.0 j v.text h.2 in
      let o1 = lying w (text_place v.text) o in
      let o2 = vardef_named w v o1 in
      let o3 = text_declares w v.text o2 in
      keeps_then (keeps_lying w (text_place v.text))
      (keeps_then (names_keep w v.names (text_last v.text) (plain w sort.Variable) o1 i h.0 h.1 l
      (omega arith) fit)
      (keeps_then (text_keeps w v.text o2 h.0 j h.2 (omega arith) m fit)
      (kinds_keep v.names (text_type o3 v.text) o3)))

  pub vars_keep : (w : Within) (vs : List VarDef) (o : Outline) (i j : ℕ)
      → InOrder VarDefPlaced i j vs → a ≤ i → j ≤ b → Fits B a b w → Keeps o (vars_declare w vs o)
  vars_keep w [] o i j h l m fit = keeps_nothing
  vars_keep w (v ∷ vs) o i j h l m fit =
      let e = vars_on h.0 j vs h.2 in
      let f = vardef_on i h.0 v h.1 in
      keeps_then (vardef_keeps w v o i h.0 h.1 l (omega arith) fit)
      (vars_keep w vs (vardef_declares w v o) h.0 j h.2 (omega arith) m fit)

  -- roles
  pub roles_keep : (region : ℕ) (us : List Used) (r : Role) (o : Outline) (i j : ℕ) → region < b
      → NamesPlaced i j us → a ≤ i → j ≤ b → Keeps o (roles_put region us r o)
  roles_keep region [] r o i j n h l m = keeps_nothing
  roles_keep region (u ∷ us) r o i j n h l m =
      let k = names_on (suc u.place) j us h.1 in
      let q = h.0 in
      keeps_then (keeps_put region u (member.Role r) n (omega arith) (omega arith))
      (roles_keep region us Second (put region u (member.Role r) o) (suc u.place) j n h.1
      (omega arith) m)

  -- interaction points and module variables
  point_keeps : (w : Within) (p : Point) (o : Outline) (i j : ℕ) → PointPlaced i j p → a ≤ i
      → j ≤ b → Fits B a b w → Keeps o (point_declares w p o)
  point_keeps w p o i j h l m fit =
      let o1 = lying w p.place o in
      let dims = dims_of o1 p.dims in
      let d = names_on i h.0 p.names h.3 in
      let e = dims_on h.0 h.1 p.dims h.4 in
      let f = h.5 in
      let g = h.6 in
      let k = h.7 in
      keeps_then (keeps_lying w p.place)
      (names_keep w p.names p.role.place (point w dims (dims_elements dims) (side_of o1 p) p.queue)
      o1 i h.0 h.3 l (omega arith) fit)

  pub points_keep : (w : Within) (ps : List Point) (o : Outline) (i j : ℕ)
      → InOrder PointPlaced i j ps → a ≤ i → j ≤ b → Fits B a b w → Keeps o (points_declare w ps o)
  points_keep w [] o i j h l m fit = keeps_nothing
  points_keep w (p ∷ ps) o i j h l m fit =
      let e = order_on PointPlaced point_on h.0 j ps h.2 in
      let f = point_on i h.0 p h.1 in
      keeps_then (point_keeps w p o i h.0 h.1 l (omega arith) fit)
      (points_keep w ps (point_declares w p o) h.0 j h.2 (omega arith) m fit)

  modvar_keeps : (w : Within) (v : ModvarDef) (o : Outline) (i j : ℕ) → ModvarPlaced i j v → a ≤ i
      → j ≤ b → Fits B a b w → Keeps o (modvar_declares w v o)
  modvar_keeps w v o i j h l m fit =
      let o1 = lying w v.place o in
      let d = names_on i h.0 v.names h.3 in
      let e = dims_on h.0 h.1 v.dims h.4 in
      let f = h.5 in
      let g = h.6 in
      keeps_then (keeps_lying w v.place)
      (names_keep w v.names v.header.place
      (module_variable w (dims_of o1 v.dims) (declaration_of o1 sort.Header v.header)) o1 i h.0
      h.3 l (omega arith) fit)

  pub modvars_keep : (w : Within) (vs : List ModvarDef) (o : Outline) (i j : ℕ)
      → InOrder ModvarPlaced i j vs → a ≤ i → j ≤ b → Fits B a b w
      → Keeps o (modvars_declare w vs o)
  modvars_keep w [] o i j h l m fit = keeps_nothing
  modvars_keep w (v ∷ vs) o i j h l m fit =
      let e = order_on ModvarPlaced modvar_on h.0 j vs h.2 in
      let f = modvar_on i h.0 v h.1 in
      keeps_then (modvar_keeps w v o i h.0 h.1 l (omega arith) fit)
      (modvars_keep w vs (modvar_declares w v o) h.0 j h.2 (omega arith) m fit)

  -- the points and exports of a header
  pub sections_keep : (w : Within) (ps : List Point) (vs : List VarDef) (o : Outline) (i k j : ℕ)
      → InOrder PointPlaced i j ps → InOrder VarDefPlaced k j vs → a ≤ i → a ≤ k → j ≤ b
      → Fits B a b w → Keeps o (sections_declare w ps vs o)
  sections_keep w [] vs o i k j h g l n m fit = vars_keep w vs o k j g n m fit
  sections_keep w (p ∷ ps) vs o i k j h g l n m fit =
      let e = order_on PointPlaced point_on h.0 j ps h.2 in
      let f = point_on i h.0 p h.1 in
      let o1 = vars_declare w (before vs p.place) o in
      let rest = after_order k j p.place vs g in
      let r = rest.1 in
      keeps_then (vars_keep w (before vs p.place) o k j (before_order k j p.place vs g) n m fit)
      (keeps_then (point_keeps w p o1 i h.0 h.1 l (omega arith) fit)
      (sections_keep w ps (after vs p.place) (point_declares w p o1) h.0 rest.0 j h.2 rest.2
      (omega arith) (omega arith) m fit))

  -- states and state sets
  pub states_keep : (w : Within) (us : List Used) (o : Outline) (i j : ℕ) → NamesPlaced i j us
      → a ≤ i → j ≤ b → Fits B a b w → Keeps o (states_declare w us o)
  states_keep w [] o i j h l m fit = keeps_nothing
  states_keep w (u ∷ us) o i j h l m fit =
      let k = names_on (suc u.place) j us h.1 in
      let q = h.0 in
      keeps_then (keeps_declared w u u.place (plain w sort.State) (omega arith) (omega arith) fit)
      (states_keep w us (declared w u u.place (plain w sort.State) o) (suc u.place) j h.1
      (omega arith) m fit)

  stateset_keeps : (w : Within) (s : StateSet) (o : Outline) (i j : ℕ) → StateSetPlaced i j s
      → a ≤ i → j ≤ b → Fits B a b w → Keeps o (stateset_declares w s o)
  stateset_keeps w s o i j h l m fit =
      let place = s.name.place in
      let q = h.0 in
      let k = names_on (suc place) j s.states h.1 in
      keeps_then (keeps_lying w place)
      (keeps_declared w s.name (names_last s.states place)
      (state_set w (states_named (lying w place o) s.states)) (omega arith) (omega arith) fit)

  pub statesets_keep : (w : Within) (ss : List StateSet) (o : Outline) (i j : ℕ)
      → InOrder StateSetPlaced i j ss → a ≤ i → j ≤ b → Fits B a b w
      → Keeps o (statesets_declare w ss o)
  statesets_keep w [] o i j h l m fit = keeps_nothing
  statesets_keep w (s ∷ ss) o i j h l m fit =
      let e = order_on StateSetPlaced stateset_on h.0 j ss h.2 in
      let f = stateset_on i h.0 s h.1 in
      keeps_then (stateset_keeps w s o i h.0 h.1 l (omega arith) fit)
      (statesets_keep w ss (stateset_declares w s o) h.0 j h.2 (omega arith) m fit)
