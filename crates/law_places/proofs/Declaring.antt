-- An outline grows by what the parts of a specification declare, between the places of each.
use Rattle.std.proofs.Common.{◌≡◌, ℕ, suc, ◌<◌, ◌≤◌, ◌^◌, Bool, true, false, List, [], ◌∷◌}
use Rattle.std.proofs.Common.{refl, sym, subst, ap, Option, inr, arith}
use Rattle.std.proofs.Common.{if◌then◌else◌}
use Rattle.std.proofs.lemmas.Bool.Decides.{nat_tests}
use Rattle.est_syntax.specs.declared.name.Used.{Used}
use Rattle.est_syntax.specs.declared.constant.ConstDef.{ConstDef}
use Rattle.est_syntax.specs.declared.type_text.TypeText.{TypeText, Row_of-TypeText, end_of-TypeText}
use Rattle.est_syntax.specs.declared.type_text.TypeText.{more_of-TypeText, Row_of-VarDef}
use Rattle.est_syntax.specs.declared.type_text.TypeText.{end_of-VarDef, more_of-VarDef}
use Rattle.est_syntax.specs.declared.type_text.TypeText.TheVariants as text
use Rattle.est_syntax.specs.declared.type_text.VarDef.{VarDef}
use Rattle.est_syntax.specs.declared.type_text.TypeDef.{TypeDef}
use Rattle.est_syntax.specs.declared.channel.Role.{Role}
use Rattle.est_syntax.specs.declared.channel.Role.TheVariants.{First, Second}
use Rattle.est_syntax.specs.declared.channel.InteractionDef.{InteractionDef}
use Rattle.est_syntax.specs.declared.channel.ByPart.{ByPart}
use Rattle.est_syntax.specs.declared.channel.Channel.{Channel}
use Rattle.est_syntax.specs.declared.header.Point.{Point}
use Rattle.est_syntax.specs.declared.header.Header.{Header}
use Rattle.est_syntax.specs.declared.header.ModvarDef.{ModvarDef}
use Rattle.est_syntax.specs.declared.routine.Formal.{Formal}
use Rattle.est_syntax.specs.declared.body.StateSet.{StateSet}
use Rattle.rule_scope.specs.declared.declaration.Entry.{Entry}
use Rattle.rule_scope.specs.declared.declaration.Measured.{Measured}
use Rattle.rule_scope.specs.declared.declaration.Member.{Member}
use Rattle.rule_scope.specs.declared.declaration.Member.TheVariants as member
use Rattle.rule_scope.specs.declared.declaration.Section.TheVariants as section
use Rattle.rule_scope.specs.declared.declaration.Senders.{Senders}
use Rattle.rule_scope.specs.declared.declaration.Sort.TheVariants as sort
use Rattle.rule_scope.specs.declared.declaration.Within.{Within}
use Rattle.rule_scope.specs.Outline.{Outline}
use Rattle.rule_scope.specs.Declaring.{declared, put, amended, lying, with_kind}
use Rattle.rule_scope.specs.Uses.{declaration_of}
use Rattle.rule_kinds.specs.Constants.{constant_value, constant_last}
use Rattle.rule_kinds.specs.TypeTexts.{text_type, text_place, named_type, enumeration}
use Rattle.rule_kinds.specs.Dims.{dims_of, dims_elements}
use Rattle.rule_declares.specs.Entries.{plain, constant, numbered, point}
use Rattle.rule_declares.specs.Entries.{module_variable, state_set, header, in_region, in_section}
use Rattle.rule_declares.specs.Lasts.{names_last, text_last, vars_last, interactions_last, by_last}
use Rattle.rule_declares.specs.Lasts.{channel_last, header_last}
use Rattle.rule_declares.specs.Declares.{names_declare, constdef_declares, consts_declare}
use Rattle.rule_declares.specs.Declares.{numbers_declare, kinds_given, enumeration_declares}
use Rattle.rule_declares.specs.Declares.{names_put, text_declares, row_declares, row_fields_declare}
use Rattle.rule_declares.specs.Declares.{typedef_named, typedef_declares, types_declare}
use Rattle.rule_declares.specs.Declares.{vardef_named, vardef_declares, vars_declare, roles_put}
use Rattle.rule_declares.specs.Declares.{interaction_declares, interactions_declare, senders}
use Rattle.rule_declares.specs.Declares.{by_part_declares, by_parts_declare, channel_declares}
use Rattle.rule_declares.specs.Declares.{side_of, point_declares, points_declare, modvar_declares}
use Rattle.rule_declares.specs.Declares.{modvars_declare, before, after, stands_before}
use Rattle.rule_declares.specs.Declares.{sections_declare, has_exports, header_named}
use Rattle.rule_declares.specs.Declares.{header_declares, states_declare, states_named}
use Rattle.rule_declares.specs.Declares.{stateset_declares, statesets_declare, formal_section}
use Rattle.rule_declares.specs.Declares.{formal_named}
use Rattle.rule_declares.specs.Declares.{formal_declares, formals_declare}
use Rattle.law_places.specs.Growth.{IsOpen, Grows, g_not, g_then, g_declared, g_put, g_amended}
use Rattle.law_places.specs.Growth.{g_lying}
use Rattle.law_places.proofs.Placed.{NamesPlaced, TextPlaced, RowPlaced}
use Rattle.law_places.proofs.Placed.{FieldsPlaced, names_on, constant_on, text_on, row_on}
use Rattle.law_places.proofs.Placed.{fields_on, names_from, names_before, names_upto}
use Rattle.law_places.proofs.Placed.{constant_from, text_from, text_begins, text_within}
use Rattle.law_places.proofs.Placed.{ShortPlaced, short_text}
use Rattle.law_places.proofs.PlacedParts.{InOrder, ConstDefPlaced, TypeDefPlaced, VarDefPlaced}
use Rattle.law_places.proofs.PlacedParts.{InteractionPlaced, ByPartPlaced, ChannelPlaced}
use Rattle.law_places.proofs.PlacedParts.{PointPlaced, ModvarPlaced, HeaderPlaced, Merged}
use Rattle.law_places.proofs.PlacedParts.{m_none, m_point, m_export}
use Rattle.law_places.proofs.PlacedParts.{StateSetPlaced, FormalPlaced}

-- how far a list in order goes
pub order_on : {A : Type 0} (P : ℕ → ℕ → A → Type 0) (on : (i j : ℕ) (x : A) → P i j x → i ≤ j)
    (i j : ℕ) (xs : List A) → InOrder P i j xs → i ≤ j
order_on P on i j [] h = h
order_on P on i j (x ∷ xs) h =
    omega (arith, on i h.0 x h.1, order_on P on h.0 j xs h.2)

pub constdef_on : (i j : ℕ) (c : ConstDef) → ConstDefPlaced i j c → i ≤ j
constdef_on i j c h = omega (arith, h.0, constant_on (suc c.name.place) j c.value h.1)

pub typedef_on : (i j : ℕ) (t : TypeDef) → TypeDefPlaced i j t → i ≤ j
typedef_on i j t h = omega (arith, h.0, text_on (suc t.name.place) j t.text h.1)

pub vardef_on : (i j : ℕ) (v : VarDef) → VarDefPlaced i j v → i ≤ j
vardef_on i j v h = omega (arith, names_on i h.0 v.names h.1, text_on h.0 j v.text h.2)

pub vars_on : (i j : ℕ) (vs : List VarDef) → InOrder VarDefPlaced i j vs → i ≤ j
vars_on i j vs h = order_on VarDefPlaced vardef_on i j vs h

pub interaction_on : (i j : ℕ) (x : InteractionDef) → InteractionPlaced i j x → i ≤ j
interaction_on i j x h = omega (arith, h.0, vars_on (suc x.name.place) j x.params h.1)

pub interactions_on : (i j : ℕ) (xs : List InteractionDef) → InOrder InteractionPlaced i j xs
    → i ≤ j
interactions_on i j xs h = order_on InteractionPlaced interaction_on i j xs h

pub by_part_on : (i j : ℕ) (x : ByPart) → ByPartPlaced i j x → i ≤ j
by_part_on i j x h =
    omega (arith, names_on i h.0 x.roles h.1, interactions_on h.0 j x.interactions h.2)

pub by_parts_on : (i j : ℕ) (xs : List ByPart) → InOrder ByPartPlaced i j xs → i ≤ j
by_parts_on i j xs h = order_on ByPartPlaced by_part_on i j xs h

pub short_on : (i j : ℕ) (t : TypeText) → ShortPlaced i j t → i ≤ j
short_on i j t h = text_on i j t (short_text i j t h)

pub dims_on : (i j : ℕ) (ts : List TypeText) → InOrder ShortPlaced i j ts → i ≤ j
dims_on i j ts h = order_on ShortPlaced short_on i j ts h

pub point_on : (i j : ℕ) (p : Point) → PointPlaced i j p → i ≤ j
point_on i j p h =
    omega (arith, names_on i h.0 p.names h.3, dims_on h.0 h.1 p.dims h.4, h.5, h.6, h.7)

pub merged_on : {i j : ℕ} {ps : List Point} {vs : List VarDef} → Merged i j ps vs → i ≤ j
merged_on (m_none l) = l
merged_on (m_point {i} {k} {p = p} h x) = omega (arith, point_on i k p h, merged_on x)
merged_on (m_export {i} {k} {v = v} h t x) = omega (arith, vardef_on i k v h, merged_on x)

pub modvar_on : (i j : ℕ) (v : ModvarDef) → ModvarPlaced i j v → i ≤ j
modvar_on i j v h =
    omega (arith, names_on i h.0 v.names h.3, dims_on h.0 h.1 v.dims h.4, h.5, h.6)

pub stateset_on : (i j : ℕ) (s : StateSet) → StateSetPlaced i j s → i ≤ j
stateset_on i j s h = omega (arith, h.0, names_on (suc s.name.place) j s.states h.1)

pub formal_on : (i j : ℕ) (f : Formal) → FormalPlaced i j f → i ≤ j
formal_on i j f h = omega (arith, names_on i h.0 f.names h.1, h.2, h.3)

-- the last places of parts are not before what they stand after
pub vars_from : (m i j d : ℕ) (vs : List VarDef) → j ≤ 2 ^ 32 → InOrder VarDefPlaced i j vs → m ≤ i
    → m ≤ d → m ≤ vars_last vs d
vars_from m i j d [] fits h l n = n
vars_from m i j d (v ∷ vs) fits h l n =
    let e = vars_on h.0 j vs h.2 in
    let k = names_on i h.1.0 v.names h.1.1 in
    let g = text_on h.1.0 h.0 v.text h.1.2 in
    let f : h.1.0 ≤ text_last v.text = text_from h.1.0 h.0 v.text (omega arith) h.1.2 in
    vars_from m h.0 j (text_last v.text) vs fits h.2 (omega arith) (omega arith)

pub interactions_from : (m i j d : ℕ) (xs : List InteractionDef) → j ≤ 2 ^ 32
    → InOrder InteractionPlaced i j xs → m ≤ i → m ≤ d → m ≤ interactions_last xs d
interactions_from m i j d [] fits h l n = n
interactions_from m i j d (x ∷ xs) fits h l n =
    let e = interactions_on h.0 j xs h.2 in
    let k = vars_on (suc x.name.place) h.0 x.params h.1.1 in
    let q = h.1.0 in
    interactions_from m h.0 j (vars_last x.params x.name.place) xs fits h.2 (omega arith)
    (vars_from m (suc x.name.place) h.0 x.name.place x.params (omega arith) h.1.1 (omega arith)
    (omega arith))

pub by_from : (m i j d : ℕ) (xs : List ByPart) → j ≤ 2 ^ 32 → InOrder ByPartPlaced i j xs → m ≤ i
    → m ≤ d → m ≤ by_last xs d
by_from m i j d [] fits h l n = n
by_from m i j d (x ∷ xs) fits h l n =
    let e = by_parts_on h.0 j xs h.2 in
    let k = names_on i h.1.0 x.roles h.1.1 in
    let g = interactions_on h.1.0 h.0 x.interactions h.1.2 in
    by_from m h.0 j (interactions_last x.interactions d) xs fits h.2 (omega arith)
    (interactions_from m h.1.0 h.0 d x.interactions (omega arith) h.1.2 (omega arith) n)

-- what stands first among the sections of a header is declared first
not_before : (v : VarDef) (place : ℕ) → place ≤ text_place v.text → stands_before v place ≡ false
not_before v place l = grind (arith, nat_tests)

is_before : (v : VarDef) (place : ℕ) → text_place v.text < place → stands_before v place ≡ true
is_before v place l = grind (arith, nat_tests)

first_export : {k j : ℕ} {ps : List Point} {v : VarDef} {vs : List VarDef} → j ≤ 2 ^ 32
    → Merged k j ps (v ∷ vs) → k ≤ text_place v.text
first_export fits (m_point {i} {k} {p = p} h x) =
    omega (arith, point_on i k p h, first_export fits x)
first_export fits (m_export {k = k} {v = v} h t x) =
    let e = merged_on x in
    omega (arith, names_on _ h.0 v.names h.1, text_begins h.0 k v.text (omega arith) h.2)

first_point : {k j : ℕ} {p : Point} {ps : List Point} {vs : List VarDef} → Merged k j (p ∷ ps) vs
    → k ≤ p.place
first_point (m_point h x) = h.2
first_point (m_export {i} {k} {v = v} h t x) = omega (arith, vardef_on i k v h, first_point x)

pub point_first : (w : Within) (p : Point) (ps : List Point) (vs : List VarDef) (o : Outline)
    (i k j : ℕ) → j ≤ 2 ^ 32 → PointPlaced i k p → Merged k j ps vs
    → sections_declare w (p ∷ ps) vs o ≡ sections_declare w ps vs (point_declares w p o)
point_first w p ps [] o i k j fits h x = refl
point_first w p ps (v ∷ vs) o i k j fits h x =
    let l = first_export fits x in
    let a = h.5 in
    let b = h.6 in
    let c = h.7 in
    let d = h.8 in
    ap (λ (t : Bool). sections_declare w ps (if t then after vs p.place else v ∷ vs)
    (point_declares w p (vars_declare w (if t then v ∷ before vs p.place else []) o)))
    (not_before v p.place (omega arith))

pub export_first : (w : Within) (ps : List Point) (v : VarDef) (vs : List VarDef) (o : Outline)
    (k j : ℕ) → text_place v.text < k → Merged k j ps vs
    → sections_declare w ps (v ∷ vs) o ≡ sections_declare w ps vs (vardef_declares w v o)
export_first w [] v vs o k j t x = refl
export_first w (p ∷ ps) v vs o k j t x =
    let l = first_point x in
    ap (λ (t : Bool). sections_declare w ps (if t then after vs p.place else v ∷ vs)
    (point_declares w p (vars_declare w (if t then v ∷ before vs p.place else []) o)))
    (is_before v p.place (omega arith))

module _ (R : ℕ → Type 0) (unfinished : Bool) (a b : ℕ) (fits : b ≤ 2 ^ 32) where
  pub names_grow : (w : Within) (own : IsOpen R a w.region) (us : List Used) (last : ℕ) (e : Entry)
      (o : Outline) (i j : ℕ) → NamesPlaced i j us → a ≤ i → j ≤ b → j ≤ suc last
      → Grows R unfinished a b o (names_declare w us last e o)
  names_grow w own [] last e o i j h l m n = g_not
  names_grow w own (u ∷ us) last e o i j h l m n =
      let k = names_on (suc u.place) j us h.1 in
      let q = h.0 in
      g_then (g_declared w own u last e (omega arith) (omega arith) (omega arith))
      (names_grow w own us last e (declared w u last e o) (suc u.place) j h.1 (omega arith) m n)

  -- constants
  pub constdef_grows : (w : Within) (own : IsOpen R a w.region) (c : ConstDef) (o : Outline)
      (i j : ℕ) → ConstDefPlaced i j c → a ≤ i → j ≤ b
      → Grows R unfinished a b o (constdef_declares w c o)
  constdef_grows w own c o i j h l m =
      let k = constant_on (suc c.name.place) j c.value h.1 in
      let f = (constant_from (suc c.name.place) j c.value (omega arith) h.1).1 in
      let q = h.0 in
      let o1 = lying w c.name.place o in
      g_then (g_lying w c.name.place (omega arith) (omega arith))
      (g_declared w own c.name (constant_last c.value) (constant w (constant_value o1 c.value))
      (omega arith) (omega arith) (omega arith))

  pub consts_grow : (w : Within) (own : IsOpen R a w.region) (cs : List ConstDef) (o : Outline)
      (i j : ℕ) → InOrder ConstDefPlaced i j cs → a ≤ i → j ≤ b
      → Grows R unfinished a b o (consts_declare w cs o)
  consts_grow w own [] o i j h l m = g_not
  consts_grow w own (c ∷ cs) o i j h l m =
      let e = order_on ConstDefPlaced constdef_on h.0 j cs h.2 in
      let f = constdef_on i h.0 c h.1 in
      g_then (constdef_grows w own c o i h.0 h.1 l (omega arith))
      (consts_grow w own cs (constdef_declares w c o) h.0 j h.2 (omega arith) m)

  -- types
  pub numbers_grow : (w : Within) (own : IsOpen R a w.region) (us : List Used) (last n : ℕ)
      (o : Outline) (i j : ℕ) → NamesPlaced i j us → a ≤ i → j ≤ b → j ≤ suc last
      → Grows R unfinished a b o (numbers_declare w us last n o)
  numbers_grow w own [] last n o i j h l m r = g_not
  numbers_grow w own (u ∷ us) last n o i j h l m r =
      let k = names_on (suc u.place) j us h.1 in
      let q = h.0 in
      g_then (g_declared w own u last (numbered w n) (omega arith) (omega arith) (omega arith))
      (numbers_grow w own us last (suc n) (declared w u last (numbered w n) o) (suc u.place) j h.1
      (omega arith) m r)

  pub kinds_grow : (us : List Used) (k : Option Measured) (o : Outline) (i j : ℕ)
      → NamesPlaced i j us → a ≤ i → Grows R unfinished a b o (kinds_given us k o)
  kinds_grow [] k o i j h l = g_not
  kinds_grow (u ∷ us) k o i j h l =
      let q = h.0 in
      g_then (g_amended (with_kind k) u.place (omega arith) (λ e. refl))
      (kinds_grow us k (amended (with_kind k) u.place o) (suc u.place) j h.1 (omega arith))

  pub enumeration_grows : (w : Within) (own : IsOpen R a w.region) (us : List Used) (place : ℕ)
      (o : Outline) (j : ℕ) → NamesPlaced place j us → a ≤ place → j ≤ b
      → Grows R unfinished a b o (enumeration_declares w us place o)
  enumeration_grows w own [] place o j h l m = g_not
  enumeration_grows w own (u ∷ us) place o j h l m =
      let names = u ∷ us in
      let last = names_last names place in
      let o1 = numbers_declare w names last 0 o in
      let e = names_on (suc u.place) j us h.1 in
      let q = h.0 in
      let k : last < j = names_before place j place names h (omega arith) in
      g_then (numbers_grow w own names last 0 o place (suc last)
      (names_upto place j place names h (omega arith)) l (omega arith) (omega arith))
      (kinds_grow names (enumeration o1 names place) o1 place j h l)

  pub put_grow : (region : ℕ) (out : IsOpen R a region) (us : List Used) (x : Member) (o : Outline)
      (i j : ℕ) → NamesPlaced i j us → a ≤ i → j ≤ b
      → Grows R unfinished a b o (names_put region us x o)
  put_grow region out [] x o i j h l m = g_not
  put_grow region out (u ∷ us) x o i j h l m =
      let k = names_on (suc u.place) j us h.1 in
      let q = h.0 in
      g_then (g_put region out u x (omega arith) (omega arith))
      (put_grow region out us x (put region u x o) (suc u.place) j h.1 (omega arith) m)

  mutual
    pub text_grows : (w : Within) (own : IsOpen R a w.region) (t : TypeText) (o : Outline) (i j : ℕ)
        → TextPlaced i j t → a ≤ i → j ≤ b → Grows R unfinished a b o (text_declares w t o)
    text_grows w own (text.Named u) o i j h l m = g_not
    text_grows w own (text.Range low high) o i j h l m = g_not
    text_grows w own (text.Names names place) o i j h l m =
        let q = h.0 in enumeration_grows w own names place o j h.1 (omega arith) m
    text_grows w own (text.Array' x index y of place) o i j h l m =
        let q = h.1 in
        let e = row_on place h.0 index h.2 in
        let f = row_on h.0 j of h.3 in
        g_then (row_grows w own index o place h.0 h.2 (omega arith) (omega arith))
        (row_grows w own of (row_declares w index o) h.0 j h.3 (omega arith) m)
    text_grows w own (text.Fields' x defs place) o i j h l m =
        let q = h.0 in fields_grow w own place (inr (omega arith)) defs o place j h.1 (omega arith)
        m
    text_grows w own (text.Set' x of place) o i j h l m =
        let q = h.0 in row_grows w own of o place j h.1 (omega arith) m

    pub row_grows : (w : Within) (own : IsOpen R a w.region) {n : _} (row : Row_of-TypeText n)
        (o : Outline) (i j : ℕ) → RowPlaced i j row → a ≤ i → j ≤ b
        → Grows R unfinished a b o (row_declares w row o)
    row_grows w own end_of-TypeText o i j h l m = g_not
    row_grows w own (more_of-TypeText t rest) o i j h l m =
        let e = text_on i h.0 t h.1 in
        let f = row_on h.0 j rest h.2 in
        g_then (text_grows w own t o i h.0 h.1 l (omega arith))
        (row_grows w own rest (text_declares w t o) h.0 j h.2 (omega arith) m)

    pub fields_grow : (w : Within) (own : IsOpen R a w.region) (region : ℕ)
        (out : IsOpen R a region) {n : _} (row : Row_of-VarDef n) (o : Outline) (i j : ℕ)
        → FieldsPlaced i j row → a ≤ i → j ≤ b
        → Grows R unfinished a b o (row_fields_declare w region row o)
    fields_grow w own region out end_of-VarDef o i j h l m = g_not
    fields_grow w own region out (more_of-VarDef names t rest) o i j h l m =
        let d = names_on i h.0 names h.2 in
        let e = text_on h.0 h.1 t h.3 in
        let f = fields_on h.1 j rest h.4 in
        let o1 = names_put region names member.Field o in
        g_then (put_grow region out names member.Field o i h.0 h.2 l (omega arith))
        (g_then (text_grows w own t o1 h.0 h.1 h.3 (omega arith) (omega arith))
        (fields_grow w own region out rest (text_declares w t o1) h.1 j h.4 (omega arith) m))

  pub typedef_grows : (w : Within) (own : IsOpen R a w.region) (t : TypeDef) (o : Outline) (i j : ℕ)
      → TypeDefPlaced i j t → a ≤ i → j ≤ b → Grows R unfinished a b o (typedef_declares w t o)
  typedef_grows w own t o i j h l m =
      let q = h.0 in
      let e = text_on (suc t.name.place) j t.text h.1 in
      let f = text_from (suc t.name.place) j t.text (omega arith) h.1 in
      let o1 = lying w t.name.place o in
      let o2 = typedef_named w t o1 in
      let o3 = text_declares w t.text o2 in
      g_then (g_lying w t.name.place (omega arith) (omega arith))
      (g_then (g_declared w own t.name (text_last t.text) (plain w sort.TypeName) (omega arith)
      (omega arith) (omega arith))
      (g_then (text_grows w own t.text o2 (suc t.name.place) j h.1 (omega arith) m)
      (g_amended (with_kind (text_type o3 t.text)) t.name.place (omega arith) (λ e. refl))))

  pub types_grow : (w : Within) (own : IsOpen R a w.region) (ts : List TypeDef) (o : Outline)
      (i j : ℕ) → InOrder TypeDefPlaced i j ts → a ≤ i → j ≤ b
      → Grows R unfinished a b o (types_declare w ts o)
  types_grow w own [] o i j h l m = g_not
  types_grow w own (t ∷ ts) o i j h l m =
      let e = order_on TypeDefPlaced typedef_on h.0 j ts h.2 in
      let f = typedef_on i h.0 t h.1 in
      g_then (typedef_grows w own t o i h.0 h.1 l (omega arith))
      (types_grow w own ts (typedef_declares w t o) h.0 j h.2 (omega arith) m)

  -- variables
  pub vardef_grows : (w : Within) (own : IsOpen R a w.region) (v : VarDef) (o : Outline) (i j : ℕ)
      → VarDefPlaced i j v → a ≤ i → j ≤ b → Grows R unfinished a b o (vardef_declares w v o)
  vardef_grows w own v o i j h l m =
      let d = names_on i h.0 v.names h.1 in
      let e = text_on h.0 j v.text h.2 in
      let f = text_from h.0 j v.text (omega arith) h.2 in
      let g = text_begins h.0 j v.text (omega arith) h.2 in
      let q = text_within h.0 j v.text h.2 in
      let o1 = lying w (text_place v.text) o in
      let o2 = vardef_named w v o1 in
      let o3 = text_declares w v.text o2 in
      g_then (g_lying w (text_place v.text) (omega arith) (omega arith))
      (g_then (names_grow w own v.names (text_last v.text) (plain w sort.Variable) o1 i h.0 h.1 l
      (omega arith) (omega arith))
      (g_then (text_grows w own v.text o2 h.0 j h.2 (omega arith) m)
      (kinds_grow v.names (text_type o3 v.text) o3 i h.0 h.1 l)))

  pub vars_grow : (w : Within) (own : IsOpen R a w.region) (vs : List VarDef) (o : Outline)
      (i j : ℕ) → InOrder VarDefPlaced i j vs → a ≤ i → j ≤ b
      → Grows R unfinished a b o (vars_declare w vs o)
  vars_grow w own [] o i j h l m = g_not
  vars_grow w own (v ∷ vs) o i j h l m =
      let e = vars_on h.0 j vs h.2 in
      let f = vardef_on i h.0 v h.1 in
      g_then (vardef_grows w own v o i h.0 h.1 l (omega arith))
      (vars_grow w own vs (vardef_declares w v o) h.0 j h.2 (omega arith) m)

  -- channels
  pub roles_grow : (region : ℕ) (out : IsOpen R a region) (us : List Used) (r : Role) (o : Outline)
      (i j : ℕ) → NamesPlaced i j us → a ≤ i → j ≤ b
      → Grows R unfinished a b o (roles_put region us r o)
  roles_grow region out [] r o i j h l m = g_not
  roles_grow region out (u ∷ us) r o i j h l m =
      let k = names_on (suc u.place) j us h.1 in
      let q = h.0 in
      g_then (g_put region out u (member.Role r) (omega arith) (omega arith))
      (roles_grow region out us Second (put region u (member.Role r) o) (suc u.place) j h.1
      (omega arith) m)

  pub interaction_grows : (w : Within) (own : IsOpen R a w.region) (region : ℕ)
      (out : IsOpen R a region) (s : Senders) (x : InteractionDef) (o : Outline) (i j : ℕ)
      → InteractionPlaced i j x → a ≤ i → j ≤ b
      → Grows R unfinished a b o (interaction_declares w region s x o)
  interaction_grows w own region out s x o i j h l m =
      let q = h.0 in
      let e = vars_on (suc x.name.place) j x.params h.1 in
      g_then (g_put region out x.name (member.Interaction s) (omega arith) (omega arith))
      (vars_grow (in_region section.Interaction w x.name.place) (inr (omega arith)) x.params
      (put region x.name (member.Interaction s) o) (suc x.name.place) j h.1 (omega arith) m)

  pub interactions_grow : (w : Within) (own : IsOpen R a w.region) (region : ℕ)
      (out : IsOpen R a region) (s : Senders) (xs : List InteractionDef) (o : Outline) (i j : ℕ)
      → InOrder InteractionPlaced i j xs → a ≤ i → j ≤ b
      → Grows R unfinished a b o (interactions_declare w region s xs o)
  interactions_grow w own region out s [] o i j h l m = g_not
  interactions_grow w own region out s (x ∷ xs) o i j h l m =
      let e = interactions_on h.0 j xs h.2 in
      let f = interaction_on i h.0 x h.1 in
      g_then (interaction_grows w own region out s x o i h.0 h.1 l (omega arith))
      (interactions_grow w own region out s xs (interaction_declares w region s x o) h.0 j h.2
      (omega arith) m)

  pub by_parts_grow : (w : Within) (own : IsOpen R a w.region) (region : ℕ)
      (out : IsOpen R a region) (xs : List ByPart) (o : Outline) (i j : ℕ)
      → InOrder ByPartPlaced i j xs → a ≤ i → j ≤ b
      → Grows R unfinished a b o (by_parts_declare w region xs o)
  by_parts_grow w own region out [] o i j h l m = g_not
  by_parts_grow w own region out (x ∷ xs) o i j h l m =
      let e = by_parts_on h.0 j xs h.2 in
      let f = names_on i h.1.0 x.roles h.1.1 in
      let g = interactions_on h.1.0 h.0 x.interactions h.1.2 in
      g_then (interactions_grow w own region out (senders o region x.roles) x.interactions o h.1.0
      h.0
      h.1.2 (omega arith) (omega arith))
      (by_parts_grow w own region out xs (by_part_declares w region x o) h.0 j h.2 (omega arith) m)

  pub channel_grows : (w : Within) (own : IsOpen R a w.region) (c : Channel) (o : Outline) (i j : ℕ)
      → ChannelPlaced i j c → a ≤ i → j ≤ b → Grows R unfinished a b o (channel_declares w c o)
  channel_grows w own c o i j h l m =
      let place = c.name.place in
      let q = h.1 in
      let e = names_on (suc place) h.0 c.roles h.2 in
      let f = by_parts_on h.0 j c.by h.3 in
      let g : place ≤ channel_last c =
      by_from place h.0 j place c.by (omega arith) h.3 (omega arith) (omega arith) in
      let o1 = lying w place o in
      let o2 = declared w c.name (channel_last c) (plain w sort.Channel) o1 in
      g_then (g_lying w place (omega arith) (omega arith))
      (g_then (g_declared w own c.name (channel_last c) (plain w sort.Channel) (omega arith)
      (omega arith) g)
      (g_then (roles_grow place (inr (omega arith)) c.roles First o2 (suc place) h.0 h.2 (omega
      arith) (omega arith))
      (by_parts_grow w own place (inr (omega arith)) c.by (roles_put place c.roles First o2) h.0 j
      h.3 (omega arith) m)))

  -- interaction points and module variables
  pub point_grows : (w : Within) (own : IsOpen R a w.region) (p : Point) (o : Outline) (i j : ℕ)
      → PointPlaced i j p → a ≤ i → j ≤ b → Grows R unfinished a b o (point_declares w p o)
  point_grows w own p o i j h l m =
      let o1 = lying w p.place o in
      let dims = dims_of o1 p.dims in
      let d = names_on i h.0 p.names h.3 in
      let e = dims_on h.0 h.1 p.dims h.4 in
      let f = h.5 in
      let g = h.6 in
      let k = h.7 in
      let r = h.8 in
      let q = h.2 in
      g_then (g_lying w p.place (omega arith) (omega arith))
      (names_grow w own p.names p.role.place
      (point w dims (dims_elements dims) (side_of o1 p) p.queue) o1 i h.0 h.3 l (omega arith) (omega arith))

  pub points_grow : (w : Within) (own : IsOpen R a w.region) (ps : List Point) (o : Outline)
      (i j : ℕ) → InOrder PointPlaced i j ps → a ≤ i → j ≤ b
      → Grows R unfinished a b o (points_declare w ps o)
  points_grow w own [] o i j h l m = g_not
  points_grow w own (p ∷ ps) o i j h l m =
      let e = order_on PointPlaced point_on h.0 j ps h.2 in
      let f = point_on i h.0 p h.1 in
      g_then (point_grows w own p o i h.0 h.1 l (omega arith))
      (points_grow w own ps (point_declares w p o) h.0 j h.2 (omega arith) m)

  pub modvar_grows : (w : Within) (own : IsOpen R a w.region) (v : ModvarDef) (o : Outline)
      (i j : ℕ) → ModvarPlaced i j v → a ≤ i → j ≤ b
      → Grows R unfinished a b o (modvar_declares w v o)
  modvar_grows w own v o i j h l m =
      let o1 = lying w v.place o in
      let d = names_on i h.0 v.names h.3 in
      let e = dims_on h.0 h.1 v.dims h.4 in
      let f = h.5 in
      let g = h.6 in
      let k = h.7 in
      let q = h.2 in
      g_then (g_lying w v.place (omega arith) (omega arith))
      (names_grow w own v.names v.header.place
      (module_variable w (dims_of o1 v.dims) (declaration_of o1 sort.Header v.header)) o1 i h.0
      h.3 l (omega arith) (omega arith))

  pub modvars_grow : (w : Within) (own : IsOpen R a w.region) (vs : List ModvarDef) (o : Outline)
      (i j : ℕ) → InOrder ModvarPlaced i j vs → a ≤ i → j ≤ b
      → Grows R unfinished a b o (modvars_declare w vs o)
  modvars_grow w own [] o i j h l m = g_not
  modvars_grow w own (v ∷ vs) o i j h l m =
      let e = order_on ModvarPlaced modvar_on h.0 j vs h.2 in
      let f = modvar_on i h.0 v h.1 in
      g_then (modvar_grows w own v o i h.0 h.1 l (omega arith))
      (modvars_grow w own vs (modvar_declares w v o) h.0 j h.2 (omega arith) m)

  -- headers
  pub sections_grow : (w : Within) (own : IsOpen R a w.region) (ps : List Point) (vs : List VarDef)
      (o : Outline) (i j : ℕ) → Merged i j ps vs → a ≤ i → j ≤ b
      → Grows R unfinished a b o (sections_declare w ps vs o)
  sections_grow w own [] [] o i j (m_none h) l m = g_not
  sections_grow w own (p ∷ ps) vs o i j (m_point {k = k} h x) l m =
      let e = merged_on x in
      let f = point_on i k p h in
      let o1 = point_declares w p o in
      subst (λ z. Grows R unfinished a b o z) (sym (point_first w p ps vs o i k j (omega arith) h
      x))
      (g_then (point_grows w own p o i k h l (omega arith))
      (sections_grow w own ps vs o1 k j x (omega arith) m))
  sections_grow w own ps (v ∷ vs) o i j (m_export {k = k} h t x) l m =
      let e = merged_on x in
      let f = vardef_on i k v h in
      let o1 = vardef_declares w v o in
      subst (λ z. Grows R unfinished a b o z) (sym (export_first w ps v vs o k j t x))
      (g_then (vardef_grows w own v o i k h l (omega arith))
      (sections_grow w own ps vs o1 k j x (omega arith) m))

  pub header_named_grows : (w : Within) (own : IsOpen R a w.region) (x : Header) (o : Outline)
      (k : ℕ) → k ≤ 2 ^ 32 → a ≤ x.name.place → x.name.place < b
      → InOrder VarDefPlaced (suc x.name.place) k x.params
      → Grows R unfinished a b o (header_named w x o)
  header_named_grows w own x o k few l m h =
      let place = x.name.place in
      let f : place ≤ vars_last x.params place =
      vars_from place (suc place) k place x.params few h (omega arith) (omega arith) in
      g_then (g_lying w place l (omega arith))
      (g_declared w own x.name (header_last x) (header w x.system (has_exports x.exports)) l m
      (omega arith))

  pub header_grows : (w : Within) (own : IsOpen R a w.region) (x : Header) (o : Outline) (i j : ℕ)
      → HeaderPlaced i j x → a ≤ i → j ≤ b → Grows R unfinished a b o (header_declares w x o)
  header_grows w own x o i j h l m =
      let place = x.name.place in
      let q = h.1 in
      let c = vars_on (suc place) h.0 x.params h.2 in
      let d = merged_on h.3 in
      let f : place ≤ vars_last x.params place =
      vars_from place (suc place) h.0 place x.params (omega arith) h.2 (omega arith) (omega arith)
      in
      let e = header w x.system (has_exports x.exports) in
      let o1 = header_named w x o in
      let v = in_region section.Parameter w place in
      g_then (g_lying w place (omega arith) (omega arith))
      (g_then (g_declared w own x.name (header_last x) e (omega arith) (omega arith) (omega arith))
      (g_then (vars_grow v (inr (omega arith)) x.params o1 (suc place) h.0 h.2 (omega arith) (omega
      arith))
      (sections_grow (in_region section.Header w place) (inr (omega arith)) x.points x.exports
      (vars_declare v x.params o1) h.0 j h.3 (omega arith) m)))

  -- states, state sets and formals
  pub states_grow : (w : Within) (own : IsOpen R a w.region) (us : List Used) (o : Outline)
      (i j : ℕ) → NamesPlaced i j us → a ≤ i → j ≤ b
      → Grows R unfinished a b o (states_declare w us o)
  states_grow w own [] o i j h l m = g_not
  states_grow w own (u ∷ us) o i j h l m =
      let k = names_on (suc u.place) j us h.1 in
      let q = h.0 in
      g_then (g_declared w own u u.place (plain w sort.State) (omega arith) (omega arith) (omega
      arith))
      (states_grow w own us (declared w u u.place (plain w sort.State) o) (suc u.place) j h.1
      (omega arith) m)

  pub stateset_grows : (w : Within) (own : IsOpen R a w.region) (s : StateSet) (o : Outline)
      (i j : ℕ) → StateSetPlaced i j s → a ≤ i → j ≤ b
      → Grows R unfinished a b o (stateset_declares w s o)
  stateset_grows w own s o i j h l m =
      let place = s.name.place in
      let q = h.0 in
      let k = names_on (suc place) j s.states h.1 in
      let f : place ≤ names_last s.states place =
      names_from place (suc place) j place s.states h.1 (omega arith) (omega arith) in
      g_then (g_lying w place (omega arith) (omega arith))
      (g_declared w own s.name (names_last s.states place)
      (state_set w (states_named (lying w place o) s.states)) (omega arith) (omega arith) f)

  pub statesets_grow : (w : Within) (own : IsOpen R a w.region) (ss : List StateSet) (o : Outline)
      (i j : ℕ) → InOrder StateSetPlaced i j ss → a ≤ i → j ≤ b
      → Grows R unfinished a b o (statesets_declare w ss o)
  statesets_grow w own [] o i j h l m = g_not
  statesets_grow w own (s ∷ ss) o i j h l m =
      let e = order_on StateSetPlaced stateset_on h.0 j ss h.2 in
      let f = stateset_on i h.0 s h.1 in
      g_then (stateset_grows w own s o i h.0 h.1 l (omega arith))
      (statesets_grow w own ss (stateset_declares w s o) h.0 j h.2 (omega arith) m)

  pub formal_grows : (w : Within) (own : IsOpen R a w.region) (x : Formal) (o : Outline) (i j : ℕ)
      → FormalPlaced i j x → a ≤ i → j ≤ b → Grows R unfinished a b o (formal_declares w x o)
  formal_grows w own x o i j h l m =
      let v = in_section (formal_section x) w in
      let d = names_on i h.0 x.names h.1 in
      let e = h.2 in
      let f = h.3 in
      let o1 = lying w x.kind.place o in
      let o2 = formal_named v x o1 in
      g_then (g_lying w x.kind.place (omega arith) (omega arith))
      (g_then (names_grow v own x.names x.kind.place (plain v sort.Variable) o1 i h.0 h.1 l
      (omega arith) (omega arith))
      (kinds_grow x.names (named_type o2 x.kind) o2 i h.0 h.1 l))

  pub formals_grow : (w : Within) (own : IsOpen R a w.region) (xs : List Formal) (o : Outline)
      (i j : ℕ) → InOrder FormalPlaced i j xs → a ≤ i → j ≤ b
      → Grows R unfinished a b o (formals_declare w xs o)
  formals_grow w own [] o i j h l m = g_not
  formals_grow w own (x ∷ xs) o i j h l m =
      let e = order_on FormalPlaced formal_on h.0 j xs h.2 in
      let f = formal_on i h.0 x h.1 in
      g_then (formal_grows w own x o i h.0 h.1 l (omega arith))
      (formals_grow w own xs (formal_declares w x o) h.0 j h.2 (omega arith) m)
