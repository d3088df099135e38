-- What the whole outline says of constants, and of the enumerations in the texts of types.
use Rattle.std.proofs.Common.{inl, ◌≡◌, ℕ, suc, ◌<◌, ◌≤◌, ◌^◌, ◌-◌, min, Bool, true, false, ◌&&◌}
use Rattle.std.proofs.Common.{List}
use Rattle.std.proofs.Common.{[], ◌∷◌, refl, sym, ap, ◌∙◌, Option, Some, None, is_some, map}
use Rattle.std.proofs.Common.{if◌then◌else◌, nat_eq, arith}
use Rattle.std.specs.Map.{lookup}
use Rattle.est_syntax.specs.declared.kind.Kind.TheVariants as kind
use Rattle.est_syntax.specs.Names.{spelled}
use Rattle.est_syntax.specs.declared.name.Used.{Used}
use Rattle.est_syntax.specs.declared.constant.ConstDef.{ConstDef}
use Rattle.est_syntax.specs.declared.type_text.TypeText.{TypeText, Row_of-TypeText, end_of-TypeText}
use Rattle.est_syntax.specs.declared.type_text.TypeText.{more_of-TypeText, Row_of-VarDef}
use Rattle.est_syntax.specs.declared.type_text.TypeText.{end_of-VarDef, more_of-VarDef}
use Rattle.est_syntax.specs.declared.type_text.TypeText.TheVariants as text
use Rattle.rule_scope.specs.declared.declaration.Entry.{Entry}
use Rattle.rule_scope.specs.declared.declaration.Member.TheVariants as member
use Rattle.rule_scope.specs.declared.declaration.Sort.TheVariants as sort
use Rattle.rule_scope.specs.declared.declaration.Within.{Within}
use Rattle.rule_scope.specs.Outline.{Outline, entry_at}
use Rattle.rule_scope.specs.Declaring.{lying}
use Rattle.rule_kinds.specs.declared.value.Valued.{Valued}
use Rattle.rule_kinds.specs.Constants.{constant_value, constant_last, value_with}
use Rattle.rule_kinds.specs.TypeTexts.{are_declared, enumeration, scalar}
use Rattle.rule_declares.specs.Entries.{constant, numbered, ordinal_of}
use Rattle.rule_declares.specs.Lasts.{names_last}
use Rattle.rule_declares.specs.Declares.{constdef_declares, consts_declare, numbers_declare}
use Rattle.rule_declares.specs.Declares.{kinds_given, enumeration_declares, names_put}
use Rattle.rule_declares.specs.Declares.{text_declares, row_declares, row_fields_declare}
use Rattle.law_places.specs.Growth.{is_completed, IsLike, AreLike, Grows, IsBefore}
use Rattle.law_places.specs.Later.{Later}
use Rattle.law_places.specs.Said.{Each, host_of, ConstDefSaid, NumbersSaid, DifferDeclared}
use Rattle.law_places.specs.Said.{TextSaid, RowSaid, FieldsSaid}
use Rattle.law_places.proofs.Following.{followed, like_then, like_present}
use Rattle.law_places.specs.Growth.{Anywhere}
use Rattle.law_places.proofs.Lasting.{later_then, later_weaker, later_grown, before_grown}
use Rattle.law_places.proofs.Lasting.{before_later, before_lying, grows_on}
use Rattle.law_places.proofs.Declared.{entry_before, declared_entry, later_names, kinds_before}
use Rattle.law_places.proofs.Declared.{none_like, no_entries, names_put_entries}
use Rattle.law_places.proofs.Declared.{kinds_have, kinds_present, AreNumbered, numbers_entries}
use Rattle.rule_declares.proofs.Names.{once_differ}
use Rattle.law_places.proofs.OnceDeclared.{numbers_once}
use Rattle.law_places.proofs.Placed.{NamesPlaced, TextPlaced, RowPlaced, FieldsPlaced, names_on}
use Rattle.law_places.proofs.Placed.{text_on, row_on, fields_on, constant_on}
use Rattle.law_places.proofs.PlacedParts.{InOrder, ConstDefPlaced}
use Rattle.law_places.proofs.Staying.{constant_stays}
use Rattle.law_places.proofs.Declaring.{order_on, constdef_on, constdef_grows, consts_grow}
use Rattle.law_places.proofs.Declaring.{text_grows, row_grows, fields_grow, put_grow}

-- what is known of a declaration of a sort that is not completed is the same later
pub like_one : (unfinished : Bool) (e f : Entry) → IsLike unfinished e f
    → is_completed e.declared.sort ≡ false → f ≡ e
like_one true e f h k = h.1 k
like_one false e f h k = h.1 refl

-- what is declared later at a place before one from which an outline grows was declared before
pub entry_was : (R : ℕ → Type 0) (unfinished : Bool) (k b : ℕ) (o p : Outline)
    → Grows R unfinished k b o p → (q : ℕ) → q < k → (f : Entry) → entry_at p q ≡ Some f
    → (e : Entry) × (entry_at o q ≡ Some e) × IsLike unfinished e f
entry_was R unfinished k b o p grows q l f h =
    entry_before unfinished (entry_at o q) (entry_at p q) f
    ((followed R unfinished k b grows).entries q l) h

constant_sort : (w : Within) (v : Option Valued) → (constant w v).declared.sort ≡ sort.Constant
constant_sort w None = refl
constant_sort w (Some v) = refl

constant_has : (w : Within) (v : Option Valued)
    → value_with (constant w v).kind (constant w v).ordinal ≡ v
constant_has w None = refl
constant_has w (Some v) = refl

constant_kind : (w : Within) (v : Option Valued) → (constant w v).kind ≡ host_of v
constant_kind w None = refl
constant_kind w (Some v) = refl

constant_dims : (w : Within) (v : Option Valued) → (constant w v).dims ≡ None
constant_dims w None = refl
constant_dims w (Some v) = refl

-- constants
module _ (unfinished : Bool) (b : ℕ) (fits : b ≤ 2 ^ 32) (p : Outline) where
  constant_said : (w : Within) (c : ConstDef) (o : Outline) (i j : ℕ) → ConstDefPlaced i j c
      → j ≤ b → IsBefore i o → Grows Anywhere unfinished j b (constdef_declares w c o) p
      → ConstDefSaid p c
  constant_said w c o i j h l before rest f at =
      let place = c.name.place in
      let q = h.0 in
      let d = constant_on (suc place) j c.value h.1 in
      let last = constant_last c.value in
      let o1 = lying w place o in
      let o2 = constdef_declares w c o in
      let v = constant_value o1 c.value in
      let till = min last (j - 1) in
      let before1 : IsBefore place o1 =
      before_lying place place w o (before_later i place o q before) in
      let before2 : IsBefore j o2 =
      before_grown Anywhere unfinished i j o o2
      (constdef_grows Anywhere unfinished i j (omega arith) w (inl tt) c o i j h (omega arith)
      (omega arith)) before
      (omega arith) in
      let later : Later place till o1 p =
      later_then place till o1 o2 p
      (later_names w (c.name ∷ []) last (constant w v) o1 place (suc place) till
      (omega arith, omega arith) before1 (omega arith))
      (later_weaker j till place till o2 p (omega arith) (omega arith)
      (later_grown Anywhere unfinished j b o2 p rest before2 till (omega arith))) in
      let stays : constant_value p c.value ≡ v =
      constant_stays place till o1 p later (suc place) j c.value h.1
      (λ x m n. omega arith) in
      let e = entry_was Anywhere unfinished j b o2 p rest place (omega arith) f at in
      let is : e.0 ≡ constant w v = declared_entry o1 w c.name last (constant w v) e.0
      (before1.declarations place (omega arith)) e.1 in
      let sorted : e.0.declared.sort ≡ sort.Constant =
      ap (λ (x : Entry). x.declared.sort) is ∙ constant_sort w v in
      let same : f ≡ constant w v =
      like_one unfinished e.0 f e.2 (ap is_completed sorted) ∙ is in (
        ap (λ (x : Entry). x.declared.sort) same ∙ constant_sort w v,
        ap (λ (x : Entry). value_with x.kind x.ordinal) same ∙ constant_has w v ∙ sym stays,
        ap (λ (x : Entry). x.kind) same ∙ constant_kind w v ∙ sym (ap host_of stays),
        ap (λ (x : Entry). x.dims) same ∙ constant_dims w v,
      )

  pub constants_said : (w : Within) (cs : List ConstDef) (o : Outline) (i j : ℕ)
      → InOrder ConstDefPlaced i j cs → j ≤ b → IsBefore i o
      → Grows Anywhere unfinished j b (consts_declare w cs o) p → Each (ConstDefSaid p) cs
  constants_said w [] o i j h l before rest = tt
  constants_said w (c ∷ cs) o i j h l before rest =
      let e = order_on ConstDefPlaced constdef_on h.0 j cs h.2 in
      let f = constdef_on i h.0 c h.1 in
      let o1 = constdef_declares w c o in
      let before1 : IsBefore h.0 o1 =
      before_grown Anywhere unfinished i h.0 o o1
      (constdef_grows Anywhere unfinished i h.0 (omega arith) w (inl tt) c o i h.0 h.1 (omega arith)
      (omega arith))
      before (omega arith) in (
        constant_said w c o i h.0 h.1 (omega arith) before (grows_on Anywhere unfinished h.0 j b o1
            (consts_declare w cs o1) p (omega arith) l (consts_grow Anywhere unfinished h.0 j (omega
            arith) w (inl tt)
            cs o1 h.0 j h.2 (omega arith) (omega arith)) rest),
        constants_said w cs o1 h.0 j h.2 l before1 rest,
      )

-- what is declared between two places is known as it was
abbrev pub Keeps : Bool → ℕ → ℕ → Outline → Outline → Type 0
Keeps unfinished i k o p = (q : ℕ) → i ≤ q → q < k
    → AreLike unfinished (entry_at o q) (entry_at p q)

-- also where more was declared after them before
pub keeps_on : (unfinished : Bool) (i m k j : ℕ) (o x p : Outline) → k ≤ m → i ≤ m → m ≤ j
    → Grows Anywhere unfinished m j o x → Keeps unfinished i j x p → Keeps unfinished i k o p
keeps_on unfinished i m k j o x p r s t grows keeps q l n =
    like_then unfinished (entry_at o q) (entry_at x q) (entry_at p q)
    ((followed Anywhere unfinished m j grows).entries q (omega arith)) (keeps q l (omega arith))

pub keeps_from : (unfinished : Bool) (i k j : ℕ) (o p : Outline) → i ≤ k → Keeps unfinished i j o p
    → Keeps unfinished k j o p
keeps_from unfinished i k j o p r keeps q l n = keeps q (omega arith) n

module _ (unfinished : Bool) (p : Outline) where
  -- the names of an enumeration are declared as they were
  declared_alike : (o1 o2 : Outline) (i j : ℕ) (us : List Used) → NamesPlaced i j us
      → Keeps unfinished i j o2 p → ((q : ℕ) → is_some (entry_at o2 q) ≡ is_some (entry_at o1 q))
      → are_declared p us ≡ are_declared o1 us
  declared_alike o1 o2 i j [] h keeps there = refl
  declared_alike o1 o2 i j (u ∷ us) h keeps there =
      let n = names_on (suc u.place) j us h.1 in
      let q = h.0 in
      λ k. (like_present unfinished (entry_at o2 u.place) (entry_at p u.place)
      (keeps u.place (omega arith) (omega arith)) ∙ there u.place) k
      && declared_alike o1 o2 (suc u.place) j us h.1
      (keeps_from unfinished i (suc u.place) j o2 p (omega arith) keeps) there k

  enumeration_alike : (o1 o2 : Outline) (i j : ℕ) (us : List Used) (place : ℕ) → NamesPlaced i j us
      → Keeps unfinished i j o2 p → ((q : ℕ) → is_some (entry_at o2 q) ≡ is_some (entry_at o1 q))
      → enumeration p us place ≡ enumeration o1 us place
  enumeration_alike o1 o2 i j [] place h keeps there = refl
  enumeration_alike o1 o2 i j (u ∷ us) place h keeps there =
      ap (λ (t : Bool). if t
      then Some (scalar (kind.Enumeration place (map (λ (x : Used). x.name) (u ∷ us)))) else None)
      (declared_alike o1 o2 i j (u ∷ us) h keeps there)

  -- its constants
  numbers_said : (w : Within) (names : List Used) (place : ℕ) (o1 o2 : Outline) (i j : ℕ)
      (us : List Used) (n : ℕ) → NamesPlaced i j us → Keeps unfinished i j o2 p
      → enumeration p names place ≡ enumeration o1 names place
      → ((q : ℕ) (f : Entry) → entry_at o2 q ≡ Some f
      → (e : Entry) × (entry_at o1 q ≡ Some e) × (f.declared ≡ e.declared)
      × (f.ordinal ≡ e.ordinal) × (f.dims ≡ e.dims)) → AreNumbered w o1 us n
      → Each (λ u. (f : Entry) → entry_at o2 u.place ≡ Some f
      → f.kind ≡ enumeration o1 names place) us → NumbersSaid p (enumeration p names place) n us
  numbers_said w names place o1 o2 i j [] n h keeps kinds was numbers have = tt
  numbers_said w names place o1 o2 i j (u ∷ us) n h keeps kinds was numbers have =
      let m = names_on (suc u.place) j us h.1 in
      let q = h.0 in
      let like : AreLike unfinished (entry_at o2 u.place) (entry_at p u.place) =
      keeps u.place (omega arith) (omega arith) in (
        λ f at. one f (entry_before unfinished (entry_at o2 u.place) (entry_at p u.place) f like
            at),
        numbers_said w names place o1 o2 (suc u.place) j us (suc n) h.1
            (keeps_from unfinished i (suc u.place) j o2 p (omega arith) keeps) kinds was numbers.1
            have.1,
      )
    where
      one : (f : Entry) → (e : Entry) × (entry_at o2 u.place ≡ Some e) × IsLike unfinished e f
          → (f.declared.sort ≡ sort.Constant) × (f.kind ≡ enumeration p names place)
          × (f.ordinal ≡ ordinal_of n) × (f.dims ≡ None)
      one f e =
          let d = was u.place e.0 e.1 in
          let is : d.0 ≡ numbered w n = numbers.0 d.0 d.1 in
          let sorted : e.0.declared.sort ≡ sort.Constant =
          ap (λ x. x.sort) d.2 ∙ ap (λ (x : Entry). x.declared.sort) is in
          let same : f ≡ e.0 = like_one unfinished e.0 f e.2 (ap is_completed sorted) in (
            ap (λ (x : Entry). x.declared.sort) same ∙ sorted,
            ap (λ (x : Entry). x.kind) same ∙ have.0 e.0 e.1 ∙ sym kinds,
            ap (λ (x : Entry). x.ordinal) same ∙ d.3 ∙ ap (λ (x : Entry). x.ordinal) is,
            ap (λ (x : Entry). x.dims) same ∙ d.4 ∙ ap (λ (x : Entry). x.dims) is,
          )

  enumeration_said : (w : Within) (names : List Used) (place : ℕ) (o : Outline) (j : ℕ)
      → NamesPlaced place j names → IsBefore place o
      → Keeps unfinished place j (enumeration_declares w names place o) p
      → NumbersSaid p (enumeration p names place) 0 names × DifferDeclared p names
  enumeration_said w names place o j h before keeps =
      let o1 = numbers_declare w names (names_last names place) 0 o in
      let k = enumeration o1 names place in
      let o2 = kinds_given names k o1 in (
        numbers_said w names place o1 o2 place j names 0 h keeps
            (enumeration_alike o1 o2 place j names place h keeps
            (λ q. kinds_present names k o1 q))
            (λ q f at. kinds_before names k o1 q f at)
            (numbers_entries w names (names_last names place) 0 o place j h
            (λ q l. before.declarations q l)) (kinds_have names k o1),
        λ all. once_differ spelled names (numbers_once w names (names_last names place) 0 o place j
            h (λ q l. before.declarations q l) (sym (declared_alike o1 o2 place j names h keeps
            (λ q. kinds_present names k o1 q)) ∙ all)).1,
      )

  -- the texts of types
  mutual
    pub text_said : (w : Within) (t : TypeText) (o : Outline) (i j : ℕ) → j ≤ 2 ^ 32
        → TextPlaced i j t → IsBefore i o → Keeps unfinished i j (text_declares w t o) p
        → TextSaid p t
    text_said w (text.Named u) o i j fits h before keeps = tt
    text_said w (text.Range low high) o i j fits h before keeps = tt
    text_said w (text.Names names place) o i j fits h before keeps =
        let q = h.0 in
        enumeration_said w names place o j h.1 (before_later i place o q before)
        (keeps_from unfinished i place j (enumeration_declares w names place o) p q keeps)
    text_said w (text.Array' x index y of place) o i j fits h before keeps =
        let q = h.1 in
        let e = row_on place h.0 index h.2 in
        let f = row_on h.0 j of h.3 in
        let o1 = row_declares w index o in
        let o2 = row_declares w of o1 in
        let start : IsBefore place o = before_later i place o q before in
        let grows : Grows Anywhere unfinished place h.0 o o1 =
        row_grows Anywhere unfinished place h.0 (omega arith) w (inl tt) index o place h.0 h.2
        (omega arith)
        (omega arith) in
        let keeps1 : Keeps unfinished place j o2 p =
        keeps_from unfinished i place j o2 p q keeps in (
          row_said w index o place h.0 (omega arith) h.2 start
              (keeps_on unfinished place h.0 h.0 j o1 o2 p (omega arith) e f
              (row_grows Anywhere unfinished h.0 j fits w (inl tt) of o1 h.0 j h.3 (omega arith)
              (omega arith))
              keeps1),
          row_said w of o1 h.0 j fits h.3 (before_grown Anywhere unfinished place h.0 o o1 grows
              start e)
              (keeps_from unfinished place h.0 j o2 p e keeps1),
        )
    text_said w (text.Fields' x defs place) o i j fits h before keeps =
        let q = h.0 in
        fields_said w place defs o place j fits h.1 (before_later i place o q before)
        (keeps_from unfinished i place j (row_fields_declare w place defs o) p q keeps)
    text_said w (text.Set' x of place) o i j fits h before keeps =
        let q = h.0 in
        row_said w of o place j fits h.1 (before_later i place o q before)
        (keeps_from unfinished i place j (row_declares w of o) p q keeps)

    row_said : (w : Within) {n : _} (row : Row_of-TypeText n) (o : Outline) (i j : ℕ) → j ≤ 2 ^ 32
        → RowPlaced i j row → IsBefore i o → Keeps unfinished i j (row_declares w row o) p
        → RowSaid p row
    row_said w end_of-TypeText o i j fits h before keeps = tt
    row_said w (more_of-TypeText t rest) o i j fits h before keeps =
        let e = text_on i h.0 t h.1 in
        let f = row_on h.0 j rest h.2 in
        let o1 = text_declares w t o in
        let o2 = row_declares w rest o1 in
        let grows : Grows Anywhere unfinished i h.0 o o1 =
        text_grows Anywhere unfinished i h.0 (omega arith) w (inl tt) t o i h.0 h.1 (omega arith)
        (omega arith) in (
          text_said w t o i h.0 (omega arith) h.1 before
              (keeps_on unfinished i h.0 h.0 j o1 o2 p (omega arith) e f
              (row_grows Anywhere unfinished h.0 j fits w (inl tt) rest o1 h.0 j h.2 (omega arith)
              (omega arith))
              keeps),
          row_said w rest o1 h.0 j fits h.2 (before_grown Anywhere unfinished i h.0 o o1 grows
              before e)
              (keeps_from unfinished i h.0 j o2 p e keeps),
        )

    fields_said : (w : Within) (region : ℕ) {n : _} (row : Row_of-VarDef n) (o : Outline) (i j : ℕ)
        → j ≤ 2 ^ 32 → FieldsPlaced i j row → IsBefore i o
        → Keeps unfinished i j (row_fields_declare w region row o) p → FieldsSaid p row
    fields_said w region end_of-VarDef o i j fits h before keeps = tt
    fields_said w region (more_of-VarDef names t rest) o i j fits h before keeps =
        let d = names_on i h.0 names h.2 in
        let e = text_on h.0 h.1 t h.3 in
        let f = fields_on h.1 j rest h.4 in
        let o1 = names_put region names member.Field o in
        let o2 = text_declares w t o1 in
        let o3 = row_fields_declare w region rest o2 in
        let before1 : IsBefore h.0 o1 =
        before_grown Anywhere unfinished i h.0 o o1
        (put_grow Anywhere unfinished i h.0 (omega arith) region (inl tt) names member.Field o i h.0
        h.2 (omega arith)
        (omega arith)) before d in
        let before2 : IsBefore h.1 o2 =
        before_grown Anywhere unfinished h.0 h.1 o1 o2
        (text_grows Anywhere unfinished h.0 h.1 (omega arith) w (inl tt) t o1 h.0 h.1 h.3 (omega
        arith) (omega arith))
        before1 e in
        let later : Grows Anywhere unfinished h.0 j o1 o3 =
        grows_on Anywhere unfinished h.0 h.1 j o1 o2 o3 e f
        (text_grows Anywhere unfinished h.0 h.1 (omega arith) w (inl tt) t o1 h.0 h.1 h.3 (omega
        arith) (omega arith))
        (fields_grow Anywhere unfinished h.1 j fits w (inl tt) region (inl tt) rest o2 h.1 j h.4
        (omega arith) (omega arith))
        in (
          no_entries p i h.0 names h.2 (λ q l m. none_like unfinished (entry_at o3 q) (entry_at p q)
              (keeps q l (omega arith)) (none_like unfinished (entry_at o1 q) (entry_at o3 q)
              ((followed Anywhere unfinished h.0 j later).entries q m)
              (ap (λ es. lookup (nat_eq q) es) (names_put_entries region names member.Field o)
              ∙ before.declarations q l))),
          text_said w t o1 h.0 h.1 (omega arith) h.3 before1
              (keeps_on unfinished h.0 h.1 h.1 j o2 o3 p (omega arith) e f
              (fields_grow Anywhere unfinished h.1 j fits w (inl tt) region (inl tt) rest o2 h.1 j
              h.4 (omega arith)
              (omega arith)) (keeps_from unfinished i h.0 j o3 p d keeps)),
          fields_said w region rest o2 h.1 j fits h.4 before2
              (keeps_from unfinished i h.1 j o3 p (omega arith) keeps),
        )
