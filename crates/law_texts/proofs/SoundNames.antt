-- Each name that declarations without statements declare is sound: in time where it is a constant
-- or a type, and in the end so is the kind of each, and so are its subscripts.
use Rattle.std.specs.Prelude.{if◌then◌else◌, nat_le, is_some}
use Rattle.std.proofs.Common.{◌≡◌, refl, sym, subst, ap, ◌∙◌, true≢false, ℕ, suc, ◌+◌, ◌≤◌}
use Rattle.std.proofs.Common.{◌<◌, pos, Bool, true, false, List, [], ◌∷◌, ◌++◌, length}
use Rattle.std.proofs.Common.{Option, Some, None, arith}
use Rattle.std.proofs.lemmas.Bool.{and_parts}
use Rattle.std.proofs.lemmas.Int.{ints}
use Rattle.std.proofs.lemmas.Option.{same_Some, none-some}
use Rattle.est_syntax.specs.Kinds.{maxint, is_ordinal}
use Rattle.est_syntax.specs.declared.constant.ConstDef.{ConstDef}
use Rattle.est_syntax.specs.declared.kind.Kind.{Kind, out-Kind}
use Rattle.est_syntax.specs.declared.kind.Kind.TheVariants as kind
use Rattle.est_syntax.specs.declared.name.Used.{Used}
use Rattle.est_syntax.specs.declared.type_text.TypeText.{TypeText, Row_of-TypeText, end_of-TypeText}
use Rattle.est_syntax.specs.declared.type_text.TypeText.{more_of-TypeText, Row_of-VarDef}
use Rattle.est_syntax.specs.declared.type_text.TypeText.{end_of-VarDef, more_of-VarDef}
use Rattle.est_syntax.specs.declared.type_text.TypeText.TheVariants as text
use Rattle.est_syntax.specs.declared.type_text.TypeDef.{TypeDef}
use Rattle.est_syntax.specs.declared.type_text.VarDef.{VarDef}
use Rattle.est_syntax.specs.declared.channel.InteractionDef.{InteractionDef}
use Rattle.est_syntax.specs.declared.channel.ByPart.{ByPart}
use Rattle.est_syntax.specs.declared.channel.Channel.{Channel}
use Rattle.est_syntax.specs.declared.header.Point.{Point}
use Rattle.est_syntax.specs.declared.header.Header.{Header}
use Rattle.est_syntax.specs.declared.header.ModvarDef.{ModvarDef}
use Rattle.est_syntax.specs.declared.routine.Formal.{Formal}
use Rattle.est_syntax.specs.declared.body.StateSet.{StateSet}
use Rattle.rule_scope.specs.declared.declaration.Entry.{Entry}
use Rattle.rule_scope.specs.declared.declaration.Measured.{Measured}
use Rattle.rule_scope.specs.declared.declaration.Sort.{Sort}
use Rattle.rule_scope.specs.declared.declaration.Sort.TheVariants as sort
use Rattle.rule_scope.specs.Outline.{Outline, entry_at}
use Rattle.rule_kinds.specs.declared.value.Valued.{Valued}
use Rattle.rule_kinds.specs.Constants.{valued, value_with, constant_value, constant_last}
use Rattle.rule_kinds.specs.TypeTexts.{scalar, are_declared, enumeration, named_type, text_type}
use Rattle.rule_kinds.specs.Dims.{with_dim, dims_after, dims_of}
use Rattle.rule_declares.specs.Entries.{ordinal_of}
use Rattle.rule_declares.specs.Lasts.{names_last, text_last, channel_last, header_last}
use Rattle.law_places.specs.Said.{Each, IsSaid, IsOf, HasKind, IsNoEntry, host_of, ConstDefSaid}
use Rattle.law_places.specs.Said.{NumbersSaid, TextSaid, RowSaid, FieldsSaid, TypeDefSaid}
use Rattle.law_places.specs.Said.{VarDefSaid}
use Rattle.law_places.specs.Said.{DifferDeclared, InteractionSaid, ByPartSaid, ChannelSaid}
use Rattle.law_places.specs.Said.{PointSaid, ModvarSaid, HeaderSaid, StateSetSaid, FormalSaid}
use Rattle.law_sentences.specs.WrittenExpressions.{HasConstants, RowHas, FieldsHave}
use Rattle.law_sentences.specs.WrittenParts.{TypeDefWritten, VarDefWritten, InteractionWritten}
use Rattle.law_sentences.specs.WrittenParts.{ByPartWritten, ChannelWritten, HeaderWritten}
use Rattle.law_sentences.proofs.Names.{each_then}
use Rattle.law_sentences.proofs.Uses.{constant_then, text_then, of_constant, of_text}
use Rattle.law_sentences.proofs.UsesStand.{name_to_last}
use Rattle.law_sentences.proofs.Walk.{Named, IsMember, OfConstDef, OfText, OfRow, OfFields}
use Rattle.law_sentences.proofs.Walk.{OfTypeDef, OfVarDef, OfInteraction, OfByPart, OfChannel}
use Rattle.law_sentences.proofs.Walk.{OfPoint, OfModvar, OfHeader, OfStateSet, OfState, OfFormal}
use Rattle.law_texts.proofs.Spelt.{IsSpelt, ConstDefSpelt, TextSpelt, RowSpelt, FieldsSpelt}
use Rattle.law_texts.proofs.Spelt.{ShortSpelt, TypeDefSpelt, VarDefSpelt, InteractionSpelt}
use Rattle.law_texts.proofs.Spelt.{ByPartSpelt, ChannelSpelt, PointSpelt, ModvarSpelt, HeaderSpelt}
use Rattle.law_texts.proofs.SpeltTexts.{short_text}
use Rattle.law_texts.proofs.SpeltParts.{joined}
use Rattle.law_texts.proofs.SoundKinds.{IsSoundOrdinal, IsSoundKind, sound_kind, sound_ordinal}
use Rattle.law_texts.proofs.SoundValues.{IsSoundValue, HasSoundKind, IsSoundFor, IsSoundAt}
use Rattle.law_texts.proofs.SoundValues.{value_sound}
use Rattle.law_texts.proofs.SoundTexts.{names_of, count_names, enumerated_sound}
use Rattle.law_texts.proofs.SoundTexts.{named_sound, text_sound}

-- what is there
there : (x : Option Entry) → is_some x ≡ true → (e : Entry) × (x ≡ Some e)
there None h = absurd (true≢false (sym h))
there (Some e) h = (e, refl)

module _ (o : Outline) where
  -- the constants and types that are in force before a place are sound
  abbrev pub AreSoundBefore : ℕ → Type 0
  AreSoundBefore b = (u : Used) → u.place < b → IsSoundAt o u

  abbrev pub InTime : ℕ → ℕ → Type 0
  InTime place last = (e : Entry) → entry_at o place ≡ Some e → AreSoundBefore (suc last)
      → IsSoundFor o e.declared.sort e

  -- the kind of a declaration and its subscripts, which are sound in the end
  abbrev pub HasSoundDims : Entry → Type 0
  HasSoundDims e = (ks : List Kind) → e.dims ≡ Some ks → Each IsSoundOrdinal ks

  abbrev pub IsSoundInTheEnd : Entry → Type 0
  IsSoundInTheEnd e = HasSoundKind o e × HasSoundDims e

  abbrev pub InTheEnd : ℕ → Type 0
  InTheEnd place = (e : Entry) → entry_at o place ≡ Some e → ((u : Used) → IsSoundAt o u)
      → IsSoundInTheEnd e

  abbrev pub IsSoAt : Used → ℕ → Type 0
  IsSoAt u last = InTime u.place last × InTheEnd u.place

  abbrev pub IsAMember : Used → Type 0
  IsAMember u = InTime u.place u.place

  -- a declaration of a sort
  pub of_sort : (s : Sort) (Q : Entry → Type 0) (u : Used) (last : ℕ) → IsSaid o Q u
      → ((e : Entry) → Q e → e.declared.sort ≡ s)
      → ((e : Entry) → Q e → AreSoundBefore (suc last) → IsSoundFor o s e)
      → ((e : Entry) → Q e → ((v : Used) → IsSoundAt o v) → IsSoundInTheEnd e) → IsSoAt u last
  of_sort s Q u last said is soon late = (
    λ e at before. subst (λ x. IsSoundFor o x e) (sym (is e (said e at)))
        (soon e (said e at) before),
    λ e at all. late e (said e at) all,
  )

  -- a declaration without a kind, without subscripts, and without both
  pub no_kind : (e : Entry) → e.kind ≡ None → HasSoundKind o e
  no_kind e none m h = absurd (none-some m (sym none ∙ h))

  no_dims : (e : Entry) → e.dims ≡ None → HasSoundDims e
  no_dims e none ks h = absurd (none-some ks (sym none ∙ h))

  pub has_neither : (e : Entry) → e.kind ≡ None → e.dims ≡ None → IsSoundInTheEnd e
  has_neither e k d = (no_kind e k, no_dims e d)

  -- a declaration with this kind, if it is one, and without subscripts
  pub has_kind : (e : Entry) (k : Option Measured) → e.kind ≡ k → e.dims ≡ None
      → ((m : Measured) → k ≡ Some m → IsSoundKind m.kind) → IsSoundInTheEnd e
  has_kind e k is d sound = (λ m h. sound m (sym is ∙ h), no_dims e d)

  -- no declaration
  no_entry : (u : Used) → IsNoEntry o u → IsAMember u
  no_entry u none e at before = absurd (none-some e (sym none ∙ at))

  members_sound : (us : List Used) → Each (IsNoEntry o) us → Each (IsMember IsSoAt IsAMember) us
  members_sound us said = each_then (IsNoEntry o) (IsMember IsSoAt IsAMember) no_entry us said

  -- CONSTANTS

  host_sound : (v : Option Valued) (m : Measured)
      → ((x : Valued) → v ≡ Some x → IsSoundValue o x) → host_of v ≡ Some m → IsSoundKind m.kind
  host_sound None m sound h = absurd (none-some m h)
  host_sound (Some x) m sound h = subst (λ (y : Measured). IsSoundKind y.kind)
      (same_Some (scalar x.host) m h) (sound_kind x.host (sound x refl).host)

  constdef_sound : (c : ConstDef) → ConstDefSaid o c → ConstDefSpelt c
      → OfConstDef IsSoAt IsAMember c
  constdef_sound c said plain =
      let last = constant_last c.value in
      of_sort sort.Constant _ c.name last said (λ e q. q.0)
      (λ e q before v h. value_sound o c.value v
      (constant_then (λ u. u.place < suc last) (IsSoundAt o) before c.value (name_to_last c.value))
      plain.1 (sym q.1 ∙ h))
      (λ e q all. has_kind e (host_of (constant_value o c.value)) q.2 q.3
      (λ m h. host_sound (constant_value o c.value) m
      (λ v k. value_sound o c.value v (of_constant (IsSoundAt o) all c.value) plain.1 k) h))

  pub consts_sound : (cs : List ConstDef) → Each (ConstDefSaid o) cs → Each ConstDefSpelt cs
      → Each (OfConstDef IsSoAt IsAMember) cs
  consts_sound [] said plain = tt
  consts_sound (c ∷ cs) said plain =
      (constdef_sound c said.0 plain.0, consts_sound cs said.1 plain.1)

  -- ENUMERATIONS

  enumeration_is : (u : Used) (us : List Used) (place : ℕ) (m : Measured)
      → enumeration o (u ∷ us) place ≡ Some m → (are_declared o (u ∷ us) ≡ true)
      × (scalar (kind.Enumeration place (names_of (u ∷ us))) ≡ m)
  enumeration_is u us place m h = by (are_declared o (u ∷ us)) h
    where
      by : (b : Bool)
          → (if b then Some (scalar (kind.Enumeration place (names_of (u ∷ us)))) else None)
          ≡ Some m → (b ≡ true) × (scalar (kind.Enumeration place (names_of (u ∷ us))) ≡ m)
      by true q = (refl, same_Some (scalar (kind.Enumeration place (names_of (u ∷ us)))) m q)
      by false q = absurd (none-some m q)

  -- the first constant of an enumeration is of its kind
  first_known : (u : Used) (us : List Used) (place : ℕ) (m : Measured)
      → NumbersSaid o (enumeration o (u ∷ us) place) 0 (u ∷ us) → u.place ≡ suc place
      → enumeration o (u ∷ us) place ≡ Some m
      → (e : Entry) × (entry_at o (suc place) ≡ Some e) × (e.kind ≡ Some m)
  first_known u us place m said after h =
      let all = (enumeration_is u us place m h).0 in
      let e = there (entry_at o u.place)
      (and_parts (is_some (entry_at o u.place)) (are_declared o us) all).0 in
      (e.0, ap (entry_at o) (sym after) ∙ e.1, (said.0 e.0 e.1).1 ∙ h)

  -- a constant by its number
  number_held : (place i : ℕ) (ns : List _) → i < length ns
      → IsSoundOrdinal (kind.Enumeration place ns)
      → ((e : Entry) × (entry_at o (suc place) ≡ Some e)
      × (e.kind ≡ Some (scalar (kind.Enumeration place ns))))
      → IsSoundValue o (valued (kind.Enumeration place ns) (pos i))
  unfolding out-Kind denote.Hole.Carrier.out
  number_held place i ns below sound known = record {
    holds = (omega (arith, ints), omega (arith, ints, below));
    host = sound;
    known = known;
  }

  number_sound : (u : Used) (us : List Used) (place i : ℕ) (v : Valued) → Each IsSpelt (u ∷ us)
      → DifferDeclared o (u ∷ us) → HasConstants (text.Names (u ∷ us) place)
      → NumbersSaid o (enumeration o (u ∷ us) place) 0 (u ∷ us) → i < length (u ∷ us)
      → (k : Option Measured) → enumeration o (u ∷ us) place ≡ k
      → value_with k (ordinal_of i) ≡ Some v → IsSoundValue o v
  number_sound u us place i v plain differ c said below None is h = absurd (none-some v h)
  number_sound u us place i v plain differ c said below (Some m) is h = by (nat_le i maxint) h
    where
      by : (b : Bool) → value_with (Some m) (if b then Some (pos i) else None) ≡ Some v
          → IsSoundValue o v
      by true q =
          let same = (enumeration_is u us place m is).1 in
          let n = count_names (u ∷ us) in
          let sound = enumerated_sound o (u ∷ us) place m plain differ c.1 is in
          let known = first_known u us place m said c.2 is in
          subst (IsSoundValue o) (ap (λ (x : Measured). valued x.kind (pos i)) same
          ∙ same_Some (valued m.kind (pos i)) v q)
          (number_held place i (names_of (u ∷ us)) (omega (arith, n, below))
          (subst (λ (x : Measured). IsSoundOrdinal x.kind) (sym same) sound)
          (known.0, known.1, known.2 ∙ ap (λ (x : Measured). Some x) (sym same)))
      by false q = absurd (none-some v q)

  numbers_sound : (v : Used) (vs : List Used) (place last i : ℕ) (us : List Used)
      → Each IsSpelt (v ∷ vs) → DifferDeclared o (v ∷ vs)
      → HasConstants (text.Names (v ∷ vs) place)
      → NumbersSaid o (enumeration o (v ∷ vs) place) 0 (v ∷ vs)
      → i + length us ≡ length (v ∷ vs) → NumbersSaid o (enumeration o (v ∷ vs) place) i us
      → Each (Named IsSoAt IsAMember last) us
  numbers_sound v vs place last i [] plain differ c all le said = tt
  numbers_sound v vs place last i (u ∷ us) plain differ c all le said = (
    of_sort sort.Constant _ u last said.0 (λ e q. q.0)
        (λ e q before x h. number_sound v vs place i x plain differ c all (omega (arith, le))
        (enumeration o (v ∷ vs) place) refl
        (sym (λ j. value_with (q.1 j) (q.2 j)) ∙ h))
        (λ e q all. has_kind e (enumeration o (v ∷ vs) place) q.1 q.3
        (λ m h. sound_kind m.kind (enumerated_sound o (v ∷ vs) place m plain differ c.1 h))),
    numbers_sound v vs place last (suc i) us plain differ c all (omega (arith, le)) said.1,
  )

  names_sound : (us : List Used) (place : ℕ) → Each IsSpelt us → HasConstants (text.Names us place)
      → NumbersSaid o (enumeration o us place) 0 us → DifferDeclared o us
      → Each (Named IsSoAt IsAMember (names_last us place)) us
  names_sound [] place plain c said differ = tt
  names_sound (u ∷ us) place plain c said differ =
      numbers_sound u us place (names_last (u ∷ us) place) 0 (u ∷ us) plain differ c said
      (omega arith) said

  -- THE TEXTS OF TYPES

  mutual
    pub names_in : (t : TypeText) → TextSaid o t → TextSpelt t → HasConstants t
        → OfText IsSoAt IsAMember t
    names_in (text.Named u) said plain c = tt
    names_in (text.Range low high) said plain c = tt
    names_in (text.Names names place) said plain c = names_sound names place plain c said.0 said.1
    names_in (text.Array' a index b of place) said plain c =
        (row_names index said.0 plain.0 c.0, row_names of said.1 plain.1 c.1)
    names_in (text.Fields' a defs place) said plain c = fields_names defs said plain c
    names_in (text.Set' a of place) said plain c = row_names of said plain c

    row_names : {n : _} (row : Row_of-TypeText n) → RowSaid o row → RowSpelt row → RowHas row
        → OfRow IsSoAt IsAMember row
    row_names end_of-TypeText said plain c = tt
    row_names (more_of-TypeText t rest) said plain c =
        (names_in t said.0 plain.0 c.0, row_names rest said.1 plain.1 c.1)

    fields_names : {n : _} (row : Row_of-VarDef n) → FieldsSaid o row → FieldsSpelt row
        → FieldsHave row → OfFields IsSoAt IsAMember row
    fields_names end_of-VarDef said plain c = tt
    fields_names (more_of-VarDef names t rest) said plain c = (
      members_sound names said.0,
      names_in t said.1 plain.1 c.0,
      fields_names rest said.2 plain.2 c.1,
    )

  -- TYPES AND VARIABLES

  typedef_sound : (t : TypeDef) → TypeDefSaid o t → TypeDefSpelt t → TypeDefWritten t
      → OfTypeDef IsSoAt IsAMember t
  typedef_sound t said plain written =
      let last = text_last t.text in (
        of_sort sort.TypeName _ t.name last said.0 (λ e q. q.0)
            (λ e q before m h. text_sound o t.text m
            (text_then (λ u. u.place ≤ last) (IsSoundAt o) (λ u le. before u (omega (arith, le)))
            t.text written.0) said.1 plain.1 written.1 (sym q.1 ∙ h))
            (λ e q all. has_kind e (text_type o t.text) q.1 q.2
            (λ m h. text_sound o t.text m (of_text (IsSoundAt o) all t.text) said.1 plain.1
            written.1 h)),
        names_in t.text said.1 plain.1 written.1,
      )

  pub types_sound : (ts : List TypeDef) → Each (TypeDefSaid o) ts → Each TypeDefSpelt ts
      → Each TypeDefWritten ts → Each (OfTypeDef IsSoAt IsAMember) ts
  types_sound [] said plain written = tt
  types_sound (t ∷ ts) said plain written =
      (typedef_sound t said.0 plain.0 written.0, types_sound ts said.1 plain.1 written.1)

  vardef_sound : (v : VarDef) → VarDefSaid o v → VarDefSpelt v → VarDefWritten v
      → OfVarDef IsSoAt IsAMember v
  vardef_sound v said plain c = (
    each_then (IsSaid o (HasKind sort.Variable (text_type o v.text)))
        (Named IsSoAt IsAMember (text_last v.text))
        (λ u is. of_sort sort.Variable (HasKind sort.Variable (text_type o v.text)) u
        (text_last v.text) is (λ e q. q.0) (λ e q before. tt)
        (λ e q all. has_kind e (text_type o v.text) q.1 q.2
        (λ m h. text_sound o v.text m (of_text (IsSoundAt o) all v.text) said.1 plain.1 c h)))
        v.names said.0,
    names_in v.text said.1 plain.1 c,
  )

  pub vars_sound : (vs : List VarDef) → Each (VarDefSaid o) vs → Each VarDefSpelt vs
      → Each VarDefWritten vs → Each (OfVarDef IsSoAt IsAMember) vs
  vars_sound [] said plain written = tt
  vars_sound (v ∷ vs) said plain written =
      (vardef_sound v said.0 plain.0 written.0, vars_sound vs said.1 plain.1 written.1)

  -- SHORT TYPES

  pub short_said : (t : TypeText) → ShortSpelt t → TextSaid o t
  short_said (text.Named u) h = tt
  short_said (text.Range low high) h = tt
  short_said (text.Names names place) h = absurd h
  short_said (text.Array' a index b of place) h = absurd h
  short_said (text.Fields' a defs place) h = absurd h
  short_said (text.Set' a of place) h = absurd h

  short_has : (t : TypeText) → ShortSpelt t → HasConstants t
  short_has (text.Named u) h = tt
  short_has (text.Range low high) h = tt
  short_has (text.Names names place) h = absurd h
  short_has (text.Array' a index b of place) h = absurd h
  short_has (text.Fields' a defs place) h = absurd h
  short_has (text.Set' a of place) h = absurd h

  pub short_sound : (t : TypeText) (m : Measured) → ShortSpelt t → ((u : Used) → IsSoundAt o u)
      → text_type o t ≡ Some m → IsSoundKind m.kind
  short_sound t m plain all h = text_sound o t m (of_text (IsSoundAt o) all t) (short_said t plain)
      (short_text t plain) (short_has t plain) h

  -- CHANNELS

  interactions_sound : (is : List InteractionDef) → Each (InteractionSaid o) is
      → Each InteractionSpelt is → Each InteractionWritten is
      → Each (OfInteraction IsSoAt IsAMember) is
  interactions_sound [] said plain written = tt
  interactions_sound (i ∷ is) said plain written = (
    (no_entry i.name said.0.0, vars_sound i.params said.0.1 plain.0.1 written.0),
    interactions_sound is said.1 plain.1 written.1,
  )

  by_parts_sound : (bs : List ByPart) → Each (ByPartSaid o) bs → Each ByPartSpelt bs
      → Each ByPartWritten bs → Each (OfByPart IsSoAt IsAMember) bs
  by_parts_sound [] said plain written = tt
  by_parts_sound (b ∷ bs) said plain written = (
    interactions_sound b.interactions said.0 plain.0 written.0,
    by_parts_sound bs said.1 plain.1 written.1,
  )

  pub channel_sound : (c : Channel) → ChannelSaid o c → ChannelSpelt c → ChannelWritten c
      → OfChannel IsSoAt IsAMember c
  channel_sound c said plain written = (
    of_sort sort.Channel (IsOf sort.Channel) c.name (channel_last c) said.0 (λ e q. q.0)
        (λ e q before. tt) (λ e q all. has_neither e q.1 q.2),
    members_sound c.roles said.1,
    by_parts_sound c.by said.2 plain.2 written,
  )

  -- INTERACTION POINTS

  dim_sound : (k : Option (List Kind)) (m : Option Measured) (ks : List Kind)
      → ((js : List Kind) → k ≡ Some js → Each IsSoundOrdinal js)
      → ((j : Measured) → m ≡ Some j → IsSoundKind j.kind) → with_dim k m ≡ Some ks
      → Each IsSoundOrdinal ks
  dim_sound None m ks sound kinds h = absurd (none-some ks h)
  dim_sound (Some js) None ks sound kinds h = absurd (none-some ks h)
  dim_sound (Some js) (Some j) ks sound kinds h = by (is_ordinal j.kind) refl h
    where
      by : (b : Bool) → is_ordinal j.kind ≡ b
          → (if b then Some (js ++ j.kind ∷ []) else None) ≡ Some ks → Each IsSoundOrdinal ks
      by true e q = subst (Each IsSoundOrdinal) (same_Some (js ++ j.kind ∷ []) ks q)
          (joined IsSoundOrdinal js (j.kind ∷ []) (sound js refl)
          (sound_ordinal j.kind e (kinds j refl), tt))
      by false e q = absurd (none-some ks q)

  dims_after_sound : (ts : List TypeText) (k : Option (List Kind)) (ks : List Kind)
      → Each ShortSpelt ts → ((u : Used) → IsSoundAt o u)
      → ((js : List Kind) → k ≡ Some js → Each IsSoundOrdinal js)
      → dims_after o k ts ≡ Some ks → Each IsSoundOrdinal ks
  dims_after_sound [] k ks plain all sound h = sound ks h
  dims_after_sound (t ∷ ts) k ks plain all sound h =
      dims_after_sound ts (with_dim k (text_type o t)) ks plain.1 all
      (λ js e. dim_sound k (text_type o t) js sound (λ j q. short_sound t j plain.0 all q) e) h

  -- what is declared with these dims, and without a kind
  pub has_dims : (e : Entry) (ts : List TypeText) → e.kind ≡ None → e.dims ≡ dims_of o ts
      → Each ShortSpelt ts → ((u : Used) → IsSoundAt o u) → IsSoundInTheEnd e
  has_dims e ts k is plain all = (
    no_kind e k,
    λ ks h. dims_after_sound ts (Some []) ks plain all
        (λ js r. subst (Each IsSoundOrdinal) (same_Some [] js r) tt) (sym is ∙ h),
  )

  point_sound : (p : Point) → PointSaid o p → PointSpelt p → OfPoint IsSoAt IsAMember p
  point_sound p said plain = each_then _ (Named IsSoAt IsAMember p.role.place)
      (λ u is. of_sort sort.Point _ u p.role.place is (λ e q. q.0) (λ e q before. tt)
      (λ e q all. has_dims e p.dims q.4 q.1 plain.1 all)) p.names said

  pub points_sound : (ps : List Point) → Each (PointSaid o) ps → Each PointSpelt ps
      → Each (OfPoint IsSoAt IsAMember) ps
  points_sound [] said plain = tt
  points_sound (p ∷ ps) said plain = (point_sound p said.0 plain.0, points_sound ps said.1 plain.1)

  -- MODULE VARIABLES, HEADERS, STATES AND FORMALS

  modvar_sound : (m : ModvarDef) → ModvarSaid o m → ModvarSpelt m → OfModvar IsSoAt IsAMember m
  modvar_sound m said plain = each_then _ (Named IsSoAt IsAMember m.header.place)
      (λ u one. of_sort sort.ModuleVariable _ u m.header.place one (λ e q. q.0)
      (λ e q before. tt) (λ e q all. has_dims e m.dims q.3 q.1 plain.1 all)) m.names said

  pub modvars_sound : (ms : List ModvarDef) → Each (ModvarSaid o) ms → Each ModvarSpelt ms
      → Each (OfModvar IsSoAt IsAMember) ms
  modvars_sound [] said plain = tt
  modvars_sound (m ∷ ms) said plain =
      (modvar_sound m said.0 plain.0, modvars_sound ms said.1 plain.1)

  pub header_sound : (x : Header) → HeaderSaid o x → HeaderSpelt x → HeaderWritten x
      → OfHeader IsSoAt IsAMember x
  header_sound x said plain written = (
    of_sort sort.Header (IsOf sort.Header) x.name (header_last x) said.0 (λ e q. q.0)
        (λ e q before. tt) (λ e q all. has_neither e q.1 q.2),
    vars_sound x.params said.1 plain.1 written.0,
    points_sound x.points said.2 plain.2,
    vars_sound x.exports said.3 plain.3 written.2,
  )

  pub states_sound : (us : List Used) → Each (IsSaid o (IsOf sort.State)) us
      → Each (OfState IsSoAt IsAMember) us
  states_sound us said = each_then (IsSaid o (IsOf sort.State)) (OfState IsSoAt IsAMember)
      (λ u is. of_sort sort.State (IsOf sort.State) u u.place is (λ e q. q.0) (λ e q before. tt)
      (λ e q all. has_neither e q.1 q.2)) us said

  pub statesets_sound : (ss : List StateSet) → Each (StateSetSaid o) ss
      → Each (OfStateSet IsSoAt IsAMember) ss
  statesets_sound ss said = each_then (StateSetSaid o) (OfStateSet IsSoAt IsAMember)
      (λ s is. of_sort sort.StateSet _ s.name (names_last s.states s.name.place) is (λ e q. q.0)
      (λ e q before. tt) (λ e q all. has_neither e q.2 q.3)) ss said

  pub formals_sound : (fs : List Formal) → Each (FormalSaid o) fs
      → Each (OfFormal IsSoAt IsAMember) fs
  formals_sound fs said = each_then (FormalSaid o) (OfFormal IsSoAt IsAMember)
      (λ f is. each_then _ (Named IsSoAt IsAMember f.kind.place)
      (λ u one. of_sort sort.Variable _ u f.kind.place one (λ e q. q.0) (λ e q before. tt)
      (λ e q all. has_kind e (named_type o f.kind) q.1 q.2
      (λ m h. named_sound o f.kind m (all f.kind) h))) f.names is) fs said
