-- What the whole outline says of the declarations of parts.
use Rattle.std.proofs.Common.{inl, ◌≡◌, ℕ, suc, ◌<◌, ◌≤◌, ◌^◌, ◌-◌, min, Bool, false, List}
use Rattle.std.proofs.Common.{[], ◌∷◌, refl, sym, subst, ap, ◌∙◌, Option, Some, None, nat_eq}
use Rattle.std.proofs.Common.{arith}
use Rattle.std.specs.Map.{lookup}
use Rattle.est_syntax.specs.declared.name.Used.{Used}
use Rattle.est_syntax.specs.declared.type_text.VarDef.{VarDef}
use Rattle.est_syntax.specs.declared.type_text.TypeDef.{TypeDef}
use Rattle.est_syntax.specs.declared.channel.Role.TheVariants.{First}
use Rattle.est_syntax.specs.declared.channel.InteractionDef.{InteractionDef}
use Rattle.est_syntax.specs.declared.channel.ByPart.{ByPart}
use Rattle.est_syntax.specs.declared.channel.Channel.{Channel}
use Rattle.est_syntax.specs.declared.header.ModvarDef.{ModvarDef}
use Rattle.est_syntax.specs.declared.routine.Formal.{Formal}
use Rattle.est_syntax.specs.declared.body.StateSet.{StateSet}
use Rattle.rule_scope.specs.declared.declaration.Entry.{Entry}
use Rattle.rule_scope.specs.declared.declaration.Measured.{Measured}
use Rattle.rule_scope.specs.declared.declaration.Member.TheVariants as member
use Rattle.rule_scope.specs.declared.declaration.Section.TheVariants as section
use Rattle.rule_scope.specs.declared.declaration.Senders.{Senders}
use Rattle.rule_scope.specs.declared.declaration.Sort.{Sort}
use Rattle.rule_scope.specs.declared.declaration.Sort.TheVariants as sort
use Rattle.rule_scope.specs.declared.declaration.Within.{Within}
use Rattle.rule_scope.specs.Outline.{Outline, entry_at}
use Rattle.rule_scope.specs.Declaring.{declared, put, amended, lying, with_kind}
use Rattle.rule_scope.specs.Uses.{declaration_of}
use Rattle.rule_kinds.specs.TypeTexts.{text_type, text_place, named_type}
use Rattle.rule_kinds.specs.Dims.{dims_of}
use Rattle.rule_declares.specs.Entries.{plain, module_variable, state_set, in_region, in_section}
use Rattle.rule_declares.specs.Lasts.{names_last, text_last, channel_last}
use Rattle.rule_declares.specs.Declares.{kinds_given, text_declares, typedef_named}
use Rattle.rule_declares.specs.Declares.{typedef_declares, types_declare, vardef_named}
use Rattle.rule_declares.specs.Declares.{vardef_declares, vars_declare, roles_put}
use Rattle.rule_declares.specs.Declares.{interaction_declares, interactions_declare, senders}
use Rattle.rule_declares.specs.Declares.{by_part_declares, by_parts_declare, channel_declares}
use Rattle.rule_declares.specs.Declares.{modvar_declares}
use Rattle.rule_declares.specs.Declares.{modvars_declare}
use Rattle.rule_declares.specs.Declares.{states_declare, states_named}
use Rattle.rule_declares.specs.Declares.{stateset_declares, statesets_declare}
use Rattle.rule_declares.specs.Declares.{formal_section, formal_named}
use Rattle.rule_declares.specs.Declares.{formal_declares, formals_declare}
use Rattle.law_places.specs.Growth.{is_completed, IsLike, Grows, g_then, g_lying, IsBefore}
use Rattle.law_places.specs.Growth.{g_declared, g_put}
use Rattle.law_places.specs.Later.{Later}
use Rattle.law_places.specs.Said.{Each, IsSaid, IsOf, HasKind, TypeDefSaid, VarDefSaid}
use Rattle.law_places.specs.Said.{InteractionSaid, ByPartSaid, ChannelSaid}
use Rattle.law_places.specs.Said.{ModvarSaid, StateSetSaid}
use Rattle.law_places.specs.Said.{FormalSaid}
use Rattle.law_places.proofs.Following.{followed, like_same, like_then}
use Rattle.law_places.specs.Growth.{Anywhere}
use Rattle.law_places.proofs.Lasting.{later_then, later_weaker, later_grown, before_grown}
use Rattle.law_places.proofs.Lasting.{before_later, before_lying, grows_on}
use Rattle.law_places.proofs.Meanings.{declaration_stays, type_stays}
use Rattle.law_places.proofs.Declared.{none_like, no_entries, put_entries, roles_entries}
use Rattle.law_places.proofs.Declared.{entry_before, declared_entry, later_names, kinds_before}
use Rattle.law_places.proofs.Declared.{kinds_have}
use Rattle.law_places.proofs.Declared.{kinds_apart, later_kinds, later_amended, Waits, waits_names}
use Rattle.law_places.proofs.Declared.{waits_grown, names_entries, amended_here, amended_apart}
use Rattle.law_places.proofs.Placed.{NamesPlaced, names_on, names_from, names_before, text_on}
use Rattle.law_places.proofs.Placed.{text_from}
use Rattle.law_places.proofs.PlacedParts.{InOrder, TypeDefPlaced, VarDefPlaced, InteractionPlaced}
use Rattle.law_places.proofs.PlacedParts.{ByPartPlaced, ChannelPlaced, ModvarPlaced}
use Rattle.law_places.proofs.PlacedParts.{FormalPlaced, StateSetPlaced}
use Rattle.law_places.proofs.Staying.{text_stays, dims_stay, states_stay}
use Rattle.law_places.proofs.Declaring.{order_on, typedef_on, vardef_on, vars_on, interaction_on}
use Rattle.law_places.proofs.Declaring.{interactions_on, by_parts_on, dims_on, modvar_on}
use Rattle.law_places.proofs.Declaring.{formal_on, names_grow, text_grows, typedef_grows}
use Rattle.law_places.proofs.Declaring.{types_grow, vardef_grows, vars_grow, roles_grow}
use Rattle.law_places.proofs.Declaring.{interaction_grows, interactions_grow, by_parts_grow}
use Rattle.law_places.proofs.Declaring.{modvar_grows, modvars_grow}
use Rattle.law_places.proofs.Declaring.{formal_grows}
use Rattle.law_places.proofs.Declaring.{formals_grow, by_from, stateset_on}
use Rattle.law_places.proofs.Declaring.{states_grow, stateset_grows, statesets_grow}
use Rattle.law_places.proofs.SaidTexts.{like_one, entry_was, Keeps, text_said}

-- what is said of each name by two facts of it
each_said : (i k : ℕ) {Q R P : Used → Type 0} (us : List Used) → NamesPlaced i k us
    → ((u : Used) → i ≤ u.place → u.place < k → Q u → R u → P u) → Each Q us → Each R us → Each P us
each_said i k [] h by q r = tt
each_said i k (u ∷ us) h by q r =
    let n = h.0 in
    let m = names_on (suc u.place) k us h.1 in (
      by u n (omega arith) q.0 r.0,
      each_said (suc u.place) k us h.1 (λ v l e. by v (omega arith) e) q.1 r.1,
    )

-- an outline that grows keeps what stands before
grown_keeps : (unfinished : Bool) (i j b : ℕ) (o p : Outline) → Grows Anywhere unfinished j b o p
    → Keeps unfinished i j o p
grown_keeps unfinished i j b o p grows q l m = (followed Anywhere unfinished j b grows).entries q m

module _ (unfinished : Bool) (b : ℕ) (fits : b ≤ 2 ^ 32) (p : Outline) where
  -- names that get a kind after their text
  kind_said : (w : Within) (s : Sort) → is_completed s ≡ false → (k : Option Measured)
      → (o2 o3 : Outline) (us : List Used) (i m j : ℕ) → NamesPlaced i m us → m ≤ j
      → Keeps unfinished i m o2 o3 → Grows Anywhere unfinished j b (kinds_given us k o3) p
      → Each (λ u. (f : Entry) → entry_at o2 u.place ≡ Some f → f ≡ plain w s) us
      → Each (IsSaid p (HasKind s k)) us
  kind_said w s simple k o2 o3 us i m j h l keeps rest plains =
      each_said i m us h said (kinds_have us k o3) plains
    where
      said : (u : Used) → i ≤ u.place → u.place < m
          → ((f : Entry) → entry_at (kinds_given us k o3) u.place ≡ Some f → f.kind ≡ k)
          → ((f : Entry) → entry_at o2 u.place ≡ Some f → f ≡ plain w s)
          → IsSaid p (HasKind s k) u
      said u n r has is f at =
          let e4 = entry_was Anywhere unfinished j b (kinds_given us k o3) p rest u.place (omega
          arith) f at in
          let e3 = kinds_before us k o3 u.place e4.0 e4.1 in
          let e2 = entry_before unfinished (entry_at o2 u.place) (entry_at o3 u.place) e3.0
          (keeps u.place n r) e3.1 in
          let sorted : e4.0.declared.sort ≡ s =
          ap (λ x. x.sort) (e3.2 ∙ e2.2.0)
          ∙ ap (λ (x : Entry). x.declared.sort) (is e2.0 e2.1) in
          let same : f ≡ e4.0 =
          like_one unfinished e4.0 f e4.2 (ap is_completed sorted ∙ simple) in
          let kept : e3.0 ≡ e2.0 =
          like_one unfinished e2.0 e3.0 e2.2
          (ap (λ (x : Entry). is_completed x.declared.sort) (is e2.0 e2.1) ∙ simple) in (
            ap (λ (x : Entry). x.declared.sort) same ∙ sorted,
            ap (λ (x : Entry). x.kind) same ∙ has e4.0 e4.1,
            ap (λ (x : Entry). x.dims) same ∙ e3.4 ∙ ap (λ (x : Entry). x.dims) kept
                ∙ ap (λ (x : Entry). x.dims) (is e2.0 e2.1),
          )

  -- what has this kind has that of the whole outline
  of_whole : (s : Sort) (k m : Option Measured) (us : List Used) → m ≡ k
      → Each (IsSaid p (HasKind s k)) us → Each (IsSaid p (HasKind s m)) us
  of_whole s k m us same h =
      subst (λ x. Each (IsSaid p (HasKind s x)) us) (sym same) h

  -- names that are declared as they are
  pub names_said : (w : Within) (e : Entry) → is_completed e.declared.sort ≡ false → (P : Entry
      → Type 0)
      → P e → (o2 : Outline) (us : List Used) (i m j : ℕ) → NamesPlaced i m us → m ≤ j
      → Grows Anywhere unfinished j b o2 p
      → Each (λ u. (f : Entry) → entry_at o2 u.place ≡ Some f → f ≡ e) us
      → Each (IsSaid p P) us
  names_said w e simple P h o2 us i m j placed l rest are =
      each_said i m us placed said are are
    where
      said : (u : Used) → i ≤ u.place → u.place < m
          → ((f : Entry) → entry_at o2 u.place ≡ Some f → f ≡ e)
          → ((f : Entry) → entry_at o2 u.place ≡ Some f → f ≡ e) → IsSaid p P u
      said u n r is again f at =
          let d = entry_was Anywhere unfinished j b o2 p rest u.place (omega arith) f at in
          let same : d.0 ≡ e = is d.0 d.1 in
          let sorted : is_completed d.0.declared.sort ≡ false =
          ap (λ (x : Entry). is_completed x.declared.sort) same ∙ simple in
          subst P (sym (like_one unfinished d.0 f d.2 sorted ∙ same)) h

  -- a name that is declared as it is
  pub name_said : (w : Within) (e : Entry) → is_completed e.declared.sort ≡ false
      → (P : Entry → Type 0) → P e → (o1 : Outline) (u : Used) (last j : ℕ) → u.place < j
      → IsBefore u.place o1 → Grows Anywhere unfinished j b (declared w u last e o1) p
      → IsSaid p P u
  name_said w e simple P h o1 u last j l before rest =
      let place = u.place in
      let r : Each (IsSaid p P) (u ∷ []) =
      names_said w e simple P h (declared w u last e o1) (u ∷ []) place (suc place) j
      (omega arith, omega arith) l rest
      (names_entries w (u ∷ []) last e o1 place (suc place) (omega arith, omega arith)
      (λ q n. before.declarations q n)) in
      r.0

  -- types
  typedef_said : (w : Within) (t : TypeDef) (o : Outline) (i j : ℕ) → TypeDefPlaced i j t → j ≤ b
      → IsBefore i o → Grows Anywhere unfinished j b (typedef_declares w t o) p → TypeDefSaid p t
  typedef_said w t o i j h l before rest =
      let place = t.name.place in
      let q = h.0 in
      let d = text_on (suc place) j t.text h.1 in
      let g = text_from (suc place) j t.text (omega arith) h.1 in
      let last = text_last t.text in
      let till = min last (j - 1) in
      let o1 = lying w place o in
      let o2 = typedef_named w t o1 in
      let o3 = text_declares w t.text o2 in
      let k = text_type o3 t.text in
      let o4 = amended (with_kind k) place o3 in
      let before1 : IsBefore place o1 =
      before_lying place place w o (before_later i place o q before) in
      let before2 : IsBefore (suc place) o2 =
      before_grown Anywhere unfinished place (suc place) o1 o2
      (g_declared w (inl tt) t.name last (plain w sort.TypeName) (omega arith) (omega arith) (omega
      arith))
      before1 (omega arith) in
      let grows : Grows Anywhere unfinished (suc place) j o2 o3 =
      text_grows Anywhere unfinished (suc place) j (omega arith) w (inl tt) t.text o2 (suc place) j
      h.1 (omega arith)
      (omega arith) in
      let before4 : IsBefore j o4 =
      before_grown Anywhere unfinished i j o o4
      (typedef_grows Anywhere unfinished i j (omega arith) w (inl tt) t o i j h (omega arith) (omega
      arith)) before
      (omega arith) in
      let waits : Waits place (suc place) till o3 =
      waits_grown Anywhere unfinished place (suc place) till j o2 o3
      (waits_names w (t.name ∷ []) last (plain w sort.TypeName) o1 place (suc place) till before1
      (omega arith)) grows in
      let later : Later j till o3 p =
      later_then j till o3 o4 p
      (later_amended j till place (suc place) o3 (with_kind k) place waits (omega arith)
      (omega arith))
      (later_grown Anywhere unfinished j b o4 p rest before4 till (omega arith)) in
      let stays : text_type p t.text ≡ k =
      text_stays j till o3 p later (suc place) j t.text (omega arith) h.1 (omega arith)
      (λ x m n. omega arith) in (
        λ f at. named f stays (entry_was Anywhere unfinished j b o4 p rest place (omega arith) f at)
            (λ e3 m. entry_was Anywhere unfinished (suc place) j o2 o3 grows place (omega arith) e3
            m)
            (λ e2 m. declared_entry o1 w t.name last (plain w sort.TypeName) e2
            (before1.declarations place (omega arith)) m),
        text_said unfinished p w t.text o2 (suc place) j (omega arith) h.1 before2
            (λ x m n. like_then unfinished (entry_at o3 x) (entry_at o4 x) (entry_at p x)
            (like_same unfinished (entry_at o3 x) (entry_at o4 x)
            (amended_apart (with_kind k) place o3 x (λ e. omega arith)))
            ((followed Anywhere unfinished j b rest).entries x n)),
      )
    where
      named : (f : Entry) → text_type p t.text ≡ text_type (text_declares w t.text
          (typedef_named w t (lying w t.name.place o))) t.text
          → (e : Entry) × (entry_at (typedef_declares w t o) t.name.place ≡ Some e)
          × IsLike unfinished e f
          → ((e : Entry) → entry_at (text_declares w t.text
          (typedef_named w t (lying w t.name.place o))) t.name.place ≡ Some e
          → (d : Entry) × (entry_at (typedef_named w t (lying w t.name.place o)) t.name.place
          ≡ Some d) × IsLike unfinished d e)
          → ((e : Entry) → entry_at (typedef_named w t (lying w t.name.place o)) t.name.place
          ≡ Some e → e ≡ plain w sort.TypeName) → HasKind sort.TypeName (text_type p t.text) f
      named f stays e4 was is =
          let o3 = text_declares w t.text (typedef_named w t (lying w t.name.place o)) in
          let e3 = amended_here (with_kind (text_type o3 t.text)) t.name.place o3 e4.0 e4.1 in
          let e2 = was e3.0 e3.1 in
          let sorted : e4.0.declared.sort ≡ sort.TypeName =
          ap (λ (x : Entry). x.declared.sort) e3.2 ∙ ap (λ x. x.sort) e2.2.0
          ∙ ap (λ (x : Entry). x.declared.sort) (is e2.0 e2.1) in
          let same : f ≡ e4.0 = like_one unfinished e4.0 f e4.2 (ap is_completed sorted) in
          let kept : e3.0 ≡ e2.0 =
          like_one unfinished e2.0 e3.0 e2.2
          (ap (λ (x : Entry). is_completed x.declared.sort) (is e2.0 e2.1)) in (
            ap (λ (x : Entry). x.declared.sort) same ∙ sorted,
            ap (λ (x : Entry). x.kind) same ∙ ap (λ (x : Entry). x.kind) e3.2 ∙ sym stays,
            ap (λ (x : Entry). x.dims) same ∙ ap (λ (x : Entry). x.dims) e3.2
                ∙ ap (λ (x : Entry). x.dims) kept ∙ ap (λ (x : Entry). x.dims) (is e2.0 e2.1),
          )

  pub types_said : (w : Within) (ts : List TypeDef) (o : Outline) (i j : ℕ)
      → InOrder TypeDefPlaced i j ts → j ≤ b → IsBefore i o
      → Grows Anywhere unfinished j b (types_declare w ts o) p → Each (TypeDefSaid p) ts
  types_said w [] o i j h l before rest = tt
  types_said w (t ∷ ts) o i j h l before rest =
      let e = order_on TypeDefPlaced typedef_on h.0 j ts h.2 in
      let f = typedef_on i h.0 t h.1 in
      let o1 = typedef_declares w t o in
      let before1 : IsBefore h.0 o1 =
      before_grown Anywhere unfinished i h.0 o o1
      (typedef_grows Anywhere unfinished i h.0 (omega arith) w (inl tt) t o i h.0 h.1 (omega arith)
      (omega arith))
      before (omega arith) in (
        typedef_said w t o i h.0 h.1 (omega arith) before (grows_on Anywhere unfinished h.0 j b o1
            (types_declare w ts o1) p (omega arith) l (types_grow Anywhere unfinished h.0 j (omega
            arith) w (inl tt)
            ts o1 h.0 j h.2 (omega arith) (omega arith)) rest),
        types_said w ts o1 h.0 j h.2 l before1 rest,
      )

  -- variables
  pub vardef_said : (w : Within) (v : VarDef) (o : Outline) (i j : ℕ) → VarDefPlaced i j v → j ≤ b
      → IsBefore i o → Grows Anywhere unfinished j b (vardef_declares w v o) p → VarDefSaid p v
  vardef_said w v o i j h l before rest =
      let m = h.0 in
      let d = names_on i m v.names h.1 in
      let e = text_on m j v.text h.2 in
      let g = text_from m j v.text (omega arith) h.2 in
      let last = text_last v.text in
      let till = min last (j - 1) in
      let o1 = lying w (text_place v.text) o in
      let o2 = vardef_named w v o1 in
      let o3 = text_declares w v.text o2 in
      let k = text_type o3 v.text in
      let o4 = kinds_given v.names k o3 in
      let before1 : IsBefore i o1 = before_lying i (text_place v.text) w o before in
      let before2 : IsBefore m o2 =
      before_grown Anywhere unfinished i m o1 o2
      (names_grow Anywhere unfinished i m (omega arith) w (inl tt) v.names last (plain w
      sort.Variable) o1 i m h.1
      (omega arith) (omega arith) (omega arith)) before1 (omega arith) in
      let grows : Grows Anywhere unfinished m j o2 o3 =
      text_grows Anywhere unfinished m j (omega arith) w (inl tt) v.text o2 m j h.2 (omega arith)
      (omega arith) in
      let before4 : IsBefore j o4 =
      before_grown Anywhere unfinished i j o o4
      (vardef_grows Anywhere unfinished i j (omega arith) w (inl tt) v o i j h (omega arith) (omega
      arith)) before
      (omega arith) in
      let waits : Waits i m till o3 =
      waits_grown Anywhere unfinished i m till j o2 o3
      (waits_names w v.names last (plain w sort.Variable) o1 i m till before1 (omega arith))
      grows in (
        of_variables (later_kinds j till i m i v.names k o3 h.1 (omega arith) waits) before4
            v.names h.1 (kind_said w sort.Variable refl k o2 o3 v.names i m j h.1 (omega arith)
            (grown_keeps unfinished i m j o2 o3 grows) rest
            (names_entries w v.names last (plain w sort.Variable) o1 i m h.1
            (λ q n. before1.declarations q n))),
        text_said unfinished p w v.text o2 m j (omega arith) h.2 before2
            (λ x r n. like_then unfinished (entry_at o3 x) (entry_at o4 x) (entry_at p x)
            (like_same unfinished (entry_at o3 x) (entry_at o4 x)
            (kinds_apart v.names k o3 i m x h.1 r))
            ((followed Anywhere unfinished j b rest).entries x n)),
      )
    where
      of_variables : Later j (min (text_last v.text) (j - 1)) (text_declares w v.text
          (vardef_named w v (lying w (text_place v.text) o))) (vardef_declares w v o)
          → IsBefore j (vardef_declares w v o) → (us : List Used) → NamesPlaced i h.0 us
          → Each (IsSaid p (HasKind sort.Variable (text_type (text_declares w v.text
          (vardef_named w v (lying w (text_place v.text) o))) v.text))) us
          → Each (IsSaid p (HasKind sort.Variable (text_type p v.text))) us
      of_variables first before4 [] placed each = tt
      of_variables first before4 (u ∷ us) placed each =
          let o3 = text_declares w v.text (vardef_named w v (lying w (text_place v.text) o)) in
          let o4 = vardef_declares w v o in
          let till = min (text_last v.text) (j - 1) in
          let e = text_on h.0 j v.text h.2 in
          let d = names_on (suc u.place) h.0 us placed.1 in
          of_whole sort.Variable (text_type o3 v.text) (text_type p v.text) (u ∷ us)
          (text_stays j till o3 p
          (later_then j till o3 o4 p first
          (later_grown Anywhere unfinished j b o4 p rest before4 till (omega arith))) h.0 j
          v.text (omega arith) h.2 (omega arith) (λ x m n. omega arith)) each

  pub vars_said : (w : Within) (vs : List VarDef) (o : Outline) (i j : ℕ)
      → InOrder VarDefPlaced i j vs → j ≤ b → IsBefore i o
      → Grows Anywhere unfinished j b (vars_declare w vs o) p → Each (VarDefSaid p) vs
  vars_said w [] o i j h l before rest = tt
  vars_said w (v ∷ vs) o i j h l before rest =
      let e = vars_on h.0 j vs h.2 in
      let f = vardef_on i h.0 v h.1 in
      let o1 = vardef_declares w v o in
      let before1 : IsBefore h.0 o1 =
      before_grown Anywhere unfinished i h.0 o o1
      (vardef_grows Anywhere unfinished i h.0 (omega arith) w (inl tt) v o i h.0 h.1 (omega arith)
      (omega arith))
      before (omega arith) in (
        vardef_said w v o i h.0 h.1 (omega arith) before (grows_on Anywhere unfinished h.0 j b o1
            (vars_declare w vs o1) p (omega arith) l (vars_grow Anywhere unfinished h.0 j (omega
            arith) w (inl tt)
            vs o1 h.0 j h.2 (omega arith) (omega arith)) rest),
        vars_said w vs o1 h.0 j h.2 l before1 rest,
      )

  -- channels
  interaction_said : (w : Within) (region : ℕ) (s : Senders) (x : InteractionDef) (o : Outline)
      (i j : ℕ) → InteractionPlaced i j x → j ≤ b → IsBefore i o
      → Grows Anywhere unfinished j b (interaction_declares w region s x o) p → InteractionSaid p x
  interaction_said w region s x o i j h l before rest =
      let place = x.name.place in
      let q = h.0 in
      let e = vars_on (suc place) j x.params h.1 in
      let v = in_region section.Interaction w place in
      let o1 = put region x.name (member.Interaction s) o in
      let o2 = vars_declare v x.params o1 in
      let all : Grows Anywhere unfinished (suc place) b o1 p =
      grows_on Anywhere unfinished (suc place) j b o1 o2 p e l
      (vars_grow Anywhere unfinished (suc place) j (omega arith) v (inl tt) x.params o1 (suc place)
      j h.1 (omega arith)
      (omega arith)) rest in (
        none_like unfinished (entry_at o1 place) (entry_at p place)
            ((followed Anywhere unfinished (suc place) b all).entries place (omega arith))
            (ap (λ es. lookup (nat_eq place) es)
            (put_entries region x.name (member.Interaction s) o) ∙ before.declarations place q),
        vars_said v x.params o1 (suc place) j h.1 l (before_grown Anywhere unfinished i (suc place)
            o o1
            (g_put region (inl tt) x.name (member.Interaction s) q (omega arith)) before (omega
            arith)) rest,
      )

  interactions_said : (w : Within) (region : ℕ) (s : Senders) (xs : List InteractionDef)
      (o : Outline) (i j : ℕ) → InOrder InteractionPlaced i j xs → j ≤ b → IsBefore i o
      → Grows Anywhere unfinished j b (interactions_declare w region s xs o) p
      → Each (InteractionSaid p) xs
  interactions_said w region s [] o i j h l before rest = tt
  interactions_said w region s (x ∷ xs) o i j h l before rest =
      let e = interactions_on h.0 j xs h.2 in
      let f = interaction_on i h.0 x h.1 in
      let o1 = interaction_declares w region s x o in
      let before1 : IsBefore h.0 o1 =
      before_grown Anywhere unfinished i h.0 o o1
      (interaction_grows Anywhere unfinished i h.0 (omega arith) w (inl tt) region (inl tt) s x o i
      h.0 h.1 (omega arith)
      (omega arith)) before (omega arith) in (
        interaction_said w region s x o i h.0 h.1 (omega arith) before (grows_on Anywhere unfinished
            h.0 j b
            o1 (interactions_declare w region s xs o1) p (omega arith) l
            (interactions_grow Anywhere unfinished h.0 j (omega arith) w (inl tt) region (inl tt) s
            xs o1 h.0 j h.2
            (omega arith) (omega arith)) rest),
        interactions_said w region s xs o1 h.0 j h.2 l before1 rest,
      )

  by_parts_said : (w : Within) (region : ℕ) (xs : List ByPart) (o : Outline) (i j : ℕ)
      → InOrder ByPartPlaced i j xs → j ≤ b → IsBefore i o
      → Grows Anywhere unfinished j b (by_parts_declare w region xs o) p → Each (ByPartSaid p) xs
  by_parts_said w region [] o i j h l before rest = tt
  by_parts_said w region (x ∷ xs) o i j h l before rest =
      let e = by_parts_on h.0 j xs h.2 in
      let f = names_on i h.1.0 x.roles h.1.1 in
      let g = interactions_on h.1.0 h.0 x.interactions h.1.2 in
      let s = senders o region x.roles in
      let o1 = by_part_declares w region x o in
      let start : IsBefore h.1.0 o = before_later i h.1.0 o (omega arith) before in
      let before1 : IsBefore h.0 o1 =
      before_grown Anywhere unfinished h.1.0 h.0 o o1
      (interactions_grow Anywhere unfinished h.1.0 h.0 (omega arith) w (inl tt) region (inl tt) s
      x.interactions o h.1.0 h.0
      h.1.2 (omega arith) (omega arith)) start (omega arith) in (
        interactions_said w region s x.interactions o h.1.0 h.0 h.1.2 (omega arith) start
            (grows_on Anywhere unfinished h.0 j b o1 (by_parts_declare w region xs o1) p (omega
            arith) l
            (by_parts_grow Anywhere unfinished h.0 j (omega arith) w (inl tt) region (inl tt) xs o1
            h.0 j h.2 (omega arith)
            (omega arith)) rest),
        by_parts_said w region xs o1 h.0 j h.2 l before1 rest,
      )

  pub channel_said : (w : Within) (c : Channel) (o : Outline) (i j : ℕ) → ChannelPlaced i j c
      → j ≤ b → IsBefore i o → Grows Anywhere unfinished j b (channel_declares w c o) p
      → ChannelSaid p c
  channel_said w c o i j h l before rest =
      let place = c.name.place in
      let q = h.1 in
      let e = names_on (suc place) h.0 c.roles h.2 in
      let f = by_parts_on h.0 j c.by h.3 in
      let g : place ≤ channel_last c =
      by_from place h.0 j place c.by (omega arith) h.3 (omega arith) (omega arith) in
      let o1 = lying w place o in
      let o2 = declared w c.name (channel_last c) (plain w sort.Channel) o1 in
      let o3 = roles_put place c.roles First o2 in
      let grows : Grows Anywhere unfinished i h.0 o o3 =
      g_then (g_lying w place q (omega arith))
      (g_then (g_declared w (inl tt) c.name (channel_last c) (plain w sort.Channel) q (omega arith)
      g)
      (roles_grow Anywhere unfinished i h.0 (omega arith) place (inl tt) c.roles First o2 (suc
      place) h.0 h.2
      (omega arith) (omega arith))) in
      let o4 = by_parts_declare w place c.by o3 in
      let all : Grows Anywhere unfinished h.0 b o3 p =
      grows_on Anywhere unfinished h.0 j b o3 o4 p f l
      (by_parts_grow Anywhere unfinished h.0 j (omega arith) w (inl tt) place (inl tt) c.by o3 h.0 j
      h.3 (omega arith)
      (omega arith)) rest in
      let before1 : IsBefore place o1 =
      before_lying place place w o (before_later i place o q before) in
      let before2 : IsBefore (suc place) o2 =
      before_grown Anywhere unfinished place (suc place) o1 o2
      (g_declared w (inl tt) c.name (channel_last c) (plain w sort.Channel) (omega arith) (omega
      arith) g)
      before1 (omega arith) in (
        name_said w (plain w sort.Channel) refl (IsOf sort.Channel) (refl, refl, refl) o1 c.name
            (channel_last c) (suc place) (omega arith) before1 (grows_on Anywhere unfinished (suc place) h.0 b o2 o3
            p e
            (omega arith) (roles_grow Anywhere unfinished (suc place) h.0 (omega arith) place (inl
            tt) c.roles First
            o2 (suc place) h.0 h.2 (omega arith) (omega arith)) all),
        no_entries p (suc place) h.0 c.roles h.2 (λ x m n. none_like unfinished (entry_at o3 x)
            (entry_at p x) ((followed Anywhere unfinished h.0 b all).entries x n)
            (ap (λ es. lookup (nat_eq x) es) (roles_entries place c.roles First o2)
            ∙ before2.declarations x m)),
        by_parts_said w place c.by o3 h.0 j h.3 l (before_grown Anywhere unfinished i h.0 o o3 grows
            before
            (omega arith)) rest,
      )

  -- module variables
  modvar_said : (w : Within) (x : ModvarDef) (o : Outline) (i j : ℕ) → ModvarPlaced i j x → j ≤ b
      → IsBefore i o → Grows Anywhere unfinished j b (modvar_declares w x o) p → ModvarSaid p x
  modvar_said w x o i j h l before rest =
      let d = names_on i h.0 x.names h.3 in
      let e = dims_on h.0 h.1 x.dims h.4 in
      let f = h.5 in
      let g = h.6 in
      let till = x.header.place in
      let o1 = lying w x.place o in
      let entry = module_variable w (dims_of o1 x.dims) (declaration_of o1 sort.Header x.header) in
      let o2 = modvar_declares w x o in
      let before1 : IsBefore i o1 = before_lying i x.place w o before in
      let before2 : IsBefore j o2 =
      before_grown Anywhere unfinished i j o o2
      (modvar_grows Anywhere unfinished i j (omega arith) w (inl tt) x o i j h (omega arith) (omega
      arith)) before
      (omega arith) in
      let later : Later i till o1 p =
      later_then i till o1 o2 p
      (later_names w x.names x.header.place entry o1 i h.0 till h.3 before1 (omega arith))
      (later_weaker j till i till o2 p (omega arith) (omega arith)
      (later_grown Anywhere unfinished j b o2 p rest before2 till (omega arith))) in
      names_said w entry refl (λ e. (e.declared.sort ≡ sort.ModuleVariable)
      × (e.dims ≡ dims_of p x.dims) × (e.header ≡ declaration_of p sort.Header x.header)
      × (e.kind ≡ None)) (
        refl,
        sym (dims_stay i till o1 p later h.0 h.1 x.dims (omega arith) h.4 (omega arith)),
        sym (declaration_stays i till o1 p later x.header (omega arith) sort.Header refl),
        refl,
      ) o2 x.names i h.0 j h.3 (omega arith) rest
      (names_entries w x.names x.header.place entry o1 i h.0 h.3 (λ q n. before1.declarations q n))

  pub modvars_said : (w : Within) (xs : List ModvarDef) (o : Outline) (i j : ℕ)
      → InOrder ModvarPlaced i j xs → j ≤ b → IsBefore i o
      → Grows Anywhere unfinished j b (modvars_declare w xs o) p → Each (ModvarSaid p) xs
  modvars_said w [] o i j h l before rest = tt
  modvars_said w (x ∷ xs) o i j h l before rest =
      let e = order_on ModvarPlaced modvar_on h.0 j xs h.2 in
      let f = modvar_on i h.0 x h.1 in
      let o1 = modvar_declares w x o in
      let before1 : IsBefore h.0 o1 =
      before_grown Anywhere unfinished i h.0 o o1
      (modvar_grows Anywhere unfinished i h.0 (omega arith) w (inl tt) x o i h.0 h.1 (omega arith)
      (omega arith))
      before (omega arith) in (
        modvar_said w x o i h.0 h.1 (omega arith) before (grows_on Anywhere unfinished h.0 j b o1
            (modvars_declare w xs o1) p (omega arith) l (modvars_grow Anywhere unfinished h.0 j
            (omega arith)
            w (inl tt) xs o1 h.0 j h.2 (omega arith) (omega arith)) rest),
        modvars_said w xs o1 h.0 j h.2 l before1 rest,
      )

  -- states and state sets
  pub states_said : (w : Within) (us : List Used) (o : Outline) (i j : ℕ) → NamesPlaced i j us
      → j ≤ b → IsBefore i o → Grows Anywhere unfinished j b (states_declare w us o) p
      → Each (IsSaid p (IsOf sort.State)) us
  states_said w [] o i j h l before rest = tt
  states_said w (u ∷ us) o i j h l before rest =
      let place = u.place in
      let q = h.0 in
      let e = names_on (suc place) j us h.1 in
      let o1 = declared w u place (plain w sort.State) o in
      let start : IsBefore place o = before_later i place o q before in
      let before1 : IsBefore (suc place) o1 =
      before_grown Anywhere unfinished place (suc place) o o1
      (g_declared w (inl tt) u place (plain w sort.State) (omega arith) (omega arith) (omega arith))
      start
      (omega arith) in (
        name_said w (plain w sort.State) refl (IsOf sort.State) (refl, refl, refl) o u place
            (suc place) (omega arith) start (grows_on Anywhere unfinished (suc place) j b o1 (states_declare w
            us o1) p e
            l (states_grow Anywhere unfinished (suc place) j (omega arith) w (inl tt) us o1 (suc
            place) j h.1
            (omega arith) (omega arith)) rest),
        states_said w us o1 (suc place) j h.1 l before1 rest,
      )

  pub statesets_said : (w : Within) (ss : List StateSet) (o : Outline) (i j : ℕ)
      → InOrder StateSetPlaced i j ss → j ≤ b → IsBefore i o
      → Grows Anywhere unfinished j b (statesets_declare w ss o) p → Each (StateSetSaid p) ss
  statesets_said w [] o i j h l before rest = tt
  statesets_said w (s ∷ ss) o i j h l before rest =
      let place = s.name.place in
      let q = h.1.0 in
      let d = names_on (suc place) h.0 s.states h.1.1 in
      let e = order_on StateSetPlaced stateset_on h.0 j ss h.2 in
      let f = stateset_on i h.0 s h.1 in
      let last = names_last s.states place in
      let m : last < h.0 = names_before (suc place) h.0 place s.states h.1.1 (omega arith) in
      let n : place ≤ last =
      names_from place (suc place) h.0 place s.states h.1.1 (omega arith) (omega arith) in
      let o0 = lying w place o in
      let o1 = stateset_declares w s o in
      let entry = state_set w (states_named o0 s.states) in
      let start : IsBefore place o0 =
      before_lying place place w o (before_later i place o q before) in
      let before1 : IsBefore h.0 o1 =
      before_grown Anywhere unfinished i h.0 o o1
      (stateset_grows Anywhere unfinished i h.0 (omega arith) w (inl tt) s o i h.0 h.1 (omega arith)
      (omega arith))
      before (omega arith) in
      let all : Grows Anywhere unfinished h.0 b o1 p =
      grows_on Anywhere unfinished h.0 j b o1 (statesets_declare w ss o1) p e l
      (statesets_grow Anywhere unfinished h.0 j (omega arith) w (inl tt) ss o1 h.0 j h.2
      (omega arith) (omega arith)) rest in
      let later : Later place last o0 p =
      later_then place last o0 o1 p
      (later_names w (s.name ∷ []) last entry o0 place (suc place) last (omega arith, omega arith)
      start (omega arith))
      (later_weaker h.0 last place last o1 p (omega arith) (omega arith)
      (later_grown Anywhere unfinished h.0 b o1 p all before1 last m)) in (
        name_said w entry refl (λ x. (x.declared.sort ≡ sort.StateSet)
            × (x.states ≡ Some (states_named p s.states)) × (x.kind ≡ None) × (x.dims ≡ None)) (
              refl,
              ap (λ ps. Some ps) (sym (states_stay place last o0 p later (suc place) h.0 place
                  s.states h.1.1 (omega arith))),
              refl,
              refl,
            ) o0 s.name last h.0 (omega arith) start all,
        statesets_said w ss o1 h.0 j h.2 l before1 rest,
      )

  -- formals
  formal_said : (w : Within) (x : Formal) (o : Outline) (i j : ℕ) → FormalPlaced i j x → j ≤ b
      → IsBefore i o → Grows Anywhere unfinished j b (formal_declares w x o) p → FormalSaid p x
  formal_said w x o i j h l before rest =
      let m = h.0 in
      let d = names_on i m x.names h.1 in
      let e = h.2 in
      let g = h.3 in
      let till = x.kind.place in
      let v = in_section (formal_section x) w in
      let o1 = lying w till o in
      let o2 = formal_named v x o1 in
      let k = named_type o2 x.kind in
      let o3 = formal_declares w x o in
      let before1 : IsBefore i o1 = before_lying i till w o before in
      let before3 : IsBefore j o3 =
      before_grown Anywhere unfinished i j o o3
      (formal_grows Anywhere unfinished i j (omega arith) w (inl tt) x o i j h (omega arith) (omega
      arith)) before
      (omega arith) in
      let waits : Waits i m till o2 =
      waits_names v x.names till (plain v sort.Variable) o1 i m till before1 (omega arith) in
      let later : Later j till o2 p =
      later_then j till o2 o3 p (later_kinds j till i m i x.names k o2 h.1 (omega arith) waits)
      (later_grown Anywhere unfinished j b o3 p rest before3 till (omega arith)) in
      of_whole sort.Variable k (named_type p x.kind) x.names
      (type_stays j till o2 p later x.kind (omega arith))
      (kind_said v sort.Variable refl k o2 o2 x.names i m j h.1 (omega arith)
      (λ q n r. like_same unfinished (entry_at o2 q) (entry_at o2 q) refl) rest
      (names_entries v x.names till (plain v sort.Variable) o1 i m h.1
      (λ q n. before1.declarations q n)))

  pub formals_said : (w : Within) (xs : List Formal) (o : Outline) (i j : ℕ)
      → InOrder FormalPlaced i j xs → j ≤ b → IsBefore i o
      → Grows Anywhere unfinished j b (formals_declare w xs o) p → Each (FormalSaid p) xs
  formals_said w [] o i j h l before rest = tt
  formals_said w (x ∷ xs) o i j h l before rest =
      let e = order_on FormalPlaced formal_on h.0 j xs h.2 in
      let f = formal_on i h.0 x h.1 in
      let o1 = formal_declares w x o in
      let before1 : IsBefore h.0 o1 =
      before_grown Anywhere unfinished i h.0 o o1
      (formal_grows Anywhere unfinished i h.0 (omega arith) w (inl tt) x o i h.0 h.1 (omega arith)
      (omega arith))
      before (omega arith) in (
        formal_said w x o i h.0 h.1 (omega arith) before (grows_on Anywhere unfinished h.0 j b o1
            (formals_declare w xs o1) p (omega arith) l (formals_grow Anywhere unfinished h.0 j
            (omega arith)
            w (inl tt) xs o1 h.0 j h.2 (omega arith) (omega arith)) rest),
        formals_said w xs o1 h.0 j h.2 l before1 rest,
      )
