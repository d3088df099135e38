-- The names of an `any` are listed in its region as they are declared.
use Rattle.std.specs.Map.{lookup}
use Rattle.std.specs.Prelude.{if◌then◌else◌, map, unwrap_or}
use Rattle.std.proofs.Common.{◌≡◌, refl, sym, ap, subst, ◌∙◌, ℕ, suc, ◌<◌, ◌≤◌, ◌^◌, Bool, true}
use Rattle.std.proofs.Common.{false, List, [], ◌∷◌, ◌++◌, Option, Some, None, is_some, inl, arith}
use Rattle.std.proofs.Common.{nat_eq, append_assoc}
use Rattle.std.proofs.lemmas.List.{append-nil, map-append}
use Rattle.std.specs.List.{AllByRecursion}
use Rattle.est_syntax.specs.Names.{spelled}
use Rattle.est_syntax.specs.declared.name.Used.{Used}
use Rattle.est_syntax.specs.declared.type_text.TypeText.{TypeText}
use Rattle.est_syntax.specs.declared.type_text.TypeText.TheVariants as text
use Rattle.est_syntax.specs.declared.type_text.VarDef.{VarDef}
use Rattle.rule_scope.specs.Declaring.{taken, declared_by, declared, lying}
use Rattle.rule_scope.specs.Outline.{Outline, Region, names_of, entry_at}
use Rattle.rule_scope.specs.declared.declaration.Entry.{Entry}
use Rattle.rule_scope.specs.declared.declaration.Sort.TheVariants as sort
use Rattle.rule_scope.specs.declared.declaration.Standing.{Standing}
use Rattle.rule_scope.specs.declared.declaration.Within.{Within}
use Rattle.rule_kinds.specs.TypeTexts.{text_type, text_place}
use Rattle.rule_declares.specs.Declares.{names_declare, text_declares}
use Rattle.rule_declares.specs.Declares.{vardef_declares, vars_declare}
use Rattle.rule_declares.specs.Entries.{plain}
use Rattle.rule_declares.specs.Lasts.{text_last}
use Rattle.law_places.specs.Growth.{Anywhere, IsBefore}
use Rattle.law_places.proofs.Declaring.{vardef_grows, vars_grow, vars_on, vardef_on}
use Rattle.law_places.proofs.Following.{followed, like_present}
use Rattle.law_places.proofs.Lasting.{before_grown}
use Rattle.law_places.proofs.Placed.{NamesPlaced, names_on, text_on}
use Rattle.law_places.proofs.PlacedParts.{InOrder, VarDefPlaced}
use Rattle.law_places.proofs.Tables.{two_numbers, inserted_here, inserted_apart}
use Rattle.law_sentences.proofs.ParametersKept.{own_names}
use Rattle.law_runs.proofs.ParentsOlder.{joined_all}
use Rattle.law_numbers.specs.WritableLaws.{declared_places, any_names}
use Rattle.law_numbers.proofs.ReadAnys.{IsShortText, HasShortText}
use Rattle.law_numbers.proofs.RegionsStay.{kinds_stay}

-- the places of the names of a region
abbrev pub listed : Outline → ℕ → List ℕ
listed o region = map (λ (n : List ℕ × Standing). n.1.place) (names_of o region)

-- NAMES BEFORE A PLACE

abbrev pub AreUnder : ℕ → List Used → Type 0
AreUnder j us = AllByRecursion (λ (u : Used). u.place < j) us

names_under : (i k j : ℕ) (us : List Used) → NamesPlaced i k us → k ≤ j → AreUnder j us
names_under i k j [] h l = tt
names_under i k j (u ∷ us) h l =
    let n = names_on (suc u.place) k us h.1 in
    (omega arith, names_under (suc u.place) k j us h.1 l)

pub any_under : (i j : ℕ) (vs : List VarDef) → InOrder VarDefPlaced i j vs
    → AreUnder j (any_names vs)
any_under i j [] h = tt
any_under i j (v ∷ vs) h =
    let m = text_on h.1.0 h.0 v.text h.1.2 in
    let n = vars_on h.0 j vs h.2 in
    joined_all (λ (u : Used). u.place < j) v.names (any_names vs)
    (names_under i h.1.0 j v.names h.1.1 (omega arith)) (any_under h.0 j vs h.2)

-- those of them that are declared are the same in an outline that declares the same before there
pub same_places : (c : ℕ) (o f : Outline) (us : List Used)
    → ((q : ℕ) → q < c → is_some (entry_at f q) ≡ is_some (entry_at o q)) → AreUnder c us
    → declared_places f us ≡ declared_places o us
same_places c o f [] same h = refl
same_places c o f (u ∷ us) same h =
    let rest = same_places c o f us same h.1 in
    ap (λ ps. if is_some (entry_at f u.place) then u.place ∷ ps else ps) rest
    ∙ ap (λ b. if b then u.place ∷ declared_places o us else declared_places o us)
    (same u.place h.0)

joined_places : (o : Outline) (us vs : List Used)
    → declared_places o (us ++ vs) ≡ declared_places o us ++ declared_places o vs
joined_places o [] vs = refl
joined_places o (u ∷ us) vs = by (is_some (entry_at o u.place)) (joined_places o us vs)
  where
    ps : List ℕ
    ps = declared_places o us

    qs : List ℕ
    qs = declared_places o vs

    by : (b : Bool) → declared_places o (us ++ vs) ≡ ps ++ qs
        → (if b then u.place ∷ declared_places o (us ++ vs) else declared_places o (us ++ vs))
        ≡ (if b then u.place ∷ ps else ps) ++ qs
    by true e = ap (λ xs. u.place ∷ xs) e
    by false e = e

-- ONE NAME

-- nothing is declared from a place on
abbrev IsClear : ℕ → Outline → Type 0
IsClear c o = (q : ℕ) → c ≤ q → entry_at o q ≡ None

abbrev one_place : Bool → ℕ → List ℕ
one_place b p = if b then p ∷ [] else []

-- a name before others
first_listed : (b : Bool) (p : ℕ) (ps qs xs ys : List ℕ) → xs ≡ ps ++ one_place b p
    → ys ≡ xs ++ qs → ys ≡ ps ++ (if b then p ∷ qs else qs)
first_listed true p ps qs xs ys e h =
    h ∙ ap (λ zs. zs ++ qs) e ∙ append_assoc ps (p ∷ []) qs
first_listed false p ps qs xs ys e h =
    h ∙ ap (λ zs. zs ++ qs) (e ∙ append-nil ps)

module _ (w : Within) where
  declared_apart : (t : Option Standing) (u : Used) (last : ℕ) (e : Entry) (o : Outline) (q : ℕ)
      → (q ≡ u.place → ⊥) → entry_at (declared_by t w u last e o) q ≡ entry_at o q
  declared_apart (Some s) u last e o q h = refl
  declared_apart None u last e o q h =
      inserted_apart u.place e q o.entries (two_numbers q u.place h)

  one_listed : (t : Option Standing) (u : Used) (last : ℕ) (e : Entry) (o : Outline)
      → entry_at o u.place ≡ None
      → listed (declared_by t w u last e o) w.region ≡ listed o w.region
      ++ one_place (is_some (entry_at (declared_by t w u last e o) u.place)) u.place
  one_listed (Some s) u last e o clear =
      sym (ap (λ x. listed o w.region ++ one_place (is_some x) u.place) clear
      ∙ append-nil (listed o w.region))
  one_listed None u last e o clear =
      let s : Standing = record { place = u.place; last = last } in
      let place : (List ℕ × Standing) → ℕ = λ n. n.1.place in
      ap (λ (y : Option Region). map place (unwrap_or y []))
      (own_names (lookup (nat_eq w.region) o.regions) o.regions w.region (spelled u) s refl)
      ∙ map-append place (names_of o w.region) ((spelled u, s) ∷ [])
      ∙ sym (ap (λ x. listed o w.region ++ one_place (is_some x) u.place)
      (inserted_here u.place e o.entries))

  -- NAMES

  later_names : (us : List Used) (last : ℕ) (e : Entry) (o : Outline) (c j : ℕ)
      → NamesPlaced c j us → (q : ℕ) → q < c
      → entry_at (names_declare w us last e o) q ≡ entry_at o q
  later_names [] last e o c j h q l = refl
  later_names (u ∷ us) last e o c j h q l =
      let n = h.0 in
      later_names us last e (declared w u last e o) (suc u.place) j h.1 q (omega arith)
      ∙ declared_apart (taken o w (spelled u)) u last e o q (λ x. omega arith)

  names_listed : (us : List Used) (last : ℕ) (e : Entry) (o : Outline) (c j : ℕ)
      → NamesPlaced c j us → IsClear c o
      → listed (names_declare w us last e o) w.region
      ≡ listed o w.region ++ declared_places (names_declare w us last e o) us
  names_listed [] last e o c j h clear = sym (append-nil (listed o w.region))
  names_listed (u ∷ us) last e o c j h clear =
      let n = h.0 in
      let t = taken o w (spelled u) in
      let o1 = declared w u last e o in
      let o2 = names_declare w us last e o1 in
      subst (λ x. listed o2 w.region ≡ listed o w.region
      ++ (if is_some x then u.place ∷ declared_places o2 us else declared_places o2 us))
      (sym (later_names us last e o1 (suc u.place) j h.1 u.place (omega arith)))
      (first_listed (is_some (entry_at o1 u.place)) u.place (listed o w.region)
      (declared_places o2 us) (listed o1 w.region) (listed o2 w.region)
      (one_listed t u last e o (clear u.place n))
      (names_listed us last e o1 (suc u.place) j h.1
      (λ q l. declared_apart t u last e o q (λ x. omega arith) ∙ clear q (omega arith))))

  -- NAMES WITH THEIR TYPE

  short_declares : (t : TypeText) (o : Outline) → IsShortText t → text_declares w t o ≡ o
  short_declares (text.Named u) o h = refl
  short_declares (text.Range low high) o h = refl
  short_declares (text.Names names place) o h = absurd h
  short_declares (text.Array' a index b of place) o h = absurd h
  short_declares (text.Fields' a defs place) o h = absurd h
  short_declares (text.Set' a of place) o h = absurd h

  vardef_listed : (v : VarDef) (o : Outline) (c j : ℕ) → VarDefPlaced c j v → HasShortText v
      → IsClear c o
      → listed (vardef_declares w v o) w.region
      ≡ listed o w.region ++ declared_places (vardef_declares w v o) v.names
  vardef_listed v o c j h short clear =
      let last = text_last v.text in
      let o1 = lying w (text_place v.text) o in
      let o2 = names_declare w v.names last (plain w sort.Variable) o1 in
      let o3 = text_declares w v.text o2 in
      let o4 = vardef_declares w v o in
      let none : o3 ≡ o2 = short_declares v.text o2 short in
      let stays = kinds_stay w.region j v.names (text_type o3 v.text) o3 in
      let t = text_on h.0 j v.text h.2 in
      ap (map (λ (n : List ℕ × Standing). n.1.place)) stays.names
      ∙ ap (λ x. listed x w.region) none
      ∙ names_listed v.names last (plain w sort.Variable) o1 c h.0 h.1 clear
      ∙ ap (λ x. listed o w.region ++ declared_places x v.names) (sym none)
      ∙ ap (λ ps. listed o w.region ++ ps)
      (sym (same_places j o3 o4 v.names stays.declares (names_under c h.0 j v.names h.1 t)))

  pub vars_listed : (vs : List VarDef) (o : Outline) (c j : ℕ) → j ≤ 2 ^ 32
      → InOrder VarDefPlaced c j vs → AllByRecursion HasShortText vs → IsBefore c o
      → listed (vars_declare w vs o) w.region
      ≡ listed o w.region ++ declared_places (vars_declare w vs o) (any_names vs)
  vars_listed [] o c j fits h short before = sym (append-nil (listed o w.region))
  vars_listed (v ∷ vs) o c j fits h short before =
      let k = h.0 in
      let l = vardef_on c k v h.1 in
      let m = vars_on k j vs h.2 in
      let t = text_on h.1.0 k v.text h.1.2 in
      let o1 = vardef_declares w v o in
      let o2 = vars_declare w vs o1 in
      let grows = vars_grow Anywhere false k j fits w (inl tt) vs o1 k j h.2 (omega arith)
      (omega arith) in
      let before1 : IsBefore k o1 =
      before_grown Anywhere false c k o o1
      (vardef_grows Anywhere false c k (omega arith) w (inl tt) v o c k h.1 (omega arith)
      (omega arith)) before l in
      let own = declared_places o2 v.names in
      let more = declared_places o2 (any_names vs) in
      vars_listed vs o1 k j fits h.2 short.1 before1
      ∙ ap (λ xs. xs ++ more) (vardef_listed v o c k h.1 short.0
      (λ q n. before.declarations q n)
      ∙ ap (λ ps. listed o w.region ++ ps) (sym (same_places k o1 o2 v.names
      (λ q n. like_present false (entry_at o1 q) (entry_at o2 q)
      ((followed Anywhere false k j grows).entries q n))
      (names_under c h.1.0 k v.names h.1.1 t))))
      ∙ append_assoc (listed o w.region) own more
      ∙ ap (λ ps. listed o w.region ++ ps) (sym (joined_places o2 v.names (any_names vs)))
