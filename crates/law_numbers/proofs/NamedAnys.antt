-- In the region of each `any` of a sentence stand the names that its text declares, and no others.
use Rattle.std.specs.Prelude.{map, unwrap_or}
use Rattle.std.proofs.Common.{◌≡◌, refl, sym, ap, ◌∙◌, ℕ, suc, ◌<◌, ◌≤◌, ◌^◌, false, List, []}
use Rattle.std.proofs.Common.{◌∷◌, ◌++◌, Option, Some, length, inl, inr, arith}
use Rattle.std.specs.List.{AllByRecursion}
use Rattle.est_lexer.specs.declared.kind.Token.{Token}
use Rattle.est_syntax.specs.declared.body.Body.{Body', Row_of-Group, end_of-Group, more_of-Group}
use Rattle.est_syntax.specs.declared.body.Part.{Part, Row_of-Part, end_of-Part, more_of-Part}
use Rattle.est_syntax.specs.declared.body.Part.TheVariants as part
use Rattle.est_syntax.specs.declared.specification.Spec.{Spec}
use Rattle.est_syntax.specs.declared.transition.Clause.{Clause}
use Rattle.est_syntax.specs.declared.transition.Clause.TheVariants as clauses
use Rattle.est_syntax.specs.declared.transition.Group.{Group', Row_of-Transition}
use Rattle.est_syntax.specs.declared.transition.Group.{end_of-Transition, more_of-Transition}
use Rattle.est_syntax.specs.declared.type_text.TypeText.{TypeText}
use Rattle.est_syntax.specs.declared.type_text.TypeText.TheVariants as text_form
use Rattle.est_syntax.specs.declared.type_text.VarDef.{VarDef}
use Rattle.rule_scope.specs.Declaring.{empty, lying}
use Rattle.rule_scope.specs.Outline.{Outline, Region}
use Rattle.rule_scope.specs.declared.declaration.Section.TheVariants as section
use Rattle.rule_scope.specs.declared.declaration.Standing.{Standing}
use Rattle.rule_scope.specs.declared.declaration.Within.{Within}
use Rattle.rule_declares.specs.Bodies.{Clausal, clause_declares, clauses_declare, body_named}
use Rattle.rule_declares.specs.Bodies.{header_given, inside, part_declares, row_parts, closed_by}
use Rattle.rule_declares.specs.Bodies.{first_declares, row_groups, row_transitions}
use Rattle.rule_declares.specs.Bodies.{statements_declare, parts_declare, outline_of}
use Rattle.rule_declares.specs.Contexts.{dropped, given, under}
use Rattle.rule_declares.specs.Declares.{vars_declare}
use Rattle.rule_declares.specs.Entries.{inner, in_region, outermost}
use Rattle.rule_declares.specs.declared.context.ClauseKind.TheVariants as kind
use Rattle.rule_declares.specs.declared.context.Given.{Given}
use Rattle.law_places.specs.Growth.{Anywhere, IsBefore, Grows, g_then}
use Rattle.law_places.proofs.Ascending.{specification_stands}
use Rattle.law_places.proofs.BodiesGoOn.{clause_on, clauses_on, turn_on, part_on, parts_on}
use Rattle.law_places.proofs.BodiesGoOn.{first_on, groups_on, transitions_on}
use Rattle.law_places.proofs.Declaring.{order_on, vars_on}
use Rattle.law_places.proofs.DeclaringBodies.{clause_grows, clauses_grow, statements_grow}
use Rattle.law_places.proofs.DeclaringBodies.{named_grows, closed_grows, part_grows, parts_grow}
use Rattle.law_places.proofs.DeclaringBodies.{first_grows, groups_grow, transitions_grow}
use Rattle.law_places.proofs.DeclaringBodies.{listed_parts_grow}
use Rattle.law_places.proofs.Lasting.{before_grown, before_later, before_lying}
use Rattle.law_places.proofs.Placed.{TextPlaced, constant_on, names_on}
use Rattle.law_places.proofs.PlacedBodies.{ClausePlaced, PartPlaced, PartsPlaced, GroupsPlaced}
use Rattle.law_places.proofs.PlacedBodies.{TransitionsPlaced}
use Rattle.law_places.proofs.PlacedParts.{InOrder, VarDefPlaced}
use Rattle.law_places.proofs.SaidWholes.{before_empty}
use Rattle.law_places.proofs.Wholes.{spec_placed}
use Rattle.est_check.specs.SentenceOf.{IsSentence}
use Rattle.law_sentences.proofs.Apart.{IsBegin, common_parts_apart}
use Rattle.law_sentences.proofs.ParametersKept.{Leading, leading_later}
use Rattle.law_sentences.proofs.ParametersLead.{PartApart, RowApart, GroupsApart, TransitionsApart}
use Rattle.law_sentences.proofs.ParametersLead.{AllApart, IsOpen, clause_leads, clauses_lead}
use Rattle.law_sentences.proofs.ParametersLead.{statements_lead, named_leads, closed_leads}
use Rattle.law_sentences.proofs.ParametersLead.{part_leads, parts_lead, first_leads}
use Rattle.law_sentences.proofs.ParametersLead.{transitions_lead, nothing_leads}
use Rattle.law_numbers.specs.WritableLaws.{declared_places, any_names, AnysHaveTheirNames}
use Rattle.law_numbers.proofs.EachBody.{PartBodies, RowBodies, AllBodies}
use Rattle.law_numbers.proofs.EachClause.{TransitionsHave, GroupsHave, BodyHas, one_in}
use Rattle.law_numbers.proofs.EachClause.{transition_has}
use Rattle.law_numbers.proofs.ListedNames.{listed, any_under, same_places, vars_listed}
use Rattle.law_numbers.proofs.ReadAnys.{IsShortText, HasShortText, IsRead, sentence_read}
use Rattle.law_numbers.proofs.ReadBodies.{sentence_parts}
use Rattle.law_numbers.proofs.RegionsStay.{IsNot, Stays, stays_then, grown_stays, closed_stays}

-- the region of an `any` has the names that its text declares
abbrev pub IsNamed : Outline → Clause → Type 0
IsNamed f (clauses.Any names place) = listed f place ≡ declared_places f (any_names names)
IsNamed f _ = Unit {0}

-- a short type takes a place
text_takes : (i j : ℕ) (t : TypeText) → TextPlaced i j t → IsShortText t → i < j
text_takes i j (text_form.Named u) h short = omega (arith, h.0, h.1)
text_takes i j (text_form.Range low high) h short =
    omega (arith, constant_on i h.0 low h.1, constant_on h.0 j high h.2)
text_takes i j (text_form.Names names place) h short = absurd short
text_takes i j (text_form.Array' a index b of place) h short = absurd short
text_takes i j (text_form.Fields' a defs place) h short = absurd short
text_takes i j (text_form.Set' a of place) h short = absurd short

vars_take : (i j : ℕ) (v : VarDef) (vs : List VarDef) → InOrder VarDefPlaced i j (v ∷ vs)
    → HasShortText v → i < j
vars_take i j v vs h short =
    omega (
      arith,
      names_on i h.1.0 v.names h.1.1,
      text_takes h.1.0 h.0 v.text h.1.2 short,
      vars_on h.0 j vs h.2,
    )

module _ (text : List ℕ) (tokens : List Token) (f : Outline) where
  -- a block begins there
  abbrev B : ℕ → Type 0
  B = IsBegin text tokens

  -- what stands between two places is there in the whole outline as it was declared
  abbrev Lasts : ℕ → ℕ → Outline → Type 0
  Lasts i j o = (p : ℕ) → i ≤ p → p < j → Stays p j o f

  -- so it is with what is declared before more that is declared elsewhere
  lasts_before : (i k j : ℕ) (o x : Outline) → i ≤ k → k ≤ j
      → ((p : ℕ) → i ≤ p → p < k → Grows (IsNot p) false k j o x) → Lasts i j x → Lasts i k o
  lasts_before i k j o x l m grows rest p n q =
      stays_then p k j o x f m (grown_stays p false k j o x q (grows p n q))
      (rest p n (omega arith))

  -- CLAUSES

  fresh : (o : Outline) (i place : ℕ) → Leading B i i o → i ≤ place → (B place → ⊥)
      → listed o place ≡ []
  fresh o i place k l out =
      ap (λ (y : Option Region). map (λ (n : List ℕ × Standing). n.1.place) (unwrap_or y []))
      (k.fresh place l out)

  any_named : (w : Within) (v : VarDef) (vs : List VarDef) (place : ℕ) (gs : List Given)
      (o : Outline) (i j : ℕ) → ClausePlaced i j (clauses.Any (v ∷ vs) place) → j ≤ 2 ^ 32
      → IsRead text tokens (clauses.Any (v ∷ vs) place) → IsBefore i o → Leading B i i o
      → Lasts i j (clause_declares w (clauses.Any (v ∷ vs) place) (gs, o)).1
      → IsNamed f (clauses.Any (v ∷ vs) place)
  any_named w v vs place gs o i j h fits read before k rest =
      let names = v ∷ vs in
      let x = under w (given kind.Any (Some place) (dropped kind.Any gs)) in
      let u = in_region section.Any x place in
      let o0 = lying x place o in
      let o1 = vars_declare u names o0 in
      let start : IsBefore place o0 =
      before_lying place place x o (before_later i place o h.0 before) in
      let stays = rest place h.0 (vars_take place j v vs h.1 read.1.0) in
      ap (map (λ (n : List ℕ × Standing). n.1.place)) stays.names
      ∙ vars_listed u names o0 place j fits h.1 read.1 start
      ∙ ap (λ ps. ps ++ declared_places o1 (any_names names)) (fresh o i place k h.0 read.0)
      ∙ sym (same_places j o1 f (any_names names) stays.declares (any_under place j names h.1))

  clause_named : (w : Within) (c : Clause) (gs : List Given) (o : Outline) (i j : ℕ)
      → ClausePlaced i j c → j ≤ 2 ^ 32 → IsRead text tokens c → IsBefore i o → Leading B i i o
      → Lasts i j (clause_declares w c (gs, o)).1 → IsNamed f c
  clause_named w (clauses.Any [] place) gs o i j h fits read before k rest = absurd read
  clause_named w (clauses.Any (v ∷ vs) place) gs o i j h fits read before k rest =
      any_named w v vs place gs o i j h fits read before k rest
  clause_named w (clauses.From states place) gs o i j h fits read before k rest = tt
  clause_named w (clauses.To state place) gs o i j h fits read before k rest = tt
  clause_named w (clauses.When at signal place) gs o i j h fits read before k rest = tt
  clause_named w (clauses.Provided condition place) gs o i j h fits read before k rest = tt
  clause_named w (clauses.Otherwise place) gs o i j h fits read before k rest = tt
  clause_named w (clauses.Priority value place) gs o i j h fits read before k rest = tt
  clause_named w (clauses.Delay least most place) gs o i j h fits read before k rest = tt

  clauses_named : (w : Within) (cs : List Clause) (s : Clausal) (i j : ℕ)
      → InOrder ClausePlaced i j cs → j ≤ 2 ^ 32 → w.region < i
      → AllByRecursion (IsRead text tokens) cs → IsBefore i s.1 → Leading B i i s.1
      → Lasts i j (clauses_declare w cs s).1 → AllByRecursion (IsNamed f) cs
  clauses_named w [] s i j h fits l read before k rest = tt
  clauses_named w (c ∷ cs) s i j h fits l read before k rest =
      let e = clause_on i h.0 c h.1 in
      let g = clauses_on h.0 j cs h.2 in
      let s1 = clause_declares w c s in
      let before1 : IsBefore h.0 s1.1 =
      before_grown Anywhere false i h.0 s.1 s1.1
      (clause_grows Anywhere false i h.0 (omega arith) w (inl tt) c s.0 s.1 i h.0 h.1 (omega arith)
      (omega arith)) before e in (
        clause_named w c s.0 s.1 i h.0 h.1 (omega arith) read.0 before k
            (lasts_before i h.0 j s1.1 (clauses_declare w cs s1).1 e g
            (λ p m n. clauses_grow (IsNot p) false h.0 j fits w (inl (λ q. omega arith)) cs s1 h.0 j
            h.2 (omega arith) (omega arith)) rest),
        clauses_named w cs s1 h.0 j h.2 fits (omega arith) read.1 before1
            (clause_leads w c s.0 s.1 i h.0 h.1 k) (λ p m n. rest p (omega arith) n),
      )

  -- TRANSITIONS

  transitions_named : (w : Within) {n : _} (row : Row_of-Transition n) (s : Clausal) (i j : ℕ)
      → TransitionsPlaced i j row → j ≤ 2 ^ 32 → w.region < i → IsOpen B i w
      → TransitionsApart B row → TransitionsHave (IsRead text tokens) row → IsBefore i s.1
      → Leading B i i s.1 → Lasts i j (row_transitions w row s).1 → TransitionsHave (IsNamed f) row
  transitions_named w end_of-Transition s i j h fits l is out read before k rest = tt
  transitions_named w (more_of-Transition cs name x parts ss place more) s i j h fits l is out read
      before k rest =
      let c = clauses_on i h.0 cs h.4 in
      let p = h.5 in
      let q = h.7 in
      let d = parts_on h.1 h.2 parts h.6 in
      let e = turn_on place h.3 ss h.8 in
      let g = transitions_on h.3 j more h.9 in
      let s1 = clauses_declare w cs s in
      let v = inner (under w s1.0) place in
      let o1 = row_parts v parts s1.1 in
      let o2 = statements_declare v ss o1 in
      let s2 : Clausal = (s1.0, o2) in
      let o3 = (row_transitions w more s2).1 in
      let before1 : IsBefore h.0 s1.1 =
      before_grown Anywhere false i h.0 s.1 s1.1
      (clauses_grow Anywhere false i h.0 (omega arith) w (inl tt) cs s i h.0 h.4 (omega arith)
      (omega arith)) before c in
      let block : (R : ℕ → Type 0) → Grows R false h.0 h.3 s1.1 o2 =
      λ R. g_then (parts_grow R false h.0 h.3 (omega arith) v (inr (omega arith)) parts s1.1 h.1 h.2
      h.6 (omega arith) (omega arith))
      (statements_grow R false h.0 h.3 (omega arith) v (inr (omega arith)) ss o1 place h.3 h.8
      (omega arith) (omega arith)) in
      let before2 : IsBefore h.3 o2 =
      before_grown Anywhere false h.0 h.3 s1.1 o2 (block Anywhere) before1 (omega arith) in
      let k1 = clauses_lead w cs s i h.0 h.4 k in
      let k2 = statements_lead v ss o1 place h.3 h.8 (inr out.0, refl)
      (leading_later h.2 h.2 place place o1 q q
      (parts_lead v parts s1.1 h.1 h.2 h.6 (inr out.0, refl) out.1
      (leading_later h.0 h.0 h.1 h.1 s1.1 p p k1))) in
      let rest2 : Lasts i h.3 o2 =
      lasts_before i h.3 j o2 o3 (omega arith) g
      (λ r m n. transitions_grow (IsNot r) false h.3 j fits w (inl (λ z. omega arith)) more s2 h.3 j
      h.9 (omega arith) (omega arith)) rest in (
        clauses_named w cs s i h.0 h.4 (omega arith) l read.0 before k
            (lasts_before i h.0 h.3 s1.1 o2 c (omega arith) (λ r m n. block (IsNot r)) rest2),
        transitions_named w more s2 h.3 j h.9 fits (omega arith) (inl (omega arith), is.1) out.2
            read.1 before2 k2 (λ r m n. rest r (omega arith) n),
      )

  groups_named : (w : Within) {n : _} (row : Row_of-Group n) (o : Outline) (i j : ℕ)
      → GroupsPlaced i j row → j ≤ 2 ^ 32 → w.region < i → IsOpen B i w → GroupsApart B row
      → GroupsHave (IsRead text tokens) row → IsBefore i o → Leading B i i o
      → Lasts i j (row_groups w row o) → GroupsHave (IsNamed f) row
  groups_named w end_of-Group o i j h fits l is out read before k rest = tt
  groups_named w (more_of-Group (Group' x transitions) more) o i j h fits l is out read before k
      rest =
      let e = transitions_on i h.0 transitions h.1 in
      let g = groups_on h.0 j more h.2 in
      let o1 = (row_transitions w transitions ([], o)).1 in
      let before1 : IsBefore h.0 o1 =
      before_grown Anywhere false i h.0 o o1
      (transitions_grow Anywhere false i h.0 (omega arith) w (inl tt) transitions ([], o) i h.0 h.1
      (omega arith) (omega arith)) before e in (
        transitions_named w transitions ([], o) i h.0 h.1 (omega arith) l is out.0 read.0 before k
            (lasts_before i h.0 j o1 (row_groups w more o1) e g
            (λ r m n. groups_grow (IsNot r) false h.0 j fits w (inl (λ z. omega arith)) more o1 h.0
            j h.2 (omega arith) (omega arith)) rest),
        groups_named w more o1 h.0 j h.2 fits (omega arith) (inl (omega arith), is.1) out.1 read.1
            before1 (transitions_lead w transitions ([], o) i h.0 h.1 is out.0 k)
            (λ r m n. rest r (omega arith) n),
      )

  -- PARTS

  mutual
    part_named : (w : Within) (x : Part) (o : Outline) (i j : ℕ) → PartPlaced i j x → j ≤ 2 ^ 32
        → w.region < i → IsOpen B i w → PartApart B x → PartBodies (BodyHas (IsRead text tokens)) x
        → IsBefore i o → Leading B i i o → Lasts i j (part_declares w x o)
        → PartBodies (BodyHas (IsNamed f)) x
    part_named w (part.Body (Body' name header x parts g y groups)) o i j h fits l is out read
        before k rest =
        let p = h.2 in
        let q = h.3 in
        let till = suc header.place in
        let d = parts_on till h.0 parts h.4 in
        let e = first_on h.0 h.1 g h.5 in
        let t = groups_on h.1 j groups h.6 in
        let o1 = body_named w name o in
        let v = inside w name header o1 in
        let o2 = header_given name header o1 in
        let o3 = row_parts v parts o2 in
        let o4 = first_declares v g o3 in
        let o5 = row_groups v groups o4 in
        let before2 : IsBefore till o2 =
        before_grown Anywhere false i till o o2
        (named_grows Anywhere false i till (omega arith) w (inl tt) name header o p (omega arith))
        before (omega arith) in
        let before3 : IsBefore h.0 o3 =
        before_grown Anywhere false till h.0 o2 o3
        (parts_grow Anywhere false till h.0 (omega arith) v (inl tt) parts o2 till h.0 h.4
        (omega arith) (omega arith)) before2 d in
        let before4 : IsBefore h.1 o4 =
        before_grown Anywhere false h.0 h.1 o3 o4
        (first_grows Anywhere false h.0 h.1 (omega arith) v (inl tt) g o3 h.0 h.1 h.5 (omega arith)
        (omega arith)) before3 e in
        let k2 = leading_later (suc name.place) (suc name.place) till till o2 (omega arith)
        (omega arith) (named_leads w name header o i p is k) in
        let k3 = parts_lead v parts o2 till h.0 h.4 (inl (omega arith), refl) out.0 k2 in
        let k4 = first_leads v g o3 h.0 h.1 h.5 (inl (omega arith), refl) out.1 k3 in
        let rest4 : Lasts till h.1 o4 =
        lasts_before till h.1 j o4 o5 (omega arith) t
        (λ r m n. groups_grow (IsNot r) false h.1 j fits v (inl (λ z. omega arith)) groups o4 h.1 j
        h.6 (omega arith) (omega arith)) (λ r m n. rest r (omega arith) n) in
        let rest3 : Lasts till h.0 o3 =
        lasts_before till h.0 h.1 o3 o4 d e
        (λ r m n. first_grows (IsNot r) false h.0 h.1 (omega arith) v (inl (λ z. omega arith)) g o3
        h.0 h.1 h.5 (omega arith) (omega arith)) rest4 in (
          groups_named v groups o4 h.1 j h.6 fits (omega arith) (inl (omega arith), refl) out.2
              read.0 before4 k4 (λ r m n. rest r (omega arith) n),
          row_named v parts o2 till h.0 h.4 (omega arith) (omega arith) (inl (omega arith), refl)
              out.0 read.1 before2 k2 rest3,
        )
    part_named w _ o i j h fits l is out read before k rest = tt

    row_named : (w : Within) {n : _} (row : Row_of-Part n) (o : Outline) (i j : ℕ)
        → PartsPlaced i j row → j ≤ 2 ^ 32 → w.region < i → IsOpen B i w → RowApart B row
        → RowBodies (BodyHas (IsRead text tokens)) row → IsBefore i o → Leading B i i o
        → Lasts i j (row_parts w row o) → RowBodies (BodyHas (IsNamed f)) row
    row_named w end_of-Part o i j h fits l is out read before k rest = tt
    row_named w (more_of-Part x more) o i j h fits l is out read before k rest =
        let e = part_on i h.0 x h.1 in
        let g = parts_on h.0 j more h.2 in
        let o1 = part_declares w x o in
        let o2 = closed_by x o1 in
        let before2 : IsBefore h.0 o2 =
        before_grown Anywhere false i h.0 o o2
        (g_then (part_grows Anywhere false i h.0 (omega arith) w (inl tt) x o i h.0 h.1 (omega
        arith) (omega arith))
        (closed_grows Anywhere false i h.0 (omega arith) x o1 i h.0 h.1 (omega arith))) before e in
        let rest2 : Lasts i h.0 o2 =
        lasts_before i h.0 j o2 (row_parts w more o2) e g
        (λ r m n. parts_grow (IsNot r) false h.0 j fits w (inl (λ z. omega arith)) more o2 h.0 j h.2
        (omega arith) (omega arith)) rest in (
          part_named w x o i h.0 h.1 (omega arith) l is out.0 read.0 before k
              (λ r m n. stays_then r h.0 h.0 o1 o2 f (omega arith) (closed_stays r h.0 x o1)
              (rest2 r m n)),
          row_named w more o2 h.0 j h.2 fits (omega arith) (inl (omega arith), is.1) out.1 read.1
              before2 (closed_leads x o1 h.0 (part_leads w x o i h.0 h.1 is out.0 k))
              (λ r m n. rest r (omega arith) n),
        )

  pub parts_named : (w : Within) (xs : List Part) (o : Outline) (i j : ℕ)
      → InOrder PartPlaced i j xs → j ≤ 2 ^ 32 → w.region < i → IsOpen B i w → AllApart B xs
      → AllBodies (BodyHas (IsRead text tokens)) xs → IsBefore i o → Leading B i i o
      → Lasts i j (parts_declare w xs o) → AllBodies (BodyHas (IsNamed f)) xs
  parts_named w [] o i j h fits l is out read before k rest = tt
  parts_named w (x ∷ xs) o i j h fits l is out read before k rest =
      let e = part_on i h.0 x h.1 in
      let g = order_on PartPlaced part_on h.0 j xs h.2 in
      let o1 = part_declares w x o in
      let o2 = closed_by x o1 in
      let before2 : IsBefore h.0 o2 =
      before_grown Anywhere false i h.0 o o2
      (g_then (part_grows Anywhere false i h.0 (omega arith) w (inl tt) x o i h.0 h.1 (omega arith)
      (omega arith)) (closed_grows Anywhere false i h.0 (omega arith) x o1 i h.0 h.1 (omega arith)))
      before e in
      let rest2 : Lasts i h.0 o2 =
      lasts_before i h.0 j o2 (parts_declare w xs o2) e g
      (λ r m n. listed_parts_grow (IsNot r) false h.0 j fits w (inl (λ z. omega arith)) xs o2 h.0 j
      h.2 (omega arith) (omega arith)) rest in (
        part_named w x o i h.0 h.1 (omega arith) l is out.0 read.0 before k
            (λ r m n. stays_then r h.0 h.0 o1 o2 f (omega arith) (closed_stays r h.0 x o1)
            (rest2 r m n)),
        parts_named w xs o2 h.0 j h.2 fits (omega arith) (inl (omega arith), is.1) out.1 read.1
            before2 (closed_leads x o1 h.0 (part_leads w x o i h.0 h.1 is out.0 k))
            (λ r m n. rest r (omega arith) n),
      )

-- the names of the outline of a sentence
outline_named : (spec : Spec) (sentence : IsSentence spec)
    → AllBodies (BodyHas (IsNamed (outline_of spec))) spec.parts
outline_named spec sentence =
    let text = sentence.text in
    let tokens = sentence.tokens in
    let few = sentence.few in
    let from = suc spec.name.place in
    let placed = spec_placed spec (length tokens)
    (specification_stands text tokens spec sentence.tree) in
    let p = placed.2 in
    let q = placed.3 in
    parts_named text tokens (outline_of spec) outermost spec.parts empty from placed.0 placed.1
    (omega arith) (omega arith) (inl (omega arith), refl)
    (common_parts_apart text tokens spec.parts (sentence_parts text tokens spec sentence.tree))
    (sentence_read text tokens spec sentence.tree) (before_empty from)
    (nothing_leads (IsBegin text tokens) from)
    (λ r m n. record { names = refl; declares = λ z l. refl })

pub anys_named : AnysHaveTheirNames
anys_named spec sentence body number x names place is stands =
    let f = outline_of spec in
    one_in (IsNamed f) (clauses.Any names place) x.clauses
    (transition_has (IsNamed f) spec (outline_named spec sentence) body number x is) stands
