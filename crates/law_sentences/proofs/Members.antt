-- No declaration stands where a name of a channel or a record does.
use Rattle.std.specs.Map.{lookup}
use Rattle.std.proofs.Common.{◌≡◌, refl, sym, subst, ℕ, Bool, true, false, if◌then◌else◌}
use Rattle.std.proofs.Common.{List, [], ◌∷◌, Option, Some, None, nat_eq}
use Rattle.std.proofs.lemmas.Bool.Decides.{Decides-eqb}
use Rattle.std.proofs.lemmas.Option.{none-some}
use Rattle.indexmap.specs.IndexMap.{insert_entry}
use Rattle.est_syntax.specs.Names.{spelled}
use Rattle.est_syntax.specs.declared.name.Used.{Used}
use Rattle.est_syntax.specs.declared.type_text.TypeText.{TypeText, Row_of-TypeText, end_of-TypeText}
use Rattle.est_syntax.specs.declared.type_text.TypeText.{more_of-TypeText, Row_of-VarDef}
use Rattle.est_syntax.specs.declared.type_text.TypeText.{end_of-VarDef, more_of-VarDef}
use Rattle.est_syntax.specs.declared.type_text.TypeText.TheVariants as text
use Rattle.est_syntax.specs.declared.type_text.TypeDef.{TypeDef}
use Rattle.est_syntax.specs.declared.type_text.VarDef.{VarDef}
use Rattle.est_syntax.specs.declared.channel.InteractionDef.{InteractionDef}
use Rattle.est_syntax.specs.declared.channel.ByPart.{ByPart}
use Rattle.est_syntax.specs.declared.statement.Statement.{Statement, Row_of-Statement}
use Rattle.est_syntax.specs.declared.statement.Statement.{end_of-Statement, more_of-Statement}
use Rattle.est_syntax.specs.declared.statement.Statement.{Row_of-Arm, end_of-Arm, more_of-Arm}
use Rattle.est_syntax.specs.declared.statement.Statement.{Held-Statement-If-2}
use Rattle.est_syntax.specs.declared.statement.Statement.TheBlock as held
use Rattle.est_syntax.specs.declared.statement.Statement.TheVariants as statement
use Rattle.est_syntax.specs.declared.transition.Clause.{Clause}
use Rattle.est_syntax.specs.declared.transition.Clause.TheVariants as clauses
use Rattle.est_syntax.specs.declared.body.Part.{Part, Row_of-Part, end_of-Part, more_of-Part}
use Rattle.est_syntax.specs.declared.body.Part.TheBlock as first
use Rattle.est_syntax.specs.declared.body.Part.TheVariants as part
use Rattle.est_syntax.specs.declared.body.Body.{Body', Row_of-Group, end_of-Group}
use Rattle.est_syntax.specs.declared.body.Body.{more_of-Group, Held-Body-first}
use Rattle.est_syntax.specs.declared.transition.Group.{Group', Row_of-Transition}
use Rattle.est_syntax.specs.declared.transition.Group.{end_of-Transition, more_of-Transition}
use Rattle.est_syntax.specs.declared.specification.Spec.{Spec}
use Rattle.rule_scope.specs.declared.declaration.Entry.{Entry}
use Rattle.rule_scope.specs.declared.declaration.Member.{Member}
use Rattle.rule_scope.specs.declared.declaration.Standing.{Standing}
use Rattle.rule_scope.specs.declared.declaration.Within.{Within}
use Rattle.rule_scope.specs.Outline.{Outline, standing, entry_at, member_at}
use Rattle.rule_scope.specs.Declaring.{taken, declared_by, put_by, amended_by}
use Rattle.rule_declares.specs.Bodies.{outline_of}
use Rattle.law_places.specs.Said.{Each, IsNoEntry, TextSaid, RowSaid, FieldsSaid, TypeDefSaid}
use Rattle.law_places.specs.Said.{VarDefSaid, InteractionSaid, ByPartSaid, StatementSaid}
use Rattle.law_places.specs.Said.{StatementsSaid, SecondSaid, ArmsSaid, ClauseSaid, PartSaid}
use Rattle.law_places.specs.Said.{PartsSaid, FirstSaid, GroupsSaid, TransitionsSaid}
use Rattle.law_sentences.proofs.Names.{each_then}
use Rattle.law_sentences.proofs.Walk.{Named, IsMember, OfText, OfRow, OfFields, OfTypeDef}
use Rattle.law_sentences.proofs.Walk.{OfVarDef, OfInteraction, OfByPart, OfStatement, OfStatements}
use Rattle.law_sentences.proofs.Walk.{OfSecond, OfArms, OfClause, OfPart, OfParts, OfFirst}
use Rattle.law_sentences.proofs.Walk.{OfGroups, OfTransitions, IsKeptBy, walked}
use Rattle.law_sentences.proofs.Walk.{OfConstDef, OfPoint, OfModvar, OfState, OfStateSet, OfFormal}
use Rattle.rule_declares.specs.Lasts.{names_last, text_last}

-- of declared names nothing is asked for here
abbrev Any : Used → ℕ → Type 0
Any u last = Unit {0}

any : {A : Type 0} (P : A → Type 0) (f : (x : A) → P x) (xs : List A) → Each P xs
any P f [] = tt
any P f (x ∷ xs) = (f x, any P f xs)

module _ (M : Used → Type 0) where
  names_any : (last : ℕ) (us : List Used) → Each (Named Any M last) us
  names_any last us = any (Named Any M last) (λ u. tt) us

module _ (o : Outline) where
  -- no declaration stands there
  abbrev FreeAt : ℕ → Type 0
  FreeAt place = entry_at o place ≡ None

  abbrev Free : Used → Type 0
  Free u = FreeAt u.place

  members : (us : List Used) → Each (IsNoEntry o) us → Each (IsMember Any Free) us
  members us said = each_then (IsNoEntry o) (IsMember Any Free) (λ u h. h) us said

  mutual
    text_members : (t : TypeText) → TextSaid o t → OfText Any Free t
    text_members (text.Named u) said = tt
    text_members (text.Range low high) said = tt
    text_members (text.Names names place) said = names_any Free (names_last names place) names
    text_members (text.Array' x index y of place) said =
        (row_members index said.0, row_members of said.1)
    text_members (text.Fields' x defs place) said = fields_members defs said
    text_members (text.Set' x of place) said = row_members of said

    row_members : {n : _} (row : Row_of-TypeText n) → RowSaid o row → OfRow Any Free row
    row_members end_of-TypeText said = tt
    row_members (more_of-TypeText t rest) said = (text_members t said.0, row_members rest said.1)

    fields_members : {n : _} (row : Row_of-VarDef n) → FieldsSaid o row → OfFields Any Free row
    fields_members end_of-VarDef said = tt
    fields_members (more_of-VarDef names t rest) said =
        (members names said.0, text_members t said.1, fields_members rest said.2)

  typedef_members : (t : TypeDef) → TypeDefSaid o t → OfTypeDef Any Free t
  typedef_members t said = (tt, text_members t.text said.1)

  vardef_members : (v : VarDef) → VarDefSaid o v → OfVarDef Any Free v
  vardef_members v said = (names_any Free (text_last v.text) v.names, text_members v.text said.1)

  vars_members : (vs : List VarDef) → Each (VarDefSaid o) vs → Each (OfVarDef Any Free) vs
  vars_members vs said = each_then (VarDefSaid o) (OfVarDef Any Free) vardef_members vs said

  interaction_members : (i : InteractionDef) → InteractionSaid o i → OfInteraction Any Free i
  interaction_members i said = (said.0, vars_members i.params said.1)

  by_part_members : (b : ByPart) → ByPartSaid o b → OfByPart Any Free b
  by_part_members b said = each_then (InteractionSaid o) (OfInteraction Any Free)
      interaction_members b.interactions said

  mutual
    statement_members : (s : Statement) → StatementSaid o s → OfStatement Any Free s
    statement_members (statement.Compound' a turn place) said = row_statements turn said
    statement_members (statement.If' condition a one second place) said =
        (row_statements one said.0, second_members second said.1)
    statement_members (statement.Case' value a arms place) said = arms_members arms said
    statement_members (statement.While' condition a turn place) said = row_statements turn said
    statement_members (statement.Repeat' a turn until place) said = row_statements turn said
    statement_members (statement.For' name from down to a turn place) said =
        row_statements turn said
    statement_members (statement.All' name over a turn place) said =
        (tt, row_statements turn said.1)
    statement_members _ said = tt

    row_statements : {n : _} (row : Row_of-Statement n) → StatementsSaid o row
        → OfStatements Any Free row
    row_statements end_of-Statement said = tt
    row_statements (more_of-Statement s rest) said =
        (statement_members s said.0, row_statements rest said.1)

    second_members : (s : Held-Statement-If-2) → SecondSaid o s → OfSecond Any Free s
    second_members held.None' said = tt
    second_members (held.Some' a second) said = row_statements second said

    arms_members : {n : _} (row : Row_of-Arm n) → ArmsSaid o row → OfArms Any Free row
    arms_members end_of-Arm said = tt
    arms_members (more_of-Arm constants s rest) said =
        (statement_members s said.0, arms_members rest said.1)

  turn_members : (ss : List Statement) → Each (StatementSaid o) ss
      → Each (OfStatement Any Free) ss
  turn_members ss said =
      each_then (StatementSaid o) (OfStatement Any Free) statement_members ss said

  clause_members : (c : Clause) → ClauseSaid o c → OfClause Any Free c
  clause_members (clauses.Any names place) said = vars_members names said
  clause_members _ said = tt

  mutual
    part_members : (x : Part) → PartSaid o x → OfPart Any Free x
    part_members (part.Consts cs) said = any (OfConstDef Any Free) (λ c. tt) cs
    part_members (part.Types ts) said =
        each_then (TypeDefSaid o) (OfTypeDef Any Free) typedef_members ts said
    part_members (part.Channel c) said = (
      tt,
      members c.roles said.1,
      each_then (ByPartSaid o) (OfByPart Any Free) by_part_members c.by said.2,
    )
    part_members (part.Header x) said = (
      tt,
      vars_members x.params said.1,
      any (OfPoint Any Free) (λ p. names_any Free p.role.place p.names) x.points,
      vars_members x.exports said.3,
    )
    part_members (part.Body (Body' name header a parts f b groups)) said =
        (tt, parts_members parts said.1, first_members f said.2, groups_members groups said.3)
    part_members (part.Modvars ms) said =
        any (OfModvar Any Free) (λ m. names_any Free m.header.place m.names) ms
    part_members (part.Points ps) said =
        any (OfPoint Any Free) (λ p. names_any Free p.role.place p.names) ps
    part_members (part.Vars vs) said = vars_members vs said
    part_members (part.States us) said = any (OfState Any Free) (λ u. tt) us
    part_members (part.StateSets ss) said = any (OfStateSet Any Free) (λ s. tt) ss
    part_members (part.Routine' name formals result a parts statements place) said = (
      tt,
      any (OfFormal Any Free) (λ f. names_any Free f.kind.place f.names) formals,
      parts_members parts said.2,
      turn_members statements said.3,
    )

    parts_members : {n : _} (row : Row_of-Part n) → PartsSaid o row → OfParts Any Free row
    parts_members end_of-Part said = tt
    parts_members (more_of-Part x rest) said = (part_members x said.0, parts_members rest said.1)

    first_members : (f : Held-Body-first) → FirstSaid o f → OfFirst Any Free f
    first_members first.None' said = tt
    first_members (first.Some' to a parts statements place) said =
        (parts_members parts said.0, turn_members statements said.1)

    groups_members : {n : _} (row : Row_of-Group n) → GroupsSaid o row → OfGroups Any Free row
    groups_members end_of-Group said = tt
    groups_members (more_of-Group (Group' a transitions) rest) said =
        (transitions_members transitions said.0, groups_members rest said.1)

    transitions_members : {n : _} (row : Row_of-Transition n) → TransitionsSaid o row
        → OfTransitions Any Free row
    transitions_members end_of-Transition said = tt
    transitions_members (more_of-Transition cs name a parts statements place rest) said = (
      each_then (ClauseSaid o) (OfClause Any Free) clause_members cs said.0,
      parts_members parts said.1,
      turn_members statements said.2,
      transitions_members rest said.3,
    )

-- so the members of an outline stand where nothing is declared
module _ (G : ℕ → Type 0) where
  abbrev AllMembers : List (ℕ × Member) → Type 0
  AllMembers [] = Unit {0}
  AllMembers (x ∷ xs) = G x.0 × AllMembers xs

  inserted : (xs : List (ℕ × Member)) (place : ℕ) (m : Member) → G place → AllMembers xs
      → AllMembers (insert_entry nat_eq xs place m)
  inserted [] place m g a = (g, tt)
  inserted (x ∷ xs) place m g a = by (nat_eq place x.0) (inserted xs place m g a.1)
    where
      by : (b : Bool) → AllMembers (insert_entry nat_eq xs place m)
          → AllMembers (if b then (x.0, m) ∷ xs else x ∷ insert_entry nat_eq xs place m)
      by true rest = (a.0, a.1)
      by false rest = (a.0, rest)

  found : (xs : List (ℕ × Member)) (place : ℕ) (m : Member) → AllMembers xs
      → lookup (nat_eq place) xs ≡ Some m → G place
  found [] place m a q = absurd (none-some m q)
  found (x ∷ xs) place m a q = by (nat_eq place x.0) refl q (found xs place m a.1)
    where
      by : (b : Bool) → nat_eq place x.0 ≡ b
          → (if b then Some x.1 else lookup (nat_eq place) xs) ≡ Some m
          → (lookup (nat_eq place) xs ≡ Some m → G place) → G place
      by true is r rest = subst G (sym ((Decides-eqb place x.0).0 is)) a.0
      by false is r rest = rest r

  declared_keeps : (t : Option Standing) (o : Outline) (w : Within) (u : Used) (last : ℕ)
      (e : Entry) → AllMembers o.members → AllMembers (declared_by t w u last e o).members
  declared_keeps (Some s) o w u last e h = h
  declared_keeps None o w u last e h = h

  put_keeps : (x : Option Standing) (o : Outline) (region : ℕ) (u : Used) (m : Member)
      → G u.place → AllMembers o.members → AllMembers (put_by x region u m o).members
  put_keeps (Some s) o region u m g h = h
  put_keeps None o region u m g h = inserted o.members u.place m g h

  amended_keeps : (x : Option Entry) (o : Outline) (f : Entry → Entry) (place : ℕ)
      → AllMembers o.members → AllMembers (amended_by x f place o).members
  amended_keeps None o f place h = h
  amended_keeps (Some e) o f place h = h

  members_kept : IsKeptBy Any (λ u. G u.place) (λ o. AllMembers o.members)
  members_kept = record {
    begins = tt;
    declares = λ o w u last e d h. declared_keeps (taken o w (spelled u)) o w u last e h;
    puts = λ o region u m g h. put_keeps (standing o region (spelled u)) o region u m g h;
    amends = λ o f place h. amended_keeps (entry_at o place) o f place h;
    lies = λ o w place h. h;
  }

-- where a name of a channel or a record stands, nothing is declared
pub members_free : (s : Spec) → Each (PartSaid (outline_of s)) s.parts → (place : ℕ) (m : Member)
    → member_at (outline_of s) place ≡ Some m → entry_at (outline_of s) place ≡ None
members_free s said place m is =
    let o = outline_of s in
    let tree = each_then (PartSaid o) (OfPart Any (Free o)) (part_members o) s.parts said in
    found (FreeAt o) o.members place m
    (walked Any (Free o) (λ p. AllMembers (FreeAt o) p.members) (members_kept (FreeAt o)) s tree)
    is
