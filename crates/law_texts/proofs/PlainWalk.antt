-- Each name that a tree declares is plain, where the tree is spelled so.
use Rattle.std.proofs.Common.{ℕ, List}
use Rattle.est_syntax.specs.declared.name.Used.{Used}
use Rattle.est_syntax.specs.declared.type_text.TypeText.{TypeText, Row_of-TypeText, end_of-TypeText}
use Rattle.est_syntax.specs.declared.type_text.TypeText.{more_of-TypeText, Row_of-VarDef}
use Rattle.est_syntax.specs.declared.type_text.TypeText.{end_of-VarDef, more_of-VarDef}
use Rattle.est_syntax.specs.declared.type_text.TypeText.TheVariants as text
use Rattle.est_syntax.specs.declared.type_text.TypeDef.{TypeDef}
use Rattle.est_syntax.specs.declared.type_text.VarDef.{VarDef}
use Rattle.est_syntax.specs.declared.channel.InteractionDef.{InteractionDef}
use Rattle.est_syntax.specs.declared.channel.ByPart.{ByPart}
use Rattle.est_syntax.specs.declared.statement.Statement.{Statement, Row_of-Statement}
use Rattle.est_syntax.specs.declared.statement.Statement.{end_of-Statement, more_of-Statement}
use Rattle.est_syntax.specs.declared.statement.Statement.{Row_of-Arm, end_of-Arm, more_of-Arm}
use Rattle.est_syntax.specs.declared.statement.Statement.{Held-Statement-If-2}
use Rattle.est_syntax.specs.declared.statement.Statement.TheBlock as held
use Rattle.est_syntax.specs.declared.statement.Statement.TheVariants as statement
use Rattle.est_syntax.specs.declared.transition.Clause.{Clause}
use Rattle.est_syntax.specs.declared.transition.Clause.TheVariants as clauses
use Rattle.est_syntax.specs.declared.body.Part.{Part, Row_of-Part, end_of-Part, more_of-Part}
use Rattle.est_syntax.specs.declared.body.Part.TheBlock as first
use Rattle.est_syntax.specs.declared.body.Part.TheVariants as part
use Rattle.est_syntax.specs.declared.body.Body.{Body', Row_of-Group, end_of-Group}
use Rattle.est_syntax.specs.declared.body.Body.{more_of-Group, Held-Body-first}
use Rattle.est_syntax.specs.declared.transition.Group.{Group', Row_of-Transition}
use Rattle.est_syntax.specs.declared.transition.Group.{end_of-Transition, more_of-Transition}
use Rattle.law_places.specs.Said.{Each}
use Rattle.law_sentences.proofs.Names.{each_then}
use Rattle.law_sentences.proofs.Walk.{OfConstDef, OfText, OfRow, OfFields}
use Rattle.law_sentences.proofs.Walk.{OfTypeDef, OfVarDef, OfInteraction, OfByPart, OfPoint}
use Rattle.law_sentences.proofs.Walk.{OfModvar, OfStateSet, OfState, OfFormal, OfStatement}
use Rattle.law_sentences.proofs.Walk.{OfStatements, OfSecond, OfArms, OfClause, OfPart, OfParts}
use Rattle.law_sentences.proofs.Walk.{OfFirst, OfGroups, OfTransitions}
use Rattle.law_texts.proofs.Spelt.{IsSpelt, ConstDefSpelt, TextSpelt, RowSpelt, FieldsSpelt}
use Rattle.law_texts.proofs.Spelt.{TypeDefSpelt, VarDefSpelt, InteractionSpelt, ByPartSpelt}
use Rattle.law_texts.proofs.Spelt.{PointSpelt, ModvarSpelt, StateSetSpelt, FormalSpelt}
use Rattle.law_texts.proofs.Spelt.{StatementSpelt, StatementsSpelt, SecondSpelt, ArmsSpelt}
use Rattle.law_texts.proofs.Spelt.{ClauseSpelt, PartSpelt, PartsSpelt, FirstSpelt, GroupsSpelt}
use Rattle.law_texts.proofs.Spelt.{TransitionsSpelt}

-- a name that is declared is plain, and one of a channel or a record
abbrev pub Plain : Used → ℕ → Type 0
Plain u last = IsSpelt u

abbrev pub PlainMember : Used → Type 0
PlainMember u = IsSpelt u

mutual
  text_plain : (t : TypeText) → TextSpelt t → OfText Plain PlainMember t
  text_plain (text.Named u) h = tt
  text_plain (text.Range low high) h = tt
  text_plain (text.Names names place) h = h
  text_plain (text.Array' a index b of place) h = (row_plain index h.0, row_plain of h.1)
  text_plain (text.Fields' a defs place) h = fields_plain defs h
  text_plain (text.Set' a of place) h = row_plain of h

  row_plain : {n : _} (row : Row_of-TypeText n) → RowSpelt row → OfRow Plain PlainMember row
  row_plain end_of-TypeText h = tt
  row_plain (more_of-TypeText t rest) h = (text_plain t h.0, row_plain rest h.1)

  fields_plain : {n : _} (row : Row_of-VarDef n) → FieldsSpelt row
      → OfFields Plain PlainMember row
  fields_plain end_of-VarDef h = tt
  fields_plain (more_of-VarDef names t rest) h =
      (h.0, text_plain t h.1, fields_plain rest h.2)

typedef_plain : (t : TypeDef) → TypeDefSpelt t → OfTypeDef Plain PlainMember t
typedef_plain t h = (h.0, text_plain t.text h.1)

vardef_plain : (v : VarDef) → VarDefSpelt v → OfVarDef Plain PlainMember v
vardef_plain v h = (h.0, text_plain v.text h.1)

vars_plain : (vs : List VarDef) → Each VarDefSpelt vs → Each (OfVarDef Plain PlainMember) vs
vars_plain vs h = each_then VarDefSpelt (OfVarDef Plain PlainMember) vardef_plain vs h

interaction_plain : (i : InteractionDef) → InteractionSpelt i → OfInteraction Plain PlainMember i
interaction_plain i h = (h.0, vars_plain i.params h.1)

by_part_plain : (b : ByPart) → ByPartSpelt b → OfByPart Plain PlainMember b
by_part_plain b h =
    each_then InteractionSpelt (OfInteraction Plain PlainMember) interaction_plain b.interactions h

mutual
  statement_plain : (s : Statement) → StatementSpelt s → OfStatement Plain PlainMember s
  statement_plain (statement.Compound' a turn place) h = row_statements turn h
  statement_plain (statement.If' condition a one second place) h =
      (row_statements one h.0, second_plain second h.1)
  statement_plain (statement.Case' value a arms place) h = arms_plain arms h
  statement_plain (statement.While' condition a turn place) h = row_statements turn h
  statement_plain (statement.Repeat' a turn until place) h = row_statements turn h
  statement_plain (statement.For' name from down to a turn place) h = row_statements turn h
  statement_plain (statement.All' name over a turn place) h = (h.0, row_statements turn h.2)
  statement_plain _ h = tt

  row_statements : {n : _} (row : Row_of-Statement n) → StatementsSpelt row
      → OfStatements Plain PlainMember row
  row_statements end_of-Statement h = tt
  row_statements (more_of-Statement s rest) h = (statement_plain s h.0, row_statements rest h.1)

  second_plain : (s : Held-Statement-If-2) → SecondSpelt s → OfSecond Plain PlainMember s
  second_plain held.None' h = tt
  second_plain (held.Some' a second) h = row_statements second h

  arms_plain : {n : _} (row : Row_of-Arm n) → ArmsSpelt row → OfArms Plain PlainMember row
  arms_plain end_of-Arm h = tt
  arms_plain (more_of-Arm constants s rest) h = (statement_plain s h.0, arms_plain rest h.1)

turn_plain : (ss : List Statement) → Each StatementSpelt ss
    → Each (OfStatement Plain PlainMember) ss
turn_plain ss h = each_then StatementSpelt (OfStatement Plain PlainMember) statement_plain ss h

clause_plain : (c : Clause) → ClauseSpelt c → OfClause Plain PlainMember c
clause_plain (clauses.Any names place) h = vars_plain names h
clause_plain _ h = tt

mutual
  part_plain : (x : Part) → PartSpelt x → OfPart Plain PlainMember x
  part_plain (part.Consts cs) h =
      each_then ConstDefSpelt (OfConstDef Plain PlainMember) (λ c p. p.0) cs h
  part_plain (part.Types ts) h =
      each_then TypeDefSpelt (OfTypeDef Plain PlainMember) typedef_plain ts h
  part_plain (part.Channel c) h = (
    h.0,
    h.1,
    each_then ByPartSpelt (OfByPart Plain PlainMember) by_part_plain c.by h.2,
  )
  part_plain (part.Header x) h = (
    h.0,
    vars_plain x.params h.1,
    each_then PointSpelt (OfPoint Plain PlainMember) (λ p k. k.0) x.points
        h.2,
    vars_plain x.exports h.3,
  )
  part_plain (part.Body (Body' name header a parts f b groups)) h =
      (h.0, parts_plain parts h.1, first_plain f h.2, groups_plain groups h.3)
  part_plain (part.Modvars ms) h =
      each_then ModvarSpelt (OfModvar Plain PlainMember) (λ m k. k.0) ms h
  part_plain (part.Points ps) h =
      each_then PointSpelt (OfPoint Plain PlainMember) (λ p k. k.0) ps h
  part_plain (part.Vars vs) h = vars_plain vs h
  part_plain (part.States us) h = each_then IsSpelt (OfState Plain PlainMember) (λ u p. p) us h
  part_plain (part.StateSets ss) h =
      each_then StateSetSpelt (OfStateSet Plain PlainMember) (λ s p. p) ss h
  part_plain (part.Routine' name formals result a parts statements place) h = (
    h.0,
    each_then FormalSpelt (OfFormal Plain PlainMember) (λ f k. k) formals h.1,
    parts_plain parts h.2,
    turn_plain statements h.3,
  )

  parts_plain : {n : _} (row : Row_of-Part n) → PartsSpelt row → OfParts Plain PlainMember row
  parts_plain end_of-Part h = tt
  parts_plain (more_of-Part x rest) h = (part_plain x h.0, parts_plain rest h.1)

  first_plain : (f : Held-Body-first) → FirstSpelt f → OfFirst Plain PlainMember f
  first_plain first.None' h = tt
  first_plain (first.Some' to a parts statements place) h =
      (parts_plain parts h.0, turn_plain statements h.1)

  groups_plain : {n : _} (row : Row_of-Group n) → GroupsSpelt row → OfGroups Plain PlainMember row
  groups_plain end_of-Group h = tt
  groups_plain (more_of-Group (Group' a transitions) rest) h =
      (transitions_plain transitions h.0, groups_plain rest h.1)

  transitions_plain : {n : _} (row : Row_of-Transition n) → TransitionsSpelt row
      → OfTransitions Plain PlainMember row
  transitions_plain end_of-Transition h = tt
  transitions_plain (more_of-Transition cs name a parts statements place rest) h = (
    each_then ClauseSpelt (OfClause Plain PlainMember) clause_plain cs h.0,
    parts_plain parts h.1,
    turn_plain statements h.2,
    transitions_plain rest h.3,
  )

pub all_plain : (xs : List Part) → Each PartSpelt xs → Each (OfPart Plain PlainMember) xs
all_plain xs h = each_then PartSpelt (OfPart Plain PlainMember) part_plain xs h
