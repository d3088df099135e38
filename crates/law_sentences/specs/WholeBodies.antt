-- Specifications whose bodies lack nothing of what they look up (ISO 9074, bodies and transitions).
use Rattle.std.specs.Prelude.{flat_map}
use Rattle.std.specs.Prelude.{◌≡◌, ℕ, suc, ◌≤◌, true, List, [], ◌∷◌, length, Option, Some, None}
use Rattle.est_lexer.specs.declared.kind.Token.{Token}
use Rattle.est_syntax.specs.Kinds.{maxint}
use Rattle.est_syntax.specs.declared.body.Body.{Body', Row_of-Group, end_of-Group, more_of-Group}
use Rattle.est_syntax.specs.declared.body.Body.{Held-Body-first}
use Rattle.est_syntax.specs.declared.body.Part.{Part, Row_of-Part, end_of-Part, more_of-Part}
use Rattle.est_syntax.specs.declared.body.Part.TheBlock as first
use Rattle.est_syntax.specs.declared.body.Part.TheVariants as part
use Rattle.est_syntax.specs.declared.constant.Constant.{Constant}
use Rattle.est_syntax.specs.declared.name.Used.{Used}
use Rattle.est_syntax.specs.declared.specification.Spec.{Spec}
use Rattle.est_syntax.specs.declared.statement.Statement.{Statement}
use Rattle.est_syntax.specs.declared.transition.Clause.{Clause}
use Rattle.est_syntax.specs.declared.transition.Clause.TheVariants as clause
use Rattle.est_syntax.specs.declared.transition.Group.{Group', Row_of-Transition, end_of-Transition}
use Rattle.est_syntax.specs.declared.transition.Group.{more_of-Transition}
use Rattle.est_syntax.specs.declared.transition.Most.{Most}
use Rattle.est_syntax.specs.declared.transition.Most.TheVariants as most
use Rattle.est_syntax.specs.declared.type_text.VarDef.{VarDef}
use Rattle.est_grammar.specs.Answer.{HasOneTree}
use Rattle.rule_scope.specs.Outline.{Outline, entry_at}
use Rattle.rule_scope.specs.Uses.{meaning, declaration_of}
use Rattle.rule_scope.specs.declared.declaration.Meant.{Meant}
use Rattle.rule_scope.specs.declared.declaration.Meant.TheVariants.{Seen}
use Rattle.rule_scope.specs.declared.declaration.Sort.TheVariants as sort
use Rattle.rule_kinds.specs.Constants.{constant_value}
use Rattle.rule_kinds.specs.declared.value.Valued.{Valued}
use Rattle.rule_declares.specs.Bodies.{outline_of}
use Rattle.law_places.specs.Said.{Each}
use Rattle.rule_expressions.specs.declared.operators.Wanted.TheVariants as wanted
use Rattle.est_check.specs.BlockFaults.{function_of, part_faults}
use Rattle.est_check.specs.LeastFault.{specification_faults}
use Rattle.est_check.specs.Clauses.{is_state_sort, is_priority}
use Rattle.law_sentences.specs.Full.{IsThere, AreFull}
use Rattle.law_sentences.specs.FullExpressions.{IsWhole}
use Rattle.law_sentences.specs.FullStatements.{IsPassed}
use Rattle.law_sentences.specs.WholeStatements.{Yields, HasOrdinalKind, LacksNothing}
use Rattle.law_sentences.specs.WrittenParts.{StatementWritten, PartWritten}

-- a name of this meaning is that of a state or a state set
abbrev pub IsState : Outline → Meant → Type 0
IsState o (Seen p) = is_state_sort (entry_at o p) ≡ true
IsState o _ = ⊥

-- and so is each of these names
abbrev pub AreStates : Outline → List Used → Type 0
AreStates o [] = Unit {0}
AreStates o (u ∷ us) = IsState o (meaning o u) × AreStates o us

-- the next state or the first one is declared, if one is named
abbrev pub IsNext : Outline → Option Used → Type 0
IsNext o None = Unit {0}
IsNext o (Some u) = IsThere (declaration_of o sort.State u)

-- the later bound of a delay is an integer, if it is an expression
abbrev pub MostLacksNothing : Outline → Most → Type 0
MostLacksNothing o (most.Value e) = Yields o wanted.Integer e
MostLacksNothing o _ = Unit {0}

-- each name of an `any` has an ordinal type
abbrev pub AreDomains : Outline → List VarDef → Type 0
AreDomains o [] = Unit {0}
AreDomains o (v ∷ vs) = HasOrdinalKind o v.text × AreDomains o vs

-- a constant is a priority
abbrev pub IsPriority : Outline → Constant → Type 0
IsPriority o c =
    (v : Valued) × (constant_value o c ≡ Some v) × (is_priority v ≡ true)

-- a clause lacks nothing
abbrev pub ClauseLacksNothing : Outline → Clause → Type 0
ClauseLacksNothing o (clause.From states place) = AreStates o states
ClauseLacksNothing o (clause.To state place) = IsNext o state
ClauseLacksNothing o (clause.When at signal place) = IsPassed o at signal
ClauseLacksNothing o (clause.Provided condition place) = Yields o wanted.Boolean condition
ClauseLacksNothing o (clause.Delay least most place) =
    Yields o wanted.Integer least × MostLacksNothing o most
ClauseLacksNothing o (clause.Any names place) = AreDomains o names
ClauseLacksNothing o (clause.Priority value place) = IsPriority o value
ClauseLacksNothing o (clause.Otherwise place) = Unit {0}

-- clauses lack nothing
abbrev pub ClausesLackNothing : Outline → List Clause → Type 0
ClausesLackNothing o [] = Unit {0}
ClausesLackNothing o (c ∷ cs) = ClauseLacksNothing o c × ClausesLackNothing o cs

-- the statements of a function or of none lack nothing
abbrev pub TextLacksNothing : Outline → Option ℕ → List Statement → Type 0
TextLacksNothing o f [] = Unit {0}
TextLacksNothing o f (s ∷ ss) = LacksNothing o f [] s × TextLacksNothing o f ss

-- A part lacks nothing: of a body its header is declared, and its parts, its first block and its
-- transitions lack nothing; and of a routine its statements.
abbrev mutual
  pub PartLacksNothing : Outline → Part → Type 0
  PartLacksNothing o (part.Body (Body' name header a parts f b groups)) =
      IsThere (declaration_of o sort.Header header) × RowOfPartsLacksNothing o parts
      × FirstLacksNothing o f × GroupsLackNothing o groups
  PartLacksNothing o (part.Routine' name formals result a parts statements place) =
      TextLacksNothing o (function_of name result) statements
  PartLacksNothing o _ = Unit {0}

  pub RowOfPartsLacksNothing : Outline → {n : _} → Row_of-Part n → Type 0
  RowOfPartsLacksNothing o end_of-Part = Unit {0}
  RowOfPartsLacksNothing o (more_of-Part p rest) =
      PartLacksNothing o p × RowOfPartsLacksNothing o rest

  pub FirstLacksNothing : Outline → Held-Body-first → Type 0
  FirstLacksNothing o first.None' = Unit {0}
  FirstLacksNothing o (first.Some' to a parts statements place) =
      IsNext o to × TextLacksNothing o None statements

  pub GroupsLackNothing : Outline → {n : _} → Row_of-Group n → Type 0
  GroupsLackNothing o end_of-Group = Unit {0}
  GroupsLackNothing o (more_of-Group (Group' a transitions) rest) =
      TransitionsLackNothing o transitions × GroupsLackNothing o rest

  pub TransitionsLackNothing : Outline → {n : _} → Row_of-Transition n → Type 0
  TransitionsLackNothing o end_of-Transition = Unit {0}
  TransitionsLackNothing o (more_of-Transition cs name a parts statements place rest) =
      (ClausesLackNothing o cs × TextLacksNothing o None statements)
      × TransitionsLackNothing o rest

-- parts lack nothing, in order
abbrev pub PartsLackNothing : Outline → List Part → Type 0
PartsLackNothing o [] = Unit {0}
PartsLackNothing o (p ∷ ps) = PartLacksNothing o p × PartsLackNothing o ps

-- parts that break no rule, written as sentences have them, lack nothing
abbrev pub BodiesLackNothing : Type 0
BodiesLackNothing =
    (o : Outline) (ps : List Part) → IsWhole o → Each PartWritten ps → flat_map (part_faults o) ps ≡ []
    → PartsLackNothing o ps

-- a specification lacks nothing
abbrev pub SpecificationLacksNothing : Spec → Type 0
SpecificationLacksNothing s =
    PartsLackNothing (outline_of s) s.parts × LacksNothing (outline_of s) None [] s.first

-- a specification that breaks no rule, written as sentences have it, lacks nothing, where its
-- outline is whole
abbrev pub SpecificationsLackNothing : Type 0
SpecificationsLackNothing =
    (s : Spec) → IsWhole (outline_of s) → Each PartWritten s.parts → StatementWritten s.first
    → specification_faults s ≡ [] → SpecificationLacksNothing s

-- a sentence that breaks no rule lacks nothing, where each of its declarations is full
abbrev pub SentencesLackNothing : Type 0
SentencesLackNothing =
    (text : List ℕ) (tokens : List Token) (s : Spec) → length tokens ≤ suc maxint
    → HasOneTree text tokens s → AreFull (outline_of s) → specification_faults s ≡ []
    → SpecificationLacksNothing s
