-- The rules that the clauses of transitions break (ISO 9074, transition-group and clauses).
use Rattle.std.specs.Prelude.{flat_map}
use Rattle.std.specs.Prelude.{ℕ, pos, int_lt, Bool, true, false, ◌&&◌, ◌||◌, not, nat_lt}
use Rattle.std.specs.Prelude.{List, [], ◌∷◌, ◌++◌, Option, Some, None, is_some, if◌then◌else◌}
use Rattle.est_syntax.specs.Faults.{broken, broken_if}
use Rattle.est_syntax.specs.Kinds.{is_ordinal}
use Rattle.est_syntax.specs.declared.name.Used.{Used}
use Rattle.est_syntax.specs.declared.ports.Direction.TheVariants.{Receives}
use Rattle.est_syntax.specs.declared.rule.Fault.{Fault}
use Rattle.est_syntax.specs.declared.rule.Rule.TheVariants.{WrongSort}
use Rattle.est_syntax.specs.declared.rule.Rule.TheVariants.{TooLarge, WrongKind, DelayNotAlone}
use Rattle.est_syntax.specs.declared.transition.Clause.{Clause}
use Rattle.est_syntax.specs.declared.transition.Clause.TheVariants as clause
use Rattle.est_syntax.specs.declared.transition.Most.{Most}
use Rattle.est_syntax.specs.declared.transition.Most.TheVariants as most
use Rattle.est_syntax.specs.declared.type_text.VarDef.{VarDef}
use Rattle.rule_scope.specs.declared.declaration.Entry.{Entry}
use Rattle.rule_scope.specs.declared.declaration.Measured.{Measured}
use Rattle.rule_scope.specs.declared.declaration.Meant.{Meant}
use Rattle.rule_scope.specs.declared.declaration.Sort.{Sort}
use Rattle.rule_scope.specs.declared.declaration.Sort.TheVariants as sort
use Rattle.rule_scope.specs.declared.predeclared.PredeclaredName.{PredeclaredName}
use Rattle.rule_scope.specs.Outline.{Outline, entry_at}
use Rattle.rule_scope.specs.Uses.{meaning, meaning_faults, use_faults}
use Rattle.rule_declares.specs.rule_kinds.declared.value.Valued.{Valued}
use Rattle.rule_declares.specs.rule_kinds.Constants.{is_integer, constant_value, constant_faults}
use Rattle.rule_declares.specs.rule_kinds.Constants.{constant_place}
use Rattle.rule_declares.specs.rule_kinds.TypeTexts.{text_type, count, multiplied}
use Rattle.rule_declares.specs.rule_kinds.Dims.{dim_faults}
use Rattle.rule_declares.specs.declared.context.ClauseKind.{ClauseKind}
use Rattle.rule_declares.specs.declared.context.ClauseKind.TheVariants as given
use Rattle.rule_declares.specs.declared.context.Given.{Given}
use Rattle.rule_declares.specs.Contexts as context
use Rattle.est_syntax.specs.Clauses.{clause_place}
use Rattle.rule_declares.specs.Contexts.{kind_of}
use Rattle.rule_expressions.specs.declared.operators.Wanted.TheVariants as wanted
use Rattle.rule_statements.specs.Signals.{signal_faults}
use Rattle.rule_statements.specs.Statements.{wanted_faults}

-- whether a state or a state set is declared
abbrev pub is_state_sort : Option Entry → Bool
is_state_sort None = false
is_state_sort (Some e) = held e.declared.sort
  where
    held : Sort → Bool
    held sort.State = true
    held sort.StateSet = true
    held _ = false

-- what a name of this meaning breaks where a state or a state set is wanted
abbrev pub state_used : Outline → ℕ → Meant → List Fault
state_used o place m = meaning_faults m place (λ (n : PredeclaredName). broken place WrongSort)
    (λ (p : ℕ). if is_state_sort (entry_at o p) then [] else broken place WrongSort)

-- what a name breaks where a state or a state set is wanted
abbrev pub state_faults : Outline → Used → List Fault
state_faults o u = state_used o u.place (meaning o u)

-- the next state, or the first one
abbrev pub next_faults : Outline → Option Used → List Fault
next_faults o None = []
next_faults o (Some u) = use_faults o sort.State u

-- the greatest number of choices of an `any`
abbrev pub most_tuples : ℕ
most_tuples = 1024

-- how many choices a variable of this kind has, if the kind is ordinal
abbrev pub choices_by : Option Measured → Option ℕ
choices_by None = None
choices_by (Some m) = if is_ordinal m.kind then Some (count m.kind) else None

-- the choices so far, with those of a name more, where it is declared there
abbrev pub name_choices : Outline → ℕ → ℕ → Used → ℕ
name_choices o choices n u = if is_some (entry_at o u.place) then multiplied n choices else n

-- the choices so far, with those of more names of one type
abbrev pub names_choices : Outline → ℕ → ℕ → List Used → ℕ
names_choices o choices n [] = n
names_choices o choices n (u ∷ us) = names_choices o choices (name_choices o choices n u) us

-- the choices so far, with those of names whose type has so many, if both are known
abbrev pub choices_with : Outline → Option ℕ → List Used → Option ℕ → Option ℕ
choices_with o (Some n) us (Some choices) = Some (names_choices o choices n us)
choices_with o _ us _ = None

-- How many choices the variables of an `any` have, each name once, after so many choices. Nothing is
-- said of them where one of the types is not ordinal.
abbrev pub tuples : Outline → Option ℕ → List VarDef → Option ℕ
tuples o n [] = n
tuples o n (v ∷ vs) = tuples o (choices_with o n v.names (choices_by (text_type o v.text))) vs

-- what an `any` at a place breaks that has so many choices
abbrev pub tuples_faults : Option ℕ → ℕ → List Fault
tuples_faults None place = []
tuples_faults (Some n) place = broken_if (nat_lt most_tuples n) place TooLarge

-- what variables of an `any` break that have one type
abbrev pub domain_faults : Outline → VarDef → List Fault
domain_faults o v = dim_faults o v.text

-- what an `any` breaks
abbrev pub any_faults : Outline → List VarDef → ℕ → List Fault
any_faults o vs place = flat_map (domain_faults o) vs ++ tuples_faults (tuples o (Some 1) vs) place

-- a priority is an integer that is not negative
abbrev pub is_priority : Valued → Bool
is_priority v = is_integer v.host && not (int_lt v.ordinal (pos 0))

-- what a value breaks that is no priority
abbrev pub priority_faults : Option Valued → ℕ → List Fault
priority_faults None place = []
priority_faults (Some v) place = if is_priority v then [] else broken place WrongKind

-- the bounds of a delay are integers
abbrev pub most_faults : Outline → Most → List Fault
most_faults o (most.Value e) = wanted_faults o wanted.Integer e
most_faults o _ = []

-- what a clause breaks
abbrev pub clause_faults : Outline → Clause → List Fault
clause_faults o (clause.From states place) = flat_map (state_faults o) states
clause_faults o (clause.To state place) = next_faults o state
clause_faults o (clause.When at signal place) = signal_faults o Receives at signal
clause_faults o (clause.Provided condition place) = wanted_faults o wanted.Boolean condition
clause_faults o (clause.Otherwise place) = []
clause_faults o (clause.Any names place) = any_faults o names place
clause_faults o (clause.Priority value place) =
    constant_faults o value ++ priority_faults (constant_value o value) (constant_place value)
clause_faults o (clause.Delay least most place) =
    wanted_faults o wanted.Integer least ++ most_faults o most
