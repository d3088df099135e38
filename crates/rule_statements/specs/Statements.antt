-- The rules that statements break (ISO 7185, 6.8; ISO 9074, statements).
use Rattle.std.specs.Prelude.{flat_map}
use Rattle.std.specs.Prelude.{ℕ, ◌+◌, Bool, true, false, List, [], ◌∷◌}
use Rattle.std.specs.Prelude.{◌++◌, Option, Some, None, if◌then◌else◌}
use Rattle.est_syntax.specs.Faults.{broken}
use Rattle.est_syntax.specs.declared.expression.Expr.{Expr}
use Rattle.est_syntax.specs.declared.name.Used.{Used}
use Rattle.est_syntax.specs.declared.rule.Fault.{Fault}
use Rattle.est_syntax.specs.declared.rule.Rule.TheVariants.{NotInFunction}
use Rattle.est_syntax.specs.declared.statement.Arm.{Arm}
use Rattle.est_syntax.specs.declared.statement.Statement.{Statement, Row_of-Statement}
use Rattle.est_syntax.specs.declared.statement.Statement.{end_of-Statement, more_of-Statement}
use Rattle.est_syntax.specs.declared.statement.Statement.{Row_of-Arm, end_of-Arm, more_of-Arm}
use Rattle.est_syntax.specs.declared.statement.Statement.{Held-Statement-If-2, None', Some'}
use Rattle.est_syntax.specs.declared.statement.Statement.TheVariants as statement
use Rattle.est_syntax.specs.declared.type_text.TypeText.{TypeText}
use Rattle.est_syntax.specs.declared.type_text.TypeText.TheVariants as text
use Rattle.rule_scope.specs.declared.declaration.Entry.{Entry}
use Rattle.rule_scope.specs.declared.declaration.Meant.{Meant}
use Rattle.rule_scope.specs.declared.declaration.Meant.TheVariants.{Seen}
use Rattle.rule_scope.specs.declared.declaration.Section.{Section}
use Rattle.rule_scope.specs.declared.declaration.Section.TheVariants as section
use Rattle.rule_scope.specs.declared.declaration.Sort.TheVariants as sort
use Rattle.rule_scope.specs.Outline.{Outline}
use Rattle.rule_scope.specs.Uses.{meaning, declaration_of, use_faults}
use Rattle.rule_declares.specs.rule_kinds.Dims.{dim_faults}
use Rattle.est_values.specs.declared.types.Host.{Host}
use Rattle.est_values.specs.Types.{Yielded}
use Rattle.rule_expressions.specs.declared.operators.Wanted.{Wanted}
use Rattle.rule_expressions.specs.declared.operators.Wanted.TheVariants as wanted
use Rattle.rule_expressions.specs.declared.receivers.Receiver.TheVariants as receiver
use Rattle.rule_expressions.specs.Operators.{wants, kept, gives}
use Rattle.rule_expressions.specs.Selections.{parameter, type_in}
use Rattle.rule_expressions.specs.Receivers.{number_faults}
use Rattle.rule_expressions.specs.ExpressionPlaces.{expr_place}
use Rattle.rule_expressions.specs.Variables.{selected_type}
use Rattle.rule_expressions.specs.Expressions.{expr_type, expr_faults}
use Rattle.rule_expressions.specs.Accesses.{access_faults}
use Rattle.rule_statements.specs.Targets.{target, target_faults, end_faults}
use Rattle.rule_statements.specs.Targets.{assign_faults, place_faults}
use Rattle.rule_statements.specs.Signals.{sending_faults}
use Rattle.rule_statements.specs.Modules.{init_faults}
use Rattle.rule_statements.specs.LinkFaults.{connect_faults, attach_faults, untied_faults}
use Rattle.rule_statements.specs.Cases.{Chosen, chosen_host, with_constants, choices_faults}

-- an expression whose place wants this
abbrev pub wanted_faults : Outline → Wanted → Expr → List Fault
wanted_faults o w e = expr_faults o e ++ wants w (expr_type o e) (expr_place e)

-- a function calls no procedure, and has no statement of Estelle
abbrev pub function_faults : Option ℕ → ℕ → List Fault
function_faults None place = []
function_faults (Some f) place = broken place NotInFunction

-- whether a parameter of this section is given a variable
abbrev pub is_place : Section → Bool
is_place section.Place = true
is_place _ = false

-- what an argument of a procedure breaks, which is a variable where its parameter is given one
abbrev pub argument_by : Outline → Option ℕ → List ℕ → Option Entry → Expr → List Fault
argument_by o f loops None e = expr_faults o e
argument_by o f loops (Some g) e = if is_place g.section then place_faults o f loops g.kind e
    else expr_faults o e ++ gives (type_in g.kind) (expr_type o e) (expr_place e)

-- what an argument breaks for the parameter with this number, counted from 0
abbrev pub argument_faults : Outline → Option ℕ → List ℕ → ℕ → ℕ → Expr → List Fault
argument_faults o f loops p i e = argument_by o f loops (parameter o p i) e

-- what the arguments of a procedure break, from this number on, after its name
abbrev pub arguments_faults : Outline → Option ℕ → List ℕ → ℕ → ℕ → ℕ → List Expr → List Fault
arguments_faults o f loops p i name [] = number_faults o (receiver.Parameters p) i name
arguments_faults o f loops p i name (e ∷ es) =
    argument_faults o f loops p i e ++ arguments_faults o f loops p (i + 1) name es

-- what arguments break after a name, which is that of a procedure or of none
abbrev pub called_faults : Outline → Option ℕ → List ℕ → Option ℕ → ℕ → List Expr → List Fault
called_faults o f loops None name es = flat_map (expr_faults o) es
called_faults o f loops (Some p) name es = arguments_faults o f loops p 0 name es

-- a procedure with its arguments
abbrev pub call_faults : Outline → Option ℕ → List ℕ → Used → List Expr → List Fault
call_faults o f loops name es = use_faults o sort.Procedure name
    ++ called_faults o f loops (declaration_of o sort.Procedure name) name.place es

-- the type of the control variable of a `for`
abbrev pub control_type : Outline → Option ℕ → List ℕ → Used → Option Yielded
control_type o f loops name = selected_type (target o f loops name)

-- what the first or last value of a `for` breaks, which is of the host of its control variable
abbrev pub bound_faults : Outline → Option Yielded → Expr → List Fault
bound_faults o t e = expr_faults o e ++ gives (kept wanted.Ordinal t) (expr_type o e) (expr_place e)

-- what the head of a `for` breaks: its control variable is ordinal
abbrev pub for_faults : Outline → Option ℕ → List ℕ → Used → Expr → Expr → List Fault
for_faults o f loops name first last =
    (target_faults o f loops name [] ++ end_faults (target o f loops name) name.place
    ++ wants wanted.Ordinal (control_type o f loops name) name.place)
    ++ bound_faults o (control_type o f loops name) first
    ++ bound_faults o (control_type o f loops name) last

-- the loops around the statement of a `for`, whose control variable has this meaning
abbrev pub with_control : Meant → List ℕ → List ℕ
with_control (Seen p) loops = p ∷ loops
with_control _ loops = loops

-- the loops around the statement of a `for`
abbrev pub within_loop : Outline → List ℕ → Used → List ℕ
within_loop o loops name = with_control (meaning o name) loops

-- what the text breaks that an `all` goes over: a header, or an ordinal type
abbrev pub over_by : Outline → TypeText → Option ℕ → List Fault
over_by o t None = dim_faults o t
over_by o t (Some header) = []

-- what the text breaks that an `all` goes over
abbrev pub over_faults : Outline → TypeText → List Fault
over_faults o (text.Named u) = over_by o (text.Named u) (declaration_of o sort.Header u)
over_faults o t = dim_faults o t

-- a statement about links
abbrev pub link_faults : Outline → Option ℕ → Statement → List Fault
link_faults o f (statement.Connect one other place) =
    function_faults f place ++ connect_faults o one other
link_faults o f (statement.Disconnect end place) =
    function_faults f place ++ untied_faults o end.first end.second
link_faults o f (statement.Attach own child point place) =
    function_faults f place ++ attach_faults o own child point
link_faults o f (statement.Detach end place) =
    function_faults f place ++ untied_faults o end.first end.second
link_faults o f _ = []

-- a statement without statements in it
abbrev pub plain_faults : Outline → Option ℕ → List ℕ → Statement → List Fault
plain_faults o f loops (statement.Assign target path value place) =
    assign_faults o f loops target path value
plain_faults o f loops (statement.Call name arguments place) =
    function_faults f place ++ call_faults o f loops name arguments
plain_faults o f loops (statement.Output sendings place) =
    function_faults f place ++ flat_map (sending_faults o) sendings
plain_faults o f loops (statement.Init target body arguments place) =
    function_faults f place ++ init_faults o target body arguments
plain_faults o f loops (statement.Release target place) =
    function_faults f place ++ access_faults o sort.ModuleVariable target
plain_faults o f loops s = link_faults o f s

-- What a statement breaks, of the function at a place or of none, within the loops over these
-- control variables.
abbrev mutual
  pub statement_faults : Outline → Option ℕ → List ℕ → Statement → List Fault
  statement_faults o f loops (statement.Compound' n turn place) = row_statements o f loops turn
  statement_faults o f loops (statement.If' condition p first second place) =
      wanted_faults o wanted.Boolean condition ++ box_statement o f loops first
      ++ held_statement o f loops second
  statement_faults o f loops (statement.Case' value n arms place) =
      wanted_faults o wanted.Ordinal value
      ++ row_arms o f loops (chosen_host (expr_type o value)) [] arms
  statement_faults o f loops (statement.While' condition p turn place) =
      wanted_faults o wanted.Boolean condition ++ box_statement o f loops turn
  statement_faults o f loops (statement.Repeat' n turn condition place) =
      row_statements o f loops turn ++ wanted_faults o wanted.Boolean condition
  statement_faults o f loops (statement.For' name first down last p turn place) =
      for_faults o f loops name first last ++ box_statement o f (within_loop o loops name) turn
  statement_faults o f loops (statement.All' name over p turn place) =
      over_faults o over ++ box_statement o f loops turn
  statement_faults o f loops s = plain_faults o f loops s

  -- of the statement in a box
  pub box_statement : Outline → Option ℕ → List ℕ → {n : _} → Row_of-Statement n → List Fault
  box_statement o f loops end_of-Statement = []
  box_statement o f loops (more_of-Statement s rest) = statement_faults o f loops s

  -- of what else an `if` does
  pub held_statement : Outline → Option ℕ → List ℕ → Held-Statement-If-2 → List Fault
  held_statement o f loops None' = []
  held_statement o f loops (Some' p s) = box_statement o f loops s

  -- of statements in order
  pub row_statements : Outline → Option ℕ → List ℕ → {n : _} → Row_of-Statement n → List Fault
  row_statements o f loops end_of-Statement = []
  row_statements o f loops (more_of-Statement s rest) =
      statement_faults o f loops s ++ row_statements o f loops rest

  -- of the choices of a `case`, after those before them
  pub row_arms :
      Outline → Option ℕ → List ℕ → Option Host → Chosen → {n : _} → Row_of-Arm n → List Fault
  row_arms o f loops h seen end_of-Arm = []
  row_arms o f loops h seen (more_of-Arm constants turn rest) =
      (choices_faults o h seen constants ++ statement_faults o f loops turn)
      ++ row_arms o f loops h (with_constants o h seen constants) rest

-- The same over lists.
abbrev pub option_faults : Outline → Option ℕ → List ℕ → Option Statement → List Fault
option_faults o f loops None = []
option_faults o f loops (Some s) = statement_faults o f loops s

-- what a choice of a `case` breaks, after those before it
abbrev pub arm_faults : Outline → Option ℕ → List ℕ → Option Host → Chosen → Arm → List Fault
arm_faults o f loops h seen a =
    choices_faults o h seen a.constants ++ statement_faults o f loops a.turn

-- what choices of a `case` break, after those before them
abbrev pub arms_faults :
    Outline → Option ℕ → List ℕ → Option Host → Chosen → List Arm → List Fault
arms_faults o f loops h seen [] = []
arms_faults o f loops h seen (a ∷ rest) =
    arm_faults o f loops h seen a
    ++ arms_faults o f loops h (with_constants o h seen a.constants) rest
