-- What is known of what statements look up that break no rule (ISO 7185, 6.8; ISO 9074,
-- statements).
use Rattle.std.specs.Prelude.{◌≡◌, ℕ, true, List, [], Option, Some, None}
use Rattle.est_syntax.specs.declared.expression.Access.{Access}
use Rattle.est_syntax.specs.declared.expression.EndPoint.{EndPoint}
use Rattle.est_syntax.specs.declared.expression.Expr.{Expr}
use Rattle.est_syntax.specs.declared.expression.Selector.{Selector}
use Rattle.est_syntax.specs.declared.name.Used.{Used}
use Rattle.est_syntax.specs.declared.ports.Direction.{Direction}
use Rattle.est_syntax.specs.declared.statement.Sending.{Sending}
use Rattle.rule_scope.specs.Outline.{Outline}
use Rattle.rule_scope.specs.Uses.{declaration_of}
use Rattle.rule_scope.specs.declared.declaration.Sort.{Sort}
use Rattle.rule_scope.specs.declared.declaration.Sort.TheVariants as sort
use Rattle.rule_expressions.specs.Accesses.{subscripts_at, access_faults}
use Rattle.rule_expressions.specs.Expressions.{expr_type, are_taken}
use Rattle.rule_expressions.specs.Operators.{kept, is_given}
use Rattle.rule_expressions.specs.Variables.{selected_type}
use Rattle.rule_expressions.specs.declared.operators.Wanted.TheVariants as wanted
use Rattle.rule_expressions.specs.declared.receivers.Receiver.{Receiver}
use Rattle.rule_statements.specs.LinkFaults.{end_of, child_point, connected_side, connect_faults}
use Rattle.rule_statements.specs.LinkFaults.{attach_faults, untied_faults}
use Rattle.rule_statements.specs.Modules.{parameters_of, init_faults}
use Rattle.rule_declares.specs.LookUps.{header_at}
use Rattle.rule_statements.specs.Signals.{signal_of, signal_faults}
use Rattle.rule_declares.specs.LookUps.{point_side, side_at}
use Rattle.rule_statements.specs.Signals.{sending_faults}
use Rattle.rule_statements.specs.Statements.{control_type, for_faults}
use Rattle.rule_statements.specs.Targets.{path_target, assign_faults}
use Rattle.law_sentences.specs.Full.{IsThere}
use Rattle.law_sentences.specs.FullExpressions.{IsWhole}

-- something takes arguments or subscripts, and takes these
abbrev pub AreTakenBy : Outline → Option Receiver → List Expr → Type 0
AreTakenBy o r es = IsThere r × (are_taken o r 0 es ≡ true)

-- a target with its selectors may be given the value of an expression
abbrev pub IsAssigned : Outline → Option ℕ → List ℕ → Used → List Selector → Expr → Type 0
IsAssigned o f loops u path e =
    is_given (selected_type (path_target o f loops u path)) (expr_type o e) ≡ true

-- an assignment that breaks no rule gives its target a value
abbrev pub AssignmentsAreFull : Type 0
AssignmentsAreFull =
    (o : Outline) (f : Option ℕ) (loops : List ℕ) (u : Used) (path : List Selector) (e : Expr)
    → IsWhole o → assign_faults o f loops u path e ≡ [] → IsAssigned o f loops u path e

-- the control variable of a `for` is ordinal, and may be given these two values
abbrev pub HasBounds : Outline → Option ℕ → List ℕ → Used → Expr → Expr → Type 0
HasBounds o f loops u first last =
    (is_given (kept wanted.Ordinal (control_type o f loops u)) (expr_type o first) ≡ true)
    × (is_given (kept wanted.Ordinal (control_type o f loops u)) (expr_type o last) ≡ true)

-- the head of a `for` that breaks no rule has them
abbrev pub LoopsAreFull : Type 0
LoopsAreFull =
    (o : Outline) (f : Option ℕ) (loops : List ℕ) (u : Used) (first last : Expr) → IsWhole o
    → for_faults o f loops u first last ≡ [] → HasBounds o f loops u first last

-- what has subscripts: interaction points and module variables
abbrev pub HasSubscripts : Sort → Type 0
HasSubscripts sort.Point = Unit {0}
HasSubscripts sort.ModuleVariable = Unit {0}
HasSubscripts _ = ⊥

-- a name with subscripts is declared, and takes them
abbrev pub IsAccessed : Outline → Sort → Access → Type 0
IsAccessed o s a = AreTakenBy o (subscripts_at (declaration_of o s a.name)) a.index

-- a name with subscripts that breaks no rule is such a one
abbrev pub AccessesAreFull : Type 0
AccessesAreFull =
    (o : Outline) (s : Sort) (a : Access) → IsWhole o → HasSubscripts s → access_faults o s a ≡ []
    → IsAccessed o s a

-- an interaction point takes its subscripts, it has a channel and a role, and an interaction is one
-- of that channel
abbrev pub IsPassed : Outline → Access → Used → Type 0
IsPassed o at u =
    IsAccessed o sort.Point at × IsThere (point_side o at.name)
    × IsThere (signal_of o (point_side o at.name) u)

-- an interaction that breaks no rule is such a one
abbrev pub SignalsAreFull : Type 0
SignalsAreFull =
    (o : Outline) (d : Direction) (at : Access) (u : Used) → IsWhole o
    → signal_faults o d at u ≡ [] → IsPassed o at u

-- such an interaction takes its arguments
abbrev pub IsSent : Outline → Sending → Type 0
IsSent o s =
    IsPassed o s.at s.signal
    × AreTakenBy o (signal_of o (point_side o s.at.name) s.signal) s.arguments

-- an interaction that is sent and breaks no rule takes them
abbrev pub SendingsAreFull : Type 0
SendingsAreFull = (o : Outline) (s : Sending) → IsWhole o → sending_faults o s ≡ [] → IsSent o s

-- a module variable takes its subscripts and has a header, and so has a body, which takes its
-- arguments
abbrev pub IsStarted : Outline → Access → Used → List Expr → Type 0
IsStarted o target body arguments =
    IsAccessed o sort.ModuleVariable target
    × IsThere (header_at o (declaration_of o sort.ModuleVariable target.name))
    × AreTakenBy o (parameters_of (header_at o (declaration_of o sort.Body body))) arguments

-- an `init` that breaks no rule has them
abbrev pub InitsAreFull : Type 0
InitsAreFull =
    (o : Outline) (target : Access) (body : Used) (arguments : List Expr) → IsWhole o
    → init_faults o target body arguments ≡ [] → IsStarted o target body arguments

-- an end of a link is declared, and takes its subscripts: an own interaction point or a module
-- variable, or a module variable and an interaction point of its module
abbrev pub IsEnd : Outline → Access → Option Access → Type 0
IsEnd o first None = AreTakenBy o (subscripts_at (end_of o first.name)) first.index
IsEnd o first (Some point) =
    IsAccessed o sort.ModuleVariable first
    × AreTakenBy o (subscripts_at (child_point o first point)) point.index

-- the end of a `disconnect` or a `detach` that breaks no rule is such a one
abbrev pub UntiedAreFull : Type 0
UntiedAreFull =
    (o : Outline) (first : Access) (second : Option Access) → IsWhole o
    → untied_faults o first second ≡ [] → IsEnd o first second

-- an end of a `connect` has a channel and a role too
abbrev pub IsConnected : Outline → EndPoint → Type 0
IsConnected o end =
    IsEnd o end.first end.second × IsThere (connected_side o end.first end.second)

-- the ends of a `connect` that breaks no rule are such
abbrev pub ConnectsAreFull : Type 0
ConnectsAreFull =
    (o : Outline) (one other : EndPoint) → IsWhole o → connect_faults o one other ≡ []
    → IsConnected o one × IsConnected o other

-- an own point takes its subscripts and has a channel and a role, and so has a point of a child
abbrev pub AreAttached : Outline → Access → Access → Access → Type 0
AreAttached o own child point =
    IsAccessed o sort.Point own × IsThere (point_side o own.name)
    × IsEnd o child (Some point) × IsThere (side_at o (child_point o child point))

-- those of an `attach` that breaks no rule are such
abbrev pub AttachesAreFull : Type 0
AttachesAreFull =
    (o : Outline) (own child point : Access) → IsWhole o → attach_faults o own child point ≡ []
    → AreAttached o own child point
