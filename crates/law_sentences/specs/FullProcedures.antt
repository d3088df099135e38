-- What is known of a call of a procedure that breaks no rule (ISO 7185, 6.8.2.3).
use Rattle.std.specs.Prelude.{◌≡◌, ℕ, ◌+◌, Bool, true, false, List, [], ◌∷◌, Option, Some, None}
use Rattle.est_syntax.specs.declared.expression.Expr.{Expr}
use Rattle.est_syntax.specs.declared.kind.Kind.{Kind}
use Rattle.est_syntax.specs.declared.name.Used.{Used}
use Rattle.rule_scope.specs.Outline.{Outline}
use Rattle.rule_scope.specs.Uses.{declaration_of}
use Rattle.rule_scope.specs.declared.declaration.Entry.{Entry}
use Rattle.rule_scope.specs.declared.declaration.Measured.{Measured}
use Rattle.rule_scope.specs.declared.declaration.Sort.TheVariants as sort
use Rattle.est_values.specs.Alike.{is_alike}
use Rattle.rule_expressions.specs.Expressions.{expr_type}
use Rattle.rule_expressions.specs.Operators.{is_given}
use Rattle.rule_expressions.specs.Selections.{Component, type_in, parameter}
use Rattle.rule_statements.specs.Statements.{is_place, call_faults}
use Rattle.rule_statements.specs.Targets.{path_target}
use Rattle.rule_declares.specs.BareVariables.{Variable, bare}
use Rattle.law_sentences.specs.FullExpressions.{IsWhole}

-- a variable of a kind that is alike to that of a parameter
abbrev pub IsVariableFor : Outline → List ℕ → Option Measured → Option Variable → Type 0
IsVariableFor o loops (Some m) (Some v) =
    (k : Kind) × (path_target o None loops v.0 v.1 ≡ Component k) × (is_alike m.kind k ≡ true)
IsVariableFor o loops m v = ⊥

-- an argument for a parameter, which is given a variable or else a value
abbrev pub IsGivenBy : Outline → List ℕ → Bool → Entry → Expr → Type 0
IsGivenBy o loops true g e = IsVariableFor o loops g.kind (bare e)
IsGivenBy o loops false g e = is_given (type_in g.kind) (expr_type o e) ≡ true

-- an argument for the parameter with this number of the procedure at a place
abbrev pub IsGivenTo : Outline → List ℕ → ℕ → ℕ → Expr → Type 0
IsGivenTo o loops p i e =
    (g : Entry) × (parameter o p i ≡ Some g) × IsGivenBy o loops (is_place g.section) g e

-- arguments for its parameters from this number on
abbrev pub AreGivenTo : Outline → List ℕ → ℕ → ℕ → List Expr → Type 0
AreGivenTo o loops p i [] = Unit {0}
AreGivenTo o loops p i (e ∷ es) = IsGivenTo o loops p i e × AreGivenTo o loops p (i + 1) es

-- a name means a procedure, to whose parameters these arguments are given
abbrev pub IsCalled : Outline → List ℕ → Used → List Expr → Type 0
IsCalled o loops name es =
    (p : ℕ) × (declaration_of o sort.Procedure name ≡ Some p) × AreGivenTo o loops p 0 es

-- a call of a procedure that stands in no function and breaks no rule is such a one
abbrev pub ProcedureCallsAreFull : Type 0
ProcedureCallsAreFull =
    (o : Outline) (loops : List ℕ) (name : Used) (es : List Expr) → IsWhole o
    → call_faults o None loops name es ≡ [] → IsCalled o loops name es
