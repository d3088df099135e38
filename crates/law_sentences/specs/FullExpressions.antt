-- What is known of an expression that breaks no rule (ISO 7185, 6.5 and 6.7; ISO 9074, exported
-- variables).
use Rattle.std.specs.Prelude.{◌≡◌, ◌↔◌, ℕ, ◌<◌, true, List, [], Some}
use Rattle.est_syntax.specs.declared.expression.Expr.{Expr}
use Rattle.est_syntax.specs.declared.expression.Selector.{Selector}
use Rattle.est_syntax.specs.declared.name.Used.{Used}
use Rattle.rule_scope.specs.Outline.{Outline, entry_at}
use Rattle.rule_scope.specs.declared.declaration.Entry.{Entry}
use Rattle.rule_scope.specs.declared.declaration.Sort.{Sort}
use Rattle.rule_scope.specs.declared.declaration.Sort.TheVariants as sort
use Rattle.rule_expressions.specs.Expressions.{expr_type, expr_faults, selected, selected_faults}
use Rattle.rule_declares.specs.LookUps.{dims_in}
use Rattle.rule_expressions.specs.Selections.{Selection, Broken, Value, Component, Modules, Module}
use Rattle.rule_expressions.specs.Selections.{SomeModule, is_parameter, parameter, head}
use Rattle.rule_expressions.specs.Selections.{head_faults}
use Rattle.rule_declares.specs.LookUps.{header_in}
use Rattle.law_sentences.specs.Full.{IsThere, AreFull}

-- before a parameter stand only parameters in its region
abbrev pub ParametersStandFirst : Outline → Type 0
ParametersStandFirst o =
    (region i n : ℕ) → i < n → IsThere (parameter o region n) → IsThere (parameter o region i)

-- what a parameter is: a variable, or a constant of the enumeration that is its type
abbrev pub HasKindSort : Sort → Type 0
HasKindSort sort.Variable = Unit {0}
HasKindSort sort.Constant = Unit {0}
HasKindSort _ = ⊥

-- each parameter is of such a sort
abbrev pub ParametersHaveKinds : Outline → Type 0
ParametersHaveKinds o =
    (place : ℕ) (e : Entry) → entry_at o place ≡ Some e → is_parameter e.section ≡ true
    → HasKindSort e.declared.sort

-- an outline in which each declaration is full, and the parameters of each stand first and have
-- kinds
pub record IsWhole (o : Outline) : Type 0 where
  pub full : AreFull o
  pub first : ParametersStandFirst o
  pub kinds : ParametersHaveKinds o

-- what a name with its selectors stands for is known: of module variables their subscripts and
-- their header
abbrev pub IsKnown : Outline → Selection → Type 0
IsKnown o Broken = ⊥
IsKnown o SomeModule = ⊥
IsKnown o (Value t) = Unit {0}
IsKnown o (Component k) = Unit {0}
IsKnown o (Modules p) = IsThere (dims_in (entry_at o p)) × IsThere (header_in (entry_at o p))
IsKnown o (Module p) = IsThere (header_in (entry_at o p))

-- a name with selectors that break no rule stands for something
abbrev pub VariablesAreFull : Type 0
VariablesAreFull =
    (o : Outline) (u : Used) (path : List Selector) → IsWhole o → head_faults o u ≡ []
    → selected_faults o (head o u) u.place path ≡ [] → IsKnown o (selected o (head o u) path)

-- an expression that breaks no rule yields something
abbrev pub ExpressionsAreFull : Type 0
ExpressionsAreFull =
    (o : Outline) (e : Expr) → IsWhole o → expr_faults o e ≡ [] → IsThere (expr_type o e)

-- an expression breaks no rule where it yields something, and nowhere else
abbrev pub ExpressionsYieldOrBreak : Type 0
ExpressionsYieldOrBreak =
    (o : Outline) (e : Expr) → IsWhole o → expr_faults o e ≡ [] ↔ IsThere (expr_type o e)
