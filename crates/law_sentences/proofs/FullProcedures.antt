-- Each argument of a procedure is given to a parameter where the call breaks nothing.
use Rattle.std.specs.Prelude.{if◌then◌else◌}
use Rattle.std.proofs.Common.{◌≡◌, refl, sym, subst, ◌∙◌, true≢false, ℕ, ◌+◌, ◌≤◌, Bool, true}
use Rattle.std.proofs.Common.{false, List, [], ◌∷◌, ◌++◌, Option, Some, None, arith}
use Rattle.est_syntax.specs.Faults.{broken}
use Rattle.est_syntax.specs.declared.expression.Expr.{Expr}
use Rattle.est_syntax.specs.declared.expression.Selector.{Selector}
use Rattle.est_syntax.specs.declared.name.Used.{Used}
use Rattle.est_syntax.specs.declared.rule.Rule.TheVariants as rule
use Rattle.rule_scope.specs.Outline.{Outline, entry_at}
use Rattle.rule_scope.specs.Uses.{meaning, use_faults, declaration_of}
use Rattle.rule_scope.specs.declared.declaration.Entry.{Entry}
use Rattle.rule_scope.specs.declared.declaration.Meant.{Meant}
use Rattle.rule_scope.specs.declared.declaration.Meant.TheVariants as meant
use Rattle.rule_scope.specs.declared.declaration.Measured.{Measured}
use Rattle.rule_scope.specs.declared.declaration.Sort.{Sort}
use Rattle.rule_scope.specs.declared.declaration.Sort.TheVariants as sort
use Rattle.rule_kinds.specs.Constants.{predeclared_constant}
use Rattle.est_values.specs.Alike.{is_alike}
use Rattle.est_values.specs.Types.{type_of}
use Rattle.rule_expressions.specs.ExpressionPlaces.{expr_place}
use Rattle.rule_expressions.specs.Expressions.{expr_type, expr_faults, selected_faults}
use Rattle.rule_expressions.specs.Operators.{gives}
use Rattle.rule_expressions.specs.Selections.{Selection, Broken, Value, Component, Modules, Module}
use Rattle.rule_expressions.specs.Selections.{SomeModule, type_in, parameter, takes_so_many}
use Rattle.rule_statements.specs.Statements.{is_place, argument_by, argument_faults}
use Rattle.rule_statements.specs.Statements.{arguments_faults, called_faults, call_faults}
use Rattle.rule_statements.specs.Targets.{is_writable, target_by, target_in}
use Rattle.rule_declares.specs.BareVariables.{Variable, bare}
use Rattle.rule_statements.specs.Targets.{target_meant, target, target_in_faults}
use Rattle.rule_statements.specs.Targets.{sort_target_faults}
use Rattle.rule_statements.specs.Targets.{target_meant_faults, target_faults, end_faults}
use Rattle.rule_statements.specs.Targets.{path_target, path_target_faults, unlike_faults}
use Rattle.rule_statements.specs.Targets.{place_faults_by, place_faults}
use Rattle.law_sentences.specs.Full.{IsThere, HasAll, AreFull}
use Rattle.law_sentences.specs.FullExpressions.{IsWhole}
use Rattle.law_sentences.specs.FullProcedures.{IsVariableFor, IsGivenBy, IsGivenTo, AreGivenTo}
use Rattle.law_sentences.specs.FullProcedures.{IsCalled}
use Rattle.law_sentences.proofs.FullCalls.{parameter_kind, parameter_there}
use Rattle.law_sentences.proofs.FullExpressions.{expr_full, path_place}
use Rattle.law_sentences.proofs.FullNames.{IsPlace, IsComponent, variable_place, module_place}
use Rattle.law_sentences.proofs.FullOperators.{nowhere, given_full}
use Rattle.law_sentences.proofs.FullStatements.{no_target, no_predeclared}
use Rattle.law_sentences.proofs.FullUses.{use_means}
use Rattle.law_sentences.proofs.NoFaults.{parted, unbroken}
use Rattle.law_sentences.proofs.NotBroken.{not_broken, three}

-- outside functions a target is no value
target_place : (o : Outline) (loops : List ℕ) (p : ℕ) (e : Entry) (s : Sort)
    → entry_at o p ≡ Some e → HasAll s e → is_writable None loops p e.section s ≡ true
    → IsPlace o (target_by p e s)
target_place o loops p e sort.Variable is all h = variable_place o e.kind all
target_place o loops p e sort.ModuleVariable is all h = module_place o p e is all.0 all.1
target_place o loops p e _ is all h = absurd (true≢false (sym h))

entry_place : (o : Outline) (loops : List ℕ) (p : ℕ) (x : Option Entry) (path : List Selector)
    (place : ℕ) → AreFull o → entry_at o p ≡ x → target_in_faults None loops p x path place ≡ []
    → IsPlace o (target_in None loops p x)
entry_place o loops p None path place full is h = not_broken place rule.WrongSort h
entry_place o loops p (Some e) path place full is h =
    by (is_writable None loops p e.section e.declared.sort) refl h
  where
    by : (b : Bool) → is_writable None loops p e.section e.declared.sort ≡ b
        → (if b then [] else sort_target_faults e path place) ≡ []
        → IsPlace o (if b then target_by p e e.declared.sort else Broken)
    by true w h = target_place o loops p e e.declared.sort is (full p e is) w
    by false w h = absurd (no_target e path place h)

meant_place : (o : Outline) (loops : List ℕ) (u : Used) (path : List Selector) (m : Meant)
    → AreFull o → target_meant_faults o None loops u path m ≡ []
    → IsPlace o (target_meant o None loops m)
meant_place o loops u path meant.Nothing full h = not_broken u.place rule.UnknownName h
meant_place o loops u path (meant.Predeclared n) full h =
    absurd (no_predeclared (predeclared_constant n) n u.place h)
meant_place o loops u path (meant.Unseen p) full h = not_broken u.place rule.NotSeenHere h
meant_place o loops u path (meant.Seen p) full h =
    entry_place o loops p (entry_at o p) path u.place full refl h

-- a target that is no value and breaks nothing is a variable
end_variable : (o : Outline) (s : Selection) (place : ℕ) → IsPlace o s → end_faults s place ≡ []
    → IsComponent s
end_variable o Broken place k h = absurd k
end_variable o SomeModule place k h = absurd k
end_variable o (Value t) place k h = absurd k
end_variable o (Component j) place k h = (j, refl)
end_variable o (Modules p) place k h = not_broken place rule.WrongNumber h
end_variable o (Module p) place k h = not_broken place rule.NotWritable h

variable_target : (o : Outline) (loops : List ℕ) (u : Used) (path : List Selector) → IsWhole o
    → path_target_faults o None loops u path ≡ [] → IsComponent (path_target o None loops u path)
variable_target o loops u path w h =
    let s = three (target_faults o None loops u path)
    (selected_faults o (target o None loops u) u.place path)
    (end_faults (path_target o None loops u path) u.place) h in
    end_variable o (path_target o None loops u path) u.place
    (path_place o (target o None loops u) u.place path w
    (meant_place o loops u path (meaning o u) w.full s.0) s.1) s.2

-- arguments
like_variable : (m : Option Measured) (s : Selection) (place : ℕ) (loops : List ℕ) (o : Outline)
    (v : Variable) → IsThere m → path_target o None loops v.0 v.1 ≡ s → IsComponent s
    → unlike_faults m s place ≡ [] → IsVariableFor o loops m (Some v)
like_variable None s place loops o v h is c f = nowhere h
like_variable (Some m) s place loops o v h is c f = (
  c.0,
  is ∙ c.1,
  unbroken (is_alike m.kind c.0) place rule.WrongKind
      (subst (λ (x : Selection). unlike_faults (Some m) x place ≡ []) c.1 f),
)

variable_given : (o : Outline) (loops : List ℕ) (m : Option Measured) (e : Expr)
    (v : Option Variable) → IsWhole o → IsThere m → place_faults_by o None loops m e v ≡ []
    → IsVariableFor o loops m v
variable_given o loops m e None w k h =
    not_broken (expr_place e) rule.NotWritable
    (parted (expr_faults o e) (broken (expr_place e) rule.NotWritable) h).1
variable_given o loops m e (Some v) w k h =
    let s = parted (path_target_faults o None loops v.0 v.1)
    (unlike_faults m (path_target o None loops v.0 v.1) (expr_place e)) h in
    like_variable m (path_target o None loops v.0 v.1) (expr_place e) loops o v k refl
    (variable_target o loops v.0 v.1 w s.0) s.1

type_there : (m : Option Measured) → IsThere m → IsThere (type_in m)
type_there None h = nowhere h
type_there (Some m) h = (type_of m.kind, refl)

argument_given : (o : Outline) (loops : List ℕ) (g : Entry) (e : Expr) (b : Bool) → IsWhole o
    → IsThere g.kind
    → (if b then place_faults o None loops g.kind e
    else expr_faults o e ++ gives (type_in g.kind) (expr_type o e) (expr_place e)) ≡ []
    → IsGivenBy o loops b g e
argument_given o loops g e true w k h = variable_given o loops g.kind e (bare e) w k h
argument_given o loops g e false w k h =
    let s = parted (expr_faults o e) (gives (type_in g.kind) (expr_type o e) (expr_place e)) h in
    given_full (type_in g.kind) (expr_type o e) (expr_place e) (type_there g.kind k)
    (expr_full o e w s.0) s.1

given_to : (o : Outline) (loops : List ℕ) (p i : ℕ) (e : Expr) → IsWhole o
    → IsThere (parameter o p i) → argument_faults o None loops p i e ≡ []
    → IsGivenTo o loops p i e
given_to o loops p i e w k h =
    let f = subst (λ (x : Option Entry). argument_by o None loops x e ≡ []) k.1 h in (
      k.0,
      k.1,
      argument_given o loops k.0 e (is_place k.0.section) w (parameter_kind o p i k.0 w k.1) f,
    )

arguments_given : (o : Outline) (loops : List ℕ) (p i name : ℕ) (es : List Expr) → IsWhole o
    → arguments_faults o None loops p i name es ≡ []
    → (n : ℕ) × (i ≤ n) × (takes_so_many o p n ≡ true) × AreGivenTo o loops p i es
arguments_given o loops p i name [] w h =
    (i, omega arith, unbroken (takes_so_many o p i) name rule.WrongNumber h, tt)
arguments_given o loops p i name (e ∷ es) w h =
    let s = parted (argument_faults o None loops p i e)
    (arguments_faults o None loops p (i + 1) name es) h in
    let t = arguments_given o loops p (i + 1) name es w s.1 in
    let l : i + 1 ≤ t.0 = t.1 in
    let k = parameter_there o p t.0 i w t.2 (omega arith) in
    (t.0, omega arith, t.2, (given_to o loops p i e w k s.0, t.3))

pub calls_full : (o : Outline) (loops : List ℕ) (name : Used) (es : List Expr) → IsWhole o
    → call_faults o None loops name es ≡ [] → IsCalled o loops name es
calls_full o loops name es w h =
    let s = parted (use_faults o sort.Procedure name)
    (called_faults o None loops (declaration_of o sort.Procedure name) name.place es) h in
    let u = use_means o sort.Procedure name w.full s.0 in
    let f = subst (λ (x : Option ℕ). called_faults o None loops x name.place es ≡ []) u.means s.1 in
    (u.place, u.means, (arguments_given o loops u.place 0 name.place es w f).3)
