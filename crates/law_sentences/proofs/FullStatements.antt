-- What statements look up is there where they break nothing.
use Rattle.std.specs.Prelude.{if◌then◌else◌}
use Rattle.std.proofs.Common.{◌≡◌, refl, sym, ap, subst, true≢false, ℕ, Bool, true, false, List, []}
use Rattle.std.proofs.Common.{◌++◌, Option, Some, None}
use Rattle.est_syntax.specs.Faults.{broken}
use Rattle.est_syntax.specs.Names.{spelled}
use Rattle.est_syntax.specs.declared.channel.Role.{Role}
use Rattle.est_syntax.specs.declared.expression.Access.{Access}
use Rattle.est_syntax.specs.declared.expression.Expr.{Expr}
use Rattle.est_syntax.specs.declared.expression.Selector.{Selector}
use Rattle.est_syntax.specs.declared.name.Used.{Used}
use Rattle.est_syntax.specs.declared.ports.Direction.{Direction}
use Rattle.est_syntax.specs.declared.ports.Direction.TheVariants.{Sends}
use Rattle.est_syntax.specs.declared.rule.Rule.TheVariants as rule
use Rattle.est_syntax.specs.declared.statement.Sending.{Sending}
use Rattle.rule_scope.specs.Outline.{Outline, entry_at, member_at, standing}
use Rattle.rule_scope.specs.Uses.{meaning, use_faults, declaration_of}
use Rattle.rule_scope.specs.declared.declaration.Entry.{Entry}
use Rattle.rule_scope.specs.declared.declaration.Meant.{Meant}
use Rattle.rule_scope.specs.declared.declaration.Meant.TheVariants as meant
use Rattle.rule_scope.specs.declared.declaration.Member.{Member}
use Rattle.rule_scope.specs.declared.declaration.Member.TheVariants as member
use Rattle.rule_scope.specs.declared.declaration.Side.{Side}
use Rattle.rule_scope.specs.declared.declaration.Sort.{Sort}
use Rattle.rule_scope.specs.declared.declaration.Sort.TheVariants as sort
use Rattle.rule_scope.specs.declared.declaration.Standing.{Standing}
use Rattle.rule_scope.specs.declared.predeclared.PredeclaredName.{PredeclaredName}
use Rattle.rule_kinds.specs.Constants.{predeclared_constant}
use Rattle.rule_kinds.specs.declared.value.Valued.{Valued}
use Rattle.est_values.specs.Types.{Yielded, type_of}
use Rattle.rule_expressions.specs.Accesses.{subscripts_at, access_faults}
use Rattle.rule_expressions.specs.ExpressionPlaces.{expr_place}
use Rattle.rule_expressions.specs.Expressions.{expr_type, expr_faults, selected_faults, are_taken}
use Rattle.rule_expressions.specs.Expressions.{are_taken_faults}
use Rattle.rule_expressions.specs.Operators.{wants, kept, gives, is_given}
use Rattle.rule_declares.specs.LookUps.{dims_in}
use Rattle.rule_expressions.specs.Selections.{Selection, Broken, Value, Component, Modules, Module}
use Rattle.rule_expressions.specs.Selections.{SomeModule, variable_head, module_head}
use Rattle.rule_declares.specs.RequiredFunctions.{required_function}
use Rattle.rule_expressions.specs.Variables.{selected_type}
use Rattle.rule_declares.specs.declared.required.Required.{Required}
use Rattle.rule_expressions.specs.declared.operators.Wanted.TheVariants as wanted
use Rattle.rule_expressions.specs.declared.receivers.Receiver.{Receiver}
use Rattle.rule_expressions.specs.declared.receivers.Receiver.TheVariants as receiver
use Rattle.rule_statements.specs.Modules.{started_faults, body_faults, parameters_of}
use Rattle.rule_declares.specs.LookUps.{header_at}
use Rattle.rule_statements.specs.Modules.{init_faults}
use Rattle.rule_statements.specs.Signals.{direction_faults, standing_faults}
use Rattle.rule_declares.specs.LookUps.{point_side}
use Rattle.rule_statements.specs.Signals.{signal_by_faults, signal_faults, signal_in}
use Rattle.rule_statements.specs.Signals.{signal_standing, signal_of, sending_faults}
use Rattle.rule_statements.specs.Statements.{control_type, bound_faults, for_faults}
use Rattle.rule_statements.specs.Targets.{is_writable, target_by, target_in, target_meant, target}
use Rattle.rule_statements.specs.Targets.{is_target_sort, sort_target_faults, counted_faults}
use Rattle.rule_statements.specs.Targets.{target_in_faults, function_target, predeclared_target}
use Rattle.rule_statements.specs.Targets.{target_meant_faults, target_faults, end_faults}
use Rattle.rule_statements.specs.Targets.{path_target, path_target_faults, assign_faults}
use Rattle.law_sentences.specs.Full.{IsThere, HasAll, AreFull}
use Rattle.law_sentences.specs.FullExpressions.{IsWhole, IsKnown}
use Rattle.law_sentences.specs.FullStatements.{AreTakenBy, IsAssigned, HasBounds, HasSubscripts}
use Rattle.law_sentences.specs.FullStatements.{IsAccessed, IsPassed, IsSent, IsStarted}
use Rattle.law_sentences.proofs.FullCalls.{IsReady, subscripts_ready, parameters_ready}
use Rattle.law_sentences.proofs.FullExpressions.{expr_full, path_full, taken_full}
use Rattle.law_sentences.proofs.FullNames.{place_known, variable_place, module_place}
use Rattle.law_sentences.proofs.FullOperators.{nowhere, kept_full, given_full}
use Rattle.law_sentences.proofs.FullUses.{IsAt, IsUsed, use_means, point_dims, point_side_there}
use Rattle.law_sentences.proofs.FullUses.{module_dims, module_header_there, body_header_there}
use Rattle.law_sentences.proofs.NoFaults.{parted}
use Rattle.law_sentences.proofs.NotBroken.{not_broken, three}

-- targets
target_known : (o : Outline) (f : Option ℕ) (loops : List ℕ) (p : ℕ) (e : Entry) (s : Sort)
    → entry_at o p ≡ Some e → HasAll s e → is_writable f loops p e.section s ≡ true
    → IsKnown o (target_by p e s)
target_known o f loops p e sort.Variable is all h =
    place_known o (variable_head e.kind) (variable_place o e.kind all)
target_known o f loops p e sort.ModuleVariable is all h =
    place_known o (module_head e.dims p) (module_place o p e is all.0 all.1)
target_known o f loops p e sort.Function is all h =
    place_known o (variable_head e.kind) (variable_place o e.kind all)
target_known o f loops p e _ is all h = absurd (true≢false (sym h))

pub no_target : (e : Entry) (path : List Selector) (place : ℕ)
    → sort_target_faults e path place ≡ []
    → ⊥
no_target e path place = by (is_target_sort e.declared.sort)
  where
    by : (b : Bool)
        → (if b then broken place rule.NotWritable
        ++ counted_faults e.declared.sort e.dims path place else broken place rule.WrongSort) ≡ []
        → ⊥
    by true h = not_broken place rule.NotWritable (parted (broken place rule.NotWritable)
        (counted_faults e.declared.sort e.dims path place) h).0
    by false h = not_broken place rule.WrongSort h

entry_target : (o : Outline) (f : Option ℕ) (loops : List ℕ) (p : ℕ) (x : Option Entry)
    (path : List Selector) (place : ℕ) → AreFull o → entry_at o p ≡ x
    → target_in_faults f loops p x path place ≡ [] → IsKnown o (target_in f loops p x)
entry_target o f loops p None path place full is h = not_broken place rule.WrongSort h
entry_target o f loops p (Some e) path place full is h =
    by (is_writable f loops p e.section e.declared.sort) refl h
  where
    by : (b : Bool) → is_writable f loops p e.section e.declared.sort ≡ b
        → (if b then [] else sort_target_faults e path place) ≡ []
        → IsKnown o (if b then target_by p e e.declared.sort else Broken)
    by true w h = target_known o f loops p e e.declared.sort is (full p e is) w
    by false w h = absurd (no_target e path place h)

pub no_predeclared : (v : Option Valued) (n : PredeclaredName) (place : ℕ)
    → predeclared_target v n place ≡ [] → ⊥
no_predeclared (Some v) n place h = not_broken place rule.NotWritable h
no_predeclared None n place h = by (required_function n) h
  where
    by : (f : Option Required) → function_target f place ≡ [] → ⊥
    by None h = not_broken place rule.WrongSort h
    by (Some f) h = not_broken place rule.NotWritable h

meant_target : (o : Outline) (f : Option ℕ) (loops : List ℕ) (u : Used) (path : List Selector)
    (m : Meant) → AreFull o → target_meant_faults o f loops u path m ≡ []
    → IsKnown o (target_meant o f loops m)
meant_target o f loops u path meant.Nothing full h = not_broken u.place rule.UnknownName h
meant_target o f loops u path (meant.Predeclared n) full h =
    absurd (no_predeclared (predeclared_constant n) n u.place h)
meant_target o f loops u path (meant.Unseen p) full h = not_broken u.place rule.NotSeenHere h
meant_target o f loops u path (meant.Seen p) full h =
    entry_target o f loops p (entry_at o p) path u.place full refl h

target_full : (o : Outline) (f : Option ℕ) (loops : List ℕ) (u : Used) (path : List Selector)
    → AreFull o → target_faults o f loops u path ≡ [] → IsKnown o (target o f loops u)
target_full o f loops u path full h = meant_target o f loops u path (meaning o u) full h

end_full : (o : Outline) (s : Selection) (place : ℕ) → IsKnown o s → end_faults s place ≡ []
    → IsThere (selected_type s)
end_full o Broken place k h = absurd k
end_full o SomeModule place k h = absurd k
end_full o (Value t) place k h = (t, refl)
end_full o (Component j) place k h = (type_of j, refl)
end_full o (Modules p) place k h = not_broken place rule.WrongNumber h
end_full o (Module p) place k h = not_broken place rule.NotWritable h

pub targets_full : (o : Outline) (f : Option ℕ) (loops : List ℕ) (u : Used) (path : List Selector)
    → IsWhole o → path_target_faults o f loops u path ≡ []
    → IsThere (selected_type (path_target o f loops u path))
targets_full o f loops u path w h =
    let s = three (target_faults o f loops u path)
    (selected_faults o (target o f loops u) u.place path)
    (end_faults (path_target o f loops u path) u.place) h in
    end_full o (path_target o f loops u path) u.place
    (path_full o (target o f loops u) u.place path w (target_full o f loops u path w.full s.0) s.1)
    s.2

pub assigned_full : (o : Outline) (f : Option ℕ) (loops : List ℕ) (u : Used) (path : List Selector)
    (e : Expr) → IsWhole o → assign_faults o f loops u path e ≡ [] → IsAssigned o f loops u path e
assigned_full o f loops u path e w h =
    let t = selected_type (path_target o f loops u path) in
    let s = three (path_target_faults o f loops u path) (expr_faults o e)
    (gives t (expr_type o e) (expr_place e)) h in
    given_full t (expr_type o e) (expr_place e) (targets_full o f loops u path w s.0)
    (expr_full o e w s.1) s.2

bound_full : (o : Outline) (t : Option Yielded) (e : Expr) → IsWhole o
    → IsThere (kept wanted.Ordinal t) → bound_faults o t e ≡ []
    → is_given (kept wanted.Ordinal t) (expr_type o e) ≡ true
bound_full o t e w k h =
    let s = parted (expr_faults o e) (gives (kept wanted.Ordinal t) (expr_type o e) (expr_place e))
    h in
    given_full (kept wanted.Ordinal t) (expr_type o e) (expr_place e) k (expr_full o e w s.0) s.1

pub loops_full : (o : Outline) (f : Option ℕ) (loops : List ℕ) (u : Used) (first last : Expr)
    → IsWhole o → for_faults o f loops u first last ≡ [] → HasBounds o f loops u first last
loops_full o f loops u first last w h =
    let t = control_type o f loops u in
    let s = three (target_faults o f loops u [] ++ end_faults (target o f loops u) u.place
    ++ wants wanted.Ordinal t u.place) (bound_faults o t first) (bound_faults o t last) h in
    let a = three (target_faults o f loops u []) (end_faults (target o f loops u) u.place)
    (wants wanted.Ordinal t u.place) s.0 in
    let e = end_full o (target o f loops u) u.place (target_full o f loops u [] w.full a.0) a.1 in
    let k = kept_full wanted.Ordinal t u.place e a.2 in
    (bound_full o t first w k s.1, bound_full o t last w k s.2)

-- names with subscripts
at_dims : (o : Outline) (s : Sort) (p : ℕ) → HasSubscripts s → IsAt o s p
    → IsThere (dims_in (entry_at o p))
at_dims o sort.Point p h at = point_dims o p at
at_dims o sort.ModuleVariable p h at = module_dims o p at
at_dims o _ p h at = absurd h

pub taken_by : (o : Outline) (r : Option Receiver) (x : Receiver) (place : ℕ) (es : List Expr)
    → IsWhole o → r ≡ Some x → IsReady o x → are_taken_faults o r 0 place es ≡ []
    → AreTakenBy o r es
taken_by o r x place es w is ready h =
    let t = taken_full o x 0 place es w ready
    (subst (λ (y : Option Receiver). are_taken_faults o y 0 place es ≡ []) is h) in
    ((x, is), subst (λ (y : Option Receiver). are_taken o y 0 es ≡ true) (sym is) t.3)

pub access_used : (o : Outline) (s : Sort) (a : Access) → AreFull o → access_faults o s a ≡ []
    → IsUsed o s a.name
access_used o s a full h =
    use_means o s a.name full
    (parted (use_faults o s a.name)
    (are_taken_faults o (subscripts_at (declaration_of o s a.name)) 0 a.name.place a.index) h).0

pub accesses_full : (o : Outline) (s : Sort) (a : Access) → IsWhole o → HasSubscripts s
    → access_faults o s a ≡ [] → IsAccessed o s a
accesses_full o s a w has h =
    let s' = parted (use_faults o s a.name)
    (are_taken_faults o (subscripts_at (declaration_of o s a.name)) 0 a.name.place a.index) h in
    let u = use_means o s a.name w.full s'.0 in
    taken_by o (subscripts_at (declaration_of o s a.name)) (receiver.Subscripts u.place)
    a.name.place a.index w (ap subscripts_at u.means)
    (subscripts_ready o u.place (at_dims o s u.place has u.at)) s'.1

-- interactions
abbrev IsSignal : Option Receiver → Type 0
IsSignal r = (p : ℕ) × (r ≡ Some (receiver.Parameters p))

member_signal : (d : Direction) (r : Role) (m : Option Member) (p place : ℕ)
    → direction_faults d r m place ≡ [] → IsSignal (signal_in m p)
member_signal d r None p place h = not_broken place rule.WrongSort h
member_signal d r (Some (member.Interaction s)) p place h = (p, refl)
member_signal d r (Some (member.Role q)) p place h = not_broken place rule.WrongSort h
member_signal d r (Some member.Field) p place h = not_broken place rule.WrongSort h

standing_signal : (o : Outline) (d : Direction) (r : Role) (x : Option Standing) (place : ℕ)
    → standing_faults o d r x place ≡ [] → IsSignal (signal_standing o x)
standing_signal o d r None place h = not_broken place rule.UnknownName h
standing_signal o d r (Some s) place h = member_signal d r (member_at o s.place) s.place place h

signal_there : (o : Outline) (d : Direction) (side : Option Side) (u : Used) → IsThere side
    → signal_by_faults o d side u ≡ [] → IsSignal (signal_of o side u)
signal_there o d None u k h = nowhere k
signal_there o d (Some s) u k h =
    standing_signal o d s.role (standing o s.channel (spelled u)) u.place h

signal_parts : (o : Outline) (d : Direction) (at : Access) (u : Used) → IsWhole o
    → signal_faults o d at u ≡ []
    → IsPassed o at u × IsSignal (signal_of o (point_side o at.name) u)
signal_parts o d at u w h =
    let s = parted (access_faults o sort.Point at) (signal_by_faults o d (point_side o at.name) u) h
    in
    let p = access_used o sort.Point at w.full s.0 in
    let k = point_side_there o (declaration_of o sort.Point at.name) p.place p.means p.at in
    let q = signal_there o d (point_side o at.name) u k s.1 in
    ((accesses_full o sort.Point at w tt s.0, k, (receiver.Parameters q.0, q.1)), q)

pub signals_full : (o : Outline) (d : Direction) (at : Access) (u : Used) → IsWhole o
    → signal_faults o d at u ≡ [] → IsPassed o at u
signals_full o d at u w h = (signal_parts o d at u w h).0

pub sendings_full : (o : Outline) (s : Sending) → IsWhole o → sending_faults o s ≡ [] → IsSent o s
sendings_full o s w h =
    let q = parted (signal_faults o Sends s.at s.signal)
    (are_taken_faults o (signal_of o (point_side o s.at.name) s.signal) 0 s.signal.place
    s.arguments) h in
    let p = signal_parts o Sends s.at s.signal w q.0 in
    let r = p.1 in (
      p.0,
      taken_by o (signal_of o (point_side o s.at.name) s.signal) (receiver.Parameters r.0)
          s.signal.place s.arguments w r.1 (parameters_ready o r.0 w) q.1,
    )

-- modules
pub inits_full : (o : Outline) (target : Access) (body : Used) (arguments : List Expr) → IsWhole o
    → init_faults o target body arguments ≡ [] → IsStarted o target body arguments
inits_full o target body arguments w h =
    let m = declaration_of o sort.ModuleVariable target.name in
    let b = declaration_of o sort.Body body in
    let s = three (access_faults o sort.ModuleVariable target ++ started_faults o m
    target.name.place ++ use_faults o sort.Body body)
    (body_faults o (header_at o m) b body.place)
    (are_taken_faults o (parameters_of (header_at o b)) 0 body.place arguments) h in
    let t = three (access_faults o sort.ModuleVariable target)
    (started_faults o m target.name.place) (use_faults o sort.Body body) s.0 in
    let v = access_used o sort.ModuleVariable target w.full t.0 in
    let u = use_means o sort.Body body w.full t.2 in
    let g = body_header_there o b u.place u.means u.at in (
      accesses_full o sort.ModuleVariable target w tt t.0,
      module_header_there o m v.place v.means v.at,
      taken_by o (parameters_of (header_at o b)) (receiver.Parameters g.0) body.place arguments w
          (ap parameters_of g.1) (parameters_ready o g.0 w) s.2,
    )
