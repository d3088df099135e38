-- Arguments and subscripts that break nothing are taken, and a call yields something.
use Rattle.std.specs.Option.{option_map}
use Rattle.std.specs.Prelude.{is_some, option_and_then, not, nat_eq, ◌||◌, length, slice_get}
use Rattle.std.proofs.Common.{◌≡◌, refl, sym, ap, subst, ◌∙◌, true≢false, ℕ, zero, suc, ◌-◌, ◌<◌}
use Rattle.std.proofs.Common.{◌≤◌, Bool, true, false, List, [], ◌∷◌, Option, Some, None, arith, ◌⊎◌}
use Rattle.std.proofs.Common.{inl, inr, eqb-true}
use Rattle.std.proofs.lemmas.Bool.{cases_lt, and_parts}
use Rattle.std.proofs.lemmas.Option.{cond_some}
use Rattle.est_syntax.specs.declared.kind.Kind.{Kind}
use Rattle.est_syntax.specs.declared.rule.Rule.TheVariants as rule
use Rattle.rule_scope.specs.Outline.{Outline, entry_at, nth}
use Rattle.rule_scope.specs.Uses.{same_sort, is_sort}
use Rattle.rule_scope.specs.declared.declaration.Entry.{Entry}
use Rattle.rule_scope.specs.declared.declaration.Meant.{Meant}
use Rattle.rule_scope.specs.declared.declaration.Meant.TheVariants as meant
use Rattle.rule_scope.specs.declared.declaration.Sort.{Sort}
use Rattle.rule_scope.specs.declared.declaration.Sort.TheVariants as sort
use Rattle.est_values.specs.Types.{Yielded, type_of}
use Rattle.rule_expressions.specs.Calls.{is_received, taken_faults, declared_callee}
use Rattle.rule_expressions.specs.Calls.{required_callee}
use Rattle.rule_expressions.specs.Calls.{callee_meant, no_callee, callee_faults_by, value_by}
use Rattle.rule_expressions.specs.Calls.{call_yields}
use Rattle.rule_expressions.specs.Operators.{is_taken, wants}
use Rattle.rule_expressions.specs.Receivers.{subscript_in, is_argument, receives}
use Rattle.rule_declares.specs.LookUps.{dims_in}
use Rattle.rule_expressions.specs.Receivers.{received_faults, are_so_many, takes_number}
use Rattle.rule_expressions.specs.Selections.{declared_type, type_in, is_parameter, parameter_in}
use Rattle.rule_expressions.specs.Selections.{parameter_at, parameter, has_before, takes_so_many}
use Rattle.rule_expressions.specs.Selections.{argument_of, value_of}
use Rattle.rule_declares.specs.RequiredFunctions.{required_function}
use Rattle.rule_declares.specs.declared.required.Required.{Required}
use Rattle.rule_expressions.specs.declared.receivers.Receiver.{Receiver}
use Rattle.rule_expressions.specs.declared.receivers.Receiver.TheVariants as receiver
use Rattle.law_sentences.specs.Full.{IsThere, HasAll, AreFull}
use Rattle.law_sentences.specs.FullExpressions.{IsWhole, HasKindSort}
use Rattle.law_sentences.proofs.FullOperators.{nowhere, given_full}
use Rattle.law_sentences.proofs.NoFaults.{unbroken}
use Rattle.law_sentences.proofs.NotBroken.{not_broken}

-- what takes arguments or subscripts takes each that breaks nothing, where it takes their number
pub record IsReady (o : Outline) (r : Receiver) : Type 0 where
  pub takes : (n i : ℕ) (t : Option Yielded) (place : ℕ) → takes_number o r n ≡ true → i < n
      → IsThere t → received_faults o r i t place ≡ [] → receives o r i t ≡ true

-- arguments of predeclared functions
argument_taken : (f : Required) (t : Option Yielded) (place : ℕ) → IsThere t
    → wants (argument_of f) t place ≡ [] → is_argument f t ≡ true
argument_taken f None place k h = nowhere k
argument_taken f (Some t) place k h = unbroken (is_taken (argument_of f) t) place rule.WrongKind h

function_ready : (o : Outline) (f : Required) → IsReady o (receiver.Function f)
function_ready o f = record { takes = λ n i t place h l k g. argument_taken f t place k g }

-- subscripts
item : (ks : List Kind) (i : ℕ) → i < length ks → IsThere (slice_get ks i)
item [] i h = absurd (omega arith)
item (k ∷ ks) zero h = (k, refl)
item (k ∷ ks) (suc i) h = item ks i (omega arith)

subscript_there : (dims : Option (List Kind)) (n i : ℕ) → IsThere dims
    → are_so_many dims n ≡ true → i < n → IsThere (subscript_in dims i)
subscript_there None n i k h l = nowhere k
subscript_there (Some ks) n i k h l =
    let e : length ks ≡ n = eqb-true (length ks) n h in
    let s = item ks i (omega arith) in (type_of s.0, ap (option_map type_of) s.1)

pub subscripts_ready : (o : Outline) (p : ℕ) → IsThere (dims_in (entry_at o p))
    → IsReady o (receiver.Subscripts p)
subscripts_ready o p d = record {
  takes = λ n i t place h l k g.
      given_full (subscript_in (dims_in (entry_at o p)) i) t place
      (subscript_there (dims_in (entry_at o p)) n i d h l) k g;
}

-- parameters
parameter_entry : (o : Outline) (place : Option ℕ) (e : Entry) → parameter_at o place ≡ Some e
    → (p : ℕ) × (entry_at o p ≡ Some e) × (is_parameter e.section ≡ true)
parameter_entry o None e h = nowhere (e, h)
parameter_entry o (Some p) e h = by (entry_at o p) refl h
  where
    by : (x : Option Entry) → entry_at o p ≡ x → option_and_then parameter_in x ≡ Some e
        → (p : ℕ) × (entry_at o p ≡ Some e) × (is_parameter e.section ≡ true)
    by None is h = nowhere (e, h)
    by (Some y) is h =
        let s = cond_some (is_parameter y.section) y e h in (
          p,
          is ∙ ap Some s.1,
          subst (λ (x : Entry). is_parameter x.section ≡ true) s.1 s.0,
        )

kind_there : (s : Sort) (e : Entry) → HasKindSort s → HasAll s e → IsThere e.kind
kind_there sort.Variable e k all = all
kind_there sort.Constant e k all = all.0
kind_there _ e k all = absurd k

pub parameter_kind : (o : Outline) (p i : ℕ) (e : Entry) → IsWhole o → parameter o p i ≡ Some e
    → IsThere e.kind
parameter_kind o p i e w h =
    let s = parameter_entry o (nth o p i) e h in
    kind_there e.declared.sort e (w.kinds s.0 e s.1 s.2) (w.full s.0 e s.1)

parameter_type : (o : Outline) (p i : ℕ) → IsWhole o → IsThere (parameter o p i)
    → IsThere (declared_type (parameter o p i))
parameter_type o p i w h =
    let k = parameter_kind o p i h.0 w h.1 in
    (type_of k.0.kind, ap declared_type h.1 ∙ ap type_in k.1)

there : {X : Type 0} (x : Option X) → is_some x ≡ true → IsThere x
there None h = absurd (true≢false (sym h))
there (Some x) h = (x, refl)

either : (a b : Bool) → a || b ≡ true → (a ≡ true) ⊎ (b ≡ true)
either true b h = inl refl
either false b h = inr h

-- where so many parameters are taken, each number before that has one
pub parameter_there : (o : Outline) (p n i : ℕ) → IsWhole o → takes_so_many o p n ≡ true → i < n
    → IsThere (parameter o p i)
parameter_there o p n i w h l =
    by (either (nat_eq n 0) (is_some (parameter o p (n - 1)))
    (and_parts (has_before o p n) (not (is_some (parameter o p n))) h).0)
  where
    reached : (i < n - 1) ⊎ (n - 1 ≤ i) → IsThere (parameter o p (n - 1))
        → IsThere (parameter o p i)
    reached (inl k) s = w.first p i (n - 1) k s
    reached (inr k) s =
        let e : n - 1 ≡ i = omega arith in subst (λ (m : ℕ). IsThere (parameter o p m)) e s

    by : (nat_eq n 0 ≡ true) ⊎ (is_some (parameter o p (n - 1)) ≡ true)
        → IsThere (parameter o p i)
    by (inl z) = let e : n ≡ 0 = eqb-true n 0 z in absurd (omega arith)
    by (inr s) = reached (cases_lt i (n - 1)) (there (parameter o p (n - 1)) s)

pub parameters_ready : (o : Outline) (p : ℕ) → IsWhole o → IsReady o (receiver.Parameters p)
parameters_ready o p w = record {
  takes = λ n i t place h l k g.
      given_full (declared_type (parameter o p i)) t place
      (parameter_type o p i w (parameter_there o p n i w h l)) k g;
}

-- what is called
abbrev pub IsCallable : Outline → Receiver → Type 0
IsCallable o (receiver.Subscripts p) = ⊥
IsCallable o (receiver.Parameters p) = IsThere (declared_type (entry_at o p))
IsCallable o (receiver.Function f) = Unit {0}

pub callable_ready : (o : Outline) (r : Receiver) → IsWhole o → IsCallable o r → IsReady o r
callable_ready o (receiver.Subscripts p) w c = absurd c
callable_ready o (receiver.Parameters p) w c = parameters_ready o p w
callable_ready o (receiver.Function f) w c = function_ready o f

abbrev pub IsCallee : Outline → Option Receiver → Type 0
IsCallee o c = (r : Receiver) × (c ≡ Some r) × IsCallable o r

required_full : (o : Outline) (f : Option Required) (place : ℕ)
    → no_callee (required_callee f) place ≡ [] → IsCallee o (required_callee f)
required_full o None place h = not_broken place rule.WrongSort h
required_full o (Some f) place h = (receiver.Function f, refl, tt)

function_sort : (s : Sort) → same_sort sort.Function s ≡ true → s ≡ sort.Function
function_sort sort.Function h = refl
function_sort _ h = absurd (true≢false (sym h))

called : (b : Bool) (p place : ℕ) → no_callee (declared_callee b p) place ≡ [] → b ≡ true
called true p place h = refl
called false p place h = not_broken place rule.WrongSort h

declared_full : (o : Outline) (p place : ℕ) (x : Option Entry) → AreFull o → entry_at o p ≡ x
    → no_callee (declared_callee (is_sort sort.Function x) p) place ≡ []
    → IsCallee o (declared_callee (is_sort sort.Function x) p)
declared_full o p place None full is h = not_broken place rule.WrongSort h
declared_full o p place (Some e) full is h =
    let b = called (same_sort sort.Function e.declared.sort) p place h in
    let k = subst (λ (s : Sort). HasAll s e) (function_sort e.declared.sort b) (full p e is) in (
      receiver.Parameters p,
      ap (λ (b : Bool). declared_callee b p) b,
      (type_of k.0.kind, ap declared_type is ∙ ap type_in k.1),
    )

pub callee_full : (o : Outline) (m : Meant) (place : ℕ) → AreFull o
    → callee_faults_by o m place ≡ [] → IsCallee o (callee_meant o m)
callee_full o meant.Nothing place full h = not_broken place rule.UnknownName h
callee_full o (meant.Predeclared n) place full h = required_full o (required_function n) place h
callee_full o (meant.Unseen p) place full h = not_broken place rule.NotSeenHere h
callee_full o (meant.Seen p) place full h =
    declared_full o p place (entry_at o p) full refl h

-- a call yields something where its first argument does, if it has to have one
pub yields_full : (o : Outline) (r : Receiver) (t : Option Yielded) → IsCallable o r
    → ((f : Required) → r ≡ receiver.Function f → IsThere t) → IsThere (call_yields o (Some r) t)
yields_full o (receiver.Subscripts p) t c k = absurd c
yields_full o (receiver.Parameters p) t c k = c
yields_full o (receiver.Function f) t c k =
    let s = k f refl in (value_of f s.0, ap (value_by f) s.1)

pub argument_there : (f : Required) (t : Option Yielded) → is_argument f t ≡ true → IsThere t
argument_there f None h = absurd (true≢false (sym h))
argument_there f (Some t) h = (t, refl)

-- one argument or subscript
pub received_full : (o : Outline) (r : Receiver) (n i : ℕ) (t : Option Yielded) (place : ℕ)
    → IsReady o r → takes_number o r n ≡ true → i < n → IsThere t
    → taken_faults o (Some r) i t place ≡ [] → is_received o (Some r) i t ≡ true
received_full o r n i t place ready h l k g = ready.takes n i t place h l k g
