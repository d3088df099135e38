-- What evaluations give: arguments name no instance, and nor do the frames of routines.
use Rattle.std.proofs.Common.{◌≡◌, refl, ℕ, Bool, true, false, List, [], ◌∷◌, ◌++◌, Option, Some}
use Rattle.std.proofs.Common.{None, Result, Ok, Err, length}
use Rattle.std.specs.Prelude.{ℤ}
use Rattle.std.specs.List.{AllByRecursion}
use Rattle.est_syntax.specs.declared.expression.Access.{Access}
use Rattle.est_syntax.specs.declared.expression.Expr.{Expr}
use Rattle.est_syntax.specs.declared.kind.Kind.{Kind}
use Rattle.est_values.specs.declared.value.Value.{Value}
use Rattle.rule_scope.specs.Outline.{Outline}
use Rattle.rule_declares.specs.BareVariables.{bare}
use Rattle.mean_blocks.specs.declared.fault.BlockFault.{BlockFault}
use Rattle.mean_blocks.specs.declared.frame.Slot.{Slot}
use Rattle.mean_blocks.specs.declared.frame.Slot.TheVariants as slot
use Rattle.mean_blocks.specs.Outcome.{Outcome, Done, Fault, Limit, onward, ◌>>=◌}
use Rattle.mean_blocks.specs.Outcome.{lift, known, on_ok}
use Rattle.mean_blocks.specs.TakenValues.{taken}
use Rattle.mean_blocks.specs.NamesInRuns.{declared_at, dims_at, kind_at, takes_place}
use Rattle.mean_blocks.specs.WorkingState.{View, Counts}
use Rattle.mean_blocks.specs.ReachedVariables.{Reached, Component, Module, placed}
use Rattle.mean_blocks.specs.FunctionCalls.{frame_of, given, bound, unset}
use Rattle.mean_blocks.specs.ExpressionValues.{value_of, variable_of, arguments_in}
use Rattle.mean_blocks.specs.ExpressionValues.{subscripts_in, argument_of}
use Rattle.mean_blocks.specs.InstancePoints.{accessed}
use Rattle.law_runs.specs.UpkeepLaws.{IsPlainSlot, IsPlain}

-- a property of what an evaluation gives
abbrev pub Gives : {S A : Type 0} → (A → Type 0) → Outcome S A → Type 0
Gives Q (Done a s) = Q a
Gives Q (Fault f) = Unit {0}
Gives Q Limit = Unit {0}

-- a property of what a change leaves, where it has no fault
abbrev pub OnGood : {A : Type 0} → (A → Type 0) → Result A BlockFault → Type 0
OnGood P (Ok u) = P u
OnGood P (Err f) = Unit {0}

pub then_gives : {S A B : Type 0} (Q : B → Type 0) (o : Outcome S A) (go : A → S → Outcome S B)
    → ((a : A) (s : S) → Gives Q (go a s)) → Gives Q (onward o go)
then_gives Q (Done a s) go h = h a s
then_gives Q (Fault f) go h = tt
then_gives Q Limit go h = tt

pub lift_gives : {S A B : Type 0} (Q : B → Type 0) (R : A → Type 0)
    (r : Result A BlockFault) (s : S)
    (go : A → S → Outcome S B) → OnGood R r → ((a : A) (u : S) → R a → Gives Q (go a u))
    → Gives Q ((lift r >>= go) s)
lift_gives Q R (Ok a) s go q h = h a s q
lift_gives Q R (Err f) s go q h = tt

pub accessed_gives : {A : Type 0} (Q : A → Type 0) (a : Access) (go : ℕ → List ℤ → Counts A)
    (v : View) (l : ℕ) → ((p : ℕ) (zs : List ℤ) (m : ℕ) → Gives Q (go p zs m))
    → Gives Q (accessed a go v l)
accessed_gives Q a go v l h = then_gives Q (known (declared_at v.site.text.outline a.name) l) _
    (λ p m. then_gives Q
    (subscripts_in a.index (dims_at v.site.text.outline p) [] v m) (go p) (λ zs i. h p zs i))

-- the same, with what is declared under the name
pub named_gives : {A : Type 0} (Q : A → Type 0) (a : Access) (go : ℕ → List ℤ → Counts A)
    (v : View) (l : ℕ) → ((p : ℕ) (zs : List ℤ) (m : ℕ)
    → declared_at v.site.text.outline a.name ≡ Some p → Gives Q (go p zs m))
    → Gives Q (accessed a go v l)
named_gives Q a go v l h = one (declared_at v.site.text.outline a.name) refl
  where
    one : (o : Option ℕ) → declared_at v.site.text.outline a.name ≡ o
        → Gives Q ((known o >>= λ p.
        subscripts_in a.index (dims_at v.site.text.outline p) [] v >>= go p) l)
    one None e = tt
    one (Some p) e = then_gives Q
        (subscripts_in a.index (dims_at v.site.text.outline p) [] v l) (go p) (λ zs i. h p zs i e)

pub good_gives : {S A : Type 0} (Q : A → Type 0) (r : Result A BlockFault) (s : S) → OnGood Q r
    → Gives Q (lift r s)
good_gives Q (Ok a) s h = h
good_gives Q (Err f) s h = tt

pub gives_more : {S A : Type 0} (Q R : A → Type 0) (o : Outcome S A) → ((a : A) → Q a → R a)
    → Gives Q o → Gives R o
gives_more Q R (Done a s) h g = h a g
gives_more Q R (Fault f) h g = tt
gives_more Q R Limit h g = tt

-- ARGUMENTS

abbrev ArePlain : List Slot → Type 0
ArePlain xs = AllByRecursion IsPlainSlot xs

plain_more : (xs : List Slot) (x : Slot) → ArePlain xs → IsPlainSlot x → ArePlain (xs ++ x ∷ [])
plain_more [] x h g = (g, tt)
plain_more (y ∷ ys) x h g = (h.0, plain_more ys x h.1 g)

placed_plain : (r : Reached) (l : ℕ) → Gives IsPlainSlot (placed r l)
placed_plain (Component p k) l = tt
placed_plain (Module p zs) l = tt

argument_plain : (e : Expr) (b : Bool) (v : View) (l : ℕ) → Gives IsPlainSlot (argument_of e b v l)
argument_plain e true v l = then_gives IsPlainSlot (known (bare e) l) _
    (λ x m. then_gives IsPlainSlot (variable_of x.0 x.1 v m) placed (λ r i. placed_plain r i))
argument_plain e false v l = then_gives IsPlainSlot (value_of e v l) _ (λ a m. tt)

-- what holds of what is given, holds where it is used
pub given_on : {S A B : Type 0} (Q : A → Type 0) (R : B → Type 0) (o : Outcome S A)
    (go : A → S → Outcome S B) → Gives Q o → ((a : A) (s : S) → Q a → Gives R (go a s))
    → Gives R (onward o go)
given_on Q R (Done a s) go q h = h a s q
given_on Q R (Fault f) go q h = tt
given_on Q R Limit go q h = tt

pub arguments_plain : (es : List Expr) (p : ℕ) (xs : List Slot) (v : View) (l : ℕ) → ArePlain xs
    → Gives ArePlain (arguments_in es p xs v l)
arguments_plain [] p xs v l h = h
arguments_plain (e ∷ es) p xs v l h =
    let b = takes_place v.site.text.outline p (length xs) in
    given_on IsPlainSlot ArePlain (argument_of e b v l)
    (λ x. arguments_in es p (xs ++ x ∷ []) v) (argument_plain e b v l)
    (λ x m q. arguments_plain es p (xs ++ x ∷ []) v m (plain_more xs x h q))

-- FRAMES

good_on : {A B : Type 0} (Q : A → Type 0) (R : B → Type 0) (r : Result A BlockFault)
    (go : A → Result B BlockFault) → OnGood Q r → ((a : A) → Q a → OnGood R (go a))
    → OnGood R (on_ok r go)
good_on Q R (Ok a) go q h = h a q
good_on Q R (Err f) go q h = tt

taken_plain : (r : Result Value BlockFault)
    → OnGood IsPlainSlot (on_ok r (λ w. Ok (slot.Value w)))
taken_plain (Ok w) = tt
taken_plain (Err f) = tt

given_plain : (k : Option Kind) (x : Slot) → IsPlainSlot x → OnGood IsPlainSlot (given k x)
given_plain (Some k) (slot.Value v) h = taken_plain (taken k v)
given_plain (Some k) (slot.Place p) h = tt
given_plain (Some k) (slot.Instance n) h = h
given_plain None x h = h

pub frame_plain : (o : Outline) (ps : List ℕ) (xs : List Slot) → ArePlain xs
    → OnGood IsPlain (frame_of o ps xs)
frame_plain o [] xs h = tt
frame_plain o (p ∷ ps) [] h = good_on IsPlain IsPlain (frame_of o ps [])
    (λ f. Ok (unset o p ∷ f)) (frame_plain o ps [] tt) (λ f g. (tt, g))
frame_plain o (p ∷ ps) (x ∷ xs) h =
    good_on IsPlainSlot IsPlain (given (kind_at o p) x)
    (λ y. on_ok (frame_of o ps xs) (λ f. Ok (bound p y ∷ f))) (given_plain (kind_at o p) x h.0)
    (λ y q. good_on IsPlain IsPlain (frame_of o ps xs) (λ f. Ok (bound p y ∷ f))
    (frame_plain o ps xs h.1) (λ f g. (q, g)))
