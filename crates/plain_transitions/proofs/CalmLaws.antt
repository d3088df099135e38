-- Evaluations that never pass their limit: names alone, what is one operand alone, and subscripts.
use Rattle.std.proofs.Common.{◌≡◌, refl, sym, ap, ◌∙◌, ℕ, false, ◌||◌, List, [], ◌∷◌}
use Rattle.std.proofs.Common.{None, Result, Ok, Err, ℤ}
use Rattle.std.specs.List.{list_any}
use Rattle.est_syntax.specs.declared.expression.Expr.{Expr, out-Expr}
use Rattle.est_syntax.specs.declared.expression.Factor.{Factor}
use Rattle.est_syntax.specs.declared.expression.Factor.TheVariants as factor
use Rattle.est_syntax.specs.declared.expression.Selector.{Selector}
use Rattle.est_syntax.specs.declared.expression.Simple.{Simple, out-Simple}
use Rattle.est_syntax.specs.declared.expression.Term.{Term, out-Term}
use Rattle.est_syntax.specs.declared.kind.Kind.{Kind}
use Rattle.est_syntax.specs.declared.name.Used.{Used}
use Rattle.est_values.specs.declared.value.Value.{Value}
use Rattle.est_meaning.specs.rule_scope.Outline.{Outline}
use Rattle.est_meaning.specs.mean_blocks.declared.fault.BlockFault.{BlockFault}
use Rattle.est_meaning.specs.mean_blocks.Outcome.{Outcome, Done, Fault, Limit, onward, ◌>>=◌}
use Rattle.est_meaning.specs.mean_blocks.Outcome.{give, lift}
use Rattle.est_meaning.specs.mean_blocks.TakenValues.{within_kind}
use Rattle.est_meaning.specs.mean_blocks.Frames.{read_at, place_of}
use Rattle.est_meaning.specs.mean_blocks.NamesInRuns.{Head, Constant, Variable, head}
use Rattle.est_meaning.specs.mean_blocks.WorkingState.{View, Counts}
use Rattle.est_meaning.specs.mean_blocks.ValueOperators.{ordinal, ordinal_in, defined, defined_in}
use Rattle.est_meaning.specs.mean_blocks.ValueOperators.{signed}
use Rattle.est_meaning.specs.mean_blocks.ReachedVariables.{value_begun}
use Rattle.est_meaning.specs.mean_blocks.FunctionCalls.{valued}
use Rattle.est_meaning.specs.mean_blocks.ExpressionValues.{value_of, simple_of, term_of, factor_of}
use Rattle.est_meaning.specs.mean_blocks.ExpressionValues.{related_in, sums_in, products_in}
use Rattle.est_meaning.specs.mean_blocks.ExpressionValues.{variable_value, selected_in}
use Rattle.est_meaning.proofs.of_mean_blocks.ExpressionLayers.{value_at, simple_at, term_at}
use Rattle.est_meaning.proofs.of_mean_blocks.ExpressionLayers.{variable_at}
use Rattle.est_meaning.specs.GuardParts.{Part, is_limit, subscripts_of}
use Rattle.plain_transitions.specs.WrittenTransitions.{NeverPass}
use Rattle.plain_transitions.specs.inside.CalmEvaluations.{IsCalm}

-- OUTCOMES

lifted : {A : Type 0} (r : Result A BlockFault) (n : ℕ) → lift r n ≡ Limit → ⊥
lifted (Ok a) n h = cc
lifted (Err f) n h = cc

-- where neither of two evaluations passes its limit
both : {A B : Type 0} (x : Outcome ℕ A) (go : A → Counts B) → (x ≡ Limit → ⊥)
    → ((a : A) (n : ℕ) → go a n ≡ Limit → ⊥) → onward x go ≡ Limit → ⊥
both (Done a n) go f g h = g a n h
both (Fault e) go f g h = cc
both Limit go f g h = f refl

-- what gives a thing at last, and nothing else after it
given : {A : Type 0} (x : Outcome ℕ A) → onward x give ≡ x
given (Done a n) = refl
given (Fault f) = refl
given Limit = refl

-- NAMES

-- what a name alone yields that stands for this
abbrev yielded : View → Head → Counts Value
yielded v h = valued v h (value_begun v h >>= λ r. selected_in [] r v)

named : (o : Outline) (u : Used) (h : Head) → h ≡ head o u
    → ((v : View) (n : ℕ) → yielded v h n ≡ Limit → ⊥) → IsCalm o (variable_value u [])
named o u h e f v n is g =
    f v n (ap (λ x. yielded v x n) (e ∙ ap (λ p. head p u) (sym is)) ∙ g)

pub constant_calm : (o : Outline) (u : Used) (z : ℤ) → Constant z ≡ head o u
    → IsCalm o (variable_value u [])
constant_calm o u z e = named o u (Constant z) e (λ v n h. cc)

pub variable_calm : (o : Outline) (u : Used) (p : ℕ) (k : Kind) → Variable p k ≡ head o u
    → IsCalm o (variable_value u [])
variable_calm o u p k e = named o u (Variable p k) e (λ v n.
    both (lift (read_at (place_of v.site.instance v.frames p) v.situation v.frames) n) defined
    (lifted (read_at (place_of v.site.instance v.frames p) v.situation v.frames) n)
    (λ a m. lifted (defined_in a) m))

-- ONE OPERAND ALONE

pub operand_calm : (o : Outline) (f : Factor) (u : Used) (path : List Selector) (place : ℕ)
    → f ≡ factor.Variable u path place → path ≡ [] → IsCalm o (variable_value u [])
    → IsCalm o (factor_of f)
operand_calm o f u path place e none h v n is g =
    h v n is (ap (λ l. variable_value u l v n) (sym none)
    ∙ sym (variable_at f u path place v n e) ∙ g)

pub product_calm : (o : Outline) (t : Term) → (out-Term t).rest ≡ []
    → IsCalm o (factor_of (out-Term t).first) → IsCalm o (term_of t)
product_calm o t none h v n is g =
    let x = factor_of (out-Term t).first v n in
    h v n is (sym (given x) ∙ ap (λ ss. onward x (λ a. products_in ss a v)) (sym none)
    ∙ sym (term_at t v n) ∙ g)

pub sum_calm : (o : Outline) (s : Simple) → (out-Simple s).sign ≡ None → (out-Simple s).rest ≡ []
    → IsCalm o (term_of (out-Simple s).first) → IsCalm o (simple_of s)
sum_calm o s unsigned none h v n is g =
    let x = term_of (out-Simple s).first v n in
    h v n is (sym (given x)
    ∙ (λ i. onward x (λ a. signed (sym unsigned i) a >>= λ b. sums_in (sym none i) b v))
    ∙ sym (simple_at s v n) ∙ g)

pub expression_calm : (o : Outline) (e : Expr) → (out-Expr e).relation ≡ None
    → IsCalm o (simple_of (out-Expr e).left) → IsCalm o (value_of e)
expression_calm o e none h v n is g =
    let x = simple_of (out-Expr e).left v n in
    h v n is (sym (given x) ∙ ap (λ r. onward x (λ a. related_in r a v)) (sym none)
    ∙ sym (value_at e v n) ∙ g)

-- SUBSCRIPTS

not_limit : (x : Part) → (x ≡ Limit → ⊥) → is_limit x ≡ false
not_limit (Done z n) h = refl
not_limit (Fault f) h = refl
not_limit Limit h = absurd (h refl)

pub no_more_pass : (o : Outline) (es : List Expr) → es ≡ [] → NeverPass o es
no_more_pass o es none limit ks v is =
    ap (λ l. list_any is_limit (subscripts_of limit ks l v)) none ∙ by ks
  where
    by : (js : List Kind) → list_any is_limit (subscripts_of limit js [] v) ≡ false
    by [] = refl
    by (j ∷ js) = refl

pub one_more_passes : (o : Outline) (es fs : List Expr) (e : Expr) → es ≡ e ∷ fs
    → IsCalm o (value_of e) → NeverPass o fs → NeverPass o es
one_more_passes o es fs e more h rest limit ks v is =
    ap (λ l. list_any is_limit (subscripts_of limit ks l v)) more ∙ by ks
  where
    one : (k : Kind) (x : Outcome ℕ Value) → (x ≡ Limit → ⊥)
        → is_limit (onward (onward x ordinal) (λ z. lift (within_kind k z))) ≡ false
    one k x calm = not_limit (onward (onward x ordinal) (λ z. lift (within_kind k z)))
        (both (onward x ordinal) (λ z. lift (within_kind k z))
        (both x ordinal calm (λ a n. lifted (ordinal_in a) n))
        (λ z n. lifted (within_kind k z) n))

    by : (js : List Kind) → list_any is_limit (subscripts_of limit js (e ∷ fs) v) ≡ false
    by [] = refl
    by (j ∷ js) = λ i. one j (value_of e v limit) (h v limit is) i || rest limit js v is i
