-- Expressions as the program evaluates them, step by step.
use Rattle.std.specs.Prelude.{◌≡◌, ℕ, ℤ, List, [], Result, Ok, Err}
use Rattle.est_syntax.specs.declared.expression.Expr.{Expr}
use Rattle.est_syntax.specs.declared.expression.Factor.{Factor}
use Rattle.est_syntax.specs.declared.expression.Member.{Member}
use Rattle.est_syntax.specs.declared.expression.ProductStep.{ProductStep}
use Rattle.est_syntax.specs.declared.expression.Selector.{Selector}
use Rattle.est_syntax.specs.declared.name.Used.{Used}
use Rattle.est_values.specs.declared.value.Value.{Value}
use Rattle.mean_blocks.specs.declared.stop.Stop.{Stop}
use Rattle.mean_blocks.specs.AnswersOfCalls.{Answers}
use Rattle.mean_blocks.specs.ExpressionValues.{factor_of, members_in, subscripts_in, values_in}
use Rattle.mean_blocks.specs.ExpressionValues.{variable_of, selected_in}
use Rattle.mean_blocks.specs.FunctionCalls.{called, part_of_result}
use Rattle.mean_blocks.specs.Frames.{whole}
use Rattle.mean_blocks.specs.declared.frame.Holder.TheVariants as holder
use Rattle.est_syntax.specs.declared.kind.Kind.{Kind}
use Rattle.mean_blocks.specs.NamesInRuns.{dims_at}
use Rattle.mean_blocks.specs.Outcome.{Outcome, Done, ◌>>=◌, give, lift}
use Rattle.mean_blocks.specs.ReachedVariables.{Reached, Component, Module, loaded}
use Rattle.mean_blocks.specs.SetOperators.{set_of}
use Rattle.mean_blocks.specs.ValueOperators.{joined, negated}
use Rattle.mean_blocks.specs.WorkingState.{View, Counts}
use Rattle.plain_values.specs.GatheredMembers.{IsGathered}
use Rattle.plain_values.specs.declared.sets.Gathered.{Gathered}

-- a step of a product
abbrev pub with_factor : ProductStep → Value → View → Counts Value
with_factor s a v = joined s.operator a (factor_of s.right v)

-- the other boolean than that of an operand
abbrev pub opposite : Factor → View → Counts Value
opposite f v = factor_of f v >>= negated

-- a set of these members
abbrev pub set_made : List Member → View → Counts Value
set_made ms v = members_in ms [] v >>= λ zs. lift (set_of zs)

-- the value of a variable
abbrev pub stored_value : Used → List Selector → View → Counts Value
stored_value u path v = variable_of u path v >>= loaded v

-- the result of a function, before its selectors
abbrev pub result_begun : ℕ → ℕ → Kind → Reached
result_begun n p k = Component (whole (holder.Instance n) p) k

-- the part of a result that selectors reach
abbrev pub function_part : ℕ → Kind → List Selector → Value → View → Counts Value
function_part p k path a v =
    selected_in path (result_begun v.site.instance p k) v >>= part_of_result a

-- the result of a function without arguments, with its selectors
abbrev pub function_value : ℕ → Kind → List Selector → View → Counts Value
function_value p k path v = called v p [] >>= λ a. function_part p k path a v

-- a module variable with more subscripts
abbrev pub module_at : List Expr → ℕ → List ℤ → View → Counts Reached
module_at es p zs v =
    subscripts_in es (dims_at v.site.text.outline p) zs v >>= λ ys. give (Module p ys)

-- the value of a function that is declared at a place
abbrev pub called_with : ℕ → List Expr → View → Counts Value
called_with p es v = values_in es [] v >>= called v p

-- the answer of a call that gathers members
abbrev pub Gathers : Outcome ℕ (List ℤ) → Result Gathered Stop → ℕ → Type 0
Gathers o (Ok g) n = (zs : List ℤ) × (IsGathered zs g × (o ≡ Done zs n))
Gathers o (Err e) n = Answers o (Err e) n

-- the answer of a call that writes what it yields in the place of a thing
abbrev pub answer_of : {A B E : Type 0} → Result A E → B → Result B E
answer_of (Ok a) b = Ok b
answer_of (Err e) b = Err e
