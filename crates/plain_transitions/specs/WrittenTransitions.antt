-- Transitions with all their clauses, as the program holds them: each clause is looked up once.
use Rattle.std.specs.Prelude.{◌≡◌, ℕ, false, List, map, flat_map, Option, Some, None}
use Rattle.std.specs.Prelude.{option_and_then}
use Rattle.std.specs.Borrow.{Bor}
use Rattle.std.specs.List.{filter_map, list_any}
use Rattle.std.specs.Option.{option_map}
use Rattle.est_syntax.specs.declared.body.Block.{out-Block}
use Rattle.est_syntax.specs.declared.expression.Expr.{Expr}
use Rattle.est_syntax.specs.declared.kind.Kind.{Kind}
use Rattle.est_meaning.specs.rule_scope.declared.declaration.Sort.TheVariants as sort
use Rattle.est_meaning.specs.rule_scope.Outline.{Outline}
use Rattle.est_meaning.specs.mean_blocks.NamesInRuns.{declared_at, interaction_of}
use Rattle.est_meaning.specs.mean_blocks.NamesInRuns.{kind_at, places_of}
use Rattle.est_meaning.specs.mean_blocks.WorkingState.{View}
use Rattle.est_meaning.specs.ClauseContexts.{FullTransition, from_of, to_of, when_of}
use Rattle.est_meaning.specs.ClauseContexts.{delay_of, Awaited, Delay, condition_of}
use Rattle.est_meaning.specs.ClauseContexts.{Condition, Always, Provided, Otherwise}
use Rattle.est_meaning.specs.GuardParts.{states_named, is_limit, subscripts_of}
use Rattle.est_meaning.specs.TransitionChoices.{any_places}
use Rattle.est_meaning.specs.TransitionSelection.{priority_in}
use Rattle.plain_transitions.specs.declared.written.Awaits.{Awaits}
use Rattle.plain_transitions.specs.declared.written.Bounds.{Bounds}
use Rattle.plain_transitions.specs.declared.written.Fixed.{Fixed}
use Rattle.plain_transitions.specs.declared.written.Provision.{Provision}
use Rattle.plain_transitions.specs.declared.written.Provision.TheVariants as provision
use Rattle.plain_transitions.specs.declared.written.Written.{Written}

-- the interaction that is awaited
abbrev pub awaited_of : Awaits → Awaited
awaited_of a = record { at = a.at.now; signal = a.signal.now }

-- no subscript of a `when` passes its limit, whatever it sees
abbrev pub NeverPass : Outline → List Expr → Type 0
NeverPass o es = (limit : ℕ) (ks : List Kind) (v : View) → v.site.text.outline ≡ o
    → list_any is_limit (subscripts_of limit ks es v) ≡ false

-- this, where it is there, is what a `when` awaits whose subscripts never pass their limit
abbrev pub IsFixed : Outline → Option Awaited → Option Fixed → Type 0
IsFixed o w None = Unit {0}
IsFixed o None (Some x) = ⊥
IsFixed o (Some w) (Some x) = NeverPass o w.at.index × (declared_at o w.at.name ≡ Some x.point)
    × (interaction_of o x.point w.signal ≡ Some x.signal)

-- the bounds of a delay
abbrev pub bounds_of : Bounds → Delay
bounds_of b = record { least = b.least.now; most = b.most.now }

-- the expressions that are referred to
abbrev pub referred : List (Bor Expr) → List Expr
referred es = map (λ (e : Bor Expr). e.now) es

-- the kinds that are referred to
abbrev pub kinds_held : List (Bor Kind) → List Kind
kinds_held ks = map (λ (k : Bor Kind). k.now) ks

-- what is provided
abbrev pub provided_of : Provision → Condition
provided_of provision.Always = Always
provided_of (provision.Provided e) = Provided e.now
provided_of (provision.Otherwise es) = Otherwise (referred es.items)

-- the transition is held with all that its clauses give
pub record IsWritten (o : Outline) (x : FullTransition) (w : Written) : Type 0 where
  pub states : w.states ≡ option_map (λ us. flat_map (states_named o) us) (from_of x)
  pub awaits : option_map awaited_of w.awaits ≡ when_of x
  pub fixed : IsFixed o (when_of x) w.fixed
  pub parameters : (y : Fixed) → w.fixed ≡ Some y
      → w.parameters ≡ places_of o sort.Variable y.signal
  pub variables : w.variables ≡ any_places o x
  pub kinds : kinds_held w.kinds.items ≡ filter_map (kind_at o) (any_places o x)
  pub condition : provided_of w.condition ≡ condition_of x
  pub delay : option_map bounds_of w.delay ≡ delay_of x
  pub priority : w.priority ≡ priority_in o x
  pub next_state : w.next_state ≡ option_and_then (declared_at o) (to_of x)
  pub block : w.block.now ≡ x.block
  pub own : w.own ≡ places_of o sort.Variable (out-Block x.block).place
