-- Transitions of a body as they are written out one after the other.
use Rattle.std.specs.Prelude.{◌≡◌, List, [], ◌∷◌, ◌++◌, Option, Some, unwrap_or}
use Rattle.std.specs.List.{AllZip, filter_map, flat_map}
use Rattle.est_syntax.specs.declared.body.Block.{out-Block}
use Rattle.est_syntax.specs.declared.transition.Clause.{Clause}
use Rattle.est_syntax.specs.declared.transition.Transition.{Transition, out-Transition}
use Rattle.est_meaning.specs.rule_scope.declared.declaration.Sort.TheVariants as sort
use Rattle.est_meaning.specs.rule_scope.Outline.{Outline}
use Rattle.est_meaning.specs.mean_blocks.NamesInRuns.{kind_at, places_of}
use Rattle.est_meaning.specs.ClauseContexts.{FullTransition, context_after, given_by, provided_in}
use Rattle.est_meaning.specs.ClauseContexts as guard
use Rattle.est_meaning.specs.TransitionChoices.{any_places}
use Rattle.plain_transitions.specs.declared.written.Fixed.{Fixed}
use Rattle.plain_transitions.specs.declared.written.Written.{Written}
use Rattle.plain_transitions.specs.declared.writing.LookedUp.{LookedUp}
use Rattle.plain_transitions.specs.WrittenTransitions.{IsWritten, kinds_held}
use Rattle.plain_transitions.specs.inside.HeldClauses.{Condition, referred_by, written_of}

-- what is provided in a context, where these conditions are given in its group
abbrev pub provided_by : List Condition → List Clause → guard.Condition
provided_by gs cs =
    unwrap_or (given_by (provided_in (flat_map (referred_by gs cs) cs)) cs) guard.Always

-- transitions after a context, where these conditions are given in their group
abbrev pub written_after : List Condition → List Clause → List Transition → List FullTransition
written_after gs cs [] = []
written_after gs cs (x ∷ xs) = let ds = context_after cs (out-Transition x).clauses in
    written_of gs ds (out-Transition x).block ∷ written_after gs ds xs

-- what is looked up for a transition that awaits this is so
pub record IsLookedUp (o : Outline) (x : FullTransition) (f : Option Fixed) (found : LookedUp)
    : Type 0 where
  pub parameters : (y : Fixed) → f ≡ Some y → found.parameters ≡ places_of o sort.Variable y.signal
  pub variables : found.variables ≡ any_places o x
  pub kinds : kinds_held found.kinds.items ≡ filter_map (kind_at o) (any_places o x)
  pub own : found.own ≡ places_of o sort.Variable (out-Block x.block).place

-- these transitions are written after what was written before
pub record AreAdded (o : Outline) (xs : List FullTransition) (old new : List Written) : Type 0 where
  pub are : (done : List FullTransition) → AllZip (IsWritten o) done old
      → AllZip (IsWritten o) (done ++ xs) new
