-- What the clauses of a choice say, one by one.
use Rattle.std.specs.Prelude.{◌≡◌, ℕ, Bool, true, false, ◌&&◌, ◌||◌, nat_eq, List, [], ◌∷◌, ◌++◌}
use Rattle.std.specs.Prelude.{map, slice_get, Option, Some, None, option_and_then}
use Rattle.std.specs.List.{list_any}
use Rattle.std.specs.Option.{option_map_or}
use Rattle.est_meaning.specs.mean_blocks.declared.situation.InteractionPoint.{InteractionPoint}
use Rattle.est_meaning.specs.mean_blocks.declared.situation.Item.{Item}
use Rattle.est_meaning.specs.rule_scope.declared.declaration.Sort.TheVariants as sort
use Rattle.est_meaning.specs.rule_scope.Outline.{Outline}
use Rattle.est_meaning.specs.mean_blocks.NamesInRuns.{places_of}
use Rattle.est_meaning.specs.mean_blocks.TextByPlace.{Text}
use Rattle.est_meaning.specs.mean_blocks.GlobalSituation.{Frame, Situation}
use Rattle.est_meaning.specs.mean_blocks.WorkingState.{View}
use Rattle.est_meaning.specs.ClauseContexts.{Awaited, Condition, Delay}
use Rattle.est_meaning.specs.TransitionChoices.{Choice}
use Rattle.est_meaning.specs.GuardParts.{is_limit, part_of, asked, subscripts, frames_of}
use Rattle.est_meaning.specs.GuardParts.{seen_by}
use Rattle.est_meaning.specs.GuardParts.{awaited_point, parameters_of}
use Rattle.est_meaning.specs.GuardParts.{conditions_in, is_provided, bounds_in, has_bounds}
use Rattle.est_meaning.specs.GuardParts.{is_least_reached, is_most_reached}
use Rattle.est_meaning.specs.TransitionSelection.{holds, holds_least, holds_most, is_waited}
use Rattle.plain_queues.specs.plain_systems.declared.system.Waiting.{Waiting}
use Rattle.plain_transitions.specs.WrittenTransitions.{IsFixed, awaited_of}
use Rattle.plain_transitions.specs.declared.written.Awaits.{Awaits}
use Rattle.plain_transitions.specs.declared.written.Fixed.{Fixed}
use Rattle.plain_transitions.specs.declared.written.Written.{Written}
use Rattle.plain_clauses.specs.JudgedGuards.{IsOf}
use Rattle.plain_clauses.specs.declared.candidate.Candidate.{Candidate}
use Rattle.plain_clauses.specs.declared.met.Met.{Met}
use Rattle.plain_clauses.specs.declared.ages.Waited.{Waited}
use Rattle.plain_clauses.specs.declared.sights.Sight.{Sight}
use Rattle.plain_clauses.specs.declared.verdict.Verdict.{Verdict}

-- WHEN

-- a choice is one of this instance, whose `any` variables are the only frame
pub record IsBefore (instance : ℕ) (frames : List Frame) (c : Choice) : Type 0 where
  pub instance_is : c.row.number ≡ instance
  pub frames_are : c.chosen ∷ [] ≡ frames

-- these frames are seen, if there are some to see
abbrev pub AreFrames : Option (List Frame) → List Frame → Bool → Type 0
AreFrames seen frames true = seen ≡ Some frames
AreFrames seen frames false = seen ≡ None

-- this is the point at which an interaction is taken
abbrev pub IsPoint : Option InteractionPoint → Option InteractionPoint → Bool → Type 0
IsPoint at taken true = taken ≡ at
IsPoint at taken false = Unit {0}

-- what a choice sees and takes that awaits this
pub record IsArrival (limit : ℕ) (t : Text) (s : Situation) (c : Choice) (w : Option Awaited)
    (frames : List Frame) (x : Sight) : Type 0 where
  pub frames_are : AreFrames (frames_of limit t s c w) frames x.holds
  pub point_is : IsPoint (option_and_then (awaited_point limit t s c) w) x.taken x.holds
  pub passes_is : x.passes ≡ list_any is_limit (subscripts limit t s c w)

-- this item, if there is one, is what a choice takes at an interaction point, and its
-- parameters are seen after the frames before
abbrev pub Takes : Outline → InteractionPoint → Option Item → List Frame → List Frame → Sight
    → Type 0
Takes o p None before frames x = x.holds ≡ false
Takes o p (Some i) before frames x = (x.holds ≡ true)
    × ((x.taken ≡ Some p) × (frames ≡ before ++ parameters_of o i ∷ []))

-- a transition has the places of the parameters of what it awaits, where that is known
abbrev pub AreParameters : Outline → Written → Type 0
AreParameters o x = (y : Fixed) → x.fixed ≡ Some y
    → x.parameters ≡ places_of o sort.Variable y.signal

-- what a transition is known to await is this, and it has the places of the parameters
pub record IsKnown (o : Outline) (a : Awaits) (x : Written) : Type 0 where
  pub fixed : IsFixed o (Some (awaited_of a)) x.fixed
  pub parameters : AreParameters o x

-- whether an item is what an instance awaits here, whatever the subscripts of the interaction point
-- are through which it came
abbrev pub is_awaited : ℕ → Fixed → Item → Bool
is_awaited n f i =
    nat_eq n i.at.instance && (nat_eq f.point i.at.declared && nat_eq i.signal f.signal)

-- whether the first item of a queue is
abbrev pub is_awaited_first : ℕ → Fixed → Waiting → Bool
is_awaited_first n f w = option_map_or (is_awaited n f) (slice_get w.items 0) false

-- PROVIDED

-- whether what is provided holds, and whether a condition passes its limit
pub record IsMet (limit : ℕ) (x : Condition) (v : View) (m : Met) : Type 0 where
  pub holds_is : m.holds ≡ is_provided limit x v
  pub passes_is : m.passes ≡ list_any is_limit (map (λ e. part_of limit e v) (conditions_in x))

-- DELAY

-- whether a delay has its bounds, whether each is reached at an age, and whether one passes its
-- limit
pub record IsWaited (limit : ℕ) (d : Option Delay) (age : Option ℕ) (v : View) (x : Waited)
    : Type 0 where
  pub valued_is : x.valued ≡ has_bounds limit d v
  pub least_is : x.least ≡ is_waited (λ y n. is_least_reached limit y n v) d age
  pub most_is : x.most ≡ is_waited (λ y n. is_most_reached limit y n v) d age
  pub passes_is : x.passes ≡ list_any is_limit (map (λ e. part_of limit e v) (bounds_in d))

-- ALL OF THEM

-- what the condition and the delay of a choice say, where some part may have passed its limit
-- before
pub record IsJudged (limit : ℕ) (s : Situation) (c : Choice) (v : View) (passed : Bool)
    (x : Verdict) : Type 0 where
  pub passes_is : x.passes ≡ (passed || list_any is_limit (asked limit c.transition v))
  pub enabled_is : x.enabled ≡ holds limit c v
  pub offered_is : x.offered ≡ holds_least limit s c v
  pub due_is : x.due ≡ holds_most limit s c v

-- the same of each choice of a candidate, which sees these frames
abbrev pub AreJudged : ℕ → Text → Situation → List Frame → Candidate → Bool → Verdict → Type 0
AreJudged limit t s frames x passed v = (chosen : Frame) (c : Choice) → IsOf t x chosen c
    → IsJudged limit s c (seen_by t s c frames) passed v
