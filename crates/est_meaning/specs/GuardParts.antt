-- The parts of the guard of a choice: its `from`, its `when`, its condition and its delay (ISO
-- 9074, 7: clauses).
use Rattle.std.specs.Prelude.{ℕ, ℤ, pos, int_le, Bool, true, false, not, ◌&&◌, nat_eq, List, []}
use Rattle.std.specs.Prelude.{◌∷◌, ◌++◌, map, Option, Some, None, is_some, unwrap_or}
use Rattle.std.specs.Prelude.{option_and_then, option_to_list, find, if◌then◌else◌}
use Rattle.std.specs.List.{flat_map, list_all, list_any}
use Rattle.std.specs.Option.{option_map, option_map_or}
use Rattle.est_syntax.specs.declared.expression.Expr.{Expr}
use Rattle.est_syntax.specs.declared.kind.Kind.{Kind}
use Rattle.est_syntax.specs.declared.name.Used.{Used}
use Rattle.est_syntax.specs.declared.transition.Most.{Most}
use Rattle.est_syntax.specs.declared.transition.Most.TheVariants as most
use Rattle.mean_blocks.specs.rule_scope.declared.declaration.Entry.{Entry}
use Rattle.mean_blocks.specs.rule_scope.declared.declaration.Sort.TheVariants as sort
use Rattle.mean_blocks.specs.rule_scope.Outline.{Outline, entry_at}
use Rattle.mean_blocks.specs.declared.situation.InteractionPoint.{InteractionPoint}
use Rattle.mean_blocks.specs.declared.situation.Item.{Item}
use Rattle.mean_blocks.specs.Outcome.{Outcome, Done, Fault, Limit, ◌>>=◌, lift}
use Rattle.mean_blocks.specs.OrdinalOperators.{is_true}
use Rattle.mean_blocks.specs.TakenValues.{within_kind}
use Rattle.mean_blocks.specs.TextByPlace.{Text}
use Rattle.mean_blocks.specs.GlobalSituation.{Frame, Situation, is_point}
use Rattle.mean_blocks.specs.NamesInRuns.{declared_at, dims_at, interaction_of, places_of}
use Rattle.mean_blocks.specs.WorkingState.{View}
use Rattle.mean_blocks.specs.ValueOperators.{ordinal}
use Rattle.mean_blocks.specs.ExpressionValues.{value_of}
use Rattle.mean_blocks.specs.InstancePoints.{point}
use Rattle.mean_blocks.specs.QueueEffects.{head_at}
use Rattle.mean_blocks.specs.BlockLevels.{most_levels}
use Rattle.mean_blocks.specs.SightLaws.{sight}
use Rattle.est_meaning.specs.ClauseContexts.{FullTransition, Awaited, Delay, from_of, when_of}
use Rattle.est_meaning.specs.ClauseContexts.{delay_of, condition_of, Condition, Always, Provided}
use Rattle.est_meaning.specs.ClauseContexts.{Otherwise}
use Rattle.est_meaning.specs.TransitionChoices.{bound_all, Choice}

-- PARTS
--
-- A part is an expression that yields an ordinal: a subscript of a `when`, a condition, or a bound
-- of a delay.

-- what comes of a part
abbrev pub Part : Type 0
Part = Outcome ℕ ℤ

-- what comes of an expression, which has the whole limit of statements for itself (profile)
abbrev pub part_of : ℕ → Expr → View → Part
part_of limit e v = (value_of e v >>= ordinal) limit

-- whether a part passes its limit, of statements or of levels of calls
abbrev pub is_limit : Part → Bool
is_limit Limit = true
is_limit _ = false

-- the ordinal of a part, if it has no fault and does not pass its limit
abbrev pub ordinal_by : Part → Option ℤ
ordinal_by (Done z n) = Some z
ordinal_by _ = None

-- the ordinals of parts, if each has one
abbrev pub ordinals_by : List Part → Option (List ℤ)
ordinals_by [] = Some []
ordinals_by (x ∷ xs) =
    option_and_then (λ z. option_map (λ zs. z ∷ zs) (ordinals_by xs)) (ordinal_by x)

-- whether a condition holds; one with a fault does not (profile)
abbrev pub is_met : Part → Bool
is_met (Done z n) = is_true z
is_met _ = false

-- whether a condition is false or has a fault
abbrev pub is_unmet : Part → Bool
is_unmet (Done z n) = not (is_true z)
is_unmet (Fault f) = true
is_unmet Limit = false

-- what parts of the guard of a choice see within these frames
abbrev pub seen_by : Text → Situation → Choice → List Frame → View
seen_by t s c frames = sight t c.row.number false most_levels s frames

-- FROM

-- the states that the name of this declaration stands for: those of a state set, or the state
abbrev pub states_at : Outline → ℕ → List ℕ
states_at o p = unwrap_or (option_and_then (λ (e : Entry). e.states) (entry_at o p)) (p ∷ [])

-- the states that a name stands for
abbrev pub states_named : Outline → Used → List ℕ
states_named o u = option_map_or (states_at o) (declared_at o u) []

-- Whether a state fits the names of a `from`: it is one of those for which they stand. Where no
-- states are named each fits; where some are named, an instance without a state fits none.
abbrev pub fits_state : Outline → Option (List Used) → Option ℕ → Bool
fits_state o None state = true
fits_state o (Some us) None = false
fits_state o (Some us) (Some state) = list_any (nat_eq state) (flat_map (states_named o) us)

-- whether the `from` of a choice holds (ISO 9074, 7: from-clause)
abbrev pub is_from : Text → Choice → Bool
is_from t c = fits_state t.outline (from_of c.transition) c.row.state

-- WHEN

-- a subscript of an index type
abbrev pub subscript_of : ℕ → Kind → Expr → View → Part
subscript_of limit k e v = (value_of e v >>= ordinal >>= λ z. lift (within_kind k z)) limit

-- subscripts of index types, each of which is a part by itself
abbrev pub subscripts_of : ℕ → List Kind → List Expr → View → List Part
subscripts_of limit (k ∷ ks) (e ∷ es) v = subscript_of limit k e v ∷ subscripts_of limit ks es v
subscripts_of limit _ _ v = []

-- The subscripts of the interaction point of a `when` that is declared at a place. They see the
-- variables of the instance and the `any` variables, and none of the interaction's parameters.
abbrev pub subscripts_at : ℕ → Text → Situation → Choice → Awaited → ℕ → List Part
subscripts_at limit t s c w p = subscripts_of limit (unwrap_or (dims_at t.outline p) [])
    w.at.index (seen_by t s c (c.chosen ∷ []))

-- the subscripts of a `when`, if there is one
abbrev pub subscripts : ℕ → Text → Situation → Choice → Option Awaited → List Part
subscripts limit t s c None = []
subscripts limit t s c (Some w) =
    option_map_or (subscripts_at limit t s c w) (declared_at t.outline w.at.name) []

-- the interaction point of a `when` that is declared at a place, if each subscript has an ordinal
abbrev pub point_at : ℕ → Text → Situation → Choice → Awaited → ℕ → Option InteractionPoint
point_at limit t s c w p =
    option_map (point c.row.number p) (ordinals_by (subscripts_at limit t s c w p))

-- the interaction point of a `when`, if each subscript has an ordinal
abbrev pub awaited_point : ℕ → Text → Situation → Choice → Awaited → Option InteractionPoint
awaited_point limit t s c w =
    option_and_then (point_at limit t s c w) (declared_at t.outline w.at.name)

-- whether an item is the interaction of a name, and came through an interaction point
abbrev pub came_through : Outline → Used → InteractionPoint → Item → Bool
came_through o signal p i = is_point p i.at
    && option_map_or (nat_eq i.signal) (interaction_of o p.declared signal) false

-- the item that is awaited at an interaction point, if it is the first one of the queue; of a
-- common queue that may be one which came through another point
abbrev pub arrived_through : Text → Situation → Used → InteractionPoint → Option Item
arrived_through t s signal p =
    find (came_through t.outline signal p) (option_to_list (head_at t p s))

-- the item that a choice awaits, if it is there (ISO 9074, 7: when-clause)
abbrev pub awaited_item : ℕ → Text → Situation → Choice → Awaited → Option Item
awaited_item limit t s c w =
    option_and_then (arrived_through t s w.signal) (awaited_point limit t s c w)

-- the parameters of an interaction, with the values of an item
abbrev pub parameters_of : Outline → Item → Frame
parameters_of o i = bound_all (places_of o sort.Variable i.signal) i.values

-- what a choice sees beside its instance, if its `when` holds or it has none: its `any` variables,
-- and then the parameters of the interaction
abbrev pub frames_of : ℕ → Text → Situation → Choice → Option Awaited → Option (List Frame)
frames_of limit t s c None = Some (c.chosen ∷ [])
frames_of limit t s c (Some w) = option_map
    (λ i. c.chosen ∷ parameters_of t.outline i ∷ []) (awaited_item limit t s c w)

-- what the condition and the bounds of a choice see, if its `from` and its `when` hold
abbrev pub view_of : ℕ → Text → Situation → Choice → Option View
view_of limit t s c = if is_from t c
    then option_map (seen_by t s c) (frames_of limit t s c (when_of c.transition)) else None

-- PROVIDED

-- the conditions that are evaluated
abbrev pub conditions_in : Condition → List Expr
conditions_in Always = []
conditions_in (Provided e) = e ∷ []
conditions_in (Otherwise es) = es

-- whether what is provided holds: an `otherwise`, where each condition to which it refers is false
-- or has a fault (ISO 9074, 7: provided-clause)
abbrev pub is_provided : ℕ → Condition → View → Bool
is_provided limit Always v = true
is_provided limit (Provided e) v = is_met (part_of limit e v)
is_provided limit (Otherwise es) v = list_all (λ e. is_unmet (part_of limit e v)) es

-- DELAY

-- the later bound, if it is an expression of its own
abbrev pub most_in : Most → List Expr
most_in (most.Value e) = e ∷ []
most_in _ = []

-- the bounds of a delay, if there is one
abbrev pub bounds_in : Option Delay → List Expr
bounds_in None = []
bounds_in (Some d) = d.least ∷ most_in d.most

-- whether a part has an ordinal
abbrev pub is_done : Part → Bool
is_done p = is_some (ordinal_by p)

-- whether each bound of a delay has a value
abbrev pub has_bounds : ℕ → Option Delay → View → Bool
has_bounds limit d v = list_all (λ e. is_done (part_of limit e v)) (bounds_in d)

-- whether a bound is not above an age
abbrev pub is_reached : ℕ → Expr → ℕ → View → Bool
is_reached limit e age v = option_map_or (λ z. int_le z (pos age)) (ordinal_by (part_of limit e v))
    false

-- whether the earlier bound of a delay is reached at an age (ISO 9074, 7: delay-clause)
abbrev pub is_least_reached : ℕ → Delay → ℕ → View → Bool
is_least_reached limit d age v = is_reached limit d.least age v

-- whether the later bound is: of one bound alone it is that, and `*` is never reached
abbrev pub is_most_reached : ℕ → Delay → ℕ → View → Bool
is_most_reached limit d age v = by d.most
  where
    by : Most → Bool
    by most.Same = is_reached limit d.least age v
    by (most.Value e) = is_reached limit e age v
    by most.Never = false

-- ALL PARTS

-- the condition and the bounds of a transition, within a view
abbrev pub asked : ℕ → FullTransition → View → List Part
asked limit x v =
    map (λ e. part_of limit e v) (conditions_in (condition_of x) ++ bounds_in (delay_of x))

-- The parts of the guard of a choice that are evaluated: the subscripts of its `when`, where its
-- `from` holds; its conditions and its bounds, where both hold (profile). A part is evaluated
-- whatever comes of those before it.
abbrev pub parts_of : ℕ → Text → Situation → Choice → List Part
parts_of limit t s c = (if is_from t c then subscripts limit t s c (when_of c.transition) else [])
    ++ option_map_or (asked limit c.transition) (view_of limit t s c) []
