-- Calls of functions (ISO 7185, 6.6.2, 6.6.6 and 6.7.3).
use Rattle.std.specs.Prelude.{ℕ, ℤ, pos, ◌+ℤ◌, ◌-ℤ◌, int_lt, true, List, [], ◌∷◌, ◌++◌}
use Rattle.std.specs.Prelude.{Option, Some, None, Result, Ok, Err, if◌then◌else◌}
use Rattle.std.specs.Int.{int_rem_euclid}
use Rattle.std.specs.Option.{option_map_or}
use Rattle.est_syntax.specs.declared.kind.Kind.{Kind}
use Rattle.est_values.specs.declared.value.Value.{Value}
use Rattle.est_values.specs.declared.value.Value.TheVariants as value
use Rattle.est_values.specs.Integers.{times, negative}
use Rattle.est_values.specs.declared.types.Host.{Host}
use Rattle.est_values.specs.declared.types.Host.TheVariants as hosts
use Rattle.rule_declares.specs.declared.required.Required.{Required}
use Rattle.rule_declares.specs.declared.required.Required.TheVariants as required
use Rattle.rule_declares.specs.RequiredFunctions.{required_function}
use Rattle.rule_declares.specs.rule_scope.declared.declaration.Sort.TheVariants as sort
use Rattle.rule_declares.specs.rule_scope.declared.predeclared.PredeclaredName.{PredeclaredName}
use Rattle.rule_declares.specs.rule_scope.Outline.{Outline, entry_at}
use Rattle.rule_declares.specs.rule_scope.Uses.{is_sort}
use Rattle.mean_blocks.specs.declared.fault.BlockFault.{BlockFault}
use Rattle.mean_blocks.specs.declared.fault.BlockFault.TheVariants.{Undefined}
use Rattle.mean_blocks.specs.declared.frame.Binding.{Binding}
use Rattle.mean_blocks.specs.declared.frame.Slot.{Slot}
use Rattle.mean_blocks.specs.declared.frame.Slot.TheVariants as slot
use Rattle.mean_blocks.specs.Outcome.{Outcome, Done, Fault, Limit, ◌>>=◌, give, lift, known}
use Rattle.mean_blocks.specs.Outcome.{junk}
use Rattle.mean_blocks.specs.Outcome.{on_ok}
use Rattle.mean_blocks.specs.OrdinalOperators.{exact}
use Rattle.mean_blocks.specs.HostOrdinals.{within_host}
use Rattle.mean_blocks.specs.TakenValues.{taken, undefined_of}
use Rattle.mean_blocks.specs.TextByPlace.{routine_at, statements_of}
use Rattle.mean_blocks.specs.GlobalSituation.{Frame}
use Rattle.mean_blocks.specs.Frames.{slot_of, frame_at, value_in, existing}
use Rattle.est_values.specs.PartsOfValues.{part_at}
use Rattle.mean_blocks.specs.NamesInRuns.{Head, Constant, Function, kind_at, places_of}
use Rattle.mean_blocks.specs.WorkingState.{State, View, Counts}
use Rattle.mean_blocks.specs.ValueOperators.{defined}
use Rattle.mean_blocks.specs.ReachedVariables.{Reached, Component, loaded}

-- FRAMES OF ROUTINES

-- what a parameter is given: a value that it takes, or a place
abbrev pub given : Option Kind → Slot → Result Slot BlockFault
given (Some k) (slot.Value v) = on_ok (taken k v) (λ w. Ok (slot.Value w))
given _ x = Ok x

-- a name with what stands under it
abbrev pub bound : ℕ → Slot → Binding
bound p x = record { declared = p; slot = x }

-- the value with which a variable begins
abbrev pub first_value : Option Kind → Value
first_value None = value.Undefined
first_value (Some k) = undefined_of k

-- a variable that begins undefined
abbrev pub unset : Outline → ℕ → Binding
unset o p = bound p (slot.Value (first_value (kind_at o p)))

-- variables, of which the first are given these values and places in order
abbrev pub frame_of : Outline → List ℕ → List Slot → Result Frame BlockFault
frame_of o [] xs = Ok []
frame_of o (p ∷ ps) [] = on_ok (frame_of o ps []) (λ f. Ok (unset o p ∷ f))
frame_of o (p ∷ ps) (x ∷ xs) =
    on_ok (given (kind_at o p) x) (λ y. on_ok (frame_of o ps xs) (λ f. Ok (bound p y ∷ f)))

-- the result of a routine, which a function has, by the place of its name
abbrev pub results_of : Outline → ℕ → List ℕ
results_of o p = if is_sort sort.Function (entry_at o p) then p ∷ [] else []

-- the frame of a routine: its parameters, its variables, and its result
abbrev pub routine_frame : Outline → ℕ → List Slot → Result Frame BlockFault
routine_frame o p xs = frame_of o (places_of o sort.Variable p ++ results_of o p) xs

-- CALLS

-- the result of a function, whose frame is the only one
abbrev pub result_of : ℕ → Outcome State (Unit {0}) → Outcome ℕ Value
result_of p (Done t s) = (lift (value_in (slot_of p (frame_at s.frames 0))) >>= defined) s.left
result_of p (Fault f) = Fault f
result_of p Limit = Limit

-- A call of a function: its statements see the situation and their own frame alone, and of what
-- they do only the result and the count are left.
abbrev pub called : View → ℕ → List Slot → Counts Value
called v p xs = known (routine_at v.site.text p) >>= λ r.
    lift (routine_frame v.site.text.outline p xs) >>= λ f.
    λ n. result_of p (v.site.deeper v.site.instance true (statements_of r)
    (record { situation = v.situation; outs = []; frames = f ∷ []; left = n }))

-- the part of a result that selectors reach (profile: ISO 7185, 6.7.3, has results without parts)
abbrev pub part_of_result : Value → Reached → Counts Value
part_of_result a (Component p k) = lift (existing (part_at p.path a)) >>= defined
part_of_result a _ = junk

-- a constant, a function without arguments, or a variable, each with its selectors
abbrev pub valued : View → Head → Counts Reached → Counts Value
valued v (Constant z) reached = give (value.Ordinal z)
valued v (Function p k) reached = called v p [] >>= λ a. reached >>= part_of_result a
valued v h reached = reached >>= loaded v

-- an ordinal of the host of an argument, or a fault (ISO 7185, 6.6.6.4)
abbrev pub beside : Option Host → ℤ → Result ℤ BlockFault
beside None z = Err Undefined
beside (Some host) z = within_host host z

-- a predeclared function of an ordinal, which is of this host (ISO 7185, 6.6.6)
abbrev pub required_value : Required → Option Host → ℤ → Result ℤ BlockFault
required_value required.Ord host z = Ok z
required_value required.Chr host z = within_host hosts.Char z
required_value required.Succ host z = beside host (z +ℤ pos 1)
required_value required.Pred host z = beside host (z -ℤ pos 1)
required_value required.Abs host z = if int_lt z (pos 0) then exact (negative z) else Ok z
required_value required.Odd host z = Ok (int_rem_euclid z (pos 2))
required_value required.Sqr host z = exact (times z z)

-- the same by its name
abbrev pub required_by : PredeclaredName → Option Host → ℤ → Result ℤ BlockFault
required_by name host z =
    option_map_or (λ (f : Required). required_value f host z) (required_function name)
    (Err Undefined)
