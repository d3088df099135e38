-- Variables with their selectors (ISO 7185, 6.5; ISO 9074, module variables and exported
-- variables).
use Rattle.std.specs.Prelude.{ℕ, ℤ, List, [], ◌∷◌, ◌++◌, length, Option, Some, None, Result, Ok}
use Rattle.std.specs.Prelude.{Err}
use Rattle.std.specs.Prelude.{slice_get, option_and_then, if◌then◌else◌}
use Rattle.std.specs.Option.{option_map}
use Rattle.est_syntax.specs.declared.kind.Kind.{Kind}
use Rattle.est_values.specs.declared.value.Value.{Value}
use Rattle.est_syntax.specs.declared.name.Used.{Used}
use Rattle.rule_declares.specs.rule_scope.Outline.{Outline}
use Rattle.mean_blocks.specs.declared.fault.BlockFault.{BlockFault}
use Rattle.mean_blocks.specs.declared.fault.BlockFault.TheVariants.{NoModule}
use Rattle.mean_blocks.specs.declared.frame.Holder.TheVariants as holder
use Rattle.mean_blocks.specs.declared.frame.Place.{Place}
use Rattle.mean_blocks.specs.declared.frame.Slot.{Slot}
use Rattle.mean_blocks.specs.declared.frame.Slot.TheVariants as slot
use Rattle.mean_blocks.specs.declared.situation.Row.{Row}
use Rattle.mean_blocks.specs.declared.situation.Element.{Element}
use Rattle.mean_blocks.specs.Outcome.{◌>>=◌, give, junk, lift, known}
use Rattle.mean_blocks.specs.TakenValues.{component_at, within_kind}
use Rattle.mean_blocks.specs.GlobalSituation.{held, Situation, row_of, lives}
use Rattle.mean_blocks.specs.Frames.{found, place_of, whole, component_of, read_at}
use Rattle.mean_blocks.specs.NamesInRuns.{Head, Function, Variable, Modules, kind_at}
use Rattle.mean_blocks.specs.NamesInRuns.{declared_in_header, array_in, field_in}
use Rattle.mean_blocks.specs.WorkingState.{View, Counts}
use Rattle.mean_blocks.specs.ValueOperators.{defined}

-- what a name with some selectors has reached: a variable of a kind, or module variables with these
-- subscripts
pub data Reached : Type 0 where
  Component : Place → Kind → Reached
  Module : ℕ → List ℤ → Reached

-- where a variable begins
abbrev pub variable_begun : View → Head → Counts Reached
variable_begun v (Variable p k) = give (Component (place_of v.site.instance v.frames p) k)
variable_begun v (Function p k) = give (Component (place_of v.site.instance v.frames p) k)
variable_begun v (Modules p) = give (Module p [])
variable_begun v _ = junk

-- where what a name stands for begins in an expression: of a function, its result as a whole
abbrev pub value_begun : View → Head → Counts Reached
value_begun v (Function p k) = give (Component (whole (holder.Instance v.site.instance) p) k)
value_begun v h = variable_begun v h

-- the instance that the name of an `all` stands for, and else that of an element
abbrev pub instance_by : Option (ℕ × Slot) → Option ℕ → Option ℕ
instance_by (Some (n, slot.Instance i)) other = Some i
instance_by _ other = other

-- an instance that lives
abbrev pub living : Situation → Option ℕ → Result ℕ BlockFault
living s None = Err NoModule
living s (Some n) = if lives s n then Ok n else Err NoModule

-- the number that an element of a module variable of an instance was given last, if it was
abbrev pub held_in : Situation → ℕ → Element → Option ℕ
held_in s n e = option_and_then (λ (r : Row). held e r.children) (row_of s n)

-- the child that a module variable with its subscripts holds (ISO 9074, module variables)
abbrev pub child_of : View → ℕ → List ℤ → Result ℕ BlockFault
child_of v p zs = living v.situation (instance_by (found p v.frames)
    (held_in v.situation v.site.instance (record { declared = p; index = zs })))

-- a variable that is exported by an instance
abbrev pub exported : Outline → ℕ → ℕ → Counts Reached
exported o child p = known (option_map (Component (whole (holder.Instance child) p)) (kind_at o p))

-- a field of a record, or an exported variable of a child
abbrev pub with_field : View → Used → Reached → Counts Reached
with_field v u (Component p k) = known (option_map
    (λ (f : ℕ × Kind). Component (component_of f.0 p) f.1) (field_in k u))
with_field v u (Module p zs) = lift (child_of v p zs) >>= λ n.
    known (declared_in_header v.site.text.outline p u) >>= λ d.
    exported v.site.text.outline n d

-- a component of an array
abbrev pub with_component : Reached → ℤ → Counts Reached
with_component (Component p k) z = known (array_in k) >>= λ ks.
    lift (component_at ks.0 z) >>= λ n. give (Component (component_of n p) ks.1)
with_component _ z = junk

-- a subscript more, of these index types
abbrev pub with_subscript : Option (List Kind) → List ℤ → ℤ → Counts (List ℤ)
with_subscript None zs z = junk
with_subscript (Some ks) zs z = known (slice_get ks (length zs)) >>= λ k.
    lift (within_kind k z) >>= λ x. give (zs ++ x ∷ [])

-- the value of a variable
abbrev pub loaded : View → Reached → Counts Value
loaded v (Component p k) = lift (read_at p v.situation v.frames) >>= defined
loaded v _ = junk

-- the place of a variable
abbrev pub placed : Reached → Counts Slot
placed (Component p k) = give (slot.Place p)
placed _ = junk
