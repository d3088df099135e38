-- Instances that are begun and released (ISO 9074, init-statement and release-statement).
use Rattle.std.specs.Prelude.{ℕ, ◌+◌, ℤ, Bool, not, nat_eq, nat_lt, List, [], ◌∷◌, map}
use Rattle.std.specs.Prelude.{◌++◌, Option, Some, None, Result, Ok, Err, unwrap_or}
use Rattle.std.specs.Prelude.{option_and_then, if◌then◌else◌}
use Rattle.std.specs.List.{filter, flat_map, list_any}
use Rattle.std.specs.Option.{option_map}
use Rattle.rule_declares.specs.rule_scope.declared.declaration.Sort.TheVariants as sort
use Rattle.rule_declares.specs.rule_scope.Outline.{Outline}
use Rattle.mean_blocks.specs.declared.fault.BlockFault.{BlockFault}
use Rattle.mean_blocks.specs.declared.fault.BlockFault.TheVariants.{TooMany}
use Rattle.mean_blocks.specs.declared.frame.Slot.{Slot}
use Rattle.mean_blocks.specs.declared.situation.InteractionPoint.{InteractionPoint}
use Rattle.mean_blocks.specs.declared.situation.Element.{Element}
use Rattle.mean_blocks.specs.declared.situation.Holding.{Holding}
use Rattle.mean_blocks.specs.declared.situation.Row.{Row}
use Rattle.mean_blocks.specs.Outcome.{on_ok}
use Rattle.mean_blocks.specs.TextByPlace.{Text}
use Rattle.mean_blocks.specs.GlobalSituation.{holding, Map, Frame, QueueName, Own, Shared}
use Rattle.mean_blocks.specs.GlobalSituation.{Situation, with_row}
use Rattle.mean_blocks.specs.NamesInRuns.{header_at, places_of}
use Rattle.mean_blocks.specs.FunctionCalls.{frame_of}
use Rattle.mean_blocks.specs.InstancePoints.{external_of, indices_of}
use Rattle.mean_blocks.specs.LinkEffects.{each, detached_above, disconnected}

-- INIT

-- the greatest number of an instance
abbrev pub most_instances : ℕ
most_instances = 999999999

-- the variables that the header of a body declares: parameters, and then exported ones
abbrev pub header_variables : Outline → ℕ → List ℕ
header_variables o body = unwrap_or (option_map (places_of o sort.Variable) (header_at o body)) []

-- the variables of an instance with this body
abbrev pub variables_of : Outline → ℕ → List ℕ
variables_of o body = header_variables o body ++ places_of o sort.Variable body

-- an element of a module variable, which holds nothing
abbrev pub empty_element : ℕ → List ℤ → Holding
empty_element p zs = record { element = record { declared = p; index = zs }; number = None }

-- the elements of a module variable, which hold nothing
abbrev pub empty_elements : Outline → ℕ → List Holding
empty_elements o p = map (empty_element p) (indices_of o p)

-- a new instance, with nothing in its module variables
abbrev pub new_row : Outline → ℕ → ℕ → ℕ → Frame → Row
new_row o number parent body variables = record {
  number = number;
  parent = parent;
  body = body;
  state = None;
  variables = variables;
  children = flat_map (empty_elements o) (places_of o sort.ModuleVariable body);
}

-- the situation with the next instance
abbrev pub with_next : Outline → ℕ → ℕ → Frame → Situation → Situation
with_next o parent body f s = record s {
  rows = s.rows ++ new_row o s.next parent body f ∷ [];
  next = s.next + 1;
}

-- an element of an instance holds another instance
abbrev pub holds : Element → ℕ → Row → Row
holds e n r = record r { children = holding e n r.children }

-- The situation with the next instance, whose parameters have these values, in an element of the
-- instance that begins it. That there are too many comes first.
abbrev pub born : Text → ℕ → Element → ℕ → List Slot → Situation → Result Situation BlockFault
born t parent e body xs s = if nat_lt most_instances s.next then Err TooMany else
    on_ok (frame_of t.outline (variables_of t.outline body) xs)
    (λ f. Ok (with_row parent (holds e s.next) (with_next t.outline parent body f s)))

-- an instance is in a state, where one is named (ISO 9074, initialization-part)
abbrev pub in_state : Option ℕ → Row → Row
in_state None r = r
in_state (Some state) r = record r { state = Some state }

-- RELEASE

-- whether an instance is one of these
abbrev pub is_among : List ℕ → ℕ → Bool
is_among ns n = list_any (nat_eq n) ns

-- these instances and their descendants: in the rows numbers ascend, so a parent stands before its
-- children
abbrev pub descendants : List ℕ → List Row → List ℕ
descendants ns [] = ns
descendants ns (r ∷ rs) = descendants (if is_among ns r.parent then ns ++ r.number ∷ [] else ns) rs

-- the instance of a queue
abbrev pub owner : QueueName → ℕ
owner (Own p) = p.instance
owner (Shared n) = n

-- an interaction point that is of none of these instances
abbrev pub point_without : List ℕ → InteractionPoint → Option InteractionPoint
point_without ns p = if is_among ns p.instance then None else Some p

-- the links of others than these instances
abbrev pub links_without : List ℕ → Map InteractionPoint InteractionPoint
    → Map InteractionPoint InteractionPoint
links_without ns m = λ p. if is_among ns p.instance then None
    else option_and_then (point_without ns) (m p)

-- the situation without these instances, their queues, links and stamps
abbrev pub without : List ℕ → Situation → Situation
without ns s = record s {
  rows = filter (λ (r : Row). not (is_among ns r.number)) s.rows;
  peer = links_without ns s.peer;
  down = links_without ns s.down;
  queues = λ q. if is_among ns (owner q) then [] else s.queues q;
  stamps = λ k. if is_among ns k.instance then None else s.stamps k;
}

-- an external interaction point of a child is detached and disconnected
abbrev pub untied : Text → InteractionPoint → Situation → Situation
untied t p s = disconnected p (detached_above t p s)

-- a child is released: its external interaction points are untied (the order is profile), and it
-- goes with its descendants
abbrev pub released : Text → ℕ → Situation → Situation
released t n s = let u = each (untied t) (external_of t.outline s n) s in
    without (descendants (n ∷ []) u.rows) u
