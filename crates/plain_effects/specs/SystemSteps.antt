-- Statements on instances and links as the program executes them, step by step.
use Rattle.std.specs.Prelude.{ℕ, ℤ, List, []}
use Rattle.mean_blocks.specs.rule_scope.Outline.{Outline}
use Rattle.est_syntax.specs.declared.body.Body.{out-Body}
use Rattle.est_syntax.specs.declared.expression.Access.{Access}
use Rattle.est_syntax.specs.declared.name.Used.{Used}
use Rattle.est_syntax.specs.declared.statement.Sending.{Sending}
use Rattle.est_values.specs.declared.value.Value.{Value}
use Rattle.mean_blocks.specs.declared.frame.Binding.{Binding}
use Rattle.mean_blocks.specs.declared.frame.Slot.{Slot}
use Rattle.mean_blocks.specs.declared.situation.Element.{Element}
use Rattle.mean_blocks.specs.declared.situation.InteractionPoint.{InteractionPoint}
use Rattle.mean_blocks.specs.declared.situation.Item.{Item}
use Rattle.mean_blocks.specs.ExpressionValues.{subscripts_in, values_in}
use Rattle.mean_blocks.specs.InstanceEffects.{born}
use Rattle.mean_blocks.specs.InstancePoints.{is_module, ends_alone, point}
use Rattle.mean_blocks.specs.NamesInRuns.{declared_at, declared_in_header, dims_at}
use Rattle.mean_blocks.specs.NamesInRuns.{interaction_of}
use Rattle.mean_blocks.specs.Outcome.{◌>>=◌, ◌>>◌, give, known, lift}
use Rattle.mean_blocks.specs.ReachedVariables.{child_of}
use Rattle.mean_blocks.specs.StatementEffects.{slot_value, item_of, delivered, initialized}
use Rattle.mean_blocks.specs.StatementEffects.{values_of}
use Rattle.mean_blocks.specs.TextByPlace.{body_at}
use Rattle.mean_blocks.specs.WorkingState.{Site, View, Counts, Does, evaluated, changes}

-- the ends that a name alone means
abbrev pub ends_named : Access → View → Counts (List InteractionPoint)
ends_named a v = ends_alone a (is_module v.site.text.outline a) v

-- one interaction of an output
abbrev pub sent_one : Sending → Site → Does
sent_one x site = evaluated site (item_of x) >>= delivered site

-- an instance begins in an element, with these arguments
abbrev pub begun_by : Element → Used → List Slot → Site → Does
begun_by e body xs site =
    known (declared_at site.text.outline body) >>= λ b.
    known (body_at site.text b) >>= λ x.
    λ s. (changes (born site.text site.instance e b xs)
    >> initialized s.situation.next (out-Body x).first site) s

-- the value under a name
abbrev pub bound_value : Binding → Value
bound_value b = slot_value b.slot

-- an interaction point of the child that a module variable with its subscripts holds
abbrev pub point_by : ℕ → List ℤ → Access → View → Counts InteractionPoint
point_by p zs b v = lift (child_of v p zs) >>= λ n.
    known (declared_in_header v.site.text.outline p b.name) >>= λ d.
    subscripts_in b.index (dims_at v.site.text.outline d) [] v >>= λ ys. give (point n d ys)

-- the item of an output at an interaction point, with these arguments
abbrev pub item_by : Outline → Sending → InteractionPoint → List Slot → Counts Item
item_by o x p xs = known (interaction_of o p.declared x.signal) >>= λ d.
    lift (values_of o d xs) >>= λ vs. give (record { at = p; signal = d; values = vs })

-- the item of an output at an interaction point
abbrev pub item_at : Sending → InteractionPoint → View → Counts Item
item_at x p v = values_in x.arguments [] v >>= λ xs. item_by v.site.text.outline x p xs
