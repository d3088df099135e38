-- Interaction points and children of instances, and how statements name them (ISO 9074, interaction
-- points, module variables and connect-statement).
use Rattle.std.specs.Prelude.{ℕ, ℤ, nat_eq, List, [], ◌∷◌, map, Option}
use Rattle.std.specs.Prelude.{Some, None, Bool, true, false, ◌&&◌, option_and_then, unwrap_or}
use Rattle.std.specs.List.{flat_map, filter}
use Rattle.std.specs.Option.{option_map, option_map_or}
use Rattle.est_syntax.specs.declared.expression.Access.{Access}
use Rattle.est_syntax.specs.declared.expression.EndPoint.{EndPoint}
use Rattle.est_values.specs.OrdinalTuples.{ordinal_tuples}
use Rattle.rule_declares.specs.rule_scope.declared.declaration.Sort.TheVariants as sort
use Rattle.rule_declares.specs.rule_scope.Outline.{Outline, entry_at}
use Rattle.rule_declares.specs.rule_scope.Uses.{is_sort}
use Rattle.mean_blocks.specs.declared.situation.InteractionPoint.{InteractionPoint}
use Rattle.mean_blocks.specs.declared.situation.Row.{Row}
use Rattle.mean_blocks.specs.Outcome.{◌>>=◌, give, lift, known}
use Rattle.mean_blocks.specs.GlobalSituation.{Situation, row_of}
use Rattle.mean_blocks.specs.NamesInRuns.{declared_at, dims_at, header_at, declared_in_header}
use Rattle.mean_blocks.specs.NamesInRuns.{places_of}
use Rattle.mean_blocks.specs.WorkingState.{View, Counts}
use Rattle.mean_blocks.specs.ReachedVariables.{child_of}
use Rattle.mean_blocks.specs.ExpressionValues.{subscripts_in}

-- POINTS AND CHILDREN OF AN INSTANCE

-- an interaction point of an instance
abbrev pub point : ℕ → ℕ → List ℤ → InteractionPoint
point n declared zs = record { instance = n; declared = declared; index = zs }

-- the subscripts of what is declared at a place, ascending
abbrev pub indices_of : Outline → ℕ → List (List ℤ)
indices_of o p = ordinal_tuples (unwrap_or (dims_at o p) [])

-- the interaction points of an instance that a header declares, in the order of the text and of
-- their subscripts
abbrev pub points_of : Outline → ℕ → ℕ → List InteractionPoint
points_of o n header =
    flat_map (λ p. map (point n p) (indices_of o p)) (places_of o sort.Point header)

-- the header of a living instance, which is that of its body
abbrev pub header_of : Outline → Situation → ℕ → Option ℕ
header_of o s n = option_and_then (λ (r : Row). header_at o r.body) (row_of s n)

-- the external interaction points of an instance, which its header declares
abbrev pub external_of : Outline → Situation → ℕ → List InteractionPoint
external_of o s n = unwrap_or (option_map (points_of o n) (header_of o s n)) []

-- whether an instance is a child of another one and has this header
abbrev pub is_child : Outline → ℕ → ℕ → Row → Bool
is_child o parent header r = nat_eq r.parent parent
    && option_map_or (λ (h : ℕ). nat_eq h header) (header_at o r.body) false

-- the children of an instance with a header, in the order of their creation
abbrev pub children_of : Outline → Situation → ℕ → ℕ → List ℕ
children_of o s n header = map (λ (r : Row). r.number) (filter (is_child o n header) s.rows)

-- POINTS AND CHILDREN THAT STATEMENTS NAME

-- what is declared under a name, with the values of its subscripts
abbrev pub accessed : {A : Type 0} → Access → (ℕ → List ℤ → Counts A) → View → Counts A
accessed a go v = known (declared_at v.site.text.outline a.name) >>= λ p.
    subscripts_in a.index (dims_at v.site.text.outline p) [] v >>= go p

-- an interaction point of this instance
abbrev pub own_point : Access → View → Counts InteractionPoint
own_point a v = accessed a (λ p zs. give (point v.site.instance p zs)) v

-- the instance that a module variable with its subscripts holds
abbrev pub child : Access → View → Counts ℕ
child a v = accessed a (λ p zs. lift (child_of v p zs)) v

-- An interaction point of a child: the subscripts of the module variable, then whether the child
-- lives, then the subscripts of the point.
abbrev pub child_point : Access → Access → View → Counts InteractionPoint
child_point a b v = accessed a (λ p zs. lift (child_of v p zs) >>= λ n.
    known (declared_in_header v.site.text.outline p b.name) >>= λ d.
    subscripts_in b.index (dims_at v.site.text.outline d) [] v >>= λ ys. give (point n d ys)) v

-- the end of a link: an interaction point of this instance, or one of a child
abbrev pub end_by : Access → Option Access → View → Counts InteractionPoint
end_by a None v = own_point a v
end_by a (Some b) v = child_point a b v

-- the end of a link, as it is written
abbrev pub end_of : EndPoint → View → Counts InteractionPoint
end_of e v = end_by e.first e.second v

-- whether a name means module variables
abbrev pub is_module : Outline → Access → Bool
is_module o a = is_sort sort.ModuleVariable (option_and_then (entry_at o) (declared_at o a.name))

-- the ends that a name alone means: an interaction point, or all external ones of a child
abbrev pub ends_alone : Access → Bool → View → Counts (List InteractionPoint)
ends_alone a true v = child a v >>= λ n. give (external_of v.site.text.outline v.situation n)
ends_alone a false v = own_point a v >>= λ p. give (p ∷ [])

-- the ends of a `disconnect` or a `detach` (ISO 9074, disconnect-statement and detach-statement)
abbrev pub ends_of : Access → Option Access → View → Counts (List InteractionPoint)
ends_of a None v = ends_alone a (is_module v.site.text.outline a) v
ends_of a (Some b) v = child_point a b v >>= λ p. give (p ∷ [])
