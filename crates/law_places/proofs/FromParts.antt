-- What stands in order as a view stands as its rows do: declarations.
use Rattle.std.proofs.Common.{ℕ, suc, ◌<◌, ◌≤◌, List, [], ◌∷◌, map}
use Rattle.std.proofs.Common.{arith}
use Rattle.est_syntax.specs.declared.name.Used.{Used}
use Rattle.est_syntax.specs.declared.constant.ConstDef.{ConstDef}
use Rattle.est_syntax.specs.declared.type_text.TypeText.{TypeText}
use Rattle.est_syntax.specs.declared.type_text.VarDef.{VarDef}
use Rattle.est_syntax.specs.declared.type_text.TypeDef.{TypeDef}
use Rattle.est_syntax.specs.declared.channel.InteractionDef.{InteractionDef}
use Rattle.est_syntax.specs.declared.channel.ByPart.{ByPart}
use Rattle.est_syntax.specs.declared.channel.Channel.{Channel}
use Rattle.est_syntax.specs.declared.header.Point.{Point}
use Rattle.est_syntax.specs.declared.header.Header.{Header}
use Rattle.est_syntax.specs.declared.header.ModvarDef.{ModvarDef}
use Rattle.est_syntax.specs.declared.routine.Formal.{Formal}
use Rattle.est_syntax.specs.declared.body.StateSet.{StateSet}
use Rattle.text_reader.specs.Shown.{node, nodes}
use Rattle.text_productions.specs.Nodes as shown
use Rattle.text_productions.specs.Nodes.{Node, a_constant_definition, a_short_type}
use Rattle.text_productions.specs.Nodes.{a_type_definition, a_variable, a_parameter, an_export}
use Rattle.text_productions.specs.Nodes.{an_interaction, a_by_part, a_channel, a_point, a_header}
use Rattle.text_productions.specs.Nodes.{a_module_variable, a_state_set, a_formal, layer}
use Rattle.law_places.specs.PlaceOrder.{o_empty, o_kept, o_at, o_pair}
use Rattle.law_places.specs.PlaceOrder.{o_given, o_node, o_none, o_more}
use Rattle.law_places.proofs.Standing.{goes_on, from_earlier, to_later, Mixed, x_none, x_first}
use Rattle.law_places.proofs.Standing.{x_second, merged}
use Rattle.rule_kinds.specs.TypeTexts.{text_place}
use Rattle.law_places.proofs.Placed.{NamesPlaced, ShortPlaced, short_within}
use Rattle.law_places.proofs.PlacedParts.{InOrder, ConstDefPlaced, TypeDefPlaced, VarDefPlaced}
use Rattle.law_places.proofs.PlacedParts.{InteractionPlaced, ByPartPlaced, ChannelPlaced}
use Rattle.law_places.proofs.PlacedParts.{PointPlaced, ModvarPlaced, HeaderPlaced, Merged}
use Rattle.law_places.proofs.PlacedParts.{m_none, m_point, m_export}
use Rattle.law_places.proofs.PlacedParts.{StateSetPlaced, FormalPlaced}
use Rattle.law_places.proofs.FromTexts.{Stand, names_placed, constant_placed, type_placed}
use Rattle.law_places.proofs.FromTexts.{short_placed, short_text_placed}

-- the items of a list, of which each stands so
pub in_order : {A : Type 0} (part : A → Node) (P : ℕ → ℕ → A → Type 0)
    (placed : (x : A) (i j : ℕ) → Stand (node (part x)) i j → P i j x) (xs : List A) (i j : ℕ)
    → Stand (nodes (map part xs)) i j → InOrder P i j xs
in_order part P placed [] i j (o_none l) = l
in_order part P placed (x ∷ xs) i j (o_more {k = k} y z) =
    (k, placed x i k y, in_order part P placed xs k j z)

-- constants and types
constdef_placed : (c : ConstDef) (i j : ℕ) → Stand (node (a_constant_definition c)) i j
    → ConstDefPlaced i j c
constdef_placed c i j (o_node (o_pair (o_at l (o_kept m)) (o_pair x (o_empty n)))) = (
  l,
  constant_placed c.value (from_earlier layer (suc c.name.place) (omega arith)
      (to_later layer j n x)),
)

pub constdefs_placed : (cs : List ConstDef) (i j : ℕ)
    → Stand (nodes (map a_constant_definition cs)) i j → InOrder ConstDefPlaced i j cs
constdefs_placed cs i j h = in_order a_constant_definition ConstDefPlaced constdef_placed cs i j h

typedef_placed : (t : TypeDef) (i j : ℕ) → Stand (node (a_type_definition t)) i j
    → TypeDefPlaced i j t
typedef_placed t i j (o_node (o_pair (o_at l (o_kept m)) (o_pair x (o_empty n)))) = (
  l,
  type_placed t.text (from_earlier layer (suc t.name.place) (omega arith)
      (to_later layer j n x)),
)

pub typedefs_placed : (ts : List TypeDef) (i j : ℕ)
    → Stand (nodes (map a_type_definition ts)) i j → InOrder TypeDefPlaced i j ts
typedefs_placed ts i j h = in_order a_type_definition TypeDefPlaced typedef_placed ts i j h

-- variables, parameters and exports
variable_placed : (v : VarDef) (i j : ℕ) → Stand (node (a_variable v)) i j → VarDefPlaced i j v
variable_placed v i j (o_node (o_pair {k = k} x (o_pair y (o_empty n)))) =
    (k, names_placed v.names x, type_placed v.text (to_later layer j n y))

pub variables_placed : (vs : List VarDef) (i j : ℕ) → Stand (nodes (map a_variable vs)) i j
    → InOrder VarDefPlaced i j vs
variables_placed vs i j h = in_order a_variable VarDefPlaced variable_placed vs i j h

parameter_placed : (v : VarDef) (i j : ℕ) → Stand (node (a_parameter v)) i j → VarDefPlaced i j v
parameter_placed v i j (o_node (o_pair {k = k} x y)) =
    (k, names_placed v.names x, short_text_placed v.text k j y)

pub parameters_in_order : (vs : List VarDef) (i j : ℕ) → Stand (nodes (map a_parameter vs)) i j
    → InOrder VarDefPlaced i j vs
parameters_in_order vs i j h = in_order a_parameter VarDefPlaced parameter_placed vs i j h

parameters_placed : (vs : List VarDef) (i j : ℕ) → Stand (shown.parameters vs) i j
    → InOrder VarDefPlaced i j vs
parameters_placed [] i j (o_empty l) = l
parameters_placed (v ∷ vs) i j (o_given (o_pair x (o_empty n))) =
    parameters_in_order (v ∷ vs) i j (to_later layer j n x)

export_placed : (v : VarDef) (i j : ℕ) → Stand (node (an_export v)) i j
    → VarDefPlaced i j v × (text_place v.text < j)
export_placed v i j (o_node (o_pair {k = k} x (o_pair y (o_empty n)))) =
    let z = to_later layer j n y in (
      (k, names_placed v.names x, short_text_placed v.text k j z),
      short_within k j v.text (short_placed v.text z),
    )

-- channels
interaction_placed : (x : InteractionDef) (i j : ℕ) → Stand (node (an_interaction x)) i j
    → InteractionPlaced i j x
interaction_placed x i j (o_node (o_pair (o_at l (o_kept m)) (o_pair y (o_empty n)))) = (
  l,
  parameters_placed x.params (suc x.name.place) j
      (from_earlier layer (suc x.name.place) (omega arith) (to_later layer j n y)),
)

roles_placed : (us : List Used) (xs : List InteractionDef) (i j : ℕ)
    → Stand (shown.roles us (nodes (map an_interaction xs))) i j
    → (k : ℕ) × NamesPlaced i k us × InOrder InteractionPlaced k j xs
roles_placed [] xs i j h = elim h [ ]
roles_placed (one ∷ []) xs i j (o_pair {k = k} (o_at l (o_kept m)) (o_pair (o_empty n) z)) = (
  k,
  (l, omega arith),
  in_order an_interaction InteractionPlaced interaction_placed xs k j (from_earlier layer k n z),
)
roles_placed (one ∷ other ∷ []) xs i j
    (o_pair (o_at l (o_kept m)) (o_pair {k = k} (o_given (o_at n (o_kept p))) z)) = (
      k,
      (l, (omega arith, omega arith)),
      in_order an_interaction InteractionPlaced interaction_placed xs k j z,
    )
roles_placed (one ∷ other ∷ more ∷ us) xs i j h = elim h [ ]

by_part_placed : (x : ByPart) (i j : ℕ) → Stand (node (a_by_part x)) i j → ByPartPlaced i j x
by_part_placed x i j (o_node h) = roles_placed x.roles x.interactions i j h

two_placed : (us : List Used) (xs : List ByPart) (i j : ℕ)
    → Stand (shown.two_names us (nodes (map a_by_part xs))) i j
    → (k : ℕ) × NamesPlaced i k us × InOrder ByPartPlaced k j xs
two_placed [] xs i j h = elim h [ ]
two_placed (one ∷ []) xs i j h = elim h [ ]
two_placed (one ∷ other ∷ []) xs i j
    (o_pair (o_at l (o_kept m)) (o_pair {k = k} (o_at n (o_kept p)) z)) =
    (k, (l, (omega arith, omega arith)), in_order a_by_part ByPartPlaced by_part_placed xs k j z)
two_placed (one ∷ other ∷ more ∷ us) xs i j h = elim h [ ]

pub channel_placed : (c : Channel) (i j : ℕ) → Stand (node (a_channel c)) i j
    → ChannelPlaced i j c
channel_placed c i j (o_node (o_pair (o_at l (o_kept m)) y)) =
    let r = two_placed c.roles c.by (suc c.name.place) j
    (from_earlier layer (suc c.name.place) (omega arith) y) in (r.0, l, r.1, r.2)

-- interaction points and module variables, with their dimensions
pub shorts_placed : (ts : List TypeText) (i j : ℕ) → Stand (nodes (map a_short_type ts)) i j
    → InOrder ShortPlaced i j ts
shorts_placed ts i j h =
    in_order a_short_type ShortPlaced (λ t i j x. short_placed t x) ts i j h

dims_placed : (place : ℕ) (ds : List TypeText) (us : List Used) (i k m : ℕ)
    → i ≤ shown.beginning place ds us → i ≤ k → Stand (shown.dimensions place ds) k m
    → (i ≤ place) × InOrder ShortPlaced k m ds × ((shown.beginning place ds us ≤ k) → place ≤ m)
dims_placed place [] us i k m l n (o_empty p) = (l, p, λ f. omega arith)
dims_placed place (d ∷ ds) us i k m l n (o_given (o_at p (o_pair x (o_empty q)))) = (
  omega arith,
  shorts_placed (d ∷ ds) k m (from_earlier layer k p (to_later layer m q x)),
  λ f. omega (arith, goes_on layer x),
)

point_placed : (p : Point) (i j : ℕ) → Stand (node (a_point p)) i j → PointPlaced i j p
point_placed p i j (o_node (o_at l (o_pair {k = k} x (o_pair {k = m} d
    (o_pair (o_at c (o_kept c')) (o_pair (o_at r (o_kept r')) (o_pair q (o_empty e)))))))) =
    let f = goes_on layer x in
    let g = goes_on layer q in
    let dims = dims_placed p.place p.dims p.names i k m l (omega arith) d in (
      k,
      m,
      dims.0,
      names_placed p.names (from_earlier layer i l x),
      dims.1,
      c,
      omega arith,
      omega arith,
      dims.2 (omega arith),
    )

pub points_placed : (ps : List Point) (i j : ℕ) → Stand (nodes (map a_point ps)) i j
    → InOrder PointPlaced i j ps
points_placed ps i j h = in_order a_point PointPlaced point_placed ps i j h

modvar_placed : (v : ModvarDef) (i j : ℕ) → Stand (node (a_module_variable v)) i j
    → ModvarPlaced i j v
modvar_placed v i j (o_node (o_at l (o_pair {k = k} x (o_pair {k = m} d
    (o_pair (o_at c (o_kept c')) (o_empty e)))))) =
    let f = goes_on layer x in
    let dims = dims_placed v.place v.dims v.names i k m l (omega arith) d in
    let names = names_placed v.names (from_earlier layer i l x) in
    (k, m, dims.0, names, dims.1, c, omega arith, dims.2 (omega arith))

pub modvars_placed : (vs : List ModvarDef) (i j : ℕ) → Stand (nodes (map a_module_variable vs)) i j
    → InOrder ModvarPlaced i j vs
modvars_placed vs i j h = in_order a_module_variable ModvarPlaced modvar_placed vs i j h

-- headers
sections_placed : (ps : List Point) (vs : List VarDef) (i j : ℕ)
    → Mixed layer i j (map a_point ps) (map an_export vs) → Merged i j ps vs
sections_placed [] [] i j (x_none l) = m_none l
sections_placed [] (v ∷ vs) i j (x_second {k = k} x y) =
    m_export (export_placed v i k x).0 (export_placed v i k x).1 (sections_placed [] vs k j y)
sections_placed (p ∷ ps) [] i j (x_first {k = k} x y) =
    m_point (point_placed p i k x) (sections_placed ps [] k j y)
sections_placed (p ∷ ps) (v ∷ vs) i j (x_first {k = k} x y) =
    m_point (point_placed p i k x) (sections_placed ps (v ∷ vs) k j y)
sections_placed (p ∷ ps) (v ∷ vs) i j (x_second {k = k} x y) =
    m_export (export_placed v i k x).0 (export_placed v i k x).1 (sections_placed (p ∷ ps) vs k j y)

pub header_placed : (h : Header) (i j : ℕ) → Stand (node (a_header h)) i j → HeaderPlaced i j h
header_placed h i j
    (o_node (o_pair (o_at l (o_kept m)) (o_pair a (o_pair {k = k} x (o_pair y (o_empty e)))))) =
    let f = goes_on layer a in (
      k,
      l,
      parameters_placed h.params (suc h.name.place) k
          (from_earlier layer (suc h.name.place) (omega arith) x),
      sections_placed h.points h.exports k j (merged layer (to_later layer j e y)),
    )

-- state sets and formals
state_set_placed : (s : StateSet) (i j : ℕ) → Stand (node (a_state_set s)) i j
    → StateSetPlaced i j s
state_set_placed s i j (o_node (o_pair (o_at l (o_kept m)) (o_pair x (o_empty n)))) = (
  l,
  names_placed s.states (from_earlier layer (suc s.name.place) (omega arith)
      (to_later layer j n x)),
)

pub state_sets_placed : (ss : List StateSet) (i j : ℕ) → Stand (nodes (map a_state_set ss)) i j
    → InOrder StateSetPlaced i j ss
state_sets_placed ss i j h = in_order a_state_set StateSetPlaced state_set_placed ss i j h

formal_placed : (f : Formal) (i j : ℕ) → Stand (node (a_formal f)) i j → FormalPlaced i j f
formal_placed f i j (o_node (o_pair b (o_pair {k = k} x (o_at l (o_kept m))))) =
    (k, names_placed f.names (from_earlier layer i (goes_on layer b) x), l, m)

pub formals_placed : (fs : List Formal) (i j : ℕ) → Stand (shown.formals fs) i j
    → InOrder FormalPlaced i j fs
formals_placed [] i j (o_empty l) = l
formals_placed (f ∷ fs) i j (o_given (o_pair x (o_empty n))) =
    in_order a_formal FormalPlaced formal_placed (f ∷ fs) i j (to_later layer j n x)
