-- What a view shows of declarations without statements is spelled so.
use Rattle.std.proofs.Common.{ℕ, List, [], ◌∷◌, ◌++◌, map}
use Rattle.est_syntax.specs.declared.name.Used.{Used}
use Rattle.est_syntax.specs.declared.constant.ConstDef.{ConstDef}
use Rattle.est_syntax.specs.declared.type_text.TypeText.{TypeText}
use Rattle.est_syntax.specs.declared.type_text.TypeDef.{TypeDef}
use Rattle.est_syntax.specs.declared.type_text.VarDef.{VarDef}
use Rattle.est_syntax.specs.declared.channel.InteractionDef.{InteractionDef}
use Rattle.est_syntax.specs.declared.channel.ByPart.{ByPart}
use Rattle.est_syntax.specs.declared.channel.Channel.{Channel}
use Rattle.est_syntax.specs.declared.header.Point.{Point}
use Rattle.est_syntax.specs.declared.header.Header.{Header}
use Rattle.est_syntax.specs.declared.header.ModvarDef.{ModvarDef}
use Rattle.est_syntax.specs.declared.routine.Formal.{Formal}
use Rattle.est_syntax.specs.declared.body.StateSet.{StateSet}
use Rattle.text_reader.specs.Shown.{node, nodes, sections}
use Rattle.text_productions.specs.Nodes as views
use Rattle.text_productions.specs.Nodes.{Node, a_constant_definition, a_type_definition, a_variable}
use Rattle.text_productions.specs.Nodes.{a_parameter, an_export, an_interaction, a_by_part}
use Rattle.text_productions.specs.Nodes.{a_channel, a_point, a_header, a_module_variable}
use Rattle.text_productions.specs.Nodes.{a_state_set, a_formal, a_short_type}
use Rattle.law_places.specs.Said.{Each}
use Rattle.law_texts.proofs.Spells.{w_kept, w_at, w_pair, w_given, w_node}
use Rattle.law_texts.proofs.Spells.{w_more, w_no_section, w_first_section, w_second_section}
use Rattle.law_texts.proofs.PlainTrees.{Says}
use Rattle.law_texts.proofs.Spelt.{IsSpelt, ShortSpelt, ConstDefSpelt, TypeDefSpelt}
use Rattle.law_texts.proofs.Spelt.{VarDefSpelt, InteractionSpelt, ByPartSpelt, ChannelSpelt}
use Rattle.law_texts.proofs.Spelt.{PointSpelt, ModvarSpelt, HeaderSpelt, StateSetSpelt}
use Rattle.law_texts.proofs.Spelt.{FormalSpelt}
use Rattle.law_texts.proofs.SpeltTexts.{each_says, names_spelt, constant_fits, text_spelt}
use Rattle.law_texts.proofs.SpeltTexts.{short_spelt, short_text}

-- constants and types
constdef_spelt : (c : ConstDef) → Says (node (a_constant_definition c))
    → ConstDefSpelt c
constdef_spelt c (w_node (w_pair (w_at (w_kept p)) (w_pair x y))) = (p, constant_fits c.value x)

pub consts_spelt : (cs : List ConstDef) → Says (nodes (map a_constant_definition cs))
    → Each ConstDefSpelt cs
consts_spelt cs s =
    each_says a_constant_definition ConstDefSpelt constdef_spelt cs s

typedef_spelt : (t : TypeDef) → Says (node (a_type_definition t)) → TypeDefSpelt t
typedef_spelt t (w_node (w_pair (w_at (w_kept p)) (w_pair x y))) = (p, text_spelt t.text x)

pub types_spelt : (ts : List TypeDef) → Says (nodes (map a_type_definition ts))
    → Each TypeDefSpelt ts
types_spelt ts s = each_says a_type_definition TypeDefSpelt typedef_spelt ts s

-- variables, parameters and exports
variable_spelt : (v : VarDef) → Says (node (a_variable v)) → VarDefSpelt v
variable_spelt v (w_node (w_pair x (w_pair y n))) =
    (names_spelt v.names x, text_spelt v.text y)

pub variables_spelt : (vs : List VarDef) → Says (nodes (map a_variable vs))
    → Each VarDefSpelt vs
variables_spelt vs s = each_says a_variable VarDefSpelt variable_spelt vs s

parameter_spelt : (v : VarDef) → Says (node (a_parameter v)) → VarDefSpelt v
parameter_spelt v (w_node (w_pair x y)) =
    (names_spelt v.names x, short_text v.text (short_spelt v.text y))

pub params_spelt : (vs : List VarDef) → Says (nodes (map a_parameter vs))
    → Each VarDefSpelt vs
params_spelt vs s = each_says a_parameter VarDefSpelt parameter_spelt vs s

parameters_spelt : (vs : List VarDef) → Says (views.parameters vs)
    → Each VarDefSpelt vs
parameters_spelt [] s = tt
parameters_spelt (v ∷ vs) (w_given (w_pair x n)) = params_spelt (v ∷ vs) x

export_spelt : (v : VarDef) → Says (node (an_export v)) → VarDefSpelt v
export_spelt v (w_node (w_pair x (w_pair y n))) =
    (names_spelt v.names x, short_text v.text (short_spelt v.text y))

-- channels
interaction_spelt : (x : InteractionDef) → Says (node (an_interaction x))
    → InteractionSpelt x
interaction_spelt x (w_node (w_pair (w_at (w_kept p)) (w_pair y n))) =
    (p, parameters_spelt x.params y)

interactions_spelt : (xs : List InteractionDef) → Says (nodes (map an_interaction xs))
    → Each InteractionSpelt xs
interactions_spelt xs s =
    each_says an_interaction InteractionSpelt interaction_spelt xs s

roles_spelt : (us : List Used) (xs : List InteractionDef)
    → Says (views.roles us (nodes (map an_interaction xs)))
    → Each InteractionSpelt xs
roles_spelt [] xs s = elim s [ ]
roles_spelt (one ∷ []) xs (w_pair x (w_pair y z)) = interactions_spelt xs z
roles_spelt (one ∷ other ∷ []) xs (w_pair x (w_pair y z)) = interactions_spelt xs z
roles_spelt (one ∷ other ∷ more ∷ us) xs s = elim s [ ]

by_part_spelt : (b : ByPart) → Says (node (a_by_part b)) → ByPartSpelt b
by_part_spelt b (w_node s) = roles_spelt b.roles b.interactions s

two_spelt : (us : List Used) (bs : List ByPart)
    → Says (views.two_names us (nodes (map a_by_part bs)))
    → Each IsSpelt us × Each ByPartSpelt bs
two_spelt [] bs s = elim s [ ]
two_spelt (one ∷ []) bs s = elim s [ ]
two_spelt (one ∷ other ∷ []) bs (w_pair (w_at (w_kept p)) (w_pair (w_at (w_kept q)) z)) =
    ((p, (q, tt)), each_says a_by_part ByPartSpelt by_part_spelt bs z)
two_spelt (one ∷ other ∷ more ∷ us) bs s = elim s [ ]

pub channel_spelt : (c : Channel) → Says (node (a_channel c)) → ChannelSpelt c
channel_spelt c (w_node (w_pair (w_at (w_kept p)) y)) =
    let r = two_spelt c.roles c.by y in (p, r.0, r.1)

-- interaction points, with their dimensions, and module variables
dims_spelt : (place : ℕ) (ts : List TypeText) → Says (views.dimensions place ts)
    → Each ShortSpelt ts
dims_spelt place [] s = tt
dims_spelt place (t ∷ ts) (w_given (w_at (w_pair x n))) =
    each_says a_short_type ShortSpelt short_spelt (t ∷ ts) x

point_spelt : (x : Point) → Says (node (a_point x)) → PointSpelt x
point_spelt x (w_node (w_at (w_pair y (w_pair d z)))) =
    (names_spelt x.names y, dims_spelt x.place x.dims d)

pub points_spelt : (ps : List Point) → Says (nodes (map a_point ps))
    → Each PointSpelt ps
points_spelt ps s = each_says a_point PointSpelt point_spelt ps s

modvar_spelt : (m : ModvarDef) → Says (node (a_module_variable m)) → ModvarSpelt m
modvar_spelt m (w_node (w_at (w_pair y (w_pair d z)))) =
    (names_spelt m.names y, dims_spelt m.place m.dims d)

pub modvars_spelt : (ms : List ModvarDef) → Says (nodes (map a_module_variable ms))
    → Each ModvarSpelt ms
modvars_spelt ms s = each_says a_module_variable ModvarSpelt modvar_spelt ms s

-- headers, whose sections stand in any order
abbrev SaysPart : Node → Type 0
SaysPart n = Says (node n)

each_part : (ns : List Node) → Says (nodes ns) → Each SaysPart ns
each_part [] s = tt
each_part (n ∷ ns) (w_more s t) = (s, each_part ns t)

pub joined : {A : Type 0} (P : A → Type 0) (xs ys : List A) → Each P xs → Each P ys
    → Each P (xs ++ ys)
joined P [] ys p q = q
joined P (x ∷ xs) ys p q = (p.0, joined P xs ys p.1 q)

mapped : {A : Type 0} (part : A → Node) (P : A → Type 0) (f : (x : A) → Says (node (part x)) → P x)
    (xs : List A) → Each SaysPart (map part xs) → Each P xs
mapped part P f [] s = tt
mapped part P f (x ∷ xs) s = (f x s.0, mapped part P f xs s.1)

in_sections : {ns ms : List Node} → Says (sections nodes nodes ns ms)
    → Each SaysPart ns × Each SaysPart ms
in_sections w_no_section = (tt, tt)
in_sections (w_first_section ks {ns = ns} s t) =
    let r = in_sections t in (joined SaysPart ks ns (each_part ks s) r.0, r.1)
in_sections (w_second_section ks {ms = ms} s t) =
    let r = in_sections t in (r.0, joined SaysPart ks ms (each_part ks s) r.1)

pub header_spelt : (h : Header) → Says (node (a_header h)) → HeaderSpelt h
header_spelt h (w_node (w_pair (w_at (w_kept p)) (w_pair a (w_pair x (w_pair y e))))) =
    let r = in_sections y in (
      p,
      parameters_spelt h.params x,
      mapped a_point PointSpelt point_spelt h.points r.0,
      mapped an_export VarDefSpelt export_spelt h.exports r.1,
    )

-- state sets and formals
state_set_spelt : (s : StateSet) → Says (node (a_state_set s)) → StateSetSpelt s
state_set_spelt s (w_node (w_pair (w_at (w_kept p)) x)) = p

pub state_sets_spelt : (ss : List StateSet) → Says (nodes (map a_state_set ss))
    → Each StateSetSpelt ss
state_sets_spelt ss s =
    each_says a_state_set StateSetSpelt state_set_spelt ss s

formal_spelt : (f : Formal) → Says (node (a_formal f)) → FormalSpelt f
formal_spelt f (w_node (w_pair b (w_pair x y))) = names_spelt f.names x

pub formals_spelt : (fs : List Formal) → Says (views.formals fs)
    → Each FormalSpelt fs
formals_spelt [] s = tt
formals_spelt (f ∷ fs) (w_given (w_pair x n)) =
    each_says a_formal FormalSpelt formal_spelt (f ∷ fs) x
