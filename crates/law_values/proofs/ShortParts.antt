-- The parameters and exports of sentences have short types.
use Rattle.std.specs.Prelude.{map}
use Rattle.std.proofs.Common.{ℕ, subst, List, [], ◌∷◌, ◌++◌}
use Rattle.est_lexer.specs.declared.kind.Token.{Token}
use Rattle.est_syntax.specs.declared.name.Used.{Used}
use Rattle.est_syntax.specs.declared.type_text.TypeText.{TypeText}
use Rattle.est_syntax.specs.declared.type_text.TypeText.TheVariants as texts
use Rattle.est_syntax.specs.declared.type_text.VarDef.{VarDef}
use Rattle.est_syntax.specs.declared.channel.InteractionDef.{InteractionDef}
use Rattle.est_syntax.specs.declared.channel.ByPart.{ByPart}
use Rattle.est_syntax.specs.declared.channel.Channel.{Channel}
use Rattle.est_syntax.specs.declared.header.Header.{Header}
use Rattle.est_syntax.specs.declared.body.Body.{Body, Body', out-Body}
use Rattle.est_syntax.specs.declared.body.Part.{Part, out-Part, Row_of-Part, end_of-Part}
use Rattle.est_syntax.specs.declared.body.Part.{more_of-Part, items-the_row-Part}
use Rattle.est_syntax.specs.declared.body.Part.{items_shown-the_row-Part-0}
use Rattle.est_syntax.specs.declared.body.Part.TheOpen as forms
use Rattle.est_syntax.specs.declared.body.Part.TheVariants as part
use Rattle.text_reader.specs.Grammar.{rep, rule}
use Rattle.text_reader.specs.Shown.{node, nodes, sections}
use Rattle.law_places.specs.PlaceOrder.{o_pair}
use Rattle.law_places.specs.PlaceOrder.{o_given, o_node, o_more, o_no_section}
use Rattle.law_places.specs.PlaceOrder.{o_first_section, o_second_section}
use Rattle.law_places.proofs.FromTexts.{short_placed}
use Rattle.law_places.proofs.Placed.{ShortPlaced}
use Rattle.law_places.specs.Said.{Each}
use Rattle.text_productions.specs.Productions as grammar
use Rattle.text_productions.specs.Productions.{body_part}
use Rattle.text_productions.specs.Nodes as views
use Rattle.text_productions.specs.Nodes.{Node, PartForm, layer, a_short_type, a_parameter}
use Rattle.text_productions.specs.Nodes.{an_export}
use Rattle.text_productions.specs.Nodes.{an_interaction, a_by_part, a_channel, a_header, a_body}
use Rattle.text_productions.specs.Nodes.{a_common_part, a_body_part}
use Rattle.law_sentences.proofs.Reading.{Reads, reads_stands, in_word, in_deeper, in_rule, in_node}
use Rattle.law_sentences.proofs.Reading.{in_seq, in_left, in_right, in_rep}
use Rattle.law_sentences.proofs.WrittenShort.{Stand, each_stands}
use Rattle.law_values.proofs.KnownTexts.{IsShort}

-- parameters and exports
abbrev pub IsShortDef : VarDef → Type 0
IsShortDef v = IsShort v.text

abbrev pub InteractionShort : InteractionDef → Type 0
InteractionShort i = Each IsShortDef i.params

abbrev pub ByPartShort : ByPart → Type 0
ByPartShort b = Each InteractionShort b.interactions

abbrev pub ChannelShort : Channel → Type 0
ChannelShort c = Each ByPartShort c.by

abbrev pub HeaderShort : Header → Type 0
HeaderShort h = Each IsShortDef h.params × Each IsShortDef h.exports

-- parts
abbrev mutual
  pub PartShort : Part → Type 0
  PartShort (part.Channel c) = ChannelShort c
  PartShort (part.Header h) = HeaderShort h
  PartShort (part.Body (Body' name header a parts f b groups)) = RowShort parts
  PartShort _ = Unit {0}

  pub RowShort : {n : _} → Row_of-Part n → Type 0
  RowShort end_of-Part = Unit {0}
  RowShort (more_of-Part p rest) = PartShort p × RowShort rest

pub placed_short : (i j : ℕ) (t : TypeText) → ShortPlaced i j t → IsShort t
placed_short i j (texts.Named u) h = tt
placed_short i j (texts.Range low high) h = tt
placed_short i j (texts.Names names place) h = absurd h
placed_short i j (texts.Array' a index b of place) h = absurd h
placed_short i j (texts.Fields' a defs place) h = absurd h
placed_short i j (texts.Set' a of place) h = absurd h

short_is : (t : TypeText) (a b : ℕ) → Stand (node (a_short_type t)) a b → IsShort t
short_is t a b s = placed_short a b t (short_placed t s)

parameter_short : (v : VarDef) (a b : ℕ) → Stand (node (a_parameter v)) a b → IsShortDef v
parameter_short v a b (o_node (o_pair {k = k} x y)) = short_is v.text k b y

parameters_short : (vs : List VarDef) (a b : ℕ) → Stand (views.parameters vs) a b
    → Each IsShortDef vs
parameters_short [] a b s = tt
parameters_short (v ∷ vs) a b (o_given (o_pair {k = k} x y)) =
    each_stands a_parameter IsShortDef parameter_short (v ∷ vs) a k x

export_short : (v : VarDef) (a b : ℕ) → Stand (node (an_export v)) a b → IsShortDef v
export_short v a b (o_node (o_pair {k = k} x (o_pair {k = l} y z))) = short_is v.text k l y

-- channels
interaction_short : (i : InteractionDef) (a b : ℕ) → Stand (node (an_interaction i)) a b
    → InteractionShort i
interaction_short i a b (o_node (o_pair {k = k} x (o_pair {k = l} y z))) =
    parameters_short i.params k l y

roles_short : (us : List Used) (is : List InteractionDef) (a b : ℕ)
    → Stand (views.roles us (nodes (map an_interaction is))) a b → Each InteractionShort is
roles_short [] is a b s = elim s [ ]
roles_short (one ∷ []) is a b (o_pair x (o_pair {k = k} y z)) =
    each_stands an_interaction InteractionShort interaction_short is k b z
roles_short (one ∷ other ∷ []) is a b (o_pair x (o_pair {k = k} y z)) =
    each_stands an_interaction InteractionShort interaction_short is k b z
roles_short (one ∷ other ∷ more ∷ us) is a b s = elim s [ ]

by_part_short : (x : ByPart) (a b : ℕ) → Stand (node (a_by_part x)) a b → ByPartShort x
by_part_short x a b (o_node s) = roles_short x.roles x.interactions a b s

by_parts_short : (us : List Used) (bs : List ByPart) (a b : ℕ)
    → Stand (views.two_names us (nodes (map a_by_part bs))) a b → Each ByPartShort bs
by_parts_short [] bs a b s = elim s [ ]
by_parts_short (one ∷ []) bs a b s = elim s [ ]
by_parts_short (one ∷ other ∷ []) bs a b (o_pair x (o_pair {k = k} y z)) =
    each_stands a_by_part ByPartShort by_part_short bs k b z
by_parts_short (one ∷ other ∷ more ∷ us) bs a b s = elim s [ ]

channel_short : (c : Channel) (a b : ℕ) → Stand (node (a_channel c)) a b → ChannelShort c
channel_short c a b (o_node (o_pair {k = k} x y)) = by_parts_short c.roles c.by k b y

-- headers, whose sections stand in any order
abbrev Somewhere : Node → Type 0
Somewhere n = (a : ℕ) × (b : ℕ) × Stand (node n) a b

each_somewhere : (ns : List Node) (a b : ℕ) → Stand (nodes ns) a b → Each Somewhere ns
each_somewhere [] a b s = tt
each_somewhere (n ∷ ns) a b (o_more {k = k} s t) = ((a, k, s), each_somewhere ns k b t)

joined : (xs ys : List Node) → Each Somewhere xs → Each Somewhere ys → Each Somewhere (xs ++ ys)
joined [] ys p q = q
joined (x ∷ xs) ys p q = (p.0, joined xs ys p.1 q)

second_somewhere : {ns ms : List Node} {a b : ℕ} → Stand (sections nodes nodes ns ms) a b
    → Each Somewhere ms
second_somewhere (o_no_section h) = tt
second_somewhere (o_first_section ks s t) = second_somewhere t
second_somewhere (o_second_section {a = a} {k = k} ks {ms = ms} s t) =
    joined ks ms (each_somewhere ks a k s) (second_somewhere t)

exports_short : (vs : List VarDef) → Each Somewhere (map an_export vs) → Each IsShortDef vs
exports_short [] s = tt
exports_short (v ∷ vs) s = (export_short v s.0.0 s.0.1 s.0.2, exports_short vs s.1)

header_short : (x : Header) (a b : ℕ) → Stand (node (a_header x)) a b → HeaderShort x
header_short x a b (o_node (o_pair n (o_pair {k = k} s (o_pair {k = l} p (o_pair q e))))) =
    (parameters_short x.params k l p, exports_short x.exports (second_somewhere q))

-- PARTS

module _ (text : List ℕ) (tokens : List Token) where
  -- what is read of a channel, a header or a body
  abbrev Content : PartForm → Type 0
  Content (forms.Channel c) = Reads text tokens (rule grammar.channel) (node (a_channel c))
  Content (forms.Header x) = Reads text tokens (rule grammar.header) (node (a_header x))
  Content (forms.Body b) = Reads text tokens (rule grammar.body) (node (a_body b))
  Content _ = Unit {0}

  of_common : (x : PartForm) → Reads text tokens (rule grammar.common) (views.common_part x)
      → Content x
  of_common (forms.Channel c) r =
      in_left text tokens (in_right text tokens (in_right text tokens (in_rule text tokens r)))
  of_common (forms.Header x) r =
      in_left text tokens (in_right text tokens (in_right text tokens (in_right text tokens
      (in_rule text tokens r))))
  of_common (forms.Body b) r =
      in_left text tokens (in_right text tokens (in_right text tokens (in_right text tokens
      (in_right text tokens (in_rule text tokens r)))))
  of_common (forms.Consts ds) r = tt
  of_common (forms.Types ds) r = tt
  of_common (forms.Routine x) r = tt
  of_common (forms.Modvars ms) r = tt
  of_common (forms.Points ps) r = tt
  of_common (forms.Vars vs) r = tt
  of_common (forms.States us) r = tt
  of_common (forms.StateSets ss) r = tt

  of_bodies : (x : PartForm) → Reads text tokens body_part (views.body_part x) → Content x
  of_bodies (forms.Channel c) r = of_common (forms.Channel c) (in_left text tokens r)
  of_bodies (forms.Header x) r = of_common (forms.Header x) (in_left text tokens r)
  of_bodies (forms.Body b) r = of_common (forms.Body b) (in_left text tokens r)
  of_bodies (forms.Consts ds) r = tt
  of_bodies (forms.Types ds) r = tt
  of_bodies (forms.Routine x) r = tt
  of_bodies (forms.Modvars ms) r = tt
  of_bodies (forms.Points ps) r = tt
  of_bodies (forms.Vars vs) r = tt
  of_bodies (forms.States us) r = tt
  of_bodies (forms.StateSets ss) r = tt

  body_parts : (b : Body) → Reads text tokens (rule grammar.body) (node (a_body b))
      → Reads text tokens (rep body_part) (nodes (map a_body_part (out-Body b).parts))
  body_parts b r =
      let q = in_seq text tokens (in_word text tokens (in_deeper text tokens
      (in_node text tokens (in_rule text tokens r)))) in
      let w = in_seq text tokens (in_word text tokens q.1) in
      (in_seq text tokens (in_word text tokens w.1)).0

  mutual
    unfolding out-Part out-Body denote.Hole.Carrier.out denote.Hole.Carrier.shown

    part_short : (x : Part) → Content (out-Part x) → PartShort x
    part_short (part.Channel c) r =
        let s = reads_stands text tokens (rule grammar.channel) (node (a_channel c)) r in
        channel_short c s.0 s.1 s.2
    part_short (part.Header x) r =
        let s = reads_stands text tokens (rule grammar.header) (node (a_header x)) r in
        header_short x s.0 s.1 s.2
    part_short (part.Body (Body' name header a ps f b groups)) r =
        row_short ps (subst (λ l. Reads text tokens (rep body_part) (nodes (map a_body_part l)))
        (items_shown-the_row-Part-0 a ps) (body_parts (Body' name header a ps f b groups) r))
    part_short (part.Consts cs) r = tt
    part_short (part.Types ts) r = tt
    part_short (part.Modvars ms) r = tt
    part_short (part.Points ps) r = tt
    part_short (part.Vars vs) r = tt
    part_short (part.States us) r = tt
    part_short (part.StateSets ss) r = tt
    part_short (part.Routine' name formals result a ps ss place) r = tt

    row_short : {n : _} (row : Row_of-Part n)
        → Reads text tokens (rep body_part) (nodes (map a_body_part (items-the_row-Part n row)))
        → RowShort row
    row_short end_of-Part r = tt
    row_short (more_of-Part x rest) r =
        let q = in_rep text tokens r in (
          part_short x (of_bodies (out-Part x) (in_node text tokens q.0)),
          row_short rest q.1,
        )

  pub common_parts_short : (xs : List Part)
      → Reads text tokens (rep (rule grammar.common)) (nodes (map a_common_part xs))
      → Each PartShort xs
  common_parts_short [] r = tt
  common_parts_short (x ∷ xs) r =
      let q = in_rep text tokens r in (
        part_short x (of_common (out-Part x) (in_node text tokens q.0)),
        common_parts_short xs q.1,
      )
