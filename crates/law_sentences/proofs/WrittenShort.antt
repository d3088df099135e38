-- What stands in order is written as sentences have it: what has short types, and statements.
use Rattle.std.specs.Prelude.{map}
use Rattle.std.proofs.Common.{ℕ, subst, List, [], ◌∷◌, ◌++◌}
use Rattle.est_syntax.specs.declared.name.Used.{Used}
use Rattle.est_syntax.specs.declared.type_text.TypeText.{TypeText}
use Rattle.est_syntax.specs.declared.type_text.VarDef.{VarDef}
use Rattle.est_syntax.specs.declared.channel.InteractionDef.{InteractionDef}
use Rattle.est_syntax.specs.declared.channel.ByPart.{ByPart}
use Rattle.est_syntax.specs.declared.channel.Channel.{Channel}
use Rattle.est_syntax.specs.declared.header.Point.{Point}
use Rattle.est_syntax.specs.declared.header.Header.{Header}
use Rattle.est_syntax.specs.declared.header.ModvarDef.{ModvarDef}
use Rattle.est_syntax.specs.declared.transition.Clause.{Clause}
use Rattle.est_syntax.specs.declared.transition.Clause.TheVariants as clauses
use Rattle.est_syntax.specs.declared.statement.Statement.{Statement, out-Statement}
use Rattle.est_syntax.specs.declared.statement.Statement.{Row_of-Statement, end_of-Statement}
use Rattle.est_syntax.specs.declared.statement.Statement.{more_of-Statement}
use Rattle.est_syntax.specs.declared.statement.Statement.{items-the_row-Statement}
use Rattle.est_syntax.specs.declared.statement.Statement.{items_shown-the_row-Statement-0}
use Rattle.est_syntax.specs.declared.statement.Statement.{Row_of-Arm, end_of-Arm, more_of-Arm}
use Rattle.est_syntax.specs.declared.statement.Statement.{items-the_row-Arm}
use Rattle.est_syntax.specs.declared.statement.Statement.{items_shown-the_row-Arm-2}
use Rattle.est_syntax.specs.declared.statement.Statement.{Held-Statement-If-2}
use Rattle.est_syntax.specs.declared.statement.Statement.TheBlock as held
use Rattle.est_syntax.specs.declared.statement.Statement.TheBlock.{shape-the_row-Statement-1}
use Rattle.est_syntax.specs.declared.statement.Statement.TheBlock.{hidden-the_row-Statement-1}
use Rattle.est_syntax.specs.declared.statement.Statement.TheBlock.{shown-the_row-Statement-1}
use Rattle.est_syntax.specs.declared.statement.Statement.TheVariants as statement
use Rattle.text_reader.specs.Shown.{node, nodes, sections}
use Rattle.law_places.specs.PlaceOrder.{Stands, o_at, o_pair, o_first, o_second}
use Rattle.law_places.specs.PlaceOrder.{o_given, o_node, o_more, o_no_section}
use Rattle.law_places.specs.PlaceOrder.{o_first_section, o_second_section}
use Rattle.text_productions.specs.Nodes as views
use Rattle.text_productions.specs.Nodes.{Node, View, layer, a_short_type, a_parameter, an_export}
use Rattle.text_productions.specs.Nodes.{an_interaction, a_by_part, a_channel, a_point, a_header}
use Rattle.text_productions.specs.Nodes.{a_module_variable, a_clause, a_statement, an_arm}
use Rattle.law_places.specs.Said.{Each}
use Rattle.law_sentences.specs.WrittenExpressions.{HasConstants}
use Rattle.law_sentences.specs.WrittenParts.{VarDefWritten, InteractionWritten, ByPartWritten}
use Rattle.law_sentences.specs.WrittenParts.{ChannelWritten, PointWritten, ModvarWritten}
use Rattle.law_sentences.specs.WrittenParts.{HeaderWritten, StatementWritten, StatementsWritten}
use Rattle.law_sentences.specs.WrittenParts.{SecondWritten, ArmsWritten, ClauseWritten}
use Rattle.law_sentences.proofs.UsesStand.{short_has}

-- a view stands between two places
abbrev pub Stand : View → ℕ → ℕ → Type 0
Stand v a b = Stands layer v a b

-- the items of a list, of which each stands so
pub each_stands : {A : Type 0} (part : A → Node) (P : A → Type 0)
    (f : (x : A) (a b : ℕ) → Stand (node (part x)) a b → P x) (xs : List A) (a b : ℕ)
    → Stand (nodes (map part xs)) a b → Each P xs
each_stands part P f [] a b s = tt
each_stands part P f (x ∷ xs) a b (o_more {k = k} s t) =
    (f x a k s, each_stands part P f xs k b t)

-- types that are short
pub short_written : (t : TypeText) (a b : ℕ) → Stand (node (a_short_type t)) a b → HasConstants t
short_written t a b s = short_has t a b s

-- parameters and exports
parameter_written : (v : VarDef) (a b : ℕ) → Stand (node (a_parameter v)) a b → VarDefWritten v
parameter_written v a b (o_node (o_pair {k = k} x y)) = short_written v.text k b y

params_written : (vs : List VarDef) (a b : ℕ) → Stand (nodes (map a_parameter vs)) a b
    → Each VarDefWritten vs
params_written vs a b s = each_stands a_parameter VarDefWritten parameter_written vs a b s

parameters_written : (vs : List VarDef) (a b : ℕ) → Stand (views.parameters vs) a b
    → Each VarDefWritten vs
parameters_written [] a b s = tt
parameters_written (v ∷ vs) a b (o_given (o_pair {k = k} x y)) = params_written (v ∷ vs) a k x

export_written : (v : VarDef) (a b : ℕ) → Stand (node (an_export v)) a b → VarDefWritten v
export_written v a b (o_node (o_pair {k = k} x (o_pair {k = l} y z))) = short_written v.text k l y

-- channels
interaction_written : (i : InteractionDef) (a b : ℕ) → Stand (node (an_interaction i)) a b
    → InteractionWritten i
interaction_written i a b (o_node (o_pair {k = k} x (o_pair {k = l} y z))) =
    parameters_written i.params k l y

interactions_written : (is : List InteractionDef) (a b : ℕ)
    → Stand (nodes (map an_interaction is)) a b → Each InteractionWritten is
interactions_written is a b s =
    each_stands an_interaction InteractionWritten interaction_written is a b s

roles_written : (us : List Used) (is : List InteractionDef) (a b : ℕ)
    → Stand (views.roles us (nodes (map an_interaction is))) a b → Each InteractionWritten is
roles_written [] is a b s = elim s [ ]
roles_written (one ∷ []) is a b (o_pair x (o_pair {k = k} y z)) = interactions_written is k b z
roles_written (one ∷ other ∷ []) is a b (o_pair x (o_pair {k = k} y z)) =
    interactions_written is k b z
roles_written (one ∷ other ∷ more ∷ us) is a b s = elim s [ ]

by_part_written : (x : ByPart) (a b : ℕ) → Stand (node (a_by_part x)) a b → ByPartWritten x
by_part_written x a b (o_node s) = roles_written x.roles x.interactions a b s

by_parts_written : (us : List Used) (bs : List ByPart) (a b : ℕ)
    → Stand (views.two_names us (nodes (map a_by_part bs))) a b → Each ByPartWritten bs
by_parts_written [] bs a b s = elim s [ ]
by_parts_written (one ∷ []) bs a b s = elim s [ ]
by_parts_written (one ∷ other ∷ []) bs a b (o_pair x (o_pair {k = k} y z)) =
    each_stands a_by_part ByPartWritten by_part_written bs k b z
by_parts_written (one ∷ other ∷ more ∷ us) bs a b s = elim s [ ]

pub channel_written : (c : Channel) (a b : ℕ) → Stand (node (a_channel c)) a b
    → ChannelWritten c
channel_written c a b (o_node (o_pair {k = k} x y)) = by_parts_written c.roles c.by k b y

-- interaction points and module variables, with their dimensions
dims_written : (place : ℕ) (ts : List TypeText) (a b : ℕ) → Stand (views.dimensions place ts) a b
    → Each HasConstants ts
dims_written place [] a b s = tt
dims_written place (t ∷ ts) a b (o_given (o_at h (o_pair {k = k} x y))) =
    each_stands a_short_type HasConstants short_written (t ∷ ts) place k x

pub point_written : (p : Point) (a b : ℕ) → Stand (node (a_point p)) a b → PointWritten p
point_written p a b (o_node (o_at h (o_pair {k = k} x (o_pair {k = l} y z)))) =
    dims_written p.place p.dims k l y

pub modvar_written : (m : ModvarDef) (a b : ℕ) → Stand (node (a_module_variable m)) a b
    → ModvarWritten m
modvar_written m a b (o_node (o_at h (o_pair {k = k} x (o_pair {k = l} y z)))) =
    dims_written m.place m.dims k l y

-- headers, whose sections stand in any order
abbrev StandsSomewhere : Node → Type 0
StandsSomewhere n = (a : ℕ) × (b : ℕ) × Stand (node n) a b

each_somewhere : (ns : List Node) (a b : ℕ) → Stand (nodes ns) a b → Each StandsSomewhere ns
each_somewhere [] a b s = tt
each_somewhere (n ∷ ns) a b (o_more {k = k} s t) = ((a, k, s), each_somewhere ns k b t)

joined : {A : Type 0} (P : A → Type 0) (xs ys : List A) → Each P xs → Each P ys → Each P (xs ++ ys)
joined P [] ys p q = q
joined P (x ∷ xs) ys p q = (p.0, joined P xs ys p.1 q)

mapped : {A : Type 0} (part : A → Node) (P : A → Type 0)
    (f : (x : A) (a b : ℕ) → Stand (node (part x)) a b → P x) (xs : List A)
    → Each StandsSomewhere (map part xs) → Each P xs
mapped part P f [] s = tt
mapped part P f (x ∷ xs) s = (f x s.0.0 s.0.1 s.0.2, mapped part P f xs s.1)

in_sections : {ns ms : List Node} {a b : ℕ} → Stand (sections nodes nodes ns ms) a b
    → Each StandsSomewhere ns × Each StandsSomewhere ms
in_sections (o_no_section h) = (tt, tt)
in_sections (o_first_section {a = a} {k = k} ks {ns = ns} s t) =
    let r = in_sections t in (joined StandsSomewhere ks ns (each_somewhere ks a k s) r.0, r.1)
in_sections (o_second_section {a = a} {k = k} ks {ms = ms} s t) =
    let r = in_sections t in (r.0, joined StandsSomewhere ks ms (each_somewhere ks a k s) r.1)

pub header_written : (x : Header) (a b : ℕ) → Stand (node (a_header x)) a b → HeaderWritten x
header_written x a b (o_node (o_pair n (o_pair {k = k} s (o_pair {k = l} p (o_pair q e))))) =
    let r = in_sections q in (
      parameters_written x.params k l p,
      mapped a_point PointWritten point_written x.points r.0,
      mapped an_export VarDefWritten export_written x.exports r.1,
    )

-- clauses
pub clause_written : (c : Clause) (a b : ℕ) → Stand (node (a_clause c)) a b → ClauseWritten c
clause_written (clauses.Any names place) a b
    (o_node (o_at h (o_second (o_second (o_second (o_second (o_first (o_pair {k = k} x y)))))))) =
    params_written names place k x
clause_written _ a b s = tt

-- statements
mutual
  unfolding out-Statement denote.Hole.Carrier.out shape-the_row-Statement-1
      hidden-the_row-Statement-1 shown-the_row-Statement-1 denote.Hole.Carrier.shown

  pub statement_written : (s : Statement) (i j : ℕ) → Stand (node (a_statement s)) i j
      → StatementWritten s
  statement_written (statement.Compound' a turn place) i j
      (o_node (o_at l (o_given (o_first (o_pair {k = k} x n))))) =
      row_written turn place k (subst (λ ss. Stand (nodes (map a_statement ss)) place k)
      (items_shown-the_row-Statement-0 a turn) x)
  statement_written (statement.If' condition a (more_of-Statement one end_of-Statement) other
      place) i j (o_node (o_at l (o_given (o_second (o_second (o_first (o_pair {k = k} x
      (o_pair {k = m} y z)))))))) =
      ((statement_written one k m y, tt), other_written other m j z)
  statement_written (statement.Case' value a arms place) i j
      (o_node (o_at l (o_given (o_second (o_second (o_second (o_first (o_pair {k = k} x
      (o_pair {k = m} y n))))))))) =
      arms_written arms k m (subst (λ ss. Stand (nodes (map an_arm ss)) k m)
      (items_shown-the_row-Arm-2 a arms) y)
  statement_written (statement.While' condition a (more_of-Statement turn end_of-Statement) place)
      i j (o_node (o_at l (o_given (o_second (o_second (o_second (o_second (o_first
      (o_pair {k = k} x y))))))))) = (statement_written turn k j y, tt)
  statement_written (statement.Repeat' a turn until place) i j
      (o_node (o_at l (o_given (o_second (o_second (o_second (o_second (o_second (o_first
      (o_pair {k = k} x y)))))))))) =
      row_written turn place k (subst (λ ss. Stand (nodes (map a_statement ss)) place k)
      (items_shown-the_row-Statement-0 a turn) x)
  statement_written (statement.For' name from down to a
      (more_of-Statement turn end_of-Statement) place) i j
      (o_node (o_at l (o_given (o_second (o_second (o_second (o_second (o_second (o_second (o_first
      (o_pair u (o_pair x (o_pair d (o_pair {k = k} y z)))))))))))))) =
      (statement_written turn k j z, tt)
  statement_written (statement.All' name over a (more_of-Statement turn end_of-Statement) place)
      i j (o_node (o_at l (o_given (o_second (o_second (o_second (o_second (o_second (o_second
      (o_second (o_first (o_pair {k = m} u (o_pair {k = k} x y))))))))))))) =
      (short_written over m k x, (statement_written turn k j y, tt))
  statement_written _ i j s = tt

  row_written : {n : _} (row : Row_of-Statement n) (i j : ℕ)
      → Stand (nodes (map a_statement (items-the_row-Statement n row))) i j
      → StatementsWritten row
  row_written end_of-Statement i j s = tt
  row_written (more_of-Statement s rest) i j (o_more {k = k} x y) =
      (statement_written s i k x, row_written rest k j y)

  other_written : (s : Held-Statement-If-2) (i j : ℕ)
      → Stand (views.else_part (held.view-Statement-If-2 s)) i j → SecondWritten s
  other_written held.None' i j s = tt
  other_written (held.Some' a (more_of-Statement other end_of-Statement)) i j (o_given x) =
      (statement_written other i j x, tt)

  arms_written : {n : _} (row : Row_of-Arm n) (i j : ℕ)
      → Stand (nodes (map an_arm (items-the_row-Arm n row))) i j → ArmsWritten row
  arms_written end_of-Arm i j s = tt
  arms_written (more_of-Arm constants s rest) i j
      (o_more {k = m} (o_node (o_pair {k = k} x y)) z) =
      (statement_written s k m y, arms_written rest m j z)

pub statements_written : (ss : List Statement) (i j : ℕ) → Stand (nodes (map a_statement ss)) i j
    → Each StatementWritten ss
statements_written ss i j s = each_stands a_statement StatementWritten statement_written ss i j s
