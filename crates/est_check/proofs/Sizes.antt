-- A sentence declares no more names, and has no more transitions, than tokens.
use Rattle.std.proofs.Common.{◌+◌, ◌≤◌, ℕ, List, [], ◌∷◌, length, map, arith, refl, subst}
use Rattle.std.specs.Prelude.{sum_by}
use Rattle.est_lexer.specs.declared.kind.Token.{Token}
use Rattle.est_syntax.specs.declared.name.Used.{Used}
use Rattle.est_syntax.specs.declared.channel.InteractionDef.{InteractionDef}
use Rattle.est_syntax.specs.declared.channel.ByPart.{ByPart}
use Rattle.est_syntax.specs.declared.channel.Channel.{Channel}
use Rattle.est_syntax.specs.declared.header.Header.{Header}
use Rattle.est_syntax.specs.declared.header.ModvarDef.{ModvarDef}
use Rattle.est_syntax.specs.declared.body.Body.{Body, out-Body}
use Rattle.est_syntax.specs.declared.body.Part.{Part}
use Rattle.est_syntax.specs.declared.body.Part.TheOpen as form
use Rattle.est_syntax.specs.declared.body.Part.TheVariants as part
use Rattle.est_syntax.specs.declared.transition.Transition.{Transition}
use Rattle.est_syntax.specs.declared.transition.Group.{Group, out-Group}
use Rattle.est_syntax.specs.declared.specification.Spec.{Spec}
use Rattle.text_reader.specs.Grammar.{Tree, rep, rule, t_word, t_deeper}
use Rattle.text_reader.specs.Grammar.{t_seq, t_left, t_right, t_rule}
use Rattle.text_reader.specs.Shown.{Shows, node, nodes, s_at, s_pair}
use Rattle.text_reader.specs.Shown.{s_first, s_second, s_kept, s_node}
use Rattle.text_reader.specs.Extents.{leaves}
use Rattle.text_reader.proofs.Extents.{leaves_are_tokens}
use Rattle.text_reader.proofs.Sums.{turns_fit, several_fit, one_fits, ones}
use Rattle.text_reader.proofs.Sums.{sum_map, parts_show, sections_show}
use Rattle.text_reader.proofs.Trees.{tree_forward}
use Rattle.text_reader.specs.Tests.{language}
use Rattle.text_reader.specs.Going.{Shape}
use Rattle.text_productions.specs.Productions.{Rule, production, specification}
use Rattle.text_productions.specs.Productions.{common, body, transpart, transition}
use Rattle.text_productions.specs.FirstTokens.{marks}
use Rattle.text_productions.specs.Nodes as shown
use Rattle.text_productions.specs.Nodes.{Node, View, a_use, an_interaction, a_by_part}
use Rattle.text_productions.specs.Nodes.{a_channel, a_point, a_header, a_module_variable}
use Rattle.text_productions.specs.Nodes.{a_common_part, a_body_part, a_transition}
use Rattle.text_productions.specs.Nodes.{a_group, a_body, a_specification, layer}
use Rattle.text_productions.proofs.Fits.{fits}
use Rattle.est_check.specs.Small.{state_names, by_names, point_names, modvar_names}
use Rattle.est_check.specs.Small.{part_names, group_transitions, part_transitions}

-- NAMES

abbrev Has : View → Shape → Type 0
Has v t = Shows layer v t

-- where parts made of the items of a list each show so many tokens
listed_show : {A : Type 0} (f : Node → ℕ) (each : (n : Node) (t : Shape) → Has (node n) t
    → f n ≤ leaves t) (made : A → Node) (xs : List A) {t : Shape}
    → Has (nodes (map made xs)) t → sum_by (λ x. f (made x)) xs ≤ leaves t
listed_show f each made xs {t} h =
    omega (arith, parts_show layer f each (map made xs) t h, sum_map f made xs)

-- a name and an interaction have one name
abbrev one_name : Node → ℕ
one_name (a_use u) = 1
one_name (an_interaction i) = 1
one_name _ = 0

one_name_shows : (n : Node) (t : Shape) → Has (node n) t → one_name n ≤ leaves t
one_name_shows (a_use u) t (s_node (s_at p (s_kept v))) = omega arith
one_name_shows (an_interaction i) t (s_node (s_pair (s_at p (s_kept v)) rest)) = omega arith
one_name_shows _ t h = omega arith

names_show : (us : List Used) {t : Shape} → Has (nodes (map a_use us)) t → length us ≤ leaves t
names_show us h = omega (arith, listed_show one_name one_name_shows a_use us h, ones us)

interactions_show : (is : List InteractionDef) {t : Shape} → Has (nodes (map an_interaction is)) t
    → length is ≤ leaves t
interactions_show is h =
    omega (arith, listed_show one_name one_name_shows an_interaction is h, ones is)

roles_show : (us : List Used) (is : List InteractionDef) {t : Shape}
    → Has (shown.roles us (nodes (map an_interaction is))) t → length is ≤ leaves t
roles_show [] is h = elim h [ ]
roles_show (one ∷ []) is (s_pair x (s_pair y z)) = omega (arith, interactions_show is z)
roles_show (one ∷ other ∷ []) is (s_pair x (s_pair y z)) = omega (arith, interactions_show is z)
roles_show (one ∷ other ∷ more ∷ us) is h = elim h [ ]

-- the `state` sections among the parts of a body
states_show : (p : Part) (t : Shape) → Has (node (a_body_part p)) t → state_names p ≤ leaves t
states_show (part.States us) t (s_node h) = of_states (subst (λ v. Has (shown.body_part v) t)
    (part.outs-States us) h)
  where
    of_states : {u : Shape} → Has (shown.body_part (form.States us)) u → length us ≤ leaves u
    of_states (s_second (s_second (s_second (s_first (s_pair x end_))))) =
        omega (arith, names_show us x)
states_show _ t h = omega arith

-- a declaration of points or of module variables, a part of a channel, and a part of a body
abbrev several_names : Node → ℕ
several_names (a_point p) = point_names p
several_names (a_module_variable m) = modvar_names m
several_names (a_by_part b) = by_names b
several_names (a_body_part p) = state_names p
several_names _ = 0

several_names_show : (n : Node) (t : Shape) → Has (node n) t → several_names n ≤ leaves t
several_names_show (a_point p) t (s_node (s_at q (s_pair x y))) =
    omega (arith, names_show p.names x)
several_names_show (a_module_variable m) t (s_node (s_at q (s_pair x y))) =
    omega (arith, names_show m.names x)
several_names_show (a_by_part b) t (s_node h) = roles_show b.roles b.interactions h
several_names_show (a_body_part p) t h = states_show p t h
several_names_show _ t h = omega arith

two_names_show : (us : List Used) (bs : List ByPart) {t : Shape}
    → Has (shown.two_names us (nodes (map a_by_part bs))) t
    → length us + sum_by by_names bs ≤ leaves t
two_names_show [] bs h = elim h [ ]
two_names_show (one ∷ []) bs h = elim h [ ]
two_names_show (one ∷ other ∷ []) bs (s_pair (s_at p (s_kept v)) (s_pair (s_at q (s_kept w)) z)) =
    omega (arith, listed_show several_names several_names_show a_by_part bs z)
two_names_show (one ∷ other ∷ more ∷ us) bs h = elim h [ ]

channel_shows : (c : Channel) {t : Shape} → Has (node (a_channel c)) t
    → 1 + (length c.roles + sum_by by_names c.by) ≤ leaves t
channel_shows c (s_node (s_pair (s_at p (s_kept v)) y)) =
    omega (arith, two_names_show c.roles c.by y)

header_shows : (h : Header) {t : Shape} → Has (node (a_header h)) t
    → 1 + sum_by point_names h.points ≤ leaves t
header_shows h (s_node (s_pair (s_at p (s_kept v)) (s_pair y (s_pair z (s_pair w end_))))) =
    omega (
      arith,
      sections_show layer several_names several_names_show w,
      sum_map several_names
          a_point h.points,
    )

body_shows : (x : Body) {t : Shape} → Has (node (a_body x)) t
    → 1 + sum_by state_names (out-Body x).parts ≤ leaves t
body_shows x (s_node (s_pair (s_at p (s_kept v)) (s_pair y (s_pair z rest)))) =
    omega (arith, listed_show several_names several_names_show a_body_part (out-Body x).parts z)

modvars_show : (ms : List ModvarDef) {t : Shape} → Has (nodes (map a_module_variable ms)) t
    → sum_by modvar_names ms ≤ leaves t
modvars_show ms h = listed_show several_names several_names_show a_module_variable ms h

-- a part of a specification
common_shows : (p : Part) (t : Shape) → Has (node (a_common_part p)) t → part_names p ≤ leaves t
common_shows (part.Channel c) t (s_node h) = of_channel (subst (λ v. Has (shown.common_part v) t)
    (part.outs-Channel c) h)
  where
    of_channel : {u : Shape} → Has (shown.common_part (form.Channel c)) u
        → part_names (part.Channel c) ≤ leaves u
    of_channel (s_second (s_second (s_first x))) = channel_shows c x
common_shows (part.Header h) t (s_node x) = of_header (subst (λ v. Has (shown.common_part v) t)
    (part.outs-Header h) x)
  where
    of_header : {u : Shape} → Has (shown.common_part (form.Header h)) u
        → part_names (part.Header h) ≤ leaves u
    of_header (s_second (s_second (s_second (s_first y)))) = header_shows h y
common_shows (part.Body x) t (s_node h) = of_body (subst (λ v. Has (shown.common_part v) t)
    (part.outs-Body x) h)
  where
    of_body : {u : Shape} → Has (shown.common_part (form.Body x)) u
        → part_names (part.Body x) ≤ leaves u
    of_body (s_second (s_second (s_second (s_second (s_first y))))) = body_shows x y
common_shows (part.Modvars ms) t (s_node h) = of_modvars (subst (λ v. Has (shown.common_part v) t)
    (part.outs-Modvars ms) h)
  where
    of_modvars : {u : Shape} → Has (shown.common_part (form.Modvars ms)) u
        → sum_by modvar_names ms ≤ leaves u
    of_modvars (s_second (s_second (s_second (s_second (s_second (s_second y)))))) = modvars_show ms
        y
common_shows _ t h = omega arith

abbrev names_in : Node → ℕ
names_in (a_common_part p) = part_names p
names_in _ = 0

names_in_show : (n : Node) (t : Shape) → Has (node n) t → names_in n ≤ leaves t
names_in_show (a_common_part p) t h = common_shows p t h
names_in_show _ t h = omega arith

parts_show_names : (ps : List Part) {t : Shape} → Has (nodes (map a_common_part ps)) t
    → sum_by part_names ps ≤ leaves t
parts_show_names ps h = listed_show names_in names_in_show a_common_part ps h

-- TRANSITIONS

module _ (text : List ℕ) (tokens : List Token) where
  abbrev Reads : Rule → ℕ → ℕ → ℕ → Shape → Type 0
  Reads g d a b t = Tree (language production text) tokens (length tokens) g d a b t

  forward : {g : Rule} {d a b : ℕ} {t : Shape} → Reads g d a b t → a ≤ b
  forward x = tree_forward (language production text) tokens (length tokens) x

  -- a transition has a token
  transition_long : (x : Transition) (d a b : ℕ) (t : Shape) → Has (node (a_transition x)) t
      → Reads (rule transition) d a b t → a + 1 ≤ b
  transition_long x d a b t h tree = one_fits (language production text) marks (fits text) tokens
      (length tokens) (rule transition) refl d a b t tree

  -- so a group has no fewer tokens than transitions, and nor has a body
  group_long : (g : Group) (d a b : ℕ) (t : Shape) → Has (node (a_group g)) t
      → Reads (rule transpart) d a b t → a + group_transitions g ≤ b
  group_long g d a b t (s_node h) (t_rule (t_word k i e tree)) =
      let ts = (out-Group g).transitions in
      omega (
        arith,
        several_fit (language production text) tokens (length tokens) layer (λ x. 1)
            a_transition (rule transition) transition_long ts h tree,
        ones ts,
      )

  body_long : (x : Body) (d a b : ℕ) (t : Shape) → Has (node (a_body x)) t
      → Reads (rule body) d a b t → a + sum_by group_transitions (out-Body x).groups ≤ b
  body_long x d a b t (s_node (s_pair h1 (s_pair h2 (s_pair h3 (s_pair h4 (s_pair h5 h6))))))
      (t_rule (t_deeper (t_word k i e
      (t_seq one (t_word k' i' e'
      (t_seq two (t_word k'' i'' e'' (t_seq parts (t_seq first (t_seq groups end_)))))))))) =
      let gs = (out-Body x).groups in
      omega (
        arith,
        forward one,
        forward two,
        forward parts,
        forward first,
        forward end_,
        turns_fit (language production text) tokens (length tokens) layer group_transitions a_group
            (rule transpart) group_long gs h5 groups,
      )

  -- a part of a specification
  part_long : (p : Part) (d a b : ℕ) (t : Shape) → Has (node (a_common_part p)) t
      → Reads (rule common) d a b t → a + part_transitions p ≤ b
  part_long (part.Body x) d a b t (s_node h) tree =
      of_body (subst (λ v. Has (shown.common_part v) t) (part.outs-Body x) h) tree
    where
      of_body : {u : Shape} → Has (shown.common_part (form.Body x)) u → Reads (rule common) d a b u
          → a + sum_by group_transitions (out-Body x).groups ≤ b
      of_body (s_second (s_second (s_second (s_second (s_first {t = u} k)))))
          (t_rule (t_right (t_right (t_right (t_right (t_left read)))))) = body_long x d a b u k
          read
  part_long _ d a b t h tree = omega (arith, forward tree)

  -- the parts of a specification
  pub record HasParts (spec : Spec) : Type 0 where
    pub levels : ℕ
    pub from : ℕ
    pub to : ℕ
    pub shape : Shape
    pub within : to ≤ length tokens
    pub tree : Reads (rep (rule common)) levels from to shape
    pub shows : Has (nodes (map a_common_part spec.parts)) shape

  pub parts_read : (spec : Spec) (d : ℕ) (t : Shape) → Has (node (a_specification spec)) t
      → Reads (rule specification) d 0 (length tokens) t → HasParts spec
  parts_read spec d t (s_node (s_pair h1 (s_pair h2 (s_pair h3 (s_pair h4 h5)))))
      (t_rule (t_word k i e (t_seq one
      (t_word k' i' e' (t_seq queue (t_seq scale (t_seq {d = d'} {a = a} {b = b} {t = u} parts
      end_))))))) =
      record {
        levels = d';
        from = a;
        to = b;
        shape = u;
        within = forward end_;
        tree = parts;
        shows = h4;
      }

  -- no more names and transitions than tokens
  pub names_few : (spec : Spec) → HasParts spec → sum_by part_names spec.parts ≤ length tokens
  names_few spec x =
      omega (
        arith,
        parts_show_names spec.parts x.shows,
        leaves_are_tokens
            (language production text) tokens (length tokens) x.tree,
        x.within,
      )

  pub transitions_few : (spec : Spec) → HasParts spec
      → sum_by part_transitions spec.parts ≤ length tokens
  transitions_few spec x =
      omega (
        arith,
        turns_fit (language production text) tokens (length tokens) layer
            part_transitions a_common_part (rule common) part_long spec.parts x.shows x.tree,
        x.within,
      )
