-- In a sentence the statements of a block begin after its `begin`.
use Rattle.std.specs.Prelude.{map}
use Rattle.std.proofs.Common.{ℕ, suc, ◌≤◌, subst, List, [], ◌∷◌, length}
use Rattle.std.proofs.Common.{arith}
use Rattle.est_lexer.specs.declared.kind.Token.{Token}
use Rattle.est_syntax.specs.declared.statement.Statement.{Statement}
use Rattle.est_syntax.specs.declared.transition.Transition.{Transition, out-Transition}
use Rattle.est_syntax.specs.declared.transition.Group.{Group', out-Group, Row_of-Transition}
use Rattle.est_syntax.specs.declared.transition.Group.{end_of-Transition, more_of-Transition}
use Rattle.est_syntax.specs.declared.transition.Group.{items-the_row-Transition}
use Rattle.est_syntax.specs.declared.transition.Group.{items_shown-the_row-Transition-2}
use Rattle.est_syntax.specs.declared.body.Block.{Block, out-Block}
use Rattle.est_syntax.specs.declared.body.Part.{Part, out-Part, Row_of-Part, end_of-Part}
use Rattle.est_syntax.specs.declared.body.Part.{more_of-Part, items-the_row-Part}
use Rattle.est_syntax.specs.declared.body.Part.{items_shown-the_row-Part-0}
use Rattle.est_syntax.specs.declared.body.Part.TheOpen as forms
use Rattle.est_syntax.specs.declared.body.Part.TheVariants as part
use Rattle.est_syntax.specs.declared.body.Part.TheBlock as first
use Rattle.est_syntax.specs.declared.body.Part.TheBlock.{shown-the_row-Part-0}
use Rattle.est_syntax.specs.declared.body.Part.TheBlock.{shown-the_row-Group-1}
use Rattle.est_syntax.specs.declared.body.Body.{Body, Body', out-Body, Row_of-Group, end_of-Group}
use Rattle.est_syntax.specs.declared.body.Body.{more_of-Group, items-the_row-Group}
use Rattle.est_syntax.specs.declared.body.Body.{items_shown-the_row-Group-1, Held-Body-first}
use Rattle.est_syntax.specs.declared.specification.Spec.{Spec}
use Rattle.text_reader.specs.Grammar.{word, here, seq, rep, rule, t_here, t_word, t_seq}
use Rattle.text_reader.specs.Shown.{Shows, at, pair, node, nodes, s_at, s_pair}
use Rattle.text_reader.proofs.Trees.{tree_forward}
use Rattle.text_reader.specs.Tests.{Test, language}
use Rattle.text_reader.specs.Going.{Shape}
use Rattle.text_productions.specs.Productions as grammar
use Rattle.text_productions.specs.Productions.{Rule, production, several, statements, body_part}
use Rattle.text_productions.specs.Productions.{first_part}
use Rattle.text_productions.specs.Nodes as views
use Rattle.text_productions.specs.Nodes.{View, Node, PartForm, a_body, a_common_part, a_body_part}
use Rattle.text_productions.specs.Nodes.{a_block, a_statement, a_transition, a_group, layer}
use Rattle.text_productions.specs.Nodes.{a_specification}
use Rattle.est_grammar.specs.Answer.{levels, HasOneTree}
use Rattle.law_places.proofs.Ascending as order
use Rattle.law_places.proofs.DeclaringBodies.{statement_begins}
use Rattle.law_places.proofs.FromStatements.{statements_placed}
use Rattle.law_sentences.proofs.Reading.{TreeOf, Reads, in_word, in_deeper, in_rule, in_node}
use Rattle.law_sentences.proofs.Reading.{in_seq, in_left, in_right, in_opt, in_list, in_rep}
use Rattle.law_sentences.proofs.Reading.{no_list}
use Rattle.law_runs.proofs.Beginnings.{BeginAfter, FirstBegins, TransitionsBegin, GroupsBegin}
use Rattle.law_runs.proofs.Beginnings.{PartBegins, PartsBegin, ListedBegin}

module _ (text : List ℕ) (tokens : List Token) where
  -- what is read from a place on
  abbrev From : ℕ → Rule → View → Type 0
  From i g v = (d : ℕ) × (b : ℕ) × (t : Shape) × TreeOf text tokens g d i b t × Shows layer v t
      × (b ≤ length tokens)

  after_word : {k : Test} {g h : Rule} {w x : View} {p d a b : ℕ} {t : Shape}
      → TreeOf text tokens (here (word k (seq g h))) d a b t → Shows layer (at p (pair w x)) t
      → b ≤ length tokens → From (suc p) g w
  after_word (t_here (t_word k l e (t_seq x y))) (s_at p (s_pair s u)) few =
      let f = tree_forward (language production text) tokens (length tokens) y in
      (_, _, _, x, s, omega arith)

  begin_after : (ss : List Statement) (i : ℕ) → From (suc i) statements (nodes (map a_statement ss))
      → BeginAfter i ss
  begin_after [] i r = no_list text tokens (r.0, suc i, r.1, r.2, r.3, r.4, r.5)
  begin_after (s ∷ ss) i r =
      let h = statements_placed (s ∷ ss) (suc i) r.1 (order.shown_stands layer (suc i) r.1 r.4
      (order.ascends (language production text) tokens (length tokens) r.3)) in
      let l = statement_begins (suc i) h.0 s h.1 in omega arith

  block_begins : (b : Block) → Reads text tokens (rule grammar.block) (node (a_block b))
      → BeginAfter (out-Block b).place (out-Block b).statements
  block_begins b r =
      let q = (in_seq text tokens (in_node text tokens (in_rule text tokens r))).1 in
      begin_after (out-Block b).statements (out-Block b).place (after_word q.4 q.5 q.6)

  first_begins : (f : Held-Body-first)
      → Reads text tokens first_part (views.first_part (first.view-Body-first f)) → FirstBegins f
  unfolding out-Part denote.Hole.Carrier.out denote.Hole.Carrier.shown
  first_begins first.None' r = tt
  first_begins (first.Some' to a parts ss place) r =
      let q = in_seq text tokens (in_word text tokens (in_opt text tokens r)) in
      block_begins _ (in_seq text tokens q.1).0

  transition_block : (t : Transition)
      → Reads text tokens (rule grammar.transition) (node (a_transition t))
      → Reads text tokens (rule grammar.block) (node (a_block (out-Transition t).block))
  transition_block t r =
      let q = in_seq text tokens (in_node text tokens (in_rule text tokens r)) in
      let w = in_seq text tokens q.1 in (in_seq text tokens w.1).0

  transitions_begin : {n : _} (row : Row_of-Transition n)
      → Reads text tokens (rep (rule grammar.transition))
      (nodes (map a_transition (items-the_row-Transition n row))) → TransitionsBegin row
  unfolding out-Part denote.Hole.Carrier.out denote.Hole.Carrier.shown
  transitions_begin end_of-Transition r = tt
  transitions_begin (more_of-Transition cs name a parts ss place rest) r =
      let q = in_rep text tokens r in
      (block_begins _ (transition_block _ q.0), transitions_begin rest q.1)

  several_begin : {n : _} (row : Row_of-Transition n)
      → Reads text tokens (several (rule grammar.transition))
      (nodes (map a_transition (items-the_row-Transition n row))) → TransitionsBegin row
  unfolding out-Part denote.Hole.Carrier.out denote.Hole.Carrier.shown
  several_begin end_of-Transition r = tt
  several_begin (more_of-Transition cs name a parts ss place rest) r =
      let q = in_list text tokens r in
      (block_begins _ (transition_block _ q.0), transitions_begin rest q.1)

  groups_begin : {n : _} (row : Row_of-Group n)
      → Reads text tokens (rep (rule grammar.transpart))
      (nodes (map a_group (items-the_row-Group n row))) → GroupsBegin row
  unfolding out-Group denote.Hole.Carrier.out denote.Hole.Carrier.shown
  groups_begin end_of-Group r = tt
  groups_begin (more_of-Group (Group' a transitions) rest) r =
      let q = in_rep text tokens r in
      let t = in_word text tokens (in_node text tokens (in_rule text tokens q.0)) in (
        several_begin transitions
            (subst (λ ts. Reads text tokens (several (rule grammar.transition))
            (nodes (map a_transition ts))) (items_shown-the_row-Transition-2 a transitions) t),
        groups_begin rest q.1,
      )

  body_parts : (b : Body) → Reads text tokens (rule grammar.body) (node (a_body b))
      → Reads text tokens (rep body_part) (nodes (map a_body_part (out-Body b).parts))
      × Reads text tokens first_part (views.first_part (out-Body b).first)
      × Reads text tokens (rep (rule grammar.transpart)) (nodes (map a_group (out-Body b).groups))
  body_parts b r =
      let q = in_seq text tokens (in_word text tokens (in_deeper text tokens
      (in_node text tokens (in_rule text tokens r)))) in
      let w = in_seq text tokens (in_word text tokens q.1) in
      let x = in_seq text tokens (in_word text tokens w.1) in
      let y = in_seq text tokens x.1 in (x.0, y.0, (in_seq text tokens y.1).0)

  -- what a part is read as, if it is a body
  abbrev Content : PartForm → Type 0
  Content (forms.Body b) = Reads text tokens (rule grammar.body) (node (a_body b))
  Content _ = Unit {0}

  of_common : (x : PartForm) → Reads text tokens (rule grammar.common) (views.common_part x)
      → Content x
  of_common (forms.Body b) r =
      in_left text tokens (in_right text tokens (in_right text tokens (in_right text tokens
      (in_right text tokens (in_rule text tokens r)))))
  of_common _ r = tt

  of_bodies : (x : PartForm) → Reads text tokens body_part (views.body_part x) → Content x
  of_bodies (forms.Body b) r = of_common (forms.Body b) (in_left text tokens r)
  of_bodies _ r = tt

  mutual
    unfolding out-Part out-Body denote.Hole.Carrier.out denote.Hole.Carrier.shown

    part_begins : (x : Part) → Content (out-Part x) → PartBegins x
    part_begins (part.Body (Body' name header a ps f b groups)) r =
        let q = body_parts (Body' name header a ps f b groups) r in (
          body_row_begins ps
              (subst (λ l. Reads text tokens (rep body_part) (nodes (map a_body_part l)))
              (items_shown-the_row-Part-0 a ps) q.0),
          first_begins f q.1,
          groups_begin groups
              (subst (λ l. Reads text tokens (rep (rule grammar.transpart)) (nodes (map a_group l)))
              (items_shown-the_row-Group-1 b groups) q.2),
        )
    part_begins _ r = tt

    body_row_begins : {n : _} (row : Row_of-Part n)
        → Reads text tokens (rep body_part) (nodes (map a_body_part (items-the_row-Part n row)))
        → PartsBegin row
    body_row_begins end_of-Part r = tt
    body_row_begins (more_of-Part x rest) r =
        let q = in_rep text tokens r in (
          part_begins x (of_bodies (out-Part x) (in_node text tokens q.0)),
          body_row_begins rest q.1,
        )

  parts_begin : (xs : List Part)
      → Reads text tokens (rep (rule grammar.common)) (nodes (map a_common_part xs))
      → ListedBegin xs
  parts_begin [] r = tt
  parts_begin (x ∷ xs) r =
      let q = in_rep text tokens r in
      (part_begins x (of_common (out-Part x) (in_node text tokens q.0)), parts_begin xs q.1)

  pub sentence_begins : (s : Spec) → HasOneTree text tokens s → ListedBegin s.parts
  sentence_begins s h =
      let r : Reads text tokens (rule grammar.specification) (node (a_specification s)) =
      (levels, 0, length tokens, h.shape, h.tree, h.shows, omega arith) in
      let q = in_seq text tokens (in_word text tokens
      (in_node text tokens (in_rule text tokens r))) in
      let w = in_seq text tokens (in_word text tokens q.1) in
      let x = in_seq text tokens w.1 in
      let y = in_seq text tokens x.1 in parts_begin s.parts y.0
