-- The parts of a specification are written as sentences have them.
use Rattle.std.specs.Prelude.{map}
use Rattle.std.proofs.Common.{ℕ, suc, ◌≤◌, subst, List, [], ◌∷◌, length, Option, Some, None}
use Rattle.est_lexer.specs.declared.kind.Token.{Token}
use Rattle.est_syntax.specs.Kinds.{maxint}
use Rattle.est_syntax.specs.declared.name.Used.{Used}
use Rattle.est_syntax.specs.declared.transition.Clause.{Clause}
use Rattle.est_syntax.specs.declared.transition.Transition.{Transition, out-Transition}
use Rattle.est_syntax.specs.declared.transition.Group.{Group', out-Group, Row_of-Transition}
use Rattle.est_syntax.specs.declared.transition.Group.{end_of-Transition, more_of-Transition}
use Rattle.est_syntax.specs.declared.transition.Group.{items-the_row-Transition}
use Rattle.est_syntax.specs.declared.transition.Group.{items_shown-the_row-Transition-2}
use Rattle.est_syntax.specs.declared.body.Block.{Block, out-Block}
use Rattle.est_syntax.specs.declared.body.Part.{Part, out-Part, Row_of-Part, end_of-Part}
use Rattle.est_syntax.specs.declared.body.Part.{more_of-Part, items-the_row-Part}
use Rattle.est_syntax.specs.declared.body.Part.{items_shown-the_row-Part-0}
use Rattle.est_syntax.specs.declared.body.Part.TheOpen as forms
use Rattle.est_syntax.specs.declared.body.Part.TheVariants as part
use Rattle.est_syntax.specs.declared.body.Part.TheBlock as first
use Rattle.est_syntax.specs.declared.body.Part.TheBlock.{shown-the_row-Part-0}
use Rattle.est_syntax.specs.declared.body.Part.TheBlock.{shown-the_row-Group-1}
use Rattle.est_syntax.specs.declared.body.Body.{Body, Body', out-Body, Row_of-Group, end_of-Group}
use Rattle.est_syntax.specs.declared.body.Body.{more_of-Group, items-the_row-Group}
use Rattle.est_syntax.specs.declared.body.Body.{items_shown-the_row-Group-1, Held-Body-first}
use Rattle.est_syntax.specs.declared.routine.Formal.{Formal}
use Rattle.text_reader.specs.Grammar.{alt, rep, rule}
use Rattle.text_reader.specs.Shown.{node, nodes}
use Rattle.text_productions.specs.Productions as grammar
use Rattle.text_productions.specs.Productions.{production, several, statements, modvars, points}
use Rattle.text_productions.specs.Productions.{body_part, block_part, first_part, procedure}
use Rattle.text_productions.specs.Productions.{function}
use Rattle.text_productions.specs.Nodes as views
use Rattle.text_productions.specs.Nodes.{Node, PartForm, a_type_definition, a_variable, a_channel}
use Rattle.text_productions.specs.Nodes.{a_point, a_header, a_module_variable, a_routine, a_body}
use Rattle.text_productions.specs.Nodes.{a_common_part, a_body_part, a_block_part, a_block}
use Rattle.text_productions.specs.Nodes.{a_clause}
use Rattle.text_productions.specs.Nodes.{a_statement, a_transition, a_group, layer}
use Rattle.law_places.specs.Said.{Each}
use Rattle.law_sentences.specs.WrittenParts.{PointWritten, ModvarWritten, StatementWritten}
use Rattle.law_sentences.specs.WrittenParts.{ClauseWritten, BlockPartWritten, BlockWritten}
use Rattle.law_sentences.specs.WrittenParts.{FirstWritten, TransitionsWritten, GroupsWritten}
use Rattle.law_sentences.specs.WrittenParts.{PartWritten, PartsWritten}
use Rattle.law_sentences.proofs.Reading.{Reads, reads_stands, in_word, in_here, in_deeper, in_rule}
use Rattle.law_sentences.proofs.Reading.{in_node, in_seq, in_left, in_right, in_opt, in_list}
use Rattle.law_sentences.proofs.Reading.{in_rep}
use Rattle.law_sentences.proofs.Reading.{no_text}
use Rattle.law_sentences.proofs.WrittenShort.{each_stands, channel_written, header_written}
use Rattle.law_sentences.proofs.WrittenShort.{point_written, modvar_written, clause_written}
use Rattle.law_sentences.proofs.WrittenShort.{statements_written}
use Rattle.law_sentences.proofs.WrittenTrees.{types_written, vars_written}

module _ (text : List ℕ) (tokens : List Token) (few : length tokens ≤ suc maxint) where
  -- what a part is read as
  abbrev Content : PartForm → Type 0
  Content (forms.Types ds) =
      Reads text tokens (rule grammar.types) (nodes (map a_type_definition ds))
  Content (forms.Channel c) = Reads text tokens (rule grammar.channel) (node (a_channel c))
  Content (forms.Header h) = Reads text tokens (rule grammar.header) (node (a_header h))
  Content (forms.Body b) = Reads text tokens (rule grammar.body) (node (a_body b))
  Content (forms.Routine r) = Reads text tokens (rule grammar.routine) (node (a_routine r))
  Content (forms.Modvars ms) = Reads text tokens modvars (nodes (map a_module_variable ms))
  Content (forms.Points ps) = Reads text tokens points (nodes (map a_point ps))
  Content (forms.Vars vs) = Reads text tokens (rule grammar.vars) (nodes (map a_variable vs))
  Content _ = Unit {0}

  of_common : (x : PartForm) → Reads text tokens (rule grammar.common) (views.common_part x)
      → Content x
  of_common (forms.Consts ds) r = tt
  of_common (forms.Types ds) r =
      in_left text tokens (in_right text tokens (in_rule text tokens r))
  of_common (forms.Channel c) r =
      in_left text tokens (in_right text tokens (in_right text tokens (in_rule text tokens r)))
  of_common (forms.Header x) r =
      in_left text tokens (in_right text tokens (in_right text tokens (in_right text tokens
      (in_rule text tokens r))))
  of_common (forms.Body b) r =
      in_left text tokens (in_right text tokens (in_right text tokens (in_right text tokens
      (in_right text tokens (in_rule text tokens r)))))
  of_common (forms.Routine x) r =
      in_left text tokens (in_right text tokens (in_right text tokens (in_right text tokens
      (in_right text tokens (in_right text tokens (in_rule text tokens r))))))
  of_common (forms.Modvars ms) r =
      in_right text tokens (in_right text tokens (in_right text tokens (in_right text tokens
      (in_right text tokens (in_right text tokens (in_rule text tokens r))))))
  of_common (forms.Points ps) r = absurd (no_text text tokens r)
  of_common (forms.Vars vs) r = absurd (no_text text tokens r)
  of_common (forms.States us) r = tt
  of_common (forms.StateSets ss) r = tt

  of_bodies : (x : PartForm) → Reads text tokens body_part (views.body_part x) → Content x
  of_bodies (forms.Points ps) r =
      in_left text tokens (in_rule text tokens (in_right text tokens r))
  of_bodies (forms.Vars vs) r =
      in_left text tokens (in_right text tokens (in_rule text tokens (in_right text tokens r)))
  of_bodies (forms.States us) r = tt
  of_bodies (forms.StateSets ss) r = tt
  of_bodies (forms.Consts ds) r = tt
  of_bodies (forms.Types ds) r = of_common (forms.Types ds) (in_left text tokens r)
  of_bodies (forms.Channel c) r = of_common (forms.Channel c) (in_left text tokens r)
  of_bodies (forms.Header x) r = of_common (forms.Header x) (in_left text tokens r)
  of_bodies (forms.Body b) r = of_common (forms.Body b) (in_left text tokens r)
  of_bodies (forms.Routine x) r = of_common (forms.Routine x) (in_left text tokens r)
  of_bodies (forms.Modvars ms) r = of_common (forms.Modvars ms) (in_left text tokens r)

  -- the parts of blocks
  block_part_written : (x : Part) → Reads text tokens block_part (node (a_block_part x))
      → BlockPartWritten x
  unfolding out-Part denote.Hole.Carrier.out
  block_part_written (part.Consts cs) r = tt
  block_part_written (part.Types ts) r =
      types_written text tokens few ts
      (in_left text tokens (in_right text tokens (in_node text tokens r)))
  block_part_written (part.Vars vs) r =
      vars_written text tokens few vs
      (in_right text tokens (in_right text tokens (in_node text tokens r)))
  block_part_written _ r = no_text text tokens (in_node text tokens r)

  block_row_written : {n : _} (row : Row_of-Part n)
      → Reads text tokens (rep block_part) (nodes (map a_block_part (items-the_row-Part n row)))
      → BlockWritten row
  block_row_written end_of-Part r = tt
  block_row_written (more_of-Part x rest) r =
      let q = in_rep text tokens r in (block_part_written x q.0, block_row_written rest q.1)

  -- blocks
  block_parts : (b : Block) → Reads text tokens (rule grammar.block) (node (a_block b))
      → Reads text tokens (rep block_part) (nodes (map a_block_part (out-Block b).parts))
      × Each StatementWritten (out-Block b).statements
  block_parts b r =
      let q = in_seq text tokens (in_node text tokens (in_rule text tokens r)) in
      let ss = (out-Block b).statements in
      let t = (in_seq text tokens (in_word text tokens (in_here text tokens q.1))).0 in
      let s = reads_stands text tokens statements (nodes (map a_statement ss)) t in
      (q.0, statements_written ss s.0 s.1 s.2)

  -- clauses
  clauses_written : (cs : List Clause)
      → Reads text tokens (rep (rule grammar.clause)) (nodes (map a_clause cs))
      → Each ClauseWritten cs
  clauses_written cs r =
      let s = reads_stands text tokens (rep (rule grammar.clause)) (nodes (map a_clause cs)) r in
      each_stands a_clause ClauseWritten clause_written cs s.0 s.1 s.2

  -- the block of a routine
  routine_block : (name : Used) (fs : List Formal) (result : Option Used) (b : Block)
      → Reads text tokens (alt procedure function) (views.routine_of name fs result b)
      → Reads text tokens (rule grammar.block) (node (a_block b))
  routine_block name fs None b r =
      let q = in_seq text tokens (in_word text tokens (in_left text tokens r)) in
      (in_seq text tokens (in_word text tokens (in_seq text tokens q.1).1)).0
  routine_block name fs (Some u) b r =
      let q = in_seq text tokens (in_word text tokens
      (in_seq text tokens (in_right text tokens r)).1) in
      let w = in_seq text tokens (in_word text tokens (in_seq text tokens q.1).1) in
      (in_seq text tokens (in_word text tokens w.1)).0

  -- points and module variables
  points_written : (ps : List _) → Reads text tokens points (nodes (map a_point ps))
      → Each PointWritten ps
  points_written ps r =
      let s = reads_stands text tokens points (nodes (map a_point ps)) r in
      each_stands a_point PointWritten point_written ps s.0 s.1 s.2

  modvars_written : (ms : List _) → Reads text tokens modvars (nodes (map a_module_variable ms))
      → Each ModvarWritten ms
  modvars_written ms r =
      let s = reads_stands text tokens modvars (nodes (map a_module_variable ms)) r in
      each_stands a_module_variable ModvarWritten modvar_written ms s.0 s.1 s.2

  -- transitions
  first_part_written : (f : Held-Body-first)
      → Reads text tokens first_part (views.first_part (first.view-Body-first f)) → FirstWritten f
  unfolding out-Part denote.Hole.Carrier.out denote.Hole.Carrier.shown
  first_part_written first.None' r = tt
  first_part_written (first.Some' to a parts ss place) r =
      let q = in_seq text tokens (in_word text tokens (in_opt text tokens r)) in
      let b = block_parts _ (in_seq text tokens q.1).0 in (
        block_row_written parts
            (subst (λ ps. Reads text tokens (rep block_part) (nodes (map a_block_part ps)))
            (items_shown-the_row-Part-0 a parts) b.0),
        b.1,
      )

  transition_parts : (t : Transition)
      → Reads text tokens (rule grammar.transition) (node (a_transition t))
      → Each ClauseWritten (out-Transition t).clauses
      × Reads text tokens (rule grammar.block) (node (a_block (out-Transition t).block))
  transition_parts t r =
      let q = in_seq text tokens (in_node text tokens (in_rule text tokens r)) in
      let w = in_seq text tokens q.1 in
      (clauses_written (out-Transition t).clauses q.0, (in_seq text tokens w.1).0)

  transitions_written : {n : _} (row : Row_of-Transition n)
      → Reads text tokens (rep (rule grammar.transition))
      (nodes (map a_transition (items-the_row-Transition n row))) → TransitionsWritten row
  unfolding out-Part denote.Hole.Carrier.out denote.Hole.Carrier.shown
  transitions_written end_of-Transition r = tt
  transitions_written (more_of-Transition cs name a parts ss place rest) r =
      let q = in_rep text tokens r in
      let t = transition_parts _ q.0 in
      let b = block_parts _ t.1 in (
        t.0,
        block_row_written parts
            (subst (λ ps. Reads text tokens (rep block_part) (nodes (map a_block_part ps)))
            (items_shown-the_row-Part-0 a parts) b.0),
        b.1,
        transitions_written rest q.1,
      )

  several_transitions_written : {n : _} (row : Row_of-Transition n)
      → Reads text tokens (several (rule grammar.transition))
      (nodes (map a_transition (items-the_row-Transition n row))) → TransitionsWritten row
  unfolding out-Part denote.Hole.Carrier.out denote.Hole.Carrier.shown
  several_transitions_written end_of-Transition r = tt
  several_transitions_written (more_of-Transition cs name a parts ss place rest) r =
      let q = in_list text tokens r in
      let t = transition_parts _ q.0 in
      let b = block_parts _ t.1 in (
        t.0,
        block_row_written parts
            (subst (λ ps. Reads text tokens (rep block_part) (nodes (map a_block_part ps)))
            (items_shown-the_row-Part-0 a parts) b.0),
        b.1,
        transitions_written rest q.1,
      )

  groups_written : {n : _} (row : Row_of-Group n)
      → Reads text tokens (rep (rule grammar.transpart))
      (nodes (map a_group (items-the_row-Group n row))) → GroupsWritten row
  unfolding out-Group denote.Hole.Carrier.out denote.Hole.Carrier.shown
  groups_written end_of-Group r = tt
  groups_written (more_of-Group (Group' a transitions) rest) r =
      let q = in_rep text tokens r in
      let t = in_word text tokens (in_node text tokens (in_rule text tokens q.0)) in (
        several_transitions_written transitions
            (subst (λ ts. Reads text tokens (several (rule grammar.transition))
            (nodes (map a_transition ts))) (items_shown-the_row-Transition-2 a transitions) t),
        groups_written rest q.1,
      )

  -- the parts of a body
  body_parts : (b : Body) → Reads text tokens (rule grammar.body) (node (a_body b))
      → Reads text tokens (rep body_part) (nodes (map a_body_part (out-Body b).parts))
      × Reads text tokens first_part (views.first_part (out-Body b).first)
      × Reads text tokens (rep (rule grammar.transpart)) (nodes (map a_group (out-Body b).groups))
  body_parts b r =
      let q = in_seq text tokens (in_word text tokens (in_deeper text tokens
      (in_node text tokens (in_rule text tokens r)))) in
      let w = in_seq text tokens (in_word text tokens q.1) in
      let x = in_seq text tokens (in_word text tokens w.1) in
      let y = in_seq text tokens x.1 in (x.0, y.0, (in_seq text tokens y.1).0)

  -- all parts
  mutual
    unfolding out-Part out-Body denote.Hole.Carrier.out denote.Hole.Carrier.shown

    part_written : (x : Part) → Content (out-Part x) → PartWritten x
    part_written (part.Consts cs) r = tt
    part_written (part.Types ts) r = types_written text tokens few ts r
    part_written (part.Channel c) r =
        let s = reads_stands text tokens (rule grammar.channel) (node (a_channel c)) r in
        channel_written c s.0 s.1 s.2
    part_written (part.Header x) r =
        let s = reads_stands text tokens (rule grammar.header) (node (a_header x)) r in
        header_written x s.0 s.1 s.2
    part_written (part.Body (Body' name header a ps f b groups)) r =
        let q = body_parts (Body' name header a ps f b groups) r in (
          body_row_written ps
              (subst (λ l. Reads text tokens (rep body_part) (nodes (map a_body_part l)))
              (items_shown-the_row-Part-0 a ps) q.0),
          first_part_written f q.1,
          groups_written groups
              (subst (λ l. Reads text tokens (rep (rule grammar.transpart)) (nodes (map a_group l)))
              (items_shown-the_row-Group-1 b groups) q.2),
        )
    part_written (part.Modvars ms) r = modvars_written ms r
    part_written (part.Points ps) r = points_written ps r
    part_written (part.Vars vs) r = vars_written text tokens few vs r
    part_written (part.States us) r = tt
    part_written (part.StateSets ss) r = tt
    part_written (part.Routine' name formals result a ps ss place) r =
        let q = routine_block name formals result _ (in_node text tokens (in_rule text tokens r)) in
        let b = block_parts _ q in (
          block_row_written ps
              (subst (λ l. Reads text tokens (rep block_part) (nodes (map a_block_part l)))
              (items_shown-the_row-Part-0 a ps) b.0),
          b.1,
        )

    body_row_written : {n : _} (row : Row_of-Part n)
        → Reads text tokens (rep body_part) (nodes (map a_body_part (items-the_row-Part n row)))
        → PartsWritten row
    body_row_written end_of-Part r = tt
    body_row_written (more_of-Part x rest) r =
        let q = in_rep text tokens r in (
          part_written x (of_bodies (out-Part x) (in_node text tokens q.0)),
          body_row_written rest q.1,
        )

  pub common_parts_written : (xs : List Part)
      → Reads text tokens (rep (rule grammar.common)) (nodes (map a_common_part xs))
      → Each PartWritten xs
  common_parts_written [] r = tt
  common_parts_written (x ∷ xs) r =
      let q = in_rep text tokens r in (
        part_written x (of_common (out-Part x) (in_node text tokens q.0)),
        common_parts_written xs q.1,
      )
