-- What a view shows of statements, bodies and the whole specification is spelled so.
use Rattle.std.proofs.Common.{List, map, subst, Option, Some, None}
use Rattle.est_syntax.specs.declared.name.Used.{Used}
use Rattle.est_syntax.specs.declared.statement.Statement.{Statement, out-Statement}
use Rattle.est_syntax.specs.declared.statement.Statement.{Row_of-Statement, end_of-Statement}
use Rattle.est_syntax.specs.declared.statement.Statement.{more_of-Statement}
use Rattle.est_syntax.specs.declared.statement.Statement.{items-the_row-Statement}
use Rattle.est_syntax.specs.declared.statement.Statement.{items_shown-the_row-Statement-0}
use Rattle.est_syntax.specs.declared.statement.Statement.{Row_of-Arm, end_of-Arm, more_of-Arm}
use Rattle.est_syntax.specs.declared.statement.Statement.{items-the_row-Arm}
use Rattle.est_syntax.specs.declared.statement.Statement.{items_shown-the_row-Arm-2}
use Rattle.est_syntax.specs.declared.statement.Statement.{Held-Statement-If-2}
use Rattle.est_syntax.specs.declared.statement.Statement.TheBlock.{shape-the_row-Statement-1}
use Rattle.est_syntax.specs.declared.statement.Statement.TheBlock.{hidden-the_row-Statement-1}
use Rattle.est_syntax.specs.declared.statement.Statement.TheBlock.{shown-the_row-Statement-1}
use Rattle.est_syntax.specs.declared.statement.Statement.TheVariants as statement
use Rattle.est_syntax.specs.declared.statement.Statement.TheBlock as held
use Rattle.est_syntax.specs.declared.transition.Clause.{Clause}
use Rattle.est_syntax.specs.declared.transition.Clause.TheVariants as clauses
use Rattle.est_syntax.specs.declared.transition.Group.{Group', out-Group, Row_of-Transition}
use Rattle.est_syntax.specs.declared.transition.Group.{end_of-Transition, more_of-Transition}
use Rattle.est_syntax.specs.declared.transition.Group.{items-the_row-Transition}
use Rattle.est_syntax.specs.declared.transition.Group.{items_shown-the_row-Transition-2}
use Rattle.est_syntax.specs.declared.body.Block.{Block, out-Block}
use Rattle.est_syntax.specs.declared.body.Part.{Part, out-Part, Row_of-Part, end_of-Part}
use Rattle.est_syntax.specs.declared.body.Part.{more_of-Part, items-the_row-Part}
use Rattle.est_syntax.specs.declared.body.Part.{items_shown-the_row-Part-0}
use Rattle.est_syntax.specs.declared.body.Part.TheOpen as parts
use Rattle.est_syntax.specs.declared.body.Part.TheVariants as part
use Rattle.est_syntax.specs.declared.body.Part.TheBlock as first
use Rattle.est_syntax.specs.declared.body.Part.TheBlock.{shown-the_row-Part-0}
use Rattle.est_syntax.specs.declared.body.Part.TheBlock.{shown-the_row-Group-1}
use Rattle.est_syntax.specs.declared.body.Body.{Body, Body', out-Body, Row_of-Group, end_of-Group}
use Rattle.est_syntax.specs.declared.body.Body.{more_of-Group, items-the_row-Group}
use Rattle.est_syntax.specs.declared.body.Body.{items_shown-the_row-Group-1, Held-Body-first}
use Rattle.est_syntax.specs.declared.routine.Formal.{Formal}
use Rattle.est_syntax.specs.declared.routine.Routine.{Routine, out-Routine}
use Rattle.est_syntax.specs.declared.specification.Spec.{Spec}
use Rattle.text_reader.specs.Shown.{node, nodes}
use Rattle.text_productions.specs.Nodes as views
use Rattle.text_productions.specs.Nodes.{Node, PartForm, a_constant_definition, a_type_definition}
use Rattle.text_productions.specs.Nodes.{a_variable, a_channel, a_point, a_header, a_statement}
use Rattle.text_productions.specs.Nodes.{a_module_variable, a_state_set, a_routine, a_body, an_arm}
use Rattle.text_productions.specs.Nodes.{a_common_part, a_body_part, a_block_part, a_block}
use Rattle.text_productions.specs.Nodes.{a_clause, a_transition, a_group, a_use, a_specification}
use Rattle.law_places.specs.Said.{Each}
use Rattle.law_places.proofs.FromBodies.{Owner, of_specification, of_body, of_block, part_of}
use Rattle.law_texts.proofs.Spells.{w_kept, w_at, w_pair, w_first, w_second, w_given}
use Rattle.law_texts.proofs.Spells.{w_node, w_more}
use Rattle.law_texts.proofs.PlainTrees.{Says}
use Rattle.law_texts.proofs.Spelt.{IsSpelt, FormalSpelt, StatementSpelt, StatementsSpelt}
use Rattle.law_texts.proofs.Spelt.{SecondSpelt, ArmsSpelt, ClauseSpelt, PartSpelt, PartsSpelt}
use Rattle.law_texts.proofs.Spelt.{FirstSpelt, GroupsSpelt, TransitionsSpelt}
use Rattle.law_texts.proofs.SpeltTexts.{each_says, names_spelt, short_spelt}
use Rattle.law_texts.proofs.SpeltParts.{consts_spelt, types_spelt, variables_spelt, params_spelt}
use Rattle.law_texts.proofs.SpeltParts.{channel_spelt, points_spelt, modvars_spelt, header_spelt}
use Rattle.law_texts.proofs.SpeltParts.{state_sets_spelt, formals_spelt}

-- statements
mutual
  unfolding out-Statement denote.Hole.Carrier.out shape-the_row-Statement-1
      hidden-the_row-Statement-1 shown-the_row-Statement-1 denote.Hole.Carrier.shown

  statement_spelt : (s : Statement) → Says (node (a_statement s)) → StatementSpelt s
  statement_spelt (statement.Compound' a turn place)
      (w_node (w_at (w_given (w_first (w_pair x n))))) =
      row_spelt turn (subst (λ ss. Says (nodes (map a_statement ss)))
      (items_shown-the_row-Statement-0 a turn) x)
  statement_spelt (statement.If' condition a (more_of-Statement one end_of-Statement) other place)
      (w_node (w_at (w_given (w_second (w_second (w_first (w_pair x (w_pair y z)))))))) =
      ((statement_spelt one y, tt), other_spelt other z)
  statement_spelt (statement.Case' value a arms place)
      (w_node (w_at (w_given (w_second (w_second (w_second (w_first (w_pair x
      (w_pair y n))))))))) =
      arms_spelt arms (subst (λ ss. Says (nodes (map an_arm ss)))
      (items_shown-the_row-Arm-2 a arms) y)
  statement_spelt (statement.While' condition a (more_of-Statement turn end_of-Statement) place)
      (w_node (w_at (w_given (w_second (w_second (w_second (w_second (w_first
      (w_pair x y))))))))) = (statement_spelt turn y, tt)
  statement_spelt (statement.Repeat' a turn until place)
      (w_node (w_at (w_given (w_second (w_second (w_second (w_second (w_second (w_first
      (w_pair x y)))))))))) =
      row_spelt turn (subst (λ ss. Says (nodes (map a_statement ss)))
      (items_shown-the_row-Statement-0 a turn) x)
  statement_spelt (statement.For' name from down to a (more_of-Statement turn end_of-Statement)
      place)
      (w_node (w_at (w_given (w_second (w_second (w_second (w_second (w_second (w_second (w_first
      (w_pair u (w_pair x (w_pair d (w_pair y z)))))))))))))) = (statement_spelt turn z, tt)
  statement_spelt (statement.All' name over a (more_of-Statement turn end_of-Statement) place)
      (w_node (w_at (w_given (w_second (w_second (w_second (w_second (w_second (w_second (w_second
      (w_first (w_pair (w_at (w_kept p)) (w_pair x y))))))))))))) =
      (p, short_spelt over x, (statement_spelt turn y, tt))
  statement_spelt _ s = tt

  row_spelt : {n : _} (row : Row_of-Statement n)
      → Says (nodes (map a_statement (items-the_row-Statement n row)))
      → StatementsSpelt row
  row_spelt end_of-Statement s = tt
  row_spelt (more_of-Statement s rest) (w_more x y) = (statement_spelt s x, row_spelt rest y)

  other_spelt : (s : Held-Statement-If-2) → Says (views.else_part (held.view-Statement-If-2 s))
      → SecondSpelt s
  other_spelt held.None' s = tt
  other_spelt (held.Some' a (more_of-Statement other end_of-Statement)) (w_given x) =
      (statement_spelt other x, tt)

  arms_spelt : {n : _} (row : Row_of-Arm n) → Says (nodes (map an_arm (items-the_row-Arm n row)))
      → ArmsSpelt row
  arms_spelt end_of-Arm s = tt
  arms_spelt (more_of-Arm constants s rest) (w_more (w_node (w_pair x y)) z) =
      (statement_spelt s y, arms_spelt rest z)

statements_spelt : (ss : List Statement) → Says (nodes (map a_statement ss))
    → Each StatementSpelt ss
statements_spelt ss s = each_says a_statement StatementSpelt statement_spelt ss s

-- clauses
clause_spelt : (c : Clause) → Says (node (a_clause c)) → ClauseSpelt c
clause_spelt (clauses.Any names place)
    (w_node (w_at (w_second (w_second (w_second (w_second (w_first (w_pair x n)))))))) =
    params_spelt names x
clause_spelt _ s = tt

clauses_spelt : (cs : List Clause) → Says (nodes (map a_clause cs))
    → Each ClauseSpelt cs
clauses_spelt cs s = each_says a_clause ClauseSpelt clause_spelt cs s

-- what a part shows
abbrev Content : PartForm → Type 0
Content (parts.Consts ds) = Says (nodes (map a_constant_definition ds))
Content (parts.Types ds) = Says (nodes (map a_type_definition ds))
Content (parts.Channel c) = Says (node (a_channel c))
Content (parts.Header h) = Says (node (a_header h))
Content (parts.Body b) = Says (node (a_body b))
Content (parts.Routine r) = Says (node (a_routine r))
Content (parts.Modvars ms) = Says (nodes (map a_module_variable ms))
Content (parts.Points ps) = Says (nodes (map a_point ps))
Content (parts.Vars vs) = Says (nodes (map a_variable vs))
Content (parts.States us) = Says (nodes (map a_use us))
Content (parts.StateSets ss) = Says (nodes (map a_state_set ss))

of_common : (x : PartForm) → Says (views.common_part x) → Content x
of_common (parts.Consts ds) (w_first s) = s
of_common (parts.Types ds) (w_second (w_first s)) = s
of_common (parts.Channel c) (w_second (w_second (w_first s))) = s
of_common (parts.Header x) (w_second (w_second (w_second (w_first s)))) = s
of_common (parts.Body b) (w_second (w_second (w_second (w_second (w_first s))))) = s
of_common (parts.Routine r) (w_second (w_second (w_second (w_second (w_second (w_first s)))))) = s
of_common (parts.Modvars ms) (w_second (w_second (w_second (w_second (w_second (w_second s)))))) =
    s
of_common (parts.Points ps) s = elim s [ ]
of_common (parts.Vars vs) s = elim s [ ]
of_common (parts.States us) s = elim s [ ]
of_common (parts.StateSets ss) s = elim s [ ]

of_bodies : (x : PartForm) → Says (views.body_part x) → Content x
of_bodies (parts.Points ps) (w_second (w_first s)) = s
of_bodies (parts.Vars vs) (w_second (w_second (w_first s))) = s
of_bodies (parts.States us) (w_second (w_second (w_second (w_first (w_pair s n))))) = s
of_bodies (parts.StateSets ss) (w_second (w_second (w_second (w_second s)))) = s
of_bodies (parts.Consts ds) (w_first s) = of_common (parts.Consts ds) s
of_bodies (parts.Types ds) (w_first s) = of_common (parts.Types ds) s
of_bodies (parts.Channel c) (w_first s) = of_common (parts.Channel c) s
of_bodies (parts.Header x) (w_first s) = of_common (parts.Header x) s
of_bodies (parts.Body b) (w_first s) = of_common (parts.Body b) s
of_bodies (parts.Routine r) (w_first s) = of_common (parts.Routine r) s
of_bodies (parts.Modvars ms) (w_first s) = of_common (parts.Modvars ms) s

of_blocks : (x : PartForm) → Says (views.block_part x) → Content x
of_blocks (parts.Consts ds) (w_first s) = s
of_blocks (parts.Types ds) (w_second (w_first s)) = s
of_blocks (parts.Vars vs) (w_second (w_second s)) = s
of_blocks (parts.Channel c) s = elim s [ ]
of_blocks (parts.Header x) s = elim s [ ]
of_blocks (parts.Body b) s = elim s [ ]
of_blocks (parts.Routine r) s = elim s [ ]
of_blocks (parts.Modvars ms) s = elim s [ ]
of_blocks (parts.Points ps) s = elim s [ ]
of_blocks (parts.States us) s = elim s [ ]
of_blocks (parts.StateSets ss) s = elim s [ ]

content : (w : Owner) (x : Part) → Says (node (part_of w x)) → Content (out-Part x)
content of_specification x (w_node s) = of_common (out-Part x) s
content of_body x (w_node s) = of_bodies (out-Part x) s
content of_block x (w_node s) = of_blocks (out-Part x) s

-- What a body shows, a routine and a block.
pub record BodyShows (b : Body) : Type 0 where
  pub name : IsSpelt (out-Body b).name
  pub own : Says (nodes (map a_body_part (out-Body b).parts))
  pub first : Says (views.first_part (out-Body b).first)
  pub groups : Says (nodes (map a_group (out-Body b).groups))

body_shows : (b : Body) → Says (node (a_body b)) → BodyShows b
body_shows b (w_node (w_pair (w_at (w_kept p)) (w_pair n (w_pair x (w_pair y (w_pair z e)))))) =
    record { name = p; own = x; first = y; groups = z }

pub record RoutineShows (name : Used) (fs : List Formal) (b : Block) : Type 0 where
  pub name_is : IsSpelt name
  pub formals : Each FormalSpelt fs
  pub block : Says (node (a_block b))

routine_by : (name : Used) (fs : List Formal) (result : Option Used) (b : Block)
    → Says (views.routine_of name fs result b) → RoutineShows name fs b
routine_by name fs None b (w_first (w_pair (w_at (w_kept p)) (w_pair x (w_pair y e)))) =
    record { name_is = p; formals = formals_spelt fs x; block = y }
routine_by name fs (Some u) b
    (w_second (w_pair d (w_pair (w_at (w_kept p)) (w_pair x (w_pair n (w_pair y e)))))) =
    record { name_is = p; formals = formals_spelt fs x; block = y }

routine_shows : (r : Routine) → Says (node (a_routine r))
    → RoutineShows (out-Routine r).name (out-Routine r).formals (out-Routine r).block
routine_shows r (w_node s) = routine_by (out-Routine r).name (out-Routine r).formals
    (out-Routine r).result (out-Routine r).block s

block_shows : (b : Block) → Says (node (a_block b))
    → Says (nodes (map a_block_part (out-Block b).parts))
    × Each StatementSpelt (out-Block b).statements
block_shows b (w_node (w_pair x (w_at (w_pair y n)))) =
    (x, statements_spelt (out-Block b).statements y)

-- parts
mutual
  unfolding out-Part out-Body out-Group denote.Hole.Carrier.out denote.Hole.Carrier.shown

  part_spelt : (w : Owner) (x : Part) → Says (node (part_of w x)) → PartSpelt x
  part_spelt w (part.Consts cs) s = consts_spelt cs (content w (part.Consts cs) s)
  part_spelt w (part.Types ts) s = types_spelt ts (content w (part.Types ts) s)
  part_spelt w (part.Channel c) s = channel_spelt c (content w (part.Channel c) s)
  part_spelt w (part.Header x) s = header_spelt x (content w (part.Header x) s)
  part_spelt w (part.Body (Body' name header a ps f b groups)) s =
      let x = body_shows (Body' name header a ps f b groups)
      (content w (part.Body (Body' name header a ps f b groups)) s) in (
        x.name,
        parts_spelt of_body ps (subst (λ l. Says (nodes (map a_body_part l)))
            (items_shown-the_row-Part-0 a ps) x.own),
        first_spelt f x.first,
        groups_spelt groups (subst (λ l. Says (nodes (map a_group l)))
            (items_shown-the_row-Group-1 b groups) x.groups),
      )
  part_spelt w (part.Modvars ms) s = modvars_spelt ms (content w (part.Modvars ms) s)
  part_spelt w (part.Points ps) s = points_spelt ps (content w (part.Points ps) s)
  part_spelt w (part.Vars vs) s = variables_spelt vs (content w (part.Vars vs) s)
  part_spelt w (part.States us) s = names_spelt us (content w (part.States us) s)
  part_spelt w (part.StateSets ss) s = state_sets_spelt ss (content w (part.StateSets ss) s)
  part_spelt w (part.Routine' name formals result a ps statements place) s =
      let x = routine_shows _
      (content w (part.Routine' name formals result a ps statements place) s) in
      let b = block_shows _ x.block in (
        x.name_is,
        x.formals,
        parts_spelt of_block ps (subst (λ l. Says (nodes (map a_block_part l)))
            (items_shown-the_row-Part-0 a ps) b.0),
        b.1,
      )

  parts_spelt : (w : Owner) {n : _} (row : Row_of-Part n)
      → Says (nodes (map (part_of w) (items-the_row-Part n row))) → PartsSpelt row
  parts_spelt w end_of-Part s = tt
  parts_spelt w (more_of-Part x rest) (w_more s t) = (part_spelt w x s, parts_spelt w rest t)

  first_spelt : (f : Held-Body-first) → Says (views.first_part (first.view-Body-first f))
      → FirstSpelt f
  first_spelt first.None' s = tt
  first_spelt (first.Some' to a ps statements place) (w_given (w_pair x (w_pair y n))) =
      let b = block_shows _ y in (
        parts_spelt of_block ps (subst (λ l. Says (nodes (map a_block_part l)))
            (items_shown-the_row-Part-0 a ps) b.0),
        b.1,
      )

  groups_spelt : {n : _} (row : Row_of-Group n)
      → Says (nodes (map a_group (items-the_row-Group n row))) → GroupsSpelt row
  groups_spelt end_of-Group s = tt
  groups_spelt (more_of-Group (Group' a transitions) rest) (w_more (w_node x) y) = (
    transitions_spelt transitions (subst (λ l. Says (nodes (map a_transition l)))
        (items_shown-the_row-Transition-2 a transitions) x),
    groups_spelt rest y,
  )

  transitions_spelt : {n : _} (row : Row_of-Transition n)
      → Says (nodes (map a_transition (items-the_row-Transition n row)))
      → TransitionsSpelt row
  transitions_spelt end_of-Transition s = tt
  transitions_spelt (more_of-Transition cs name a ps statements place rest)
      (w_more (w_node (w_pair x (w_pair t (w_pair y e)))) z) =
      let b = block_shows _ y in (
        clauses_spelt cs x,
        parts_spelt of_block ps (subst (λ l. Says (nodes (map a_block_part l)))
            (items_shown-the_row-Part-0 a ps) b.0),
        b.1,
        transitions_spelt rest z,
      )

-- each part of a specification is spelled so
pub all_spelt : (s : Spec) → Says (node (a_specification s))
    → Each PartSpelt s.parts
all_spelt s (w_node (w_pair n (w_pair q (w_pair t (w_pair x y))))) =
    each_says a_common_part PartSpelt (part_spelt of_specification) s.parts x
