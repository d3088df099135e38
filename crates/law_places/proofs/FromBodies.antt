-- What stands in order as a view stands as its rows do: transitions, bodies and routines.
use Rattle.std.proofs.Common.{ℕ, suc, ◌<◌, ◌≤◌, List, map}
use Rattle.std.proofs.Common.{subst, Option, Some, None, arith}
use Rattle.est_syntax.specs.declared.name.Used.{Used}
use Rattle.est_syntax.specs.declared.transition.Clause.{Clause}
use Rattle.est_syntax.specs.declared.transition.Clause.TheVariants as clauses
use Rattle.est_syntax.specs.declared.transition.Group.{Group', out-Group, Row_of-Transition}
use Rattle.est_syntax.specs.declared.transition.Group.{end_of-Transition, more_of-Transition}
use Rattle.est_syntax.specs.declared.transition.Group.{items-the_row-Transition}
use Rattle.est_syntax.specs.declared.transition.Group.{items_shown-the_row-Transition-2}
use Rattle.est_syntax.specs.declared.body.Block.{Block, out-Block}
use Rattle.est_syntax.specs.declared.body.Part.{Part, out-Part, Row_of-Part, end_of-Part}
use Rattle.est_syntax.specs.declared.body.Part.{more_of-Part, items-the_row-Part}
use Rattle.est_syntax.specs.declared.body.Part.{items_shown-the_row-Part-0}
use Rattle.est_syntax.specs.declared.body.Part.TheOpen as parts
use Rattle.est_syntax.specs.declared.body.Part.TheVariants as part
use Rattle.est_syntax.specs.declared.body.Part.TheBlock as first
use Rattle.est_syntax.specs.declared.body.Part.TheBlock.{shown-the_row-Part-0}
use Rattle.est_syntax.specs.declared.body.Part.TheBlock.{shown-the_row-Group-1}
use Rattle.est_syntax.specs.declared.body.Body.{Body, Body', out-Body, Row_of-Group, end_of-Group}
use Rattle.est_syntax.specs.declared.body.Body.{more_of-Group, items-the_row-Group}
use Rattle.est_syntax.specs.declared.body.Body.{items_shown-the_row-Group-1, Held-Body-first}
use Rattle.est_syntax.specs.declared.routine.Formal.{Formal}
use Rattle.est_syntax.specs.declared.routine.Routine.{Routine, out-Routine}
use Rattle.text_reader.specs.Shown.{node, nodes}
use Rattle.rule_uses.specs.NamesInStatements.{statements_names}
use Rattle.text_productions.specs.Nodes as shown
use Rattle.text_productions.specs.Nodes.{Node, PartForm, a_constant_definition, a_type_definition}
use Rattle.text_productions.specs.Nodes.{a_variable, a_parameter, a_channel, a_point, a_header}
use Rattle.text_productions.specs.Nodes.{a_module_variable, a_state_set, a_routine, a_body}
use Rattle.text_productions.specs.Nodes.{a_common_part, a_body_part, a_block_part, a_block}
use Rattle.text_productions.specs.Nodes.{a_clause, a_transition, a_group, a_statement, a_use, layer}
use Rattle.law_places.specs.PlaceOrder.{o_empty, o_kept, o_at, o_pair, o_first, o_second}
use Rattle.law_places.specs.PlaceOrder.{o_given, o_node, o_none, o_more}
use Rattle.law_places.proofs.Standing.{goes_on, from_earlier, to_later}
use Rattle.law_places.proofs.PlacedParts.{InOrder, FormalPlaced}
use Rattle.law_places.proofs.PlacedBodies.{NamePlaced, StatementPlaced, ClausePlaced, PartPlaced}
use Rattle.law_places.proofs.PlacedBodies.{PartsPlaced, FirstPlaced, GroupsPlaced}
use Rattle.law_places.proofs.PlacedBodies.{TransitionsPlaced, IsOfBlock, AreOfBlock}
use Rattle.law_places.proofs.FromTexts.{Stand, names_placed}
use Rattle.law_places.proofs.FromParts.{in_order, constdefs_placed, typedefs_placed}
use Rattle.law_places.proofs.FromParts.{variables_placed, parameters_in_order, channel_placed}
use Rattle.law_places.proofs.FromParts.{points_placed, modvars_placed, header_placed}
use Rattle.law_places.proofs.FromParts.{state_sets_placed, formals_placed}
use Rattle.law_places.proofs.FromStatements.{statements_placed}
use Rattle.law_places.proofs.UsesInExpressions.{AreBefore}
use Rattle.law_places.proofs.UsesInStatements.{statements_before}

-- clauses
clause_placed : (c : Clause) (i j : ℕ) → Stand (node (a_clause c)) i j → ClausePlaced i j c
clause_placed (clauses.From states place) i j (o_node (o_at l x)) = (l, goes_on layer x)
clause_placed (clauses.To state place) i j (o_node (o_at l x)) = (l, goes_on layer x)
clause_placed (clauses.When at signal place) i j (o_node (o_at l x)) = (l, goes_on layer x)
clause_placed (clauses.Provided condition place) i j (o_node (o_at l x)) = (l, goes_on layer x)
clause_placed (clauses.Otherwise place) i j (o_node (o_at l x)) = (l, goes_on layer x)
clause_placed (clauses.Any names place) i j
    (o_node (o_at l (o_second (o_second (o_second (o_second (o_first (o_pair x (o_empty n))))))))) =
    (l, parameters_in_order names place j (to_later layer j n x))
clause_placed (clauses.Priority value place) i j (o_node (o_at l x)) = (l, goes_on layer x)
clause_placed (clauses.Delay least most place) i j (o_node (o_at l x)) = (l, goes_on layer x)

clauses_placed : (cs : List Clause) (i j : ℕ) → Stand (nodes (map a_clause cs)) i j
    → InOrder ClausePlaced i j cs
clauses_placed cs i j h = in_order a_clause ClausePlaced clause_placed cs i j h

-- a name that may be left out
name_placed : (u : Option Used) (i j : ℕ) → Stand (shown.name_given u) i j → NamePlaced i j u
name_placed None i j (o_empty l) = l
name_placed (Some u) i j (o_given (o_at l (o_kept m))) = (l, m)

-- What a part shows, whether it is one of a specification, of a body or of a block.
pub data Owner : Type 0 where
  of_specification of_body of_block : Owner

abbrev pub part_of : Owner → Part → Node
part_of of_specification p = a_common_part p
part_of of_body p = a_body_part p
part_of of_block p = a_block_part p

abbrev Content : PartForm → ℕ → ℕ → Type 0
Content (parts.Consts ds) i j = Stand (nodes (map a_constant_definition ds)) i j
Content (parts.Types ds) i j = Stand (nodes (map a_type_definition ds)) i j
Content (parts.Channel c) i j = Stand (node (a_channel c)) i j
Content (parts.Header h) i j = Stand (node (a_header h)) i j
Content (parts.Body b) i j = Stand (node (a_body b)) i j
Content (parts.Routine r) i j = Stand (node (a_routine r)) i j
Content (parts.Modvars ms) i j = Stand (nodes (map a_module_variable ms)) i j
Content (parts.Points ps) i j = Stand (nodes (map a_point ps)) i j
Content (parts.Vars vs) i j = Stand (nodes (map a_variable vs)) i j
Content (parts.States us) i j = Stand (nodes (map a_use us)) i j
Content (parts.StateSets ss) i j = Stand (nodes (map a_state_set ss)) i j

of_common : (x : PartForm) (i j : ℕ) → Stand (shown.common_part x) i j → Content x i j
of_common (parts.Consts ds) i j (o_first h) = h
of_common (parts.Types ds) i j (o_second (o_first h)) = h
of_common (parts.Channel c) i j (o_second (o_second (o_first h))) = h
of_common (parts.Header x) i j (o_second (o_second (o_second (o_first h)))) = h
of_common (parts.Body b) i j (o_second (o_second (o_second (o_second (o_first h))))) = h
of_common (parts.Routine r) i j (o_second (o_second (o_second (o_second (o_second (o_first h)))))) =
    h
of_common (parts.Modvars ms) i j
    (o_second (o_second (o_second (o_second (o_second (o_second h)))))) = h
of_common (parts.Points ps) i j h = elim h [ ]
of_common (parts.Vars vs) i j h = elim h [ ]
of_common (parts.States us) i j h = elim h [ ]
of_common (parts.StateSets ss) i j h = elim h [ ]

of_bodies : (x : PartForm) (i j : ℕ) → Stand (shown.body_part x) i j → Content x i j
of_bodies (parts.Points ps) i j (o_second (o_first h)) = h
of_bodies (parts.Vars vs) i j (o_second (o_second (o_first h))) = h
of_bodies (parts.States us) i j (o_second (o_second (o_second (o_first (o_pair h (o_empty n)))))) =
    to_later layer j n h
of_bodies (parts.StateSets ss) i j (o_second (o_second (o_second (o_second h)))) = h
of_bodies (parts.Consts ds) i j (o_first h) = of_common (parts.Consts ds) i j h
of_bodies (parts.Types ds) i j (o_first h) = of_common (parts.Types ds) i j h
of_bodies (parts.Channel c) i j (o_first h) = of_common (parts.Channel c) i j h
of_bodies (parts.Header x) i j (o_first h) = of_common (parts.Header x) i j h
of_bodies (parts.Body b) i j (o_first h) = of_common (parts.Body b) i j h
of_bodies (parts.Routine r) i j (o_first h) = of_common (parts.Routine r) i j h
of_bodies (parts.Modvars ms) i j (o_first h) = of_common (parts.Modvars ms) i j h

of_blocks : (x : PartForm) (i j : ℕ) → Stand (shown.block_part x) i j → Content x i j
of_blocks (parts.Consts ds) i j (o_first h) = h
of_blocks (parts.Types ds) i j (o_second (o_first h)) = h
of_blocks (parts.Vars vs) i j (o_second (o_second h)) = h
of_blocks (parts.Channel c) i j h = elim h [ ]
of_blocks (parts.Header x) i j h = elim h [ ]
of_blocks (parts.Body b) i j h = elim h [ ]
of_blocks (parts.Routine r) i j h = elim h [ ]
of_blocks (parts.Modvars ms) i j h = elim h [ ]
of_blocks (parts.Points ps) i j h = elim h [ ]
of_blocks (parts.States us) i j h = elim h [ ]
of_blocks (parts.StateSets ss) i j h = elim h [ ]

-- what a block has are parts of a block
one_of_block : (p : Part) (i j : ℕ) → Stand (node (a_block_part p)) i j → IsOfBlock p
unfolding out-Part denote.Hole.Carrier.out
one_of_block (part.Consts cs) i j h = tt
one_of_block (part.Types ts) i j h = tt
one_of_block (part.Vars vs) i j h = tt
one_of_block (part.Channel c) i j (o_node h) = elim h [ ]
one_of_block (part.Header x) i j (o_node h) = elim h [ ]
one_of_block (part.Body b) i j (o_node h) = elim h [ ]
one_of_block (part.Modvars ms) i j (o_node h) = elim h [ ]
one_of_block (part.Points ps) i j (o_node h) = elim h [ ]
one_of_block (part.States us) i j (o_node h) = elim h [ ]
one_of_block (part.StateSets ss) i j (o_node h) = elim h [ ]
one_of_block (part.Routine' name formals result a ps statements place) i j (o_node h) = elim h [ ]

all_of_block : {n : _} (row : Row_of-Part n) (i j : ℕ)
    → Stand (nodes (map a_block_part (items-the_row-Part n row))) i j → AreOfBlock row
all_of_block end_of-Part i j h = tt
all_of_block (more_of-Part p rest) i j (o_more {k = k} x y) =
    (one_of_block p i k x, all_of_block rest k j y)

content : (w : Owner) (p : Part) (i j : ℕ) → Stand (node (part_of w p)) i j
    → Content (out-Part p) i j
content of_specification p i j (o_node h) = of_common (out-Part p) i j h
content of_body p i j (o_node h) = of_bodies (out-Part p) i j h
content of_block p i j (o_node h) = of_blocks (out-Part p) i j h

-- What a body and a routine are made of.
pub record BodyParts (b : Body) (i j : ℕ) : Type 0 where
  pub k : ℕ
  pub m : ℕ
  pub first_name : i ≤ (out-Body b).name.place
  pub second_name : (out-Body b).name.place < (out-Body b).header.place
  pub own : Stand (nodes (map a_body_part (out-Body b).parts)) (suc (out-Body b).header.place) k
  pub first : Stand (shown.first_part (out-Body b).first) k m
  pub groups : Stand (nodes (map a_group (out-Body b).groups)) m j

body_parts : (b : Body) (i j : ℕ) → Stand (node (a_body b)) i j → BodyParts b i j
body_parts b i j (o_node (o_pair (o_at l (o_kept m)) (o_pair (o_at n (o_kept p))
    (o_pair {k = k} x (o_pair {k = q} y (o_pair z (o_empty e))))))) = record {
      k = k;
      m = q;
      first_name = l;
      second_name = omega arith;
      own = from_earlier layer (suc (out-Body b).header.place) (omega arith) x;
      first = y;
      groups = to_later layer j e z;
    }

pub record RoutineParts (name : Used) (fs : List Formal) (result : Option Used) (b : Block)
    (i j : ℕ) : Type 0 where
  pub k : ℕ
  pub l : ℕ
  pub first_name : i ≤ name.place
  pub formals : InOrder FormalPlaced (suc name.place) k fs
  pub kind : NamePlaced k l result
  pub block : Stand (node (a_block b)) l j

routine_parts : (name : Used) (fs : List Formal) (result : Option Used) (b : Block) (i j : ℕ)
    → Stand (shown.routine_of name fs result b) i j → RoutineParts name fs result b i j
routine_parts name fs None b i j
    (o_first (o_pair (o_at l (o_kept m)) (o_pair {k = k} x (o_pair y (o_empty e))))) = record {
      k = k;
      l = k;
      first_name = l;
      formals = formals_placed fs (suc name.place) k
          (from_earlier layer (suc name.place) (omega arith) x);
      kind = omega arith;
      block = to_later layer j e y;
    }
routine_parts name fs (Some u) b i j
    (o_second (o_pair (o_empty d) (o_pair (o_at l (o_kept m)) (o_pair {k = k} x
    (o_pair {k = q} (o_at n (o_kept p)) (o_pair y (o_empty e))))))) = record {
      k = k;
      l = q;
      first_name = omega arith;
      formals = formals_placed fs (suc name.place) k
          (from_earlier layer (suc name.place) (omega arith) x);
      kind = (n, p);
      block = to_later layer j e y;
    }

routine_whole : (r : Routine) (i j : ℕ) → Stand (node (a_routine r)) i j
    → RoutineParts (out-Routine r).name (out-Routine r).formals (out-Routine r).result
    (out-Routine r).block i j
routine_whole r i j (o_node h) = routine_parts (out-Routine r).name (out-Routine r).formals
    (out-Routine r).result (out-Routine r).block i j h

-- what a block is made of
block_parts : (b : Block) (i j : ℕ) → Stand (node (a_block b)) i j
    → (k : ℕ) × Stand (nodes (map a_block_part (out-Block b).parts)) i k
    × (k ≤ (out-Block b).place)
    × InOrder StatementPlaced (out-Block b).place j (out-Block b).statements
    × AreBefore j (statements_names (out-Block b).statements)
block_parts b i j (o_node (o_pair {k = k} x (o_at l (o_pair y (o_empty n))))) =
    let z = to_later layer j n y in (
      k,
      x,
      l,
      statements_placed (out-Block b).statements (out-Block b).place j z,
      statements_before j (out-Block b).statements (out-Block b).place j (omega arith) z,
    )

-- parts
mutual
  unfolding out-Part out-Body out-Group denote.Hole.Carrier.out denote.Hole.Carrier.shown

  pub part_placed : (w : Owner) (p : Part) (i j : ℕ) → Stand (node (part_of w p)) i j
      → PartPlaced i j p
  part_placed w (part.Consts cs) i j h = constdefs_placed cs i j (content w (part.Consts cs) i j h)
  part_placed w (part.Types ts) i j h = typedefs_placed ts i j (content w (part.Types ts) i j h)
  part_placed w (part.Channel c) i j h = channel_placed c i j (content w (part.Channel c) i j h)
  part_placed w (part.Header x) i j h = header_placed x i j (content w (part.Header x) i j h)
  part_placed w (part.Body (Body' name header a ps f b groups)) i j h =
      let x = body_parts (Body' name header a ps f b groups) i j
      (content w (part.Body (Body' name header a ps f b groups)) i j h) in (
        x.k,
        x.m,
        x.first_name,
        x.second_name,
        parts_placed of_body ps (suc header.place) x.k
            (subst (λ l. Stand (nodes (map a_body_part l)) (suc header.place) x.k)
            (items_shown-the_row-Part-0 a ps) x.own),
        first_placed f x.k x.m x.first,
        groups_placed groups x.m j
            (subst (λ l. Stand (nodes (map a_group l)) x.m j)
            (items_shown-the_row-Group-1 b groups) x.groups),
      )
  part_placed w (part.Modvars ms) i j h = modvars_placed ms i j (content w (part.Modvars ms) i j h)
  part_placed w (part.Points ps) i j h = points_placed ps i j (content w (part.Points ps) i j h)
  part_placed w (part.Vars vs) i j h = variables_placed vs i j (content w (part.Vars vs) i j h)
  part_placed w (part.States us) i j h = names_placed us (content w (part.States us) i j h)
  part_placed w (part.StateSets ss) i j h =
      state_sets_placed ss i j (content w (part.StateSets ss) i j h)
  part_placed w (part.Routine' name formals result a ps statements place) i j h =
      let x = routine_whole _ i j
      (content w (part.Routine' name formals result a ps statements place) i j h) in
      let b = block_parts _ x.l j x.block in (
        x.k,
        x.l,
        b.0,
        x.first_name,
        x.formals,
        x.kind,
        parts_placed of_block ps x.l b.0 (subst (λ l. Stand (nodes (map a_block_part l)) x.l b.0)
            (items_shown-the_row-Part-0 a ps) b.1),
        b.2,
        b.3,
        all_of_block ps x.l b.0 (subst (λ l. Stand (nodes (map a_block_part l)) x.l b.0)
            (items_shown-the_row-Part-0 a ps) b.1),
        b.4,
      )

  parts_placed : (w : Owner) {n : _} (row : Row_of-Part n) (i j : ℕ)
      → Stand (nodes (map (part_of w) (items-the_row-Part n row))) i j → PartsPlaced i j row
  parts_placed w end_of-Part i j (o_none l) = l
  parts_placed w (more_of-Part p rest) i j (o_more {k = k} x y) =
      (k, part_placed w p i k x, parts_placed w rest k j y)

  first_placed : (f : Held-Body-first) (i j : ℕ)
      → Stand (shown.first_part (first.view-Body-first f)) i j → FirstPlaced i j f
  first_placed first.None' i j (o_empty l) = l
  first_placed (first.Some' to a ps statements place) i j
      (o_given (o_pair {k = k} x (o_pair y (o_empty n)))) =
      let b = block_parts _ k j (to_later layer j n y) in (
        k,
        b.0,
        name_placed to i k x,
        parts_placed of_block ps k b.0 (subst (λ l. Stand (nodes (map a_block_part l)) k b.0)
            (items_shown-the_row-Part-0 a ps) b.1),
        b.2,
        b.3,
        all_of_block ps k b.0 (subst (λ l. Stand (nodes (map a_block_part l)) k b.0)
            (items_shown-the_row-Part-0 a ps) b.1),
      )

  groups_placed : {n : _} (row : Row_of-Group n) (i j : ℕ)
      → Stand (nodes (map a_group (items-the_row-Group n row))) i j → GroupsPlaced i j row
  groups_placed end_of-Group i j (o_none l) = l
  groups_placed (more_of-Group (Group' a transitions) rest) i j (o_more {k = k} (o_node x) y) = (
    k,
    transitions_placed transitions i k
        (subst (λ l. Stand (nodes (map a_transition l)) i k)
        (items_shown-the_row-Transition-2 a transitions) x),
    groups_placed rest k j y,
  )

  transitions_placed : {n : _} (row : Row_of-Transition n) (i j : ℕ)
      → Stand (nodes (map a_transition (items-the_row-Transition n row))) i j
      → TransitionsPlaced i j row
  transitions_placed end_of-Transition i j (o_none l) = l
  transitions_placed (more_of-Transition cs name a ps statements place rest) i j
      (o_more {k = n} (o_node (o_pair {k = k} x (o_pair {k = q} t (o_pair y (o_empty e))))) z) =
      let b = block_parts _ q n (to_later layer n e y) in (
        k,
        q,
        b.0,
        n,
        clauses_placed cs i k x,
        goes_on layer t,
        parts_placed of_block ps q b.0 (subst (λ l. Stand (nodes (map a_block_part l)) q b.0)
            (items_shown-the_row-Part-0 a ps) b.1),
        b.2,
        b.3,
        transitions_placed rest n j z,
        all_of_block ps q b.0 (subst (λ l. Stand (nodes (map a_block_part l)) q b.0)
            (items_shown-the_row-Part-0 a ps) b.1),
      )

pub listed_parts_placed : (ps : List Part) (i j : ℕ) → Stand (nodes (map a_common_part ps)) i j
    → InOrder PartPlaced i j ps
listed_parts_placed ps i j h = in_order a_common_part PartPlaced (part_placed of_specification) ps i
    j h
