-- A whole specification: where its parts stand, and how its outline grows.
use Rattle.std.proofs.Common.{ℕ, suc, ◌≤◌, false, inl, refl, arith}
use Rattle.est_syntax.specs.declared.statement.Statement.{Statement, out-Statement}
use Rattle.est_syntax.specs.declared.statement.Statement.TheVariants as statement
use Rattle.est_syntax.specs.declared.specification.Spec.{Spec}
use Rattle.text_reader.specs.Shown.{node}
use Rattle.rule_scope.specs.Declaring.{empty}
use Rattle.rule_declares.specs.Entries.{outermost}
use Rattle.rule_declares.specs.Bodies.{statement_place}
use Rattle.text_productions.specs.Nodes as shown
use Rattle.text_productions.specs.Nodes.{a_specification, layer}
use Rattle.law_places.specs.PlaceOrder.{o_kept, o_at, o_pair, o_node}
use Rattle.law_places.specs.Growth.{g_then, g_lying}
use Rattle.law_places.specs.Grown.{IsOutermost, OutlinesGrow}
use Rattle.law_places.proofs.Standing.{goes_on, from_earlier}
use Rattle.law_places.proofs.PlacedParts.{InOrder}
use Rattle.law_places.proofs.PlacedBodies.{PartPlaced}
use Rattle.law_places.proofs.DeclaringBodies.{listed_parts_grow}
use Rattle.law_places.proofs.FromTexts.{Stand}
use Rattle.law_places.proofs.FromBodies.{listed_parts_placed}

-- a specification: its parts stand after its name, and its first statement after them
abbrev pub SpecPlaced : ℕ → Spec → Type 0
SpecPlaced n s = (k : ℕ) × InOrder PartPlaced (suc s.name.place) k s.parts
    × (k ≤ statement_place s.first) × (statement_place s.first ≤ n)

first_placed : (s : Statement) (i j : ℕ) → Stand (shown.first_statement (out-Statement s)) i j
    → (i ≤ statement_place s) × (statement_place s ≤ j)
unfolding out-Statement denote.Hole.Carrier.out
first_placed (statement.Init target body arguments place) i j (o_at l x) = (l, goes_on layer x)
first_placed (statement.Empty place) i j h = elim h [ ]
first_placed (statement.Compound' a turn place) i j h = elim h [ ]
first_placed (statement.Assign target path value place) i j h = elim h [ ]
first_placed (statement.Call name arguments place) i j h = elim h [ ]
first_placed (statement.If' condition a first second place) i j h = elim h [ ]
first_placed (statement.Case' value a arms place) i j h = elim h [ ]
first_placed (statement.While' condition a turn place) i j h = elim h [ ]
first_placed (statement.Repeat' a turn until place) i j h = elim h [ ]
first_placed (statement.For' name from down to a turn place) i j h = elim h [ ]
first_placed (statement.All' name over a turn place) i j h = elim h [ ]
first_placed (statement.Output sendings place) i j h = elim h [ ]
first_placed (statement.Release target place) i j h = elim h [ ]
first_placed (statement.Connect one other place) i j h = elim h [ ]
first_placed (statement.Disconnect end place) i j h = elim h [ ]
first_placed (statement.Attach own child point place) i j h = elim h [ ]
first_placed (statement.Detach end place) i j h = elim h [ ]

pub spec_placed : (s : Spec) (n : ℕ) → Stand (node (a_specification s)) 0 n → SpecPlaced n s
spec_placed s n (o_node (o_pair (o_at l (o_kept m)) (o_pair q (o_pair t (o_pair {k = k} x
    (o_pair y z)))))) =
    let f = goes_on layer q in
    let g = goes_on layer t in
    let r = first_placed s.first k _ y in
    let e = r.1 in (
      k,
      listed_parts_placed s.parts (suc s.name.place) k
          (from_earlier layer (suc s.name.place) (omega arith) x),
      r.0,
      omega (arith, goes_on layer z),
    )

pub outlines_grow : OutlinesGrow
outlines_grow s n fits h =
    let p = spec_placed s n h in
    let e = p.2 in
    let f = p.3 in
    g_then (listed_parts_grow IsOutermost false 0 n fits outermost (inl refl) s.parts empty (suc
    s.name.place) p.0 p.1
    (omega arith) (omega arith)) (g_lying outermost (statement_place s.first) (omega arith)
    (omega arith))
