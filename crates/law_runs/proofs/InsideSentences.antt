-- Each `attach` of a sentence names a child by the name of an `all` around it, or by none of one.
use Rattle.std.proofs.Common.{◌≡◌, ℕ, suc, ◌<◌, ◌≤◌, List, [], ◌∷◌, length, true, refl, inl, inr}
use Rattle.std.proofs.Common.{arith, ◌^◌}
use Rattle.std.specs.Prelude.{◌⊎◌}
use Rattle.std.proofs.lemmas.Option.{none-some}
use Rattle.est_syntax.specs.declared.statement.Statement.{Statement, out-Statement}
use Rattle.est_syntax.specs.declared.statement.Statement.TheVariants as statement
use Rattle.est_syntax.specs.declared.expression.Access.{Access}
use Rattle.est_syntax.specs.declared.expression.Expr.{Expr}
use Rattle.est_syntax.specs.declared.name.Used.{Used}
use Rattle.est_syntax.specs.declared.specification.Spec.{Spec}
use Rattle.text_reader.specs.Shown.{node}
use Rattle.rule_scope.specs.Declaring.{empty}
use Rattle.rule_declares.specs.Entries.{outermost}
use Rattle.rule_declares.specs.Bodies.{statement_place, parts_declare, outline_of}
use Rattle.text_productions.specs.Nodes as shown
use Rattle.text_productions.specs.Nodes.{a_specification, layer}
use Rattle.law_places.specs.Growth.{Anywhere, g_lying}
use Rattle.law_places.specs.PlaceOrder.{o_node, o_pair}
use Rattle.law_places.proofs.Ascending.{specification_stands}
use Rattle.law_places.proofs.Wholes.{spec_placed}
use Rattle.law_places.proofs.FromTexts.{Stand}
use Rattle.mean_blocks.specs.TextByPlace.{text_of}
use Rattle.law_runs.specs.RunOrder.{BeginsWithInit}
use Rattle.law_runs.specs.NamesOfAlls.{IsOfAll}
use Rattle.law_runs.specs.InsideLaws.{SentencesBeginWithInit, SentencesStandInside}
use Rattle.law_runs.proofs.Homes.{step_of, onward, onward_self, Base}
use Rattle.law_runs.proofs.InsideParts.{ListedInside}
use Rattle.law_runs.proofs.Bodies.{listed_inside}
use Rattle.law_runs.proofs.Beginnings.{ListedBegin}
use Rattle.law_runs.proofs.ReadBeginnings.{sentence_begins}
use Rattle.law_runs.proofs.EachBlock.{routine_inside, first_inside, transition_inside}

-- THE FIRST STATEMENT

is_init : (s : Statement) (i j : ℕ) → Stand (shown.first_statement (out-Statement s)) i j
    → (target : Access) × (body : Used) × (arguments : List Expr) × (place : ℕ)
    × (s ≡ statement.Init target body arguments place)
unfolding out-Statement denote.Hole.Carrier.out
is_init (statement.Init target body arguments place) i j h = (target, body, arguments, place, refl)
is_init (statement.Empty place) i j h = elim h [ ]
is_init (statement.Compound' a turn place) i j h = elim h [ ]
is_init (statement.Assign target path value place) i j h = elim h [ ]
is_init (statement.Call name arguments place) i j h = elim h [ ]
is_init (statement.If' condition a first second place) i j h = elim h [ ]
is_init (statement.Case' value a arms place) i j h = elim h [ ]
is_init (statement.While' condition a turn place) i j h = elim h [ ]
is_init (statement.Repeat' a turn until place) i j h = elim h [ ]
is_init (statement.For' name first down last a turn place) i j h = elim h [ ]
is_init (statement.All' name over a turn place) i j h = elim h [ ]
is_init (statement.Output sendings place) i j h = elim h [ ]
is_init (statement.Release target place) i j h = elim h [ ]
is_init (statement.Connect one other place) i j h = elim h [ ]
is_init (statement.Disconnect end place) i j h = elim h [ ]
is_init (statement.Attach own child point place) i j h = elim h [ ]
is_init (statement.Detach end place) i j h = elim h [ ]

spec_begins : (s : Spec) (n : ℕ) → Stand (node (a_specification s)) 0 n → BeginsWithInit s
spec_begins s n (o_node (o_pair a (o_pair q (o_pair t (o_pair x (o_pair {a = k} {k = m} y z)))))) =
    is_init s.first k m y

pub sentences_begin_with_init : SentencesBeginWithInit
sentences_begin_with_init s h = spec_begins s (length h.tokens)
    (specification_stands h.text h.tokens s h.tree)

-- THE TARGETS

empty_base : (X : ℕ → Type 0) (i : ℕ) → 0 < i → Base X (0 ∷ []) [] i empty
empty_base X i l = record {
  names = λ r name s h. absurd (none-some s h);
  homes = λ r name s h x. absurd (none-some s h);
  known = λ r name s h y. absurd (none-some s h);
  regions = λ r y. one r y;
  members = λ q x. refl;
  unused = λ q n. refl;
}
  where
    one : (r : ℕ) → (0 ≡ r) ⊎ ⊥ → r < i
    one r (inl e) = omega arith
    one r (inr e) = absurd e

parts_inside : (s : Spec) (n : ℕ) → n ≤ 2 ^ 32 → Stand (node (a_specification s)) 0 n
    → ListedBegin s.parts → ListedInside (IsOfAll s) (outline_of s) s.parts
parts_inside s n few h begins =
    let t = spec_placed s n h in
    let k = t.0 in
    let q = t.2 in
    let r = t.3 in
    let i = suc s.name.place in
    let X = IsOfAll s in
    let o = parts_declare outermost s.parts empty in
    let inside = listed_inside X n few (outline_of s) outermost s.parts empty i k t.1 (omega arith)
    begins (empty_base X i (omega arith)) (omega arith)
    record { down = λ p a b x. x; up = λ p x. x } in
    inside.1 (onward k n o (outline_of s) (outline_of s) (omega arith)
    (step_of Anywhere true k n (g_lying outermost (statement_place s.first) q r))
    (onward_self n (outline_of s)))

pub sentences_stand_inside : SentencesStandInside
sentences_stand_inside s h =
    let few = h.few in
    let all = parts_inside s (length h.tokens) (omega (arith, few))
    (specification_stands h.text h.tokens s h.tree) (sentence_begins h.text h.tokens s h.tree) in
    let t = text_of s in
    let X = IsOfAll s in
    let o = outline_of s in
    record {
      begun = record {
        routines = λ p r e. routine_inside X o t all p r e;
        initialize_parts = λ p b f e k. first_inside X o t all p b f e k;
      };
      transitions = λ body n x e. transition_inside X o t all body n x e;
    }
