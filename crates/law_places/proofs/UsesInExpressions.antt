-- The names that expressions look up stand before their end.
use Rattle.std.proofs.Common.{ℕ, ◌<◌, ◌≤◌, List, [], ◌∷◌, ◌++◌, map}
use Rattle.std.proofs.Common.{subst, Option, Some, None, arith}
use Rattle.est_syntax.specs.declared.name.Used.{Used}
use Rattle.est_syntax.specs.declared.expression.Access.{Access}
use Rattle.est_syntax.specs.declared.expression.EndPoint.{EndPoint}
use Rattle.est_syntax.specs.declared.expression.Expr.{Expr, Expr', out-Expr, Held-Expr-relation}
use Rattle.est_syntax.specs.declared.expression.Expr.{Expr-relation-None', Expr-relation-Some'}
use Rattle.est_syntax.specs.declared.expression.Factor.{Factor, out-Factor, Row_of-Expr}
use Rattle.est_syntax.specs.declared.expression.Factor.{end_of-Expr, more_of-Expr}
use Rattle.est_syntax.specs.declared.expression.Factor.{end_of-Factor, more_of-Factor}
use Rattle.est_syntax.specs.declared.expression.Factor.{Row_of-Member, end_of-Member}
use Rattle.est_syntax.specs.declared.expression.Factor.{more_of-Member, Row_of-Selector}
use Rattle.est_syntax.specs.declared.expression.Factor.{end_of-Selector, more_of-Selector}
use Rattle.est_syntax.specs.declared.expression.Factor.{items-the_row-Expr, items-the_row-Member}
use Rattle.est_syntax.specs.declared.expression.Factor.{items-the_row-Selector}
use Rattle.est_syntax.specs.declared.expression.Factor.{items_shown-the_row-Expr-4}
use Rattle.est_syntax.specs.declared.expression.Factor.{items_shown-the_row-Member-2}
use Rattle.est_syntax.specs.declared.expression.Factor.{items_shown-the_row-Selector-3}
use Rattle.est_syntax.specs.declared.expression.Factor.TheBlock.{shape-the_row-Expr-0}
use Rattle.est_syntax.specs.declared.expression.Factor.TheBlock.{shown-the_row-Expr-0}
use Rattle.est_syntax.specs.declared.expression.Factor.TheBlock.{shape-the_row-Factor-1}
use Rattle.est_syntax.specs.declared.expression.Factor.TheBlock.{shown-the_row-Factor-1}
use Rattle.est_syntax.specs.declared.expression.Factor.TheBlock as held
use Rattle.est_syntax.specs.declared.expression.Factor.TheVariants as factor
use Rattle.est_syntax.specs.declared.expression.Member.{Member, Member', out-Member}
use Rattle.est_syntax.specs.declared.expression.Member.{Held-Member-high, Member-high-None'}
use Rattle.est_syntax.specs.declared.expression.Member.{Member-high-Some'}
use Rattle.est_syntax.specs.declared.expression.Relation.{Relation, Relation', out-Relation}
use Rattle.est_syntax.specs.declared.expression.Selector.{Selector, out-Selector}
use Rattle.est_syntax.specs.declared.expression.Selector.TheVariants as selector
use Rattle.est_syntax.specs.declared.expression.Simple.{Simple, Simple', out-Simple}
use Rattle.est_syntax.specs.declared.expression.Simple.{Row_of-SumStep, end_of-SumStep}
use Rattle.est_syntax.specs.declared.expression.Simple.{more_of-SumStep, items-the_row-SumStep}
use Rattle.est_syntax.specs.declared.expression.Simple.{items_shown-the_row-SumStep-5}
use Rattle.est_syntax.specs.declared.expression.SumStep.{SumStep, SumStep', out-SumStep}
use Rattle.est_syntax.specs.declared.expression.Term.{Term, Term', out-Term, Row_of-ProductStep}
use Rattle.est_syntax.specs.declared.expression.Term.{end_of-ProductStep, more_of-ProductStep}
use Rattle.est_syntax.specs.declared.expression.Term.{items-the_row-ProductStep}
use Rattle.est_syntax.specs.declared.expression.Term.{items_shown-the_row-ProductStep-6}
use Rattle.text_reader.specs.Shown.{node, nodes}
use Rattle.rule_uses.specs.NamesInExpressions.{expr_names, relation_held, relation_names}
use Rattle.rule_uses.specs.NamesInExpressions.{simple_names, sum_row, sum_step_names, term_names}
use Rattle.rule_uses.specs.NamesInExpressions.{product_row, factor_names, exprs_row, member_names}
use Rattle.rule_uses.specs.NamesInExpressions.{high_held, members_row, selector_names}
use Rattle.rule_uses.specs.NamesInExpressions.{selectors_row, exprs_names, selectors_names}
use Rattle.rule_uses.specs.NamesInExpressions.{access_names, second_names, end_names}
use Rattle.text_productions.specs.Nodes as shown
use Rattle.text_productions.specs.Nodes.{an_expr, a_simple, a_sum_step, a_term, a_product_step}
use Rattle.text_productions.specs.Nodes.{a_factor, a_selector, a_member, an_access, an_end_point}
use Rattle.text_productions.specs.Nodes.{layer}
use Rattle.law_places.specs.PlaceOrder.{o_empty, o_kept, o_at, o_pair, o_first, o_second, o_given}
use Rattle.law_places.specs.PlaceOrder.{o_node}
use Rattle.law_places.specs.PlaceOrder.{o_more}
use Rattle.law_places.proofs.Standing.{goes_on}
use Rattle.law_places.proofs.FromTexts.{Stand}

-- names that stand before a place
abbrev pub AreBefore : ℕ → List Used → Type 0
AreBefore b [] = Unit {0}
AreBefore b (u ∷ us) = (u.place < b) × AreBefore b us

pub both_before : (b : ℕ) (us vs : List Used) → AreBefore b us → AreBefore b vs
    → AreBefore b (us ++ vs)
both_before b [] vs h k = k
both_before b (u ∷ us) vs h k = (h.0, both_before b us vs h.1 k)

module _ (b : ℕ) where
  mutual
    unfolding out-Expr out-Relation out-Simple out-SumStep out-Term out-Factor out-Member
        out-Selector denote.Hole.Carrier.out shape-the_row-Expr-0 shown-the_row-Expr-0
        shape-the_row-Factor-1 shown-the_row-Factor-1 denote.Hole.Carrier.shown

    pub expr_before : (e : Expr) (i j : ℕ) → j ≤ b → Stand (node (an_expr e)) i j
        → AreBefore b (expr_names e)
    expr_before (Expr' left relation place) i j l (o_node (o_at m (o_pair {k = k} x y))) =
        let n = goes_on layer y in
        both_before b (simple_names left) (relation_held relation)
        (simple_before left place k (omega arith) x) (held_before relation k j l y)

    held_before : (r : Held-Expr-relation) (i j : ℕ) → j ≤ b
        → Stand (shown.relation (held.view-Expr-relation r)) i j → AreBefore b (relation_held r)
    held_before Expr-relation-None' i j l h = tt
    held_before (Expr-relation-Some' r) i j l h = relation_before r i j l h

    relation_before : (r : Relation) (i j : ℕ) → j ≤ b
        → Stand (shown.relation (Some r)) i j → AreBefore b (relation_names r)
    relation_before (Relation' operator right) i j l (o_given (o_pair {k = k} x y)) =
        simple_before right k j l y

    simple_before : (s : Simple) (i j : ℕ) → j ≤ b → Stand (node (a_simple s)) i j
        → AreBefore b (simple_names s)
    simple_before (Simple' sign first n rest) i j l
        (o_node (o_pair {k = k} x (o_pair {k = m} y z))) =
        let o = goes_on layer z in
        both_before b (term_names first) (sum_row rest) (term_before first k m (omega arith) y)
        (sum_before rest m j l (subst (λ xs. Stand (nodes (map a_sum_step xs)) m j)
        (items_shown-the_row-SumStep-5 n rest) z))

    sum_before : {n : _} (row : Row_of-SumStep n) (i j : ℕ) → j ≤ b
        → Stand (nodes (map a_sum_step (items-the_row-SumStep n row))) i j
        → AreBefore b (sum_row row)
    sum_before end_of-SumStep i j l h = tt
    sum_before (more_of-SumStep s rest) i j l (o_more {k = k} x y) =
        let o = goes_on layer y in
        both_before b (sum_step_names s) (sum_row rest) (sum_step_before s i k (omega arith) x)
        (sum_before rest k j l y)

    sum_step_before : (s : SumStep) (i j : ℕ) → j ≤ b → Stand (node (a_sum_step s)) i j
        → AreBefore b (sum_step_names s)
    sum_step_before (SumStep' operator right) i j l (o_node (o_pair {k = k} x y)) =
        term_before right k j l y

    term_before : (t : Term) (i j : ℕ) → j ≤ b → Stand (node (a_term t)) i j
        → AreBefore b (term_names t)
    term_before (Term' first n rest) i j l (o_node (o_pair {k = k} x y)) =
        let o = goes_on layer y in
        both_before b (factor_names first) (product_row rest)
        (factor_before first i k (omega arith) x)
        (product_before rest k j l (subst (λ xs. Stand (nodes (map a_product_step xs)) k j)
        (items_shown-the_row-ProductStep-6 n rest) y))

    product_before : {n : _} (row : Row_of-ProductStep n) (i j : ℕ) → j ≤ b
        → Stand (nodes (map a_product_step (items-the_row-ProductStep n row))) i j
        → AreBefore b (product_row row)
    product_before end_of-ProductStep i j l h = tt
    product_before (more_of-ProductStep operator right rest) i j l
        (o_more {k = k} (o_node (o_pair {k = m} x y)) z) =
        let o = goes_on layer z in
        both_before b (factor_names right) (product_row rest)
        (factor_before right m k (omega arith) y) (product_before rest k j l z)

    factor_before : (f : Factor) (i j : ℕ) → j ≤ b → Stand (node (a_factor f)) i j
        → AreBefore b (factor_names f)
    factor_before (factor.Number n place) i j l h = tt
    factor_before (factor.Character c place) i j l h = tt
    factor_before (factor.Group' p (more_of-Expr e end_of-Expr) place) i j l
        (o_node (o_at m (o_second (o_second (o_first (o_pair {k = k} x (o_empty n))))))) =
        expr_before e place k (omega arith) x
    factor_before (factor.Not' p (more_of-Factor f end_of-Factor) place) i j l
        (o_node (o_at m (o_second (o_second (o_second (o_first x)))))) =
        factor_before f place j l x
    factor_before (factor.Set' n members place) i j l
        (o_node (o_at m (o_second (o_second (o_second (o_second (o_first (o_pair {k = k} x
        (o_empty q))))))))) =
        members_before members place k (omega arith) (subst (λ xs. Stand (shown.members xs) place k)
        (items_shown-the_row-Member-2 n members) x)
    factor_before (factor.Variable' name n path place) i j l
        (o_node (o_at m (o_second (o_second (o_second (o_second (o_second
        (o_pair {k = k} (o_at q (o_kept r)) x)))))))) =
        let o = goes_on layer x in (
          omega arith,
          path_before path k j l (subst (λ xs. Stand (shown.selectors xs) k j)
              (items_shown-the_row-Selector-3 n path) x),
        )
    factor_before (factor.Call' name n arguments place) i j l
        (o_node (o_at m (o_second (o_second (o_second (o_second (o_second
        (o_pair {k = k} (o_at q (o_kept r)) (o_given (o_first (o_pair {k = t} x
        (o_empty e)))))))))))) =
        let o = goes_on layer x in (
          omega arith,
          exprs_before arguments k t (omega arith) (subst (λ xs. Stand (nodes (map an_expr xs)) k t)
              (items_shown-the_row-Expr-4 n arguments) x),
        )

    exprs_before : {n : _} (row : Row_of-Expr n) (i j : ℕ) → j ≤ b
        → Stand (nodes (map an_expr (items-the_row-Expr n row))) i j → AreBefore b (exprs_row row)
    exprs_before end_of-Expr i j l h = tt
    exprs_before (more_of-Expr e rest) i j l (o_more {k = k} x y) =
        let o = goes_on layer y in
        both_before b (expr_names e) (exprs_row rest) (expr_before e i k (omega arith) x)
        (exprs_before rest k j l y)

    member_before : (m : Member) (i j : ℕ) → j ≤ b → Stand (node (a_member m)) i j
        → AreBefore b (member_names m)
    member_before (Member' low high) i j l (o_node (o_pair {k = k} x y)) =
        let o = goes_on layer y in
        both_before b (expr_names low) (high_held high) (expr_before low i k (omega arith) x)
        (high_before high k j l y)

    high_before : (h : Held-Member-high) (i j : ℕ) → j ≤ b
        → Stand (shown.expr_given (held.view-Member-high h)) i j → AreBefore b (high_held h)
    high_before Member-high-None' i j l h = tt
    high_before (Member-high-Some' e) i j l (o_given x) = expr_before e i j l x

    members_before : {n : _} (row : Row_of-Member n) (i j : ℕ) → j ≤ b
        → Stand (shown.members (items-the_row-Member n row)) i j → AreBefore b (members_row row)
    members_before end_of-Member i j l h = tt
    members_before (more_of-Member m rest) i j l (o_given (o_more {k = k} x y)) =
        let o = goes_on layer y in
        both_before b (member_names m) (members_row rest) (member_before m i k (omega arith) x)
        (more_members_before rest k j l y)

    more_members_before : {n : _} (row : Row_of-Member n) (i j : ℕ) → j ≤ b
        → Stand (nodes (map a_member (items-the_row-Member n row))) i j
        → AreBefore b (members_row row)
    more_members_before end_of-Member i j l h = tt
    more_members_before (more_of-Member m rest) i j l (o_more {k = k} x y) =
        let o = goes_on layer y in
        both_before b (member_names m) (members_row rest) (member_before m i k (omega arith) x)
        (more_members_before rest k j l y)

    selector_before : (s : Selector) (i j : ℕ) → j ≤ b → Stand (node (a_selector s)) i j
        → AreBefore b (selector_names s)
    selector_before (selector.Index' n exprs place) i j l
        (o_node (o_second (o_at m (o_pair {k = k} x (o_empty q))))) =
        exprs_before exprs place k (omega arith) (subst (λ xs. Stand (nodes (map an_expr xs)) place
        k) (items_shown-the_row-Expr-4 n exprs) x)
    selector_before (selector.Field u) i j l h = tt

    path_before : {n : _} (row : Row_of-Selector n) (i j : ℕ) → j ≤ b
        → Stand (shown.selectors (items-the_row-Selector n row)) i j
        → AreBefore b (selectors_row row)
    path_before end_of-Selector i j l h = tt
    path_before (more_of-Selector s rest) i j l (o_given (o_second (o_more {k = k} x y))) =
        let o = goes_on layer y in
        both_before b (selector_names s) (selectors_row rest) (selector_before s i k (omega arith)
        x) (more_selectors_before rest k j l y)

    more_selectors_before : {n : _} (row : Row_of-Selector n) (i j : ℕ) → j ≤ b
        → Stand (nodes (map a_selector (items-the_row-Selector n row))) i j
        → AreBefore b (selectors_row row)
    more_selectors_before end_of-Selector i j l h = tt
    more_selectors_before (more_of-Selector s rest) i j l (o_more {k = k} x y) =
        let o = goes_on layer y in
        both_before b (selector_names s) (selectors_row rest) (selector_before s i k (omega arith)
        x) (more_selectors_before rest k j l y)

  -- the same of lists of expressions and selectors, and of accesses
  pub exprs_list_before : (es : List Expr) (i j : ℕ) → j ≤ b → Stand (nodes (map an_expr es)) i j
      → AreBefore b (exprs_names es)
  exprs_list_before [] i j l h = tt
  exprs_list_before (e ∷ es) i j l (o_more {k = k} x y) =
      let o = goes_on layer y in
      both_before b (expr_names e) (exprs_names es) (expr_before e i k (omega arith) x)
      (exprs_list_before es k j l y)

  pub given_before : (es : List Expr) (i j : ℕ) → j ≤ b → Stand (shown.exprs_given es) i j
      → AreBefore b (exprs_names es)
  given_before [] i j l h = tt
  given_before (e ∷ es) i j l (o_given (o_pair {k = k} x (o_empty n))) =
      exprs_list_before (e ∷ es) i k (omega arith) x

  pub selectors_before : (ss : List Selector) (i j : ℕ) → j ≤ b
      → Stand (nodes (map a_selector ss)) i j → AreBefore b (selectors_names ss)
  selectors_before [] i j l h = tt
  selectors_before (s ∷ ss) i j l (o_more {k = k} x y) =
      let o = goes_on layer y in
      both_before b (selector_names s) (selectors_names ss) (selector_before s i k (omega arith) x)
      (selectors_before ss k j l y)

  pub access_before : (a : Access) (i j : ℕ) → j ≤ b → Stand (node (an_access a)) i j
      → AreBefore b (access_names a)
  access_before a i j l (o_node (o_pair {k = k} (o_at m (o_kept n)) x)) =
      let o = goes_on layer x in (omega arith, given_before a.index k j l x)

  -- the subscripts of an interaction point alone
  pub index_before : (a : Access) (i j : ℕ) → j ≤ b → Stand (node (an_access a)) i j
      → AreBefore b (exprs_names a.index)
  index_before a i j l (o_node (o_pair {k = k} x y)) = given_before a.index k j l y

  second_before : (a : Option Access) (i j : ℕ) → j ≤ b → Stand (shown.access_given a) i j
      → AreBefore b (second_names a)
  second_before None i j l h = tt
  second_before (Some a) i j l (o_given x) = index_before a i j l x

  pub end_before : (e : EndPoint) (i j : ℕ) → j ≤ b → Stand (node (an_end_point e)) i j
      → AreBefore b (end_names e)
  end_before e i j l (o_node (o_pair {k = k} x y)) =
      let o = goes_on layer y in
      both_before b (access_names e.first) (second_names e.second)
      (access_before e.first i k (omega arith) x) (second_before e.second k j l y)
