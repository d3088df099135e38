-- Contexts and earlier conditions of small texts.
use Rattle.std.proofs.Common.{◌≡◌, refl, List, [], ◌∷◌, Some, None}
use Rattle.est_syntax.specs.declared.body.Block.{Block}
use Rattle.est_syntax.specs.declared.constant.Constant.{Constant}
use Rattle.est_syntax.specs.declared.expression.Access.{Access}
use Rattle.est_syntax.specs.declared.expression.Expr.{Expr}
use Rattle.est_syntax.specs.declared.name.Used.{Used}
use Rattle.est_syntax.specs.declared.transition.Clause.{Clause}
use Rattle.est_syntax.specs.declared.transition.Clause.TheVariants as clause
use Rattle.est_syntax.specs.declared.transition.Most.TheVariants as most
use Rattle.est_meaning.specs.ClauseContexts.{context_after, given_after, full}
use Rattle.est_meaning.specs.ClauseContexts.{FullTransition, condition_of, Otherwise, from_of}
use Rattle.est_meaning.specs.ClauseContexts.{to_of}
use Rattle.est_meaning.specs.ClauseContexts.{priority_of, when_of, any_of, delay_of, Always}
use Rattle.est_meaning.specs.ClauseContexts.{Provided}

module _ (x y z : Expr) (a : Access) (u v : Used) (k : Constant) (b : Block) where
  -- the last transition of a `trans` with these clauses
  abbrev last : List Clause → FullTransition
  last cs = full (given_after [] cs) (context_after [] cs) b

  -- a clause takes the place of that of its kind
  next_from : context_after [] (clause.From (u ∷ []) 1 ∷ clause.From (v ∷ []) 2 ∷ [])
      ≡ clause.From (v ∷ []) 2 ∷ []
  next_from = refl

  -- and of what was given after that one, but not of what was given before it
  next_when : context_after [] (clause.To (Some u) 1 ∷ clause.When a u 2 ∷ clause.Any [] 3
      ∷ clause.When a v 4 ∷ []) ≡ clause.To (Some u) 1 ∷ clause.When a v 4 ∷ []
  next_when = refl

  -- an `otherwise` takes the place of a `provided`, and a `provided` that of an `otherwise`
  next_otherwise : context_after [] (clause.Provided x 1 ∷ clause.Priority k 2
      ∷ clause.Otherwise 3 ∷ []) ≡ clause.Otherwise 3 ∷ []
  next_otherwise = refl

  next_provided : context_after [] (clause.Otherwise 1 ∷ clause.Delay x most.Never 2
      ∷ clause.Provided y 3 ∷ []) ≡ clause.Provided y 3 ∷ []
  next_provided = refl

  -- clauses of other kinds stay in their order
  other_kinds : context_after [] (clause.From (u ∷ []) 1 ∷ clause.To None 2 ∷ clause.When a u 3
      ∷ clause.Provided x 4 ∷ clause.Any [] 5 ∷ clause.Priority k 6 ∷ clause.Delay y most.Same 7
      ∷ []) ≡ clause.From (u ∷ []) 1 ∷ clause.To None 2 ∷ clause.When a u 3
      ∷ clause.Provided x 4 ∷ clause.Any [] 5 ∷ clause.Priority k 6 ∷ clause.Delay y most.Same 7
      ∷ []
  other_kinds = refl

  -- the clauses of a transition, each by itself
  abbrev all : FullTransition
  all = last (clause.From (u ∷ v ∷ []) 1 ∷ clause.To (Some v) 2 ∷ clause.When a u 3
      ∷ clause.Provided x 4 ∷ clause.Any [] 5 ∷ clause.Priority k 6 ∷ clause.Delay y most.Same 7
      ∷ [])

  of_all : (from_of all ≡ Some (u ∷ v ∷ [])) × (to_of all ≡ Some v)
      × (when_of all ≡ Some (record { at = a; signal = u })) × (condition_of all ≡ Provided x)
      × (any_of all ≡ Some 5) × (priority_of all ≡ Some k)
      × (delay_of all ≡ Some (record { least = y; most = most.Same }))
  of_all = (refl, refl, refl, refl, refl, refl, refl)

  -- those of a transition without clauses
  of_none : (from_of (last []) ≡ None) × (to_of (last []) ≡ None) × (when_of (last []) ≡ None)
      × (condition_of (last []) ≡ Always) × (any_of (last []) ≡ None)
      × (priority_of (last []) ≡ None) × (delay_of (last []) ≡ None)
  of_none = (refl, refl, refl, refl, refl, refl, refl)

  -- `to same` names no state
  same : to_of (last (clause.To None 1 ∷ [])) ≡ None
  same = refl

  -- an `otherwise` refers to all conditions before it under the same clauses
  two : (last (clause.From (u ∷ []) 1 ∷ clause.Provided x 2 ∷ clause.Provided y 3
      ∷ clause.Otherwise 4 ∷ [])).earlier ≡ x ∷ y ∷ []
  two = refl

  -- to none that is given after it
  later : (full (given_after [] (clause.Provided x 1 ∷ clause.Otherwise 2 ∷ clause.Provided y 3
      ∷ [])) (clause.Otherwise 2 ∷ []) b).earlier ≡ x ∷ []
  later = refl

  -- to none that is given under other clauses
  other_from : (last (clause.From (u ∷ []) 1 ∷ clause.Provided x 2 ∷ clause.From (u ∷ []) 3
      ∷ clause.Provided y 4 ∷ clause.Otherwise 5 ∷ [])).earlier ≡ y ∷ []
  other_from = refl

  -- to one that was given under the same clauses as it, whatever was given between them
  between : (last (clause.Provided x 1 ∷ clause.From (u ∷ []) 2 ∷ clause.Provided y 3
      ∷ clause.Otherwise 4 ∷ [])).earlier ≡ x ∷ y ∷ []
  between = refl

  -- an earlier `otherwise` is no condition
  again : (last (clause.Provided x 1 ∷ clause.Otherwise 2 ∷ clause.Provided y 3
      ∷ clause.Otherwise 4 ∷ [])).earlier ≡ x ∷ y ∷ []
  again = refl

  -- and it is the condition of the transition
  otherwise : condition_of (last (clause.Provided x 1 ∷ clause.Otherwise 2 ∷ []))
      ≡ Otherwise (x ∷ [])
  otherwise = refl

  -- a transition without an `otherwise` refers to nothing
  nothing : (last (clause.Provided x 1 ∷ clause.Provided y 2 ∷ [])).earlier ≡ []
  nothing = refl
