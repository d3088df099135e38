-- Guards of small choices.
use Rattle.std.proofs.Common.{◌≡◌, refl, ℕ, true, false, List, [], ◌∷◌, map, Some, None}
use Rattle.std.specs.Prelude.{pos}
use Rattle.est_syntax.specs.declared.body.Block.{Block}
use Rattle.est_syntax.specs.declared.body.Part.{end_of-Part}
use Rattle.est_syntax.specs.declared.body.Part.TheBlock as parts
use Rattle.est_syntax.specs.declared.expression.Access.{Access}
use Rattle.est_syntax.specs.declared.expression.Expr.{Expr, Expr', Expr-relation-None'}
use Rattle.est_syntax.specs.declared.expression.Factor.TheVariants as factor
use Rattle.est_syntax.specs.declared.expression.Simple.{Simple', end_of-SumStep}
use Rattle.est_syntax.specs.declared.expression.Term.{Term', end_of-ProductStep}
use Rattle.est_syntax.specs.declared.name.Used.{Used}
use Rattle.est_syntax.specs.declared.transition.Clause.{Clause}
use Rattle.est_syntax.specs.declared.transition.Clause.TheVariants as clause
use Rattle.est_syntax.specs.declared.transition.Group as groups
use Rattle.est_syntax.specs.declared.transition.Group.{Group, Group', end_of-Transition}
use Rattle.est_syntax.specs.declared.transition.Group.{more_of-Transition}
use Rattle.est_syntax.specs.declared.transition.Most.{Most}
use Rattle.est_syntax.specs.declared.transition.Most.TheVariants as most
use Rattle.mean_blocks.specs.rule_scope.Outline.{Outline}
use Rattle.mean_blocks.specs.declared.fault.BlockFault.TheVariants.{Range}
use Rattle.mean_blocks.specs.declared.situation.Row.{Row}
use Rattle.mean_blocks.specs.Outcome.{Done, Fault, Limit}
use Rattle.mean_blocks.specs.TextByPlace.{Text}
use Rattle.mean_blocks.specs.GlobalSituation.{Situation}
use Rattle.mean_blocks.specs.WorkingState.{View}
use Rattle.mean_blocks.specs.StartMeaning.{no_instances}
use Rattle.est_meaning.specs.ClauseContexts.{FullTransition, group_transitions, Always, Provided}
use Rattle.est_meaning.specs.ClauseContexts.{Otherwise}
use Rattle.est_meaning.specs.TransitionChoices.{Choice, numbered}
use Rattle.est_meaning.specs.GuardParts.{part_of, is_met, is_unmet, fits_state}
use Rattle.est_meaning.specs.GuardParts.{is_provided, parts_of}
use Rattle.est_meaning.specs.TransitionSelection.{holds, holds_least, holds_most, is_enabled_choice}
use Rattle.est_meaning.specs.TransitionSelection.{outranks}
use Rattle.est_meaning.specs.DelayStamps.{since}

-- a number as an expression; 0 and 1 stand for false and true
abbrev number : ℕ → Expr
number n = Expr' (Simple' None (Term' (factor.Number n 0) [] end_of-ProductStep) []
    end_of-SumStep) Expr-relation-None' 0

-- PARTS

-- a condition holds where it is true; a fault is as good as false, but no `otherwise` passes over
-- the limit
met : (n : ℕ) → (is_met (Done (pos 1) n) ≡ true) × (is_met (Done (pos 0) n) ≡ false)
    × (is_met (Fault Range) ≡ false) × (is_met Limit ≡ false)
met n = (refl, refl, refl, refl)

unmet : (n : ℕ) → (is_unmet (Done (pos 1) n) ≡ false) × (is_unmet (Done (pos 0) n) ≡ true)
    × (is_unmet (Fault Range) ≡ true) × (is_unmet Limit ≡ false)
unmet n = (refl, refl, refl, refl)

-- numbers from 1
from_one : (a b : ℕ) → (numbered (a ∷ b ∷ []) 0 ≡ None) × (numbered (a ∷ b ∷ []) 1 ≡ Some a)
    × (numbered (a ∷ b ∷ []) 2 ≡ Some b) × (numbered (a ∷ b ∷ []) 3 ≡ None)
from_one a b = (refl, refl, refl, refl)

-- a number before a greater one and before none
ranks : (outranks (Some (pos 1)) (Some (pos 2)) ≡ true) × (outranks (Some (pos 2)) None ≡ true)
    × (outranks (Some (pos 2)) (Some (pos 1)) ≡ false) × (outranks None (Some (pos 1)) ≡ false)
ranks = (refl, refl, refl, refl)

module _ (o : Outline) (v : View) (u : Used) where
  -- without `from` each state fits; with one, none does not
  fits : (fits_state o None None ≡ true) × (fits_state o None (Some 3) ≡ true)
      × (fits_state o (Some (u ∷ [])) None ≡ false)
  fits = (refl, refl, refl)

  -- a part has the whole limit
  five : part_of 9 (number 5) v ≡ Done (pos 5) 9
  five = refl

  -- where no condition is provided all is well; an `otherwise` asks each condition
  conditions : (is_provided 9 Always v ≡ true) × (is_provided 9 (Provided (number 1)) v ≡ true)
      × (is_provided 9 (Provided (number 0)) v ≡ false) × (is_provided 9 (Otherwise []) v ≡ true)
      × (is_provided 9 (Otherwise (number 0 ∷ number 0 ∷ [])) v ≡ true)
      × (is_provided 9 (Otherwise (number 0 ∷ number 1 ∷ [])) v ≡ false)
  conditions = (refl, refl, refl, refl, refl, refl)

module _ (t : Text) (s : Situation) (r : Row) (a : Access) (u : Used) (b : Block) where
  -- where the `from` fails no part is evaluated
  abbrev stateless : Choice
  stateless = record {
    row = record r { state = None };
    number = 1;
    transition = record {
      clauses = clause.From (u ∷ []) 1 ∷ clause.When a u 2 ∷ clause.Provided (number 1) 3 ∷ [];
      earlier = [];
      block = b;
    };
    chosen = [];
  }

  nothing_asked : (parts_of 9 t s stateless ≡ []) × (is_enabled_choice 9 t s stateless ≡ false)
  nothing_asked = (refl, refl)

  -- both bounds are evaluated whatever the condition is, and each condition of an `otherwise`
  abbrev asking : Choice
  asking = record {
    row = r;
    number = 1;
    transition = record {
      clauses = clause.Otherwise 1 ∷ clause.Delay (number 2) (most.Value (number 3)) 2 ∷ [];
      earlier = number 1 ∷ number 0 ∷ [];
      block = b;
    };
    chosen = [];
  }

  all_asked : parts_of 9 t s asking ≡ Done (pos 1) 9 ∷ Done (pos 0) 9 ∷ Done (pos 2) 9
      ∷ Done (pos 3) 9 ∷ []
  all_asked = refl

-- DELAYS

module _ (v : View) (b : Block) (r : Row) where
  -- a choice of a transition with a delay, and a situation in which that is enabled since 3
  abbrev waits : ℕ → Most → Choice
  waits least m = record {
    row = r;
    number = 1;
    transition = record {
      clauses = clause.Delay (number least) m 1 ∷ [];
      earlier = [];
      block = b;
    };
    chosen = [];
  }

  abbrev at : ℕ → Situation
  at clock = record no_instances { clock = clock; stamps = λ k. Some 3 }

  -- a delay of 2 to 5: enabled at once, offered from 5 on, and due from 8 on
  two_to_five : (holds 9 (waits 2 (most.Value (number 5))) v ≡ true)
      × (holds_least 9 (at 4) (waits 2 (most.Value (number 5))) v ≡ false)
      × (holds_least 9 (at 5) (waits 2 (most.Value (number 5))) v ≡ true)
      × (holds_most 9 (at 7) (waits 2 (most.Value (number 5))) v ≡ false)
      × (holds_most 9 (at 8) (waits 2 (most.Value (number 5))) v ≡ true)
  two_to_five = (refl, refl, refl, refl, refl)

  -- of one bound alone, offered is due
  just_two : (holds_least 9 (at 4) (waits 2 most.Same) v ≡ false)
      × (holds_most 9 (at 5) (waits 2 most.Same) v ≡ true)
  just_two = (refl, refl)

  -- without a later bound it is never due
  from_two : (holds_least 9 (at 5) (waits 2 most.Never) v ≡ true)
      × (holds_most 9 (at 500) (waits 2 most.Never) v ≡ false)
  from_two = (refl, refl)

  -- a later bound that is below the earlier one makes nothing due before it is offered
  five_to_two : (holds_most 9 (at 7) (waits 5 (most.Value (number 2))) v ≡ false)
      × (holds_most 9 (at 8) (waits 5 (most.Value (number 2))) v ≡ true)
  five_to_two = (refl, refl)

  -- without a stamp it is not offered
  unstamped : (holds_least 9 (record no_instances { clock = 7 }) (waits 0 most.Same) v ≡ false)
      × (holds 9 (waits 0 most.Same) v ≡ true)
  unstamped = (refl, refl)

-- an enabled transition keeps its stamp, but not where it fired; one without begins now
stamps : (since None (record no_instances { clock = 7; stamps = λ k. Some 3 })
    (record { instance = 1; transition = 2 }) ≡ 3)
    × (since (Some (record { instance = 1; transition = 2; choice = 1 }))
    (record no_instances { clock = 7; stamps = λ k. Some 3 })
    (record { instance = 1; transition = 2 }) ≡ 7)
    × (since (Some (record { instance = 1; transition = 3; choice = 1 }))
    (record no_instances { clock = 7; stamps = λ k. Some 3 })
    (record { instance = 1; transition = 2 }) ≡ 3)
    × (since (Some (record { instance = 2; transition = 2; choice = 1 }))
    (record no_instances { clock = 7; stamps = λ k. Some 3 })
    (record { instance = 1; transition = 2 }) ≡ 3)
    × (since None (record no_instances { clock = 7 })
    (record { instance = 1; transition = 2 }) ≡ 7)
stamps = (refl, refl, refl, refl, refl)

-- GROUPS

module _ (x y : Expr) (u v : Used) where
  -- `trans from u provided x begin end; provided otherwise begin end; from v provided otherwise ..`
  abbrev group : Group
  group = Group' (tt ∷ tt ∷ tt ∷ [])
      (more_of-Transition (clause.From (u ∷ []) 1 ∷ clause.Provided x 2 ∷ []) None []
      end_of-Part [] 3
      (more_of-Transition (clause.Otherwise 4 ∷ []) None [] end_of-Part [] 5
      (more_of-Transition (clause.From (v ∷ []) 6 ∷ clause.Otherwise 7 ∷ []) None []
      end_of-Part [] 8 end_of-Transition)))

  -- the second transition has the `from` of the first, and its `otherwise` refers to x; that of the
  -- third refers to nothing
  abbrev clauses : List (List Clause × List Expr)
  clauses = (clause.From (u ∷ []) 1 ∷ clause.Provided x 2 ∷ [], [])
      ∷ (clause.From (u ∷ []) 1 ∷ clause.Otherwise 4 ∷ [], x ∷ [])
      ∷ (clause.From (v ∷ []) 6 ∷ clause.Otherwise 7 ∷ [], []) ∷ []

  inherited : map (λ (z : FullTransition). (z.clauses, z.earlier)) (group_transitions group)
      ≡ clauses
  unfolding groups.out-Group denote.Hole.Carrier.out parts.shown-the_row-Transition-2
      denote.Hole.Carrier.shown
  inherited = refl
