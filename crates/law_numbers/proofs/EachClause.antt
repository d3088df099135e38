-- What holds of each clause that stands in the bodies of a specification holds of those of each
-- transition, with the clauses that it has of those before it.
use Rattle.std.specs.Prelude.{slice_get, take}
use Rattle.std.proofs.Common.{◌≡◌, sym, subst, ℕ, zero, suc, not, List, [], ◌∷◌, Some, inl, inr}
use Rattle.std.specs.List.{AllByRecursion, flat_map, prefix_len}
use Rattle.std.proofs.lemmas.Option.{same_Some, none-some}
use Rattle.est_syntax.specs.Least.{IsIn}
use Rattle.est_syntax.specs.declared.body.Body.{Body, Body', out-Body, Row_of-Group, end_of-Group}
use Rattle.est_syntax.specs.declared.body.Body.{more_of-Group, items-the_row-Group}
use Rattle.est_syntax.specs.declared.body.Body.{items_shown-the_row-Group-1}
use Rattle.est_syntax.specs.declared.body.Part.{out-Part}
use Rattle.est_syntax.specs.declared.specification.Spec.{Spec}
use Rattle.est_syntax.specs.declared.transition.Clause.{Clause}
use Rattle.est_syntax.specs.declared.transition.Group.{Group', out-Group, Row_of-Transition}
use Rattle.est_syntax.specs.declared.transition.Group.{end_of-Transition, more_of-Transition}
use Rattle.est_syntax.specs.declared.transition.Group.{items-the_row-Transition}
use Rattle.est_syntax.specs.declared.transition.Group.{items_shown-the_row-Transition-2}
use Rattle.est_syntax.specs.declared.transition.Transition.{Transition}
use Rattle.mean_blocks.specs.TextByPlace.{text_of}
use Rattle.est_meaning.specs.ClauseContexts.{FullTransition, GivenClause, is_same_kind, before}
use Rattle.est_meaning.specs.ClauseContexts.{context_with, context_after, full_after}
use Rattle.est_meaning.specs.ClauseContexts.{group_transitions, transitions_of}
use Rattle.est_meaning.specs.TransitionChoices.{numbered}
use Rattle.law_runs.proofs.ParentsOlder.{joined_all}
use Rattle.law_numbers.proofs.EachBody.{AllBodies, transitions_are}

-- each clause of transitions, of groups of them, and of a body
abbrev pub TransitionsHave : (Clause → Type 0) → {n : _} → Row_of-Transition n → Type 0
TransitionsHave P end_of-Transition = Unit {0}
TransitionsHave P (more_of-Transition cs name a parts ss place rest) =
    AllByRecursion P cs × TransitionsHave P rest

abbrev pub GroupsHave : (Clause → Type 0) → {n : _} → Row_of-Group n → Type 0
GroupsHave P end_of-Group = Unit {0}
GroupsHave P (more_of-Group (Group' a transitions) rest) =
    TransitionsHave P transitions × GroupsHave P rest

abbrev pub BodyHas : (Clause → Type 0) → Body → Type 0
BodyHas P (Body' name header a parts f b groups) = GroupsHave P groups

-- LISTS

-- what holds of each item holds of the first ones
taken_all : {A : Type 0} (P : A → Type 0) (n : ℕ) (xs : List A) → AllByRecursion P xs
    → AllByRecursion P (take n xs)
taken_all P zero xs h = tt
taken_all P (suc n) [] h = tt
taken_all P (suc n) (x ∷ xs) h = (h.0, taken_all P n xs h.1)

at_number : {A : Type 0} (P : A → Type 0) (xs : List A) (n : ℕ) (y : A) → AllByRecursion P xs
    → slice_get xs n ≡ Some y → P y
at_number P [] n y h e = absurd (none-some y e)
at_number P (x ∷ xs) zero y h e = subst P (same_Some x y e) h.0
at_number P (x ∷ xs) (suc n) y h e = at_number P xs n y h.1 e

numbered_one : {A : Type 0} (P : A → Type 0) (xs : List A) (n : ℕ) (y : A) → AllByRecursion P xs
    → numbered xs n ≡ Some y → P y
numbered_one P xs zero y h e = absurd (none-some y e)
numbered_one P xs (suc n) y h e = at_number P xs n y h e

pub one_in : {A : Type 0} (P : A → Type 0) (x : A) (xs : List A) → AllByRecursion P xs → IsIn x xs
    → P x
one_in P x [] h is = absurd is
one_in P x (y ∷ ys) h (inl e) = subst P e h.0
one_in P x (y ∷ ys) h (inr is) = one_in P x ys h.1 is

-- TRANSITIONS

module _ (P : Clause → Type 0) where
  abbrev Has : FullTransition → Type 0
  Has x = AllByRecursion P x.clauses

  context_has : (cs ds : List Clause) → AllByRecursion P cs → AllByRecursion P ds
      → AllByRecursion P (context_after cs ds)
  context_has cs [] h k = h
  context_has cs (d ∷ ds) h k =
      context_has (context_with cs d) ds
      (joined_all P (before d cs) (d ∷ [])
      (taken_all P (prefix_len (λ c. not (is_same_kind d c)) cs) cs h) (k.0, tt)) k.1

  transitions_have : (gs : List GivenClause) (cs : List Clause) {n : _}
      (row : Row_of-Transition n) → AllByRecursion P cs → TransitionsHave P row
      → AllByRecursion Has (full_after gs cs (items-the_row-Transition n row))
  unfolding out-Part denote.Hole.Carrier.out denote.Hole.Carrier.shown
  transitions_have gs cs end_of-Transition h k = tt
  transitions_have gs cs (more_of-Transition ds name a parts ss place rest) h k =
      let own = context_has cs ds h k.0 in
      (own, transitions_have gs (context_after cs ds) rest own k.1)

  groups_have : {n : _} (row : Row_of-Group n) → GroupsHave P row
      → AllByRecursion Has (flat_map group_transitions (items-the_row-Group n row))
  unfolding out-Group denote.Hole.Carrier.out denote.Hole.Carrier.shown
  groups_have end_of-Group h = tt
  groups_have (more_of-Group (Group' a transitions) rest) h =
      joined_all Has _ _
      (subst (λ (xs : List Transition). (gs : List GivenClause)
      → AllByRecursion Has (full_after gs [] xs))
      (sym (items_shown-the_row-Transition-2 a transitions))
      (λ gs. transitions_have gs [] transitions tt h.0) _)
      (groups_have rest h.1)

  body_has : (b : Body) → BodyHas P b
      → AllByRecursion Has (flat_map group_transitions (out-Body b).groups)
  unfolding out-Body denote.Hole.Carrier.out denote.Hole.Carrier.shown
  body_has (Body' name header a parts f b groups) h =
      subst (λ gs. AllByRecursion Has (flat_map group_transitions gs))
      (sym (items_shown-the_row-Group-1 b groups)) (groups_have groups h)

  -- a transition of a body of a specification
  pub transition_has : (spec : Spec) → AllBodies (BodyHas P) spec.parts → (body number : ℕ)
      (x : FullTransition) → numbered (transitions_of (text_of spec) body) number ≡ Some x
      → AllByRecursion P x.clauses
  transition_has spec h body number x is =
      numbered_one Has (transitions_of (text_of spec) body) number x
      (transitions_are (BodyHas P) (AllByRecursion Has) tt body_has spec h body) is
