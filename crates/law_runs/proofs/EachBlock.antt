-- What holds of the blocks of each part holds of each block that runs.
use Rattle.std.proofs.Common.{◌≡◌, refl, sym, subst, ℕ, zero, suc, Bool, true, false, nat_eq}
use Rattle.std.proofs.Common.{List, [], ◌∷◌, Option, Some, None}
use Rattle.std.specs.Prelude.{if◌then◌else◌, find, slice_get}
use Rattle.std.specs.List.{AllByRecursion, cons_option, filter_map, flat_map}
use Rattle.std.specs.Option.{option_map_or}
use Rattle.std.proofs.lemmas.Option.{same_Some, none-some}
use Rattle.est_syntax.specs.declared.body.Block.{out-Block}
use Rattle.est_syntax.specs.declared.body.Body.{Body, Body', out-Body, Row_of-Group, end_of-Group}
use Rattle.est_syntax.specs.declared.body.Body.{more_of-Group, items-the_row-Group}
use Rattle.est_syntax.specs.declared.body.Body.{items_shown-the_row-Group-1, Held-Body-first}
use Rattle.est_syntax.specs.declared.body.FirstPart.{FirstPart}
use Rattle.est_syntax.specs.declared.body.Part.{Part, out-Part, Row_of-Part, end_of-Part}
use Rattle.est_syntax.specs.declared.body.Part.{more_of-Part}
use Rattle.est_syntax.specs.declared.body.Part.TheBlock as first
use Rattle.est_syntax.specs.declared.body.Part.TheBlock.{shown-the_row-Part-0}
use Rattle.est_syntax.specs.declared.body.Part.TheBlock.{shown-the_row-Group-1}
use Rattle.est_syntax.specs.declared.body.Part.TheVariants as part
use Rattle.est_syntax.specs.declared.routine.Routine.{Routine, out-Routine}
use Rattle.est_syntax.specs.declared.transition.Clause.{Clause}
use Rattle.est_syntax.specs.declared.transition.Group.{Group', out-Group, Row_of-Transition}
use Rattle.est_syntax.specs.declared.transition.Group.{end_of-Transition, more_of-Transition}
use Rattle.est_syntax.specs.declared.transition.Group.{items-the_row-Transition}
use Rattle.est_syntax.specs.declared.transition.Group.{items_shown-the_row-Transition-2}
use Rattle.est_syntax.specs.declared.transition.Transition.{Transition}
use Rattle.rule_scope.specs.Outline.{Outline}
use Rattle.mean_blocks.specs.TextByPlace.{Text, parts_within, row_parts, parts_of, routine_in}
use Rattle.mean_blocks.specs.TextByPlace.{body_in, routine_at, statements_of, body_at}
use Rattle.mean_blocks.specs.TextByPlace.{first_statements}
use Rattle.est_meaning.specs.ClauseContexts.{FullTransition, GivenClause, full_after}
use Rattle.est_meaning.specs.ClauseContexts.{context_after, group_transitions, transitions_of}
use Rattle.est_meaning.specs.TransitionChoices.{numbered}
use Rattle.law_runs.proofs.ParentsOlder.{joined_all}
use Rattle.law_runs.proofs.InsideParts.{BlockInside, FirstInside, TransitionsInside}
use Rattle.law_runs.proofs.InsideParts.{GroupsInside, PartInside, PartsInside, ListedInside}

-- LISTS

-- what holds of each item holds of the one that is found
found_one : {A : Type 0} (P : A → Type 0) (test : A → Bool) (xs : List A) (y : A)
    → AllByRecursion P xs → find test xs ≡ Some y → P y
found_one P test [] y h e = absurd (none-some y e)
found_one P test (x ∷ xs) y h e = one (test x) e (found_one P test xs y h.1)
  where
    one : (b : Bool) → (if b then Some x else find test xs) ≡ Some y
        → (find test xs ≡ Some y → P y) → P y
    one true k rest = subst P (same_Some x y k) h.0
    one false k rest = rest k

-- what holds of each part that is of a sort holds of all of that sort
of_sort : {A B : Type 0} (P : B → Type 0) (of : A → Option B) (xs : List A)
    → AllByRecursion (λ x. (y : B) → of x ≡ Some y → P y) xs → AllByRecursion P (filter_map of xs)
of_sort P of [] h = tt
of_sort P of (x ∷ xs) h = one (of x) h.0 (of_sort P of xs h.1)
  where
    one : (y : Option _) → ((z : _) → y ≡ Some z → P z) → AllByRecursion P (filter_map of xs)
        → AllByRecursion P (cons_option y (filter_map of xs))
    one None f rest = rest
    one (Some y) f rest = (f y refl, rest)

at_number : {A : Type 0} (P : A → Type 0) (xs : List A) (n : ℕ) (y : A) → AllByRecursion P xs
    → slice_get xs n ≡ Some y → P y
at_number P [] n y h e = absurd (none-some y e)
at_number P (x ∷ xs) zero y h e = subst P (same_Some x y e) h.0
at_number P (x ∷ xs) (suc n) y h e = at_number P xs n y h.1 e

numbered_one : {A : Type 0} (P : A → Type 0) (xs : List A) (n : ℕ) (y : A) → AllByRecursion P xs
    → numbered xs n ≡ Some y → P y
numbered_one P xs zero y h e = absurd (none-some y e)
numbered_one P xs (suc n) y h e = at_number P xs n y h e

module _ (X : ℕ → Type 0) (o : Outline) where
  -- a transition
  abbrev HasTargetsInside : FullTransition → Type 0
  HasTargetsInside x = BlockInside X o (out-Block x.block).statements

  transitions_inside : (gs : List GivenClause) (cs : List Clause) {n : _}
      (row : Row_of-Transition n) → TransitionsInside X o row
      → AllByRecursion HasTargetsInside (full_after gs cs (items-the_row-Transition n row))
  unfolding out-Part denote.Hole.Carrier.out denote.Hole.Carrier.shown
  transitions_inside gs cs end_of-Transition h = tt
  transitions_inside gs cs (more_of-Transition ds name a parts ss place rest) h =
      (h.0, transitions_inside gs (context_after cs ds) rest h.1)

  groups_inside : {n : _} (row : Row_of-Group n) → GroupsInside X o row
      → AllByRecursion HasTargetsInside (flat_map group_transitions (items-the_row-Group n row))
  unfolding out-Group denote.Hole.Carrier.out denote.Hole.Carrier.shown
  groups_inside end_of-Group h = tt
  groups_inside (more_of-Group (Group' a transitions) rest) h =
      joined_all HasTargetsInside _ _
      (subst (λ (xs : List Transition). (gs : List GivenClause)
      → AllByRecursion HasTargetsInside (full_after gs [] xs))
      (sym (items_shown-the_row-Transition-2 a transitions))
      (λ gs. transitions_inside gs [] transitions h.0) _)
      (groups_inside rest h.1)

  -- an initialize part
  first_part_inside : (f : Held-Body-first) (g : FirstPart) → FirstInside X o f
      → first.view-Body-first f ≡ Some g → BlockInside X o (first_statements g)
  unfolding out-Part denote.Hole.Carrier.out denote.Hole.Carrier.shown
  first_part_inside first.None' g h e = absurd (none-some g e)
  first_part_inside (first.Some' to a parts ss place) g h e =
      subst (λ (z : FirstPart). BlockInside X o (first_statements z)) (same_Some _ g e) h

  -- a body
  pub record BodyHasTargetsInside (b : Body) : Type 0 where
    pub initialize_part : (f : FirstPart) → (out-Body b).first ≡ Some f
        → BlockInside X o (first_statements f)
    pub transitions : AllByRecursion HasTargetsInside
        (flat_map group_transitions (out-Body b).groups)

  -- a part that is a body or a routine
  abbrev HasBodyInside : Part → Type 0
  HasBodyInside x = (b : Body) → body_in x ≡ Some b → BodyHasTargetsInside b

  abbrev HasRoutineInside : Part → Type 0
  HasRoutineInside x = (r : Routine) → routine_in x ≡ Some r → BlockInside X o (statements_of r)

  body_inside : (x : Part) → PartInside X o x → HasBodyInside x
  unfolding out-Part out-Body denote.Hole.Carrier.out denote.Hole.Carrier.shown
  body_inside (part.Body (Body' name header a parts f c groups)) h b e =
      subst BodyHasTargetsInside (same_Some _ b e) record {
        initialize_part = λ g k. first_part_inside f g h.1 k;
        transitions = subst (λ gs. AllByRecursion HasTargetsInside (flat_map group_transitions gs))
            (sym (items_shown-the_row-Group-1 c groups)) (groups_inside groups h.2);
      }
  body_inside _ h b e = absurd (none-some b e)

  routine_part_inside : (x : Part) → PartInside X o x → HasRoutineInside x
  unfolding out-Part denote.Hole.Carrier.out denote.Hole.Carrier.shown
  routine_part_inside (part.Routine' name formals result a parts ss place) h r e =
      subst (λ (z : Routine). BlockInside X o (statements_of z)) (same_Some _ r e) h
  routine_part_inside _ h r e = absurd (none-some r e)

  -- a part, and those within it
  module _ (P : Part → Type 0) (holds : (x : Part) → PartInside X o x → P x) where
    mutual
      within_holds : (x : Part) → PartInside X o x → AllByRecursion P (parts_within x)
      within_holds (part.Body (Body' name header a parts f b groups)) h =
          (holds (part.Body (Body' name header a parts f b groups)) h, row_holds parts h.0)
      within_holds (part.Consts x) h = (holds (part.Consts x) h, tt)
      within_holds (part.Types x) h = (holds (part.Types x) h, tt)
      within_holds (part.Channel x) h = (holds (part.Channel x) h, tt)
      within_holds (part.Header x) h = (holds (part.Header x) h, tt)
      within_holds (part.Modvars x) h = (holds (part.Modvars x) h, tt)
      within_holds (part.Points x) h = (holds (part.Points x) h, tt)
      within_holds (part.Vars x) h = (holds (part.Vars x) h, tt)
      within_holds (part.States x) h = (holds (part.States x) h, tt)
      within_holds (part.StateSets x) h = (holds (part.StateSets x) h, tt)
      within_holds (part.Routine' name formals result a parts ss place) h =
          (holds (part.Routine' name formals result a parts ss place) h, tt)

      row_holds : {n : _} (row : Row_of-Part n) → PartsInside X o row
          → AllByRecursion P (row_parts row)
      row_holds end_of-Part h = tt
      row_holds (more_of-Part x rest) h = joined_all P (parts_within x) (row_parts rest)
          (within_holds x h.0) (row_holds rest h.1)

    parts_hold : (xs : List Part) → ListedInside X o xs
        → AllByRecursion P (flat_map parts_within xs)
    parts_hold [] h = tt
    parts_hold (x ∷ xs) h = joined_all P (parts_within x) (flat_map parts_within xs)
        (within_holds x h.0) (parts_hold xs h.1)

  -- each block that runs
  module _ (t : Text) (all : ListedInside X o t.spec.parts) where
    pub routine_inside : (p : ℕ) (r : Routine) → routine_at t p ≡ Some r
        → BlockInside X o (statements_of r)
    routine_inside p r e =
        found_one (λ (z : Routine). BlockInside X o (statements_of z))
        (λ (z : Routine). nat_eq p (out-Routine z).name.place)
        (filter_map routine_in (parts_of t)) r
        (of_sort (λ (z : Routine). BlockInside X o (statements_of z)) routine_in (parts_of t)
        (parts_hold HasRoutineInside routine_part_inside t.spec.parts all)) e

    bodies_inside : AllByRecursion BodyHasTargetsInside (filter_map body_in (parts_of t))
    bodies_inside = of_sort BodyHasTargetsInside body_in (parts_of t)
        (parts_hold HasBodyInside body_inside t.spec.parts all)

    body_found : (p : ℕ) (b : Body) → body_at t p ≡ Some b → BodyHasTargetsInside b
    body_found p b e = found_one BodyHasTargetsInside
        (λ (z : Body). nat_eq p (out-Body z).name.place)
        (filter_map body_in (parts_of t)) b bodies_inside e

    pub first_inside : (p : ℕ) (b : Body) (f : FirstPart) → body_at t p ≡ Some b
        → (out-Body b).first ≡ Some f → BlockInside X o (first_statements f)
    first_inside p b f e k = (body_found p b e).initialize_part f k

    pub transition_inside : (p n : ℕ) (x : FullTransition)
        → numbered (transitions_of t p) n ≡ Some x
        → BlockInside X o (out-Block x.block).statements
    transition_inside p n x e =
        numbered_one HasTargetsInside (transitions_of t p) n x (one (body_at t p) refl) e
      where
        one : (y : Option Body) → body_at t p ≡ y → AllByRecursion HasTargetsInside
            (option_map_or (λ (b : Body). flat_map group_transitions (out-Body b).groups) y [])
        one None k = tt
        one (Some b) k = (body_found p b k).transitions
