-- The blocks of a specification that breaks no rule break none.
use Rattle.std.proofs.Common.{◌≡◌, refl, sym, subst, ℕ, zero, suc, Bool, true, false, nat_eq}
use Rattle.std.proofs.Common.{List, [], ◌∷◌, ◌++◌, Option, Some, None, inl}
use Rattle.std.specs.Prelude.{if◌then◌else◌, find, slice_get, flat_map}
use Rattle.std.specs.List.{AllByRecursion, cons_option, filter_map, flat_map}
use Rattle.std.specs.Option.{option_map_or}
use Rattle.std.proofs.lemmas.Option.{same_Some, none-some}
use Rattle.est_syntax.specs.Least.{IsIn}
use Rattle.est_syntax.specs.declared.body.Block.{out-Block}
use Rattle.est_syntax.specs.declared.body.Body.{Body, Body', out-Body, Row_of-Group, end_of-Group}
use Rattle.est_syntax.specs.declared.body.Body.{more_of-Group, items-the_row-Group}
use Rattle.est_syntax.specs.declared.body.Body.{items_shown-the_row-Group-1, Held-Body-first}
use Rattle.est_syntax.specs.declared.body.FirstPart.{FirstPart}
use Rattle.est_syntax.specs.declared.body.Part.{Part, out-Part, Row_of-Part, end_of-Part}
use Rattle.est_syntax.specs.declared.body.Part.{more_of-Part}
use Rattle.est_syntax.specs.declared.body.Part.TheBlock as first
use Rattle.est_syntax.specs.declared.body.Part.TheVariants as part
use Rattle.est_syntax.specs.declared.routine.Routine.{Routine, out-Routine}
use Rattle.est_syntax.specs.declared.rule.Fault.{Fault}
use Rattle.est_syntax.specs.declared.specification.Spec.{Spec}
use Rattle.est_syntax.specs.declared.statement.Statement.{Statement}
use Rattle.est_syntax.specs.declared.transition.Clause.{Clause}
use Rattle.est_syntax.specs.declared.transition.Group.{Group', out-Group, Row_of-Transition}
use Rattle.est_syntax.specs.declared.transition.Group.{end_of-Transition, more_of-Transition}
use Rattle.est_syntax.specs.declared.transition.Group.{items-the_row-Transition}
use Rattle.est_syntax.specs.declared.transition.Group.{items_shown-the_row-Transition-2}
use Rattle.est_syntax.specs.declared.transition.Transition.{Transition}
use Rattle.rule_scope.specs.Outline.{Outline}
use Rattle.rule_declares.specs.Bodies.{outline_of}
use Rattle.rule_declares.specs.declared.context.Given.{Given}
use Rattle.est_types.specs.DeclarationFaults.{declaration_faults}
use Rattle.rule_statements.specs.Statements.{statement_faults}
use Rattle.rule_ports.specs.GivenClauses.{with_clauses}
use Rattle.est_check.specs.BlockFaults.{function_of, part_faults, row_faults, first_faults}
use Rattle.est_check.specs.BlockFaults.{row_groups_faults, row_transitions_faults}
use Rattle.est_check.specs.BlockFaults.{bodies_faults}
use Rattle.est_check.specs.LeastFault.{IsGood, IsLeastFault, specification_faults}
use Rattle.mean_blocks.specs.TextByPlace.{Text, text_of, parts_within, row_parts, parts_of}
use Rattle.mean_blocks.specs.TextByPlace.{routine_in, body_in, routine_at, statements_of, body_at}
use Rattle.mean_blocks.specs.TextByPlace.{first_statements}
use Rattle.est_meaning.specs.ClauseContexts.{FullTransition, GivenClause, full_after}
use Rattle.est_meaning.specs.ClauseContexts.{context_after, group_transitions, transitions_of}
use Rattle.est_meaning.specs.TransitionChoices.{numbered}
use Rattle.law_runs.proofs.ParentsOlder.{joined_all}
use Rattle.law_sentences.proofs.NoFaults.{parted}

-- the statements of a function, or of none, break no rule
abbrev pub IsFaultless : Outline → List Statement → Type 0
IsFaultless o xs = (f : Option ℕ) × (flat_map (statement_faults o f []) xs ≡ [])

-- so do those of each block that runs
pub record FaultlessBlocks (t : Text) : Type 0 where
  pub routines : (p : ℕ) (r : Routine) → routine_at t p ≡ Some r
      → IsFaultless t.outline (statements_of r)
  pub initialize_parts : (p : ℕ) (b : Body) (f : FirstPart) → body_at t p ≡ Some b
      → (out-Body b).first ≡ Some f → IsFaultless t.outline (first_statements f)
  pub transitions : (body n : ℕ) (x : FullTransition)
      → numbered (transitions_of t body) n ≡ Some x
      → IsFaultless t.outline (out-Block x.block).statements
  pub first : IsFaultless t.outline (t.spec.first ∷ [])

-- LISTS

-- what holds of each item holds of the one that is found
found_one : {A : Type 0} (P : A → Type 0) (test : A → Bool) (xs : List A) (y : A)
    → AllByRecursion P xs → find test xs ≡ Some y → P y
found_one P test [] y h e = absurd (none-some y e)
found_one P test (x ∷ xs) y h e = one (test x) e (found_one P test xs y h.1)
  where
    one : (b : Bool) → (if b then Some x else find test xs) ≡ Some y
        → (find test xs ≡ Some y → P y) → P y
    one true k rest = subst P (same_Some x y k) h.0
    one false k rest = rest k

-- what holds of each part that is of a sort holds of all of that sort
of_sort : {A B : Type 0} (P : B → Type 0) (of : A → Option B) (xs : List A)
    → AllByRecursion (λ x. (y : B) → of x ≡ Some y → P y) xs → AllByRecursion P (filter_map of xs)
of_sort P of [] h = tt
of_sort P of (x ∷ xs) h = one (of x) h.0 (of_sort P of xs h.1)
  where
    one : (y : Option _) → ((z : _) → y ≡ Some z → P z) → AllByRecursion P (filter_map of xs)
        → AllByRecursion P (cons_option y (filter_map of xs))
    one None f rest = rest
    one (Some y) f rest = (f y refl, rest)

at_number : {A : Type 0} (P : A → Type 0) (xs : List A) (n : ℕ) (y : A) → AllByRecursion P xs
    → slice_get xs n ≡ Some y → P y
at_number P [] n y h e = absurd (none-some y e)
at_number P (x ∷ xs) zero y h e = subst P (same_Some x y e) h.0
at_number P (x ∷ xs) (suc n) y h e = at_number P xs n y h.1 e

numbered_one : {A : Type 0} (P : A → Type 0) (xs : List A) (n : ℕ) (y : A) → AllByRecursion P xs
    → numbered xs n ≡ Some y → P y
numbered_one P xs zero y h e = absurd (none-some y e)
numbered_one P xs (suc n) y h e = at_number P xs n y h e

module _ (o : Outline) where
  -- a transition
  abbrev IsGoodOne : FullTransition → Type 0
  IsGoodOne x = IsFaultless o (out-Block x.block).statements

  transitions_good : (gs : List GivenClause) (cs : List Clause) (hs : List Given) {n : _}
      (row : Row_of-Transition n) → row_transitions_faults o hs row ≡ []
      → AllByRecursion IsGoodOne (full_after gs cs (items-the_row-Transition n row))
  unfolding out-Part denote.Hole.Carrier.out denote.Hole.Carrier.shown
  transitions_good gs cs hs end_of-Transition h = tt
  transitions_good gs cs hs (more_of-Transition ds name a parts ss place rest) h =
      let own = parted _ (row_transitions_faults o (with_clauses hs ds) rest) h in (
        (None, (parted _ (flat_map (statement_faults o None []) ss) (parted _ _ own.0).1).1),
        transitions_good gs (context_after cs ds) (with_clauses hs ds) rest own.1,
      )

  groups_good : {n : _} (row : Row_of-Group n) → row_groups_faults o row ≡ []
      → AllByRecursion IsGoodOne (flat_map group_transitions (items-the_row-Group n row))
  unfolding out-Group denote.Hole.Carrier.out denote.Hole.Carrier.shown
  groups_good end_of-Group h = tt
  groups_good (more_of-Group (Group' a transitions) rest) h =
      let own = parted (row_transitions_faults o [] transitions) (row_groups_faults o rest) h in
      joined_all IsGoodOne _ _
      (subst (λ (xs : List Transition). (gs : List GivenClause)
      → AllByRecursion IsGoodOne (full_after gs [] xs))
      (sym (items_shown-the_row-Transition-2 a transitions))
      (λ gs. transitions_good gs [] [] transitions own.0) _)
      (groups_good rest own.1)

  -- an initialize part
  first_good : (f : Held-Body-first) (g : FirstPart) → first_faults o f ≡ []
      → first.view-Body-first f ≡ Some g → IsFaultless o (first_statements g)
  unfolding out-Part denote.Hole.Carrier.out denote.Hole.Carrier.shown
  first_good first.None' g h e = absurd (none-some g e)
  first_good (first.Some' to a parts ss place) g h e =
      subst (λ (z : FirstPart). IsFaultless o (first_statements z)) (same_Some _ g e)
      (None, (parted _ (flat_map (statement_faults o None []) ss) (parted _ _ h).1).1)

  -- a body
  pub record IsGoodBody (b : Body) : Type 0 where
    pub initialize_part : (f : FirstPart) → (out-Body b).first ≡ Some f
        → IsFaultless o (first_statements f)
    pub transitions : AllByRecursion IsGoodOne (flat_map group_transitions (out-Body b).groups)

  -- a part that is a body or a routine
  abbrev IsBodyGood : Part → Type 0
  IsBodyGood x = (b : Body) → body_in x ≡ Some b → IsGoodBody b

  abbrev IsRoutineGood : Part → Type 0
  IsRoutineGood x = (r : Routine) → routine_in x ≡ Some r → IsFaultless o (statements_of r)

  body_good : (x : Part) → part_faults o x ≡ [] → IsBodyGood x
  unfolding out-Part out-Body denote.Hole.Carrier.out denote.Hole.Carrier.shown
  body_good (part.Body (Body' name header a parts f c groups)) h b e =
      let own = parted _ (row_groups_faults o groups) h in
      subst IsGoodBody (same_Some _ b e) record {
        initialize_part = λ g k. first_good f g (parted _ (first_faults o f) own.0).1 k;
        transitions = subst (λ gs. AllByRecursion IsGoodOne (flat_map group_transitions gs))
            (sym (items_shown-the_row-Group-1 c groups)) (groups_good groups own.1);
      }
  body_good _ h b e = absurd (none-some b e)

  routine_good : (x : Part) → part_faults o x ≡ [] → IsRoutineGood x
  unfolding out-Part denote.Hole.Carrier.out denote.Hole.Carrier.shown
  routine_good (part.Routine' name formals result a parts ss place) h r e =
      subst (λ (z : Routine). IsFaultless o (statements_of z)) (same_Some _ r e)
      (function_of name result, h)
  routine_good _ h r e = absurd (none-some r e)

  -- a part, and those within it
  module _ (P : Part → Type 0) (good : (x : Part) → part_faults o x ≡ [] → P x) where
    mutual
      within_good : (x : Part) → part_faults o x ≡ [] → AllByRecursion P (parts_within x)
      within_good (part.Body (Body' name header a parts f b groups)) h = (
        good (part.Body (Body' name header a parts f b groups)) h,
        row_good parts (parted _ (row_faults o parts)
            (parted _ (first_faults o f) (parted _ (row_groups_faults o groups) h).0).0).1,
      )
      within_good (part.Consts x) h = (good (part.Consts x) h, tt)
      within_good (part.Types x) h = (good (part.Types x) h, tt)
      within_good (part.Channel x) h = (good (part.Channel x) h, tt)
      within_good (part.Header x) h = (good (part.Header x) h, tt)
      within_good (part.Modvars x) h = (good (part.Modvars x) h, tt)
      within_good (part.Points x) h = (good (part.Points x) h, tt)
      within_good (part.Vars x) h = (good (part.Vars x) h, tt)
      within_good (part.States x) h = (good (part.States x) h, tt)
      within_good (part.StateSets x) h = (good (part.StateSets x) h, tt)
      within_good (part.Routine' name formals result a parts ss place) h =
          (good (part.Routine' name formals result a parts ss place) h, tt)

      row_good : {n : _} (row : Row_of-Part n) → row_faults o row ≡ []
          → AllByRecursion P (row_parts row)
      row_good end_of-Part h = tt
      row_good (more_of-Part x rest) h =
          let own = parted (part_faults o x) (row_faults o rest) h in
          joined_all P (parts_within x) (row_parts rest) (within_good x own.0)
          (row_good rest own.1)

    parts_good : (xs : List Part) → flat_map (part_faults o) xs ≡ []
        → AllByRecursion P (flat_map parts_within xs)
    parts_good [] h = tt
    parts_good (x ∷ xs) h = let own = parted (part_faults o x) (flat_map (part_faults o) xs) h in
        joined_all P (parts_within x) (flat_map parts_within xs) (within_good x own.0)
        (parts_good xs own.1)

-- A SPECIFICATION

-- a list with nothing in it
nothing_in : (xs : List Fault) → ((f : Fault) → IsIn f xs → ⊥) → xs ≡ []
nothing_in [] h = refl
nothing_in (x ∷ xs) h = absurd (h x (inl refl))

pub no_faults : (spec : Spec) → IsGood spec → specification_faults spec ≡ []
unfolding IsLeastFault
no_faults spec h = nothing_in (specification_faults spec) h

-- each block that runs
module _ (spec : Spec) (h : flat_map (part_faults (outline_of spec)) spec.parts ≡ []) where
  routine_faultless : (p : ℕ) (r : Routine) → routine_at (text_of spec) p ≡ Some r
      → IsFaultless (outline_of spec) (statements_of r)
  routine_faultless p r e = let o = outline_of spec in let t = text_of spec in
      found_one (λ (z : Routine). IsFaultless o (statements_of z))
      (λ (z : Routine). nat_eq p (out-Routine z).name.place)
      (filter_map routine_in (parts_of t)) r
      (of_sort (λ (z : Routine). IsFaultless o (statements_of z)) routine_in (parts_of t)
      (parts_good o (IsRoutineGood o) (routine_good o) spec.parts h)) e

  bodies_good : AllByRecursion (IsGoodBody (outline_of spec))
      (filter_map body_in (parts_of (text_of spec)))
  bodies_good = let o = outline_of spec in
      of_sort (IsGoodBody o) body_in (parts_of (text_of spec))
      (parts_good o (IsBodyGood o) (body_good o) spec.parts h)

  body_found : (p : ℕ) (b : Body) → body_at (text_of spec) p ≡ Some b
      → IsGoodBody (outline_of spec) b
  body_found p b e =
      found_one (IsGoodBody (outline_of spec)) (λ (z : Body). nat_eq p (out-Body z).name.place)
      (filter_map body_in (parts_of (text_of spec))) b bodies_good e

  transition_faultless : (p n : ℕ) (x : FullTransition)
      → numbered (transitions_of (text_of spec) p) n ≡ Some x
      → IsFaultless (outline_of spec) (out-Block x.block).statements
  transition_faultless p n x e = let t = text_of spec in let o = outline_of spec in
      numbered_one (IsGoodOne o) (transitions_of t p) n x (one (body_at t p) refl) e
    where
      one : (y : Option Body) → body_at (text_of spec) p ≡ y
          → AllByRecursion (IsGoodOne (outline_of spec))
          (option_map_or (λ (b : Body). flat_map group_transitions (out-Body b).groups) y [])
      one None k = tt
      one (Some b) k = (body_found p b k).transitions

pub blocks_faultless : (spec : Spec) → specification_faults spec ≡ []
    → FaultlessBlocks (text_of spec)
blocks_faultless spec h =
    let o = outline_of spec in
    let b = (parted (declaration_faults spec) (bodies_faults spec) h).1 in
    let own = parted (flat_map (part_faults o) spec.parts) (statement_faults o None [] spec.first) b in
    record {
      routines = λ p r e. routine_faultless spec own.0 p r e;
      initialize_parts = λ p b f e k. (body_found spec own.0 p b e).initialize_part f k;
      transitions = λ p n x e. transition_faultless spec own.0 p n x e;
      first = (None, subst (λ (xs : List Fault). xs ++ [] ≡ []) (sym own.1) refl);
    }
