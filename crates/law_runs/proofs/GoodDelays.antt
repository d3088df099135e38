-- Where no rule is broken, no transition with a delay awaits an interaction.
use Rattle.std.proofs.Common.{◌≡◌, refl, sym, ap, subst, ◌∙◌, ℕ, zero, suc, Bool, true, false}
use Rattle.std.proofs.Common.{List, [], ◌∷◌, ◌++◌, map, Option, Some, None, is_some}
use Rattle.std.proofs.Common.{inl, inr}
use Rattle.std.specs.Prelude.{if◌then◌else◌, find, slice_get, flat_map}
use Rattle.std.specs.List.{AllByRecursion, cons_option, filter_map, flat_map}
use Rattle.std.specs.Option.{option_map_or}
use Rattle.std.proofs.lemmas.Option.{same_Some}
use Rattle.est_syntax.specs.Least.{IsIn}
use Rattle.est_syntax.specs.declared.body.Body.{Body, Body', out-Body}
use Rattle.est_syntax.specs.declared.body.Part.{Part, Row_of-Part, end_of-Part, more_of-Part}
use Rattle.est_syntax.specs.declared.body.Part.TheOpen as seen
use Rattle.est_syntax.specs.declared.body.Part.TheVariants as part
use Rattle.est_syntax.specs.declared.rule.Fault.{Fault}
use Rattle.est_syntax.specs.declared.specification.Spec.{Spec}
use Rattle.est_syntax.specs.declared.transition.Clause.{Clause}
use Rattle.est_syntax.specs.declared.transition.Group.{Group, out-Group}
use Rattle.est_syntax.specs.declared.transition.Transition.{Transition, out-Transition}
use Rattle.rule_scope.specs.Outline.{Outline}
use Rattle.rule_declares.specs.Bodies.{outline_of}
use Rattle.rule_ports.specs.GivenClauses.{with_clauses, delay_faults}
use Rattle.est_check.specs.BlockFaults.{part_faults, row_faults, bodies_faults}
use Rattle.est_types.specs.DeclarationFaults.{declaration_faults}
use Rattle.est_check.specs.LeastFault.{IsGood, IsLeastFault}
use Rattle.est_check.specs.inside.BlockParts.{transitions_faults, groups_faults}
use Rattle.est_check.proofs.PartRows as rows
use Rattle.mean_blocks.specs.TextByPlace.{PartLayer, parts_within, row_parts, body_in, text_of}
use Rattle.est_meaning.specs.ClauseContexts.{FullTransition, Delay, noted, GivenClause, full_after}
use Rattle.est_meaning.specs.ClauseContexts.{context_after, group_transitions, transitions_of}
use Rattle.est_meaning.specs.ClauseContexts.{delay_of, when_of}
use Rattle.est_meaning.specs.TransitionChoices.{numbered}
use Rattle.est_meaning.proofs.Contexts.{contexts_are_those_of_the_rules, delays_stand_alone}
use Rattle.law_runs.specs.RunOrder.{GoodDelaysAwaitNothing}
use Rattle.law_runs.proofs.ParentsOlder.{joined_all}

none_some : {A : Type 0} (a : A) → None ≡ Some a → ⊥
none_some a h = cc

-- LISTS

left_none : (xs ys : List Fault) → xs ++ ys ≡ [] → xs ≡ []
left_none [] ys e = refl
left_none (x ∷ xs) ys e = absurd (cc)

right_none : (xs ys : List Fault) → xs ++ ys ≡ [] → ys ≡ []
right_none [] ys e = e
right_none (x ∷ xs) ys e = absurd (cc)

-- CLAUSES

-- the clauses of a transition break no rule on delays
abbrev IsGoodTransition : FullTransition → Type 0
IsGoodTransition x = delay_faults (map noted x.clauses) ≡ []

abbrev AreGood : List FullTransition → Type 0
AreGood xs = AllByRecursion IsGoodTransition xs

module _ (o : Outline) where
  transitions_good : (gs : List GivenClause) (cs : List Clause) (xs : List Transition)
      → transitions_faults o (map noted cs) xs ≡ [] → AreGood (full_after gs cs xs)
  transitions_good gs cs [] e = tt
  transitions_good gs cs (x ∷ xs) e =
      let ds = (out-Transition x).clauses in
      let same = contexts_are_those_of_the_rules cs ds in
      let own = left_none _ (transitions_faults o (with_clauses (map noted cs) ds) xs) e in (
        subst (λ ns. delay_faults ns ≡ []) same (right_none _ _ (left_none _ _ own)),
        transitions_good gs (context_after cs ds) xs
            (subst (λ ns. transitions_faults o ns xs ≡ []) same (right_none _ _ e)),
      )

  groups_good : (gs : List Group) → groups_faults o gs ≡ []
      → AreGood (flat_map group_transitions gs)
  groups_good [] e = tt
  groups_good (g ∷ gs) e = joined_all IsGoodTransition (group_transitions g)
      (flat_map group_transitions gs)
      (transitions_good _ [] (out-Group g).transitions (left_none _ (groups_faults o gs) e))
      (groups_good gs (right_none _ _ e))

  -- BODIES

  abbrev IsGoodBody : Body → Type 0
  IsGoodBody b = AreGood (flat_map group_transitions (out-Body b).groups)

  body_good : (b : Body) → part_faults o (part.Body b) ≡ [] → IsGoodBody b
  body_good b e = groups_good (out-Body b).groups
      (right_none _ _ (sym (rows.body_at o (part.Body b) b refl) ∙ e))

  -- a part that is a body is a good one
  abbrev IsGoodPart : Part → Type 0
  IsGoodPart p = (b : Body) → body_in p ≡ Some b → IsGoodBody b

  layer_body : PartLayer → Option Body
  layer_body (seen.Body b) = Some b
  layer_body _ = None

  body_of : (b : Body) → body_in (part.Body b) ≡ Some b
  unfolding layer_body
  body_of b = ap layer_body (part.outs-Body b)

  whole_good : (b : Body) → part_faults o (part.Body b) ≡ [] → IsGoodPart (part.Body b)
  whole_good b e x h = subst IsGoodBody (same_Some b x (sym (body_of b) ∙ h)) (body_good b e)

  alone : (p : Part) → body_in p ≡ None → AllByRecursion IsGoodPart (p ∷ [])
  alone p e = ((λ b h. absurd (none_some b (sym e ∙ h))), tt)

  mutual
    unfolding layer_body

    within_good : (p : Part) → part_faults o p ≡ [] → AllByRecursion IsGoodPart (parts_within p)
    within_good (part.Body (Body' name header a parts f b groups)) e = (
      whole_good (Body' name header a parts f b groups) e,
      row_good parts (right_none _ _ (left_none _ _ (left_none _ _ e))),
    )
    within_good (part.Consts x) e = alone (part.Consts x) (ap layer_body (part.outs-Consts x))
    within_good (part.Types x) e = alone (part.Types x) (ap layer_body (part.outs-Types x))
    within_good (part.Channel x) e = alone (part.Channel x) (ap layer_body (part.outs-Channel x))
    within_good (part.Header x) e = alone (part.Header x) (ap layer_body (part.outs-Header x))
    within_good (part.Modvars x) e = alone (part.Modvars x) (ap layer_body (part.outs-Modvars x))
    within_good (part.Points x) e = alone (part.Points x) (ap layer_body (part.outs-Points x))
    within_good (part.Vars x) e = alone (part.Vars x) (ap layer_body (part.outs-Vars x))
    within_good (part.States x) e = alone (part.States x) (ap layer_body (part.outs-States x))
    within_good (part.StateSets x) e =
        alone (part.StateSets x) (ap layer_body (part.outs-StateSets x))
    within_good (part.Routine' name formals result a parts statements place) e =
        alone (part.Routine' name formals result a parts statements place)
        (ap layer_body (part.outs-Routine' name formals result a parts statements place))

    row_good : {n : _} (row : Row_of-Part n) → row_faults o row ≡ []
        → AllByRecursion IsGoodPart (row_parts row)
    row_good end_of-Part e = tt
    row_good (more_of-Part p rest) e = joined_all IsGoodPart (parts_within p) (row_parts rest)
        (within_good p (left_none _ (row_faults o rest) e)) (row_good rest (right_none _ _ e))

  parts_good : (ps : List Part) → flat_map (part_faults o) ps ≡ []
      → AllByRecursion IsGoodPart (flat_map parts_within ps)
  parts_good [] e = tt
  parts_good (p ∷ ps) e = joined_all IsGoodPart (parts_within p) (flat_map parts_within ps)
      (within_good p (left_none _ (flat_map (part_faults o) ps) e)) (parts_good ps (right_none _ _ e))

  bodies_good : (ps : List Part) → AllByRecursion IsGoodPart ps
      → AllByRecursion IsGoodBody (filter_map body_in ps)
  bodies_good [] h = tt
  bodies_good (p ∷ ps) h = one (body_in p) h.0 (bodies_good ps h.1)
    where
      one : (x : Option Body) → ((b : Body) → x ≡ Some b → IsGoodBody b)
          → AllByRecursion IsGoodBody (filter_map body_in ps)
          → AllByRecursion IsGoodBody (cons_option x (filter_map body_in ps))
      one None f g = g
      one (Some b) f g = (f b refl, g)

  found_good : (test : Body → Bool) (bs : List Body) → AllByRecursion IsGoodBody bs
      → AreGood (option_map_or (λ (b : Body). flat_map group_transitions (out-Body b).groups)
      (find test bs) [])
  found_good test [] h = tt
  found_good test (b ∷ bs) h = one (test b) (found_good test bs h.1)
    where
      one : (c : Bool)
          → AreGood (option_map_or (λ (b : Body). flat_map group_transitions (out-Body b).groups)
          (find test bs) [])
          → AreGood (option_map_or (λ (b : Body). flat_map group_transitions (out-Body b).groups)
          (if c then Some b else find test bs) [])
      one true g = h.0
      one false g = g

-- THE LAW

at_number : (xs : List FullTransition) (n : ℕ) (x : FullTransition) → AreGood xs
    → slice_get xs n ≡ Some x → IsGoodTransition x
at_number [] n x h e = absurd (none_some x e)
at_number (y ∷ ys) zero x h e = subst IsGoodTransition (same_Some y x e) h.0
at_number (y ∷ ys) (suc n) x h e = at_number ys n x h.1 e

numbered_good : (xs : List FullTransition) (n : ℕ) (x : FullTransition) → AreGood xs
    → numbered xs n ≡ Some x → IsGoodTransition x
numbered_good xs zero x h e = absurd (none_some x e)
numbered_good xs (suc n) x h e = at_number xs n x h e

delay_alone : (x : FullTransition) → IsGoodTransition x → (d : Option Delay) → delay_of x ≡ d
    → is_some d ≡ true → when_of x ≡ None
delay_alone x h None e i = absurd (cc)
delay_alone x h (Some d) e i = (delays_stand_alone x d h e).0

-- a list with nothing in it has nothing in its second part
second_empty : (xs ys : List Fault) → ((f : Fault) → IsIn f (xs ++ ys) → ⊥) → ys ≡ []
second_empty [] [] h = refl
second_empty [] (y ∷ ys) h = absurd (h y (inl refl))
second_empty (x ∷ xs) ys h = second_empty xs ys (λ f i. h f (inr i))

good_bodies : (spec : Spec) → IsGood spec → bodies_faults spec ≡ []
unfolding IsLeastFault
good_bodies spec h = second_empty (declaration_faults spec) (bodies_faults spec) h

pub good_delays_await_nothing : GoodDelaysAwaitNothing
good_delays_await_nothing spec good body number x h i =
    let o = outline_of spec in
    let e = left_none _ _ (good_bodies spec good) in
    delay_alone x (numbered_good (transitions_of (text_of spec) body) number x
    (found_good o _ _ (bodies_good o _ (parts_good o spec.parts e))) h)
    (delay_of x) refl i
