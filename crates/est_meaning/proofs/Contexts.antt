-- Contexts of clauses, and those that the rules go by.
use Rattle.std.proofs.Common.{◌≡◌, refl, sym, ap, subst, ◌∙◌, ℕ, Bool, true, false, List, [], ◌∷◌}
use Rattle.std.proofs.Common.{◌++◌, map, Option, Some, None, is_some, ◌||◌}
use Rattle.std.specs.Prelude.{slice_get, not, if◌then◌else◌}
use Rattle.std.specs.List.{cons_option, filter_map, list_any}
use Rattle.std.proofs.lemmas.List.Sums.{take_while-cons}
use Rattle.est_syntax.specs.Faults.{broken_if}
use Rattle.est_syntax.specs.declared.rule.Rule.TheVariants.{DelayNotAlone}
use Rattle.est_syntax.specs.declared.transition.Clause.{Clause}
use Rattle.est_syntax.specs.declared.transition.Clause.TheVariants as clause
use Rattle.mean_blocks.specs.rule_declares.declared.context.ClauseKind.{ClauseKind}
use Rattle.mean_blocks.specs.rule_declares.declared.context.ClauseKind.TheVariants as kind
use Rattle.mean_blocks.specs.rule_declares.declared.context.Given.{Given}
use Rattle.mean_blocks.specs.rule_declares.Contexts.{is_same, dropped, region_of}
use Rattle.rule_ports.specs.GivenClauses as rules
use Rattle.mean_blocks.specs.rule_declares.Contexts.{kind_of}
use Rattle.est_syntax.specs.Clauses.{clause_place}
use Rattle.est_meaning.specs.ClauseContexts.{is_same_kind, before, context_with}
use Rattle.est_meaning.specs.ClauseContexts.{given_by, awaited_in, variables_in, delay_in, noted}
use Rattle.est_meaning.specs.ClauseContexts.{when_of, any_of}
use Rattle.est_meaning.specs.ClauseContexts.{ContextsAreThoseOfTheRules, HasOneOfEach}
use Rattle.est_meaning.specs.ClauseContexts.{ContextsHaveOneOfEach, DelaysStandAlone}

-- THE SAME CONTEXTS

map_append : {A B : Type 0} (f : A → B) (xs ys : List A) → map f (xs ++ ys) ≡ map f xs ++ map f ys
map_append f [] ys = refl
map_append f (x ∷ xs) ys = ap (λ zs. f x ∷ zs) (map_append f xs ys)

kept_arm : (b : Bool) (g : Given) (d : Clause) (gs : List Given) (ds : List Clause) → noted d ≡ g
    → gs ≡ map noted ds
    → (if b then [] else g ∷ gs) ≡ map noted (if not b then d ∷ ds else [])
kept_arm true g d gs ds e h = refl
kept_arm false g d gs ds e h = λ i. sym e i ∷ h i

dropped_before : (c : Clause) (cs : List Clause)
    → dropped (kind_of c) (map noted cs) ≡ map noted (before c cs)
dropped_before c [] = refl
dropped_before c (d ∷ ds) = kept_arm (is_same_kind c d) (noted d) d
    (dropped (kind_of c) (map noted ds)) (before c ds) refl (dropped_before c ds)
    ∙ ap (map noted) (sym (take_while-cons (λ x. not (is_same_kind c x)) d ds))

context_noted : (cs : List Clause) (c : Clause)
    → rules.with_clause (map noted cs) c ≡ map noted (context_with cs c)
context_noted cs c = ap (λ gs. gs ++ noted c ∷ []) (dropped_before c cs)
    ∙ sym (map_append noted (before c cs) (c ∷ []))

pub contexts_are_those_of_the_rules : ContextsAreThoseOfTheRules
contexts_are_those_of_the_rules cs [] = refl
contexts_are_those_of_the_rules cs (d ∷ ds) =
    ap (λ gs. rules.with_clauses gs ds) (context_noted cs d)
    ∙ contexts_are_those_of_the_rules (context_with cs d) ds

-- ONE CLAUSE OF A KIND

either_false : (a b : Bool) → (a || b) ≡ false → (a ≡ false) × (b ≡ false)
either_false true b e = absurd (cc)
either_false false b e = (refl, e)

none_of : (a b : Bool) → a ≡ false → b ≡ false → (a || b) ≡ false
none_of true b e f = absurd (cc)
none_of false b e f = f

-- a context with a clause more, by whether its first one is of that kind
with_cases : (P : List Clause → Type 0) (c d : Clause) (ds : List Clause)
    → (is_same_kind c d ≡ true → P (c ∷ []))
    → (is_same_kind c d ≡ false → P (d ∷ context_with ds c)) → P (context_with (d ∷ ds) c)
with_cases P c d ds h k = subst (λ xs. P (xs ++ c ∷ []))
    (sym (take_while-cons (λ x. not (is_same_kind c x)) d ds)) (one (is_same_kind c d) h k)
  where
    one : (b : Bool) → (b ≡ true → P (c ∷ [])) → (b ≡ false → P (d ∷ context_with ds c))
        → P ((if not b then d ∷ before c ds else []) ++ c ∷ [])
    one true h k = h refl
    one false h k = k refl

-- a clause of another kind than those of a context, and than one that is given after it
not_among : (b : Clause) (cs : List Clause) (c : Clause)
    → list_any (λ d. is_same_kind d b) cs ≡ false → is_same_kind c b ≡ false
    → list_any (λ d. is_same_kind d b) (context_with cs c) ≡ false
not_among b [] c h e = none_of (is_same_kind c b) false e refl
not_among b (d ∷ ds) c h e =
    let p = either_false (is_same_kind d b) (list_any (λ d. is_same_kind d b) ds) h in
    with_cases (λ xs. list_any (λ d. is_same_kind d b) xs ≡ false) c d ds
    (λ _. none_of (is_same_kind c b) false e refl)
    (λ _. none_of (is_same_kind d b) _ p.0 (not_among b ds c p.1 e))

one_more : (cs : List Clause) (c : Clause) → HasOneOfEach cs → HasOneOfEach (context_with cs c)
one_more [] c h = (refl, tt)
one_more (d ∷ ds) c h = with_cases HasOneOfEach c d ds (λ _. (refl, tt))
    (λ e. (not_among d ds c h.0 e, one_more ds c h.1))

pub contexts_have_one_of_each : ContextsHaveOneOfEach
contexts_have_one_of_each cs [] h = h
contexts_have_one_of_each cs (d ∷ ds) h =
    contexts_have_one_of_each (context_with cs d) ds (one_more cs d h)

-- DELAYS

-- what a list of clauses does not have, none of them gives
nothing_given : {A : Type 0} (k : ClauseKind) (of : Clause → Option A)
    → ((c : Clause) → is_same k (kind_of c) ≡ false → of c ≡ None) → (cs : List Clause)
    → is_some (region_of k (map noted cs)) ≡ false → given_by of cs ≡ None
nothing_given k of h [] e = refl
nothing_given {A} k of h (c ∷ cs) e =
    one (is_same k (kind_of c)) (h c) (nothing_given k of h cs) e
  where
    one : (b : Bool) → (b ≡ false → of c ≡ None)
        → (is_some (region_of k (map noted cs)) ≡ false → given_by of cs ≡ None)
        → is_some (if b then Some (clause_place c) else region_of k (map noted cs)) ≡ false
        → given_by of (c ∷ cs) ≡ None
    one true g rest e = absurd (cc)
    one false g rest e =
        ap (λ o. slice_get (cons_option o (filter_map of cs)) 0) (g refl) ∙ rest e

no_when : (c : Clause) → is_same kind.When (kind_of c) ≡ false → awaited_in c ≡ None
no_when (clause.When at signal place) e = absurd (cc)
no_when (clause.From states place) e = refl
no_when (clause.To state place) e = refl
no_when (clause.Provided condition place) e = refl
no_when (clause.Otherwise place) e = refl
no_when (clause.Any names place) e = refl
no_when (clause.Priority value place) e = refl
no_when (clause.Delay least most place) e = refl

no_any : (c : Clause) → is_same kind.Any (kind_of c) ≡ false → variables_in c ≡ None
no_any (clause.Any names place) e = absurd (cc)
no_any (clause.From states place) e = refl
no_any (clause.To state place) e = refl
no_any (clause.When at signal place) e = refl
no_any (clause.Provided condition place) e = refl
no_any (clause.Otherwise place) e = refl
no_any (clause.Priority value place) e = refl
no_any (clause.Delay least most place) e = refl

no_delay : (c : Clause) → is_same kind.Delay (kind_of c) ≡ false → delay_in c ≡ None
no_delay (clause.Delay least most place) e = absurd (cc)
no_delay (clause.From states place) e = refl
no_delay (clause.To state place) e = refl
no_delay (clause.When at signal place) e = refl
no_delay (clause.Provided condition place) e = refl
no_delay (clause.Otherwise place) e = refl
no_delay (clause.Any names place) e = refl
no_delay (clause.Priority value place) e = refl

none_broken : (b : Bool) (place : ℕ) → broken_if b place DelayNotAlone ≡ [] → b ≡ false
none_broken true place e = absurd (cc)
none_broken false place e = refl

none_some : {A : Type 0} (a : A) → None ≡ Some a → ⊥
none_some a e = cc

pub delays_stand_alone : DelaysStandAlone
delays_stand_alone x d h e = by (region_of kind.Delay (map noted x.clauses)) refl h
  where
    by : (o : Option ℕ) → region_of kind.Delay (map noted x.clauses) ≡ o
        → rules.delay_by o (map noted x.clauses) ≡ [] → (when_of x ≡ None) × (any_of x ≡ None)
    by None r f = absurd (none_some d
        (sym (nothing_given kind.Delay delay_in no_delay x.clauses (ap is_some r)) ∙ e))
    by (Some place) r f = let p = either_false (rules.has kind.When (map noted x.clauses))
        (rules.has kind.Any (map noted x.clauses)) (none_broken _ place f) in (
          nothing_given kind.When awaited_in no_when x.clauses p.0,
          nothing_given kind.Any variables_in no_any x.clauses p.1,
        )
