-- Contexts and the conditions that are given in them, as they are held.
use Rattle.std.proofs.Common.{◌≡◌, refl, sym, ap, ◌∙◌, ℕ, ◌<◌, Bool, true, false, cond, not}
use Rattle.std.proofs.Common.{List, [], ◌∷◌, ◌++◌, map, length, take, drop}
use Rattle.std.proofs.Common.{append_assoc, ◌+◌, Option, Some, None, get_or}
use Rattle.std.proofs.lemmas.List.{map-append}
use Rattle.std.proofs.lemmas.List.Sums.{take_while-cons}
use Rattle.std.proofs.lemmas.List.Elements.{filter_map-append}
use Rattle.std.specs.Borrow.{Bor}
use Rattle.std.specs.List.{filter, filter_map, flat_map, take_while, cons_option}
use Rattle.std.specs.Option.{option_map}
use Rattle.est_syntax.specs.declared.expression.Expr.{Expr}
use Rattle.est_syntax.specs.declared.transition.Clause.{Clause}
use Rattle.est_syntax.specs.declared.transition.Clause.TheVariants as clause
use Rattle.est_syntax.specs.declared.transition.Transition.{Transition, out-Transition}
use Rattle.est_syntax.specs.Clauses.{clause_place}
use Rattle.est_meaning.specs.ClauseContexts.{GivenClause, is_same_kind, before, context_with}
use Rattle.est_meaning.specs.ClauseContexts.{context_after, given_after, condition_in, is_earlier}
use Rattle.est_meaning.specs.ClauseContexts.{referred, clauses_of}
use Rattle.plain_transitions.specs.inside.HeldClauses.{held, count_before, places_before, Condition}
use Rattle.plain_transitions.specs.inside.HeldClauses.{given_condition, given_conditions, is_before}
use Rattle.plain_transitions.specs.inside.HeldClauses.{conditions_before, referred_by}
use Rattle.plain_transitions.proofs.ListLaws.{drop_next}

-- BEFORE A CLAUSE

cond_mapped : {A B : Type 0} (f : A → B) (b : Bool) (x : A) (xs : List A)
    → cond b (f x ∷ map f xs) [] ≡ map f (cond b (x ∷ xs) [])
cond_mapped f true x xs = refl
cond_mapped f false x xs = refl

mapped_while : {A B : Type 0} (f : A → B) (p : B → Bool) (xs : List A)
    → take_while p (map f xs) ≡ map f (take_while (λ x. p (f x)) xs)
mapped_while f p [] = refl
mapped_while f p (x ∷ xs) =
    take_while-cons p (f x) (map f xs)
    ∙ ap (λ l. cond (p (f x)) (f x ∷ l) []) (mapped_while f p xs)
    ∙ cond_mapped f (p (f x)) x (take_while (λ y. p (f y)) xs)
    ∙ sym (ap (map f) (take_while-cons (λ y. p (f y)) x xs))

pub held_before : (c : Clause) (cs : List (Bor Clause))
    → held (take (count_before c cs) cs) ≡ before c (held cs)
held_before c cs =
    sym (mapped_while (λ (d : Bor Clause). d.now) (λ d. not (is_same_kind c d)) cs)

pub held_with : (c : Bor Clause) (cs ds : List (Bor Clause)) (n : ℕ)
    → n ≡ count_before c.now cs → ds ≡ take n cs ++ c ∷ []
    → held ds ≡ context_with (held cs) c.now
held_with c cs ds n is e =
    ap held e ∙ map-append (λ (d : Bor Clause). d.now) (take n cs) (c ∷ [])
    ∙ ap (λ l. l ++ c.now ∷ []) (ap (λ m. held (take m cs)) is ∙ held_before c.now cs)

map_both : {A B C : Type 0} (f : B → C) (g : A → B) (xs : List A)
    → map (λ x. f (g x)) xs ≡ map f (map g xs)
map_both f g [] = refl
map_both f g (x ∷ xs) = ap (λ l. f (g x) ∷ l) (map_both f g xs)

pub places_are : (c : Clause) (cs part : List (Bor Clause)) (n : ℕ) (places : List ℕ)
    → n ≡ count_before c cs → part ≡ take n cs
    → places ≡ map (λ (d : Bor Clause). clause_place d.now) part
    → places ≡ places_before c (held cs)
places_are c cs part n places is e h =
    h ∙ map_both clause_place (λ (d : Bor Clause). d.now) part
    ∙ ap (λ l. map clause_place (held l)) e
    ∙ ap (map clause_place) (ap (λ m. held (take m cs)) is ∙ held_before c cs)

-- MORE CLAUSES

pub context_more : (cs ds es : List Clause)
    → context_after cs (ds ++ es) ≡ context_after (context_after cs ds) es
context_more cs [] es = refl
context_more cs (d ∷ ds) es = context_more (context_with cs d) ds es

given_more : (cs ds es : List Clause)
    → given_after cs (ds ++ es) ≡ given_after cs ds ++ given_after (context_after cs ds) es
given_more cs [] es = refl
given_more cs (d ∷ ds) es =
    ap (λ l. record { under = before d cs; clause = d } ∷ l) (given_more (context_with cs d) ds es)

pub conditions_more : (cs ds es : List Clause) → given_conditions (given_after cs (ds ++ es))
    ≡ given_conditions (given_after cs ds)
    ++ given_conditions (given_after (context_after cs ds) es)
conditions_more cs ds es =
    ap given_conditions (given_more cs ds es)
    ∙ filter_map-append given_condition (given_after cs ds) (given_after (context_after cs ds) es)

-- a clause more of a list
pub give_next : (now next ds : List Clause) (i : ℕ) (d : Clause) (whole : List Clause)
    → i < length ds → d ≡ get_or ds i d → next ≡ context_with now d
    → context_after now (drop i ds) ≡ whole → context_after next (drop (i + 1) ds) ≡ whole
give_next now next ds i d whole within is e h =
    ap (λ l. context_after l (drop (i + 1) ds)) e
    ∙ sym (ap (context_after now) (drop_next ds i d within is)) ∙ h

abbrev here : List Clause → Clause → GivenClause
here cs d = record { under = before d cs; clause = d }

pub note_next : (now next ds : List Clause) (i : ℕ) (d : Clause) (old new whole : List Condition)
    → i < length ds → d ≡ get_or ds i d → next ≡ context_with now d
    → new ≡ old ++ given_conditions (here now d ∷ [])
    → old ++ given_conditions (given_after now (drop i ds)) ≡ whole
    → new ++ given_conditions (given_after next (drop (i + 1) ds)) ≡ whole
note_next now next ds i d old new whole within is e k h =
    let rest : List GivenClause = given_after (context_with now d) (drop (i + 1) ds) in
    (λ j. k j ++ given_conditions (given_after (e j) (drop (i + 1) ds)))
    ∙ append_assoc old (given_conditions (here now d ∷ [])) (given_conditions rest)
    ∙ ap (λ l. old ++ l) (sym (filter_map-append given_condition (here now d ∷ []) rest)
    ∙ sym (ap (λ l. given_conditions (given_after now l)) (drop_next ds i d within is))) ∙ h

-- a transition more
pub group_next : (now next : List Clause) (xs : List Transition) (i : ℕ) (x : Transition)
    (old new whole : List Condition) → i < length xs → x ≡ get_or xs i x
    → next ≡ context_after now (out-Transition x).clauses
    → new ≡ old ++ given_conditions (given_after now (out-Transition x).clauses)
    → old ++ given_conditions (given_after now (clauses_of (drop i xs))) ≡ whole
    → new ++ given_conditions (given_after next (clauses_of (drop (i + 1) xs))) ≡ whole
group_next now next xs i x old new whole within is e k h =
    let ds : List Clause = (out-Transition x).clauses in
    let es : List Clause = clauses_of (drop (i + 1) xs) in
    (λ j. k j ++ given_conditions (given_after (e j) es))
    ∙ append_assoc old (given_conditions (given_after now ds))
    (given_conditions (given_after (context_after now ds) es))
    ∙ ap (λ l. old ++ l) (sym (conditions_more now ds es)
    ∙ sym (ap (λ l. given_conditions (given_after now (clauses_of l)))
    (drop_next xs i x within is))) ∙ h

-- EARLIER CONDITIONS

abbrev expression_of : Condition → Expr
expression_of c = c.condition

same_test : (g : GivenClause) (under : List Clause) (place : ℕ) (e : Expr) (b : Bool)
    (xs : List GivenClause) (ys : List Condition)
    → condition_in g.clause ≡ Some e
    → filter_map (λ (h : GivenClause). condition_in h.clause) xs ≡ map expression_of ys
    → filter_map (λ (h : GivenClause). condition_in h.clause) (cond b (g ∷ xs) xs)
    ≡ map expression_of (cond b (record {
      under = map clause_place g.under;
      place = clause_place g.clause;
      condition = e;
    } ∷ ys) ys)
same_test g under place e true xs ys is h =
    ap (λ o. cons_option o (filter_map (λ (k : GivenClause). condition_in k.clause) xs)) is
    ∙ ap (λ l. e ∷ l) h
same_test g under place e false xs ys is h = h

no_test : (g : GivenClause) (b : Bool) (xs : List GivenClause)
    → condition_in g.clause ≡ None
    → filter_map (λ (h : GivenClause). condition_in h.clause) (cond b (g ∷ xs) xs)
    ≡ filter_map (λ (h : GivenClause). condition_in h.clause) xs
no_test g true xs is =
    ap (λ o. cons_option o (filter_map (λ (k : GivenClause). condition_in k.clause) xs)) is
no_test g false xs is = refl

same_conditions : (gs : List GivenClause) (under : List Clause) (place : ℕ)
    → filter_map (λ (g : GivenClause). condition_in g.clause)
    (filter (is_earlier place under) gs)
    ≡ conditions_before (map clause_place under) place (given_conditions gs)
same_conditions [] under place = refl
same_conditions (g ∷ gs) under place =
    by (condition_in g.clause) refl (same_conditions gs under place)
  where
    by : (o : Option Expr) → condition_in g.clause ≡ o
        → filter_map (λ (h : GivenClause). condition_in h.clause)
        (filter (is_earlier place under) gs)
        ≡ conditions_before (map clause_place under) place (given_conditions gs)
        → filter_map (λ (h : GivenClause). condition_in h.clause)
        (filter (is_earlier place under) (g ∷ gs))
        ≡ conditions_before (map clause_place under) place (given_conditions (g ∷ gs))
    by None e rest =
        no_test g (is_earlier place under g) (filter (is_earlier place under) gs) e ∙ rest
        ∙ sym (ap (λ (o : Option Expr). conditions_before (map clause_place under) place
        (cons_option (option_map (λ (x : Expr). record {
          under = map clause_place g.under;
          place = clause_place g.clause;
          condition = x;
        }) o) (given_conditions gs))) e)
    by (Some x) e rest =
        same_test g under place x (is_earlier place under g) (filter (is_earlier place under) gs)
        (filter (is_before (map clause_place under) place) (given_conditions gs)) e rest
        ∙ sym (ap (λ (o : Option Expr). conditions_before (map clause_place under) place
        (cons_option (option_map (λ (y : Expr). record {
          under = map clause_place g.under;
          place = clause_place g.clause;
          condition = y;
        }) o) (given_conditions gs))) e)

pub same_referred : (gs : List GivenClause) (cs : List Clause) (c : Clause)
    → referred_by (given_conditions gs) cs c ≡ referred gs cs c
same_referred gs cs (clause.Otherwise place) =
    sym (same_conditions gs (before (clause.Otherwise place) cs) place)
same_referred gs cs (clause.From a b) = refl
same_referred gs cs (clause.To a b) = refl
same_referred gs cs (clause.When a b d) = refl
same_referred gs cs (clause.Provided a b) = refl
same_referred gs cs (clause.Any a b) = refl
same_referred gs cs (clause.Priority a b) = refl
same_referred gs cs (clause.Delay a b d) = refl

pub same_earlier : (gs : List GivenClause) (cs : List Clause)
    → flat_map (referred_by (given_conditions gs) cs) cs ≡ flat_map (referred gs cs) cs
same_earlier gs cs = λ i. flat_map (λ c. same_referred gs cs c i) cs
