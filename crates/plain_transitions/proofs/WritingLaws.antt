-- Transitions that are written out one after the other.
use Rattle.std.proofs.Common.{◌≡◌, refl, sym, ap, subst, ◌∙◌, ℕ, ◌+◌, ◌<◌, List, [], ◌∷◌, ◌++◌}
use Rattle.std.proofs.Common.{append_assoc, length, get_or, take, Some, None}
use Rattle.std.proofs.lemmas.List.{append-nil, take_more}
use Rattle.std.specs.Prelude.{option_and_then, unwrap_or}
use Rattle.std.specs.List.{AllZip, flat_map}
use Rattle.std.proofs.lemmas.List.Concat.{flat_map-append}
use Rattle.est_syntax.specs.declared.body.Block.{Block}
use Rattle.est_syntax.specs.declared.expression.Expr.{Expr}
use Rattle.est_syntax.specs.declared.transition.Clause.{Clause}
use Rattle.est_syntax.specs.declared.transition.Clause.TheVariants as clause
use Rattle.est_syntax.specs.declared.transition.Group.{Group, out-Group}
use Rattle.est_syntax.specs.declared.transition.Transition.{Transition, out-Transition}
use Rattle.est_meaning.specs.rule_scope.Outline.{Outline}
use Rattle.est_meaning.specs.ClauseContexts.{GivenClause, FullTransition, context_after, given_by}
use Rattle.est_meaning.specs.ClauseContexts.{given_after, full, full_after, clauses_of}
use Rattle.est_meaning.specs.ClauseContexts.{condition_in, provided_in, group_transitions}
use Rattle.est_meaning.specs.ClauseContexts as guard
use Rattle.plain_transitions.specs.declared.written.Written.{Written}
use Rattle.plain_transitions.specs.WrittenTransitions.{IsWritten}
use Rattle.plain_transitions.specs.inside.HeldClauses.{Condition, given_conditions, written_of}
use Rattle.plain_transitions.specs.inside.HeldClauses.{ruling_in, referred_by}
use Rattle.plain_transitions.specs.inside.AddedTransitions.{written_after, AreAdded, provided_by}
use Rattle.plain_transitions.proofs.ContextLaws.{context_more, same_earlier}

-- WHAT IS PROVIDED

ruled : (es : List Expr) (cs : List Clause)
    → given_by (provided_in es) cs ≡ option_and_then (provided_in es) (given_by ruling_in cs)
ruled es [] = refl
ruled es (clause.Provided e p ∷ cs) = refl
ruled es (clause.Otherwise p ∷ cs) = refl
ruled es (clause.From a b ∷ cs) = ruled es cs
ruled es (clause.To a b ∷ cs) = ruled es cs
ruled es (clause.When a b d ∷ cs) = ruled es cs
ruled es (clause.Any a b ∷ cs) = ruled es cs
ruled es (clause.Priority a b ∷ cs) = ruled es cs
ruled es (clause.Delay a b d ∷ cs) = ruled es cs

is_ruling : (cs : List Clause) (r : Clause) → given_by ruling_in cs ≡ Some r
    → ruling_in r ≡ Some r
is_ruling [] r h = absurd (cc)
is_ruling (clause.Provided e p ∷ cs) r h =
    let same : clause.Provided e p ≡ r = cc in ap ruling_in (sym same) ∙ ap Some same
is_ruling (clause.Otherwise p ∷ cs) r h =
    let same : clause.Otherwise p ≡ r = cc in ap ruling_in (sym same) ∙ ap Some same
is_ruling (clause.From a b ∷ cs) r h = is_ruling cs r h
is_ruling (clause.To a b ∷ cs) r h = is_ruling cs r h
is_ruling (clause.When a b d ∷ cs) r h = is_ruling cs r h
is_ruling (clause.Any a b ∷ cs) r h = is_ruling cs r h
is_ruling (clause.Priority a b ∷ cs) r h = is_ruling cs r h
is_ruling (clause.Delay a b d ∷ cs) r h = is_ruling cs r h

condition_ruled : (es : List Expr) (r : Clause) (e : Expr) → condition_in r ≡ Some e
    → provided_in es r ≡ Some (guard.Provided e)
condition_ruled es (clause.Provided x p) e h =
    let same : x ≡ e = cc in ap (λ y. Some (guard.Provided y)) same
condition_ruled es (clause.Otherwise p) e h = absurd (cc)
condition_ruled es (clause.From a b) e h = absurd (cc)
condition_ruled es (clause.To a b) e h = absurd (cc)
condition_ruled es (clause.When a b d) e h = absurd (cc)
condition_ruled es (clause.Any a b) e h = absurd (cc)
condition_ruled es (clause.Priority a b) e h = absurd (cc)
condition_ruled es (clause.Delay a b d) e h = absurd (cc)

otherwise_ruled : (es : List Expr) (r : Clause) → ruling_in r ≡ Some r → condition_in r ≡ None
    → provided_in es r ≡ Some (guard.Otherwise es)
otherwise_ruled es (clause.Provided x p) i h = absurd (cc)
otherwise_ruled es (clause.Otherwise p) i h = refl
otherwise_ruled es (clause.From a b) i h = absurd (cc)
otherwise_ruled es (clause.To a b) i h = absurd (cc)
otherwise_ruled es (clause.When a b d) i h = absurd (cc)
otherwise_ruled es (clause.Any a b) i h = absurd (cc)
otherwise_ruled es (clause.Priority a b) i h = absurd (cc)
otherwise_ruled es (clause.Delay a b d) i h = absurd (cc)

pub provides_always : (gs : List Condition) (cs : List Clause)
    → given_by ruling_in cs ≡ None → guard.Always ≡ provided_by gs cs
provides_always gs cs h =
    let es : List Expr = flat_map (referred_by gs cs) cs in
    sym (ap (λ o. unwrap_or o guard.Always) (ruled es cs ∙ ap (option_and_then (provided_in es)) h))

pub provides_condition : (gs : List Condition) (cs : List Clause) (r : Clause) (e : Expr)
    → given_by ruling_in cs ≡ Some r → condition_in r ≡ Some e
    → guard.Provided e ≡ provided_by gs cs
provides_condition gs cs r e h k =
    let es : List Expr = flat_map (referred_by gs cs) cs in
    sym (ap (λ o. unwrap_or o guard.Always) (ruled es cs
    ∙ ap (option_and_then (provided_in es)) h ∙ condition_ruled es r e k))

pub provides_otherwise : (gs : List Condition) (cs : List Clause) (r : Clause) (es : List Expr)
    → given_by ruling_in cs ≡ Some r → condition_in r ≡ None
    → es ≡ flat_map (referred_by gs cs) cs → guard.Otherwise es ≡ provided_by gs cs
provides_otherwise gs cs r es h k is =
    let all : List Expr = flat_map (referred_by gs cs) cs in
    ap guard.Otherwise is
    ∙ sym (ap (λ o. unwrap_or o guard.Always) (ruled all cs
    ∙ ap (option_and_then (provided_in all)) h
    ∙ otherwise_ruled all r (is_ruling cs r h) k))

-- MORE TRANSITIONS

pub none_added : (o : Outline) (ws : List Written) → AreAdded o [] ws ws
none_added o ws = record {
  are = λ done h. subst (λ l. AllZip (IsWritten o) l ws) (sym (append-nil done)) h;
}

pub both_added : (o : Outline) (xs ys : List FullTransition) (a b c : List Written)
    → AreAdded o xs a b → AreAdded o ys b c → AreAdded o (xs ++ ys) a c
both_added o xs ys a b c h k = record {
  are = λ done are. subst (λ l. AllZip (IsWritten o) l c) (append_assoc done xs ys)
      (k.are (done ++ xs) (h.are done are));
}

zip_push : {A B : Type 0} (R : A → B → Type 0) (xs : List A) (ys : List B) (x : A) (y : B)
    → AllZip R xs ys → R x y → AllZip R (xs ++ x ∷ []) (ys ++ y ∷ [])
zip_push R [] [] x y h r = (r, tt)
zip_push R [] (b ∷ ys) x y h r = absurd h
zip_push R (a ∷ xs) [] x y h r = absurd h
zip_push R (a ∷ xs) (b ∷ ys) x y h r = (h.0, zip_push R xs ys x y h.1 r)

pub one_added : (o : Outline) (x : FullTransition) (w : Written) (old new : List Written)
    → IsWritten o x w → new ≡ old ++ w ∷ [] → AreAdded o (x ∷ []) old new
one_added o x w old new h e = record {
  are = λ done are. subst (λ l. AllZip (IsWritten o) (done ++ x ∷ []) l) (sym e)
      (zip_push (IsWritten o) done old x w are h);
}

written_more : (gs : List Condition) (cs : List Clause) (xs ys : List Transition)
    → written_after gs cs (xs ++ ys)
    ≡ written_after gs cs xs ++ written_after gs (context_after cs (clauses_of xs)) ys
written_more gs cs [] ys = refl
written_more gs cs (x ∷ xs) ys =
    let ds : List Clause = context_after cs (out-Transition x).clauses in
    ap (λ l. written_of gs ds (out-Transition x).block ∷ l) (written_more gs ds xs ys
    ∙ ap (λ es. written_after gs ds xs ++ written_after gs es ys)
    (sym (context_more cs (out-Transition x).clauses (clauses_of xs))))

clauses_last : (xs : List Transition) (x : Transition)
    → clauses_of (xs ++ x ∷ []) ≡ clauses_of xs ++ (out-Transition x).clauses
clauses_last xs x =
    flat_map-append (λ (y : Transition). (out-Transition y).clauses) xs (x ∷ [])
    ∙ ap (λ l. clauses_of xs ++ l) (append-nil (out-Transition x).clauses)

-- a transition more of a list
pub context_next : (cs now next : List Clause) (xs : List Transition) (i : ℕ) (x : Transition)
    → i < length xs → x ≡ get_or xs i x → now ≡ context_after cs (clauses_of (take i xs))
    → next ≡ context_after now (out-Transition x).clauses
    → next ≡ context_after cs (clauses_of (take (i + 1) xs))
context_next cs now next xs i x within is h k =
    k ∙ ap (λ l. context_after l (out-Transition x).clauses) h
    ∙ sym (context_more cs (clauses_of (take i xs)) (out-Transition x).clauses)
    ∙ ap (context_after cs) (sym (ap clauses_of (take_more xs i x within
    ∙ ap (λ y. take i xs ++ y ∷ []) (sym is)) ∙ clauses_last (take i xs) x))

pub added_next : (o : Outline) (gs : List Condition) (cs now : List Clause) (xs : List Transition)
    (i : ℕ) (x : Transition) (a b c : List Written) → i < length xs → x ≡ get_or xs i x
    → now ≡ context_after cs (clauses_of (take i xs))
    → AreAdded o (written_after gs cs (take i xs)) a b
    → AreAdded o (written_after gs now (x ∷ [])) b c
    → AreAdded o (written_after gs cs (take (i + 1) xs)) a c
added_next o gs cs now xs i x a b c within is h before here =
    subst (λ l. AreAdded o l a c)
    (sym (ap (written_after gs cs) (take_more xs i x within
    ∙ ap (λ y. take i xs ++ y ∷ []) (sym is))
    ∙ written_more gs cs (take i xs) (x ∷ [])))
    (both_added o (written_after gs cs (take i xs))
    (written_after gs (context_after cs (clauses_of (take i xs))) (x ∷ [])) a b c before
    (subst (λ ds. AreAdded o (written_after gs ds (x ∷ [])) b c) h here))

pub added_more : (o : Outline) (gs : List Group) (i : ℕ) (g : Group) (a b c : List Written)
    → i < length gs → g ≡ get_or gs i g → AreAdded o (flat_map group_transitions (take i gs)) a b
    → AreAdded o (group_transitions g) b c
    → AreAdded o (flat_map group_transitions (take (i + 1) gs)) a c
added_more o gs i g a b c within is before here =
    let last : flat_map group_transitions (take (i + 1) gs)
    ≡ flat_map group_transitions (take i gs) ++ group_transitions g =
    ap (flat_map group_transitions) (take_more gs i g within
    ∙ ap (λ y. take i gs ++ y ∷ []) (sym is))
    ∙ flat_map-append group_transitions (take i gs) (g ∷ [])
    ∙ ap (λ l. flat_map group_transitions (take i gs) ++ l) (append-nil (group_transitions g))
    in subst (λ l. AreAdded o l a c) (sym last)
    (both_added o (flat_map group_transitions (take i gs)) (group_transitions g) a b c before here)

-- THE SAME TRANSITIONS

same_full : (gs : List GivenClause) (cs : List Clause) (b : Block)
    → written_of (given_conditions gs) cs b ≡ full gs cs b
same_full gs cs b = ap (λ es. record { clauses = cs; earlier = es; block = b }) (same_earlier gs cs)

pub same_after : (gs : List GivenClause) (cs : List Clause) (xs : List Transition)
    → written_after (given_conditions gs) cs xs ≡ full_after gs cs xs
same_after gs cs [] = refl
same_after gs cs (x ∷ xs) =
    let ds : List Clause = context_after cs (out-Transition x).clauses in
    λ i. same_full gs ds (out-Transition x).block i ∷ same_after gs ds xs i

pub group_added : (o : Outline) (g : Group) (gs : List Condition) (cs : List Clause)
    (xs : List Transition) (old new : List Written) → xs ≡ (out-Group g).transitions
    → gs ≡ given_conditions (given_after [] (clauses_of xs)) → cs ≡ []
    → AreAdded o (written_after gs cs xs) old new → AreAdded o (group_transitions g) old new
group_added o g gs cs xs old new is given none h =
    subst (λ l. AreAdded o l old new) (ap (λ l. written_after l cs xs) given
    ∙ ap (λ l. written_after (given_conditions (given_after [] (clauses_of xs))) l xs) none
    ∙ same_after (given_after [] (clauses_of xs)) [] xs
    ∙ ap (λ l. full_after (given_after [] (clauses_of l)) [] l) is) h
