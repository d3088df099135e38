-- The same tokens have the same tree, and the same refusal.
use Rattle.std.proofs.Common.{◌≡◌, ℕ, zero, suc, ◌<◌, List, [], ◌∷◌, length, take, Some}
use Rattle.std.proofs.Common.{Ok, Err, slice_get, ap, sym, subst, refl, ◌∙◌, arith}
use Rattle.est_lexer.specs.declared.kind.Token.{Token}
use Rattle.est_syntax.specs.declared.specification.Spec.{Spec}
use Rattle.text_reader.specs.Grammar.{rule}
use Rattle.text_reader.specs.Refusals.{Cause, wrong_at, too_deep_at}
use Rattle.text_reader.specs.SeenAlike.{AreSeenAlike}
use Rattle.text_reader.proofs.SameTokens.{same_trees, same_causes, refusals_stay}
use Rattle.text_reader.specs.Going.{Shape}
use Rattle.text_reader.specs.SameTokens.{AreSameTokens}
use Rattle.text_reader.proofs.SameViews.{seen_alike, same_length}
use Rattle.text_productions.specs.Productions.{specification, production}
use Rattle.est_grammar.specs.Answer.{levels, estelle_in, HasTree, HasOneTree}
use Rattle.est_grammar.specs.Answer.{Says, left_out_kind, is_left_out}
use Rattle.est_check.specs.declared.specification_error.SpecificationError.{SpecificationError}
use Rattle.est_check.specs.declared.specification_error.SpecificationError.TheVariants as errors
use Rattle.est_check.specs.SpecificationText.{IsNoSpecification}
use Rattle.est_check.specs.Layout.{LayoutMeansNothing, RefusalsStay}

back : (text other : List ℕ) (ts us : List Token) → AreSameTokens text other ts us
    → AreSameTokens other text us ts
back text other [] [] w = tt
back text other (t ∷ ts) (u ∷ us) w = (
  record {
    kind = sym w.0.kind;
    kept = sym w.0.kept;
  },
  back text other ts us w.1,
)
back text other [] (u ∷ us) w = elim w [ ]
back text other (t ∷ ts) [] w = elim w [ ]

all_taken : (ts : List Token) → take (length ts) ts ≡ ts
all_taken [] = refl
all_taken (t ∷ ts) = ap (λ l. t ∷ l) (all_taken ts)

-- to the end of both
whole : (text other : List ℕ) (ts us : List Token) → AreSameTokens text other ts us
    → AreSameTokens text other (take (length ts) ts) (take (length ts) us)
whole text other ts us w =
    subst (λ l. AreSameTokens text other l (take (length ts) us)) (sym (all_taken ts))
    (subst (λ l. AreSameTokens text other ts l)
    (sym (ap (λ n. take n us) (same_length text other ts us w) ∙ all_taken us)) w)

all_alike : (text other : List ℕ) (ts us : List Token) → AreSameTokens text other ts us
    → AreSeenAlike (estelle_in text) (estelle_in other) ts us (length ts)
all_alike text other ts us w = seen_alike production text other ts us (length ts)
    (whole text other ts us w)

tree_of_both : (text other : List ℕ) (ts us : List Token) (t : Shape)
    → AreSameTokens text other ts us → HasTree text ts t → HasTree other us t
tree_of_both text other ts us t w h =
    same_trees (estelle_in text) (estelle_in other) (rule specification) levels ts us t
    (same_length text other ts us w) (all_alike text other ts us w) h

one_tree_of_both : (text other : List ℕ) (ts us : List Token) (spec : Spec)
    → AreSameTokens text other ts us → HasOneTree text ts spec → HasOneTree other us spec
one_tree_of_both text other ts us spec w h = record {
  shape = h.shape;
  tree = tree_of_both text other ts us h.shape w h.tree;
  shows = h.shows;
  only_tree = λ t x. h.only_tree t (tree_of_both other text us ts t (back text other ts us w) x);
  only_value = λ s x. h.only_value s
      (x.0, tree_of_both other text us ts x.0 (back text other ts us w) x.1, x.2);
}

cause_of_both : (text other : List ℕ) (ts us : List Token) (c : Cause)
    → AreSameTokens text other ts us → Says text ts c → Says other us c
cause_of_both text other ts us c w h =
    same_causes (estelle_in text) (estelle_in other) (rule specification) levels ts us c
    (same_length text other ts us w) (all_alike text other ts us w) h

-- a token that is left out is so in both
left_out_in_both : (text other : List ℕ) (ts us : List Token) (n i : ℕ) → i < n
    → AreSameTokens text other (take n ts) (take n us)
    → is_left_out (slice_get ts i) ≡ is_left_out (slice_get us i)
left_out_in_both text other [] [] n i l w = refl
left_out_in_both text other ts us zero i l w = absurd (omega (arith, l))
left_out_in_both text other [] (u ∷ us) (suc n) i l w = elim w [ ]
left_out_in_both text other (t ∷ ts) [] (suc n) i l w = elim w [ ]
left_out_in_both text other (t ∷ ts) (u ∷ us) (suc n) zero l w = ap left_out_kind w.0.kind
left_out_in_both text other (t ∷ ts) (u ∷ us) (suc n) (suc i) l w = left_out_in_both text other ts
    us n i (omega (arith, l)) w.1

left_out_of_all : (text other : List ℕ) (ts us : List Token) (i : ℕ)
    → AreSameTokens text other ts us → is_left_out (slice_get ts i) ≡ is_left_out (slice_get us i)
left_out_of_all text other [] [] i w = refl
left_out_of_all text other [] (u ∷ us) i w = elim w [ ]
left_out_of_all text other (t ∷ ts) [] i w = elim w [ ]
left_out_of_all text other (t ∷ ts) (u ∷ us) zero w = ap left_out_kind w.0.kind
left_out_of_all text other (t ∷ ts) (u ∷ us) (suc i) w = left_out_of_all text other ts us i w.1

refusal_of_both : (text other : List ℕ) (ts us : List Token) (e : SpecificationError)
    → AreSameTokens text other ts us → IsNoSpecification text ts e → IsNoSpecification other us e
refusal_of_both text other ts us (errors.BadToken place) w h = (
  cause_of_both text other ts us (wrong_at place) w h.0,
  sym (left_out_of_all text other ts us
      place w) ∙ h.1,
)
refusal_of_both text other ts us (errors.LeftOut place) w h = (
  cause_of_both text other ts us (wrong_at place) w h.0,
  sym (left_out_of_all text other ts us
      place w) ∙ h.1,
)
refusal_of_both text other ts us (errors.TooDeep place) w h = cause_of_both text other ts us
    (too_deep_at place) w h
refusal_of_both text other ts us (errors.BrokenRule place r) w h =
    (h.0, one_tree_of_both text other ts us h.0 w h.1, h.2)
refusal_of_both text other ts us (errors.Memory error) w h = h

pub layout_means_nothing : LayoutMeansNothing
layout_means_nothing text other ts us (Ok spec) w h = record {
  tree = one_tree_of_both text other ts us spec w h.tree;
  good = h.good;
}
layout_means_nothing text other ts us (Err e) w h = refusal_of_both text other ts us e w h

-- a list that is the same up to a token has it
is_there : (text other : List ℕ) (ts us : List Token) (i : ℕ) → i < length ts
    → AreSameTokens text other (take (suc i) ts) (take (suc i) us) → i < length us
is_there text other [] us i l w = absurd (omega (arith, l))
is_there text other (t ∷ ts) [] i l w = elim w [ ]
is_there text other (t ∷ ts) (u ∷ us) zero l w = omega arith
is_there text other (t ∷ ts) (u ∷ us) (suc i) l w =
    omega (arith, is_there text other ts us i (omega (arith, l)) w.1)

cause_stays : (text other : List ℕ) (ts us : List Token) (i : ℕ) → i < length ts
    → AreSameTokens text other (take (suc i) ts) (take (suc i) us) → (Says text ts (wrong_at i)
    → Says other us (wrong_at i)) × (Says text ts (too_deep_at i) → Says other us (too_deep_at i))
cause_stays text other ts us i l w =
    refusals_stay (estelle_in text) (estelle_in other) (rule specification) levels ts us i l
    (is_there text other ts us i l w)
    (seen_alike production text other ts us (suc i) w)

same_place : (i j : ℕ) → Some i ≡ Some j → j ≡ i
same_place i j e = cc

pub stays : RefusalsStay
stays text other ts us (errors.BadToken i) j e l w h =
    let q = same_place i j e in
    let v = subst (λ n. AreSameTokens text other (take (suc n) ts) (take (suc n) us)) q w in
    let k = subst (λ n. n < length ts) q l in (
      (cause_stays text other ts us i k v).0 h.0,
      sym (left_out_in_both text other ts us (suc i) i
          (omega arith) v) ∙ h.1,
    )
stays text other ts us (errors.LeftOut i) j e l w h =
    let q = same_place i j e in
    let v = subst (λ n. AreSameTokens text other (take (suc n) ts) (take (suc n) us)) q w in
    let k = subst (λ n. n < length ts) q l in (
      (cause_stays text other ts us i k v).0 h.0,
      sym (left_out_in_both text other ts us (suc i) i
          (omega arith) v) ∙ h.1,
    )
stays text other ts us (errors.TooDeep i) j e l w h =
    let q = same_place i j e in
    (cause_stays text other ts us i (subst (λ n. n < length ts) q l)
    (subst (λ n. AreSameTokens text other (take (suc n) ts) (take (suc n) us)) q w)).1 h
stays text other ts us (errors.BrokenRule place r) j e l w h = absurd cc
stays text other ts us (errors.Memory error) j e l w h = absurd cc
