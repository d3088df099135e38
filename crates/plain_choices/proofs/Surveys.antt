-- How a survey of firings grows.
use Rattle.std.proofs.Common.{◌≡◌, ◌⊎◌, refl, sym, subst, ◌∙◌, inl, inr, ℕ, Bool}
use Rattle.std.proofs.Common.{true, false, List, [], ◌∷◌, ◌++◌, Option, Some, None}
use Rattle.std.specs.Prelude.{if◌then◌else◌}
use Rattle.std.specs.List.{list_any}
use Rattle.std.specs.Option.{option_map, option_map_or}
use Rattle.est_syntax.specs.Least.{IsIn}
use Rattle.est_meaning.specs.mean_blocks.TextByPlace.{Text}
use Rattle.est_meaning.specs.mean_blocks.GlobalSituation.{Frame, Situation}
use Rattle.est_meaning.specs.declared.firing.Firing.{Firing}
use Rattle.est_meaning.specs.ClauseContexts.{when_of}
use Rattle.est_meaning.specs.TransitionChoices.{Choice, choice_of, is_choice}
use Rattle.est_meaning.specs.GuardParts.{Part, is_limit, is_from, asked, seen_by, frames_of}
use Rattle.est_meaning.specs.GuardParts.{subscripts}
use Rattle.est_meaning.specs.TransitionSelection.{passes_limit, IsSettled, is_offered}
use Rattle.est_meaning.specs.TransitionSelection.{holds_least, is_offered_choice}
use Rattle.est_meaning.specs.FiringOrder.{FiringBefore, IsAscending}
use Rattle.plain_choices.specs.declared.offers.Offer.{Offer}
use Rattle.plain_choices.specs.inside.InstanceOffers.{IsOffer, firings_of, IsSurvey}
use Rattle.plain_choices.proofs.Members.{in_snoc, in_front, in_last, firings_snoc}
use Rattle.plain_choices.proofs.Members.{ascending_snoc}

-- a firing has no choice, or the `from` of that does not hold
abbrev pub IsIdle : Text → Situation → Firing → Type 0
IsIdle t s f = (c : Choice) → choice_of t s f ≡ Some c → is_from t c ≡ false

-- a firing is not offered, and its guard passes no limit
abbrev pub IsQuiet : ℕ → Text → Situation → Firing → Type 0
IsQuiet limit t s f = (is_choice (passes_limit limit t s) t s f ≡ false)
    × (is_offered limit t s f ≡ false)

pub not_both : (b : Bool) → b ≡ true → b ≡ false → ⊥
not_both b p q = let n : true ≡ false = sym p ∙ q in cc

module _ (limit : ℕ) (t : Text) (s : Situation) where
  within_by : (c : Choice) (b : Bool) (o : Option (List Frame)) (xs : List Part) → b ≡ false
      → list_any is_limit ((if b then xs else []) ++ option_map_or (asked limit c.transition)
      (if b then option_map (seen_by t s c) o else None) []) ≡ false
  within_by c false o xs e = refl
  within_by c true o xs e = absurd (cc)

  within : (o : Option Choice) → ((c : Choice) → o ≡ Some c → is_from t c ≡ false)
      → option_map_or (passes_limit limit t s) o false ≡ false
  within None h = refl
  within (Some c) h = within_by c (is_from t c) (frames_of limit t s c (when_of c.transition))
      (subscripts limit t s c (when_of c.transition)) (h c refl)

  pub idle_within : (f : Firing) → IsIdle t s f → is_choice (passes_limit limit t s) t s f ≡ false
  idle_within f h = within (choice_of t s f) h

  unoffered_by : (c : Choice) (b : Bool) (o : Option (List Frame)) → b ≡ false
      → option_map_or (holds_least limit s c)
      (if b then option_map (seen_by t s c) o else None) false ≡ false
  unoffered_by c false o e = refl
  unoffered_by c true o e = absurd (cc)

  unoffered : (o : Option Choice) → ((c : Choice) → o ≡ Some c → is_from t c ≡ false)
      → option_map_or (is_offered_choice limit t s) o false ≡ false
  unoffered None h = refl
  unoffered (Some c) h = unoffered_by c (is_from t c) (frames_of limit t s c (when_of c.transition))
      (h c refl)

  pub idle_unoffered : (f : Firing) → IsIdle t s f → is_offered limit t s f ≡ false
  idle_unoffered f h = unoffered (choice_of t s f) h

  -- a choice whose guard passes its limit
  pub unsettled : (f : Firing) → is_choice (passes_limit limit t s) t s f ≡ true
      → IsSettled limit t s → ⊥
  unfolding IsSettled
  unsettled f h k = k f h

  module _ (P Q : Firing → Type 0) (os : List Offer) (v : IsSurvey limit t s P os)
      (up : (f : Firing) → P f → Q f) where
    -- of the others none has a choice whose `from` holds
    pub survey_skips : ((f : Firing) → Q f → P f ⊎ IsIdle t s f) → IsSurvey limit t s Q os
    survey_skips down = record {
      settled = λ f q. elim (down f q) [ inl p ↦ v.settled f p | inr i ↦ idle_within f i ];
      ascending = v.ascending;
      reached = λ f a. up f (v.reached f a);
      sound = v.sound;
      complete = λ f q e. elim (down f q) [
        | inl p ↦ v.complete f p e
        | inr i ↦ absurd (not_both (is_offered limit t s f) e (idle_unoffered f i))
      ];
    }

    -- of the others none is offered, and no guard of them passes its limit
    pub survey_stays : ((f : Firing) → Q f → P f ⊎ IsQuiet limit t s f) → IsSurvey limit t s Q os
    survey_stays down = record {
      settled = λ f q. elim (down f q) [ inl p ↦ v.settled f p | inr i ↦ i.0 ];
      ascending = v.ascending;
      reached = λ f a. up f (v.reached f a);
      sound = v.sound;
      complete = λ f q e. elim (down f q) [
        | inl p ↦ v.complete f p e
        | inr i ↦ absurd (not_both (is_offered limit t s f) e i.1)
      ];
    }

    -- there is one more, which is not offered
    pub survey_passes : (g : Firing) → ((f : Firing) → Q f → P f ⊎ (g ≡ f))
        → is_choice (passes_limit limit t s) t s g ≡ false → is_offered limit t s g ≡ false
        → IsSurvey limit t s Q os
    survey_passes g down w n = record {
      settled = λ f q. elim (down f q) [
        | inl p ↦ v.settled f p
        | inr e ↦ subst (λ x. is_choice (passes_limit limit t s) t s x ≡ false) e w
      ];
      ascending = v.ascending;
      reached = λ f a. up f (v.reached f a);
      sound = v.sound;
      complete = λ f q h. elim (down f q) [
        | inl p ↦ v.complete f p h
        | inr e ↦ absurd (not_both (is_offered limit t s f) h
            (subst (λ x. is_offered limit t s x ≡ false) e n))
      ];
    }

    -- there is one more, which is offered
    pub survey_takes : (g : Firing) (o : Offer) → ((f : Firing) → Q f → P f ⊎ (g ≡ f)) → Q g
        → ((f : Firing) → P f → FiringBefore f g)
        → is_choice (passes_limit limit t s) t s g ≡ false → o.firing ≡ g → IsOffer limit t s o
        → IsSurvey limit t s Q (os ++ o ∷ [])
    survey_takes g o down here lt w e is = record {
      settled = λ f q. elim (down f q) [
        | inl p ↦ v.settled f p
        | inr k ↦ subst (λ x. is_choice (passes_limit limit t s) t s x ≡ false) k w
      ];
      ascending = subst IsAscending (sym (firings_snoc os o)) (ascending_snoc o.firing
          (firings_of os) v.ascending (λ f a. subst (FiringBefore f) (sym e)
          (lt f (v.reached f a))));
      reached = λ f a. elim (in_snoc f o.firing (firings_of os)
          (subst (IsIn f) (firings_snoc os o) a)) [
            | inl b ↦ up f (v.reached f b)
            | inr k ↦ subst Q (sym e ∙ k) here
          ];
      sound = λ x a. elim (in_snoc x o os a) [
        | inl b ↦ v.sound x b
        | inr k ↦ subst (IsOffer limit t s) k is
      ];
      complete = λ f q h. elim (down f q) [
        | inl p ↦ (let k = v.complete f p h in (k.0, in_front k.0 os (o ∷ []) k.1, k.2))
        | inr k ↦ (o, in_last o os, e ∙ k)
      ];
    }
