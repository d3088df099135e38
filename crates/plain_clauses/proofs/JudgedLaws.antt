-- What clauses say together.
use Rattle.std.proofs.Common.{◌≡◌, refl, sym, ap, ◌∙◌, subst, ℕ, Bool, true, false, ◌||◌}
use Rattle.std.proofs.Common.{List, [], ◌∷◌, ◌++◌, Option, Some, None, append-nil}
use Rattle.std.proofs.lemmas.List.Folds.{list_any-append}
use Rattle.std.specs.Prelude.{option_and_then, if◌then◌else◌}
use Rattle.std.specs.List.{flat_map, list_any}
use Rattle.std.specs.Option.{option_map, option_map_or}
use Rattle.est_syntax.specs.declared.name.Used.{Used}
use Rattle.est_meaning.specs.rule_scope.Outline.{Outline}
use Rattle.est_meaning.specs.mean_blocks.declared.situation.InteractionPoint.{InteractionPoint}
use Rattle.est_meaning.specs.mean_blocks.TextByPlace.{Text}
use Rattle.est_meaning.specs.mean_blocks.GlobalSituation.{Frame, Situation}
use Rattle.est_meaning.specs.ClauseContexts.{from_of, when_of}
use Rattle.est_meaning.specs.TransitionChoices.{Choice}
use Rattle.est_meaning.specs.GuardParts.{is_from, is_limit, seen_by, subscripts, view_of}
use Rattle.est_meaning.specs.GuardParts.{states_named, fits_state, frames_of, awaited_point}
use Rattle.est_meaning.specs.GuardParts.{asked}
use Rattle.est_meaning.specs.TransitionSelection.{holds, holds_least, holds_most}
use Rattle.plain_transitions.specs.WrittenTransitions.{awaited_of}
use Rattle.plain_clauses.specs.JudgedGuards.{IsOf, IsView, IsTaking, IsSight, IsVerdict}
use Rattle.plain_clauses.specs.declared.candidate.Candidate.{Candidate}
use Rattle.plain_clauses.specs.declared.sights.Sight.{Sight}
use Rattle.plain_clauses.specs.declared.verdict.Verdict.{Verdict}
use Rattle.plain_clauses.specs.EvaluatedParts.{fits_places}
use Rattle.plain_clauses.specs.JudgedClauses.{IsBefore, AreFrames, IsPoint, IsArrival}
use Rattle.plain_clauses.specs.JudgedClauses.{IsJudged}

-- FROM

states_fit : (o : Outline) (from : Option (List Used)) (state : Option ℕ)
    → fits_places (option_map (λ us. flat_map (states_named o) us) from) state
    ≡ fits_state o from state
states_fit o None state = refl
states_fit o (Some us) None = refl
states_fit o (Some us) (Some state) = refl

from_is : (t : Text) (x : Candidate) (chosen : Frame) (c : Choice) → IsOf t x chosen c
    → fits_places x.transition.now.states x.state ≡ is_from t c
from_is t x chosen c h =
    (λ i. fits_places (h.transition.states i) (sym h.state i))
    ∙ states_fit t.outline (from_of c.transition) c.row.state

-- WHAT IS SEEN

module _ (limit : ℕ) (t : Text) (s : Situation) (x : Candidate) (chosen : Frame) (c : Choice)
    (of : IsOf t x chosen c) where
  pub before : (frames : List Frame) → frames ≡ chosen ∷ [] → IsBefore x.instance frames c
  before frames h = record {
    instance_is = of.instance;
    frames_are = ap (λ f. f ∷ []) of.chosen_is ∙ sym h;
  }

  -- where the `from` fails
  pub from_fails : (frames : List Frame) (y : Sight)
      → fits_places x.transition.now.states x.state ≡ false → y.holds ≡ false → y.passes ≡ false
      → IsSight limit t s c frames y
  from_fails frames y h k p =
      let f : is_from t c ≡ false = sym (from_is t x chosen c of) ∙ h in
      record {
        view = subst (IsView limit t s c frames) (sym k)
            (ap (λ b. if b then option_map (seen_by t s c)
            (frames_of limit t s c (when_of c.transition)) else None) f);
        taken = subst (IsTaking limit t s c y.taken) (sym k) tt;
        passes = p ∙ sym (ap (λ b. list_any is_limit
            (if b then subscripts limit t s c (when_of c.transition) else [])) f);
      }

  view_by : (frames : List Frame) (b : Bool) → is_from t c ≡ true
      → AreFrames (frames_of limit t s c (when_of c.transition)) frames b
      → IsView limit t s c frames b
  view_by frames true f h =
      ap (λ d. if d then option_map (seen_by t s c)
      (frames_of limit t s c (when_of c.transition)) else None) f
      ∙ ap (option_map (seen_by t s c)) h
  view_by frames false f h =
      ap (λ d. if d then option_map (seen_by t s c)
      (frames_of limit t s c (when_of c.transition)) else None) f
      ∙ ap (option_map (seen_by t s c)) h

  taken_by : (taken : Option InteractionPoint) (b : Bool)
      → IsPoint (option_and_then (awaited_point limit t s c) (when_of c.transition)) taken b
      → IsTaking limit t s c taken b
  taken_by taken true h = h
  taken_by taken false h = h

  sight_by : (frames : List Frame) (y : Sight) → is_from t c ≡ true
      → IsArrival limit t s c (when_of c.transition) frames y → IsSight limit t s c frames y
  sight_by frames y f h = record {
    view = view_by frames y.holds f h.frames_are;
    taken = taken_by y.taken y.holds h.point_is;
    passes = h.passes_is ∙ sym (ap (λ b. list_any is_limit
        (if b then subscripts limit t s c (when_of c.transition) else [])) f);
  }

  -- where it holds
  pub from_holds : (frames : List Frame) (y : Sight)
      → fits_places x.transition.now.states x.state ≡ true
      → IsArrival limit t s c (option_map awaited_of x.transition.now.awaits) frames y
      → IsSight limit t s c frames y
  from_holds frames y h k = sight_by frames y (sym (from_is t x chosen c of) ∙ h)
      (subst (λ w. IsArrival limit t s c w frames y) of.transition.awaits k)

-- WHAT IS JUDGED

-- THE WHOLE GUARD

module _ (limit : ℕ) (t : Text) (s : Situation) (c : Choice) (frames : List Frame) (y : Sight)
    (sight : IsSight limit t s c frames y) where
  -- where the `from` or the `when` fails
  pub verdict_fails : (v : Verdict) → y.holds ≡ false → v.passes ≡ y.passes → v.enabled ≡ false
      → v.offered ≡ false → v.due ≡ false → IsVerdict limit t s c v
  verdict_fails v h p a b d =
      let none : view_of limit t s c ≡ None = subst (IsView limit t s c frames) h sight.view in
      let subs = if is_from t c then subscripts limit t s c (when_of c.transition) else [] in
      record {
        passes = p ∙ sight.passes ∙ sym (ap (list_any is_limit)
            (ap (λ o. subs ++ option_map_or (asked limit c.transition) o []) none
            ∙ append-nil subs));
        enabled = a ∙ sym (ap (λ o. option_map_or (holds limit c) o false) none);
        offered = b ∙ sym (ap (λ o. option_map_or (holds_least limit s c) o false) none);
        due = d ∙ sym (ap (λ o. option_map_or (holds_most limit s c) o false) none);
      }

  -- where both hold
  pub verdict_holds : (v : Verdict) → y.holds ≡ true
      → IsJudged limit s c (seen_by t s c frames) y.passes v → IsVerdict limit t s c v
  verdict_holds v h j =
      let some : view_of limit t s c ≡ Some (seen_by t s c frames) =
      subst (IsView limit t s c frames) h sight.view in
      let subs = if is_from t c then subscripts limit t s c (when_of c.transition) else [] in
      let more = asked limit c.transition (seen_by t s c frames) in
      record {
        passes = j.passes_is ∙ ap (λ b. b || list_any is_limit more) sight.passes
            ∙ sym (list_any-append is_limit subs more)
            ∙ sym (ap (λ o. list_any is_limit
            (subs ++ option_map_or (asked limit c.transition) o [])) some);
        enabled = j.enabled_is ∙ sym (ap (λ o. option_map_or (holds limit c) o false) some);
        offered = j.offered_is
            ∙ sym (ap (λ o. option_map_or (holds_least limit s c) o false) some);
        due = j.due_is ∙ sym (ap (λ o. option_map_or (holds_most limit s c) o false) some);
      }
