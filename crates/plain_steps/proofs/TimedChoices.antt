-- Whether the first choice of a transition waits.
use Rattle.std.proofs.Common.{◌≡◌, refl, sym, ap, ◌∙◌, ℕ, true, false, ◌&&◌, is_some}
use Rattle.std.proofs.Common.{Option, Some, None}
use Rattle.std.specs.Prelude.{ℤ, List}
use Rattle.std.specs.Option.{option_map, option_map_or}
use Rattle.est_meaning.specs.mean_blocks.declared.situation.Row.{Row}
use Rattle.est_meaning.specs.mean_blocks.TextByPlace.{Text}
use Rattle.est_meaning.specs.mean_blocks.GlobalSituation.{Frame, Situation}
use Rattle.est_meaning.specs.ClauseContexts.{FullTransition, delay_of}
use Rattle.est_meaning.specs.TransitionChoices.{Choice, numbered, any_tuples, any_frame, choice_by}
use Rattle.est_meaning.specs.TransitionSelection.{is_enabled_choice}
use Rattle.est_meaning.specs.DelayStamps.{is_waiting}
use Rattle.est_meaning.proofs.Options.{map_some}
use Rattle.plain_guards.specs.plain_transitions.WrittenTransitions.{IsWritten, bounds_of}
use Rattle.plain_guards.specs.plain_clauses.declared.candidate.Candidate.{Candidate}
use Rattle.plain_guards.specs.plain_clauses.declared.verdict.Verdict.{Verdict}
use Rattle.plain_guards.specs.plain_clauses.JudgedGuards.{IsOf, IsVerdict}

some_mapped : {A B : Type 0} (go : A → B) (o : Option A) → is_some (option_map go o) ≡ is_some o
some_mapped go None = refl
some_mapped go (Some a) = refl

module _ (limit : ℕ) (t : Text) (s : Situation) (r : Row) (x : FullTransition) (y : Candidate)
    (h : IsWritten t.outline x y.transition.now) where
  -- whether it has a delay
  delayed : is_some (delay_of x) ≡ is_some y.transition.now.delay
  delayed = ap is_some (sym h.delay) ∙ some_mapped bounds_of y.transition.now.delay

  abbrev chosen_by : List ℤ → Choice
  chosen_by zs = record {
    row = r;
    number = y.number;
    transition = x;
    chosen = any_frame t.outline x zs;
  }

  -- with both
  pub waits_by : (chosen : Frame) (v : Verdict) → r.number ≡ y.instance → r.state ≡ y.state
      → is_some y.transition.now.delay ≡ true
      → Some chosen ≡ option_map (any_frame t.outline x) (numbered (any_tuples t.outline x) 1)
      → ((c : Choice) → IsOf t y chosen c → IsVerdict limit t s c v)
      → v.enabled ≡ option_map_or (is_waiting limit t s) (choice_by t r y.number 1 x) false
  waits_by chosen v n e d g judged =
      let a = map_some (any_frame t.outline x) (numbered (any_tuples t.outline x) 1) chosen
      (sym g) in
      let c = chosen_by a.0 in
      (judged c (record {
        instance = n;
        state = e;
        number = refl;
        transition = h;
        chosen_is = a.2;
      })).enabled
      ∙ sym (ap (λ o. option_map_or (is_waiting limit t s) (option_map chosen_by o) false) a.1
      ∙ ap (λ b. b && is_enabled_choice limit t s c) (delayed ∙ d))
