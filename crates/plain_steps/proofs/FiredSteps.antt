-- How what comes of a firing follows from its parts.
use Rattle.std.proofs.Common.{◌≡◌, refl, sym, ap, subst, ◌∙◌, ℕ, nat_eq, Bool, true, false}
use Rattle.std.proofs.Common.{List, [], ◌∷◌, map, Option, Some, None, Result, Ok, Err}
use Rattle.std.proofs.lemmas.Bool.{eqb-true}
use Rattle.std.proofs.lemmas.Option.{none-some, same_Some}
use Rattle.std.specs.Prelude.{option_and_then, if◌then◌else◌, find}
use Rattle.std.specs.Option.{option_map, option_map_or}
use Rattle.est_meaning.specs.rule_scope.Outline.{Outline}
use Rattle.est_meaning.specs.mean_blocks.declared.fault.BlockFault.TheVariants.{Undefined}
use Rattle.est_meaning.specs.mean_blocks.declared.frame.Slot.{Slot}
use Rattle.est_meaning.specs.mean_blocks.declared.situation.Row.{Row}
use Rattle.est_meaning.specs.mean_blocks.declared.stop.Stop.{Stop}
use Rattle.est_meaning.specs.mean_blocks.declared.stop.Stop.TheVariants as stop
use Rattle.est_meaning.specs.mean_blocks.Outcome.{Done, Fault, on_ok}
use Rattle.est_meaning.specs.mean_blocks.AnswersOfCalls.{Says}
use Rattle.est_meaning.specs.mean_blocks.TextByPlace.{Text}
use Rattle.est_meaning.specs.mean_blocks.GlobalSituation.{Frame, Situation, is_numbered, row_of}
use Rattle.est_meaning.specs.mean_blocks.FunctionCalls.{unset, frame_of}
use Rattle.est_meaning.specs.mean_blocks.QueueEffects.{without_head}
use Rattle.est_meaning.specs.mean_blocks.KeepingLaws.{AreNumbered}
use Rattle.est_meaning.specs.mean_blocks.StartMeaning.{start_before}
use Rattle.est_meaning.proofs.of_mean_blocks.OrderlyStarts.{starts_are_orderly}
use Rattle.plain_frames.specs.plain_systems.declared.system.Working.{Working}
use Rattle.plain_frames.specs.plain_systems.HeldSystems.{situation_of}
use Rattle.est_meaning.specs.declared.firing.Firing.{Firing}
use Rattle.est_meaning.specs.ClauseContexts.{FullTransition, transitions_of}
use Rattle.est_meaning.specs.TransitionChoices.{Choice, numbered, any_tuples, any_frame, choice_by}
use Rattle.est_meaning.specs.TransitionChoices.{choice_in}
use Rattle.est_meaning.specs.GuardParts.{seen_by, view_of}
use Rattle.est_meaning.specs.DelayStamps.{restamped}
use Rattle.est_meaning.specs.OutsideEvents.{departures}
use Rattle.est_meaning.specs.FiringSteps.{taking_point}
use Rattle.est_meaning.specs.FiringSteps.{finished, fired_by, outcome, start_of}
use Rattle.est_meaning.proofs.Options.{map_some}
use Rattle.est_meaning.proofs.Steps.{firings_are_orderly}
use Rattle.plain_guards.specs.plain_transitions.declared.written.Written.{Written}
use Rattle.plain_guards.specs.plain_transitions.WrittenTransitions.{IsWritten}
use Rattle.plain_guards.specs.plain_clauses.declared.candidate.Candidate.{Candidate}
use Rattle.plain_guards.specs.plain_clauses.declared.sights.Sight.{Sight}
use Rattle.plain_guards.specs.plain_clauses.JudgedGuards.{IsOf, IsView, IsTaking, IsSight}
use Rattle.plain_starts.specs.declared.starting.Started.{Started}
use Rattle.plain_starts.specs.StartedSystems.{Starts}
use Rattle.plain_steps.specs.declared.step.Stepped.{Stepped}
use Rattle.plain_steps.specs.SteppedSystems.{Steps}
use Rattle.plain_steps.specs.inside.FiredChoices.{Begins, Leads}

-- BLOCKS

-- variables that are given nothing begin undefined
unset_frame : (o : Outline) (ps : List ℕ) → frame_of o ps [] ≡ Ok (map (unset o) ps)
unset_frame o [] = refl
unset_frame o (p ∷ ps) =
    ap (λ r. on_ok r (λ f. Ok (unset o p ∷ f))) (unset_frame o ps)

pub says_unset : (o : Outline) (ps qs : List ℕ) (xs : List Slot) (r : Result Frame Stop)
    → ps ≡ qs → xs ≡ [] → Says (frame_of o ps xs) r → Says (Ok (map (unset o) qs)) r
says_unset o ps qs xs r e g h = subst (λ x. Says x r)
    ((λ i. frame_of o (e i) (g i)) ∙ unset_frame o qs) h

-- WHAT A CHOICE SEES AND TAKES

view_holds : (limit : ℕ) (t : Text) (s : Situation) (c : Choice) (frames : List Frame)
    (x : Sight) → IsSight limit t s c frames x → x.holds ≡ true
    → view_of limit t s c ≡ Some (seen_by t s c frames)
view_holds limit t s c frames x h e = subst (IsView limit t s c frames) e h.view

taken_there : (limit : ℕ) (t : Text) (s : Situation) (c : Choice) (frames : List Frame)
    (x : Sight) → IsSight limit t s c frames x → x.holds ≡ true
    → x.taken ≡ taking_point limit t s c
taken_there limit t s c frames x h e = subst (IsTaking limit t s c x.taken) e h.taken

pub begins_there : (limit : ℕ) (t : Text) (s u : Situation) (c : Choice) (x : Sight)
    (w : Working) → IsSight limit t s c w.frames x → x.holds ≡ true → u ≡ s
    → situation_of w.system ≡ option_map_or (λ p. without_head t p u) x.taken u
    → Begins limit t s c (Ok tt) w
begins_there limit t s u c x w h e f g = (
  view_holds limit t s c w.frames x h e,
  g ∙ ap (λ v. option_map_or (λ p. without_head t p v) x.taken v) f
      ∙ ap (λ o. option_map_or (λ p. without_head t p s) o s)
      (taken_there limit t s c w.frames x h e),
)

-- CHOICES OF A TRANSITION

module _ (limit : ℕ) (t : Text) (s : Situation) (f : Firing) (r : Row) (x : FullTransition)
    (number : ℕ) where
  map_none : {A B : Type 0} (go : A → B) (o : Option A) → None ≡ option_map go o → o ≡ None
  map_none go None e = refl
  map_none go (Some a) e = absurd (none-some _ e)

  -- without the choice of this number
  pub choice_missing : (n : ℕ)
      → None ≡ option_map (any_frame t.outline x) (numbered (any_tuples t.outline x) number)
      → option_map_or (fired_by limit t s f) (choice_by t r n number x) (Fault Undefined)
      ≡ Fault Undefined
  choice_missing n e = ap (λ o. option_map_or (fired_by limit t s f) (option_map (λ zs. record {
    row = r;
    number = n;
    transition = x;
    chosen = any_frame t.outline x zs;
  }) o) (Fault Undefined)) (map_none (any_frame t.outline x) _ e)

  -- with it
  pub choice_there : (y : Candidate) (chosen : Frame) (result : Result (Unit {0}) Stop)
      (w : Working) → r.number ≡ y.instance → r.state ≡ y.state
      → IsWritten t.outline x y.transition.now
      → Some chosen ≡ option_map (any_frame t.outline x) (numbered (any_tuples t.outline x) number)
      → ((c : Choice) → IsOf t y chosen c
      → Leads t (restamped limit t (Some f)) (fired_by limit t s f c) result w)
      → Leads t (restamped limit t (Some f)) (option_map_or (fired_by limit t s f)
      (choice_by t r y.number number x) (Fault Undefined)) result w
  choice_there y chosen result w n e h g go =
      let a = map_some (any_frame t.outline x) (numbered (any_tuples t.outline x) number) chosen
      (sym g) in
      let c : Choice = record {
        row = r;
        number = y.number;
        transition = x;
        chosen = any_frame t.outline x a.0;
      } in
      subst (λ o. Leads t (restamped limit t (Some f)) (option_map_or (fired_by limit t s f)
      (option_map (λ zs. record {
        row = r;
        number = y.number;
        transition = x;
        chosen = any_frame t.outline x zs;
      }) o) (Fault Undefined)) result w) (sym a.1)
      (go c (record {
        instance = n;
        state = e;
        number = refl;
        transition = h;
        chosen_is = a.2;
      }))

-- FIRINGS

-- the row that is found has the number
found_number : (n : ℕ) (rs : List Row) (r : Row) → find (is_numbered n) rs ≡ Some r
    → r.number ≡ n
found_number n [] r e = absurd (none-some r e)
found_number n (q ∷ rs) r e = one (nat_eq n q.number) refl e (found_number n rs r)
  where
    one : (b : Bool) → nat_eq n q.number ≡ b
        → (if b then Some q else find (is_numbered n) rs) ≡ Some r
        → (find (is_numbered n) rs ≡ Some r → r.number ≡ n) → r.number ≡ n
    one true g k h = sym (eqb-true n q.number g ∙ ap (λ (y : Row). y.number) (same_Some q r k))
    one false g k h = h k

module _ (limit : ℕ) (t : Text) (s : Situation) (f : Firing) where
  pub row_missing : row_of s f.instance ≡ None → outcome limit t s f ≡ Fault Undefined
  unfolding outcome
  row_missing e = ap (λ o. option_map_or (fired_by limit t s f) (option_and_then (choice_in t f) o)
      (Fault Undefined)) e

  -- by the transition of the row that is found
  outcome_by : (r : Row) (o : Option FullTransition) → row_of s f.instance ≡ Some r
      → numbered (transitions_of t r.body) f.transition ≡ o
      → outcome limit t s f ≡ option_map_or (fired_by limit t s f)
      (option_and_then (choice_by t r f.transition f.choice) o) (Fault Undefined)
  unfolding outcome
  outcome_by r o e g =
      ap (λ p. option_map_or (fired_by limit t s f) (option_and_then (choice_in t f) p)
      (Fault Undefined)) e
      ∙ ap (λ p. option_map_or (fired_by limit t s f)
      (option_and_then (choice_by t r f.transition f.choice) p) (Fault Undefined)) g

  pub transition_missing : (r : Row) → row_of s f.instance ≡ Some r
      → numbered (transitions_of t r.body) f.transition ≡ None
      → outcome limit t s f ≡ Fault Undefined
  transition_missing r e g = outcome_by r None e g

  pub transition_there : (u : Text) (r : Row) (x : FullTransition) (y : Written)
      (result : Result (Unit {0}) Stop) (w : Working) → u ≡ t → row_of s f.instance ≡ Some r
      → numbered (transitions_of t r.body) f.transition ≡ Some x → IsWritten t.outline x y
      → (r.number ≡ f.instance → IsWritten u.outline x y → Leads u (restamped limit u (Some f))
      (option_map_or (fired_by limit u s f) (choice_by u r f.transition f.choice x)
      (Fault Undefined)) result w)
      → Leads t (restamped limit t (Some f)) (outcome limit t s f) result w
  transition_there u r x y result w same e g k h = subst
      (λ o. Leads t (restamped limit t (Some f)) o result w) (sym (outcome_by r (Some x) e g))
      (subst (λ v. Leads v (restamped limit v (Some f)) (option_map_or (fired_by limit v s f)
      (choice_by v r f.transition f.choice x) (Fault Undefined)) result w) same
      (h (found_number f.instance s.rows r e) (subst (λ v. IsWritten v.outline x y) (sym same) k)))

  -- the instances stand in ascending number after it
  pub numbered_after : (w : Working) → AreNumbered s
      → Leads t (restamped limit t (Some f)) (outcome limit t s f) (Ok tt) w
      → AreNumbered (situation_of w.system)
  numbered_after w h k = (firings_are_orderly.goes_over limit t s _ f _ k).numbers h

-- STARTS

pub start_stops : (limit : ℕ) (t : Text) (e : Stop) → Starts (start_before t limit) (Err e)
    → Steps (start_of limit t) (Err e)
unfolding start_of
start_stops limit t (stop.Fault f) h = ap (finished t (restamped limit t None)) h
start_stops limit t stop.Limit h = ap (finished t (restamped limit t None)) h
start_stops limit t (stop.Memory e) h = tt

pub start_done : (limit : ℕ) (t : Text) (y : Started) (x : Stepped)
    → Starts (start_before t limit) (Ok y) → x.outs ≡ departures t y.outs
    → situation_of x.system ≡ restamped limit t None (situation_of y.system)
    → Steps (start_of limit t) (Ok x)
unfolding start_of
start_done limit t y x h e g = ap (finished t (restamped limit t None)) h
    ∙ λ i. Done (sym e i) (sym g i)

pub numbered_start : (limit : ℕ) (t : Text) (y : Started) → Starts (start_before t limit) (Ok y)
    → AreNumbered (situation_of y.system)
numbered_start limit t y h = (starts_are_orderly t limit _ h).1
