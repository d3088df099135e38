-- A stamp stands exactly where a transition with a delay is enabled.
use Rattle.std.proofs.Common.{◌≡◌, refl, sym, ◌∙◌, ap, ℕ, ℤ, Bool, true, false, List, [], ◌∷◌}
use Rattle.std.proofs.Common.{Option, Some, None, ◌&&◌, is_some}
use Rattle.std.specs.Prelude.{if◌then◌else◌, option_and_then, option_to_list, find, slice_get}
use Rattle.std.specs.Prelude.{unwrap_or}
use Rattle.std.specs.List.{list_all}
use Rattle.std.specs.Option.{option_map, option_map_or}
use Rattle.est_syntax.specs.declared.expression.Expr.{Expr}
use Rattle.est_syntax.specs.declared.kind.Kind.{Kind}
use Rattle.mean_blocks.specs.declared.situation.Row.{Row}
use Rattle.mean_blocks.specs.Outcome.{◌>>=◌, lift}
use Rattle.mean_blocks.specs.TakenValues.{within_kind}
use Rattle.mean_blocks.specs.TextByPlace.{Text}
use Rattle.mean_blocks.specs.GlobalSituation.{Frame, Situation, Clocked, row_of}
use Rattle.mean_blocks.specs.NamesInRuns.{declared_at, dims_at}
use Rattle.mean_blocks.specs.ValueOperators.{ordinal}
use Rattle.mean_blocks.specs.ExpressionValues.{value_of}
use Rattle.mean_blocks.specs.InstancePoints.{point}
use Rattle.mean_blocks.specs.QueueEffects.{queue_of}
use Rattle.mean_blocks.specs.BlockLevels.{most_levels}
use Rattle.mean_blocks.specs.KeepingLaws.{GoesOver}
use Rattle.mean_blocks.proofs.BlindFunctions.{values_see_rows}
use Rattle.mean_blocks.proofs.NumbersAscend.{situations_go_over}
use Rattle.est_meaning.specs.declared.firing.Firing.{Firing}
use Rattle.est_meaning.specs.ClauseContexts.{FullTransition, transitions_of, Awaited, Delay}
use Rattle.est_meaning.specs.ClauseContexts.{Condition, Always, Provided, Otherwise, when_of}
use Rattle.est_meaning.specs.ClauseContexts.{delay_of, condition_of}
use Rattle.est_meaning.specs.TransitionChoices.{Choice, choice_by, choice_in, choice_of}
use Rattle.est_meaning.specs.TransitionChoices.{numbered, any_tuples, any_frame}
use Rattle.est_meaning.specs.GuardParts.{is_met, is_unmet, is_done, ordinals_by, seen_by}
use Rattle.est_meaning.specs.GuardParts.{is_from, subscripts_of, awaited_point, came_through}
use Rattle.est_meaning.specs.GuardParts.{awaited_item, parameters_of, frames_of, is_provided}
use Rattle.est_meaning.specs.GuardParts.{bounds_in, has_bounds}
use Rattle.est_meaning.specs.TransitionSelection.{holds, is_enabled_choice}
use Rattle.est_meaning.specs.DelayStamps.{first_choice, is_waiting, is_timed, since, restamped}
use Rattle.est_meaning.specs.OutsideEvents.{after_event}
use Rattle.est_meaning.specs.FiringSteps.{with_next_state}
use Rattle.est_meaning.specs.SelectionLaws.{LeavesInstances, DelaysAwaitNothing, HasStamps}
use Rattle.est_meaning.specs.SelectionLaws.{StampsStandWhereEnabled}
use Rattle.est_meaning.proofs.Outside.{events_are_outside}
use Rattle.est_meaning.proofs.Steps.{firing_leads, start_leads}

-- GUARDS

-- of two situations with the same rows
module _ (limit : ℕ) (t : Text) (s u : Situation) (c : Choice) (h : u.rows ≡ s.rows) where
  pub values_same : (e : Expr) (frames : List Frame)
      → value_of e (seen_by t u c frames) ≡ value_of e (seen_by t s c frames)
  values_same e frames = values_see_rows t c.row.number false most_levels s u frames e h

  condition_same : (y : Condition) (frames : List Frame)
      → is_provided limit y (seen_by t u c frames) ≡ is_provided limit y (seen_by t s c frames)
  condition_same Always frames = refl
  condition_same (Provided e) frames =
      λ i. is_met ((values_same e frames i >>= ordinal) limit)
  condition_same (Otherwise es) frames =
      λ i. list_all (λ e. is_unmet ((values_same e frames i >>= ordinal) limit)) es

  bounds_same : (d : Option Delay) (frames : List Frame)
      → has_bounds limit d (seen_by t u c frames) ≡ has_bounds limit d (seen_by t s c frames)
  bounds_same d frames =
      λ i. list_all (λ e. is_done ((values_same e frames i >>= ordinal) limit)) (bounds_in d)

  holds_same : (frames : List Frame)
      → holds limit c (seen_by t u c frames) ≡ holds limit c (seen_by t s c frames)
  holds_same frames = λ i. condition_same (condition_of c.transition) frames i
      && bounds_same (delay_of c.transition) frames i

  pub subscripts_same : (ks : List Kind) (es : List Expr) (frames : List Frame)
      → subscripts_of limit ks es (seen_by t u c frames)
      ≡ subscripts_of limit ks es (seen_by t s c frames)
  subscripts_same [] es frames = refl
  subscripts_same (k ∷ ks) [] frames = refl
  subscripts_same (k ∷ ks) (e ∷ es) frames =
      λ i. (values_same e frames i >>= ordinal >>= λ z. lift (within_kind k z)) limit
      ∷ subscripts_same ks es frames i

  pub point_same : (w : Awaited) → awaited_point limit t u c w ≡ awaited_point limit t s c w
  point_same w = λ i. option_and_then (λ p. option_map (point c.row.number p)
      (ordinals_by (subscripts_same (unwrap_or (dims_at t.outline p) []) w.at.index
      (c.chosen ∷ []) i))) (declared_at t.outline w.at.name)

  item_same : u.queues ≡ s.queues → (w : Awaited)
      → awaited_item limit t u c w ≡ awaited_item limit t s c w
  item_same q w = λ i. option_and_then (λ p. find (came_through t.outline w.signal p)
      (option_to_list (slice_get (q i (queue_of t p)) 0))) (point_same w i)

  frames_same : u.queues ≡ s.queues → (o : Option Awaited)
      → frames_of limit t u c o ≡ frames_of limit t s c o
  frames_same q None = refl
  frames_same q (Some w) =
      λ i. option_map (λ x. c.chosen ∷ parameters_of t.outline x ∷ []) (item_same q w i)

  seen_same : (b : Bool) (m n : Option (List Frame)) → m ≡ n
      → option_map_or (holds limit c) (if b then option_map (seen_by t u c) m else None) false
      ≡ option_map_or (holds limit c) (if b then option_map (seen_by t s c) n else None) false
  seen_same false m n e = refl
  seen_same true m n e =
      ap (λ o. option_map_or (holds limit c) (option_map (seen_by t u c) o) false) e ∙ one n
    where
      one : (o : Option (List Frame))
          → option_map_or (holds limit c) (option_map (seen_by t u c) o) false
          ≡ option_map_or (holds limit c) (option_map (seen_by t s c) o) false
      one None = refl
      one (Some frames) = holds_same frames

  -- a choice is enabled in both where it sees the same items
  enabled_same : frames_of limit t u c (when_of c.transition)
      ≡ frames_of limit t s c (when_of c.transition)
      → is_enabled_choice limit t u c ≡ is_enabled_choice limit t s c
  enabled_same e = seen_same (is_from t c) _ _ e

  -- so is one that is the same where it has a delay
  waiting_same : (is_some (delay_of c.transition) ≡ true
      → frames_of limit t u c (when_of c.transition) ≡ frames_of limit t s c (when_of c.transition))
      → is_waiting limit t u c ≡ is_waiting limit t s c
  waiting_same g = one (is_some (delay_of c.transition)) g
    where
      one : (b : Bool) → (b ≡ true → frames_of limit t u c (when_of c.transition)
          ≡ frames_of limit t s c (when_of c.transition))
          → (b && is_enabled_choice limit t u c) ≡ (b && is_enabled_choice limit t s c)
      one false g = refl
      one true g = enabled_same (g refl)

-- STAMPS ARE BROUGHT UP TO DATE

stamp_is : (b : Bool) (n : ℕ) → is_some (if b then Some n else None) ≡ b
stamp_is true n = refl
stamp_is false n = refl

option_same : {A : Type 0} (f g : A → Bool) (o : Option A) → ((a : A) → f a ≡ g a)
    → option_map_or f o false ≡ option_map_or g o false
option_same f g None h = refl
option_same f g (Some a) h = h a

pub timed_again : (limit : ℕ) (t : Text) (fired : Option Firing) (s : Situation) (k : Clocked)
    → is_timed limit t (restamped limit t fired s) k ≡ is_timed limit t s k
timed_again limit t fired s k = let u = restamped limit t fired s in
    option_same (is_waiting limit t u) (is_waiting limit t s) (choice_of t s (first_choice k))
    (λ c. waiting_same limit t s u c refl
    (λ e. frames_same limit t s u c refl refl (when_of c.transition)))

restamped_stands : (limit : ℕ) (t : Text) (fired : Option Firing) (s : Situation)
    → HasStamps limit t (restamped limit t fired s)
restamped_stands limit t fired s k =
    stamp_is (is_timed limit t s k) (since fired s k) ∙ sym (timed_again limit t fired s k)

-- EVENTS

-- no choice of a transition with a delay awaits an interaction
abbrev AwaitsNothing : Choice → Type 0
AwaitsNothing c = is_some (delay_of c.transition) ≡ true → when_of c.transition ≡ None

-- two tests of a choice agree which do so where it awaits nothing
module _ (t : Text) (d : DelaysAwaitNothing t) (test other : Choice → Bool)
    (h : (c : Choice) → AwaitsNothing c → test c ≡ other c) (f : Firing) where
  tuple_same : (r : Row) (x : FullTransition)
      → (is_some (delay_of x) ≡ true → when_of x ≡ None) → (o : Option (List ℤ))
      → option_map_or test (option_map (λ zs. record {
        row = r;
        number = f.transition;
        transition = x;
        chosen = any_frame t.outline x zs;
      }) o) false
      ≡ option_map_or other (option_map (λ zs. record {
        row = r;
        number = f.transition;
        transition = x;
        chosen = any_frame t.outline x zs;
      }) o) false
  tuple_same r x g None = refl
  tuple_same r x g (Some zs) = h (record {
    row = r;
    number = f.transition;
    transition = x;
    chosen = any_frame t.outline x zs;
  }) g

  transition_same : (r : Row) (o : Option FullTransition)
      → ((x : FullTransition) → o ≡ Some x → is_some (delay_of x) ≡ true → when_of x ≡ None)
      → option_map_or test (option_and_then (choice_by t r f.transition f.choice) o) false
      ≡ option_map_or other (option_and_then (choice_by t r f.transition f.choice) o) false
  transition_same r None g = refl
  transition_same r (Some x) g =
      tuple_same r x (g x refl) (numbered (any_tuples t.outline x) f.choice)

  row_same : (o : Option Row)
      → option_map_or test (option_and_then (choice_in t f) o) false
      ≡ option_map_or other (option_and_then (choice_in t f) o) false
  row_same None = refl
  row_same (Some r) = transition_same r (numbered (transitions_of t r.body) f.transition)
      (d r.body f.transition)

nothing_awaited : (limit : ℕ) (t : Text) (s u : Situation) (c : Choice) (o : Option Awaited)
    → o ≡ None → frames_of limit t u c o ≡ frames_of limit t s c o
nothing_awaited limit t s u c None e = refl
nothing_awaited limit t s u c (Some w) e = absurd (cc)

-- the choices of situations with the same rows
pub choice_same : (t : Text) (s u : Situation) (f : Firing) → u.rows ≡ s.rows
    → choice_of t u f ≡ choice_of t s f
choice_same t s u f e = ap (λ rows. option_and_then (choice_in t f)
    (row_of (record s { rows = rows }) f.instance)) e

timed_same : (limit : ℕ) (t : Text) (s u : Situation) (k : Clocked) → DelaysAwaitNothing t
    → u.rows ≡ s.rows → is_timed limit t u k ≡ is_timed limit t s k
timed_same limit t s u k d e =
    ap (λ o. option_map_or (is_waiting limit t u) o false) (choice_same t s u (first_choice k) e)
    ∙ row_same t d (is_waiting limit t u) (is_waiting limit t s)
    (λ c g. waiting_same limit t s u c e
    (λ b. nothing_awaited limit t s u c (when_of c.transition) (g b)))
    (first_choice k) (row_of s k.instance)

stamps_stay : (limit : ℕ) (t : Text) (s u : Situation) → DelaysAwaitNothing t
    → LeavesInstances s u → HasStamps limit t s → HasStamps limit t u
stamps_stay limit t s u d l h k = ap (λ stamps. is_some (stamps k)) l.stamps ∙ h k
    ∙ sym (timed_same limit t s u k d l.rows)

pub stamps_stand : StampsStandWhereEnabled
stamps_stand = record {
  start = λ limit t s outs e. start_leads GoesOver (HasStamps limit t) situations_go_over limit t s
      outs (λ u g. restamped_stands limit t None u) e;
  firing = λ limit t s next f outs e. firing_leads GoesOver (HasStamps limit t) situations_go_over
      limit t s next f outs
      (λ c _ u g. restamped_stands limit t (Some f) (with_next_state t c u)) e;
  event = λ limit t s e d h. stamps_stay limit t s (after_event t s e) d
      (events_are_outside.leaves t s e) h;
}
