-- Items are counted from step to step.
use Rattle.std.proofs.Common.{◌≡◌, refl, sym, ap, subst, arith, ℕ, ◌+◌, Bool, true}
use Rattle.std.proofs.Common.{false, List, [], ◌∷◌, ◌++◌, Option, Some, None}
use Rattle.std.specs.Prelude.{if◌then◌else◌, find, slice_get, option_and_then, option_to_list}
use Rattle.std.specs.Option.{option_map, option_map_or}
use Rattle.est_syntax.specs.declared.body.Block.{out-Block}
use Rattle.mean_blocks.specs.declared.fault.BlockFault.TheVariants.{Undefined}
use Rattle.mean_blocks.specs.declared.situation.Item.{Item}
use Rattle.mean_blocks.specs.Outcome.{Outcome, Done, Fault, Limit}
use Rattle.mean_blocks.specs.TextByPlace.{Text}
use Rattle.mean_blocks.specs.GlobalSituation.{Frame, Situation, QueueName}
use Rattle.mean_blocks.specs.WorkingState.{View}
use Rattle.mean_blocks.specs.QueueEffects.{queue_of, without_head}
use Rattle.mean_blocks.specs.OutputEffects.{Sent, arrived}
use Rattle.mean_blocks.specs.StartMeaning.{no_instances}
use Rattle.mean_blocks.proofs.OrderlyStarts.{OnSent, block_kept}
use Rattle.est_meaning.specs.declared.event.Event.{Event}
use Rattle.est_meaning.specs.declared.event.Event.TheVariants as event
use Rattle.est_meaning.specs.declared.firing.Firing.{Firing}
use Rattle.est_meaning.specs.ClauseContexts.{Awaited, when_of}
use Rattle.est_meaning.specs.TransitionChoices.{Choice, choice_of}
use Rattle.est_meaning.specs.GuardParts.{seen_by, is_from, awaited_point, came_through}
use Rattle.est_meaning.specs.GuardParts.{arrived_through, awaited_item, parameters_of, frames_of}
use Rattle.est_meaning.specs.GuardParts.{view_of}
use Rattle.est_meaning.specs.DelayStamps.{restamped}
use Rattle.est_meaning.specs.OutsideEvents.{arrival, after_event, later}
use Rattle.est_meaning.specs.FiringSteps.{without_awaited, block_frame, performed_in, completed}
use Rattle.est_meaning.specs.FiringSteps.{finished, fired_in, fired_by, outcome}
use Rattle.est_meaning.proofs.Options.{then_some, map_some, by_option}
use Rattle.est_meaning.proofs.Steps.{OnNext, start_leads}
use Rattle.law_runs.specs.ItemCounts.{HasItems, Becomes, rests, puts, takes, after, TakesNone}
use Rattle.law_runs.specs.StepItems.{put_by, taken_in, taken_by, EventsPutWhatArrives}
use Rattle.law_runs.specs.StepItems.{IsCounted}
use Rattle.law_runs.specs.StepItems.{FiringsTakeWhatTheyAwait, StartsAreCounted, CountsGoOn}
use Rattle.law_runs.proofs.CountedItems.{none_waits, changes_add_up, blocks_take_none}

-- EVENTS

arrived_puts : (t : Text) (s : Situation) (o : Option Item)
    → Becomes (option_map_or (λ (x : Item). 1) o 0) 0 0 s
    (option_map_or (λ (x : Item). arrived t x.at x s) o s)
arrived_puts t s None = rests s s (λ q. refl)
arrived_puts t s (Some x) = puts t x.at x s

pub events_put : EventsPutWhatArrives
unfolding after_event
events_put t s (event.Arrives i) = arrived_puts t s (arrival t i)
events_put t s (event.Leaves i) = rests s s (λ q. refl)
events_put t s (event.Passes units) = rests s (later s units) (λ q. refl)

-- FIRINGS

-- what is found at the head of a queue is its head
found_head : (test : Item → Bool) (items : List Item) (i : Item)
    → find test (option_to_list (slice_get items 0)) ≡ Some i
    → (x : Item) × (slice_get items 0 ≡ Some x)
found_head test [] i e = absurd (cc)
found_head test (x ∷ items) i e = (x, refl)

module _ (limit : ℕ) (t : Text) (s : Situation) (c : Choice) where
  -- what is awaited is there, and is taken
  awaited_taken : (o : Option Awaited) (frames : List Frame)
      → frames_of limit t s c o ≡ Some frames
      → Becomes 0 (option_map_or (λ (w : Awaited). 1) o 0) 0 s
      (option_map_or (λ p. without_head t p s) (option_and_then (awaited_point limit t s c) o) s)
  awaited_taken None frames e = rests s s (λ q. refl)
  awaited_taken (Some w) frames e =
      let a = map_some (λ i. c.chosen ∷ parameters_of t.outline i ∷ [])
      (awaited_item limit t s c w) frames e in
      let b = then_some (arrived_through t s w.signal) (awaited_point limit t s c w) a.0 a.1 in
      let h = found_head (came_through t.outline w.signal b.0) (s.queues (queue_of t b.0)) a.0
      b.2 in
      subst (λ o. Becomes 0 1 0 s (option_map_or (λ p. without_head t p s) o s)) (sym b.1)
      (takes t b.0 h.0 s h.1)

  frames_seen : (b : Bool) (o : Option (List Frame)) (v : View)
      → (if b then option_map (seen_by t s c) o else None) ≡ Some v
      → (frames : List Frame) × (o ≡ Some frames)
  frames_seen false o v e = absurd (cc)
  frames_seen true None v e = absurd (cc)
  frames_seen true (Some frames) v e = (frames, refl)

  seen_taken : (v : View) → view_of limit t s c ≡ Some v
      → Becomes 0 (taken_in c) 0 s (without_awaited limit t s c)
  seen_taken v e =
      let a = frames_seen (is_from t c) (frames_of limit t s c (when_of c.transition)) v e in
      awaited_taken (when_of c.transition) a.0 a.1

-- a firing leads from one situation to another, and takes so many items
abbrev FiresTo : ℕ → Situation → Situation → Type 0
FiresTo k s u = (n : ℕ) → HasItems s n → (put : ℕ) × (gone : ℕ) × Becomes put k gone s u

-- some are taken, and then the block puts
block_fires : (k : ℕ) (s v u w : Situation) → Becomes 0 k 0 s v → TakesNone v u
    → ((q : QueueName) → w.queues q ≡ u.queues q) → FiresTo k s w
block_fires k s v u w one block e n h =
    let m = changes_add_up 0 k 0 s v n one h in
    let x = block m.0 m.1 in
    let l : k + 0 + 0 ≡ k = omega arith in (
      0 + x.0 + 0,
      0 + x.1 + 0,
      subst (λ z. Becomes (0 + x.0 + 0) z (0 + x.1 + 0) s w) l
          (after (0 + x.0) (k + 0) (0 + x.1) 0 0 0 s u w
          (after 0 k 0 x.0 0 x.1 s v u one x.2) (rests u w e)),
    )

finished_next : (t : Text) (finish : Situation → Situation) (P Q : Situation → Type 0)
    (o : Outcome Sent (Unit {0})) → ((u : Situation) → Q u → P (finish u)) → OnSent Q o
    → OnNext P (finished t finish o)
finished_next t finish P Q (Done a x) h k = h x.situation k
finished_next t finish P Q (Fault f) h k = tt
finished_next t finish P Q Limit h k = tt

firing_next : (limit : ℕ) (t : Text) (s : Situation) (f : Firing)
    → OnNext (FiresTo (taken_by t s f) s) (outcome limit t s f)
unfolding outcome
firing_next limit t s f = let P = FiresTo (taken_by t s f) s in
    by_option (OnNext P) (fired_by limit t s f) (choice_of t s f) (Fault Undefined)
    (λ c g. by_option (OnNext P) (fired_in limit t s f c) (view_of limit t s c) (Fault Undefined)
    (λ v e. let x = without_awaited limit t s c in
    finished_next t (completed limit t f c) P (TakesNone x) (performed_in limit t s c v)
    (λ u k. subst (λ m. FiresTo m s (completed limit t f c u))
    (sym (ap (λ o. option_map_or taken_in o 0) g))
    (block_fires (taken_in c) s x u (completed limit t f c u) (seen_taken limit t s c v e) k
    (λ q. refl)))
    (block_kept TakesNone blocks_take_none t c.row.number
    (v.frames ++ block_frame t.outline c.transition ∷ [])
    (out-Block c.transition.block).statements limit x)) tt) tt

firing_fires : (limit : ℕ) (t : Text) (s next : Situation) (f : Firing) (outs : List Event)
    → outcome limit t s f ≡ Done outs next → FiresTo (taken_by t s f) s next
firing_fires limit t s next f outs e =
    subst (OnNext (FiresTo (taken_by t s f) s)) e (firing_next limit t s f)

pub firings_take : FiringsTakeWhatTheyAwait
firings_take limit t s next f outs n e h = firing_fires limit t s next f outs e n h

-- STARTS AND STEPS

counted_after : (s u : Situation) → IsCounted s → ((n : ℕ) → HasItems s n
    → (put : ℕ) × (taken : ℕ) × (gone : ℕ) × Becomes put taken gone s u) → IsCounted u
counted_after s u h go =
    let k = go h.number h.items in
    let m = changes_add_up k.0 k.1 k.2 s u h.number k.3 h.items in
    let x = h.sum in
    let y = m.2 in
    record {
      put = h.put + k.0;
      taken = h.taken + k.1;
      gone = h.gone + k.2;
      number = m.0;
      changes = after h.put h.taken h.gone k.0 k.1 k.2 no_instances s u h.changes k.3;
      items = m.1;
      sum = omega (arith, x, y);
    }

first_counted : IsCounted no_instances
first_counted = record {
  put = 0;
  taken = 0;
  gone = 0;
  number = 0;
  changes = rests no_instances no_instances (λ q. refl);
  items = none_waits;
  sum = refl;
}

begun_counted : (limit : ℕ) (t : Text) (u : Situation) → TakesNone no_instances u
    → IsCounted (restamped limit t None u)
begun_counted limit t u h = counted_after u (restamped limit t None u)
    (counted_after no_instances u first_counted
    (λ n g. let x = h n g in (x.0, 0, x.1, x.2)))
    (λ n g. (0, 0, 0, rests u (restamped limit t None u) (λ q. refl)))

pub starts_counted : StartsAreCounted
starts_counted limit t s outs e =
    start_leads TakesNone IsCounted blocks_take_none limit t s outs (begun_counted limit t) e

event_counted : (t : Text) (s : Situation) (e : Event) → IsCounted s
    → IsCounted (after_event t s e)
event_counted t s e h = counted_after s (after_event t s e) h
    (λ n g. (put_by t e, 0, 0, events_put t s e))

firing_counted : (limit : ℕ) (t : Text) (s next : Situation) (f : Firing) (outs : List Event)
    → outcome limit t s f ≡ Done outs next → IsCounted s → IsCounted next
firing_counted limit t s next f outs e h = counted_after s next h
    (λ n g. let x = firing_fires limit t s next f outs e n g in (x.0, taken_by t s f, x.1, x.2))

pub counts_go_on : CountsGoOn
counts_go_on = record { event = event_counted; firing = firing_counted }
