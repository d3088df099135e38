-- How many items events and firings put and take, and what becomes of their number.
use Rattle.std.specs.Prelude.{◌≡◌, ℕ, ◌+◌, List}
use Rattle.std.specs.Option.{option_map_or}
use Rattle.mean_blocks.specs.declared.situation.Item.{Item}
use Rattle.mean_blocks.specs.Outcome.{Done}
use Rattle.mean_blocks.specs.TextByPlace.{Text}
use Rattle.mean_blocks.specs.GlobalSituation.{Situation}
use Rattle.mean_blocks.specs.StartMeaning.{no_instances}
use Rattle.est_meaning.specs.declared.event.Event.{Event}
use Rattle.est_meaning.specs.declared.event.Event.TheVariants as event
use Rattle.est_meaning.specs.declared.firing.Firing.{Firing}
use Rattle.est_meaning.specs.ClauseContexts.{Awaited, when_of}
use Rattle.est_meaning.specs.TransitionChoices.{Choice, choice_of}
use Rattle.est_meaning.specs.OutsideEvents.{arrival, after_event}
use Rattle.est_meaning.specs.FiringSteps.{outcome, start_of}
use Rattle.law_runs.specs.ItemCounts.{HasItems, Becomes}

-- how many items an event puts: one where an item of the specification arrives
abbrev pub put_by : Text → Event → ℕ
put_by t (event.Arrives i) = option_map_or (λ (x : Item). 1) (arrival t i) 0
put_by t (event.Leaves i) = 0
put_by t (event.Passes units) = 0

-- an event puts what arrives, and does nothing else with items
abbrev pub EventsPutWhatArrives : Type 0
EventsPutWhatArrives = (t : Text) (s : Situation) (e : Event)
    → Becomes (put_by t e) 0 0 s (after_event t s e)

-- how many items a choice takes: one where it awaits an interaction
abbrev pub taken_in : Choice → ℕ
taken_in c = option_map_or (λ (w : Awaited). 1) (when_of c.transition) 0

-- how many a firing takes
abbrev pub taken_by : Text → Situation → Firing → ℕ
taken_by t s f = option_map_or taken_in (choice_of t s f) 0

-- a firing takes one item where it awaits an interaction, and else none
abbrev pub FiringsTakeWhatTheyAwait : Type 0
FiringsTakeWhatTheyAwait = (limit : ℕ) (t : Text) (s next : Situation) (f : Firing)
    (outs : List Event) (n : ℕ) → outcome limit t s f ≡ Done outs next → HasItems s n
    → (put : ℕ) × (gone : ℕ) × Becomes put (taken_by t s f) gone s next

-- The number of items is that of those which were put, less those which were taken and those which
-- went with their instances.
pub record IsCounted (s : Situation) : Type 0 where
  pub put : ℕ
  pub taken : ℕ
  pub gone : ℕ
  pub number : ℕ
  pub changes : Becomes put taken gone no_instances s
  pub items : HasItems s number
  pub sum : number + taken + gone ≡ put

-- so it is at a start
abbrev pub StartsAreCounted : Type 0
StartsAreCounted = (limit : ℕ) (t : Text) (s : Situation) (outs : List Event)
    → start_of limit t ≡ Done outs s → IsCounted s

-- and after each event and each firing, where it was so before
pub record CountsGoOn : Type 0 where
  pub event : (t : Text) (s : Situation) (e : Event) → IsCounted s → IsCounted (after_event t s e)
  pub firing : (limit : ℕ) (t : Text) (s next : Situation) (f : Firing) (outs : List Event)
      → outcome limit t s f ≡ Done outs next → IsCounted s → IsCounted next
