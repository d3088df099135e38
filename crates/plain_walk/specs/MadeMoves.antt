-- What is known of the moves of a run.
use Rattle.std.specs.Prelude.{◌≡◌, ℕ, List, Option, Some, None}
use Rattle.est_syntax.specs.declared.specification.Spec.{Spec}
use Rattle.est_meaning.specs.mean_blocks.Outcome.{Done, Fault, Limit}
use Rattle.est_meaning.specs.mean_blocks.TextByPlace.{text_of}
use Rattle.est_meaning.specs.mean_blocks.declared.situation.Item.{Item}
use Rattle.plain_frames.specs.plain_systems.HeldSystems.{situation_of, waiting_in}
use Rattle.est_meaning.specs.declared.event.Event.{Event}
use Rattle.est_meaning.specs.declared.firing.Firing.{Firing}
use Rattle.est_meaning.specs.FiringSteps.{IsStep, outcome, start_of}
use Rattle.est_meaning.specs.OutsideEvents.{after_event}
use Rattle.est_meaning.specs.declared.answers.Started.{Started}
use Rattle.est_meaning.specs.declared.answers.Started.TheVariants as started
use Rattle.plain_walk.specs.declared.made.Made.{Made}
use Rattle.plain_walk.specs.declared.made.Sent.{Sent}
use Rattle.plain_walk.specs.declared.walk.Walk.{Walk}
use Rattle.plain_walk.specs.SentItems.{IsSentBy}
use Rattle.plain_walk.specs.TakenItems.{IsTakenOf}

-- THE START

-- a walk that has begun with these events, or why it has not
abbrev pub IsBegun : ℕ → Spec → Started Walk → Type 0
IsBegun limit spec (started.Ready walk outs) = (walk.behaviour ≡ text_of spec)
    × (walk.limit ≡ limit)
    × (start_of limit (text_of spec) ≡ Done outs (situation_of walk.system))
IsBegun limit spec (started.Fault f) = start_of limit (text_of spec) ≡ Fault f
IsBegun limit spec started.Limit = start_of limit (text_of spec) ≡ Limit

-- MOVES

-- a move changes neither the specification of a walk nor its limit
pub record Keeps (old new : Walk) : Type 0 where
  pub behaviour : new.behaviour ≡ old.behaviour
  pub limit : new.limit ≡ old.limit

-- an event happened outside
abbrev pub HasHappened : Walk → Event → Walk → Type 0
HasHappened old e new =
    situation_of new.system ≡ after_event old.behaviour (situation_of old.system) e

-- a firing led to a situation with these events, or is not done and left everything as it was
abbrev pub HasStepped : Walk → Firing → Option (List Event) → Walk → Type 0
HasStepped old f (Some outs) new = outcome old.limit old.behaviour (situation_of old.system) f
    ≡ Done outs (situation_of new.system)
HasStepped old f None new = situation_of new.system ≡ situation_of old.system

-- what is known of what a firing sends that takes this
pub record IsSent (old : Walk) (f : Firing) (item : Option Item) (sent : Sent) (new : Walk)
    : Type 0 where
  pub done : HasStepped old f (Some sent.outs) new
  pub inside : IsSentBy old.limit old.behaviour (situation_of old.system) f item
      (waiting_in sent.inside)

-- a firing that takes this sent this, or is not done and left everything as it was
abbrev pub HasSent : Walk → Firing → Option Item → Option Sent → Walk → Type 0
HasSent old f item (Some sent) new = IsSent old f item sent new
HasSent old f item None new = HasStepped old f None new

-- what is known of a firing that is a step
pub record IsMade (old : Walk) (f : Firing) (made : Made) (new : Walk) : Type 0 where
  pub step : IsStep old.limit old.behaviour (situation_of old.system) f
      (situation_of new.system) made.sent.outs
  pub taken : IsTakenOf old.limit old.behaviour (situation_of old.system) f made.taken.item
      (situation_of made.taken.system)
  pub inside : IsSentBy old.limit old.behaviour (situation_of old.system) f made.taken.item
      (waiting_in made.sent.inside)

-- a firing is a step, of which this is known, or is none and left everything as it was
abbrev pub HasMade : Walk → Firing → Option Made → Walk → Type 0
HasMade old f (Some made) new = IsMade old f made new
HasMade old f None new = situation_of new.system ≡ situation_of old.system
