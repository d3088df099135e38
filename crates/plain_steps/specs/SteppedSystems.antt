-- How a firing and a start answer: exactly as their definitions say, unless memory runs out.
use Rattle.std.specs.Prelude.{◌≡◌, List, Result, Ok, Err}
use Rattle.plain_frames.specs.plain_systems.HeldSystems.{situation_of}
use Rattle.est_meaning.specs.mean_blocks.declared.stop.Stop.{Stop}
use Rattle.est_meaning.specs.mean_blocks.declared.stop.Stop.TheVariants as stop
use Rattle.est_meaning.specs.mean_blocks.GlobalSituation.{Situation}
use Rattle.est_meaning.specs.mean_blocks.Outcome.{Outcome, Done, Fault, Limit}
use Rattle.est_meaning.specs.declared.event.Event.{Event}
use Rattle.plain_steps.specs.declared.step.Stepped.{Stepped}

-- the answer of a firing or a start of which this comes
abbrev pub Steps : Outcome Situation (List Event) → Result Stepped Stop → Type 0
Steps o (Ok x) = o ≡ Done x.outs (situation_of x.system)
Steps o (Err (stop.Fault f)) = o ≡ Fault f
Steps o (Err stop.Limit) = o ≡ Limit
Steps o (Err (stop.Memory e)) = Unit {0}
