-- How a start answers: exactly as its specification says, unless memory runs out.
use Rattle.std.specs.Prelude.{◌≡◌, Result, Ok, Err}
use Rattle.plain_blocks.specs.plain_systems.HeldSystems.{situation_of}
use Rattle.mean_blocks.specs.declared.stop.Stop.{Stop}
use Rattle.mean_blocks.specs.declared.stop.Stop.TheVariants as stop
use Rattle.mean_blocks.specs.Outcome.{Outcome, Done, Fault, Limit}
use Rattle.mean_blocks.specs.OutputEffects.{Sent}
use Rattle.plain_starts.specs.declared.starting.Started.{Started}

-- what a start leaves
abbrev pub sent_of : Started → Sent
sent_of x = record { situation = situation_of x.system; outs = x.outs }

-- the answer of a start
abbrev pub Starts : Outcome Sent (Unit {0}) → Result Started Stop → Type 0
Starts o (Ok x) = o ≡ Done tt (sent_of x)
Starts o (Err (stop.Fault f)) = o ≡ Fault f
Starts o (Err stop.Limit) = o ≡ Limit
Starts o (Err (stop.Memory e)) = Unit {0}
