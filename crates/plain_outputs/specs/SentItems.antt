-- What a block works on, with what it sent.
use Rattle.plain_queues.specs.mean_blocks.OutputEffects.{Sent}
use Rattle.plain_queues.specs.plain_systems.declared.system.Working.{Working}
use Rattle.plain_queues.specs.plain_systems.HeldSystems.{situation_of}

-- what a block works on, with what was sent out of the system
abbrev pub sent_of : Working → Sent
sent_of w = record { situation = situation_of w.system; outs = w.outs }
