-- The situations that a history can go back to.
use Rattle.std.specs.Prelude.{map, reverse}
use Rattle.plain_frames.specs.plain_systems.HeldSystems.{situation_of}
use Rattle.est_meaning.specs.SituationStacks.{Stack}
use Rattle.est_plain.specs.declared.history.History.{History}

-- what a history stands for: the current situation, and those that were left, the latest first
abbrev pub stack_of : History → Stack
stack_of h = record
    { now = situation_of h.system; below = map situation_of (reverse h.below.items) }
