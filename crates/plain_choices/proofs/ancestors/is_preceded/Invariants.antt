use Rattle.std.proofs.Common.{ℕ, ◌≡◌, ◌+◌, length}
use Rattle.plain_guards.specs.plain_systems.HeldSystems.{situation_of}
use Rattle.plain_choices.proofs.Climbs.{IsClimbed}
use Rattle.plain_choices.proofs.ancestors.is_preceded.Given as goal

-- so many steps up none of the instances was met
abbrev pub invariant-loop-left : goal.invariant-loop-left
invariant-loop-left l = (k : ℕ) × (k + l.left ≡ length l.system.rows)
    × IsClimbed (situation_of l.system) l.dues l.instance k l.number

-- one step less is left
abbrev pub decreases-loop-left : goal.decreases-loop-left
decreases-loop-left l = l.left
