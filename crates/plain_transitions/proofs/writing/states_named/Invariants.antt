use Rattle.std.proofs.Common.{◌≡◌, ◌++◌, drop}
use Rattle.std.specs.List.{flat_map}
use Rattle.est_meaning.specs.GuardParts.{states_named}
use Rattle.plain_transitions.proofs.writing.states_named.Given as goal

abbrev pub invariant-loop-name : goal.invariant-loop-name
invariant-loop-name l = l.states ++ flat_map (states_named l.outline) (drop l.name-index l.names)
    ≡ flat_map (states_named l.outline) l.names
