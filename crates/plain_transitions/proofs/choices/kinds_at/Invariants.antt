use Rattle.std.proofs.Common.{◌≡◌, ◌++◌, drop}
use Rattle.std.specs.List.{filter_map}
use Rattle.est_meaning.specs.mean_blocks.NamesInRuns.{kind_at}
use Rattle.plain_transitions.specs.WrittenTransitions.{kinds_held}
use Rattle.plain_transitions.proofs.choices.kinds_at.Given as goal

abbrev pub invariant-loop-place : goal.invariant-loop-place
invariant-loop-place l = kinds_held l.kinds.items
    ++ filter_map (kind_at l.outline) (drop l.place-index l.places)
    ≡ filter_map (kind_at l.outline) l.places
