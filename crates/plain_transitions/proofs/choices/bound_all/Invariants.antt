use Rattle.std.proofs.Common.{◌≡◌, ◌++◌, drop, map}
use Rattle.est_values.specs.declared.value.Value.TheVariants as value
use Rattle.est_meaning.specs.TransitionChoices.{bound_all}
use Rattle.plain_transitions.proofs.choices.bound_all.Given as goal

abbrev pub invariant-loop-index : goal.invariant-loop-index
invariant-loop-index l = l.frame ++ bound_all (drop l.index l.places)
    (map (λ z. value.Ordinal z) (drop l.index l.ordinals))
    ≡ bound_all l.places (map (λ z. value.Ordinal z) l.ordinals)
