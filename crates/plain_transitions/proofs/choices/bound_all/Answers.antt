use Rattle.std.proofs.Common.{sym, map, drop}
use Rattle.std.proofs.lemmas.Option.{slice_get_past}
use Rattle.est_values.specs.declared.value.Value.TheVariants as value
use Rattle.est_meaning.specs.TransitionChoices.{bound_all}
use Rattle.plain_transitions.proofs.FrameLaws.{bound_end}
use Rattle.plain_transitions.proofs.choices.bound_all.Goals as goal

pub returns-in-None : goal.returns-in-None
returns-in-None c = bound_end c.loop-index.frame
    (bound_all c.args.places.now (map (λ z. value.Ordinal z) c.args.ordinals.now))
    (drop c.loop-index.index c.args.places.now) c.args.ordinals.now c.loop-index.index
    (sym (slice_get_past c.args.ordinals.now c.loop-index.index c.in-None.ensures.lookup.3))
    c.loop-index.invariant
