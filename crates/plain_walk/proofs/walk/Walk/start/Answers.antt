use Rattle.std.proofs.Common.{sym, ◌∙◌}
use Rattle.plain_frames.specs.plain_systems.HeldSystems.{situation_of}
use Rattle.est_plain.proofs.WorldLaws.{start_numbered}
use Rattle.plain_walk.proofs.walk.Walk.start.Goals as goal

pub invariant_of-result : goal.invariant_of-result
invariant_of-result c = record {
  outside_is = c.in_ok-outside.ensures ∙ sym c.in_ok-behaviour.ensures;
  numbered = start_numbered c.args.statements c.in_ok-behaviour.behaviour
      (situation_of c.in-Ok.stepped.system) c.in-Ok.stepped.outs c.in-Ok.ensures;
}
