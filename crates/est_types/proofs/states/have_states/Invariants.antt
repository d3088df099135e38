use Rattle.std.proofs.Common.{◌≡◌, drop}
use Rattle.est_types.specs.inside.DeclarationParts.{have_states}
use Rattle.est_types.proofs.states.have_states.Given as goal

abbrev pub invariant-loop-part : goal.invariant-loop-part
invariant-loop-part l = have_states (drop l.part-index l.parts) ≡ have_states l.parts
