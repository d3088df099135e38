-- What an answer of a world says of the outcome.
use Rattle.std.proofs.Common.{◌≡◌, List, refl, sym, ap}
use Rattle.mean_blocks.specs.declared.fault.BlockFault.{BlockFault}
use Rattle.mean_blocks.specs.Outcome.{Outcome, Done, Fault, Limit}
use Rattle.mean_blocks.specs.GlobalSituation.{Situation}
use Rattle.est_meaning.specs.declared.event.Event.{Event}
use Rattle.est_meaning.specs.declared.answers.Fired.TheVariants as fired
use Rattle.est_meaning.specs.SituationStacks.{Stack, pushed, FiredAs}

-- OUTCOMES

-- what comes of a firing
abbrev pub FiringOutcome : Type 0
FiringOutcome = Outcome Situation (List Event)

-- a firing that is done
abbrev pub done : List Event → Situation → FiringOutcome
done outs s = Done outs s

-- one that faults
abbrev pub faulted : BlockFault → FiringOutcome
faulted f = Fault f

-- one that passes its limit
abbrev pub limited : FiringOutcome
limited = Limit

pub limit_done : (s : Situation) (outs : List Event) → limited ≡ done outs s → ⊥
limit_done s outs e = cc

pub fault_done : (f : BlockFault) (s : Situation) (outs : List Event)
    → faulted f ≡ done outs s → ⊥
fault_done f s outs e = cc

pub done_situation : (s t : Situation) (outs others : List Event)
    → done outs s ≡ done others t → s ≡ t
done_situation s t outs others e = cc

-- ANSWERS

pub fired_done : (o : FiringOutcome) (events : List Event) (old new : Stack)
    → FiredAs o fired.Done events old new → (s : Situation) × (o ≡ done events s)
    × (new ≡ pushed s old)
fired_done (Done outs s) events old new a = (s, ap (λ w. done w s) (sym a.0), a.1)
fired_done (Fault f) events old new a = absurd a
fired_done Limit events old new a = absurd a

pub fired_fault : (o : FiringOutcome) (g : BlockFault) (events : List Event) (old new : Stack)
    → FiredAs o (fired.Fault g) events old new → (o ≡ faulted g) × (new ≡ old)
fired_fault (Done outs s) g events old new a = absurd a
fired_fault (Fault f) g events old new a = (ap faulted a.0, a.2)
fired_fault Limit g events old new a = absurd a

pub fired_limit : (o : FiringOutcome) (events : List Event) (old new : Stack)
    → FiredAs o fired.Limit events old new → (o ≡ limited) × (new ≡ old)
fired_limit (Done outs s) events old new a = absurd a
fired_limit (Fault f) events old new a = absurd a
fired_limit Limit events old new a = (refl, a.1)
