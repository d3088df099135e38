-- How a call answers that evaluates: exactly as its definition says, unless memory runs out.
use Rattle.std.specs.Prelude.{◌≡◌, Result, Ok, Err}
use Rattle.mean_blocks.specs.declared.fault.BlockFault.{BlockFault}
use Rattle.mean_blocks.specs.declared.stop.Stop.{Stop}
use Rattle.mean_blocks.specs.declared.stop.Stop.TheVariants as stop
use Rattle.mean_blocks.specs.Outcome.{Outcome, Done, Fault, Limit}

-- the answer of a call that leaves this S: what comes of the evaluation
abbrev pub Answers : {S A : Type 0} → Outcome S A → Result A Stop → S → Type 0
Answers o (Ok a) s = o ≡ Done a s
Answers o (Err (stop.Fault f)) s = o ≡ Fault f
Answers o (Err stop.Limit) s = o ≡ Limit
Answers o (Err (stop.Memory e)) s = Unit {0}

-- the answer of a call that passes no limit: a thing, or its fault
abbrev pub Says : {A : Type 0} → Result A BlockFault → Result A Stop → Type 0
Says r (Ok a) = r ≡ Ok a
Says r (Err (stop.Fault f)) = r ≡ Err f
Says r (Err stop.Limit) = ⊥
Says r (Err (stop.Memory e)) = Unit {0}

-- an answer that memory ran out
abbrev pub IsMemory : Stop → Type 0
IsMemory (stop.Memory e) = Unit {0}
IsMemory _ = ⊥
