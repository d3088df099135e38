-- How the table of heads grows.
use Rattle.std.specs.Prelude.{ℕ, List}
use Rattle.est_syntax.specs.declared.ports.Port.{Port}
use Rattle.est_trace.specs.declared.heads.Head.{Head}
use Rattle.est_trace.specs.PortNames.{StartsName}
use Rattle.est_trace.specs.Directories.{AreHeads}

-- the heads before a place are told, and at it a name starts
pub record AreListed (ports : List Port) (place : ℕ) (heads : List (List ℕ × Head)) : Type 0 where
  pub heads_are : AreHeads ports place heads
  pub starts : StartsName ports place
