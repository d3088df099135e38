-- What variables with their selectors reach, as the program holds it.
use Rattle.std.specs.Prelude.{ℕ, List, Option, Result, Ok, Err, slice_get, option_and_then}
use Rattle.est_syntax.specs.declared.kind.Kind.{Kind}
use Rattle.mean_blocks.specs.declared.stop.Stop.{Stop}
use Rattle.mean_blocks.specs.ReachedVariables.{Reached, Component, Module}
use Rattle.plain_operands.specs.declared.reached.Reached as code
use Rattle.plain_operands.specs.declared.reached.Reached.TheVariants as kept

-- what is reached
abbrev pub reached_of : code.Reached → Reached
reached_of (kept.Component p k) = Component p k.now
reached_of (kept.Module p zs) = Module p zs

-- the same of an answer
abbrev pub reached_in : Result code.Reached Stop → Result Reached Stop
reached_in (Ok r) = Ok (reached_of r)
reached_in (Err e) = Err e

-- the kind of a subscript, by its number counted from 0
abbrev pub kind_by : Option (List Kind) → ℕ → Option Kind
kind_by ks i = option_and_then (λ (l : List Kind). slice_get l i) ks
