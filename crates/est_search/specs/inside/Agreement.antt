-- How far events agree with a trace.
use Rattle.std.specs.Prelude.{◌≡◌, ℕ, ◌+◌, ◌≤◌, List, Some, length, take, drop, slice_get}
use Rattle.est_meaning.specs.declared.event.Event.{Event}
use Rattle.est_meaning.specs.declared.trace.Expected.{Expected}
use Rattle.est_meaning.specs.Agreement.{Agrees, AgreeAll}

-- the first k of these events agree with those of the trace from a place on, and the next one, if
-- there is one there and here, does not
pub record AgreeFor (trace : List Expected) (from : ℕ) (events : List Event) (k : ℕ)
    : Type 0 where
  pub many : k ≤ length events
  pub within : from + k ≤ length trace
  pub agree : AgreeAll (take k (drop from trace)) (take k events)
  pub differ : (x : Expected) (e : Event) → slice_get trace (from + k) ≡ Some x
      → slice_get events k ≡ Some e → Agrees x e → ⊥
