-- Where a trace ends.
use Rattle.std.specs.Prelude.{◌≡◌, ℕ, IsTrue, length}
use Rattle.mean_blocks.specs.TextByPlace.{Text}
use Rattle.mean_blocks.specs.GlobalSituation.{Situation}
use Rattle.est_meaning.specs.QuietSituations.{IsQuiet}
use Rattle.est_meaning.specs.RecordedTraces.{Recorded}

-- after so many events a trace ends in this situation: it has no more of them, and where it ends
-- quiet, the situation is quiet
pub record IsTraceEnd (trace : Recorded) (limit : ℕ) (t : Text) (s : Situation) (events : ℕ)
    : Type 0 where
  pub all : events ≡ length trace.events
  pub quiet : IsTrue trace.quiet → IsQuiet limit t s
