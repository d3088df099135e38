-- Reports of searches that a replay can read.
use Rattle.std.specs.Prelude.{ℕ, ◌+◌, ◌-◌, ◌<◌, ◌≤◌, ◌^◌, Option, IfSome}
use Rattle.est_meaning.specs.AllowedEvents.{most_events}
use Rattle.est_explanation.specs.CanonicalExplanation.{IsWritable, IsWritableFiring}
use Rattle.est_search.specs.declared.verdict.Faulted.{Faulted}
use Rattle.est_search.specs.declared.verdict.Verdict.{Verdict}
use Rattle.est_search.specs.declared.verdict.Verdict.TheVariants.{Accepted, Refused}
use Rattle.est_search.specs.declared.verdict.Verdict.TheVariants.{OverFirings, OverAction}

-- so are the numbers of the firing whose block faults, where one does
abbrev pub IsReadableFault : Option Faulted → Type 0
IsReadableFault faulted = IfSome faulted (λ f. IsWritableFiring f.firing)

-- the numbers in the report of a verdict on a trace of so many events, within this limit of
-- statements, are those that an explanation may have, or the comments before it
abbrev pub IsReadable : ℕ → ℕ → Verdict → Type 0
IsReadable limit events (Accepted run) = IsWritable (record { moves = run; claim = events + 1 })
IsReadable limit events (Refused at run faulted) =
    (events ≤ most_events) × IsWritable (record { moves = run; claim = at - 1 })
    × IsReadableFault faulted
IsReadable limit events (OverFirings tried) = Unit {0}
IsReadable limit events (OverAction run reached firing) =
    (limit < 2 ^ 64) × IsWritable (record { moves = run; claim = reached })
    × IfSome firing IsWritableFiring
