-- The trace that is found.
use Rattle.est_meaning.specs.RecordedTraces.{Recorded}
use Rattle.est_trace.specs.declared.trace.Found.{Found}

-- the trace of what is found
abbrev pub recorded : Found → Recorded
recorded found = record { events = found.events; quiet = found.quiet }
