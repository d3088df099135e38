use Rattle.std.proofs.Common.{◌≡◌, ◌++◌, take, flat_map}
use Rattle.est_trace.specs.WrittenTraces.{head_line, event_line}
use Rattle.est_trace.proofs.written_trace.append_trace.Given as goal

-- so many events were added
abbrev pub invariant-loop-event : goal.invariant-loop-event
invariant-loop-event l = l.text.items ≡ l.fn.text.items
    ++ head_line (record { events = l.events; quiet = l.quiet })
    ++ flat_map (event_line l.ports) (take l.event-index l.events)
