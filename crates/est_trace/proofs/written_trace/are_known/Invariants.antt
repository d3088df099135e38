use Rattle.std.proofs.Common.{◌≡◌, take, true}
use Rattle.std.specs.List.{list_all}
use Rattle.est_trace.specs.WrittenTraces.{is_known}
use Rattle.est_trace.proofs.written_trace.are_known.Given as goal

-- so many events are known
abbrev pub invariant-loop-event : goal.invariant-loop-event
invariant-loop-event l = list_all is_known (take l.event-index l.events) ≡ true
