use Rattle.std.proofs.Common.{◌≡◌, ◌≤◌, ◌+◌, length, take, drop}
use Rattle.est_meaning.specs.Agreement.{AgreeAll}
use Rattle.est_search.proofs.agreement.agreed.Given as goal

abbrev pub invariant-loop-event : goal.invariant-loop-event
invariant-loop-event l = record {
  counted : l.many ≡ l.event-index;
  within : l.from + l.many ≤ length l.trace;
  agree : AgreeAll (take l.many (drop l.from l.trace)) (take l.many l.events);
}
