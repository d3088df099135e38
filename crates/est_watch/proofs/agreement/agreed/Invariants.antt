use Rattle.std.proofs.Common.{◌≡◌, ◌≤◌, ◌+◌, length, take, drop, map}
use Rattle.est_meaning.specs.Agreement.{AgreeAll}
use Rattle.est_meaning.specs.declared.trace.Expected.TheVariants.{Known}
use Rattle.est_watch.proofs.agreement.agreed.Given as goal

abbrev pub invariant-loop-event : goal.invariant-loop-event
invariant-loop-event l = record {
  counted : l.many ≡ l.event-index;
  within : l.from + l.many ≤ length l.given;
  agree : AgreeAll (take l.many (drop l.from (map Known l.given))) (take l.many l.events);
}
