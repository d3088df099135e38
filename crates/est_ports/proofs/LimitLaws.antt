-- The limits that port runs keep.
use Rattle.std.proofs.Common.{◌+◌, ◌^◌, ◌≤◌, List, ◌++◌, length, map, refl, arith}
use Rattle.std.proofs.lemmas.List.{length-append}
use Rattle.est_meaning.proofs.ClockLaws.{clock_bounded}
use Rattle.est_meaning.proofs.RunLaws.{bounded_is_run}
use Rattle.est_meaning.specs.AllowedEvents.{most_events}
use Rattle.est_meaning.specs.RecordedTraces.{known_trace}
use Rattle.est_meaning.specs.Run.{Setup, IsBegun}
use Rattle.est_meaning.specs.declared.event.Event.{Event}
use Rattle.mean_ports.proofs.AllowedMerges.{merge_allowed}
use Rattle.mean_ports.proofs.AlongMerges.{port_runs_are_runs}
use Rattle.mean_ports.proofs.Finishing.{all_first, all_even, run_even, run_merges, some_finish}
use Rattle.mean_ports.proofs.Lengths.{known_length, merges_as_long}
use Rattle.mean_ports.specs.declared.lists.PortLists.{PortLists}
use Rattle.mean_ports.specs.declared.moves.PortMove.{PortMove}
use Rattle.mean_ports.specs.Merges.{AreAllowedLists, IsMerge}
use Rattle.mean_ports.specs.PortRunLaws.{plain_move, plain_place}
use Rattle.mean_ports.specs.PortRuns.{Left, PortPlace, AreNext, IsPortRun, along}

module _ (c : Setup) (lists : PortLists) (run : List PortMove) (p : PortPlace)
    (allowed : AreAllowedLists c.spec lists) (r : IsPortRun c lists run p) where
  -- a port run has no more events, with some that are next ones, than a trace may have
  pub next_few : (es : List Event) (after : Left) → AreNext p.left es after
      → length p.events + length es ≤ most_events
  next_few es after a =
      let even = all_even p.left after es a (run_even c lists run p allowed.many r) in
      let g = some_finish after.now after.later after.times even in
      let rest = es ++ g.0 in
      let events = p.events ++ rest in
      let m : IsMerge lists (known_trace events) = record {
        events = events;
        known = refl;
        merges = run_merges c lists run p rest allowed.many r
            (all_first p.left after es g.0 a g.1);
      } in
      let n = merges_as_long lists (known_trace events) m in
      let k = known_length events in
      let l = length-append p.events rest in
      let j = length-append es g.0 in
      let few = allowed.few in
      omega arith

  -- its clock stays within the limit of a trace
  pub clock_few : IsBegun c → p.situation.clock ≤ 10 ^ 15
  clock_few begun =
      let o = port_runs_are_runs c lists run p allowed r in
      (clock_bounded (along c o.0) (map plain_move run) (plain_place p) begun
      (merge_allowed c.spec lists o.0 allowed o.1.is_merge)
      (bounded_is_run (along c o.0) (map plain_move run) (plain_place p) o.1.is_run)).0
