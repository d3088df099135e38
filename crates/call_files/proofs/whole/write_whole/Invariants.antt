use Rattle.std.proofs.Common.{length, ◌-◌, ◌≡◌, ◌≤◌, take}
use Rattle.call_files.specs.Pieces.{appended}
use Rattle.call_files.proofs.whole.write_whole.Given as goal

abbrev pub invariant-loop-done : goal.invariant-loop-done
invariant-loop-done g l = record {
  within : l.done ≤ length l.bytes;
  quiet : g.K.Sink.faults l.sink ≡ g.K.Sink.faults l.initial.sink;
  written : g.K.Sink.written l.sink ≡ appended (g.K.Sink.written l.initial.sink)
      (take l.done l.bytes);
}

abbrev pub decreases-loop-done : goal.decreases-loop-done
decreases-loop-done g l = length l.bytes - l.done
