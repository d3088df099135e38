use Rattle.std.proofs.Common.{◌≡◌, ◌≤◌, [], ◌∷◌, ◌++◌}
use Rattle.call_files.specs.FaultCounts.{AllStay}
use Rattle.call_files.specs.Pieces.{SameTold}
use Rattle.call_watch.specs.Endings.{standard_input}
use Rattle.call_watch.specs.inside.Reading.{IsReading}
use Rattle.call_watch.proofs.reading.watch_text.Given as goal

abbrev pub ghost-take_byte : goal.ghost-take_byte
ghost-take_byte g a = g.setup

abbrev pub ghost-end_text : goal.ghost-end_text
ghost-end_text g a = g.setup

abbrev pub invariant-bytes : goal.invariant-bytes
invariant-bytes g l = record {
  within : l.taken ≤ 8388608;
  same : SameTold (g.S.Shelf.told l.fn.shelf) (g.S.Shelf.told l.shelf);
  quiet : AllStay (g.S.Shelf.faults l.fn.shelf) (g.S.Shelf.faults l.shelf);
  started : g.S.Shelf.started l.shelf ≡ g.S.Shelf.started l.fn.shelf ++ standard_input ∷ [];
  asked : g.S.Shelf.asked l.shelf ≡ l.taken;
  reads : g.S.Shelf.reads l.shelf standard_input;
  count : g.S.Shelf.taken l.shelf ≡ l.taken;
  sink : g.K.Sink.faults l.sink ≡ g.K.Sink.faults l.fn.sink;
  reading : IsReading g.W.World.speaks g.W.World.stack g.W.World.limit g.W.World.fired g.setup
      l.fn.recording.watcher.world l.fn.recording.limits.budget
      (g.S.Shelf.told l.fn.shelf standard_input) (g.S.Shelf.left l.shelf) l.taken
      (g.K.Sink.written l.fn.sink) (g.K.Sink.written l.sink) l.reading;
}
