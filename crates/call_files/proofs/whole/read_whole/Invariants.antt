use Rattle.std.proofs.Common.{◌≡◌, ◌≤◌, [], ◌∷◌, ◌++◌, length, vec_len}
use Rattle.call_files.specs.FaultCounts.{AllStay}
use Rattle.call_files.specs.Pieces.{SameTold, TakesOff}
use Rattle.call_files.proofs.whole.read_whole.Given as goal

abbrev pub invariant-turns : goal.invariant-turns
invariant-turns g l = record {
  within : vec_len l.bytes ≤ l.limit;
  progress : l.counter ≤ vec_len l.bytes;
  same : SameTold (g.S.Shelf.told l.fn.shelf) (g.S.Shelf.told l.shelf);
  quiet : AllStay (g.S.Shelf.faults l.fn.shelf) (g.S.Shelf.faults l.shelf);
  started : g.S.Shelf.started l.shelf ≡ g.S.Shelf.started l.fn.shelf ++ l.name ∷ [];
  asked : g.S.Shelf.asked l.shelf ≡ l.counter;
  reads : g.S.Shelf.reads l.shelf l.name;
  taken : g.S.Shelf.taken l.shelf ≡ length l.bytes.items;
  front : TakesOff (g.S.Shelf.told l.fn.shelf l.name) l.bytes.items (g.S.Shelf.left l.shelf);
}
