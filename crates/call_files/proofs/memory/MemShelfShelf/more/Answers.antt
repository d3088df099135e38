use Rattle.std.proofs.Common.{◌≡◌, ℕ, List, [], Option, Some, ap, ◌∙◌, ◌<◌, length, arith, drop}
use Rattle.std.specs.Prelude.{unwrap_or}
use Rattle.std.specs.Option.{option_and_then}
use Rattle.call_files.specs.MemoryFiles.{bytes_at, name_at}
use Rattle.call_files.specs.Memory.{started_name}
use Rattle.call_files.proofs.PieceLaws.{next_piece}
use Rattle.call_files.proofs.PlaceLaws.{name_at_there, raised_others}
use Rattle.call_files.proofs.memory.MemShelfShelf.more.Goals as goal

pub returns-clause-piece : goal.returns-clause-piece
returns-clause-piece c =
    let files = c.args.self.now.files.items in
    let bytes = c.bytes_of.result.now in
    let read : unwrap_or (option_and_then (bytes_at files) c.args.self.now.started) [] ≡ bytes =
    ap (λ (o : Option ℕ). unwrap_or (option_and_then (bytes_at files) o) []) c.in-Some.is
    ∙ ap (λ (o : Option (List ℕ)). unwrap_or o []) c.bytes_of.ensures in
    rw read (next_piece bytes c.copy_from_slice.new.self (drop c.min-n.result c.args.into.now)
    c.args.self.now.taken c.min-n.result c.copy_from_slice.ensures.after
    (let least = c.min-n.ensures in omega arith))

pub returns-then-fails-clause-one_count : goal.returns-then-fails-clause-one_count
returns-then-fails-clause-one_count c =
    let files = c.args.self.now.files.items in
    let less : c.in-Some.place < length files = c.args.self.now.held c.in-Some.place c.in-Some.is in
    let read = name_at_there files c.in-Some.place less in
    let named : started_name c.args.self.now ≡ Some read.0 =
    ap (λ (o : Option ℕ). option_and_then (name_at files) o) c.in-Some.is ∙ read.1 in
    rw named (λ other apart.
    raised_others files c.raise_at.new.files.items c.in-Some.place read.0 other
    c.args.self.now.missing.value
    c.raise_at.ensures (c.args.self.now.first c.in-Some.place c.in-Some.is read.0 read.1) apart)
