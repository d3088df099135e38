use Rattle.call_files.proofs.PlaceLaws.{no_place, some_place}
use Rattle.call_files.proofs.memory.MemShelf.place_of.Goals as goal

pub returns-clause-none : goal.returns-clause-none
returns-clause-none c = no_place c.args.self.now.files.items c.args.name.now c.first_named.result
    c.first_named.ensures

pub returns-clause-some : goal.returns-clause-some
returns-clause-some c = some_place c.args.self.now.files.items c.args.name.now c.first_named.result
    c.first_named.ensures
