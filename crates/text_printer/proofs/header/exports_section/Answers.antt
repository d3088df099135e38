use Rattle.std.proofs.Common.{arith, map}
use Rattle.text_printer.proofs.Sections.{none_listed, some_listed, section_none, section_some}
use Rattle.text_printer.specs.PlainNodes.{estelle}
use Rattle.text_productions.specs.Nodes as view
use Rattle.text_printer.proofs.header.exports_section.Goals as goal

pub returns-then-len-gt0 : goal.returns-then-len-gt0
returns-then-len-gt0 c = section_some estelle (map view.an_export c.args.items.now) (some_listed
    view.an_export c.args.items.now (omega arith)) c.word.ensures c.several_exports.ensures

pub returns-else-len-gt0 : goal.returns-else-len-gt0
returns-else-len-gt0 c = section_none estelle (none_listed view.an_export c.args.items.now (omega
    arith))
