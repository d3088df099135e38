use Rattle.std.proofs.Common.{◌≡◌, drop}
use Rattle.rule_declares.specs.Declares.{names_declare}
use Rattle.rule_declares.specs.Entries.{point}
use Rattle.rule_outline.proofs.modules.point_names.Given as goal

abbrev pub invariant-loop-used : goal.invariant-loop-used
invariant-loop-used l =
    names_declare l.within (drop l.used-index l.item.names) l.item.role.place
    (point l.within l.dims l.elements l.side l.item.queue) l.outline
    ≡ names_declare l.within l.item.names l.item.role.place (point l.within l.dims l.elements
    l.side l.item.queue) l.fn.outline
