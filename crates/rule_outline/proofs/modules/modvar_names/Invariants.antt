use Rattle.std.proofs.Common.{◌≡◌, drop}
use Rattle.rule_declares.specs.Declares.{names_declare}
use Rattle.rule_declares.specs.Entries.{module_variable}
use Rattle.rule_outline.proofs.modules.modvar_names.Given as goal

abbrev pub invariant-loop-used : goal.invariant-loop-used
invariant-loop-used l =
    names_declare l.within (drop l.used-index l.item.names) l.item.header.place
    (module_variable l.within l.dims l.header) l.outline
    ≡ names_declare l.within l.item.names l.item.header.place (module_variable l.within l.dims
    l.header) l.fn.outline
