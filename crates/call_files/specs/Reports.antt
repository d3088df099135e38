-- The lines of reports.
use Rattle.std.specs.Prelude.{ℕ, List, ◌++◌, codes}
use Rattle.std.specs.Fmt.{decimal}
use Rattle.rule_ports.specs.declared.counts.Counts.{Counts}
use Rattle.est_meaning.specs.mean_blocks.declared.fault.BlockFault.{BlockFault}
use Rattle.est_meaning.specs.mean_blocks.declared.fault.BlockFault.TheVariants.{Range, Divide}
use Rattle.est_meaning.specs.mean_blocks.declared.fault.BlockFault.TheVariants.{Undefined}
use Rattle.est_meaning.specs.mean_blocks.declared.fault.BlockFault.TheVariants.{NoCase, NoModule}
use Rattle.est_meaning.specs.mean_blocks.declared.fault.BlockFault.TheVariants.{LinkTaken}
use Rattle.est_meaning.specs.mean_blocks.declared.fault.BlockFault.TheVariants.{SelfLink, TooMany}
use Rattle.call_files.specs.ReportLines.{line_feed}

-- a good specification, with the numbers of its bodies, transitions and ports
abbrev pub ok_line : Counts → List ℕ
ok_line counts = codes "ok: " ++ decimal counts.bodies ++ codes " bodies, "
    ++ decimal counts.transitions ++ codes " transitions, "
    ++ decimal counts.ports ++ codes " ports" ++ line_feed

-- what goes wrong in a block
abbrev pub fault_text : BlockFault → List ℕ
fault_text Range = codes "range"
fault_text Divide = codes "divide"
fault_text Undefined = codes "undefined"
fault_text NoCase = codes "no case"
fault_text NoModule = codes "no module"
fault_text LinkTaken = codes "link taken"
fault_text SelfLink = codes "self link"
fault_text TooMany = codes "too many"
