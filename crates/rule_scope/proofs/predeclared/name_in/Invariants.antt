use Rattle.std.proofs.Common.{◌≡◌, drop}
use Rattle.std.specs.Map.{lookup}
use Rattle.est_syntax.specs.Names.{is_name}
use Rattle.rule_scope.specs.inside.Rows.{rows}
use Rattle.rule_scope.proofs.predeclared.name_in.Given as goal

abbrev pub invariant-loop-row : goal.invariant-loop-row
invariant-loop-row l = lookup (is_name l.bytes) (drop l.row-index (rows l.names))
    ≡ lookup (is_name l.bytes) (rows l.names)
