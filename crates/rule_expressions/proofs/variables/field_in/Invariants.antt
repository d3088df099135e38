use Rattle.std.proofs.Common.{◌≡◌, drop}
use Rattle.rule_expressions.specs.Variables.{field_in}
use Rattle.rule_expressions.proofs.variables.field_in.Given as goal

abbrev pub invariant-loop-field : goal.invariant-loop-field
invariant-loop-field l =
    field_in (drop l.field-index l.fields) l.name.bytes ≡ field_in l.fields l.name.bytes
