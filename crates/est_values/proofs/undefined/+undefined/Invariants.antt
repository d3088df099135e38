use Rattle.std.proofs.Common.{◌≡◌, length}
use Rattle.est_values.specs.inside.FittingLayers.{EachUndefined}
use Rattle.est_values.proofs.undefined.+undefined.Given as goal

-- so many fields have undefined values
abbrev pub invariant-undefined_fields-loop-field : goal.invariant-undefined_fields-loop-field
invariant-undefined_fields-loop-field l =
    (length l.values ≡ l.field-index) × EachUndefined l.fields l.values
