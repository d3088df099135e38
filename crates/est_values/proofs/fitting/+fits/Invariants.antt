use Rattle.std.proofs.Common.{◌≡◌, ℕ, ◌<◌, Some, slice_get}
use Rattle.est_syntax.specs.declared.kind.FieldKind.{FieldKind}
use Rattle.est_values.specs.declared.value.Value.{Value}
use Rattle.est_values.specs.FittingValues.{Fits}
use Rattle.est_values.proofs.fitting.+fits.Given as goal

-- so many values fit
abbrev pub invariant-each_fits-loop-i : goal.invariant-each_fits-loop-i
invariant-each_fits-loop-i l = (k : ℕ) (part : Value) → k < l.i
    → slice_get l.parts k ≡ Some part → Fits l.of part

-- so many fields have values that fit
abbrev pub invariant-fields_fit-loop-i : goal.invariant-fields_fit-loop-i
invariant-fields_fit-loop-i l = (k : ℕ) (field : FieldKind) (part : Value) → k < l.i
    → slice_get l.fields k ≡ Some field → slice_get l.parts k ≡ Some part → Fits field.kind part
