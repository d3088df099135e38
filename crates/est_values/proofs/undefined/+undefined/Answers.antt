use Rattle.std.proofs.Common.{refl, ap, ◌∙◌}
use Rattle.est_syntax.specs.declared.kind.Kind.{out-Kind}
use Rattle.est_syntax.specs.declared.kind.Kind.TheVariants as kind
use Rattle.est_values.proofs.UndefinedParts.{scalar_undefined, array_undefined}
use Rattle.est_values.specs.FittingValues.{ordinal_count}
use Rattle.est_values.proofs.UndefinedParts.{record_undefined}
use Rattle.est_values.proofs.undefined.+undefined.Goals as goal

pub undefined_value-returns-in-Integer : goal.undefined_value-returns-in-Integer
undefined_value-returns-in-Integer t c =
    scalar_undefined _ _ (ap out-Kind c.in-Integer.is ∙ kind.outs-Integer) refl

pub undefined_value-returns-in-Boolean : goal.undefined_value-returns-in-Boolean
undefined_value-returns-in-Boolean t c =
    scalar_undefined _ _ (ap out-Kind c.in-Boolean.is ∙ kind.outs-Boolean) refl

pub undefined_value-returns-in-Char : goal.undefined_value-returns-in-Char
undefined_value-returns-in-Char t c =
    scalar_undefined _ _ (ap out-Kind c.in-Char.is ∙ kind.outs-Char) refl

pub undefined_value-returns-in-Enumeration : goal.undefined_value-returns-in-Enumeration
undefined_value-returns-in-Enumeration t c =
    scalar_undefined _ _ (ap out-Kind c.in-Enumeration.is ∙ kind.outs-Enumeration _ _) refl

pub undefined_value-returns-in-Part : goal.undefined_value-returns-in-Part
undefined_value-returns-in-Part t c =
    scalar_undefined _ _ (ap out-Kind c.in-Part.is ∙ kind.outs-Part _ _ _) refl

pub undefined_value-returns-in-SetOf : goal.undefined_value-returns-in-SetOf
undefined_value-returns-in-SetOf t c =
    scalar_undefined _ _ (ap out-Kind c.in-SetOf.is ∙ kind.outs-SetOf _) refl

pub undefined_value-returns-in_ok-parts-in-Fields :
    goal.undefined_value-returns-in_ok-parts-in-Fields
undefined_value-returns-in_ok-parts-in-Fields t c =
    record_undefined _ _ _ _ c.in-Fields.is c.get-in-Fields.ensures
    c.in_ok-parts-in-Fields.ensures

pub undefined_value-returns-in_ok-parts-in-ArrayOf :
    goal.undefined_value-returns-in_ok-parts-in-ArrayOf
undefined_value-returns-in_ok-parts-in-ArrayOf t c =
    array_undefined _ _ _ _ _ _ _ c.in-ArrayOf.is c.get.ensures c.in_ok-part-in-ArrayOf.ensures
    (c.ordinal_count.ensures ∙ ap ordinal_count c.get-in-ArrayOf.ensures)
    c.in_ok-parts-in-ArrayOf.ensures
