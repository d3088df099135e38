use Rattle.std.proofs.Common.{refl, ap, ◌∙◌}
use Rattle.est_syntax.specs.declared.kind.Kind.{out-Kind}
use Rattle.est_syntax.specs.declared.kind.Kind.TheVariants as kind
use Rattle.est_values.proofs.FitsByForm.{set_answer, array_answer, record_answer}
use Rattle.est_values.proofs.FitsByForm.{ordinal_answer}
use Rattle.est_values.proofs.fitting.+fits.Goals as goal

pub fits-returns-in-Integer : goal.fits-returns-in-Integer
fits-returns-in-Integer t c =
    ordinal_answer _ _ _ _ (ap out-Kind c.in-Integer.is ∙ kind.outs-Integer) refl
    (λ u h. h) c.fits_ordinal.ensures

pub fits-returns-in-Boolean : goal.fits-returns-in-Boolean
fits-returns-in-Boolean t c =
    ordinal_answer _ _ _ _ (ap out-Kind c.in-Boolean.is ∙ kind.outs-Boolean) refl
    (λ u h. h) c.fits_ordinal-in-Boolean.ensures

pub fits-returns-in-Char : goal.fits-returns-in-Char
fits-returns-in-Char t c =
    ordinal_answer _ _ _ _ (ap out-Kind c.in-Char.is ∙ kind.outs-Char) refl
    (λ u h. h) c.fits_ordinal-in-Char.ensures

pub fits-returns-in-Enumeration : goal.fits-returns-in-Enumeration
fits-returns-in-Enumeration t c =
    ordinal_answer _ _ _ _ (ap out-Kind c.in-Enumeration.is ∙ kind.outs-Enumeration _ _) refl
    (λ u h. h) c.fits_ordinal-in-Enumeration.ensures

pub fits-returns-in-Part : goal.fits-returns-in-Part
fits-returns-in-Part t c =
    ordinal_answer _ _ _ _ (ap out-Kind c.in-Part.is ∙ kind.outs-Part _ _ _) refl
    (λ u h. h) c.fits_ordinal-in-Part.ensures

pub fits-returns-in-SetOf : goal.fits-returns-in-SetOf
fits-returns-in-SetOf t c =
    set_answer _ _ _ _ _ c.in-SetOf.is c.get.ensures c.fits_set.ensures

pub fits-returns-in-ArrayOf : goal.fits-returns-in-ArrayOf
fits-returns-in-ArrayOf t c =
    array_answer _ _ _ _ _ _ _ c.in-ArrayOf.is c.get-in-ArrayOf.ensures
    c.get-in-ArrayOf-2.ensures c.fits_array.ensures

pub fits-returns-in-Fields : goal.fits-returns-in-Fields
fits-returns-in-Fields t c =
    record_answer _ _ _ _ _ c.in-Fields.is c.get-in-Fields.ensures c.fits_record.ensures
