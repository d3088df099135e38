-- What a refusal by the reader is as an error of explanations.
use Rattle.text_reader.specs.declared.refusal.Refusal.{Refusal}
use Rattle.text_reader.specs.declared.refusal.Refusal.TheVariants as refusals
use Rattle.est_explanation.specs.declared.error.ExplanationError.{ExplanationError}
use Rattle.est_explanation.specs.declared.error.ExplanationError.TheVariants as errors

-- a refusal, with its place; no token of an explanation opens a level
abbrev pub of_refusal : Refusal → ExplanationError
of_refusal (refusals.BadToken place) = errors.BadToken place
of_refusal (refusals.TooDeep place) = errors.BadToken place
of_refusal (refusals.Memory error) = errors.Memory error
