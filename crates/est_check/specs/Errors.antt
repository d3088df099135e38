-- What an error of the grammar and one of the check are as errors of specifications.
use Rattle.est_grammar.specs.declared.error.ParseError.{ParseError}
use Rattle.est_grammar.specs.declared.error.ParseError.TheVariants as refusals
use Rattle.est_check.specs.declared.error.CheckError.{CheckError}
use Rattle.est_check.specs.declared.error.CheckError.TheVariants as faults
use Rattle.est_check.specs.declared.specification_error.SpecificationError.{SpecificationError}
use Rattle.est_check.specs.declared.specification_error.SpecificationError.TheVariants as errors

-- a refusal by the grammar, with its place
abbrev pub of_refusal : ParseError → SpecificationError
of_refusal (refusals.BadToken place) = errors.BadToken place
of_refusal (refusals.LeftOut place) = errors.LeftOut place
of_refusal (refusals.TooDeep place) = errors.TooDeep place
of_refusal (refusals.Memory error) = errors.Memory error

-- a rule that a sentence breaks first
abbrev pub of_fault : CheckError → SpecificationError
of_fault (faults.Fault place rule) = errors.BrokenRule place rule
of_fault (faults.Memory error) = errors.Memory error
