-- Nothing is said of an error only where memory ran out.
use Rattle.est_trace.specs.est_check.declared.specification_error.SpecificationError.{SpecificationError}
use Rattle.est_trace.specs.est_check.declared.specification_error.SpecificationError.TheVariants as specification
use Rattle.est_trace.specs.declared.error.TraceError.{TraceError}
use Rattle.est_trace.specs.declared.error.TraceError.TheVariants as trace
use Rattle.est_explanation.specs.declared.error.ExplanationError.{ExplanationError}
use Rattle.est_explanation.specs.declared.error.ExplanationError.TheVariants as explanation

-- the reader of a specification ran out of memory
abbrev pub IsMemoryOfSpecification : SpecificationError → Type 0
IsMemoryOfSpecification (specification.Memory error) = Unit {0}
IsMemoryOfSpecification _ = ⊥

-- that of a trace did
abbrev pub IsMemoryOfTrace : TraceError → Type 0
IsMemoryOfTrace (trace.Memory error) = Unit {0}
IsMemoryOfTrace _ = ⊥

-- that of an explanation did
abbrev pub IsMemoryOfExplanation : ExplanationError → Type 0
IsMemoryOfExplanation (explanation.Memory error) = Unit {0}
IsMemoryOfExplanation _ = ⊥
