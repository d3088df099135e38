-- What a refusal by the reader is as an error of traces.
use Rattle.text_reader.specs.declared.refusal.Refusal.{Refusal}
use Rattle.text_reader.specs.declared.refusal.Refusal.TheVariants as refusals
use Rattle.est_trace.specs.declared.error.TraceError.{TraceError}
use Rattle.est_trace.specs.declared.error.TraceError.TheVariants as errors

-- a refusal, with its place; the levels of a trace count its events
abbrev pub of_refusal : Refusal → TraceError
of_refusal (refusals.BadToken place) = errors.BadToken place
of_refusal (refusals.TooDeep place) = errors.TooMany place
of_refusal (refusals.Memory error) = errors.Memory error
