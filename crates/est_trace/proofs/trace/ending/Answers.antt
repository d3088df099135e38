use Rattle.std.proofs.Common.{sym, ap, subst}
use Rattle.text_values.specs.TraceGrammar.{ending}
use Rattle.text_values.specs.ValueReading.{Reads}
use Rattle.est_trace.specs.TraceShapes.{ShowsQuiet}
use Rattle.est_trace.proofs.Versions.{no_ending}
use Rattle.est_trace.proofs.trace.ending.Goals as goal

pub returns-in-First : goal.returns-in-First
returns-in-First c = no_ending c.args.version (ap ending (sym c.in-First.is))

pub returns-in-Second : goal.returns-in-Second
returns-in-Second c = no_ending c.args.version (ap ending (sym c.in-Second.is))

pub returns-in-Third : goal.returns-in-Third
returns-in-Third c = subst
    (λ v. Reads (ending v) (ShowsQuiet c.quiet.result) c.args.reader.now c.quiet.new.reader)
    (sym c.in-Third.is) c.quiet.ensures
