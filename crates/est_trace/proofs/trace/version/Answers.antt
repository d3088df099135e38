use Rattle.std.proofs.Common.{arith}
use Rattle.text_values.specs.declared.formats.Version.TheVariants.{First, Second, Third}
use Rattle.est_trace.proofs.Versions.{version_taken}
use Rattle.est_trace.proofs.trace.version.Goals as goal

pub returns-then-number-eq2 : goal.returns-then-number-eq2
returns-then-number-eq2 c = version_taken Second c.number-number.result c.number-number.ensures
    (λ l u. c.if-number-eq2.true)

pub returns-then-number-eq3 : goal.returns-then-number-eq3
returns-then-number-eq3 c = version_taken Third c.number-number.result c.number-number.ensures
    (λ l u. c.if-number-eq3.true)

pub returns-else-number-eq3 : goal.returns-else-number-eq3
returns-else-number-eq3 c = version_taken First c.number-number.result c.number-number.ensures
    (λ l u. omega (arith, l, u, c.if-number-eq2.false, c.if-number-eq3.false))
