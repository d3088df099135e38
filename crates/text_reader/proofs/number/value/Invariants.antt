use Rattle.std.proofs.Common.{◌≡◌, drop}
use Rattle.std.specs.Prelude.{fold}
use Rattle.text_reader.specs.Tests.{with_digit, value_of}
use Rattle.text_reader.proofs.number.value.Given as goal

abbrev pub invariant-loop-digit : goal.invariant-loop-digit
invariant-loop-digit l = value_of l.digits ≡ fold with_digit l.value (drop l.digit-index l.digits)
