use Rattle.std.proofs.Common.{◌≡◌, false, take}
use Rattle.text_values.specs.TraceGrammar.{bytes_of}
use Rattle.text_values.specs.inside.Looking.{some_there}
use Rattle.text_values.proofs.constants.position_of.Given as goal

-- none of the names before the place stands there
abbrev pub invariant-loop-place : goal.invariant-loop-place
invariant-loop-place l =
    some_there (take l.place (bytes_of l.names)) l.reader.tokens.now l.reader.at ≡ false
