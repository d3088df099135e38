-- What a reader of events does with the levels, which count the events.
use Rattle.std.specs.Prelude.{◌≡◌, true, List}
use Rattle.est_lexer.specs.Offsets.{text_of, tokens_of}
use Rattle.est_syntax.specs.declared.ports.Port.{Port}
use Rattle.text_reader.specs.declared.reader.Reader.{Reader}
use Rattle.text_reader.specs.Moving.{Does}
use Rattle.text_values.specs.declared.formats.Format.{Format}
use Rattle.est_trace.specs.TraceText.{IsFullAfter, IsFull}

-- where a reader of events finds one too many, as many as there were levels are complete before it
abbrev pub CountsEvents : Format → List Port → Reader → Reader → Type 0
CountsEvents format ports old new =
    let text = text_of old.tokens.now in
    let tokens = tokens_of old.tokens.now in
    Does (λ b. Unit {0})
    (λ i z. z ≡ true → IsFullAfter format ports old.levels text tokens old.at i)
    old.at old.outcome new.at new.outcome

-- the same for a reader of a whole trace
abbrev pub CountsTrace : List Port → Reader → Reader → Type 0
CountsTrace ports old new =
    let text = text_of old.tokens.now in
    let tokens = tokens_of old.tokens.now in
    old.at ≡ 0
    → Does (λ b. Unit {0}) (λ i z. z ≡ true → IsFull ports old.levels text tokens i)
    old.at old.outcome new.at new.outcome
