-- What a reader does with a line of a trace that is still being recorded.
use Rattle.std.specs.Prelude.{◌≡◌, true, List}
use Rattle.est_lexer.specs.Offsets.{text_of, tokens_of}
use Rattle.est_syntax.specs.declared.ports.Port.{Port}
use Rattle.est_meaning.specs.declared.trace.Expected.{Expected}
use Rattle.text_reader.specs.Going.{Shape}
use Rattle.text_reader.specs.Grammar.{both, nothing}
use Rattle.text_reader.specs.Moving.{Does}
use Rattle.text_reader.specs.declared.reader.Reader.{Reader}
use Rattle.text_values.specs.declared.formats.Format.TheVariants.{Complete}
use Rattle.est_trace.specs.TraceShapes.{ShowsEvents}
use Rattle.est_trace.specs.TraceText.{IsFullAfter}

-- a line of these events has this shape
pub record ShowsLine (ports : List Port) (events : List Expected) (t : Shape) : Type 0 where
  pub shape : Shape
  pub shape_is : t ≡ both shape nothing
  pub shown : ShowsEvents Complete ports events shape

-- where a reader of a line finds an event too many, as many as there were levels are complete
-- before it
abbrev pub CountsLine : List Port → Reader → Reader → Type 0
CountsLine ports old new =
    let text = text_of old.tokens.now in
    let tokens = tokens_of old.tokens.now in
    old.at ≡ 0
    → Does (λ b. Unit {0})
    (λ i z. z ≡ true → IsFullAfter Complete ports old.levels text tokens 2 i)
    old.at old.outcome new.at new.outcome
