-- The grammar of explanations.
use Rattle.std.specs.Prelude.{ℕ, ◌+◌, true, List, [], ◌∷◌}
use Rattle.text_reader.specs.Grammar.{done, word, token, seq, alt, rep}
use Rattle.text_reader.specs.Marks.{Marks}
use Rattle.est_meaning.specs.AllowedEvents.{most_events}
use Rattle.text_reader.specs.Tests.{Test, said, number}
use Rattle.text_reader.specs.Going as going

-- The grammar has no named productions.
pub data NoName : Type 0 where

-- so there is nothing to say of them
abbrev pub production : NoName → going.Rule NoName
production name = done

-- nor of what they begin with
abbrev pub marks : Marks Test NoName
marks = record { starts = λ name. []; goes_on = λ name. []; is_empty = λ name. true }

-- a right side of the grammar
abbrev pub Rule : Type 0
Rule = going.Rule NoName

-- the greatest number of an instance, a transition or a choice that can be written
abbrev pub most_ordinal : ℕ
most_ordinal = 999999999

-- the number of an instance, a transition or a choice
abbrev pub ordinal : Rule
ordinal = token (number 0 most_ordinal)

-- firing = number number number . (instance, transition and choice)
abbrev pub firing : Rule
firing = seq ordinal (seq ordinal ordinal)

-- move = "take" | "fire" firing .
abbrev pub move : Rule
move = alt (word (said "take") done) (word (said "fire") firing)

-- the words that a move begins with
abbrev pub move_starts : List Test
move_starts = said "take" ∷ said "fire" ∷ []

-- explanation = "explanation" "1" { move } "yields" number . The claim is one more than there may be
-- events where it is for all with nothing after them.
abbrev pub explanation : Rule
explanation = word (said "explanation") (word (number 1 1)
    (seq (rep move) (word (said "yields") (token (number 0 (most_events + 1))))))
