-- Which tokens are the text of one trace for each port, and what its reader answers.
use Rattle.std.specs.Prelude.{◌≡◌, ℕ, ◌+◌, List, Result, Ok, Err}
use Rattle.est_lexer.specs.declared.kind.Token.{Token}
use Rattle.est_syntax.specs.declared.ports.Port.{Port}
use Rattle.text_reader.specs.Going.{Shape}
use Rattle.text_reader.specs.Sentences.{HasTree, HasPartial, IsFirstBadPlace}
use Rattle.text_values.specs.TraceGrammar.{port_lists}
use Rattle.est_meaning.specs.AllowedEvents.{most_events}
use Rattle.est_trace.specs.TraceText.{traces}
use Rattle.est_trace.specs.declared.error.TraceError.{TraceError}
use Rattle.est_trace.specs.declared.error.TraceError.TheVariants.{BadToken, TooMany, Memory}
use Rattle.mean_ports.specs.declared.lists.PortLists.{PortLists}
use Rattle.est_trace.specs.ListShapes.{ShowsLists}

-- the tokens of the text are a text of the lists
abbrev pub IsListsText : List Port → List ℕ → List Token → PortLists → Type 0
IsListsText ports text tokens lists =
    (t : Shape) × HasTree (traces text) (port_lists ports) most_events tokens t
    × ShowsLists ports lists t

-- the tokens of the text are a text of the lists, and of no others
abbrev pub IsOnlyListsText : List Port → List ℕ → List Token → PortLists → Type 0
IsOnlyListsText ports text tokens lists = IsListsText ports text tokens lists
    × ((other : PortLists) → IsListsText ports text tokens other → other ≡ lists)

-- the first bad place of the tokens as such a text
abbrev pub IsBadListPlace : List Port → List ℕ → List Token → ℕ → Type 0
IsBadListPlace ports text tokens place =
    IsFirstBadPlace (traces text) (port_lists ports) most_events tokens place

-- the token at the place is refused for the number of events alone: in a text of one more it would
-- go on
pub record IsEventTooMany (ports : List Port) (text : List ℕ) (tokens : List Token) (place : ℕ)
    : Type 0 where
  pub goes_on : HasPartial (traces text) (port_lists ports) (most_events + 1) tokens (place + 1)

-- what an error says of the tokens: their first bad place, and whether it is an event too many; out
-- of memory says nothing
abbrev pub IsListsRefusal : List Port → List ℕ → List Token → TraceError → Type 0
IsListsRefusal ports text tokens (BadToken place) = IsBadListPlace ports text tokens place
    × (IsEventTooMany ports text tokens place → ⊥)
IsListsRefusal ports text tokens (TooMany place) = IsBadListPlace ports text tokens place
    × IsEventTooMany ports text tokens place
IsListsRefusal ports text tokens (Memory error) = Unit {0}

-- what is answered: the lists whose text the tokens are, or why they are none
abbrev pub ReadsLists : List Port → List ℕ → List Token → Result PortLists TraceError → Type 0
ReadsLists ports text tokens (Ok lists) = IsOnlyListsText ports text tokens lists
ReadsLists ports text tokens (Err error) = IsListsRefusal ports text tokens error
