-- What a reader of lists does, a line at a time.
use Rattle.std.specs.Prelude.{◌≡◌, ◌<◌, ◌≤◌, ℕ, Bool, true, false, List, [], ◌++◌, length}
use Rattle.std.specs.Prelude.{Option, Some, None, slice_get}
use Rattle.est_syntax.specs.declared.ports.Port.{Port}
use Rattle.est_syntax.specs.declared.ports.Signal.{Signal}
use Rattle.text_reader.specs.Going.{Shape}
use Rattle.text_reader.specs.Grammar.{rule}
use Rattle.text_reader.specs.Moving.{bit}
use Rattle.text_reader.specs.Tests.{Test}
use Rattle.text_reader.specs.declared.reader.Reader.{Reader}
use Rattle.text_reader.specs.declared.outcome.Outcome.TheVariants.{Well}
use Rattle.text_values.specs.TraceGrammar.{lists_at, list_starts, named_port, subscripts}
use Rattle.text_values.specs.ValueReading.{Reads}
use Rattle.est_values.specs.declared.value.Value.{Value}
use Rattle.est_meaning.specs.declared.event.Event.{Event}
use Rattle.est_meaning.specs.declared.event.Interaction.{Interaction}
use Rattle.mean_ports.specs.declared.lists.PortLists.{PortLists}
use Rattle.mean_ports.specs.ListsOfEvents.{AreListsOf}
use Rattle.est_trace.specs.PortNames.{kinds_of, signals_of}
use Rattle.est_trace.specs.ListShapes.{Named, ShowsParts}
use Rattle.est_trace.specs.declared.growing.Growing.{Growing}
use Rattle.est_trace.specs.declared.lists.NamedPort.{NamedPort}
use Rattle.est_trace.specs.inside.GrowingLists.{GrowsBy}
use Rattle.est_trace.specs.inside.Lookups.{Chooses}
use Rattle.est_trace.specs.inside.Parts.{IsPortAt, ShowsElement}

-- THE PORT THAT WAS NAMED LAST

-- a port that is named, with the signals of its head
abbrev pub named_as : List Port → NamedPort → Named
named_as ports p =
    record { number = p.number; signals = signals_of (slice_get ports p.head) }

-- the same, if one is
abbrev pub named : List Port → Option NamedPort → Option Named
named ports None = None
named ports (Some p) = Some (named_as ports p)

-- the signals of a port that is named, if one is
abbrev pub signals_named : Option Named → Option (List Signal)
signals_named None = None
signals_named (Some n) = Some n.signals

-- the port that is named, if one is, is there
abbrev pub IsThere : List Port → Option NamedPort → Type 0
IsThere ports None = Unit {0}
IsThere ports (Some p) = IsPortAt ports p.number

-- an interaction at a port, by their numbers, with these values
abbrev pub valued : ℕ → ℕ → List Value → Interaction
valued port signal values = record { port = port; signal = signal; values = values }

-- the words that a line begins with, where a port is named or none is
abbrev pub line_starts : Bool → List Test
line_starts false = list_starts None
line_starts true = list_starts (Some [])

-- the name of a head is taken, and the subscripts of the port
pub record NamesPort (ports : List Port) (old : Reader) (p : NamedPort) (new : Reader) : Type 0
  where
    pub middle : Reader
    pub chooses : Chooses (named_port ports) ports old p.head middle
    pub reads : Reads (subscripts (kinds_of (slice_get ports p.head)))
        (ShowsElement ports p.head p.number) middle new

-- LINES

-- a reader with so many levels to open in place of its own
abbrev pub with_levels : ℕ → Reader → Reader
with_levels levels reader = record reader { levels = levels }

-- Lines were read. With whatever is read after them as the rest of the lists, they are the lists,
-- and these events stand before those of the rest.
pub record GoesOn (ports : List Port) (at at' : Option Named) (events : List Event)
    (old new : Reader) : Type 0 where
  pub on : (rest : List Event) (last : Reader)
      → Reads (rule (lists_at ports (signals_named at'))) (ShowsParts ports at' rest) new last
      → Reads (rule (lists_at ports (signals_named at))) (ShowsParts ports at (events ++ rest)) old
      (with_levels old.levels last)
  pub tokens : new.tokens.now ≡ old.tokens.now
  pub onward : old.at ≤ new.at
  pub sticky : bit new.outcome ≤ bit old.outcome

-- a line is taken, with its event, if it has one, and names the port that is named after it
pub record TakesLine (ports : List Port) (at at' : Option NamedPort) (found found' : Growing)
    (old new : Reader) : Type 0 where
  pub events : List Event
  pub goes : GoesOn ports (named ports at) (named ports at') events old new
  pub further : new.outcome ≡ Well → old.at < new.at
  pub there : new.outcome ≡ Well → IsThere ports at → IsThere ports at'
  pub grown : new.outcome ≡ Well → IsThere ports at
      → GrowsBy (length ports) events found found'

-- lists have this shape, from the first line on
pub record ShowsMerge (ports : List Port) (lists : PortLists) (t : Shape) : Type 0 where
  pub events : List Event
  pub shown : ShowsParts ports None events t
  pub lists_are : AreListsOf (length ports) lists events
