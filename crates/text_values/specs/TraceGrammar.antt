-- The grammar of traces, for the ports of one specification.
use Rattle.std.specs.Prelude.{ℕ, max, ℤ, pos, negsuc, neg_ℤ, Bool, true, false, not, ◌&&◌, codes}
use Rattle.std.specs.Prelude.{List, [], ◌∷◌, map, take, replicate, Option, Some, None, bytes_eq}
use Rattle.std.specs.Prelude.{slice_get}
use Rattle.std.specs.List.{list_any}
use Rattle.std.specs.Ordering.{int_eq}
use Rattle.est_lexer.specs.declared.kind.TokenKind.TheVariants as token_kind
use Rattle.est_lexer.specs.declared.kind.Symbol.{Symbol}
use Rattle.est_lexer.specs.declared.kind.Symbol.TheVariants as symbols
use Rattle.text_reader.specs.Grammar.{done, none, word, token, seq, alt, opt, rep, deeper, rule}
use Rattle.text_reader.specs.Grammar.{when, one_of}
use Rattle.text_reader.specs.Marks.{Marks, can_begin}
use Rattle.est_syntax.specs.declared.kind.Kind.{Kind, out-Kind}
use Rattle.est_syntax.specs.declared.kind.Kind.TheOpen as kinds
use Rattle.est_syntax.specs.declared.name.Name.{Name}
use Rattle.est_syntax.specs.declared.ports.Direction.{Direction}
use Rattle.est_syntax.specs.declared.ports.Direction.TheVariants.{Receives, Sends}
use Rattle.est_syntax.specs.declared.ports.Port.{Port}
use Rattle.est_syntax.specs.declared.ports.Signal.{Signal}
use Rattle.est_syntax.specs.Kinds.{maxint}
use Rattle.est_values.specs.FittingValues.{first_ordinal, last_ordinal, ordinal_count, KindLayer}
use Rattle.est_values.specs.OrdinalTuples.{ordinals_of}
use Rattle.text_values.specs.declared.formats.Format.{Format}
use Rattle.text_values.specs.declared.formats.Format.TheVariants.{Complete, Partial}
use Rattle.text_values.specs.declared.formats.Version.{Version}
use Rattle.text_values.specs.declared.formats.Version.TheVariants.{First, Second, Third}
pub use Rattle.text_values.specs.TraceVersions.{format_of}
pub use Rattle.text_values.specs.WrittenOrdinals.{host_by, to_natural}
pub use Rattle.text_values.specs.WrittenValues.{field_kinds}
use Rattle.text_reader.specs.Tests.{Test, kind, said, named, number, character}
use Rattle.text_reader.specs.Going as going

-- The productions: events at these ports in a format; the lists of these ports, after the name of a
-- port with these signals or with no port named; a value of a kind, and what was seen of one.
pub data Production : Type 0 where
  events_at : Format → List Port → Production
  lists_at : List Port → Option (List Signal) → Production
  value_of : Kind → Production
  seen_of : Kind → Production

abbrev pub Rule : Type 0
Rule = going.Rule Production

-- a symbol, and the rest
abbrev pub symbol : Symbol → Rule → Rule
symbol s g = word (kind (token_kind.Symbol s)) g

-- LISTS

-- those of a list that stand after another, each after a comma
abbrev pub more : {A : Type 0} → (A → Rule) → List A → Rule
more f [] = done
more f (x ∷ xs) = seq (symbol symbols.Comma (f x)) (more f xs)

-- one for each item of a list, with commas between them
abbrev pub listed : {A : Type 0} → (A → Rule) → List A → Rule
listed f [] = done
listed f (x ∷ xs) = seq (f x) (more f xs)

-- such a list in brackets
abbrev pub enclosed : {A : Type 0} → Symbol → Symbol → (A → Rule) → List A → Rule
enclosed opening closing f xs = symbol opening (seq (listed f xs) (symbol closing done))

-- the same where there are items, else nothing
abbrev pub bracketed : {A : Type 0} → Symbol → Symbol → (A → Rule) → List A → Rule
bracketed opening closing f [] = done
bracketed opening closing f (x ∷ xs) = enclosed opening closing f (x ∷ xs)

-- ORDINALS

-- whether an integer is not negative
abbrev pub is_natural : ℤ → Bool
is_natural (pos n) = true
is_natural (negsuc n) = false

-- an integer within bounds that is not negative: a number
abbrev pub numbers : ℤ → ℤ → Rule
numbers low high = when (is_natural high) (token (number (to_natural low) (to_natural high)))

-- an integer within bounds: a number, or "-" and a number above 0
abbrev pub integers : ℤ → ℤ → Rule
integers low high = alt (numbers low high) (when (not (is_natural low)) (symbol symbols.Minus
    (token (number (max (to_natural (neg_ℤ high)) 1) (to_natural (neg_ℤ low))))))

-- `chr`, and the code of a character within bounds in parentheses
abbrev pub coded : ℕ → ℕ → Rule
coded low high = word (named (codes "chr")) (symbol symbols.LeftParenthesis
    (seq (token (number low high)) (symbol symbols.RightParenthesis done)))

-- a character within bounds: a character constant, or its code
abbrev pub characters : ℤ → ℤ → Rule
characters low high = when (is_natural high) (alt
    (token (character (to_natural low) (to_natural high)))
    (coded (to_natural low) (to_natural high)))

-- a constant with this number, where it has this name. Of two constants with one name, which no
-- good specification has, the name is that of the first.
abbrev pub numbered_constant : List (List ℕ) → ℕ → Option (List ℕ) → Rule
numbered_constant names n None = none
numbered_constant names n (Some name) =
    when (not (list_any (bytes_eq name) (take n names))) (word (named name) done)

-- the constant that has this ordinal, by its name
abbrev pub constant : List (List ℕ) → ℤ → Rule
constant names (pos n) = numbered_constant names n (slice_get names n)
constant names (negsuc n) = none

-- the constants of the values of a kind
abbrev pub constants : List (List ℕ) → Kind → Rule
constants names k = one_of (constant names) (ordinals_of k)

-- the names of the constants of the type boolean (ISO 7185, 6.4.2.2)
abbrev pub boolean_names : List (List ℕ)
boolean_names = codes "false" ∷ codes "true" ∷ []

-- the names of constants, as bytes
abbrev pub bytes_of : List Name → List (List ℕ)
bytes_of names = map (λ (n : Name). n.bytes) names

-- an ordinal of a kind whose host is this; a kind without ordinals has none
abbrev pub ordinal_by : KindLayer → Kind → Rule
ordinal_by kinds.Integer k = integers (first_ordinal k) (last_ordinal k)
ordinal_by kinds.Boolean k = constants boolean_names k
ordinal_by kinds.Char k = characters (first_ordinal k) (last_ordinal k)
ordinal_by (kinds.Enumeration declared names) k = constants (bytes_of names) k
ordinal_by _ k = none

-- a value of an ordinal kind (ISO 7185, 6.4.2)
abbrev pub ordinal : Kind → Rule
ordinal k = ordinal_by (out-Kind (host_by (out-Kind k) k)) k

-- VALUES

-- the members of a set over a base, in any order
abbrev pub members : Kind → Rule
members base = seq (ordinal base) (rep (symbol symbols.Comma (ordinal base)))

-- a set over a base: nothing, or its members in any order, repeats allowed, in brackets
abbrev pub set : Kind → Rule
set base = symbol symbols.LeftBracket
    (alt (symbol symbols.RightBracket done) (seq (members base) (symbol symbols.RightBracket done)))

-- g, or `_` for an undefined scalar
abbrev pub scalar : Rule → Rule
scalar g = alt g (symbol symbols.Underscore done)

-- a value of a kind, as a production
abbrev pub a_value : Kind → Rule
a_value k = rule (value_of k)

-- parts of these kinds in order, in parentheses
abbrev pub group_of : (Kind → Rule) → List Kind → Rule
group_of part ks = enclosed symbols.LeftParenthesis symbols.RightParenthesis part ks

-- a value of a kind of this form: a scalar, or a group of its parts
abbrev pub formed : (Kind → Rule) → KindLayer → Kind → Rule
formed part (kinds.SetOf base) k = scalar (set base)
formed part (kinds.ArrayOf index of) k = group_of part (replicate (ordinal_count index) of)
formed part (kinds.Fields fields) k = group_of part (field_kinds fields)
formed part _ k = scalar (ordinal k)

-- the values of these kinds in order, in parentheses
abbrev pub group : List Kind → Rule
group ks = group_of a_value ks

-- a value of a kind of this form
abbrev pub value_by : KindLayer → Kind → Rule
value_by l k = formed a_value l k

abbrev pub value : Kind → Rule
value k = value_by (out-Kind k) k

-- WHAT WAS SEEN OF VALUES

-- what was seen of a value of a kind, as a production
abbrev pub a_seen : Kind → Rule
a_seen k = rule (seen_of k)

-- `?` for any value, or g
abbrev pub unseen : Rule → Rule
unseen g = alt (symbol symbols.QuestionMark done) g

-- What was seen of a value of a kind. A `?` may stand for it and for each component of an array or
-- of a record, and for no member of a set.
abbrev pub seen : Kind → Rule
seen k = unseen (formed a_seen (out-Kind k) k)

-- EVENTS

-- whether a signal passes its port in this direction: the port receives it, or sends it
abbrev pub passes : Direction → Signal → Bool
passes Receives signal = signal.receives
passes Sends signal = signal.sends

-- whether some signal passes its port in this direction
abbrev pub some_pass : Direction → List Signal → Bool
some_pass direction signals = list_any (passes direction) signals

-- parameters of these kinds by this rule, in parentheses where there are some
abbrev pub parenthesized : (Kind → Rule) → List Kind → Rule
parenthesized part ks = bracketed symbols.LeftParenthesis symbols.RightParenthesis part ks

-- the values of parameters of these kinds, and what was seen of them
abbrev pub parameters : List Kind → Rule
parameters ks = parenthesized a_value ks

abbrev pub seen_parameters : List Kind → Rule
seen_parameters ks = parenthesized a_seen ks

-- the brackets of a signal that passes in this direction: what was seen may stand in those of a
-- departure
abbrev pub brackets : Direction → Format → List Kind → Rule
brackets Receives format ks = parameters ks
brackets Sends Complete ks = parameters ks
brackets Sends Partial ks = seen_parameters ks

-- the subscripts of an element of an array in brackets
abbrev pub subscripts : List Kind → Rule
subscripts ks = bracketed symbols.LeftBracket symbols.RightBracket ordinal ks

-- a signal that passes in this direction: its name, and its parameters in brackets
abbrev pub signal : Format → Direction → Signal → Rule
signal format direction x =
    when (passes direction x) (word (named x.name.bytes) (brackets direction format x.kinds))

-- "." and one of these signals
abbrev pub dot_signal : Format → Direction → List Signal → Rule
dot_signal format direction signals =
    symbol symbols.Period (one_of (signal format direction) signals)

-- whether each of these is the first ordinal of its kind
abbrev pub are_first : List Kind → List ℤ → Bool
are_first [] [] = true
are_first (k ∷ ks) (z ∷ zs) = int_eq z (first_ordinal k) && are_first ks zs
are_first _ _ = false

-- whether a port stands for its name: alone, or as the first element of an array
abbrev pub is_head : Port → Bool
is_head p = are_first p.index_kinds p.index

-- a port that some signal passes in this direction: its name with its subscripts, where it is an
-- element of an array, "." and such a signal. An array has one alternative, that of its first
-- element.
abbrev pub port : Format → Direction → Port → Rule
port format direction p =
    when (is_head p && some_pass direction p.signals) (word (named p.name.bytes)
    (seq (subscripts p.index_kinds) (dot_signal format direction p.signals)))

-- "time" number
abbrev pub time : Rule
time = word (said "time") (token (number 0 maxint))

-- event = "time" number | "in" port "." signal | "out" port "." signal .
abbrev pub event : Format → List Port → Rule
event format ports = alt time (alt (word (said "in") (one_of (port format Receives) ports))
    (word (said "out") (one_of (port format Sends) ports)))

-- { event }, each event within a level of its own: the levels count the events.
abbrev pub events : Format → List Port → Rule
events format ports =
    opt (deeper (seq (event format ports) (rule (events_at format ports))))

-- the number of a version
abbrev pub version : Version → Test
version First = number 1 1
version Second = number 2 2
version Third = number 3 3

-- what may stand behind the end: [ "quiet" ] in version 3, and else nothing
abbrev pub ending : Version → Rule
ending First = done
ending Second = done
ending Third = opt (word (said "quiet") done)

-- { event } "end", and what may stand behind it
abbrev pub to_end : Version → List Port → Rule
to_end v ports = seq (rule (events_at (format_of v) ports)) (word (said "end") (ending v))

-- the number of a version, and the rest of a trace of it
abbrev pub versioned : Version → List Port → Rule
versioned v ports = word (version v) (to_end v ports)

-- trace = "trace" ( "1" { event } "end" | "2" { event } "end" | "3" { event } "end" [ "quiet" ] ) .
-- In versions 2 and 3 a `?` may stand in the brackets of a departure.
abbrev pub trace : List Port → Rule
trace ports = word (said "trace")
    (alt (versioned First ports) (alt (versioned Second ports) (versioned Third ports)))

-- ONE TRACE FOR EACH PORT

-- an event at a port with these signals: "in" signal | "out" signal
abbrev pub port_event : List Signal → Rule
port_event signals = alt (word (said "in") (one_of (signal Complete Receives) signals))
    (word (said "out") (one_of (signal Complete Sends) signals))

-- the next event at the port that was named last, and the rest; where none was named, there is none
abbrev pub port_event_at : List Port → Option (List Signal) → Rule
port_event_at ports None = none
port_event_at ports (Some signals) = seq (port_event signals) (rule (lists_at ports (Some signals)))

-- a port: its name with its subscripts, where it is an element of an array, and the rest
abbrev pub named_port : List Port → Port → Rule
named_port ports p = when (is_head p) (word (named p.name.bytes)
    (seq (subscripts p.index_kinds) (rule (lists_at ports (Some p.signals)))))

-- { "port" port { "in" signal | "out" signal } | "time" number }, from the name of a port on, or
-- with no port named. After a time no port is named. Each event, and each time, is within a level:
-- the levels count them.
abbrev pub lists : List Port → Option (List Signal) → Rule
lists ports at = opt (alt (word (said "port") (one_of (named_port ports) ports))
    (deeper (alt (seq time (rule (lists_at ports None))) (port_event_at ports at))))

-- ports = "ports" "1" { "port" port { "in" signal | "out" signal } | "time" number } "end" .
abbrev pub port_lists : List Port → Rule
port_lists ports = word (said "ports") (word (number 1 1)
    (seq (rule (lists_at ports None)) (word (said "end") done)))

-- the words that go on with lists, and those that an event at a port begins with
abbrev pub list_starts : Option (List Signal) → List Test
list_starts None = said "port" ∷ said "time" ∷ []
list_starts (Some signals) = said "port" ∷ said "time" ∷ said "in" ∷ said "out" ∷ []

-- the words that an event begins with
abbrev pub event_starts : List Port → List Test
event_starts ports = said "time" ∷ said "in" ∷ said "out" ∷ []

-- THE LANGUAGE

-- the right side of each production
abbrev pub production : Production → Rule
production (events_at format ports) = events format ports
production (lists_at ports at) = lists ports at
production (value_of k) = value k
production (seen_of k) = seen k

-- Marks that say nothing of productions. They do for values, none of which begins with a
-- production.
abbrev pub no_marks : Marks Test Production
no_marks = record { starts = λ p. []; goes_on = λ p. []; is_empty = λ p. false }

abbrev pub starts : Production → List Test
starts (events_at format ports) = event_starts ports
starts (lists_at ports at) = list_starts at
starts (value_of k) = can_begin no_marks (value k)
starts (seen_of k) = can_begin no_marks (seen k)

-- only an event goes on after events, only what lists begin with after lists, in which a port may
-- be named, and nothing after a value
abbrev pub goes_on : Production → List Test
goes_on (events_at format ports) = event_starts ports
goes_on (lists_at ports at) = list_starts (Some [])
goes_on (value_of k) = []
goes_on (seen_of k) = []

abbrev pub is_empty : Production → Bool
is_empty (events_at format ports) = true
is_empty (lists_at ports at) = true
is_empty (value_of k) = false
is_empty (seen_of k) = false

abbrev pub marks : Marks Test Production
marks = record { starts = starts; goes_on = goes_on; is_empty = is_empty }
