-- The canonical text of a trace: a line for its head, one for each event and one for its end.
use Rattle.std.specs.Prelude.{ℕ, ℤ, Bool, true, false, List, [], ◌++◌, codes, flat_map, Option}
use Rattle.std.specs.Prelude.{slice_get, if◌then◌else◌}
use Rattle.std.specs.Fmt.{decimal}
use Rattle.std.specs.List.{list_all}
use Rattle.std.specs.Option.{option_map_or}
use Rattle.est_syntax.specs.declared.kind.Kind.{Kind}
use Rattle.est_syntax.specs.declared.ports.Port.{Port}
use Rattle.est_syntax.specs.declared.ports.Signal.{Signal}
use Rattle.est_meaning.specs.declared.event.Interaction.{Interaction}
use Rattle.est_meaning.specs.declared.event.Event.{Event}
use Rattle.est_meaning.specs.declared.event.Event.TheVariants.{Arrives, Leaves, Passes}
use Rattle.est_meaning.specs.declared.trace.Expected.{Expected}
use Rattle.est_meaning.specs.declared.trace.Expected.TheVariants.{Known, Partly}
use Rattle.est_meaning.specs.RecordedTraces.{Recorded}
use Rattle.text_values.specs.WrittenLists.{bracketed, paired}
use Rattle.text_values.specs.WrittenOrdinals.{ordinal_text}
use Rattle.text_values.specs.WrittenSeen.{seen_texts}
use Rattle.text_values.specs.WrittenValues.{value_texts}

-- the texts of ordinals of these kinds
abbrev pub ordinal_texts : List Kind → List ℤ → List (List ℕ)
ordinal_texts kinds index = paired ordinal_text kinds index

-- the subscripts of a port in brackets, where it is an element of an array
abbrev pub index_text : Port → List ℕ
index_text p = bracketed (codes "[") (codes "]") (ordinal_texts p.index_kinds p.index)

-- what stands in brackets for parameters of these kinds
abbrev pub Parts : Type 0
Parts = List Kind → List (List ℕ)

-- a signal: its name, and its parameters in parentheses where it has some
abbrev pub signal_text : Parts → Signal → List ℕ
signal_text parts s = s.name.bytes ++ bracketed (codes "(") (codes ")") (parts s.kinds)

-- the name of a port, if there is one, its subscripts, the kinds of them, and its signals
abbrev pub name_at : Option Port → List ℕ
name_at port = option_map_or (λ (p : Port). p.name.bytes) port []

abbrev pub index_at : Option Port → List ℕ
index_at port = option_map_or index_text port []

abbrev pub kinds_at : Option Port → List Kind
kinds_at port = option_map_or (λ (p : Port). p.index_kinds) port []

abbrev pub signals_at : Option Port → List Signal
signals_at port = option_map_or (λ (p : Port). p.signals) port []

-- a signal, if there is one
abbrev pub signal_at : Parts → Option Signal → List ℕ
signal_at parts signal = option_map_or (signal_text parts) signal []

-- a port, and `.`
abbrev pub port_at : Option Port → List ℕ
port_at port = name_at port ++ index_at port ++ codes "."

-- a signal of one of these ports
abbrev pub text_at : List Port → ℕ → ℕ → Parts → List ℕ
text_at ports number signal parts = let port = slice_get ports number in
    port_at port ++ signal_at parts (slice_get (signals_at port) signal)

-- an interaction at one of these ports
abbrev pub interaction_text : List Port → Interaction → List ℕ
interaction_text ports x = text_at ports x.port x.signal (λ ks. value_texts ks x.values)

-- what an event is
abbrev pub happening : List Port → Event → List ℕ
happening ports (Arrives x) = codes "in " ++ interaction_text ports x
happening ports (Leaves x) = codes "out " ++ interaction_text ports x
happening ports (Passes units) = codes "time " ++ decimal units

-- what an event is that is expected
abbrev pub expectation : List Port → Expected → List ℕ
expectation ports (Known e) = happening ports e
expectation ports (Partly port signal seen) =
    codes "out " ++ text_at ports port signal (λ ks. seen_texts ks seen)

-- its line
abbrev pub event_line : List Port → Expected → List ℕ
event_line ports x = expectation ports x ++ codes "\n"

-- whether an event is known
abbrev pub is_known : Expected → Bool
is_known (Known e) = true
is_known (Partly port signal seen) = false

-- the first line: version 3 where the trace ends quiet, else version 1 where all events are known,
-- else version 2
abbrev pub head_line : Recorded → List ℕ
head_line r = if r.quiet then codes "trace 3\n"
    else (if list_all is_known r.events then codes "trace 1\n" else codes "trace 2\n")

-- the last line
abbrev pub end_line : Bool → List ℕ
end_line quiet = if quiet then codes "end quiet\n" else codes "end\n"

-- the text of a trace at these ports
abbrev pub trace_text : List Port → Recorded → List ℕ
trace_text ports r = head_line r ++ flat_map (event_line ports) r.events ++ end_line r.quiet
