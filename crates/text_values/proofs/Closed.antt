-- Nothing goes on after an ordinal, a value, what was seen of one, or an event.
use Rattle.std.proofs.Common.{◌≡◌, ℕ, ℤ, pos, negsuc, Bool, true, false, not, ◌&&◌, List, []}
use Rattle.std.proofs.Common.{◌∷◌, ◌++◌, take, refl, ap₂, subst, Option, Some, None, slice_get}
use Rattle.std.proofs.Common.{bytes_eq}
use Rattle.std.specs.List.{list_any}
use Rattle.est_lexer.specs.declared.kind.Symbol.{Symbol}
use Rattle.est_lexer.specs.declared.kind.Symbol.TheVariants as symbols
use Rattle.text_reader.specs.Grammar.{done, word, seq, when, one_of}
use Rattle.text_reader.specs.Marks.{MeetsOne, can_go_on}
use Rattle.text_reader.proofs.GrammarLaws.{IsClosed}
use Rattle.est_syntax.specs.declared.kind.Kind.{Kind, out-Kind}
use Rattle.est_syntax.specs.declared.kind.Kind.TheOpen as kinds
use Rattle.est_syntax.specs.declared.ports.Direction.{Direction}
use Rattle.est_syntax.specs.declared.ports.Direction.TheVariants.{Receives, Sends}
use Rattle.est_syntax.specs.declared.ports.Port.{Port}
use Rattle.est_syntax.specs.declared.ports.Signal.{Signal}
use Rattle.est_values.specs.FittingValues.{first_ordinal, last_ordinal, KindLayer}
use Rattle.est_values.specs.OrdinalTuples.{ordinals_of}
use Rattle.text_reader.specs.Tests.{named, holds, language}
use Rattle.text_values.specs.declared.formats.Format.{Format}
use Rattle.text_values.specs.declared.formats.Format.TheVariants.{Complete, Partial}
use Rattle.text_values.specs.TraceGrammar.{Rule, bracketed, integers, characters, constant}
use Rattle.text_values.specs.TraceGrammar.{numbered_constant, constants, boolean_names}
use Rattle.text_values.specs.TraceGrammar.{bytes_of, host_by, ordinal_by, ordinal, scalar, formed}
use Rattle.text_values.specs.TraceGrammar.{a_value, value, a_seen, seen, passes, some_pass}
use Rattle.text_values.specs.TraceGrammar.{brackets, subscripts, signal, dot_signal, is_head}
use Rattle.text_values.specs.TraceGrammar.{port, event, port_event, production, marks}

-- where the list of tests is empty, no token meets one
pub is_closed : (text : List ℕ) (g : Rule) → can_go_on marks g ≡ []
    → IsClosed (language production text) marks g
is_closed text g e o m = subst (MeetsOne (holds text) o) e m

pub when_closed : (b : Bool) (g : Rule) → can_go_on marks g ≡ []
    → can_go_on marks (when b g) ≡ []
when_closed true g e = e
when_closed false g e = refl

pub one_of_closed : {A : Type 0} (f : A → Rule) (xs : List A)
    → ((x : A) → can_go_on marks (f x) ≡ []) → can_go_on marks (one_of f xs) ≡ []
one_of_closed f [] h = refl
one_of_closed f (x ∷ xs) h = ap₂ (λ a b. a ++ b) (h x) (one_of_closed f xs h)

numbered_closed : (names : List (List ℕ)) (n : ℕ) (o : Option (List ℕ))
    → can_go_on marks (numbered_constant names n o) ≡ []
numbered_closed names n None = refl
numbered_closed names n (Some name) =
    when_closed (not (list_any (bytes_eq name) (take n names))) (word (named name) done) refl

constant_closed : (names : List (List ℕ)) (z : ℤ) → can_go_on marks (constant names z) ≡ []
constant_closed names (pos n) = numbered_closed names n (slice_get names n)
constant_closed names (negsuc n) = refl

constants_closed : (names : List (List ℕ)) (k : Kind) → can_go_on marks (constants names k) ≡ []
constants_closed names k = one_of_closed (constant names) (ordinals_of k) (constant_closed names)

integers_closed : (low high : ℤ) → can_go_on marks (integers low high) ≡ []
integers_closed (pos a) (pos b) = refl
integers_closed (pos a) (negsuc b) = refl
integers_closed (negsuc a) (pos b) = refl
integers_closed (negsuc a) (negsuc b) = refl

characters_closed : (low high : ℤ) → can_go_on marks (characters low high) ≡ []
characters_closed low (pos b) = refl
characters_closed low (negsuc b) = refl

ordinal_by_closed : (l : KindLayer) (k : Kind) → can_go_on marks (ordinal_by l k) ≡ []
ordinal_by_closed kinds.Integer k = integers_closed (first_ordinal k) (last_ordinal k)
ordinal_by_closed kinds.Boolean k = constants_closed boolean_names k
ordinal_by_closed kinds.Char k = characters_closed (first_ordinal k) (last_ordinal k)
ordinal_by_closed (kinds.Enumeration declared names) k = constants_closed (bytes_of names) k
ordinal_by_closed (kinds.Part host low high) k = refl
ordinal_by_closed (kinds.SetOf base) k = refl
ordinal_by_closed (kinds.ArrayOf index of) k = refl
ordinal_by_closed (kinds.Fields fields) k = refl

-- an ordinal
pub ordinal_closed : (k : Kind) → can_go_on marks (ordinal k) ≡ []
ordinal_closed k = ordinal_by_closed (out-Kind (host_by (out-Kind k) k)) k

pub bracketed_closed : {A : Type 0} (first last : Symbol) (f : A → Rule) (xs : List A)
    → can_go_on marks (bracketed first last f xs) ≡ []
bracketed_closed first last f [] = refl
bracketed_closed first last f (x ∷ xs) = refl

-- parameters, and subscripts
pub brackets_closed : (direction : Direction) (f : Format) (ks : List Kind)
    → can_go_on marks (brackets direction f ks) ≡ []
brackets_closed Receives f ks =
    bracketed_closed symbols.LeftParenthesis symbols.RightParenthesis a_value ks
brackets_closed Sends Complete ks =
    bracketed_closed symbols.LeftParenthesis symbols.RightParenthesis a_value ks
brackets_closed Sends Partial ks =
    bracketed_closed symbols.LeftParenthesis symbols.RightParenthesis a_seen ks

pub subscripts_closed : (ks : List Kind) → can_go_on marks (subscripts ks) ≡ []
subscripts_closed ks =
    bracketed_closed symbols.LeftBracket symbols.RightBracket ordinal ks

scalar_closed : (g : Rule) → can_go_on marks g ≡ [] → can_go_on marks (scalar g) ≡ []
scalar_closed g e = ap₂ (λ a b. a ++ b) e refl

formed_closed : (part : Kind → Rule) (l : KindLayer) (k : Kind)
    → can_go_on marks (formed part l k) ≡ []
formed_closed part kinds.Integer k = scalar_closed (ordinal k) (ordinal_closed k)
formed_closed part kinds.Boolean k = scalar_closed (ordinal k) (ordinal_closed k)
formed_closed part kinds.Char k = scalar_closed (ordinal k) (ordinal_closed k)
formed_closed part (kinds.Enumeration declared names) k =
    scalar_closed (ordinal k) (ordinal_closed k)
formed_closed part (kinds.Part host low high) k = scalar_closed (ordinal k) (ordinal_closed k)
formed_closed part (kinds.SetOf base) k = refl
formed_closed part (kinds.ArrayOf index of) k = refl
formed_closed part (kinds.Fields fields) k = refl

-- a value
pub value_closed : (k : Kind) → can_go_on marks (value k) ≡ []
value_closed k = formed_closed a_value (out-Kind k) k

-- what was seen of one
pub seen_closed : (k : Kind) → can_go_on marks (seen k) ≡ []
seen_closed k = formed_closed a_seen (out-Kind k) k

-- a signal, a port and an event
pub signal_closed : (f : Format) (direction : Direction) (x : Signal)
    → can_go_on marks (signal f direction x) ≡ []
signal_closed f direction x = when_closed (passes direction x)
    (word (named x.name.bytes) (brackets direction f x.kinds))
    (brackets_closed direction f x.kinds)

pub dot_signal_closed : (f : Format) (direction : Direction) (xs : List Signal)
    → can_go_on marks (dot_signal f direction xs) ≡ []
dot_signal_closed f direction xs =
    one_of_closed (signal f direction) xs (signal_closed f direction)

pub port_closed : (f : Format) (direction : Direction) (p : Port)
    → can_go_on marks (port f direction p) ≡ []
port_closed f direction p = when_closed (is_head p && some_pass direction p.signals)
    (word (named p.name.bytes)
    (seq (subscripts p.index_kinds) (dot_signal f direction p.signals)))
    (ap₂ (λ a b. a ++ b) (dot_signal_closed f direction p.signals) refl)

pub event_closed : (f : Format) (ports : List Port) → can_go_on marks (event f ports) ≡ []
event_closed f ports =
    ap₂ (λ a b. a ++ b) (one_of_closed (port f Receives) ports (port_closed f Receives))
    (one_of_closed (port f Sends) ports (port_closed f Sends))

-- an event at a port that is named
pub port_event_closed : (signals : List Signal) → can_go_on marks (port_event signals) ≡ []
port_event_closed signals = ap₂ (λ a b. a ++ b)
    (one_of_closed (signal Complete Receives) signals (signal_closed Complete Receives))
    (one_of_closed (signal Complete Sends) signals (signal_closed Complete Sends))
