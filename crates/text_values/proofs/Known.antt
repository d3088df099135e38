-- The table of the grammar of traces says enough.
use Rattle.std.proofs.Common.{◌≡◌, ℕ, ℤ, pos, negsuc, Bool, true, false, not, ◌||◌, List, []}
use Rattle.std.proofs.Common.{◌∷◌, ◌++◌, take, refl, ap, ap₂, subst, inl, inr, Option, Some, None}
use Rattle.std.proofs.Common.{slice_get, bytes_eq}
use Rattle.std.specs.List.{list_any}
use Rattle.text_reader.specs.Grammar.{done, word, seq, rule, when, one_of}
use Rattle.text_reader.specs.Marks.{MeetsOne, Fits, Within, can_begin, can_go_on, can_be_empty}
use Rattle.text_reader.proofs.Members
use Rattle.est_lexer.specs.declared.kind.Symbol.TheVariants as symbols
use Rattle.est_syntax.specs.declared.kind.Kind.{Kind, out-Kind}
use Rattle.est_syntax.specs.declared.kind.Kind.TheOpen as kinds
use Rattle.est_syntax.specs.declared.ports.Port.{Port}
use Rattle.est_syntax.specs.declared.ports.Signal.{Signal}
use Rattle.est_values.specs.FittingValues.{first_ordinal, last_ordinal, KindLayer}
use Rattle.est_values.specs.OrdinalTuples.{ordinals_of}
use Rattle.text_reader.specs.Tests.{Test, named, holds, language}
use Rattle.text_reader.specs.Going.{Shape}
use Rattle.text_reader.proofs.Going.{Known}
use Rattle.text_values.specs.declared.formats.Format.{Format}
use Rattle.text_values.specs.TraceGrammar.{Production, events_at, lists_at, value_of, seen_of, Rule}
use Rattle.text_values.specs.TraceGrammar.{port_event, port_event_at, named_port, lists}
use Rattle.text_values.specs.TraceGrammar.{list_starts, time}
use Rattle.text_values.specs.TraceGrammar.{is_head, subscripts}
use Rattle.text_values.specs.TraceGrammar.{integers, characters, constant, numbered_constant}
use Rattle.text_values.specs.TraceGrammar.{constants, boolean_names, bytes_of, host_by, ordinal_by}
use Rattle.text_values.specs.TraceGrammar.{ordinal, scalar, formed, a_value, value, a_seen, seen}
use Rattle.text_values.specs.TraceGrammar.{symbol, unseen, event, events}
use Rattle.text_values.specs.TraceGrammar.{event_starts, production, no_marks, starts}
use Rattle.text_values.specs.TraceGrammar.{goes_on, is_empty, marks}
use Rattle.text_values.specs.ValueReading.{plain}
use Rattle.text_values.proofs.Closed.{is_closed, value_closed, seen_closed, event_closed}
use Rattle.text_values.proofs.Closed.{subscripts_closed, port_event_closed}
use Rattle.text_values.proofs.Solid.{value_solid, seen_solid}

-- what begins a value is told without the table
abbrev IsSame : Rule → Type 0
IsSame g = can_begin marks g ≡ can_begin no_marks g

when_same : (b : Bool) (g : Rule) → IsSame g → IsSame (when b g)
when_same true g e = e
when_same false g e = refl

one_of_same : {A : Type 0} (f : A → Rule) (xs : List A) → ((x : A) → IsSame (f x))
    → IsSame (one_of f xs)
one_of_same f [] h = refl
one_of_same f (x ∷ xs) h = ap₂ (λ a b. a ++ b) (h x) (one_of_same f xs h)

numbered_same : (names : List (List ℕ)) (n : ℕ) (o : Option (List ℕ))
    → IsSame (numbered_constant names n o)
numbered_same names n None = refl
numbered_same names n (Some name) =
    when_same (not (list_any (bytes_eq name) (take n names))) (word (named name) done) refl

constant_same : (names : List (List ℕ)) (z : ℤ) → IsSame (constant names z)
constant_same names (pos n) = numbered_same names n (slice_get names n)
constant_same names (negsuc n) = refl

constants_same : (names : List (List ℕ)) (k : Kind) → IsSame (constants names k)
constants_same names k = one_of_same (constant names) (ordinals_of k) (constant_same names)

integers_same : (low high : ℤ) → IsSame (integers low high)
integers_same (pos a) (pos b) = refl
integers_same (pos a) (negsuc b) = refl
integers_same (negsuc a) (pos b) = refl
integers_same (negsuc a) (negsuc b) = refl

characters_same : (low high : ℤ) → IsSame (characters low high)
characters_same low (pos b) = refl
characters_same low (negsuc b) = refl

ordinal_by_same : (l : KindLayer) (k : Kind) → IsSame (ordinal_by l k)
ordinal_by_same kinds.Integer k = integers_same (first_ordinal k) (last_ordinal k)
ordinal_by_same kinds.Boolean k = constants_same boolean_names k
ordinal_by_same kinds.Char k = characters_same (first_ordinal k) (last_ordinal k)
ordinal_by_same (kinds.Enumeration declared names) k = constants_same (bytes_of names) k
ordinal_by_same (kinds.Part host low high) k = refl
ordinal_by_same (kinds.SetOf base) k = refl
ordinal_by_same (kinds.ArrayOf index of) k = refl
ordinal_by_same (kinds.Fields fields) k = refl

ordinal_same : (k : Kind) → IsSame (ordinal k)
ordinal_same k = ordinal_by_same (out-Kind (host_by (out-Kind k) k)) k

scalar_same : (g : Rule) → IsSame g → IsSame (scalar g)
scalar_same g e = ap₂ (λ a b. a ++ b) e refl

formed_same : (part : Kind → Rule) (l : KindLayer) (k : Kind) → IsSame (formed part l k)
formed_same part kinds.Integer k = scalar_same (ordinal k) (ordinal_same k)
formed_same part kinds.Boolean k = scalar_same (ordinal k) (ordinal_same k)
formed_same part kinds.Char k = scalar_same (ordinal k) (ordinal_same k)
formed_same part (kinds.Enumeration declared names) k = scalar_same (ordinal k) (ordinal_same k)
formed_same part (kinds.Part host low high) k = scalar_same (ordinal k) (ordinal_same k)
formed_same part (kinds.SetOf base) k = refl
formed_same part (kinds.ArrayOf index of) k = refl
formed_same part (kinds.Fields fields) k = refl

unseen_same : (g : Rule) → IsSame g → IsSame (unseen g)
unseen_same g e = ap (λ b. can_begin no_marks (symbol symbols.QuestionMark done) ++ b) e

seen_same : (k : Kind) → IsSame (seen k)
seen_same k = unseen_same (formed a_seen (out-Kind k) k) (formed_same a_seen (out-Kind k) k)

module _ (text : List ℕ) where
  starts_fit : (p : Production)
      → Within (language production text) (can_begin marks (production p)) (starts p)
  starts_fit (events_at f ports) o m = m
  starts_fit (lists_at ports None) o m = m
  starts_fit (lists_at ports (Some signals)) o m = m
  starts_fit (value_of k) o m =
      subst (MeetsOne (holds text) o) (formed_same a_value (out-Kind k) k) m
  starts_fit (seen_of k) o m = subst (MeetsOne (holds text) o) (seen_same k) m

  events_fit : (f : Format) (ports : List Port)
      → Within (language production text) (can_go_on marks (events f ports)) (event_starts ports)
  events_fit f ports o m = elim (Members.In-split (holds text) o
      (can_begin marks (event f ports) ++ [])
      (event_starts ports ++ can_go_on marks (event f ports)) m) [
        | inl q ↦ q
        | inr q ↦ elim (Members.In-split (holds text) o (event_starts ports)
            (can_go_on marks (event f ports)) q) [
              | inl r ↦ r
              | inr r ↦ absurd (is_closed text (event f ports) (event_closed f ports) o r)
            ]
      ]

  -- what goes on with lists
  abbrev Goes : List Test → Type 0
  Goes ks = Within (language production text) ks (list_starts (Some []))

  joined_goes : (xs ys : List Test) → Goes xs → Goes ys → Goes (xs ++ ys)
  joined_goes xs ys f g o m = elim (Members.In-split (holds text) o xs ys m) [
    | inl q ↦ f o q
    | inr q ↦ g o q
  ]

  closed_goes : (g : Rule) → can_go_on marks g ≡ [] → Goes (can_go_on marks g)
  closed_goes g e o m = absurd (is_closed text g e o m)

  starts_go : (at : Option (List Signal)) → Goes (list_starts at)
  starts_go None o (inl q) = inl q
  starts_go None o (inr (inl q)) = inr (inl q)
  starts_go None o (inr (inr q)) = absurd q
  starts_go (Some signals) o m = m

  -- the rest of the lists goes on after g, which nothing goes on with
  rest_goes : (g : Rule) → can_go_on marks g ≡ []
      → Goes (list_starts (Some []) ++ can_go_on marks g)
  rest_goes g e = joined_goes (list_starts (Some [])) (can_go_on marks g)
      (starts_go (Some [])) (closed_goes g e)

  when_goes : (b : Bool) (g : Rule) → Goes (can_go_on marks g) → Goes (can_go_on marks (when b g))
  when_goes true g h o m = h o m
  when_goes false g h o m = absurd m

  listed_goes : (ports : List Port) (p : Port) → Goes (can_go_on marks (named_port ports p))
  listed_goes ports p = when_goes (is_head p) (word (named p.name.bytes)
      (seq (subscripts p.index_kinds) (rule (lists_at ports (Some p.signals)))))
      (rest_goes (subscripts p.index_kinds) (subscripts_closed p.index_kinds))

  ports_go : (ports xs : List Port) → Goes (can_go_on marks (one_of (named_port ports) xs))
  ports_go ports [] o m = absurd m
  ports_go ports (x ∷ xs) o m = joined_goes (can_go_on marks (named_port ports x))
      (can_go_on marks (one_of (named_port ports) xs)) (listed_goes ports x) (ports_go ports xs)
      o m

  port_event_goes : (ports : List Port) (at : Option (List Signal))
      → Goes (can_go_on marks (port_event_at ports at))
  port_event_goes ports None o m = absurd m
  port_event_goes ports (Some signals) o m =
      rest_goes (port_event signals) (port_event_closed signals) o m

  -- what begins lists
  begins_go : (ports : List Port) (at : Option (List Signal))
      → Goes (can_begin marks (lists ports at))
  begins_go ports None o m = starts_go None o m
  begins_go ports (Some signals) o m = m

  lists_fit : (ports : List Port) (at : Option (List Signal))
      → Goes (can_go_on marks (lists ports at))
  lists_fit ports at =
      let ports_then = can_go_on marks (one_of (named_port ports) ports) in
      let time_then = list_starts (Some []) ++ can_go_on marks time in
      let event_then = can_go_on marks (port_event_at ports at) in
      joined_goes (can_begin marks (lists ports at)) (ports_then ++ (time_then ++ event_then))
      (begins_go ports at)
      (joined_goes ports_then (time_then ++ event_then) (ports_go ports ports)
      (joined_goes time_then event_then (rest_goes time refl) (port_event_goes ports at)))

  goes_on_fits : (p : Production)
      → Within (language production text) (can_go_on marks (production p)) (goes_on p)
  goes_on_fits (events_at f ports) o m = events_fit f ports o m
  goes_on_fits (lists_at ports at) o m = lists_fit ports at o m
  goes_on_fits (value_of k) o m = is_closed text (value k) (value_closed k) o m
  goes_on_fits (seen_of k) o m = is_closed text (seen k) (seen_closed k) o m

  empty_fits : (p : Production)
      → (not (can_be_empty marks (production p)) || is_empty p) ≡ true
  empty_fits (events_at f ports) = refl
  empty_fits (lists_at ports at) = refl
  empty_fits (value_of k) = ap (λ b. not b || false) (value_solid k)
  empty_fits (seen_of k) = ap (λ b. not b || false) (seen_solid k)

  pub fits : Fits (language production text) marks
  fits = record { starts = starts_fit; goes_on = goes_on_fits; is_empty = empty_fits }

-- the syntax, and that its table fits
abbrev pub known : Known Production Shape
known = record { syntax = plain; fits = fits }
