-- From what is found of a name to the alternative that its token begins.
use Rattle.std.proofs.Common.{◌≡◌, ℕ, ◌+◌, Bool, true, false, ◌&&◌, List, [], ◌∷◌, ◌++◌, map, refl}
use Rattle.std.proofs.Common.{sym, ap, ap₂, ◌∙◌, subst, Option, Some, None, slice_get}
use Rattle.std.specs.Option.{option_map_or}
use Rattle.est_lexer.specs.declared.tokens.Tokens.{Tokens}
use Rattle.est_lexer.specs.Offsets.{text_of, tokens_of}
use Rattle.text_reader.specs.Grammar.{word, seq, when, one_of}
use Rattle.text_reader.specs.Marks.{MeetsOne, can_begin}
use Rattle.text_reader.specs.declared.reader.Reader.{Reader}
use Rattle.text_reader.specs.Tests.{Test, named, holds}
use Rattle.text_reader.proofs.Steps.{onto}
use Rattle.text_reader.proofs.Exits.{not_met}
use Rattle.text_reader.proofs.Members.{and_right}
use Rattle.est_syntax.specs.declared.ports.Direction.{Direction}
use Rattle.est_syntax.specs.declared.ports.Port.{Port}
use Rattle.est_syntax.specs.declared.ports.Signal.{Signal}
use Rattle.est_meaning.specs.rule_declares.Differing.{HaveDifferentNames}
use Rattle.text_reader.specs.Moving.{IsNamedAt}
use Rattle.text_values.specs.declared.formats.Format.{Format}
use Rattle.text_values.specs.declared.formats.Format.TheVariants.{Complete}
use Rattle.text_values.specs.TraceGrammar.{Rule, subscripts, brackets, passes, some_pass}
use Rattle.text_values.specs.TraceGrammar.{signal, dot_signal, is_head, port, marks}
use Rattle.est_trace.specs.PortNames as names
use Rattle.est_trace.specs.PortNames.{GoodPorts, IsHeadOf, IsNumberOf, port_name, signal_name}
use Rattle.est_trace.specs.PortNames.{signals_of}
use Rattle.est_trace.specs.inside.Lookups.{IsChosen, Chooses}
use Rattle.est_trace.proofs.Images.{some_same, mapped_at, image_at}
use Rattle.est_trace.proofs.SameTests.{same_passes, same_some, same_head}
use Rattle.est_trace.proofs.Choices.{chosen, no_word, none_named}

pub both_true : (a b : Bool) → a ≡ true → b ≡ true → (a && b) ≡ true
both_true true b h k = k
both_true false b h k = cc

-- whether a port has an alternative, and what stands after its name there
abbrev pub is_open : Direction → Port → Bool
is_open d p = is_head p && some_pass d p.signals

abbrev pub after_name : Format → Direction → Port → Rule
after_name f d p = seq (subscripts p.index_kinds) (dot_signal f d p.signals)

-- the same of a signal
abbrev pub after_signal : Format → Direction → Signal → Rule
after_signal f d x = brackets d f x.kinds

-- what begins with the same tokens is chosen alike
module _ {A : Type 0} (f g : A → Rule)
    (same : (x : A) → can_begin marks (f x) ≡ can_begin marks (g x)) where
  one_of_same : (xs : List A) → can_begin marks (one_of f xs) ≡ can_begin marks (one_of g xs)
  one_of_same [] = refl
  one_of_same (x ∷ xs) = ap₂ (λ a b. a ++ b) (same x) (one_of_same xs)

  begins_alike : (tk : Tokens) (at : ℕ) (ks ls : List Test) → ks ≡ ls
      → MeetsOne (holds (text_of tk)) (slice_get (tokens_of tk) at) ks
      → MeetsOne (holds (text_of tk)) (slice_get (tokens_of tk) at) ls
  begins_alike tk at ks ls e m =
      subst (MeetsOne (holds (text_of tk)) (slice_get (tokens_of tk) at)) e m

  chosen_alike : (xs : List A) (tk : Tokens) (at : ℕ) (o : Option ℕ) → IsChosen f xs tk at o
      → IsChosen g xs tk at o
  chosen_alike xs tk at (Some i) h = (h.0, h.1, begins_alike tk at _ _ (same h.0) h.2)
  chosen_alike xs tk at None h = λ m. h (begins_alike tk at _ _ (sym (one_of_same xs)) m)

  chooses_alike : (xs : List A) {B C : Reader} {n : ℕ} → Chooses f xs B n C → Chooses g xs B n C
  chooses_alike xs {B} {C} {n} x =
      let tk = B.tokens.now in
      record {
        chooses = onto
            (λ b. IsChosen f xs tk B.at (Some n) × (b ≡ B.at + 1))
            (λ b. IsChosen g xs tk B.at (Some n) × (b ≡ B.at + 1))
            (λ b z. IsChosen f xs tk B.at None × (b ≡ B.at) × (z ≡ false))
            (λ b z. IsChosen g xs tk B.at None × (b ≡ B.at) × (z ≡ false))
            B.at C.at B.outcome C.outcome
            (λ e p. (chosen_alike xs tk B.at (Some n) p.0, p.1))
            (λ e z q. (chosen_alike xs tk B.at None q.0, q.1, q.2)) x.chooses;
        same = x.same;
      }

word_same : (b : Bool) (k : Test) (g h : Rule)
    → can_begin marks (when b (word k g)) ≡ can_begin marks (when b (word k h))
word_same true k g h = refl
word_same false k g h = refl

-- ports and signals begin alike in all formats
module _ (f : Format) (d : Direction) where
  pub port_chosen : (ports : List Port) {B C : Reader} {n : ℕ}
      → Chooses (port Complete d) ports B n C → Chooses (port f d) ports B n C
  port_chosen ports x = chooses_alike (port Complete d) (port f d) (λ (p : Port).
      word_same (is_open d p) (named p.name.bytes) (after_name Complete d p) (after_name f d p))
      ports x

  pub signal_chosen : (xs : List Signal) {B C : Reader} {n : ℕ}
      → Chooses (signal Complete d) xs B n C → Chooses (signal f d) xs B n C
  signal_chosen xs x = chooses_alike (signal Complete d) (signal f d) (λ (y : Signal).
      word_same (passes d y) (named y.name.bytes) (after_signal Complete d y)
      (after_signal f d y)) xs x

module _ (d : Direction) (ports : List Port) (tk : Tokens) (at : ℕ) where
  pub no_port_word : IsNamedAt tk at None → IsChosen (port Complete d) ports tk at None
  no_port_word s = no_word port_name (is_open d) (after_name Complete d) ports tk at s

  module _ (bytes : List ℕ) (s : IsNamedAt tk at (Some bytes)) where
    pub no_head : IsHeadOf bytes ports None → IsChosen (port Complete d) ports tk at None
    no_head h = none_named port_name (is_open d) (after_name Complete d) ports tk at bytes s
        (λ j y e w k. h j y e k)

    module _ (n : ℕ) (h : IsHeadOf bytes ports (Some n)) (found : Bool)
        (f : found ≡ names.some_pass d (signals_of (slice_get ports n))) where
      found_is : found ≡ some_pass d h.0.signals
      found_is = f ∙ (ap (λ o. names.some_pass d (signals_of o)) h.1 ∙ same_some d h.0.signals)

      pub head_open : found ≡ true → IsChosen (port Complete d) ports tk at (Some n)
      head_open e = chosen port_name (is_open d) (after_name Complete d) ports tk at bytes n h.0 s h.1 h.2
          (both_true (is_head h.0) (some_pass d h.0.signals) (sym (same_head h.0) ∙ h.3)
          (sym found_is ∙ e))

      pub head_closed : GoodPorts ports → found ≡ false → IsChosen (port Complete d) ports tk at None
      head_closed good e = none_named port_name (is_open d) (after_name Complete d) ports tk at bytes s
          (λ j y q w k.
          let same : h.0.signals ≡ y.signals = (good.alike n j h.0 y h.1 q (h.2 ∙ sym k)).1 in
          not_met (ap (some_pass d) (sym same) ∙ (sym found_is ∙ e))
          (and_right (is_head y) (some_pass d y.signals) w))

module _ (d : Direction) (xs : List Signal) (tk : Tokens) (at : ℕ) where
  pub no_signal_word : IsNamedAt tk at None → IsChosen (signal Complete d) xs tk at None
  no_signal_word s = no_word signal_name (passes d) (after_signal Complete d) xs tk at s

  module _ (bytes : List ℕ) (s : IsNamedAt tk at (Some bytes)) where
    pub no_signal : IsNumberOf bytes (map signal_name xs) None → IsChosen (signal Complete d) xs tk at None
    no_signal h = none_named signal_name (passes d) (after_signal Complete d) xs tk at bytes s
        (λ j y e w k. h j (image_at signal_name xs j y e ∙ ap Some k))

    module _ (n : ℕ) (h : IsNumberOf bytes (map signal_name xs) (Some n)) (found : Bool)
        (f : found ≡ option_map_or (names.passes d) (slice_get xs n) false) where
      abbrev it : (x : Signal) × (slice_get xs n ≡ Some x) × (signal_name x ≡ bytes)
      it = mapped_at signal_name xs n bytes h

      signal_is : found ≡ passes d it.0
      signal_is = f ∙ (ap (λ o. option_map_or (names.passes d) o false) it.1
          ∙ same_passes d it.0)

      pub signal_open : found ≡ true → IsChosen (signal Complete d) xs tk at (Some n)
      signal_open e = chosen signal_name (passes d) (after_signal Complete d) xs tk at bytes n it.0 s it.1 it.2
          (sym signal_is ∙ e)

      pub signal_closed : HaveDifferentNames signal_name xs → found ≡ false
          → IsChosen (signal Complete d) xs tk at None
      signal_closed different e = none_named signal_name (passes d) (after_signal Complete d) xs tk at bytes s
          (λ j y q w k.
          let p : n ≡ j = different n j it.0 y it.1 q (it.2 ∙ sym k) in
          let same : it.0 ≡ y = some_same (sym it.1 ∙ (ap (slice_get xs) p ∙ q)) in
          not_met (ap (passes d) (sym same) ∙ (sym signal_is ∙ e)) w)
