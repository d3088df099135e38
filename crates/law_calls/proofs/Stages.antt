-- Each file of a call is refused in one way, or good with one value.
use Rattle.std.proofs.Common.{◌≡◌, ◌∙◌, ◌⊎◌, inl, inr, ℕ, ◌+◌, ◌<◌, ◌≤◌, Bool, true, false}
use Rattle.std.proofs.Common.{List, [], ◌∷◌, length, codes, get_or, Option, Some, IfSome}
use Rattle.std.proofs.Common.{if◌then◌else◌, slice_get, sym, subst, ap, refl, arith}
use Rattle.est_lexer.specs.declared.kind.Token.{Token}
use Rattle.est_lexer.proofs.Unique.{tokens_unique}
use Rattle.text_reader.proofs.Fronts.{at_most_one_bad_place}
use Rattle.est_syntax.specs.declared.rule.Rule.{Rule}
use Rattle.est_syntax.specs.declared.rule.Rule.TheVariants.{UnknownName, DeclaredTwice, NotSeenHere}
use Rattle.est_syntax.specs.declared.rule.Rule.TheVariants.{WrongSort, NumberTooLarge, WrongBounds}
use Rattle.est_syntax.specs.declared.rule.Rule.TheVariants.{TooLarge, WrongKind, WrongNumber}
use Rattle.est_syntax.specs.declared.rule.Rule.TheVariants.{NotWritable, NotInFunction}
use Rattle.est_syntax.specs.declared.rule.Rule.TheVariants.{WrongDirection, DelayNotAlone}
use Rattle.est_syntax.specs.declared.rule.Rule.TheVariants.{NoFirstState, WrongAttribute, WrongBody}
use Rattle.est_syntax.specs.declared.rule.Rule.TheVariants.{WrongLink, CaseTwice}
use Rattle.est_syntax.specs.declared.specification.Spec.{Spec}
use Rattle.est_syntax.specs.declared.rule.Fault.{Fault}
use Rattle.est_syntax.specs.Least.{number, IsLeast}
use Rattle.rule_scope.proofs.LeastLaws.{lex}
use Rattle.est_grammar.specs.Answer.{HasOneTree, Says, estelle_in, is_left_out, levels}
use Rattle.text_reader.specs.Refusals.{wrong_at, too_deep_at}
use Rattle.text_reader.specs.Grammar.{rule}
use Rattle.text_reader.specs.Sentences.{HasPartial, IsFirstBadPlace}
use Rattle.text_productions.specs.Productions.{specification as specification_rule}
use Rattle.rule_declares.specs.PortList.{ports_of}
use Rattle.est_meaning.specs.RecordedTraces.{Recorded}
use Rattle.est_meaning.specs.AllowedEvents.{most_events}
use Rattle.est_check.specs.SpecificationText.{IsNoSpecification}
use Rattle.est_check.specs.LeastFault.{IsGood, IsLeastFault}
use Rattle.est_check.specs.declared.specification_error.SpecificationError.{SpecificationError}
use Rattle.est_check.specs.declared.specification_error.SpecificationError.TheVariants as specification
use Rattle.est_check.proofs.Unique.{same_specification}
use Rattle.est_trace.specs.TraceText.{IsTraceText, IsTraceRefusal, IsFull}
use Rattle.est_trace.specs.ListText.{IsOnlyListsText, IsListsRefusal, IsEventTooMany}
use Rattle.est_trace.specs.declared.error.TraceError.{TraceError}
use Rattle.est_trace.specs.declared.error.TraceError.TheVariants as trace
use Rattle.est_explanation.specs.ExplanationText.{IsOnlyExplanationText, IsExplanationRefusal}
use Rattle.est_explanation.specs.declared.error.ExplanationError.{ExplanationError}
use Rattle.est_explanation.specs.declared.error.ExplanationError.TheVariants as explanation
use Rattle.est_explanation.specs.declared.explanation.Explanation.{Explanation}
use Rattle.mean_ports.specs.declared.lists.PortLists.{PortLists}
use Rattle.call_files.specs.declared.file.File.{File}
use Rattle.call_files.specs.declared.file.File.TheVariants.{Specification, Trace}
use Rattle.call_files.specs.declared.file.File.TheVariants.{Explanation as Explaining}
use Rattle.call_files.specs.declared.status.Status.{Status}
use Rattle.call_files.specs.declared.status.Status.TheVariants.{BadSpec}
use Rattle.call_files.specs.Files.{limit_of}
use Rattle.call_files.specs.RefusalLines.{rule_text}
use Rattle.call_files.specs.FileTexts.{IsText, Holds, OfSpecification, OfTrace, OfLists}
use Rattle.call_files.specs.FileTexts.{OfExplanation, Refusals, RefusesSpecification, RefusesTrace}
use Rattle.call_files.specs.FileTexts.{RefusesLists, RefusesExplanation, SaysOfSpecification}
use Rattle.call_files.specs.FileTexts.{SaysOfTrace, SaysOfExplanation, IsReported, refusal_at}
use Rattle.call_files.specs.Seen.{Seen}
use Rattle.call_files.specs.FileEnds.{End, reported, unread, IsTooLong, EndsAt, longer, refused}
use Rattle.call_files.specs.FileEnds.{failed}

-- what is said of the tokens of a text, with a value of type A
abbrev pub Goods : Type 0 → Type 1
Goods A = A → List ℕ → List Token → Type 0

-- two refusals say the same of their tokens
abbrev pub AreAlike : Status → Status → Option ℕ → Option ℕ → List ℕ → List ℕ → Type 0
AreAlike s s' place place' why why' = (s ≡ s') × (place ≡ place') × (why ≡ why')

-- two results are the same
abbrev pub AreSame : Status → Status → List ℕ → List ℕ → Type 0
AreSame s s' r r' = (s ≡ s') × (r ≡ r')

-- A text is refused in one way, or good with one value, and never both.
pub record IsDecided {A : Type 0} (Refuses : Refusals) (Good : Goods A) : Type 0 where
  pub one_refusal : (text : List ℕ) (tokens : List Token) (s s' : Status) (place place' : Option ℕ)
      (why why' : List ℕ) → Refuses text tokens s place why → Refuses text tokens s' place' why'
      → AreAlike s s' place place' why why'
  pub not_both : (x : A) (text : List ℕ) (tokens : List Token) (s : Status) (place : Option ℕ)
      (why : List ℕ) → Good x text tokens → Refuses text tokens s place why → ⊥
  pub one_value : (x y : A) (text : List ℕ) (tokens : List Token) → Good x text tokens
      → Good y text tokens → x ≡ y

-- SPECIFICATIONS

-- each rule stands at its number
rules : List Rule
rules = UnknownName ∷ UnknownName ∷ DeclaredTwice ∷ NotSeenHere ∷ WrongSort ∷ NumberTooLarge
    ∷ WrongBounds ∷ TooLarge ∷ WrongKind ∷ WrongNumber ∷ NotWritable ∷ NotInFunction
    ∷ WrongDirection ∷ DelayNotAlone ∷ NoFirstState ∷ WrongAttribute ∷ WrongBody ∷ WrongLink
    ∷ CaseTwice ∷ []

by_number : (r : Rule) → get_or rules (number r) UnknownName ≡ r
unfolding rules
by_number UnknownName = refl
by_number DeclaredTwice = refl
by_number NotSeenHere = refl
by_number WrongSort = refl
by_number NumberTooLarge = refl
by_number WrongBounds = refl
by_number TooLarge = refl
by_number WrongKind = refl
by_number WrongNumber = refl
by_number NotWritable = refl
by_number NotInFunction = refl
by_number WrongDirection = refl
by_number DelayNotAlone = refl
by_number NoFirstState = refl
by_number WrongAttribute = refl
by_number WrongBody = refl
by_number WrongLink = refl
by_number CaseTwice = refl

-- of two faults of which none is before the other, the places and the rules are the same
same_place : (a x b y : ℕ) → lex a x b y ≡ false → lex b y a x ≡ false → a ≡ b
same_place a x b y h k = grind arith

same_number : (a x b y : ℕ) → lex a x b y ≡ false → lex b y a x ≡ false → x ≡ y
same_number a x b y h k = grind arith

-- a set of faults has one least fault
same_least : (S : Fault → Type 0) (place place' : ℕ) (r r' : Rule)
    → IsLeast S (Some record { place = place; rule = r })
    → IsLeast S (Some record { place = place'; rule = r' }) → (place ≡ place') × (r ≡ r')
same_least S place place' r r' x y =
    let no_later : lex place' (number r') place (number r) ≡ false = x.1 record {
      place = place';
      rule = r';
    } y.0 in
    let no_sooner : lex place (number r) place' (number r') ≡ false = y.1 record {
      place = place;
      rule = r;
    } x.0 in
    let at : place ≡ place' = same_place place (number r) place' (number r') no_sooner no_later in
    let numbered : number r ≡ number r' = same_number place (number r) place' (number r') no_sooner
    no_later in
    (at, sym (by_number r) ∙ ap (λ n. get_or rules n UnknownName) numbered ∙ by_number r')

-- a specification breaks this rule at this place, and none before
abbrev BreaksFirst : Spec → ℕ → Rule → Type 0
BreaksFirst spec place r = IsLeastFault spec (Some record { place = place; rule = r })

-- why a token is refused where the list is wrong, by whether it is left out
abbrev why_by : Bool → List ℕ
why_by left_out = if left_out then codes "left out" else codes "bad token"

why_at : List Token → ℕ → List ℕ
why_at tokens place = why_by (is_left_out (slice_get tokens place))

why_of : (tokens : List Token) (place : ℕ) (out : Bool) → is_left_out (slice_get tokens place) ≡ out
    → why_by out ≡ why_at tokens place
unfolding why_at
why_of tokens place out p = ap why_by (sym p)

-- a specification is refused at its first bad place, or at its least broken rule
data IsRefusedSpecification (text : List ℕ) (tokens : List Token) (s : Status) (place : Option ℕ)
    (why : List ℕ) : Type 0 where
  bad : (at : ℕ) → Says text tokens (wrong_at at) → s ≡ BadSpec → place ≡ Some at
      → why ≡ why_at tokens at → IsRefusedSpecification text tokens s place why
  deep : (at : ℕ) → Says text tokens (too_deep_at at) → s ≡ BadSpec → place ≡ Some at
      → why ≡ codes "nested too deep" → IsRefusedSpecification text tokens s place why
  broken : (at : ℕ) (spec : Spec) (r : Rule) → HasOneTree text tokens spec → BreaksFirst spec at r
      → s ≡ BadSpec → place ≡ Some at → why ≡ rule_text r
      → IsRefusedSpecification text tokens s place why

how_refused : (text : List ℕ) (tokens : List Token) (error : SpecificationError) (s : Status)
    (place : Option ℕ) (why : List ℕ) → IsNoSpecification text tokens error
    → SaysOfSpecification error s place why → IsRefusedSpecification text tokens s place why
how_refused text tokens (specification.BadToken at) s place why is says = bad at is.0 says.0 says.1
    (says.2 ∙ why_of tokens at false is.1)
how_refused text tokens (specification.LeftOut at) s place why is says = bad at is.0 says.0 says.1
    (says.2 ∙ why_of tokens at true is.1)
how_refused text tokens (specification.TooDeep at) s place why is says = deep at is says.0 says.1
    says.2
how_refused text tokens (specification.BrokenRule at r) s place why is says = broken at is.0 r is.1
    is.2 says.0 says.1 says.2
how_refused text tokens (specification.Memory error) s place why is says = absurd says

module _ (text : List ℕ) (tokens : List Token) where
  -- there is one first bad place
  one_place : (at at' : ℕ) → IsFirstBadPlace (estelle_in text) (rule specification_rule) levels
      tokens at → IsFirstBadPlace (estelle_in text) (rule specification_rule) levels tokens at'
      → at ≡ at'
  one_place at at' x y = at_most_one_bad_place _ _ _ _ at at' x y

  -- a list is wrong at its first bad place, or nested too deep there, and not both
  wrong_or_deep : (at at' : ℕ) → Says text tokens (wrong_at at) → Says text tokens (too_deep_at at')
      → ⊥
  wrong_or_deep at at' x y =
      let e : at' ≡ at = one_place at' at y.0 x.0 in
      x.1 (subst (λ i. i < length tokens) e y.1) (levels + 1)
      (subst (λ i. HasPartial (estelle_in text) (rule specification_rule) (levels + 1) tokens
      (i + 1)) e y.2)

  -- what has a first bad place has no tree
  not_wrong : (at : ℕ) (spec : Spec) → Says text tokens (wrong_at at) → HasOneTree text tokens spec
      → ⊥
  not_wrong at spec x one = x.0.no_tree _ one.tree

  not_deep : (at : ℕ) (spec : Spec) → Says text tokens (too_deep_at at)
      → HasOneTree text tokens spec → ⊥
  not_deep at spec x one = x.0.no_tree _ one.tree

  one_fault : (spec spec' : Spec) (at at' : ℕ) (r r' : Rule) → HasOneTree text tokens spec
      → BreaksFirst spec at r → HasOneTree text tokens spec' → BreaksFirst spec' at' r'
      → (at ≡ at') × (r ≡ r')
  unfolding IsLeastFault
  one_fault spec spec' at at' r r' one is one' is' =
      let same : spec' ≡ spec = same_specification text tokens spec' spec one' one in
      same_least _ at at' r r' is (subst (λ z. BreaksFirst z at' r') same is')

  -- a specification that breaks no rule is none that breaks one
  not_broken : (spec spec' : Spec) (at : ℕ) (r : Rule) → HasOneTree text tokens spec → IsGood spec
      → HasOneTree text tokens spec' → BreaksFirst spec' at r → ⊥
  unfolding IsLeastFault
  not_broken spec spec' at r one none one' x =
      none record {
        place = at;
        rule = r;
      } (subst (λ z. BreaksFirst z at r) (same_specification text tokens spec' spec one' one) x).0

specifications_alike : (text : List ℕ) (tokens : List Token) (s s' : Status)
    (place place' : Option ℕ) (why why' : List ℕ) → IsRefusedSpecification text tokens s place why
    → IsRefusedSpecification text tokens s' place' why' → AreAlike s s' place place' why why'
specifications_alike text tokens s s' place place' why why' (bad at x e f g) (bad at' y h k l) =
    let same : at ≡ at' = one_place text tokens at at' x.0 y.0 in
    (e ∙ sym h, f ∙ ap (λ n. Some n) same ∙ sym k, g ∙ ap (λ n. why_at tokens n) same ∙ sym l)
specifications_alike text tokens s s' place place' why why' (deep at x e f g) (deep at' y h k l) =
    (e ∙ sym h, f ∙ ap (λ n. Some n) (one_place text tokens at at' x.0 y.0) ∙ sym k, g ∙ sym l)
specifications_alike text tokens s s' place place' why why' (broken at spec r one is e f g)
    (broken at' spec' r' one' is' h k l) =
    let fault = one_fault text tokens spec spec' at at' r r' one is one' is' in
    (e ∙ sym h, f ∙ ap (λ n. Some n) fault.0 ∙ sym k, g ∙ ap rule_text fault.1 ∙ sym l)
specifications_alike text tokens s s' place place' why why' (bad at x e f g) (deep at' y h k l) =
    absurd (wrong_or_deep text tokens at at' x y)
specifications_alike text tokens s s' place place' why why' (deep at x e f g) (bad at' y h k l) =
    absurd (wrong_or_deep text tokens at' at y x)
specifications_alike text tokens s s' place place' why why' (bad at x e f g)
    (broken at' spec r one is h k l) = absurd (not_wrong text tokens at spec x one)
specifications_alike text tokens s s' place place' why why' (broken at' spec r one is e f g)
    (bad at y h k l) = absurd (not_wrong text tokens at spec y one)
specifications_alike text tokens s s' place place' why why' (deep at x e f g)
    (broken at' spec r one is h k l) = absurd (not_deep text tokens at spec x one)
specifications_alike text tokens s s' place place' why why' (broken at' spec r one is e f g)
    (deep at y h k l) = absurd (not_deep text tokens at spec y one)

good_not_refused : (text : List ℕ) (tokens : List Token) (spec : Spec) (s : Status)
    (place : Option ℕ) (why : List ℕ) → HasOneTree text tokens spec → IsGood spec
    → IsRefusedSpecification text tokens s place why → ⊥
good_not_refused text tokens spec s place why one none (bad at x e f g) = not_wrong text tokens at
    spec x one
good_not_refused text tokens spec s place why one none (deep at x e f g) = not_deep text tokens at
    spec x one
good_not_refused text tokens spec s place why one none (broken at spec' r one' x e f g) =
    not_broken text tokens spec spec' at r one none one' x

pub specifications_decided : IsDecided RefusesSpecification OfSpecification
specifications_decided = record {
  one_refusal = λ text tokens s s' place place' why why' x y. specifications_alike text tokens s s'
      place place' why why' (how_refused text tokens x.0 s place why x.1 x.2)
      (how_refused text tokens y.0 s' place' why' y.1 y.2);
  not_both = λ spec text tokens s place why is x. good_not_refused text tokens spec s place why
      is.tree is.good (how_refused text tokens x.0 s place why x.1 x.2);
  one_value = λ a b text tokens x y. same_specification text tokens a b x.tree y.tree;
}

-- TRACES

module _ (spec : Spec) (text : List ℕ) (tokens : List Token) where
  traces_alike : (a b : TraceError) (s s' : Status) (place place' : Option ℕ) (why why' : List ℕ)
      → IsTraceRefusal (ports_of spec) text tokens a → SaysOfTrace a s place why
      → IsTraceRefusal (ports_of spec) text tokens b → SaysOfTrace b s' place' why'
      → AreAlike s s' place place' why why'
  traces_alike (trace.BadToken at) (trace.BadToken at') s s' place place' why why' x e y f = (
    e.0 ∙ sym f.0,
    e.1 ∙ ap (λ n. Some n) (at_most_one_bad_place _ _ _ _ at at' x.0 y.0)
        ∙ sym f.1,
    e.2 ∙ sym f.2,
  )
  traces_alike (trace.TooMany at) (trace.TooMany at') s s' place place' why why' x e y f = (
    e.0 ∙ sym f.0,
    e.1 ∙ ap (λ n. Some n) (at_most_one_bad_place _ _ _ _ at at' x.0 y.0)
        ∙ sym f.1,
    e.2 ∙ sym f.2,
  )
  traces_alike (trace.BadToken at) (trace.TooMany at') s s' place place' why why' x e y f =
      absurd (x.1 (subst (λ n. IsFull (ports_of spec) most_events text tokens n)
      (at_most_one_bad_place _ _ _ _ at' at y.0 x.0) y.1))
  traces_alike (trace.TooMany at) (trace.BadToken at') s s' place place' why why' x e y f =
      absurd (y.1 (subst (λ n. IsFull (ports_of spec) most_events text tokens n)
      (at_most_one_bad_place _ _ _ _ at at' x.0 y.0) x.1))
  traces_alike (trace.Memory error) b s s' place place' why why' x e y f = absurd e
  traces_alike a (trace.Memory error) s s' place place' why why' x e y f = absurd f

  pub trace_not_refused : (recorded : Recorded) (error : TraceError) (s : Status)
      (place : Option ℕ) (why : List ℕ) → IsTraceText (ports_of spec) text tokens recorded
      → IsTraceRefusal (ports_of spec) text tokens error → SaysOfTrace error s place why → ⊥
  trace_not_refused recorded (trace.BadToken at) s place why is x e = x.0.no_tree _ is.1
  trace_not_refused recorded (trace.TooMany at) s place why is x e = x.0.no_tree _ is.1
  trace_not_refused recorded (trace.Memory error) s place why is x e = e

pub traces_decided : (spec : Spec) → IsDecided (RefusesTrace spec) (OfTrace spec)
traces_decided spec = record {
  one_refusal = λ text tokens s s' place place' why why' x y. traces_alike spec text tokens x.0 y.0
      s s' place place' why why' x.1 x.2 y.1 y.2;
  not_both = λ recorded text tokens s place why is x.
      trace_not_refused spec text tokens recorded x.0 s place why is.0 x.1 x.2;
  one_value = λ a b text tokens x y. y.1 a x.0;
}

-- ONE TRACE FOR EACH PORT

module _ (spec : Spec) (text : List ℕ) (tokens : List Token) where
  lists_alike : (a b : TraceError) (s s' : Status) (place place' : Option ℕ) (why why' : List ℕ)
      → IsListsRefusal (ports_of spec) text tokens a → SaysOfTrace a s place why
      → IsListsRefusal (ports_of spec) text tokens b → SaysOfTrace b s' place' why'
      → AreAlike s s' place place' why why'
  lists_alike (trace.BadToken at) (trace.BadToken at') s s' place place' why why' x e y f = (
    e.0 ∙ sym f.0,
    e.1 ∙ ap (λ n. Some n) (at_most_one_bad_place _ _ _ _ at at' x.0 y.0)
        ∙ sym f.1,
    e.2 ∙ sym f.2,
  )
  lists_alike (trace.TooMany at) (trace.TooMany at') s s' place place' why why' x e y f = (
    e.0 ∙ sym f.0,
    e.1 ∙ ap (λ n. Some n) (at_most_one_bad_place _ _ _ _ at at' x.0 y.0)
        ∙ sym f.1,
    e.2 ∙ sym f.2,
  )
  lists_alike (trace.BadToken at) (trace.TooMany at') s s' place place' why why' x e y f =
      absurd (x.1 (subst (λ n. IsEventTooMany (ports_of spec) text tokens n)
      (at_most_one_bad_place _ _ _ _ at' at y.0 x.0) y.1))
  lists_alike (trace.TooMany at) (trace.BadToken at') s s' place place' why why' x e y f =
      absurd (y.1 (subst (λ n. IsEventTooMany (ports_of spec) text tokens n)
      (at_most_one_bad_place _ _ _ _ at at' x.0 y.0) x.1))
  lists_alike (trace.Memory error) b s s' place place' why why' x e y f = absurd e
  lists_alike a (trace.Memory error) s s' place place' why why' x e y f = absurd f

  lists_not_refused : (listed : PortLists) (error : TraceError) (s : Status) (place : Option ℕ)
      (why : List ℕ) → IsOnlyListsText (ports_of spec) text tokens listed
      → IsListsRefusal (ports_of spec) text tokens error → SaysOfTrace error s place why → ⊥
  lists_not_refused listed (trace.BadToken at) s place why is x e = x.0.no_tree _ is.0.1
  lists_not_refused listed (trace.TooMany at) s place why is x e = x.0.no_tree _ is.0.1
  lists_not_refused listed (trace.Memory error) s place why is x e = e

pub lists_decided : (spec : Spec) → IsDecided (RefusesLists spec) (OfLists spec)
lists_decided spec = record {
  one_refusal = λ text tokens s s' place place' why why' x y. lists_alike spec text tokens x.0 y.0
      s s' place place' why why' x.1 x.2 y.1 y.2;
  not_both = λ listed text tokens s place why is x.
      lists_not_refused spec text tokens listed x.0 s place why is x.1 x.2;
  one_value = λ a b text tokens x y. y.1 a x.0;
}

-- EXPLANATIONS

module _ (text : List ℕ) (tokens : List Token) where
  explanations_alike : (a b : ExplanationError) (s s' : Status) (place place' : Option ℕ)
      (why why' : List ℕ) → IsExplanationRefusal text tokens a → SaysOfExplanation a s place why
      → IsExplanationRefusal text tokens b → SaysOfExplanation b s' place' why'
      → AreAlike s s' place place' why why'
  explanations_alike (explanation.BadToken at) (explanation.BadToken at') s s' place place' why why'
      x e y f = (
        e.0 ∙ sym f.0,
        e.1 ∙ ap (λ n. Some n) (at_most_one_bad_place _ _ _ _ at at' x y)
            ∙ sym f.1,
        e.2 ∙ sym f.2,
      )
  explanations_alike (explanation.Memory error) b s s' place place' why why' x e y f = absurd e
  explanations_alike a (explanation.Memory error) s s' place place' why why' x e y f = absurd f

  explanation_not_refused : (read : Explanation) (error : ExplanationError) (s : Status)
      (place : Option ℕ) (why : List ℕ) → IsOnlyExplanationText text tokens read
      → IsExplanationRefusal text tokens error → SaysOfExplanation error s place why → ⊥
  explanation_not_refused read (explanation.BadToken at) s place why is x e = x.no_tree _ is.0.1
  explanation_not_refused read (explanation.Memory error) s place why is x e = e

pub explanations_decided : IsDecided RefusesExplanation OfExplanation
explanations_decided = record {
  one_refusal = λ text tokens s s' place place' why why' x y. explanations_alike text tokens x.0 y.0
      s s' place place' why why' x.1 x.2 y.1 y.2;
  not_both = λ read text tokens s place why is x. explanation_not_refused text tokens read x.0 s
      place why is x.1 x.2;
  one_value = λ a b text tokens x y. y.1 a x.0;
}

-- FILES

-- two texts that are held where the same bytes are told have the same tokens
pub at_once : (file : File) {told told' : Option (List ℕ)} {bytes : List ℕ} (Is Js : List ℕ → List Token
    → Type 0) {P : Type 0} → told ≡ Some bytes → told' ≡ Some bytes → Holds file told Is
    → Holds file told' Js
    → ((tokens : List Token) → Is bytes tokens → Js bytes tokens → P) → P
at_once file {bytes = bytes} Is Js e f x y both =
    let p : IsText file bytes Is = subst (λ t. Holds file t Is) e x in
    let q : IsText file bytes Js = subst (λ t. Holds file t Js) f y in
    let same : q.tokens ≡ p.tokens = tokens_unique bytes 0 q.tokens p.tokens q.list p.list in
    both p.tokens p.is (subst (λ ts. Js bytes ts) same q.is)

-- a file within its limit is not too long
pub not_long : (shelf : Seen) (file : File) (name bytes : List ℕ) (s : Status) (r : List ℕ)
    → shelf.before.told name ≡ Some bytes → length bytes ≤ limit_of file
    → IsTooLong shelf file name s r → ⊥
not_long shelf file name bytes s r told short long =
    let l : limit_of file < length bytes = subst (λ t. IfSome t (λ b. limit_of file < length b)) told
    long.longer in
    omega (arith, l, short)

-- a file that is too long holds no text
holds_none : (shelf shelf' : Seen) (file : File) (name bytes : List ℕ) (Is : List ℕ → List Token
    → Type 0) (s : Status) (r : List ℕ) → shelf.before.told name ≡ Some bytes
    → shelf'.before.told name ≡ Some bytes
    → IsTooLong shelf file name s r → Holds file (shelf'.before.told name) Is → ⊥
holds_none shelf shelf' file name bytes Is s r e f long x =
    let p : IsText file bytes Is = subst (λ t. Holds file t Is) f x in
    not_long shelf file name bytes s r e p.short long

-- a file is too long, or its text is refused
abbrev pub IsStopped : Seen → File → List ℕ → Refusals → Status → List ℕ → Type 0
IsStopped shelf file name Refuses s r = IsTooLong shelf file name s r
    ⊎ Holds file (shelf.before.told name) (IsReported file Refuses s r)

-- this holds of an end with a report
abbrev pub OfReport : (Status → List ℕ → Type 0) → End → Type 0
OfReport P (reported s r) = P s r
OfReport P unread = Unit {0}

pub stopped : (shelf : Seen) (file : File) (name : List ℕ) (Refuses : Refusals) (end : End)
    → EndsAt shelf file name Refuses end → OfReport (IsStopped shelf file name Refuses) end
stopped shelf file name Refuses _ (longer s r x) = inl x
stopped shelf file name Refuses _ (refused s r x) = inr x
stopped shelf file name Refuses _ (failed x) = tt

-- a call stops at a file, or goes on after it with the value that it holds
pub data Stage {A : Type 0} (shelf : Seen) (file : File) (name : List ℕ) (Refuses : Refusals)
    (Good : Goods A) (Next : A → Status → List ℕ → Type 0) (s : Status) (r : List ℕ) : Type 0 where
  stops : IsStopped shelf file name Refuses s r → Stage shelf file name Refuses Good Next s r
  goes_on : (x : A) → Holds file (shelf.before.told name) (Good x) → Next x s r
      → Stage shelf file name Refuses Good Next s r

module _ {A : Type 0} (file : File) (name bytes : List ℕ) (Refuses : Refusals) (Good : Goods A)
    (decided : IsDecided Refuses Good) where
  good_goes_on : (shelf shelf' : Seen) → shelf.before.told name ≡ Some bytes
      → shelf'.before.told name ≡ Some bytes → (x : A) (s : Status) (r : List ℕ)
      → IsStopped shelf file name Refuses s r → Holds file (shelf'.before.told name) (Good x) → ⊥
  good_goes_on shelf shelf' told told' x s r (inl long) is = holds_none shelf shelf' file name bytes
      (Good x) s r told told' long is
  good_goes_on shelf shelf' told told' x s r (inr because) is =
      at_once file (IsReported file Refuses s r) (Good x) told told' because is
      (λ tokens n g. decided.not_both x bytes tokens s n.place n.why g n.refused)

  -- tokens are refused with one report
  pub one_report : (s s' : Status) (r r' : List ℕ) (tokens : List Token)
      → IsReported file Refuses s r bytes tokens → IsReported file Refuses s' r' bytes tokens
      → AreSame s s' r r'
  one_report s s' r r' tokens x y =
      let same = decided.one_refusal bytes tokens s s' x.place y.place x.why y.why x.refused
      y.refused in (
        same.0,
        x.report_is ∙ (λ i. refusal_at file bytes tokens (same.1 i) (same.2 i))
            ∙ sym y.report_is,
      )

  module _ (shelf shelf' : Seen) (told : shelf.before.told name ≡ Some bytes)
      (told' : shelf'.before.told name ≡ Some bytes) where
    one_stop : (s s' : Status) (r r' : List ℕ) → IsStopped shelf file name Refuses s r
        → IsStopped shelf' file name Refuses s' r' → AreSame s s' r r'
    one_stop s s' r r' (inl x) (inl y) =
        (x.status_is ∙ sym y.status_is, x.report_is ∙ sym y.report_is)
    one_stop s s' r r' (inl x) (inr y) = absurd (holds_none shelf shelf' file name bytes
        (IsReported file Refuses s' r') s r told told' x y)
    one_stop s s' r r' (inr x) (inl y) = absurd (holds_none shelf' shelf file name bytes
        (IsReported file Refuses s r) s' r' told' told y x)
    one_stop s s' r r' (inr x) (inr y) = at_once file (IsReported file Refuses s r)
        (IsReported file Refuses s' r') told told' x y (λ tokens n m. one_report s s' r r' tokens n
        m)

    -- two results of a stage are alike where those of what comes after it are
    pub alike_stage : (Alike : Status → Status → List ℕ → List ℕ → Type 0)
        → ((s s' : Status) (r r' : List ℕ) → AreSame s s' r r' → Alike s s' r r')
        → (Next Next' : A → Status → List ℕ → Type 0)
        → ((x : A) (s s' : Status) (r r' : List ℕ) → Next x s r → Next' x s' r' → Alike s s' r r')
        → (s s' : Status) (r r' : List ℕ) → Stage shelf file name Refuses Good Next s r
        → Stage shelf' file name Refuses Good Next' s' r' → Alike s s' r r'
    alike_stage Alike weaker Next Next' next s s' r r' (stops x) (stops y) =
        weaker s s' r r' (one_stop s s' r r' x y)
    alike_stage Alike weaker Next Next' next s s' r r' (stops x) (goes_on b g y) =
        absurd (good_goes_on shelf shelf' told told' b s r x g)
    alike_stage Alike weaker Next Next' next s s' r r' (goes_on a f x) (stops y) =
        absurd (good_goes_on shelf' shelf told' told a s' r' y f)
    alike_stage Alike weaker Next Next' next s s' r r' (goes_on a f x) (goes_on b g y) =
        let same : a ≡ b = at_once file (Good a) (Good b) told told' f g
        (λ tokens n m. decided.one_value a b bytes tokens n m) in
        next a s s' r r' x (subst (λ z. Next' z s' r') (sym same) y)

    -- so a stage has one result where what comes after it has one
    pub one_stage : (Next Next' : A → Status → List ℕ → Type 0)
        → ((x : A) (s s' : Status) (r r' : List ℕ) → Next x s r → Next' x s' r' → AreSame s s' r r')
        → (s s' : Status) (r r' : List ℕ) → Stage shelf file name Refuses Good Next s r
        → Stage shelf' file name Refuses Good Next' s' r' → AreSame s s' r r'
    one_stage Next Next' next s s' r r' x y =
        alike_stage AreSame (λ s s' r r' same. same) Next Next' next s s' r r' x y

  -- a stage whose file holds a good text goes on with its value
  pub stage_next : (shelf : Seen) → shelf.before.told name ≡ Some bytes
      → (Next : A → Status → List ℕ → Type 0) (x : A)
      → Holds file (shelf.before.told name) (Good x) → (s : Status) (r : List ℕ)
      → Stage shelf file name Refuses Good Next s r → Next x s r
  stage_next shelf told Next x is s r (stops stop) =
      absurd (good_goes_on shelf shelf told told x s r stop is)
  stage_next shelf told Next x is s r (goes_on y holds next) =
      let same : y ≡ x = at_once file (Good y) (Good x) told told holds is
      (λ tokens n m. decided.one_value y x bytes tokens n m) in
      subst (λ z. Next z s r) same next

-- COMMANDS

-- the stages of a call, with what is reported after the last one
abbrev pub AtSpecification : Seen → List ℕ → (Spec → Status → List ℕ → Type 0) → Status → List ℕ
    → Type 0
AtSpecification shelf name Next = Stage shelf Specification name RefusesSpecification
    OfSpecification Next

abbrev pub AtTrace : Seen → List ℕ → Spec → (Recorded → Status → List ℕ → Type 0) → Status
    → List ℕ → Type 0
AtTrace shelf name spec Next = Stage shelf Trace name (RefusesTrace spec) (OfTrace spec) Next

abbrev pub AtLists : Seen → List ℕ → Spec → (PortLists → Status → List ℕ → Type 0) → Status
    → List ℕ → Type 0
AtLists shelf name spec Next = Stage shelf Trace name (RefusesLists spec) (OfLists spec) Next

abbrev pub AtExplanation : Seen → List ℕ → (Explanation → Status → List ℕ → Type 0) → Status
    → List ℕ → Type 0
AtExplanation shelf name Next = Stage shelf Explaining name RefusesExplanation OfExplanation Next
