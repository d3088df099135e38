-- The version of a trace, and the rest of it.
use Rattle.std.proofs.Common.{◌≡◌, ℕ, ◌≤◌, Bool, true, false, ◌&&◌, List, [], ◌∷◌, refl, sym}
use Rattle.std.proofs.Common.{subst, ◌∙◌, ap₂, arith, inl, inr, Option, Some, None, slice_get}
use Rattle.std.proofs.Common.{le-leb}
use Rattle.std.specs.Option.{IsSomeAnd}
use Rattle.est_lexer.specs.declared.kind.Token.{Token}
use Rattle.est_lexer.specs.declared.kind.TokenKind.TheVariants.{Number}
use Rattle.est_lexer.specs.declared.tokens.Tokens.{Tokens}
use Rattle.est_lexer.specs.TokenKinds.{is_same}
use Rattle.est_lexer.specs.Offsets.{text_of, tokens_of}
use Rattle.text_reader.specs.Grammar.{done, alt, rule, meets, nothing, left, right, some}
use Rattle.text_reader.specs.declared.reader.Reader.{Reader}
use Rattle.text_reader.specs.declared.outcome.Outcome.{Outcome}
use Rattle.text_reader.specs.declared.outcome.Outcome.TheVariants.{Well, Wrong, TooDeep, NoMemory}
use Rattle.text_reader.specs.Tests.{number, said, value_in, holds, stands}
use Rattle.text_reader.specs.Moving.{Does, NoneSpent, Sees, Taken, NotThere, Takes, TakesNumber}
use Rattle.text_reader.proofs.Apart.{far, within}
use Rattle.text_reader.proofs.Going.{part, take, opt_in, opt_out}
use Rattle.text_reader.proofs.Members.{and_left}
use Rattle.text_reader.proofs.Steps.{onto}
use Rattle.est_syntax.specs.declared.ports.Port.{Port}
use Rattle.est_meaning.specs.RecordedTraces.{Recorded}
use Rattle.text_values.specs.declared.formats.Format.{Format}
use Rattle.text_values.specs.declared.formats.Version.{Version}
use Rattle.text_values.specs.declared.formats.Version.TheVariants.{First, Second, Third}
use Rattle.text_values.specs.TraceGrammar.{Rule, events_at, version, ending, to_end, versioned}
use Rattle.text_values.specs.TraceGrammar.{production, format_of}
use Rattle.text_values.specs.ValueReading.{Reads}
use Rattle.text_values.proofs.Known.{known}
use Rattle.text_values.proofs.Walks.{AreApart, NotBegun, first_goes, second_goes, last_goes}
use Rattle.text_values.proofs.Walks.{done_goes}
use Rattle.est_trace.specs.TraceShapes.{ShowsEvents, ShowsQuiet, ShowsRest, ShowsTrace}
use Rattle.est_trace.specs.inside.Versions.{TakesVersion}
use Rattle.est_trace.proofs.Readings.{pair_reads, word_reads}

-- NUMBERS

-- the number of a version
abbrev number_of : Version → ℕ
number_of First = 1
number_of Second = 2
number_of Third = 3

numbered : (v : Version) → (1 ≤ number_of v) × (number_of v ≤ 3)
numbered First = (omega arith, omega arith)
numbered Second = (omega arith, omega arith)
numbered Third = (omega arith, omega arith)

one_version : (v w : Version) → number_of v ≡ number_of w → v ≡ w
one_version First First e = refl
one_version First Second e = absurd (omega (arith, e))
one_version First Third e = absurd (omega (arith, e))
one_version Second First e = absurd (omega (arith, e))
one_version Second Second e = refl
one_version Second Third e = absurd (omega (arith, e))
one_version Third First e = absurd (omega (arith, e))
one_version Third Second e = absurd (omega (arith, e))
one_version Third Third e = refl

-- its test is of its number alone
version_is : (v : Version) → version v ≡ number (number_of v) (number_of v)
version_is First = refl
version_is Second = refl
version_is Third = refl

module _ (text : List ℕ) where
  number_holds : (low high : ℕ) (t : Token) → is_same t.kind Number ≡ true
      → low ≤ value_in text t → value_in text t ≤ high → holds text (number low high) t ≡ true
  number_holds low high t s l u =
      ap₂ (λ a b. a && b) s (ap₂ (λ a b. a && b) (le-leb low (value_in text t) l)
      (le-leb (value_in text t) high u))

  version_value : (v : Version) (t : Token) → holds text (version v) t ≡ true
      → (value_in text t ≡ number_of v) × (is_same t.kind Number ≡ true)
  version_value v t h =
      let n = number_of v in
      let m : holds text (number n n) t ≡ true =
      subst (λ k. holds text k t ≡ true) (version_is v) h in
      let w = within n n text t m in
      (omega (arith, w.0, w.1), and_left (is_same t.kind Number) _ m)

  -- a version is one of these numbers
  widened : (v : Version) (o : Option Token) → meets (holds text) (version v) o ≡ true
      → meets (holds text) (number 1 3) o ≡ true
  widened v None h = h
  widened v (Some t) h =
      let w = version_value v t h in
      let n = numbered v in
      number_holds 1 3 t w.1 (omega (arith, w.0, n.0)) (omega (arith, w.0, n.1))

  -- and one of these numbers is a version
  narrowed : (v : Version) (n : ℕ) (o : Option Token) → meets (holds text) (number 1 3) o ≡ true
      → IsSomeAnd o (λ t. value_in text t ≡ n) → n ≡ number_of v
      → meets (holds text) (version v) o ≡ true
  narrowed v n None m h e = absurd h
  narrowed v n (Some t) m h e =
      subst (λ k. holds text k t ≡ true) (sym (version_is v))
      (number_holds (number_of v) (number_of v) t (and_left (is_same t.kind Number) _ m)
      (omega (arith, h, e)) (omega (arith, h, e)))

  in_range : (n : ℕ) (o : Option Token) → meets (holds text) (number 1 3) o ≡ true
      → IsSomeAnd o (λ t. value_in text t ≡ n) → (1 ≤ n) × (n ≤ 3)
  in_range n None m h = absurd h
  in_range n (Some t) m h =
      let w = within 1 3 text t m in (omega (arith, w.0, h), omega (arith, w.1, h))

  value_of_version : (v : Version) (n : ℕ) (o : Option Token)
      → IsSomeAnd o (λ t. value_in text t ≡ n) → meets (holds text) (version v) o ≡ true
      → n ≡ number_of v
  value_of_version v n None h m = absurd h
  value_of_version v n (Some t) h m = sym h ∙ (version_value v t m).0

not_true : (b : Bool) → (b ≡ true → ⊥) → b ≡ false
not_true true n = absurd (n refl)
not_true false n = refl

-- TAKEN

met : {b : Bool} → b ≡ false → b ≡ true → ⊥
met e h = let q : false ≡ true = sym e ∙ h in cc

module _ (tk : Tokens) (at n : ℕ) where
  abbrev o : Option Token
  o = slice_get (tokens_of tk) at

  -- a number that is taken has this value
  abbrev TakenSo : ℕ → Type 0
  TakenSo b = Taken tk (number 1 3) at b × IsSomeAnd o (λ t. value_in (text_of tk) t ≡ n)

  -- it is that of the version that stands there
  told : (v : Version) (b : ℕ) (u u' : Outcome) → stands tk at (version v) ≡ true → u ≡ Well
      → NoneSpent u u' → Does TakenSo (NotThere tk (number 1 3) at) at u b u' → n ≡ number_of v
  told v b Well Well m w s p = value_of_version (text_of tk) v n o p.1 m
  told v b Well Wrong m w s q = absurd (met q.0 (widened (text_of tk) v o m))
  told v b Well TooDeep m w s q = absurd (met q.0 (widened (text_of tk) v o m))
  told v b Well NoMemory m w s q = absurd (let e : Well ≡ NoMemory = s refl in cc)
  told v b Wrong u' m w s q = absurd cc
  told v b TooDeep u' m w s q = absurd cc
  told v b NoMemory u' m w s q = absurd cc

  taken : (v : Version) (b : ℕ) → (1 ≤ n → n ≤ 3 → n ≡ number_of v) → TakenSo b
      → Taken tk (version v) at b
  taken v b is p =
      let r = in_range (text_of tk) n o p.0.0 p.1 in
      (narrowed (text_of tk) v n o p.0.0 p.1 (is r.0 r.1), p.0.1)

  not_there : (v : Version) (b : ℕ) (z : Bool) → NotThere tk (number 1 3) at b z
      → NotThere tk (version v) at b z
  not_there v b z q =
      (not_true _ (λ m. met q.0 (widened (text_of tk) v o m)), q.1, q.2)

-- the number that is taken is that of this version
pub version_taken : (v : Version) (n : ℕ) {A B : Reader} → TakesNumber 1 3 A n B
    → (1 ≤ n → n ≤ 3 → n ≡ number_of v) → TakesVersion A v B
version_taken v n {A} {B} x is =
    let tk = A.tokens.now in
    record {
      takes = record {
        takes = onto (TakenSo tk A.at n) (Taken tk (version v) A.at)
            (NotThere tk (number 1 3) A.at) (NotThere tk (version v) A.at) A.at B.at A.outcome
            B.outcome (λ w p. taken tk A.at n v B.at is p)
            (λ w z q. not_there tk A.at n v B.at z q) x.takes;
        unspent = x.unspent;
        same = x.same;
      };
      only = λ w u m.
          let e = told tk A.at n u B.at A.outcome B.outcome m w x.unspent x.takes in
          let k = numbered u in
          one_version u v (sym e ∙ is (omega (arith, e, k.0)) (omega (arith, e, k.1)));
    }

-- THE REST

module _ (ports : List Port) where
  -- events, "end", and what stands behind it
  pub rest_reads : (v : Version) {f : Format} (r : Recorded) {A B C D : Reader}
      → f ≡ format_of v → Reads (rule (events_at f ports)) (ShowsEvents f ports r.events) A B
      → Takes (said "end") B C → Reads (ending v) (ShowsQuiet r.quiet) C D
      → Reads (to_end v ports) (ShowsRest (format_of v) ports r) A D
  rest_reads v {f} r {A} {B} e x y z =
      pair_reads refl (λ t u p q. (p, q))
      (subst (λ g. Reads (rule (events_at g ports)) (ShowsEvents g ports r.events) A B) e x)
      (word_reads y z)

  -- the last two versions
  abbrev later : Rule
  later = alt (versioned Second ports) (versioned Third ports)

  later_apart : AreApart (versioned Second ports) (versioned Third ports)
  later_apart text = far production text _ _ refl

  first_apart : AreApart (versioned First ports) later
  first_apart text = far production text _ _ refl

  not_begun : (v w : Version) {A B : Reader} → TakesVersion A v B → (w ≡ v → ⊥)
      → NotBegun A (versioned w ports)
  not_begun v w x n well (inl e) = n (x.only well w e)
  not_begun v w x n well (inr e) = e

  later_not_begun : {A B : Reader} → TakesVersion A First B → NotBegun A later
  later_not_begun x well (inl e) =
      let q : Second ≡ First = x.only well Second e in cc
  later_not_begun x well (inr (inl e)) =
      let q : Third ≡ First = x.only well Third e in cc
  later_not_begun x well (inr (inr e)) = e

  -- the number of a version, and then the rest of it
  pub versions_read : (v : Version) (r : Recorded) {A B C : Reader} → TakesVersion A v B
      → Reads (to_end v ports) (ShowsRest (format_of v) ports r) B C
      → Reads (alt (versioned First ports) (alt (versioned Second ports) (versioned Third ports)))
      (ShowsTrace ports r) A C
  versions_read First r x y = record {
    shape = left y.shape;
    goes = first_goes first_apart refl refl (later_not_begun x) (take known x.takes y.goes);
    is = y.is;
  }
  versions_read Second r x y = record {
    shape = right (left y.shape);
    goes = second_goes first_apart refl refl (not_begun Second First x (λ e. cc))
        (first_goes later_apart refl refl (not_begun Second Third x (λ e. cc))
        (take known x.takes y.goes));
    is = y.is;
  }
  versions_read Third r x y = record {
    shape = right (right y.shape);
    goes = second_goes first_apart refl refl (not_begun Third First x (λ e. cc))
        (second_goes later_apart refl refl (not_begun Third Second x (λ e. cc))
        (take known x.takes y.goes));
    is = y.is;
  }

-- THE END

-- nothing stands behind it
pub no_ending : (v : Version) {A : Reader} → done ≡ ending v
    → Reads (ending v) (ShowsQuiet false) A A
no_ending v {A} e = subst (λ g. Reads g (ShowsQuiet false) A A) e
    (record { shape = nothing; goes = done_goes; is = λ w. tt })

-- "quiet" may stand there, and does
pub quiet_reads : {A B : Reader} → Sees A (said "quiet") true → Takes (said "quiet") A B
    → Reads (ending Third) (ShowsQuiet true) A B
quiet_reads s x = record {
  shape = some nothing;
  goes = part refl (opt_in known (said "quiet") refl refl s (last_goes x));
  is = λ w. tt;
}

-- or does not
pub loud_reads : {A : Reader} → Sees A (said "quiet") false
    → Reads (ending Third) (ShowsQuiet false) A A
loud_reads s = record {
  shape = nothing;
  goes = part refl (opt_out known (said "quiet" ∷ []) refl refl (s, tt));
  is = λ w. tt;
}
