-- What a reader finds of a line of a trace that is still being recorded.
use Rattle.std.proofs.Common.{◌≡◌, ℕ, suc, ◌+◌, ◌<◌, ◌≤◌, Bool, true, List, length, refl, sym}
use Rattle.std.proofs.Common.{◌∙◌, ap, subst, arith, add-one}
use Rattle.est_lexer.specs.declared.tokens.Tokens.{Tokens}
use Rattle.est_lexer.specs.Offsets.{text_of, tokens_of}
use Rattle.text_reader.specs.Grammar.{word, rule, nothing, both, At, Partial, t_word}
use Rattle.text_reader.specs.Grammar.{p_none, p_whole, p_word, p_first}
use Rattle.text_reader.specs.Sentences.{HasPartial}
use Rattle.text_reader.specs.Refusals.{SaysWhy, wrong_at}
use Rattle.text_reader.proofs.GrammarLaws as laws
use Rattle.text_reader.proofs.Trees as trees
use Rattle.est_syntax.specs.declared.ports.Port.{Port}
use Rattle.est_meaning.specs.declared.trace.Expected.{Expected}
use Rattle.text_reader.specs.declared.reader.Reader.{Reader}
use Rattle.text_reader.specs.Tests.{Test, said, number, stands}
use Rattle.text_reader.specs.Moving.{Does, Takes, TakesNumber, Same, Seen, Sees}
use Rattle.text_reader.specs.Whole.{Starts}
use Rattle.text_reader.specs.declared.outcome.Outcome.{Outcome}
use Rattle.text_reader.specs.declared.outcome.Outcome.TheVariants.{Well, Wrong, TooDeep, NoMemory}
use Rattle.text_reader.proofs.Steps.{onto}
use Rattle.text_values.specs.declared.formats.Format.TheVariants.{Complete}
use Rattle.text_values.specs.TraceGrammar.{Rule, events_at, event_starts}
use Rattle.text_values.specs.ValueReading.{Reads}
use Rattle.text_values.proofs.Walks.{last_goes}
use Rattle.est_trace.specs.LineText.{first_version}
use Rattle.est_trace.specs.TraceShapes.{ShowsEvents}
use Rattle.est_trace.specs.TraceText.{traces, IsFullAfter}
use Rattle.est_trace.specs.inside.Counting.{CountsEvents}
use Rattle.est_trace.specs.inside.WholeLines.{ShowsLine, CountsLine}
use Rattle.est_trace.proofs.Fullness.{full_goes_on, counts_after, counts_before}
use Rattle.est_trace.proofs.LineLoop.{version_taken}
use Rattle.est_trace.proofs.Readings.{pair_reads, word_reads}

module _ (ports : List Port) where
  -- "trace", its version, events, and "end"
  pub line_reads : {A B C D E : Reader} {v : ℕ} (events : List Expected)
      → Takes (said "trace") A B → TakesNumber 1 1 B v C
      → Reads (rule (events_at Complete ports)) (ShowsEvents Complete ports events) C D
      → Takes (said "end") D E → Reads (first_version ports) (ShowsLine ports events) A E
  line_reads events x n y e =
      word_reads x (word_reads (version_taken ports n)
      (pair_reads {Q = λ t. t ≡ nothing} refl (λ t u h k. record {
        shape = t;
        shape_is = ap (λ w. both t w) k;
        shown = h;
      }) y (record { shape = nothing; goes = last_goes e; is = λ w. refl })))

  -- what is counted of its events is counted of the line
  pub line_counted : {A B C D E : Reader} {v : ℕ} → Takes (said "trace") A B
      → TakesNumber 1 1 B v C → Same C D → CountsEvents Complete ports C D
      → Takes (said "end") D E → CountsLine ports A E
  line_counted {A} {B} {C} {D} {E} x n s h z e =
      let tk = A.tokens.now in
      let y = version_taken ports n in
      let Y = λ (a i : ℕ). IsFullAfter Complete ports A.levels (text_of tk) (tokens_of tk) a i in
      let c : Does (λ b. Unit {0}) (λ i u. u ≡ true → Y C.at i) C.at C.outcome D.at D.outcome =
      subst (λ d. Does (λ b. Unit {0}) (λ i u. u ≡ true
      → IsFullAfter Complete ports d (text_of tk) (tokens_of tk) C.at i) C.at C.outcome D.at
      D.outcome) (y.same.levels ∙ x.same.levels)
      (subst (λ ts. Does (λ b. Unit {0}) (λ i u. u ≡ true
      → IsFullAfter Complete ports C.levels (text_of ts) (tokens_of ts) C.at i) C.at C.outcome
      D.at D.outcome) (y.same.tokens ∙ x.same.tokens) h) in
      let b : Does (λ b. Unit {0}) (λ i u. u ≡ true → Y (B.at + 1) i) B.at B.outcome E.at E.outcome
      = onto (λ b. Unit {0}) (λ b. Unit {0})
      (λ i u. u ≡ true → (stands B.tokens.now B.at (number 1 1) ≡ true) × Y (B.at + 1) i)
      (λ i u. u ≡ true → Y (B.at + 1) i) B.at E.at B.outcome E.outcome (λ w p. p)
      (λ w u k r. (k r).1)
      (counts_after B C E Y y (counts_before C D E (λ i. Y C.at i) c z)) in
      let a : Does (λ b. Unit {0}) (λ i u. u ≡ true → Y (A.at + 1 + 1) i) A.at A.outcome E.at
      E.outcome
      = onto (λ b. Unit {0}) (λ b. Unit {0})
      (λ i u. u ≡ true → (stands tk A.at (said "trace") ≡ true) × Y (A.at + 1 + 1) i)
      (λ i u. u ≡ true → Y (A.at + 1 + 1) i) A.at E.at A.outcome E.outcome (λ w p. p)
      (λ w u k r. (k r).1)
      (counts_after A B E (λ m i. Y (m + 1) i) x b) in
      subst (λ m. Does (λ b. Unit {0}) (λ i u. u ≡ true → Y (m + 1 + 1) i) A.at A.outcome E.at
      E.outcome) e a

module _ (tokens : Tokens) (ports : List Port) where
  -- a partial tree goes on with a token that its first word meets
  word_there : {k : Test} {g : Rule} {n d a : ℕ}
      → Partial (traces (text_of tokens)) (tokens_of tokens) n (word k g) d a → a < n
      → At (traces (text_of tokens)) (tokens_of tokens) a k
      × Partial (traces (text_of tokens)) (tokens_of tokens) n g d (suc a)
  word_there (p_none e) l = absurd (omega (arith, e, l))
  word_there (p_whole (t_word k l' m x) e) l = (m, p_whole x e)
  word_there (p_word k l' m x) l = (m, x)

  -- where no number of levels would do, the levels are not full
  pub line_not_full : (d place : ℕ)
      → SaysWhy (traces (text_of tokens)) (first_version ports) d (tokens_of tokens)
      (wrong_at place)
      → IsFullAfter Complete ports d (text_of tokens) (tokens_of tokens) 2 place → ⊥
  line_not_full d place h f =
      let L = traces (text_of tokens) in
      let s = tokens_of tokens in
      let l = laws.some_inside L s place (event_starts ports) f.3 in
      let w : 2 ≤ place = trees.tree_forward L s (length s) f.2 in
      let p = word_there h.0.front (omega (arith, w)) in
      let q = word_there p.1 (omega (arith, w)) in
      h.1 l (suc d)
      (subst (λ n. HasPartial L (first_version ports) (suc d) s n) (sym (add-one place))
      (p_word (said "trace") (omega arith) p.0 (p_word (number 1 1) (omega (arith, w)) q.0
      (p_first (full_goes_on tokens ports Complete d 2 place f.0 f.2 f.1 l f.3)))))

-- what a reader at the first token sees
pub sees_first : {tokens : Tokens} {reader : Reader} {d : ℕ} {k : Test} {r : Bool}
    → Starts tokens d reader → Sees reader k r → stands tokens 0 k ≡ r
sees_first {tokens} {reader} {d} {k} {r} s x =
    subst (λ ts. stands ts 0 k ≡ r) s.tokens_are
    (subst (λ a. stands reader.tokens.now a k ≡ r) s.at (by reader.outcome s.well x.seen))
  where
    by : (o : Outcome) → o ≡ Well → Seen o (stands reader.tokens.now reader.at k) r
        → stands reader.tokens.now reader.at k ≡ r
    by Well e h = h
    by Wrong e h = cc
    by TooDeep e h = cc
    by NoMemory e h = cc
