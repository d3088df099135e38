-- Where the events of a trace are too many.
use Rattle.std.proofs.Common.{◌≡◌, ℕ, suc, ◌+◌, ◌<◌, ◌≤◌, Bool, true, false, List}
use Rattle.std.proofs.Common.{[], ◌∷◌, length, refl, sym, ◌∙◌, subst, arith, add-one}
use Rattle.est_lexer.specs.declared.tokens.Tokens.{Tokens}
use Rattle.est_lexer.specs.Offsets.{text_of, tokens_of}
use Rattle.text_reader.specs.Grammar.{alt, rule, nothing, At, Tree, t_rule, t_opt_in}
use Rattle.text_reader.specs.Grammar.{t_opt_out, t_deeper, t_seq, Partial, p_rule, p_opt}
use Rattle.text_reader.specs.Grammar.{p_deeper, p_first, p_second, p_word, p_left, p_right}
use Rattle.text_reader.specs.Sentences.{HasPartial}
use Rattle.text_reader.specs.Refusals.{SaysWhy, wrong_at}
use Rattle.text_reader.proofs.GrammarLaws as laws
use Rattle.text_reader.proofs.Trees as trees
use Rattle.est_syntax.specs.declared.ports.Port.{Port}
use Rattle.text_reader.specs.declared.reader.Reader.{Reader}
use Rattle.text_reader.specs.Tests.{Test, said, stands}
use Rattle.text_reader.specs.Moving.{Does, Taken, NotThere, Takes, Same}
use Rattle.text_reader.specs.Going.{Shape, Finds, Fails}
use Rattle.text_reader.specs.Shown.{node}
use Rattle.text_reader.proofs.Steps.{onto, after}
use Rattle.text_values.specs.declared.formats.Format.{Format}
use Rattle.text_values.specs.declared.formats.Version.{Version}
use Rattle.text_values.specs.declared.formats.Version.TheVariants.{First, Second, Third}
use Rattle.text_values.specs.TraceGrammar.{events_at, version, ending, to_end, versioned, trace}
use Rattle.text_values.specs.TraceGrammar.{event_starts, format_of}
use Rattle.text_values.specs.ValueReading.{plain, Reads}
use Rattle.text_values.proofs.Level.{level_free, tree_any, partial_any, event_free}
use Rattle.est_trace.specs.inside.Counting.{CountsEvents, CountsTrace}
use Rattle.est_trace.specs.TraceText.{traces, nested, IsFullAfter, IsFull}
use Rattle.est_trace.proofs.Events.{event_partial, flat_not_deep, BeginsEvent}

module _ (tokens : Tokens) (ports : List Port) where
  -- the tokens up to a full place and one more have a partial tree with one more level
  pub full_goes_on : (f : Format) (d a i : ℕ) (ts : List Shape)
      → Tree (traces (text_of tokens)) (tokens_of tokens) (length (tokens_of tokens))
      (rule (events_at f ports)) d a i (nested ts nothing)
      → length ts ≡ d → i < length (tokens_of tokens) → BeginsEvent tokens f ports i
      → Partial (traces (text_of tokens)) (tokens_of tokens) (suc i) (rule (events_at f ports))
      (suc d) a
  full_goes_on f d a _ [] (t_rule t_opt_out) e l m =
      p_rule (p_opt (p_deeper (p_first (partial_any (text_of tokens) (tokens_of tokens)
      (suc a) d (event_free f ports) (event_partial f tokens a ports m)))))
  full_goes_on f _ a i (t ∷ ts) (t_rule (t_opt_in (t_deeper {d = d} (t_seq x y)))) e l m =
      p_rule (p_opt (p_deeper (p_second (tree_any (text_of tokens) (tokens_of tokens)
      (suc i) (suc d) (event_free f ports) (trees.tree_of_fewer (traces (text_of tokens))
      (tokens_of tokens) (length (tokens_of tokens)) (suc i) x
      (omega (
        arith,
        trees.tree_forward (traces (text_of tokens)) (tokens_of tokens)
            (length (tokens_of tokens)) y,
      )) (omega arith))) (full_goes_on f d _ i ts y (omega arith) l
      m))))

  -- the part of a trace in a version
  in_version : (v : Version) (d i : ℕ)
      → At (traces (text_of tokens)) (tokens_of tokens) 1 (version v) → 1 < i
      → Partial (traces (text_of tokens)) (tokens_of tokens) i (to_end v ports) d 2
      → Partial (traces (text_of tokens)) (tokens_of tokens) i (alt (versioned First ports)
      (alt (versioned Second ports) (versioned Third ports))) d 1
  in_version First d i at l x = p_left (p_word (version First) l at x)
  in_version Second d i at l x = p_right (p_left (p_word (version Second) l at x))
  in_version Third d i at l x = p_right (p_right (p_word (version Third) l at x))

  -- a full place goes on with one more event
  full_trace_goes_on : (d i : ℕ) → IsFull ports d (text_of tokens) (tokens_of tokens) i
      → (i < length (tokens_of tokens)) × HasPartial (traces (text_of tokens)) (trace ports) (suc d)
      (tokens_of tokens) (i + 1)
  full_trace_goes_on d i f =
      let v = f.1.0 in
      let ts = f.1.2.0 in
      let m = f.1.2.3 in
      let l = laws.some_inside (traces (text_of tokens)) (tokens_of tokens) i (event_starts ports) m
      in
      let w : 2 ≤ i = trees.tree_forward (traces (text_of tokens)) (tokens_of tokens)
      (length (tokens_of tokens)) f.1.2.2 in (
        l,
        subst (λ n. HasPartial (traces (text_of tokens)) (trace ports) (suc d) (tokens_of tokens) n)
            (sym (add-one i))
            (p_word (said "trace") (omega arith) f.0 (in_version v (suc d) (suc i) f.1.1
            (omega arith) (p_first (full_goes_on (format_of v) d 2 i ts f.1.2.2 f.1.2.1 l m)))),
      )

  -- where no number of levels would do, the levels are not full
  pub not_full : (d place : ℕ)
      → SaysWhy (traces (text_of tokens)) (trace ports) d (tokens_of tokens) (wrong_at place)
      → IsFull ports d (text_of tokens) (tokens_of tokens) place → ⊥
  not_full d place h f = let g = full_trace_goes_on d place f in h.1 g.0 (suc d) g.1

-- what is counted of a part is counted of the whole
pub counts_after : {k : Test} (A B C : Reader) (Y : ℕ → ℕ → Type 0) → Takes k A B
    → Does (λ b. Unit {0}) (λ i z. z ≡ true → Y B.at i) B.at B.outcome C.at C.outcome
    → Does (λ b. Unit {0}) (λ i z. z ≡ true → (stands A.tokens.now A.at k ≡ true) × Y (A.at + 1) i)
    A.at A.outcome C.at C.outcome
counts_after {k} A B C Y x y = after (Taken A.tokens.now k A.at) (λ b. Unit {0}) (λ b. Unit {0})
    (NotThere A.tokens.now k A.at) (λ i z. z ≡ true → Y B.at i)
    (λ i z. z ≡ true → (stands A.tokens.now A.at k ≡ true) × Y (A.at + 1) i) A.at B.at C.at
    A.outcome B.outcome C.outcome
    (λ e p q. tt)
    (λ e z p q r. (p.0, subst (λ v. Y v C.at) p.1 (q r)))
    (λ e z q r. absurd (let n : z ≡ false = q.2 in cc))
    x.takes y

pub counts_before : {k : Test} (A B C : Reader) (Y : ℕ → Type 0)
    → Does (λ b. Unit {0}) (λ i z. z ≡ true → Y i) A.at A.outcome B.at B.outcome → Takes k B C
    → Does (λ b. Unit {0}) (λ i z. z ≡ true → Y i) A.at A.outcome C.at C.outcome
counts_before {k} A B C Y x y = after (λ b. Unit {0}) (Taken B.tokens.now k B.at) (λ b. Unit {0})
    (λ i z. z ≡ true → Y i) (NotThere B.tokens.now k B.at)
    (λ i z. z ≡ true → Y i) A.at B.at C.at A.outcome B.outcome C.outcome
    (λ e p q. tt)
    (λ e z p q r. absurd (let n : z ≡ false = q.2 in cc))
    (λ e z q. q)
    x y.takes

-- what stands behind the end opens no level
ending_free : (v : Version) → level_free (ending v) ≡ true
ending_free First = refl
ending_free Second = refl
ending_free Third = refl

counts_still : (v : Version) (Is : Shape → Type 0) (A B C : Reader) (Y : ℕ → Type 0)
    → Does (λ b. Unit {0}) (λ i z. z ≡ true → Y i) A.at A.outcome B.at B.outcome
    → Reads (ending v) Is B C
    → Does (λ b. Unit {0}) (λ i z. z ≡ true → Y i) A.at A.outcome C.at C.outcome
counts_still v Is A B C Y x y =
    let tk = B.tokens.now in
    after (λ b. Unit {0}) (Finds plain tk (ending v) B.levels B.at (node y.shape)) (λ b. Unit {0})
    (λ i z. z ≡ true → Y i) (Fails plain tk (ending v) B.levels B.at)
    (λ i z. z ≡ true → Y i) A.at B.at C.at A.outcome B.outcome C.outcome
    (λ e p q. tt)
    (λ e z p q r. absurd (flat_not_deep (text_of tk) (ending_free v)
    (subst (λ u. Fails plain tk (ending v) B.levels B.at C.at u) r q)))
    (λ e z q. q)
    x y.goes.moves

-- "trace", its version, events, "end", and what stands behind it
pub trace_counted : (v : Version) {f : Format} (Is : Shape → Type 0) (ports : List Port)
    {A B C D E F : Reader} → f ≡ format_of v → Takes (said "trace") A B → Takes (version v) B C
    → Same C D → CountsEvents f ports C D → Takes (said "end") D E → Reads (ending v) Is E F
    → CountsTrace ports A F
trace_counted v {f} Is ports {A} {B} {C} {D} {E} {F} q x y s h z last e =
    let tk = A.tokens.now in
    let Y = λ (a i : ℕ). IsFullAfter (format_of v) ports A.levels (text_of tk) (tokens_of tk) a i in
    let Z = λ (a i : ℕ). (stands tk a (version v) ≡ true) × Y (a + 1) i in
    let g : CountsEvents (format_of v) ports C D = subst (λ k. CountsEvents k ports C D) q h in
    let c : Does (λ b. Unit {0}) (λ i u. u ≡ true → Y C.at i) C.at C.outcome D.at D.outcome =
    subst (λ d. Does (λ b. Unit {0}) (λ i u. u ≡ true
    → IsFullAfter (format_of v) ports d (text_of tk) (tokens_of tk) C.at i) C.at C.outcome D.at
    D.outcome) (y.same.levels ∙ x.same.levels)
    (subst (λ ts. Does (λ b. Unit {0}) (λ i u. u ≡ true
    → IsFullAfter (format_of v) ports C.levels (text_of ts) (tokens_of ts) C.at i) C.at C.outcome
    D.at D.outcome) (y.same.tokens ∙ x.same.tokens) g) in
    let all = counts_still v Is C E F (λ i. Y C.at i) (counts_before C D E (λ i. Y C.at i) c z) last
    in
    let b : Does (λ b. Unit {0}) (λ i u. u ≡ true → Z B.at i) B.at B.outcome F.at F.outcome =
    subst (λ ts. Does (λ b. Unit {0}) (λ i u. u ≡ true
    → (stands ts B.at (version v) ≡ true) × Y (B.at + 1) i) B.at B.outcome F.at F.outcome)
    x.same.tokens (counts_after B C F Y y all) in
    let Whole = λ (i : ℕ) (u : Bool). u ≡ true → (stands tk A.at (said "trace") ≡ true)
    × ((w : Version) × (stands tk (A.at + 1) (version w) ≡ true)
    × IsFullAfter (format_of w) ports A.levels (text_of tk) (tokens_of tk) (A.at + 1 + 1) i) in
    let a : Does (λ b. Unit {0}) Whole A.at A.outcome F.at F.outcome =
    onto (λ b. Unit {0}) (λ b. Unit {0}) (λ i u. u ≡ true → (stands tk A.at (said "trace") ≡ true)
    × Z (A.at + 1) i) Whole A.at F.at A.outcome F.outcome
    (λ w p. p) (λ w u k r. let j = k r in (j.0, (v, j.1.0, j.1.1))) (counts_after A B F Z x b)
    in
    subst (λ n. Does (λ b. Unit {0}) (λ i u. u ≡ true → (stands tk n (said "trace") ≡ true)
    × ((w : Version) × (stands tk (n + 1) (version w) ≡ true)
    × IsFullAfter (format_of w) ports A.levels (text_of tk) (tokens_of tk) (n + 1 + 1) i)) A.at
    A.outcome F.at F.outcome) e a
