-- Lines one after the other, from the first to the last.
use Rattle.std.proofs.Common.{◌≡◌, ℕ, ◌<◌, List, [], ◌∷◌, ◌++◌}
use Rattle.std.proofs.Common.{length, refl, sym, ◌∙◌, ap, subst, arith, is_some, slice_get}
use Rattle.std.proofs.Common.{inl, inr}
use Rattle.std.proofs.Common.{Option, Some, None, append_assoc, append-nil}
use Rattle.std.specs.Option.{IsSomeAnd}
use Rattle.est_lexer.specs.Offsets.{text_of, tokens_of}
use Rattle.est_syntax.specs.declared.ports.Port.{Port}
use Rattle.text_reader.specs.Grammar.{rule, both, nothing}
use Rattle.text_reader.specs.declared.reader.Reader.{Reader}
use Rattle.text_reader.specs.declared.outcome.Outcome.{Outcome}
use Rattle.text_reader.specs.declared.outcome.Outcome.TheVariants.{Well, Wrong, TooDeep, NoMemory}
use Rattle.text_reader.specs.Tests.{Test, said, number, value_in}
use Rattle.text_reader.specs.Moving.{bit, NoneSeen, OneSeen, Still, Closes, Takes, TakesNumber}
use Rattle.text_reader.specs.Moving.{Taken, NotThere}
use Rattle.text_reader.proofs.Steps.{left_of, onto, sees_well, still_well}
use Rattle.text_values.specs.TraceGrammar.{lists_at, list_starts, port_lists}
use Rattle.text_values.specs.ValueReading.{Reads}
use Rattle.est_meaning.specs.declared.event.Event.{Event}
use Rattle.mean_ports.specs.declared.lists.PortLists.{PortLists}
use Rattle.mean_ports.specs.ListsOfEvents.{AreListsOf}
use Rattle.est_trace.specs.ListShapes.{Named, ShowsParts, no_more, ShowsLists}
use Rattle.est_trace.specs.declared.growing.Growing.{Growing}
use Rattle.est_trace.specs.declared.lists.NamedPort.{NamedPort}
use Rattle.est_trace.specs.inside.GrowingLists.{IsGrown}
use Rattle.est_trace.specs.inside.ListReading.{named, signals_named, line_starts, IsThere}
use Rattle.est_trace.specs.inside.ListReading.{with_levels, GoesOn, TakesLine, ShowsMerge}
use Rattle.est_trace.proofs.LineReadings.{out_reads, rule_reads, still_reads}
use Rattle.est_trace.proofs.LineReadings.{reads_still, closed_reads, levels_reads}
use Rattle.est_trace.proofs.Readings.{pair_reads, word_reads, reads_as}
use Rattle.text_values.proofs.Walks.{last_goes}

-- whether a port is named tells the words that a line begins with
pub starts_same : (ports : List Port) (at : Option NamedPort)
    → line_starts (is_some at) ≡ list_starts (signals_named (named ports at))
starts_same ports None = refl
starts_same ports (Some p) = refl

-- what is seen is seen where all went well
pub one_seen_well : (B : Reader) (ks : List Test) → OneSeen B ks → B.outcome ≡ Well
one_seen_well B [] s = absurd s
one_seen_well B (k ∷ ks) (inl s) = sees_well s
one_seen_well B (k ∷ ks) (inr s) = one_seen_well B ks s

-- lines, and more lines
goes_after : (ports : List Port) (a b c : Option Named) (es fs : List Event) {A B C : Reader}
    → GoesOn ports a b es A B → GoesOn ports b c fs B C → GoesOn ports a c (es ++ fs) A C
goes_after ports a b c es fs {A} {B} {C} x y = record {
  on = λ rest last r. subst
      (λ w. Reads (rule (lists_at ports (signals_named a))) (ShowsParts ports a w) A
      (with_levels A.levels last)) (sym (append_assoc es fs rest))
      (x.on (fs ++ rest) (with_levels B.levels last) (y.on rest last r));
  tokens = y.tokens ∙ x.tokens;
  onward = (let p = x.onward in let q = y.onward in omega (arith, p, q));
  sticky = (let p = x.sticky in let q = y.sticky in omega (arith, p, q));
}

-- The lines so far, with their events, of which the lists so far are the lists.
pub record Lines (ports : List Port) (old : Reader) (at : Option NamedPort) (found : Growing)
    (new : Reader) : Type 0 where
  pub events : List Event
  pub goes : GoesOn ports None (named ports at) events old new
  pub there : new.outcome ≡ Well → IsThere ports at
  pub grown : new.outcome ≡ Well → IsGrown (length ports) found events

module _ (ports : List Port) where
  pub no_lines : {A B : Reader} (found : Growing) → Still A B
      → (B.outcome ≡ Well → IsGrown (length ports) found []) → Lines ports A None found B
  no_lines {A} {B} found s g = record {
    events = [];
    goes = record {
      on = λ rest last r. levels_reads (still_reads s r);
      tokens = s.same.tokens;
      onward = s.same.onward;
      sticky = s.same.sticky;
    };
    there = λ w. tt;
    grown = g;
  }

  pub one_line : {A B C : Reader} (at at' : Option NamedPort) (found found' : Growing)
      → B.outcome ≡ Well → Lines ports A at found B → TakesLine ports at at' found found' B C
      → Lines ports A at' found' C
  one_line at at' found found' w x y = record {
    events = x.events ++ y.events;
    goes = goes_after ports None (named ports at) (named ports at') x.events y.events x.goes
        y.goes;
    there = λ v. y.there v (x.there w);
    grown = λ v. y.grown v (x.there w) x.events (x.grown w);
  }

  -- each line leaves less to read
  pub less_left : {B C : Reader} (at at' : Option NamedPort) (found found' : Growing)
      → B.outcome ≡ Well → TakesLine ports at at' found found' B C → left_of C < left_of B
  less_left {B} {C} at at' found found' w x = by C.outcome refl
    where
      b : bit B.outcome ≡ 1
      b = ap bit w

      many : length (tokens_of C.tokens.now) ≡ length (tokens_of B.tokens.now)
      many = ap (λ v. length (tokens_of v)) x.goes.tokens

      stopped : bit C.outcome ≡ 0 → left_of C < left_of B
      stopped z = let o = x.goes.onward in omega (arith, z, b, many, o)

      by : (o : Outcome) → C.outcome ≡ o → left_of C < left_of B
      by Well e =
          let f = x.further e in
          let c : bit C.outcome ≡ 1 = ap bit e in
          let i = C.inside in
          omega (arith, f, b, c, many, i)
      by Wrong e = stopped (ap bit e)
      by TooDeep e = stopped (ap bit e)
      by NoMemory e = stopped (ap bit e)

  -- no line more
  last_reads : (a : Option Named) {B : Reader} (ks : List Test) → ks ≡ list_starts (signals_named a)
      → NoneSeen B ks
      → Reads (rule (lists_at ports (signals_named a))) (ShowsParts ports a []) B B
  last_reads None {B} ks e n = rule_reads (lists_at ports None)
      (out_reads (list_starts None) refl refl (subst (λ ls. NoneSeen B ls) e n) no_more)
  last_reads (Some p) {B} ks e n = rule_reads (lists_at ports (Some p.signals))
      (out_reads (list_starts (Some p.signals)) refl refl (subst (λ ls. NoneSeen B ls) e n) no_more)

  pub all_lines : {A B C D : Reader} (at : Option NamedPort) (found : Growing) (lists : PortLists)
      → Lines ports A at found B → NoneSeen B (line_starts (is_some at)) → Closes A.levels B C
      → Still C D
      → (D.outcome ≡ Well → (many : ℕ) (es : List Event) → IsGrown many found es
      → AreListsOf many lists es)
      → Reads (rule (lists_at ports None)) (ShowsMerge ports lists) A D
  all_lines {A} {B} {C} {D} at found lists x n z s f =
      let es = x.events in
      let last = last_reads (named ports at) (line_starts (is_some at)) (starts_same ports at) n in
      let whole : Reads (rule (lists_at ports None)) (ShowsParts ports None es) A
      (with_levels A.levels B) = subst
      (λ w. Reads (rule (lists_at ports None)) (ShowsParts ports None w) A
      (with_levels A.levels B)) (append-nil es) (x.goes.on [] B last) in
      reads_as (reads_still (closed_reads whole z) s) (λ w t r. record {
        events = es;
        shown = r;
        lists_are = f w (length ports) es (x.grown (sym z.outcome ∙ still_well s w));
      })

  -- "ports", the version, the lines, and "end"
  pub version_taken : {A B : Reader} {v : ℕ} → TakesNumber 1 1 A v B → Takes (number 1 1) A B
  version_taken {A} {B} {v} x = record {
    takes = onto (λ b. Taken A.tokens.now (number 1 1) A.at b
        × IsSomeAnd (slice_get (tokens_of A.tokens.now) A.at)
        (λ token. value_in (text_of A.tokens.now) token ≡ v))
        (Taken A.tokens.now (number 1 1) A.at) (NotThere A.tokens.now (number 1 1) A.at)
        (NotThere A.tokens.now (number 1 1) A.at) A.at B.at A.outcome B.outcome (λ e p. p.0)
        (λ e u q. q) x.takes;
    unspent = x.unspent;
    same = x.same;
  }

  pub lists_read : {A B C D E : Reader} {v : ℕ} (lists : PortLists) → Takes (said "ports") A B
      → TakesNumber 1 1 B v C
      → Reads (rule (lists_at ports None)) (ShowsMerge ports lists) C D → Takes (said "end") D E
      → Reads (port_lists ports) (ShowsLists ports lists) A E
  lists_read lists p n x e =
      word_reads p (word_reads (version_taken n)
      (pair_reads {Q = λ t. t ≡ nothing} refl (λ t u h k. record {
        events = h.events;
        shape = t;
        shape_is = ap (λ w. both t w) k;
        shown = h.shown;
        lists_are = h.lists_are;
      }) x (record { shape = nothing; goes = last_goes e; is = λ w. refl })))
