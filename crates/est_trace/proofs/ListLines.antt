-- A line of lists, and what it is with the lines after it.
use Rattle.std.proofs.Common.{◌≡◌, ℕ, suc, ◌<◌, ◌≤◌, true, false, List, [], ◌∷◌, ◌++◌}
use Rattle.std.proofs.Common.{length, refl, sym, ◌∙◌, ap, subst, arith, slice_get, inl, inr}
use Rattle.std.proofs.Common.{Option, Some, None, append-nil}
use Rattle.std.specs.Prelude.{◌⊎◌, option_to_list}
use Rattle.std.specs.Option.{IsSomeAnd}
use Rattle.est_lexer.specs.Offsets.{text_of, tokens_of}
use Rattle.est_syntax.specs.Kinds.{maxint}
use Rattle.rule_ports.proofs.Listing.{within}
use Rattle.est_syntax.specs.declared.ports.Port.{Port}
use Rattle.est_syntax.specs.declared.ports.Signal.{Signal}
use Rattle.text_reader.specs.Grammar.{word, seq, alt, deeper, rule, one_of, leaf, both, left, right}
use Rattle.text_reader.specs.Grammar.{some, pick, Partial, p_none, p_word, p_first, p_left, p_right}
use Rattle.text_reader.specs.Marks.{can_begin, can_be_empty, disjoint, implies_one}
use Rattle.text_reader.specs.Shown.{Shows, kept, s_kept}
use Rattle.text_reader.specs.declared.reader.Reader.{Reader}
use Rattle.text_reader.specs.declared.outcome.Outcome.TheVariants.{Well}
use Rattle.text_reader.specs.Tests.{Test, said, value, apart, implies}
use Rattle.text_reader.specs.Moving.{bit, Sees, OneSeen, Takes, TakesNumber, Enters, Still}
use Rattle.text_reader.specs.Going.{Shape}
use Rattle.text_reader.proofs.Going.{take}
use Rattle.text_reader.proofs.GrammarLaws as laws
use Rattle.text_reader.proofs.Single.{number_goes}
use Rattle.text_reader.proofs.Steps.{sees_well, sees_it, sees_not, taken, bit_small}
use Rattle.text_values.specs.TraceGrammar.{Rule, lists_at, named_port, list_starts, port_event}
use Rattle.text_values.specs.TraceGrammar.{port_event_at}
use Rattle.text_values.specs.TraceGrammar.{time, subscripts, is_head, marks}
use Rattle.text_values.specs.ValueReading.{plain, Reads}
use Rattle.text_values.proofs.Closed.{subscripts_closed, port_event_closed}
use Rattle.text_values.proofs.Known.{known}
use Rattle.est_meaning.specs.declared.event.Event.{Event}
use Rattle.est_meaning.specs.declared.event.Event.TheVariants as event
use Rattle.est_meaning.specs.declared.event.Event.TheVariants.{Passes}
use Rattle.mean_ports.specs.Merges.{IsAt}
use Rattle.est_trace.specs.ListShapes.{Named, ShowsPortEvent, ShowsParts, port_next}
use Rattle.est_trace.specs.ListShapes.{time_next, event_next}
use Rattle.est_trace.specs.PortNames.{GoodPorts, port_name, kinds_of, signals_of}
use Rattle.est_trace.specs.TraceText.{traces}
use Rattle.est_trace.specs.declared.growing.Growing.{Growing}
use Rattle.est_trace.specs.declared.lists.NamedPort.{NamedPort}
use Rattle.est_trace.specs.inside.GrowingLists.{IsGrown, GrowsBy, GrowsAt}
use Rattle.est_trace.specs.inside.ListReading.{named_as, named, signals_named, IsThere, NamesPort}
use Rattle.est_trace.specs.inside.ListReading.{with_levels, GoesOn, TakesLine}
use Rattle.est_trace.specs.inside.Parts.{ShowsElement}
use Rattle.est_trace.proofs.LineReadings.{well_before, first_reads, second_reads, some_reads}
use Rattle.est_trace.proofs.LineReadings.{rule_reads, reads_still, levels_reads, reads_if}
use Rattle.est_trace.proofs.LineReadings.{seen_within, level_reads}
use Rattle.est_trace.proofs.Names.{AreTold}
use Rattle.est_trace.proofs.Parts.{chosen_reads}
use Rattle.est_trace.proofs.Readings.{ArePaired, pair_reads, then_reads, word_reads, tree_of}
use Rattle.est_trace.proofs.Readings.{as_shape}
use Rattle.est_trace.proofs.SameTests.{same_head}

-- THE GRAMMAR OF A LINE

module _ (ports : List Port) where
  -- a port that is named, and the rest; a time and the rest; and what is within a level
  abbrev pub port_line : Rule
  port_line = word (said "port") (one_of (named_port ports) ports)

  abbrev pub time_line : Rule
  time_line = seq time (rule (lists_at ports None))

  abbrev pub level_line : Option (List Signal) → Rule
  level_line a = deeper (alt time_line (port_event_at ports a))

  pub level_solid : (a : Option (List Signal)) → can_be_empty marks (level_line a) ≡ false
  level_solid None = refl
  level_solid (Some signals) = refl

  line_solid : (a : Option (List Signal))
      → can_be_empty marks (alt port_line (level_line a)) ≡ false
  line_solid None = refl
  line_solid (Some signals) = refl

  level_apart : (a : Option (List Signal))
      → disjoint apart (can_begin marks port_line) (can_begin marks (level_line a)) ≡ true
  level_apart None = refl
  level_apart (Some signals) = refl

  event_apart : (a : Option (List Signal))
      → disjoint apart (can_begin marks time_line) (can_begin marks (port_event_at ports a)) ≡ true
  event_apart None = refl
  event_apart (Some signals) = refl

  event_solid : (a : Option (List Signal)) → can_be_empty marks (port_event_at ports a) ≡ false
  event_solid None = refl
  event_solid (Some signals) = refl

  -- a line, and the rest
  line_reads : (a : Option Named) (es : List Event) {B D : Reader} (k : Test)
      → implies_one implies k (can_begin marks (alt port_line (level_line (signals_named a))))
      ≡ true → Sees B k true
      → Reads (alt port_line (level_line (signals_named a)))
      (λ t. ShowsParts ports a es (some t)) B D
      → Reads (rule (lists_at ports (signals_named a))) (ShowsParts ports a es) B D
  line_reads a es k i s x = rule_reads (lists_at ports (signals_named a))
      (some_reads k i (line_solid (signals_named a)) (λ t p. p) s x)

  -- what is within a level of a line
  level_on : (a : Option Named) (es : List Event) {B C D : Reader} (k : Test)
      → implies_one implies k (can_begin marks (level_line (signals_named a))) ≡ true
      → implies_one implies k (can_begin marks (alt port_line (level_line (signals_named a))))
      ≡ true → Sees B k true
      → Partial (traces (text_of B.tokens.now)) (tokens_of B.tokens.now) (suc B.at)
      (alt time_line (port_event_at ports (signals_named a))) 0 B.at → Enters B C
      → Reads (alt time_line (port_event_at ports (signals_named a)))
      (λ t. ShowsParts ports a es (some (right t))) C D
      → Reads (rule (lists_at ports (signals_named a))) (ShowsParts ports a es) B
      (with_levels B.levels D)
  level_on a es k i j s p n x = line_reads a es k j s
      (second_reads k i (level_apart (signals_named a)) refl (level_solid (signals_named a))
      (λ t q. q) s (level_reads k s p n x))

-- A PORT

module _ (ports : List Port) (good : GoodPorts ports) (p : NamedPort) where
  heads_told : AreTold port_name is_head ports
  heads_told i j q r e e' a b n =
      good.one_head i j q r e e' (same_head q ∙ a) (same_head r ∙ b) n

  -- what stands after the name of a head
  abbrev after_name : Port → Rule
  after_name q = seq (subscripts q.index_kinds) (rule (lists_at ports (Some q.signals)))

  port_shown : (a : Option Named) (rest : List Event) (t : Shape)
      → ArePaired (ShowsElement ports p.head p.number)
      (ShowsParts ports (Some (named_as ports p)) rest) t
      → ShowsParts ports a rest (some (left (pick p.head t)))
  port_shown a rest (both t u) (h, s) = port_next (named_as ports p) p.head (record {
    head = h.head;
    port = h.port;
    head_is = h.head_is;
    port_is = h.port_is;
    named = h.named;
    signals_are = ap signals_of h.head_is;
    index_shown = h.index_shown;
  }) s
  port_shown a rest t y = absurd y

  port_on : (a : Option Named) {B C D : Reader} → Sees B (said "port") true
      → Takes (said "port") B C → NamesPort ports C p D → (rest : List Event) (last : Reader)
      → Reads (rule (lists_at ports (Some (named_as ports p).signals)))
      (ShowsParts ports (Some (named_as ports p)) rest) D last
      → Reads (rule (lists_at ports (signals_named a))) (ShowsParts ports a rest) B
      (with_levels B.levels last)
  port_on a {B} {C} {D} s k n rest last x =
      let ks = kinds_of (slice_get ports p.head) in
      let y = then_reads (subscripts_closed ks) n.reads x in
      let z : Reads (one_of (named_port ports) ports)
      (λ t. ShowsParts ports a rest (some (left t))) C last =
      chosen_reads port_name is_head after_name ports heads_told
      (seq (subscripts ks) (rule (lists_at ports (Some (named_as ports p).signals))))
      (λ q e. ap (λ o. seq (subscripts (kinds_of o)) (rule (lists_at ports (Some (signals_of o)))))
      e) (λ q e w t r. port_shown a rest t r) n.chooses y in
      levels_reads (line_reads ports a rest (said "port") refl s
      (first_reads (said "port") refl (level_apart ports (signals_named a)) refl
      (level_solid ports (signals_named a)) (λ t q. q) s (word_reads k z)))

  port_goes : (a : Option Named) {B C D : Reader} → Sees B (said "port") true
      → Takes (said "port") B C → NamesPort ports C p D
      → GoesOn ports a (Some (named_as ports p)) [] B D
  port_goes a {B} {C} {D} s k n = record {
    on = port_on a s k n;
    tokens = n.reads.goes.same.tokens ∙ (n.chooses.same.tokens ∙ k.same.tokens);
    onward = (let x = n.reads.goes.same.onward in let y = n.chooses.same.onward in
        let z = k.same.onward in omega (arith, x, y, z));
    sticky = (let x = n.reads.goes.same.sticky in let y = n.chooses.same.sticky in
        let z = k.same.sticky in omega (arith, x, y, z));
  }

  pub port_taken : (at : Option NamedPort) (found : Growing) {B C D : Reader}
      → Sees B (said "port") true → Takes (said "port") B C → NamesPort ports C p D
      → TakesLine ports at (Some p) found found B D
  port_taken at found {B} {C} {D} s k n = record {
    events = [];
    goes = port_goes (named ports at) s k n;
    further = λ w. (let x = n.reads.goes.same.onward in let y = n.chooses.same.onward in
        let e = taken s k (before w) in omega (arith, x, y, e));
    there = λ w t. (let h = n.reads.is w in (h.port, h.port_is));
    grown = λ w t es g. subst (λ v. IsGrown (length ports) found v) (sym (append-nil es)) g;
  }
    where
      before : D.outcome ≡ Well → C.outcome ≡ Well
      before w =
          well_before C.outcome n.middle.outcome n.chooses.same.sticky
          (well_before n.middle.outcome D.outcome n.reads.goes.same.sticky w)

-- A TIME

only_leaf : (n : ℕ) {u : Shape} → Shows plain.layer (kept (value n)) u → u ≡ leaf (value n)
only_leaf n (s_kept v) = refl

module _ (ports : List Port) {B C D E F : Reader} {n : ℕ} (s : Sees B (said "time") true)
    (enters : Enters B C) (k : Takes (said "time") C D) (number : TakesNumber 0 maxint D n E)
    (still : Still E F) where
  time_reads : Reads time (λ t. t ≡ leaf (value n)) C F
  time_reads =
      let x : Reads time (λ t. t ≡ leaf (value n)) C E = record {
        shape = leaf (value n);
        goes = as_shape (leaf (value n)) (λ u d. only_leaf n d)
            (take known k (number_goes known number));
        is = λ w. refl;
      } in reads_still x still

  time_begins : (a : Option (List Signal))
      → Partial (traces (text_of B.tokens.now)) (tokens_of B.tokens.now) (suc B.at)
      (alt (time_line ports) (port_event_at ports a)) 0 B.at
  time_begins a = p_left (p_first (p_word (said "time") (omega arith) (sees_it s) (p_none refl)))

  time_on : (a : Option Named) (rest : List Event) (last : Reader)
      → Reads (rule (lists_at ports None)) (ShowsParts ports None rest) F last
      → Reads (rule (lists_at ports (signals_named a)))
      (ShowsParts ports a (Passes n ∷ rest)) B (with_levels B.levels last)
  time_on a rest last x =
      let shown : (t u : Shape) → t ≡ leaf (value n) → ShowsParts ports None rest u
      → ShowsParts ports a (Passes n ∷ rest) (some (right (left (both t u)))) =
      λ t u q r. subst
      (λ v. ShowsParts ports a (Passes n ∷ rest) (some (right (left (both v u))))) (sym q)
      (time_next n r) in
      let y : Reads (time_line ports)
      (λ t. ShowsParts ports a (Passes n ∷ rest) (some (right (left t)))) C last =
      pair_reads refl shown time_reads x in
      level_on ports a (Passes n ∷ rest) (said "time") refl refl s (time_begins (signals_named a))
      enters
      (reads_if (λ w. first_reads (said "time") refl (event_apart ports (signals_named a)) refl
      (event_solid ports (signals_named a)) (λ t q. q) (seen_within s enters w) y) y)

  time_sticky : bit F.outcome ≤ bit B.outcome
  time_sticky = subst (λ o. bit F.outcome ≤ bit o) (sym (sees_well s)) (bit_small F.outcome)

  pub time_taken : (at : Option NamedPort) (found found' : Growing)
      → (F.outcome ≡ Well → GrowsBy (length ports) (Passes n ∷ []) found found')
      → TakesLine ports at None found found' B F
  time_taken at found found' g = record {
    events = Passes n ∷ [];
    goes = record {
      on = time_on (named ports at);
      tokens = still.same.tokens ∙ (number.same.tokens ∙ (k.same.tokens ∙ enters.tokens));
      onward = (let x = still.same.onward in let y = number.same.onward in
          let z = k.same.onward in let q = enters.place in omega (arith, x, y, z, q));
      sticky = time_sticky;
    };
    further = λ w. (let x = still.same.onward in let y = number.same.onward in
        let v = before w in let e = taken (seen_within s enters v.0) k v.1 in
        let q = enters.place in omega (arith, x, y, e, q));
    there = λ w t. tt;
    grown = λ w t. g w;
  }
    where
      before : F.outcome ≡ Well → (C.outcome ≡ Well) × (D.outcome ≡ Well)
      before w =
          let e = well_before E.outcome F.outcome still.same.sticky w in
          let d = well_before D.outcome E.outcome number.same.sticky e in
          (well_before C.outcome D.outcome k.same.sticky d, d)

-- AN EVENT

module _ (ports : List Port) (p : NamedPort) {B C D E : Reader} (k : Test) (o : Option Event)
    (level_begun : implies_one implies k (can_begin marks
    (level_line ports (Some (named_as ports p).signals))) ≡ true)
    (line_begun : implies_one implies k (can_begin marks
    (alt (port_line ports) (level_line ports (Some (named_as ports p).signals)))) ≡ true)
    (event_begun : implies_one implies k (can_begin marks
    (port_event_at ports (Some (named_as ports p).signals))) ≡ true)
    (partly : Partial (traces (text_of B.tokens.now)) (tokens_of B.tokens.now) (suc B.at)
    (alt (time_line ports) (port_event_at ports (Some (named_as ports p).signals))) 0 B.at)
    (s : Sees B k true) (enters : Enters B C)
    (x : Reads (port_event (named_as ports p).signals)
    (λ t. IsSomeAnd o (λ e. ShowsPortEvent (named_as ports p) e t)) C D)
    (still : Still D E) where
  abbrev here : Named
  here = named_as ports p

  event_shown : (rest : List Event) (u : Option Event) (t v : Shape)
      → IsSomeAnd u (λ e. ShowsPortEvent here e t) → ShowsParts ports (Some here) rest v
      → ShowsParts ports (Some here) (option_to_list u ++ rest) (some (right (right (both t v))))
  event_shown rest (Some e) t v q r = event_next q r
  event_shown rest None t v q r = absurd q

  event_on : (rest : List Event) (last : Reader)
      → Reads (rule (lists_at ports (Some here.signals))) (ShowsParts ports (Some here) rest) E last
      → Reads (rule (lists_at ports (Some here.signals)))
      (ShowsParts ports (Some here) (option_to_list o ++ rest)) B (with_levels B.levels last)
  event_on rest last y =
      let z : Reads (port_event_at ports (Some here.signals))
      (λ t. ShowsParts ports (Some here) (option_to_list o ++ rest) (some (right (right t)))) C
      last =
      pair_reads (subst (λ ks. disjoint apart ks
      (can_begin marks (rule (lists_at ports (Some here.signals)))) ≡ true)
      (sym (port_event_closed here.signals)) refl) (λ t v q r. event_shown rest o t v q r)
      (reads_still x still) y in
      level_on ports (Some here) (option_to_list o ++ rest) k level_begun line_begun s partly enters
      (reads_if (λ w. second_reads k event_begun (event_apart ports (Some here.signals)) refl
      (event_solid ports (Some here.signals)) (λ t q. q) (seen_within s enters w) z) z)

  -- the event is at the port
  event_at_port : (e : Event) (t : Shape) → ShowsPortEvent here e t → IsAt p.number e
  event_at_port (event.Arrives i) (left t) h = h.port_is
  event_at_port (event.Leaves i) (right t) h = h.port_is
  event_at_port e t h = absurd h

  event_grows : (found found' : Growing) → E.outcome ≡ Well → IsThere ports (Some p)
      → GrowsAt p.number o found found' → GrowsBy (length ports) (option_to_list o) found found'
  event_grows found found' w t g =
      let d = well_before D.outcome E.outcome still.same.sticky w in
      by o refl (x.is d)
    where
      by : (u : Option Event) → o ≡ u → IsSomeAnd u (λ e. ShowsPortEvent here e x.shape)
          → GrowsBy (length ports) (option_to_list u) found found'
      by (Some e) q h = g e (length ports) q (event_at_port e x.shape h)
          (within ports p.number t.0 t.1)
      by None q h = absurd h

  begun_taken : (found found' : Growing)
      → (E.outcome ≡ Well → GrowsAt p.number o found found')
      → TakesLine ports (Some p) (Some p) found found' B E
  begun_taken found found' g = record {
    events = option_to_list o;
    goes = record {
      on = event_on;
      tokens = still.same.tokens ∙ (x.goes.same.tokens ∙ enters.tokens);
      onward = (let y = still.same.onward in let z = x.goes.same.onward in
          let q = enters.place in omega (arith, y, z, q));
      sticky = subst (λ u. bit E.outcome ≤ bit u) (sym (sees_well s)) (bit_small E.outcome);
    };
    further = λ w. (let d = well_before D.outcome E.outcome still.same.sticky w in
        let m : C.at < D.at = laws.moves (known.fits (text_of C.tokens.now)) refl
        (tree_of x d).1 in
        let y = still.same.onward in let q = enters.place in omega (arith, m, y, q));
    there = λ w t. t;
    grown = λ w t. event_grows found found' w t (g w);
  }

-- what is seen is not unseen
seen_not : {B : Reader} {k : Test} → Sees B k true → Sees B k false → ⊥
seen_not {B} {k} s n =
    let a = sees_it s in
    let b = sees_not (sees_well s) n in
    let q : false ≡ true = sym b ∙ a in cc

module _ (ports : List Port) {B : Reader} (no_port : Sees B (said "port") false)
    (no_time : Sees B (said "time") false) where
  -- an event is seen
  pub event_seen : (signals : List Signal) → OneSeen B (list_starts (Some signals))
      → Sees B (said "in") true ⊎ Sees B (said "out") true
  event_seen signals (inl q) = absurd (seen_not q no_port)
  event_seen signals (inr (inl q)) = absurd (seen_not q no_time)
  event_seen signals (inr (inr (inl q))) = inl q
  event_seen signals (inr (inr (inr (inl q)))) = inr q
  event_seen signals (inr (inr (inr (inr q)))) = absurd q

  -- and no line but with a port
  pub no_line : OneSeen B (list_starts None) → ⊥
  no_line (inl q) = seen_not q no_port
  no_line (inr (inl q)) = seen_not q no_time
  no_line (inr (inr q)) = q

  pub seen_well : (at : Option (List Signal)) → OneSeen B (list_starts at) → B.outcome ≡ Well
  seen_well None q = absurd (no_line q)
  seen_well (Some signals) q = by (event_seen signals q)
    where
      by : Sees B (said "in") true ⊎ Sees B (said "out") true → B.outcome ≡ Well
      by (inl s) = sees_well s
      by (inr s) = sees_well s

  -- its first word is a partial one
  event_begins : (signals : List Signal)
      → Sees B (said "in") true ⊎ Sees B (said "out") true
      → Partial (traces (text_of B.tokens.now)) (tokens_of B.tokens.now) (suc B.at)
      (alt (time_line ports) (port_event_at ports (Some signals))) 0 B.at
  event_begins signals (inl s) =
      let l : B.at < suc B.at = omega arith in
      p_right (p_first (p_left (p_word (said "in") l (sees_it s) (p_none refl))))
  event_begins signals (inr s) =
      let l : B.at < suc B.at = omega arith in
      p_right (p_first (p_right (p_word (said "out") l (sees_it s) (p_none refl))))

  pub event_taken : (p : NamedPort) (o : Option Event) (found found' : Growing) {C D E : Reader}
      → OneSeen B (list_starts (Some (named_as ports p).signals)) → Enters B C
      → Reads (port_event (named_as ports p).signals)
      (λ t. IsSomeAnd o (λ e. ShowsPortEvent (named_as ports p) e t)) C D → Still D E
      → (E.outcome ≡ Well → GrowsAt p.number o found found')
      → TakesLine ports (Some p) (Some p) found found' B E
  event_taken p o found found' {C} {D} {E} q enters x still g =
      by (event_seen (named_as ports p).signals q)
    where
      by : Sees B (said "in") true ⊎ Sees B (said "out") true
          → TakesLine ports (Some p) (Some p) found found' B E
      by (inl s) = begun_taken ports p (said "in") o refl refl refl
          (event_begins (named_as ports p).signals (inl s)) s enters x still found found' g
      by (inr s) = begun_taken ports p (said "out") o refl refl refl
          (event_begins (named_as ports p).signals (inr s)) s enters x still found found' g
