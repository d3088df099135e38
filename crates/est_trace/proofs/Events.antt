-- Events, each within a level of its own.
use Rattle.std.proofs.Common.{◌≡◌, ℕ, suc, ◌+◌, ◌-◌, ◌*◌, ◌<◌, ◌≤◌, Bool, true, false}
use Rattle.std.proofs.Common.{List, [], ◌∷◌, ◌++◌, length, refl, sym, ◌∙◌, ap}
use Rattle.std.proofs.Common.{subst, arith, Option, Some, None, slice_get, inl, inr}
use Rattle.std.proofs.Common.{append_assoc, append-nil}
use Rattle.std.specs.Option.{IsSomeAnd}
use Rattle.est_lexer.specs.declared.kind.Token.{Token}
use Rattle.est_lexer.specs.declared.tokens.Tokens.{Tokens}
use Rattle.est_lexer.specs.Offsets.{text_of, tokens_of}
use Rattle.text_reader.specs.Grammar.{rule, seq, deeper, nothing}
use Rattle.text_reader.specs.Grammar.{some, both, Tree, t_rule, t_opt_in, t_opt_out, t_deeper}
use Rattle.text_reader.specs.Grammar.{t_seq, Partial, p_none, p_word, p_left, p_right, p_first}
use Rattle.text_reader.specs.Marks.{MeetsOne, Apart, can_begin, can_go_on}
use Rattle.text_reader.specs.Findings.{Found, Refused}
use Rattle.text_reader.proofs.GrammarLaws as laws
use Rattle.text_reader.proofs.Repeats as repeats
use Rattle.text_reader.proofs.Flat.{too_deep_any}
use Rattle.est_syntax.specs.declared.ports.Port.{Port}
use Rattle.est_meaning.specs.declared.event.Event.TheVariants.{Passes}
use Rattle.est_meaning.specs.declared.trace.Expected.{Expected}
use Rattle.est_meaning.specs.declared.trace.Expected.TheVariants.{Known}
use Rattle.text_reader.specs.declared.reader.Reader.{Reader}
use Rattle.text_reader.specs.declared.outcome.Outcome.{Outcome}
use Rattle.text_reader.specs.declared.outcome.Outcome.TheVariants.{Well, Wrong, TooDeep, NoMemory}
use Rattle.text_reader.specs.Tests.{Test, said, holds, stands}
use Rattle.text_reader.specs.Moving.{bit, Does, Seen, Sees, NoneSeen, OneSeen}
use Rattle.text_reader.specs.Moving.{Closes, Still, Kept, KeptSome, EntersAt, Enters}
use Rattle.text_reader.specs.Going.{Shape, Fails}
use Rattle.text_reader.proofs.Steps.{onto, after, stay, was_well, seen_among, sees_well}
use Rattle.text_reader.proofs.Steps.{sees_it, none_meets, left_of, bit_small}
use Rattle.text_reader.proofs.Going.{begins_it}
use Rattle.text_reader.proofs.Turns.{lessens}
use Rattle.text_values.specs.declared.formats.Format.{Format}
use Rattle.text_values.specs.TraceGrammar.{Rule, event, marks, event_starts, events_at}
use Rattle.text_values.specs.ValueReading.{plain, Reads}
use Rattle.text_values.proofs.Known.{known}
use Rattle.text_values.proofs.Closed.{event_closed, is_closed}
use Rattle.text_values.proofs.Level.{level_free, free_opens_none, event_free}
use Rattle.est_trace.specs.TraceShapes.{ShowsEvent, ShowsEvents}
use Rattle.est_trace.specs.inside.Counting.{CountsEvents}
use Rattle.est_trace.specs.TraceText.{traces, nested, IsFullAfter}
use Rattle.est_trace.proofs.Readings.{FindsOne, moves_of, reads_of, reads_as, read_well}

-- its first word is a partial event
pub event_partial : (f : Format) (tokens : Tokens) (a : ℕ) (ports : List Port)
    → MeetsOne (holds (text_of tokens)) (slice_get (tokens_of tokens) a) (event_starts ports)
    → Partial (traces (text_of tokens)) (tokens_of tokens) (suc a) (event f ports) 0 a
event_partial f tokens a ports (inl e) = p_left (p_word (said "time") (omega arith) e (p_none refl))
event_partial f tokens a ports (inr (inl e)) =
    p_right (p_left (p_word (said "in") (omega arith) e (p_none refl)))
event_partial f tokens a ports (inr (inr (inl e))) =
    p_right (p_right (p_word (said "out") (omega arith) e (p_none refl)))
event_partial f tokens a ports (inr (inr (inr e))) = elim e [ ]

-- what opens no level is not refused for lack of levels
pub flat_not_deep : (text : List ℕ) {s : List Token} {g : Rule} {d a i : ℕ} → level_free g ≡ true
    → Refused (traces text) marks s g d a i true → ⊥
flat_not_deep text {s} {i = i} f h = free_opens_none text s i f (h.more refl).1

nested-append : (ts : List Shape) (t u : Shape)
    → nested (ts ++ t ∷ []) u ≡ nested ts (some (both t u))
nested-append [] t u = refl
nested-append (x ∷ ts) t u = ap (λ v. some (both x v)) (nested-append ts t u)

longer : (ts : List Shape) (t : Shape) → length (ts ++ t ∷ []) ≡ length ts + 1
longer [] t = refl
longer (z ∷ ts) t = omega (arith, longer ts t)

module _ (tokens : Tokens) (format : Format) (ports : List Port) where
  -- the token at the place begins an event
  abbrev pub BeginsEvent : ℕ → Type 0
  BeginsEvent b = MeetsOne (holds (text_of tokens)) (slice_get (tokens_of tokens) b)
      (event_starts ports)

  event_apart : Apart (traces (text_of tokens)) (can_go_on marks (event format ports))
      (can_begin marks (rule (events_at format ports)))
  event_apart = laws.closed_apart (traces (text_of tokens)) marks (event format ports) _
      (is_closed (text_of tokens) (event format ports) (event_closed format ports))

  -- the events from place a on have a tree
  abbrev EventsTree : (d a c : ℕ) → Shape → Type 0
  EventsTree d a c u = Tree (traces (text_of tokens)) (tokens_of tokens) (length (tokens_of tokens))
      (rule (events_at format ports)) d a c u

  -- Of d levels from place a on, these events took all but e, up to place b.
  pub record SoFar (d a e b : ℕ) (es : List Expected) : Type 0 where
    pub shapes : List Shape
    pub count : length shapes + e ≡ d
    pub tree : (c : ℕ) (u : Shape) → EventsTree e b c u → EventsTree d a c (nested shapes u)
    pub context : repeats.Context (traces (text_of tokens)) marks (known.fits (text_of tokens))
        (tokens_of tokens) (rule (events_at format ports)) (rule (events_at format ports)) d a e b (nested shapes)
    pub shows : (rest : List Expected) (u : Shape) → ShowsEvents format ports rest u
        → ShowsEvents format ports (es ++ rest) (nested shapes u)

  no_event : (d a : ℕ) → a ≤ length (tokens_of tokens) → SoFar d a d a []
  no_event d a l = record {
    shapes = [];
    count = omega arith;
    tree = λ c u x. x;
    context = record { inside = l; forward = omega arith; on = λ c u z. z; off = λ i w z. z };
    shows = λ rest u s. s;
  }

  one_more : (d a e b c : ℕ) (es : List Expected) (x : Expected) → 0 < e → BeginsEvent b
      → SoFar d a e b es → FindsOne tokens (event format ports) (e - 1) b (ShowsEvent format ports x) c
      → SoFar d a (e - 1) c (es ++ x ∷ [])
  one_more d a e b c es x l m y z =
      let F = known.fits (text_of tokens) in
      let t = z.0 in
      let w = λ (u : Shape). nested-append y.shapes t u in
      record {
        shapes = y.shapes ++ t ∷ [];
        count = omega (arith, l, y.count, longer y.shapes t);
        tree = λ c' u v. subst (λ o. EventsTree d a c' o) (sym (w u)) (y.tree c' (some (both t u))
            (t_rule (t_opt_in (level c' (both t u) (t_deeper (t_seq z.1.tree v))))));
        context = record {
          inside = (laws.forward F z.1).1;
          forward = omega (arith, y.context.forward, (laws.forward F z.1).0);
          on = λ c' u v. subst (λ o. Found (traces (text_of tokens)) marks (tokens_of tokens)
              (rule (events_at format ports)) d a c' o) (sym (w u))
              (y.context.on c' (some (both t u))
              (laws.rule_found F (laws.opt_found F refl
              (laws.deeper_found F l (laws.seq_found F event_apart z.1 v)))));
          off = λ i v r. y.context.off i v
              (laws.rule_refused F (laws.opt_refused F m
              (laws.deeper_refused F l (laws.seq_refused F event_apart z.1 r))));
        };
        shows = λ rest u s.
            subst (λ o. ShowsEvents format ports ((es ++ x ∷ []) ++ rest) o) (sym (w u))
            (subst (λ v. ShowsEvents format ports v (nested y.shapes (some (both t u))))
            (sym (append_assoc es (x ∷ []) rest)) (y.shows (x ∷ rest) (some (both t u))
            (z.2, s)));
      }
    where
      level : (c' : ℕ) (u : Shape)
          → Tree (traces (text_of tokens)) (tokens_of tokens) (length (tokens_of tokens))
          (deeper (seq (event format ports) (rule (events_at format ports)))) (suc (e - 1)) b c' u
          → Tree (traces (text_of tokens)) (tokens_of tokens) (length (tokens_of tokens))
          (deeper (seq (event format ports) (rule (events_at format ports)))) e b c' u
      level c' u v = let q : suc (e - 1) ≡ e = omega (arith, l) in subst
          (λ o. Tree (traces (text_of tokens)) (tokens_of tokens) (length (tokens_of tokens))
          (deeper (seq (event format ports) (rule (events_at format ports)))) o b c' u) q v

  -- what events are refused at, and whether it is one too many
  abbrev pub Stops : (d a i : ℕ) → Bool → Type 0
  Stops d a i z = Fails plain tokens (rule (events_at format ports)) d a i z × (z ≡ true
      → IsFullAfter format ports d (text_of tokens) (tokens_of tokens) a i)

  refused : (d a e b i : ℕ) (w : Bool) (es : List Expected) → 0 < e → BeginsEvent b → SoFar d a e b es
      → Fails plain tokens (event format ports) (e - 1) b i w → Stops d a i w
  refused d a e b i w es l m y z =
      let F = known.fits (text_of tokens) in (
        y.context.off i w (laws.rule_refused F
            (laws.opt_refused F m (laws.deeper_refused F l (laws.seq_refused_first F event_apart
            z)))),
        λ q. absurd (flat_not_deep (text_of tokens) (event_free format ports)
            (subst (λ v. Fails plain tokens (event format ports) (e - 1) b i v) q z)),
      )

  too_many : (d a e b : ℕ) (es : List Expected) → e ≡ 0 → BeginsEvent b → SoFar d a e b es
      → Stops d a b true
  too_many d a e b es z m y =
      let F = known.fits (text_of tokens) in (
        y.context.off b true (laws.rule_refused F
            (laws.opt_refused F m (subst
            (λ v. Fails plain tokens (deeper (seq (event format ports) (rule (events_at format ports)))) v b b
            true) (sym z) (too_deep_any (laws.some_inside (traces (text_of tokens))
            (tokens_of tokens) b (event_starts ports) m)
            (p_first (event_partial format tokens b ports m)))))),
        λ q. (y.shapes, omega (arith, y.count, z), y.tree b nothing (t_rule t_opt_out), m),
      )

  all_found : (d a e b : ℕ) (es : List Expected) → (BeginsEvent b → ⊥) → SoFar d a e b es
      → FindsOne tokens (rule (events_at format ports)) d a (ShowsEvents format ports es) b
  all_found d a e b es n y =
      let F = known.fits (text_of tokens) in (
        nested y.shapes nothing,
        y.context.on b nothing (laws.rule_found F (laws.opt_out F refl y.context.inside n)),
        subst (λ v. ShowsEvents format ports v (nested y.shapes nothing)) (append-nil es)
            (y.shows [] nothing tt),
      )

  -- a level is taken, and then an event is read
  one_step : (d a e b e' b' c : ℕ) (o o' : Outcome) (es : List Expected) (x : Expected) → BeginsEvent b
      → SoFar d a e b es → EntersAt e e' o → b' ≡ b
      → Does (FindsOne tokens (event format ports) e' b' (ShowsEvent format ports x))
      (Fails plain tokens (event format ports) e' b') b' o c o'
      → Does (λ i. SoFar d a e' i (es ++ x ∷ [])) (Stops d a) a Well c o'
  one_step d a e b e' b' c Well Well es x m y z p w =
      let q : e - 1 ≡ e' = omega (arith, z) in
      subst (λ v. SoFar d a v c (es ++ x ∷ [])) q (one_more d a e b c es x (omega (arith, z)) m y
      (subst (λ v. FindsOne tokens (event format ports) v b (ShowsEvent format ports x) c) (sym q)
      (subst (λ v. FindsOne tokens (event format ports) e' v (ShowsEvent format ports x) c) p w)))
  one_step d a e b e' b' c Well Wrong es x m y z p w =
      let q : e - 1 ≡ e' = omega (arith, z) in
      refused d a e b c false es (omega (arith, z)) m y
      (subst (λ v. Fails plain tokens (event format ports) v b c false) (sym q)
      (subst (λ v. Fails plain tokens (event format ports) e' v c false) p w))
  one_step d a e b e' b' c Well TooDeep es x m y z p w =
      let q : e - 1 ≡ e' = omega (arith, z) in
      refused d a e b c true es (omega (arith, z)) m y
      (subst (λ v. Fails plain tokens (event format ports) v b c true) (sym q)
      (subst (λ v. Fails plain tokens (event format ports) e' v c true) p w))
  one_step d a e b e' b' c Well NoMemory es x m y z p w = tt
  one_step d a e b e' b' c TooDeep o' es x m y z p w =
      subst (λ v. Does (λ i. SoFar d a e' i (es ++ x ∷ [])) (Stops d a) a Well c v) (sym w.0)
      (subst (λ i. Stops d a i true) (sym (w.1 ∙ p)) (too_many d a e b es z m y))
  one_step d a e b e' b' c Wrong o' es x m y z p w = elim z [ ]
  one_step d a e b e' b' c NoMemory o' es x m y z p w = elim z [ ]

-- A reader read these events, each within a level of its own.
pub record Counting (format : Format) (ports : List Port) (old : Reader) (es : List Expected) (new : Reader) : Type 0
  where
    pub moves : Does (λ b. SoFar old.tokens.now format ports old.levels old.at new.levels b es)
        (Stops old.tokens.now format ports old.levels old.at) old.at old.outcome new.at new.outcome
    pub tokens : new.tokens.now ≡ old.tokens.now
    pub onward : old.at ≤ new.at
    pub sticky : bit new.outcome ≤ bit old.outcome

-- the token that is seen begins an event
begins_seen : (format : Format) (ports : List Port) (A : Reader) → OneSeen A (event_starts ports)
    → BeginsEvent A.tokens.now format ports A.at
begins_seen format ports A s =
    let k = seen_among A (event_starts ports) (event_starts ports) refl s in
    begins_it known (event_starts ports) k.1 k.2

pub seen_well : (format : Format) (ports : List Port) (A : Reader) → OneSeen A (event_starts ports) → A.outcome ≡ Well
seen_well format ports A s = sees_well (seen_among A (event_starts ports) (event_starts ports) refl s).2

module _ (format : Format) (ports : List Port) where
  pub none_read : {A : Reader} → Counting format ports A [] A
  none_read {A} = record {
    moves = stay (λ b. SoFar A.tokens.now format ports A.levels A.at A.levels b [])
        (Stops A.tokens.now format ports A.levels A.at) A.at A.outcome (λ w. no_event A.tokens.now format ports
        A.levels A.at A.inside);
    tokens = refl;
    onward = omega arith;
    sticky = omega arith;
  }

  -- so many events, where all goes well
  so_far : {A B : Reader} {es : List Expected} → Counting format ports A es B → B.outcome ≡ Well
      → (A.outcome ≡ Well) × SoFar A.tokens.now format ports A.levels A.at B.levels B.at es
  so_far {A} {B} {es} x e =
      read_well (λ b. SoFar A.tokens.now format ports A.levels A.at B.levels b es)
      (Stops A.tokens.now format ports A.levels A.at) A.at B.at A.outcome B.outcome x.moves e

  pub one_read : {A B C D E : Reader} {x : Expected} {es es' : List Expected} → Counting format ports A es B
      → OneSeen B (event_starts ports) → Enters B C
      → Reads (event format ports) (ShowsEvent format ports x) C D → Kept D E es x es'
      → Counting format ports A es' E
  one_read {A} {B} {C} {D} {E} {x} {es} {es'} y s n g k =
      let tk = A.tokens.now in
      let f = so_far y (seen_well format ports B s) in
      let m = subst (λ v. BeginsEvent v format ports B.at) y.tokens (begins_seen format ports B s) in
      let step : Does (λ i. SoFar tk format ports A.levels A.at C.levels i (es ++ x ∷ []))
      (Stops tk format ports A.levels A.at) A.at Well D.at D.outcome =
      one_step tk format ports A.levels A.at B.levels B.at C.levels C.at D.at C.outcome D.outcome es x m
      f.1 n.enters n.place
      (subst (λ v. Does (FindsOne v (event format ports) C.levels C.at (ShowsEvent format ports x))
      (Fails plain v (event format ports) C.levels C.at) C.at C.outcome D.at D.outcome) (n.tokens
      ∙ y.tokens) (moves_of g)) in
      let P = λ (i : ℕ). SoFar tk format ports A.levels A.at C.levels i (es ++ x ∷ []) in
      let R = λ (i : ℕ). SoFar tk format ports A.levels A.at E.levels i es' in
      let Q = Stops tk format ports A.levels A.at in
      record {
        moves = subst (λ o. Does R Q A.at o E.at E.outcome) (sym f.0)
            (after P (λ i. i ≡ D.at) R Q (λ i z. ⊥) Q A.at D.at E.at Well D.outcome E.outcome
            (λ e p r.
            subst (λ l. SoFar tk format ports A.levels A.at l E.at es')
            (sym (k.still.same.levels ∙ g.goes.same.levels))
            (subst (λ l. SoFar tk format ports A.levels A.at C.levels E.at l) (sym (k.added e))
            (subst (λ i. SoFar tk format ports A.levels A.at C.levels i (es ++ x ∷ [])) (sym r) p)))
            (λ e z p r. absurd r)
            (λ e z p. p)
            step k.still.stays);
        tokens = k.still.same.tokens ∙ (g.goes.same.tokens ∙ (n.tokens ∙ y.tokens));
        onward = omega (arith, y.onward, n.place, g.goes.same.onward, k.still.same.onward);
        sticky = subst (λ o. bit E.outcome ≤ bit o) (sym f.0) (bit_small E.outcome);
      }

  -- the same, where there may be no event
  pub one_read_of : {A B C D E : Reader} (o : Option Expected) {es es' : List Expected}
      → Counting format ports A es B → OneSeen B (event_starts ports) → Enters B C
      → Reads (event format ports) (λ t. IsSomeAnd o (λ e. ShowsEvent format ports e t)) C D
      → KeptSome D E es o es' → Counting format ports A es' E
  one_read_of {E = E} (Some x) y s n g k =
      one_read {x = x} y s n g record { still = k.still; added = k.added }
  one_read_of {D = D} {E = E} None {es} {es'} y s n g k =
      one_read {x = Known (Passes 0)} y s n (reads_as g (λ e t z. absurd z)) record {
        still = k.still;
        added = λ w. absurd (g.is (was_well (λ b. b ≡ D.at) (λ b z. ⊥) D.at E.at D.outcome E.outcome
            k.still.stays w));
      }

  -- the loop has less to do
  pub less_left : {B C D E : Reader} {Is : Shape → Type 0} → OneSeen B (event_starts ports)
      → Enters B C → Reads (event format ports) Is C D → Still D E → left_of E < left_of B
  less_left {B} {C} {D} {E} {Is} s n g k = go C.outcome refl n.enters
    where
      key : (t : Test) × Sees B t true
      key = let q = seen_among B (event_starts ports) (event_starts ports) refl s in (q.0, q.2)

      there : stands C.tokens.now C.at key.0 ≡ true
      there = subst (λ i. stands C.tokens.now i key.0 ≡ true) (sym n.place)
          (subst (λ v. stands v B.at key.0 ≡ true) (sym n.tokens) (sees_it key.1))

      same_left : C.outcome ≡ Well → left_of C ≡ left_of B
      same_left w =
          subst (λ i. (length (tokens_of C.tokens.now) - i) * 2 + bit C.outcome ≡ left_of B)
          (sym n.place)
          (subst (λ v. (length (tokens_of v) - B.at) * 2 + bit C.outcome ≡ left_of B) (sym n.tokens)
          (ap (λ o. (length (tokens_of B.tokens.now) - B.at) * 2 + bit o) (w
          ∙ sym (seen_well format ports B s))))

      seen_there : C.outcome ≡ Well → Sees C key.0 true
      seen_there w = record {
        seen = subst (λ o. Seen o (stands C.tokens.now C.at key.0) true) (sym w) there;
      }

      stopped : D.outcome ≡ TooDeep → D.at ≡ C.at → left_of E < left_of B
      stopped w p =
          let h : bit B.outcome ≡ 1 = ap bit (seen_well format ports B s) in
          let z : bit D.outcome ≡ 0 = ap bit w in
          let l : length (tokens_of E.tokens.now) ≡ length (tokens_of B.tokens.now) =
          ap (λ v. length (tokens_of v)) (k.same.tokens ∙ (g.goes.same.tokens ∙ n.tokens)) in
          omega (arith, h, z, l, p, n.place, k.place, k.same.sticky)

      go : (o : Outcome) → C.outcome ≡ o → EntersAt B.levels C.levels o → left_of E < left_of B
      go Well w e = subst (λ v. left_of E < v) (same_left w)
          (lessens known refl (seen_there w) g.goes k)
      go TooDeep w e =
          let q : Does (FindsOne C.tokens.now (event format ports) C.levels C.at Is)
          (Fails plain C.tokens.now (event format ports) C.levels C.at) C.at TooDeep D.at D.outcome =
          subst (λ o. Does (FindsOne C.tokens.now (event format ports) C.levels C.at Is)
          (Fails plain C.tokens.now (event format ports) C.levels C.at) C.at o D.at D.outcome) w
          (moves_of g) in
          stopped q.0 q.1
      go Wrong w e = elim e [ ]
      go NoMemory w e = elim e [ ]

  pub all_read : {A B C : Reader} {es : List Expected} → Counting format ports A es B
      → NoneSeen B (event_starts ports) → Closes A.levels B C
      → Reads (rule (events_at format ports)) (ShowsEvents format ports es) A C
  all_read {A} {B} {C} {es} y n z =
      let tk = A.tokens.now in
      let P = FindsOne tk (rule (events_at format ports)) A.levels A.at (ShowsEvents format ports es) in
      let Q = Fails plain tk (rule (events_at format ports)) A.levels A.at in
      reads_of
      (subst (λ o. Does P Q A.at A.outcome C.at o) (sym z.outcome)
      (subst (λ i. Does P Q A.at A.outcome i B.outcome) (sym z.place)
      (after (λ b. SoFar tk format ports A.levels A.at B.levels b es) (λ b. (b ≡ B.at)
      × (B.outcome ≡ Well)) P (Stops tk format ports A.levels A.at) (λ b v. ⊥) Q A.at B.at B.at
      A.outcome B.outcome B.outcome
      (λ e p q. all_found tk format ports A.levels A.at B.levels B.at es
      (subst (λ v. BeginsEvent v format ports B.at
      → ⊥) y.tokens (none_meets B (event_starts ports) e n)) p)
      (λ e v p q. absurd q)
      (λ e v q. q.0)
      y.moves (stay (λ b. (b ≡ B.at) × (B.outcome ≡ Well)) (λ b v. ⊥) B.at B.outcome
      (λ w. (refl, w))))))
      record {
        tokens = z.tokens ∙ y.tokens;
        levels = z.back;
        onward = omega (arith, y.onward, z.place);
        sticky = subst (λ o. bit o ≤ bit A.outcome) (sym z.outcome) y.sticky;
      }

  -- where an event is too many, the levels are full
  pub all_counted : {A B C : Reader} {es : List Expected} → Counting format ports A es B → Closes A.levels B C
      → CountsEvents format ports A C
  all_counted {A} {B} {C} {es} y z =
      let tk = A.tokens.now in
      let P = λ (b : ℕ). Unit {0} in
      let Q = λ (i : ℕ) (v : Bool). v ≡ true
      → IsFullAfter format ports A.levels (text_of tk) (tokens_of tk) A.at i in
      subst (λ o. Does P Q A.at A.outcome C.at o) (sym z.outcome)
      (subst (λ i. Does P Q A.at A.outcome i B.outcome) (sym z.place)
      (onto (λ b. SoFar tk format ports A.levels A.at B.levels b es) P (Stops tk format ports A.levels A.at) Q
      A.at B.at A.outcome B.outcome (λ e p. tt) (λ e v q. q.1) y.moves))
