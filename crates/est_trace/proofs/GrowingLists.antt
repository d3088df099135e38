-- Lists grow by an event or by a time, and their events so far stay a merge of them.
use Rattle.std.proofs.Common.{◌≡◌, ℕ, zero, suc, ◌+◌, ◌<◌, ◌^◌, min, List, [], ◌∷◌, ◌++◌, length}
use Rattle.std.proofs.Common.{All}
use Rattle.std.proofs.Common.{Option, Some, refl, sym, ap, subst, ◌∙◌, arith, append_assoc}
use Rattle.std.proofs.Common.{inl, inr, append-nil, ◌-◌}
use Rattle.std.specs.Prelude.{◌⊎◌, slice_get, slice_set, option_to_list}
use Rattle.std.proofs.lemmas.List.{length-append}
use Rattle.std.proofs.lemmas.List.Elements.{All-push}
use Rattle.text_reader.specs.Moving.{Kept}
use Rattle.text_reader.specs.declared.reader.Reader.{Reader}
use Rattle.text_reader.specs.declared.outcome.Outcome.TheVariants.{Well}
use Rattle.text_reader.proofs.Steps.{still_well}
use Rattle.est_meaning.specs.declared.event.Event.{Event}
use Rattle.est_meaning.specs.declared.event.Event.TheVariants as event
use Rattle.mean_ports.specs.declared.lists.PortLists.{PortLists}
use Rattle.mean_ports.specs.ListsOfEvents.{IsPhaseAt, AreListsOf}
use Rattle.mean_ports.specs.Merges.{AreUsedUp, IsNextOf, Interleaves, used_up, next, MergesOf, IsAt}
use Rattle.est_trace.specs.declared.growing.Growing.{Growing}
use Rattle.est_trace.specs.inside.GrowingLists.{MergesEnded, IsGrown, IsEmptyPhase, GrowsBy}
use Rattle.est_trace.specs.inside.GrowingLists.{GrowsAt}
use Rattle.est_trace.proofs.Written.{same_or_not, written, written_back, written_over, elsewhere}
use Rattle.est_trace.proofs.Written.{either_first, as_many, item_at}

-- INTERLEAVINGS

-- a list that is used up is empty
used_at : (lists : List (List Event)) (k : ℕ) (es : List Event) → AreUsedUp lists
    → slice_get lists k ≡ Some es → es ≡ []
used_at [] k es u is = cc
used_at (x ∷ lists) zero es u is =
    let same : x ≡ es = cc in let none : x ≡ [] = u 0 x (omega arith) in sym same ∙ none
used_at (x ∷ lists) (suc k) es u is =
    used_at lists k es (λ j d l. u (suc j) d (omega (arith, l))) is

-- an event at the end of an interleaving, and at the end of one of its lists
at_end : (lists : List (List Event)) (k : ℕ) (es : List Event) (e : Event) (now : List Event)
    → slice_get lists k ≡ Some es → Interleaves lists now
    → Interleaves (slice_set lists k (es ++ e ∷ [])) (now ++ e ∷ [])
at_end lists k es e now is (used_up u) =
    let empty : es ≡ [] = used_at lists k es u is in
    let n : IsNextOf (slice_set lists k (es ++ e ∷ [])) k e lists = record {
      rest = [];
      begins = subst (λ w. slice_get (slice_set lists k (w ++ e ∷ [])) k ≡ Some (e ∷ []))
          (sym empty) (written lists k es (e ∷ []) is);
      left_is = sym (written_back lists k [] (es ++ e ∷ [])
          (subst (λ w. slice_get lists k ≡ Some w) empty is));
    } in next k n (used_up u)
at_end lists k es e now is (next {left = left} {e = f} {es = later} j n i) =
    by (same_or_not j k) (λ fs q. at_end left k fs e later q i)
  where
    by : (j ≡ k) ⊎ (j ≡ k → ⊥)
        → ((fs : List Event) → slice_get left k ≡ Some fs
        → Interleaves (slice_set left k (fs ++ e ∷ [])) (later ++ e ∷ []))
        → Interleaves (slice_set lists k (es ++ e ∷ [])) (f ∷ (later ++ e ∷ []))
    by (inl q) inner =
        let begins : slice_get lists k ≡ Some (f ∷ n.rest) =
        subst (λ p. slice_get lists p ≡ Some (f ∷ n.rest)) q n.begins in
        let left_is : left ≡ slice_set lists k n.rest =
        n.left_is ∙ ap (λ p. slice_set lists p n.rest) q in
        let all : es ≡ f ∷ n.rest = (let s : Some es ≡ Some (f ∷ n.rest) = sym is ∙ begins in cc) in
        let there : slice_get left k ≡ Some n.rest =
        ap (λ w. slice_get w k) left_is ∙ written lists k (f ∷ n.rest) n.rest begins in
        let m : IsNextOf (slice_set lists k (es ++ e ∷ [])) k f
        (slice_set left k (n.rest ++ e ∷ [])) = record {
          rest = n.rest ++ e ∷ [];
          begins = written lists k es (es ++ e ∷ []) is ∙ ap (λ w. Some (w ++ e ∷ [])) all;
          left_is = ap (λ w. slice_set w k (n.rest ++ e ∷ [])) left_is
              ∙ written_over lists k n.rest (n.rest ++ e ∷ [])
              ∙ sym (written_over lists k (es ++ e ∷ []) (n.rest ++ e ∷ []));
        } in next k m (inner n.rest there)
    by (inr d) inner =
        let there : slice_get left k ≡ Some es = ap (λ w. slice_get w k) n.left_is
        ∙ elsewhere lists k j n.rest (λ q. d (sym q)) ∙ is in
        let m : IsNextOf (slice_set lists k (es ++ e ∷ [])) j f
        (slice_set left k (es ++ e ∷ [])) = record {
          rest = n.rest;
          begins = elsewhere lists j k (es ++ e ∷ []) d ∙ n.begins;
          left_is = ap (λ w. slice_set w k (es ++ e ∷ [])) n.left_is
              ∙ either_first lists j k n.rest (es ++ e ∷ []) d;
        } in next j m (inner es there)

-- a phase with one event more
grown_phase : (many k : ℕ) (phase : List (List Event)) (es : List Event) (e : Event)
    → IsPhaseAt many phase → slice_get phase k ≡ Some es → IsAt k e
    → IsPhaseAt many (slice_set phase k (es ++ e ∷ []))
grown_phase many k phase es e p is at = record {
  many_are = as_many phase k (es ++ e ∷ []) ∙ p.many_are;
  each = λ j fs q. by j fs q (same_or_not j k);
}
  where
    by : (j : ℕ) (fs : List Event) → slice_get (slice_set phase k (es ++ e ∷ [])) j ≡ Some fs
        → (j ≡ k) ⊎ (j ≡ k → ⊥) → All (IsAt j) fs
    by j fs q (inl s) =
        let here : slice_get (slice_set phase k (es ++ e ∷ [])) k ≡ Some fs =
        subst (λ i. slice_get (slice_set phase k (es ++ e ∷ [])) i ≡ Some fs) s q in
        let both : Some (es ++ e ∷ []) ≡ Some fs =
        sym (written phase k es (es ++ e ∷ []) is) ∙ here in
        let all : es ++ e ∷ [] ≡ fs = cc in
        subst (λ i. All (IsAt i) fs) (sym s)
        (subst (λ w. All (IsAt k) w) all (All-push (IsAt k) es e (p.each k es is) at))
    by j fs q (inr n) = p.each j fs (sym (elsewhere phase j k (es ++ e ∷ []) n) ∙ q)

-- a phase without events
empty_used : (many : ℕ) (phase : List (List Event)) → IsEmptyPhase many phase
    → Interleaves phase []
empty_used many phase p = used_up p.empty

empty_phase : (many : ℕ) (phase : List (List Event)) → IsEmptyPhase many phase
    → IsPhaseAt many phase
empty_phase many phase p = record {
  many_are = p.many_are;
  each = λ k es is. subst (λ w. All (IsAt k) w) (sym (used_at phase k es p.empty is))
      (λ j d l. absurd (omega (arith, l)));
}

-- lists without events, made one by one
pub no_lists : (phase : List (List Event)) → phase ≡ [] → IsEmptyPhase 0 phase
no_lists phase e = record {
  many_are = ap length e;
  empty = subst (λ w. AreUsedUp w) (sym e) (λ k d l. absurd (omega (arith, l)));
}

pub one_list : {A B : Reader} (n : ℕ) (phase phase' : List (List Event)) (es : List Event)
    → (A.outcome ≡ Well → IsEmptyPhase n phase) → es ≡ [] → Kept A B phase es phase'
    → B.outcome ≡ Well → IsEmptyPhase (n + 1) phase'
one_list {A} {B} n phase phase' es f e k w =
    let p = f (still_well k.still w) in
    let long = length-append phase (es ∷ []) in
    let many = p.many_are in
    subst (λ v. IsEmptyPhase (n + 1) v) (sym (k.added w)) record {
      many_are = omega (arith, long, many);
      empty = All-push (λ (fs : List Event). fs ≡ []) phase es p.empty e;
    }

-- PHASES

moved : (front rest now : List Event) (x y : Event)
    → ((front ++ x ∷ rest) ++ now) ++ y ∷ [] ≡ front ++ x ∷ ((rest ++ now) ++ y ∷ [])
moved front rest now x y = ap (λ w. w ++ y ∷ []) (append_assoc front (x ∷ rest) now)
    ∙ append_assoc front (x ∷ (rest ++ now)) (y ∷ [])

-- a phase ends with a time
ended_more : (ps : List (List (List Event))) (us : List ℕ) (before now : List Event)
    (p : List (List Event)) (u : ℕ) → MergesEnded ps us before → Interleaves p now
    → MergesEnded (ps ++ p ∷ []) (us ++ u ∷ []) ((before ++ now) ++ event.Passes u ∷ [])
ended_more [] [] before now p u m i =
    (now, [], ap (λ w. (w ++ now) ++ event.Passes u ∷ []) m, i, refl)
ended_more [] (v ∷ us) before now p u m i = absurd m
ended_more (q ∷ ps) [] before now p u m i = absurd m
ended_more (q ∷ ps) (v ∷ us) before now p u m i = (
  m.0,
  (m.1 ++ now) ++ event.Passes u ∷ [],
  ap (λ w. (w ++ now) ++ event.Passes u ∷ []) m.2
      ∙ moved m.0 m.1 now (event.Passes v) (event.Passes u),
  m.3,
  ended_more ps us m.1 now p u m.4 i,
)

-- or is the last one
all_merged : (ps : List (List (List Event))) (us : List ℕ) (before now : List Event)
    (p : List (List Event)) → MergesEnded ps us before → Interleaves p now
    → MergesOf (ps ++ p ∷ []) us (before ++ now)
all_merged [] [] before now p m i =
    (refl, subst (λ w. Interleaves p (w ++ now)) (sym m) i)
all_merged [] (v ∷ us) before now p m i = absurd m
all_merged (q ∷ ps) [] before now p m i = absurd m
all_merged (q ∷ ps) (v ∷ us) before now p m i = (
  m.0,
  m.1 ++ now,
  ap (λ w. w ++ now) m.2 ∙ append_assoc m.0 (event.Passes v ∷ m.1) now,
  m.3,
  all_merged ps us m.1 now p m.4 i,
)

-- WHAT GROWS

-- no events yet
pub begun : (many : ℕ) (found : Growing) → found.phases ≡ [] → found.times ≡ []
    → IsEmptyPhase many found.phase → IsGrown many found []
begun many found no_phases no_times p = record {
  before = [];
  now = [];
  events_are = refl;
  ended = subst (λ ps. MergesEnded ps found.times []) (sym no_phases)
      (subst (λ us. MergesEnded [] us []) (sym no_times) refl);
  goes_on = empty_used many found.phase p;
  phases = subst (λ ps. All (IsPhaseAt many) ps) (sym no_phases)
      (λ k d l. absurd (omega (arith, l)));
  phase = empty_phase many found.phase p;
}

-- a time more
pub time_more : (many units : ℕ) (found found' : Growing)
    → found'.phases ≡ found.phases ++ found.phase ∷ [] → found'.times ≡ found.times ++ units ∷ []
    → IsEmptyPhase many found'.phase → GrowsBy many (event.Passes units ∷ []) found found'
time_more many units found found' phases_are times_are p es g = record {
  before = es ++ event.Passes units ∷ [];
  now = [];
  events_are = sym (append-nil (es ++ event.Passes units ∷ []));
  ended = subst (λ ps. MergesEnded ps found'.times (es ++ event.Passes units ∷ []))
      (sym phases_are) (subst (λ us. MergesEnded (found.phases ++ found.phase ∷ []) us
      (es ++ event.Passes units ∷ [])) (sym times_are)
      (subst (λ w. MergesEnded (found.phases ++ found.phase ∷ []) (found.times ++ units ∷ [])
      (w ++ event.Passes units ∷ [])) (sym g.events_are)
      (ended_more found.phases found.times g.before g.now found.phase units g.ended g.goes_on)));
  goes_on = empty_used many found'.phase p;
  phases = subst (λ ps. All (IsPhaseAt many) ps) (sym phases_are)
      (All-push (IsPhaseAt many) found.phases found.phase g.phases g.phase);
  phase = empty_phase many found'.phase p;
}

-- an event more
event_more : (many port : ℕ) (e : Event) (found found' : Growing) → found'.phases ≡ found.phases
    → found'.times ≡ found.times → IsAt port e → port < many
    → ((es : List Event) → slice_get found.phase port ≡ Some es
    → found'.phase ≡ slice_set found.phase port (es ++ e ∷ []))
    → GrowsBy many (e ∷ []) found found'
event_more many port e found found' phases_are times_are at l put es g =
    let there = item_at found.phase port (omega (arith, l, g.phase.many_are)) in
    let phase_is = put there.0 there.1 in record {
      before = g.before;
      now = g.now ++ e ∷ [];
      events_are = ap (λ w. w ++ e ∷ []) g.events_are ∙ append_assoc g.before g.now (e ∷ []);
      ended = subst (λ ps. MergesEnded ps found'.times g.before) (sym phases_are)
          (subst (λ us. MergesEnded found.phases us g.before) (sym times_are) g.ended);
      goes_on = subst (λ w. Interleaves w (g.now ++ e ∷ [])) (sym phase_is)
          (at_end found.phase port there.0 e g.now there.1 g.goes_on);
      phases = subst (λ ps. All (IsPhaseAt many) ps) (sym phases_are) g.phases;
      phase = subst (λ w. IsPhaseAt many w) (sym phase_is)
          (grown_phase many port found.phase there.0 e g.phase there.1 at);
    }

-- an event more, if there is one
pub event_grows : (port : ℕ) (o : Option Event) (found found' : Growing)
    → found'.phases ≡ found.phases → found'.times ≡ found.times
    → ((es : List Event) → slice_get found.phase port ≡ Some es
    → found'.phase ≡ slice_set found.phase port (es ++ option_to_list o))
    → GrowsAt port o found found'
event_grows port o found found' phases_are times_are put e many is at l =
    event_more many port e found found' phases_are times_are at l (λ es q.
    put es q ∙ ap (λ w. slice_set found.phase port (es ++ option_to_list w)) is)

-- the end
pub grown_lists : (many : ℕ) (found : Growing) (lists : PortLists) (es : List Event)
    → lists.phases ≡ found.phases ++ found.phase ∷ [] → lists.times ≡ found.times
    → IsGrown many found es → AreListsOf many lists es
grown_lists many found lists es phases_are times_are g = record {
  merges = subst (λ ps. MergesOf ps lists.times es) (sym phases_are)
      (subst (λ us. MergesOf (found.phases ++ found.phase ∷ []) us es) (sym times_are)
      (subst (λ w. MergesOf (found.phases ++ found.phase ∷ []) found.times w) (sym g.events_are)
      (all_merged found.phases found.times g.before g.now found.phase g.ended g.goes_on)));
  phases = subst (λ ps. All (IsPhaseAt many) ps) (sym phases_are)
      (All-push (IsPhaseAt many) found.phases found.phase g.phases g.phase);
}

-- as many ports as 32 bits tell, as far as 64 bits go
pub counted : (n : ℕ) → n < 2 ^ 32 → min n (2 ^ 64 - 1) ≡ n
counted n l = omega (arith, l)
