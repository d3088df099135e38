-- What a run may take next.
use Rattle.std.proofs.Common.{◌≡◌, ◌≤◌, ◌<◌, ◌+◌, ℕ, List, [], ◌∷◌, ◌++◌, length, take, drop}
use Rattle.std.proofs.Common.{get_or, refl, sym, ap, subst, ◌∙◌, append_assoc, arith}
use Rattle.std.proofs.lemmas.List.{take-append-drop, drop_more, length-append}
use Rattle.est_meaning.specs.declared.event.Event.{Event}
use Rattle.est_meaning.specs.declared.trace.Expected.{Expected}
use Rattle.est_meaning.specs.declared.trace.Expected.TheVariants.{Known, Partly}
use Rattle.est_meaning.specs.Agreement.{AgreeAll}
use Rattle.est_meaning.specs.Run.{Setup, Place, Takes, Follows, IsFromOutside, after_taking}
use Rattle.est_meaning.proofs.AgreementLaws.{agree_length, agree_joined, behind_one}

-- an arrival or a passing of time is expected, and known
abbrev pub IsKnownOutside : Expected → Type 0
IsKnownOutside (Known e) = IsFromOutside e
IsKnownOutside (Partly port signal seen) = ⊥

-- what is not known does not come from outside
pub unknown_stays : (x : Expected) → ((e : Event) → x ≡ Known e → ⊥) → IsKnownOutside x → ⊥
unknown_stays (Known e) never outside = never e refl
unknown_stays (Partly port signal seen) never outside = outside

-- where x is what is expected at a place
pub next_event : (trace : List Expected) (m : ℕ) (x : Expected) → m < length trace
    → get_or trace m x ≡ x → trace ≡ take m trace ++ x ∷ drop (m + 1) trace
next_event trace m x lt is = sym (take-append-drop m trace)
    ∙ ap (λ w. take m trace ++ w) (drop_more trace m x lt ∙ ap (λ w. w ∷ drop (m + 1) trace) is)

-- what is taken is known, and stands in the trace after as many events as happened so far
pub taken_is : (c : Setup) (p q : Place) (t : Takes c p q) (front : List Expected) (x : Expected)
    (rest : List Expected) → AgreeAll front p.events → c.trace.events ≡ front ++ x ∷ rest
    → Known t.event ≡ x
taken_is c p q t front x rest agree is =
    let n : length t.front ≡ length front = sym (agree_length t.front p.events t.agree)
    ∙ agree_length front p.events agree in
    let b : Known t.event ∷ t.rest ≡ x ∷ rest = behind_one t.front (Known t.event ∷ t.rest) front
    (x ∷ rest) n (sym t.next ∙ is) in
    cc

-- so where a known event stands there, it is that one
pub taken_known : (c : Setup) (p q : Place) (t : Takes c p q) (front : List Expected) (e : Event)
    (rest : List Expected) → AgreeAll front p.events → c.trace.events ≡ front ++ Known e ∷ rest
    → t.event ≡ e
taken_known c p q t front e rest agree is =
    let k : Known t.event ≡ Known e = taken_is c p q t front (Known e) rest agree is in
    cc

-- where no event stands there, none is taken
pub none_taken : (c : Setup) (p q : Place) → length c.trace.events ≤ length p.events → Takes c p q
    → ⊥
none_taken c p q few t =
    let n : length c.trace.events ≡ length t.front + length (Known t.event ∷ t.rest) =
    ap length t.next ∙ length-append t.front (Known t.event ∷ t.rest) in
    let k = agree_length t.front p.events t.agree in
    omega arith

-- where an event is taken, the run follows the trace
pub taken_follows : (c : Setup) (p q : Place) → Takes c p q → Follows c q
taken_follows c p q t =
    let one : List Expected = Known t.event ∷ [] in
    subst (λ w. Follows c w) (sym t.leads) (record {
      front = t.front ++ one;
      rest = t.rest;
      split = t.next ∙ sym (append_assoc t.front one t.rest);
      agree = agree_joined t.front one p.events (t.event ∷ []) t.agree (refl, tt);
    })

module _ (c : Setup) (p : Place) (m : ℕ) (x : Expected) (lt : m < length c.trace.events)
    (is : get_or c.trace.events m x ≡ x) (agree : AgreeAll (take m c.trace.events) p.events) where
  -- a known event that stands there is taken, if it comes from outside
  abbrev pub takes_at : (e : Event) → x ≡ Known e → IsFromOutside e → Takes c p (after_taking c p e)
  takes_at e known outside = record {
    event = e;
    front = take m c.trace.events;
    rest = drop (m + 1) c.trace.events;
    outside = outside;
    agree = agree;
    next = next_event c.trace.events m x lt is
        ∙ ap (λ y. take m c.trace.events ++ y ∷ drop (m + 1) c.trace.events) known;
    leads = refl;
  }

  -- and nothing else is
  pub inside_stays : (IsKnownOutside x → ⊥) → (q : Place) → Takes c p q → ⊥
  inside_stays inside q t =
      inside (subst IsKnownOutside (taken_is c p q t (take m c.trace.events) x
      (drop (m + 1) c.trace.events) agree (next_event c.trace.events m x lt is)) t.outside)
