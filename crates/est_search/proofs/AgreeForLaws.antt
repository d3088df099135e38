-- What the agreement of the last events says of all events of a run.
use Rattle.std.proofs.Common.{◌≡◌, ◌≤◌, ◌<◌, ◌+◌, ◌-◌, ◌⊎◌, ℕ, zero, suc, List, [], ◌∷◌, ◌++◌}
use Rattle.std.proofs.Common.{length, take, drop, get_or, Some, inl, inr, refl, sym, ap, subst}
use Rattle.std.proofs.Common.{◌∙◌, arith}
use Rattle.std.specs.Prelude.{slice_get}
use Rattle.std.proofs.lemmas.List.{drop_more, get_or-drop, length-drop}
use Rattle.std.proofs.lemmas.Option.{slice_get-get_or}
use Rattle.est_meaning.specs.declared.event.Event.{Event}
use Rattle.est_meaning.specs.declared.trace.Expected.{Expected}
use Rattle.est_meaning.specs.declared.trace.Expected.TheVariants.{Known}
use Rattle.est_meaning.specs.Agreement.{Agrees, AgreeAll}
use Rattle.est_meaning.proofs.AgreementLaws.{agree_joined, agree_more}
use Rattle.est_search.specs.inside.Agreement.{AgreeFor}

-- what agrees, agrees at each place
agree_at : (xs : List Expected) (es : List Event) (i : ℕ) (x : Expected) (e : Event)
    → AgreeAll xs es → slice_get xs i ≡ Some x → slice_get es i ≡ Some e → Agrees x e
agree_at [] es i x e a p q = (let never : ⊥ = cc in absurd never)
agree_at (y ∷ xs) [] i x e a p q = absurd a
agree_at (y ∷ xs) (f ∷ es) zero x e a p q =
    let m : y ≡ x = cc in
    let n : f ≡ e = cc in
    subst (λ w. Agrees x w) n (subst (λ w. Agrees w f) m a.0)
agree_at (y ∷ xs) (f ∷ es) (suc i) x e a p q = agree_at xs es i x e a.1 p q

-- the first m and then the next k of them agree
pub agree_on : (trace : List Expected) (es outs : List Event) (m k : ℕ)
    → AgreeAll (take m trace) es → AgreeFor trace m outs k
    → AgreeAll (take m trace ++ take k (drop m trace)) (es ++ take k outs)
agree_on trace es outs m k a f =
    agree_joined (take m trace) (take k (drop m trace)) es (take k outs) a f.agree

get_taken : {X : Type 0} (xs : List X) (j i : ℕ) → i < j → slice_get (take j xs) i ≡ slice_get xs i
get_taken [] zero i lt = refl
get_taken [] (suc j) i lt = refl
get_taken (x ∷ xs) zero i lt = (let never : ⊥ = omega arith in absurd never)
get_taken (x ∷ xs) (suc j) zero lt = refl
get_taken (x ∷ xs) (suc j) (suc i) lt = get_taken xs j i (omega arith)

get_behind : {X : Type 0} (es outs : List X) (n i : ℕ) → n ≡ length es + i
    → slice_get (es ++ outs) n ≡ slice_get outs i
get_behind [] outs n i e = ap (λ k. slice_get outs k) (e ∙ omega arith)
get_behind (x ∷ es) outs zero i e = (let never : ⊥ = omega arith in absurd never)
get_behind (x ∷ es) outs (suc n) i e = get_behind es outs n i (omega arith)

get_there : {X : Type 0} (xs : List X) (i : ℕ) → i < length xs → (x : X) × (slice_get xs i ≡ Some x)
get_there [] i lt = (let never : ⊥ = omega arith in absurd never)
get_there (x ∷ xs) zero lt = (x, refl)
get_there (x ∷ xs) (suc i) lt = get_there xs i (omega arith)

-- what is got stands within the list
got_within : {X : Type 0} (xs : List X) (i : ℕ) (x : X) → slice_get xs i ≡ Some x → i < length xs
got_within [] i x e = (let never : ⊥ = cc in absurd never)
got_within (y ∷ xs) zero x e = omega arith
got_within (y ∷ xs) (suc i) x e = (let n = got_within xs i x e in omega arith)

-- where the events depart from the trace at m + k, no more than m + k agree
pub agree_most : (trace : List Expected) (es outs : List Event) (m k : ℕ) → length es ≡ m
    → AgreeFor trace m outs k → (j : ℕ) → m + k < j → k < length outs → m + k < length trace
    → AgreeAll (take j trace) (take j (es ++ outs)) → ⊥
agree_most trace es outs m k n f j lt more within a =
    let x = get_there trace (m + k) within in
    let e = get_there outs k more in
    f.differ x.0 e.0 x.1 e.1
    (agree_at (take j trace) (take j (es ++ outs)) (m + k) x.0 e.0 a
    (get_taken trace j (m + k) lt ∙ x.1)
    (get_taken (es ++ outs) j (m + k) lt ∙ get_behind es outs (m + k) k (omega arith) ∙ e.1))

-- COUNTING

-- one event more agrees
pub agreed_more : (trace : List Expected) (events : List Event) (from k : ℕ) (x : Expected)
    (e : Event) → from + k < length trace → k < length events → get_or trace (from + k) x ≡ x
    → get_or events k e ≡ e
    → AgreeAll (take k (drop from trace)) (take k events) → Agrees x e
    → AgreeAll (take (k + 1) (drop from trace)) (take (k + 1) events)
agreed_more trace events from k x e within many there here a agrees =
    let n : length (drop from trace) ≡ length trace - from = length-drop from trace in
    agree_more (drop from trace) events k x e (omega arith) many
    (get_or-drop from trace k x ∙ there) here a agrees

module _ (trace : List Expected) (events : List Event) (from k : ℕ) (many : k ≤ length events)
    (within : from + k ≤ length trace)
    (agree : AgreeAll (take k (drop from trace)) (take k events)) where
  -- where the trace or the events end
  pub agreed_all : (length trace ≤ from + k) ⊎ (length events ≤ k) → AgreeFor trace from events k
  agreed_all end = record {
    many = many;
    within = within;
    agree = agree;
    differ = λ x e p q a.
        (let n = got_within trace (from + k) x p in
        let j = got_within events k e q in
        elim end [ inl l ↦ omega arith | inr l ↦ omega arith ]);
  }

  -- where the next ones do not agree
  pub agreed_so_far : (x : Expected) (e : Event) → from + k < length trace → k < length events
      → get_or trace (from + k) x ≡ x → get_or events k e ≡ e → (Agrees x e → ⊥)
      → AgreeFor trace from events k
  agreed_so_far x e short less there here off = record {
    many = many;
    within = within;
    agree = agree;
    differ = λ y d p q a.
        (let r : Some y ≡ Some x = sym p ∙ slice_get-get_or trace (from + k) x short
        ∙ ap Some there in
        let s : Some d ≡ Some e = sym q ∙ slice_get-get_or events k e less ∙ ap Some here in
        let m : y ≡ x = cc in
        let n : d ≡ e = cc in
        off (subst (λ w. Agrees w e) m (subst (λ w. Agrees y w) n a)));
  }

-- one known event that stands in the trace
pub agree_one : (trace : List Expected) (m : ℕ) (e : Event) → m < length trace
    → get_or trace m (Known e) ≡ Known e → AgreeFor trace m (e ∷ []) 1
agree_one trace m e lt is =
    let rest : drop m trace ≡ Known e ∷ drop (m + 1) trace = drop_more trace m (Known e) lt
    ∙ ap (λ x. x ∷ drop (m + 1) trace) is in
    agreed_all trace (e ∷ []) m 1 (omega arith) (omega arith)
    (subst (λ w. AgreeAll (take 1 w) (e ∷ [])) (sym rest) (refl, tt)) (inr (omega arith))
