-- Choices of candidates, transition by transition.
use Rattle.std.proofs.Common.{◌≡◌, ◌<◌, ◌≤◌, ◌+◌, ◌⊎◌, refl, sym, ap, subst, ◌∙◌, inl, inr, ℕ}
use Rattle.std.proofs.Common.{zero, suc, ℤ, Bool, true, false, List, [], ◌∷◌, ◌++◌, Option, Some}
use Rattle.std.proofs.Common.{None, arith}
use Rattle.std.specs.Prelude.{option_and_then, slice_get}
use Rattle.std.specs.Option.{option_map, option_map_or}
use Rattle.std.proofs.lemmas.Bool.{cases_lt}
use Rattle.est_meaning.specs.mean_blocks.declared.situation.Row.{Row}
use Rattle.est_meaning.specs.mean_blocks.TextByPlace.{Text}
use Rattle.est_meaning.specs.mean_blocks.GlobalSituation.{Frame, Situation, row_of}
use Rattle.est_meaning.specs.declared.firing.Firing.{Firing}
use Rattle.est_meaning.specs.ClauseContexts.{FullTransition, transitions_of, from_of}
use Rattle.est_meaning.specs.TransitionChoices.{Choice, choice_of, choice_in, choice_by, is_choice}
use Rattle.est_meaning.specs.TransitionChoices.{numbered, any_tuples, any_frame}
use Rattle.est_meaning.specs.GuardParts.{is_from, fits_state}
use Rattle.est_meaning.specs.TransitionSelection.{passes_limit, IsSettled, is_offered}
use Rattle.est_meaning.specs.TransitionSelection.{is_offered_choice, is_due_choice, priority_in}
use Rattle.est_meaning.proofs.Options.{some_is, then_some, map_some}
use Rattle.plain_guards.specs.plain_transitions.FittingTransitions.{IsFitting}
use Rattle.plain_guards.specs.plain_transitions.WrittenTransitions.{IsWritten}
use Rattle.plain_guards.specs.plain_clauses.declared.candidate.Candidate.{Candidate}
use Rattle.plain_guards.specs.plain_clauses.declared.verdict.Verdict.{Verdict}
use Rattle.plain_guards.specs.plain_clauses.JudgedGuards.{IsOf, IsVerdict, says_nothing}
use Rattle.est_meaning.specs.FiringOrder.{FiringBefore}
use Rattle.plain_choices.specs.declared.offers.Instance.{Instance}
use Rattle.plain_choices.specs.declared.offers.Offer.{Offer}
use Rattle.plain_choices.specs.inside.InstanceOffers.{IsSurvey, IsUpTo, IsFiringOf}
use Rattle.plain_choices.specs.inside.InstanceOffers.{firing_of, HasChoice, IsCandidate}
use Rattle.plain_choices.specs.inside.InstanceOffers.{IsLiving}
use Rattle.plain_choices.proofs.Surveys.{IsIdle, unsettled, survey_skips, survey_passes}
use Rattle.plain_choices.proofs.Surveys.{survey_takes, idle_within, idle_unoffered, not_both}
use Rattle.plain_choices.proofs.Surveys.{IsQuiet, survey_stays}

-- PLACES OF FIRINGS

abbrev firing_at : ℕ → ℕ → ℕ → Firing
firing_at i n k = record { instance = i; transition = n; choice = k }

same_firing : (f g : Firing) → f.instance ≡ g.instance → f.transition ≡ g.transition
    → f.choice ≡ g.choice → f ≡ g
same_firing f g a b c = λ i. record { instance = a i; transition = b i; choice = c i }

up_to_more : (i n k : ℕ) (f : Firing) → IsUpTo i n k f → IsUpTo i n (k + 1) f
up_to_more i n k f u = record {
  of = u.of;
  before = elim u.before [ inl a ↦ inl a | inr b ↦ inr (b.0, (let h = b.1 in omega arith)) ];
}

up_to_last : (i n k : ℕ) (f : Firing) → IsUpTo i n (k + 1) f
    → IsUpTo i n k f ⊎ (firing_at i n k ≡ f)
up_to_last i n k f u = elim u.before [
  | inl a ↦ inl (record { of = u.of; before = inl a })
  | inr b ↦ elim (cases_lt f.choice k) [
    | inl a ↦ inl (record { of = u.of; before = inr (b.0, a) })
    | inr a ↦ (let h : f.choice < k + 1 = b.1 in let e : k ≡ f.choice = omega arith in
        inr (same_firing (firing_at i n k) f (sym u.of) (sym b.0) e))
  ]
]

up_to_here : (i n k : ℕ) → IsUpTo i n (k + 1) (firing_at i n k)
up_to_here i n k = record { of = refl; before = inr (refl, omega arith) }

up_to_before : (i n k : ℕ) (f : Firing) → IsUpTo i n k f → FiringBefore f (firing_at i n k)
unfolding FiringBefore
up_to_before i n k f u = inr (u.of, u.before)

-- PARTS OF CHOICES

-- what a choice is that a firing names
pub record HasParts (t : Text) (s : Situation) (f : Firing) (c : Choice) : Type 0 where
  pub row : row_of s f.instance ≡ Some c.row
  pub number : c.number ≡ f.transition
  pub transition : numbered (transitions_of t c.row.body) f.transition ≡ Some c.transition
  pub tuple : List ℤ
  pub chosen : numbered (any_tuples t.outline c.transition) f.choice ≡ Some tuple

parts_by : (t : Text) (s : Situation) (f : Firing) (c : Choice) (r : Row) (x : FullTransition)
    (zs : List ℤ) → row_of s f.instance ≡ Some r
    → numbered (transitions_of t r.body) f.transition ≡ Some x
    → numbered (any_tuples t.outline x) f.choice ≡ Some zs
    → record {
      row = r;
      number = f.transition;
      transition = x;
      chosen = any_frame t.outline x zs;
    } ≡ c
    → HasParts t s f c
parts_by t s f c r x zs a b d e = subst (HasParts t s f) e
    (record { row = a; number = refl; transition = b; tuple = zs; chosen = d })

pub choice_parts : (t : Text) (s : Situation) (f : Firing) (c : Choice)
    → choice_of t s f ≡ Some c → HasParts t s f c
choice_parts t s f c h =
    let a = then_some (choice_in t f) (row_of s f.instance) c h in
    let b = then_some (choice_by t a.0 f.transition f.choice)
    (numbered (transitions_of t a.0.body) f.transition) c a.2 in
    let d = map_some (λ (zs : List ℤ). record {
      row = a.0;
      number = f.transition;
      transition = b.0;
      chosen = any_frame t.outline b.0 zs;
    }) (numbered (any_tuples t.outline b.0) f.choice) c b.2 in
    parts_by t s f c a.0 b.0 d.0 a.1 b.1 d.1 d.2

none_some : {A : Type 0} (o : Option A) (a : A) → o ≡ None → o ≡ Some a → ⊥
none_some o a e h = let n : None ≡ Some a = sym e ∙ h in cc

get_later : {A : Type 0} (xs : List A) (j k : ℕ) → j ≤ k → slice_get xs j ≡ None
    → slice_get xs k ≡ None
get_later [] j k le h = refl
get_later (x ∷ xs) zero k le h = absurd (cc)
get_later (x ∷ xs) (suc j) zero le h = absurd (omega (arith, le))
get_later (x ∷ xs) (suc j) (suc k) le h = get_later xs j k (omega (arith, le)) h

-- after the last item there is none
pub numbered_later : {A : Type 0} (xs : List A) (j k : ℕ) → 1 ≤ j → j ≤ k
    → numbered xs j ≡ None → numbered xs k ≡ None
numbered_later xs zero k one le h = absurd (omega (arith, one))
numbered_later xs (suc j) zero one le h = absurd (omega (arith, le))
numbered_later xs (suc j) (suc k) one le h = get_later xs j k (omega (arith, le)) h

-- ONE CHOICE

pub has_choice : (t : Text) (s : Situation) (x : Candidate) (choice : ℕ) (chosen : Frame)
    → (d : IsCandidate t s x)
    → Some chosen ≡ option_map (any_frame t.outline d.transition)
    (numbered (any_tuples t.outline d.transition) choice)
    → HasChoice t s x choice chosen
has_choice t s x choice chosen d h =
    let w = map_some (any_frame t.outline d.transition)
    (numbered (any_tuples t.outline d.transition) choice) chosen (sym h) in (
      record {
        row = d.row;
        number = x.number;
        transition = d.transition;
        chosen = any_frame t.outline d.transition w.0;
      },
      record {
        instance = d.instance;
        state = d.state;
        number = refl;
        transition = d.written;
        chosen_is = w.2;
      },
      ap (option_and_then (choice_in t (firing_of x choice))) d.is
          ∙ ap (option_and_then (choice_by t d.row x.number choice)) d.found
          ∙ ap (option_map (λ (zs : List ℤ). record {
            row = d.row;
            number = x.number;
            transition = d.transition;
            chosen = any_frame t.outline d.transition zs;
          })) w.1,
    )

module _ (limit : ℕ) (t : Text) (s : Situation) (x : Candidate) (choice : ℕ) (chosen : Frame)
    (h : HasChoice t s x choice chosen) (v : Verdict)
    (says : (c : Choice) → IsOf t x chosen c → IsVerdict limit t s c v) where
  verdict_of : IsVerdict limit t s h.0 v
  verdict_of = says h.0 h.1

  by_test : (test : Choice → Bool) (b : Bool) → b ≡ test h.0
      → is_choice test t s (firing_of x choice) ≡ b
  by_test test b e = ap (λ o. option_map_or test o false) h.2 ∙ sym e

  pub choice_passes : v.passes ≡ true → IsSettled limit t s → ⊥
  choice_passes e = unsettled limit t s (firing_of x choice)
      (by_test (passes_limit limit t s) v.passes verdict_of.passes ∙ e)

  pub choice_fails : (os : List Offer) → v.passes ≡ false → v.offered ≡ false
      → IsSurvey limit t s (IsUpTo x.instance x.number choice) os
      → IsSurvey limit t s (IsUpTo x.instance x.number (choice + 1)) os
  choice_fails os e n k = survey_passes limit t s (IsUpTo x.instance x.number choice)
      (IsUpTo x.instance x.number (choice + 1)) os k
      (λ f u. up_to_more x.instance x.number choice f u) (firing_of x choice)
      (λ f u. up_to_last x.instance x.number choice f u)
      (by_test (passes_limit limit t s) v.passes verdict_of.passes ∙ e)
      (by_test (is_offered_choice limit t s) v.offered verdict_of.offered ∙ n)

  pub choice_offers : (os : List Offer) (o : Offer) → v.passes ≡ false → v.offered ≡ true
      → o.firing ≡ firing_of x choice → o.due ≡ v.due → o.priority ≡ x.transition.now.priority
      → IsSurvey limit t s (IsUpTo x.instance x.number choice) os
      → IsSurvey limit t s (IsUpTo x.instance x.number (choice + 1)) (os ++ o ∷ [])
  choice_offers os o e n q d p k = survey_takes limit t s (IsUpTo x.instance x.number choice)
      (IsUpTo x.instance x.number (choice + 1)) os k
      (λ f u. up_to_more x.instance x.number choice f u) (firing_of x choice) o
      (λ f u. up_to_last x.instance x.number choice f u)
      (up_to_here x.instance x.number choice)
      (λ f u. up_to_before x.instance x.number choice f u)
      (by_test (passes_limit limit t s) v.passes verdict_of.passes ∙ e) q (record {
        offered = ap (is_offered limit t s) q
            ∙ by_test (is_offered_choice limit t s) v.offered verdict_of.offered ∙ n;
        due = d ∙ sym (ap (is_choice (is_due_choice limit t s) t s) q
            ∙ by_test (is_due_choice limit t s) v.due verdict_of.due);
        priority = p ∙ h.1.transition.priority
            ∙ sym (ap (λ f. option_and_then (λ (c : Choice). priority_in t.outline c.transition)
            (choice_of t s f)) q
            ∙ ap (option_and_then (λ (c : Choice). priority_in t.outline c.transition)) h.2);
      })

-- THE LAST CHOICE

choices_end_by : (t : Text) (s : Situation) (x : Candidate) (choice : ℕ) (d : IsCandidate t s x)
    (f : Firing) → 1 ≤ choice → numbered (any_tuples t.outline d.transition) choice ≡ None
    → f.instance ≡ x.instance → f.transition ≡ x.number → choice ≤ f.choice → IsIdle t s f
choices_end_by t s x choice d f one e a b le = λ c h.
    let p = choice_parts t s f c h in
    let r : Some c.row ≡ Some d.row = sym p.row ∙ ap (row_of s) a ∙ d.is in
    let q : Some c.transition ≡ Some d.transition = sym p.transition
    ∙ (λ i. numbered (transitions_of t (some_is c.row d.row r i).body) (b i)) ∙ d.found in
    absurd (none_some (numbered (any_tuples t.outline d.transition) f.choice) p.tuple
    (numbered_later (any_tuples t.outline d.transition) choice f.choice one le e)
    (ap (λ y. numbered (any_tuples t.outline y) f.choice)
    (sym (some_is c.transition d.transition q)) ∙ p.chosen))

pub choices_end : (limit : ℕ) (t : Text) (s : Situation) (x : Candidate) (choice : ℕ)
    (os : List Offer) (d : IsCandidate t s x) → 1 ≤ choice
    → numbered (any_tuples t.outline d.transition) choice ≡ None
    → IsSurvey limit t s (IsUpTo x.instance x.number choice) os
    → IsSurvey limit t s (IsUpTo x.instance (x.number + 1) 0) os
choices_end limit t s x choice os d one e v = survey_skips limit t s
    (IsUpTo x.instance x.number choice) (IsUpTo x.instance (x.number + 1) 0) os v
    (λ f u. record { of = u.of; before = inl (up f u.before) })
    (λ f u. down f u)
  where
    up : (f : Firing) → (f.transition < x.number)
        ⊎ ((f.transition ≡ x.number) × (f.choice < choice)) → f.transition < x.number + 1
    up f b = elim b [ inl a ↦ omega (arith, a) | inr a ↦ (let h = a.0 in omega arith) ]

    last : (f : Firing) → f.instance ≡ x.instance → x.number ≤ f.transition
        → f.transition < x.number + 1
        → IsUpTo x.instance x.number choice f ⊎ IsIdle t s f
    last f a lo hi = let q : f.transition ≡ x.number = omega arith in
        elim (cases_lt f.choice choice) [
          | inl k ↦ inl (record { of = a; before = inr (q, k) })
          | inr k ↦ inr (choices_end_by t s x choice d f one e a q k)
        ]

    down : (f : Firing) → IsUpTo x.instance (x.number + 1) 0 f
        → IsUpTo x.instance x.number choice f ⊎ IsIdle t s f
    down f u = elim (cases_lt f.transition x.number) [
      | inl k ↦ inl (record { of = u.of; before = inl k })
      | inr k ↦ elim u.before [
        | inl j ↦ last f u.of k j
        | inr j ↦ (let n : f.choice < 0 = j.1 in absurd (omega arith))
      ]
    ]

-- TRANSITIONS

-- a transition each choice of which says nothing
module _ (limit : ℕ) (t : Text) (s : Situation) (x : Candidate) (d : IsCandidate t s x)
    (says : (chosen : Frame) (c : Choice) → IsOf t x chosen c
    → IsVerdict limit t s c says_nothing) where
  is_of : (f : Firing) (c : Choice) → f.instance ≡ x.instance → f.transition ≡ x.number
      → choice_of t s f ≡ Some c → IsOf t x c.chosen c
  is_of f c a b h =
      let p = choice_parts t s f c h in
      let r = some_is c.row d.row (sym p.row ∙ ap (row_of s) a ∙ d.is) in
      let q = some_is c.transition d.transition (sym p.transition
      ∙ (λ i. numbered (transitions_of t (r i).body) (b i)) ∙ d.found) in
      record {
        instance = ap (λ (y : Row). y.number) r ∙ d.instance;
        state = ap (λ (y : Row). y.state) r ∙ d.state;
        number = p.number ∙ b;
        transition = subst (λ (y : FullTransition). IsWritten t.outline y x.transition.now)
            (sym q) d.written;
        chosen_is = refl;
      }

  quiet_by : (f : Firing) (o : Option Choice) → choice_of t s f ≡ o
      → f.instance ≡ x.instance → f.transition ≡ x.number
      → (option_map_or (passes_limit limit t s) o false ≡ false)
      × (option_map_or (is_offered_choice limit t s) o false ≡ false)
  quiet_by f None h a b = (refl, refl)
  quiet_by f (Some c) h a b =
      let v = says c.chosen c (is_of f c a b h) in (sym v.passes, sym v.offered)

  quiet : (f : Firing) → f.instance ≡ x.instance → f.transition ≡ x.number
      → IsQuiet limit t s f
  quiet f a b = quiet_by f (choice_of t s f) refl a b

  pub transition_missed : (os : List Offer)
      → IsSurvey limit t s (IsUpTo x.instance x.number 1) os
      → IsSurvey limit t s (IsUpTo x.instance (x.number + 1) 0) os
  transition_missed os v = survey_stays limit t s (IsUpTo x.instance x.number 1)
      (IsUpTo x.instance (x.number + 1) 0) os v
      (λ f u. record { of = u.of; before = inl (up f u.before) }) (λ f u. down f u)
    where
      up : (f : Firing) → (f.transition < x.number)
          ⊎ ((f.transition ≡ x.number) × (f.choice < 1)) → f.transition < x.number + 1
      up f b = elim b [ inl a ↦ omega (arith, a) | inr a ↦ (let h = a.0 in omega arith) ]

      down : (f : Firing) → IsUpTo x.instance (x.number + 1) 0 f
          → IsUpTo x.instance x.number 1 f ⊎ IsQuiet limit t s f
      down f u = elim (cases_lt f.transition x.number) [
        | inl k ↦ inl (record { of = u.of; before = inl k })
        | inr k ↦ elim u.before [
          | inl j ↦ (let b : f.transition ≡ x.number = omega arith in inr (quiet f u.of b))
          | inr j ↦ (let m : f.choice < 0 = j.1 in absurd (omega arith))
        ]
      ]

-- a transition that is not there
pub transition_skips : (limit : ℕ) (t : Text) (s : Situation) (r : Row) (i n : ℕ)
    (os : List Offer) → row_of s i ≡ Some r → numbered (transitions_of t r.body) n ≡ None
    → IsSurvey limit t s (IsUpTo i n 1) os → IsSurvey limit t s (IsUpTo i (n + 1) 0) os
transition_skips limit t s r i n os e h v = survey_skips limit t s (IsUpTo i n 1)
    (IsUpTo i (n + 1) 0) os v (λ f u. record { of = u.of; before = inl (up f u.before) })
    (λ f u. down f u)
  where
    up : (f : Firing) → (f.transition < n) ⊎ ((f.transition ≡ n) × (f.choice < 1))
        → f.transition < n + 1
    up f b = elim b [ inl a ↦ omega (arith, a) | inr a ↦ (let h = a.0 in omega arith) ]

    none : (f : Firing) → f.instance ≡ i → f.transition ≡ n → IsIdle t s f
    none f a b = λ c k.
        let p = choice_parts t s f c k in
        let q : Some c.row ≡ Some r = sym p.row ∙ ap (row_of s) a ∙ e in
        absurd (none_some (numbered (transitions_of t r.body) n) c.transition h
        (sym (λ j. numbered (transitions_of t (some_is c.row r q j).body) (b j))
        ∙ p.transition))

    down : (f : Firing) → IsUpTo i (n + 1) 0 f → IsUpTo i n 1 f ⊎ IsIdle t s f
    down f u = elim (cases_lt f.transition n) [
      | inl k ↦ inl (record { of = u.of; before = inl k })
      | inr k ↦ elim u.before [
        | inl j ↦ (let b : f.transition ≡ n = omega arith in inr (none f u.of b))
        | inr j ↦ (let m : f.choice < 0 = j.1 in absurd (omega arith))
      ]
    ]

-- nothing is surveyed before the first transition
pub survey_none : (limit : ℕ) (t : Text) (s : Situation) (i : ℕ)
    → IsSurvey limit t s (IsUpTo i 1 0) []
survey_none limit t s i = record {
  settled = λ f u. idle_within limit t s f (none f u);
  ascending = tt;
  reached = λ f a. absurd a;
  sound = λ o a. absurd a;
  complete = λ f u e. absurd (not_both (is_offered limit t s f) e
      (idle_unoffered limit t s f (none f u)));
}
  where
    zeroth : (f : Firing) → IsUpTo i 1 0 f → f.transition ≡ 0
    zeroth f u = elim u.before [
      | inl a ↦ omega (arith, a)
      | inr a ↦ (let n : f.choice < 0 = a.1 in absurd (omega arith))
    ]

    none : (f : Firing) → IsUpTo i 1 0 f → IsIdle t s f
    none f u = λ c h.
        let p = choice_parts t s f c h in
        absurd (none_some (numbered (transitions_of t c.row.body) f.transition) c.transition
        (ap (numbered (transitions_of t c.row.body)) (zeroth f u)) p.transition)

-- an instance of which something was looked up
module _ (limit : ℕ) (t : Text) (s : Situation) (x : Instance) (live : IsLiving s x) where
  number_is : row_of s x.number ≡ Some live.0
  number_is = live.1

  -- no transition of the instance between two numbers fits
  unfit : (after : ℕ) (f : Firing) → f.instance ≡ x.number
      → (IsFitting t x.body x.state f.transition → ⊥) → IsIdle t s f
  unfit after f a n = λ c h.
      let p = choice_parts t s f c h in
      let q : Some c.row ≡ Some live.0 = sym p.row ∙ ap (row_of s) a ∙ live.1 in
      let e : c.row ≡ live.0 = some_is c.row live.0 q in
      by (is_from t c) refl (λ k. n (record {
        transition = c.transition;
        is = ap (λ b. numbered (transitions_of t b) f.transition)
            (ap (λ (y : Instance). y.body) live.2 ∙ sym (ap (λ (r : Row). r.body) e))
            ∙ p.transition;
        fits = ap (fits_state t.outline (from_of c.transition))
            (ap (λ (y : Instance). y.state) live.2 ∙ sym (ap (λ (r : Row). r.state) e)) ∙ k;
      }))
    where
      by : (b : Bool) {c : Bool} → c ≡ b → (b ≡ true → ⊥) → c ≡ false
      by true e h = absurd (h refl)
      by false e h = e

  -- the next transition that fits
  pub next_fits : (after n : ℕ) (os : List Offer) → after < n
      → ((m : ℕ) → after < m → m < n → IsFitting t x.body x.state m → ⊥)
      → IsSurvey limit t s (IsUpTo x.number (after + 1) 0) os
      → IsSurvey limit t s (IsUpTo x.number n 1) os
  next_fits after n os lt gap v = survey_skips limit t s (IsUpTo x.number (after + 1) 0)
      (IsUpTo x.number n 1) os v
      (λ f u. record { of = u.of; before = up f u.before }) (λ f u. down f u)
    where
      up : (f : Firing) → (f.transition < after + 1)
          ⊎ ((f.transition ≡ after + 1) × (f.choice < 0))
          → (f.transition < n) ⊎ ((f.transition ≡ n) × (f.choice < 1))
      up f b = elim b [
        | inl a ↦ elim (cases_lt f.transition n) [
          | inl k ↦ inl k
          | inr k ↦ absurd (omega (arith, a))
        ]
        | inr a ↦ (let m : f.choice < 0 = a.1 in absurd (omega arith))
      ]

      zeroth : (f : Firing) → f.choice ≡ 0 → IsIdle t s f
      zeroth f e = λ c h.
          let p = choice_parts t s f c h in
          absurd (none_some (numbered (any_tuples t.outline c.transition) f.choice) p.tuple
          (ap (numbered (any_tuples t.outline c.transition)) e) p.chosen)

      down : (f : Firing) → IsUpTo x.number n 1 f
          → IsUpTo x.number (after + 1) 0 f ⊎ IsIdle t s f
      down f u = elim (cases_lt f.transition (after + 1)) [
        | inl k ↦ inl (record { of = u.of; before = inl k })
        | inr k ↦ elim u.before [
          | inl j ↦ inr (unfit after f u.of (gap f.transition (omega (arith, k)) j))
          | inr j ↦ inr (zeroth f (let m : f.choice < 1 = j.1 in omega arith))
        ]
      ]

  -- the last transition that fits
  pub none_fits : (after : ℕ) (os : List Offer)
      → ((m : ℕ) → after < m → IsFitting t x.body x.state m → ⊥)
      → IsSurvey limit t s (IsUpTo x.number (after + 1) 0) os
      → IsSurvey limit t s (IsFiringOf x.number) os
  none_fits after os gap v = survey_skips limit t s (IsUpTo x.number (after + 1) 0)
      (IsFiringOf x.number) os v (λ f u. u.of) (λ f a. elim (cases_lt f.transition (after + 1)) [
        | inl k ↦ inl (record { of = a; before = inl k })
        | inr k ↦ inr (unfit after f a (gap f.transition (omega (arith, k))))
      ])

pub unmapped : {A B : Type 0} (f : A → B) (o : Option A) → option_map f o ≡ None → o ≡ None
unmapped f None h = refl
unmapped f (Some a) h = absurd (cc)
