-- The run of a verdict fires no more often than the budget allows, and takes no more events than
-- the trace has.
use Rattle.std.proofs.Common.{◌≡◌, ◌∙◌, ℕ, ◌+◌, ◌≤◌, List, [], ◌∷◌, length}
use Rattle.std.proofs.Common.{inl, inr, refl, sym, ap, subst, arith}
use Rattle.std.proofs.lemmas.Bool.{cases_lt}
use Rattle.std.proofs.lemmas.List.{length-append, map-append}
use Rattle.est_syntax.specs.Least.{IsIn}
use Rattle.est_meaning.specs.declared.run.Move.{Move}
use Rattle.est_meaning.specs.declared.run.Move.TheVariants.{Take, Fire}
use Rattle.est_meaning.specs.Order.{StartsWith, marks_of, mark_of, longer, NotAfter, RunBefore}
use Rattle.est_meaning.specs.Run.{Setup, Place, IsBoundedRun, Follows, FollowsBefore, Explains}
use Rattle.est_meaning.specs.Run.{Yields}
use Rattle.est_meaning.specs.Trials.{IsInner, IsTrial, IsTrialUpTo, AreDistinct, HasMany, HasAtMost}
use Rattle.est_meaning.proofs.AgreementLaws.{first_taken}
use Rattle.est_meaning.proofs.OrderLaws.{starts_self, starts_less, starts_cases, not_after_before}
use Rattle.est_meaning.proofs.RunLaws.{one_place, run_prefix, follows_grows, explains_follows}
use Rattle.est_meaning.proofs.Takings.{taken_follows}
use Rattle.est_search.specs.Verdict.{IsAccepted, IsUnexplained}
use Rattle.est_search.proofs.OneVerdict.{too_many}

-- HOW MANY

-- how often a run fires
abbrev pub fires : List Move → ℕ
fires [] = 0
fires (Take ∷ earlier) = fires earlier
fires (Fire f ∷ earlier) = fires earlier + 1

-- how many events it takes
abbrev pub takes : List Move → ℕ
takes [] = 0
takes (Take ∷ earlier) = takes earlier + 1
takes (Fire f ∷ earlier) = takes earlier

-- the runs up to each of its firings
abbrev fired : List Move → List (List Move)
fired [] = []
fired (Take ∷ earlier) = fired earlier
fired (Fire f ∷ earlier) = (Fire f ∷ earlier) ∷ fired earlier

-- each of these has this
abbrev OfEachFired : (List Move → Type 0) → List Move → Type 0
OfEachFired P [] = Unit {0}
OfEachFired P (Take ∷ earlier) = OfEachFired P earlier
OfEachFired P (Fire f ∷ earlier) = P (Fire f ∷ earlier) × OfEachFired P earlier

fired_short : (run x : List Move) → IsIn x (fired run) → length x ≤ length run
fired_short [] x a = absurd a
fired_short (Take ∷ earlier) x a = let l = fired_short earlier x a in omega (arith, l)
fired_short (Fire f ∷ earlier) x a = elim a [
  | inl e ↦ (let n = ap length e in omega (arith, n))
  | inr i ↦ (let l = fired_short earlier x i in omega (arith, l))
]

fired_distinct : (run : List Move) → AreDistinct (fired run)
fired_distinct [] = tt
fired_distinct (Take ∷ earlier) = fired_distinct earlier
fired_distinct (Fire f ∷ earlier) = (
  λ i. let l = fired_short earlier (Fire f ∷ earlier) i in omega (arith, l),
  fired_distinct earlier,
)

fired_count : (run : List Move) → length (fired run) ≡ fires run
fired_count [] = refl
fired_count (Take ∷ earlier) = fired_count earlier
fired_count (Fire f ∷ earlier) = let n = fired_count earlier in omega (arith, n)

module _ (P : List Move → Type 0) where
  fired_each : (run : List Move) → OfEachFired P run → (x : List Move) → IsIn x (fired run) → P x
  fired_each [] h x a = absurd a
  fired_each (Take ∷ earlier) h x a = fired_each earlier h x a
  fired_each (Fire f ∷ earlier) h x a = elim a [
    | inl e ↦ subst P e h.0
    | inr i ↦ fired_each earlier h.1 x i
  ]

  has_fired : (run : List Move) (many : ℕ) → OfEachFired P run → fires run ≡ many → HasMany P many
  has_fired run many h e = record {
    runs = fired run;
    count = fired_count run ∙ e;
    distinct = fired_distinct run;
    each = fired_each run h;
  }

  few_fires : (budget : ℕ) → HasAtMost P budget → (run : List Move) → OfEachFired P run
      → fires run ≤ budget
  few_fires budget most [] h = omega arith
  few_fires budget most (Take ∷ earlier) h = few_fires budget most earlier h
  few_fires budget most (Fire f ∷ earlier) h =
      let l = few_fires budget most earlier h.1 in
      elim (cases_lt (fires earlier) budget) [
        | inl less ↦ omega (arith, less)
        | inr ge ↦ absurd (too_many P budget
            (has_fired (Fire f ∷ earlier) (budget + 1) h (omega (arith, l, ge))) most)
      ]

each_weaker : (P Q : List Move → Type 0) → ((x : List Move) → P x → Q x) → (run : List Move)
    → OfEachFired P run → OfEachFired Q run
each_weaker P Q weaker [] h = tt
each_weaker P Q weaker (Take ∷ earlier) h = each_weaker P Q weaker earlier h
each_weaker P Q weaker (Fire f ∷ earlier) h =
    (weaker (Fire f ∷ earlier) h.0, each_weaker P Q weaker earlier h.1)

-- RUNS

marks_start : (run start : List Move) → StartsWith run start
    → StartsWith (marks_of run) (marks_of start)
marks_start run start s =
    (marks_of s.0, ap marks_of s.1 ∙ map-append mark_of s.0 start)

-- what a run goes on from comes before it
start_before : (run : List Move) (m : Move) (start : List Move) → StartsWith run (m ∷ start)
    → RunBefore start run
start_before run m start s = longer (mark_of m) (marks_start run (m ∷ start) s)

start_not_after : (run start : List Move) → StartsWith run start → NotAfter start run
start_not_after run start s = elim (starts_cases run start s) [
  | inl e ↦ inl (sym e)
  | inr more ↦ inr (start_before run more.0 start more.1)
]

module _ (c : Setup) where
  -- a run without its last move follows the trace at its own place
  follows_there : (m : Move) (earlier : List Move) (p : Place) → IsBoundedRun c earlier p
      → FollowsBefore c (m ∷ earlier) → Follows c p
  follows_there m earlier p is before =
      subst (Follows c) (one_place c earlier before.0 p before.1 is) before.2

  -- and so does each run that it goes on from
  pub follows_before : (run : List Move) (p : Place) → IsBoundedRun c run p → Follows c p
      → FollowsBefore c run
  follows_before [] p is follows = tt
  follows_before (m ∷ earlier) p is follows =
      let a = run_prefix c (m ∷ []) earlier p is in
      (a.place, a.is_run, follows_grows c a.place p a.grows follows)

  takes_have : (run : List Move) (p : Place) → IsBoundedRun c run p → takes run ≤ length p.events
  takes_have [] p is = omega arith
  takes_have (Take ∷ earlier) p is =
      let l = takes_have earlier is.0 is.1 in
      let n = ap (λ (w : Place). length w.events) is.2.leads in
      omega (arith, l, n, length-append is.0.events (is.2.event ∷ []))
  takes_have (Fire f ∷ earlier) p is =
      let l = takes_have earlier is.0 is.1 in
      let n = ap (λ (w : Place). length w.events) is.2.leads in
      omega (arith, l, n, length-append is.0.events is.2.outs)

  following_few : (run : List Move) (p : Place) → IsBoundedRun c run p → Follows c p
      → takes run ≤ length c.trace.events
  following_few run p is follows =
      let l = takes_have run p is in
      omega (arith, l, (first_taken c.trace.events p.events follows).0)

  few_takes : (run : List Move) (p : Place) → IsBoundedRun c run p → FollowsBefore c run
      → takes run ≤ length c.trace.events
  few_takes [] p is before = omega arith
  few_takes (Take ∷ earlier) p is before =
      following_few (Take ∷ earlier) p is (taken_follows c is.0 p is.2)
  few_takes (Fire f ∷ earlier) p is before =
      following_few earlier is.0 is.1 (follows_there (Fire f) earlier is.0 is.1 before)

  module _ (run : List Move)
      (unfinished : (m : Move) (earlier : List Move) → StartsWith run (m ∷ earlier)
      → Explains c earlier → ⊥) where
    tried : (start : List Move) (p : Place) → StartsWith run start → IsBoundedRun c start p
        → FollowsBefore c start → OfEachFired (IsTrialUpTo c run) start
    tried [] p s is before = tt
    tried (Take ∷ earlier) p s is before =
        tried earlier is.0 (starts_less run Take earlier s) is.1
        (follows_before earlier is.0 is.1 (follows_there Take earlier is.0 is.1 before))
    tried (Fire f ∷ earlier) p s is before =
        let follows = follows_there (Fire f) earlier is.0 is.1 before in
        let inner : IsInner c earlier is.0 = record {
          is_run = is.1;
          follows = follows;
          unfinished = λ whole. unfinished (Fire f) earlier s
              (record { place = is.0; is_run = is.1; whole = whole });
        } in (
          (((is.0, inner, is.2.step.possible)), start_not_after run (Fire f ∷ earlier) s),
          tried earlier is.0 (starts_less run (Fire f) earlier s) is.1
              (follows_before earlier is.0 is.1 follows),
        )

-- VERDICTS

-- the run fires no more often than the budget allows, and takes no more events than the trace has
pub record HasFewMoves (c : Setup) (budget : ℕ) (run : List Move) : Type 0 where
  pub fires_few : fires run ≤ budget
  pub takes_few : takes run ≤ length c.trace.events

pub accepted_few : (c : Setup) (budget : ℕ) (run : List Move) → IsAccepted c budget run
    → HasFewMoves c budget run
accepted_few c budget run h =
    let e = h.first.has in
    let before = follows_before c run e.place e.is_run (explains_follows c run e) in
    let each = tried c run
    (λ m earlier s x. not_after_before run earlier (h.first.least earlier x)
    (start_before run m earlier s)) run e.place (starts_self run) e.is_run before in
    record {
      fires_few = few_fires (IsTrialUpTo c run) budget h.tried run each;
      takes_few = few_takes c run e.place e.is_run before;
    }

module _ (c : Setup) (budget : ℕ) (unexplained : IsUnexplained c budget) where
  pub unexplained_few : (run : List Move) (p : Place) → IsBoundedRun c run p → FollowsBefore c run
      → HasFewMoves c budget run
  unexplained_few run p is before =
      let each = tried c run (λ m earlier s x. unexplained.none earlier x) run p (starts_self run)
      is before in
      record {
        fires_few = few_fires (IsTrial c) budget unexplained.size run
            (each_weaker (IsTrialUpTo c run) (IsTrial c) (λ x t. t.0) run each);
        takes_few = few_takes c run p is before;
      }

  pub yielding_few : (run : List Move) (k : ℕ) → Yields c run k → HasFewMoves c budget run
  yielding_few run k (inl y) = unexplained_few run y.place y.is_run y.before
  yielding_few run k (inr y) = absurd (unexplained.none run y.1)

  pub inner_few : (run : List Move) (p : Place) → IsInner c run p → HasFewMoves c budget run
  inner_few run p i = unexplained_few run p i.is_run (follows_before c run p i.is_run i.follows)
