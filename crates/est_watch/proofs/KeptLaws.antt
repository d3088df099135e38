-- What a watcher keeps from one call to the next.
use Rattle.std.proofs.Common.{◌≡◌, ◌≢◌, ℕ, zero, suc, ◌+◌, ◌<◌, ◌≤◌, ◌^◌, Bool, true, false, List, [], ◌∷◌}
use Rattle.std.proofs.Common.{◌++◌, length, get_or, drop, refl, sym, ap, subst, ◌∙◌, arith}
use Rattle.std.proofs.Common.{Vec, Global, Result, Ok, Err, OnOk}
use Rattle.std.proofs.lemmas.List.{drop_more, length-append}
use Rattle.est_syntax.specs.declared.specification.Spec.{Spec}
use Rattle.est_meaning.specs.mean_blocks.Outcome.{Done}
use Rattle.est_meaning.specs.mean_blocks.TextByPlace.{text_of}
use Rattle.est_meaning.specs.declared.event.Event.{Event}
use Rattle.est_meaning.specs.declared.run.Limits.{Limits}
use Rattle.est_meaning.specs.AllowedEvents.{IsAllowed, most_events}
use Rattle.est_meaning.specs.FiringSteps.{start_of}
use Rattle.est_meaning.specs.RecordedTraces.{known_trace}
use Rattle.est_meaning.specs.SituationStacks.{Stack, Keeps}
use Rattle.est_meaning.specs.Run.{Setup}
use Rattle.est_meaning.specs.Task.{Suits, setup_of}
use Rattle.est_meaning.specs.Trials.{HasMany}
use Rattle.run_paths.specs.Paths.{view_of, first_view}
use Rattle.mean_watch.specs.declared.watched.Watched.{Watched}
use Rattle.mean_watch.specs.declared.watched.Watched.TheVariants.{Possible, Impossible}
use Rattle.mean_watch.specs.declared.watched.Watched.TheVariants.{OverFirings, OverAction}
use Rattle.mean_watch.specs.Watching.{so_far, IsWatchTrial, IsFinished}
use Rattle.mean_watch.proofs.Growing.{known_length}
use Rattle.est_watch.specs.declared.watcher.State.{State}
use Rattle.est_watch.specs.declared.watcher.State.TheVariants.{Open, Closed, Spent}
use Rattle.est_watch.specs.declared.watcher.Watcher.{Watcher}
use Rattle.est_watch.specs.declared.walk.Walk.{Walk}
use Rattle.est_watch.specs.declared.walk.Step.{Step}
use Rattle.est_watch.specs.declared.walk.Step.TheVariants as step
use Rattle.est_watch.specs.inside.Walk.{IsFound, IsWalk, IsReady, IsLeaving, IsStanding, StepIs}
use Rattle.est_watch.specs.inside.Walk.{AnswerIs, over_of}
use Rattle.est_watch.specs.Watchers.{given_to, tried_by, IsKept, IsWatching, state_after}
use Rattle.est_watch.proofs.CallLaws.{drop_past}
use Rattle.est_watch.proofs.GiveLaws.{found_explains, goes_on, stands_on, leaves}
use Rattle.est_watch.proofs.GiveLaws.{leaves_at_end}
use Rattle.est_watch.proofs.StartLaws.{start_found, start_suits, none_tried, suits_grow, size_grows}

-- WHERE IT BEGINS

pub kept_at_start : {W : Type 0} (spec : Spec) (statements limit : ℕ) (stack : Stack)
    (outs : List Event) (t : Watcher W) → limit ≡ statements → stack.below ≡ []
    → start_of statements (text_of spec) ≡ Done outs stack.now → given_to t ≡ []
    → view_of t.walk.path ≡ first_view 0 → t.walk.tried ≡ 0 → t.walk.passed ≡ false
    → over_of t.walk ≡ outs
    → IsKept (setup_of statements t.limits.silent (known_trace []) stack outs spec) spec limit stack
    t
kept_at_start spec statements limit stack outs t same below begun none path tried passed over =
    let c = setup_of statements t.limits.silent (known_trace []) stack outs spec in
    record {
      size = subst (λ n. HasMany (IsWatchTrial c (given_to t)) n) (sym tried)
          (none_tried (IsWatchTrial c (given_to t)));
      suits = λ o. subst (λ es. Suits (so_far c es) spec limit t.limits.silent (known_trace es))
          (sym none)
          (start_suits c stack refl below spec limit t.limits.silent refl (sym same) refl begun);
      stands = λ o. subst (λ es. IsFound (so_far c es) false stack (view_of t.walk.path)
          (over_of t.walk) t.walk.tried t.walk.passed) (sym none)
          (rw (path, over, tried, passed) (start_found c stack refl below));
    }

-- what the start sent is to come
pub begun_over : (w : Walk) (outs : Vec Event Global) → w.used ≡ 0 → w.outs ≡ outs
    → over_of w ≡ outs.items
begun_over w outs none same = ap (λ n. drop n w.outs.items) none
    ∙ ap (λ (v : Vec Event Global). v.items) same

-- HOW A CALL LEAVES IT

pub keeps_same : {W : Type 0} (speaks : W → Spec → Type 0) (limit : W → ℕ) (world : W)
    → Keeps speaks limit world world
keeps_same speaks limit world = record {
  forward = λ spec s. s;
  backward = λ spec s. s;
  limit_is = refl;
}

module _ {W : Type 0} (speaks : W → Spec → Type 0) (stack : W → Spec → Stack) (limit fired : W → ℕ)
    (setup : Spec → Setup) (old : Watcher W)
    (watching : IsWatching speaks stack limit fired setup old) (new : Watcher W)
    (given : List Event) (keeps : Keeps speaks limit old.world new.world)
    (limits : new.limits ≡ old.limits)
    (spent : fired new.world + tried_by old ≡ fired old.world + tried_by new)
    (within : tried_by new ≤ old.limits.budget) (given_is : given_to new ≡ given)
    (few : length given ≤ most_events)
    (size : (spec : Spec) → speaks old.world spec
    → HasMany (IsWatchTrial (setup spec) given) (tried_by new)) where
  same_budget : new.limits.budget ≡ old.limits.budget
  same_budget = ap (λ (l : Limits). l.budget) limits

  room_left : fired new.world + new.limits.budget < 2 ^ 64 + tried_by new
  room_left = (let r = watching.room in let b = same_budget in let s = spent in omega arith)

  within_new : tried_by new ≤ new.limits.budget
  within_new = (let b = same_budget in let w = within in omega arith)

  few_now : length (given_to new) ≤ most_events
  few_now = subst (λ es. length es ≤ most_events) (sym given_is) few

  size_now : (spec : Spec) → speaks new.world spec
      → HasMany (IsWatchTrial (setup spec) (given_to new)) (tried_by new)
  size_now spec s = subst (λ es. HasMany (IsWatchTrial (setup spec) es) (tried_by new))
      (sym given_is) (size spec (keeps.backward spec s))

  -- it is not open
  pub closed_watching : (state : State) → (state ≡ Open → ⊥)
      → IsWatching speaks stack limit fired setup (record new { state = state })
  closed_watching state never = record {
    room = room_left;
    within = within_new;
    few = few_now;
    each = λ spec s. record {
      size = size_now spec s;
      suits = λ o. absurd (never o);
      stands = λ o. absurd (never o);
    };
  }

  -- it is out of memory
  pub spent_watching : IsWatching speaks stack limit fired setup (record new { state = Spent })
  spent_watching = closed_watching Spent (λ e. (let never : ⊥ = cc in never))

  -- it is closed with an answer
  pub ended_watching : (answer : Watched)
      → IsWatching speaks stack limit fired setup (record new { state = Closed answer })
  ended_watching answer = closed_watching (Closed answer) (λ e. (let never : ⊥ = cc in never))

  -- it was answered
  module _ (suits : (spec : Spec) → speaks old.world spec
      → Suits (so_far (setup spec) given) spec (limit old.world) old.limits.silent
      (known_trace given)) where
    suits_now : (spec : Spec) → speaks new.world spec
        → Suits (so_far (setup spec) (given_to new)) spec (limit new.world) new.limits.silent
        (known_trace (given_to new))
    suits_now spec s =
        subst (λ es. Suits (so_far (setup spec) es) spec (limit new.world) new.limits.silent
        (known_trace es)) (sym given_is)
        (subst (λ n. Suits (so_far (setup spec) given) spec n new.limits.silent (known_trace given))
        (sym keeps.limit_is)
        (subst (λ (l : Limits). Suits (so_far (setup spec) given) spec (limit old.world) l.silent
        (known_trace given)) (sym limits) (suits spec (keeps.backward spec s))))

    pub answered_watching : (answer : Watched)
        → ((spec : Spec) → speaks old.world spec
        → AnswerIs (so_far (setup spec) given) false old.limits.budget (stack new.world spec)
        new.walk answer)
        → IsWatching speaks stack limit fired setup (record new { state = state_after answer })
    answered_watching Possible ok = record {
      room = room_left;
      within = within_new;
      few = few_now;
      each = λ spec s. record {
        size = size_now spec s;
        suits = λ o. suits_now spec s;
        stands = λ o. subst
            (λ es. IsStanding (so_far (setup spec) es) false (stack new.world spec) new.walk)
            (sym given_is) (ok spec (keeps.backward spec s));
      };
    }
    answered_watching Impossible ok = ended_watching Impossible
    answered_watching OverFirings ok = ended_watching OverFirings
    answered_watching OverAction ok = ended_watching OverAction

-- WHAT A CALL LEAVES AS IT IS

pub on_ok : {T E P : Type 0} (r : Result T E) → P → OnOk r P
on_ok (Ok v) p = p
on_ok (Err e) p = tt

pub same_items : {W : Type 0} (new old : Watcher W) → new.given ≡ old.given
    → given_to new ≡ given_to old
same_items new old same = ap (λ (v : Vec Event Global). v.items) same

pub few_more : {W : Type 0} (t : Watcher W) (e : Event) (es : List Event)
    → es ≡ given_to t ++ e ∷ [] → length (given_to t) < most_events → length es ≤ most_events
few_more t e es more few =
    let n : length es ≡ length (given_to t) + 1 = ap length more ∙ length-append (given_to t) (e ∷ [])
    in omega arith

-- WHERE IT STANDS

-- something is left of what was sent
pub over_next : (w : Walk) (o : Event) → w.used < length w.outs.items
    → o ≡ get_or w.outs.items w.used o → over_of w ≡ o ∷ drop (w.used + 1) w.outs.items
over_next w o lt is =
    drop_more w.outs.items w.used o lt ∙ ap (λ x. x ∷ drop (w.used + 1) w.outs.items) (sym is)

some_left : (n : ℕ) (es : List Event) → n < length es
    → (o : Event) × (rest : List Event) × (drop n es ≡ o ∷ rest)
some_left n [] lt = (let never : ⊥ = omega arith in absurd never)
some_left zero (e ∷ es) lt = (e, es, refl)
some_left (suc n) (e ∷ es) lt = some_left n es (omega arith)

-- as many events are matched as were given
pub all_matched : (c : Setup) (given : List Event) (exact : Bool) (stack : Stack) (w : Walk)
    → IsStanding (so_far c given) exact stack w → w.path.top.matched ≡ length given
all_matched c given exact stack w s = s.stands.matched ∙ known_length given

-- one event of those that were sent was given
abbrev pub one_used : Walk → Walk
one_used w = record w {
  used = w.used + 1;
  path = record w.path { top = record w.path.top { matched = w.path.top.matched + 1 } };
}

module _ {W : Type 0} (c : Setup) (spec : Spec) (limit : ℕ) (stack : Stack) (t : Watcher W)
    (kept : IsKept c spec limit stack t) (open_is : t.state ≡ Open) where
  -- ONE MORE IS GIVEN

  module _ (e : Event) (es : List Event) (more : es ≡ given_to t ++ e ∷ []) where
    pub size_more : HasMany (IsWatchTrial c es) (tried_by t)
    size_more = subst (λ xs. HasMany (IsWatchTrial c xs) (tried_by t)) (sym more)
        (size_grows c (given_to t) e (tried_by t) kept.size)

    pub suits_more : IsAllowed spec e → length (given_to t) < most_events
        → Suits (so_far c es) spec limit t.limits.silent (known_trace es)
    suits_more allowed few =
        subst (λ xs. Suits (so_far c xs) spec limit t.limits.silent (known_trace xs)) (sym more)
        (suits_grow c (given_to t) e spec limit t.limits.silent allowed few (kept.suits open_is))

    -- nothing more was sent
    pub ready_more : IsAllowed spec e → length (given_to t) < most_events
        → length t.walk.outs.items ≤ t.walk.used
        → IsReady (so_far c es) false spec limit t.limits.silent es stack t.walk
    ready_more allowed few le = record {
      suits = suits_more allowed few;
      on_way = subst (λ xs. IsWalk (so_far c xs) false stack t.walk) (sym more)
          (goes_on c (given_to t) stack (view_of t.walk.path) (over_of t.walk) t.walk.tried
          t.walk.passed (kept.stands open_is) e (drop_past t.walk.used t.walk.outs.items le));
    }

    module _ (lt : t.walk.used < length t.walk.outs.items) (o : Event)
        (is : o ≡ get_or t.walk.outs.items t.walk.used o) where
      -- this one was sent
      pub stands_more : o ≡ e → IsStanding (so_far c es) false stack (one_used t.walk)
      stands_more same = subst (λ xs. IsStanding (so_far c xs) false stack (one_used t.walk))
          (sym more)
          (stands_on c (given_to t) stack (view_of t.walk.path) (over_of t.walk) t.walk.tried
          t.walk.passed (kept.stands open_is) e (drop (t.walk.used + 1) t.walk.outs.items)
          (over_next t.walk o lt is
          ∙ ap (λ x. x ∷ drop (t.walk.used + 1) t.walk.outs.items) same))

      -- another one was sent
      pub leaving_more : o ≢ e → IsLeaving (so_far c es) false stack (view_of t.walk.path)
          t.walk.tried t.walk.passed
      leaving_more differs = subst (λ xs. IsLeaving (so_far c xs) false stack (view_of t.walk.path)
          t.walk.tried t.walk.passed) (sym more)
          (leaves c (given_to t) stack (view_of t.walk.path) (over_of t.walk) t.walk.tried
          t.walk.passed (kept.stands open_is) e o (drop (t.walk.used + 1) t.walk.outs.items)
          (over_next t.walk o lt is) differs)

  -- NO MORE ARE GIVEN

  -- nothing more was sent
  pub explained_there : (budget : ℕ) → length t.walk.outs.items ≤ t.walk.used
      → IsFinished c budget (given_to t) Possible
  explained_there budget le = (
    (view_of t.walk.path).moves,
    found_explains c (given_to t) false stack (view_of t.walk.path) (over_of t.walk) t.walk.tried
        t.walk.passed (kept.stands open_is) (drop_past t.walk.used t.walk.outs.items le),
  )

  -- more was sent
  pub leaving_end : t.walk.used < length t.walk.outs.items
      → IsLeaving (so_far c (given_to t)) true stack (view_of t.walk.path) t.walk.tried
      t.walk.passed
  leaving_end lt = (let l = some_left t.walk.used t.walk.outs.items lt in
      leaves_at_end c (given_to t) stack (view_of t.walk.path) (over_of t.walk) t.walk.tried
      t.walk.passed (kept.stands open_is) l.0 l.1 l.2)

-- GOING BACK

-- a step back that is not the end leads on the way
pub back_goes : (c : Setup) (exact : Bool) (stack : Stack) (last : Step) (w : Walk)
    → (last ≡ step.Done → ⊥) → (last ≡ step.Over → ⊥) → (last ≡ step.Found → ⊥)
    → StepIs c exact stack last w → IsWalk c exact stack w
back_goes c exact stack step.Going w done over found s = s
back_goes c exact stack step.Found w done over found s = absurd (found refl)
back_goes c exact stack step.Over w done over found s = absurd (over refl)
back_goes c exact stack step.Done w done over found s = absurd (done refl)
