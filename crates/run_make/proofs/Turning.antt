-- What comes of a draw.
use Rattle.std.proofs.Common.{◌≡◌, refl, sym, ap, subst, ◌∙◌, ℕ, ◌+◌, ◌/◌, ◌%◌, ◌<◌, ◌≤◌}
use Rattle.std.proofs.Common.{◌⊎◌, inl, inr, arith, List, [], ◌∷◌, ◌++◌, length, reverse}
use Rattle.std.proofs.Common.{slice_get, get_or, Some, false, zero, suc, ◌==◌}
use Rattle.std.proofs.lemmas.List.{length-append, reverse-append}
use Rattle.std.proofs.lemmas.Option.{slice_get_read}
use Rattle.rand_core.specs.Stream.{Stream}
use Rattle.est_syntax.specs.declared.specification.Spec.{Spec}
use Rattle.est_syntax.specs.declared.ports.Port.{Port}
use Rattle.est_syntax.proofs.Members.{in_at}
use Rattle.est_meaning.specs.rule_declares.PortList.{ports_of}
use Rattle.est_meaning.specs.mean_blocks.declared.fault.BlockFault.{BlockFault}
use Rattle.est_meaning.specs.mean_blocks.GlobalSituation.{Situation}
use Rattle.est_meaning.specs.mean_blocks.TextByPlace.{text_of}
use Rattle.est_meaning.specs.declared.event.Event.{Event}
use Rattle.est_meaning.specs.declared.firing.Firing.{Firing}
use Rattle.est_meaning.specs.FiringSteps.{outcome}
use Rattle.est_meaning.specs.OutsideEvents.{after_event}
use Rattle.est_meaning.specs.TransitionSelection.{IsPossible}
use Rattle.est_meaning.specs.declared.answers.Fired.TheVariants as fired
use Rattle.est_meaning.specs.declared.answers.Offers.TheVariants.{Settled, Unsettled}
use Rattle.est_meaning.specs.PossibleFirings.{AreOptions, OffersAre}
use Rattle.est_meaning.specs.SituationStacks.{Stack, FiredAs}
use Rattle.est_meaning.specs.declared.run.Move.{Move}
use Rattle.est_meaning.specs.declared.run.Move.TheVariants.{Take, Fire}
use Rattle.est_meaning.specs.Run.{silent_after}
use Rattle.est_meaning.proofs.StackLaws.{fired_done, fired_fault, fired_limit}
use Rattle.run_make.specs.declared.making.Making.{Making}
use Rattle.run_make.specs.Recipe.{Standing, AsksToFire, Draws, PassesLimit, DrawsOutside}
use Rattle.run_make.specs.Recipe.{task_of, after_step, after_fault, after_outside}
use Rattle.run_make.specs.Recipe as recipe
use Rattle.run_make.specs.Words.{IsDrawn, stream_at}
use Rattle.run_make.specs.inside.Standings.{standing_of, HasLanded, HasHeld, HasHappened, HasGone}
use Rattle.run_make.specs.inside.Standings.{IsUntouched, HasOneMore}

-- STANDINGS

abbrev pub standing_with : Stream → List Move → Situation → List Event → ℕ → Standing
standing_with words run s events idle = record {
  words = words;
  run = run;
  situation = s;
  events = events;
  idle = idle;
}

-- one more move comes first where runs are read from their last one back
pub last_first : (run more : List Move) (m : Move) → more ≡ run ++ m ∷ []
    → reverse more ≡ m ∷ reverse run
last_first run more m e = ap reverse e ∙ reverse-append run (m ∷ [])

-- a firing that has been put down
landed_standing : (old mid new : Making) (s now next : Situation) (left : Stream) (f : Firing)
    (outs : List Event) → stream_at mid.rng ≡ left → mid.run ≡ old.run
    → mid.events ≡ old.events → mid.idle ≡ old.idle → HasLanded mid new f outs → now ≡ next
    → standing_of new now ≡ after_step (standing_of old s) left f next outs
landed_standing old mid new s now next left f outs words runs events idle landed same =
    let words' : stream_at new.rng ≡ left = ap stream_at landed.rng ∙ words in
    let run' : reverse new.run ≡ Fire f ∷ reverse old.run =
    last_first old.run new.run (Fire f) (landed.run ∙ ap (λ l. l ++ Fire f ∷ []) runs) in
    let events' : new.events ≡ old.events ++ outs = landed.events
    ∙ ap (λ l. l ++ outs) events in
    let idle' : new.idle ≡ silent_after old.idle outs = landed.idle
    ∙ ap (λ n. silent_after n outs) idle in
    λ i. standing_with (words' i) (run' i) (same i) (events' i) (idle' i)

-- FIRINGS

-- where a list is not empty
pub some_left : (n : ℕ) → false ≡ (n == 0) → 0 < n
some_left zero e = absurd cc
some_left (suc n) e = omega arith

-- the firing that a word chooses
pub chosen_firing : (firings : List Firing) (w n : ℕ) (f : Firing) → n ≡ length firings → 0 < n
    → f ≡ get_or firings (w / 4 % n) f → slice_get firings (w / 4 % length firings) ≡ Some f
chosen_firing firings w n f many some is =
    let within : w / 4 % n < n = omega arith in
    subst (λ m. slice_get firings (w / 4 % m) ≡ Some f) many
    (slice_get_read firings n (w / 4 % n) f many within is)

-- is possible
pub chosen_possible : (limit again : ℕ) (spec : Spec) (stack before : Stack)
    (firings : List Firing) (f : Firing) (i : ℕ) → again ≡ limit → before ≡ stack
    → OffersAre limit (text_of spec) stack.now Settled firings → slice_get firings i ≡ Some f
    → IsPossible again (text_of spec) before.now f
chosen_possible limit again spec stack before firings f i same_limit same_stack offers chosen =
    subst (λ n. IsPossible n (text_of spec) before.now f) (sym same_limit)
    (subst (λ (x : Stack). IsPossible limit (text_of spec) x.now f) (sym same_stack)
    (offers.1.sound f (in_at firings i f chosen)))

module _ (limit silent : ℕ) (spec : Spec) (old : Making) (stack : Stack) (w : ℕ) (left : Stream)
    (firings : List Firing) (f : Firing) (drawn : IsDrawn (stream_at old.rng) w left)
    (asks : AsksToFire (task_of limit silent spec) (standing_of old stack.now) w)
    (options : AreOptions limit (text_of spec) stack.now firings)
    (chosen : slice_get firings (w / 4 % length firings) ≡ Some f) (again : ℕ)
    (before after : Stack) (same_limit : again ≡ limit) (same_stack : before ≡ stack) where
  chooses : recipe.Chooses (task_of limit silent spec) (standing_of old stack.now) w f
  chooses = record { asks = asks; firings = firings; options = options; chosen = chosen }

  -- its block is done
  pub fired_made : (mid new : Making) (outs : List Event)
      → FiredAs (outcome again (text_of spec) before.now f) fired.Done outs before after
      → stream_at mid.rng ≡ left → mid.run ≡ old.run → mid.events ≡ old.events
      → mid.idle ≡ old.idle → HasLanded mid new f outs
      → Draws (task_of limit silent spec) (standing_of old stack.now) (standing_of new after.now)
  unfolding chooses
  fired_made mid new outs answer words run events idle landed =
      let t = task_of limit silent spec in
      let p = standing_of old stack.now in
      let a : FiredAs (outcome limit (text_of spec) stack.now f) fired.Done outs stack after =
      subst (λ (x : Stack). FiredAs (outcome limit (text_of spec) x.now f) fired.Done outs x after)
      same_stack (subst (λ n. FiredAs (outcome n (text_of spec) before.now f) fired.Done outs before
      after) same_limit answer) in
      let d = fired_done (outcome limit (text_of spec) stack.now f) outs stack after a in
      let now : after.now ≡ d.0 = ap (λ (x : Stack). x.now) d.2 in
      subst (Draws t p)
      (sym (landed_standing old mid new stack.now after.now d.0 left f outs words run events idle
      landed now))
      (recipe.fires w left f d.0 outs drawn chooses (record {
        possible = options.sound f (in_at firings (w / 4 % length firings) f chosen);
        done = d.1;
      }))

  -- its block faults
  pub fault_made : (new : Making) (outs : List Event) (fault : BlockFault)
      → FiredAs (outcome again (text_of spec) before.now f) (fired.Fault fault) outs before after
      → stream_at new.rng ≡ left → new.run ≡ old.run → new.events ≡ old.events
      → new.idle ≡ old.idle + 1
      → Draws (task_of limit silent spec) (standing_of old stack.now) (standing_of new after.now)
  unfolding chooses
  fault_made new outs fault answer words run events idle =
      let t = task_of limit silent spec in
      let p = standing_of old stack.now in
      let a : FiredAs (outcome limit (text_of spec) stack.now f) (fired.Fault fault) outs stack
      after =
      subst (λ (x : Stack). FiredAs (outcome limit (text_of spec) x.now f) (fired.Fault fault) outs
      x after) same_stack (subst (λ n. FiredAs (outcome n (text_of spec) before.now f)
      (fired.Fault fault) outs before after) same_limit answer) in
      let d = fired_fault (outcome limit (text_of spec) stack.now f) fault outs stack after a in
      let now : after.now ≡ stack.now = ap (λ (x : Stack). x.now) d.1 in
      let run' : reverse new.run ≡ reverse old.run = ap reverse run in
      let same : standing_of new after.now ≡ after_fault p left =
      λ i. standing_with (words i) (run' i) (now i) (events i) (idle i) in
      subst (Draws t p) (sym same) (recipe.faults w left f fault drawn chooses d.0)

  -- its block passes the limit
  pub limit_passed : (outs : List Event)
      → FiredAs (outcome again (text_of spec) before.now f) fired.Limit outs before after
      → PassesLimit (task_of limit silent spec) (standing_of old stack.now)
  unfolding chooses
  limit_passed outs answer =
      let a : FiredAs (outcome limit (text_of spec) stack.now f) fired.Limit outs stack after =
      subst (λ (x : Stack). FiredAs (outcome limit (text_of spec) x.now f) fired.Limit outs x after)
      same_stack (subst (λ n. FiredAs (outcome n (text_of spec) before.now f) fired.Limit outs
      before after) same_limit answer) in
      let d = fired_limit (outcome limit (text_of spec) stack.now f) outs stack after a in
      recipe.block w left f drawn chooses d.0

-- NOTHING FIRES

module _ (limit silent : ℕ) (spec : Spec) (old new : Making) (w : ℕ)
    (drawn : IsDrawn (stream_at old.rng) w (stream_at new.rng)) (run : new.run ≡ old.run)
    (events : new.events ≡ old.events) (idle : new.idle ≡ old.idle) where
  -- the word does not ask for it
  pub held_unasked : (s : Situation) → ((w % 4 < 3) × (old.idle < silent) → ⊥)
      → HasHeld (task_of limit silent spec) old s new s
  held_unasked s none = record {
    word = w;
    drawn = drawn;
    holds = recipe.unasked (λ a. none (a.word, a.few));
    untouched = record { run = run; events = events; idle = idle };
    situation = refl;
  }

  -- nothing can fire
  pub held_impossible : (stack after : Stack) (firings : List Firing)
      → OffersAre limit (text_of spec) stack.now Settled firings → firings ≡ [] → after ≡ stack
      → HasHeld (task_of limit silent spec) old stack.now new after.now
  held_impossible stack after firings offers none same = record {
    word = w;
    drawn = drawn;
    holds = recipe.impossible offers.0
        (subst (AreOptions limit (text_of spec) stack.now) none offers.1);
    untouched = record { run = run; events = events; idle = idle };
    situation = ap (λ (x : Stack). x.now) same;
  }

-- a guard passes the limit
pub guards_passed : (limit silent : ℕ) (spec : Spec) (old : Making) (s : Situation) (w : ℕ)
    (left : Stream) (firings : List Firing) → IsDrawn (stream_at old.rng) w left
    → (w % 4 < 3) × (old.idle < silent) → OffersAre limit (text_of spec) s Unsettled firings
    → PassesLimit (task_of limit silent spec) (standing_of old s)
guards_passed limit silent spec old s w left firings drawn asks offers =
    recipe.guards w left drawn (record { word = asks.0; few = asks.1 }) offers.0

-- PROGRESS

gone_by : (silent idle count : ℕ) (outs : List Event) → idle < silent
    → ((count < count + length outs) × (silent_after idle outs ≤ silent))
    ⊎ ((count + length outs ≡ count) × (silent_after idle outs ≡ idle + 1)
    × (silent_after idle outs ≤ silent))
gone_by silent idle count [] less = inr (omega arith, refl, omega arith)
gone_by silent idle count (e ∷ es) less = inl (omega arith, omega arith)

-- a firing that has been put down is progress
pub gone_landed : (silent : ℕ) (old mid new : Making) (f : Firing) (outs : List Event)
    → mid.events ≡ old.events → mid.idle ≡ old.idle → old.idle < silent
    → HasLanded mid new f outs → HasGone silent old new
gone_landed silent old mid new f outs events idle less landed =
    let many : length new.events ≡ length old.events + length outs =
    ap length (landed.events ∙ ap (λ l. l ++ outs) events) ∙ length-append old.events outs in
    let now : new.idle ≡ silent_after old.idle outs = landed.idle
    ∙ ap (λ n. silent_after n outs) idle in
    elim (gone_by silent old.idle (length old.events) outs less) [
      | inl a ↦ (let x = a.0 in let y = a.1 in inl (omega arith, omega arith))
      | inr a ↦ (let x = a.0 in let y = a.1 in let z = a.2 in
          inr (omega arith, omega arith, omega arith))
    ]

-- and so is one that faults
pub gone_faulted : (silent : ℕ) (old new : Making) → old.idle < silent → new.events ≡ old.events
    → new.idle ≡ old.idle + 1 → HasGone silent old new
gone_faulted silent old new less events idle = inr (ap length events, idle, omega arith)

-- and an event from outside after a word by which nothing fires
pub gone_happened : (silent : ℕ) (old mid new : Making) → IsUntouched old mid → HasOneMore mid new
    → HasGone silent old new
gone_happened silent old mid new untouched one =
    let many : length mid.events ≡ length old.events = ap length untouched.events in
    let more = one.0 in
    let none = one.1 in
    inl (omega arith, omega arith)

-- A WHOLE DRAW

-- an event from outside after a word by which nothing fires
pub held_happens : (limit silent : ℕ) (spec : Spec) (old mid new : Making) (s now next : Situation)
    (ports : List Port) → ports ≡ ports_of spec
    → HasHeld (task_of limit silent spec) old s mid now
    → HasHappened (task_of limit silent spec) ports mid now new next
    → Draws (task_of limit silent spec) (standing_of old s) (standing_of new next)
held_happens limit silent spec old mid new s now next ports same held happened =
    let t = task_of limit silent spec in
    let p = standing_of old s in
    let left = stream_at new.rng in
    let run : Take ∷ reverse mid.run ≡ Take ∷ reverse old.run =
    ap (λ (l : List Move). Take ∷ reverse l) held.untouched.run in
    let events : mid.events ++ happened.event ∷ [] ≡ old.events ++ happened.event ∷ [] =
    ap (λ l. l ++ happened.event ∷ []) held.untouched.events in
    let after : after_event (text_of spec) now happened.event
    ≡ after_event (text_of spec) s happened.event =
    ap (λ x. after_event (text_of spec) x happened.event) held.situation in
    let there : after_outside t (standing_of mid now) left happened.event
    ≡ after_outside t p left happened.event =
    λ i. standing_with left (run i) (after i) (events i) 0 in
    subst (Draws t p) (sym (happened.leads ∙ there))
    (recipe.happens held.word (stream_at mid.rng) left happened.event held.drawn held.holds
    (subst (λ (l : List Port). DrawsOutside l (stream_at mid.rng) happened.event left) same
    happened.draws))

-- the same, where the limit is that of the world after the word
pub held_then : (limit again silent : ℕ) (spec : Spec) (old mid new : Making)
    (s now next : Situation) (ports : List Port) → again ≡ limit → ports ≡ ports_of spec
    → HasHeld (task_of limit silent spec) old s mid now
    → HasHappened (task_of again silent spec) ports mid now new next
    → Draws (task_of limit silent spec) (standing_of old s) (standing_of new next)
held_then limit again silent spec old mid new s now next ports same at held happened =
    held_happens limit silent spec old mid new s now next ports at held
    (subst (λ n. HasHappened (task_of n silent spec) ports mid now new next) same happened)
