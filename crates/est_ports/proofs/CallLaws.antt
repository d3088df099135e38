-- The steps of a walk that list moves, take what comes from outside, or go back, as the code asks
-- for them.
use Rattle.std.proofs.Common.{◌≡◌, ℕ, ◌+◌, ◌<◌, ◌≤◌, ◌⊎◌, List, [], ◌∷◌, ◌++◌, Some}
use Rattle.std.proofs.Common.{None, Option, length, map, take, reverse, refl, sym, ap, subst, ◌∙◌}
use Rattle.std.proofs.Common.{inl, inr}
use Rattle.std.proofs.Common.{Result, Ok, Err, OnOk, arith}
use Rattle.std.specs.Option.{option_or}
use Rattle.std.proofs.lemmas.List.{length-reverse, reverse-reverse}
use Rattle.est_syntax.specs.Least.{IsIn}
use Rattle.est_syntax.specs.declared.specification.Spec.{Spec}
use Rattle.est_meaning.proofs.OrderLaws.{firing_irreflexive}
use Rattle.est_meaning.proofs.Steps.{possible_settled}
use Rattle.est_meaning.specs.FiringOrder.{FiringBefore, IsBeforeAll, IsAscending}
use Rattle.est_meaning.specs.PossibleFirings.{AreOptions, OffersAre}
use Rattle.est_meaning.specs.Run.{Setup}
use Rattle.est_meaning.specs.SituationStacks.{Stack, pushed}
use Rattle.est_meaning.specs.TransitionSelection.{IsSettled, IsPossible}
use Rattle.est_meaning.specs.declared.answers.Offers.TheVariants.{Settled, Unsettled}
use Rattle.est_meaning.specs.declared.event.Event.{Event}
use Rattle.est_meaning.specs.declared.firing.Firing.{Firing}
use Rattle.est_meaning.specs.mean_blocks.GlobalSituation.{Situation}
use Rattle.est_meaning.specs.mean_blocks.TextByPlace.{text_of}
use Rattle.mean_ports.specs.declared.lists.PortLists.{PortLists}
use Rattle.mean_ports.specs.declared.moves.PortMove.{PortMove}
use Rattle.mean_ports.specs.declared.moves.PortMove.TheVariants.{Fire}
use Rattle.mean_ports.specs.HowMany.{HasMany}
use Rattle.mean_ports.specs.PortRuns.{Left, PortPlace}
use Rattle.mean_ports.specs.PortTrials.{IsPortTrial, IsFiringTrial, IsDefinedMove}
use Rattle.run_paths.specs.declared.path.Path.{Path}
use Rattle.run_paths.specs.declared.path.Stage.{Stage}
use Rattle.run_paths.specs.declared.path.Stage.TheVariants.{Fresh, Taken, Listed}
use Rattle.run_paths.specs.declared.path.Best.{Best}
use Rattle.run_paths.specs.Paths.{View, view_of, entered, with_tries, IsNext, IsUndone, HasKept}
use Rattle.est_ports.specs.declared.left.Used.{Used}
use Rattle.est_ports.specs.declared.left.Rest.{Rest}
use Rattle.est_ports.specs.declared.walk.Passed.{Passed}
use Rattle.est_ports.specs.declared.walk.Walk.{Walk}
use Rattle.est_ports.specs.inside.Known.{IsPassNoted}
use Rattle.est_ports.specs.inside.Leftover.{HasUsedUp, Stands, used_of, lower, KeepsBest}
use Rattle.est_ports.specs.inside.Standing.{AreApart, IsStage}
use Rattle.est_ports.specs.inside.Walk.{IsTakeIn, AreTakes, IsOnWay, IsWalk, IsReady, IsTrying}
use Rattle.est_ports.specs.inside.Walk.{AddsTakes, HasListed, IsDone, weight_of, load}
use Rattle.est_ports.proofs.KnownLaws.{firings_many}
use Rattle.est_ports.proofs.PathLaws.{mine_spent, lower_depth}
use Rattle.est_ports.proofs.StepLaws.{stands, take_defined, take_or_fire, settled_on, unsettled_on}
use Rattle.est_ports.proofs.StepLaws.{over_budget, back_on, all_done}

pub made_many : (p : Path PortMove PortMove) → length p.moves.items ≡ length (view_of p).moves
made_many p = sym (length-reverse p.moves.items)

pub pushed_same : (s t : Situation) (a b : Stack) → pushed s a ≡ pushed t b → a ≡ b
pushed_same s t a b e =
    let f : a.now ∷ a.below ≡ b.now ∷ b.below = ap (λ (w : Stack). w.below) e in
    let n : a.now ≡ b.now = cc in
    let m : a.below ≡ b.below = cc in
    ap (λ x. let w : Stack = record { now = x; below = a.below } in w) n
    ∙ ap (λ x. let w : Stack = record { now = b.now; below = x } in w) m

-- the walk is where this says
pub on_way_by : (c : Setup) (lists : PortLists) (stack stack' : Stack) (new : Walk)
    (v : View PortMove PortMove) (rest : Rest) (tried fired : ℕ) (best : Best PortMove)
    (bu : Best Used) (passed : Option Passed) → stack' ≡ stack → view_of new.path ≡ v
    → new.rest ≡ rest → new.tried ≡ tried → new.fired ≡ fired → new.best ≡ best
    → new.best_used ≡ bu → new.passed ≡ passed
    → IsOnWay c lists stack v rest tried fired best bu passed → IsWalk c lists stack' new
on_way_by c lists stack stack' new v rest tried fired best bu passed a b d e f g h i on =
    subst (λ x. IsOnWay c lists x (view_of new.path) new.rest new.tried new.fired new.best
    new.best_used new.passed) (sym a)
    (subst (λ x. IsOnWay c lists stack x new.rest new.tried new.fired new.best new.best_used
    new.passed) (sym b)
    (subst (λ x. IsOnWay c lists stack v x new.tried new.fired new.best new.best_used new.passed)
    (sym d)
    (subst (λ x. IsOnWay c lists stack v rest x new.fired new.best new.best_used new.passed) (sym e)
    (subst (λ x. IsOnWay c lists stack v rest tried x new.best new.best_used new.passed) (sym f)
    (subst (λ x. IsOnWay c lists stack v rest tried fired x new.best_used new.passed) (sym g)
    (subst (λ x. IsOnWay c lists stack v rest tried fired best x new.passed) (sym h)
    (subst (λ x. IsOnWay c lists stack v rest tried fired best bu x) (sym i) on)))))))

-- LISTING

-- the firings that are listed
before_each : (f g : Firing) (fs : List Firing) → IsBeforeAll f fs → IsIn g fs → FiringBefore f g
before_each f g [] b a = absurd a
before_each f g (x ∷ fs) b a = elim a [
  | inl e ↦ subst (λ w. FiringBefore f w) e b.0
  | inr t ↦ before_each f g fs b.1 t
]

in_before : (m : PortMove) (xs ys : List PortMove) → IsIn m xs → IsIn m (xs ++ ys)
in_before m [] ys i = absurd i
in_before m (x ∷ xs) ys i = elim i [ inl e ↦ inl e | inr j ↦ inr (in_before m xs ys j) ]

in_behind : (m : PortMove) (xs ys : List PortMove) → IsIn m ys → IsIn m (xs ++ ys)
in_behind m [] ys i = i
in_behind m (x ∷ xs) ys i = inr (in_behind m xs ys i)

in_either : (m : PortMove) (xs ys : List PortMove) → IsIn m (xs ++ ys) → IsIn m xs ⊎ IsIn m ys
in_either m [] ys i = inr i
in_either m (x ∷ xs) ys i = elim i [
  | inl e ↦ inl (inl e)
  | inr j ↦ elim (in_either m xs ys j) [ inl k ↦ inl (inr k) | inr k ↦ inr k ]
]

fire_in : (f : Firing) (fs : List Firing) → IsIn f fs → IsIn (Fire f) (map Fire fs)
fire_in f [] a = absurd a
fire_in f (g ∷ fs) a = elim a [ inl e ↦ inl (ap Fire e) | inr b ↦ inr (fire_in f fs b) ]

-- a move of these is the firing of one of them
in_fires : (m : PortMove) (fs : List Firing) → IsIn m (map Fire fs)
    → (f : Firing) × (Fire f ≡ m) × IsIn f fs
in_fires m [] a = absurd a
in_fires m (g ∷ fs) a = elim a [
  | inl e ↦ (g, e, inl refl)
  | inr b ↦ (let o = in_fires m fs b in (o.0, o.1, inr o.2))
]

same_fire : (f g : Firing) → Fire f ≡ Fire g → f ≡ g
same_fire f g e = cc

fires_apart : (fs : List Firing) → IsAscending fs → AreApart (map Fire fs)
fires_apart [] a = tt
fires_apart (f ∷ fs) a = (
  λ i.
      (let o = in_fires (Fire f) fs i in
      let e : o.0 ≡ f = same_fire o.0 f o.1 in
      firing_irreflexive f (before_each f f fs a.0 (subst (λ w. IsIn w fs) e o.2))),
  fires_apart fs a.1,
)

-- of moves that stand once the first ones are firings and the others are none
fires_and : (fs : List Firing) (moves : List PortMove) → IsAscending fs → AreApart moves
    → ((f : Firing) → IsIn (Fire f) moves → ⊥) → AreApart (map Fire fs ++ moves)
fires_and [] moves a b never = b
fires_and (f ∷ fs) moves a b never = (
  λ i. elim (in_either (Fire f) (map Fire fs) moves i) [
    | inl j ↦ (fires_apart (f ∷ fs) a).0 j
    | inr j ↦ never f j
  ],
  fires_and fs moves a.1 b never,
)

module _ (c : Setup) (spec : Spec) (limit silent : ℕ) (lists : PortLists) (stack stack' : Stack)
    (w mid new : Walk) (r : IsReady c spec limit silent lists stack w)
    (fresh : w.path.stage ≡ Fresh) (same : stack' ≡ stack) (rest_is : mid.rest ≡ w.rest)
    (h : HasListed lists mid new) where
  -- where it stands
  abbrev there : PortPlace
  there = stands c lists stack (view_of w.path) w.rest w.tried w.fired w.best w.best_used w.passed
      r.on_way

  settled_there : IsSettled limit (text_of spec) stack.now
      → IsSettled c.limit (text_of c.spec) stack.now
  settled_there s = subst (λ l. IsSettled l (text_of c.spec) stack.now) (sym r.suits.limit_is)
      (subst (λ x. IsSettled limit (text_of x) stack.now) (sym r.suits.spec_is) s)

  settled_here : IsSettled c.limit (text_of c.spec) stack.now
      → IsSettled limit (text_of spec) stack.now
  settled_here s = subst (λ l. IsSettled l (text_of spec) stack.now) r.suits.limit_is
      (subst (λ x. IsSettled c.limit (text_of x) stack.now) r.suits.spec_is s)

  options_there : AreOptions limit (text_of spec) stack.now mid.offers.items
      → AreOptions c.limit (text_of c.spec) stack.now mid.offers.items
  options_there o =
      subst (λ l. AreOptions l (text_of c.spec) stack.now mid.offers.items) (sym r.suits.limit_is)
      (subst (λ x. AreOptions limit (text_of x) stack.now mid.offers.items) (sym r.suits.spec_is) o)

  takes : AreTakes r.on_way.at.node.left h.moves
  takes = h.takes r.on_way.at.node.left r.on_way.at.node.events
      (subst (λ x. Stands lists x r.on_way.at.node.left r.on_way.at.node.events) (sym rest_is)
      r.on_way.at.stands)

  take_there : (m : PortMove) → IsIn m h.moves → IsDefinedMove c there m
  take_there m i = take_defined c lists stack (view_of w.path) w.rest w.tried w.fired w.best
      w.best_used w.passed r.on_way m (takes.each m i)

  no_fire : (f : Firing) → IsIn (Fire f) h.moves → ⊥
  no_fire f i = takes.each (Fire f) i

  -- what is defined there comes from outside or is a firing that is possible
  either_there : (m : PortMove) → IsDefinedMove c there m → IsTakeIn r.on_way.at.node.left m
      ⊎ ((f : Firing) × (Fire f ≡ m) × IsPossible c.limit (text_of c.spec) stack.now f)
  either_there m d = take_or_fire c lists stack (view_of w.path) w.rest w.tried w.fired w.best
      w.best_used w.passed r.on_way m d

  listed_by : (moves : List PortMove) (passed' : Option Passed) → new.passed ≡ passed'
      → mid.path ≡ w.path → mid.tried ≡ w.tried → mid.fired ≡ w.fired → mid.best ≡ w.best
      → mid.best_used ≡ w.best_used → map Fire mid.offers.items ++ h.moves ≡ moves
      → IsOnWay c lists stack (with_tries (view_of w.path) Listed moves)
      w.rest w.tried w.fired w.best w.best_used passed' → IsWalk c lists stack' new
  listed_by moves passed' passed path tried fired best bu are on =
      let v : view_of new.path ≡ with_tries (view_of w.path) Listed moves =
      h.path ∙ ap (λ (p : Path PortMove PortMove).
      with_tries (view_of p) Listed (map Fire mid.offers.items ++ h.moves)) path
      ∙ ap (λ ms. with_tries (view_of w.path) Listed ms) are in
      let a : new.rest ≡ w.rest = ap (λ (x : Walk). x.rest) h.others ∙ rest_is in
      let b : new.tried ≡ w.tried = ap (λ (x : Walk). x.tried) h.others ∙ tried in
      let d : new.fired ≡ w.fired = ap (λ (x : Walk). x.fired) h.others ∙ fired in
      let e : new.best ≡ w.best = ap (λ (x : Walk). x.best) h.others ∙ best in
      let f : new.best_used ≡ w.best_used = ap (λ (x : Walk). x.best_used) h.others ∙ bu in
      on_way_by c lists stack stack' new (with_tries (view_of w.path) Listed moves) w.rest w.tried
      w.fired w.best w.best_used passed' same v a b d e f passed on

  each_there : AreOptions c.limit (text_of c.spec) stack.now mid.offers.items → (m : PortMove)
      → IsIn m (map Fire mid.offers.items ++ h.moves) → IsDefinedMove c there m
  each_there o m i = elim (in_either m (map Fire mid.offers.items) h.moves i) [
    | inl j ↦
        (let f = in_fires m mid.offers.items j in
        subst (λ x. IsDefinedMove c there x) f.1 (o.sound f.0 f.2))
    | inr j ↦ take_there m j
  ]

  all_there : AreOptions c.limit (text_of c.spec) stack.now mid.offers.items → (m : PortMove)
      → IsDefinedMove c there m → IsIn m (map Fire mid.offers.items ++ h.moves)
  all_there o m d = elim (either_there m d) [
    | inl t ↦ in_behind m (map Fire mid.offers.items) h.moves (takes.all m t)
    | inr f ↦ in_before m (map Fire mid.offers.items) h.moves
        (subst (λ x. IsIn x (map Fire mid.offers.items)) f.1
        (fire_in f.0 mid.offers.items (o.complete f.0 f.2)))
  ]

  pub settled_call : mid.path ≡ w.path → mid.tried ≡ w.tried → mid.fired ≡ w.fired
      → mid.best ≡ w.best → mid.best_used ≡ w.best_used → mid.passed ≡ w.passed
      → OffersAre limit (text_of spec) stack.now Settled mid.offers.items
      → IsWalk c lists stack' new
  settled_call path tried fired best bu passed o =
      let options = options_there o.1 in
      let moves = map Fire mid.offers.items ++ h.moves in
      listed_by moves w.passed (ap (λ (x : Walk). x.passed) h.others ∙ passed) path tried fired best
      bu refl (settled_on c lists stack (view_of w.path) w.rest w.tried w.fired w.best w.best_used
      w.passed r.on_way moves
      (fires_and mid.offers.items h.moves options.ascending takes.apart no_fire)
      (each_there options) (all_there options) fresh w.rest refl (settled_there o.0))

  -- that guards pass their limit is noted where nothing was
  abbrev NoteOf : Passed
  NoteOf = record {
    run = w.path.moves.items;
    used = w.rest.used.items;
    events = w.path.top.matched;
    firing = None;
  }

  note_is : (IsSettled c.limit (text_of c.spec) stack.now → ⊥) → IsPassNoted c lists NoteOf
  note_is unsettled = record {
    place = there;
    is_run = r.on_way.at.node.is_run;
    uses = r.on_way.at.node.uses;
    count = r.on_way.at.node.count;
    passes = unsettled;
  }

  pub unsettled_call : mid.path ≡ w.path → mid.tried ≡ w.tried → mid.fired ≡ w.fired
      → mid.best ≡ w.best → mid.best_used ≡ w.best_used
      → mid.passed ≡ option_or w.passed (Some NoteOf)
      → OffersAre limit (text_of spec) stack.now Unsettled mid.offers.items
      → IsWalk c lists stack' new
  unsettled_call path tried fired best bu passed o =
      let never : IsSettled c.limit (text_of c.spec) stack.now → ⊥ = λ s. o.0 (settled_here s) in
      let nil : map Fire mid.offers.items ++ h.moves ≡ h.moves =
      ap (λ fs. map Fire fs ++ h.moves) o.1 in
      listed_by h.moves (option_or w.passed (Some NoteOf))
      (ap (λ (x : Walk). x.passed) h.others ∙ passed) path tried fired best bu nil
      (unsettled_on c lists stack (view_of w.path) w.rest w.tried w.fired w.best w.best_used
      w.passed r.on_way h.moves takes.apart take_there
      (λ m d. elim (either_there m d) [
        | inl t ↦ takes.all m t
        | inr f ↦ absurd (never (possible_settled c.limit (text_of c.spec) stack.now f.0 f.2))
      ]) fresh w.rest NoteOf refl (note_is never))

-- TRYING

-- the next move is about to be tried
pub trying_call : (c : Setup) (spec : Spec) (limit silent : ℕ) (lists : PortLists) (stack : Stack)
    (w : Walk) (m : PortMove) (p : Path PortMove PortMove)
    → IsReady c spec limit silent lists stack w → IsNext (view_of w.path) m (view_of p)
    → IsTrying c spec limit silent lists stack (record w { path = p; tried = w.tried + 1 }) m
trying_call c spec limit silent lists stack w m p r next = record {
  suits = r.suits;
  before = view_of w.path;
  tried = w.tried;
  next = next;
  counted = refl;
  on_way = r.on_way;
}

-- the budget is used up
pub over_call : (c : Setup) (spec : Spec) (limit silent : ℕ) (lists : PortLists) (stack : Stack)
    (w : Walk) (m : PortMove) (p : Path PortMove PortMove)
    → IsReady c spec limit silent lists stack w → IsNext (view_of w.path) m (view_of p)
    → HasMany (IsPortTrial c lists) (w.tried + 1) × HasMany (IsFiringTrial c lists) w.fired
over_call c spec limit silent lists stack w m p r next = (
  over_budget c lists stack (view_of w.path) w.rest w.tried w.fired w.best w.best_used w.passed
      r.on_way m (view_of p) next,
  firings_many c lists r.on_way.knows.trials.trials w.fired r.on_way.knows.trials.firings,
)

-- BACK

module _ (c : Setup) (spec : Spec) (limit silent : ℕ) (lists : PortLists) (stack : Stack)
    (w : Walk) (r : IsReady c spec limit silent lists stack w) (listed : w.path.stage ≡ Listed)
    (spent : (w.path.top.left ≡ 0) ⊎ (w.path.tries.items ≡ [])) where
  none_back : take w.path.top.left (view_of w.path).tries ≡ []
  none_back = mine_spent c lists stack (view_of w.path) w.rest r.on_way.at (elim spent [
    | inl e ↦ inl e
    | inr e ↦ inr (ap reverse e)
  ])

  pub depth_call : (made : PortMove) (p : Path PortMove PortMove)
      → IsUndone (view_of w.path) made (view_of p) → 0 < length stack.below
  depth_call made p undone = lower_depth c lists stack (view_of w.path) w.rest r.on_way.at made
      (view_of p) undone

  pub best_within : w.best_used.common ≤ length (used_of w.rest)
  best_within = r.on_way.is_best.within

  pub back_call : (new : Walk) (p : Path PortMove PortMove) (stack' : Stack) (made : PortMove)
      (height : ℕ) → IsUndone (view_of w.path) made (view_of p)
      → view_of new.path ≡ view_of p → stack ≡ pushed stack.now stack'
      → height ≡ length p.moves.items
      → HasKept w.best new.best height made
      → KeepsBest w.best_used (used_of w.rest) new.best_used (used_of new.rest)
      → used_of new.rest ≡ lower p.top.matched (used_of w.rest)
      → ((left before : Left) (events front : List Event) → Stands lists w.rest left events
      → HasUsedUp lists (lower p.top.matched (used_of w.rest)) before front
      → Stands lists new.rest before front)
      → new.tried ≡ w.tried → new.fired ≡ w.fired → new.passed ≡ w.passed
      → IsWalk c lists stack' new
  back_call new p stack' made height undone path back height_is kept keeps used stand tried fired
      passed =
      let node = r.on_way.at.node in
      on_way_by c lists stack' stack' new (view_of p) new.rest w.tried w.fired new.best
      new.best_used w.passed refl path refl tried fired refl
      refl passed
      (back_on c lists stack (view_of w.path) w.rest w.tried w.fired w.best w.best_used w.passed
      r.on_way listed none_back made (view_of p) undone stack' back new.rest new.best
      new.best_used height (height_is ∙ made_many p) kept keeps used
      (λ below events up. stand node.left below node.events events r.on_way.at.stands up))

  pub done_call : (p : Path PortMove PortMove)
      → (w.path.lower.items ≡ []) ⊎ (w.path.moves.items ≡ [])
      → IsDone c lists (record w { path = p })
  done_call p end =
      let d = all_done c lists stack (view_of w.path) w.rest w.tried w.fired w.best w.best_used
      w.passed r.on_way listed none_back (elim end [
        | inl e ↦ inl (ap reverse e)
        | inr e ↦ inr (ap reverse e)
      ]) in
      record { knows = d.0; is_best = d.1 }

-- WORK

weight_some : (stage : Stage) → 1 ≤ weight_of stage
weight_some Fresh = omega arith
weight_some Taken = omega arith
weight_some Listed = omega arith

pub load_entered : (v : View PortMove PortMove) (made : PortMove) (matched silent : ℕ)
    (w : View PortMove PortMove) → w ≡ entered v made matched silent → load w < load v + 3
load_entered v made matched silent w e =
    let some = weight_some v.stage in
    let same : load w ≡ load (entered v made matched silent) = ap (λ x. load x) e in
    omega arith

pub load_listed : (v w : View PortMove PortMove) (tries : List PortMove) → v.stage ≡ Fresh
    → w ≡ with_tries v Listed tries → load w < load v
load_listed v w tries fresh e =
    let n = ap weight_of fresh in
    let same : load w ≡ load (with_tries v Listed tries) = ap (λ x. load x) e in omega arith

pub load_back : (made : PortMove) (v w x : View PortMove PortMove) → IsUndone v made w → x ≡ w
    → load x < load v
load_back made v w x undone e =
    let k : weight_of w.stage ≡ weight_of v.stage = ap weight_of undone.stage in
    let n : length v.lower ≡ length w.lower + 1 = ap length undone.lower ∙ (omega arith) in
    let same : load x ≡ load w = ap (λ y. load y) e in
    omega arith

pub load_next : (v w : View PortMove PortMove) (m : PortMove) → IsNext v m w → load w ≡ load v
load_next v w m next = ap (λ x. load x) next.next_is

-- THE PATH IS AS IT WAS

nil_reversed : {X : Type 0} (xs : List X) → reverse xs ≡ [] → xs ≡ []
nil_reversed xs e = sym (reverse-reverse xs) ∙ ap reverse e

pub spent_kept : (p q : Path PortMove PortMove) → view_of q ≡ view_of p
    → (p.top.left ≡ 0) ⊎ (p.tries.items ≡ []) → (q.top.left ≡ 0) ⊎ (q.tries.items ≡ [])
spent_kept p q same spent = elim spent [
  | inl e ↦ inl (ap (λ (v : View PortMove PortMove). v.top.left) same ∙ e)
  | inr e ↦ inr (nil_reversed q.tries.items
      (ap (λ (v : View PortMove PortMove). v.tries) same ∙ ap reverse e))
]

pub ready_kept : (c : Setup) (spec : Spec) (limit silent : ℕ) (lists : PortLists) (stack : Stack)
    (w : Walk) (q : Path PortMove PortMove) → view_of q ≡ view_of w.path
    → IsReady c spec limit silent lists stack w
    → IsReady c spec limit silent lists stack (record w { path = q })
ready_kept c spec limit silent lists stack w q same r = record {
  suits = r.suits;
  on_way = subst (λ v. IsOnWay c lists stack v w.rest w.tried w.fired w.best w.best_used w.passed)
      (sym same) r.on_way;
}

-- RESULTS

pub on_ok : {T E : Type 0} {P Q : Type 0} (r : Result T E) → (P → Q) → OnOk r P → OnOk r Q
on_ok (Ok v) f p = f p
on_ok (Err e) f p = p

-- nothing lies between
pub never_taken : (c : Setup) (spec : Spec) (limit silent : ℕ) (lists : PortLists) (stack : Stack)
    (w : Walk) → IsReady c spec limit silent lists stack w → w.path.stage ≡ Taken → ⊥
never_taken c spec limit silent lists stack w r taken = subst IsStage taken r.on_way.at.staged

-- the firings and what comes next from outside are listed
pub listed_all : (lists : PortLists) (old new : Walk) (fires all : List PortMove)
    → fires ≡ map Fire old.offers.items → AddsTakes lists old.rest fires all
    → view_of new.path ≡ with_tries (view_of old.path) Listed all
    → new ≡ record old { path = new.path; tries = new.tries } → HasListed lists old new
listed_all lists old new fires all are adds path others = record {
  moves = adds.moves;
  takes = adds.takes;
  path = path ∙ ap (λ ms. with_tries (view_of old.path) Listed ms)
      (adds.added ∙ ap (λ fs. fs ++ adds.moves) are);
  others = others;
}
