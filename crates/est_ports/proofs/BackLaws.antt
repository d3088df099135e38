-- Going back.
use Rattle.std.proofs.Common.{◌≡◌, ◌≤◌, ◌<◌, ◌+◌, ◌-◌, ℕ, zero, suc, List, [], ◌∷◌, ◌++◌, length}
use Rattle.std.proofs.Common.{drop, take, reverse, Some, refl, sym, ap, subst, ◌∙◌, arith}
use Rattle.std.proofs.Common.{append_assoc, ◌⊎◌, inl, inr}
use Rattle.std.proofs.lemmas.List.{length-append, take-append-drop}
use Rattle.std.proofs.lemmas.List.{reverse-append, length-reverse, length-take-le}
use Rattle.std.proofs.Math.Seq.{take-length}
use Rattle.std.specs.Prelude.{slice_get, slice_set}
use Rattle.est_meaning.specs.declared.event.Event.{Event}
use Rattle.run_paths.specs.declared.path.Best.{Best}
use Rattle.run_paths.specs.Paths.{HasKept}
use Rattle.mean_ports.specs.declared.lists.PortLists.{PortLists}
use Rattle.mean_ports.specs.PortRuns.{Left}
use Rattle.est_ports.specs.declared.left.Used.{Used}
use Rattle.est_ports.specs.declared.left.Rest.{Rest}
use Rattle.est_ports.specs.inside.Cursors.{ends}
use Rattle.est_ports.specs.inside.Leftover.{lists_of, Stand, UsesAt, UsesTime, LeadsTo, HasUsedUp}
use Rattle.est_ports.specs.inside.Leftover.{Uses, used_of, stand_of, Stands, lower, kept, KeepsBest}
use Rattle.est_ports.proofs.CursorLaws.{get_set, set_back}
use Rattle.est_ports.proofs.LeftLaws.{left_of, one_stand}
use Rattle.est_ports.proofs.StandLaws.{stand_is}

-- LOWER LISTS

-- what is left of a list behind others
pub drop_front : {X : Type 0} (front xs : List X) → drop (length front) (front ++ xs) ≡ xs
drop_front [] xs = refl
drop_front (x ∷ front) xs = drop_front front xs

-- so many of the first
pub lower_behind : (front used : List Used) (height : ℕ) → height ≡ length used
    → lower height (front ++ used) ≡ used
lower_behind front used height is =
    let size : length (front ++ used) ≡ length front + length used = length-append front used in
    let many : length (front ++ used) - height ≡ length front = omega arith in
    ap (λ w. drop w (front ++ used)) many ∙ drop_front front used

-- fewer of the first are fewer of more
pub lower_more : (front used : List Used) (height : ℕ) → height ≤ length used
    → lower height (front ++ used) ≡ lower height used
lower_more [] used height le = refl
lower_more (u ∷ front) used height le =
    let size : length (front ++ used) ≡ length front + length used = length-append front used in
    let many : length (u ∷ (front ++ used)) - height ≡ suc (length (front ++ used) - height) =
    omega arith in
    ap (λ w. drop w (u ∷ (front ++ used))) many ∙ lower_more front used height le

-- all of them
pub lower_all : (used : List Used) (height : ℕ) → length used ≤ height → lower height used ≡ used
lower_all used height le =
    (let none : length used - height ≡ 0 = omega arith in ap (λ w. drop w used) none)

-- UNDOING

-- somewhere it stands
abbrev pub StandsSomewhere : PortLists → Rest → Type 0
StandsSomewhere lists rest =
    (events : List Event) × LeadsTo lists (used_of rest) (stand_of rest events)

module _ (lists : PortLists) where
  -- the last event of a port is undone
  pub undone_at : (old new : Rest) (port : ℕ) → new.phase ≡ old.phase
      → ((at : ℕ) → slice_get old.cursors.items port ≡ Some at
      → new.cursors.items ≡ slice_set old.cursors.items port (at - 1))
      → (s : Stand) (events : List Event) → UsesAt lists s port (stand_of old events)
      → stand_of new s.events ≡ s
  undone_at old new port phase cursors s events u =
      let at : old.cursors.items ≡ slice_set s.cursors port (u.cursor + 1) =
      ap (λ (w : Stand). w.cursors) u.leads in
      let now : slice_get old.cursors.items port ≡ Some (u.cursor + 1) =
      ap (λ w. slice_get w port) at
      ∙ get_set s.cursors port u.cursor (u.cursor + 1) u.cursor_is in
      let less : u.cursor + 1 - 1 ≡ u.cursor = omega arith in
      let back : new.cursors.items ≡ s.cursors = cursors (u.cursor + 1) now
      ∙ ap (λ w. slice_set old.cursors.items port w) less
      ∙ ap (λ w. slice_set w port u.cursor) at
      ∙ set_back s.cursors port u.cursor (u.cursor + 1) u.cursor_is in
      stand_is s new.phase new.cursors.items (phase ∙ ap (λ (w : Stand). w.phase) u.leads) back

  -- a time is undone
  pub undone_time : (old new : Rest) → new.phase ≡ old.phase - 1
      → new.cursors.items ≡ ends (lists_of lists new.phase)
      → (s : Stand) (events : List Event) → UsesTime lists s (stand_of old events)
      → stand_of new s.events ≡ s
  undone_time old new phase cursors s events u =
      let later : old.phase ≡ s.phase + 1 = ap (λ (w : Stand). w.phase) u.leads in
      let same : new.phase ≡ s.phase = omega arith in
      stand_is s new.phase new.cursors.items same
      (cursors ∙ ap (λ w. ends (lists_of lists w)) same ∙ sym u.ended)

  -- so it does where one less is used up
  pub stands_less : (old new : Rest) (undone : Used) (lower : List Used)
      → used_of old ≡ undone ∷ lower → used_of new ≡ lower
      → ((s : Stand) (events : List Event) → Uses lists s undone (stand_of old events)
      → stand_of new s.events ≡ s)
      → StandsSomewhere lists old → StandsSomewhere lists new
  stands_less old new undone lower before after leads st =
      let l : LeadsTo lists (undone ∷ lower) (stand_of old st.0) =
      subst (λ w. LeadsTo lists w (stand_of old st.0)) before st.1 in
      let s = l.0 in
      let same = leads s st.0 l.2 in (
        s.events,
        subst (λ w. LeadsTo lists w (stand_of new s.events)) (sym after)
            (subst (λ w. LeadsTo lists lower w) (sym same) l.1),
      )

  -- what is used up says where
  pub stands_there : (rest : Rest) (left : Left) (events : List Event) → StandsSomewhere lists rest
      → HasUsedUp lists (used_of rest) left events → Stands lists rest left events
  stands_there rest left events st u =
      let same : stand_of rest st.0 ≡ u.stand =
      one_stand lists (used_of rest) (stand_of rest st.0) u.stand st.1 u.leads in
      let evs : st.0 ≡ events = ap (λ (w : Stand). w.events) same ∙ sym u.events_are in
      record {
        leads = subst (λ w. LeadsTo lists (used_of rest) (stand_of rest w)) evs st.1;
        left_is = u.left_is ∙ ap (λ (w : Stand). left_of lists w) (sym same);
      }

-- THE BEST RUN

-- two numbers are in some order
order_of : (a b : ℕ) → (a ≤ b) ⊎ (b < a)
order_of zero b = inl (omega arith)
order_of (suc a) zero = inr (omega arith)
order_of (suc a) (suc b) = elim (order_of a b)
    [ inl le ↦ inl (omega arith) | inr lt ↦ inr (omega arith) ]

by_order : {P : Type 0} (a b : ℕ) → (a ≤ b → P) → (b < a → P) → P
by_order a b f g = elim (order_of a b) [ inl le ↦ f le | inr lt ↦ g lt ]

-- the best run is as it was
pub best_self : (best : Best Used) (used : List Used) → best.common ≤ length used
    → KeepsBest best used best used
best_self best used le = record { yields = refl; common = le; same = refl }

-- one that is undone is told to the best run
pub best_less : (first : Best Used) (start : List Used) (old new : Best Used) (undone : Used)
    (used : List Used) (left : ℕ) → left ≡ length used
    → KeepsBest first start old (undone ∷ used) → HasKept old new left undone
    → KeepsBest first start new used
best_less first start old new undone used left size k h =
    let below : old.common ≤ left → KeepsBest first start new used = λ le.
    let same : new ≡ old = h.apart le in
    let less : lower old.common (undone ∷ used) ≡ lower old.common used =
    lower_more (undone ∷ []) used old.common (omega arith) in
    let here : KeepsBest first start old used = record {
      yields = k.yields;
      common = omega arith;
      same = ap (λ w. old.tail.items ++ w) (sym less) ∙ k.same;
    } in
    subst (λ w. KeepsBest first start w used) (sym same) here in
    let above : left < old.common → KeepsBest first start new used = λ lt.
    let s = h.shared lt in
    let most : old.common ≤ suc (length used) = k.common in
    let all : lower old.common (undone ∷ used) ≡ undone ∷ used =
    lower_all (undone ∷ used) old.common (omega arith) in
    let rest : lower new.common used ≡ used =
    lower_all used new.common (let c = s.1 in omega arith) in
    record {
      yields = s.0 ∙ k.yields;
      common = (let c = s.1 in omega arith);
      same = ap (λ w. new.tail.items ++ w) rest ∙ ap (λ w. w ++ used) s.2
          ∙ append_assoc old.tail.items (undone ∷ []) used
          ∙ ap (λ w. old.tail.items ++ w) (sym all) ∙ k.same;
    } in
    by_order old.common left below above

-- KEPT

-- a list whose last item is read first
reverse_more : {X : Type 0} (xs : List X) (x : X) → reverse (xs ++ x ∷ []) ≡ x ∷ reverse xs
reverse_more xs x = reverse-append xs (x ∷ [])

-- the first of a list, read from the last one back
pub lower_take : (used : List Used) (height : ℕ) → height ≤ length used
    → lower height (reverse used) ≡ reverse (take height used)
lower_take used height le =
    let front = take height used in
    let split : reverse used ≡ reverse (drop height used) ++ reverse front =
    ap reverse (sym (take-append-drop height used)) ∙ reverse-append front (drop height used) in
    let size : length (reverse front) ≡ height = length-reverse front
    ∙ length-take-le height used le in
    ap (λ w. lower height w) split
    ∙ lower_behind (reverse (drop height used)) (reverse front) height (sym size)

-- STEP BY STEP

-- so far it was gone back
pub record IsGoingBack (lists : PortLists) (height : ℕ) (first : Rest) (start : Best Used)
    (rest : Rest) (best : Best Used) : Type 0 where
  pub front : List Used
  pub used : used_of first ≡ front ++ used_of rest
  pub enough : height ≤ length (used_of first) → height ≤ length (used_of rest)
  pub less : length (used_of first) < height → front ≡ []
  pub somewhere : StandsSomewhere lists first → StandsSomewhere lists rest
  pub keeps : start.common ≤ length (used_of first)
      → KeepsBest start (used_of first) best (used_of rest)

module _ (lists : PortLists) (height : ℕ) (first : Rest) (start : Best Used) where
  pub going_first : IsGoingBack lists height first start first start
  going_first = record {
    front = [];
    used = refl;
    enough = λ le. le;
    less = λ lt. refl;
    somewhere = λ s. s;
    keeps = λ le. best_self start (used_of first) le;
  }

  -- one less is used up
  pub going_less : (old new : Rest) (best after : Best Used) (undone : Used) (lower : List Used)
      (left : ℕ) → IsGoingBack lists height first start old best
      → used_of old ≡ undone ∷ lower → used_of new ≡ lower → height < length (used_of old)
      → left ≡ length (used_of new)
      → ((s : Stand) (events : List Event) → Uses lists s undone (stand_of old events)
      → stand_of new s.events ≡ s)
      → HasKept best after left undone → IsGoingBack lists height first start new after
  going_less old new best after undone lower left g before now more size leads kept =
      let many : length (used_of old) ≡ suc (length (used_of new)) = ap length before
      ∙ ap (λ w. suc (length w)) (sym now) in
      let whole : used_of first ≡ (g.front ++ undone ∷ []) ++ used_of new = g.used
      ∙ ap (λ w. g.front ++ w) (before ∙ ap (λ w. undone ∷ w) (sym now))
      ∙ sym (append_assoc g.front (undone ∷ []) (used_of new)) in
      let all : length (used_of first) ≡ length g.front + length (used_of old) = ap length g.used
      ∙ length-append g.front (used_of old) in
      record {
        front = g.front ++ undone ∷ [];
        used = whole;
        enough = λ le. omega arith;
        less = λ lt. absurd (omega arith);
        somewhere = λ s. stands_less lists old new undone lower before now leads (g.somewhere s);
        keeps = λ le. best_less start (used_of first) best after undone (used_of new) left size
            (subst (λ w. KeepsBest start (used_of first) best w)
            (before ∙ ap (λ w. undone ∷ w) (sym now)) (g.keeps le)) kept;
      }

  -- far enough
  pub going_there : (rest : Rest) (best : Best Used)
      → IsGoingBack lists height first start rest best → length (used_of rest) ≤ height
      → used_of rest ≡ lower height (used_of first)
  going_there rest best g done =
      let here : height ≤ length (used_of first) → used_of rest ≡ lower height (used_of first) =
      λ le.
      let same : height ≡ length (used_of rest) = (let e = g.enough le in omega arith) in
      sym (lower_behind g.front (used_of rest) height same)
      ∙ ap (λ w. lower height w) (sym g.used) in
      let past : length (used_of first) < height → used_of rest ≡ lower height (used_of first) =
      λ lt.
      let same : used_of first ≡ used_of rest = g.used ∙ ap (λ w. w ++ used_of rest) (g.less lt) in
      sym same ∙ sym (lower_all (used_of first) height (omega arith)) in
      by_order height (length (used_of first)) here past

-- the first of what the best run uses up
pub kept_first : (used : List Used) (common n : ℕ) → (common ≤ length used → n ≡ common)
    → (length used < common → n ≡ length used)
    → lower common (reverse used) ≡ reverse (take n used)
kept_first used common n few many =
    let size = length-reverse used in
    let within : common ≤ length used → lower common (reverse used) ≡ reverse (take n used) = λ le.
    lower_take used common le ∙ ap (λ w. reverse (take w used)) (sym (few le)) in
    let past : length used < common → lower common (reverse used) ≡ reverse (take n used) = λ lt.
    lower_all (reverse used) common (omega arith)
    ∙ ap reverse (sym (take-length used) ∙ ap (λ w. take w used) (sym (many lt))) in
    by_order common (length used) within past
