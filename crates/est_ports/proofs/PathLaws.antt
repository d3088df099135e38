-- What a step does to the path.
use Rattle.std.proofs.Common.{◌≡◌, ℕ, zero, suc, ◌+◌, ◌-◌, ◌<◌, ◌⊎◌, List, [], ◌∷◌, ◌++◌, length}
use Rattle.std.proofs.Common.{take}
use Rattle.std.proofs.Common.{drop, refl, sym, ap, subst, ◌∙◌, inl, inr, arith}
use Rattle.std.proofs.lemmas.List.{length-append}
use Rattle.est_syntax.specs.Least.{IsIn}
use Rattle.est_meaning.specs.mean_blocks.GlobalSituation.{Situation}
use Rattle.est_meaning.proofs.OrderLaws.{starts_less}
use Rattle.est_meaning.specs.Order.{StartsWith}
use Rattle.est_meaning.specs.Run.{Setup}
use Rattle.est_meaning.specs.SituationStacks.{Stack, pushed}
use Rattle.mean_ports.specs.declared.lists.PortLists.{PortLists}
use Rattle.mean_ports.specs.declared.moves.PortMove.{PortMove}
use Rattle.mean_ports.specs.PortRuns.{PortPlace}
use Rattle.mean_ports.specs.PortTrials.{IsDefinedMove, IsPortTrial}
use Rattle.run_paths.specs.declared.path.Level.{Level}
use Rattle.run_paths.specs.declared.path.Stage.{Stage}
use Rattle.run_paths.specs.declared.path.Stage.TheVariants.{Fresh, Listed}
use Rattle.run_paths.specs.Paths.{View, entered, with_tries, IsNext, IsUndone}
use Rattle.est_ports.specs.declared.left.Used.{Used}
use Rattle.est_ports.specs.declared.left.Rest.{Rest}
use Rattle.est_ports.specs.inside.Ahead.{IsLeft, GoesOn, IsUnasked, IsBelow}
use Rattle.est_ports.specs.inside.Leftover.{HasUsedUp, Stands, used_of, lower}
use Rattle.est_ports.specs.inside.Standing.{place_at, IsNode, AreOpen, AreLower, IsStage, IsAt}
use Rattle.est_ports.proofs.AheadLaws.{starts_same, take_more, drop_more, drop_none, take_front}
use Rattle.est_ports.proofs.AheadLaws.{drop_front, left_not}

-- WHAT IS LEFT TO BE TRIED

-- no move belongs to the first stage
none_fresh : (mine : List PortMove) → ((m : PortMove) → IsIn m mine → Fresh ≡ Listed)
    → mine ≡ []
none_fresh [] each = refl
none_fresh (m ∷ mine) each =
    (let e : Fresh ≡ Listed = each m (inl refl) in let never : ⊥ = cc in absurd never)

take_none : {X : Type 0} (k : ℕ) (ts : List X) → (k ≡ 0) ⊎ (ts ≡ []) → take k ts ≡ []
take_none zero ts e = refl
take_none (suc k) [] e = refl
take_none (suc k) (t ∷ ts) e =
    elim e [ inl a ↦ absurd (omega arith) | inr a ↦ (let never : ⊥ = cc in absurd never) ]

-- what was used up first
pub lower_starts : (upper used : List Used) (height : ℕ) → StartsWith upper used
    → length used ≡ height → lower height upper ≡ used
lower_starts upper used height s n =
    let e : upper ≡ s.0 ++ used = s.1 in
    let m : length upper ≡ length s.0 + length used = ap length e ∙ length-append s.0 used in
    let k : length upper - height ≡ length s.0 = omega arith in
    ap (λ w. drop w upper) k ∙ ap (λ w. drop (length s.0) w) e ∙ drop_front s.0 used

-- nothing below goes on from a run of the path, or is it
pub below_apart : (c : Setup) (lists : PortLists) (upper : List Used) (ls : List Level)
    (h : List PortMove) (below : List Situation) (tries y : List PortMove)
    → AreLower c lists upper ls h below tries → StartsWith y h → IsBelow GoesOn ls h tries y → ⊥
below_apart c lists upper [] h below tries y a s b = b
below_apart c lists upper (l ∷ ls) [] below tries y a s b = b
below_apart c lists upper (l ∷ ls) (m ∷ h) [] tries y a s b = a
below_apart c lists upper (l ∷ ls) (m ∷ h) (t ∷ below) tries y a s b = elim b [
  | inl g ↦ left_not Listed m (take l.left tries) refl a.3.apart.0
      (subst (λ w. IsLeft Listed (take l.left tries) w)
      (starts_same y h g.move m g.starts s) g.is_left)
  | inr d ↦ below_apart c lists a.0 ls h below (drop l.left tries) y a.4 (starts_less y m h s) d
]

-- NODES

-- the run at a level with other tries left
abbrev pub relevelled : (c : Setup) (lists : PortLists) (used : List Used) (h : List PortMove)
    (s : Situation) (l : Level) (left : ℕ) → IsNode c lists used h s l
    → IsNode c lists used h s (record l { left = left })
relevelled c lists used h s l left n = record {
  events = n.events;
  left = n.left;
  is_run = n.is_run;
  uses = n.uses;
  height = n.height;
  count = n.count;
  unfinished = n.unfinished;
}

-- no moves are open anywhere
pub open_none : (c : Setup) (p : PortPlace) (stage : Stage) → AreOpen c p stage []
open_none c p stage = record { apart = tt; defined = λ m i. absurd i; staged = λ m i. absurd i }

open_rest : (c : Setup) (p : PortPlace) (stage : Stage) (t : PortMove) (mine : List PortMove)
    → AreOpen c p stage (t ∷ mine) → AreOpen c p stage mine
open_rest c p stage t mine o = record {
  apart = o.apart.1;
  defined = λ m i. o.defined m (inr i);
  staged = λ m i. o.staged m (inr i);
}

depth_by : (c : Setup) (lists : PortLists) (upper : List Used) (l : Level) (ls : List Level)
    (m : PortMove) (h : List PortMove) (below : List Situation) (tries : List PortMove)
    → AreLower c lists upper (l ∷ ls) (m ∷ h) below tries → 0 < length below
depth_by c lists upper l ls m h [] tries a = absurd a
depth_by c lists upper l ls m h (s ∷ below) tries a = omega arith

pub no_moves : (c : Setup) (lists : PortLists) (upper : List Used) (h : List PortMove)
    (below : List Situation) (tries : List PortMove)
    → AreLower c lists upper [] h below tries → h ≡ []
no_moves c lists upper [] below tries a = refl
no_moves c lists upper (m ∷ h) below tries a = absurd a

-- WHERE THE WALK STANDS

module _ (c : Setup) (lists : PortLists) (stack : Stack) (v : View PortMove PortMove) (rest : Rest)
    (at : IsAt c lists stack v rest) where
  abbrev pub here : PortPlace
  here = place_at stack.now v.top at.node.events at.node.left

  -- the moves that are left, and those below
  abbrev pub mine : List PortMove
  mine = take v.top.left v.tries

  abbrev pub others : List PortMove
  others = drop v.top.left v.tries

  -- what is ahead with these moves left, and these below
  abbrev pub AheadBy : Stage → List PortMove → List PortMove → List PortMove → Type 0
  AheadBy stage m d y = GoesOn stage m v.moves y ⊎ IsBelow GoesOn v.lower v.moves d y

  abbrev pub GuardsBy : Stage → List PortMove → List PortMove → List PortMove → Type 0
  GuardsBy stage m d y = IsUnasked stage m v.moves y ⊎ IsBelow IsUnasked v.lower v.moves d y

  pub mine_fresh : v.stage ≡ Fresh → mine ≡ []
  mine_fresh fresh = none_fresh mine (λ m i. sym fresh ∙ at.«open».staged m i)

  pub mine_spent : (v.top.left ≡ 0) ⊎ (v.tries ≡ []) → mine ≡ []
  mine_spent spent = take_none v.top.left v.tries spent

  pub all_apart : (y : List PortMove) → StartsWith y v.moves
      → IsBelow GoesOn v.lower v.moves others y → ⊥
  all_apart y s b =
      below_apart c lists (used_of rest) v.lower v.moves stack.below others y at.lower s b

  -- other moves are listed
  pub at_listed : (rest' : Rest) (stage : Stage) (tries : List PortMove) → mine ≡ []
      → rest' ≡ rest → IsStage stage → AreOpen c here stage tries
      → IsAt c lists stack (with_tries v stage tries) rest'
  at_listed rest' stage tries none same known o =
      subst (λ w. IsAt c lists stack (with_tries v stage tries) w) (sym same) (record {
        node = relevelled c lists (used_of rest) v.moves stack.now v.top (length tries) at.node;
        stands = at.stands;
        staged = known;
        «open» = subst (λ w. AreOpen c here stage w) (sym (take_front tries v.tries)) o;
        lower = subst (λ w. AreLower c lists (used_of rest) v.lower v.moves stack.below w)
            (sym (drop_front tries v.tries))
            (subst (λ w. AreLower c lists (used_of rest) v.lower v.moves stack.below w)
            (drop_none v.top.left v.tries none) at.lower);
      })

  -- THE NEXT MOVE

  module _ (t : PortMove) (w : View PortMove PortMove) (next : IsNext v t w) where
    abbrev pub after : List PortMove
    after = take next.left next.tries

    pub mine_is : mine ≡ t ∷ after
    mine_is = ap (λ u. take v.top.left u) next.tries_are
        ∙ take_more v.top.left next.left t next.tries next.left_is

    pub others_are : others ≡ drop next.left next.tries
    others_are = ap (λ u. drop v.top.left u) next.tries_are
        ∙ drop_more v.top.left next.left t next.tries next.left_is

    pub opened : AreOpen c here v.stage (t ∷ after)
    opened = subst (λ u. AreOpen c here v.stage u) mine_is at.«open»

    pub staged : v.stage ≡ Listed
    staged = opened.staged t (inl refl)

    pub next_defined : IsDefinedMove c here t
    next_defined = opened.defined t (inl refl)

    pub trial : IsPortTrial c lists (t ∷ v.moves)
    trial = (
      here,
      record { is_run = at.node.is_run; unfinished = at.node.unfinished },
      next_defined,
    )

    lower_next : AreLower c lists (used_of rest) v.lower v.moves stack.below
        (drop next.left next.tries)
    lower_next = subst (λ u. AreLower c lists (used_of rest) v.lower v.moves stack.below u)
        others_are at.lower

    -- the view after it was taken
    abbrev pub view_next : View PortMove PortMove
    view_next = record v { top = record v.top { left = next.left }; tries = next.tries }

    -- it does not lead on
    pub at_next : (rest' : Rest) → used_of rest' ≡ used_of rest
        → Stands lists rest' at.node.left at.node.events → IsAt c lists stack view_next rest'
    at_next rest' used stands =
        let n = relevelled c lists (used_of rest) v.moves stack.now v.top next.left at.node in
        record {
          node = record {
            events = n.events;
            left = n.left;
            is_run = n.is_run;
            uses = subst (λ u. HasUsedUp lists u n.left n.events) (sym used) n.uses;
            height = ap length used ∙ n.height;
            count = n.count;
            unfinished = n.unfinished;
          };
          stands = stands;
          staged = at.staged;
          «open» = open_rest c here v.stage t after opened;
          lower = subst
              (λ u. AreLower c lists u v.lower v.moves stack.below (drop next.left next.tries))
              (sym used) lower_next;
        }

    -- it leads on
    pub at_entered : (rest' : Rest) (s : Situation) (matched silent : ℕ)
        → StartsWith (used_of rest') (used_of rest)
        → (node : IsNode c lists (used_of rest') (t ∷ v.moves) s
        (record { matched = matched; silent = silent; left = 0 }))
        → Stands lists rest' node.left node.events
        → IsAt c lists (pushed s stack) (entered view_next t matched silent) rest'
    at_entered rest' s matched silent starts node stands = record {
      node = node;
      stands = stands;
      staged = tt;
      «open» = open_none c (place_at s (record { matched = matched; silent = silent; left = 0 })
          node.events node.left) Fresh;
      lower = (
        used_of rest,
        starts,
        relevelled c lists (used_of rest) v.moves stack.now v.top next.left at.node,
        subst (λ u. AreOpen c here u (t ∷ after)) staged opened,
        lower_next,
      );
    }

  -- BACK

  -- the level below
  module _ (made : PortMove) (w : View PortMove PortMove) (undone : IsUndone v made w) where
    lower_undone : AreLower c lists (used_of rest) (w.top ∷ w.lower) (made ∷ w.moves) stack.below
        others
    lower_undone =
        subst (λ ls. AreLower c lists (used_of rest) ls (made ∷ w.moves) stack.below others)
        undone.lower (subst (λ h. AreLower c lists (used_of rest) v.lower h stack.below others)
        undone.moves at.lower)

    pub lower_depth : 0 < length stack.below
    lower_depth = depth_by c lists (used_of rest) w.top w.lower made w.moves stack.below others
        lower_undone

    module _ (stack' : Stack) (back : stack ≡ pushed stack.now stack') (none : mine ≡ []) where
      pub lower_there : AreLower c lists (used_of rest) (w.top ∷ w.lower) (made ∷ w.moves)
          (stack'.now ∷ stack'.below) w.tries
      lower_there =
          let below : stack.below ≡ stack'.now ∷ stack'.below = ap (λ (u : Stack). u.below) back in
          let same : others ≡ w.tries = drop_none v.top.left v.tries none ∙ sym undone.tries in
          subst (λ u. AreLower c lists (used_of rest) (w.top ∷ w.lower) (made ∷ w.moves)
          (stack'.now ∷ stack'.below) u) same
          (subst (λ u. AreLower c lists (used_of rest) (w.top ∷ w.lower) (made ∷ w.moves) u
          others) below lower_undone)

      -- what was used up there
      pub used_back : lower w.top.matched (used_of rest) ≡ lower_there.0
      used_back = lower_starts (used_of rest) lower_there.0 w.top.matched lower_there.1
          lower_there.2.height

      pub uses_back : HasUsedUp lists (lower w.top.matched (used_of rest)) lower_there.2.left
          lower_there.2.events
      uses_back = subst (λ u. HasUsedUp lists u lower_there.2.left lower_there.2.events)
          (sym used_back) lower_there.2.uses

      pub at_back : (rest' : Rest) → used_of rest' ≡ lower w.top.matched (used_of rest)
          → Stands lists rest' lower_there.2.left lower_there.2.events → w.stage ≡ Listed
          → IsAt c lists stack' w rest'
      at_back rest' used stands listed =
          let n = lower_there.2 in
          let u : used_of rest' ≡ lower_there.0 = used ∙ used_back in
          record {
            node = record {
              events = n.events;
              left = n.left;
              is_run = n.is_run;
              uses = subst (λ x. HasUsedUp lists x n.left n.events) (sym u) n.uses;
              height = ap length u ∙ n.height;
              count = n.count;
              unfinished = n.unfinished;
            };
            stands = stands;
            staged = subst IsStage (sym listed) tt;
            «open» = subst (λ x. AreOpen c (place_at stack'.now w.top n.events n.left) x
                (take w.top.left w.tries)) (sym listed)
                (open_rest c (place_at stack'.now w.top n.events n.left) Listed made
                (take w.top.left w.tries) lower_there.3);
            lower = subst (λ x. AreLower c lists x w.lower w.moves stack'.below
                (drop w.top.left w.tries)) (sym u) lower_there.4;
          }
