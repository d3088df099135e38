-- What a step does to the best run.
use Rattle.std.proofs.Common.{◌≡◌, ℕ, suc, ◌+◌, ◌-◌, ◌<◌, ◌≤◌, List, [], ◌∷◌, ◌++◌, length, drop}
use Rattle.std.proofs.Common.{refl, sym, ap, subst, ◌∙◌, inl, inr, arith}
use Rattle.std.proofs.lemmas.List.{length-append}
use Rattle.est_meaning.specs.Order.{StartsWith}
use Rattle.est_meaning.specs.Run.{Setup}
use Rattle.est_meaning.specs.declared.event.Event.{Event}
use Rattle.mean_ports.specs.declared.lists.PortLists.{PortLists}
use Rattle.mean_ports.specs.declared.moves.PortMove.{PortMove}
use Rattle.mean_ports.specs.PortRuns.{Left}
use Rattle.run_paths.specs.declared.path.Best.{Best}
use Rattle.run_paths.specs.Paths.{HasReached, HasKept}
use Rattle.run_paths.proofs.BestRuns.{at_most, kept_more, kept_reached, kept_undone}
use Rattle.est_ports.specs.declared.left.Used.{Used}
use Rattle.est_ports.specs.declared.left.Rest.{Rest}
use Rattle.est_ports.specs.inside.Leftover.{HasUsedUp, Stands, stand_of, used_of, lower, kept}
use Rattle.est_ports.specs.inside.Leftover.{KeepsBest}
use Rattle.est_ports.specs.inside.Standing.{IsBest, HasFront}

-- WHAT WAS USED UP

pub stands_up : (lists : PortLists) (rest : Rest) (left : Left) (events : List Event)
    → Stands lists rest left events → HasUsedUp lists (used_of rest) left events
stands_up lists rest left events s = record {
  stand = stand_of rest events;
  leads = s.leads;
  left_is = s.left_is;
  events_are = refl;
}

drop_by : (front used : List Used) (k j : ℕ) → k ≡ length front + j
    → drop k (front ++ used) ≡ drop j used
drop_by [] used k j e = (let same : k ≡ j = omega arith in ap (λ w. drop w used) same)
drop_by (x ∷ front) used k j e =
    let s : k ≡ suc (length front + j) = omega arith in
    ap (λ w. drop w (x ∷ front ++ used)) s ∙ drop_by front used (length front + j) j refl

-- of more that is used up the first are the same
pub lower_more : (front used : List Used) (n : ℕ) → n ≤ length used
    → lower n (front ++ used) ≡ lower n used
lower_more front used n le =
    (let m : length (front ++ used) ≡ length front + length used = length-append front used in
    drop_by front used (length (front ++ used) - n) (length used - n) (omega arith))

pub lower_all : (used : List Used) (n : ℕ) → n ≡ length used → lower n used ≡ used
lower_all used n e = (let none : length used - n ≡ 0 = omega arith in ap (λ w. drop w used) none)

pub yields_kept : (old new : Best PortMove) (left : ℕ) (made : PortMove)
    → HasKept old new left made → new.yields ≡ old.yields
yields_kept old new left made k = elim (at_most old.common left) [
  | inl le ↦ ap (λ (b : Best PortMove). b.yields) (k.apart le)
  | inr lt ↦ (k.shared lt).0
]

-- THE BEST RUN

module _ (c : Setup) (lists : PortLists) where
  -- where some of what was used up is undone
  pub best_back : (moves : List PortMove) (used used' : List Used) (best : Best PortMove)
      (bu bu' : Best Used) → KeepsBest bu used bu' used' → IsBest c lists moves used best bu
      → IsBest c lists moves used' best bu'
  best_back moves used used' best bu bu' keeps b = record {
    run = b.run;
    events = b.events;
    left = b.left;
    is_kept = b.is_kept;
    uses = subst (λ w. HasUsedUp lists w b.left b.events) (sym keeps.same) b.uses;
    within = keeps.common;
    front = b.front;
    count = b.count;
  }

  -- where the last move is undone
  pub best_undone : (made : PortMove) (h : List PortMove) (used : List Used)
      (best best' : Best PortMove) (bu : Best Used) (left : ℕ) → left ≡ length h
      → HasKept best best' left made → IsBest c lists (made ∷ h) used best bu
      → IsBest c lists h used best' bu
  best_undone made h used best best' bu left left_is has b = record {
    run = b.run;
    events = b.events;
    left = b.left;
    is_kept = kept_undone made h best best' b.run left left_is has b.is_kept;
    uses = b.uses;
    within = b.within;
    front = b.front;
    count = b.count ∙ sym (yields_kept best best' left made has);
  }

  -- after a run that yields so many events, all that are used up
  pub best_raised : (h more : List PortMove) (last : PortMove) (used front : List Used)
      (best best' : Best PortMove) (bu bu' : Best Used) (made k : ℕ) (left : Left)
      (events : List Event) → StartsWith more h → made ≡ length h
      → HasReached best best' made last k
      → (k ≤ best.yields → bu' ≡ bu)
      → (best.yields < k → (bu'.common ≡ length (front ++ used)) × (bu'.tail.items ≡ []))
      → HasUsedUp lists (front ++ used) left events → HasFront c lists (last ∷ h) events
      → length events ≡ k → IsBest c lists h used best bu
      → IsBest c lists more (front ++ used) best' bu'
  best_raised h more last used front best best' bu bu' made k left events s made_is reached less
      raised uses has count b =
      elim (at_most k best.yields) [
        | inl le ↦
            (let same = reached.less le in
            let within = b.within in
            let all = length-append front used in
            let after : IsBest c lists more (front ++ used) best bu = record {
              run = b.run;
              events = b.events;
              left = b.left;
              is_kept = kept_more h more best b.run s b.is_kept;
              uses = subst (λ w. HasUsedUp lists (bu.tail.items ++ w) b.left b.events)
                  (sym (lower_more front used bu.common b.within)) b.uses;
              within = omega arith;
              front = b.front;
              count = b.count;
            } in
            subst (λ w. IsBest c lists more (front ++ used) w bu') (sym same)
            (subst (λ w. IsBest c lists more (front ++ used) best w) (sym (less le)) after))
        | inr lt ↦
            (let r = reached.more lt in
            let u = raised lt in
            let all : kept bu' (front ++ used) ≡ front ++ used =
            ap (λ w. w ++ lower bu'.common (front ++ used)) u.1
            ∙ lower_all (front ++ used) bu'.common u.0 in
            let common = u.0 in
            record {
              run = last ∷ h;
              events = events;
              left = left;
              is_kept = kept_reached h more last best best' made k s made_is reached lt;
              uses = subst (λ w. HasUsedUp lists w left events) (sym all) uses;
              within = omega arith;
              front = has;
              count = count ∙ sym r.0;
            })
      ]

  -- the best run yields at least as many events as before, and as that run
  pub raised_most : (best best' : Best PortMove) (made k : ℕ) (last : PortMove)
      → HasReached best best' made last k → (best.yields ≤ best'.yields) × (k ≤ best'.yields)
  raised_most best best' made k last reached = elim (at_most k best.yields) [
    | inl le ↦
        (let same = ap (λ (b : Best PortMove). b.yields) (reached.less le) in
        (omega arith, omega arith))
    | inr lt ↦ (let same = (reached.more lt).0 in (omega arith, omega arith))
  ]
