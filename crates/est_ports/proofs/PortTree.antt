-- The runs along the lists of ports, and what they go on by.
use Rattle.std.proofs.Common.{◌≡◌, ℕ, ◌⊎◌, List, [], ◌∷◌, ◌++◌, subst, inl, inr}
use Rattle.est_meaning.specs.Order.{StartsWith}
use Rattle.est_meaning.specs.Run.{Setup}
use Rattle.mean_ports.specs.declared.lists.PortLists.{PortLists}
use Rattle.mean_ports.specs.declared.moves.PortMove.{PortMove}
use Rattle.mean_ports.specs.declared.moves.PortMove.TheVariants.{TakeAt, Pass, Fire}
use Rattle.mean_ports.specs.PortRuns.{PortPlace, MovesOn, IsPortRun}
use Rattle.mean_ports.specs.PortTrials.{IsDefinedMove, IsPortTrial}
use Rattle.mean_ports.specs.PortYields.{PortYields, by_run, by_start, by_firing}

-- the run is a port run
abbrev pub IsOnTree : Setup → PortLists → List PortMove → Type 0
IsOnTree c lists run = (p : PortPlace) × IsPortRun c lists run p

-- after the run the move is defined
pub record CanGoOn (c : Setup) (lists : PortLists) (h : List PortMove) (m : PortMove) : Type 0
  where
    pub place : PortPlace
    pub is_run : IsPortRun c lists h place
    pub defined : IsDefinedMove c place m

-- the moves are defined one after the other, and all but the last one lead on
abbrev pub IsInTree : Setup → PortLists → List PortMove → Type 0
IsInTree c lists x = (m : PortMove) (h : List PortMove) → StartsWith x (m ∷ h)
    → CanGoOn c lists h m × ((x ≡ m ∷ h) ⊎ IsOnTree c lists (m ∷ h))

pub nothing_starts : (m : PortMove) (h later : List PortMove) → [] ≡ later ++ m ∷ h → ⊥
nothing_starts m h [] e = cc
nothing_starts m h (x ∷ later) e = cc

module _ (c : Setup) (lists : PortLists) where
  pub move_defined : (p : PortPlace) (m : PortMove) (q : PortPlace) → MovesOn c p m q
      → IsDefinedMove c p m
  move_defined p (TakeAt port) q t = (q, t)
  move_defined p Pass q t = (q, t)
  move_defined p (Fire f) q t = t.step.possible

  run_prefix : (later h : List PortMove) (p : PortPlace) → IsPortRun c lists (later ++ h) p
      → IsOnTree c lists h
  run_prefix [] h p r = (p, r)
  run_prefix (m ∷ later) h p r = run_prefix later h r.0 r.1

  -- what a port run begins with is one
  pub run_starts : (x h : List PortMove) → IsOnTree c lists x → StartsWith x h
      → IsOnTree c lists h
  run_starts x h on s = run_prefix s.0 h on.0 (subst (λ w. IsPortRun c lists w on.0) s.1 on.1)

  last_defined : (h : List PortMove) (m : PortMove) → IsOnTree c lists (m ∷ h)
      → CanGoOn c lists h m
  last_defined h m on = record {
    place = on.1.0;
    is_run = on.1.1;
    defined = move_defined on.1.0 m on.0 on.1.2;
  }

  pub run_in_tree : (x : List PortMove) → IsOnTree c lists x → IsInTree c lists x
  run_in_tree x on m h s =
      let r = run_starts x (m ∷ h) on s in
      (last_defined h m r, inr r)

  defined_by : (k : PortMove) (e : List PortMove) → CanGoOn c lists e k → (m : PortMove)
      (h later : List PortMove) → k ∷ e ≡ later ++ m ∷ h
      → CanGoOn c lists h m × ((k ∷ e ≡ m ∷ h) ⊎ IsOnTree c lists (m ∷ h))
  defined_by k e can m h [] is =
      let a : k ≡ m = cc in
      let b : e ≡ h = cc in
      (subst (λ w. CanGoOn c lists w m) b (subst (λ w. CanGoOn c lists e w) a can), inl is)
  defined_by k e can m h (x ∷ later) is =
      let b : e ≡ later ++ m ∷ h = cc in
      let on : IsOnTree c lists (m ∷ h) =
      run_starts e (m ∷ h) (can.place, can.is_run) (later, b) in
      (last_defined h m on, inr on)

  -- a port run with a move that is defined after it
  pub defined_in_tree : (k : PortMove) (e : List PortMove) → CanGoOn c lists e k
      → IsInTree c lists (k ∷ e)
  defined_in_tree k e can m h s = defined_by k e can m h s.0 s.1

  pub trial_in_tree : (x : List PortMove) → IsPortTrial c lists x → IsInTree c lists x
  trial_in_tree [] t = absurd t
  trial_in_tree (k ∷ e) t = defined_in_tree k e
      (record { place = t.0; is_run = t.1.is_run; defined = t.2 })

  pub yields_in_tree : (x : List PortMove) (k : ℕ) → PortYields c lists x k → IsInTree c lists x
  yields_in_tree x k (by_run p r le) = run_in_tree x (p, r)
  yields_in_tree x k (by_start h) = λ m e s. absurd (nothing_starts m e s.0 s.1)
  yields_in_tree x k (by_firing {earlier = earlier} f p next outs r step silent h) =
      defined_in_tree (Fire f) earlier
      (record { place = p; is_run = r; defined = step.possible })
