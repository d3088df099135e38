-- Calls that open a level, and what the statements of a function leave.
use Rattle.std.proofs.Common.{◌≡◌, refl, ap, subst, ℕ, zero, suc, ◌-◌, arith, List, [], ◌∷◌}
use Rattle.std.proofs.Common.{Bool, true, Some, Ok}
use Rattle.est_syntax.specs.declared.routine.Routine.{Routine}
use Rattle.est_syntax.specs.declared.statement.Statement.{Statement}
use Rattle.mean_blocks.specs.declared.frame.Slot.{Slot}
use Rattle.mean_blocks.specs.BlockLevels.{within}
use Rattle.mean_blocks.specs.FunctionCalls.{called, routine_frame, result_of}
use Rattle.mean_blocks.specs.GlobalSituation.{Frame}
use Rattle.mean_blocks.specs.KeepingLaws.{Kept, IsUnchanged}
use Rattle.mean_blocks.specs.Outcome.{Outcome, Done, ◌>>=◌, lift, known}
use Rattle.mean_blocks.specs.StatementEffects.{statements_in}
use Rattle.mean_blocks.specs.TextByPlace.{Text, routine_at, statements_of}
use Rattle.mean_blocks.specs.WorkingState.{State, Site, View}
use Rattle.mean_blocks.proofs.KeptByBlocks.{statements_silent}

-- statements one level deeper, where a level is left
pub deeper_opens : (k : ℕ) (t : Text) (i : ℕ) (b : Bool) (xs : List Statement) (s : State)
    → (k ≡ 0 → ⊥) → within k t i b xs s
    ≡ statements_in xs (record { text = t; instance = i; function = b; deeper = within (k - 1) t })
    s
deeper_opens zero t i b xs s h = absurd (h refl)
deeper_opens (suc k) t i b xs s h =
    let e : k ≡ suc k - 1 = omega arith in
    ap (λ m. statements_in xs
    (record { text = t; instance = i; function = b; deeper = within m t }) s) e

-- a call of a function with this routine and this frame
pub called_by : (v : View) (p : ℕ) (xs : List Slot) (n : ℕ) (r : Routine) (f : Frame)
    → routine_at v.site.text p ≡ Some r → routine_frame v.site.text.outline p xs ≡ Ok f
    → called v p xs n ≡ result_of p (v.site.deeper v.site.instance true (statements_of r)
    (record { situation = v.situation; outs = []; frames = f ∷ []; left = n }))
called_by v p xs n r f h k = λ i. (known (h i) >>= λ r. lift (k i) >>= λ f.
    λ n. result_of p (v.site.deeper v.site.instance true (statements_of r)
    (record { situation = v.situation; outs = []; frames = f ∷ []; left = n }))) n

-- a function's statements leave the situation
pub situation_kept : (xs : List Statement) (site : Site) (s t : State) → site.function ≡ true
    → statements_in xs site s ≡ Done tt t → t.situation ≡ s.situation
situation_kept xs site s t h e = kept (statements_in xs site s) e (statements_silent xs site h s)
  where
    kept : (o : Outcome State (Unit {0})) → o ≡ Done tt t → Kept IsUnchanged s o
        → t.situation ≡ s.situation
    kept o q k = (subst (Kept IsUnchanged s) q k).0
