-- A system begins in an orderly situation, since its `init` is a block.
use Rattle.std.proofs.Common.{◌≡◌, subst, arith, ℕ, false, List, [], ◌∷◌}
use Rattle.est_syntax.specs.declared.statement.Statement.{Statement}
use Rattle.mean_blocks.specs.Outcome.{Outcome, Done, Fault, Limit}
use Rattle.mean_blocks.specs.TextByPlace.{Text}
use Rattle.mean_blocks.specs.GlobalSituation.{Frame, Situation}
use Rattle.mean_blocks.specs.WorkingState.{State}
use Rattle.mean_blocks.specs.OutputEffects.{Sent}
use Rattle.mean_blocks.specs.BlockLevels.{beginning, left_by, block_meaning, most_levels}
use Rattle.mean_blocks.specs.KeepingLaws.{Kept, Between, BlocksKeep, GoesOver, KeepsPeers}
use Rattle.mean_blocks.specs.KeepingLaws.{AreNumbered, AreMutual}
use Rattle.mean_blocks.specs.StartMeaning.{no_instances, start_before}
use Rattle.mean_blocks.proofs.NumbersAscend.{situations_go_over}
use Rattle.mean_blocks.proofs.MutualPeers.{peers_stay_mutual}

-- what is left has a situation that a property holds of, where it is done
abbrev pub OnSent : (Situation → Type 0) → Outcome Sent (Unit {0}) → Type 0
OnSent P (Done u x) = P x.situation
OnSent P (Fault f) = Unit {0}
OnSent P Limit = Unit {0}

left_kept : (R : Situation → Situation → Type 0) (s : State) (o : Outcome State (Unit {0}))
    → Kept (Between R) s o → OnSent (R s.situation) (left_by o)
left_kept R s (Done u t) h = h
left_kept R s (Fault f) h = tt
left_kept R s Limit h = tt

-- a block keeps what its statements keep
pub block_kept : (R : Situation → Situation → Type 0) → BlocksKeep R → (t : Text) (n : ℕ)
    (frames : List Frame) (xs : List Statement) (limit : ℕ) (s : Situation)
    → OnSent (R s) (block_meaning t n frames xs limit s)
block_kept R keep t n frames xs limit s = left_kept R (beginning s frames limit) _
    (keep t n false most_levels xs (beginning s frames limit))

start_kept : (R : Situation → Situation → Type 0) → BlocksKeep R → (t : Text) (limit : ℕ)
    (x : Sent) → start_before t limit ≡ Done tt x → R no_instances x.situation
start_kept R keep t limit x h = subst (OnSent (R no_instances)) h
    (block_kept R keep t 0 [] (t.spec.first ∷ []) limit no_instances)

pub numbered_first : AreNumbered no_instances
numbered_first = (omega (arith), tt)

pub mutual_first : AreMutual no_instances.peer
mutual_first p q h = cc

pub starts_are_orderly : (t : Text) (limit : ℕ) (x : Sent) → start_before t limit ≡ Done tt x
    → (x.situation.clock ≡ 0) × AreNumbered x.situation × AreMutual x.situation.peer
starts_are_orderly t limit x h =
    let g = start_kept GoesOver situations_go_over t limit x h in (
      g.clock,
      g.numbers numbered_first,
      start_kept KeepsPeers peers_stay_mutual t limit x h mutual_first,
    )
