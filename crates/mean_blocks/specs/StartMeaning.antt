-- How a system begins (ISO 9074, 5: initial global situations).
use Rattle.std.specs.Prelude.{◌≡◌, ℕ, [], ◌∷◌, None}
use Rattle.mean_blocks.specs.Outcome.{Outcome, Done}
use Rattle.mean_blocks.specs.OutputEffects.{Sent}
use Rattle.mean_blocks.specs.GlobalSituation.{Situation}
use Rattle.mean_blocks.specs.TextByPlace.{Text}
use Rattle.mean_blocks.specs.BlockLevels.{block_meaning}
use Rattle.mean_blocks.specs.KeepingLaws.{AreNumbered, AreMutual}

-- the situation without instances, at the clock 0, in which the next instance is number 1
abbrev pub no_instances : Situation
no_instances = record {
  rows = [];
  peer = λ p. None;
  down = λ p. None;
  queues = λ q. [];
  stamps = λ k. None;
  clock = 0;
  next = 1;
}

-- What the `init` of a specification does from there, under a limit on statements, of which it
-- counts one itself: the situation before delays are stamped. The number 0, of which the root is a
-- child, is that of no instance, so nothing is stored for the module variable (ISO 9074,
-- specification).
abbrev pub start_before : Text → ℕ → Outcome Sent (Unit {0})
start_before t limit = block_meaning t 0 [] (t.spec.first ∷ []) limit no_instances

-- LAWS

-- A start is orderly: no time has passed, the instances stand in ascending number, and connections
-- lead both ways.
abbrev pub StartsAreOrderly : Type 0
StartsAreOrderly = (t : Text) (limit : ℕ) (x : Sent) → start_before t limit ≡ Done tt x
    → (x.situation.clock ≡ 0) × AreNumbered x.situation × AreMutual x.situation.peer
