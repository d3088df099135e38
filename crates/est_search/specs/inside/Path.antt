-- Where a search stands on its way.
use Rattle.std.specs.Prelude.{◌≡◌, ◌≤◌, List, [], ◌∷◌, ◌++◌}
use Rattle.std.specs.Prelude.{Option, Some, None, length, take}
use Rattle.est_syntax.specs.Least.{IsIn}
use Rattle.est_meaning.specs.mean_blocks.GlobalSituation.{Situation}
use Rattle.est_meaning.specs.mean_blocks.TextByPlace.{text_of}
use Rattle.est_meaning.specs.declared.event.Event.{Event}
use Rattle.est_meaning.specs.declared.firing.Firing.{Firing}
use Rattle.est_meaning.specs.Agreement.{AgreeAll}
use Rattle.est_meaning.specs.TransitionSelection.{IsPossible}
use Rattle.est_meaning.specs.FiringOrder.{IsAscending}
use Rattle.est_meaning.specs.SituationStacks.{Stack}
use Rattle.est_meaning.specs.declared.run.Move.{Move}
use Rattle.est_meaning.specs.declared.run.Move.TheVariants.{Take, Fire}
use Rattle.est_meaning.specs.Order.{Mark, Taking, Trying, MarkBefore}
use Rattle.est_meaning.specs.Run.{Setup, Place, IsBoundedRun, IsWhole}
use Rattle.run_paths.specs.declared.path.Stage.{Stage}
use Rattle.run_paths.specs.declared.path.Stage.TheVariants.{Fresh, Taken, Listed}
use Rattle.run_paths.specs.declared.path.Level.{Level}
use Rattle.run_paths.specs.Paths.{View}

-- the event was taken, or cannot be
abbrev pub with_taken : View Move Firing → View Move Firing
with_taken v = record v { stage = Taken }

-- how far the run before a move is dealt with
abbrev pub stage_after : Move → Stage
stage_after Take = Taken
stage_after (Fire f) = Listed

-- where a move is undone, the run before it is dealt with so far
abbrev pub gone_back : View Move Firing → Move → View Move Firing
gone_back v made = record v { stage = stage_after made }

-- WHERE IT STANDS

-- where a run stands that has these events
abbrev pub place_at : Situation → Level → List Event → Place
place_at s l events = record { situation = s; events = events; silent_in_row = l.silent }

-- the run has events that agree with so many of the trace, and does not explain it
pub record IsNode (c : Setup) (h : List Move) (s : Situation) (l : Level) : Type 0 where
  pub events : List Event
  pub is_run : IsBoundedRun c h (place_at s l events)
  pub within : l.matched ≤ length c.trace.events
  pub agree : AgreeAll (take l.matched c.trace.events) events
  pub unfinished : IsWhole c (place_at s l events) → ⊥

-- these are the possible firings after a mark, in order
pub record AreLeft (c : Setup) (s : Situation) (m : Mark) (firings : List Firing) : Type 0 where
  pub ascending : IsAscending firings
  pub possible : (f : Firing) → IsIn f firings → IsPossible c.limit (text_of c.spec) s f
  pub later : (f : Firing) → IsIn f firings → MarkBefore m (Trying f)
  pub all : (f : Firing) → IsPossible c.limit (text_of c.spec) s f → MarkBefore m (Trying f)
      → IsIn f firings

-- what was dealt with last, and the firings that are left
abbrev pub StageIs : Setup → Situation → Stage → Option Mark → List Firing → Type 0
StageIs c s Fresh dealt firings = (dealt ≡ None) × (firings ≡ [])
StageIs c s Taken dealt firings = (dealt ≡ Some Taking) × (firings ≡ [])
StageIs c s Listed dealt firings =
    (m : Mark) × (dealt ≡ Some m) × MarkBefore Taking m × AreLeft c s m firings

-- the firings that are left where this move was made
abbrev pub AreLeftBelow : Setup → Situation → Move → List Firing → Type 0
AreLeftBelow c s Take firings = firings ≡ []
AreLeftBelow c s (Fire f) firings = AreLeft c s (Trying f) firings

-- the levels below the top, with the moves that were made from them, the situations and all
-- firings that are left there
abbrev pub AreLower : Setup → List Level → List Move → List Situation → List Firing → Type 0
AreLower c [] [] [] firings = Unit {0}
AreLower c (l ∷ ls) (m ∷ h) (s ∷ below) firings =
    (mine : List Firing) × (rest : List Firing) × (firings ≡ mine ++ rest)
    × (length mine ≡ l.left) × IsNode c h s l × AreLeftBelow c s m mine × AreLower c ls h below rest
AreLower c _ _ _ firings = ⊥

-- the search and the world stand at an inner run, after which this was dealt with last
pub record IsAt (c : Setup) (stack : Stack) (v : View Move Firing) (dealt : Option Mark)
    : Type 0 where
  pub mine : List Firing
  pub rest : List Firing
  pub firings_are : v.tries ≡ mine ++ rest
  pub count : length mine ≡ v.top.left
  pub node : IsNode c v.moves stack.now v.top
  pub stage : StageIs c stack.now v.stage dealt mine
  pub lower : AreLower c v.lower v.moves stack.below rest
