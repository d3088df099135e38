-- What a walk knows, where the lists of marks in a set are still ahead.
use Rattle.std.specs.Prelude.{ℕ, Bool, true, false, List, length}
use Rattle.est_meaning.specs.declared.run.Move.{Move}
use Rattle.est_meaning.specs.Order.{Mark, marks_of}
use Rattle.est_meaning.specs.Run.{Setup, Explains, YieldsFirst}
use Rattle.est_meaning.specs.Trials.{PassesLimit}
use Rattle.est_search.specs.inside.Known.{KnowsTrials}

-- what is sought: a run that yields all events, or one that has no more
abbrev pub IsSought : Setup → Bool → List Move → Type 0
IsSought c false run = YieldsFirst c run (length c.trace.events)
IsSought c true run = Explains c run

-- something that passes its limit was met, or all that does is ahead
abbrev pub IsMet : Setup → (List Mark → Type 0) → Bool → Type 0
IsMet c P false = (x : List Mark) → PassesLimit c x → P x
IsMet c P true = (x : List Mark) × PassesLimit c x

-- so many trials were tried, all others are ahead, and so is each run that is sought
pub record Knows (c : Setup) (exact : Bool) (P : List Mark → Type 0) (tried : ℕ) (passed : Bool)
    : Type 0 where
  pub trials : KnowsTrials c P tried
  pub sought : (run : List Move) → IsSought c exact run → P (marks_of run)
  pub met : IsMet c P passed
