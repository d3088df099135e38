-- What a search knows, where the lists of marks in a set are still ahead.
use Rattle.std.specs.Prelude.{◌≡◌, ℕ, ◌<◌, ◌⊎◌, List, Option, Some, None, length}
use Rattle.est_syntax.specs.Least.{IsIn}
use Rattle.est_meaning.specs.declared.run.Move.{Move}
use Rattle.est_meaning.specs.Order.{Mark, marks_of, Before, NotAfter, IsEarliest}
use Rattle.est_meaning.specs.Run.{Setup, Explains, YieldsFirst}
use Rattle.est_meaning.specs.Trials.{IsTrial, AreDistinct, PassesLimit, Faults}

-- so many trials were tried, all others are ahead
pub record KnowsTrials (c : Setup) (P : List Mark → Type 0) (tried : ℕ) : Type 0 where
  pub trials : List (List Move)
  pub count : length trials ≡ tried
  pub distinct : AreDistinct trials
  pub each : (x : List Move) → IsIn x trials → IsTrial c x
  pub all : (x : List Move) → IsTrial c x → IsIn x trials ⊎ P (marks_of x)
  pub earlier : (x : List Move) (y : List Mark) → IsIn x trials → P y → Before (marks_of x) y

-- the run is the first that yields so much, and all that yield more are ahead
pub record KnowsBest (c : Setup) (P : List Mark → Type 0) (most : ℕ) (run : List Move)
    : Type 0 where
  pub has : YieldsFirst c run most
  pub least : (r : List Move) → YieldsFirst c r most → NotAfter run r
  pub more : (r : List Move) (k : ℕ) → YieldsFirst c r k → most < k → P (marks_of r)

-- the first of a kind was noted, or all of that kind are ahead
abbrev pub IsNoted : (K P : List Mark → Type 0) → Option (List Mark) → Type 0
IsNoted K P None = (x : List Mark) → K x → P x
IsNoted K P (Some x) = IsEarliest K x

-- all of this
pub record Knows (c : Setup) (P : List Mark → Type 0) (tried most : ℕ) (run : List Move)
    (passed faulted : Option (List Mark)) : Type 0 where
  pub trials : KnowsTrials c P tried
  pub explaining : (r : List Move) → Explains c r → P (marks_of r)
  pub best : KnowsBest c P most run
  pub passes : IsNoted (PassesLimit c) P passed
  pub faults : IsNoted (Faults c) P faulted
