-- What a block works on, and what its expressions see.
use Rattle.std.specs.Prelude.{ℕ, Bool, List, Result, Ok, Err}
use Rattle.est_syntax.specs.declared.statement.Statement.{Statement}
use Rattle.mean_blocks.specs.declared.fault.BlockFault.{BlockFault}
use Rattle.mean_blocks.specs.declared.situation.Item.{Item}
use Rattle.mean_blocks.specs.Outcome.{Outcome, Done, Fault, Limit, counted}
use Rattle.mean_blocks.specs.GlobalSituation.{Frame, Situation}
use Rattle.mean_blocks.specs.TextByPlace.{Text}

-- the situation, what was sent out of the system, the frames from the outermost on, and how many
-- statements may be entered yet
pub record State : Type 0 where
  pub situation : Situation
  pub outs : List Item
  pub frames : List Frame
  pub left : ℕ

-- what statements do one level deeper, as those of an instance, within a function or not
abbrev pub Deeper : Type 0
Deeper = ℕ → Bool → List Statement → State → Outcome State (Unit {0})

-- whose statements are executed: of which instance, whether within a function, and what the
-- statements do that calls and initialize parts begin
pub record Site : Type 0 where
  pub text : Text
  pub instance : ℕ
  pub function : Bool
  pub deeper : Deeper

-- what an expression sees, which it cannot change (ISO 7185, 6.7)
pub record View : Type 0 where
  pub site : Site
  pub situation : Situation
  pub frames : List Frame

-- what an expression does: it gives a thing and counts, and leaves nothing else
abbrev pub Counts : Type 0 → Type 0
Counts A = ℕ → Outcome ℕ A

-- what a statement does (ISO 7185, 6.8)
abbrev pub Does : Type 0
Does = State → Outcome State (Unit {0})

-- what expressions see in a state
abbrev pub view : Site → State → View
view site s = record { site = site; situation = s.situation; frames = s.frames }

-- what comes of an evaluation that only counts, in a state
abbrev pub counting : {A : Type 0} → State → Outcome ℕ A → Outcome State A
counting s (Done a n) = Done a (record s { left = n })
counting s (Fault f) = Fault f
counting s Limit = Limit

-- an expression in a statement
abbrev pub evaluated : {A : Type 0} → Site → (View → Counts A) → State → Outcome State A
evaluated site m = λ s. counting s (m (view site s) s.left)

-- a statement, or the beginning of a turn, counts
abbrev pub enter : Does
enter = λ s. counting s (counted s.left)

-- the state with this situation, or a fault
abbrev pub changed_by : State → Result Situation BlockFault → Outcome State (Unit {0})
changed_by s (Ok t) = Done tt (record s { situation = t })
changed_by s (Err f) = Fault f

-- a change of the situation
abbrev pub changes : (Situation → Result Situation BlockFault) → Does
changes change = λ s. changed_by s (change s.situation)
