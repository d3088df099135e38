-- What blocks keep of the state that they begin in.
use Rattle.std.specs.Prelude.{◌≡◌, ℕ, ◌+◌, ◌<◌, ◌≤◌, Bool, true, List, [], ◌∷◌, Option, Some}
use Rattle.std.specs.Prelude.{Result, Ok, Err}
use Rattle.est_syntax.specs.declared.statement.Statement.{Statement}
use Rattle.mean_blocks.specs.declared.fault.BlockFault.{BlockFault}
use Rattle.mean_blocks.specs.declared.frame.Slot.{Slot}
use Rattle.mean_blocks.specs.declared.situation.Element.{Element}
use Rattle.mean_blocks.specs.declared.situation.InteractionPoint.{InteractionPoint}
use Rattle.mean_blocks.specs.declared.situation.Item.{Item}
use Rattle.mean_blocks.specs.declared.situation.Row.{Row}
use Rattle.mean_blocks.specs.Outcome.{Outcome, Done, Fault, Limit}
use Rattle.mean_blocks.specs.TextByPlace.{Text}
use Rattle.mean_blocks.specs.GlobalSituation.{Frame, Map, Situation, with_row}
use Rattle.mean_blocks.specs.WorkingState.{State, Site}
use Rattle.mean_blocks.specs.OutputEffects.{Sent, sent}
use Rattle.mean_blocks.specs.LinkEffects.{connected, attached, disconnected, detached_end}
use Rattle.mean_blocks.specs.InstanceEffects.{born, in_state, released}
use Rattle.mean_blocks.specs.WriteEffects.{with_variables}
use Rattle.mean_blocks.specs.StatementEffects.{statements_in}
use Rattle.mean_blocks.specs.BlockLevels.{within, site}

-- what comes of an evaluation is related to the state before it, where it is done
abbrev pub Kept : {A : Type 0} → (State → State → Type 0) → State → Outcome State A → Type 0
Kept R s (Done a t) = R s t
Kept R s (Fault f) = Unit {0}
Kept R s Limit = Unit {0}

-- an evaluation that leaves a state related to that before it
abbrev pub Keeping : {A : Type 0} → (State → State → Type 0) → (State → Outcome State A) → Type 0
Keeping R m = (s : State) → Kept R s (m s)

-- FUNCTIONS

-- a state has the same situation as another, and nothing more was sent
abbrev pub IsUnchanged : State → State → Type 0
IsUnchanged s t = (t.situation ≡ s.situation) × (t.outs ≡ s.outs)

-- the statements of a function change no situation and send nothing (ISO 7185, 6.6.2)
abbrev pub StatementsOfFunctionsAreSilent : Type 0
StatementsOfFunctionsAreSilent = (xs : List Statement) (site : Site) → site.function ≡ true
    → Keeping IsUnchanged (statements_in xs site)

-- nor does the block of a function, however many levels are left
abbrev pub FunctionsAreSilent : Type 0
FunctionsAreSilent = (levels : ℕ) (t : Text) (n : ℕ) (xs : List Statement)
    → Keeping IsUnchanged (within levels t n true xs)

-- BLOCKS

-- a change is related to the situation before it, where it has no fault
abbrev pub OnChange : (Situation → Situation → Type 0) → Situation → Result Situation BlockFault
    → Type 0
OnChange R s (Ok u) = R s u
OnChange R s (Err f) = Unit {0}

-- A relation of situations that each change keeps which statements make: it is reflexive and
-- transitive, and what is changed is related to what was before.
pub record Keeps (t : Text) (R : Situation → Situation → Type 0) : Type 0 where
  pub same : (s : Situation) → R s s
  pub after : (r s u : Situation) → R r s → R s u → R r u
  pub writes : (n : ℕ) (f : Frame) (s : Situation) → R s (with_variables n f s)
  pub states : (n : ℕ) (p : Option ℕ) (s : Situation) → R s (with_row n (in_state p) s)
  pub sends : (i : Item) (x : Sent) → R x.situation (sent t i x).situation
  pub connects : (p q : InteractionPoint) (s : Situation) → OnChange R s (connected t p q s)
  pub attaches : (p q : InteractionPoint) (s : Situation) → OnChange R s (attached t p q s)
  pub disconnects : (p : InteractionPoint) (s : Situation) → R s (disconnected p s)
  pub detaches : (n : ℕ) (p : InteractionPoint) (s : Situation) → R s (detached_end t n p s)
  pub releases : (n : ℕ) (s : Situation) → R s (released t n s)
  pub begins : (parent : ℕ) (e : Element) (body : ℕ) (xs : List Slot) (s : Situation)
      → OnChange R s (born t parent e body xs s)

-- the situations of two states are related
abbrev pub Between : (Situation → Situation → Type 0) → State → State → Type 0
Between R s t = R s.situation t.situation

-- the statements of an instance keep a relation, within a function or not, however many levels are
-- left
abbrev pub BlocksKeep : (Situation → Situation → Type 0) → Type 0
BlocksKeep R = (t : Text) (n : ℕ) (function : Bool) (levels : ℕ) (xs : List Statement)
    → Keeping (Between R) (statements_in xs (site t n function levels))

-- NUMBERS AND THE CLOCK

-- the numbers of instances ascend from one on, and stay below another
abbrev pub AscendBelow : ℕ → ℕ → List Row → Type 0
AscendBelow least next [] = Unit {0}
AscendBelow least next (r ∷ rs) =
    (least ≤ r.number) × (r.number < next) × AscendBelow (r.number + 1) next rs

-- the living instances stand in ascending number, from 1 on, below the number of the next one
abbrev pub AreNumbered : Situation → Type 0
AreNumbered s = (1 ≤ s.next) × AscendBelow 1 s.next s.rows

-- A situation goes over into another one without any time passing: no number is used again, and
-- the instances stay in ascending number.
pub record GoesOver (s u : Situation) : Type 0 where
  pub clock : u.clock ≡ s.clock
  pub next : s.next ≤ u.next
  pub numbers : AreNumbered s → AreNumbered u

-- every block lets its situation go over so
abbrev pub SituationsGoOver : Type 0
SituationsGoOver = BlocksKeep GoesOver

-- CONNECTIONS

-- links that lead both ways
abbrev pub AreMutual : Map InteractionPoint InteractionPoint → Type 0
AreMutual m = (p q : InteractionPoint) → m p ≡ Some q → m q ≡ Some p

-- where the connections of a situation lead both ways, those of another do
abbrev pub KeepsPeers : Situation → Situation → Type 0
KeepsPeers s u = AreMutual s.peer → AreMutual u.peer

-- every block leaves connections that lead both ways
abbrev pub PeersStayMutual : Type 0
PeersStayMutual = BlocksKeep KeepsPeers
