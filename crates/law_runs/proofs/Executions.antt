-- What executes statements: an instance, within the frames of the blocks and `all`s that led to
-- them; and what changes keep of it.
use Rattle.std.proofs.Common.{◌≡◌, ℕ, true, List, [], ◌∷◌, ◌++◌, Option, Result, length}
use Rattle.std.proofs.Common.{is_some, Ok}
use Rattle.std.specs.Prelude.{◌-◌, ◌⊎◌, slice_set, take}
use Rattle.std.specs.List.{AllByRecursion}
use Rattle.est_values.specs.declared.value.Value.{Value}
use Rattle.rule_scope.specs.Outline.{entry_at}
use Rattle.mean_blocks.specs.declared.fault.BlockFault.{BlockFault}
use Rattle.mean_blocks.specs.declared.frame.Slot.{Slot}
use Rattle.mean_blocks.specs.declared.frame.Slot.TheVariants as slot
use Rattle.mean_blocks.specs.declared.situation.Element.{Element}
use Rattle.mean_blocks.specs.declared.situation.InteractionPoint.{InteractionPoint}
use Rattle.mean_blocks.specs.declared.situation.Item.{Item}
use Rattle.mean_blocks.specs.TextByPlace.{Text}
use Rattle.mean_blocks.specs.GlobalSituation.{Frame, Situation, with_row, lives}
use Rattle.mean_blocks.specs.Frames.{with_value, frame_at, found}
use Rattle.mean_blocks.specs.WorkingState.{State}
use Rattle.mean_blocks.specs.ReachedVariables.{living, instance_by, held_in}
use Rattle.mean_blocks.specs.InstancePoints.{children_of}
use Rattle.mean_blocks.specs.OutputEffects.{sent}
use Rattle.mean_blocks.specs.LinkEffects.{connected, attached, disconnected, detached_end}
use Rattle.mean_blocks.specs.InstanceEffects.{born, in_state, released}
use Rattle.mean_blocks.specs.WriteEffects.{with_variables}
use Rattle.mean_blocks.specs.LoopEffects.{naming}
use Rattle.law_runs.specs.UpkeepLaws.{IsPlain}
use Rattle.law_runs.proofs.GivenThings.{OnGood}

-- the state with another situation
abbrev pub with_situation : State → Situation → State
with_situation s u = record s { situation = u }

-- the state after an item was sent
abbrev pub with_sent : Text → Item → State → State
with_sent t i s = let x = sent t i (record { situation = s.situation; outs = s.outs }) in
    record s { situation = x.situation; outs = x.outs }

-- the instance that a module variable of an instance holds
abbrev pub held_child : ℕ → State → ℕ → Element → Result ℕ BlockFault
held_child n s p e = living s.situation (instance_by (found p s.frames) (held_in s.situation n e))

-- an interaction point of this instance, or of one that is reached from it
abbrev pub IsEnd : (ℕ → Situation → ℕ → Type 0) → ℕ → Situation → InteractionPoint → Type 0
IsEnd D n s p = (p.instance ≡ n) ⊎ D n s p.instance

-- Frames, the innermost first: that of a block, which names no instance, or that of an `all`, with
-- the place of its name, and the instance that executes it.
pub data Stack : Type 0 where
  Bottom : Stack
  BlockFrame : Stack → Stack
  AllFrame : ℕ → ℕ → Stack → Stack

-- an instance within frames
pub record Execution : Type 0 where
  pub instance : ℕ
  pub stack : Stack

-- an instance that executes within no frame
abbrev pub alone : ℕ → Execution
alone n = record { instance = n; stack = Bottom }

-- the same instance within the frame of a block more, or of an `all`
abbrev pub within_block : Execution → Execution
within_block n = record { instance = n.instance; stack = BlockFrame n.stack }

abbrev pub within_all : ℕ → Execution → Execution
within_all p n = record { instance = n.instance; stack = AllFrame p n.instance n.stack }

-- another instance within these frames, as a child is whose initialize part is executed
abbrev pub of_child : ℕ → Execution → Execution
of_child i n = record { instance = i; stack = n.stack }

-- What a state and an execution have to one another, and what later situations have to earlier
-- ones, is kept by each change. `D` says what a child is that is reached, `E` what one is to which
-- an `attach` leads, and `C` what one is that a loop names; `Around` says within which frames
-- statements stand that have these names of `all`s around them.
pub record FramedUpkeep (t : Text) (P : Execution → State → Type 0)
    (K : Situation → Situation → Type 0) (D E : ℕ → Situation → ℕ → Type 0) (C : ℕ → ℕ → Type 0)
    (IsNaming : ℕ → Type 0) (IsTarget : List ℕ → ℕ → Type 0)
    (Around : List ℕ → Execution → Type 0) : Type 0 where
  pub same : (s : Situation) → K s s
  pub after : (r s u : Situation) → K r s → K s u → K r u
  -- what is around statements
  pub blocks : (w : List ℕ) (n : Execution) → Around w n → Around [] (within_block n)
  pub alls : (w : List ℕ) (n : Execution) (p : ℕ) → is_some (entry_at t.outline p) ≡ true
      → IsNaming p → Around w n → Around (p ∷ w) (within_all p n)
  pub parts : (w : List ℕ) (n : Execution) (i : ℕ) → Around w n
      → Around [] (within_block (of_child i n))
  -- frames
  pub counts : (n : Execution) (s : State) (l : ℕ) → P n s → P n (record s { left = l })
  pub opens : (n : Execution) (s : State) (f : Frame) → IsPlain f → P n s
      → P (within_block n) (record s { frames = s.frames ++ f ∷ [] })
  pub values : (n : Execution) (s : State) (p : ℕ) (v : Value) → P n s
      → P (within_all p n) (record s { frames = s.frames ++ naming p (slot.Value v) ∷ [] })
  pub names : (n : Execution) (s : State) (p i : ℕ) → C n.instance i
      → lives s.situation i ≡ true → P n s
      → P (within_all p n) (record s { frames = s.frames ++ naming p (slot.Instance i) ∷ [] })
  pub closes : (n : Execution) (s : State) → P (within_block n) s
      → P n (record s { frames = take (length s.frames - 1) s.frames })
  pub closes_all : (n : Execution) (s : State) (p : ℕ) → P (within_all p n) s
      → P n (record s { frames = take (length s.frames - 1) s.frames })
  pub alters : (n : Execution) (s : State) (k d : ℕ) (v : Value) → P n s
      → P n (record s { frames = slice_set s.frames k (with_value d v (frame_at s.frames k)) })
  -- what is reached
  pub reaches : (n : Execution) (s : State) (p : ℕ) (e : Element) → P n s
      → OnGood (D n.instance s.situation) (held_child n.instance s p e)
  pub targets : (w : List ℕ) (n : Execution) (s : State) (p : ℕ) (e : Element) → Around w n
      → IsTarget w p → P n s → OnGood (E n.instance s.situation) (held_child n.instance s p e)
  pub children : (n : Execution) (s : State) (h : ℕ) → P n s
      → AllByRecursion (C n.instance) (children_of t.outline s.situation n.instance h)
  -- changes
  pub writes : (n : Execution) (i : ℕ) (f : Frame) (s : State) → P n s
      → P n (with_situation s (with_variables i f s.situation))
      × K s.situation (with_variables i f s.situation)
  pub states : (n : Execution) (i : ℕ) (p : Option ℕ) (s : State) → P n s
      → P n (with_situation s (with_row i (in_state p) s.situation))
      × K s.situation (with_row i (in_state p) s.situation)
  pub sends : (n : Execution) (i : Item) (s : State) → i.at.instance ≡ n.instance → P n s
      → P n (with_sent t i s) × K s.situation (with_sent t i s).situation
  pub connects : (n : Execution) (p q : InteractionPoint) (s : State)
      → IsEnd D n.instance s.situation p → IsEnd D n.instance s.situation q → P n s
      → OnGood (λ u. P n (with_situation s u) × K s.situation u) (connected t p q s.situation)
  pub attaches : (n : Execution) (e c : InteractionPoint) (s : State) → e.instance ≡ n.instance
      → E n.instance s.situation c.instance → P n s
      → OnGood (λ u. P n (with_situation s u) × K s.situation u) (attached t e c s.situation)
  pub disconnects : (n : Execution) (p : InteractionPoint) (s : State) → P n s
      → P n (with_situation s (disconnected p s.situation))
      × K s.situation (disconnected p s.situation)
  pub detaches : (n : Execution) (p : InteractionPoint) (s : State) → P n s
      → P n (with_situation s (detached_end t n.instance p s.situation))
      × K s.situation (detached_end t n.instance p s.situation)
  pub releases : (n : Execution) (i : ℕ) (s : State) → D n.instance s.situation i → P n s
      → P n (with_situation s (released t i s.situation)) × K s.situation (released t i s.situation)
  -- a new instance begins, and its parent goes on after its initialize part
  pub begins : (n : Execution) (e : Element) (body : ℕ) (xs : List Slot) (s : State) → P n s
      → OnGood (λ u. P n (with_situation s u) × P (of_child s.situation.next n) (with_situation s u)
      × K s.situation u) (born t n.instance e body xs s.situation)
  pub returns : (n : Execution) (e : Element) (body : ℕ) (xs : List Slot) (s : State)
      (u : Situation) (v : State) → P n s → born t n.instance e body xs s.situation ≡ Ok u
      → K u v.situation → P (of_child s.situation.next n) v → P n v
