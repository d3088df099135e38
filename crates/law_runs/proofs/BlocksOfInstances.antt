-- What the changes of situations keep that statements make, every block of an instance keeps,
-- whatever its frames name.
use Rattle.std.proofs.Common.{◌≡◌, ℕ, true, false, List, [], ◌∷◌, ◌++◌, Option, Ok, length}
use Rattle.std.specs.Prelude.{◌-◌, slice_set, take}
use Rattle.std.specs.List.{AllByRecursion}
use Rattle.est_syntax.specs.declared.body.FirstPart.{FirstPart}
use Rattle.est_syntax.specs.declared.statement.Statement.{Statement, Row_of-Statement}
use Rattle.est_syntax.specs.declared.statement.Statement.{end_of-Statement, more_of-Statement}
use Rattle.est_syntax.specs.declared.statement.Statement.{Held-Statement-If-2}
use Rattle.est_syntax.specs.declared.statement.Statement.{Row_of-Arm, end_of-Arm, more_of-Arm}
use Rattle.est_syntax.specs.declared.statement.Statement.TheBlock as block
use Rattle.est_syntax.specs.declared.statement.Statement.TheVariants as statement
use Rattle.est_values.specs.declared.value.Value.{Value}
use Rattle.rule_scope.specs.Outline.{Outline}
use Rattle.mean_blocks.specs.declared.frame.Slot.{Slot}
use Rattle.mean_blocks.specs.declared.frame.Slot.TheVariants as slot
use Rattle.mean_blocks.specs.declared.situation.Element.{Element}
use Rattle.mean_blocks.specs.declared.situation.InteractionPoint.{InteractionPoint}
use Rattle.mean_blocks.specs.declared.situation.Item.{Item}
use Rattle.mean_blocks.specs.Outcome.{Outcome}
use Rattle.mean_blocks.specs.TextByPlace.{Text, first_statements, statements_of}
use Rattle.mean_blocks.specs.GlobalSituation.{Frame, Situation, with_row, lives}
use Rattle.mean_blocks.specs.Frames.{with_value, frame_at}
use Rattle.mean_blocks.specs.WorkingState.{State, Deeper}
use Rattle.mean_blocks.specs.InstancePoints.{children_of}
use Rattle.mean_blocks.specs.LinkEffects.{connected, attached, disconnected, detached_end}
use Rattle.mean_blocks.specs.InstanceEffects.{born, in_state, released}
use Rattle.mean_blocks.specs.WriteEffects.{with_variables}
use Rattle.mean_blocks.specs.LoopEffects.{naming}
use Rattle.mean_blocks.specs.StatementEffects.{initialized, statements_in}
use Rattle.mean_blocks.specs.BlockLevels.{within, site}
use Rattle.law_runs.specs.AttachTargets.{Targets, RowTargets, SecondTargets, ArmTargets}
use Rattle.law_runs.specs.AttachTargets.{BlockTargets, BegunTargets}
use Rattle.law_runs.specs.UpkeepLaws.{OnDone, IsPlain}
use Rattle.law_runs.proofs.GivenThings.{OnGood}
use Rattle.law_runs.proofs.Executions.{with_situation, with_sent, held_child, IsEnd}
use Rattle.law_runs.proofs.Executions.{Execution, alone, FramedUpkeep}
use Rattle.law_runs.proofs.BlocksOfExecutions as executions

-- What a state and an instance whose statements are executed have to one another, and what later
-- situations have to earlier ones, is kept by each change. `D` says what a child is that is
-- reached, `C` what one is that a loop names.
pub record Upkeep (t : Text) (P : ℕ → State → Type 0) (K : Situation → Situation → Type 0)
    (D : ℕ → Situation → ℕ → Type 0) (C : ℕ → ℕ → Type 0) : Type 0 where
  pub same : (s : Situation) → K s s
  pub after : (r s u : Situation) → K r s → K s u → K r u
  -- frames
  pub counts : (n : ℕ) (s : State) (l : ℕ) → P n s → P n (record s { left = l })
  pub opens : (n : ℕ) (s : State) (f : Frame) → IsPlain f → P n s
      → P n (record s { frames = s.frames ++ f ∷ [] })
  pub names : (n : ℕ) (s : State) (p i : ℕ) → C n i → lives s.situation i ≡ true → P n s
      → P n (record s { frames = s.frames ++ naming p (slot.Instance i) ∷ [] })
  pub closes : (n : ℕ) (s : State) → P n s
      → P n (record s { frames = take (length s.frames - 1) s.frames })
  pub alters : (n : ℕ) (s : State) (k d : ℕ) (v : Value) → P n s
      → P n (record s { frames = slice_set s.frames k (with_value d v (frame_at s.frames k)) })
  -- what is reached
  pub reaches : (n : ℕ) (s : State) (p : ℕ) (e : Element) → P n s
      → OnGood (D n s.situation) (held_child n s p e)
  pub children : (n : ℕ) (s : State) (h : ℕ) → P n s
      → AllByRecursion (C n) (children_of t.outline s.situation n h)
  -- changes
  pub writes : (n i : ℕ) (f : Frame) (s : State) → P n s
      → P n (with_situation s (with_variables i f s.situation))
      × K s.situation (with_variables i f s.situation)
  pub states : (n i : ℕ) (p : Option ℕ) (s : State) → P n s
      → P n (with_situation s (with_row i (in_state p) s.situation))
      × K s.situation (with_row i (in_state p) s.situation)
  pub sends : (n : ℕ) (i : Item) (s : State) → i.at.instance ≡ n → P n s
      → P n (with_sent t i s) × K s.situation (with_sent t i s).situation
  pub connects : (n : ℕ) (p q : InteractionPoint) (s : State) → IsEnd D n s.situation p
      → IsEnd D n s.situation q → P n s
      → OnGood (λ u. P n (with_situation s u) × K s.situation u) (connected t p q s.situation)
  pub attaches : (n : ℕ) (e c : InteractionPoint) (s : State) → e.instance ≡ n
      → D n s.situation c.instance → P n s
      → OnGood (λ u. P n (with_situation s u) × K s.situation u) (attached t e c s.situation)
  pub disconnects : (n : ℕ) (p : InteractionPoint) (s : State) → P n s
      → P n (with_situation s (disconnected p s.situation))
      × K s.situation (disconnected p s.situation)
  pub detaches : (n : ℕ) (p : InteractionPoint) (s : State) → P n s
      → P n (with_situation s (detached_end t n p s.situation))
      × K s.situation (detached_end t n p s.situation)
  pub releases : (n i : ℕ) (s : State) → D n s.situation i → P n s
      → P n (with_situation s (released t i s.situation)) × K s.situation (released t i s.situation)
  -- a new instance begins, and its parent goes on after its initialize part
  pub begins : (n : ℕ) (e : Element) (body : ℕ) (xs : List Slot) (s : State) → P n s
      → OnGood (λ u. P n (with_situation s u) × P s.situation.next (with_situation s u)
      × K s.situation u) (born t n e body xs s.situation)
  pub returns : (n : ℕ) (e : Element) (body : ℕ) (xs : List Slot) (s : State)
      (u : Situation) (v : State) → P n s → born t n e body xs s.situation ≡ Ok u
      → K u v.situation → P s.situation.next v → P n v

-- ALL STATEMENTS

-- any name
abbrev Any : ℕ → Type 0
Any p = Unit {0}

-- any target, within any `all`s
abbrev Anything : List ℕ → ℕ → Type 0
Anything w p = Unit {0}

module _ (o : Outline) where
  mutual
    any_targets : (x : Statement) (w : List ℕ) → Targets o Any Anything w x
    any_targets (statement.Compound' a turn place) w = any_row turn w
    any_targets (statement.If' e a first second place) w = (any_row first w, any_second second w)
    any_targets (statement.Case' e a arms place) w = any_arms arms w
    any_targets (statement.While' e a turn place) w = any_row turn w
    any_targets (statement.Repeat' a turn until place) w = any_row turn w
    any_targets (statement.For' name first down last a turn place) w = any_row turn w
    any_targets (statement.All' name text a turn place) w = (tt, any_row turn (name.place ∷ w))
    any_targets (statement.Attach own target point place) w = λ p e. tt
    any_targets _ w = tt

    any_row : {m : _} (row : Row_of-Statement m) (w : List ℕ) → RowTargets o Any Anything w row
    any_row end_of-Statement w = tt
    any_row (more_of-Statement x rest) w = (any_targets x w, any_row rest w)

    any_second : (x : Held-Statement-If-2) (w : List ℕ) → SecondTargets o Any Anything w x
    any_second block.None' w = tt
    any_second (block.Some' a row) w = any_row row w

    any_arms : {m : _} (row : Row_of-Arm m) (w : List ℕ) → ArmTargets o Any Anything w row
    any_arms end_of-Arm w = tt
    any_arms (more_of-Arm constants x rest) w = (any_targets x w, any_arms rest w)

  any_block : (xs : List Statement) → BlockTargets o Any Anything xs
  any_block [] = tt
  any_block (x ∷ xs) = (any_targets x [], any_block xs)

any_begun : (t : Text) → BegunTargets t Any Anything
any_begun t = record {
  routines = λ p r e. any_block t.outline (statements_of r);
  initialize_parts = λ p b f e i. any_block t.outline (first_statements f);
}

-- INSTANCES

module _ (t : Text) (P : ℕ → State → Type 0) (K : Situation → Situation → Type 0)
    (D : ℕ → Situation → ℕ → Type 0) (C : ℕ → ℕ → Type 0) (k : Upkeep t P K D C) where
  -- of an execution the instance alone matters
  abbrev Executes : Execution → State → Type 0
  Executes n s = P n.instance s

  abbrev Wherever : List ℕ → Execution → Type 0
  Wherever w n = Unit {0}

  framed_kept : FramedUpkeep t Executes K D D C Any Anything Wherever
  framed_kept = record {
    same = k.same;
    after = k.after;
    blocks = λ w n h. tt;
    alls = λ w n p e i h. tt;
    parts = λ w n i h. tt;
    counts = λ n s l h. k.counts n.instance s l h;
    opens = λ n s f e h. k.opens n.instance s f e h;
    values = λ n s p v h. k.opens n.instance s (naming p (slot.Value v)) (tt, tt) h;
    names = λ n s p i c e h. k.names n.instance s p i c e h;
    closes = λ n s h. k.closes n.instance s h;
    closes_all = λ n s p h. k.closes n.instance s h;
    alters = λ n s m d v h. k.alters n.instance s m d v h;
    reaches = λ n s p e h. k.reaches n.instance s p e h;
    targets = λ w n s p e a i h. k.reaches n.instance s p e h;
    children = λ n s h g. k.children n.instance s h g;
    writes = λ n i f s h. k.writes n.instance i f s h;
    states = λ n i p s h. k.states n.instance i p s h;
    sends = λ n i s e h. k.sends n.instance i s e h;
    connects = λ n p q s a b h. k.connects n.instance p q s a b h;
    attaches = λ n e c s a b h. k.attaches n.instance e c s a b h;
    disconnects = λ n p s h. k.disconnects n.instance p s h;
    detaches = λ n p s h. k.detaches n.instance p s h;
    releases = λ n i s d h. k.releases n.instance i s d h;
    begins = λ n e body xs s h. k.begins n.instance e body xs s h;
    returns = λ n e body xs s u v h b g i. k.returns n.instance e body xs s u v h b g i;
  }

  -- what statements keep
  abbrev pub Keeping : ℕ → (State → Outcome State (Unit {0})) → Type 0
  Keeping n m = (s : State) → P n s → OnDone (λ u. P n u × K s.situation u.situation) (m s)

  pub initialized_keeps : (n : ℕ) (d : Deeper)
      → ((i : ℕ) (xs : List Statement) → Keeping i (d i false xs)) → (i : ℕ) (x : Option FirstPart)
      → Keeping i (initialized i x
      (record { text = t; instance = n; function = false; deeper = d }))
  initialized_keeps n d deep i x = executions.initialized_keeps t Executes K D D C Any Anything
      Wherever (any_begun t) framed_kept [] (alone n) d (λ v xs a f. deep v.instance xs) tt i x
      (λ f e. any_block t.outline (first_statements f))

  -- the statements that statements begin
  pub deeper_keep : (levels n : ℕ) (xs : List Statement) → Keeping n (within levels t n false xs)
  deeper_keep levels n xs = executions.within_keeps t Executes K D D C Any Anything Wherever
      (any_begun t) framed_kept levels (alone n) xs tt (any_block t.outline xs)

  pub instance_keeps : (n levels : ℕ) (xs : List Statement)
      → Keeping n (statements_in xs (site t n false levels))
  instance_keeps n levels xs = executions.execution_keeps t Executes K D D C Any Anything Wherever
      (any_begun t) framed_kept levels (alone n) xs tt (any_block t.outline xs)
