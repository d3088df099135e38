-- Blocks leave attachments that lead to younger instances.
use Rattle.std.proofs.Common.{sym, subst, ℕ, ◌<◌, Bool, true, false, List, Option, Some, None}
use Rattle.std.proofs.Common.{Result, Ok, Err}
use Rattle.std.specs.Prelude.{if◌then◌else◌}
use Rattle.mean_blocks.specs.declared.fault.BlockFault.{BlockFault}
use Rattle.mean_blocks.specs.declared.fault.BlockFault.TheVariants.{NoModule}
use Rattle.mean_blocks.specs.declared.frame.Slot.TheVariants as slot
use Rattle.mean_blocks.specs.declared.situation.Element.{Element}
use Rattle.mean_blocks.specs.Outcome.{Outcome, Done, Fault, Limit}
use Rattle.mean_blocks.specs.TextByPlace.{Text}
use Rattle.mean_blocks.specs.GlobalSituation.{Situation, lives}
use Rattle.mean_blocks.specs.WorkingState.{State}
use Rattle.mean_blocks.specs.ReachedVariables.{living, held_in}
use Rattle.mean_blocks.specs.Attachments.{up}
use Rattle.mean_blocks.specs.OutputEffects.{Sent}
use Rattle.mean_blocks.specs.BlockLevels.{site}
use Rattle.mean_blocks.specs.StatementEffects.{statements_in}
use Rattle.law_runs.specs.ClimbLaws.{LeadToYounger}
use Rattle.law_runs.specs.UpkeepLaws.{OnDone}
use Rattle.law_runs.proofs.BlocksOfExecutions.{execution_keeps}
use Rattle.law_runs.proofs.Executions.{Execution, alone, of_child, FramedUpkeep}
use Rattle.law_runs.proofs.Executions.{with_situation, held_child}
use Rattle.law_runs.proofs.FittingFrames.{OnNumber, plain_frames}
use Rattle.law_runs.proofs.GivenThings.{OnGood}
use Rattle.law_runs.proofs.OrderlyBlocks.{reached_younger, child_younger}
use Rattle.law_runs.proofs.ParentsOlder.{InAge, Later, age_kept, good_unit}
use Rattle.law_runs.specs.InsideTargets.{IsInside}
use Rattle.law_runs.specs.NamesOfAlls.{IsOfAll}
use Rattle.law_runs.specs.YoungerLaws.{BlocksLeadToYounger}
use Rattle.law_runs.proofs.OwnFrames.{Younger, NoInstance, Matches, opened_block, opened_all}
use Rattle.law_runs.proofs.OwnFrames.{closed_block, closed_all, altered_matches, found_younger}
use Rattle.law_runs.proofs.OwnFrames.{StandsAround, around_none, around_block, around_part}
use Rattle.law_runs.proofs.OwnFrames.{around_all, sees_inside}
use Rattle.law_runs.proofs.YoungerLinks.{crossed_leads, connected_leads, attached_leads}
use Rattle.law_runs.proofs.YoungerLinks.{disconnected_leads, end_leads, released_leads}
use Rattle.law_runs.proofs.YoungerLinks.{born_leads}

-- An instance that was begun executes within frames of a stack, where instances are in their age
-- and attachments lead to younger ones.
pub record IsInOrder (n : Execution) (s : State) : Type 0 where
  pub age : InAge n.instance s
  pub younger : LeadToYounger s.situation
  pub frames : Matches n.stack s.frames

-- with another situation
changed : (n : Execution) (s : State) (u : Situation)
    → InAge n.instance (with_situation s u) × Later s.situation u → LeadToYounger u → IsInOrder n s
    → IsInOrder n (with_situation s u) × Later s.situation u
changed n s u a l h = (record { age = a.0; younger = l; frames = h.frames }, a.1)

-- a change that may have a fault
changed_good : (n : Execution) (s : State) (r : Result Situation BlockFault)
    → OnGood (λ u. InAge n.instance (with_situation s u) × Later s.situation u) r
    → OnGood LeadToYounger r → IsInOrder n s
    → OnGood (λ u. IsInOrder n (with_situation s u) × Later s.situation u) r
changed_good n s (Ok u) a l h = changed n s u a l h
changed_good n s (Err f) a l h = tt

begun_good : (n m : Execution) (s : State) (r : Result Situation BlockFault)
    → OnGood (λ u. InAge n.instance (with_situation s u) × InAge m.instance (with_situation s u)
    × Later s.situation u) r
    → OnGood LeadToYounger r → Matches n.stack s.frames → Matches m.stack s.frames
    → OnGood (λ u. IsInOrder n (with_situation s u) × IsInOrder m (with_situation s u)
    × Later s.situation u) r
begun_good n m s (Ok u) a l f g = (
  record { age = a.0; younger = l; frames = f },
  record { age = a.1; younger = l; frames = g },
  a.2,
)
begun_good n m s (Err x) a l f g = tt

-- a living instance that is younger
living_younger : (n : ℕ) (s : Situation) (o : Option ℕ) → OnNumber (Younger n) o
    → OnGood (Younger n) (living s o)
living_younger n s None h = tt
living_younger n s (Some i) h = one (lives s i)
  where
    one : (b : Bool) → OnGood (Younger n) (if b then Ok i else Err NoModule)
    one true = h
    one false = tt

module _ (t : Text) where
  -- an `attach` leads to a younger instance
  target_younger : (w : List ℕ) (n : Execution) (s : State) (p : ℕ) (e : Element)
      → StandsAround t.spec w n → IsInside t.spec w p → IsInOrder n s
      → OnGood (Younger n.instance) (held_child n.instance s p e)
  target_younger w n s p e a i h = let m = n.instance in
      living_younger m s.situation _
      (found_younger n.stack s.frames m p (held_in s.situation m e) h.frames
      (sees_inside t.spec w n p a i) (reached_younger m e s.situation.rows h.age.1))

  younger_kept : FramedUpkeep t IsInOrder Later (λ n s i. Unit {0}) (λ n s i. n < i)
      (λ n i. n < i) (IsOfAll t.spec) (IsInside t.spec) (StandsAround t.spec)
  younger_kept = let k = age_kept t in record {
    same = k.same;
    after = k.after;
    blocks = λ w n h. around_block t.spec w n h;
    alls = λ w n p e i h. around_all t.spec w n p i h;
    parts = λ w n i h. around_part t.spec w n i h;
    counts = λ n s l h. record { age = h.age; younger = h.younger; frames = h.frames };
    opens = λ n s f e h. record {
      age = h.age;
      younger = h.younger;
      frames = opened_block n.stack s.frames f e h.frames;
    };
    values = λ n s p v h. record {
      age = h.age;
      younger = h.younger;
      frames = opened_all n.stack s.frames p n.instance (slot.Value v) tt h.frames;
    };
    names = λ n s p i c e h. record {
      age = h.age;
      younger = h.younger;
      frames = opened_all n.stack s.frames p n.instance (slot.Instance i) c h.frames;
    };
    closes = λ n s h. record {
      age = h.age;
      younger = h.younger;
      frames = closed_block n.stack s.frames h.frames;
    };
    closes_all = λ n s p h. record {
      age = h.age;
      younger = h.younger;
      frames = closed_all n.stack p n.instance s.frames h.frames;
    };
    alters = λ n s m d v h. record {
      age = h.age;
      younger = h.younger;
      frames = altered_matches n.stack s.frames m d v h.frames;
    };
    reaches = λ n s p e h. good_unit (held_child n.instance s p e);
    targets = λ w n s p e a i h. target_younger w n s p e a i h;
    children = λ n s header h.
        child_younger t.outline n.instance header s.situation.rows h.age.1;
    writes = λ n i f s h. changed n s _ (k.writes n.instance i f s h.age) h.younger h;
    states = λ n i p s h. changed n s _ (k.states n.instance i p s h.age) h.younger h;
    sends = λ n i s e h. let x : Sent = record { situation = s.situation; outs = s.outs } in
        let q = up t s.situation i.at in
        let a = k.sends n.instance i s e h.age in (
          record {
            age = a.0;
            younger = crossed_leads t i q (s.situation.peer q) x h.younger;
            frames = h.frames;
          },
          a.1,
        );
    connects = λ n p q s a b h. changed_good n s _ (k.connects n.instance p q s
        a b h.age)
        (connected_leads t p q s.situation h.younger) h;
    attaches = λ n e c s a l h. changed_good n s _ (k.attaches n.instance e c s a tt h.age)
        (attached_leads t e c s.situation
        (subst (λ m. m < c.instance) (sym a) l) h.younger) h;
    disconnects = λ n p s h. changed n s _ (k.disconnects n.instance p s h.age)
        (disconnected_leads p s.situation h.younger) h;
    detaches = λ n p s h. changed n s _ (k.detaches n.instance p s h.age)
        (end_leads t n.instance p s.situation h.younger) h;
    releases = λ n i s d h. changed n s _ (k.releases n.instance i s d h.age)
        (released_leads t i s.situation h.younger) h;
    begins = λ n e body xs s h. begun_good n (of_child s.situation.next n) s _
        (k.begins n.instance e body xs s h.age)
        (born_leads t n.instance e body xs s.situation h.younger) h.frames h.frames;
    returns = λ n e body xs s u v h b l g. record {
      age = k.returns n.instance e body xs s u v h.age b l g.age;
      younger = g.younger;
      frames = g.frames;
    };
  }

-- THE LAW

younger_done : (n : Execution) (s : State) (o : Outcome State (Unit {0}))
    → OnDone (λ u. IsInOrder n u × Later s.situation u.situation) o
    → OnDone (λ u. LeadToYounger u.situation) o
younger_done n s (Done a u) h = h.0.younger
younger_done n s (Fault f) h = tt
younger_done n s Limit h = tt

pub blocks_lead_to_younger : BlocksLeadToYounger
blocks_lead_to_younger t n levels xs s inside fits begun age names younger =
    let o = t.spec in
    younger_done (alone n) s (statements_in xs (site t n false levels) s)
    (execution_keeps t IsInOrder Later (λ n s i. Unit {0}) (λ n s i. n < i) (λ n i. n < i)
    (IsOfAll o) (IsInside o) (StandsAround o) inside.begun (younger_kept t) levels (alone n) xs
    (around_none o n) fits s (record {
      age = (begun, age);
      younger = younger;
      frames = plain_frames NoInstance s.frames names;
    }))
