-- Instances are numbered up to the greatest number that one may have.
use Rattle.std.proofs.Common.{◌≡◌, refl, sym, ap, subst, arith, ℕ, ◌+◌, ◌≤◌, nat_lt}
use Rattle.std.proofs.Common.{Bool, true, false, ◌||◌, List, Option, Some, None, Result, Ok, Err}
use Rattle.std.proofs.Common.{is_some}
use Rattle.std.specs.Prelude.{if◌then◌else◌}
use Rattle.std.specs.Option.{option_map_or}
use Rattle.std.proofs.lemmas.Bool.{ltb-false}
use Rattle.mean_blocks.specs.declared.fault.BlockFault.{BlockFault}
use Rattle.mean_blocks.specs.declared.situation.InteractionPoint.{InteractionPoint}
use Rattle.mean_blocks.specs.Outcome.{on_ok}
use Rattle.mean_blocks.specs.TextByPlace.{Text, text_of}
use Rattle.mean_blocks.specs.GlobalSituation.{Frame, Situation, is_point}
use Rattle.mean_blocks.specs.FunctionCalls.{frame_of}
use Rattle.mean_blocks.specs.InstancePoints.{external_of}
use Rattle.mean_blocks.specs.Attachments.{up}
use Rattle.mean_blocks.specs.QueueEffects.{without_head}
use Rattle.mean_blocks.specs.OutputEffects.{crossed}
use Rattle.mean_blocks.specs.LinkEffects.{is_taken, each}
use Rattle.mean_blocks.specs.InstanceEffects.{most_instances, variables_of, untied}
use Rattle.mean_blocks.specs.KeepingLaws.{OnChange, Keeps, BlocksKeep}
use Rattle.mean_blocks.proofs.KeptByBlocks.{blocks_keep}
use Rattle.est_meaning.specs.declared.event.Event.{Event}
use Rattle.est_meaning.specs.declared.firing.Firing.{Firing}
use Rattle.est_meaning.specs.FiringSteps.{outcome, taking_point}
use Rattle.est_meaning.specs.OutsideEvents.{after_event}
use Rattle.est_meaning.proofs.Outside.{events_are_outside}
use Rattle.est_meaning.proofs.Steps.{firing_leads, start_leads}
use Rattle.mean_blocks.specs.Outcome.{Done}
use Rattle.est_meaning.specs.Run.{Setup, IsBegun}
use Rattle.est_meaning.proofs.RunRows.{rows_in_order}
use Rattle.law_runs.proofs.OrderlyRuns.{in_each}
use Rattle.law_runs.proofs.RowLaws.{living_number}
use Rattle.law_runs.proofs.SameRows.{HasSameRows, crossed_rows, parted_rows, end_rows, each_rows}
use Rattle.law_numbers.specs.WritableLaws.{InstancesAreFew}

-- BLOCKS

-- the number of the next instance is one more than the greatest at most
abbrev HasFew : Situation → Type 0
HasFew s = s.next ≤ most_instances + 1

-- so it is after a change where it was so before
abbrev KeepsFew : Situation → Situation → Type 0
KeepsFew s u = HasFew s → HasFew u

same_few : (s u : Situation) → HasSameRows s u → KeepsFew s u
same_few s u h k = subst (λ n. n ≤ most_instances + 1) (sym h.next) k

few_if : (s : Situation) (b : Bool) (x y : Result Situation BlockFault)
    → (b ≡ true → OnChange KeepsFew s x) → (b ≡ false → OnChange KeepsFew s y)
    → OnChange KeepsFew s (if b then x else y)
few_if s true x y h k = h refl
few_if s false x y h k = k refl

born_few : (s : Situation) (r : Result Frame BlockFault) (go : Frame → Situation)
    → ((f : Frame) → KeepsFew s (go f)) → OnChange KeepsFew s (on_ok r (λ f. Ok (go f)))
born_few s (Ok f) go h = h f
born_few s (Err f) go h = tt

-- each change keeps it: where the numbers are used up, no instance is begun
few_kept : (t : Text) → Keeps t KeepsFew
few_kept t = record {
  same = λ s h. h;
  after = λ r s u h k x. k (h x);
  writes = λ n f s h. h;
  states = λ n p s h. h;
  sends = λ i x. let q = up t x.situation i.at in
      same_few x.situation (crossed t i q (x.situation.peer q) x).situation
      (crossed_rows t i q (x.situation.peer q) x);
  connects = λ p q s. few_if s (is_point p q) _ _ (λ e. tt)
      (λ e. few_if s (is_taken t s p || is_taken t s q) _ _ (λ f. tt) (λ f h. h));
  attaches = λ e c s. few_if s (is_some (s.down e) || is_taken t s c) _ _ (λ f. tt) (λ f h. h);
  disconnects = λ p s. same_few s _ (parted_rows p (s.peer p) s);
  detaches = λ n p s. same_few s _ (end_rows t n p s);
  releases = λ n s h. same_few s (each (untied t) (external_of t.outline s n) s)
      (each_rows t (external_of t.outline s n) s) h;
  begins = λ parent e body xs s. few_if s (nat_lt most_instances s.next) _ _ (λ b. tt)
      (λ b. born_few s (frame_of t.outline (variables_of t.outline body) xs) _
      (λ f h. let l = ltb-false most_instances s.next b in omega (arith, l)));
}

blocks_keep_few : BlocksKeep KeepsFew
blocks_keep_few = blocks_keep KeepsFew few_kept

-- RUNS

taken_few : (t : Text) (o : Option InteractionPoint) (s : Situation) → HasFew s
    → HasFew (option_map_or (λ p. without_head t p s) o s)
taken_few t None s h = h
taken_few t (Some p) s h = h

start_few : (c : Setup) → IsBegun c → HasFew c.start
start_few c = start_leads KeepsFew HasFew blocks_keep_few c.limit (text_of c.spec) c.start
    c.start_outs (λ u g. g (omega arith))

event_few : (t : Text) (s : Situation) (e : Event) → HasFew s → HasFew (after_event t s e)
event_few t s e h =
    subst (λ n. n ≤ most_instances + 1) (sym (events_are_outside.leaves t s e).next) h

firing_few : (limit : ℕ) (t : Text) (s next : Situation) (f : Firing) (outs : List Event)
    → outcome limit t s f ≡ Done outs next → HasFew s → HasFew next
firing_few limit t s next f outs e h =
    firing_leads KeepsFew HasFew blocks_keep_few limit t s next f outs
    (λ c _ u g. g (taken_few t (taking_point limit t s c) s h)) e

pub instances_few : InstancesAreFew
instances_few c run p begun is number row found =
    let t = text_of c.spec in
    let few = in_each c HasFew (start_few c) (event_few t) (firing_few c.limit t) run p begun is in
    let order = (rows_in_order c run p begun is).numbers in
    let below = (living_number 1 p.situation.next p.situation.rows number order.1
    (ap is_some found)).1 in
    omega (arith, few, below)
