-- Items wait in the queues of the interaction points to which they belong.
use Rattle.std.proofs.Common.{◌≡◌, refl, ap, subst, ℕ, nat_eq, nat_lt, Bool, true, false}
use Rattle.std.proofs.Common.{◌||◌, List, [], ◌∷◌, ◌++◌, map, Option, Some, None, Result, Ok, Err}
use Rattle.std.proofs.Common.{is_some}
use Rattle.std.specs.Prelude.{if◌then◌else◌, not, drop}
use Rattle.std.specs.List.{filter, AllByRecursion}
use Rattle.std.specs.Option.{option_map_or}
use Rattle.std.proofs.lemmas.Bool.{eqb-true}
use Rattle.est_syntax.specs.declared.body.Block.{out-Block}
use Rattle.est_syntax.specs.declared.statement.Statement.{Statement}
use Rattle.mean_blocks.specs.declared.fault.BlockFault.{BlockFault}
use Rattle.mean_blocks.specs.declared.fault.BlockFault.TheVariants.{Undefined}
use Rattle.mean_blocks.specs.declared.situation.InteractionPoint.{InteractionPoint}
use Rattle.mean_blocks.specs.declared.situation.Item.{Item}
use Rattle.mean_blocks.specs.Outcome.{Outcome, Done, Fault, Limit, on_ok}
use Rattle.mean_blocks.specs.TextByPlace.{Text, text_of}
use Rattle.mean_blocks.specs.GlobalSituation.{Frame, Situation, QueueName, Own, Shared}
use Rattle.mean_blocks.specs.GlobalSituation.{is_point, is_queue, with_queue, with_row}
use Rattle.mean_blocks.specs.FunctionCalls.{frame_of}
use Rattle.mean_blocks.specs.WorkingState.{State}
use Rattle.mean_blocks.specs.InstancePoints.{external_of, children_of}
use Rattle.mean_blocks.specs.Attachments.{above, up, bottom}
use Rattle.mean_blocks.specs.QueueEffects.{queue_of, appended, belongs, passed_to, emptied, moved}
use Rattle.mean_blocks.specs.QueueEffects.{without_head}
use Rattle.mean_blocks.specs.OutputEffects.{Sent, arrived, crossed, is_outside}
use Rattle.mean_blocks.specs.LinkEffects.{is_taken, parted, loosened, detached, detached_from}
use Rattle.mean_blocks.specs.LinkEffects.{detached_above, detached_end, each}
use Rattle.mean_blocks.specs.InstanceEffects.{most_instances, variables_of, with_next, holds}
use Rattle.mean_blocks.specs.InstanceEffects.{is_among, descendants, owner, untied, without}
use Rattle.mean_blocks.specs.BlockLevels.{beginning, block_meaning, left_by, most_levels}
use Rattle.mean_blocks.specs.StartMeaning.{no_instances, start_before}
use Rattle.mean_blocks.proofs.MutualPeers.{point_same}
use Rattle.mean_blocks.proofs.OrderlyStarts.{OnSent}
use Rattle.est_meaning.specs.declared.event.Event.{Event}
use Rattle.est_meaning.specs.declared.event.Event.TheVariants as event
use Rattle.est_meaning.specs.declared.firing.Firing.{Firing}
use Rattle.est_meaning.specs.TransitionChoices.{choice_of}
use Rattle.est_meaning.specs.GuardParts.{view_of}
use Rattle.est_meaning.specs.DelayStamps.{restamped}
use Rattle.est_meaning.specs.OutsideEvents.{arrival, after_event}
use Rattle.est_meaning.specs.FiringSteps.{taking_point, without_awaited, block_frame, performed_in}
use Rattle.est_meaning.specs.FiringSteps.{completed, fired_in, fired_by, outcome, start_of}
use Rattle.est_meaning.proofs.Options.{by_option}
use Rattle.est_meaning.proofs.Steps.{OnNext}
use Rattle.law_runs.specs.UpkeepLaws.{OnDone}
use Rattle.law_runs.specs.RunOrder.{WaitAtTheirPoints, ItemsWaitAtTheirPoints}
use Rattle.law_runs.proofs.GivenThings.{OnGood}
use Rattle.law_runs.proofs.ParentsOlder.{good_if, joined_all, kept_all}
use Rattle.law_runs.proofs.OneRoot.{Whatever, any_good, any_all}
use Rattle.law_runs.proofs.OrderlyRuns.{in_each}
use Rattle.law_runs.proofs.OrderlySteps.{finished_next}
use Rattle.law_runs.proofs.BlocksOfInstances.{Upkeep, instance_keeps}
use Rattle.law_runs.proofs.Executions.{with_situation, held_child}

-- QUEUES

queue_same : (a b : QueueName) → is_queue a b ≡ true → a ≡ b
queue_same (Own p) (Own q) e = ap Own (point_same p q e)
queue_same (Own p) (Shared n) e = absurd (cc)
queue_same (Shared n) (Own q) e = absurd (cc)
queue_same (Shared m) (Shared n) e = ap Shared (eqb-true m n e)

module _ (t : Text) where
  -- each item waits where it belongs
  abbrev Well : Situation → Type 0
  Well s = WaitAtTheirPoints t s

  abbrev AreOf : QueueName → List Item → Type 0
  AreOf q items = AllByRecursion (λ (i : Item). queue_of t i.at ≡ q) items

  with_well : (a : QueueName) (items : List Item) (s : Situation) → AreOf a items → Well s
      → Well (with_queue a items s)
  with_well a items s h g q = one (is_queue a q) refl
    where
      one : (b : Bool) → is_queue a q ≡ b → AreOf q (if b then items else s.queues q)
      one true e = subst (λ z. AreOf z items) (queue_same a q e) h
      one false e = g q

  appended_well : (p : InteractionPoint) (items : List Item) (s : Situation)
      → AreOf (queue_of t p) items → Well s → Well (appended t p items s)
  appended_well p items s h g = with_well (queue_of t p) (s.queues (queue_of t p) ++ items) s
      (joined_all (λ (i : Item). queue_of t i.at ≡ queue_of t p) (s.queues (queue_of t p)) items
      (g (queue_of t p)) h) g

  passed_are : (p : InteractionPoint) (items : List Item)
      → AreOf (queue_of t p) (map (passed_to p) items)
  passed_are p [] = tt
  passed_are p (i ∷ items) = (refl, passed_are p items)

  emptied_well : (p : InteractionPoint) (s : Situation) → Well s → Well (emptied t p s)
  emptied_well p s h = with_well (queue_of t p) _ s
      (kept_all (λ (i : Item). queue_of t i.at ≡ queue_of t p) (λ i. not (belongs p i))
      (s.queues (queue_of t p)) (h (queue_of t p))) h

  moved_well : (p q : InteractionPoint) (s : Situation) → Well s → Well (moved t p q s)
  moved_well p q s h = appended_well q
      (map (passed_to q) (filter (belongs p) (s.queues (queue_of t p)))) (emptied t p s)
      (passed_are q (filter (belongs p) (s.queues (queue_of t p)))) (emptied_well p s h)

  dropped_are : (q : QueueName) (items : List Item) → AreOf q items → AreOf q (drop 1 items)
  dropped_are q [] h = tt
  dropped_are q (i ∷ items) h = h.1

  taken_well : (o : Option InteractionPoint) (s : Situation) → Well s
      → Well (option_map_or (λ p. without_head t p s) o s)
  taken_well None s h = h
  taken_well (Some p) s h = with_well (queue_of t p) (drop 1 (s.queues (queue_of t p))) s
      (dropped_are (queue_of t p) (s.queues (queue_of t p)) (h (queue_of t p))) h

  -- LINKS

  crossed_well : (i : Item) (q : InteractionPoint) (o : Option InteractionPoint) (x : Sent)
      → Well x.situation → Well (crossed t i q o x).situation
  crossed_well i q (Some other) x h = let b = bottom x.situation other in
      appended_well b (passed_to b i ∷ []) x.situation (refl, tt) h
  crossed_well i q None x h = one (is_outside t x.situation q)
    where
      one : (b : Bool)
          → Well (if b then record x { outs = x.outs ++ passed_to q i ∷ [] } else x).situation
      one true = h
      one false = h

  parted_well : (p : InteractionPoint) (o : Option InteractionPoint) (s : Situation) → Well s
      → Well (parted p o s)
  parted_well p None s h = h
  parted_well p (Some q) s h = h

  loosened_well : (e : InteractionPoint) (o : Option InteractionPoint) (s : Situation) → Well s
      → Well (loosened t e o s)
  loosened_well e None s h = h
  loosened_well e (Some c) s h = moved_well (bottom s e) e s h

  from_well : (o : Option InteractionPoint) (s : Situation) → Well s → Well (detached_from t o s)
  from_well None s h = h
  from_well (Some e) s h = loosened_well e (s.down e) s h

  end_well : (n : ℕ) (p : InteractionPoint) (s : Situation) → Well s → Well (detached_end t n p s)
  end_well n p s h = one (nat_eq n p.instance)
    where
      one : (b : Bool) → Well (if b then detached t p s else detached_above t p s)
      one true = loosened_well p (s.down p) s h
      one false = from_well (above t s p) s h

  each_well : (ps : List InteractionPoint) (s : Situation) → Well s → Well (each (untied t) ps s)
  each_well [] s h = h
  each_well (p ∷ ps) s h = let u = detached_above t p s in
      each_well ps (untied t p s) (parted_well p (u.peer p) u (from_well (above t s p) s h))

  without_well : (ns : List ℕ) (s : Situation) → Well s → Well (without ns s)
  without_well ns s h q = one (is_among ns (owner q))
    where
      one : (b : Bool) → AreOf q (if b then [] else s.queues q)
      one true = tt
      one false = h q

  -- BLOCKS

  abbrev Goes : ℕ → State → Type 0
  Goes n s = Well s.situation

  born_well : (n body next : ℕ) (s : State) (go : Frame → Situation) (r : Result Frame BlockFault)
      → ((f : Frame) → Well (go f)) → OnGood (λ u. Goes n (with_situation s u)
      × Goes next (with_situation s u) × Whatever s.situation u) (on_ok r (λ f. Ok (go f)))
  born_well n body next s go (Ok f) h = (h f, h f, tt)
  born_well n body next s go (Err x) h = tt

  well_kept : Upkeep t Goes Whatever (λ n s i. Unit {0}) (λ n i. Unit {0})
  well_kept = record {
    same = λ s. tt;
    after = λ r s u h g. tt;
    counts = λ n s l h. h;
    opens = λ n s f e h. h;
    names = λ n s p i c e h. h;
    closes = λ n s h. h;
    alters = λ n s k d v h. h;
    reaches = λ n s p e h. any_good (held_child n s p e);
    children = λ n s header h. any_all (children_of t.outline s.situation n header);
    writes = λ n i f s h. (h, tt);
    states = λ n i p s h. (h, tt);
    sends = λ n i s e h. let x : Sent = record { situation = s.situation; outs = s.outs } in
        let q = up t s.situation i.at in (crossed_well i q (s.situation.peer q) x h, tt);
    connects = λ n p q s a b h. good_if _ (is_point p q) _ _ (λ e. tt)
        (λ e. good_if _ (is_taken t s.situation p || is_taken t s.situation q) _ _ (λ f. tt)
        (λ f. (h, tt)));
    attaches = λ n e c s a b h.
        good_if _ (is_some (s.situation.down e) || is_taken t s.situation c) _ _ (λ f. tt)
        (λ f. (moved_well e (bottom s.situation c) s.situation h, tt));
    disconnects = λ n p s h. (parted_well p (s.situation.peer p) s.situation h, tt);
    detaches = λ n p s h. (end_well n p s.situation h, tt);
    releases = λ n i s d h.
        let ps = external_of t.outline s.situation i in
        let u = each (untied t) ps s.situation in
        (without_well (descendants (i ∷ []) u.rows) u (each_well ps s.situation h), tt);
    begins = λ n e body xs s h. good_if _ (nat_lt most_instances s.situation.next) _ _ (λ f. tt)
        (λ f. born_well n body s.situation.next s
        (λ f. with_row n (holds e s.situation.next) (with_next t.outline n body f s.situation))
        (frame_of t.outline (variables_of t.outline body) xs) (λ f. h));
    returns = λ n e body xs s u v h b g i. i;
  }

  left_well : (x : Situation) (n : ℕ) (o : Outcome State (Unit {0}))
      → OnDone (λ u. Goes n u × Whatever x u.situation) o → OnSent Well (left_by o)
  left_well x n (Done a u) h = h.0
  left_well x n (Fault f) h = tt
  left_well x n Limit h = tt

  block_well : (n : ℕ) (frames : List Frame) (xs : List Statement) (limit : ℕ) (s : Situation)
      → Well s → OnSent Well (block_meaning t n frames xs limit s)
  block_well n frames xs limit s h = left_well s n _ (instance_keeps t Goes Whatever
      (λ n s i. Unit {0}) (λ n i. Unit {0}) well_kept n most_levels xs
      (beginning s frames limit) h)

  -- STEPS

  start_well : (limit : ℕ) → OnNext Well (start_of limit t)
  unfolding start_of
  start_well limit = finished_next t (restamped limit t None) Well Well (start_before t limit)
      (λ u h. h) (block_well 0 [] (t.spec.first ∷ []) limit no_instances (λ q. tt))

  firing_well : (limit : ℕ) (s : Situation) (f : Firing) → Well s
      → OnNext Well (outcome limit t s f)
  unfolding outcome
  firing_well limit s f h = by_option (OnNext Well) (fired_by limit t s f) (choice_of t s f)
      (Fault Undefined) (λ c g. by_option (OnNext Well) (fired_in limit t s f c)
      (view_of limit t s c) (Fault Undefined)
      (λ v e. finished_next t (completed limit t f c) Well Well (performed_in limit t s c v)
      (λ u k. k) (block_well c.row.number (v.frames ++ block_frame t.outline c.transition ∷ [])
      (out-Block c.transition.block).statements limit (without_awaited limit t s c)
      (taken_well (taking_point limit t s c) s h))) tt) tt

  arrived_well : (s : Situation) (o : Option Item) → Well s
      → Well (option_map_or (λ (x : Item). arrived t x.at x s) o s)
  arrived_well s None h = h
  arrived_well s (Some x) h = let b = bottom s x.at in
      appended_well b (passed_to b x ∷ []) s (refl, tt) h

  event_well : (s : Situation) (e : Event) → Well s → Well (after_event t s e)
  unfolding after_event
  event_well s (event.Arrives i) h = arrived_well s (arrival t i) h
  event_well s (event.Leaves i) h = h
  event_well s (event.Passes units) h = h

-- THE LAW

pub items_wait_at_their_points : ItemsWaitAtTheirPoints
items_wait_at_their_points c run p begun r = let t = text_of c.spec in
    in_each c (WaitAtTheirPoints t)
    (λ e. subst (OnNext (WaitAtTheirPoints t)) e (start_well t c.limit))
    (λ s e h. event_well t s e h)
    (λ s next f outs e h.
    subst (OnNext (WaitAtTheirPoints t)) e (firing_well t c.limit s f h)) run p begun r
