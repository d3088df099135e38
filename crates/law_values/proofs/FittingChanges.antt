-- What links, outputs, writes, and instances that come and go leave of situations that fit.
use Rattle.std.specs.Prelude.{if◌then◌else◌, nat_lt, not, slice_set}
use Rattle.std.specs.List.{AllByRecursion, filter}
use Rattle.std.specs.Option.{option_map_or}
use Rattle.std.proofs.Common.{ℕ, zero, suc, Bool, true, false, ◌||◌, List, [], ◌∷◌, ◌++◌, map}
use Rattle.std.proofs.Common.{Option, Some, None, Result, Ok, Err, is_some, nat_eq, drop, take}
use Rattle.rule_scope.specs.Outline.{Outline}
use Rattle.mean_blocks.specs.declared.fault.BlockFault.{BlockFault}
use Rattle.mean_blocks.specs.declared.frame.Slot.{Slot}
use Rattle.mean_blocks.specs.declared.situation.Element.{Element}
use Rattle.mean_blocks.specs.declared.situation.InteractionPoint.{InteractionPoint}
use Rattle.mean_blocks.specs.declared.situation.Item.{Item}
use Rattle.mean_blocks.specs.declared.situation.Row.{Row}
use Rattle.mean_blocks.specs.Outcome.{on_ok}
use Rattle.mean_blocks.specs.TextByPlace.{Text}
use Rattle.mean_blocks.specs.GlobalSituation.{Frame, QueueName, is_queue, Situation}
use Rattle.mean_blocks.specs.GlobalSituation.{is_numbered, is_point, with_row, with_queue}
use Rattle.mean_blocks.specs.FunctionCalls.{frame_of}
use Rattle.mean_blocks.specs.InstancePoints.{external_of}
use Rattle.mean_blocks.specs.Attachments.{above, bottom, up}
use Rattle.mean_blocks.specs.OutputEffects.{Sent, is_outside, crossed, sent, arrived}
use Rattle.mean_blocks.specs.QueueEffects.{queue_of, appended, without_head, belongs, passed_to}
use Rattle.mean_blocks.specs.QueueEffects.{emptied, moved}
use Rattle.mean_blocks.specs.LinkEffects.{with_point, is_taken, connected, attached, parted}
use Rattle.mean_blocks.specs.LinkEffects.{disconnected, loosened, detached, detached_from}
use Rattle.mean_blocks.specs.LinkEffects.{detached_above, detached_end, each}
use Rattle.mean_blocks.specs.InstanceEffects.{most_instances, variables_of, new_row, with_next}
use Rattle.mean_blocks.specs.InstanceEffects.{holds, born, in_state, is_among, descendants}
use Rattle.mean_blocks.specs.InstanceEffects.{owner, untied, released}
use Rattle.mean_blocks.specs.WriteEffects.{with_variables}
use Rattle.law_runs.proofs.GivenThings.{OnGood}
use Rattle.law_runs.proofs.ParentsOlder.{changed_all, joined_all, kept_all, good_if}
use Rattle.law_values.specs.FittingStates.{FrameFits, RowFits, ItemFits, SituationFits}

-- LISTS

pub taken_all : {A : Type 0} (P : A → Type 0) (k : ℕ) (xs : List A) → AllByRecursion P xs
    → AllByRecursion P (take k xs)
taken_all P zero xs h = tt
taken_all P (suc k) [] h = tt
taken_all P (suc k) (x ∷ xs) h = (h.0, taken_all P k xs h.1)

pub set_all : {A : Type 0} (P : A → Type 0) (xs : List A) (k : ℕ) (x : A) → AllByRecursion P xs
    → P x → AllByRecursion P (slice_set xs k x)
set_all P [] k x h g = tt
set_all P (y ∷ ys) zero x h g = (g, h.1)
set_all P (y ∷ ys) (suc k) x h g = (h.0, set_all P ys k x h.1 g)

module _ (o : Outline) where
  abbrev Well : Situation → Type 0
  Well s = SituationFits o s

  abbrev AreWell : List Item → Type 0
  AreWell items = AllByRecursion (ItemFits o) items

  -- QUEUES

  with_well : (a : QueueName) (items : List Item) (s : Situation) → AreWell items → Well s
      → Well (with_queue a items s)
  with_well a items s h g = record { rows = g.rows; items = λ q. one q (is_queue a q) }
    where
      one : (q : QueueName) (b : Bool) → AreWell (if b then items else s.queues q)
      one q true = h
      one q false = g.items q

  passed_well : (p : InteractionPoint) (items : List Item) → AreWell items
      → AreWell (map (passed_to p) items)
  passed_well p [] h = tt
  passed_well p (i ∷ items) h = (h.0, passed_well p items h.1)

  module _ (t : Text) where
    appended_well : (p : InteractionPoint) (items : List Item) (s : Situation) → AreWell items
        → Well s → Well (appended t p items s)
    appended_well p items s h g = with_well (queue_of t p) (s.queues (queue_of t p) ++ items) s
        (joined_all (ItemFits o) (s.queues (queue_of t p)) items (g.items (queue_of t p)) h) g

    emptied_well : (p : InteractionPoint) (s : Situation) → Well s → Well (emptied t p s)
    emptied_well p s h = with_well (queue_of t p) _ s
        (kept_all (ItemFits o) (λ i. not (belongs p i)) (s.queues (queue_of t p))
        (h.items (queue_of t p))) h

    moved_well : (p q : InteractionPoint) (s : Situation) → Well s → Well (moved t p q s)
    moved_well p q s h = appended_well q
        (map (passed_to q) (filter (belongs p) (s.queues (queue_of t p)))) (emptied t p s)
        (passed_well q (filter (belongs p) (s.queues (queue_of t p)))
        (kept_all (ItemFits o) (belongs p) (s.queues (queue_of t p)) (h.items (queue_of t p))))
        (emptied_well p s h)

    dropped_well : (items : List Item) → AreWell items → AreWell (drop 1 items)
    dropped_well [] h = tt
    dropped_well (i ∷ items) h = h.1

    pub taken_well : (x : Option InteractionPoint) (s : Situation) → Well s
        → Well (option_map_or (λ p. without_head t p s) x s)
    taken_well None s h = h
    taken_well (Some p) s h = with_well (queue_of t p) (drop 1 (s.queues (queue_of t p))) s
        (dropped_well (s.queues (queue_of t p)) (h.items (queue_of t p))) h

    -- OUTPUTS

    -- a situation fits, and so does what was sent
    abbrev pub IsSentWell : Sent → Type 0
    IsSentWell x = Well x.situation × AreWell x.outs

    crossed_well : (i : Item) (q : InteractionPoint) (other : Option InteractionPoint) (x : Sent)
        → ItemFits o i → IsSentWell x → IsSentWell (crossed t i q other x)
    crossed_well i q (Some other) x h g = let b = bottom x.situation other in
        (appended_well b (passed_to b i ∷ []) x.situation (h, tt) g.0, g.1)
    crossed_well i q None x h g = one (is_outside t x.situation q)
      where
        one : (b : Bool) → IsSentWell (if b then record x { outs = x.outs ++ passed_to q i ∷ [] }
            else x)
        one true = (g.0, joined_all (ItemFits o) x.outs (passed_to q i ∷ []) g.1 (h, tt))
        one false = g

    pub sent_well : (i : Item) (x : Sent) → ItemFits o i → IsSentWell x → IsSentWell (sent t i x)
    sent_well i x h g = let q = up t x.situation i.at in
        crossed_well i q (x.situation.peer q) x h g

    pub arrived_well : (i : Item) (s : Situation) → ItemFits o i → Well s
        → Well (arrived t i.at i s)
    arrived_well i s h g = let b = bottom s i.at in
        appended_well b (passed_to b i ∷ []) s (h, tt) g

    -- LINKS

    pub connected_well : (p q : InteractionPoint) (s : Situation) → Well s
        → OnGood Well (connected t p q s)
    connected_well p q s h =
        let u : Situation =
        record s { peer = with_point p (Some q) (with_point q (Some p) s.peer) } in
        let g : Well u = record { rows = h.rows; items = h.items } in
        good_if Well (is_point p q) _ _ (λ e. tt)
        (λ e. good_if Well (is_taken t s p || is_taken t s q) _ (Ok u) (λ f. tt) (λ f. g))

    pub attached_well : (e c : InteractionPoint) (s : Situation) → Well s
        → OnGood Well (attached t e c s)
    attached_well e c s h =
        let g = moved_well e (bottom s c) s h in
        let u : Situation =
        record (moved t e (bottom s c) s) { down = with_point e (Some c) s.down } in
        let w : Well u = record { rows = g.rows; items = g.items } in
        good_if Well (is_some (s.down e) || is_taken t s c) _ (Ok u) (λ f. tt) (λ f. w)

    parted_well : (p : InteractionPoint) (q : Option InteractionPoint) (s : Situation) → Well s
        → Well (parted p q s)
    parted_well p None s h = h
    parted_well p (Some q) s h = record { rows = h.rows; items = h.items }

    pub disconnected_well : (p : InteractionPoint) (s : Situation) → Well s
        → Well (disconnected p s)
    disconnected_well p s h = parted_well p (s.peer p) s h

    loosened_well : (e : InteractionPoint) (c : Option InteractionPoint) (s : Situation) → Well s
        → Well (loosened t e c s)
    loosened_well e None s h = h
    loosened_well e (Some c) s h = let g = moved_well (bottom s e) e s h in
        record { rows = g.rows; items = g.items }

    from_well : (e : Option InteractionPoint) (s : Situation) → Well s
        → Well (detached_from t e s)
    from_well None s h = h
    from_well (Some e) s h = loosened_well e (s.down e) s h

    pub end_well : (n : ℕ) (p : InteractionPoint) (s : Situation) → Well s
        → Well (detached_end t n p s)
    end_well n p s h = one (nat_eq n p.instance)
      where
        one : (b : Bool) → Well (if b then detached t p s else detached_above t p s)
        one true = loosened_well p (s.down p) s h
        one false = from_well (above t s p) s h

    -- INSTANCES

    untied_well : (ps : List InteractionPoint) (s : Situation) → Well s
        → Well (each (untied t) ps s)
    untied_well [] s h = h
    untied_well (p ∷ ps) s h = untied_well ps (untied t p s)
        (disconnected_well p (detached_above t p s) (from_well (above t s p) s h))

    pub released_well : (n : ℕ) (s : Situation) → Well s → Well (released t n s)
    released_well n s h =
        let u = each (untied t) (external_of t.outline s n) s in
        let g = untied_well (external_of t.outline s n) s h in
        record {
          rows = kept_all (RowFits o) _ u.rows g.rows;
          items = λ q. one (is_among (descendants (n ∷ []) u.rows) (owner q)) q g;
        }
      where
        one : (b : Bool) (q : QueueName) → {u : Situation} → Well u
            → AreWell (if b then [] else u.queues q)
        one true q g = tt
        one false q g = g.items q

    pub born_well : (n : ℕ) (e : Element) (body : ℕ) (xs : List Slot) (s : Situation)
        → OnGood (FrameFits o) (frame_of t.outline (variables_of t.outline body) xs) → Well s
        → OnGood Well (born t n e body xs s)
    born_well n e body xs s f h = good_if Well (nat_lt most_instances s.next) _ _ (λ g. tt)
        (λ g. with_frame (frame_of t.outline (variables_of t.outline body) xs) f)
      where
        with_frame : (r : Result Frame BlockFault) → OnGood (FrameFits o) r → OnGood Well
            (on_ok r (λ f. Ok (with_row n (holds e s.next) (with_next t.outline n body f s))))
        with_frame (Ok f) g = record {
          rows = changed_all (RowFits o) (is_numbered n) (holds e s.next) (λ r k q. q) _
              (joined_all (RowFits o) s.rows (new_row t.outline s.next n body f ∷ []) h.rows
              (g, tt));
          items = h.items;
        }
        with_frame (Err x) g = tt

  -- ROWS

  pub written_well : (n : ℕ) (f : Frame) (s : Situation) → FrameFits o f → Well s
      → Well (with_variables n f s)
  written_well n f s h g = record {
    rows = changed_all (RowFits o) (is_numbered n) (λ r. record r { variables = f })
        (λ r k q. h) s.rows g.rows;
    items = g.items;
  }

  state_row : (p : Option ℕ) (r : Row) → RowFits o r → RowFits o (in_state p r)
  state_row None r h = h
  state_row (Some p) r h = h

  pub state_well : (n : ℕ) (p : Option ℕ) (s : Situation) → Well s
      → Well (with_row n (in_state p) s)
  state_well n p s g = record {
    rows = changed_all (RowFits o) (is_numbered n) (in_state p)
        (λ r k q. state_row p r q) s.rows g.rows;
    items = g.items;
  }
