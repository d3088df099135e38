-- Firings and events leave orderly situations.
use Rattle.std.proofs.Common.{◌≡◌, refl, sym, ap, subst, ◌∙◌, ℕ, nat_eq, Bool, true, false}
use Rattle.std.proofs.Common.{List, [], ◌∷◌, ◌++◌, Option, Some, None, is_some}
use Rattle.std.specs.Prelude.{if◌then◌else◌, drop, find, map, slice_get}
use Rattle.std.specs.Option.{option_map, option_map_or}
use Rattle.std.proofs.lemmas.Bool.{eqb-true}
use Rattle.std.proofs.lemmas.Option.{same_Some}
use Rattle.est_syntax.specs.declared.body.Block.{out-Block}
use Rattle.est_values.specs.declared.value.Value.{Value}
use Rattle.rule_scope.specs.Outline.{Outline}
use Rattle.mean_blocks.specs.declared.fault.BlockFault.TheVariants.{Undefined}
use Rattle.mean_blocks.specs.declared.situation.InteractionPoint.{InteractionPoint}
use Rattle.mean_blocks.specs.declared.situation.Item.{Item}
use Rattle.mean_blocks.specs.declared.situation.Row.{Row}
use Rattle.mean_blocks.specs.Outcome.{Outcome, Done, Fault, Limit}
use Rattle.mean_blocks.specs.TextByPlace.{Text}
use Rattle.mean_blocks.specs.GlobalSituation.{Frame, Situation, QueueName, is_numbered, is_queue}
use Rattle.mean_blocks.specs.GlobalSituation.{row_of, with_row}
use Rattle.mean_blocks.specs.FunctionCalls.{unset}
use Rattle.mean_blocks.specs.WorkingState.{State, View}
use Rattle.mean_blocks.specs.Attachments.{bottom}
use Rattle.mean_blocks.specs.QueueEffects.{queue_of, without_head, passed_to}
use Rattle.mean_blocks.specs.OutputEffects.{Sent, arrived}
use Rattle.mean_blocks.specs.InstanceEffects.{owner, in_state}
use Rattle.mean_blocks.specs.StatementEffects.{statements_in}
use Rattle.mean_blocks.specs.BlockLevels.{site, beginning, left_by, most_levels}
use Rattle.mean_blocks.proofs.OrderlyStarts.{OnSent}
use Rattle.est_meaning.specs.declared.event.Event.{Event}
use Rattle.est_meaning.specs.declared.event.Event.TheVariants as event
use Rattle.est_meaning.specs.declared.event.Interaction.{Interaction}
use Rattle.est_meaning.specs.declared.firing.Firing.{Firing}
use Rattle.est_meaning.specs.ClauseContexts.{Awaited, transitions_of, when_of}
use Rattle.est_meaning.specs.TransitionChoices.{Choice, choice_by, choice_in, choice_of}
use Rattle.est_meaning.specs.TransitionChoices.{bound_all, numbered, any_places, any_tuples}
use Rattle.est_meaning.specs.GuardParts.{seen_by, is_from, frames_of, view_of, awaited_item}
use Rattle.est_meaning.specs.DelayStamps.{restamped}
use Rattle.est_meaning.specs.OutsideEvents.{item_by, item_at, arrival, after_event, port_point}
use Rattle.est_meaning.specs.OutsideEvents.{signal_place}
use Rattle.est_meaning.specs.FiringSteps.{taking_point, without_awaited, block_frame, performed_in}
use Rattle.est_meaning.specs.FiringSteps.{with_next_state, completed, finished, fired_in, fired_by}
use Rattle.est_meaning.specs.FiringSteps.{outcome}
use Rattle.est_meaning.proofs.Options.{then_some, map_some, by_option}
use Rattle.est_meaning.proofs.Outside.{ports_of_the_root}
use Rattle.est_meaning.proofs.Steps.{OnNext}
use Rattle.law_runs.specs.UpkeepLaws.{OnDone, IsPlain}
use Rattle.law_runs.specs.OrderLaws.{IsLiving, IsOrderly, IsOneTree, NameNone}
use Rattle.law_runs.specs.RunOrder.{FiringsStayOrderly, EventsStayOrderly, OneTreeDescends}
use Rattle.law_runs.proofs.RowLaws.{living_number, from_changed}
use Rattle.law_runs.proofs.Ancestors.{up_ancestor}
use Rattle.law_runs.proofs.LivingLinks.{queue_owner, appended_living, bottom_living}
use Rattle.law_runs.proofs.ParentsOlder.{joined_all}
use Rattle.law_runs.proofs.OrderlyBlocks.{order_kept, order_done, situations_stay_orderly}
use Rattle.law_runs.proofs.OrderlyBlocks.{state_mild}
use Rattle.law_runs.proofs.OneRoot.{HasOneRoot, UnderRoot, Whatever, root_kept, root_from}
use Rattle.law_runs.proofs.OneRoot.{root_above, root_lives}
use Rattle.law_runs.proofs.BlocksOfInstances.{instance_keeps}

none_some : {A : Type 0} (a : A) → None ≡ Some a → ⊥
none_some a h = cc

-- FRAMES

bound_plain : (ps : List ℕ) (vs : List Value) → IsPlain (bound_all ps vs)
bound_plain [] vs = tt
bound_plain (p ∷ ps) [] = tt
bound_plain (p ∷ ps) (v ∷ vs) = (tt, bound_plain ps vs)

pub unset_plain : (o : Outline) (ps : List ℕ) → IsPlain (map (unset o) ps)
unset_plain o [] = tt
unset_plain o (p ∷ ps) = (tt, unset_plain o ps)

-- the choice of a firing is one of its instance, and its `any` variables have values
pub choice_is : (t : Text) (s : Situation) (f : Firing) (c : Choice) → choice_of t s f ≡ Some c
    → (row_of s f.instance ≡ Some c.row) × IsPlain c.chosen
choice_is t s f c h =
    let a = then_some (choice_in t f) (row_of s f.instance) c h in
    let b = then_some (choice_by t a.0 f.transition f.choice)
    (numbered (transitions_of t a.0.body) f.transition) c a.2 in
    let d = map_some _ (numbered (any_tuples t.outline b.0) f.choice) c b.2 in (
      a.1 ∙ ap (λ (x : Choice). Some x.row) d.2,
      subst (λ (x : Choice). IsPlain x.chosen) d.2
          (bound_plain (any_places t.outline b.0) _),
    )

pub found_number : (n : ℕ) (rs : List Row) (r : Row) → find (is_numbered n) rs ≡ Some r
    → n ≡ r.number
found_number n [] r e = absurd (none_some r e)
found_number n (x ∷ xs) r e = one (nat_eq n x.number) refl e (found_number n xs r)
  where
    one : (b : Bool) → nat_eq n x.number ≡ b
        → (if b then Some x else find (is_numbered n) xs) ≡ Some r
        → (find (is_numbered n) xs ≡ Some r → n ≡ r.number) → n ≡ r.number
    one true g e k = eqb-true n x.number g ∙ ap (λ (y : Row). y.number) (same_Some x r e)
    one false g e k = k e

module _ (limit : ℕ) (t : Text) (s : Situation) (c : Choice) (plain : IsPlain c.chosen) where
  frames_plain : (o : Option Awaited) (frames : List Frame) → frames_of limit t s c o ≡ Some frames
      → NameNone frames
  frames_plain None frames e = subst NameNone (same_Some _ frames e) (plain, tt)
  frames_plain (Some w) frames e =
      let a = map_some _ (awaited_item limit t s c w) frames e in
      subst NameNone a.2 (plain, (bound_plain _ a.0.values, tt))

  pub seen_plain : (v : View) → view_of limit t s c ≡ Some v → NameNone v.frames
  seen_plain v e = one (is_from t c) e
    where
      one : (b : Bool) → (if b
          then option_map (seen_by t s c) (frames_of limit t s c (when_of c.transition)) else None)
          ≡ Some v → NameNone v.frames
      one true e =
          let a = map_some (seen_by t s c) (frames_of limit t s c (when_of c.transition)) v e in
          subst (λ (w : View). NameNone w.frames) a.2
          (frames_plain (when_of c.transition) a.0 a.1)
      one false e = absurd (none_some v e)

-- WHAT IS TAKEN

taken_items : (t : Text) (p : InteractionPoint) (s : Situation) → IsOrderly s → (q : QueueName)
    → is_some (find (is_numbered (owner q)) s.rows) ≡ false
    → (without_head t p s).queues q ≡ []
taken_items t p s h q d = one (is_queue (queue_of t p) q) refl
  where
    a : QueueName
    a = queue_of t p

    one : (b : Bool) → is_queue a q ≡ b
        → (if b then drop 1 (s.queues a) else s.queues q) ≡ []
    one true e = ap (drop 1) (h.items a (subst
        (λ n. is_some (find (is_numbered n) s.rows) ≡ false) (sym (queue_owner s.rows a q e)) d))
    one false e = h.items q d

-- with the same instances
abbrev Taken : Situation → Situation → Type 0
Taken s u = IsOrderly u × (u.rows ≡ s.rows)

taken_orderly : (t : Text) (o : Option InteractionPoint) (s : Situation) → IsOrderly s
    → Taken s (option_map_or (λ p. without_head t p s) o s)
taken_orderly t None s h = (h, refl)
taken_orderly t (Some p) s h = (
  record {
    numbers = h.numbers;
    age = h.age;
    parents = h.parents;
    connections = h.connections;
    attachments = h.attachments;
    items = taken_items t p s h;
  },
  refl,
)

-- BLOCKS

-- a block of an instance leaves this
abbrev Leaves : ℕ → Situation → Situation → Type 0
Leaves n s u = IsOrderly u × IsLiving u.rows n × (HasOneRoot s.rows → HasOneRoot u.rows)

leaves_by : (n : ℕ) (s x : Situation) (o : Outcome State (Unit {0}))
    → OnDone (λ u. IsOrderly u.situation × IsLiving u.situation.rows n) o
    → (HasOneRoot s.rows → OnDone (λ u. UnderRoot n u × Whatever x u.situation) o)
    → OnSent (Leaves n s) (left_by o)
leaves_by n s x (Done a u) h g = (h.0, h.1, λ k. (g k).0.2)
leaves_by n s x (Fault f) h g = tt
leaves_by n s x Limit h g = tt

block_leaves : (limit : ℕ) (t : Text) (s : Situation) (c : Choice) (v : View) → IsOrderly s
    → IsLiving s.rows c.row.number → IsPlain c.chosen → view_of limit t s c ≡ Some v
    → OnSent (Leaves c.row.number s) (performed_in limit t s c v)
block_leaves limit t s c v h alive plain e =
    let n = c.row.number in
    let x = without_awaited limit t s c in
    let taken = taken_orderly t (taking_point limit t s c) s h in
    let living : IsLiving x.rows n = subst (λ rs. IsLiving rs n) (sym taken.1) alive in
    let frames = v.frames ++ block_frame t.outline c.transition ∷ [] in
    let names : NameNone frames = joined_all IsPlain v.frames
    (block_frame t.outline c.transition ∷ []) (seen_plain limit t s c plain v e)
    (unset_plain t.outline _, tt) in
    let xs = (out-Block c.transition.block).statements in
    let o = statements_in xs (site t n false most_levels) (beginning x frames limit) in
    leaves_by n s x o
    (situations_stay_orderly t n most_levels xs (beginning x frames limit) living names taken.0)
    (λ k. instance_keeps t UnderRoot Whatever (λ n s i. Unit {0}) (λ n i. Unit {0}) (root_kept t) n
    most_levels xs (beginning x frames limit) (
      (living_number 1 x.next x.rows n taken.0.numbers.1 living).0,
      taken.0.numbers.0,
      subst HasOneRoot (sym taken.1) k,
    ))

-- AFTER THE BLOCK

-- the state in which nothing is executed
abbrev resting : Situation → State
resting u = beginning u [] 0

state_leaves : (t : Text) (n : ℕ) (p : Option ℕ) (s u : Situation) → Leaves n s u
    → Leaves n s (with_row n (in_state p) u)
state_leaves t n p s u h =
    let work = (order_kept t).states n n p (resting u) (record {
      alive = h.1;
      numbers = h.0.numbers;
      age = h.0.age;
      parents = h.0.parents;
      links = record {
        peers = h.0.connections;
        downs = h.0.attachments;
        items = h.0.items;
      };
      names = tt;
    }) in
    let d = order_done n u (Done tt (resting (with_row n (in_state p) u))) work in (
      d.0,
      d.1,
      λ k. root_from u.rows (with_row n (in_state p) u).rows
          (from_changed (is_numbered n) (in_state p) (state_mild p) u.rows) (h.2 k),
    )

pub restamped_orderly : (limit : ℕ) (t : Text) (fired : Option Firing) (u : Situation)
    → IsOrderly u → IsOrderly (restamped limit t fired u)
restamped_orderly limit t fired u h = record {
  numbers = h.numbers;
  age = h.age;
  parents = h.parents;
  connections = h.connections;
  attachments = h.attachments;
  items = h.items;
}

completed_leaves : (limit : ℕ) (t : Text) (f : Firing) (c : Choice) (s u : Situation)
    → Leaves c.row.number s u → Leaves c.row.number s (completed limit t f c u)
completed_leaves limit t f c s u h =
    let a = state_leaves t c.row.number _ s u h in
    (restamped_orderly limit t (Some f) (with_next_state t c u) a.0, a.1, a.2)

pub finished_next : (t : Text) (finish : Situation → Situation) (P Q : Situation → Type 0)
    (o : Outcome Sent (Unit {0})) → ((u : Situation) → Q u → P (finish u)) → OnSent Q o
    → OnNext P (finished t finish o)
finished_next t finish P Q (Done a x) h k = h x.situation k
finished_next t finish P Q (Fault f) h k = tt
finished_next t finish P Q Limit h k = tt

-- FIRINGS

firing_next : (limit : ℕ) (t : Text) (s : Situation) (f : Firing) → IsOrderly s
    → OnNext (Leaves f.instance s) (outcome limit t s f)
unfolding outcome
firing_next limit t s f h = let P = Leaves f.instance s in
    by_option (OnNext P) (fired_by limit t s f) (choice_of t s f) (Fault Undefined)
    (λ c g. let a = choice_is t s f c g in
    let n = found_number f.instance s.rows c.row a.0 in
    by_option (OnNext P) (fired_in limit t s f c) (view_of limit t s c) (Fault Undefined)
    (λ v e. finished_next t (completed limit t f c) P (Leaves c.row.number s)
    (performed_in limit t s c v)
    (λ u k. subst (λ m. Leaves m s (completed limit t f c u)) (sym n)
    (completed_leaves limit t f c s u k))
    (block_leaves limit t s c v h (subst (IsLiving s.rows) n (ap is_some a.0)) a.1 e)) tt) tt

firing_leaves : (limit : ℕ) (t : Text) (s next : Situation) (f : Firing) (outs : List Event)
    → outcome limit t s f ≡ Done outs next → IsOrderly s → Leaves f.instance s next
firing_leaves limit t s next f outs e h =
    subst (OnNext (Leaves f.instance s)) e (firing_next limit t s f h)

pub firings_stay_orderly : FiringsStayOrderly
firings_stay_orderly = record {
  order = λ limit t s next f outs e h. let a = firing_leaves limit t s next f outs e h in
      (a.0, a.1);
  tree = λ limit t s next f outs e h. let a = firing_leaves limit t s next f outs e h.order in
      record {
        order = a.0;
        root = record {
          alive = root_lives next.rows a.0.age a.0.parents (a.2 h.root.alone) f.instance a.1;
          alone = a.2 h.root.alone;
        };
      };
}

-- EVENTS

arrives_at_root : (t : Text) (i : Interaction) (x : Item) → arrival t i ≡ Some x
    → x.at.instance ≡ 1
arrives_at_root t i x h =
    let a = then_some (item_at t i) _ x h in
    let b = then_some _ (port_point t a.0) x a.2 in
    let c = then_some (item_by t i b.0) (slice_get a.0.signals i.signal) x b.2 in
    let d = map_some _ (signal_place t b.0 c.0) x c.2 in
    ap (λ (y : Item). y.at.instance) (sym d.2) ∙ (ports_of_the_root t a.0 b.0 b.1).0

arrived_tree : (t : Text) (s : Situation) (o : Option Item)
    → ((x : Item) → o ≡ Some x → x.at.instance ≡ 1) → IsOneTree s
    → IsOneTree (option_map_or (λ (x : Item). arrived t x.at x s) o s)
arrived_tree t s None g h = h
arrived_tree t s (Some x) g h = let b = bottom s x.at in record {
  order = record {
    numbers = h.order.numbers;
    age = h.order.age;
    parents = h.order.parents;
    connections = h.order.connections;
    attachments = h.order.attachments;
    items = appended_living s.rows t b (passed_to b x ∷ []) s.queues
        (bottom_living s.rows s (record {
          peers = h.order.connections;
          downs = h.order.attachments;
          items = h.order.items;
        }) x.at (subst (IsLiving s.rows) (sym (g x refl)) h.root.alive)) h.order.items;
  };
  root = record { alive = h.root.alive; alone = h.root.alone };
}

pub events_stay_orderly : EventsStayOrderly
unfolding after_event
events_stay_orderly t s (event.Arrives i) h =
    arrived_tree t s (arrival t i) (arrives_at_root t i) h
events_stay_orderly t s (event.Leaves i) h = h
events_stay_orderly t s (event.Passes units) h = record {
  order = record {
    numbers = h.order.numbers;
    age = h.order.age;
    parents = h.order.parents;
    connections = h.order.connections;
    attachments = h.order.attachments;
    items = h.order.items;
  };
  root = record { alive = h.root.alive; alone = h.root.alone };
}

-- ONE TREE

pub one_tree_descends : OneTreeDescends
one_tree_descends s h n l = up_ancestor s 1 h.order.numbers n
    (root_above s.rows h.order.age h.order.parents h.root.alone n l)
