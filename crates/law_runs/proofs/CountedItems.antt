-- The number of items, and what changes make of it.
use Rattle.std.proofs.Common.{◌≡◌, refl, sym, ap, subst, ◌∙◌, arith, ℕ, ◌+◌, nat_eq, nat_lt, Bool}
use Rattle.std.proofs.Common.{true, false, ◌||◌, List, [], ◌∷◌, ◌++◌, Option, Some, None, is_some}
use Rattle.std.proofs.Common.{Result, Ok, Err, length, map, length-append}
use Rattle.std.specs.Prelude.{if◌then◌else◌, not, drop, slice_get}
use Rattle.std.specs.List.{filter}
use Rattle.std.proofs.lemmas.Bool.{eqb-true}
use Rattle.std.proofs.lemmas.List.{length-map}
use Rattle.std.proofs.lemmas.List.Filters.{length-filter_both}
use Rattle.std.proofs.lemmas.List.Sums.{sum_by-cons}
use Rattle.mean_blocks.specs.declared.fault.BlockFault.{BlockFault}
use Rattle.mean_blocks.specs.declared.situation.InteractionPoint.{InteractionPoint}
use Rattle.mean_blocks.specs.declared.situation.Item.{Item}
use Rattle.mean_blocks.specs.Outcome.{on_ok}
use Rattle.mean_blocks.specs.TextByPlace.{Text}
use Rattle.mean_blocks.specs.GlobalSituation.{Frame, Situation, QueueName, Own, Shared}
use Rattle.mean_blocks.specs.GlobalSituation.{is_point, is_queue, with_row}
use Rattle.mean_blocks.specs.FunctionCalls.{frame_of}
use Rattle.mean_blocks.specs.InstancePoints.{external_of}
use Rattle.mean_blocks.specs.Attachments.{above, up, bottom}
use Rattle.mean_blocks.specs.QueueEffects.{queue_of, appended, belongs, passed_to, emptied, moved}
use Rattle.mean_blocks.specs.OutputEffects.{Sent, crossed, delivered_at, is_outside}
use Rattle.mean_blocks.specs.LinkEffects.{is_taken, parted, loosened, detached, detached_from}
use Rattle.mean_blocks.specs.LinkEffects.{detached_above, detached_end, each}
use Rattle.mean_blocks.specs.InstanceEffects.{most_instances, variables_of, with_next, holds}
use Rattle.mean_blocks.specs.InstanceEffects.{in_state, is_among, descendants, owner, untied}
use Rattle.mean_blocks.specs.InstanceEffects.{without}
use Rattle.mean_blocks.specs.WriteEffects.{with_variables}
use Rattle.mean_blocks.specs.KeepingLaws.{OnChange, Keeps}
use Rattle.mean_blocks.proofs.KeptByBlocks.{blocks_keep}
use Rattle.mean_blocks.proofs.MutualPeers.{point_same, point_self, eq_self}
use Rattle.law_runs.specs.ItemCounts.{Queues, is_one_of, AreDistinct, number_in, IsNumberOf}
use Rattle.law_runs.specs.ItemCounts.{HasItems, ItemsHaveOneNumber, NoneWaitsAtFirst, HasAsMany}
use Rattle.law_runs.specs.ItemCounts.{HasOneMore, ArrivalsPutOne}
use Rattle.law_runs.specs.ItemCounts.{OutputsPutOneOrNone, TakingLeavesOneLess, LinksMoveItems}
use Rattle.law_runs.specs.ItemCounts.{BeginningsKeepItems, items_at, loose}
use Rattle.law_runs.specs.ItemCounts.{ReleasesLoseTheirItems, Becomes, rests, puts, takes}
use Rattle.law_runs.specs.ItemCounts.{moves, loses, after, ChangesAddUp, TakesNone}
use Rattle.law_runs.specs.ItemCounts.{BlocksTakeNone}

-- NAMES OF QUEUES

pub queue_same : (a b : QueueName) → is_queue a b ≡ true → a ≡ b
queue_same (Own p) (Own q) e = ap Own (point_same p q e)
queue_same (Own p) (Shared n) e = absurd (cc)
queue_same (Shared n) (Own q) e = absurd (cc)
queue_same (Shared m) (Shared n) e = ap Shared (eqb-true m n e)

queue_self : (a : QueueName) → is_queue a a ≡ true
queue_self (Own p) = point_self p
queue_self (Shared n) = eq_self n

true_false : (b : Bool) → b ≡ true → b ≡ false → ⊥
true_false b h k = cc

queue_turned : (a b : QueueName) → is_queue a b ≡ false → is_queue b a ≡ false
queue_turned a b e = one (is_queue b a) refl
  where
    one : (c : Bool) → is_queue b a ≡ c → is_queue b a ≡ false
    one true f = absurd (true_false (is_queue a b)
        (subst (λ c. is_queue a c ≡ true) (sym (queue_same b a f)) (queue_self a)) e)
    one false f = f

neither : (b c : Bool) → (b || c) ≡ false → (b ≡ false) × (c ≡ false)
neither true c e = absurd (cc)
neither false c e = (refl, e)

none_of : (b c : Bool) → b ≡ false → c ≡ false → (b || c) ≡ false
none_of b c e f = cc

-- QUEUES OF WHICH ONE IS CHANGED

abbrev with : QueueName → List Item → Queues → Queues
with a items f = λ q. if is_queue a q then items else f q

with_yes : (a : QueueName) (items : List Item) (f : Queues) (q : QueueName)
    → is_queue a q ≡ true → with a items f q ≡ items
with_yes a items f q e = ap (λ b. if b then items else f q) e

with_no : (a : QueueName) (items : List Item) (f : Queues) (q : QueueName)
    → is_queue a q ≡ false → with a items f q ≡ f q
with_no a items f q e = ap (λ b. if b then items else f q) e

number_cons : (f : Queues) (q : QueueName) (qs : List QueueName)
    → number_in (q ∷ qs) f ≡ length (f q) + number_in qs f
number_cons f q qs = sum_by-cons (λ x. length (f x)) q qs

-- of other queues
away : (a : QueueName) (items : List Item) (f : Queues) (qs : List QueueName)
    → is_one_of qs a ≡ false → number_in qs (with a items f) ≡ number_in qs f
away a items f [] e = refl
away a items f (q ∷ qs) e =
    let n = neither (is_queue a q) (is_one_of qs a) e in
    let h = away a items f qs n.1 in
    let g = ap length (with_no a items f q n.0) in
    let x = number_cons (with a items f) q qs in
    let y = number_cons f q qs in
    omega (arith, h, g, x, y)

-- of one of the queues
there : (a : QueueName) (items : List Item) (f : Queues) (qs : List QueueName) → AreDistinct qs
    → is_one_of qs a ≡ true
    → number_in qs (with a items f) + length (f a) ≡ number_in qs f + length items
there a items f [] d e = absurd (true_false false e refl)
there a items f (q ∷ qs) d e = one (is_queue a q) refl e (λ i. there a items f qs d.1 i)
  where
    one : (b : Bool) → is_queue a q ≡ b → (b || is_one_of qs a) ≡ true
        → (is_one_of qs a ≡ true
        → number_in qs (with a items f) + length (f a) ≡ number_in qs f + length items)
        → number_in (q ∷ qs) (with a items f) + length (f a)
        ≡ number_in (q ∷ qs) f + length items
    one true g i o =
        let h = away a items f qs
        (subst (λ z. is_one_of qs z ≡ false) (sym (queue_same a q g)) d.0) in
        let k = ap length (with_yes a items f q g) in
        let l = ap (λ z. length (f z)) (queue_same a q g) in
        let x = number_cons (with a items f) q qs in
        let y = number_cons f q qs in
        omega (arith, h, k, l, x, y)
    one false g i o =
        let h = o i in
        let k = ap length (with_no a items f q g) in
        let x = number_cons (with a items f) q qs in
        let y = number_cons f q qs in
        omega (arith, h, k, x, y)

-- one queue is changed: the number changes by as much
changed : (a : QueueName) (items : List Item) (f : Queues) (n : ℕ) → IsNumberOf f n
    → (m : ℕ) × IsNumberOf (with a items f) m × (m + length (f a) ≡ n + length items)
changed a items f n h = one (is_one_of h.names a) refl
  where
    one : (b : Bool) → is_one_of h.names a ≡ b
        → (m : ℕ) × IsNumberOf (with a items f) m × (m + length (f a) ≡ n + length items)
    one true e = (
      number_in h.names (with a items f),
      record {
        names = h.names;
        once = h.once;
        others = λ q g. other q g (is_queue a q) refl;
        total = refl;
      },
      (let k = there a items f h.names h.once e in let t = h.total in omega (arith, k, t)),
    )
      where
        other : (q : QueueName) → is_one_of h.names q ≡ false → (c : Bool) → is_queue a q ≡ c
            → with a items f q ≡ []
        other q g true i = absurd (true_false (is_one_of h.names q)
            (subst (λ z. is_one_of h.names z ≡ true) (queue_same a q i) e) g)
        other q g false i = with_no a items f q i ∙ h.others q g
    one false e = (
      number_in (a ∷ h.names) (with a items f),
      record {
        names = a ∷ h.names;
        once = (e, h.once);
        others = λ q g.
            let n = neither (is_queue q a) (is_one_of h.names q) g in
            with_no a items f q (queue_turned q a n.0) ∙ h.others q n.1;
        total = refl;
      },
      (let k = away a items f h.names e in
          let t = h.total in
          let x = number_cons (with a items f) a h.names in
          let y = ap length (with_yes a items f a (queue_self a)) in
          let z = ap length (h.others a e) in
          omega (arith, k, t, x, y, z)),
    )

-- ONE NUMBER

-- no items in any queue
nothing : (f : Queues) (qs : List QueueName) → ((q : QueueName) → f q ≡ []) → number_in qs f ≡ 0
nothing f [] h = refl
nothing f (q ∷ qs) h =
    let g = nothing f qs h in
    let x = number_cons f q qs in
    let y = ap length (h q) in
    omega (arith, g, x, y)

abbrev Covers : List QueueName → Queues → Type 0
Covers qs f = (q : QueueName) → is_one_of qs q ≡ false → f q ≡ []

emptied_there : (a : QueueName) (f : Queues) (rs : List QueueName) → AreDistinct rs → Covers rs f
    → number_in rs (with a [] f) + length (f a) ≡ number_in rs f
emptied_there a f rs d h = one (is_one_of rs a) refl
  where
    one : (b : Bool) → is_one_of rs a ≡ b
        → number_in rs (with a [] f) + length (f a) ≡ number_in rs f
    one true e = let k = there a [] f rs d e in omega (arith, k)
    one false e =
        let k = away a [] f rs e in
        let l = ap length (h a e) in
        omega (arith, k, l)

covers_without : (a : QueueName) (f : Queues) (rs : List QueueName)
    → ((q : QueueName) → is_queue a q ≡ false → is_one_of rs q ≡ false → f q ≡ [])
    → Covers rs (with a [] f)
covers_without a f rs h q e = one (is_queue a q) refl
  where
    one : (b : Bool) → is_queue a q ≡ b → with a [] f q ≡ []
    one true g = with_yes a [] f q g
    one false g = with_no a [] f q g ∙ h q g e

same_number : (qs rs : List QueueName) (f : Queues) → AreDistinct qs → AreDistinct rs
    → Covers qs f → Covers rs f → number_in qs f ≡ number_in rs f
same_number [] rs f d e h g = sym (nothing f rs (λ q. h q refl))
same_number (q ∷ qs) rs f d e h g =
    let i = same_number qs rs (with q [] f) d.1 e
    (covers_without q f qs (λ x a b. h x (none_of (is_queue x q) (is_one_of qs x)
    (queue_turned q x a) b)))
    (covers_without q f rs (λ x a b. g x b)) in
    let k = away q [] f qs d.0 in
    let l = emptied_there q f rs e g in
    let x = number_cons f q qs in
    omega (arith, i, k, l, x)

pub items_have_one_number : ItemsHaveOneNumber
items_have_one_number f m n h g =
    sym h.total ∙ same_number h.names g.names f h.once g.once h.others g.others ∙ g.total

pub none_waits : NoneWaitsAtFirst
none_waits = record { names = []; once = tt; others = λ q e. refl; total = refl }

-- CHANGES OF ONE QUEUE

with_number : (f : Queues) (m n : ℕ) → m ≡ n → IsNumberOf f m → IsNumberOf f n
with_number f m n e h = subst (IsNumberOf f) e h

-- items are appended
appended_more : (t : Text) (p : InteractionPoint) (items : List Item) (s : Situation) (n : ℕ)
    → HasItems s n → HasItems (appended t p items s) (n + length items)
appended_more t p items s n h =
    let old = s.queues (queue_of t p) in
    let c = changed (queue_of t p) (old ++ items) s.queues n h in
    let l = length-append old items in
    let e = c.2 in
    with_number _ c.0 (n + length items) (omega (arith, l, e)) c.1

moved_same : (t : Text) (p q : InteractionPoint) (s : Situation) → HasAsMany s (moved t p q s)
moved_same t p q s n h =
    let old = s.queues (queue_of t p) in
    let left = filter (λ i. not (belongs p i)) old in
    let gone = map (passed_to q) (filter (belongs p) old) in
    let c = changed (queue_of t p) left s.queues n h in
    let d = appended_more t q gone (emptied t p s) c.0 c.1 in
    let e = c.2 in
    let l = length-map (filter (belongs p) old) (passed_to q) in
    let k = length-filter_both (belongs p) (λ i. not (belongs p i)) (λ i. refl) old in
    with_number _ (c.0 + length gone) n (omega (arith, e, l, k)) d

delivered_more : (t : Text) (p : InteractionPoint) (i : Item) (s : Situation)
    → HasOneMore s (delivered_at t p i s)
delivered_more t p i s n h =
    appended_more t (bottom s p) (passed_to (bottom s p) i ∷ []) s n h

pub arrivals_put_one : ArrivalsPutOne
arrivals_put_one = delivered_more

crossed_put : (t : Text) (i : Item) (q other : InteractionPoint) (o : Option InteractionPoint)
    (x : Sent) → o ≡ Some other
    → HasOneMore x.situation (crossed t i q o x).situation × ((crossed t i q o x).outs ≡ x.outs)
crossed_put t i q other None x e = absurd (cc)
crossed_put t i q other (Some r) x e = (delivered_more t r i x.situation, refl)

-- an item leaves, or not
abbrev leaves : InteractionPoint → Item → Sent → Bool → Sent
leaves q i x b = if b then record x { outs = x.outs ++ passed_to q i ∷ [] } else x

leaves_one : (q : InteractionPoint) (i : Item) (x : Sent) (b : Bool) → b ≡ true
    → ((leaves q i x b).situation ≡ x.situation)
    × (length (leaves q i x b).outs ≡ length x.outs + 1)
leaves_one q i x true e = (refl, length-append x.outs (passed_to q i ∷ []))
leaves_one q i x false e = absurd (true_false false e refl)

crossed_left : (t : Text) (i : Item) (q : InteractionPoint) (o : Option InteractionPoint)
    (x : Sent) → o ≡ None → is_outside t x.situation q ≡ true
    → ((crossed t i q o x).situation ≡ x.situation)
    × (length (crossed t i q o x).outs ≡ length x.outs + 1)
crossed_left t i q (Some r) x e g = absurd (cc)
crossed_left t i q None x e g = leaves_one q i x (is_outside t x.situation q) g

crossed_lost : (t : Text) (i : Item) (q : InteractionPoint) (o : Option InteractionPoint)
    (x : Sent) → o ≡ None → is_outside t x.situation q ≡ false → crossed t i q o x ≡ x
crossed_lost t i q (Some r) x e g = absurd (cc)
crossed_lost t i q None x e g = ap (leaves q i x) g

pub outputs_put_one : OutputsPutOneOrNone
outputs_put_one = record {
  put = λ t i x q e. let p = up t x.situation i.at in
      crossed_put t i p q (x.situation.peer p) x e;
  left = λ t i x e g. let p = up t x.situation i.at in
      crossed_left t i p (x.situation.peer p) x e g;
  lost = λ t i x e g. let p = up t x.situation i.at in
      crossed_lost t i p (x.situation.peer p) x e g;
}

-- TAKING

dropped_less : (items : List Item) (i : Item) → slice_get items 0 ≡ Some i
    → length (drop 1 items) + 1 ≡ length items
dropped_less [] i e = absurd (cc)
dropped_less (x ∷ items) i e = omega arith

dropped_none : (items : List Item) → slice_get items 0 ≡ None
    → length (drop 1 items) ≡ length items
dropped_none [] e = refl
dropped_none (x ∷ items) e = absurd (cc)

pub taking_leaves_one_less : TakingLeavesOneLess
taking_leaves_one_less = record {
  taken = λ t p s i e n h.
      let old = s.queues (queue_of t p) in
      let c = changed (queue_of t p) (drop 1 old) s.queues n h in
      let l = dropped_less old i e in
      let k = c.2 in
      (c.0, c.1, omega (arith, l, k));
  none = λ t p s e n h.
      let old = s.queues (queue_of t p) in
      let c = changed (queue_of t p) (drop 1 old) s.queues n h in
      let l = dropped_none old e in
      let k = c.2 in
      with_number _ c.0 n (omega (arith, l, k)) c.1;
}

-- LINKS

on_if : (R : Situation → Situation → Type 0) (s : Situation) (b : Bool)
    (x y : Result Situation BlockFault) → OnChange R s x → OnChange R s y
    → OnChange R s (if b then x else y)
on_if R s true x y h g = h
on_if R s false x y h g = g

parted_same : (p : InteractionPoint) (o : Option InteractionPoint) (s : Situation)
    → HasAsMany s (parted p o s)
parted_same p None s n h = h
parted_same p (Some q) s n h = h

loosened_same : (t : Text) (e : InteractionPoint) (o : Option InteractionPoint) (s : Situation)
    → HasAsMany s (loosened t e o s)
loosened_same t e None s n h = h
loosened_same t e (Some c) s n h = moved_same t (bottom s e) e s n h

from_same : (t : Text) (o : Option InteractionPoint) (s : Situation)
    → HasAsMany s (detached_from t o s)
from_same t None s n h = h
from_same t (Some e) s n h = loosened_same t e (s.down e) s n h

end_same : (t : Text) (n : ℕ) (p : InteractionPoint) (s : Situation)
    → HasAsMany s (detached_end t n p s)
end_same t n p s = one (nat_eq n p.instance)
  where
    one : (b : Bool) → HasAsMany s (if b then detached t p s else detached_above t p s)
    one true = loosened_same t p (s.down p) s
    one false = from_same t (above t s p) s

pub links_move_items : LinksMoveItems
links_move_items = record {
  connects = λ t p q s. on_if HasAsMany s (is_point p q) _ _ tt
      (on_if HasAsMany s (is_taken t s p || is_taken t s q) _ _ tt (λ n h. h));
  attaches = λ t e c s. on_if HasAsMany s (is_some (s.down e) || is_taken t s c) _ _ tt
      (moved_same t e (bottom s c) s);
  disconnects = λ p s. parted_same p (s.peer p) s;
  detaches = end_same;
}

-- INSTANCES

born_same : (s : Situation) (go : Frame → Situation) (r : Result Frame BlockFault)
    → ((f : Frame) → HasAsMany s (go f)) → OnChange HasAsMany s (on_ok r (λ f. Ok (go f)))
born_same s go (Ok f) h = h f
born_same s go (Err x) h = tt

pub beginnings_keep_items : BeginningsKeepItems
beginnings_keep_items t parent e body xs s =
    on_if HasAsMany s (nat_lt most_instances s.next) _ _ tt (born_same s
    (λ f. with_row parent (holds e s.next) (with_next t.outline parent body f s))
    (frame_of t.outline (variables_of t.outline body) xs) (λ f n h. h))

each_same : (t : Text) (ps : List InteractionPoint) (s : Situation)
    → HasAsMany s (each (untied t) ps s)
each_same t [] s n h = h
each_same t (p ∷ ps) s n h =
    let u = detached_above t p s in
    each_same t ps (untied t p s) n
    (parted_same p (u.peer p) u n (from_same t (above t s p) s n h))

-- the queues of some instances, and those of the others
module _ (ns : List ℕ) (f : Queues) where
  abbrev rest_of : Queues
  rest_of = λ q. if is_among ns (owner q) then [] else f q

  parts : (q : QueueName) → length (rest_of q) + length (items_at ns f q) ≡ length (f q)
  parts q = one (is_among ns (owner q))
    where
      one : (b : Bool) → length (if b then [] else f q) + length (if b then f q else [])
          ≡ length (f q)
      one true = omega arith
      one false = omega arith

  both_parts : (qs : List QueueName)
      → number_in qs rest_of + number_in qs (items_at ns f) ≡ number_in qs f
  both_parts [] = refl
  both_parts (q ∷ qs) =
      let h = both_parts qs in
      let g = parts q in
      let x = number_cons rest_of q qs in
      let y = number_cons (items_at ns f) q qs in
      let z = number_cons f q qs in
      omega (arith, h, g, x, y, z)

  at_none : (q : QueueName) → f q ≡ [] → items_at ns f q ≡ []
  at_none q e = one (is_among ns (owner q))
    where
      one : (b : Bool) → (if b then f q else []) ≡ []
      one true = e
      one false = refl

  rest_none : (q : QueueName) → f q ≡ [] → rest_of q ≡ []
  rest_none q e = one (is_among ns (owner q))
    where
      one : (b : Bool) → (if b then [] else f q) ≡ []
      one true = refl
      one false = e

  split : (n : ℕ) → IsNumberOf f n → (k : ℕ) × (rest : ℕ) × IsNumberOf (items_at ns f) k
      × IsNumberOf rest_of rest × (rest + k ≡ n)
  split n h = (
    number_in h.names (items_at ns f),
    number_in h.names rest_of,
    record {
      names = h.names;
      once = h.once;
      others = λ q e. at_none q (h.others q e);
      total = refl;
    },
    record {
      names = h.names;
      once = h.once;
      others = λ q e. rest_none q (h.others q e);
      total = refl;
    },
    both_parts h.names ∙ h.total,
  )

pub releases_lose_their_items : ReleasesLoseTheirItems
releases_lose_their_items t n s m h =
    let u = loose t n s in
    split (descendants (n ∷ []) u.rows) u.queues m
    (each_same t (external_of t.outline s n) s m h)

-- CHANGES IN A ROW

-- the same items in each queue
same_numbers : (f g : Queues) → ((q : QueueName) → g q ≡ f q) → (qs : List QueueName)
    → number_in qs g ≡ number_in qs f
same_numbers f g e [] = refl
same_numbers f g e (q ∷ qs) =
    let h = same_numbers f g e qs in
    let k = ap length (e q) in
    let x = number_cons g q qs in
    let y = number_cons f q qs in
    omega (arith, h, k, x, y)

same_items : (f g : Queues) (n : ℕ) → ((q : QueueName) → g q ≡ f q) → IsNumberOf f n
    → IsNumberOf g n
same_items f g n e h = record {
  names = h.names;
  once = h.once;
  others = λ q i. e q ∙ h.others q i;
  total = same_numbers f g e h.names ∙ h.total;
}

abbrev Adds : ℕ → ℕ → ℕ → ℕ → Situation → Type 0
Adds put taken gone n u = (m : ℕ) × HasItems u m × (m + taken + gone ≡ n + put)

added : (a b c d e f n : ℕ) (s u : Situation) → Adds a b c n s
    → ((m : ℕ) → HasItems s m → Adds d e f m u) → Adds (a + d) (b + e) (c + f) n u
added a b c d e f n s u h g =
    let k = g h.0 h.1 in
    let x = h.2 in
    let y = k.2 in
    (k.0, k.1, omega (arith, x, y))

lost_items : (ns : List ℕ) (k n : ℕ) (s : Situation) → IsNumberOf (items_at ns s.queues) k
    → HasItems s n → Adds 0 0 k n (without ns s)
lost_items ns k n s h g =
    let x = split ns s.queues n g in
    let e = items_have_one_number (items_at ns s.queues) x.0 k x.2 h in
    let l = x.4 in
    (x.1, x.3, omega (arith, e, l))

pub changes_add_up : ChangesAddUp
changes_add_up put taken gone s u n (rests r v e) h =
    (n, same_items r.queues v.queues n e h, omega arith)
changes_add_up put taken gone s u n (puts t p i r) h =
    (n + 1, delivered_more t p i r n h, omega arith)
changes_add_up put taken gone s u n (takes t p i r e) h =
    let x = taking_leaves_one_less.taken t p r i e n h in
    let l = x.2 in
    (x.0, x.1, omega (arith, l))
changes_add_up put taken gone s u n (moves t p q r) h =
    (n, moved_same t p q r n h, omega arith)
changes_add_up put taken gone s u n (loses ns k r e) h = lost_items ns k n r e h
changes_add_up put taken gone s u n (after a b c d e f r v w x y) h =
    added a b c d e f n v w (changes_add_up a b c r v n x h)
    (λ m g. changes_add_up d e f v w m y g)

-- BLOCKS

-- a change that puts and moves alone
abbrev Put : ℕ → Situation → Situation → Type 0
Put k s u = Becomes k 0 0 s u

put_none : (k : ℕ) (s u : Situation) → Put k s u → TakesNone s u
put_none k s u h n g = (k, 0, h)

rests_none : (s u : Situation) → ((q : QueueName) → u.queues q ≡ s.queues q) → TakesNone s u
rests_none s u e n g = (0, 0, rests s u e)

joined : (r s u : Situation) → TakesNone r s → TakesNone s u → TakesNone r u
joined r s u h g n i =
    let x = h n i in
    let m = changes_add_up x.0 0 x.1 r s n x.2 i in
    let y = g m.0 m.1 in
    (x.0 + y.0, x.1 + y.1, after x.0 0 x.1 y.0 0 y.1 r s u x.2 y.2)

crossed_none : (t : Text) (i : Item) (q : InteractionPoint) (o : Option InteractionPoint)
    (x : Sent) → TakesNone x.situation (crossed t i q o x).situation
crossed_none t i q (Some other) x =
    put_none 1 x.situation (delivered_at t other i x.situation) (puts t other i x.situation)
crossed_none t i q None x = one (is_outside t x.situation q)
  where
    one : (b : Bool) → TakesNone x.situation (leaves q i x b).situation
    one true = rests_none x.situation x.situation (λ q. refl)
    one false = rests_none x.situation x.situation (λ q. refl)

parted_none : (p : InteractionPoint) (o : Option InteractionPoint) (s : Situation)
    → TakesNone s (parted p o s)
parted_none p None s = rests_none s s (λ q. refl)
parted_none p (Some q) s = rests_none s (parted p (Some q) s) (λ q. refl)

-- items are moved, and links are changed
moved_none : (t : Text) (p q : InteractionPoint) (s u : Situation)
    → ((x : QueueName) → u.queues x ≡ (moved t p q s).queues x) → TakesNone s u
moved_none t p q s u e = joined s (moved t p q s) u
    (put_none 0 s (moved t p q s) (moves t p q s)) (rests_none (moved t p q s) u e)

loosened_none : (t : Text) (e : InteractionPoint) (o : Option InteractionPoint) (s : Situation)
    → TakesNone s (loosened t e o s)
loosened_none t e None s = rests_none s s (λ q. refl)
loosened_none t e (Some c) s =
    moved_none t (bottom s e) e s (loosened t e (Some c) s) (λ q. refl)

from_none : (t : Text) (o : Option InteractionPoint) (s : Situation)
    → TakesNone s (detached_from t o s)
from_none t None s = rests_none s s (λ q. refl)
from_none t (Some e) s = loosened_none t e (s.down e) s

end_none : (t : Text) (n : ℕ) (p : InteractionPoint) (s : Situation)
    → TakesNone s (detached_end t n p s)
end_none t n p s = one (nat_eq n p.instance)
  where
    one : (b : Bool) → TakesNone s (if b then detached t p s else detached_above t p s)
    one true = loosened_none t p (s.down p) s
    one false = from_none t (above t s p) s

each_none : (t : Text) (ps : List InteractionPoint) (s : Situation)
    → TakesNone s (each (untied t) ps s)
each_none t [] s = rests_none s s (λ q. refl)
each_none t (p ∷ ps) s =
    let u = detached_above t p s in
    let v = untied t p s in
    joined s v (each (untied t) ps v)
    (joined s u v (from_none t (above t s p) s) (parted_none p (u.peer p) u))
    (each_none t ps v)

without_none : (ns : List ℕ) (s : Situation) → TakesNone s (without ns s)
without_none ns s n h =
    let x = split ns s.queues n h in
    (0, x.0, loses ns x.0 s x.2)

born_none : (s : Situation) (go : Frame → Situation) (r : Result Frame BlockFault)
    → ((f : Frame) → TakesNone s (go f)) → OnChange TakesNone s (on_ok r (λ f. Ok (go f)))
born_none s go (Ok f) h = h f
born_none s go (Err x) h = tt

none_taken : (t : Text) → Keeps t TakesNone
none_taken t = record {
  same = λ s. rests_none s s (λ q. refl);
  after = joined;
  writes = λ n f s. rests_none s (with_variables n f s) (λ q. refl);
  states = λ n p s. rests_none s (with_row n (in_state p) s) (λ q. refl);
  sends = λ i x. let q = up t x.situation i.at in crossed_none t i q (x.situation.peer q) x;
  connects = λ p q s. on_if TakesNone s (is_point p q) _ _ tt
      (on_if TakesNone s (is_taken t s p || is_taken t s q) _ _ tt (rests_none s _ (λ x. refl)));
  attaches = λ e c s. on_if TakesNone s (is_some (s.down e) || is_taken t s c) _ _ tt
      (moved_none t e (bottom s c) s _ (λ x. refl));
  disconnects = λ p s. parted_none p (s.peer p) s;
  detaches = λ n p s. end_none t n p s;
  releases = λ n s.
      let u = each (untied t) (external_of t.outline s n) s in
      joined s u (without (descendants (n ∷ []) u.rows) u)
      (each_none t (external_of t.outline s n) s) (without_none (descendants (n ∷ []) u.rows) u);
  begins = λ parent e body xs s. on_if TakesNone s (nat_lt most_instances s.next) _ _ tt
      (born_none s (λ f. with_row parent (holds e s.next) (with_next t.outline parent body f s))
      (frame_of t.outline (variables_of t.outline body) xs)
      (λ f. rests_none s _ (λ q. refl)));
}

pub blocks_take_none : BlocksTakeNone
blocks_take_none = blocks_keep TakesNone none_taken
