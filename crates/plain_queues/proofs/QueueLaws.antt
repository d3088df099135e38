-- Lists of queues that are changed.
use Rattle.std.proofs.Common.{◌≡◌, refl, sym, ap, subst, ◌∙◌, Bool, true, false, cond, not, List}
use Rattle.std.proofs.Common.{[], ◌∷◌, ◌++◌, Option, Some, None, slice_get, slice_set, ℕ, map}
use Rattle.std.proofs.Common.{length, get_or, append_assoc, append-nil}
use Rattle.std.proofs.lemmas.List.{map-append}
use Rattle.std.proofs.lemmas.List.Elements.{filter-append}
use Rattle.std.proofs.lemmas.Option.{same_Some, slice_get_read, slice_get_within}
use Rattle.std.specs.Prelude.{find, if◌then◌else◌, drop}
use Rattle.std.specs.List.{filter, position}
use Rattle.std.specs.Option.{option_map_or, option_or}
use Rattle.plain_texts.specs.mean_blocks.declared.situation.InteractionPoint.{InteractionPoint}
use Rattle.plain_texts.specs.mean_blocks.declared.situation.Item.{Item}
use Rattle.plain_texts.specs.mean_blocks.GlobalSituation.{QueueName, is_queue, first_changed}
use Rattle.plain_texts.specs.mean_blocks.QueueEffects.{belongs, passed_to}
use Rattle.plain_texts.proofs.of_mean_blocks.FirstChanged.{found_changed, others_found}
use Rattle.plain_systems.specs.declared.system.Waiting.{Waiting}
use Rattle.plain_systems.specs.HeldSystems.{queue_of, is_waiting, waiting_in}
use Rattle.plain_systems.proofs.FirstFound.{first_found, first_there, changed_at}
use Rattle.plain_queues.specs.ChangedQueues.{IsParted, with_items, transferred}
use Rattle.plain_systems.proofs.FirstPlaces.{found_in_both, found_kept, found_none}
use Rattle.plain_systems.proofs.SamePoints.{queue_same, queue_self}

abbrev Held : Waiting → List Item
Held w = w.items

abbrev pub held_or_none : Option Waiting → List Item
held_or_none o = option_map_or Held o []

-- an empty queue that is put last
empty_last : (w : Waiting) (o : Option Waiting) (b : Bool) → w.items ≡ []
    → held_or_none (option_or o (cond b (Some w) None)) ≡ held_or_none o
empty_last w (Some v) b h = refl
empty_last w None true h = h
empty_last w None false h = refl

pub empty_queue : (ws : List Waiting) (w : Waiting) → w.items ≡ []
    → waiting_in (ws ++ w ∷ []) ≡ waiting_in ws
empty_queue ws w h = λ i q. at q i
  where
    at : (q : QueueName) → waiting_in (ws ++ w ∷ []) q ≡ waiting_in ws q
    at q = ap held_or_none (found_in_both (is_waiting q) ws (w ∷ []))
        ∙ empty_last w (find (is_waiting q) ws) (is_waiting q w) h

-- a queue that is not there
pub no_queue : (q : QueueName) (ws : List Waiting) → find (is_waiting q) ws ≡ None
    → waiting_in ws q ≡ []
no_queue q ws h = ap held_or_none h

pub held_queue : (q : QueueName) (ws : List Waiting) (i : ℕ) (w : Waiting)
    → position (is_waiting q) ws ≡ Some i → slice_get ws i ≡ Some w → waiting_in ws q ≡ w.items
held_queue q ws i w f g = ap held_or_none (first_found (is_waiting q) ws i f ∙ g)

-- a queue that has other items
abbrev with_held : List Item → Waiting → Waiting
with_held xs w = record w { items = xs }

queue_apart : (q x y : QueueName) (d : Bool) → is_queue q x ≡ false → q ≡ y → is_queue x y ≡ d
    → d ≡ false
queue_apart q x y true e s k =
    sym (subst (λ z. is_queue q z ≡ true) (s ∙ sym (queue_same x y k)) (queue_self q)) ∙ e
queue_apart q x y false e s k = refl

changed_queue_at : (q x : QueueName) (ws : List Waiting) (w : Waiting) (xs : List Item) (c : Bool)
    → is_queue q x ≡ c → find (is_waiting q) ws ≡ Some w
    → waiting_in (first_changed (is_waiting q) (with_held xs) ws) x
    ≡ (if c then xs else waiting_in ws x)
changed_queue_at q x ws w xs true e h =
    ap held_or_none (subst
    (λ y. find (is_waiting y) (first_changed (is_waiting q) (with_held xs) ws)
    ≡ Some (with_held xs w)) (queue_same q x e)
    (found_changed (is_waiting q) (with_held xs) ws w (λ v. refl) h))
changed_queue_at q x ws w xs false e h =
    ap held_or_none (others_found (is_waiting q) (is_waiting x) (with_held xs) ws
    (λ v k. queue_apart q x (queue_of v.queue) (is_waiting x v) e
    (queue_same q (queue_of v.queue) k) refl)
    (λ v. refl))

pub changed_queue : (q : QueueName) (ws : List Waiting) (i : ℕ) (w : Waiting) (xs : List Item)
    → position (is_waiting q) ws ≡ Some i → slice_get ws i ≡ Some w
    → waiting_in (slice_set ws i (with_held xs w)) ≡ with_items q xs (waiting_in ws)
changed_queue q ws i w xs f g =
    ap waiting_in (sym (changed_at (is_waiting q) (with_held xs) ws i w f g))
    ∙ (λ j x. changed_queue_at q x ws w xs (is_queue q x) refl
    (first_found (is_waiting q) ws i f ∙ g) j)

-- the same where the list is read at an index
at_index : (q : QueueName) (ws vs : List Waiting) (i : ℕ) (w : Waiting) → vs ≡ ws
    → position (is_waiting q) ws ≡ Some i → w ≡ get_or vs i w → slice_get ws i ≡ Some w
at_index q ws vs i w e f g =
    let r = first_there (is_waiting q) ws i f in
    slice_get_read ws (length ws) i w refl (slice_get_within ws i r.0 r.1)
    (g ∙ ap (λ xs. get_or xs i w) e)

pub held_there : (q : QueueName) (ws vs : List Waiting) (i : ℕ) (w : Waiting) → vs ≡ ws
    → position (is_waiting q) ws ≡ Some i → w ≡ get_or vs i w → waiting_in ws q ≡ w.items
held_there q ws vs i w e f g = held_queue q ws i w f (at_index q ws vs i w e f g)

pub changed_there : (q : QueueName) (ws vs : List Waiting) (i : ℕ) (w : Waiting)
    (f : List Item → List Item) (xs : List Item) (m : QueueName → List Item) → vs ≡ ws
    → position (is_waiting q) ws ≡ Some i → w ≡ get_or vs i w → waiting_in ws ≡ m → xs ≡ f w.items
    → waiting_in (slice_set vs i (with_held xs w)) ≡ with_items q (f (m q)) m
changed_there q ws vs i w f xs m e p g s x =
    let h : m q ≡ w.items = ap (λ k. k q) (sym s) ∙ held_there q ws vs i w e p g in
    ap (λ ys. waiting_in (slice_set ys i (with_held xs w))) e
    ∙ changed_queue q ws i w xs p (at_index q ws vs i w e p g)
    ∙ ap (λ k. with_items q xs k) s
    ∙ ap (λ ys. with_items q ys m) (x ∙ ap f (sym h))

-- a queue that keeps its items
same_at : (q x : QueueName) (m : QueueName → List Item) (c : Bool) → is_queue q x ≡ c
    → (if c then m q else m x) ≡ m x
same_at q x m true e = ap m (queue_same q x e)
same_at q x m false e = refl

pub same_queues : (q : QueueName) (m : QueueName → List Item) → with_items q (m q) m ≡ m
same_queues q m = λ i x. same_at q x m (is_queue q x) refl i

-- queues of which some are left out
kept_queue_at : (t : QueueName → Bool) (x : QueueName) (ws : List Waiting) (c : Bool) → t x ≡ c
    → waiting_in (filter (λ (w : Waiting). not (t (queue_of w.queue))) ws) x
    ≡ (if c then [] else waiting_in ws x)
kept_queue_at t x ws true e =
    ap held_or_none (found_none (λ (w : Waiting). not (t (queue_of w.queue))) (is_waiting x) ws
    (λ w h. ap not (ap t (sym (queue_same x (queue_of w.queue) h)) ∙ e)))
kept_queue_at t x ws false e =
    ap held_or_none (found_kept (λ (w : Waiting). not (t (queue_of w.queue))) (is_waiting x) ws
    (λ w h. ap not (ap t (sym (queue_same x (queue_of w.queue) h)) ∙ e)))

pub kept_queues : (t : QueueName → Bool) (ws : List Waiting)
    → waiting_in (filter (λ (w : Waiting). not (t (queue_of w.queue))) ws)
    ≡ (λ q. if t q then [] else waiting_in ws q)
kept_queues t ws = λ i q. kept_queue_at t q ws (t q) refl i

-- an item that is taken from a queue stays or moves
head_and_rest : (xs : List Item) (x : Item) → Some x ≡ slice_get xs 0 → xs ≡ x ∷ drop 1 xs
head_and_rest [] x h = absurd (cc)
head_and_rest (y ∷ ys) x h = ap (λ z. z ∷ ys) (sym (same_Some x y h))

module _ (p q : InteractionPoint) where
  abbrev pub stays : List Item → List Item
  stays xs = filter (λ i. not (belongs p i)) xs

  abbrev pub moves : List Item → List Item
  moves xs = map (passed_to q) (filter (belongs p) xs)

pub parted_more : (p q : InteractionPoint) (all rest stay moved left more others : List Item)
    (x : Item) → IsParted p q all rest stay moved → Some x ≡ slice_get rest 0 → left ≡ drop 1 rest
    → more ≡ stay ++ stays p q (x ∷ []) → others ≡ moved ++ moves p q (x ∷ [])
    → IsParted p q all left more others
parted_more p q all rest stay moved left more others x d h l m o =
    let r : rest ≡ x ∷ left = head_and_rest rest x h ∙ ap (λ xs. x ∷ xs) (sym l) in
    record {
      stayed = ap (λ xs. xs ++ stays p q left) m
          ∙ append_assoc stay (stays p q (x ∷ [])) (stays p q left)
          ∙ ap (λ xs. stay ++ xs) (sym (filter-append (λ i. not (belongs p i)) (x ∷ []) left)
          ∙ ap (stays p q) (sym r)) ∙ d.stayed;
      passed = ap (λ xs. xs ++ moves p q left) o
          ∙ append_assoc moved (moves p q (x ∷ [])) (moves p q left)
          ∙ ap (λ xs. moved ++ xs)
          (sym (map-append (passed_to q) (filter (belongs p) (x ∷ [])) (filter (belongs p) left))
          ∙ ap (map (passed_to q)) (sym (filter-append (belongs p) (x ∷ []) left))
          ∙ ap (moves p q) (sym r)) ∙ d.passed;
    }

pub parted_none : (p q : InteractionPoint) (all stay moved : List Item)
    → IsParted p q all [] stay moved → (stay ≡ stays p q all) × (moved ≡ moves p q all)
parted_none p q all stay moved d =
    (sym (append-nil stay) ∙ d.stayed, sym (append-nil moved) ∙ d.passed)

-- items that go from one queue to another
pub none_transferred : (p q : InteractionPoint) (a b : QueueName) (m : QueueName → List Item)
    → m a ≡ [] → transferred p a q b m ≡ m
none_transferred p q a b m h =
    let s : stays p q (m a) ≡ m a = ap (stays p q) h ∙ sym h in
    let k : with_items a (stays p q (m a)) m ≡ m =
    ap (λ xs. with_items a xs m) s ∙ same_queues a m in
    let e : moves p q (m a) ≡ [] = ap (moves p q) h in
    ap (λ (n : QueueName → List Item). with_items b (n b ++ moves p q (m a)) n) k
    ∙ ap (λ xs. with_items b (m b ++ xs) m) e
    ∙ ap (λ xs. with_items b xs m) (append-nil (m b)) ∙ same_queues b m

pub some_transferred : (p q : InteractionPoint) (a b : QueueName)
    (m n after : QueueName → List Item) (moved : List Item) → after ≡ with_items b (n b ++ moved) n
    → n ≡ with_items a (stays p q (m a)) m → moved ≡ moves p q (m a)
    → after ≡ transferred p a q b m
some_transferred p q a b m n after moved o k e =
    o ∙ ap (λ (l : QueueName → List Item). with_items b (l b ++ moved) l) k
    ∙ ap (λ xs. with_items b (with_items a (stays p q (m a)) m b ++ xs)
    (with_items a (stays p q (m a)) m)) e
