-- Links and queues stay with living instances, whatever output and links do.
use Rattle.std.proofs.Common.{◌≡◌, refl, sym, ap, subst, ℕ, zero, suc, nat_eq, Bool}
use Rattle.std.proofs.Common.{true, false, List, [], ◌∷◌, ◌++◌, Option, Some, None, is_some}
use Rattle.std.proofs.Common.{Result, length}
use Rattle.std.specs.Prelude.{if◌then◌else◌, not, find, map, option_and_then}
use Rattle.std.specs.List.{filter}
use Rattle.std.specs.Option.{option_map_or}
use Rattle.std.proofs.lemmas.Bool.{eqb-true}
use Rattle.std.proofs.lemmas.Option.{same_Some}
use Rattle.est_syntax.specs.declared.header.Queue.{Queue}
use Rattle.est_syntax.specs.declared.header.Queue.TheVariants.{Individual, Common}
use Rattle.mean_blocks.specs.declared.fault.BlockFault.{BlockFault}
use Rattle.mean_blocks.specs.declared.situation.InteractionPoint.{InteractionPoint}
use Rattle.mean_blocks.specs.declared.situation.Item.{Item}
use Rattle.mean_blocks.specs.declared.situation.Row.{Row}
use Rattle.mean_blocks.specs.TextByPlace.{Text, discipline}
use Rattle.mean_blocks.specs.GlobalSituation.{Map, Situation, QueueName, Own, Shared, is_queue}
use Rattle.mean_blocks.specs.GlobalSituation.{is_point, is_numbered}
use Rattle.mean_blocks.specs.Attachments.{above, bottom, follow, up}
use Rattle.mean_blocks.specs.QueueEffects.{queue_of, queue_by, passed_to, belongs, moved}
use Rattle.mean_blocks.specs.OutputEffects.{Sent, is_outside, crossed}
use Rattle.mean_blocks.specs.LinkEffects.{with_point, parted}
use Rattle.mean_blocks.specs.LinkEffects.{loosened, detached, detached_from, detached_above}
use Rattle.mean_blocks.specs.LinkEffects.{detached_end, each}
use Rattle.mean_blocks.specs.InstanceEffects.{owner, is_among, links_without, point_without}
use Rattle.mean_blocks.specs.InstanceEffects.{untied}
use Rattle.mean_blocks.proofs.MutualPeers.{point_same}
use Rattle.law_runs.specs.OrderLaws.{IsLiving, LinkTheLiving, WaitAtTheLiving}
use Rattle.law_runs.proofs.GivenThings.{OnGood}

none_some : {A : Type 0} (a : A) → None ≡ Some a → ⊥
none_some a h = cc

true_false : (b : Bool) → b ≡ true → b ≡ false → ⊥
true_false b h k = cc

abbrev pub Links : Type 0
Links = Map InteractionPoint InteractionPoint

abbrev pub Queues : Type 0
Queues = QueueName → List Item

-- links and queues are those of living instances
pub record AreLiving (rs : List Row) (peer down : Links) (queues : Queues) : Type 0 where
  pub peers : LinkTheLiving rs peer
  pub downs : LinkTheLiving rs down
  pub items : WaitAtTheLiving rs queues

abbrev pub IsLinked : List Row → Situation → Type 0
IsLinked rs s = AreLiving rs s.peer s.down s.queues

module _ (rs : List Row) where
  abbrev pub Lives : InteractionPoint → Type 0
  Lives p = IsLiving rs p.instance

  -- LINKS

  -- one link is another, or none
  point_living : (p : InteractionPoint) (o : Option InteractionPoint) (m : Links)
      → ((q : InteractionPoint) → o ≡ Some q → Lives p × Lives q) → LinkTheLiving rs m
      → LinkTheLiving rs (with_point p o m)
  point_living p o m h g x y k = one (is_point p x) refl k
    where
      one : (b : Bool) → is_point p x ≡ b → (if b then o else m x) ≡ Some y → Lives x × Lives y
      one true e k = subst (λ z. Lives z × Lives y) (point_same p x e) (h y k)
      one false e k = g x y k

  some_living : (p q : InteractionPoint) → Lives p → Lives q → (x : InteractionPoint)
      → Some q ≡ Some x → Lives p × Lives x
  some_living p q h g x e = (h, subst Lives (same_Some q x e) g)

  -- QUEUES

  pub queue_owner : (a b : QueueName) → is_queue a b ≡ true → owner a ≡ owner b
  queue_owner (Own a) (Own b) e = ap (λ (p : InteractionPoint). p.instance) (point_same a b e)
  queue_owner (Own a) (Shared n) e = absurd (true_false false e refl)
  queue_owner (Shared m) (Own b) e = absurd (true_false false e refl)
  queue_owner (Shared m) (Shared n) e = eqb-true m n e

  owner_by : (p : InteractionPoint) (d : Queue) → owner (queue_by p d) ≡ p.instance
  owner_by p Individual = refl
  owner_by p Common = refl

  -- the queue of a living instance has other items
  queue_living : (a : QueueName) (items : List Item) (queues : Queues) → IsLiving rs (owner a)
      → WaitAtTheLiving rs queues
      → WaitAtTheLiving rs (λ q. if is_queue a q then items else queues q)
  queue_living a items queues h g q d = one (is_queue a q) refl
    where
      one : (b : Bool) → is_queue a q ≡ b → (if b then items else queues q) ≡ []
      one true e = absurd (true_false (is_some (find (is_numbered (owner q)) rs))
          (subst (IsLiving rs) (queue_owner a q e) h) d)
      one false e = g q d

  at_point : (t : Text) (p : InteractionPoint) → Lives p → IsLiving rs (owner (queue_of t p))
  at_point t p h = subst (IsLiving rs) (sym (owner_by p (discipline t p.declared))) h

  pub appended_living : (t : Text) (p : InteractionPoint) (items : List Item) (queues : Queues)
      → Lives p → WaitAtTheLiving rs queues
      → WaitAtTheLiving rs (λ q. if is_queue (queue_of t p) q then queues (queue_of t p) ++ items
      else queues q)
  appended_living t p items queues h g =
      queue_living (queue_of t p) (queues (queue_of t p) ++ items) queues (at_point t p h) g

  moved_living : (t : Text) (p q : InteractionPoint) (s : Situation) → Lives p → Lives q
      → WaitAtTheLiving rs s.queues → WaitAtTheLiving rs (moved t p q s).queues
  moved_living t p q s h g k = appended_living t q
      (map (passed_to q) (filter (belongs p) (s.queues (queue_of t p))))
      (λ x. if is_queue (queue_of t p) x
      then filter (λ i. not (belongs p i)) (s.queues (queue_of t p)) else s.queues x) g
      (queue_living (queue_of t p) (filter (λ i. not (belongs p i)) (s.queues (queue_of t p)))
      s.queues (at_point t p h) k)

  -- the innermost point below one that lives
  follow_living : (m : Links) → LinkTheLiving rs m → (k : ℕ) (p : InteractionPoint) → Lives p
      → Lives (follow m k p)
  follow_living m h zero p g = g
  follow_living m h (suc k) p g = one (m p) refl (follow_living m h k)
    where
      one : (o : Option InteractionPoint) → m p ≡ o
          → ((q : InteractionPoint) → Lives q → Lives (follow m k q))
          → Lives (option_map_or (follow m k) o p)
      one None e f = g
      one (Some q) e f = f q (h p q e).1

  pub bottom_living : (s : Situation) → IsLinked rs s → (p : InteractionPoint) → Lives p
      → Lives (bottom s p)
  bottom_living s h p g = follow_living s.down h.downs (length s.rows) p g

  -- EFFECTS

  crossed_living : (t : Text) (i : Item) (q : InteractionPoint) (o : Option InteractionPoint)
      (x : Sent) → x.situation.peer q ≡ o → IsLinked rs x.situation
      → IsLinked rs (crossed t i q o x).situation
  crossed_living t i q (Some other) x e h =
      let b = bottom x.situation other in record {
        peers = h.peers;
        downs = h.downs;
        items = appended_living t b (passed_to b i ∷ []) x.situation.queues
            (bottom_living x.situation h other (h.peers q other e).1) h.items;
      }
  crossed_living t i q None x e h = one (is_outside t x.situation q)
    where
      one : (b : Bool) → IsLinked rs
          (if b then record x { outs = x.outs ++ passed_to q i ∷ [] } else x).situation
      one true = h
      one false = h

  either_living : {A : Type 0} (Q : A → Type 0) (b : Bool) (x y : Result A BlockFault)
      → OnGood Q x → OnGood Q y → OnGood Q (if b then x else y)
  either_living Q true x y h g = h
  either_living Q false x y h g = g

  pub connected_living : (p q : InteractionPoint) (s : Situation) → Lives p → Lives q
      → IsLinked rs s
      → IsLinked rs (record s { peer = with_point p (Some q) (with_point q (Some p) s.peer) })
  connected_living p q s a b h = record {
    peers = point_living p (Some q) (with_point q (Some p) s.peer) (some_living p q a b)
        (point_living q (Some p) s.peer (some_living q p b a) h.peers);
    downs = h.downs;
    items = h.items;
  }

  pub attached_living : (t : Text) (e c : InteractionPoint) (s : Situation) → Lives e → Lives c
      → IsLinked rs s → IsLinked rs
      (record (moved t e (bottom s c) s) { down = with_point e (Some c) s.down })
  attached_living t e c s a b h = record {
    peers = h.peers;
    downs = point_living e (Some c) s.down (some_living e c a b) h.downs;
    items = moved_living t e (bottom s c) s a (bottom_living s h c b) h.items;
  }

  pub parted_living : (p : InteractionPoint) (o : Option InteractionPoint) (s : Situation)
      → IsLinked rs s → IsLinked rs (parted p o s)
  parted_living p None s h = h
  parted_living p (Some q) s h = record {
    peers = point_living p None (with_point q None s.peer) (λ x e. absurd (none_some x e))
        (point_living q None s.peer (λ x e. absurd (none_some x e)) h.peers);
    downs = h.downs;
    items = h.items;
  }

  loosened_living : (t : Text) (e : InteractionPoint) (o : Option InteractionPoint) (s : Situation)
      → s.down e ≡ o → IsLinked rs s → IsLinked rs (loosened t e o s)
  loosened_living t e None s i h = h
  loosened_living t e (Some c) s i h = let a = (h.downs e c i).0 in record {
    peers = h.peers;
    downs = point_living e None s.down (λ x k. absurd (none_some x k)) h.downs;
    items = moved_living t (bottom s e) e s (bottom_living s h e a) a h.items;
  }

  from_living : (t : Text) (o : Option InteractionPoint) (s : Situation) → IsLinked rs s
      → IsLinked rs (detached_from t o s)
  from_living t None s h = h
  from_living t (Some e) s h = loosened_living t e (s.down e) s refl h

  pub end_living : (t : Text) (n : ℕ) (p : InteractionPoint) (s : Situation) → IsLinked rs s
      → IsLinked rs (detached_end t n p s)
  end_living t n p s h = one (nat_eq n p.instance)
    where
      one : (b : Bool) → IsLinked rs (if b then detached t p s else detached_above t p s)
      one true = loosened_living t p (s.down p) s refl h
      one false = from_living t (above t s p) s h

  untied_living : (t : Text) (p : InteractionPoint) (s : Situation) → IsLinked rs s
      → IsLinked rs (untied t p s)
  untied_living t p s h = let u = detached_above t p s in
      parted_living p (u.peer p) u (from_living t (above t s p) s h)

  pub each_living : (t : Text) (ps : List InteractionPoint) (s : Situation) → IsLinked rs s
      → IsLinked rs (each (untied t) ps s)
  each_living t [] s h = h
  each_living t (p ∷ ps) s h = each_living t ps (untied t p s) (untied_living t p s h)

  pub sent_living : (t : Text) (i : Item) (x : Sent) → IsLinked rs x.situation
      → let q = up t x.situation i.at in
      IsLinked rs (crossed t i q (x.situation.peer q) x).situation
  sent_living t i x h = let q = up t x.situation i.at in
      crossed_living t i q (x.situation.peer q) x refl h

-- OTHER ROWS

-- who lives here lives there
pub stay_living : (rs us : List Row) (peer down : Links) (queues : Queues)
    → ((n : ℕ) → IsLiving rs n → IsLiving us n) → AreLiving rs peer down queues
    → AreLiving us peer down queues
stay_living rs us peer down queues f h = record {
  peers = λ p q e. let a = h.peers p q e in (f p.instance a.0, f q.instance a.1);
  downs = λ p q e. let a = h.downs p q e in (f p.instance a.0, f q.instance a.1);
  items = λ q d. h.items q (dead (owner q) d (is_some (find (is_numbered (owner q)) rs)) refl);
}
  where
    dead : (n : ℕ) → is_some (find (is_numbered n) us) ≡ false → (b : Bool)
        → is_some (find (is_numbered n) rs) ≡ b → is_some (find (is_numbered n) rs) ≡ false
    dead n d true e = absurd (true_false (is_some (find (is_numbered n) us)) (f n e) d)
    dead n d false e = e

-- some instances go
module _ (rs us : List Row) (ns : List ℕ)
    (f : (n : ℕ) → IsLiving rs n → is_among ns n ≡ false → IsLiving us n) where
  -- what is left of a link
  abbrev left : Bool → Option InteractionPoint → Option InteractionPoint
  left b o = if b then None else option_and_then (point_without ns) o

  abbrev left_point : Bool → InteractionPoint → Option InteractionPoint
  left_point b z = if b then None else Some z

  links_living : (m : Links) → LinkTheLiving rs m → LinkTheLiving us (links_without ns m)
  links_living m h x y k = one (is_among ns x.instance) refl (m x) refl k
    where
      last : (z : InteractionPoint) → m x ≡ Some z → is_among ns x.instance ≡ false → (c : Bool)
          → is_among ns z.instance ≡ c → left_point c z ≡ Some y
          → IsLiving us x.instance × IsLiving us y.instance
      last z i e true g k = absurd (none_some y k)
      last z i e false g k = let a = h x z i in (
        f x.instance a.0 e,
        subst (λ (w : InteractionPoint). IsLiving us w.instance) (same_Some z y k)
            (f z.instance a.1 g),
      )

      one : (b : Bool) → is_among ns x.instance ≡ b → (o : Option InteractionPoint) → m x ≡ o
          → left b o ≡ Some y → IsLiving us x.instance × IsLiving us y.instance
      one true e o i k = absurd (none_some y k)
      one false e None i k = absurd (none_some y k)
      one false e (Some z) i k = last z i e (is_among ns z.instance) refl k

  items_living : (queues : Queues) → WaitAtTheLiving rs queues
      → WaitAtTheLiving us (λ q. if is_among ns (owner q) then [] else queues q)
  items_living queues h q d = one (is_among ns (owner q)) refl
    where
      dead : is_among ns (owner q) ≡ false → (b : Bool)
          → is_some (find (is_numbered (owner q)) rs) ≡ b
          → is_some (find (is_numbered (owner q)) rs) ≡ false
      dead e true g =
          absurd (true_false (is_some (find (is_numbered (owner q)) us)) (f (owner q) g e) d)
      dead e false g = g

      one : (b : Bool) → is_among ns (owner q) ≡ b → (if b then [] else queues q) ≡ []
      one true e = refl
      one false e = h q (dead e (is_some (find (is_numbered (owner q)) rs)) refl)

  pub without_living : (peer down : Links) (queues : Queues) → AreLiving rs peer down queues
      → AreLiving us (links_without ns peer) (links_without ns down)
      (λ q. if is_among ns (owner q) then [] else queues q)
  without_living peer down queues h = record {
    peers = links_living peer h.peers;
    downs = links_living down h.downs;
    items = items_living queues h.items;
  }
