-- Connections lead both ways, whatever blocks do.
use Rattle.std.proofs.Common.{◌≡◌, refl, sym, ap, subst, ◌∙◌, arith, ℕ, nat_eq, nat_lt, ℤ}
use Rattle.std.proofs.Common.{◌&&◌, ◌||◌}
use Rattle.std.proofs.Common.{Bool, true, false, List, [], ◌∷◌, Option, Some, None, is_some}
use Rattle.std.proofs.Common.{Result, Ok, Err}
use Rattle.std.specs.Prelude.{if◌then◌else◌, option_and_then}
use Rattle.std.specs.Ordering.{int_eq}
use Rattle.std.specs.Cmp.Lexicographic.{pointwise, pointwise_decides}
use Rattle.std.proofs.lemmas.Bool.{eqb-true}
use Rattle.std.proofs.lemmas.Bool.Decides.{nat_tests, Decides-int_eq}
use Rattle.std.proofs.lemmas.Option.{same_Some}
use Rattle.mean_blocks.specs.declared.fault.BlockFault.{BlockFault}
use Rattle.mean_blocks.specs.declared.situation.InteractionPoint.{InteractionPoint}
use Rattle.mean_blocks.specs.declared.situation.Item.{Item}
use Rattle.mean_blocks.specs.Outcome.{on_ok}
use Rattle.mean_blocks.specs.TextByPlace.{Text}
use Rattle.mean_blocks.specs.GlobalSituation.{Frame, Map, Situation, is_point}
use Rattle.mean_blocks.specs.FunctionCalls.{frame_of}
use Rattle.mean_blocks.specs.InstancePoints.{external_of}
use Rattle.mean_blocks.specs.Attachments.{up, above}
use Rattle.mean_blocks.specs.OutputEffects.{Sent, is_outside, crossed}
use Rattle.mean_blocks.specs.LinkEffects.{with_point, is_taken, connected, parted}
use Rattle.mean_blocks.specs.LinkEffects.{loosened, detached, detached_from, detached_above}
use Rattle.mean_blocks.specs.LinkEffects.{detached_end, each}
use Rattle.mean_blocks.specs.InstanceEffects.{most_instances, variables_of, is_among, descendants}
use Rattle.mean_blocks.specs.InstanceEffects.{point_without, links_without, untied}
use Rattle.mean_blocks.specs.KeepingLaws.{OnChange, Keeps, AreMutual, KeepsPeers, PeersStayMutual}
use Rattle.mean_blocks.proofs.KeptByBlocks.{blocks_keep}

-- POINTS

both : (a b : Bool) → (a && b) ≡ true → (a ≡ true) × (b ≡ true)
both true true e = (refl, refl)
both true false e = absurd (cc)
both false b e = absurd (cc)

index_decides : (xs ys : List ℤ) → (pointwise int_eq xs ys ≡ true → xs ≡ ys)
    × (xs ≡ ys → pointwise int_eq xs ys ≡ true)
index_decides = pointwise_decides Decides-int_eq

pub point_same : (a b : InteractionPoint) → is_point a b ≡ true → a ≡ b
point_same a b e =
    let p = both (nat_eq a.instance b.instance)
    (nat_eq a.declared b.declared && pointwise int_eq a.index b.index) e in
    let q = both (nat_eq a.declared b.declared) (pointwise int_eq a.index b.index) p.1 in
    let f = eqb-true a.instance b.instance p.0 in
    let g = eqb-true a.declared b.declared q.0 in
    let h = (index_decides a.index b.index).0 q.1 in
    λ i. record { instance = f i; declared = g i; index = h i }

pub eq_self : (n : ℕ) → nat_eq n n ≡ true
eq_self n = grind (arith, nat_tests)

pub point_self : (a : InteractionPoint) → is_point a a ≡ true
point_self a = rw (eq_self a.instance, eq_self a.declared) ((index_decides a.index a.index).1 refl)

none_some : {A : Type 0} (a : A) → None ≡ Some a → ⊥
none_some a h = cc

true_false : (b : Bool) → b ≡ true → b ≡ false → ⊥
true_false b h k = cc

-- LINKS

abbrev Links : Type 0
Links = Map InteractionPoint InteractionPoint

point_yes : (p : InteractionPoint) (o : Option InteractionPoint) (m : Links)
    (x : InteractionPoint) → is_point p x ≡ true → with_point p o m x ≡ o
point_yes p o m x e = ap (λ b. if b then o else m x) e

point_no : (p : InteractionPoint) (o : Option InteractionPoint) (m : Links)
    (x : InteractionPoint) → is_point p x ≡ false → with_point p o m x ≡ m x
point_no p o m x e = ap (λ b. if b then o else m x) e

-- two points that have no connection are connected
module _ (p q : InteractionPoint) (m : Links) (apart : is_point p q ≡ false) (np : m p ≡ None)
    (nq : m q ≡ None) (h : AreMutual m) where
  abbrev tied : Links
  tied = with_point p (Some q) (with_point q (Some p) m)

  first_tied : tied p ≡ Some q
  first_tied = point_yes p (Some q) (with_point q (Some p) m) p (point_self p)

  second_tied : tied q ≡ Some p
  second_tied = point_no p (Some q) (with_point q (Some p) m) q apart
      ∙ point_yes q (Some p) m q (point_self q)

  other_tied : (x y : InteractionPoint) → m x ≡ Some y → (b : Bool) → is_point p x ≡ b
      → (c : Bool) → is_point q x ≡ c → tied x ≡ Some y
  other_tied x y k true e c f = absurd (none_some y (sym np ∙ ap m (point_same p x e) ∙ k))
  other_tied x y k false e true f = absurd (none_some y (sym nq ∙ ap m (point_same q x f) ∙ k))
  other_tied x y k false e false f =
      point_no p (Some q) (with_point q (Some p) m) x e ∙ point_no q (Some p) m x f ∙ k

  tied_by : (x y : InteractionPoint) (b : Bool) → is_point p x ≡ b → (c : Bool)
      → is_point q x ≡ c → tied x ≡ Some y → tied y ≡ Some x
  tied_by x y true e c f k = subst (λ z. tied z ≡ Some x)
      (same_Some q y (sym (point_yes p (Some q) (with_point q (Some p) m) x e) ∙ k))
      (second_tied ∙ ap Some (point_same p x e))
  tied_by x y false e true f k = subst (λ z. tied z ≡ Some x)
      (same_Some p y (sym (point_no p (Some q) (with_point q (Some p) m) x e
      ∙ point_yes q (Some p) m x f) ∙ k))
      (first_tied ∙ ap Some (point_same q x f))
  tied_by x y false e false f k =
      let g = h x y (sym (point_no p (Some q) (with_point q (Some p) m) x e
      ∙ point_no q (Some p) m x f) ∙ k) in
      other_tied y x g (is_point p y) refl (is_point q y) refl

  tied_mutual : AreMutual tied
  tied_mutual x y k = tied_by x y (is_point p x) refl (is_point q x) refl k

-- two points that are connected are parted
module _ (p q : InteractionPoint) (m : Links) (pq : m p ≡ Some q) (h : AreMutual m) where
  abbrev cut : Links
  cut = with_point p None (with_point q None m)

  other_cut : (x y : InteractionPoint) → m x ≡ Some y → is_point p y ≡ false
      → is_point q y ≡ false → (b : Bool) → is_point p x ≡ b → (c : Bool) → is_point q x ≡ c
      → cut x ≡ Some y
  other_cut x y k d g true e c f = absurd (true_false (is_point q y)
      (subst (λ z. is_point q z ≡ true)
      (same_Some q y (sym pq ∙ ap m (point_same p x e) ∙ k)) (point_self q)) g)
  other_cut x y k d g false e true f = absurd (true_false (is_point p y)
      (subst (λ z. is_point p z ≡ true)
      (same_Some p y (sym (h p q pq) ∙ ap m (point_same q x f) ∙ k)) (point_self p)) d)
  other_cut x y k d g false e false f =
      point_no p None (with_point q None m) x e ∙ point_no q None m x f ∙ k

  cut_by : (x y : InteractionPoint) (b : Bool) → is_point p x ≡ b → (c : Bool)
      → is_point q x ≡ c → cut x ≡ Some y → cut y ≡ Some x
  cut_by x y true e c f k =
      absurd (none_some y (sym (point_yes p None (with_point q None m) x e) ∙ k))
  cut_by x y false e true f k = absurd (none_some y
      (sym (point_no p None (with_point q None m) x e ∙ point_yes q None m x f) ∙ k))
  cut_by x y false e false f k =
      let g = h x y (sym (point_no p None (with_point q None m) x e ∙ point_no q None m x f) ∙ k) in
      other_cut y x g e f (is_point p y) refl (is_point q y) refl

  cut_mutual : AreMutual cut
  cut_mutual x y k = cut_by x y (is_point p x) refl (is_point q x) refl k

-- instances go with their links
module _ (ns : List ℕ) (m : Links) (h : AreMutual m) where
  -- what is left of a link
  abbrev left : Bool → Option InteractionPoint → Option InteractionPoint
  left b o = if b then None else option_and_then (point_without ns) o

  abbrev left_point : Bool → InteractionPoint → Option InteractionPoint
  left_point b z = if b then None else Some z

  stays : (z x : InteractionPoint) → is_among ns z.instance ≡ false
      → is_among ns x.instance ≡ false → m z ≡ Some x → links_without ns m z ≡ Some x
  stays z x e f k = ap (λ b. left b (m z)) e ∙ ap (option_and_then (point_without ns)) k
      ∙ ap (λ b. left_point b x) f

  without_by : (x y : InteractionPoint) (b : Bool) → is_among ns x.instance ≡ b
      → (o : Option InteractionPoint) → m x ≡ o → left b o ≡ Some y
      → links_without ns m y ≡ Some x
  without_by x y true e o f k = absurd (none_some y k)
  without_by x y false e None f k = absurd (none_some y k)
  without_by x y false e (Some z) f k = by (is_among ns z.instance) refl k
    where
      by : (c : Bool) → is_among ns z.instance ≡ c → left_point c z ≡ Some y
          → links_without ns m y ≡ Some x
      by true g k = absurd (none_some y k)
      by false g k = subst (λ w. links_without ns m w ≡ Some x) (same_Some z y k)
          (stays z x g e (h x z f))

  without_mutual : AreMutual (links_without ns m)
  without_mutual x y k = without_by x y (is_among ns x.instance) refl (m x) refl k

-- SITUATIONS

same_peers : (s u : Situation) → u.peer ≡ s.peer → KeepsPeers s u
same_peers s u e h = subst AreMutual (sym e) h

either_changes : (s : Situation) (b : Bool) (x y : Result Situation BlockFault)
    → (b ≡ true → OnChange KeepsPeers s x) → (b ≡ false → OnChange KeepsPeers s y)
    → OnChange KeepsPeers s (if b then x else y)
either_changes s true x y h k = h refl
either_changes s false x y h k = k refl

sent_peers : (b : Bool) (x y : Sent) → y.situation.peer ≡ x.situation.peer
    → (if b then y else x).situation.peer ≡ x.situation.peer
sent_peers true x y h = h
sent_peers false x y h = refl

crossed_peers : (t : Text) (i : Item) (q : InteractionPoint) (o : Option InteractionPoint)
    (x : Sent) → (crossed t i q o x).situation.peer ≡ x.situation.peer
crossed_peers t i q (Some other) x = refl
crossed_peers t i q None x = sent_peers (is_outside t x.situation q) x _ refl

-- what is not taken has no connection
not_taken : (o : Option InteractionPoint) (c : Bool) → (is_some o || c) ≡ false → o ≡ None
not_taken None c h = refl
not_taken (Some x) c h = absurd (cc)

neither : (a b : Bool) → (a || b) ≡ false → (a ≡ false) × (b ≡ false)
neither true b h = absurd (cc)
neither false b h = (refl, h)

connected_peers : (t : Text) (p q : InteractionPoint) (s : Situation)
    → OnChange KeepsPeers s (connected t p q s)
connected_peers t p q s = either_changes s (is_point p q) _ _ (λ e. tt)
    (λ e. either_changes s (is_taken t s p || is_taken t s q) _ _ (λ f. tt)
    (λ f. let g = neither (is_taken t s p) (is_taken t s q) f in
    tied_mutual p q s.peer e (not_taken (s.peer p) (is_some (above t s p)) g.0)
    (not_taken (s.peer q) (is_some (above t s q)) g.1)))

parted_peers : (p : InteractionPoint) (s : Situation) (o : Option InteractionPoint)
    → s.peer p ≡ o → KeepsPeers s (parted p o s)
parted_peers p s None e h = h
parted_peers p s (Some q) e h = cut_mutual p q s.peer e h

loosened_peers : (t : Text) (e : InteractionPoint) (o : Option InteractionPoint) (s : Situation)
    → (loosened t e o s).peer ≡ s.peer
loosened_peers t e None s = refl
loosened_peers t e (Some q) s = refl

from_peers : (t : Text) (o : Option InteractionPoint) (s : Situation)
    → (detached_from t o s).peer ≡ s.peer
from_peers t None s = refl
from_peers t (Some e) s = loosened_peers t e (s.down e) s

end_peers : (t : Text) (n : ℕ) (p : InteractionPoint) (s : Situation)
    → (detached_end t n p s).peer ≡ s.peer
end_peers t n p s = one (nat_eq n p.instance)
  where
    one : (b : Bool) → (if b then detached t p s else detached_above t p s).peer ≡ s.peer
    one true = loosened_peers t p (s.down p) s
    one false = from_peers t (above t s p) s

untied_peers : (t : Text) (p : InteractionPoint) (s : Situation) → KeepsPeers s (untied t p s)
untied_peers t p s h = let u = detached_above t p s in
    parted_peers p u (u.peer p) refl (same_peers s u (from_peers t (above t s p) s) h)

each_peers : (t : Text) (ps : List InteractionPoint) (s : Situation)
    → KeepsPeers s (each (untied t) ps s)
each_peers t [] s h = h
each_peers t (p ∷ ps) s h = each_peers t ps (untied t p s) (untied_peers t p s h)

born_peers : (s : Situation) (r : Result Frame BlockFault) (go : Frame → Situation)
    → ((f : Frame) → (go f).peer ≡ s.peer)
    → OnChange KeepsPeers s (on_ok r (λ f. Ok (go f)))
born_peers s (Ok f) go h = same_peers s (go f) (h f)
born_peers s (Err f) go h = tt

-- each change keeps connections mutual
pub peers_kept : (t : Text) → Keeps t KeepsPeers
peers_kept t = record {
  same = λ s h. h;
  after = λ r s u h k g. k (h g);
  writes = λ n f s h. h;
  states = λ n p s h. h;
  sends = λ i x. let q = up t x.situation i.at in
      same_peers x.situation (crossed t i q (x.situation.peer q) x).situation
      (crossed_peers t i q (x.situation.peer q) x);
  connects = λ p q s. connected_peers t p q s;
  attaches = λ e c s. either_changes s (is_some (s.down e) || is_taken t s c) _ _ (λ f. tt)
      (λ f h. h);
  disconnects = λ p s. parted_peers p s (s.peer p) refl;
  detaches = λ n p s. same_peers s (detached_end t n p s) (end_peers t n p s);
  releases = λ n s h. let u = each (untied t) (external_of t.outline s n) s in
      without_mutual (descendants (n ∷ []) u.rows) u.peer
      (each_peers t (external_of t.outline s n) s h);
  begins = λ parent e body xs s. either_changes s (nat_lt most_instances s.next) _ _ (λ f. tt)
      (λ f. born_peers s (frame_of t.outline (variables_of t.outline body) xs) _ (λ g. refl));
}

pub peers_stay_mutual : PeersStayMutual
peers_stay_mutual = blocks_keep KeepsPeers peers_kept
