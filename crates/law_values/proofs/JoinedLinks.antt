-- What links, outputs, and instances that come and go leave of attachments that join interaction
-- points of a relation.
use Rattle.std.proofs.Common.{◌≡◌, refl, subst, ℕ, nat_eq, nat_lt, Bool, true, false, ◌||◌}
use Rattle.std.proofs.Common.{List, [], ◌∷◌, ◌++◌, Option, Some, None, Result, Ok, Err, is_some}
use Rattle.std.specs.Prelude.{if◌then◌else◌, option_and_then}
use Rattle.std.proofs.lemmas.Option.{same_Some, none-some}
use Rattle.mean_blocks.specs.declared.fault.BlockFault.{BlockFault}
use Rattle.mean_blocks.specs.declared.situation.Element.{Element}
use Rattle.mean_blocks.specs.declared.situation.InteractionPoint.{InteractionPoint}
use Rattle.mean_blocks.specs.declared.situation.Item.{Item}
use Rattle.mean_blocks.specs.declared.frame.Slot.{Slot}
use Rattle.mean_blocks.specs.Outcome.{on_ok}
use Rattle.mean_blocks.specs.TextByPlace.{Text}
use Rattle.mean_blocks.specs.GlobalSituation.{Frame, Map, Situation, is_point, with_row}
use Rattle.mean_blocks.specs.FunctionCalls.{frame_of}
use Rattle.mean_blocks.specs.InstancePoints.{external_of}
use Rattle.mean_blocks.specs.Attachments.{above}
use Rattle.mean_blocks.specs.QueueEffects.{passed_to}
use Rattle.mean_blocks.specs.OutputEffects.{Sent, is_outside, crossed}
use Rattle.mean_blocks.specs.LinkEffects.{with_point, is_taken, connected, attached, parted}
use Rattle.mean_blocks.specs.LinkEffects.{disconnected, loosened, detached, detached_from}
use Rattle.mean_blocks.specs.LinkEffects.{detached_above, detached_end, each}
use Rattle.mean_blocks.specs.InstanceEffects.{most_instances, variables_of, with_next, holds}
use Rattle.mean_blocks.specs.InstanceEffects.{is_among, point_without, links_without, descendants}
use Rattle.mean_blocks.specs.InstanceEffects.{untied, released, born}
use Rattle.mean_blocks.proofs.MutualPeers.{point_same}
use Rattle.law_runs.proofs.GivenThings.{OnGood}
use Rattle.law_runs.proofs.ParentsOlder.{good_if}

module _ (R : InteractionPoint → InteractionPoint → Type 0) where
  -- each link joins interaction points that are related
  abbrev Joins : Map InteractionPoint InteractionPoint → Type 0
  Joins m = (p q : InteractionPoint) → m p ≡ Some q → R p q

  -- each attachment does
  abbrev pub Joined : Situation → Type 0
  Joined s = Joins s.down

  point_joins : (e : InteractionPoint) (o : Option InteractionPoint)
      (m : Map InteractionPoint InteractionPoint)
      → ((q : InteractionPoint) → o ≡ Some q → R e q) → Joins m
      → Joins (with_point e o m)
  point_joins e o m h g p q k = one (is_point e p) refl k
    where
      one : (b : Bool) → is_point e p ≡ b → (if b then o else m p) ≡ Some q
          → R p q
      one true z k = subst (λ (x : InteractionPoint). R x q) (point_same e p z)
          (h q k)
      one false z k = g p q k

  -- OUTPUTS AND LINKS

  pub crossed_joined : (t : Text) (i : Item) (q : InteractionPoint) (o : Option InteractionPoint)
      (x : Sent) → Joined x.situation → Joined (crossed t i q o x).situation
  crossed_joined t i q (Some other) x h = h
  crossed_joined t i q None x h = one (is_outside t x.situation q)
    where
      one : (b : Bool) → Joined
          (if b then record x { outs = x.outs ++ passed_to q i ∷ [] } else x).situation
      one true = h
      one false = h

  pub connected_joined : (t : Text) (p q : InteractionPoint) (s : Situation) → Joined s
      → OnGood Joined (connected t p q s)
  connected_joined t p q s h = good_if Joined (is_point p q) _ _ (λ e. tt)
      (λ e. good_if Joined (is_taken t s p || is_taken t s q) _ _ (λ f. tt) (λ f. h))

  pub attached_joined : (t : Text) (e c : InteractionPoint) (s : Situation)
      → R e c → Joined s → OnGood Joined (attached t e c s)
  attached_joined t e c s l h = good_if Joined (is_some (s.down e) || is_taken t s c) _ _
      (λ f. tt) (λ f. point_joins e (Some c) s.down
      (λ q k. subst (λ (x : InteractionPoint). R e x) (same_Some c q k) l) h)

  parted_joined : (p : InteractionPoint) (o : Option InteractionPoint) (s : Situation)
      → Joined s → Joined (parted p o s)
  parted_joined p None s h = h
  parted_joined p (Some q) s h = h

  pub disconnected_joined : (p : InteractionPoint) (s : Situation) → Joined s
      → Joined (disconnected p s)
  disconnected_joined p s h = parted_joined p (s.peer p) s h

  loosened_joined : (t : Text) (e : InteractionPoint) (o : Option InteractionPoint) (s : Situation)
      → Joined s → Joined (loosened t e o s)
  loosened_joined t e None s h = h
  loosened_joined t e (Some c) s h = point_joins e None s.down (λ q k. absurd (none-some q k)) h

  from_joined : (t : Text) (o : Option InteractionPoint) (s : Situation) → Joined s
      → Joined (detached_from t o s)
  from_joined t None s h = h
  from_joined t (Some e) s h = loosened_joined t e (s.down e) s h

  pub end_joined : (t : Text) (n : ℕ) (p : InteractionPoint) (s : Situation) → Joined s
      → Joined (detached_end t n p s)
  end_joined t n p s h = one (nat_eq n p.instance)
    where
      one : (b : Bool) → Joined (if b then detached t p s else detached_above t p s)
      one true = loosened_joined t p (s.down p) s h
      one false = from_joined t (above t s p) s h

  -- INSTANCES

  untied_joined : (t : Text) (ps : List InteractionPoint) (s : Situation) → Joined s
      → Joined (each (untied t) ps s)
  untied_joined t [] s h = h
  untied_joined t (p ∷ ps) s h = untied_joined t ps (untied t p s)
      (disconnected_joined p (detached_above t p s) (from_joined t (above t s p) s h))

  without_joined : (ns : List ℕ) (m : Map InteractionPoint InteractionPoint) → Joins m
      → Joins (links_without ns m)
  without_joined ns m h p q k = one (is_among ns p.instance) k
    where
      kept : (x : InteractionPoint) (b : Bool) → (if b then None else Some x) ≡ Some q → x ≡ q
      kept x true e = absurd (none-some q e)
      kept x false e = same_Some x q e

      other : (o : Option InteractionPoint) → m p ≡ o
          → option_and_then (point_without ns) o ≡ Some q → R p q
      other None z e = absurd (none-some q e)
      other (Some x) z e = subst (λ (y : InteractionPoint). R p y)
          (kept x (is_among ns x.instance) e) (h p x z)

      one : (b : Bool) → (if b then None else option_and_then (point_without ns) (m p)) ≡ Some q
          → R p q
      one true e = absurd (none-some q e)
      one false e = other (m p) refl e

  pub released_joined : (t : Text) (n : ℕ) (s : Situation) → Joined s
      → Joined (released t n s)
  released_joined t n s h =
      let u = each (untied t) (external_of t.outline s n) s in
      without_joined (descendants (n ∷ []) u.rows) u.down
      (untied_joined t (external_of t.outline s n) s h)

  pub born_joined : (t : Text) (n : ℕ) (e : Element) (body : ℕ) (xs : List Slot) (s : Situation)
      → Joined s → OnGood Joined (born t n e body xs s)
  born_joined t n e body xs s h = good_if Joined (nat_lt most_instances s.next) _ _ (λ f. tt)
      (λ f. with_frame (frame_of t.outline (variables_of t.outline body) xs))
    where
      with_frame : (r : Result Frame BlockFault) → OnGood Joined
          (on_ok r (λ f. Ok (with_row n (holds e s.next) (with_next t.outline n body f s))))
      with_frame (Ok f) = h
      with_frame (Err f) = tt
