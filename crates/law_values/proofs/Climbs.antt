-- An item that climbs along attachments of one side stays one that its interaction point sends.
use Rattle.std.proofs.Common.{◌≡◌, refl, sym, ap, subst, ◌∙◌, ℕ, zero, suc, Bool, true, false}
use Rattle.std.proofs.Common.{List, [], ◌∷◌, ◌++◌, Option, Some, None, length}
use Rattle.std.specs.Prelude.{if◌then◌else◌, find}
use Rattle.std.specs.List.{AllByRecursion}
use Rattle.std.specs.Option.{option_map_or}
use Rattle.std.proofs.lemmas.Option.{same_Some, none-some}
use Rattle.mean_blocks.specs.declared.situation.InteractionPoint.{InteractionPoint}
use Rattle.mean_blocks.specs.declared.situation.Item.{Item}
use Rattle.mean_blocks.specs.TextByPlace.{Text}
use Rattle.mean_blocks.specs.GlobalSituation.{Situation, is_point}
use Rattle.mean_blocks.specs.InstancePoints.{external_of}
use Rattle.mean_blocks.specs.Attachments.{leads_to, parent_of, above, follow, up}
use Rattle.mean_blocks.specs.QueueEffects.{passed_to}
use Rattle.mean_blocks.specs.OutputEffects.{Sent, is_outside, crossed, sent}
use Rattle.mean_blocks.proofs.MutualPeers.{point_same}
use Rattle.est_meaning.proofs.Options.{then_some, or_true}
use Rattle.rule_scope.specs.Outline.{Outline}
use Rattle.law_values.specs.SentInteractions.{HaveOneSide, IsSent}
use Rattle.law_values.proofs.JoinedLinks.{Joined, crossed_joined}

-- what is found passes
found_passes : {A : Type 0} (test : A → Bool) (xs : List A) (y : A) → find test xs ≡ Some y
    → test y ≡ true
found_passes test [] y h = absurd (none-some y h)
found_passes test (x ∷ xs) y h = one (test x) refl h (found_passes test xs y)
  where
    one : (b : Bool) → test x ≡ b → (if b then Some x else find test xs) ≡ Some y
        → (find test xs ≡ Some y → test y ≡ true) → test y ≡ true
    one true e k rest = subst (λ z. test z ≡ true) (same_Some x y k) e
    one false e k rest = rest k

all_push : {A : Type 0} (P : A → Type 0) (xs : List A) (x : A) → AllByRecursion P xs → P x
    → AllByRecursion P (xs ++ x ∷ [])
all_push P [] x h g = (g, tt)
all_push P (y ∷ ys) x h g = (h.0, all_push P ys x h.1 g)

module _ (t : Text) (s : Situation) (joined : Joined (HaveOneSide t.outline) s) where
  -- one step up
  above_side : (p e : InteractionPoint) → above t s p ≡ Some e → HaveOneSide t.outline e p
  above_side p e h =
      let a = then_some (λ (n : ℕ). find (λ e. leads_to p (s.down e)) (external_of t.outline s n))
      (parent_of s p.instance) e h in
      let f = found_passes (λ e. leads_to p (s.down e)) (external_of t.outline s a.0) e a.2 in
      let c = or_true (is_point p) (s.down e) f in
      joined e p (c.1 ∙ ap Some (sym (point_same p c.0 c.2)))

  -- and many
  follow_side : (n : ℕ) (p : InteractionPoint) → HaveOneSide t.outline (follow (above t s) n p) p
  follow_side zero p = refl
  follow_side (suc n) p = one (above t s p) refl (follow_side n)
    where
      one : (x : Option InteractionPoint) → above t s p ≡ x
          → ((q : InteractionPoint) → HaveOneSide t.outline (follow (above t s) n q) q)
          → HaveOneSide t.outline (option_map_or (follow (above t s) n) x p) p
      one None e rest = refl
      one (Some q) e rest = rest q ∙ above_side p q e

  climbed : (p : InteractionPoint) → HaveOneSide t.outline (up t s p) p
  climbed p = follow_side (length s.rows) p

-- an item at an interaction point of the same side
moved_item : (o : Outline) (i : Item) (q : InteractionPoint) → HaveOneSide o q i.at → IsSent o i
    → IsSent o (passed_to q i)
moved_item o i q h g = record {
  sends = record {
    side = g.sends.side;
    side_is = h ∙ g.sends.side_is;
    senders = g.sends.senders;
    declared = g.sends.declared;
    may = g.sends.may;
  };
  values = g.values;
}

left_by_crossing : (t : Text) (i : Item) (q : InteractionPoint) (c : Option InteractionPoint)
    (x : Sent) → IsSent t.outline (passed_to q i) → AllByRecursion (IsSent t.outline) x.outs
    → AllByRecursion (IsSent t.outline) (crossed t i q c x).outs
left_by_crossing t i q (Some other) x h g = g
left_by_crossing t i q None x h g = one (is_outside t x.situation q)
  where
    one : (b : Bool) → AllByRecursion (IsSent t.outline)
        (if b then record x { outs = x.outs ++ passed_to q i ∷ [] } else x).outs
    one true = all_push (IsSent t.outline) x.outs (passed_to q i) g h
    one false = g

-- what an output leaves
pub crossed_sent : (t : Text) (i : Item) (x : Sent) → IsSent t.outline i
    → Joined (HaveOneSide t.outline) x.situation → AllByRecursion (IsSent t.outline) x.outs
    → Joined (HaveOneSide t.outline) (sent t i x).situation
    × AllByRecursion (IsSent t.outline) (sent t i x).outs
crossed_sent t i x h g k =
    let q = up t x.situation i.at in (
      crossed_joined (HaveOneSide t.outline) t i q (x.situation.peer q) x g,
      left_by_crossing t i q (x.situation.peer q) x
          (moved_item t.outline i q (climbed t x.situation g i.at) h) k,
    )
