-- What waits where one item waits alone, and after a firing there.
use Rattle.std.proofs.Common.{◌≡◌, refl, ap, subst, ◌∙◌, ℕ, Bool, true, false}
use Rattle.std.proofs.Common.{List, [], ◌∷◌}
use Rattle.std.proofs.Common.{Option, Some, None}
use Rattle.std.specs.Prelude.{if◌then◌else◌}
use Rattle.std.specs.Option.{option_map_or}
use Rattle.est_meaning.specs.mean_blocks.declared.situation.Item.{Item}
use Rattle.est_meaning.specs.mean_blocks.Outcome.{Outcome, Done}
use Rattle.est_meaning.specs.mean_blocks.TextByPlace.{Text}
use Rattle.est_meaning.specs.mean_blocks.GlobalSituation.{QueueName, Situation, is_queue}
use Rattle.est_meaning.specs.mean_blocks.QueueEffects.{queue_of}
use Rattle.plain_frames.specs.plain_systems.declared.system.System.{System}
use Rattle.plain_frames.specs.plain_systems.declared.system.Waiting.{Waiting}
use Rattle.plain_frames.specs.plain_systems.HeldSystems.{queue_of as queue_by, situation_of}
use Rattle.plain_frames.specs.plain_systems.HeldSystems.{waiting_in}
use Rattle.est_meaning.specs.declared.event.Event.{Event}
use Rattle.est_meaning.specs.declared.firing.Firing.{Firing}
use Rattle.est_meaning.specs.FiringSteps.{outcome}
use Rattle.plain_walk.specs.SentItems.{queue_with, alone, IsSentBy}

-- nothing waits where there are no queues
pub nothing_waits : (t : Text) → waiting_in [] ≡ queue_with t None
nothing_waits t = refl

-- the items of the only queue, if it is the one
only : (w : Waiting) (i : Item) → w.items ≡ i ∷ [] → (b : Bool)
    → option_map_or (λ (v : Waiting). v.items) (if b then Some w else None) []
    ≡ (if b then i ∷ [] else [])
only w i e true = e
only w i e false = refl

-- one item waits where it is all that is in the only queue, which is its own
pub one_waits : (t : Text) (w : Waiting) (i : Item) → queue_by w.queue ≡ queue_of t i.at
    → w.items ≡ i ∷ [] → waiting_in (w ∷ []) ≡ queue_with t (Some i)
one_waits t w i queue items = λ j q. at q j
  where
    at : (q : QueueName) → waiting_in (w ∷ []) q ≡ queue_with t (Some i) q
    at q = only w i items (is_queue q (queue_by w.queue))
        ∙ ap (λ (p : QueueName). if is_queue q p then i ∷ [] else []) queue

-- a system whose queues have nothing but one item is in the situation in which that waits alone
pub waits_alone : (t : Text) (item : Option Item) (x s : System) (ws : List Waiting) → x ≡ s
    → waiting_in ws ≡ queue_with t item
    → situation_of (record x { queues = ws }) ≡ alone t item (situation_of s)
waits_alone t item x s ws same queues =
    ap (λ (m : QueueName → List Item). record (situation_of x) { queues = m }) queues
    ∙ ap (λ (z : System). alone t item (situation_of z)) same

-- AFTER A FIRING

done_once : (o : Outcome Situation (List Event)) (outs others : List Event) (s u : Situation)
    → o ≡ Done outs s → o ≡ Done others u → s ≡ u
done_once o outs others s u e g = cc

-- what a firing sends is what waits after it where only what it takes waited
pub sent_there : (limit : ℕ) (t : Text) (s a v : Situation) (f : Firing) (item : Option Item)
    (outs : List Event) → a ≡ alone t item s → outcome limit t a f ≡ Done outs v
    → IsSentBy limit t s f item v.queues
sent_there limit t s a v f item outs same e others u g =
    let h : outcome limit t (alone t item s) f ≡ Done outs v =
    subst (λ (z : Situation). outcome limit t z f ≡ Done outs v) same e in
    ap (λ (z : Situation). z.queues)
    (done_once (outcome limit t (alone t item s) f) outs others v u h g)
