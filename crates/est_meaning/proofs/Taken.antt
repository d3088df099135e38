-- What an enabled choice awaits is there, and is taken.
use Rattle.std.proofs.Common.{◌≡◌, refl, sym, ap, subst, ◌∙◌, ℕ, nat_eq, Bool, true, false}
use Rattle.std.proofs.Common.{◌&&◌, List, [], ◌∷◌, Option, Some, None}
use Rattle.std.proofs.lemmas.Bool.{eqb-true}
use Rattle.std.specs.Prelude.{drop, find, slice_get, option_and_then, option_to_list}
use Rattle.std.specs.Prelude.{if◌then◌else◌}
use Rattle.std.specs.Option.{option_map, option_map_or}
use Rattle.mean_blocks.specs.declared.situation.InteractionPoint.{InteractionPoint}
use Rattle.mean_blocks.specs.declared.situation.Item.{Item}
use Rattle.mean_blocks.specs.TextByPlace.{Text}
use Rattle.mean_blocks.specs.GlobalSituation.{Frame, Situation, QueueName, Own, Shared, is_point}
use Rattle.mean_blocks.specs.GlobalSituation.{is_queue}
use Rattle.mean_blocks.specs.NamesInRuns.{interaction_of}
use Rattle.mean_blocks.specs.QueueEffects.{queue_of, without_head}
use Rattle.mean_blocks.proofs.MutualPeers.{point_same, point_self, eq_self}
use Rattle.est_meaning.specs.ClauseContexts.{Awaited, when_of}
use Rattle.est_meaning.specs.TransitionChoices.{Choice}
use Rattle.est_meaning.specs.GuardParts.{seen_by, is_from, awaited_point, came_through}
use Rattle.est_meaning.specs.GuardParts.{arrived_through, awaited_item, parameters_of, frames_of}
use Rattle.est_meaning.specs.TransitionSelection.{holds, is_enabled_choice}
use Rattle.est_meaning.specs.FiringSteps.{taking_point}
use Rattle.est_meaning.specs.SelectionLaws.{TakesFirst, EnabledHasItsClauses}
use Rattle.est_meaning.proofs.Options.{some_is, then_some, map_some, or_true}

-- THE QUEUE

-- the head of a queue that passes a test
head_first : (test : Item → Bool) (q : List Item) (i : Item)
    → find test (option_to_list (slice_get q 0)) ≡ Some i → (q ≡ i ∷ drop 1 q) × (test i ≡ true)
head_first test [] i e = absurd (cc)
head_first test (x ∷ xs) i e = one (test x) refl e
  where
    one : (b : Bool) → test x ≡ b → (if b then Some x else None) ≡ Some i
        → (x ∷ xs ≡ i ∷ xs) × (test i ≡ true)
    one true g e = let h = some_is x i e in
        (ap (λ y. y ∷ xs) h, subst (λ y. test y ≡ true) h g)
    one false g e = absurd (cc)

queue_self : (q : QueueName) → is_queue q q ≡ true
queue_self (Own p) = point_self p
queue_self (Shared n) = eq_self n

-- a queue without its first item
without_first : (t : Text) (p : InteractionPoint) (s : Situation)
    → (without_head t p s).queues (queue_of t p) ≡ drop 1 (s.queues (queue_of t p))
without_first t p s = ap (λ b. if b then drop 1 (s.queues (queue_of t p))
    else s.queues (queue_of t p)) (queue_self (queue_of t p))

-- CHOICES

both_true : (a b : Bool) → (a && b) ≡ true → (a ≡ true) × (b ≡ true)
both_true true b e = (refl, e)
both_true false b e = absurd (cc)

takes : (limit : ℕ) (t : Text) (s : Situation) (c : Choice) (w : Awaited) (i : Item)
    → when_of c.transition ≡ Some w → awaited_item limit t s c w ≡ Some i
    → TakesFirst limit t s c w
takes limit t s c w i e h =
    let a = then_some (arrived_through t s w.signal) (awaited_point limit t s c w) i h in
    let q = queue_of t a.0 in
    let b = head_first (came_through t.outline w.signal a.0) (s.queues q) i a.2 in
    let d = both_true (is_point a.0 i.at) _ b.1 in
    let f = or_true (nat_eq i.signal) (interaction_of t.outline a.0.declared w.signal) d.1 in
    let g : taking_point limit t s c ≡ Some a.0 =
    ap (option_and_then (awaited_point limit t s c)) e ∙ a.1 in
    record {
      point = a.0;
      item = i;
      awaited = a.1;
      first = b.0 ∙ ap (λ xs. i ∷ xs) (sym (without_first t a.0 s)
          ∙ sym (ap (λ o. (option_map_or (λ p. without_head t p s) o s).queues q) g));
      through = sym (point_same a.0 i.at d.0);
      interaction = f.1 ∙ ap (λ n. Some n) (sym (eqb-true i.signal f.0 f.2));
    }

from_seen : (limit : ℕ) (t : Text) (s : Situation) (c : Choice) (b : Bool)
    (o : Option (List Frame))
    → option_map_or (holds limit c) (if b then option_map (seen_by t s c) o else None) false ≡ true
    → (b ≡ true) × ((frames : List Frame) × (o ≡ Some frames))
from_seen limit t s c false o e = absurd (cc)
from_seen limit t s c true None e = absurd (cc)
from_seen limit t s c true (Some frames) e = (refl, (frames, refl))

item_there : (limit : ℕ) (t : Text) (s : Situation) (c : Choice) (w : Awaited)
    → is_enabled_choice limit t s c ≡ true → when_of c.transition ≡ Some w
    → TakesFirst limit t s c w
item_there limit t s c w e h =
    let a = from_seen limit t s c (is_from t c) (frames_of limit t s c (when_of c.transition)) e in
    let b = map_some (λ i. c.chosen ∷ parameters_of t.outline i ∷ []) (awaited_item limit t s c w)
    a.1.0 (sym (ap (frames_of limit t s c) h) ∙ a.1.1) in
    takes limit t s c w b.0 h b.1

pub enabled_has_its_clauses : EnabledHasItsClauses
enabled_has_its_clauses = record {
  state = λ limit t s c e. (from_seen limit t s c (is_from t c)
      (frames_of limit t s c (when_of c.transition)) e).0;
  takes = item_there;
}
