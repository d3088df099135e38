-- What leaves in the start and in each step of a run is what its ports send.
use Rattle.std.proofs.Common.{◌≡◌, refl, sym, subst, ℕ, List, [], ◌∷◌, ◌++◌}
use Rattle.std.proofs.Common.{Option, Some, None, false}
use Rattle.std.specs.List.{AllByRecursion}
use Rattle.std.specs.Option.{option_map_or}
use Rattle.std.proofs.lemmas.Option.{none-some}
use Rattle.est_syntax.specs.declared.body.Block.{out-Block}
use Rattle.est_syntax.specs.declared.specification.Spec.{Spec}
use Rattle.rule_declares.specs.Bodies.{outline_of}
use Rattle.mean_blocks.specs.declared.fault.BlockFault.TheVariants.{Undefined}
use Rattle.mean_blocks.specs.declared.situation.InteractionPoint.{InteractionPoint}
use Rattle.mean_blocks.specs.Outcome.{Outcome, Done, Fault, Limit}
use Rattle.mean_blocks.specs.TextByPlace.{Text, text_of}
use Rattle.mean_blocks.specs.GlobalSituation.{Situation}
use Rattle.mean_blocks.specs.WorkingState.{State, View}
use Rattle.mean_blocks.specs.OutputEffects.{Sent}
use Rattle.mean_blocks.specs.QueueEffects.{without_head}
use Rattle.mean_blocks.specs.BlockLevels.{beginning, left_by, most_levels, site}
use Rattle.mean_blocks.specs.StatementEffects.{statements_in}
use Rattle.mean_blocks.specs.StartMeaning.{no_instances, start_before}
use Rattle.est_meaning.specs.declared.event.Event.{Event}
use Rattle.est_meaning.specs.declared.event.Event.TheVariants as event
use Rattle.est_meaning.specs.declared.firing.Firing.{Firing}
use Rattle.est_meaning.specs.ClauseContexts.{transitions_of}
use Rattle.est_meaning.specs.TransitionChoices.{Choice, choice_by, choice_in, choice_of, numbered}
use Rattle.est_meaning.specs.TransitionChoices.{any_tuples}
use Rattle.est_meaning.specs.GuardParts.{view_of}
use Rattle.est_meaning.specs.DelayStamps.{restamped}
use Rattle.est_meaning.specs.OutsideEvents.{after_event}
use Rattle.est_meaning.specs.FiringSteps.{taking_point, without_awaited, block_frame, performed_in}
use Rattle.est_meaning.specs.FiringSteps.{completed, finished, fired_in, fired_by, outcome}
use Rattle.est_meaning.specs.FiringSteps.{start_of}
use Rattle.est_meaning.proofs.Options.{then_some, map_some, by_option}
use Rattle.est_meaning.proofs.Outside.{events_are_outside}
use Rattle.est_meaning.specs.declared.run.Move.TheVariants.{Take, Fire}
use Rattle.est_meaning.specs.Run.{Place, IsFromOutside}
use Rattle.law_runs.specs.UpkeepLaws.{OnDone}
use Rattle.law_runs.proofs.ParentsOlder.{joined_all}
use Rattle.law_sentences.proofs.WholeSentences.{sentences_whole}
use Rattle.law_values.specs.SentInteractions.{JoinOneSide, IsSent}
use Rattle.law_values.specs.SentInteractions.{LeavesAsSent}
use Rattle.law_values.specs.DepartureLaws.{IsSound, HasSent, StartsSend, FiringsSend, RunsSend}
use Rattle.law_values.specs.DepartureLaws.{SentencesAreSound, SentencesSend}
use Rattle.law_values.proofs.FaultlessBlocks.{IsFaultless, FaultlessBlocks, no_faults}
use Rattle.law_values.proofs.FaultlessBlocks.{blocks_faultless}
use Rattle.law_values.proofs.PortSignals.{departures_sent}
use Rattle.law_values.proofs.SendingBlocks.{block_keeps}

-- WHAT IS LEFT

-- what a block leaves
abbrev Left : Text → Sent → Type 0
Left t x = JoinOneSide t.outline x.situation × AllByRecursion (IsSent t.outline) x.outs

abbrev OnLeft : Text → Outcome Sent (Unit {0}) → Type 0
OnLeft t (Done u x) = Left t x
OnLeft t (Fault f) = Unit {0}
OnLeft t Limit = Unit {0}

left_sent : (t : Text) (x : Outcome State (Unit {0}))
    → OnDone (λ s. JoinOneSide t.outline s.situation × AllByRecursion (IsSent t.outline) s.outs) x
    → OnLeft t (left_by x)
left_sent t (Done u s) h = h
left_sent t (Fault f) h = tt
left_sent t Limit h = tt

-- and a step
abbrev OnStep : Spec → Outcome Situation (List Event) → Type 0
OnStep spec (Done outs s) = HasSent spec s outs
OnStep spec (Fault f) = Unit {0}
OnStep spec Limit = Unit {0}

finished_sent : (spec : Spec) (finish : Situation → Situation) (x : Outcome Sent (Unit {0}))
    → ((u : Situation) → JoinOneSide (outline_of spec) u → JoinOneSide (outline_of spec) (finish u))
    → OnLeft (text_of spec) x → OnStep spec (finished (text_of spec) finish x)
finished_sent spec finish (Done u x) h g = record {
  attachments = h x.situation g.0;
  departures = departures_sent spec x.outs g.1;
}
finished_sent spec finish (Fault f) h g = tt
finished_sent spec finish Limit h g = tt

module _ (spec : Spec) (sound : IsSound spec) where
  faultless : FaultlessBlocks (text_of spec)
  faultless = blocks_faultless spec (no_faults spec sound.good)

  -- a block that begins with nothing sent
  block_sent : (n limit : ℕ) (s : State) → s.outs ≡ []
      → JoinOneSide (outline_of spec) s.situation
      → (xs : _) → IsFaultless (outline_of spec) xs
      → OnLeft (text_of spec) (left_by (statements_in xs (site (text_of spec) n false most_levels)
      s))
  block_sent n limit s none joined xs h = let t = text_of spec in
      left_sent t (statements_in xs (site t n false most_levels) s)
      (block_keeps t sound.full faultless most_levels n xs h s
      (joined, subst (AllByRecursion (IsSent (outline_of spec))) (sym none) tt))

  -- FIRINGS

  choice_faultless : (s : Situation) (f : Firing) (c : Choice)
      → choice_of (text_of spec) s f ≡ Some c
      → IsFaultless (outline_of spec) (out-Block c.transition.block).statements
  choice_faultless s f c h = let t = text_of spec in
      let a = then_some (choice_in t f) _ c h in
      let b = then_some (choice_by t a.0 f.transition f.choice)
      (numbered (transitions_of t a.0.body) f.transition) c a.2 in
      let d = map_some _ (numbered (any_tuples t.outline b.0) f.choice) c b.2 in
      subst (λ (x : Choice).
      IsFaultless (outline_of spec) (out-Block x.transition.block).statements)
      d.2 (faultless.transitions a.0.body f.transition b.0 b.1)

  taken_joined : (x : Option InteractionPoint) (limit : ℕ) (s : Situation) (c : Choice)
      → taking_point limit (text_of spec) s c ≡ x → JoinOneSide (outline_of spec) s
      → JoinOneSide (outline_of spec) (without_awaited limit (text_of spec) s c)
  taken_joined None limit s c e h = subst (λ y. JoinOneSide (outline_of spec)
      (option_map_or (λ p. without_head (text_of spec) p s) y s)) (sym e) h
  taken_joined (Some p) limit s c e h = subst (λ y. JoinOneSide (outline_of spec)
      (option_map_or (λ p. without_head (text_of spec) p s) y s)) (sym e) h

  performed_sent : (limit : ℕ) (s : Situation) (c : Choice) (v : View)
      → IsFaultless (outline_of spec) (out-Block c.transition.block).statements
      → JoinOneSide (outline_of spec) s
      → OnLeft (text_of spec) (performed_in limit (text_of spec) s c v)
  performed_sent limit s c v h g = let t = text_of spec in
      let x = without_awaited limit t s c in
      let frames = v.frames ++ block_frame t.outline c.transition ∷ [] in
      block_sent c.row.number limit (beginning x frames limit) refl
      (taken_joined (taking_point limit t s c) limit s c refl g)
      (out-Block c.transition.block).statements h

  firing_sent : (limit : ℕ) (s : Situation) (f : Firing) → JoinOneSide (outline_of spec) s
      → OnStep spec (outcome limit (text_of spec) s f)
  unfolding outcome
  firing_sent limit s f g = let t = text_of spec in
      by_option (OnStep spec) (fired_by limit t s f) (choice_of t s f) (Fault Undefined)
      (λ c e. by_option (OnStep spec) (fired_in limit t s f c) (view_of limit t s c)
      (Fault Undefined) (λ v i. finished_sent spec (completed limit t f c)
      (performed_in limit t s c v) (λ u k. k)
      (performed_sent limit s c v (choice_faultless s f c e) g)) tt) tt

  -- STARTS

  start_sent : (limit : ℕ) → OnStep spec (start_of limit (text_of spec))
  unfolding start_of
  start_sent limit = let t = text_of spec in
      finished_sent spec (restamped limit t None) (start_before t limit) (λ u k. k)
      (block_sent 0 limit (beginning no_instances [] limit) refl
      (λ p q k. absurd (none-some q k)) (t.spec.first ∷ []) faultless.first)

  -- EVENTS

  event_joined : (s : Situation) (e : Event) → JoinOneSide (outline_of spec) s
      → JoinOneSide (outline_of spec) (after_event (text_of spec) s e)
  event_joined s e h p q k =
      h p q (subst (λ m. m p ≡ Some q) (events_are_outside.leaves (text_of spec) s e).down k)

from_outside : (spec : Spec) (e : Event) → IsFromOutside e → LeavesAsSent spec e
from_outside spec (event.Arrives i) h = tt
from_outside spec (event.Leaves i) h = absurd h
from_outside spec (event.Passes units) h = tt

-- THE LAWS

pub starts_send : StartsSend
starts_send limit spec s outs sound e = subst (OnStep spec) e (start_sent spec sound limit)

pub firings_send : FiringsSend
firings_send limit spec s next f outs sound e h =
    subst (OnStep spec) e (firing_sent spec sound limit s f h)

pub runs_send : RunsSend
runs_send c [] p sound begun r = subst (λ (w : Place). HasSent c.spec w.situation w.events) (sym r)
    (starts_send c.limit c.spec c.start c.start_outs sound begun)
runs_send c (Take ∷ run) p sound begun r = let x = r.2 in
    let h = runs_send c run r.0 sound begun r.1 in
    subst (λ (w : Place). HasSent c.spec w.situation w.events) (sym x.leads) record {
      attachments = event_joined c.spec sound r.0.situation x.event h.attachments;
      departures = joined_all (LeavesAsSent c.spec) r.0.events (x.event ∷ []) h.departures
          (from_outside c.spec x.event x.outside, tt);
    }
runs_send c (Fire f ∷ run) p sound begun r = let x = r.2 in
    let h = runs_send c run r.0 sound begun r.1 in
    let g = firings_send c.limit c.spec r.0.situation x.situation f x.outs sound x.step.done
    h.attachments in
    subst (λ (w : Place). HasSent c.spec w.situation w.events) (sym x.leads) record {
      attachments = g.attachments;
      departures = joined_all (LeavesAsSent c.spec) r.0.events x.outs h.departures g.departures;
    }

pub sentences_are_sound : SentencesAreSound
sentences_are_sound spec h good = record {
  good = good;
  full = (sentences_whole h.text h.tokens spec h.few h.tree (no_faults spec good)).0.full;
}

pub sentences_send : SentencesSend
sentences_send c run p sentence good begun r =
    runs_send c run p (sentences_are_sound c.spec sentence good) begun r
