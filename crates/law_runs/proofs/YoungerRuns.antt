-- In each situation of a run attachments lead to younger instances.
use Rattle.std.proofs.Common.{◌≡◌, sym, ap, subst, arith, ℕ, ◌<◌, [], ◌∷◌, ◌++◌, Option}
use Rattle.std.proofs.Common.{Some, None, is_some, false}
use Rattle.std.specs.Option.{option_map_or}
use Rattle.std.proofs.lemmas.Option.{none-some}
use Rattle.est_syntax.specs.declared.body.Block.{out-Block}
use Rattle.est_syntax.specs.declared.statement.Statement.{Statement}
use Rattle.mean_blocks.specs.declared.fault.BlockFault.TheVariants.{Undefined}
use Rattle.mean_blocks.specs.declared.situation.InteractionPoint.{InteractionPoint}
use Rattle.mean_blocks.specs.declared.situation.Item.{Item}
use Rattle.mean_blocks.specs.Outcome.{Outcome, Done, Fault, Limit}
use Rattle.mean_blocks.specs.TextByPlace.{Text, text_of}
use Rattle.mean_blocks.specs.GlobalSituation.{Situation}
use Rattle.mean_blocks.specs.WorkingState.{State, View}
use Rattle.mean_blocks.specs.QueueEffects.{without_head}
use Rattle.mean_blocks.specs.OutputEffects.{arrived}
use Rattle.mean_blocks.specs.BlockLevels.{beginning, left_by, most_levels, site}
use Rattle.mean_blocks.specs.StatementEffects.{statements_in}
use Rattle.mean_blocks.specs.StartMeaning.{no_instances, start_before}
use Rattle.mean_blocks.proofs.OrderlyStarts.{OnSent}
use Rattle.est_meaning.specs.declared.event.Event.{Event}
use Rattle.est_meaning.specs.declared.event.Event.TheVariants as event
use Rattle.est_meaning.specs.declared.firing.Firing.{Firing}
use Rattle.est_meaning.specs.ClauseContexts.{transitions_of}
use Rattle.est_meaning.specs.TransitionChoices.{Choice, choice_by, choice_in, choice_of, numbered}
use Rattle.est_meaning.specs.TransitionChoices.{any_tuples}
use Rattle.est_meaning.specs.GuardParts.{view_of}
use Rattle.est_meaning.specs.DelayStamps.{restamped}
use Rattle.est_meaning.specs.OutsideEvents.{arrival, after_event}
use Rattle.est_meaning.specs.FiringSteps.{taking_point, without_awaited, block_frame, performed_in}
use Rattle.est_meaning.specs.FiringSteps.{completed, fired_in, fired_by, outcome, start_of}
use Rattle.est_meaning.proofs.Options.{then_some, map_some, by_option}
use Rattle.est_meaning.proofs.Steps.{OnNext}
use Rattle.est_meaning.specs.Run.{Setup}
use Rattle.law_runs.specs.AncestorLaws.{AreInAge}
use Rattle.law_runs.specs.AttachTargets.{Targets, BlockTargets}
use Rattle.law_runs.specs.ClimbLaws.{LeadToYounger}
use Rattle.law_runs.specs.OrderLaws.{IsLiving, IsOrderly, IsOneTree, NameNone}
use Rattle.law_runs.specs.RunOrder.{BeginsWithInit}
use Rattle.law_runs.specs.UpkeepLaws.{OnDone, IsPlain}
use Rattle.law_runs.proofs.ClimbsEnd.{descents_end}
use Rattle.law_runs.proofs.OrderlyRuns.{in_each, start_next, runs_stay_orderly}
use Rattle.law_runs.proofs.OrderlySteps.{choice_is, found_number, seen_plain, unset_plain}
use Rattle.law_runs.proofs.OrderlySteps.{finished_next, firings_stay_orderly, events_stay_orderly}
use Rattle.law_runs.proofs.ParentsOlder.{joined_all}
use Rattle.law_runs.proofs.RowLaws.{living_number}
use Rattle.law_runs.specs.InsideTargets.{IsInside, TargetsStandInside}
use Rattle.law_runs.specs.NamesOfAlls.{IsOfAll}
use Rattle.law_runs.specs.YoungerLaws.{FiringsLeadToYounger, RunsLeadToYounger, RunsDescend}
use Rattle.law_runs.proofs.YoungerBlocks.{blocks_lead_to_younger}

-- FIRINGS

-- the block of a choice
block_fits : (t : Text) (s : Situation) (f : Firing) (c : Choice) → TargetsStandInside t
    → choice_of t s f ≡ Some c
    → BlockTargets t.outline (IsOfAll t.spec) (IsInside t.spec)
    (out-Block c.transition.block).statements
block_fits t s f c inside h =
    let a = then_some (choice_in t f) _ c h in
    let b = then_some (choice_by t a.0 f.transition f.choice)
    (numbered (transitions_of t a.0.body) f.transition) c a.2 in
    let d = map_some _ (numbered (any_tuples t.outline b.0) f.choice) c b.2 in
    subst (λ (x : Choice). BlockTargets t.outline (IsOfAll t.spec) (IsInside t.spec)
    (out-Block x.transition.block).statements) d.2
    (inside.transitions a.0.body f.transition b.0 b.1)

-- a situation without an item
taken_age : (t : Text) (n : ℕ) (o : Option InteractionPoint) (s : Situation) → n < s.next
    → AreInAge s.rows → LeadToYounger s
    → let x = option_map_or (λ p. without_head t p s) o s in
    (n < x.next) × AreInAge x.rows × LeadToYounger x
taken_age t n None s a b l = (a, b, l)
taken_age t n (Some p) s a b l = (a, b, l)

left_leads : (o : Outcome State (Unit {0})) → OnDone (λ u. LeadToYounger u.situation) o
    → OnSent LeadToYounger (left_by o)
left_leads (Done a u) h = h
left_leads (Fault f) h = tt
left_leads Limit h = tt

block_leads : (limit : ℕ) (t : Text) (s : Situation) (c : Choice) (v : View)
    → TargetsStandInside t → BlockTargets t.outline (IsOfAll t.spec) (IsInside t.spec)
    (out-Block c.transition.block).statements → IsOrderly s → IsLiving s.rows c.row.number
    → LeadToYounger s → IsPlain c.chosen → view_of limit t s c ≡ Some v
    → OnSent LeadToYounger (performed_in limit t s c v)
block_leads limit t s c v inside fits h alive l plain e =
    let n = c.row.number in
    let x = without_awaited limit t s c in
    let begun = (living_number 1 s.next s.rows n h.numbers.1 alive).1 in
    let a = taken_age t n (taking_point limit t s c) s begun h.age l in
    let frames = v.frames ++ block_frame t.outline c.transition ∷ [] in
    let names : NameNone frames = joined_all IsPlain v.frames
    (block_frame t.outline c.transition ∷ []) (seen_plain limit t s c plain v e)
    (unset_plain t.outline _, tt) in
    let xs = (out-Block c.transition.block).statements in
    left_leads (statements_in xs (site t n false most_levels) (beginning x frames limit))
    (blocks_lead_to_younger t n most_levels xs (beginning x frames limit) inside fits a.0 a.1
    names a.2)

firing_next : (limit : ℕ) (t : Text) (s : Situation) (f : Firing) → TargetsStandInside t
    → IsOrderly s → LeadToYounger s → OnNext LeadToYounger (outcome limit t s f)
unfolding outcome
firing_next limit t s f inside h l = let P = LeadToYounger in
    by_option (OnNext P) (fired_by limit t s f) (choice_of t s f) (Fault Undefined)
    (λ c g. let a = choice_is t s f c g in
    let n = found_number f.instance s.rows c.row a.0 in
    by_option (OnNext P) (fired_in limit t s f c) (view_of limit t s c) (Fault Undefined)
    (λ v e. finished_next t (completed limit t f c) P P (performed_in limit t s c v) (λ u k. k)
    (block_leads limit t s c v inside (block_fits t s f c inside g) h
    (subst (IsLiving s.rows) n (ap is_some a.0)) l a.1 e)) tt) tt

pub firings_lead_to_younger : FiringsLeadToYounger
firings_lead_to_younger limit t s next f outs inside e h l =
    subst (OnNext LeadToYounger) e (firing_next limit t s f inside h l)

-- EVENTS

arrived_leads : (t : Text) (s : Situation) (o : Option Item) → LeadToYounger s
    → LeadToYounger (option_map_or (λ (x : Item). arrived t x.at x s) o s)
arrived_leads t s None h = h
arrived_leads t s (Some x) h = h

event_leads : (t : Text) (s : Situation) (e : Event) → LeadToYounger s
    → LeadToYounger (after_event t s e)
unfolding after_event
event_leads t s (event.Arrives i) h = arrived_leads t s (arrival t i) h
event_leads t s (event.Leaves i) h = h
event_leads t s (event.Passes units) h = h

-- RUNS

start_leads : (t : Text) (limit : ℕ) → TargetsStandInside t
    → Targets t.outline (IsOfAll t.spec) (IsInside t.spec) [] t.spec.first
    → OnSent LeadToYounger (start_before t limit)
start_leads t limit inside fits =
    let s = beginning no_instances [] limit in
    let xs = t.spec.first ∷ [] in
    left_leads (statements_in xs (site t 0 false most_levels) s)
    (blocks_lead_to_younger t 0 most_levels xs s inside (fits, tt) (omega arith) tt tt
    (λ p q k. absurd (none-some q k)))

start_younger : (c : Setup) → BeginsWithInit c.spec → TargetsStandInside (text_of c.spec)
    → OnNext LeadToYounger (start_of c.limit (text_of c.spec))
unfolding start_of
start_younger c h inside = let t = text_of c.spec in
    finished_next t (restamped c.limit t None) LeadToYounger LeadToYounger
    (start_before t c.limit) (λ u k. k)
    (start_leads t c.limit inside
    (subst (λ (x : Statement). Targets t.outline (IsOfAll t.spec) (IsInside t.spec) [] x)
    (sym h.4) tt))

-- an orderly situation, in which attachments lead to younger instances
abbrev IsYoungTree : Situation → Type 0
IsYoungTree s = IsOneTree s × LeadToYounger s

pub runs_lead_to_younger : RunsLeadToYounger
runs_lead_to_younger c run p first inside begun r = let t = text_of c.spec in
    (in_each c IsYoungTree
    (λ e. (
      subst (OnNext IsOneTree) e (start_next c first),
      subst (OnNext LeadToYounger) e (start_younger c first inside),
    ))
    (λ s e h. (events_stay_orderly t s e h.0, event_leads t s e h.1))
    (λ s next f outs e h. (
      firings_stay_orderly.tree c.limit t s next f outs e h.0,
      firings_lead_to_younger c.limit t s next f outs inside e h.0.order h.1,
    ))
    run p begun r).1

pub runs_descend : RunsDescend
runs_descend c run p first inside begun r q =
    descents_end p.situation q (runs_stay_orderly c run p first begun r).tree.order.attachments
    (runs_lead_to_younger c run p first inside begun r)
