-- What a watch answers of a good specification, whose start is ready, and a good trace.
use Rattle.std.proofs.Common.{◌≡◌, ◌≢◌, ◌∙◌, ◌⊎◌, inl, inr, ℕ, List, [], Option}
use Rattle.std.proofs.Common.{length, sym, subst, ap, refl, arith}
use Rattle.std.specs.Prelude.{String}
use Rattle.std.specs.Global.{Global}
use Rattle.est_syntax.specs.declared.specification.Spec.{Spec}
use Rattle.rule_declares.specs.PortList.{ports_of}
use Rattle.mean_blocks.specs.GlobalSituation.{Situation}
use Rattle.mean_blocks.specs.Outcome.{Done, Fault, Limit}
use Rattle.mean_blocks.specs.TextByPlace.{text_of}
use Rattle.est_meaning.specs.declared.event.Event.{Event}
use Rattle.est_meaning.specs.FiringSteps.{start_of}
use Rattle.est_meaning.specs.RecordedTraces.{Recorded, known_trace}
use Rattle.est_meaning.specs.Run.{Setup}
use Rattle.est_meaning.specs.Task.{setup_from}
use Rattle.mean_watch.specs.declared.watched.Watched.{Watched}
use Rattle.mean_watch.specs.declared.watched.Watched.TheVariants.{Possible, Impossible}
use Rattle.mean_watch.specs.declared.watched.Watched.TheVariants.{OverFirings, OverAction}
use Rattle.mean_watch.specs.Watching.{so_far}
use Rattle.call_files.specs.declared.file.File.TheVariants.{Specification}
use Rattle.call_files.specs.declared.status.Status.{Status}
use Rattle.call_files.specs.declared.status.Status.TheVariants.{OutOfMemory}
use Rattle.call_files.specs.FileEnds.{End, EndsAt, longer, refused, failed, HoldsSpecification}
use Rattle.call_files.specs.FileTexts.{OfSpecification, RefusesSpecification}
use Rattle.call_files.specs.Seen.{Seen, Sent}
use Rattle.call_watch.specs.Answers.{Watch, goes_on, ended, at_first, watched_status}
use Rattle.call_watch.specs.Endings.{standard_input, IsTold, IsWatchEnd, at_line, without_end}
use Rattle.call_watch.specs.Endings.{too_long, Watches, answers, cannot_read, cannot_write, spent}
use Rattle.call_watch.specs.Lines.{Line, AreLines}
use Rattle.est_tool.specs.Result.{IsResult}
use Rattle.est_tool.specs.WatchEnds.{WatchStops, stops_at_file, starts_badly, starts_too_long}
use Rattle.est_tool.specs.WatchEnds.{cannot_go_on, IsWatchOf, WatchDoes, stops as does_stop}
use Rattle.est_tool.specs.WatchEnds.{stops_unwritten, stops_unread, stops_spent, watches}
use Rattle.law_calls.specs.Completeness.{IsJudged, IsWithinLimits, Decides}
use Rattle.law_calls.specs.WatchCalls.{IsWatchFor, AreGoodLines, WatchIsComplete}
use Rattle.law_calls.specs.WatchCalls.{WatchAgreesWithExplain}
use Rattle.law_calls.proofs.Complete.{search_complete}
use Rattle.law_calls.proofs.SearchStages.{one_start}
use Rattle.law_calls.proofs.Stages.{specifications_decided, stage_next, at_once, stops}
use Rattle.law_calls.proofs.WatchLines.{lines_unique, EndsWith, at_event, at_end}
use Rattle.law_calls.proofs.WatchLines.{after_all}
use Rattle.law_calls.proofs.WatchDecided.{IsDecision, end_decides}

-- what is watched
abbrev watch_at : ℕ → Setup → Spec → Situation → List Event → Watch
watch_at budget c spec situation outs = record {
  setup = setup_from c.limit c.silent spec (known_trace []) situation outs;
  ports = ports_of spec;
  budget = budget;
}

abbrev watch_for : ℕ → Setup → Watch
watch_for budget c = watch_at budget c c.spec c.start c.start_outs

module _ (words : List (String Global)) (shelf : Seen) (output : Sent) (budget : ℕ) (c : Setup)
    (of : IsWatchFor words shelf output budget c) where
  same_spec : (spec : Spec) → HoldsSpecification shelf of.specification spec → spec ≡ c.spec
  same_spec spec holds =
      at_once Specification (OfSpecification spec) (OfSpecification c.spec)
      of.specification_told.told of.specification_told.told holds of.good
      (λ tokens n m. specifications_decided.one_value spec c.spec of.specification_told.bytes tokens
      n m)

  ready : (spec : Spec) → HoldsSpecification shelf of.specification spec
      → start_of c.limit (text_of spec) ≡ Done c.start_outs c.start
  ready spec holds =
      subst (λ (x : Spec). start_of c.limit (text_of x) ≡ Done c.start_outs c.start)
      (sym (same_spec spec holds)) of.begun

  -- it does not stop before the text is read
  not_at_file : (end : End)
      → EndsAt shelf Specification of.specification RefusesSpecification end → ⊥
  not_at_file _ (longer s r x) =
      stage_next Specification of.specification of.specification_told.bytes RefusesSpecification
      OfSpecification specifications_decided shelf of.specification_told.told (λ x s r. ⊥) c.spec
      of.good s r (stops (inl x))
  not_at_file _ (refused s r x) =
      stage_next Specification of.specification of.specification_told.bytes RefusesSpecification
      OfSpecification specifications_decided shelf of.specification_told.told (λ x s r. ⊥) c.spec
      of.good s r (stops (inr x))
  not_at_file _ (failed rose) = of.specification_told.quiet rose

  not_stopped : (end : End) → WatchStops shelf of.specification c.limit end → ⊥
  not_stopped _ (stops_at_file end at) = not_at_file end at
  not_stopped _ (starts_badly spec fault holds comes) =
      let e : Done c.start_outs c.start ≡ Fault fault = sym (ready spec holds) ∙ comes in cc
  not_stopped _ (starts_too_long spec holds comes) =
      let e : Done c.start_outs c.start ≡ Limit = sym (ready spec holds) ∙ comes in cc
  not_stopped _ (cannot_go_on spec outs situation holds comes rose) = of.text_told.quiet rose

  -- these runs are watched
  watch_is : (w : Watch) → IsWatchOf shelf of.specification c.silent budget c.limit w
      → w ≡ watch_for budget c
  watch_is w x =
      let same = one_start (start_of c.limit (text_of x.spec)) x.situation c.start x.outs
      c.start_outs x.ready (ready x.spec x.holds) in
      x.watch_is
      ∙ ap (λ (z : Spec). watch_at budget c z x.situation x.outs) (same_spec x.spec x.holds)
      ∙ ap (λ (z : Situation). watch_at budget c c.spec z x.outs) same.0
      ∙ ap (λ (z : List Event). watch_at budget c c.spec c.start z) same.1

  -- and along all events they are those of the setup
  all_events : so_far (watch_for budget c).setup of.events ≡ c
  all_events = ap (λ (t : Recorded). setup_from c.limit c.silent c.spec t c.start c.start_outs)
      (sym of.trace_is)

  -- the text is what is told
  text_is : (text : List ℕ) → IsTold (shelf.before.told standard_input) text
      → of.text_told.bytes ≡ text
  text_is text told =
      subst (λ (t : Option (List ℕ)). IsTold t text) of.text_told.told told

  -- it ends at a line
  at_good : (text : List ℕ) (lines : List Line) → of.text_told.bytes ≡ text → AreLines text lines
      → AreGoodLines (ports_of c.spec) at_first lines of.events
  at_good text lines same are =
      subst (λ (ls : List Line). AreGoodLines (ports_of c.spec) at_first ls of.events)
      (lines_unique of.text_told.bytes text of.traced.lines lines same of.traced.lines_are are)
      of.traced.good

  answered : (text out : List ℕ) (with : Status) (taken : ℕ) → of.text_told.bytes ≡ text
      → IsWatchEnd (watch_for budget c) text with out taken
      → EndsWith (watch_for budget c) of.events with
  answered text _ _ _ same (at_line lines with out taken are x within) =
      after_all (watch_for budget c) 1 at_first lines of.events (ended with) taken out
      (at_good text lines same are) x
  answered text _ _ _ same (without_end lines s out are x short) =
      absurd (after_all (watch_for budget c) 1 at_first lines of.events (goes_on s) x.0 out
      (at_good text lines same are) x.1)
  answered text _ _ _ same (too_long lines s out long whole x) =
      let n = ap (λ (t : List ℕ). length t) same in
      let short = of.traced.short in
      absurd (omega (arith, n, short, long))

  -- memory runs out, or an answer ends it
  abbrev Came : Status → Type 0
  Came status = (status ≡ OutOfMemory) ⊎ EndsWith (watch_for budget c) of.events status

  watched : (calls : ℕ) (status : Status) → IsResult words shelf calls output status
      → (w : Watch) → w ≡ watch_for budget c
      → Watches w shelf output.before.written output.after.written status → Came status
  watched calls _ result w same (answers text out with told end written) =
      inr (answered text out with shelf.after.taken (text_is text told)
      (subst (λ (z : Watch). IsWatchEnd z text with out shelf.after.taken) same end))
  watched calls _ result w same (cannot_read text out told rose few x written) =
      absurd (of.text_told.quiet rose)
  watched calls _ result w same (cannot_write text out told x written) =
      absurd (of.written (result.write_fault refl))
  watched calls _ result w same (spent text out told x written) = inl refl

  does : (calls : ℕ) (status : Status) → IsResult words shelf calls output status
      → WatchDoes shelf calls of.specification c.silent budget c.limit output.before.written
      output.after.written status → Came status
  does calls _ result (does_stop with report x written) = absurd (not_stopped _ x)
  does calls _ result (stops_unwritten with report part x front written) =
      absurd (not_stopped _ x)
  does calls _ result (stops_unread begun x written) = absurd (not_stopped _ x)
  does calls _ result (stops_spent begun written) = inl refl
  does calls _ result (watches w with begun is bytewise x) =
      watched calls with result w (watch_is w is) x

  came : (calls : ℕ) (status : Status) → IsResult words shelf calls output status → Came status
  came calls status result = does calls status result
      (result.watched of.specification c.silent budget c.limit of.asked)

-- an answer has such a status
answer_judged : (answer : Watched) → IsJudged (watched_status answer)
answer_judged Possible = tt
answer_judged Impossible = tt
answer_judged OverFirings = tt
answer_judged OverAction = tt

end_judged : (w : Watch) (events : List Event) (status : Status) → EndsWith w events status
    → IsJudged status
end_judged w events status (at_event x) = subst IsJudged (sym x.status_is) (answer_judged x.answer)
end_judged w events status (at_end x) = subst IsJudged (sym x.status_is) (answer_judged x.answer)

module _ (words : List (String Global)) (shelf : Seen) (output : Sent) (budget : ℕ) (c : Setup)
    (of : IsWatchFor words shelf output budget c) (calls : ℕ) (status : Status)
    (result : IsResult words shelf calls output status) where
  watch_judged : IsJudged status
  watch_judged = elim (came words shelf output budget c of calls status result) [
    | inl e ↦ subst IsJudged (sym e) tt
    | inr x ↦ end_judged (watch_for budget c) of.events status x
  ]

  pub watch_decided : IsWithinLimits c budget → status ≢ OutOfMemory → IsDecision c status
  watch_decided within kept = elim (came words shelf output budget c of calls status result) [
    | inl e ↦ absurd (kept e)
    | inr x ↦
        (let same = all_events words shelf output budget c of in
        subst (λ (d : Setup). IsDecision d status) same
        (end_decides (watch_for budget c) of.events status x
        (subst (λ (d : Setup). IsWithinLimits d budget) (sym same) within)))
  ]

pub watch_complete : WatchIsComplete
watch_complete = record {
  judged = λ words shelf calls output status budget c of result.
      watch_judged words shelf output budget c of calls status result;
  decided = λ words shelf calls output status budget c of result within kept.
      (watch_decided words shelf output budget c of calls status result within kept).decides;
}

-- a search decides the same
same_decision : (c : Setup) (status status' : Status) → IsDecision c status → Decides c status'
    → status ≡ status'
same_decision c status status' d search = elim d.either [
  | inl e ↦ e ∙ sym (search.fine.1 (d.decides.fine.0 e))
  | inr e ↦ e ∙ sym (search.refused.1 (d.decides.refused.0 e))
]

pub watch_agrees : WatchAgreesWithExplain
watch_agrees words words' shelf shelf' calls calls' output output' status status' budget budget' c
    of search result result' within within' kept kept' =
    same_decision c status status'
    (watch_decided words shelf output budget c of calls status result within kept)
    (search_complete.decided words' shelf' calls' output' status' budget' c search result' within'
    kept')
