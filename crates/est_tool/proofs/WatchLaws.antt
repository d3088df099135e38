-- What is done to watch a trace, from what its steps answered.
use Rattle.std.proofs.Common.{◌≡◌, ◌∙◌, ◌≤◌, ◌+◌, ℕ, zero, suc, List, [], ◌∷◌, ◌++◌}
use Rattle.std.proofs.Common.{length, sym, subst, ap, refl, arith, Option}
use Rattle.std.proofs.Common.{Result, Ok, Err, append_assoc, append-nil, length-append}
use Rattle.est_syntax.specs.declared.specification.Spec.{Spec}
use Rattle.est_meaning.specs.mean_blocks.Outcome.{Done}
use Rattle.est_meaning.specs.mean_blocks.TextByPlace.{text_of}
use Rattle.est_meaning.specs.declared.answers.Started.{Started}
use Rattle.est_meaning.specs.declared.answers.Started.TheVariants as started
use Rattle.est_meaning.specs.declared.event.Event.{Event}
use Rattle.est_meaning.specs.declared.run.Limits.{Limits}
use Rattle.est_meaning.specs.FiringSteps.{start_of}
use Rattle.est_meaning.specs.RecordedTraces.{known_trace}
use Rattle.est_meaning.specs.Run.{Setup}
use Rattle.est_meaning.specs.SituationStacks.{Stack, StartedAs}
use Rattle.est_meaning.specs.Task.{setup_of}
use Rattle.call_files.specs.FaultCounts.{Rose, AllStay}
use Rattle.call_files.specs.Pieces.{SameTold}
use Rattle.call_files.specs.FileEnds.{reported, unread, HoldsSpecification}
use Rattle.call_files.specs.FileTexts.{OfSpecification, RefusesSpecification}
use Rattle.call_files.specs.Reads.{IsStop, ReadsFile}
use Rattle.call_files.specs.Seen.{Shelved, Seen, seen, Sent, sent}
use Rattle.call_files.specs.declared.file.File.TheVariants as file
use Rattle.call_files.specs.declared.report.Report.{Report}
use Rattle.call_files.specs.declared.status.Status.{Status}
use Rattle.call_files.specs.declared.status.Status.TheVariants.{ReadFault, OutOfMemory}
use Rattle.call_files.specs.declared.stop.Stop.{Stop}
use Rattle.call_files.specs.declared.stop.Stop.TheVariants as stop
use Rattle.call_files.proofs.CountLaws.{AllStay-then, rose_then}
use Rattle.call_files.proofs.PieceLaws.{SameTold-then}
use Rattle.call_files.proofs.ReadLaws.{stop_then, quiet_stop}
use Rattle.call_watch.specs.Answers.{Watch}
use Rattle.call_watch.specs.Endings.{standard_input, Watches, IsBytewise, IsTold}
use Rattle.call_watch.specs.Endings.{answers, cannot_read, cannot_write, spent}
use Rattle.call_watch.specs.inside.Recordings.{watch_of}
use Rattle.est_tool.specs.Started.{WatchStarts, its_file, and_text}
use Rattle.est_tool.specs.WatchEnds.{WatchStops, stops_at_file, starts_badly, starts_too_long}
use Rattle.est_tool.specs.WatchEnds.{cannot_go_on, IsWatchOf, HasBegun, WatchDoes, stops}
use Rattle.est_tool.specs.WatchEnds.{stops_unwritten, stops_unread, stops_spent, watches}
use Rattle.est_tool.specs.inside.Watching.{IsUnready, unready_faults, unready_passes, IsWatchAt}
use Rattle.est_tool.specs.inside.Watching.{WatchesOn, on_unready, on_spent, on_unopened}
use Rattle.est_tool.specs.inside.Watching.{on_watched, IsWatchedOn, IsWatchWork, StartsReady}
use Rattle.est_tool.specs.inside.Watching.{SpeaksAlone}
use Rattle.est_tool.specs.inside.Work.{Gives, IsReport}
use Rattle.est_tool.specs.inside.Written.{HasReport, IsReportable, IsSent, whole}
use Rattle.est_tool.specs.inside.Written.{broken_off, IsDelivered, Delivers}
use Rattle.est_tool.proofs.ResultLaws.{of_watch, delivered_quiet, delivered_unread}
use Rattle.est_tool.proofs.ResultLaws.{sent_no_read_fault}

-- WHERE THE FILE IS NOT GOOD

-- the text has not begun to be read where the specification alone was started
not_begun : (shelf : Seen) (asked : ℕ) (name : List ℕ)
    → shelf.after.started ≡ shelf.before.started ++ name ∷ [] → HasBegun shelf asked name → ⊥
not_begun shelf asked name started begun =
    let same : shelf.before.started ++ name ∷ [] ≡ shelf.before.started ++ name ∷ standard_input ∷ []
    = sym started ∙ begun.0 in
    let long : length (shelf.before.started ++ name ∷ [])
    ≡ length (shelf.before.started ++ name ∷ standard_input ∷ []) = ap length same in
    absurd (omega (arith, long, length-append {A = List ℕ}))

-- a report that is sent is one at which `watch` stops
stops_sent : (shelf : Seen) (asked : ℕ) (name : List ℕ) (silent budget statements : ℕ)
    (status : Status) (report : List ℕ) (with : Status) (before after : Option (List ℕ))
    → WatchStops shelf name statements (reported status report)
    → IsSent status report with before after
    → WatchDoes shelf asked name silent budget statements before after with
stops_sent shelf asked name silent budget statements status report _ before after at
    (whole _ _ is) = stops status report at is
stops_sent shelf asked name silent budget statements status report _ before after at
    (broken_off _ _ part front is) = stops_unwritten status report part at front is

-- so it stops at its file
stops_delivered : (shelf : Seen) (asked : ℕ) (name : List ℕ) (silent budget statements : ℕ)
    (e : Stop) (with : Status) (before after : Option (List ℕ))
    → (HasBegun shelf asked name → ⊥) → IsStop (WatchStops shelf name statements) e
    → IsDelivered (Err e) with before after
    → WatchDoes shelf asked name silent budget statements before after with
stops_delivered shelf asked name n b m (stop.Refused report) with before after not at sent =
    stops_sent shelf asked name n b m report.status report.text.items with before after at sent
stops_delivered shelf asked name n b m stop.ReadFault with before after not at none =
    subst (WatchDoes shelf asked name n b m before after) (sym none.0) (stops_unread not at none.1)
stops_delivered shelf asked name n b m stop.OutOfMemory with before after not at none =
    subst (WatchDoes shelf asked name n b m before after) (sym none.0) (stops_spent not none.1)

pub stopped_at_file : (shelf : Seen) (asked : ℕ) (output : Sent) (name : List ℕ)
    (silent budget statements : ℕ) (e : Stop) (status : Status)
    → ReadsFile file.Specification name OfSpecification RefusesSpecification shelf (Err e)
    → Delivers (Err e) output status
    → IsWatchWork name silent budget statements shelf asked output status
stopped_at_file shelf asked output name n b m e status reads delivers =
    let at : IsStop (WatchStops shelf name m) e =
    stop_then {Q = WatchStops shelf name m} e (λ end ends. stops_at_file end ends) reads.ended in
    let reportable : IsStop IsReportable e =
    stop_then {P = WatchStops shelf name m} {Q = IsReportable} e (of_watch shelf name m) at in
    record {
      told = reads.touches.told;
      quiet = delivered_quiet shelf (Err e) status _ _
          (quiet_stop Spec Report shelf e reads.touches.quiet) delivers.delivered;
      failed = delivered_unread (WatchStops shelf name m) (Err e) status _ _ reportable at
          delivers.delivered;
      answers = delivers.answers;
      names = name ∷ [];
      started = reads.touches.started;
      starts = its_file;
      does = stops_delivered shelf asked name n b m e status _ _
          (not_begun shelf asked name reads.touches.started) at delivers.delivered;
    }

-- WHERE THE START IS NOT READY

-- Nothing was read: the shelf and the output are as they were, but for a report that is written.
module _ (spec : Spec) (silent budget statements : ℕ) (shelf : Seen) (asked : ℕ) (output : Sent)
    (told : SameTold shelf.before.told shelf.after.told)
    (stay : AllStay shelf.before.faults shelf.after.faults)
    (idle : shelf.after.started ≡ shelf.before.started) where
  none_started : shelf.after.started ≡ shelf.before.started ++ []
  none_started = idle ∙ sym (append-nil shelf.before.started)

  -- the report of a start that is not ready was made and sent, unless memory ran out
  unready_does : (status : Status) (report : List ℕ) (made : Result Report Stop) (with : Status)
      (before after : Option (List ℕ)) → IsUnready spec statements status report
      → Gives (IsReport status report) made → IsDelivered made with before after
      → WatchesOn spec silent budget statements shelf asked before after [] with
  unready_does status report (Ok made) with before after is gives sent =
      on_unready status report with is
      (subst (λ s. IsSent s report with before after) gives.0
      (subst (λ r. IsSent made.status r with before after) gives.1 sent))
  unready_does status report (Err e) with before after is gives sent =
      let none : IsDelivered (Err stop.OutOfMemory) with before after =
      subst (λ x. IsDelivered (Err x) with before after) gives sent in
      subst (λ s. WatchesOn spec silent budget statements shelf asked before after [] s)
      (sym none.0) (on_spent none.1)

  unready_read : (status : Status) (report : List ℕ) (made : Result Report Stop) (with : Status)
      (before after : Option (List ℕ)) → HasReport status
      → Gives (IsReport status report) made → IsDelivered made with before after
      → with ≡ ReadFault → ⊥
  unready_read status report (Ok made) with before after has gives sent fault =
      sent_no_read_fault made.status made.text.items with before after
      (subst HasReport (sym gives.0) has) sent fault
  unready_read status report (Err e) with before after has gives sent fault =
      let none : IsDelivered (Err stop.OutOfMemory) with before after =
      subst (λ x. IsDelivered (Err x) with before after) gives sent in
      let same : OutOfMemory ≡ ReadFault = sym none.0 ∙ fault in absurd cc

  pub unready_done : (status : Status) (report : List ℕ) (made : Result Report Stop)
      (with : Status) → IsUnready spec statements status report → HasReport status
      → Gives (IsReport status report) made → Delivers made output with
      → IsWatchedOn spec silent budget statements shelf asked output with
  unready_done status report made with is has gives delivers = record {
    told = told;
    quiet = λ _. stay;
    failed = λ fault. absurd
        (unready_read status report made with _ _ has gives delivers.delivered fault);
    answers = delivers.answers;
    names = [];
    started = none_started;
    does = unready_does status report made with _ _ is gives delivers.delivered;
  }

  -- memory ran out before
  pub spent_done : output.after.written ≡ output.before.written
      → output.after.faults ≡ output.before.faults
      → IsWatchedOn spec silent budget statements shelf asked output OutOfMemory
  spent_done written faults = record {
    told = told;
    quiet = λ _. stay;
    failed = λ fault. absurd cc;
    answers = record {
      asked = λ e. absurd cc;
      fault = λ e. absurd cc;
      quiet = λ _. faults;
    };
    names = [];
    started = none_started;
    does = on_spent written;
  }

-- where the shelf is as it was
pub unready_same : (spec : Spec) (silent budget statements : ℕ) (s : Shelved) (asked : ℕ)
    (output : Sent) (status : Status) (report : List ℕ) (made : Result Report Stop) (with : Status)
    → IsUnready spec statements status report → HasReport status
    → Gives (IsReport status report) made → Delivers made output with
    → IsWatchedOn spec silent budget statements (seen s s) asked output with
unready_same spec n b m s asked output status report made with is has gives delivers =
    unready_done spec n b m (seen s s) asked output (λ name. refl) (λ name. refl) refl status report
    made with is has gives delivers

-- and the output too
pub spent_same : (spec : Spec) (silent budget statements : ℕ) (s : Shelved) (asked : ℕ)
    (written : Option (List ℕ)) (faults : ℕ)
    → IsWatchedOn spec silent budget statements (seen s s) asked
    (sent written faults written faults) OutOfMemory
spent_same spec n b m s asked written faults =
    spent_done spec n b m (seen s s) asked (sent written faults written faults) (λ name. refl)
    (λ name. refl) refl refl refl

-- WHERE THE TEXT IS WATCHED

-- a world that speaks of one specification at most speaks alone of the one that was started
pub speaks_alone : {W : Type 0} (speaks : W → Spec → Type 0) (stack : W → Spec → Stack)
    (limit fired : W → ℕ) (statements : ℕ) (own : Spec) (begun : Started W)
    → ((world : W) (a b : Spec) → speaks world a → speaks world b → a ≡ b)
    → StartedAs speaks stack limit fired statements own begun → SpeaksAlone speaks own begun
speaks_alone speaks stack limit fired statements own (started.Ready world outs) one is =
    λ spec spoken. one world spec own spoken is.0
speaks_alone speaks stack limit fired statements own (started.Fault fault) one is = tt
speaks_alone speaks stack limit fired statements own started.Limit one is = tt

-- what is watched, by the setup that is picked and the limits that are kept
pub watch_at : (spec : Spec) (limits kept : Limits) (stack : Spec → Stack) (outs : List Event)
    (setup : Spec → Setup)
    → setup ≡ (λ s. setup_of limits.statements limits.silent (known_trace []) (stack s) outs s)
    → kept ≡ limits
    → start_of limits.statements (text_of spec) ≡ Done outs (stack spec).now
    → IsWatchAt spec limits.silent limits.budget limits.statements (watch_of setup kept.budget spec)
watch_at spec limits kept stack outs setup picked same ready = record {
  situation = (stack spec).now;
  outs = outs;
  ready = ready;
  watch_is = ap (λ (l : Limits). watch_of setup l.budget spec) same
      ∙ ap (λ (s : Spec → Setup). watch_of s limits.budget spec) picked;
}

pub watched_does : (spec : Spec) (silent budget statements : ℕ) (shelf : Seen) (asked : ℕ)
    (before after : Option (List ℕ)) (with : Status) (w : Watch)
    → (asked ≡ 0 → (with ≡ ReadFault) × (after ≡ before))
    → (1 ≤ asked → IsBytewise asked shelf.after.taken)
    → (1 ≤ asked → Watches w shelf before after with)
    → IsWatchAt spec silent budget statements w
    → WatchesOn spec silent budget statements shelf asked before after (standard_input ∷ []) with
watched_does spec n b m shelf zero before after with w idle bytewise does at =
    let none = idle refl in
    subst (λ s. WatchesOn spec n b m shelf 0 before after (standard_input ∷ []) s) (sym none.0)
    (on_unopened refl none.1)
watched_does spec n b m shelf (suc k) before after with w idle bytewise does at =
    let some : 1 ≤ suc k = omega arith in on_watched w with some at (bytewise some) (does some)

-- THE WHOLE

-- the shelf told the same under each name, and its counts were the same, when the text was started
module _ (before middle after : Shelved) (same : SameTold before.told middle.told)
    (stay : AllStay before.faults middle.faults) where
  told_before : (text : List ℕ) → IsTold (middle.told standard_input) text
      → IsTold (before.told standard_input) text
  told_before text told = subst (λ t. IsTold t text) (same standard_input) told

  watches_before : (w : Watch) (b a : Option (List ℕ)) (with : Status)
      → Watches w (seen middle after) b a with → Watches w (seen before after) b a with
  watches_before w b a _ (answers text out with told ends is) =
      answers text out with (told_before text told) ends is
  watches_before w b a _ (cannot_read text out told rose within ends is) =
      cannot_read text out (told_before text told) (rose_then stay standard_input rose) within ends
      is
  watches_before w b a _ (cannot_write text out told ends is) =
      cannot_write text out (told_before text told) ends is
  watches_before w b a _ (spent text out told ends is) =
      spent text out (told_before text told) ends is

  module _ (name : List ℕ) (spec : Spec) (silent budget statements : ℕ) (asked : ℕ)
      (holds : HoldsSpecification (seen before after) name spec)
      (first : middle.started ≡ before.started ++ name ∷ []) where
    unready_stops : (status : Status) (report : List ℕ) → IsUnready spec statements status report
        → WatchStops (seen before after) name statements (reported status report)
    unready_stops _ _ (unready_faults fault is) = starts_badly spec fault holds is
    unready_stops _ _ (unready_passes is) = starts_too_long spec holds is

    unread_stops : StartsReady spec statements
        × Rose (middle.faults standard_input) (after.faults standard_input)
        → WatchStops (seen before after) name statements unread
    unread_stops failed =
        let ready = failed.0 in
        cannot_go_on spec ready.0 ready.1 holds ready.2 (rose_then stay standard_input failed.1)

    -- nothing but the specification was started
    alone : after.started ≡ middle.started ++ [] → HasBegun (seen before after) asked name → ⊥
    alone started = not_begun (seen before after) asked name
        (started ∙ ap (λ names. names ++ []) first ∙ append_assoc before.started (name ∷ []) [])

    both_started : after.started ≡ middle.started ++ standard_input ∷ []
        → after.started ≡ before.started ++ name ∷ standard_input ∷ []
    both_started started = started ∙ ap (λ names. names ++ standard_input ∷ []) first
        ∙ append_assoc before.started (name ∷ []) (standard_input ∷ [])

    watch_of_it : (w : Watch) → IsWatchAt spec silent budget statements w
        → IsWatchOf (seen before after) name silent budget statements w
    watch_of_it w at = record {
      spec = spec;
      situation = at.situation;
      outs = at.outs;
      holds = holds;
      ready = at.ready;
      watch_is = at.watch_is;
    }

    does_before : (b a : Option (List ℕ)) (names : List (List ℕ)) (with : Status)
        → WatchesOn spec silent budget statements (seen middle after) asked b a names with
        → after.started ≡ middle.started ++ names
        → (with ≡ ReadFault → StartsReady spec statements
        × Rose (middle.faults standard_input) (after.faults standard_input))
        → WatchDoes (seen before after) asked name silent budget statements b a with
    does_before b a _ _ (on_unready status report with is sent) started failed =
        stops_sent (seen before after) asked name silent budget statements status report with b a
        (unready_stops status report is) sent
    does_before b a _ _ (on_spent is) started failed = stops_spent (alone started) is
    does_before b a _ _ (on_unopened none is) started failed =
        stops_unread (λ begun. absurd (omega (arith, none, begun.1))) (unread_stops (failed refl)) is
    does_before b a _ _ (on_watched w with some at bytewise does) started failed =
        watches w with (both_started started, some) (watch_of_it w at) bytewise
        (watches_before w b a with does)

    starts_both : (b a : Option (List ℕ)) (names : List (List ℕ)) (with : Status)
        → WatchesOn spec silent budget statements (seen middle after) asked b a names with
        → (with ≡ ReadFault → StartsReady spec statements
        × Rose (middle.faults standard_input) (after.faults standard_input))
        → WatchStarts (seen before after) name statements (name ∷ names)
    starts_both b a _ _ (on_unready status report with is sent) failed = its_file
    starts_both b a _ _ (on_spent is) failed = its_file
    starts_both b a _ _ (on_unopened none is) failed =
        let ready = (failed refl).0 in and_text spec ready.0 ready.1 holds ready.2
    starts_both b a _ _ (on_watched w with some at bytewise does) failed =
        and_text spec at.outs at.situation holds at.ready

-- the specification was read, and what was left was done
pub watched_whole : (before middle after : Shelved) (asked : ℕ) (output : Sent) (name : List ℕ)
    (silent budget statements : ℕ) (spec : Spec) (status : Status)
    → ReadsFile file.Specification name OfSpecification RefusesSpecification (seen before middle)
    (Ok spec)
    → IsWatchedOn spec silent budget statements (seen middle after) asked output status
    → IsWatchWork name silent budget statements (seen before after) asked output status
watched_whole before middle after asked output name n b m spec status reads on =
    let same = reads.touches.told in
    let stay = reads.touches.quiet in
    let first = reads.touches.started in
    record {
      told = SameTold-then same on.told;
      quiet = λ not. AllStay-then stay (on.quiet not);
      failed = λ is. unread_stops before middle after same stay name spec n b m asked reads.good
          first (on.failed is);
      answers = on.answers;
      names = name ∷ on.names;
      started = on.started ∙ ap (λ names. names ++ on.names) first
          ∙ append_assoc before.started (name ∷ []) on.names;
      starts = starts_both before middle after same stay name spec n b m asked reads.good first
          _ _ on.names status on.does on.failed;
      does = does_before before middle after same stay name spec n b m asked reads.good first
          _ _ on.names status on.does on.started on.failed;
    }
