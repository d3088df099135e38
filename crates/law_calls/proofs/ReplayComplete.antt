-- Of a good specification, trace and explanation the answer of the replay is told.
use Rattle.std.proofs.Common.{◌≡◌, ◌≢◌, ◌∙◌, ℕ, List, reverse, sym, subst, ap, refl}
use Rattle.std.specs.Prelude.{String}
use Rattle.std.specs.Global.{Global}
use Rattle.est_meaning.specs.Run.{Setup, IsBegun, Yields}
use Rattle.est_explanation.specs.declared.explanation.Explanation.{Explanation}
use Rattle.est_explanation.specs.declared.verdict.Replayed.{Replayed}
use Rattle.est_explanation.specs.declared.verdict.Replayed.TheVariants.{Confirmed, Rejected}
use Rattle.est_explanation.specs.Replay.{IsReplay, AnswersFrom}
use Rattle.est_explanation.proofs.Checks.{answer_one}
use Rattle.call_files.specs.declared.file.File.TheVariants.{Specification, Trace}
use Rattle.call_files.specs.declared.file.File.TheVariants.{Explanation as Explaining}
use Rattle.call_files.specs.declared.status.Status.{Status}
use Rattle.call_files.specs.declared.status.Status.TheVariants.{Fine, Refused, OutOfMemory}
use Rattle.call_files.specs.FileEnds.{End, reported, unread}
use Rattle.call_files.specs.FileTexts.{OfSpecification, OfTrace, OfExplanation}
use Rattle.call_files.specs.FileTexts.{RefusesSpecification, RefusesTrace, RefusesExplanation}
use Rattle.call_files.specs.Pieces.{appended}
use Rattle.call_files.specs.Requests.{bytes_of}
use Rattle.call_files.specs.Seen.{Seen, Sent}
use Rattle.est_tool.specs.Ends.{Ends, ReplayEnds, at_specification, at_trace, at_explanation}
use Rattle.est_tool.specs.Ends.{replayed}
use Rattle.est_tool.specs.inside.Work.{IsAnswered}
use Rattle.est_tool.specs.ReplayReports.{replay_status}
use Rattle.est_tool.specs.Result.{CallEnds, Reports, IsResult}
use Rattle.est_tool.proofs.ResultLaws.{no_watch}
use Rattle.law_calls.specs.Completeness.{IsReplayOf, TellsAnswer, Confirms, ReplayIsComplete}
use Rattle.law_calls.proofs.Judged.{unread_rose, HasWritten, has_written}
use Rattle.law_calls.proofs.OneRequest.{request_one}
use Rattle.law_calls.proofs.OneResult.{Replays, Runs, replay_stages}
use Rattle.law_calls.proofs.Stages.{AtExplanation, specifications_decided, traces_decided}
use Rattle.law_calls.proofs.Stages.{explanations_decided, stage_next}

module _ (words : List (String Global)) (shelf : Seen) (output : Sent) (read : Explanation)
    (c : Setup) (of : IsReplayOf words shelf output read c) where
  -- how the call ends
  replay_ends : (end : End) → CallEnds words shelf end
      → ReplayEnds shelf of.specification of.trace of.explanation c.silent c.limit end
  replay_ends end ends = subst (λ request. Ends shelf request end)
      (request_one (bytes_of words) ends.0 _ ends.1 of.asked) ends.2

  -- it does not end for a file that could not be read
  not_unread : (end : End) → end ≡ unread
      → ReplayEnds shelf of.specification of.trace of.explanation c.silent c.limit end → ⊥
  not_unread _ is (at_specification end at) =
      of.specification_told.quiet (unread_rose shelf Specification _ _ end is at)
  not_unread _ is (at_trace spec end holds at) =
      of.trace_told.quiet (unread_rose shelf Trace _ _ end is at)
  not_unread _ is (at_explanation spec recorded end holds traced at) =
      of.explanation_told.quiet (unread_rose shelf Explaining _ _ end is at)
  not_unread _ is (replayed spec recorded other answer holds traced explained comes) = cc

  not_read : CallEnds words shelf unread → ⊥
  not_read ends = not_unread unread refl (replay_ends unread ends)

  -- its report tells the answer
  answers : (status : Status) (report : List ℕ) → Reports words shelf status report
      → IsAnswered c.silent c.limit c.spec c.trace read status report
  answers status report reports =
      let stages : Replays shelf of.specification of.trace of.explanation c.silent c.limit status
      report =
      replay_stages shelf of.specification of.trace of.explanation c.silent c.limit
      (reported status report) (replay_ends (reported status report) reports) in
      let after : Runs shelf of.trace of.explanation c.silent c.limit c.spec status report =
      stage_next Specification of.specification of.specification_told.bytes RefusesSpecification
      OfSpecification specifications_decided shelf of.specification_told.told _ c.spec of.good
      status report stages in
      let last : AtExplanation shelf of.explanation (IsAnswered c.silent c.limit c.spec c.trace)
      status report =
      stage_next Trace of.trace of.trace_told.bytes (RefusesTrace c.spec) (OfTrace c.spec)
      (traces_decided c.spec) shelf of.trace_told.told _ c.trace of.traced status report after in
      stage_next Explaining of.explanation of.explanation_told.bytes RefusesExplanation
      OfExplanation explanations_decided shelf of.explanation_told.told _ read of.explained status
      report last

  tells_answer : (status : Status) → HasWritten words shelf output status
      → TellsAnswer output status read c
  tells_answer status has =
      let is : IsAnswered c.silent c.limit c.spec c.trace read status has.0 =
      answers status has.0 has.1 in
      record {
        answer = is.0;
        is = is.1;
        status_is = is.2;
        whole = has.2 ∙ ap (appended output.before.written) is.3;
      }

  replay_told : (calls : ℕ) (status : Status) → IsResult words shelf calls output status
      → status ≢ OutOfMemory → TellsAnswer output status read c
  replay_told calls status result memory =
      tells_answer status
      (has_written words shelf calls output _ of.asked (no_watch words _ of.asked tt) not_read
      of.written status result memory)

-- WHERE THE START IS READY

module _ (read : Explanation) (c : Setup) (begun : IsBegun c) where
  -- moves that yield the claim are confirmed
  yields_confirmed : (answer : Replayed)
      → IsReplay c.limit c.silent c.spec c.trace read.moves read.claim answer
      → Yields c (reverse read.moves) read.claim → answer ≡ Confirmed read.claim
  yields_confirmed answer is yields =
      answer_one c.limit c.silent c.spec c.trace read.moves read.claim answer
      (Confirmed read.claim) is
      (subst (AnswersFrom c.limit c.silent c.spec c.trace read.moves read.claim
      (Confirmed read.claim)) (sym begun) (refl, yields))

  decides : (status : Status) (answer : Replayed)
      → IsReplay c.limit c.silent c.spec c.trace read.moves read.claim answer
      → status ≡ replay_status answer → Confirms c read status
  decides status (Confirmed events) is same =
      let answered : (events ≡ read.claim) × Yields c (reverse read.moves) read.claim =
      subst (AnswersFrom c.limit c.silent c.spec c.trace read.moves read.claim
      (Confirmed events)) begun is in
      record {
        fine = (λ e. answered.1, λ yields. same);
        refused = (
          λ e. absurd (let f : Refused ≡ Fine = sym e ∙ same in cc),
          λ none. absurd (none answered.1),
        );
      }
  decides status (Rejected at why) is same = record {
    fine = (
      λ e. absurd (let f : Fine ≡ Refused = sym e ∙ same in cc),
      λ yields. absurd (let f : Rejected at why ≡ Confirmed read.claim =
          yields_confirmed (Rejected at why) is yields in cc),
    );
    refused = (
      λ e yields. (let f : Rejected at why ≡ Confirmed read.claim =
          yields_confirmed (Rejected at why) is yields in cc),
      λ none. same,
    );
  }

pub replay_complete : ReplayIsComplete
replay_complete = record {
  told = λ words shelf calls output status read c of result memory.
      replay_told words shelf output read c of calls status result memory;
  decided = λ words shelf calls output status read c of begun result memory.
      let told = replay_told words shelf output read c of calls status result memory in
      decides read c begun status told.answer told.is told.status_is;
}
