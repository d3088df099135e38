-- Of a good specification what is made of it is told.
use Rattle.std.proofs.Common.{◌≡◌, ℕ, List, subst, refl}
use Rattle.std.specs.Prelude.{String}
use Rattle.std.specs.Global.{Global}
use Rattle.est_syntax.specs.declared.specification.Spec.{Spec}
use Rattle.run_make.specs.declared.made.Made.{Made}
use Rattle.call_files.specs.declared.file.File.TheVariants.{Specification, Trace}
use Rattle.call_files.specs.FileEnds.{End, reported, unread, EndsAtText, text_longer, text_refused}
use Rattle.call_files.specs.FileTexts.{OfSpecification, Refusals, RefusesSpecification}
use Rattle.call_files.specs.Seen.{Seen, Sent}
use Rattle.call_files.specs.declared.status.Status.{Status}
use Rattle.call_files.specs.Requests.{bytes_of}
use Rattle.est_tool.specs.Ends.{Ends}
use Rattle.est_tool.specs.Result.{CallEnds, Reports}
use Rattle.est_tool.proofs.ResultLaws.{no_watch}
use Rattle.est_tool.specs.SelfRuns.{MadeEnds, SelfRunEnds, written}
use Rattle.est_tool.specs.SelfRuns.{faults, start_passes, passes, refuses, explains}
use Rattle.est_tool.specs.SelfRuns.{stops_at_its_file, makes}
use Rattle.law_calls.specs.Completeness.{IsSelfRunOf, TellsMade, SelfRunIsComplete}
use Rattle.law_calls.proofs.Judged.{unread_rose, HasWritten, has_written}
use Rattle.law_calls.proofs.OneRequest.{request_one}
use Rattle.law_calls.proofs.Stages.{specifications_decided, stage_next}
use Rattle.law_calls.proofs.SelfRunStages.{IsMadeReport, self_run_stages}

-- what is made ends no call unread
text_is_read : (text : List ℕ) (Refuses : Refusals) (end : End) → end ≡ unread
    → EndsAtText Trace text Refuses end → ⊥
text_is_read text Refuses _ is (text_longer long) = cc
text_is_read text Refuses _ is (text_refused status report refused) = cc

made_is_told : (spec : Spec) (made : Made) (end : End) → end ≡ unread → MadeEnds spec made end → ⊥
made_is_told spec _ _ is (faults fault) = cc
made_is_told spec _ _ is start_passes = cc
made_is_told spec _ _ is (passes run) = cc
made_is_told spec _ _ is (refuses trace run end at) =
    text_is_read (written spec trace) _ end is at
made_is_told spec _ _ is (explains trace run read s outs verdict reads begun judged) = cc

module _ (words : List (String Global)) (shelf : Seen) (output : Sent) (seed count : ℕ)
    (spec : Spec) (of : IsSelfRunOf words shelf output seed count spec) where
  -- how the call ends
  self_run_ends : (end : End) → CallEnds words shelf end
      → SelfRunEnds shelf of.name seed count end
  self_run_ends end ends = subst (λ request. Ends shelf request end)
      (request_one (bytes_of words) ends.0 _ ends.1 of.asked) ends.2

  -- it does not end unread
  not_unread : (end : End) → end ≡ unread → SelfRunEnds shelf of.name seed count end → ⊥
  not_unread _ is (stops_at_its_file end at) =
      of.named.quiet (unread_rose shelf Specification _ _ end is at)
  not_unread _ is (makes spec' made end holds made_of ends) = made_is_told spec' made end is ends

  -- its report tells what is made
  tells : (status : Status) (report : List ℕ) → Reports words shelf status report
      → IsMadeReport seed count spec status report
  tells status report reports =
      stage_next Specification of.name of.named.bytes RefusesSpecification OfSpecification
      specifications_decided shelf of.named.told _ spec of.good status report
      (self_run_stages shelf of.name seed count (reported status report)
      (self_run_ends (reported status report) reports))

  told_made : (status : Status) → HasWritten words shelf output status
      → TellsMade output status seed count spec
  told_made status has =
      let is : IsMadeReport seed count spec status has.0 = tells status has.0 has.1 in
      record { made = is.0; is = is.1; report = has.0; ends = is.2; whole = has.2 }

pub self_run_complete : SelfRunIsComplete
self_run_complete words shelf calls output status seed count spec of result memory =
    told_made words shelf output seed count spec of status
    (has_written words shelf calls output _ of.asked (no_watch words _ of.asked tt)
    (λ ends. not_unread words shelf output seed count spec of unread refl
    (self_run_ends words shelf output seed count spec of unread ends))
    of.written status result memory)
