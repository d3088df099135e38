-- Of a good specification its numbers are told, or its printed text.
use Rattle.std.proofs.Common.{◌≡◌, ℕ, List, subst, refl}
use Rattle.std.specs.Prelude.{String}
use Rattle.std.specs.Global.{Global}
use Rattle.est_syntax.specs.declared.specification.Spec.{Spec}
use Rattle.est_print.specs.PrintedText.{IsPrintedText}
use Rattle.call_files.specs.declared.file.File.TheVariants.{Specification}
use Rattle.call_files.specs.declared.status.Status.{Status}
use Rattle.call_files.specs.FileEnds.{End, reported, unread}
use Rattle.call_files.specs.FileTexts.{OfSpecification, RefusesSpecification}
use Rattle.call_files.specs.Requests.{Request, check, print, bytes_of}
use Rattle.call_files.specs.Seen.{Seen, Sent}
use Rattle.est_tool.specs.Ends.{Ends, TellsCounts, CheckEnds, at_its_file, good}
use Rattle.est_tool.specs.inside.Work.{IsFine}
use Rattle.est_tool.specs.Result.{CallEnds, Reports}
use Rattle.est_tool.proofs.ResultLaws.{no_watch}
use Rattle.law_calls.specs.Completeness.{IsAskedOf, TellsWell, CheckIsComplete, PrintIsComplete}
use Rattle.law_calls.proofs.Judged.{unread_rose, HasWritten, has_written}
use Rattle.law_calls.proofs.OneRequest.{request_one}
use Rattle.law_calls.proofs.Printings.{check_stages}
use Rattle.law_calls.proofs.Stages.{specifications_decided, stage_next}

-- what is asked of one file ends with a report that says this of it
module _ (Says : Spec → List ℕ → Type 0) (request : List ℕ → Request)
    (ends_so : (shelf : Seen) (name : List ℕ) (end : End) → Ends shelf (request name) end
    → CheckEnds Says shelf name end)
    (words : List (String Global)) (shelf : Seen) (output : Sent) (spec : Spec)
    (of : IsAskedOf request words shelf output spec) where
  -- how the call ends
  check_ends : (end : End) → CallEnds words shelf end → CheckEnds Says shelf of.name end
  check_ends end ends = ends_so shelf of.name end (subst (λ asked. Ends shelf asked end)
      (request_one (bytes_of words) ends.0 _ ends.1 of.asked) ends.2)

  -- it does not end unread
  not_unread : (end : End) → end ≡ unread → CheckEnds Says shelf of.name end → ⊥
  not_unread _ is (at_its_file end at) =
      of.named.quiet (unread_rose shelf Specification _ _ end is at)
  not_unread _ is (good read report holds says) = cc

  not_read : CallEnds words shelf unread → ⊥
  not_read ends = not_unread unread refl (check_ends unread ends)

  -- its report says this
  says_so : (status : Status) (report : List ℕ) → Reports words shelf status report
      → IsFine Says spec status report
  says_so status report reports =
      stage_next Specification of.name of.named.bytes RefusesSpecification OfSpecification
      specifications_decided shelf of.named.told (IsFine Says) spec of.good status report
      (check_stages Says shelf of.name (reported status report)
      (check_ends (reported status report) reports))

  tells_well : (status : Status) → HasWritten words shelf output status
      → TellsWell Says output status spec
  tells_well status has =
      let is : IsFine Says spec status has.0 = says_so status has.0 has.1 in
      record { fine = is.0; report = has.0; says = is.1; whole = has.2 }

pub check_complete : CheckIsComplete
check_complete words shelf calls output status spec of result memory =
    let so = λ (s : Seen) (name : List ℕ) (end : End) (ends : Ends s (check name) end). ends in
    tells_well TellsCounts check so words shelf output spec of status
    (has_written words shelf calls output _ of.asked (no_watch words _ of.asked tt)
    (not_read TellsCounts check so words shelf output spec of) of.written status result memory)

pub print_complete : PrintIsComplete
print_complete words shelf calls output status spec of result memory =
    let so = λ (s : Seen) (name : List ℕ) (end : End) (ends : Ends s (print name) end). ends in
    tells_well IsPrintedText print so words shelf output spec of status
    (has_written words shelf calls output _ of.asked (no_watch words _ of.asked tt)
    (not_read IsPrintedText print so words shelf output spec of) of.written status result memory)
