-- What a call for a trace answers, from what its steps answered.
use Rattle.std.proofs.Common.{◌≡◌, ◌≢◌, ℕ, List, Option, Result, Ok, Err, sym, subst}
use Rattle.std.specs.Prelude.{String}
use Rattle.std.specs.Result.{IsErr, IsErrAnd}
use Rattle.std.specs.Global.{Global}
use Rattle.call_files.specs.FaultCounts.{AllStay}
use Rattle.est_syntax.specs.declared.specification.Spec.{Spec}
use Rattle.est_meaning.specs.rule_declares.PortList.{ports_of}
use Rattle.run_make.specs.declared.made.Made.{Made}
use Rattle.run_make.specs.declared.made.Made.TheVariants as made
use Rattle.call_files.specs.FileEnds.{End, reported, HoldsSpecification}
use Rattle.call_files.specs.FileTexts.{OfSpecification, RefusesSpecification}
use Rattle.call_files.specs.Reads.{IsStop, IsQuiet, ReadsFile}
use Rattle.call_files.specs.Seen.{Seen, Sent}
use Rattle.call_files.specs.declared.file.File.TheVariants as file
use Rattle.call_files.specs.declared.report.Report.{Report}
use Rattle.call_files.specs.declared.stop.Stop.{Stop}
use Rattle.call_files.specs.declared.stop.Stop.TheVariants as stop
use Rattle.call_files.proofs.ReadLaws.{stop_then, stops_for, quiet_any, quiet_stop}
use Rattle.call_files.specs.Requests.{bytes_of, check}
use Rattle.call_files.specs.declared.status.Status.{Status}
use Rattle.call_files.specs.declared.status.Status.TheVariants.{ReadFault}
use Rattle.est_tool.specs.Ends.{at_its_file}
use Rattle.est_tool.specs.SelfRuns.{IsMadeOf}
use Rattle.est_tool.specs.inside.Work.{IsMade, Gives}
use Rattle.est_tool.specs.inside.Written.{IsReportable, IsDelivered, Delivers}
use Rattle.est_tool.proofs.ResultLaws.{ends_reportable, writes_delivered, delivered_unread}
use Rattle.est_tool.proofs.WorkLaws.{made_then}
use Rattle.est_tool.specs.TraceEnds.{TraceEnds, stops_at_its_file, written}
use Rattle.est_tool.specs.TraceEnds.{not_started, start_over, over}
use Rattle.est_tool.specs.TraceResult.{TraceReports, IsTraceResult}
use Rattle.est_tool.specs.TraceWords.{AsksForTrace}
use Rattle.est_tool.specs.inside.TraceWork.{Tells, IsToldOf, IsTraceWork}

-- ENDS

-- an end with this status and this text
ends_so : (shelf : Seen) (s : List ℕ) (seed count : ℕ) (a b : Status) (r q : List ℕ)
    → (a ≡ b) × (r ≡ q) → TraceEnds shelf s seed count (reported b q)
    → TraceEnds shelf s seed count (reported a r)
ends_so shelf s seed count a b r q same ends =
    subst (λ z. TraceEnds shelf s seed count (reported z r)) (sym same.0)
    (subst (λ z. TraceEnds shelf s seed count (reported b z)) (sym same.1) ends)

-- a call ends with what is told of what was made
told_ends : (shelf : Seen) (s : List ℕ) (seed count : ℕ) (spec : Spec)
    → HoldsSpecification shelf s spec → (status : Status) (text : List ℕ) (found : Made)
    → IsMadeOf spec seed count found → Tells (ports_of spec) found status text
    → TraceEnds shelf s seed count (reported status text)
told_ends shelf s seed count spec holds status text (made.Trace trace run) is tells =
    ends_so shelf s seed count _ _ _ _ tells (written spec trace run holds is)
told_ends shelf s seed count spec holds status text (made.NoStart fault) is tells =
    ends_so shelf s seed count _ _ _ _ tells (not_started spec fault holds is)
told_ends shelf s seed count spec holds status text made.StartLimit is tells =
    ends_so shelf s seed count _ _ _ _ tells (start_over spec holds is)
told_ends shelf s seed count spec holds status text (made.Limit run) is tells =
    ends_so shelf s seed count _ _ _ _ tells (over spec run holds is)

-- WORK

-- the work stops at its file
pub stops : (s : List ℕ) (seed count : ℕ) (shelf : Seen) (r : Result Report Stop) (e : Stop)
    → IsErr r × IsErrAnd r (λ x. x ≡ e)
    → ReadsFile file.Specification s OfSpecification RefusesSpecification shelf (Err e)
    → IsTraceWork s seed count shelf r
stops s seed count shelf r e is reads = stops_for (IsTraceWork s seed count shelf) r e is (record {
  touches = record {
    told = reads.touches.told;
    started = reads.touches.started;
    quiet = quiet_stop Spec Report shelf e reads.touches.quiet;
  };
  ends = stop_then {Q = TraceEnds shelf s seed count} e (λ end at. stops_at_its_file end at)
      reads.ended;
})

-- the specification was read, and what is written was made
pub goes_on : (s : List ℕ) (seed count : ℕ) (shelf : Seen) (spec : Spec) (r : Result Report Stop)
    → ReadsFile file.Specification s OfSpecification RefusesSpecification shelf (Ok spec)
    → Gives (IsToldOf spec seed count) r → IsTraceWork s seed count shelf r
goes_on s seed count shelf spec r reads gives = record {
  touches = record {
    told = reads.touches.told;
    started = reads.touches.started;
    quiet = quiet_any shelf r reads.touches.quiet;
  };
  ends = given r gives;
}
  where
    given : (r : Result Report Stop) → Gives (IsToldOf spec seed count) r
        → IsMade (TraceEnds shelf s seed count) r
    given (Ok report) gives =
        told_ends shelf s seed count spec reads.good _ _ gives.0 gives.1 gives.2
    given (Err stop) gives = subst (IsStop (TraceEnds shelf s seed count)) (sym gives) tt

-- RESULTS

-- an end with a text has a status with which one is written
reportable : (shelf : Seen) (s : List ℕ) (seed count : ℕ) (end : End)
    → TraceEnds shelf s seed count end → IsReportable end
reportable shelf s seed count _ (stops_at_its_file end at) =
    ends_reportable shelf (check s) end (at_its_file end at)
reportable shelf s seed count _ (written spec trace run holds is) = tt
reportable shelf s seed count _ (not_started spec fault holds is) = tt
reportable shelf s seed count _ (start_over spec holds is) = tt
reportable shelf s seed count _ (over spec run holds is) = tt

-- and so has what was made
pub work_reportable : (s : List ℕ) (seed count : ℕ) (shelf : Seen) (done : Result Report Stop)
    → IsTraceWork s seed count shelf done → IsMade IsReportable done
work_reportable s seed count shelf done is = made_then done (reportable shelf s seed count) is.ends

-- no count of a file rose where the answer is no fault of a read
delivered_quiet : (shelf : Seen) (done : Result Report Stop) (answer : Status)
    (before after : Option (List ℕ))
    → IsQuiet shelf done → IsDelivered done answer before after → answer ≢ ReadFault
    → AllStay shelf.before.faults shelf.after.faults
delivered_quiet shelf (Ok done) answer before after quiet sent not = quiet
delivered_quiet shelf (Err (stop.Refused done)) answer before after quiet sent not = quiet
delivered_quiet shelf (Err stop.ReadFault) answer before after quiet none not = absurd (not none.0)
delivered_quiet shelf (Err stop.OutOfMemory) answer before after quiet none not = quiet

-- what the words ask for was made, and written
pub trace_result : (words : List (String Global)) (shelf : Seen) (output : Sent) (s : List ℕ)
    (seed count : ℕ) (done : Result Report Stop) (answer : Status)
    → AsksForTrace (bytes_of words) s seed count → IsTraceWork s seed count shelf done
    → Delivers done output answer → IsTraceResult words shelf output answer
trace_result words shelf output s seed count done answer asked is delivers =
    let can = work_reportable s seed count shelf done is in
    let ends = TraceEnds shelf s seed count in
    record {
      usage = (
        λ usage. absurd (delivers.answers.asked usage),
        λ nothing. absurd (nothing s seed count asked),
      );
      read_fault = λ fault. (
        s,
        seed,
        count,
        asked,
        delivered_unread ends done answer _ _ can is.ends delivers.delivered fault,
      );
      no_read_fault = delivered_quiet shelf done answer _ _ is.touches.quiet delivers.delivered;
      write_fault = delivers.answers.fault;
      no_write_fault = delivers.answers.quiet;
      written = writes_delivered (TraceReports words shelf) ends done answer _ _
          (λ status report at. (s, seed, count, asked, at)) can is.ends delivers.delivered;
      told = is.touches.told;
      idle = λ usage. absurd (delivers.answers.asked usage);
      started = λ _. (s, seed, count, asked, is.touches.started);
    }
