-- How long the reports of searches are.
use Rattle.std.specs.Prelude.{ℕ, ◌≤◌, length}
use Rattle.est_meaning.specs.AllowedEvents.{most_events}
use Rattle.est_meaning.specs.Run.{Setup, IsBegun}
use Rattle.est_search.specs.declared.verdict.Verdict.{Verdict}
use Rattle.est_search.specs.Verdict.{IsVerdict}
use Rattle.call_files.specs.declared.file.File.TheVariants as file
use Rattle.call_files.specs.Files.{limit_of}
use Rattle.call_files.specs.ReadableReports.{IsReadable}
use Rattle.call_files.specs.Requests.{most_budget}
use Rattle.call_files.specs.SearchReports.{verdict_report}
use Rattle.law_numbers.specs.WritableLaws.{IsShort}

-- The report of a verdict is no longer than an explanation may be, within a budget that words can
-- ask for and on a trace that is not too long.
abbrev pub ReportsAreShort : Type 0
ReportsAreShort = (c : Setup) (budget : ℕ) (verdict : Verdict) → IsShort c.spec → IsBegun c
    → length c.trace.events ≤ most_events → budget ≤ most_budget → IsVerdict c budget verdict
    → IsReadable c.limit (length c.trace.events) verdict
    → length (verdict_report c.limit (length c.trace.events) verdict) ≤ limit_of file.Explanation
