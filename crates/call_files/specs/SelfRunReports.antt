-- The reports of traces that are made and explained.
use Rattle.std.specs.Prelude.{ℕ, List, ◌++◌, length, codes, Option, Some, None}
use Rattle.std.specs.Fmt.{decimal}
use Rattle.est_meaning.specs.declared.firing.Firing.{Firing}
use Rattle.est_search.specs.declared.verdict.Verdict.{Verdict}
use Rattle.est_search.specs.declared.verdict.Verdict.TheVariants.{Accepted, Refused}
use Rattle.est_search.specs.declared.verdict.Verdict.TheVariants.{OverFirings, OverAction}
use Rattle.call_files.specs.ReportLines.{line_feed}
use Rattle.call_files.specs.SearchReports.{firing_text, refused_line}

-- a trace of so many events was made, whose text has so many bytes, by so many moves
abbrev pub made_line : ℕ → ℕ → ℕ → List ℕ
made_line events bytes moves =
    codes "made: " ++ decimal events ++ codes " events, " ++ decimal bytes ++ codes " bytes, "
    ++ decimal moves ++ codes " moves" ++ line_feed

-- a block or a guard passed its limit after so many moves
abbrev pub limit_line : ℕ → List ℕ
limit_line moves = codes "limit after " ++ decimal moves ++ codes " moves" ++ line_feed

-- the trace is explained by so many moves
abbrev pub found_line : ℕ → List ℕ
found_line moves = codes "accepted: " ++ decimal moves ++ codes " moves" ++ line_feed

-- more firings than the budget
abbrev pub tried_line : ℕ → List ℕ
tried_line tried = codes "over budget: " ++ decimal tried ++ codes " firings tried" ++ line_feed

-- a guard, or the block of a firing, passed the limit
abbrev pub passed_line : ℕ → Option Firing → List ℕ
passed_line limit None =
    codes "over budget: a guard passed the limit " ++ decimal limit ++ line_feed
passed_line limit (Some firing) =
    codes "over budget: firing " ++ firing_text firing ++ codes " passed the limit "
    ++ decimal limit ++ line_feed

-- What came of a search for an explanation of the trace of so many events, within this limit. A
-- trace that a specification made of itself is not refused, and no limit is passed before its run.
abbrev pub search_line : ℕ → ℕ → Verdict → List ℕ
search_line limit events (Accepted run) = found_line (length run)
search_line limit events (Refused at run faulted) = refused_line at events
search_line limit events (OverFirings tried) = tried_line tried
search_line limit events (OverAction run reached firing) = passed_line limit firing
