-- Two calls that search along one trace for each port do not speak against each other.
use Rattle.std.proofs.Common.{◌≡◌, ◌∙◌, ℕ, List, ◌++◌, length, refl, sym, ap, append_assoc}
use Rattle.est_syntax.specs.declared.ports.Port.{Port}
use Rattle.est_syntax.specs.declared.specification.Spec.{Spec}
use Rattle.rule_declares.specs.PortList.{ports_of}
use Rattle.mean_blocks.specs.Outcome.{Done, Fault, Limit}
use Rattle.est_meaning.specs.RecordedTraces.{Recorded}
use Rattle.est_meaning.specs.Run.{Setup}
use Rattle.mean_ports.specs.declared.lists.PortLists.{PortLists}
use Rattle.mean_ports.specs.declared.verdict.PortsVerdict.{PortsVerdict}
use Rattle.mean_ports.specs.declared.verdict.PortsVerdict.TheVariants as merged
use Rattle.mean_ports.specs.Merges.{IsMerge, event_count}
use Rattle.mean_ports.specs.PortsVerdict.{IsPortsVerdict}
use Rattle.mean_ports.specs.VerdictLaws.{TellTheSame}
use Rattle.mean_ports.proofs.Agreeing.{verdicts_agree}
use Rattle.mean_ports.proofs.Lengths.{merges_as_long}
use Rattle.est_trace.specs.WrittenTraces.{trace_text}
use Rattle.call_files.specs.declared.file.File.TheVariants.{Specification, Trace}
use Rattle.call_files.specs.declared.status.Status.{Status}
use Rattle.call_files.specs.FileTexts.{OfSpecification, OfLists}
use Rattle.call_files.specs.FileTexts.{RefusesSpecification, RefusesLists}
use Rattle.call_files.specs.FileEnds.{reported}
use Rattle.call_files.specs.PortReports.{ports_report, ports_status, refused_ports_line}
use Rattle.call_files.specs.SearchReports.{accepted_line, over_action_line, no_start_line}
use Rattle.call_files.specs.Seen.{Seen}
use Rattle.est_tool.specs.declared.search.PortsSearched.{PortsSearched}
use Rattle.est_tool.specs.declared.search.PortsSearched.TheVariants as came
use Rattle.est_tool.specs.inside.Searching.{IsPortsSearched}
use Rattle.est_tool.specs.inside.Work.{TellsPorts}
use Rattle.est_tool.specs.PortsEnds.{setup_at}
use Rattle.law_calls.specs.CallLaws.{TellAlike}
use Rattle.law_calls.specs.Confirmations.{BeginsWith}
use Rattle.law_calls.specs.PortsCalls.{DoNotContradict, are_same, one_tried, other_tried}
use Rattle.law_calls.specs.PortsCalls.{both_accepted, both_refused, both_passed}
use Rattle.law_calls.specs.PortsCalls.{PortsResultsAgree}
use Rattle.law_calls.proofs.SearchStages.{limits_of}
use Rattle.law_calls.proofs.Stages.{AreSame, alike_stage, specifications_decided, lists_decided}
use Rattle.law_calls.proofs.PortsStages.{AlongLists, Merges, ports_stages, merged_at}

-- a report that is a line, and then two texts, begins with the line
begins : (line more text report : List ℕ) → report ≡ line ++ more ++ text
    → BeginsWith line report
begins line more text report e = (more ++ text, e ∙ append_assoc line more text)

-- the line may be told otherwise
begins_so : (line other report : List ℕ) → line ≡ other → BeginsWith line report
    → BeginsWith other report
begins_so line other report same b = (b.0, b.1 ∙ ap (λ l. l ++ b.0) same)

-- VERDICTS

-- a result tells this verdict
record IsResultOf (ports : List Port) (limit : ℕ) (v : PortsVerdict) (s : Status) (r : List ℕ)
    : Type 0 where
  status_is : s ≡ ports_status v
  report_is : r ≡ ports_report ports limit v

module _ (c : Setup) (lists : PortLists) (budget other : ℕ) (ports : List Port) (limit : ℕ)
    (s s' : Status) (r r' : List ℕ) where
  -- the line of lists that are accepted, by the number of their events
  accepts : (merge : Recorded) (report more : List ℕ) → IsMerge lists merge
      → report ≡ accepted_line (length merge.events) ++ trace_text ports merge ++ more
      → BeginsWith (accepted_line (event_count lists)) report
  accepts merge report more is e =
      begins_so (accepted_line (length merge.events)) (accepted_line (event_count lists)) report
      (ap accepted_line (merges_as_long lists merge is))
      (begins (accepted_line (length merge.events)) (trace_text ports merge) more report e)

  -- and of those that are refused
  refuses : (most k : ℕ) (merge : Recorded) (report more : List ℕ) → most ≡ k
      → IsMerge lists merge
      → report ≡ refused_ports_line most (length merge.events) ++ trace_text ports merge ++ more
      → BeginsWith (refused_ports_line k (event_count lists)) report
  refuses most k merge report more same is e =
      begins_so (refused_ports_line most (length merge.events))
      (refused_ports_line k (event_count lists)) report
      (ap (λ n. refused_ports_line most n) (merges_as_long lists merge is)
      ∙ ap (λ n. refused_ports_line n (event_count lists)) same)
      (begins (refused_ports_line most (length merge.events)) (trace_text ports merge) more report e)

  verdicts_alike : (v w : PortsVerdict) → TellTheSame v w → IsPortsVerdict c lists budget v
      → IsPortsVerdict c lists other w → IsResultOf ports limit v s r
      → IsResultOf ports limit w s' r' → DoNotContradict s s' r r'
  verdicts_alike (merged.OverTries a) w same x y p q = one_tried a p.status_is p.report_is
  verdicts_alike (merged.Accepted m g) (merged.OverTries b) same x y p q =
      other_tried b q.status_is q.report_is
  verdicts_alike (merged.Accepted m g) (merged.Accepted n h) same x y p q =
      both_accepted (event_count lists) p.status_is q.status_is
      (accepts m r _ x.is_merge p.report_is) (accepts n r' _ y.is_merge q.report_is)
  verdicts_alike (merged.Accepted m g) (merged.Refused k n h) same x y p q = absurd same
  verdicts_alike (merged.Accepted m g) (merged.OverAction n h j f) same x y p q = absurd same
  verdicts_alike (merged.Refused most m g) (merged.OverTries b) same x y p q =
      other_tried b q.status_is q.report_is
  verdicts_alike (merged.Refused most m g) (merged.Accepted n h) same x y p q = absurd same
  verdicts_alike (merged.Refused most m g) (merged.Refused k n h) same x y p q =
      both_refused k (event_count lists) p.status_is q.status_is
      (refuses most k m r _ same x.greatest.is_merge p.report_is)
      (refuses k k n r' _ refl y.greatest.is_merge q.report_is)
  verdicts_alike (merged.Refused most m g) (merged.OverAction n h j f) same x y p q = absurd same
  verdicts_alike (merged.OverAction m g i f) (merged.OverTries b) same x y p q =
      other_tried b q.status_is q.report_is
  verdicts_alike (merged.OverAction m g i f) (merged.Accepted n h) same x y p q = absurd same
  verdicts_alike (merged.OverAction m g i f) (merged.Refused k n h) same x y p q = absurd same
  verdicts_alike (merged.OverAction m g i f) (merged.OverAction n h j e) same x y p q =
      both_passed limit f e p.status_is q.status_is
      (begins (over_action_line limit f) (trace_text ports m) _ r p.report_is)
      (begins (over_action_line limit e) (trace_text ports n) _ r' q.report_is)

-- SEARCHES

module _ (silent budget budget' statements : ℕ) (spec : Spec) (lists : PortLists)
    (s s' : Status) (r r' : List ℕ) where
  found_alike : (a b : PortsSearched)
      → IsPortsSearched (limits_of silent budget statements) spec lists a
      → IsPortsSearched (limits_of silent budget' statements) spec lists b
      → TellsPorts (ports_of spec) statements a s r → TellsPorts (ports_of spec) statements b s' r'
      → DoNotContradict s s' r r'
  found_alike (came.Found v) (came.Found w) x y p q =
      let c = setup_at statements silent spec y.0 y.1 in
      let is = merged_at silent budget statements spec lists x.0 y.0 x.1 y.1 v x.2 y.2 x.4 in
      verdicts_alike c lists budget budget' (ports_of spec) statements s s' r r' v w
      (verdicts_agree c lists budget budget' v w y.2 y.3 is y.4) is y.4
      (record { status_is = p.0; report_is = p.1 }) (record { status_is = q.0; report_is = q.1 })
  found_alike (came.Found v) (came.Fault fault) x y p q =
      let e : Done x.1 x.0 ≡ Fault fault = sym x.2 ∙ y in absurd cc
  found_alike (came.Found v) came.Limit x y p q =
      let e : Done x.1 x.0 ≡ Limit = sym x.2 ∙ y in absurd cc
  found_alike (came.Fault fault) (came.Found w) x y p q =
      let e : Done y.1 y.0 ≡ Fault fault = sym y.2 ∙ x in absurd cc
  found_alike (came.Fault fault) (came.Fault other) x y p q =
      let e : Fault fault ≡ Fault other = sym x ∙ y in
      let same : fault ≡ other = cc in
      are_same (p.0 ∙ sym q.0) (p.1 ∙ ap no_start_line same ∙ sym q.1)
  found_alike (came.Fault fault) came.Limit x y p q =
      let e : Fault fault ≡ Limit = sym x ∙ y in absurd cc
  found_alike came.Limit (came.Found w) x y p q =
      let e : Done y.1 y.0 ≡ Limit = sym y.2 ∙ x in absurd cc
  found_alike came.Limit (came.Fault fault) x y p q =
      let e : Fault fault ≡ Limit = sym y ∙ x in absurd cc
  found_alike came.Limit came.Limit x y p q = are_same (p.0 ∙ sym q.0) (p.1 ∙ sym q.1)

-- CALLS

weaker : (s s' : Status) (r r' : List ℕ) → AreSame s s' r r' → DoNotContradict s s' r r'
weaker s s' r r' same = are_same same.0 same.1

merges_alike : (shelf shelf' : Seen) (specification lists : List ℕ)
    (silent budget budget' statements : ℕ) (s s' : Status) (r r' : List ℕ)
    → TellAlike shelf shelf' specification → TellAlike shelf shelf' lists
    → Merges shelf specification lists (limits_of silent budget statements) s r
    → Merges shelf' specification lists (limits_of silent budget' statements) s' r'
    → DoNotContradict s s' r r'
merges_alike shelf shelf' specification lists silent budget budget' statements s s' r r' told listed
    x y =
    alike_stage Specification specification told.0 RefusesSpecification OfSpecification
    specifications_decided shelf shelf' told.1 told.2 DoNotContradict weaker _ _ at_lists s s' r r'
    x y
  where
    at_lists : (spec : Spec) (s s' : Status) (r r' : List ℕ)
        → AlongLists shelf lists (limits_of silent budget statements) spec s r
        → AlongLists shelf' lists (limits_of silent budget' statements) spec s' r'
        → DoNotContradict s s' r r'
    at_lists spec s s' r r' x y =
        alike_stage Trace lists listed.0 (RefusesLists spec) (OfLists spec) (lists_decided spec)
        shelf shelf' listed.1 listed.2 DoNotContradict weaker _ _
        (λ held s s' r r' a b.
        found_alike silent budget budget' statements spec held s s' r r' a.0 b.0 a.1 b.1 a.2 b.2)
        s s' r r' x y

pub ports_agree : PortsResultsAgree
ports_agree shelf shelf' specification lists silent budget budget' statements s s' r r' told listed
    x y =
    merges_alike shelf shelf' specification lists silent budget budget' statements s s' r r' told
    listed
    (ports_stages shelf specification lists silent budget statements (reported s r) x)
    (ports_stages shelf' specification lists silent budget' statements (reported s' r') y)
