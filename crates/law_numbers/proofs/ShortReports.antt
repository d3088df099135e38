-- The report of a verdict is no longer than an explanation may be.
use Rattle.std.specs.Fmt.{decimal}
use Rattle.std.specs.Prelude.{flat_map, IfSome}
use Rattle.std.specs.List.{AllByRecursion, sum_by}
use Rattle.std.proofs.Common.{◌≡◌, ℕ, zero, suc, ◌+◌, ◌-◌, ◌*◌, ◌≤◌, ◌<◌, ◌^◌, Bool, true, false}
use Rattle.std.proofs.Common.{List, [], ◌∷◌, ◌++◌, length, reverse, codes, Option, Some, None}
use Rattle.std.proofs.Common.{if◌then◌else◌, nat_le, refl, ap, inl, inr, arith}
use Rattle.std.proofs.lemmas.Fmt.{length-decimal-le}
use Rattle.std.proofs.lemmas.List.{length-append, reverse-append}
use Rattle.std.proofs.lemmas.List.Concat.{length-flat_map}
use Rattle.std.proofs.lemmas.List.Sums.{sum_by-cons, sum_by_push}
use Rattle.mean_blocks.specs.declared.fault.BlockFault.{BlockFault}
use Rattle.mean_blocks.specs.declared.fault.BlockFault.TheVariants.{Range, Divide, Undefined}
use Rattle.mean_blocks.specs.declared.fault.BlockFault.TheVariants.{NoCase, NoModule, LinkTaken}
use Rattle.mean_blocks.specs.declared.fault.BlockFault.TheVariants.{SelfLink, TooMany}
use Rattle.est_meaning.specs.declared.firing.Firing.{Firing}
use Rattle.est_meaning.specs.declared.run.Move.{Move}
use Rattle.est_meaning.specs.declared.run.Move.TheVariants.{Take, Fire}
use Rattle.est_meaning.specs.AllowedEvents.{most_events}
use Rattle.est_meaning.specs.Run.{Setup, Place, IsBegun, IsBoundedRun, Yields}
use Rattle.est_meaning.proofs.RunLaws.{bounded_is_run, yields_below_all}
use Rattle.est_explanation.specs.declared.explanation.Explanation.{Explanation}
use Rattle.est_explanation.specs.CanonicalExplanation.{canonical, move_line}
use Rattle.est_explanation.specs.CanonicalExplanation.{IsWritable, IsWritableFiring}
use Rattle.est_search.specs.declared.verdict.Faulted.{Faulted}
use Rattle.est_search.specs.declared.verdict.Verdict.{Verdict}
use Rattle.est_search.specs.declared.verdict.Verdict.TheVariants.{Accepted, Refused}
use Rattle.est_search.specs.declared.verdict.Verdict.TheVariants.{OverFirings, OverAction}
use Rattle.est_search.specs.Verdict.{IsRefused, IsOverAction}
use Rattle.call_files.specs.declared.file.File.TheVariants as file
use Rattle.call_files.specs.Files.{limit_of}
use Rattle.call_files.specs.ReadableReports.{IsReadable, IsReadableFault}
use Rattle.call_files.specs.ReportLines.{line_feed}
use Rattle.call_files.specs.Reports.{fault_text}
use Rattle.call_files.specs.Requests.{most_budget}
use Rattle.call_files.specs.SearchReports.{firing_text, accepted_line, refused_at_line}
use Rattle.call_files.specs.SearchReports.{refused_end_line, refused_line, fault_line, faulted_line}
use Rattle.call_files.specs.SearchReports.{over_firings_line, over_action_line, verdict_report}
use Rattle.law_numbers.specs.ShortReports.{ReportsAreShort}
use Rattle.law_numbers.specs.WritableLaws.{IsShort}
use Rattle.law_numbers.proofs.FewMoves.{fires, takes, HasFewMoves, accepted_few, yielding_few}
use Rattle.law_numbers.proofs.FewMoves.{inner_few}
use Rattle.law_numbers.proofs.ReadableVerdicts.{passed_inner}
use Rattle.law_numbers.proofs.WritableRuns.{IsNarrow, IsNarrowFiring, moves_narrow}

-- MOVES

-- the bytes of the lines of moves
abbrev line_length : Move → ℕ
line_length m = length (move_line m)

narrow_line : (f : Firing) → IsNarrowFiring f → line_length (Fire f) ≤ 28
narrow_line f narrow =
    let i = narrow.instance in
    let t = narrow.transition in
    let c = narrow.choice in
    let a = length-decimal-le 9 f.instance (omega arith) (omega (arith, i)) (omega (arith, i)) in
    let b = length-decimal-le 7 f.transition (omega arith) (omega (arith, t)) (omega (arith, t)) in
    let d = length-decimal-le 4 f.choice (omega arith) (omega (arith, c)) (omega (arith, c)) in
    let x = codes "fire " ++ decimal f.instance in
    let y = x ++ codes " " in
    let z = y ++ decimal f.transition in
    let u = z ++ codes " " in
    let v = u ++ decimal f.choice in
    omega (
      arith,
      a,
      b,
      d,
      length-append (codes "fire ") (decimal f.instance),
      length-append x (codes " "),
      length-append y (decimal f.transition),
      length-append z (codes " "),
      length-append u (decimal f.choice),
      length-append v (codes "\n"),
    )

narrow_lines : (run : List Move) → AllByRecursion IsNarrow run
    → sum_by line_length run ≤ 28 * fires run + 5 * takes run
narrow_lines [] narrow = omega arith
narrow_lines (Take ∷ earlier) narrow =
    let l = narrow_lines earlier narrow.1 in
    omega (arith, l, sum_by-cons line_length Take earlier)
narrow_lines (Fire f ∷ earlier) narrow =
    let l = narrow_lines earlier narrow.1 in
    omega (arith, l, narrow_line f narrow.0, sum_by-cons line_length (Fire f) earlier)

sum_reversed : {X : Type 0} (f : X → ℕ) (xs : List X) → sum_by f (reverse xs) ≡ sum_by f xs
sum_reversed f [] = refl
sum_reversed f (x ∷ xs) =
    let n = sum_reversed f xs in
    let e = ap (sum_by f) (reverse-append (x ∷ []) xs) in
    omega (arith, n, e, sum_by_push f (reverse xs) x, sum_by-cons f x xs)

-- the lines of all moves of a run of few, in order
lines_short : (c : Setup) (budget : ℕ) (moves : List Move) → HasFewMoves c budget (reverse moves)
    → AllByRecursion IsNarrow (reverse moves)
    → length (flat_map move_line moves) ≤ 28 * budget + 5 * length c.trace.events
lines_short c budget moves few narrow =
    let l = narrow_lines (reverse moves) narrow in
    let f = few.fires_few in
    let t = few.takes_few in
    omega (arith, l, f, t, sum_reversed line_length moves, length-flat_map move_line moves)

-- HEADS

number_short : (n : ℕ) → n < 2 ^ 64 → length (decimal n) ≤ 20
number_short n small = length-decimal-le 20 n (omega arith) (omega (arith, small)) small

firing_short : (f : Firing) → IsWritableFiring f → length (firing_text f) ≤ 62
firing_short f w =
    let i = w.instance in
    let t = w.transition in
    let c = w.choice in
    let e : length (firing_text f) ≡ length (decimal f.instance) + 1
    + length (decimal f.transition) + 1 + length (decimal f.choice) = simp length-append in
    omega (
      arith,
      e,
      number_short f.instance (omega (arith, i)),
      number_short f.transition (omega (arith, t)),
      number_short f.choice (omega (arith, c)),
    )

accepted_short : (events : ℕ) → events < 2 ^ 64 → length (accepted_line events) ≤ 42
accepted_short events small =
    let e : length (accepted_line events) ≡ 12 + length (decimal events) + 9 + 1
    = simp length-append in
    omega (arith, e, number_short events small)

refused_short : (at events : ℕ) → at < 2 ^ 64 → events < 2 ^ 64
    → length (refused_line at events) ≤ 66
refused_short at events little small = by (nat_le at events)
  where
    by : (b : Bool)
        → length (if b then refused_at_line at events else refused_end_line events) ≤ 66
    by true =
        let e : length (refused_at_line at events)
        ≡ 19 + length (decimal at) + 4 + length (decimal events) + 2 + 1 = simp length-append in
        omega (arith, e, number_short at little, number_short events small)
    by false =
        let e : length (refused_end_line events) ≡ 27 + length (decimal events) + 9 + 1
        = simp length-append in
        omega (arith, e, number_short events small)

fault_short : (fault : BlockFault) → length (fault_text fault) ≤ 10
fault_short Range = omega arith
fault_short Divide = omega arith
fault_short Undefined = omega arith
fault_short NoCase = omega arith
fault_short NoModule = omega arith
fault_short LinkTaken = omega arith
fault_short SelfLink = omega arith
fault_short TooMany = omega arith

faulted_short : (faulted : Option Faulted) → IsReadableFault faulted
    → length (faulted_line faulted) ≤ 94
faulted_short None w = omega arith
faulted_short (Some f) w =
    let e : length (fault_line (fault_text f.fault) f.firing)
    ≡ 8 + length (fault_text f.fault) + 11 + length (firing_text f.firing) + 2 + 1
    = simp length-append in
    omega (arith, e, fault_short f.fault, firing_short f.firing w)

tried_short : (tried : ℕ) → tried < 2 ^ 64 → length (over_firings_line tried) ≤ 52
tried_short tried small =
    let e : length (over_firings_line tried) ≡ 15 + length (decimal tried) + 16 + 1
    = simp length-append in
    omega (arith, e, number_short tried small)

over_short : (limit : ℕ) (firing : Option Firing) → limit < 2 ^ 64
    → IfSome firing IsWritableFiring → length (over_action_line limit firing) ≤ 143
over_short limit None small w =
    let e : length (over_action_line limit None) ≡ 40 + length (decimal limit) + 20 + 1
    = simp length-append in
    omega (arith, e, number_short limit small)
over_short limit (Some firing) small w =
    let a = codes "{ over budget: firing " ++ firing_text firing in
    let b = a ++ codes " passed the limit " in
    let d = b ++ decimal limit in
    let e = d ++ codes " after these moves }" in
    omega (
      arith,
      number_short limit small,
      firing_short firing w,
      length-append (codes "{ over budget: firing ") (firing_text firing),
      length-append a (codes " passed the limit "),
      length-append b (decimal limit),
      length-append d (codes " after these moves }"),
      length-append e line_feed,
    )

-- REPORTS

-- the lines of so many moves, between those that come before and after them
canonical_short : (x : Explanation) (many : ℕ) → IsWritable x
    → length (flat_map move_line x.moves) ≤ many → length (canonical x) ≤ many + 42
canonical_short x many w few =
    let c = w.claim in
    let e : length (canonical x)
    ≡ 14 + length (flat_map move_line x.moves) + (7 + length (decimal x.claim) + 1)
    = simp length-append in
    omega (arith, e, few, number_short x.claim (omega (arith, c)))

-- the moves of a verdict within the greatest budget, on a trace that is not too long
module _ (c : Setup) (budget : ℕ) (small : budget ≤ most_budget)
    (events : length c.trace.events ≤ most_events) where
  -- a head and the text of an explanation
  told_short : (head : List ℕ) (x : Explanation) → length head ≤ 160 → IsWritable x
      → HasFewMoves c budget (reverse x.moves) → AllByRecursion IsNarrow (reverse x.moves)
      → length (head ++ canonical x) ≤ limit_of file.Explanation
  told_short head x short w few narrow =
      omega (
        arith,
        small,
        events,
        short,
        lines_short c budget x.moves few narrow,
        canonical_short x (28 * budget + 5 * length c.trace.events) w
            (lines_short c budget x.moves few narrow),
        length-append head (canonical x),
      )

-- VERDICTS

-- the report of this verdict is within the limit of an explanation
abbrev HasShortReport : Setup → Verdict → Type 0
HasShortReport c verdict =
    length (verdict_report c.limit (length c.trace.events) verdict) ≤ limit_of file.Explanation

module _ (c : Setup) (short : IsShort c.spec) (begun : IsBegun c)
    (few : length c.trace.events ≤ most_events) (budget : ℕ) (small : budget ≤ most_budget) where
  narrow : (run : List Move) (p : Place) → IsBoundedRun c run p → AllByRecursion IsNarrow run
  narrow run p is = moves_narrow c run p short begun (bounded_is_run c run p is)

  yielding_narrow : (run : List Move) (k : ℕ) → Yields c run k → AllByRecursion IsNarrow run
  yielding_narrow run k (inl y) = narrow run y.place y.is_run
  yielding_narrow run k (inr y) = narrow run y.1.place y.1.is_run

  refused_report : (at : ℕ) (run : List Move) (faulted : Option Faulted)
      → IsRefused c budget at (reverse run) faulted
      → IsReadable c.limit (length c.trace.events) (Refused at run faulted)
      → HasShortReport c (Refused at run faulted)
  refused_report zero run faulted h fits =
      absurd (h.least.unyielded [] (yields_below_all.start c))
  refused_report (suc k) run faulted h fits =
      let y = (h.first k (omega arith)).has in
      let w = fits.1 in
      let claim = w.claim in
      let n = length c.trace.events in
      told_short c budget small few (refused_line (suc k) n ++ faulted_line faulted)
      (record { moves = run; claim = suc k - 1 })
      (omega (
        arith,
        refused_short (suc k) n (omega (arith, claim)) (omega (arith, few)),
        faulted_short faulted fits.2,
        length-append (refused_line (suc k) n) (faulted_line faulted),
      ))
      w (yielding_few c budget h.unexplained (reverse run) k y)
      (yielding_narrow (reverse run) k y)

  over_report : (run : List Move) (reached : ℕ) (firing : Option Firing)
      → IsOverAction c budget (reverse run) reached firing
      → IsReadable c.limit (length c.trace.events) (OverAction run reached firing)
      → HasShortReport c (OverAction run reached firing)
  over_report run reached firing h fits =
      let i = passed_inner c (reverse run) firing h.first.has in
      told_short c budget small few (over_action_line c.limit firing)
      (record { moves = run; claim = reached })
      (omega (arith, over_short c.limit firing fits.0 fits.2)) fits.1
      (inner_few c budget h.unexplained (reverse run) i.0 i.1)
      (narrow (reverse run) i.0 i.1.is_run)

pub reports_short : ReportsAreShort
reports_short c budget (Accepted run) short begun few small h fits =
    let n = length c.trace.events in
    let e = h.first.has in
    told_short c budget small few (accepted_line n) (record { moves = run; claim = n + 1 })
    (omega (arith, accepted_short n (omega (arith, few)))) fits
    (accepted_few c budget (reverse run) h)
    (narrow c short begun few budget small (reverse run) e.place e.is_run)
reports_short c budget (Refused at run faulted) short begun few small h fits =
    refused_report c short begun few budget small at run faulted h fits
reports_short c budget (OverFirings tried) short begun few small h fits =
    let same = h.0 in omega (arith, tried_short tried (omega (arith, same, small)))
reports_short c budget (OverAction run reached firing) short begun few small h fits =
    over_report c short begun few budget small run reached firing h fits
