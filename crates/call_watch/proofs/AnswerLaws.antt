-- What is answered to lines, and to one line more.
use Rattle.std.proofs.Common.{◌≡◌, ℕ, ◌+◌, List, [], ◌∷◌, ◌++◌, length}
use Rattle.std.proofs.Common.{sym, subst, append_assoc, append-nil, arith}
use Rattle.call_files.specs.declared.status.Status.{Status}
use Rattle.call_watch.specs.Lines.{Line, taken_by}
use Rattle.call_watch.specs.Answers.{Watch, Standing, Next, goes_on, ended, at_first}
use Rattle.call_watch.specs.Answers.{AreLinesAnswered, no_more, line_on, line_ends, IsLineAnswered}

-- lines that were answered and go on, and then more lines
pub answered-append : {w : Watch} {row : ℕ} {s t : Standing} {lines more : List Line} {next : Next}
    {n m : ℕ} {out here : List ℕ} (then : ℕ)
    → AreLinesAnswered w row s lines (goes_on t) n out → then ≡ row + length lines
    → AreLinesAnswered w then t more next m here
    → AreLinesAnswered w row s (lines ++ more) next (n + m) (out ++ here)
answered-append {w} {more = more} {next} {m = m} {here = here} then (no_more row s) place are =
    let e : then ≡ row = omega arith in
    let f : m ≡ 0 + m = omega arith in
    subst (λ (k : ℕ). AreLinesAnswered w row s more next k here) f
    (subst (λ (r : ℕ). AreLinesAnswered w r s more next m here) e are)
answered-append {w} {more = more} {next} {m = m} {here = here} then
    (line_on row s u l ls (goes_on t) n first out on later) place are =
    let i : AreLinesAnswered w (row + 1) u (ls ++ more) next (n + m) (out ++ here) =
    answered-append then later (omega arith) are in
    let f : taken_by l + (n + m) ≡ taken_by l + n + m = omega arith in
    subst (λ (k : ℕ). AreLinesAnswered w row s (l ∷ (ls ++ more)) next k ((first ++ out) ++ here)) f
    (subst (λ (o : List ℕ). AreLinesAnswered w row s (l ∷ (ls ++ more)) next (taken_by l + (n + m))
    o)
    (sym (append_assoc first out here))
    (line_on row s u l (ls ++ more) next (n + m) first (out ++ here) on i))

-- one line more, after which it goes on
pub answered-more : {w : Watch} {s t : Standing} {lines : List Line} {n : ℕ} {out here : List ℕ}
    (row : ℕ) (l : Line) → AreLinesAnswered w 1 at_first lines (goes_on s) n out
    → row ≡ length lines + 1 → IsLineAnswered w row s l.bytes (goes_on t) here
    → AreLinesAnswered w 1 at_first (lines ++ l ∷ []) (goes_on t) (n + taken_by l) (out ++ here)
answered-more {w} {s} {t} {here = here} row l are place one =
    answered-append row are (omega arith)
    (subst (λ (k : ℕ). AreLinesAnswered w row s (l ∷ []) (goes_on t) k here)
    (let e : taken_by l + 0 ≡ taken_by l = omega arith in e)
    (subst (λ (o : List ℕ). AreLinesAnswered w row s (l ∷ []) (goes_on t) (taken_by l + 0) o)
    (append-nil here)
    (line_on row s t l [] (goes_on t) 0 here [] one (no_more (row + 1) t))))

-- one line more, which ends it whatever comes behind it
pub answered-ends : {w : Watch} {s : Standing} {lines : List Line} {n : ℕ} {out here : List ℕ}
    {with : Status} (row : ℕ) (l : Line) (rest : List Line)
    → AreLinesAnswered w 1 at_first lines (goes_on s) n out
    → row ≡ length lines + 1 → IsLineAnswered w row s l.bytes (ended with) here
    → AreLinesAnswered w 1 at_first (lines ++ l ∷ rest) (ended with) (n + taken_by l) (out ++ here)
answered-ends {s = s} {here = here} {with} row l rest are place one =
    answered-append row are (omega arith) (line_ends row s l rest with here one)
