-- What is known of a recording between two bytes, and what the call has done where it ends.
use Rattle.std.proofs.Common.{◌≡◌, ◌∙◌, ℕ, ◌+◌, ◌≤◌, List, [], ◌∷◌, ◌++◌, Option, length}
use Rattle.std.proofs.Common.{ap, sym, subst, arith, IfSome, length-append}
use Rattle.est_syntax.specs.declared.specification.Spec.{Spec}
use Rattle.est_meaning.specs.Run.{Setup}
use Rattle.est_meaning.specs.SituationStacks.{Stack, Keeps}
use Rattle.call_files.specs.FaultCounts.{Rose}
use Rattle.call_files.specs.Files.{limit_of}
use Rattle.call_files.specs.Pieces.{TakesOff}
use Rattle.call_files.specs.RefusalLines.{too_long_line}
use Rattle.call_files.specs.Seen.{Seen}
use Rattle.call_files.specs.declared.file.File.TheVariants as file
use Rattle.call_files.specs.declared.status.Status.{Status}
use Rattle.call_files.specs.declared.status.Status.TheVariants as status
use Rattle.call_files.proofs.PieceLaws.{TakesOff-next}
use Rattle.call_watch.specs.Lines.{HasNoFeed}
use Rattle.call_watch.specs.Answers.{Watch, Standing, at_first}
use Rattle.call_watch.specs.Endings.{standard_input, IsTold, Watches}
use Rattle.call_watch.specs.inside.Reading.{IsSoFar, StopsWith, IsAfterByte, IsLastWritten}
use Rattle.call_watch.specs.inside.Reading.{IsReading}
use Rattle.call_watch.specs.inside.Recordings.{IsWaiting, standing_of, watch_of}
use Rattle.call_watch.specs.declared.answering.Went.{Went}
use Rattle.call_watch.specs.declared.answering.Went.TheVariants.{On, Ended}
use Rattle.call_watch.specs.declared.reading.Reading.{Reading}
use Rattle.call_watch.proofs.ReadingLaws.{so_far-first, stops_long, text_byte, text_whole}
use Rattle.call_watch.proofs.ReadingLaws.{watches_stop, watches_unread}

-- nothing was taken: the line is empty, and all is as at first
pub so_far-begun : (w : Watch) (before : Option (List ℕ)) (bytes : List ℕ) (s : Standing)
    → bytes ≡ [] → s ≡ at_first → IsSoFar w [] bytes 1 s before before
so_far-begun w before bytes s none first =
    subst (λ (b : List ℕ). IsSoFar w [] b 1 s before before) (sym none)
    (subst (λ (t : Standing). IsSoFar w [] [] 1 t before before) (sym first)
    (so_far-first w before))

module _ {W : Type 0} {speaks : W → Spec → Type 0} {stack : W → Spec → Stack} {limit fired : W → ℕ}
    {setup : Spec → Setup} {world : W} {budget : ℕ} {told left : Option (List ℕ)} {count : ℕ}
    {before middle : Option (List ℕ)} {r : Reading W}
    (h : IsReading speaks stack limit fired setup world budget told left count before middle r)
  where
    -- what was taken, with the budget that the recording has
    far_now : (spec : Spec) → speaks world spec
        → IsSoFar (watch_of setup r.recording.limits.budget spec) h.taken r.line.items r.row
        (standing_of r.recording) before middle
    far_now spec says = subst (λ (b : ℕ). IsSoFar (watch_of setup b spec) h.taken r.line.items r.row
        (standing_of r.recording) before middle) (sym h.budget_is) (h.far spec says)

    -- one byte more, and it goes on
    pub reading_on : (left' after : Option (List ℕ)) (r' : Reading W) (b : ℕ) (went : Went)
        → TakesOff left (b ∷ []) left' → went ≡ On
        → IsWaiting speaks stack limit fired setup r'.recording
        → Keeps speaks limit r.recording.watcher.world r'.recording.watcher.world
        → r'.recording.limits ≡ r.recording.limits → HasNoFeed r'.line.items
        → length r'.line.items ≤ length r.line.items + 1 → r'.row ≤ r.row + 1
        → ((spec : Spec) → speaks r.recording.watcher.world spec → (taken : List ℕ)
        (before : Option (List ℕ))
        → IsSoFar (watch_of setup r.recording.limits.budget spec) taken r.line.items r.row
        (standing_of r.recording) before middle
        → IsAfterByte (watch_of setup r.recording.limits.budget spec) taken b r'.line.items r'.row
        (standing_of r'.recording) before after went)
        → IsReading speaks stack limit fired setup world budget told left' (count + 1)
        before after r'
    reading_on left' after r' b went piece is waiting keeps limits one longer lower after_byte =
        let size : length (h.taken ++ b ∷ []) ≡ count + 1 = omega (
          arith,
          h.size,
          length-append h.taken (b ∷ []),
        ) in
        record {
          taken = h.taken ++ b ∷ [];
          size = size;
          front = TakesOff-next told left left' h.taken (b ∷ []) h.front piece;
          waiting = waiting;
          speaks_on = λ spec says. keeps.forward spec (h.speaks_on spec says);
          budget_is = ap (λ l. l.budget) limits ∙ h.budget_is;
          one = one;
          short = omega (arith, longer, h.short);
          row_in = omega (arith, lower, h.row_in);
          far = λ spec says.
              subst (λ (n : ℕ). IsSoFar (watch_of setup n spec) (h.taken ++ b ∷ []) r'.line.items
              r'.row
              (standing_of r'.recording) before after) h.budget_is
              (subst (λ (v : Went). IsAfterByte (watch_of setup r.recording.limits.budget spec)
              h.taken b
              r'.line.items r'.row (standing_of r'.recording) before after v) is
              (after_byte spec (h.speaks_on spec says) h.taken before (far_now spec says)));
        }

    -- one byte more, and it has ended
    pub watches_ended : (shelf : Seen) (left' after : Option (List ℕ)) (r' : Reading W) (b : ℕ)
        (went : Went) (with : Status)
        → shelf.before.told standard_input ≡ told → shelf.after.taken ≡ count + 1
        → count + 1 ≤ limit_of file.Trace → TakesOff left (b ∷ []) left' → went ≡ Ended with
        → ((spec : Spec) → speaks r.recording.watcher.world spec → (taken : List ℕ)
        (before : Option (List ℕ))
        → IsSoFar (watch_of setup r.recording.limits.budget spec) taken r.line.items r.row
        (standing_of r.recording) before middle
        → IsAfterByte (watch_of setup r.recording.limits.budget spec) taken b r'.line.items r'.row
        (standing_of r'.recording) before after went)
        → (spec : Spec) → speaks world spec → Watches (watch_of setup budget spec) shelf
        before after with
    watches_ended shelf left' after r' b went with same size short piece is after_byte spec says =
        let t = text_byte told left left' h.taken b h.front piece in
        let stops = subst (λ (v : Went). IsAfterByte (watch_of setup r.recording.limits.budget spec)
        h.taken b r'.line.items r'.row (standing_of r'.recording) before after v) is
        (after_byte spec (h.speaks_on spec says) h.taken before (far_now spec says)) in
        subst (λ (n : ℕ). Watches (watch_of setup n spec) shelf before after with) h.budget_is
        (watches_stop (h.taken ++ b ∷ t.0) with
        (subst (λ (o : Option (List ℕ)). IsTold o (h.taken ++ b ∷ t.0)) (sym same) t.1)
        (let e : shelf.after.taken ≡ length h.taken + 1 = omega (arith, size, h.size) in e)
        (stops (omega (arith, short, h.size)) t.0))

    -- the end of the text
    pub watches_end : (shelf : Seen) (after : Option (List ℕ)) (with : Status)
        → shelf.before.told standard_input ≡ told → shelf.after.taken ≡ count
        → count ≤ limit_of file.Trace → IfSome left (λ rest. rest ≡ [])
        → ((spec : Spec) → speaks r.recording.watcher.world spec → (taken : List ℕ)
        (before : Option (List ℕ))
        → IsSoFar (watch_of setup r.recording.limits.budget spec) taken r.line.items r.row
        (standing_of r.recording) before middle → length taken ≤ limit_of file.Trace
        → StopsWith (watch_of setup r.recording.limits.budget spec) taken (length taken)
        before after with)
        → (spec : Spec) → speaks world spec → Watches (watch_of setup budget spec) shelf
        before after with
    watches_end shelf after with same size short end stops spec says =
        let t = text_whole told left h.taken h.front end in
        subst (λ (n : ℕ). Watches (watch_of setup n spec) shelf before after with) h.budget_is
        (watches_stop h.taken with
        (subst (λ (o : Option (List ℕ)). IsTold o h.taken) (sym same) t)
        (let e : shelf.after.taken ≡ length h.taken = omega (arith, size, h.size) in e)
        (stops spec (h.speaks_on spec says) h.taken before (far_now spec says)
        (omega (arith, short, h.size))))

    -- a byte too many
    pub watches_long : (shelf : Seen) (left' after : Option (List ℕ)) (b : ℕ) (with : Status)
        → shelf.before.told standard_input ≡ told → shelf.after.taken ≡ count + 1
        → count ≡ limit_of file.Trace → TakesOff left (b ∷ []) left'
        → IsLastWritten (too_long_line file.Trace) status.TooLong middle after with
        → (spec : Spec) → speaks world spec → Watches (watch_of setup budget spec) shelf
        before after with
    watches_long shelf left' after b with same size full piece last spec says =
        let t = text_byte told left left' h.taken b h.front piece in
        let e : shelf.after.taken ≡ length h.taken + 1 = omega (arith, size, h.size) in
        watches_stop (h.taken ++ b ∷ t.0) with
        (subst (λ (o : Option (List ℕ)). IsTold o (h.taken ++ b ∷ t.0)) (sym same) t.1) e
        (stops_long (h.far spec says) h.one (h.size ∙ full) b t.0 with last)

    -- a read that failed
    pub watches_fault : (shelf : Seen)
        → shelf.before.told standard_input ≡ told → shelf.after.taken ≡ count
        → count ≤ limit_of file.Trace
        → Rose (shelf.before.faults standard_input) (shelf.after.faults standard_input)
        → (spec : Spec) → speaks world spec
        → Watches (watch_of setup budget spec) shelf before middle status.ReadFault
    watches_fault shelf same size short rose spec says =
        let e : shelf.after.taken ≡ length h.taken = omega (arith, size, h.size) in
        watches_unread left
        (subst (λ (o : Option (List ℕ)). TakesOff o h.taken left) (sym same) h.front) rose e
        (omega (arith, short, h.size)) (h.far spec says) h.one
