-- What comes of a line, from what comes of its parts.
use Rattle.std.proofs.Common.{◌≡◌, ℕ, false, List, [], length, Option}
use Rattle.std.proofs.Common.{Result, Ok, Err, inl, inr, refl, sym, ap, subst, ◌∙◌}
use Rattle.std.specs.Result.{IsErrAnd}
use Rattle.est_meaning.specs.declared.event.Event.{Event}
use Rattle.call_files.specs.Pieces.{IsPrefix}
use Rattle.call_files.specs.RefusalLines.{refusal_line}
use Rattle.call_files.specs.declared.file.File.TheVariants.{Trace}
use Rattle.call_files.specs.declared.status.Status.TheVariants.{BadTrace}
use Rattle.call_watch.specs.Lines.{IsSkipped, IsEndLine, HasEvents, IsRefusedLine, room_after}
use Rattle.call_watch.specs.Answers.{Watch, Standing, Next, goes_on, ended, AreAnswered}
use Rattle.call_watch.specs.Answers.{IsLineAnswered, skipped, refused, ends, answered, IsLineBegun}
use Rattle.call_watch.specs.Answers.{of_all, of_first, watched_status, finish_line}
use Rattle.call_watch.specs.declared.answering.Went.{Went}
use Rattle.call_watch.specs.declared.answering.Went.TheVariants.{On, Ended}
use Rattle.call_watch.specs.declared.answering.Cut.{Cut}
use Rattle.call_watch.specs.declared.answering.Cut.TheVariants.{Unwritten, OutOfMemory}
use Rattle.call_watch.specs.inside.Work.{AreBegun, AreGiven, next_of, IsPut}
use Rattle.call_watch.specs.inside.Work.{IsEnded, IsTaken}
use Rattle.call_watch.proofs.Answered.{appended_none}

-- the line is skipped
pub skipped_taken : (w : Watch) (row : ℕ) (s : Standing) (bytes : List ℕ)
    (before : Option (List ℕ)) → IsSkipped bytes → IsTaken w row s bytes s (Ok On) before before
skipped_taken w row s bytes before h = ([], skipped h, sym (appended_none before))

-- memory ran out, and nothing was written
pub none_taken : (w : Watch) (row : ℕ) (s t : Standing) (bytes : List ℕ)
    (before after : Option (List ℕ)) → after ≡ before
    → IsTaken w row s bytes t (Err OutOfMemory) before after
none_taken w row s t bytes before after same = ([], inl refl, same ∙ sym (appended_none before))

-- the same of a result that says so
pub spent_taken : (w : Watch) (row : ℕ) (s t : Standing) (bytes : List ℕ) (r : Result Went Cut)
    (before after : Option (List ℕ)) → IsErrAnd r (λ cut. cut ≡ OutOfMemory) → after ≡ before
    → IsTaken w row s bytes t r before after
spent_taken w row s t bytes (Ok went) before after h same = absurd h
spent_taken w row s t bytes (Err cut) before after h same =
    subst (λ (x : Cut). IsTaken w row s bytes t (Err x) before after) (sym h)
    (none_taken w row s t bytes before after same)

-- a front part of what is answered is written
whole_begun : (w : Watch) (row : ℕ) (s : Standing) (bytes : List ℕ) (next : Next)
    (out part : List ℕ) → IsLineAnswered w row s bytes next out → IsPrefix part out
    → IsLineBegun w row s bytes part
whole_begun w row s bytes next out part a p =
    of_all next part p.0 (subst (IsLineAnswered w row s bytes next) p.1 a)

-- the line is `end`
pub end_taken : (w : Watch) (row : ℕ) (s t : Standing) (bytes : List ℕ) (r : Result Went Cut)
    (before after : Option (List ℕ)) → s.first ≡ false → IsEndLine bytes
    → IsEnded w s.given r before after → IsTaken w row s bytes t r before after
end_taken w row s t bytes (Ok went) before after first line h = (
  finish_line w (length s.given) h.0,
  subst (λ (next : Next). IsLineAnswered w row s bytes next (finish_line w (length s.given) h.0))
      (ap (λ (x : Went). next_of x t) (sym h.2)) (ends h.0 first line h.1),
  h.3,
)
end_taken w row s t bytes (Err Unwritten) before after first line h = (
  h.2,
  whole_begun w row s bytes (ended (watched_status h.0)) (finish_line w (length s.given) h.0) h.2
      (ends h.0 first line h.1) h.3,
  h.4,
)
end_taken w row s t bytes (Err OutOfMemory) before after first line h =
    none_taken w row s t bytes before after h

-- the line is refused
pub refused_taken : (w : Watch) (row : ℕ) (s t : Standing) (bytes : List ℕ) (column : ℕ)
    (why : List ℕ) (r : Result Went Cut) (before after : Option (List ℕ))
    → (IsSkipped bytes → ⊥) → (s.first ≡ false → IsEndLine bytes → ⊥)
    → IsRefusedLine w.ports (room_after (length s.given)) s.first bytes column why
    → ((went : Went) → r ≡ Ok went → went ≡ Ended BadTrace)
    → IsPut (refusal_line Trace row column why) r before after → IsTaken w row s bytes t r before after
refused_taken w row s t bytes column why (Ok went) before after some no_end line is h = (
  refusal_line Trace row column why,
  subst (λ (next : Next). IsLineAnswered w row s bytes next (refusal_line Trace row column why))
      (ap (λ (x : Went). next_of x t) (sym (is went refl))) (refused column why some no_end line),
  h,
)
refused_taken w row s t bytes column why (Err Unwritten) before after some no_end line is h = (
  h.0,
  whole_begun w row s bytes (ended BadTrace) (refusal_line Trace row column why) h.0
      (refused column why some no_end line) h.1,
  h.2,
)
refused_taken w row s t bytes column why (Err OutOfMemory) before after some no_end line is h =
    none_taken w row s t bytes before after h

-- a part of the answers to its events is written
events_begun : (w : Watch) (row : ℕ) (s : Standing) (bytes : List ℕ) (events : List Event)
    (part : List ℕ) → HasEvents w.ports (room_after (length s.given)) s.first bytes events
    → AreBegun w s.given events part → IsLineBegun w row s bytes part
events_begun w row s bytes events part line b =
    of_first b.first b.rest b.next part b.left
    (subst (HasEvents w.ports (room_after (length s.given)) s.first bytes) b.events_are line)
    b.answered

-- the line has events
pub events_taken : (w : Watch) (row : ℕ) (s t u : Standing) (bytes : List ℕ) (events : List Event)
    (r : Result Went Cut) (before after : Option (List ℕ)) → (IsSkipped bytes → ⊥)
    → HasEvents w.ports (room_after (length s.given)) s.first bytes events
    → (r ≡ Ok On → t ≡ u) → AreGiven w s.given events t r before after
    → IsTaken w row s bytes u r before after
events_taken w row s t u bytes events (Ok On) before after some line same g = (
  g.0,
  answered events (goes_on u) g.0 some line
      (subst (λ (x : Standing). AreAnswered w s.given events (goes_on x) g.0) (same refl) g.1),
  g.2,
)
events_taken w row s t u bytes events (Ok (Ended with)) before after some line same g =
    (g.0, answered events (ended with) g.0 some line g.1, g.2)
events_taken w row s t u bytes events (Err Unwritten) before after some line same g =
    (g.0, events_begun w row s bytes events g.0 line g.1, g.2)
events_taken w row s t u bytes events (Err OutOfMemory) before after some line same g =
    (g.0, inr (events_begun w row s bytes events g.0 line g.1), g.2)
