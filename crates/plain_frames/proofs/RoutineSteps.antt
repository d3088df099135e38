-- The frame of a routine, name by name.
use Rattle.std.proofs.Common.{◌≡◌, refl, sym, ap, ◌∙◌, ℕ, ◌+◌, ◌≤◌, List, [], ◌∷◌, ◌++◌, drop}
use Rattle.std.proofs.Common.{length, append_assoc, Result, Ok, Err, slice_get, Option, Some}
use Rattle.std.proofs.lemmas.List.{append-nil}
use Rattle.std.proofs.Math.ListN.{drop_of_length-le}
use Rattle.est_syntax.specs.declared.kind.Kind.{Kind}
use Rattle.plain_declared.specs.rule_scope.Outline.{Outline}
use Rattle.plain_declared.specs.mean_blocks.declared.fault.BlockFault.{BlockFault}
use Rattle.plain_declared.specs.mean_blocks.declared.frame.Binding.{Binding}
use Rattle.plain_declared.specs.mean_blocks.declared.frame.Slot.{Slot}
use Rattle.plain_declared.specs.mean_blocks.declared.stop.Stop.{Stop}
use Rattle.plain_declared.specs.mean_blocks.declared.stop.Stop.TheVariants as stop
use Rattle.plain_declared.specs.mean_blocks.Outcome.{on_ok}
use Rattle.plain_declared.specs.mean_blocks.AnswersOfCalls.{Says}
use Rattle.plain_declared.specs.mean_blocks.GlobalSituation.{Frame}
use Rattle.plain_declared.specs.mean_blocks.NamesInRuns.{kind_at}
use Rattle.plain_declared.specs.mean_blocks.FunctionCalls.{bound, frame_of}
use Rattle.plain_frames.specs.inside.RoutineFrames.{given_first}
use Rattle.est_values.proofs.QueueLaws.{drop_more, head_behind_taken}
use Rattle.plain_systems.proofs.FirstFound.{drop_here}

-- the names before, and then those of a frame
abbrev pub after : Frame → Result Frame BlockFault → Result Frame BlockFault
after before r = on_ok r (λ f. Ok (before ++ f))

-- one name, and then the others
abbrev frame_on : Outline → ℕ → List ℕ → List Slot → Slot → Result Frame BlockFault
frame_on o p ps xs y = on_ok (frame_of o ps xs) (λ f. Ok (bound p y ∷ f))

frame_step : (o : Outline) (p : ℕ) (ps : List ℕ) (xs : List Slot)
    → frame_of o (p ∷ ps) xs
    ≡ on_ok (given_first (kind_at o p) (slice_get xs 0)) (frame_on o p ps (drop 1 xs))
frame_step o p ps [] = refl
frame_step o p ps (x ∷ xs) = refl

-- the frame from a name on
frame_from : (o : Outline) (ps : List ℕ) (xs : List Slot) (i p : ℕ) → slice_get ps i ≡ Some p
    → frame_of o (drop i ps) (drop i xs)
    ≡ on_ok (given_first (kind_at o p) (slice_get xs i))
    (frame_on o p (drop (i + 1) ps) (drop (i + 1) xs))
frame_from o ps xs i p at =
    ap (λ l. frame_of o l (drop i xs)) (drop_here ps i p at)
    ∙ frame_step o p (drop (i + 1) ps) (drop i xs)
    ∙ ap (λ x. on_ok (given_first (kind_at o p) x)
    (frame_on o p (drop (i + 1) ps) (drop 1 (drop i xs)))) (sym (head_behind_taken xs i))
    ∙ ap (λ l. on_ok (given_first (kind_at o p) (slice_get xs i))
    (frame_on o p (drop (i + 1) ps) l)) (sym (drop_more xs i))

after_more : (before : Frame) (b : Binding) (r : Result Frame BlockFault)
    → after (before ++ b ∷ []) r ≡ after before (on_ok r (λ f. Ok (b ∷ f)))
after_more before b (Ok f) = ap Ok (append_assoc before (b ∷ []) f)
after_more before b (Err e) = refl

-- no names before
pub after_none : (r : Result Frame BlockFault) → after [] r ≡ r
after_none (Ok f) = refl
after_none (Err e) = refl

-- all names
pub frame_whole : (o : Outline) (ps : List ℕ) (xs : List Slot) (before : Frame) (i : ℕ)
    (whole : Result Frame BlockFault) → length ps ≤ i
    → after before (frame_of o (drop i ps) (drop i xs)) ≡ whole → whole ≡ Ok before
frame_whole o ps xs before i whole h same =
    sym same ∙ ap (λ l. after before (frame_of o l (drop i xs))) (drop_of_length-le ps h)
    ∙ ap Ok (append-nil before)

-- what a name is given, by what is found of it
given_by : (o : Outline) (xs : List Slot) (i p : ℕ) (k : Option Kind) (s : Option Slot)
    → k ≡ kind_at o p → s ≡ slice_get xs i
    → given_first (kind_at o p) (slice_get xs i) ≡ given_first k s
given_by o xs i p k s e f =
    sym (ap (λ j. given_first j s) e ∙ ap (given_first (kind_at o p)) f)

-- where a name is given something
pub one_name_more : (o : Outline) (ps : List ℕ) (xs : List Slot) (before : Frame) (i p : ℕ)
    (k : Option Kind) (s : Option Slot) (y : Slot) → slice_get ps i ≡ Some p → k ≡ kind_at o p
    → s ≡ slice_get xs i → given_first k s ≡ Ok y
    → after (before ++ bound p y ∷ []) (frame_of o (drop (i + 1) ps) (drop (i + 1) xs))
    ≡ after before (frame_of o (drop i ps) (drop i xs))
one_name_more o ps xs before i p k s y at e f given =
    after_more before (bound p y) (frame_of o (drop (i + 1) ps) (drop (i + 1) xs))
    ∙ sym (ap (after before) (frame_from o ps xs i p at
    ∙ ap (λ r. on_ok r (frame_on o p (drop (i + 1) ps) (drop (i + 1) xs)))
    (given_by o xs i p k s e f ∙ given)))

-- where it is not
no_name : (o : Outline) (ps : List ℕ) (xs : List Slot) (before : Frame) (i p : ℕ)
    (k : Option Kind) (s : Option Slot) (f : BlockFault) → slice_get ps i ≡ Some p
    → k ≡ kind_at o p → s ≡ slice_get xs i → given_first k s ≡ Err f
    → after before (frame_of o (drop i ps) (drop i xs)) ≡ Err f
no_name o ps xs before i p k s f at e g given =
    ap (after before) (frame_from o ps xs i p at
    ∙ ap (λ r. on_ok r (frame_on o p (drop (i + 1) ps) (drop (i + 1) xs)))
    (given_by o xs i p k s e g ∙ given))

pub stops_at_name : (o : Outline) (ps : List ℕ) (xs : List Slot) (before : Frame) (i p : ℕ)
    (k : Option Kind) (s : Option Slot) (e : Stop) (whole : Result Frame BlockFault)
    → slice_get ps i ≡ Some p → k ≡ kind_at o p → s ≡ slice_get xs i
    → after before (frame_of o (drop i ps) (drop i xs)) ≡ whole
    → Says (given_first k s) (Err e) → Says whole (Err e)
stops_at_name o ps xs before i p k s (stop.Fault f) whole at g h same given =
    sym same ∙ no_name o ps xs before i p k s f at g h given
stops_at_name o ps xs before i p k s stop.Limit whole at g h same given = absurd given
stops_at_name o ps xs before i p k s (stop.Memory m) whole at g h same given = tt
