-- A value that is written to the row of an instance.
use Rattle.std.proofs.Common.{◌≡◌, refl, sym, ap, ◌∙◌, ℕ, Bool, true, false, List}
use Rattle.std.proofs.Common.{Some, None, Result, Ok, Err, slice_get, slice_set, subst}
use Rattle.std.specs.List.{position}
use Rattle.est_syntax.specs.declared.kind.Kind.{Kind}
use Rattle.est_values.specs.declared.value.Value.{Value}
use Rattle.plain_declared.specs.mean_blocks.declared.fault.BlockFault.{BlockFault}
use Rattle.plain_declared.specs.mean_blocks.declared.fault.BlockFault.TheVariants.{NoModule}
use Rattle.plain_declared.specs.mean_blocks.declared.fault.BlockFault.TheVariants.{Undefined}
use Rattle.plain_declared.specs.mean_blocks.declared.frame.Place.{Place}
use Rattle.plain_declared.specs.mean_blocks.declared.situation.Row.{Row}
use Rattle.plain_declared.specs.mean_blocks.declared.stop.Stop.{Stop}
use Rattle.plain_declared.specs.mean_blocks.Outcome.{on_ok}
use Rattle.plain_declared.specs.mean_blocks.GlobalSituation.{Frame, first_changed, is_numbered}
use Rattle.plain_declared.specs.mean_blocks.Frames.{variables_in, frame_written}
use Rattle.plain_declared.specs.mean_blocks.TakenValues.{taken}
use Rattle.plain_frames.specs.HeldFrames.{Leaves}
use Rattle.plain_frames.specs.inside.WrittenLists.{with_names, rows_written, row_written}
use Rattle.plain_frames.specs.inside.WrittenLists.{given_variables}
use Rattle.plain_frames.specs.inside.WrittenLists.{instance_written}
use Rattle.plain_systems.proofs.FirstFound.{first_found, first_there, none_found, changed_at}
use Rattle.plain_frames.proofs.WrittenFrames.{undefined_written}

-- WHAT IS LEFT

-- what stops a thing stops an equal one
pub stops_by : {S : Type 0} (m made : Result S BlockFault) (e : Stop) (s : S) → m ≡ made
    → Leaves made (Err e) s → Leaves m (Err e) s
stops_by m made e s same h = subst (λ x. Leaves x (Err e) s) (sym same) h

-- ROWS

-- where an instance does not live
pub no_row : (function : Bool) (n : ℕ) (p : Place) (k : Kind) (w : Value) (rows : List Row)
    → position (is_numbered n) rows ≡ None
    → instance_written function n p k w rows ≡ Err NoModule
no_row function n p k w rows h =
    ap (λ o. on_ok (on_ok (variables_in o)
    (λ f. on_ok (taken k w) (λ x. frame_written p.declared p.path x f)))
    (given_variables function n rows)) (none_found (is_numbered n) rows h)

-- where its row stands there
by_row : (function : Bool) (n : ℕ) (p : Place) (k : Kind) (w : Value) (rows : List Row) (i : ℕ)
    (r : Row) (t : Result Value BlockFault) → position (is_numbered n) rows ≡ Some i
    → slice_get rows i ≡ Some r → taken k w ≡ t
    → instance_written function n p k w rows
    ≡ on_ok (on_ok t (λ x. frame_written p.declared p.path x r.variables))
    (given_variables function n rows)
by_row function n p k w rows i r t h at e =
    ap (λ o. on_ok (on_ok (variables_in o)
    (λ f. on_ok (taken k w) (λ x. frame_written p.declared p.path x f)))
    (given_variables function n rows)) (first_found (is_numbered n) rows i h ∙ at)
    ∙ ap (λ s. on_ok (on_ok s (λ x. frame_written p.declared p.path x r.variables))
    (given_variables function n rows)) e

-- what no kind takes is not written
pub not_taken : (function : Bool) (n : ℕ) (p : Place) (k : Kind) (w : Value) (rows : List Row)
    (i : ℕ) (f : BlockFault) → position (is_numbered n) rows ≡ Some i → taken k w ≡ Err f
    → instance_written function n p k w rows ≡ Err f
not_taken function n p k w rows i f h e =
    let r = first_there (is_numbered n) rows i h in
    by_row function n p k w rows i r.0 (Err f) h r.1 e

-- a function writes to no row
pub not_by_functions : (function : Bool) (n : ℕ) (p : Place) (k : Kind) (w x : Value)
    (rows : List Row) (i : ℕ) → function ≡ true → position (is_numbered n) rows ≡ Some i
    → taken k w ≡ Ok x → instance_written function n p k w rows ≡ Err Undefined
not_by_functions function n p k w x rows i b h e =
    let r = first_there (is_numbered n) rows i h in
    ap (λ a. instance_written a n p k w rows) b
    ∙ by_row true n p k w rows i r.0 (Ok x) h r.1 e
    ∙ undefined_written p.declared p.path x r.0.variables

-- the row that stands there is the first of its number
rows_arm : (i : ℕ) (rows : List Row) (r : Row) (n : ℕ) (named : Result Frame BlockFault)
    → ((f : Frame) → first_changed (is_numbered n) (with_names f) rows
    ≡ slice_set rows i (with_names f r))
    → on_ok named (given_variables false n rows)
    ≡ on_ok named (λ f. Ok (slice_set rows i (with_names f r)))
rows_arm i rows r n (Ok f) h = ap Ok (h f)
rows_arm i rows r n (Err e) h = refl

pub row_is_written : (function : Bool) (n : ℕ) (p : Place) (k : Kind) (w x : Value)
    (rows : List Row) (i : ℕ) → function ≡ false → position (is_numbered n) rows ≡ Some i
    → taken k w ≡ Ok x → instance_written function n p k w rows ≡ rows_written i p x rows
row_is_written function n p k w x rows i b h e =
    let r = first_there (is_numbered n) rows i h in
    ap (λ a. instance_written a n p k w rows) b
    ∙ by_row false n p k w rows i r.0 (Ok x) h r.1 e
    ∙ rows_arm i rows r.0 n (frame_written p.declared p.path x r.0.variables)
    (λ f. changed_at (is_numbered n) (with_names f) rows i r.0 h r.1)
    ∙ sym (ap (row_written i p x rows) r.1)
