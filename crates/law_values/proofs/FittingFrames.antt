-- What is found, read and written in frames that fit.
use Rattle.std.specs.Prelude.{find, if◌then◌else◌}
use Rattle.std.specs.List.{AllByRecursion}
use Rattle.std.specs.Option.{option_map}
use Rattle.std.proofs.Common.{◌≡◌, refl, sym, ap, subst, ◌∙◌, ℕ, zero, suc, Bool, true, false}
use Rattle.std.proofs.Common.{List, [], ◌∷◌, Option, Some, None, Result, Ok, Err, eqb-true}
use Rattle.std.proofs.lemmas.Option.{same_Some}
use Rattle.est_syntax.specs.declared.kind.Kind.{Kind}
use Rattle.est_values.specs.declared.value.Value.{Value}
use Rattle.est_values.specs.FittingValues.{Fits}
use Rattle.est_values.specs.PartsOfValues.{part_at, with_part}
use Rattle.rule_scope.specs.Outline.{Outline}
use Rattle.est_values.proofs.Itself.{alike_to_itself}
use Rattle.mean_blocks.specs.declared.fault.BlockFault.{BlockFault}
use Rattle.mean_blocks.specs.declared.frame.Binding.{Binding}
use Rattle.mean_blocks.specs.declared.frame.Holder.{Holder}
use Rattle.mean_blocks.specs.declared.frame.Place.{Place}
use Rattle.mean_blocks.specs.declared.frame.Slot.{Slot}
use Rattle.mean_blocks.specs.declared.situation.Row.{Row}
use Rattle.mean_blocks.specs.Outcome.{on_ok}
use Rattle.mean_blocks.specs.GlobalSituation.{Frame, Situation, is_numbered, row_of}
use Rattle.mean_blocks.specs.Frames.{is_declared, slot_of, given_value, with_value, innermost}
use Rattle.mean_blocks.specs.Frames.{frame_at, numbered, found_in, whole, place_by, place_of}
use Rattle.mean_blocks.specs.Frames.{existing, value_in, variables_in, held_by, read_at}
use Rattle.mean_blocks.specs.Frames.{frame_written, names_written}
use Rattle.mean_blocks.specs.NamesInRuns.{kind_at}
use Rattle.mean_blocks.specs.TakenValues.{taken}
use Rattle.mean_blocks.specs.declared.frame.Holder.TheVariants as holder
use Rattle.mean_blocks.specs.declared.frame.Slot.TheVariants as slot
use Rattle.law_runs.proofs.GivenThings.{OnGood}
use Rattle.law_runs.proofs.ParentsOlder.{changed_all}
use Rattle.law_values.proofs.TakenArguments.{good_on}
use Rattle.law_values.specs.SameKinds.{HasSizes, AreSame}
use Rattle.law_values.specs.KindsOfPlaces.{HasKind}
use Rattle.law_values.specs.SteadyOutlines.{IsSteady}
use Rattle.law_values.specs.FittingStates.{SlotFits, BindingFits, FrameFits, FramesFit}
use Rattle.law_values.specs.FittingStates.{RowFits}
use Rattle.law_values.proofs.SameKinds.{alike_same, same_fits, same_back}
use Rattle.law_values.proofs.PartsFit.{part_fits, with_part_fits}

pub same_itself : (sizes : ℕ → ℕ) (k : Kind) → HasSizes sizes k → AreSame k k
same_itself sizes k s = alike_same sizes k k s s (alike_to_itself k)

-- a property of a thing, if there is one
abbrev pub OnSome : {A : Type 0} → (A → Type 0) → Option A → Type 0
OnSome P None = Unit {0}
OnSome P (Some x) = P x

pub found_one : {A : Type 0} (P : A → Type 0) (test : A → Bool) (xs : List A)
    → AllByRecursion P xs → OnSome P (find test xs)
found_one P test [] h = tt
found_one P test (x ∷ xs) h = one (test x) (found_one P test xs h.1)
  where
    one : (b : Bool) → OnSome P (find test xs)
        → OnSome P (if b then Some x else find test xs)
    one true g = h.0
    one false g = g

module _ (o : Outline) (steady : IsSteady o) where
  -- LOOKED UP

  pub slot_fits : (d : ℕ) (k : Kind) (f : Frame) → kind_at o d ≡ Some k → FrameFits o f
      → OnSome (SlotFits o k) (slot_of d f)
  slot_fits d k [] e h = tt
  slot_fits d k (b ∷ f) e h = one (is_declared d b) refl (slot_fits d k f e h.1)
    where
      one : (c : Bool) → is_declared d b ≡ c → OnSome (SlotFits o k) (slot_of d f)
          → OnSome (SlotFits o k) (option_map (λ (b : Binding). b.slot)
          (if c then Some b else find (is_declared d) f))
      one true i g = h.0 k (ap (kind_at o) (sym (eqb-true d b.declared i)) ∙ e)
      one false i g = g

  pub frame_fits : (fs : List Frame) (n : ℕ) → FramesFit o fs → FrameFits o (frame_at fs n)
  frame_fits [] n h = tt
  frame_fits (f ∷ fs) zero h = h.0
  frame_fits (f ∷ fs) (suc n) h = frame_fits fs n h.1

  pub whole_has : (h : Holder) (d : ℕ) (k : Kind) → kind_at o d ≡ Some k → HasKind o (whole h d) k
  whole_has h d k e = record {
    whole = k;
    declared = e;
    part = k;
    reached = refl;
    same = same_itself steady.sizes k (steady.sized d k e);
  }

  by_place : (instance d n : ℕ) (k : Kind) (x : Option Slot) → kind_at o d ≡ Some k
      → OnSome (SlotFits o k) x → HasKind o (place_by instance d (numbered n x)) k
  by_place instance d n k None e h = whole_has (holder.Instance instance) d k e
  by_place instance d n k (Some (slot.Value v)) e h = whole_has (holder.Frame n) d k e
  by_place instance d n k (Some (slot.Place p)) e h = h
  by_place instance d n k (Some (slot.Instance i)) e h = whole_has (holder.Frame n) d k e

  -- where a variable of a kind stands
  pub place_has : (instance d : ℕ) (k : Kind) (fs : List Frame) → kind_at o d ≡ Some k
      → FramesFit o fs → HasKind o (place_of instance fs d) k
  place_has instance d k fs e h = by (innermost d 0 fs)
    where
      by : (n : Option ℕ) → HasKind o (place_by instance d (found_in d fs n)) k
      by None = whole_has (holder.Instance instance) d k e
      by (Some n) = by_place instance d n k (slot_of d (frame_at fs n)) e
          (slot_fits d k (frame_at fs n) e (frame_fits fs n h))

  -- READ AND WRITTEN

  pub value_fits : (k : Kind) (x : Option Slot) → OnSome (SlotFits o k) x
      → OnGood (Fits k) (value_in x)
  value_fits k None h = tt
  value_fits k (Some (slot.Value v)) h = h
  value_fits k (Some (slot.Place p)) h = tt
  value_fits k (Some (slot.Instance n)) h = tt

  module _ (s : Situation) (fs : List Frame) (rows : AllByRecursion (RowFits o) s.rows)
      (frames : FramesFit o fs) where
    held_fits : (h : Holder) → OnGood (FrameFits o) (held_by h s fs)
    held_fits (holder.Frame n) = frame_fits fs n frames
    held_fits (holder.Instance n) =
        by (row_of s n) (found_one (RowFits o) (is_numbered n) s.rows rows)
      where
        by : (r : Option Row) → OnSome (RowFits o) r → OnGood (FrameFits o) (variables_in r)
        by None h = tt
        by (Some r) h = h

    pub read_fits : (p : Place) (k : Kind) → HasKind o p k → OnGood (Fits k) (read_at p s fs)
    read_fits p k h =
        good_on (FrameFits o) (Fits k) (held_by p.holder s fs) _ (held_fits p.holder)
        (λ f g. good_on (Fits h.whole) (Fits k) (value_in (slot_of p.declared f)) _
        (value_fits h.whole (slot_of p.declared f)
        (slot_fits p.declared h.whole f h.declared g))
        (λ v i. by v i (part_at p.path v) refl))
      where
        by : (v : Value) → Fits h.whole v → (x : Option Value) → part_at p.path v ≡ x
            → OnGood (Fits k) (existing x)
        by v i None e = tt
        by v i (Some w) e =
            same_fits h.part k w h.same (part_fits p.path h.whole h.part v w i h.reached e)

    pub written_fits : (p : Place) (k : Kind) (w : Value) → HasKind o p k
        → ((x : Value) → taken k w ≡ Ok x → Fits k x)
        → OnGood (FrameFits o) (names_written p k w s fs)
    written_fits p k w h given =
        good_on (FrameFits o) (FrameFits o) (held_by p.holder s fs) _ (held_fits p.holder)
        (λ f g. by f g (taken k w) refl)
      where
        put : (f : Frame) → FrameFits o f → (v y : Value) → Fits h.whole y
            → FrameFits o (with_value p.declared y f)
        put f g v y i = changed_all (BindingFits o) (is_declared p.declared) (given_value y)
            (λ b e q. λ j m. subst (λ z. Fits z y) (same_Some h.whole j
            (sym h.declared ∙ ap (kind_at o) (eqb-true p.declared b.declared e) ∙ m)) i) f g

        changed : (f : Frame) → FrameFits o f → (x v : Value) → Fits k x → Fits h.whole v
            → (y : Option Value) → with_part x p.path v ≡ y
            → OnGood (FrameFits o) (on_ok (existing y) (λ z. Ok (with_value p.declared z f)))
        changed f g x v i q None e = tt
        changed f g x v i q (Some y) e =
            put f g v y (with_part_fits p.path h.whole h.part v x y q h.reached
            (same_fits k h.part x (same_back h.part k h.same) i) e)

        by : (f : Frame) → FrameFits o f → (r : Result Value BlockFault) → taken k w ≡ r
            → OnGood (FrameFits o) (on_ok r (λ x. frame_written p.declared p.path x f))
        by f g (Err e) i = tt
        by f g (Ok x) i =
            good_on (Fits h.whole) (FrameFits o) (value_in (slot_of p.declared f)) _
            (value_fits h.whole (slot_of p.declared f)
            (slot_fits p.declared h.whole f h.declared g))
            (λ v q. changed f g x v (given x i) q (with_part x p.path v) refl)
