-- What variables yield, and what may be given to them.
use Rattle.std.specs.Prelude.{if◌then◌else◌}
use Rattle.std.proofs.Common.{◌≡◌, refl, sym, ap, subst, ◌∙◌, ℕ, ℤ, Bool, true, false, List}
use Rattle.std.proofs.Common.{Option, Some, None, Result, Ok, Err, true≢false}
use Rattle.est_syntax.specs.declared.kind.Kind.{Kind, out-Kind}
use Rattle.est_syntax.specs.declared.kind.FieldKind.{FieldKind}
use Rattle.est_syntax.specs.declared.kind.Kind.TheOpen as seen
use Rattle.est_values.specs.declared.value.Value.{Value, out-Value, roll-Value, roll-out-Value}
use Rattle.est_values.specs.FittingValues.{KindLayer, first_ordinal, last_ordinal, AscendFrom}
use Rattle.est_values.specs.FittingValues.{Fits}
use Rattle.est_values.specs.declared.value.Value.TheOpen as shown
use Rattle.est_values.specs.declared.value.Value.TheVariants as value
use Rattle.est_values.specs.FittingValues as fitting
use Rattle.est_values.specs.declared.types.Host.{Host}
use Rattle.est_values.specs.Alike.{is_alike}
use Rattle.est_values.specs.Types.{Yielded, Group, host_in, host_of, type_by, type_of}
use Rattle.est_values.specs.Types.{is_assignable}
use Rattle.mean_blocks.specs.declared.fault.BlockFault.{BlockFault}
use Rattle.mean_blocks.specs.declared.fault.BlockFault.TheVariants.{Range}
use Rattle.mean_blocks.specs.TakenValues.{are_within, taken}
use Rattle.mean_blocks.specs.ValueOperators.{defined_in}
use Rattle.mean_blocks.proofs.FittingTaken.{fitting_taken, taken_fit}
use Rattle.law_runs.proofs.GivenThings.{OnGood}
use Rattle.law_values.specs.DepartureLaws as given
use Rattle.law_values.proofs.AllowedDepartures.{what_is_taken_fits}
use Rattle.law_values.specs.SameKinds.{HasSizes}
use Rattle.law_values.specs.ValuesOfTypes.{DoAscend, IsYielded}
use Rattle.law_values.specs.ValuesOfTypes as yields
use Rattle.law_values.proofs.SameKinds.{alike_same, same_fits}

-- a value by its form
by_form : (v : Value) (l : shown.Value-F Value) → out-Value v ≡ l → v ≡ roll-Value l
by_form v l e = sym (roll-out-Value v) ∙ ap roll-Value e

undefined_is : (v : Value) → out-Value v ≡ shown.Undefined → v ≡ value.Undefined
unfolding roll-Value denote.Hole.Carrier.roll
undefined_is v e = by_form v shown.Undefined e

ordinal_is : (v : Value) (z : ℤ) → out-Value v ≡ shown.Ordinal z → v ≡ value.Ordinal z
unfolding roll-Value denote.Hole.Carrier.roll
ordinal_is v z e = by_form v (shown.Ordinal z) e

set_is : (v : Value) (zs : List ℤ) → out-Value v ≡ shown.Set zs → v ≡ value.Set zs
unfolding roll-Value denote.Hole.Carrier.roll
set_is v zs e = by_form v (shown.Set zs) e

group_is : (v : Value) (ps : List Value) → out-Value v ≡ shown.Group ps → v ≡ value.Group ps
unfolding roll-Value denote.Hole.Carrier.roll
group_is v ps e = by_form v (shown.Group ps) e

-- an array or a record has no host
array_host : (k i of : Kind) → out-Kind k ≡ seen.ArrayOf i of → host_of k ≡ None
array_host k i of d = let a : host_in k ≡ None = rw d refl in rw d a

record_host : (k : Kind) (fs : List FieldKind) → out-Kind k ≡ seen.Fields fs → host_of k ≡ None
record_host k fs d = let a : host_in k ≡ None = rw d refl in rw d a

pub array_type : (k i of : Kind) → out-Kind k ≡ seen.ArrayOf i of → type_of k ≡ Group k
array_type k i of d = rw d (ap (λ x. type_by x k) (array_host k i of d))

pub record_type : (k : Kind) (fs : List FieldKind) → out-Kind k ≡ seen.Fields fs
    → type_of k ≡ Group k
record_type k fs d = rw d (ap (λ x. type_by x k) (record_host k fs d))

-- what is taken of a set
set_taken : (b : Bool) (zs : List ℤ) (w : Value)
    → (if b then Ok (value.Set zs) else Err Range) ≡ Ok w → value.Set zs ≡ w
set_taken true zs w h = cc
set_taken false zs w h = cc

set_fits : (k : Kind) (low high : ℤ) (zs : List ℤ) (w : Value) → AscendFrom low high zs
    → taken k (value.Set zs) ≡ Ok w → Fits k w
set_fits k low high zs w a h =
    let e = set_taken (are_within (out-Kind k) zs) zs w h in
    what_is_taken_fits k w (given.set low high zs (sym e) a)
    (subst (λ x. taken k x ≡ Ok w) e h)

module _ (sizes : ℕ → ℕ) where
  -- what is defined is given on
  defined_more : (t : Yielded) (v : Value) → IsYielded sizes t v
      → OnGood (IsYielded sizes t) (defined_in v)
  defined_more t value.Undefined h = tt
  defined_more t (value.Ordinal z) h = h
  defined_more t (value.Set zs) h = h
  defined_more t (value.Group' a row) h = h

  -- a variable yields what its kind says, where it is defined
  pub fits_yielded : (k : Kind) (v : Value) → HasSizes sizes k → Fits k v
      → OnGood (IsYielded sizes (type_of k)) (defined_in v)
  fits_yielded k v s (fitting.undefined e h) =
      subst (λ x. OnGood (IsYielded sizes (type_of k)) (defined_in x)) (sym (undefined_is v e)) tt
  fits_yielded k v s (fitting.ordinal z e h) =
      defined_more (type_of k) v (yields.ordinal z (ordinal_is v z e))
  fits_yielded k v s (fitting.set base zs d e h) =
      defined_more (type_of k) v
      (yields.set zs (set_is v zs e) (first_ordinal base, last_ordinal base, h))
  fits_yielded k v s (fitting.array i of ps d e n each) =
      defined_more (type_of k) v
      (yields.group k ps (array_type k i of d) s (group_is v ps e)
      (fitting.array i of ps d e n each))
  fits_yielded k v s (fitting.fields fs ps d e n each) =
      defined_more (type_of k) v
      (yields.group k ps (record_type k fs d) s (group_is v ps e) (fitting.fields fs ps d e n each))

  -- what is given

  by_host : (x : Option Host) (k j : Kind) → is_assignable (type_by x k) (Group j) ≡ true
      → is_alike k j ≡ true
  by_host None k j h = h
  by_host (Some x) k j h = absurd (true≢false (sym h))

  group_alike : (k j : Kind) → is_assignable (type_of k) (Group j) ≡ true → is_alike k j ≡ true
  group_alike k j h = by (out-Kind k) refl
    where
      by : (l : KindLayer) → out-Kind k ≡ l → is_alike k j ≡ true
      by (seen.SetOf base) e = let no : false ≡ true = rw e at h in absurd (true≢false (sym no))
      by seen.Integer e = by_host (host_of k) k j (rw e at h)
      by seen.Boolean e = by_host (host_of k) k j (rw e at h)
      by seen.Char e = by_host (host_of k) k j (rw e at h)
      by (seen.Enumeration place names) e = by_host (host_of k) k j (rw e at h)
      by (seen.Part host low high) e = by_host (host_of k) k j (rw e at h)
      by (seen.ArrayOf i of) e = by_host (host_of k) k j (rw e at h)
      by (seen.Fields fs) e = by_host (host_of k) k j (rw e at h)

  ok_same : (v w : Value) (r : Result Value BlockFault) → r ≡ Ok v → r ≡ Ok w → v ≡ w
  ok_same v w r h g = cc

  -- what a variable takes of what may be given to it fits its kind
  pub given_fits : (k : Kind) (v w : Value) (t : Yielded) → HasSizes sizes k
      → IsYielded sizes t v → is_assignable (type_of k) t ≡ true → taken k v ≡ Ok w → Fits k w
  given_fits k v w t s (yields.ordinal z e) a h =
      taken_fit k z w (subst (λ x. taken k x ≡ Ok w) e h)
  given_fits k v w t s (yields.set zs e d) a h =
      set_fits k d.0 d.1 zs w d.2 (subst (λ x. taken k x ≡ Ok w) e h)
  given_fits k v w t s (yields.group j ps i r e f) a h =
      let b = group_alike k j (subst (λ x. is_assignable (type_of k) x ≡ true) i a) in
      let g = same_fits j k v (alike_same sizes k j s r b) f in
      subst (Fits k) (ok_same v w (taken k v) (fitting_taken k v g) h) g
