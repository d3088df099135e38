-- A variable takes each value that fits its kind, and what it takes of an ordinal fits.
use Rattle.std.proofs.Common.{◌≡◌, refl, sym, ap, ◌∙◌, subst, arith, ℤ, pos, ◌+ℤ◌, ◌≤ℤ◌, Bool}
use Rattle.std.proofs.Common.{true, false, ◌&&◌, List, [], ◌∷◌, Ok, Err}
use Rattle.std.specs.Prelude.{Result, int_le, if◌then◌else◌}
use Rattle.std.specs.List.{list_all}
use Rattle.std.proofs.lemmas.Int.{ints}
use Rattle.est_syntax.specs.declared.kind.Kind.{Kind, out-Kind}
use Rattle.est_values.specs.declared.value.Value.{Value, out-Value, roll-Value, roll-out-Value}
use Rattle.est_values.specs.declared.value.Value.TheOpen as shown
use Rattle.est_values.specs.declared.value.Value.TheVariants as value
use Rattle.est_values.specs.FittingValues.{first_ordinal, last_ordinal, IsOrdinalOf, AscendFrom}
use Rattle.est_values.specs.FittingValues.{Fits, undefined, ordinal, set, array, fields}
use Rattle.mean_blocks.specs.declared.fault.BlockFault.{BlockFault}
use Rattle.mean_blocks.specs.declared.fault.BlockFault.TheVariants.{Range}
use Rattle.mean_blocks.specs.TakenValues.{is_within, are_within, taken}

not_false : (b : Bool) → (b ≡ false → ⊥) → b ≡ true
not_false true h = refl
not_false false h = absurd (h refl)

le_true : (a b : ℤ) → a ≤ℤ b → int_le a b ≡ true
le_true a b h = not_false (int_le a b) (λ f. omega (arith, ints, h, f))

both : (a b : Bool) → a ≡ true → b ≡ true → a && b ≡ true
both a b first second = λ i. first i && second i

within_true : (k : Kind) (z : ℤ) → first_ordinal k ≤ℤ z → z ≤ℤ last_ordinal k
    → is_within k z ≡ true
within_true k z low high = both (int_le (first_ordinal k) z) (int_le z (last_ordinal k))
    (le_true (first_ordinal k) z low) (le_true z (last_ordinal k) high)

-- members that ascend from an ordinal of a kind on are within it
members_within : (k : Kind) (low : ℤ) (zs : List ℤ) → first_ordinal k ≤ℤ low
    → AscendFrom low (last_ordinal k) zs → list_all (is_within k) zs ≡ true
members_within k low [] h g = refl
members_within k low (z ∷ zs) h g =
    let a = g.0 in
    both (is_within k z) (list_all (is_within k) zs)
    (within_true k z (omega (arith, ints, h, a)) g.1)
    (members_within k (z +ℤ pos 1) zs (omega (arith, ints, h, a)) g.2)

-- what a value that looks so is taken as
looks_so : (k : Kind) (v : Value) (l : shown.Value-F Value) → out-Value v ≡ l
    → taken k (roll-Value l) ≡ Ok (roll-Value l) → taken k v ≡ Ok v
looks_so k v l e h = subst (λ w. taken k w ≡ Ok w) (ap roll-Value (sym e) ∙ roll-out-Value v) h

ordinal_taken : (z : ℤ) (b : Bool) → b ≡ true
    → (if b then Ok (value.Ordinal z) else Err Range) ≡ Ok (value.Ordinal z)
ordinal_taken z true h = refl
ordinal_taken z false h = cc

set_taken : (zs : List ℤ) (b : Bool) → b ≡ true
    → (if b then Ok (value.Set zs) else Err Range) ≡ Ok (value.Set zs)
set_taken zs true h = refl
set_taken zs false h = cc

pub fitting_taken : (k : Kind) (v : Value) → Fits k v → taken k v ≡ Ok v
unfolding roll-Value denote.Hole.Carrier.roll
fitting_taken k v (undefined e s) = looks_so k v shown.Undefined e refl
fitting_taken k v (ordinal z e o) = looks_so k v (shown.Ordinal z) e
    (ordinal_taken z (is_within k z) (within_true k z o.0 o.1))
fitting_taken k v (array index of parts ke ve n each) = looks_so k v (shown.Group parts) ve refl
fitting_taken k v (fields fs parts ke ve n each) = looks_so k v (shown.Group parts) ve refl
fitting_taken k v (set base zs ke ve m) = looks_so k v (shown.Set zs) ve
    (set_taken zs (are_within (out-Kind k) zs) (ap (λ l. are_within l zs) ke
    ∙ members_within base (first_ordinal base) zs (omega (arith, ints)) m))

le_holds : (a b : ℤ) → int_le a b ≡ true → a ≤ℤ b
le_holds a b h = omega (arith, ints, h)

first_holds : (a b : Bool) → a && b ≡ true → a ≡ true
first_holds true b h = refl
first_holds false b h = h

second_holds : (a b : Bool) → a && b ≡ true → b ≡ true
second_holds true b h = h
second_holds false b h = cc

-- an ordinal that is within a kind is one of its ordinals
pub ordinal_within : (k : Kind) (z : ℤ) → is_within k z ≡ true → IsOrdinalOf k z
ordinal_within k z h = (
  le_holds (first_ordinal k) z
      (first_holds (int_le (first_ordinal k) z) (int_le z (last_ordinal k)) h),
  le_holds z (last_ordinal k)
      (second_holds (int_le (first_ordinal k) z) (int_le z (last_ordinal k)) h),
)

-- that what is taken fits, where something is
abbrev Fitted : Kind → Result Value BlockFault → Type 0
Fitted k (Ok v) = Fits k v
Fitted k (Err f) = Unit {0}

taken_arm : (k : Kind) (z : ℤ) (b : Bool) → (b ≡ true → IsOrdinalOf k z)
    → Fitted k (if b then Ok (value.Ordinal z) else Err Range)
unfolding out-Value denote.Hole.Carrier.out
taken_arm k z true o = ordinal {v = value.Ordinal z} z refl (o refl)
taken_arm k z false o = tt

-- what is taken of an ordinal fits
pub taken_fit : (k : Kind) (z : ℤ) (w : Value) → taken k (value.Ordinal z) ≡ Ok w → Fits k w
taken_fit k z w h =
    subst (Fitted k) h (taken_arm k z (is_within k z) (ordinal_within k z))
