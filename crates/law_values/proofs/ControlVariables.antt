-- What the control variable of a loop holds.
use Rattle.std.specs.Prelude.{if◌then◌else◌}
use Rattle.std.proofs.Common.{◌≡◌, refl, Bool, true, false, Option, Some, None, Result, Ok, sym}
use Rattle.std.proofs.Common.{ap, subst, ◌∙◌, true≢false}
use Rattle.std.proofs.lemmas.Option.{same_Some, none-some}
use Rattle.est_syntax.specs.declared.kind.Kind.{Kind, out-Kind}
use Rattle.est_syntax.specs.declared.kind.Kind.TheOpen as seen
use Rattle.est_values.specs.declared.value.Value.{Value}
use Rattle.est_values.specs.FittingValues.{KindLayer, IsOrdinalOf, is_scalar, scalar_of, Fits}
use Rattle.est_values.specs.declared.value.Value.TheVariants as value
use Rattle.est_values.specs.FittingValues as fitting
use Rattle.est_values.specs.Types.{Yielded, Group, type_of}
use Rattle.rule_expressions.specs.Operators.{kept, is_taken, is_given, is_ordinal}
use Rattle.rule_expressions.specs.declared.operators.Wanted.{Wanted}
use Rattle.mean_blocks.specs.declared.fault.BlockFault.{BlockFault}
use Rattle.mean_blocks.specs.TakenValues.{taken}
use Rattle.law_values.proofs.TypedValues.{array_type, record_type}

-- what a place keeps is of the sort that it wants
pub kept_taken : (w : Wanted) (x : Option Yielded) (t : Yielded) → kept w x ≡ Some t
    → (x ≡ Some t) × (is_taken w t ≡ true)
kept_taken w None t h = absurd (none-some t h)
kept_taken w (Some s) t h = by (is_taken w s) refl h
  where
    by : (b : Bool) → is_taken w s ≡ b → (if b then Some s else None) ≡ Some t
        → (Some s ≡ Some t) × (is_taken w t ≡ true)
    by true i e = (e, subst (λ x. is_taken w x ≡ true) (same_Some s t e) i)
    by false i e = absurd (none-some t e)

pub target_some : (x y : Option Yielded) → is_given x y ≡ true → (t : Yielded) × (x ≡ Some t)
target_some None y h = absurd (true≢false (sym h))
target_some (Some t) y h = (t, refl)

-- what yields an ordinal is of scalars
pub ordinal_scalar : (k : Kind) (t : Yielded) → type_of k ≡ t → is_ordinal t ≡ true
    → is_scalar k ≡ true
ordinal_scalar k t e h = by (out-Kind k) refl
  where
    group : type_of k ≡ Group k → is_scalar k ≡ true
    group g = let no : false ≡ true = subst (λ x. is_ordinal x ≡ true) (sym e ∙ g) h in
        absurd (true≢false (sym no))

    by : (l : KindLayer) → out-Kind k ≡ l → is_scalar k ≡ true
    by (seen.ArrayOf i of) d = group (array_type k i of d)
    by (seen.Fields fs) d = group (record_type k fs d)
    by seen.Integer d = ap scalar_of d
    by seen.Boolean d = ap scalar_of d
    by seen.Char d = ap scalar_of d
    by (seen.Enumeration place names) d = ap scalar_of d
    by (seen.Part host low high) d = ap scalar_of d
    by (seen.SetOf base) d = ap scalar_of d

pub undefined_fits : (k : Kind) (x : Value) → is_scalar k ≡ true → taken k value.Undefined ≡ Ok x
    → Fits k x
undefined_fits k x s h = subst (Fits k) (same (taken k value.Undefined) refl h)
    (fitting.undefined value.outs-Undefined s)
  where
    same : (r : Result Value BlockFault) → r ≡ Ok value.Undefined → r ≡ Ok x → value.Undefined ≡ x
    same r d e = cc
