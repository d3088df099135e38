use Rattle.std.proofs.Common.{arith, refl, ap, ◌∙◌, ◌≡◌, ◌+◌, ◌-◌, length, drop, replicate, get_or}
use Rattle.std.proofs.Common.{Some}
use Rattle.std.proofs.Common.{drop_of_length-le}
use Rattle.std.proofs.lemmas.List.{length-map}
use Rattle.std.proofs.lemmas.Option.{slice_get_read}
use Rattle.est_syntax.specs.declared.kind.Kind.{out-Kind}
use Rattle.est_syntax.specs.declared.kind.Kind.TheVariants as kind
use Rattle.est_syntax.specs.declared.kind.FieldKind.{FieldKind}
use Rattle.est_values.specs.FittingValues.{ordinal_count}
use Rattle.text_values.specs.TraceGrammar.{a_value, field_kinds}
use Rattle.text_values.specs.ValueShapes.{ShowsValue}
use Rattle.text_values.proofs.Groups.{next_read, reads_after, reads_none, scalar_read, set_read}
use Rattle.text_values.proofs.Groups.{array_read, record_read, drop_item, replicated}
use Rattle.text_values.proofs.Groups.{none_replicated}
use Rattle.text_values.proofs.Lists.{none_read, one_read, all_read}
use Rattle.text_values.proofs.Places.{image_at}
use Rattle.text_values.proofs.values.+value.Goals as goal

pub components-returns-in_err-values : goal.components-returns-in_err-values
components-returns-in_err-values t c =
    reads_none _ _ c.no_parts.ensures.still c.in_err-values.ensures.empty

pub components-loop-i-init : goal.components-loop-i-init
components-loop-i-init t c =
    let ks = field_kinds c.args.fields.now in
    none_read a_value ShowsValue ks ks c.in_ok-values.ensures.empty refl

pub components-loop-i-preserved : goal.components-loop-i-preserved
components-loop-i-preserved t c =
    let fs = c.args.fields.now in
    let ks = field_kinds fs in
    let i = c.loop-i.i in
    let f = c.index-fields-i.result in
    let g = get_or fs i f in
    let e = slice_get_read fs (length fs) i f refl c.loop-i-test.true c.index-fields-i.is
    ∙ ap Some c.index-fields-i.is in
    one_read a_value ShowsValue ks (drop i ks) (drop (i + 1) ks) i (i + 1) g.kind (λ j. refl)
    (omega arith) (drop_item ks i g.kind (image_at (λ (x : FieldKind). x.kind) fs i g e))
    c.loop-i.invariant c.next_value.ensures

pub components-returns : goal.components-returns
components-returns t c =
    let ks = field_kinds c.args.fields.now in
    reads_after c.no_parts.ensures.still
    (all_read a_value ShowsValue ks (drop c.loop-i.i ks) c.loop-i.i (λ j. refl)
    (drop_of_length-le ks (omega (
      arith,
      c.loop-i-test.false,
      length-map c.args.fields.now (λ (x : FieldKind). x.kind),
    ))) c.symbol.ensures c.loop-i.invariant c.symbol-2.ensures)

pub elements-returns-in_err-values : goal.elements-returns-in_err-values
elements-returns-in_err-values t c =
    reads_none _ _ c.no_parts.ensures.still c.in_err-values.ensures.empty

pub elements-loop-i-init : goal.elements-loop-i-init
elements-loop-i-init t c =
    let n = c.args.count in
    let m : n - 0 ≡ n = omega arith in
    none_read a_value ShowsValue (replicate n c.args.of.now) _ c.in_ok-values.ensures.empty
    (ap (λ j. replicate j c.args.of.now) m)

pub elements-loop-i-preserved : goal.elements-loop-i-preserved
elements-loop-i-preserved t c =
    let k = c.args.of.now in
    let n = c.args.count in
    let i = c.loop-i.i in
    one_read a_value ShowsValue (replicate n k) (replicate (n - i) k) (replicate (n - (i + 1)) k) i
    (i + 1) k (λ j. refl) (omega arith) (replicated n i k c.loop-i-test.true) c.loop-i.invariant
    c.next_value.ensures

pub elements-returns : goal.elements-returns
elements-returns t c =
    let k = c.args.of.now in
    let n = c.args.count in
    reads_after c.no_parts.ensures.still
    (all_read a_value ShowsValue (replicate n k) (replicate (n - c.loop-i.i) k) c.loop-i.i
    (λ j. refl) (none_replicated n c.loop-i.i k c.loop-i-test.false) c.symbol.ensures c.loop-i.invariant
    c.symbol-2.ensures)

pub next_value-returns : goal.next_value-returns
next_value-returns t c =
    next_read (a_value c.args.kind.now) (ShowsValue c.args.kind.now) c.args.before _
    c.value-next.result refl c.comma.ensures c.value-next.ensures c.keep.ensures

pub value-returns-in-Integer : goal.value-returns-in-Integer
value-returns-in-Integer t c = scalar_read c.args.kind.now _ _
    (ap out-Kind c.in-Integer.is ∙ kind.outs-Integer) refl refl c.ordinal_value.ensures

pub value-returns-in-Boolean : goal.value-returns-in-Boolean
value-returns-in-Boolean t c = scalar_read c.args.kind.now _ _
    (ap out-Kind c.in-Boolean.is ∙ kind.outs-Boolean) refl refl c.ordinal_value-in-Boolean.ensures

pub value-returns-in-Char : goal.value-returns-in-Char
value-returns-in-Char t c = scalar_read c.args.kind.now _ _
    (ap out-Kind c.in-Char.is ∙ kind.outs-Char) refl refl c.ordinal_value-in-Char.ensures

pub value-returns-in-Enumeration : goal.value-returns-in-Enumeration
value-returns-in-Enumeration t c = scalar_read c.args.kind.now _ _
    (ap out-Kind c.in-Enumeration.is ∙ kind.outs-Enumeration _ _) refl refl c.ordinal_value-in-Enumeration.ensures

pub value-returns-in-Part : goal.value-returns-in-Part
value-returns-in-Part t c = scalar_read c.args.kind.now _ _
    (ap out-Kind c.in-Part.is ∙ kind.outs-Part _ _ _) refl refl c.ordinal_value-in-Part.ensures

pub value-returns-in-SetOf : goal.value-returns-in-SetOf
value-returns-in-SetOf t c = set_read c.args.kind.now _ _ _
    (ap out-Kind c.in-SetOf.is ∙ kind.outs-SetOf _) c.get.ensures c.set_value.ensures

pub value-returns-in-ArrayOf : goal.value-returns-in-ArrayOf
value-returns-in-ArrayOf t c = array_read c.args.kind.now _ _ _ _ _ c.elements.result
    (ap out-Kind c.in-ArrayOf.is ∙ kind.outs-ArrayOf _ _) c.get-in-ArrayOf.ensures
    (c.ordinal_count.ensures ∙ ap ordinal_count c.get-in-ArrayOf-2.ensures) c.group.ensures c.elements.ensures

pub value-returns-in-Fields : goal.value-returns-in-Fields
value-returns-in-Fields t c = record_read c.args.kind.now _ _ _ c.components.result
    (ap out-Kind c.in-Fields.is ∙ kind.outs-Fields _) (c.as_slice.ensures ∙ c.get-in-Fields.ensures) c.group-in-Fields.ensures
    c.components.ensures
