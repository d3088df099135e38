use Rattle.std.proofs.Common.{arith, refl, ap, ◌∙◌, ◌≡◌, ◌+◌, ◌-◌, length, drop, replicate, get_or}
use Rattle.std.proofs.Common.{Some}
use Rattle.std.proofs.Common.{drop_of_length-le}
use Rattle.std.proofs.lemmas.List.{length-map}
use Rattle.std.proofs.lemmas.Option.{slice_get_read}
use Rattle.est_syntax.specs.declared.kind.Kind.{out-Kind}
use Rattle.est_syntax.specs.declared.kind.Kind.TheVariants as kind
use Rattle.est_syntax.specs.declared.kind.FieldKind.{FieldKind}
use Rattle.est_values.specs.FittingValues.{ordinal_count}
use Rattle.text_values.specs.TraceGrammar.{a_seen, field_kinds}
use Rattle.text_values.specs.SeenShapes.{ShowsSeen}
use Rattle.text_values.proofs.Groups.{next_read, drop_item, replicated, none_replicated}
use Rattle.text_values.proofs.Lists.{none_read, one_read, all_read}
use Rattle.text_values.proofs.Places.{image_at}
use Rattle.text_values.proofs.SeenGroups.{any_read, other_read, scalar_seen, set_seen, array_seen}
use Rattle.text_values.proofs.SeenGroups.{record_seen}
use Rattle.text_values.proofs.seens.+seen.Goals as goal

pub components-loop-i-init : goal.components-loop-i-init
components-loop-i-init t c =
    let ks = field_kinds c.args.fields.now in
    none_read a_seen ShowsSeen ks ks c.new-seens.ensures refl

pub components-loop-i-preserved : goal.components-loop-i-preserved
components-loop-i-preserved t c =
    let fs = c.args.fields.now in
    let ks = field_kinds fs in
    let i = c.loop-i.i in
    let f = c.index-fields-i.result in
    let g = get_or fs i f in
    let e = slice_get_read fs (length fs) i f refl c.loop-i-test.true c.index-fields-i.is
    ∙ ap Some c.index-fields-i.is in
    one_read a_seen ShowsSeen ks (drop i ks) (drop (i + 1) ks) i (i + 1) g.kind (λ j. refl)
    (omega arith) (drop_item ks i g.kind (image_at (λ (x : FieldKind). x.kind) fs i g e))
    c.loop-i.invariant c.next_seen.ensures

pub components-returns : goal.components-returns
components-returns t c =
    let ks = field_kinds c.args.fields.now in
    all_read a_seen ShowsSeen ks (drop c.loop-i.i ks) c.loop-i.i (λ j. refl)
    (drop_of_length-le ks (omega (
      arith,
      c.loop-i-test.false,
      length-map c.args.fields.now (λ (x : FieldKind). x.kind),
    ))) c.symbol.ensures c.loop-i.invariant c.symbol-2.ensures

pub elements-loop-i-init : goal.elements-loop-i-init
elements-loop-i-init t c =
    let n = c.args.count in
    let m : n - 0 ≡ n = omega arith in
    none_read a_seen ShowsSeen (replicate n c.args.of.now) _ c.new-seens.ensures
    (ap (λ j. replicate j c.args.of.now) m)

pub elements-loop-i-preserved : goal.elements-loop-i-preserved
elements-loop-i-preserved t c =
    let k = c.args.of.now in
    let n = c.args.count in
    let i = c.loop-i.i in
    one_read a_seen ShowsSeen (replicate n k) (replicate (n - i) k) (replicate (n - (i + 1)) k) i
    (i + 1) k (λ j. refl) (omega arith) (replicated n i k c.loop-i-test.true) c.loop-i.invariant
    c.next_seen.ensures

pub elements-returns : goal.elements-returns
elements-returns t c =
    let k = c.args.of.now in
    let n = c.args.count in
    all_read a_seen ShowsSeen (replicate n k) (replicate (n - c.loop-i.i) k) c.loop-i.i (λ j. refl)
    (none_replicated n c.loop-i.i k c.loop-i-test.false) c.symbol.ensures c.loop-i.invariant
    c.symbol-2.ensures

pub next_seen-returns : goal.next_seen-returns
next_seen-returns t c =
    next_read (a_seen c.args.kind.now) (ShowsSeen c.args.kind.now) c.args.before _
    c.seen-next.result refl c.comma.ensures c.seen-next.ensures c.keep.ensures

pub seen-returns-then-sees : goal.seen-returns-then-sees
seen-returns-then-sees t c = any_read c.args.kind.now c.if-sees.ensures c.symbol.ensures

pub seen-returns : goal.seen-returns
seen-returns t c = other_read c.args.kind.now _ c.if-sees.ensures c.formed.ensures

pub formed-returns-in-Integer : goal.formed-returns-in-Integer
formed-returns-in-Integer t c = scalar_seen c.args.kind.now _ _
    (ap out-Kind c.in-Integer.is ∙ kind.outs-Integer) refl refl c.ordinal_seen.ensures

pub formed-returns-in-Boolean : goal.formed-returns-in-Boolean
formed-returns-in-Boolean t c = scalar_seen c.args.kind.now _ _
    (ap out-Kind c.in-Boolean.is ∙ kind.outs-Boolean) refl refl c.ordinal_seen-in-Boolean.ensures

pub formed-returns-in-Char : goal.formed-returns-in-Char
formed-returns-in-Char t c = scalar_seen c.args.kind.now _ _
    (ap out-Kind c.in-Char.is ∙ kind.outs-Char) refl refl c.ordinal_seen-in-Char.ensures

pub formed-returns-in-Enumeration : goal.formed-returns-in-Enumeration
formed-returns-in-Enumeration t c = scalar_seen c.args.kind.now _ _
    (ap out-Kind c.in-Enumeration.is ∙ kind.outs-Enumeration _ _) refl refl
    c.ordinal_seen-in-Enumeration.ensures

pub formed-returns-in-Part : goal.formed-returns-in-Part
formed-returns-in-Part t c = scalar_seen c.args.kind.now _ _
    (ap out-Kind c.in-Part.is ∙ kind.outs-Part _ _ _) refl refl c.ordinal_seen-in-Part.ensures

pub formed-returns-in-SetOf : goal.formed-returns-in-SetOf
formed-returns-in-SetOf t c = set_seen c.args.kind.now _ _ _
    (ap out-Kind c.in-SetOf.is ∙ kind.outs-SetOf _) c.get.ensures c.set_seen.ensures

pub formed-returns-in-ArrayOf : goal.formed-returns-in-ArrayOf
formed-returns-in-ArrayOf t c = array_seen c.args.kind.now _ _ _ _ c.elements.result
    (ap out-Kind c.in-ArrayOf.is ∙ kind.outs-ArrayOf _ _) c.get-in-ArrayOf.ensures
    (c.ordinal_count.ensures ∙ ap ordinal_count c.get-in-ArrayOf-2.ensures) c.elements.ensures

pub formed-returns-in-Fields : goal.formed-returns-in-Fields
formed-returns-in-Fields t c = record_seen c.args.kind.now _ _ c.components.result
    (ap out-Kind c.in-Fields.is ∙ kind.outs-Fields _)
    (c.as_slice.ensures ∙ c.get-in-Fields.ensures) c.components.ensures
