use Rattle.std.proofs.Common.{◌≡◌, ◌∙◌, sym, ap}
use Rattle.std.proofs.lemmas.Bool.Decides.{Decides-int_eq, Decides-like}
use Rattle.std.proofs.lemmas.Slice.Eq.{slice_eq-Decides}
use Rattle.est_values.specs.declared.value.Value.TheVariants.{Set}
use Rattle.est_values.proofs.SameValues.{same_more}
use Rattle.est_values.proofs.value.+same.Goals as goal

pub Value::is-returns-in-Set-Set : goal.Value::is-returns-in-Set-Set
Value::is-returns-in-Set-Set t c =
    let x = c.in-Set-Set.x in
    let y = c.in-Set-Set.y in
    let one : c.as_slice.result.now ≡ x = c.as_slice.ensures ∙ c.get.ensures in
    let other : c.as_slice-in-Set-Set.result.now ≡ y =
    c.as_slice-in-Set-Set.ensures ∙ c.get-in-Set-Set.ensures in
    Decides-like c.eq.result
    (λ (e : c.as_slice.result.now ≡ c.as_slice-in-Set-Set.result.now). c.in-Set-Set.is-0
    ∙ ap Set (sym one ∙ e ∙ other) ∙ sym c.in-Set-Set.is-1)
    (λ (e : c.args.self.now ≡ c.args.other.now). let f : Set x ≡ Set y =
    sym c.in-Set-Set.is-0 ∙ e ∙ c.in-Set-Set.is-1 in cc)
    (slice_eq-Decides Decides-int_eq _ _ _ c.eq.ensures)

pub are_same-loop-i-preserved : goal.are_same-loop-i-preserved
are_same-loop-i-preserved t c =
    same_more _ _ _ _ _ c.loop-i.invariant c.in-Some-Some.ensures c.in-Some-Some.ensures'
    (c.is.ensures.0 c.if-not-is.false)
