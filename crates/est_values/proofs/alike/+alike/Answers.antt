use Rattle.std.proofs.Common.{rules, ◌≡◌, ◌∙◌, sym}
use Rattle.est_values.specs.Alike.{are_same_bounds, is_alike, are_alike}
use Rattle.est_values.proofs.Rows.{parts_alike, sets_alike, arrays_alike, records_alike}
use Rattle.est_values.proofs.Rows.{both_hold, first_fails, lengths_differ}
use Rattle.est_values.proofs.alike.+alike.Goals as goal

pub is_alike-returns-then-are_same_bounds : goal.is_alike-returns-then-are_same_bounds
is_alike-returns-then-are_same_bounds t c =
    let same : c.are_same_bounds.result ≡ are_same_bounds c.in-Part-Part.low c.in-Part-Part.high
    c.in-Part-Part.from c.in-Part-Part.to = search rules in
    both_hold _ _ _ _ same c.if-are_same_bounds.true
    (c.is_alike.ensures ∙ (λ i. is_alike (c.get.ensures i) (c.get-then-are_same_bounds.ensures i)))
    ∙ sym (parts_alike _ _ _ _ _ _ _ _ c.in-Part-Part.is-0 c.in-Part-Part.is-1)

pub is_alike-returns-else-are_same_bounds : goal.is_alike-returns-else-are_same_bounds
is_alike-returns-else-are_same_bounds t c =
    let same : c.are_same_bounds.result ≡ are_same_bounds c.in-Part-Part.low c.in-Part-Part.high
    c.in-Part-Part.from c.in-Part-Part.to = search rules in
    first_fails _ _ _ same c.if-are_same_bounds.false
    ∙ sym (parts_alike _ _ _ _ _ _ _ _ c.in-Part-Part.is-0 c.in-Part-Part.is-1)

pub is_alike-returns-in-SetOf-SetOf : goal.is_alike-returns-in-SetOf-SetOf
is_alike-returns-in-SetOf-SetOf t c =
    c.is_alike-in-SetOf-SetOf.ensures
    ∙ (λ i. is_alike (c.get-in-SetOf-SetOf.ensures i) (c.get-in-SetOf-SetOf-2.ensures i))
    ∙ sym (sets_alike _ _ _ _ c.in-SetOf-SetOf.is-0 c.in-SetOf-SetOf.is-1)

pub is_alike-returns-then-is_alike : goal.is_alike-returns-then-is_alike
is_alike-returns-then-is_alike t c =
    both_hold _ _ _ _
    (c.is_alike-in-ArrayOf-ArrayOf.ensures
    ∙ (λ i. is_alike (c.get-in-ArrayOf-ArrayOf.ensures i) (c.get-in-ArrayOf-ArrayOf-2.ensures
    i)))
    c.if-is_alike.true
    (c.is_alike-then-is_alike.ensures
    ∙ (λ i. is_alike (c.get-then-is_alike.ensures i) (c.get-then-is_alike-2.ensures i)))
    ∙ sym (arrays_alike _ _ _ _ _ _ c.in-ArrayOf-ArrayOf.is-0 c.in-ArrayOf-ArrayOf.is-1)

pub is_alike-returns-else-is_alike : goal.is_alike-returns-else-is_alike
is_alike-returns-else-is_alike t c =
    first_fails _ _ _
    (c.is_alike-in-ArrayOf-ArrayOf.ensures
    ∙ (λ i. is_alike (c.get-in-ArrayOf-ArrayOf.ensures i) (c.get-in-ArrayOf-ArrayOf-2.ensures
    i)))
    c.if-is_alike.false
    ∙ sym (arrays_alike _ _ _ _ _ _ c.in-ArrayOf-ArrayOf.is-0 c.in-ArrayOf-ArrayOf.is-1)

pub is_alike-returns-in-Fields-Fields : goal.is_alike-returns-in-Fields-Fields
is_alike-returns-in-Fields-Fields t c =
    c.are_alike.ensures
    ∙ (λ i. are_alike (c.get-in-Fields-Fields.ensures i) (c.get-in-Fields-Fields-2.ensures i))
    ∙ sym (records_alike _ _ _ _ c.in-Fields-Fields.is-0 c.in-Fields-Fields.is-1)

pub are_alike-returns-then-fields-others : goal.are_alike-returns-then-fields-others
are_alike-returns-then-fields-others t c =
    lengths_differ _ _ c.if-fields-others.true
    ∙ (λ i. are_alike (c.as_slice-fields.ensures i) (c.as_slice-others.ensures i))
