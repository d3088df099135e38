use Rattle.std.proofs.Common.{rules, refl, ap, ◌∙◌, w32}
use Rattle.std.proofs.lemmas.Int.{to_z-of_z}
use mir.Val.{SFits}
use Rattle.est_syntax.specs.declared.kind.Kind.{out-Kind}
use Rattle.est_syntax.specs.declared.kind.Kind.TheVariants as kind
use Rattle.text_values.proofs.Numbers.{by_host, by_constant, no_host}
use Rattle.text_values.proofs.ordinals.ordinal.Goals as goal

pub returns-in-Integer : goal.returns-in-Integer
returns-in-Integer c =
    let fits : SFits w32 c.integer.result = search rules in
    by_host c.args.kind.now _ _ _ c.integer.result c.host_of.ensures
    (ap out-Kind c.in-Integer.is ∙ kind.outs-Integer) (to_z-of_z w32 c.integer.result fits)
    c.integer.ensures

pub returns-in-Boolean : goal.returns-in-Boolean
returns-in-Boolean c =
    let fits : SFits w32 c.boolean.result = search rules in
    by_host c.args.kind.now _ _ _ c.boolean.result c.host_of.ensures
    (ap out-Kind c.in-Boolean.is ∙ kind.outs-Boolean) (to_z-of_z w32 c.boolean.result fits)
    c.boolean.ensures

pub returns-in-Char : goal.returns-in-Char
returns-in-Char c =
    let fits : SFits w32 c.character.result = search rules in
    by_host c.args.kind.now _ _ _ c.character.result c.host_of.ensures
    (ap out-Kind c.in-Char.is ∙ kind.outs-Char) (to_z-of_z w32 c.character.result fits)
    c.character.ensures

pub returns-in-Enumeration : goal.returns-in-Enumeration
returns-in-Enumeration c =
    let fits : SFits w32 c.constant.result = search rules in
    by_constant c.args.kind.now _ _ c.in-Enumeration.names c.as_slice.result.now _
    c.constant.result c.host_of.ensures
    (ap out-Kind c.in-Enumeration.is ∙ kind.outs-Enumeration _ _)
    (c.as_slice.ensures ∙ c.get.ensures) refl (λ t h. h)
    (to_z-of_z w32 c.constant.result fits) c.constant.ensures

pub returns-in-Part : goal.returns-in-Part
returns-in-Part c = no_host c.args.kind.now _ _ _ c.host_of.ensures
    (ap out-Kind c.in-Part.is ∙ kind.outs-Part _ _ _) refl c.no_ordinal.ensures

pub returns-in-SetOf : goal.returns-in-SetOf
returns-in-SetOf c = no_host c.args.kind.now _ _ _ c.host_of.ensures
    (ap out-Kind c.in-SetOf.is ∙ kind.outs-SetOf _) refl c.no_ordinal-in-SetOf.ensures

pub returns-in-ArrayOf : goal.returns-in-ArrayOf
returns-in-ArrayOf c = no_host c.args.kind.now _ _ _ c.host_of.ensures
    (ap out-Kind c.in-ArrayOf.is ∙ kind.outs-ArrayOf _ _) refl c.no_ordinal-in-ArrayOf.ensures

pub returns-in-Fields : goal.returns-in-Fields
returns-in-Fields c = no_host c.args.kind.now _ _ _ c.host_of.ensures
    (ap out-Kind c.in-Fields.is ∙ kind.outs-Fields _) refl c.no_ordinal-in-Fields.ensures
