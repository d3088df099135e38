use Rattle.std.proofs.Common.{◌∙◌, ap}
use Rattle.est_syntax.specs.declared.kind.Kind.{out-Kind}
use Rattle.est_syntax.specs.declared.kind.Kind.TheVariants as kind
use Rattle.text_values.proofs.PartKinds.{element_part, field_part}
use Rattle.text_values.proofs.written_seen.part_kind.Goals as goal

pub returns-in-ArrayOf : goal.returns-in-ArrayOf
returns-in-ArrayOf c = element_part c.args.kind.now _ _ _ c.args.at
    (ap out-Kind c.in-ArrayOf.is ∙ kind.outs-ArrayOf _ _) c.get.ensures

pub returns-in-Fields : goal.returns-in-Fields
returns-in-Fields c = field_part c.args.kind.now _ _ c.args.at _
    (ap out-Kind c.in-Fields.is ∙ kind.outs-Fields _)
    (c.as_slice.ensures ∙ c.get-in-Fields.ensures) c.field_kind.ensures
