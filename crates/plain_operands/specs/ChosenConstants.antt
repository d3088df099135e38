-- Constants of the choices of a `case`.
use Rattle.std.specs.Prelude.{ℤ, Bool, false}
use Rattle.std.specs.Option.{option_map_or}
use Rattle.std.specs.Ordering.{int_eq}
use Rattle.est_syntax.specs.declared.constant.Constant.{Constant}
use Rattle.mean_blocks.specs.rule_scope.Outline.{Outline}
use Rattle.mean_blocks.specs.rule_kinds.declared.value.Valued.{Valued}
use Rattle.mean_blocks.specs.rule_kinds.Constants.{constant_value}

-- whether a constant has an ordinal
abbrev pub has_ordinal : Outline → ℤ → Constant → Bool
has_ordinal o z c =
    option_map_or (λ (v : Valued). int_eq z v.ordinal) (constant_value o c) false
