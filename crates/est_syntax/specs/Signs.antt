-- Signs before numbers, names and sums (ISO 7185, sign).
use Rattle.std.specs.Prelude.{Bool, true, false, Option, Some}
use Rattle.est_syntax.specs.declared.constant.Sign.{Sign}
use Rattle.est_syntax.specs.declared.constant.Sign.TheVariants.{Minus}

-- whether what follows is negated: whether the sign before it, if there is one, is "-"
abbrev pub is_minus : Option Sign → Bool
is_minus (Some Minus) = true
is_minus _ = false
