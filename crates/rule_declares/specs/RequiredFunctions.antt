-- The predeclared functions (ISO 7185, 6.6.6).
use Rattle.std.specs.Prelude.{Option, Some, None}
use Rattle.rule_kinds.specs.rule_scope.declared.predeclared.PredeclaredName.{PredeclaredName}
use Rattle.rule_kinds.specs.rule_scope.declared.predeclared.PredeclaredName.TheVariants as known
use Rattle.rule_declares.specs.declared.required.Required.{Required}
use Rattle.rule_declares.specs.declared.required.Required.TheVariants as required

-- the functions that are predeclared (ISO 7185, 6.6.6)
abbrev pub required_function : PredeclaredName → Option Required
required_function known.Ord = Some required.Ord
required_function known.Chr = Some required.Chr
required_function known.Succ = Some required.Succ
required_function known.Pred = Some required.Pred
required_function known.Abs = Some required.Abs
required_function known.Odd = Some required.Odd
required_function known.Sqr = Some required.Sqr
required_function _ = None
