-- The predeclared names, whose region lies around every specification (ISO 7185, 6.2.2).
use Rattle.std.specs.Prelude.{ℕ, List, [], ◌∷◌, Option, Some, None, codes}
use Rattle.std.specs.Map.{lookup}
use Rattle.est_syntax.specs.Names.{is_name}
use Rattle.rule_scope.specs.declared.declaration.Meant.{Meant}
use Rattle.rule_scope.specs.declared.declaration.Meant.TheVariants.{Nothing, Predeclared}
use Rattle.rule_scope.specs.declared.predeclared.PredeclaredName.{PredeclaredName}
use Rattle.rule_scope.specs.declared.predeclared.PredeclaredName.TheVariants as known

-- the predeclared names of the profile (ISO 7185, required identifiers)
unfoldable pub predeclared_names : List (List ℕ × PredeclaredName)
predeclared_names = (codes "integer", known.Integer) ∷ (codes "boolean", known.Boolean)
    ∷ (codes "char", known.Char) ∷ (codes "false", known.False) ∷ (codes "true", known.True)
    ∷ (codes "maxint", known.Maxint) ∷ (codes "ord", known.Ord) ∷ (codes "chr", known.Chr)
    ∷ (codes "succ", known.Succ) ∷ (codes "pred", known.Pred) ∷ (codes "abs", known.Abs)
    ∷ (codes "odd", known.Odd) ∷ (codes "sqr", known.Sqr) ∷ []

-- which predeclared name a name is, if it is one
abbrev pub predeclared_name : List ℕ → Option PredeclaredName
predeclared_name name = lookup (is_name name) predeclared_names

-- what a name means that nothing in force declares, predeclared or not
abbrev pub undeclared : Option PredeclaredName → Meant
undeclared None = Nothing
undeclared (Some n) = Predeclared n
