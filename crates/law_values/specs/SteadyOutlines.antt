-- What declarations have in common by which names are known in runs.
use Rattle.std.specs.Prelude.{◌≡◌, ℕ, Some}
use Rattle.est_syntax.specs.declared.kind.Kind.{Kind}
use Rattle.rule_scope.specs.declared.declaration.Entry.{Entry}
use Rattle.rule_scope.specs.Outline.{Outline}
use Rattle.rule_scope.specs.declared.declaration.Sort.TheVariants as sort
use Rattle.rule_expressions.specs.Selections.{parameter}
use Rattle.mean_blocks.specs.NamesInRuns.{kind_at}
use Rattle.law_values.specs.SameKinds.{HasSizes}

-- each parameter is a variable
abbrev pub ParametersAreVariables : Outline → Type 0
ParametersAreVariables o = (region n : ℕ) (e : Entry) → parameter o region n ≡ Some e
    → e.declared.sort ≡ sort.Variable

-- Parameters are variables, and the enumeration of one place has as many constants in each kind.
pub record IsSteady (o : Outline) : Type 0 where
  pub parameters : ParametersAreVariables o
  pub sizes : ℕ → ℕ
  pub sized : (p : ℕ) (k : Kind) → kind_at o p ≡ Some k → HasSizes sizes k
