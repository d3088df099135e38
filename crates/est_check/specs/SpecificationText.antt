-- Which tokens are a specification, and what its reader answers.
use Rattle.std.specs.Prelude.{ℕ, List, Some, Result, Ok, Err}
use Rattle.est_lexer.specs.declared.kind.Token.{Token}
use Rattle.est_syntax.specs.declared.specification.Spec.{Spec}
use Rattle.est_check.specs.LeastFault.{IsGood, IsLeastFault}
use Rattle.est_grammar.specs.Answer.{HasOneTree, IsRefusal}
use Rattle.est_grammar.specs.declared.error.ParseError.TheVariants as refusals
use Rattle.est_check.specs.declared.specification_error.SpecificationError.{SpecificationError}
use Rattle.est_check.specs.declared.specification_error.SpecificationError.TheVariants as errors

-- the tokens have the tree of this specification and no other, and it breaks no rule
pub record IsSpecification (text : List ℕ) (tokens : List Token) (spec : Spec) : Type 0 where
  pub tree : HasOneTree text tokens spec
  pub good : IsGood spec

-- The tokens are refused by the grammar at this place, or have one tree, which breaks this rule
-- first; out of memory says nothing of them.
abbrev pub IsNoSpecification : List ℕ → List Token → SpecificationError → Type 0
IsNoSpecification text tokens (errors.BadToken place) =
    IsRefusal text tokens (refusals.BadToken place)
IsNoSpecification text tokens (errors.LeftOut place) =
    IsRefusal text tokens (refusals.LeftOut place)
IsNoSpecification text tokens (errors.TooDeep place) =
    IsRefusal text tokens (refusals.TooDeep place)
IsNoSpecification text tokens (errors.BrokenRule place rule) = (spec : Spec)
    × HasOneTree text tokens spec
    × IsLeastFault spec (Some record { place = place; rule = rule })
IsNoSpecification text tokens (errors.Memory error) = Unit {0}

-- what read_specification answers: the specification that the tokens are, or why they are none
abbrev pub ReadsSpecification : List ℕ → List Token → Result Spec SpecificationError → Type 0
ReadsSpecification text tokens (Ok spec) = IsSpecification text tokens spec
ReadsSpecification text tokens (Err error) = IsNoSpecification text tokens error
