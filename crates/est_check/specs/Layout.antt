-- What an answer does not depend on: layout, comments, letter case, and what stands after a refused
-- token.
use Rattle.std.specs.Prelude.{◌≡◌, ℕ, suc, ◌<◌, List, length, take, Option, Some, None, Result}
use Rattle.est_lexer.specs.declared.kind.Token.{Token}
use Rattle.text_reader.specs.SameTokens.{AreSameTokens}
use Rattle.est_syntax.specs.declared.specification.Spec.{Spec}
use Rattle.est_check.specs.declared.specification_error.SpecificationError.{SpecificationError}
use Rattle.est_check.specs.declared.specification_error.SpecificationError.TheVariants as errors
use Rattle.est_check.specs.SpecificationText.{IsNoSpecification, ReadsSpecification}

-- What is true of a text is true of one with the same tokens.
abbrev pub LayoutMeansNothing : Type 0
LayoutMeansNothing = (text other : List ℕ) (ts us : List Token)
    (read : Result Spec SpecificationError) → AreSameTokens text other ts us
    → ReadsSpecification text ts read → ReadsSpecification other us read

-- the place of a token that the grammar refuses
abbrev pub refused_place : SpecificationError → Option ℕ
refused_place (errors.BadToken place) = Some place
refused_place (errors.LeftOut place) = Some place
refused_place (errors.TooDeep place) = Some place
refused_place (errors.BrokenRule place rule) = None
refused_place (errors.Memory error) = None

-- A token that the grammar refuses is refused in each text that is the same up to it.
abbrev pub RefusalsStay : Type 0
RefusalsStay = (text other : List ℕ) (ts us : List Token) (error : SpecificationError) (place : ℕ)
    → refused_place error ≡ Some place → place < length ts
    → AreSameTokens text other (take (suc place) ts) (take (suc place) us)
    → IsNoSpecification text ts error → IsNoSpecification other us error
