-- What is read of a sentence, by what the check finds of its tree.
use Rattle.std.proofs.Common.{◌≡◌, sym, subst, ℕ, List, Result, Ok, Err}
use Rattle.std.specs.Result.{IsErr, IsErrAnd}
use Rattle.est_lexer.specs.declared.kind.Token.{Token}
use Rattle.est_syntax.specs.declared.specification.Spec.{Spec}
use Rattle.est_grammar.specs.Answer.{HasOneTree}
use Rattle.est_check.specs.Found.{IsFound, IsRefused}
use Rattle.est_check.specs.declared.error.CheckError.{CheckError}
use Rattle.est_check.specs.declared.error.CheckError.TheVariants as faults
use Rattle.est_check.specs.declared.specification_error.SpecificationError.{SpecificationError}
use Rattle.est_check.specs.Errors.{of_fault}
use Rattle.est_check.specs.SpecificationText.{IsSpecification}
use Rattle.est_check.specs.SpecificationText.{IsNoSpecification, ReadsSpecification}

-- a sentence, by its tree
pub good : (text : List ℕ) (tokens : List Token) (spec checked : Spec)
    → HasOneTree text tokens spec → IsFound spec checked → IsSpecification text tokens checked
good text tokens spec checked tree f = subst (IsSpecification text tokens) (sym f.0) record {
  tree = tree;
  good = f.1;
}

refused_by : (text : List ℕ) (tokens : List Token) (spec : Spec) (e : CheckError)
    → HasOneTree text tokens spec → IsRefused spec e → IsNoSpecification text tokens (of_fault e)
refused_by text tokens spec (faults.Fault place r) tree f = (spec, tree, f)
refused_by text tokens spec (faults.Memory e) tree f = tt

pub refused : (text : List ℕ) (tokens : List Token) (spec : Spec) (fault : CheckError)
    (r : Result Spec SpecificationError) → HasOneTree text tokens spec
    → IsRefused spec fault
    → IsErr r × IsErrAnd r (λ e. e ≡ of_fault fault) → ReadsSpecification text tokens r
refused text tokens spec fault (Ok x) tree f (never, is) = cc
refused text tokens spec fault (Err e) tree f is = subst (IsNoSpecification text tokens) (sym is.1)
    (refused_by text tokens spec fault tree f)
