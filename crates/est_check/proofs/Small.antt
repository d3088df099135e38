-- A sentence of few tokens is a small specification.
use Rattle.std.proofs.Common.{◌≤◌, ℕ, List, length, arith}
use Rattle.est_lexer.specs.declared.kind.Token.{Token}
use Rattle.est_syntax.specs.declared.specification.Spec.{Spec}
use Rattle.est_grammar.specs.Answer.{HasOneTree}
use Rattle.est_check.specs.Small.{IsSmall, most_parts}
use Rattle.est_check.proofs.Sizes.{HasParts, names_few, parts_read, transitions_few}

pub sentence_is_small : (text : List ℕ) (tokens : List Token) (spec : Spec)
    → HasOneTree text tokens spec → length tokens ≤ most_parts → IsSmall spec
sentence_is_small text tokens spec one few =
    let x : HasParts text tokens spec = parts_read text tokens spec _ one.shape one.shows one.tree
    in
    record {
      few_names = omega (arith, names_few text tokens spec x, few);
      few_transitions = omega (arith, transitions_few text tokens spec x, few);
    }
