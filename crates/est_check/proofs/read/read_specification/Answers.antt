use Rattle.std.proofs.Common.{arith}
use Rattle.est_lexer.specs.Offsets.{text_of, tokens_of}
use Rattle.est_check.proofs.Refused.{good, refused}
use Rattle.est_check.proofs.Small.{sentence_is_small}
use Rattle.est_check.proofs.read.read_specification.Goals as goal

pub check-requires : goal.check-requires
check-requires c =
    let few = c.requires.few in
    record {
      sentence = record {
        text = text_of c.args.tokens.now;
        tokens = tokens_of c.args.tokens.now;
        listed = c.requires.listed;
        few = omega (arith, few);
        tree = c.in_ok-tree.ensures.tree;
      };
      small = sentence_is_small _ _ c.in_ok-tree.tree c.in_ok-tree.ensures.tree c.requires.few;
    }

pub returns-in_err-check : goal.returns-in_err-check
returns-in_err-check c =
    refused (text_of c.args.tokens.now) (tokens_of c.args.tokens.now) c.in_ok-tree.tree
    c.in_err-check.field-0.0 _ c.in_ok-tree.ensures.tree
    c.in_err-check.ensures.fault c.from_residual-in_err-check.ensures

pub returns : goal.returns
returns c =
    good (text_of c.args.tokens.now) (tokens_of c.args.tokens.now) c.in_ok-tree.tree
    c.in_ok-check.field-0 c.in_ok-tree.ensures.tree
    c.in_ok-check.ensures.good
