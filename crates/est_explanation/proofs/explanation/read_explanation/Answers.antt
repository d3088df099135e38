use Rattle.est_lexer.specs.Offsets.{text_of, tokens_of}
use Rattle.est_explanation.proofs.OneExplanation.{few}
use Rattle.est_explanation.proofs.Answering.{read, answered}
use Rattle.est_explanation.proofs.explanation.read_explanation.Goals as goal

pub returns-clause-reads : goal.returns-clause-reads
returns-clause-reads c = read c.whole_explanation-found.ensures c.new-reader.ensures
    c.in_ok-finish.ensures

pub returns-clause-few : goal.returns-clause-few
returns-clause-few c = few (text_of c.args.tokens.now) (tokens_of c.args.tokens.now)
    c.in_ok-finish.field-0 (read c.whole_explanation-found.ensures c.new-reader.ensures
    c.in_ok-finish.ensures).0

pub returns-in_err-finish-clause-reads : goal.returns-in_err-finish-clause-reads
returns-in_err-finish-clause-reads c = answered c.whole_explanation-found.ensures
    c.new-reader.ensures c.in_err-finish.field-0.0 _ c.in_err-finish.ensures
    c.from_residual.ensures
