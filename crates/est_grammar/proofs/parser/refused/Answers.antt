use Rattle.est_grammar.proofs.parser.refused.Goals as goal

pub returns-in-BadToken : goal.returns-in-BadToken
returns-in-BadToken c = rw c.in-BadToken.is c.bad_token.ensures
