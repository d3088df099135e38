use Rattle.est_lexer.proofs.There.{name_there}
use Rattle.est_lexer.proofs.scan.name.Goals as goal

pub returns : goal.returns
returns c = name_there _ _ _ _ _ c.requires.inside c.requires.no_comment c.requires.letter
    c.name_end-end.ensures.value c.word_or_identifier.ensures c.token.ensures
