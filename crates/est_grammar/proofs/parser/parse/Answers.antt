use Rattle.std.proofs.Common.{subst}
use Rattle.est_lexer.specs.Offsets.{text_of, tokens_of}
use Rattle.text_reader.specs.Whole.{Finishes}
use Rattle.text_reader.proofs.Whole.{whole_refused}
use Rattle.est_grammar.proofs.Top.{accepted, owned}
use Rattle.text_productions.proofs.Fits.{K}
use Rattle.est_grammar.proofs.parser.parse.Goals as goal

pub returns-in-Ok-clause-tree : goal.returns-in-Ok-clause-tree
returns-in-Ok-clause-tree c =
    owned (text_of c.args.tokens.now) (tokens_of c.args.tokens.now) c.in-Ok.spec c.owned.result
    (accepted c.specification-spec.ensures c.new-reader.ensures
    (subst (Finishes c.specification-spec.new.reader c.specification-spec.result) c.in-Ok.is
    c.finish.ensures)) c.owned.ensures

pub returns-in-Err-clause-refused : goal.returns-in-Err-clause-refused
returns-in-Err-clause-refused c =
    c.refused.ensures (whole_refused K c.specification-spec.ensures c.new-reader.ensures
    c.in-Err.refusal
    (subst (Finishes c.specification-spec.new.reader c.specification-spec.result) c.in-Err.is
    c.finish.ensures))
