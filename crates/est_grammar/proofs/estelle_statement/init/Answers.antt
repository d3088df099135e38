use Rattle.std.proofs.Common.{refl}
use Rattle.text_reader.proofs.Going.{take, then, rule_goes}
use Rattle.text_reader.proofs.Single.{name_goes}
use Rattle.text_productions.proofs.Fits.{K}
use Rattle.est_grammar.proofs.estelle_statement.init.Goals as goal

pub returns : goal.returns
returns c = record {
  target = _;
  body = _;
  arguments = _;
  goes = rule_goes K (take K c.word.ensures (then K refl c.access-target.ensures
      (take K c.word-2.ensures (then K refl (name_goes K c.name-body.ensures)
      c.arguments-arguments.ensures))));
  same = refl;
}
