use Rattle.std.proofs.Common.{refl}
use Rattle.text_reader.specs.Grammar.{both, leaf, nothing}
use Rattle.text_reader.specs.Tests.{value}
use Rattle.text_values.proofs.Numbers.{coded_goes, coded_wrong}
use Rattle.text_values.proofs.Walks.{not_well}
use Rattle.text_values.proofs.ordinals.coded.Goals as goal

pub returns-then-not-sees-clause-reads : goal.returns-then-not-sees-clause-reads
returns-then-not-sees-clause-reads c = record {
  shape = nothing;
  goes = coded_wrong c.if-not-sees.ensures c.step.ensures;
  is = λ w. absurd (not_well c.step.ensures w);
}

pub returns-clause-reads : goal.returns-clause-reads
returns-clause-reads c = record {
  shape = both (leaf (value c.number-code.result)) nothing;
  goes = coded_goes c.if-not-sees.ensures c.take_word.ensures c.symbol.ensures
      c.number-code.ensures c.symbol-2.ensures;
  is = λ w. refl;
}
