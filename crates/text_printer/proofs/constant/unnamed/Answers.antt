use Rattle.text_printer.proofs.Printing.{here_prints, in_second}
use Rattle.text_printer.proofs.Single.{character_prints}
use Rattle.text_printer.proofs.constant.unnamed.Goals as goal

pub returns-in-Named : goal.returns-in-Named
returns-in-Named c = rw c.in-Named.is (c.unnamed_name.ensures c.in-Named.place)

pub returns-in-Number : goal.returns-in-Number
returns-in-Number c = rw c.in-Number.is (c.numeral.ensures c.in-Number.place)

pub returns-in-Character : goal.returns-in-Character
returns-in-Character c = rw c.in-Character.is (here_prints (in_second (in_second (character_prints
    c.in-Character.code c.character.ensures))) c.in-Character.place)
