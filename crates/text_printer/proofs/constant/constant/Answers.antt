use Rattle.std.proofs.Common.{refl}
use Rattle.text_printer.proofs.Printing.{here_prints, in_first, in_second, rule_prints, part}
use Rattle.text_printer.proofs.Single.{character_prints}
use Rattle.text_printer.proofs.constant.constant.Goals as goal

pub returns-in-Named : goal.returns-in-Named
returns-in-Named c = part (rw c.in-Named.is refl) (rw c.in-Named.is refl) (c.named.ensures
    c.in-Named.place)

pub returns-in-Number : goal.returns-in-Number
returns-in-Number c = part (rw c.in-Number.is refl) (rw c.in-Number.is refl) (rule_prints
    (in_first (c.numeral.ensures c.in-Number.place)))

pub returns-in-Character : goal.returns-in-Character
returns-in-Character c = part (rw c.in-Character.is refl) (rw c.in-Character.is refl) (rule_prints
    (in_first (here_prints (in_second (in_second (character_prints c.in-Character.code
    c.character.ensures))) c.in-Character.place)))
