use Rattle.std.proofs.Common.{refl}
use Rattle.text_reader.proofs.Going.{take, then, rule_goes, part}
use Rattle.text_reader.proofs.Single.{name_goes}
use Rattle.text_productions.proofs.Fits.{K}
use Rattle.est_grammar.proofs.specification.specification.Goals as goal

pub returns : goal.returns
returns c =
    part refl (rule_goes K (take K c.word.ensures (then K refl (name_goes K c.name-name.ensures)
    (take K c.symbol.ensures (then K refl c.default_queue-queue.ensures
    (then K refl c.time_scale-scale.ensures (then K refl c.commons-parts.ensures
    c.initialization-first.ensures)))))))
