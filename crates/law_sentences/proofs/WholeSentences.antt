-- Where a sentence breaks no rule, nothing of it is missing.
use Rattle.std.proofs.Common.{length, arith}
use Rattle.law_places.proofs.Ascending.{specification_stands}
use Rattle.law_places.proofs.SaidWholes.{declarations_said}
use Rattle.law_sentences.specs.WholeSentences.{SentencesAreWhole}
use Rattle.law_sentences.proofs.ParameterOrder.{parameters_first}
use Rattle.law_sentences.proofs.Sentences.{sentence_full}
use Rattle.law_sentences.proofs.WholeBodies.{sentence_whole}

pub sentences_whole : SentencesAreWhole
sentences_whole text tokens s few tree none =
    let said = declarations_said s (length tokens) (omega arith)
    (specification_stands text tokens s tree) in
    let full = sentence_full text tokens s few tree said none in
    let p = parameters_first text tokens s tree in (
      record { full = full; first = p.0; kinds = p.1 },
      sentence_whole text tokens s few tree full none,
    )
