-- The ports of a sentence are readable, and so its traces are read back; and its kinds are well
-- formed.
use Rattle.std.proofs.Common.{◌≡◌, ℕ, Some, length, arith}
use Rattle.est_lexer.proofs.TokenLaws.{token_kinds}
use Rattle.est_syntax.specs.declared.specification.Spec.{Spec}
use Rattle.est_check.specs.SentenceOf.{IsSentence}
use Rattle.rule_scope.specs.declared.declaration.Entry.{Entry}
use Rattle.rule_scope.specs.Outline.{entry_at}
use Rattle.rule_declares.specs.Bodies.{outline_of}
use Rattle.rule_declares.specs.LookUps.{started_header}
use Rattle.rule_declares.specs.PortList.{ports_of}
use Rattle.law_places.specs.Said.{Each}
use Rattle.law_places.proofs.Ascending.{specification_stands}
use Rattle.law_places.proofs.SaidWholes.{declarations_said}
use Rattle.law_sentences.proofs.Sentences.{sentence_written}
use Rattle.law_texts.proofs.ReadBack as read
use Rattle.law_texts.specs.ReadableLaws.{PortsOfSentencesAreReadable}
use Rattle.law_texts.specs.ReadableLaws.{TracesOfSentencesAreTexts, TracesOfSentencesAreRead}
use Rattle.law_texts.specs.WellFormedLaws.{DeclaredKindsAreWellFormed}
use Rattle.law_texts.specs.WellFormedLaws.{DeclaredSubscriptsAreWellFormed}
use Rattle.law_texts.specs.WellFormedLaws.{PortKindsAreWellFormed}
use Rattle.law_texts.proofs.PlainTrees.{specification_says}
use Rattle.law_texts.proofs.Spelt.{PartSpelt}
use Rattle.law_texts.proofs.SpeltBodies.{all_spelt}
use Rattle.law_texts.proofs.PlainOutlines.{region_plain}
use Rattle.law_texts.proofs.SoundNames.{IsSoundInTheEnd}
use Rattle.law_texts.proofs.SoundOutlines.{outline_sound}
use Rattle.law_texts.proofs.SoundPorts.{header_readable}
use Rattle.law_texts.proofs.WellFormed.{readable_port, kinds_formed, subscripts_formed}

spelt : (spec : Spec) → IsSentence spec → Each PartSpelt spec.parts
spelt spec h = all_spelt spec
    (specification_says h.text h.tokens spec (token_kinds h.text 0 h.tokens h.listed) h.tree)

sound : (spec : Spec) → IsSentence spec → (place : ℕ) (e : Entry)
    → entry_at (outline_of spec) place ≡ Some e → IsSoundInTheEnd (outline_of spec) e
sound spec h =
    let few = h.few in
    outline_sound spec
    (declarations_said spec (length h.tokens) (omega (arith, few))
    (specification_stands h.text h.tokens spec h.tree)) (spelt spec h)
    (sentence_written h.text h.tokens spec few h.tree)

pub ports_readable : PortsOfSentencesAreReadable
unfolding ports_of
ports_readable spec h =
    header_readable (outline_of spec) (region_plain spec (spelt spec h)) (sound spec h)
    (started_header (outline_of spec) spec.first)

pub declared_formed : DeclaredKindsAreWellFormed
declared_formed spec place k h is = kinds_formed (outline_of spec) (sound spec h) place k is

pub subscripts_declared_formed : DeclaredSubscriptsAreWellFormed
subscripts_declared_formed spec place ks h is =
    subscripts_formed (outline_of spec) (sound spec h) place ks is

pub ports_formed : PortKindsAreWellFormed
ports_formed spec i port h at = readable_port port (ports_readable spec h i port at)

pub texts : TracesOfSentencesAreTexts
texts spec recorded written h allowed listed =
    read.texts spec recorded written (ports_readable spec h) allowed listed

pub read_back : TracesOfSentencesAreRead
read_back spec recorded written answer h allowed listed reads =
    read.read_back spec recorded written answer (ports_readable spec h) allowed listed reads
