-- What holds of the specification of a sentence: where it breaks no rule, nothing is missing.
use Rattle.std.specs.Prelude.{◌≡◌, ℕ, suc, ◌≤◌, List, [], length}
use Rattle.est_lexer.specs.declared.kind.Token.{Token}
use Rattle.est_syntax.specs.Kinds.{maxint}
use Rattle.est_syntax.specs.declared.specification.Spec.{Spec}
use Rattle.rule_declares.specs.Bodies.{outline_of}
use Rattle.est_check.specs.LeastFault.{specification_faults}
use Rattle.est_grammar.specs.Answer.{HasOneTree}
use Rattle.law_sentences.specs.Full.{AreFull}
use Rattle.law_places.specs.Said.{Each, PartSaid}
use Rattle.law_sentences.specs.WrittenParts.{PartWritten}

-- the declarations of a sentence are written so: enumerations have constants, the first right after
-- the token that the enumeration begins with, and no more than there are integers, since there are
-- no more tokens; and no type uses a name after its last place
abbrev pub SentencesAreWritten : Type 0
SentencesAreWritten = (text : List ℕ) (tokens : List Token) (s : Spec)
    → length tokens ≤ suc maxint → HasOneTree text tokens s → Each PartWritten s.parts

-- where a sentence breaks no rule, and its outline has of each declaration what it says of it as a
-- whole, each declaration is full
abbrev pub SentencesAreFull : Type 0
SentencesAreFull = (text : List ℕ) (tokens : List Token) (s : Spec)
    → length tokens ≤ suc maxint → HasOneTree text tokens s
    → Each (PartSaid (outline_of s)) s.parts → specification_faults s ≡ [] → AreFull (outline_of s)
