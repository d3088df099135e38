-- In the outline of a specification that breaks no rule nothing is missing.
use Rattle.std.specs.Prelude.{◌≡◌, []}
use Rattle.est_syntax.specs.declared.specification.Spec.{Spec}
use Rattle.rule_declares.specs.Bodies.{outline_of}
use Rattle.est_check.specs.LeastFault.{specification_faults}
use Rattle.law_sentences.specs.Full.{AreFull}
use Rattle.law_places.specs.Said.{Each, PartSaid}
use Rattle.law_sentences.specs.WrittenParts.{PartWritten}

-- where the outline has of each declaration what it says of it as a whole, and the declarations are
-- written as sentences have them, each is full
abbrev pub OutlinesAreFull : Type 0
OutlinesAreFull = (s : Spec) → Each (PartSaid (outline_of s)) s.parts → Each PartWritten s.parts
    → specification_faults s ≡ [] → AreFull (outline_of s)
