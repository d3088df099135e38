-- The specification of a sentence is written as sentences have it, and full where it breaks no
-- rule.
use Rattle.std.proofs.Common.{ℕ, suc, ◌≤◌, List, length, arith}
use Rattle.est_lexer.specs.declared.kind.Token.{Token}
use Rattle.est_syntax.specs.Kinds.{maxint}
use Rattle.est_syntax.specs.declared.specification.Spec.{Spec}
use Rattle.text_reader.specs.Grammar.{rule}
use Rattle.text_reader.specs.Shown.{node}
use Rattle.text_productions.specs.Productions as grammar
use Rattle.text_productions.specs.Nodes.{a_specification}
use Rattle.est_grammar.specs.Answer.{levels}
use Rattle.law_places.specs.Said.{Each}
use Rattle.law_sentences.specs.FullSentences.{SentencesAreWritten, SentencesAreFull}
use Rattle.law_sentences.specs.WrittenParts.{PartWritten}
use Rattle.law_sentences.proofs.Parts.{outline_full}
use Rattle.law_sentences.proofs.Reading.{Reads, in_word, in_rule, in_node, in_seq}
use Rattle.law_sentences.proofs.WrittenParts.{common_parts_written}

parts_written : (text : List ℕ) (tokens : List Token) (s : Spec) → length tokens ≤ suc maxint
    → Reads text tokens (rule grammar.specification) (node (a_specification s))
    → Each PartWritten s.parts
parts_written text tokens s few r =
    let q = in_seq text tokens (in_word text tokens
    (in_node text tokens (in_rule text tokens r))) in
    let w = in_seq text tokens (in_word text tokens q.1) in
    let x = in_seq text tokens w.1 in
    let y = in_seq text tokens x.1 in common_parts_written text tokens few s.parts y.0

pub sentence_written : SentencesAreWritten
sentence_written text tokens s few h =
    parts_written text tokens s few
    (levels, 0, length tokens, h.shape, h.tree, h.shows, omega arith)

pub sentence_full : SentencesAreFull
sentence_full text tokens s few h said none =
    outline_full s said (sentence_written text tokens s few h) none
