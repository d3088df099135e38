-- The parameters of the declarations of a sentence stand first in their regions, and have kinds.
use Rattle.std.proofs.Common.{ℕ, suc, List, length, arith}
use Rattle.est_lexer.specs.declared.kind.Token.{Token}
use Rattle.est_syntax.specs.declared.specification.Spec.{Spec}
use Rattle.text_reader.specs.Grammar.{rule}
use Rattle.text_reader.specs.Shown.{node}
use Rattle.text_productions.specs.Nodes.{a_specification}
use Rattle.text_productions.specs.Productions as grammar
use Rattle.est_grammar.specs.Answer.{levels}
use Rattle.rule_declares.specs.Bodies.{outline_of}
use Rattle.law_places.proofs.Ascending.{specification_stands}
use Rattle.law_places.proofs.Wholes.{spec_placed}
use Rattle.law_sentences.specs.ParameterOrder.{ParametersOfSentences}
use Rattle.law_sentences.proofs.Apart.{IsBegin, common_parts_apart}
use Rattle.law_sentences.proofs.ParametersLead.{AllApart, outline_leads, leading_first}
use Rattle.law_sentences.proofs.ParametersLead.{leading_kinds}
use Rattle.law_sentences.proofs.Reading.{Reads, in_word, in_rule, in_node, in_seq}

sentence_apart : (text : List ℕ) (tokens : List Token) (s : Spec)
    → Reads text tokens (rule grammar.specification) (node (a_specification s))
    → AllApart (IsBegin text tokens) s.parts
sentence_apart text tokens s r =
    let q = in_seq text tokens (in_word text tokens
    (in_node text tokens (in_rule text tokens r))) in
    let w = in_seq text tokens (in_word text tokens q.1) in
    let x = in_seq text tokens w.1 in
    let y = in_seq text tokens x.1 in common_parts_apart text tokens s.parts y.0

pub parameters_first : ParametersOfSentences
parameters_first text tokens s h =
    let p = spec_placed s (length tokens) (specification_stands text tokens s h) in
    let out = sentence_apart text tokens s
    (levels, 0, length tokens, h.shape, h.tree, h.shows, omega arith) in
    let k = outline_leads s (suc s.name.place) p.0 (omega arith) p.1 out in
    (leading_first p.0 p.0 (outline_of s) k, leading_kinds p.0 p.0 (outline_of s) k)
