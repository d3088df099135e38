-- Sentences are steady, so typed where they break no rule.
use Rattle.std.proofs.Common.{◌≡◌, refl, subst, ℕ, suc, List, length, Some, None, arith}
use Rattle.std.proofs.Common.{Bool, true, false}
use Rattle.std.proofs.lemmas.Option.{none-some, same_Some}
use Rattle.std.specs.Prelude.{option_and_then, if◌then◌else◌}
use Rattle.est_lexer.specs.declared.kind.Token.{Token}
use Rattle.est_syntax.specs.declared.specification.Spec.{Spec}
use Rattle.text_reader.specs.Grammar.{rule}
use Rattle.text_reader.specs.Shown.{node}
use Rattle.text_productions.specs.Nodes.{a_specification}
use Rattle.text_productions.specs.Productions as grammar
use Rattle.est_grammar.specs.Answer.{levels}
use Rattle.rule_scope.specs.Outline.{Outline, entry_at, nth}
use Rattle.rule_scope.specs.declared.declaration.Entry.{Entry}
use Rattle.rule_scope.specs.declared.declaration.Measured.{Measured}
use Rattle.rule_scope.specs.declared.declaration.Sort.TheVariants as sort
use Rattle.rule_declares.specs.Bodies.{outline_of}
use Rattle.law_places.specs.Said.{Each}
use Rattle.law_places.proofs.Ascending.{specification_stands}
use Rattle.law_places.proofs.Wholes.{spec_placed}
use Rattle.rule_expressions.specs.Selections.{is_parameter, parameter_in}
use Rattle.est_meaning.proofs.Options.{then_some, map_some}
use Rattle.law_sentences.proofs.Reading.{Reads, in_word, in_rule, in_node, in_seq}
use Rattle.law_sentences.proofs.WholeSentences.{sentences_whole}
use Rattle.law_values.proofs.FaultlessBlocks.{no_faults}
use Rattle.law_values.specs.SameKinds.{HasSizes}
use Rattle.law_values.specs.SteadyOutlines.{IsSteady}
use Rattle.law_values.proofs.FittingRuns.{runs_fit, explained_traces_are_allowed}
use Rattle.law_values.specs.SteadyLaws.{SentencesAreSteady, SentencesAreTyped}
use Rattle.law_values.specs.SteadyLaws.{RunsOfSentencesFit, TracesOfSentencesAreAllowed}
use Rattle.law_values.proofs.KnownKinds.{Known, bounded_sizes}
use Rattle.law_values.proofs.KnownParts.{outline_grown}
use Rattle.law_values.proofs.ShortParts.{PartShort, common_parts_short}

sentence_short : (text : List ℕ) (tokens : List Token) (s : Spec)
    → Reads text tokens (rule grammar.specification) (node (a_specification s))
    → Each PartShort s.parts
sentence_short text tokens s r =
    let q = in_seq text tokens (in_word text tokens
    (in_node text tokens (in_rule text tokens r))) in
    let w = in_seq text tokens (in_word text tokens q.1) in
    let x = in_seq text tokens w.1 in
    let y = in_seq text tokens x.1 in common_parts_short text tokens s.parts y.0

-- what is known of each entry is known of parameters and kinds
known_parameter : (n : ℕ → ℕ) (c : ℕ) (o : Outline) → Known n c o → (d : Entry)
    → (p : ℕ) → entry_at o p ≡ Some d → (e : Entry) → parameter_in d ≡ Some e
    → e.declared.sort ≡ sort.Variable
known_parameter n c o k d p at e h = by (is_parameter d.section) refl h
  where
    by : (b : Bool) → is_parameter d.section ≡ b → (if b then Some d else None) ≡ Some e
        → e.declared.sort ≡ sort.Variable
    by true is g = subst (λ (x : Entry). x.declared.sort ≡ sort.Variable) (same_Some d e g)
        ((k.entries p d at).1 is)
    by false is g = absurd (none-some e g)

known_steady : (n : ℕ → ℕ) (c : ℕ) (o : Outline) → Known n c o → IsSteady o
known_steady n c o k = record {
  parameters = λ region i e h.
      let a = then_some parameter_in (option_and_then (entry_at o) (nth o region i)) e h in
      let b = then_some (entry_at o) (nth o region i) a.0 a.1 in
      known_parameter n c o k a.0 b.0 b.2 e a.2;
  sizes = n;
  sized = λ p y h.
      let a = map_some (λ (m : Measured). m.kind)
      (option_and_then (λ (e : Entry). e.kind) (entry_at o p)) y h in
      let b = then_some (λ (e : Entry). e.kind) (entry_at o p) a.0 a.1 in
      subst (HasSizes n) a.2
      (bounded_sizes n c a.0.kind ((k.entries p b.0 b.1).0 a.0 b.2));
}

pub sentences_are_steady : SentencesAreSteady
sentences_are_steady spec h =
    let p = spec_placed spec (length h.tokens) (specification_stands h.text h.tokens spec h.tree) in
    let short = sentence_short h.text h.tokens spec
    (levels, 0, length h.tokens, h.tree.shape, h.tree.tree, h.tree.shows, omega arith) in
    let g = outline_grown spec (suc spec.name.place) p.0 p.1 short in
    known_steady g.0 p.0 (outline_of spec) g.1

pub sentences_are_typed : SentencesAreTyped
sentences_are_typed spec h good = record {
  good = good;
  whole = (sentences_whole h.text h.tokens spec h.few h.tree (no_faults spec good)).0;
  steady = sentences_are_steady spec h;
}

pub runs_of_sentences_fit : RunsOfSentencesFit
runs_of_sentences_fit c run p sentence good begun came r =
    runs_fit c run p (sentences_are_typed c.spec sentence good) begun came r

pub traces_of_sentences_are_allowed : TracesOfSentencesAreAllowed
traces_of_sentences_are_allowed c run sentence good begun came e =
    explained_traces_are_allowed c run (sentences_are_typed c.spec sentence good) begun came e
