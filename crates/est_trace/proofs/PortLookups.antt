-- From what is found of a name to the head that it names, whatever passes it.
use Rattle.std.proofs.Common.{◌≡◌, ℕ, List, sym, ◌∙◌, Option, Some, None}
use Rattle.est_lexer.specs.declared.tokens.Tokens.{Tokens}
use Rattle.est_syntax.specs.declared.ports.Port.{Port}
use Rattle.text_reader.specs.Grammar.{seq, rule}
use Rattle.text_reader.specs.Moving.{IsNamedAt}
use Rattle.text_reader.specs.declared.reader.Reader.{Reader}
use Rattle.text_reader.specs.declared.outcome.Outcome.TheVariants.{Well}
use Rattle.text_values.specs.TraceGrammar.{Rule, lists_at, named_port, subscripts, is_head}
use Rattle.est_trace.specs.PortNames.{IsHeadOf, port_name}
use Rattle.est_trace.specs.inside.Lookups.{IsChosen, Chooses}
use Rattle.est_trace.specs.inside.Parts.{IsPortAt}
use Rattle.est_trace.proofs.Choices.{chosen, no_word, none_named}
use Rattle.est_trace.proofs.Parts.{chosen_well}
use Rattle.est_trace.proofs.SameTests.{same_head}

module _ (ports : List Port) where
  -- what stands after the name of a head
  abbrev pub after_head : Port → Rule
  after_head p = seq (subscripts p.index_kinds) (rule (lists_at ports (Some p.signals)))

  module _ (tk : Tokens) (at : ℕ) where
    pub unnamed : IsNamedAt tk at None → IsChosen (named_port ports) ports tk at None
    unnamed s = no_word port_name is_head after_head ports tk at s

    pub head_named : (bytes : List ℕ) (o : Option ℕ) → IsNamedAt tk at (Some bytes)
        → IsHeadOf bytes ports o → IsChosen (named_port ports) ports tk at o
    head_named bytes (Some n) s h = chosen port_name is_head after_head ports tk at bytes n h.0 s
        h.1 h.2 (sym (same_head h.0) ∙ h.3)
    head_named bytes None s h = none_named port_name is_head after_head ports tk at bytes s
        (λ j y e w k. h j y e k)

-- a head that is chosen is there
pub head_there : (ports : List Port) {A B : Reader} {n : ℕ}
    → Chooses (named_port ports) ports A n B → B.outcome ≡ Well → IsPortAt ports n
head_there ports x w = let r = chosen_well (named_port ports) ports x w in (r.0, r.1)
