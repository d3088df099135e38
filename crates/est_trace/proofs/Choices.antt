-- From the item of a name to the alternative that its token begins.
use Rattle.std.proofs.Common.{inl, ◌≡◌, ℕ, Bool, true, List, sym, ◌∙◌, Some, None, slice_get}
use Rattle.std.proofs.lemmas.Slice.Eq.{bytes_eq-Decides}
use Rattle.est_lexer.specs.declared.tokens.Tokens.{Tokens}
use Rattle.est_lexer.specs.Offsets.{text_of, tokens_of}
use Rattle.text_reader.specs.Grammar.{word}
use Rattle.text_reader.proofs.GrammarLaws as laws
use Rattle.text_reader.proofs.Exits.{not_met}
use Rattle.text_reader.specs.Tests.{named, holds, stands}
use Rattle.text_reader.specs.Moving.{IsNamedAt}
use Rattle.text_values.specs.TraceGrammar.{Rule, marks}
use Rattle.est_trace.specs.TraceText.{traces}
use Rattle.est_trace.specs.inside.Lookups.{IsChosen}
use Rattle.est_trace.proofs.Names.{named_item, item_begun}

module _ {A : Type 0} (name : A → List ℕ) (allowed : A → Bool) (rest : A → Rule) (xs : List A)
    (tokens : Tokens) (at : ℕ) where
  pub chosen : (bytes : List ℕ) (i : ℕ) (x : A) → IsNamedAt tokens at (Some bytes)
      → slice_get xs i ≡ Some x → name x ≡ bytes → allowed x ≡ true
      → IsChosen (named_item name allowed rest) xs tokens at (Some i)
  chosen bytes i x s e n w = (
    x,
    e,
    laws.when_meets (holds (text_of tokens)) marks (allowed x)
        (word (named (name x)) (rest x)) (slice_get (tokens_of tokens) at) w
        (inl (s (name x) ∙ (bytes_eq-Decides (name x) bytes).1 n)),
  )

  none_chosen : ((j : ℕ) (y : A) → slice_get xs j ≡ Some y → allowed y ≡ true
      → stands tokens at (named (name y)) ≡ true → ⊥)
      → IsChosen (named_item name allowed rest) xs tokens at None
  none_chosen h m =
      let r = laws.one_of_begins (traces (text_of tokens)) marks (named_item name allowed rest) xs
      (slice_get (tokens_of tokens) at) m in
      let b = item_begun name allowed rest (text_of tokens) r.1 (slice_get (tokens_of tokens) at)
      r.3 in
      h r.0 r.1 r.2 b.0 b.1

  pub no_word : IsNamedAt tokens at None → IsChosen (named_item name allowed rest) xs tokens at None
  no_word s = none_chosen (λ j y e w k. not_met (s (name y)) k)

  pub none_named : (bytes : List ℕ) → IsNamedAt tokens at (Some bytes)
      → ((j : ℕ) (y : A) → slice_get xs j ≡ Some y → allowed y ≡ true → name y ≡ bytes → ⊥)
      → IsChosen (named_item name allowed rest) xs tokens at None
  none_named bytes s h = none_chosen (λ j y e w k. h j y e w
      ((bytes_eq-Decides (name y) bytes).0 (sym (s (name y)) ∙ k)))
