-- What the look-up of a name answers.
use Rattle.std.specs.Prelude.{◌≡◌, ℕ, ◌+◌, false, Option, Some, None, List, slice_get}
use Rattle.est_lexer.specs.declared.tokens.Tokens.{Tokens}
use Rattle.est_lexer.specs.Offsets.{text_of, tokens_of}
use Rattle.text_reader.specs.Grammar.{one_of}
use Rattle.text_reader.specs.Marks.{MeetsOne, can_begin}
use Rattle.text_reader.specs.declared.reader.Reader.{Reader}
use Rattle.text_reader.specs.declared.outcome.Outcome.TheVariants.{Well}
use Rattle.text_reader.specs.Tests.{holds}
use Rattle.text_reader.specs.Moving.{Does, Same}
use Rattle.text_values.specs.TraceGrammar.{Rule, marks}

-- the token at the place begins g
abbrev pub Begins : Tokens → ℕ → Rule → Type 0
Begins tokens at g =
    MeetsOne (holds (text_of tokens)) (slice_get (tokens_of tokens) at) (can_begin marks g)

-- the number of the item whose alternative the token at the place begins, or none where it begins
-- no alternative
abbrev pub IsChosen : {A : Type 0} → (A → Rule) → List A → Tokens → ℕ → Option ℕ → Type 0
IsChosen {A} f xs tokens at (Some i) = (x : A) × (slice_get xs i ≡ Some x) × Begins tokens at (f x)
IsChosen f xs tokens at None = Begins tokens at (one_of f xs) → ⊥

-- where all goes well, the answer is the number of the item that the token at the place begins
abbrev pub Finds : {A : Type 0} → (A → Rule) → List A → Reader → Option ℕ → Reader → Type 0
Finds f xs old answer new = new.outcome ≡ Well → IsChosen f xs old.tokens.now old.at answer

-- the token that begins an item's alternative is taken, and the answer is the number of the item;
-- or the token begins none
pub record Chooses {A : Type 0} (f : A → Rule) (xs : List A) (old : Reader) (n : ℕ)
    (new : Reader) : Type 0 where
  pub chooses : Does
      (λ b. IsChosen f xs old.tokens.now old.at (Some n) × (b ≡ old.at + 1))
      (λ b z. IsChosen f xs old.tokens.now old.at None × (b ≡ old.at) × (z ≡ false))
      old.at old.outcome new.at new.outcome
  pub same : Same old new
