-- What a reader of a whole text tells.
use Rattle.std.specs.Prelude.{◌≡◌, ℕ, List, length, Result, Ok, Err}
use Rattle.est_lexer.specs.declared.kind.Token.{Token}
use Rattle.est_lexer.specs.declared.tokens.Tokens.{Tokens}
use Rattle.est_lexer.specs.Offsets.{tokens_of}
use Rattle.text_reader.specs.Refusals.{Cause, unsaid, wrong_at, too_deep_at}
use Rattle.text_reader.specs.Sentences.{HasTree}
use Rattle.text_reader.specs.Shown.{Shows}
use Rattle.text_reader.specs.declared.reader.Reader.{Reader}
use Rattle.text_reader.specs.declared.outcome.Outcome.{Outcome}
use Rattle.text_reader.specs.declared.outcome.Outcome.TheVariants.{Well, Wrong, TooDeep, NoMemory}
use Rattle.text_reader.specs.declared.refusal.Refusal.{Refusal}
use Rattle.text_reader.specs.declared.refusal.Refusal.TheVariants as refusal
use Rattle.text_reader.specs.Tests.{language}
use Rattle.text_reader.specs.Going.{Rule, Shape, View}

-- a reader at the first of these tokens, with so many levels to open
pub record Starts (tokens : Tokens) (d : ℕ) (reader : Reader) : Type 0 where
  pub tokens_are : reader.tokens.now ≡ tokens
  pub at : reader.at ≡ 0
  pub levels : reader.levels ≡ d
  pub well : reader.outcome ≡ Well

-- Why not all of n tokens were read, where a reading came to this outcome at a place. Where all went
-- well, tokens are left.
abbrev pub StopsFor : Outcome → (at n : ℕ) → Refusal → Type 0
StopsFor Well at n (refusal.BadToken place) = (place ≡ at) × (at ≡ n → ⊥)
StopsFor Wrong at n (refusal.BadToken place) = place ≡ at
StopsFor TooDeep at n (refusal.TooDeep place) = place ≡ at
StopsFor NoMemory at n (refusal.Memory error) = Unit {0}
StopsFor _ at n _ = ⊥

-- what is told at the end of the reading of a value: this value, where all went well and all tokens
-- are taken; or why not
abbrev pub Finishes : {T : Type 0} → Reader → T → Result T Refusal → Type 0
Finishes reader value (Ok kept) = (kept ≡ value) × (reader.outcome ≡ Well)
    × (reader.at ≡ length (tokens_of reader.tokens.now))
Finishes reader value (Err error) =
    StopsFor reader.outcome reader.at (length (tokens_of reader.tokens.now)) error

-- what a refusal says of the tokens
abbrev pub cause_of : Refusal → Cause
cause_of (refusal.BadToken place) = wrong_at place
cause_of (refusal.TooDeep place) = too_deep_at place
cause_of (refusal.Memory error) = unsaid

-- the tokens of a text have a tree by g with d levels to open, whose shape the view shows
abbrev pub IsTreeOf : {P N : Type 0} → (P → Rule P) → (N → View N) → List ℕ → List Token → Rule P
    → ℕ → View N → Type 0
IsTreeOf production layer text tokens g d v =
    (t : Shape) × HasTree (language production text) g d tokens t × Shows layer v t

-- The tokens of a text have one tree by g with d levels to open, and of all values, each with its
-- view, this is the one that shows its shape.
pub record IsReadAs {I P N : Type 0} (production : P → Rule P) (layer : N → View N)
    (text : List ℕ) (tokens : List Token) (g : Rule P) (d : ℕ) (view : I → View N) (value : I)
    : Type 0 where
  pub shape : Shape
  pub tree : HasTree (language production text) g d tokens shape
  pub shows : Shows layer (view value) shape
  pub only_tree : (t : Shape) → HasTree (language production text) g d tokens t → t ≡ shape
  pub only_value : (other : I) → IsTreeOf production layer text tokens g d (view other)
      → other ≡ value
