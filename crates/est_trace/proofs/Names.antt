-- Alternatives that begin with names.
use Rattle.std.proofs.Common.{◌≡◌, ℕ, Bool, true, false, List, [], ◌∷◌, Option, Some, refl}
use Rattle.std.proofs.Common.{slice_get, inl, inr}
use Rattle.std.proofs.lemmas.Slice.Eq.{bytes_eq-Decides}
use Rattle.est_lexer.specs.declared.kind.Token.{Token}
use Rattle.text_reader.specs.Grammar.{meets, when, word}
use Rattle.text_reader.specs.Marks.{MeetsOne, can_begin, can_be_empty}
use Rattle.text_reader.proofs.GrammarLaws.{IsDistinct, when_begins, when_solid}
use Rattle.text_reader.specs.Tests.{Test, named, holds}
use Rattle.text_reader.proofs.Apart.{one_name}
use Rattle.text_values.specs.TraceGrammar.{Rule, marks}
use Rattle.est_trace.specs.TraceText.{traces}

-- a token that meets one of a single test
pub only_one : (text : List ℕ) (k : Test) (o : Option Token) → MeetsOne (holds text) o (k ∷ [])
    → meets (holds text) k o ≡ true
only_one text k o (inl e) = e
only_one text k o (inr e) = elim e [ ]

-- of the items that are allowed, no two have one name
abbrev pub AreTold : {A : Type 0} → (A → List ℕ) → (A → Bool) → List A → Type 0
AreTold {A} name allowed xs =
    (i j : ℕ) (x y : A) → slice_get xs i ≡ Some x → slice_get xs j ≡ Some y → allowed x ≡ true
    → allowed y ≡ true → name x ≡ name y → i ≡ j

module _ {A : Type 0} (name : A → List ℕ) (allowed : A → Bool) (rest : A → Rule) where
  -- an item that is allowed: its name, and the rest
  abbrev pub named_item : A → Rule
  named_item x = when (allowed x) (word (named (name x)) (rest x))

  -- the token that begins an item
  pub item_begun : (text : List ℕ) (x : A) (o : Option Token)
      → MeetsOne (holds text) o (can_begin marks (named_item x))
      → (allowed x ≡ true) × (meets (holds text) (named (name x)) o ≡ true)
  item_begun text x o m =
      let b = when_begins (holds text) marks (allowed x) (word (named (name x)) (rest x)) o m in
      (b.0, only_one text (named (name x)) o b.1)

  pub item_solid : (x : A) → can_be_empty marks (named_item x) ≡ false
  item_solid x = when_solid marks (allowed x) (word (named (name x)) (rest x)) refl

  pub items_distinct : (text : List ℕ) (xs : List A) → AreTold name allowed xs
      → IsDistinct (traces text) marks named_item xs
  items_distinct text xs d o i j x y e e' m m' =
      let b = item_begun text x o m in
      let c = item_begun text y o m' in
      d i j x y e e' b.0 c.0 ((bytes_eq-Decides (name x) (name y)).0
      (one_name text (name x) (name y) o b.1 c.1))
