-- What a reader finds of a grammar from a place on: one tree, or the place where it is refused.
use Rattle.std.specs.Prelude.{◌≡◌, ℕ, ◌<◌, ◌≤◌, Bool, true, false, List, length, slice_get}
use Rattle.text_reader.specs.Grammar.{Grammar, Language, Shape, Tree, Partial}
use Rattle.text_reader.specs.Opening.{OpensOneMore}
use Rattle.text_reader.specs.Marks.{MeetsOne, Marks, can_go_on}

-- A tree up to place c among the first n tokens is the one up to b, or it ends before b and the
-- token after it can go on.
pub data EndsNoLater {Token V T P : Type 0} (L : Language Token V T P) (S : Marks T P)
    (s : List Token) (g : Grammar T P) (n b : ℕ) (t : Shape V) (c : ℕ) (u : Shape V) : Type 0 where
  same : c ≡ b → u ≡ t → EndsNoLater L S s g n b t c u
  before : c < b → (c < n → MeetsOne L.holds (slice_get s c) (can_go_on S g))
      → EndsNoLater L S s g n b t c u

-- The tokens from place a up to b have a tree of the shape t with d levels, and neither another
-- tree nor a partial tree goes further.
pub record Found {Token V T P : Type 0} (L : Language Token V T P) (S : Marks T P) (s : List Token)
    (g : Grammar T P) (d a b : ℕ) (t : Shape V) : Type 0 where
  pub tree : Tree L s (length s) g d a b t
  pub inside : a ≤ length s
  pub only : (e n c : ℕ) (u : Shape V) → a ≤ n → n ≤ length s → Tree L s n g e a c u
      → EndsNoLater L S s g n b t c u
  pub most : (e n : ℕ) → a ≤ n → n ≤ length s → Partial L s n g e a → n ≤ b

-- the numbers of levels that a refusal speaks of: all of them, or where levels are wanting, those
-- that are no more than there are
abbrev pub SpeaksOf : Bool → ℕ → ℕ → Type 0
SpeaksOf false d e = Unit {0}
SpeaksOf true d e = e ≤ d

-- The tokens from place a up to i have a partial tree with d levels, and no partial tree goes
-- further; where levels are wanting (deep), the token at i opens one more.
pub record Refused {Token V T P : Type 0} (L : Language Token V T P) (S : Marks T P)
    (s : List Token) (g : Grammar T P) (d a i : ℕ) (deep : Bool) : Type 0 where
  pub partial : Partial L s i g d a
  pub inside : i ≤ length s
  pub only : (e n c : ℕ) (u : Shape V) → SpeaksOf deep d e → a ≤ n → n ≤ length s
      → Tree L s n g e a c u → (c ≤ i) × (c < n → MeetsOne L.holds (slice_get s c) (can_go_on S g))
      × (c < length s)
  pub most : (e n : ℕ) → SpeaksOf deep d e → a ≤ n → n ≤ length s → Partial L s n g e a → n ≤ i
  pub more : deep ≡ true → (i < length s) × OpensOneMore L s i g d a
