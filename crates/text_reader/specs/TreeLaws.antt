-- Laws of trees, partial trees and first bad places, as they stand on functions of this crate.
use Rattle.std.specs.Prelude.{◌≡◌, ℕ, suc, ◌+◌, ◌<◌, ◌≤◌, false, List, length}
use Rattle.text_reader.specs.Grammar.{Grammar, rep, Language, Shape, nothing, chain, Tree}
use Rattle.text_reader.specs.Marks.{Marks, Fits, can_be_empty}
use Rattle.text_reader.specs.Extents.{IsPlacedWithin, leaves}
use Rattle.text_reader.specs.Opening.{OpensOneMore}
use Rattle.text_reader.specs.Lookahead.{OneTokenDecides}
use Rattle.text_reader.specs.Sentences.{HasTree, HasPartial, IsFirstBadPlace}
use Rattle.text_reader.specs.Refusals.{Cause, wrong_at, too_deep_at, SaysWhy}
use Rattle.text_reader.specs.SeenAlike.{AreSeenAlike}

-- a list of tokens has at most one first bad place by a grammar
abbrev pub AtMostOneBadPlace : Type 0 → Type 0 → Type 0 → Type 0 → Type 0
AtMostOneBadPlace Token V T P = (L : Language Token V T P) (g : Grammar T P) (d : ℕ)
    (s : List Token) (i j : ℕ) → IsFirstBadPlace L g d s i → IsFirstBadPlace L g d s j → i ≡ j

-- the first n tokens of a list that has a tree have a partial tree, whatever n is
abbrev pub FrontsOfTree : Type 0 → Type 0 → Type 0 → Type 0 → Type 0
FrontsOfTree Token V T P = (L : Language Token V T P) (g : Grammar T P) (d : ℕ) (s : List Token)
    (t : Shape V) (n : ℕ) → n ≤ length s → HasTree L g d s t → HasPartial L g d s n

-- where the first n tokens have a partial tree, so have the first m, for each m up to n
abbrev pub FrontsOfPartial : Type 0 → Type 0 → Type 0 → Type 0 → Type 0
FrontsOfPartial Token V T P = (L : Language Token V T P) (g : Grammar T P) (d : ℕ) (s : List Token)
    (m n : ℕ) → m ≤ n → HasPartial L g d s n → HasPartial L g d s m

-- where one token decides each choice of a grammar and of the productions, by a table that says
-- enough of these, a list of tokens has at most one tree, whatever the levels
abbrev pub AtMostOneTree : Type 0 → Type 0 → Type 0 → Type 0 → Type 0
AtMostOneTree Token V T P = (L : Language Token V T P) (S : Marks T P) (g : Grammar T P) (d e : ℕ)
    (s : List Token) (t u : Shape V) → Fits L S → ((p : P) → OneTokenDecides L S (L.production p))
    → OneTokenDecides L S g → HasTree L g d s t → HasTree L g e s u → t ≡ u

-- the places that a tree keeps lie within it
abbrev pub PlacesLieWithin : Type 0 → Type 0 → Type 0 → Type 0 → Type 0
PlacesLieWithin Token V T P = (L : Language Token V T P) (g : Grammar T P) (d : ℕ) (s : List Token)
    (n a b : ℕ) (t : Shape V) → Tree L s n g d a b t → IsPlacedWithin a b t

-- each token that a tree keeps is one of those that it takes
abbrev pub LeavesAreTokens : Type 0 → Type 0 → Type 0 → Type 0 → Type 0
LeavesAreTokens Token V T P = (L : Language Token V T P) (g : Grammar T P) (d : ℕ) (s : List Token)
    (n a b : ℕ) (t : Shape V) → Tree L s n g d a b t → a + leaves t ≤ b

-- a tree by a grammar that cannot be empty, by a table that says enough, takes a token
abbrev pub TreesTakeTokens : Type 0 → Type 0 → Type 0 → Type 0 → Type 0
TreesTakeTokens Token V T P = (L : Language Token V T P) (S : Marks T P) (g : Grammar T P) (d : ℕ)
    (s : List Token) (n a b : ℕ) (t : Shape V) → Fits L S → can_be_empty S g ≡ false
    → Tree L s n g d a b t → a < b

-- and so does each turn of its repetition
abbrev pub TurnsTakeTokens : Type 0 → Type 0 → Type 0 → Type 0 → Type 0
TurnsTakeTokens Token V T P = (L : Language Token V T P) (S : Marks T P) (g : Grammar T P) (d : ℕ)
    (s : List Token) (n a b : ℕ) (ts : List (Shape V)) → Fits L S → can_be_empty S g ≡ false
    → Tree L s n (rep g) d a b (chain ts nothing) → a + length ts ≤ b

-- where a token opens one level more than there are, what stands before it is a partial tree with
-- these levels, and with it there is one with one level more
abbrev pub OpenersAreTold : Type 0 → Type 0 → Type 0 → Type 0 → Type 0
OpenersAreTold Token V T P = (L : Language Token V T P) (g : Grammar T P) (d : ℕ) (s : List Token)
    (i : ℕ) → OpensOneMore L s i g d 0
    → HasPartial L g d s i × HasPartial L g (d + 1) s (i + 1)

-- where two lists of one length are seen alike, what is a tree of the one is a tree of the other
abbrev pub SameTrees : Type 0 → Type 0 → Type 0 → Type 0 → Type 0
SameTrees Token V T P = (L M : Language Token V T P) (g : Grammar T P) (d : ℕ) (s r : List Token)
    (t : Shape V) → length s ≡ length r → AreSeenAlike L M s r (length s) → HasTree L g d s t
    → HasTree M g d r t

-- and what is said of the one is true of the other
abbrev pub SameCauses : Type 0 → Type 0 → Type 0 → Type 0 → Type 0
SameCauses Token V T P = (L M : Language Token V T P) (g : Grammar T P) (d : ℕ) (s r : List Token)
    (c : Cause) → length s ≡ length r → AreSeenAlike L M s r (length s) → SaysWhy L g d s c
    → SaysWhy M g d r c

-- a list that goes wrong at a token does so there whatever stands after it, and so does one for
-- which the token opens a level too many
abbrev pub RefusalsStay : Type 0 → Type 0 → Type 0 → Type 0 → Type 0
RefusalsStay Token V T P = (L M : Language Token V T P) (g : Grammar T P) (d : ℕ) (s r : List Token)
    (i : ℕ) → i < length s → i < length r → AreSeenAlike L M s r (suc i)
    → (SaysWhy L g d s (wrong_at i) → SaysWhy M g d r (wrong_at i))
    × (SaysWhy L g d s (too_deep_at i) → SaysWhy M g d r (too_deep_at i))
