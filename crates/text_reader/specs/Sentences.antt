-- Sentences of a grammar, and the first bad place of a list of tokens that is no sentence.
use Rattle.std.specs.Prelude.{ℕ, ◌+◌, ◌<◌, ◌≤◌, List, length}
use Rattle.text_reader.specs.Grammar.{Grammar, Language, Shape, Tree, Partial}

-- the whole list has a tree by g of this shape, with d levels to open
abbrev pub HasTree : {Token V T P : Type 0} → Language Token V T P → Grammar T P → ℕ → List Token
    → Shape V → Type 0
HasTree L g d s t = Tree L s (length s) g d 0 (length s) t

-- the first n tokens have a partial tree by g, with d levels to open
abbrev pub HasPartial : {Token V T P : Type 0} → Language Token V T P → Grammar T P → ℕ → List Token
    → ℕ → Type 0
HasPartial L g d s n = Partial L s n g d 0

-- Place i is the first bad one of a list without a tree: what stands before it is a partial tree,
-- and with the token at it there is none. Where the whole list is a partial tree, it is the place
-- after the last token.
pub record IsFirstBadPlace {Token V T P : Type 0} (L : Language Token V T P) (g : Grammar T P)
    (d : ℕ) (s : List Token) (i : ℕ) : Type 0 where
  pub no_tree : (t : Shape V) → HasTree L g d s t → ⊥
  pub inside : i ≤ length s
  pub front : HasPartial L g d s i
  pub no_more : i < length s → HasPartial L g d s (i + 1) → ⊥
