-- Parents are older than their children, and those who descend from an instance go with it.
use Rattle.std.specs.Prelude.{◌≡◌, ℕ, ◌<◌, Bool, true, false, List, [], ◌∷◌, Some, ◌⊎◌}
use Rattle.std.specs.List.{AllByRecursion}
use Rattle.est_syntax.specs.declared.statement.Statement.{Statement}
use Rattle.mean_blocks.specs.declared.situation.Holding.{Holding}
use Rattle.mean_blocks.specs.declared.situation.Row.{Row}
use Rattle.mean_blocks.specs.TextByPlace.{Text}
use Rattle.mean_blocks.specs.GlobalSituation.{Situation, lives}
use Rattle.mean_blocks.specs.InstanceEffects.{is_among, descendants, released}
use Rattle.mean_blocks.specs.KeepingLaws.{Keeping, Between, AreNumbered}
use Rattle.mean_blocks.specs.StatementEffects.{statements_in}
use Rattle.mean_blocks.specs.BlockLevels.{site}
use Rattle.est_meaning.specs.TransitionSelection.{IsAncestor}

-- Blocks of an instance keep a relation, which may depend on the instance: its statements, with the
-- calls and initialize parts that they begin, within a function or not, however many levels are
-- left.
abbrev pub InstancesKeep : (ℕ → Situation → Situation → Type 0) → Type 0
InstancesKeep R = (t : Text) (n : ℕ) (function : Bool) (levels : ℕ) (xs : List Statement)
    → Keeping (Between (R n)) (statements_in xs (site t n function levels))

-- what an element of a module variable was given last is younger than an instance
abbrev pub IsYounger : ℕ → Holding → Type 0
IsYounger n h = (m : ℕ) → h.number ≡ Some m → n < m

-- an instance is younger than its parent, and older than what its module variables were given
abbrev pub IsBetween : Row → Type 0
IsBetween r = (r.parent < r.number) × AllByRecursion (IsYounger r.number) r.children

-- so is each of these
abbrev pub AreInAge : List Row → Type 0
AreInAge rs = AllByRecursion IsBetween rs

-- Instances stay older than their children, whatever blocks do of an instance that was begun. It
-- was begun where its number is below that of the next one; the number 0, of which the root is a
-- child, counts as one that was.
abbrev pub KeepsAge : ℕ → Situation → Situation → Type 0
KeepsAge n s u = n < s.next → AreInAge s.rows → AreInAge u.rows

abbrev pub ParentsStayOlder : Type 0
ParentsStayOlder = InstancesKeep KeepsAge

-- a row is one of these
abbrev pub IsRowOf : List Row → Row → Type 0
IsRowOf [] r = ⊥
IsRowOf (x ∷ xs) r = (x ≡ r) ⊎ IsRowOf xs r

-- an ancestor has the smaller number
abbrev pub AncestorsAreOlder : Type 0
AncestorsAreOlder = (s : Situation) (n m : ℕ) → AreInAge s.rows → IsAncestor s n m → n < m

-- so no instance is its own ancestor
abbrev pub NoneIsItsAncestor : Type 0
NoneIsItsAncestor = (s : Situation) (n : ℕ) → AreInAge s.rows → IsAncestor s n n → ⊥

-- RELEASE

-- an instance goes where another one is released (ISO 9074, release-statement)
abbrev pub GoesWith : Situation → ℕ → ℕ → Type 0
GoesWith s n m = is_among (descendants (n ∷ []) s.rows) m ≡ true

-- who goes is the one that is released, or descends from it
abbrev pub ThoseWhoGoDescend : Type 0
ThoseWhoGoDescend = (s : Situation) (n m : ℕ) → AreNumbered s → GoesWith s n m
    → (m ≡ n) ⊎ IsAncestor s n m

-- it goes itself, and who descends from it goes, where parents are older than their children
pub record DescendantsGo : Type 0 where
  pub itself : (s : Situation) (n : ℕ) → GoesWith s n n
  pub below : (s : Situation) (n m : ℕ) → AreNumbered s → AreInAge s.rows → IsAncestor s n m
      → GoesWith s n m

-- So a release ends the instance and those that descend from it, and leaves all others as they are,
-- living or not.
pub record ReleaseEndsDescendants : Type 0 where
  pub ended : (t : Text) (s : Situation) (n m : ℕ) → AreNumbered s → AreInAge s.rows
      → (m ≡ n) ⊎ IsAncestor s n m → lives (released t n s) m ≡ false
  pub left : (t : Text) (s : Situation) (n m : ℕ) → AreNumbered s
      → ((m ≡ n) ⊎ IsAncestor s n m → ⊥) → lives (released t n s) m ≡ lives s m
