-- What is looked up in an outline is found in a later one alike.
use Rattle.std.specs.Prelude.{◌≡◌, ℕ, ◌<◌, ◌≤◌, true, false, List}
use Rattle.std.specs.Prelude.{Some, None, is_some}
use Rattle.est_syntax.specs.declared.name.Used.{Used}
use Rattle.rule_scope.specs.declared.declaration.Sort.{Sort}
use Rattle.rule_scope.specs.declared.declaration.Standing.{Standing}
use Rattle.rule_scope.specs.Outline.{Outline, standing, entry_at, member_at, extent_at}
use Rattle.rule_scope.specs.Uses.{declaration_of}
use Rattle.rule_kinds.specs.Constants.{named_value}
use Rattle.rule_kinds.specs.TypeTexts.{named_type}
use Rattle.law_places.specs.Growth.{is_completed, AreLike}

-- An outline is later than another for what is looked up at the places up to c, and declared before
-- place a.
pub record Later (a c : ℕ) (o p : Outline) : Type 0 where
  -- up to place c the text lies in the same regions
  pub extents : (place : ℕ) → place ≤ c → extent_at p.extents place ≡ extent_at o.extents place
  -- what stands in a region stands there still
  pub stands : (region : ℕ) (name : List ℕ) (s : Standing) → standing o region name ≡ Some s
      → standing p region name ≡ Some s
  -- a name that is new is not in force at place c
  pub news : (region : ℕ) (name : List ℕ) (s : Standing) → standing o region name ≡ None
      → standing p region name ≡ Some s → c ≤ s.last
  -- what is in force at place c is known as it was
  pub known : (region : ℕ) (name : List ℕ) (s : Standing) → standing o region name ≡ Some s
      → s.last < c → AreLike true (entry_at o s.place) (entry_at p s.place)
  -- what is declared before place a is declared still, and nothing else
  pub declares : (place : ℕ) → place < a
      → is_some (entry_at p place) ≡ is_some (entry_at o place)
  -- so are the names of channels and records
  pub members : (place : ℕ) → place < a
      → is_some (member_at p place) ≡ is_some (member_at o place)

-- a name up to place c means the same declaration, value and type in a later outline
abbrev pub MeaningsStay : Type 0
MeaningsStay = (a c : ℕ) (o p : Outline) (u : Used) → Later a c o p → u.place ≤ c
    → ((s : Sort) → is_completed s ≡ false → declaration_of p s u ≡ declaration_of o s u)
    × (named_value p u ≡ named_value o u) × (named_type p u ≡ named_type o u)
