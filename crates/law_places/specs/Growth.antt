-- How an outline grows by what stands between two places of a text, and what stays in it.
use Rattle.std.specs.Prelude.{◌≡◌, ℕ, ◌<◌, ◌≤◌, Bool, true, false, ◌&&◌, List}
use Rattle.std.specs.Prelude.{Option, Some, None, ◌⊎◌}
use Rattle.est_syntax.specs.declared.name.Used.{Used}
use Rattle.rule_scope.specs.declared.declaration.Sort.{Sort}
use Rattle.rule_scope.specs.declared.declaration.Sort.TheVariants as sort
use Rattle.rule_scope.specs.declared.declaration.Entry.{Entry}
use Rattle.rule_scope.specs.declared.declaration.Member.{Member}
use Rattle.rule_scope.specs.declared.declaration.Standing.{Standing}
use Rattle.rule_scope.specs.declared.declaration.Within.{Within}
use Rattle.rule_scope.specs.Outline.{Outline, standing, entry_at, member_at, extent_at}
use Rattle.rule_scope.specs.Declaring.{declared, put, amended, lying}

-- whether more becomes known of a declaration of this sort after its name is in force: the kind of
-- a function and whether a routine is closed, and the header of a body
abbrev pub is_completed : Sort → Bool
is_completed sort.Procedure = true
is_completed sort.Function = true
is_completed sort.Body = true
is_completed _ = false

-- a change of what is known of a declaration leaves its sort and its body
abbrev pub KeepsSort : (Entry → Entry) → Type 0
KeepsSort f = (e : Entry) → (f e).declared ≡ e.declared

-- what is declared at a place, if anything is, is of a sort that is completed
abbrev pub IsOfCompleted : Outline → ℕ → Type 0
IsOfCompleted o place = (e : Entry) → entry_at o place ≡ Some e
    → is_completed e.declared.sort ≡ true

-- every region
abbrev pub Anywhere : ℕ → Type 0
Anywhere region = Unit {0}

-- a region may get names: it is one of those that are open, or the region of what stands from
-- place a on
abbrev pub IsOpen : (ℕ → Type 0) → ℕ → ℕ → Type 0
IsOpen R a region = R region ⊎ (a ≤ region)

-- An outline grows by declarations that stand from place a on and before place b, in regions that
-- are open, and the text lies anew from places between them; while a text is unfinished, what is
-- known of a routine or a body around it may be completed too.
module _ (R : ℕ → Type 0) (unfinished : Bool) (a b : ℕ) where
  pub data Grows : Outline → Outline → Type 0 where
    g_not : {o : Outline} → Grows o o
    g_then : {o x p : Outline} → Grows o x → Grows x p → Grows o p
    g_declared : {o : Outline} (w : Within) → IsOpen R a w.region → (u : Used) (last : ℕ)
        (e : Entry) → a ≤ u.place → u.place < b → u.place ≤ last
        → Grows o (declared w u last e o)
    g_put : {o : Outline} (region : ℕ) → IsOpen R a region → (u : Used) (m : Member)
        → a ≤ u.place → u.place < b → Grows o (put region u m o)
    g_amended : {o : Outline} (f : Entry → Entry) (place : ℕ) → a ≤ place → KeepsSort f
        → Grows o (amended f place o)
    g_completed : {o : Outline} (f : Entry → Entry) (place : ℕ) → unfinished ≡ true → KeepsSort f
        → IsOfCompleted o place → Grows o (amended f place o)
    g_lying : {o : Outline} (w : Within) (place : ℕ) → a ≤ place → place ≤ b
        → Grows o (lying w place o)

-- what is known of a declaration later: the same, or, while a text is unfinished, the same sort and
-- body at least where it is of a sort that is completed
abbrev pub IsLike : Bool → Entry → Entry → Type 0
IsLike unfinished e f = (f.declared ≡ e.declared)
    × ((unfinished && is_completed e.declared.sort) ≡ false → f ≡ e)

-- what is declared at a place later, likewise, and nothing where nothing is
abbrev pub AreLike : Bool → Option Entry → Option Entry → Type 0
AreLike unfinished None y = y ≡ None
AreLike unfinished (Some e) y = (f : Entry) × (y ≡ Some f) × IsLike unfinished e f

-- What an outline has that grew from another by declarations between the places a and b.
pub record Follows (R : ℕ → Type 0) (unfinished : Bool) (a b : ℕ) (o p : Outline)
    : Type 0 where
  -- before place a the text lies in the same regions
  pub extents : (place : ℕ) → place < a → extent_at p.extents place ≡ extent_at o.extents place
  -- what stands in a region stands there still
  pub stands : (region : ℕ) (name : List ℕ) (s : Standing) → standing o region name ≡ Some s
      → standing p region name ≡ Some s
  -- a name that is new stands between the two places, and is in force after itself
  pub news : (region : ℕ) (name : List ℕ) (s : Standing) → standing o region name ≡ None
      → standing p region name ≡ Some s → (a ≤ s.place) × (s.place < b) × (s.place ≤ s.last)
  -- a region before place a that is not open gets no names
  pub apart : (region : ℕ) → region < a → (R region → ⊥) → (name : List ℕ)
      → standing o region name ≡ None → standing p region name ≡ None
  -- what is declared before place a is known as it was
  pub entries : (place : ℕ) → place < a → AreLike unfinished (entry_at o place) (entry_at p place)
  -- nothing is declared from place b on that was not
  pub after : (place : ℕ) → b ≤ place → entry_at o place ≡ None → entry_at p place ≡ None
  -- the names of channels and records before place a are the same
  pub members : (place : ℕ) → place < a → member_at p place ≡ member_at o place

-- all that an outline has stands before this place
pub record IsBefore (a : ℕ) (o : Outline) : Type 0 where
  pub names : (region : ℕ) (name : List ℕ) (s : Standing) → standing o region name ≡ Some s
      → s.place < a
  pub declarations : (place : ℕ) → a ≤ place → entry_at o place ≡ None
