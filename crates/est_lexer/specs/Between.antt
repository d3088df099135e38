use Rattle.std.specs.Prelude.{◌≡◌, ℕ, Bool, true, List, ◌+◌, ◌<◌, ◌≤◌}
use Rattle.std.specs.Prelude.{◌==◌, ◌||◌, ◌&&◌, slice_index, if◌then◌else◌}
use Rattle.std.specs.Str.{byte}

-- A blank is a tab, a line feed, a form feed, a carriage return or a space.
abbrev pub is_blank : ℕ → Bool
is_blank b = (b == 9) || (b == 10) || (b == 12) || (b == 13) || (b == 32)

-- How many bytes the mark has that begins a comment at a place, `{` or `(*`: 0 where none stands
-- there (ISO 7185, 6.1.8).
unfoldable pub opening : List ℕ → ℕ → ℕ
opening text place = if slice_index text place == byte "{" then 1 else if
    (slice_index text place == byte "(") && (slice_index text (place + 1) == byte "*") then 2 else 0

-- How many bytes the mark has that ends a comment at a place, `}` or `*)`: 0 where none stands
-- there (ISO 7185, 6.1.8).
unfoldable pub closing : List ℕ → ℕ → ℕ
closing text place = if slice_index text place == byte "}" then 1 else if
    (slice_index text place == byte "*") && (slice_index text (place + 1) == byte ")") then 2 else 0

-- The first mark from a place on that ends a comment ends at `to`.
pub record IsFirstEnd (text : List ℕ) (from to : ℕ) : Type 0 where
  pub mark : ℕ
  pub onward : from ≤ mark
  pub first : (place : ℕ) → from ≤ place → place < mark → closing text place ≡ 0
  pub ends : 0 < closing text mark
  pub whole : to ≡ mark + closing text mark

-- No mark from a place on ends a comment.
pub record IsUnended (text : List ℕ) (from : ℕ) : Type 0 where
  pub none : (mark : ℕ) → from ≤ mark → closing text mark ≡ 0

-- From one place up to another stands one comment: a mark that begins it, and all up to the first
-- mark after that which ends one, whichever began it.
pub record IsComment (text : List ℕ) (from to : ℕ) : Type 0 where
  pub begins : 0 < opening text from
  pub ended : IsFirstEnd text (from + opening text from) to

-- A comment begins at a place, and nothing after its mark ends it.
pub record IsOpenComment (text : List ℕ) (place : ℕ) : Type 0 where
  pub begins : 0 < opening text place
  pub unended : IsUnended text (place + opening text place)

-- From one place up to another stand blanks and comments, in any order and number, and nothing
-- else.
pub data IsBetween (text : List ℕ) : ℕ → ℕ → Type 0 where
  nothing : (place : ℕ) → IsBetween text place place
  blank : (from to : ℕ) → is_blank (slice_index text from) ≡ true → IsBetween text (from + 1) to
      → IsBetween text from to
  comment : (from middle to : ℕ) → IsComment text from middle → IsBetween text middle to
      → IsBetween text from to
