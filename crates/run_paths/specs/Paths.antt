-- The way of a search from the start to where it stands.
use Rattle.std.specs.Prelude.{◌≡◌, ℕ, ◌+◌, ◌<◌, ◌≤◌, List, [], ◌∷◌, ◌++◌, length, reverse}
use Rattle.est_meaning.specs.Order.{StartsWith}
use Rattle.run_paths.specs.declared.path.Stage.{Stage}
use Rattle.run_paths.specs.declared.path.Stage.TheVariants.{Fresh}
use Rattle.run_paths.specs.declared.path.Level.{Level}
use Rattle.run_paths.specs.declared.path.Path.{Path}
use Rattle.run_paths.specs.declared.path.Best.{Best}

-- a path, each list of it from its last item back
pub record View (M T : Type 0) : Type 0 where
  pub stage : Stage
  pub top : Level
  pub lower : List Level
  pub moves : List M
  pub tries : List T

abbrev pub view_of : {M T : Type 0} → Path M T → View M T
view_of path = record {
  stage = path.stage;
  top = path.top;
  lower = reverse path.lower.items;
  moves = reverse path.moves.items;
  tries = reverse path.tries.items;
}

-- the path of the run without moves, which has so many events
abbrev pub first_view : {M T : Type 0} → ℕ → View M T
first_view matched = record {
  stage = Fresh;
  top = record { matched = matched; silent = 0; left = 0 };
  lower = [];
  moves = [];
  tries = [];
}

-- CHANGES

-- one move more was made
abbrev pub entered : {M T : Type 0} → View M T → M → ℕ → ℕ → View M T
entered v made matched silent = record {
  stage = Fresh;
  top = record { matched = matched; silent = silent; left = 0 };
  lower = v.top ∷ v.lower;
  moves = made ∷ v.moves;
  tries = v.tries;
}

-- these are to be tried
abbrev pub with_tries : {M T : Type 0} → View M T → Stage → List T → View M T
with_tries v stage tries = record v {
  stage = stage;
  top = record v.top { left = length tries };
  tries = tries ++ v.tries;
}

-- the next one is taken from those to be tried
pub record IsNext {M T : Type 0} (v : View M T) (t : T) (w : View M T) : Type 0 where
  pub left : ℕ
  pub tries : List T
  pub left_is : v.top.left ≡ left + 1
  pub tries_are : v.tries ≡ t ∷ tries
  pub next_is : w ≡ record v { top = record v.top { left = left }; tries = tries }

-- the last move is undone
pub record IsUndone {M T : Type 0} (v : View M T) (made : M) (w : View M T) : Type 0 where
  pub lower : v.lower ≡ w.top ∷ w.lower
  pub moves : v.moves ≡ made ∷ w.moves
  pub tries : w.tries ≡ v.tries
  pub stage : w.stage ≡ v.stage

-- THE BEST RUN

-- a run is the first moves of the path, and then those that are kept
pub record IsKept {M : Type 0} (moves : List M) (best : Best M) (run : List M) : Type 0 where
  pub start : List M
  pub starts : StartsWith moves start
  pub common : length start ≡ best.common
  pub run_is : run ≡ best.tail.items ++ start

-- the best run, after one that yields k: so many moves of the path and this one more
pub record HasReached {M : Type 0} (old new : Best M) (made : ℕ) (last : M) (k : ℕ)
    : Type 0 where
  pub less : k ≤ old.yields → new ≡ old
  pub more : old.yields < k
      → (new.yields ≡ k) × (new.common ≡ made) × (new.tail.items ≡ last ∷ [])

-- the best run, where of the path so many moves are left: the one that is undone may belong to it
pub record HasKept {M : Type 0} (old new : Best M) (left : ℕ) (undone : M) : Type 0 where
  pub apart : old.common ≤ left → new ≡ old
  pub shared : left < old.common → (new.yields ≡ old.yields) × (new.common ≡ left)
      × (new.tail.items ≡ old.tail.items ++ undone ∷ [])
