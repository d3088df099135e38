-- The words that ask for a trace.
use Rattle.std.specs.Prelude.{◌≡◌, ◌≢◌, ℕ, List, [], ◌∷◌, codes, String}
use Rattle.std.specs.Global.{Global}
use Rattle.call_files.specs.Requests.{AreRecipe, bytes_of}

-- The words ask for a trace of the specification in a file, of this seed and with at least so many
-- events: they are `trace`, the name of the file, which is not empty, and the two numbers.
pub record AsksForTrace (words : List (List ℕ)) (specification : List ℕ) (seed count : ℕ)
    : Type 0 where
  pub first : List ℕ
  pub second : List ℕ
  pub are : words ≡ codes "trace" ∷ specification ∷ first ∷ second ∷ []
  pub named : specification ≢ []
  pub recipe : AreRecipe first second seed count

-- the words ask for no trace
abbrev pub AsksForNoTrace : List (String Global) → Type 0
AsksForNoTrace words = (specification : List ℕ) (seed count : ℕ)
    → AsksForTrace (bytes_of words) specification seed count → ⊥
