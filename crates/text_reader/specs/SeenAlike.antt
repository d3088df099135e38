-- Lists of tokens between which neither a test nor a tree can tell a difference.
use Rattle.std.specs.Prelude.{◌≡◌, ℕ, ◌<◌, List, slice_get}
use Rattle.text_reader.specs.Grammar.{Language, meets, Keeps}

-- Two languages with the same productions. Up to place n each token of the one list meets the tests
-- that the token of the other list meets at the same place, and a tree keeps the same of both.
pub record AreSeenAlike {Token V T P : Type 0} (L M : Language Token V T P) (s r : List Token)
    (n : ℕ) : Type 0 where
  pub productions : (p : P) → L.production p ≡ M.production p
  pub tests : (a : ℕ) → a < n → (k : T)
      → meets L.holds k (slice_get s a) ≡ meets M.holds k (slice_get r a)
  pub kept : (a : ℕ) → a < n → (v : V) → Keeps L s a v → Keeps M r a v
  pub kept_back : (a : ℕ) → a < n → (v : V) → Keeps M r a v → Keeps L s a v
