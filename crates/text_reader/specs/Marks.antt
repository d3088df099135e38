-- What tokens can begin a tree or a partial tree of a grammar, and what tokens can go on after a
-- tree, as computed lists of tests.
use Rattle.std.specs.Prelude.{◌≡◌, Bool, true, false, cond, not, ◌&&◌}
use Rattle.std.specs.Prelude.{◌||◌, ◌⊎◌, List, [], ◌∷◌, ◌++◌, Option}
use Rattle.text_reader.specs.Grammar.{Grammar, done, none, word, token, here, skip, seq, alt}
use Rattle.text_reader.specs.Grammar.{opt, rep, nearest, ended, deeper, rule, Language, meets}

-- there is a token that meets one of the tests
abbrev pub MeetsOne : {Token T : Type 0} → (T → Token → Bool) → Option Token → List T → Type 0
MeetsOne holds o [] = ⊥
MeetsOne holds o (k ∷ ks) = (meets holds k o ≡ true) ⊎ MeetsOne holds o ks

-- no token meets a test of both lists
pub record Apart {Token V T P : Type 0} (L : Language Token V T P) (xs ys : List T) : Type 0 where
  pub none_meets : (o : Option Token) → MeetsOne L.holds o xs → MeetsOne L.holds o ys → ⊥

-- a token that meets one of these tests meets one of those
abbrev pub Within : {Token V T P : Type 0} → Language Token V T P → List T → List T → Type 0
Within {Token} L xs ys = (o : Option Token) → MeetsOne L.holds o xs → MeetsOne L.holds o ys

-- A table of the productions: the tests of a first token, those of a token that goes on after a
-- tree, and whether a tree can be empty.
pub record Marks (T P : Type 0) : Type 0 where
  pub starts : P → List T
  pub goes_on : P → List T
  pub is_empty : P → Bool

-- whether a tree by g can be empty, by the table
abbrev pub can_be_empty : {T P : Type 0} → Marks T P → Grammar T P → Bool
can_be_empty S done = true
can_be_empty S none = false
can_be_empty S (word k g) = false
can_be_empty S (token k) = false
can_be_empty S (here g) = can_be_empty S g
can_be_empty S (skip g) = can_be_empty S g
can_be_empty S (seq g h) = can_be_empty S g && can_be_empty S h
can_be_empty S (alt g h) = can_be_empty S g || can_be_empty S h
can_be_empty S (opt g) = true
can_be_empty S (rep g) = true
can_be_empty S (nearest k g) = true
can_be_empty S (ended k g) = true
can_be_empty S (deeper g) = can_be_empty S g
can_be_empty S (rule p) = S.is_empty p

-- the tests of the tokens that can begin a tree by g, by the table
abbrev pub can_begin : {T P : Type 0} → Marks T P → Grammar T P → List T
can_begin S done = []
can_begin S none = []
can_begin S (word k g) = k ∷ []
can_begin S (token k) = k ∷ []
can_begin S (here g) = can_begin S g
can_begin S (skip g) = can_begin S g
can_begin S (seq g h) = can_begin S g ++ cond (can_be_empty S g) (can_begin S h) []
can_begin S (alt g h) = can_begin S g ++ can_begin S h
can_begin S (opt g) = can_begin S g
can_begin S (rep g) = can_begin S g
can_begin S (nearest k g) = k ∷ []
can_begin S (ended k g) = k ∷ []
can_begin S (deeper g) = can_begin S g
can_begin S (rule p) = S.starts p

-- the tests of the tokens that can go on after a tree by g, where a longer tree begins with it, by
-- the table
abbrev pub can_go_on : {T P : Type 0} → Marks T P → Grammar T P → List T
can_go_on S done = []
can_go_on S none = []
can_go_on S (word k g) = can_go_on S g
can_go_on S (token k) = []
can_go_on S (here g) = can_go_on S g
can_go_on S (skip g) = can_go_on S g
can_go_on S (seq g h) = can_go_on S h ++ cond (can_be_empty S h) (can_go_on S g) []
can_go_on S (alt g h) = can_go_on S g ++ can_go_on S h
can_go_on S (opt g) = can_begin S g ++ can_go_on S g
can_go_on S (rep g) = can_begin S g ++ can_go_on S g
can_go_on S (nearest k g) = can_go_on S g
can_go_on S (ended k g) = k ∷ (can_begin S g ++ can_go_on S g)
can_go_on S (deeper g) = can_go_on S g
can_go_on S (rule p) = S.goes_on p

-- the table says enough of each production
pub record Fits {Token V T P : Type 0} (L : Language Token V T P) (S : Marks T P) : Type 0 where
  pub starts : (p : P) → Within L (can_begin S (L.production p)) (S.starts p)
  pub goes_on : (p : P) → Within L (can_go_on S (L.production p)) (S.goes_on p)
  pub is_empty : (p : P) → (not (can_be_empty S (L.production p)) || S.is_empty p) ≡ true

-- x is apart from each of these, by a test of two tests
abbrev pub apart_from : {T : Type 0} → (T → T → Bool) → T → List T → Bool
apart_from apart x [] = true
apart_from apart x (y ∷ ys) = apart x y && apart_from apart x ys

-- each of these is apart from each of those, by a test of two tests
abbrev pub disjoint : {T : Type 0} → (T → T → Bool) → List T → List T → Bool
disjoint apart [] ys = true
disjoint apart (x ∷ xs) ys = apart_from apart x ys && disjoint apart xs ys

-- x implies one of these, by a test of two tests
abbrev pub implies_one : {T : Type 0} → (T → T → Bool) → T → List T → Bool
implies_one implies x [] = false
implies_one implies x (y ∷ ys) = implies x y || implies_one implies x ys

-- each of these implies one of those, by a test of two tests
abbrev pub covered : {T : Type 0} → (T → T → Bool) → List T → List T → Bool
covered implies [] ys = true
covered implies (x ∷ xs) ys = implies_one implies x ys && covered implies xs ys
