-- Grammars as data, which lists of tokens have a tree by a grammar, and which have a partial tree.
use Rattle.std.specs.Prelude.{◌≡◌, ℕ, zero, suc, ◌<◌, Bool, true, false}
use Rattle.std.specs.Prelude.{List, [], ◌∷◌, Option, Some, None, slice_get}

-- The right side of a production, over tests T of one token and names P of productions.
pub data Grammar (T P : Type 0) : Type 0 where
  -- nothing more
  done : Grammar T P
  -- no tree at all: the choice among no alternatives
  none : Grammar T P
  -- a token that meets this test, and then the rest
  word : T → Grammar T P → Grammar T P
  -- a token that meets this test, which the tree keeps
  token : T → Grammar T P
  -- g, with the place where it begins
  here : Grammar T P → Grammar T P
  -- g, of which the tree keeps nothing
  skip : Grammar T P → Grammar T P
  -- one, and then the other
  seq : Grammar T P → Grammar T P → Grammar T P
  -- one or the other
  alt : Grammar T P → Grammar T P → Grammar T P
  -- [ g ]
  opt : Grammar T P → Grammar T P
  -- { g }
  rep : Grammar T P → Grammar T P
  -- [ k g ], which belongs to the nearest that can take it: it is left out only where no k stands
  -- after
  nearest : T → Grammar T P → Grammar T P
  -- { k g } [ k ]
  ended : T → Grammar T P → Grammar T P
  -- g, which opens a level
  deeper : Grammar T P → Grammar T P
  -- the production of this name
  rule : P → Grammar T P

-- g where the condition holds, else no alternative
abbrev pub when : {T P : Type 0} → Bool → Grammar T P → Grammar T P
when true g = g
when false g = none

-- a choice among the alternatives that a list gives
abbrev pub one_of : {A T P : Type 0} → (A → Grammar T P) → List A → Grammar T P
one_of f [] = none
one_of f (x ∷ xs) = alt (f x) (one_of f xs)

-- A language: when a token meets a test, what a tree keeps of a token, and the productions.
pub record Language (Token V T P : Type 0) : Type 0 where
  pub holds : T → Token → Bool
  pub keeps : Token → V
  pub production : P → Grammar T P

-- What a tree keeps of its tokens: the alternatives chosen, the turns of each repetition, and the
-- marked tokens and places.
pub data Shape (V : Type 0) : Type 0 where
  nothing : Shape V
  leaf : V → Shape V
  placed : (place : ℕ) → Shape V → Shape V
  both : Shape V → Shape V → Shape V
  left right : Shape V → Shape V
  some : Shape V → Shape V

-- the shape of a repetition with these turns, and then the rest
abbrev pub chain : {V : Type 0} → List (Shape V) → Shape V → Shape V
chain [] u = u
chain (t ∷ ts) u = both t (chain ts u)

-- the shape of the alternative with this number, in a choice among those of a list
abbrev pub pick : {V : Type 0} → ℕ → Shape V → Shape V
pick zero t = left t
pick (suc i) t = right (pick i t)

-- whether there is a token that meets the test
abbrev pub meets : {Token T : Type 0} → (T → Token → Bool) → T → Option Token → Bool
meets holds k None = false
meets holds k (Some x) = holds k x

-- the token at place a meets the test
abbrev pub At : {Token V T P : Type 0} → Language Token V T P → List Token → ℕ → T → Type 0
At L s a k = meets L.holds k (slice_get s a) ≡ true

-- there is a token, of which a tree keeps v
abbrev pub KeptOf : {Token V T P : Type 0} → Language Token V T P → Option Token → V → Type 0
KeptOf L None v = ⊥
KeptOf L (Some x) v = L.keeps x ≡ v

-- a tree keeps v of the token at place a
abbrev pub Keeps : {Token V T P : Type 0} → Language Token V T P → List Token → ℕ → V → Type 0
Keeps L s a v = KeptOf L (slice_get s a) v

module _ {Token V T P : Type 0} (L : Language Token V T P) (s : List Token) (n : ℕ) where
  -- Tree L s n g d a b t: of the first n tokens of s, those from place a up to b have a tree by g
  -- of the shape t, with d levels to open.
  pub data Tree : Grammar T P → ℕ → ℕ → ℕ → Shape V → Type 0 where
    t_done : {d a : ℕ} → Tree done d a a nothing
    t_word : {g : Grammar T P} {d a b : ℕ} {t : Shape V} (k : T) → a < n → At L s a k
        → Tree g d (suc a) b t → Tree (word k g) d a b t
    t_token : {d a : ℕ} (v : V) (k : T) → a < n → At L s a k → Keeps L s a v
        → Tree (token k) d a (suc a) (leaf v)
    t_here : {g : Grammar T P} {d a b : ℕ} {t : Shape V} → Tree g d a b t
        → Tree (here g) d a b (placed a t)
    t_skip : {g : Grammar T P} {d a b : ℕ} {t : Shape V} → Tree g d a b t
        → Tree (skip g) d a b nothing
    t_seq : {g h : Grammar T P} {d a b c : ℕ} {t u : Shape V} → Tree g d a b t → Tree h d b c u
        → Tree (seq g h) d a c (both t u)
    t_left : {g h : Grammar T P} {d a b : ℕ} {t : Shape V} → Tree g d a b t
        → Tree (alt g h) d a b (left t)
    t_right : {g h : Grammar T P} {d a b : ℕ} {t : Shape V} → Tree h d a b t
        → Tree (alt g h) d a b (right t)
    t_opt_out : {g : Grammar T P} {d a : ℕ} → Tree (opt g) d a a nothing
    t_opt_in : {g : Grammar T P} {d a b : ℕ} {t : Shape V} → Tree g d a b t
        → Tree (opt g) d a b (some t)
    t_rep_out : {g : Grammar T P} {d a : ℕ} → Tree (rep g) d a a nothing
    t_rep_in : {g : Grammar T P} {d a b c : ℕ} {t u : Shape V} → Tree g d a b t
        → Tree (rep g) d b c u → Tree (rep g) d a c (both t u)
    t_nearest_out : {g : Grammar T P} {d a : ℕ} {k : T} → (a < n → At L s a k → ⊥)
        → Tree (nearest k g) d a a nothing
    t_nearest_in : {g : Grammar T P} {d a b : ℕ} {t : Shape V} (k : T) → a < n → At L s a k
        → Tree g d (suc a) b t → Tree (nearest k g) d a b (some t)
    t_ended_out : {g : Grammar T P} {d a : ℕ} {k : T} → Tree (ended k g) d a a nothing
    t_ended_last : {g : Grammar T P} {d a : ℕ} (k : T) → a < n → At L s a k
        → Tree (ended k g) d a (suc a) nothing
    t_ended_in : {g : Grammar T P} {d a b c : ℕ} {t u : Shape V} (k : T) → a < n → At L s a k
        → Tree g d (suc a) b t → Tree (ended k g) d b c u → Tree (ended k g) d a c (both t u)
    t_deeper : {g : Grammar T P} {d a b : ℕ} {t : Shape V} → Tree g d a b t
        → Tree (deeper g) (suc d) a b t
    t_rule : {p : P} {d a b : ℕ} {t : Shape V} → Tree (L.production p) d a b t
        → Tree (rule p) d a b t

  -- Partial L s n g d a: the tokens of s from place a up to n have a partial tree by g, with d
  -- levels to open.
  pub data Partial : Grammar T P → ℕ → ℕ → Type 0 where
    -- the empty list has one
    p_none : {g : Grammar T P} {d a : ℕ} → a ≡ n → Partial g d a
    -- a tree is one
    p_whole : {g : Grammar T P} {d a b : ℕ} {t : Shape V} → Tree g d a b t → b ≡ n → Partial g d a
    -- else the parts up to some part have trees, and what is left is a partial tree of that part,
    -- with nothing of the next ones
    p_word : {g : Grammar T P} {d a : ℕ} (k : T) → a < n → At L s a k → Partial g d (suc a)
        → Partial (word k g) d a
    p_here : {g : Grammar T P} {d a : ℕ} → Partial g d a → Partial (here g) d a
    p_skip : {g : Grammar T P} {d a : ℕ} → Partial g d a → Partial (skip g) d a
    p_first : {g h : Grammar T P} {d a : ℕ} → Partial g d a → Partial (seq g h) d a
    p_second : {g h : Grammar T P} {d a b : ℕ} {t : Shape V} → Tree g d a b t → Partial h d b
        → Partial (seq g h) d a
    p_left : {g h : Grammar T P} {d a : ℕ} → Partial g d a → Partial (alt g h) d a
    p_right : {g h : Grammar T P} {d a : ℕ} → Partial h d a → Partial (alt g h) d a
    p_opt : {g : Grammar T P} {d a : ℕ} → Partial g d a → Partial (opt g) d a
    p_rep_first : {g : Grammar T P} {d a : ℕ} → Partial g d a → Partial (rep g) d a
    p_rep_more : {g : Grammar T P} {d a b : ℕ} {t : Shape V} → Tree g d a b t → Partial (rep g) d b
        → Partial (rep g) d a
    p_nearest : {g : Grammar T P} {d a : ℕ} (k : T) → a < n → At L s a k → Partial g d (suc a)
        → Partial (nearest k g) d a
    p_ended_first : {g : Grammar T P} {d a : ℕ} (k : T) → a < n → At L s a k → Partial g d (suc a)
        → Partial (ended k g) d a
    p_ended_more : {g : Grammar T P} {d a b : ℕ} {t : Shape V} (k : T) → a < n → At L s a k
        → Tree g d (suc a) b t → Partial (ended k g) d b → Partial (ended k g) d a
    p_deeper : {g : Grammar T P} {d a : ℕ} → Partial g d a → Partial (deeper g) (suc d) a
    p_rule : {p : P} {d a : ℕ} → Partial (L.production p) d a → Partial (rule p) d a
