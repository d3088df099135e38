-- What the small steps of a reader do to it.
use Rattle.std.specs.Prelude.{◌≡◌, ℕ, ◌+◌, ◌*◌, ◌<◌, ◌≤◌, ◌⊎◌, Bool, true, false, List, [], ◌∷◌}
use Rattle.std.specs.Prelude.{◌++◌, Option, Some, None, option_to_list, slice_get, bytes_eq}
use Rattle.std.specs.Option.{IsSomeAnd}
use Rattle.est_lexer.specs.declared.kind.TokenKind.TheVariants.{Identifier, Number, Character}
use Rattle.est_lexer.specs.declared.tokens.Tokens.{Tokens}
use Rattle.est_lexer.specs.Offsets.{text_of, tokens_of}
use Rattle.est_syntax.specs.declared.name.Used.{Used}
use Rattle.text_reader.specs.declared.reader.Reader.{Reader}
use Rattle.text_reader.specs.declared.outcome.Outcome.{Outcome}
use Rattle.text_reader.specs.declared.outcome.Outcome.TheVariants.{Well, Wrong, TooDeep, NoMemory}
use Rattle.text_reader.specs.Tests.{Test, kind, named, number, character, lowered, value_in}
use Rattle.text_reader.specs.Tests.{code_in, stands}

-- 1 where all goes well, else 0
abbrev pub bit : Outcome → ℕ
bit Well = 1
bit Wrong = 0
bit TooDeep = 0
bit NoMemory = 0

-- From a place and an outcome to others. Where all was well, P holds of the place that is reached,
-- or Q of the place that is refused (true: for lack of levels), or memory ran out, which says
-- nothing. Where it was not, nothing changes.
abbrev pub Does : (ℕ → Type 0) → (ℕ → Bool → Type 0) → ℕ → Outcome → ℕ → Outcome → Type 0
Does P Q a Well b Well = P b
Does P Q a Well b Wrong = Q b false
Does P Q a Well b TooDeep = Q b true
Does P Q a Well b NoMemory = Unit {0}
Does P Q a Wrong b o = (o ≡ Wrong) × (b ≡ a)
Does P Q a TooDeep b o = (o ≡ TooDeep) × (b ≡ a)
Does P Q a NoMemory b o = (o ≡ NoMemory) × (b ≡ a)

-- the answer says whether all went well
abbrev pub IsTest : Outcome → Bool → Type 0
IsTest Well r = r ≡ true
IsTest Wrong r = r ≡ false
IsTest TooDeep r = r ≡ false
IsTest NoMemory r = r ≡ false

-- the answer is that of a test where all went well, and else false
abbrev pub Seen : Outcome → Bool → Bool → Type 0
Seen Well s r = s ≡ r
Seen Wrong s r = r ≡ false
Seen TooDeep s r = r ≡ false
Seen NoMemory s r = r ≡ false

-- the answer says whether all went well and a token that meets the test comes next
pub record Sees (reader : Reader) (test : Test) (r : Bool) : Type 0 where
  pub seen : Seen reader.outcome (stands reader.tokens.now reader.at test) r

-- no token comes next that meets one of the tests, or not all went well
abbrev pub NoneSeen : Reader → List Test → Type 0
NoneSeen reader [] = Unit {0}
NoneSeen reader (test ∷ tests) = Sees reader test false × NoneSeen reader tests

-- all went well and a token comes next that meets one of the tests
abbrev pub OneSeen : Reader → List Test → Type 0
OneSeen reader [] = ⊥
OneSeen reader (test ∷ tests) = Sees reader test true ⊎ OneSeen reader tests

-- the answer says whether all went well and a token that meets one of the tests comes next
abbrev pub SeesOne : Reader → List Test → Bool → Type 0
SeesOne reader tests true = OneSeen reader tests
SeesOne reader tests false = NoneSeen reader tests

-- the tokens and the levels stay, the place goes onward, and nothing that went wrong goes well
pub record Same (old new : Reader) : Type 0 where
  pub tokens : new.tokens.now ≡ old.tokens.now
  pub levels : new.levels ≡ old.levels
  pub onward : old.at ≤ new.at
  pub sticky : bit new.outcome ≤ bit old.outcome

-- memory did not run out on the way from one outcome to another
abbrev pub NoneSpent : Outcome → Outcome → Type 0
NoneSpent o o' = o' ≡ NoMemory → o ≡ NoMemory

-- the token at the place is taken, where a test of it is met; else it is refused
pub record Steps (met : Bool) (old new : Reader) : Type 0 where
  pub steps : Does (λ b. (met ≡ true) × (b ≡ old.at + 1))
      (λ b z. (met ≡ false) × (b ≡ old.at) × (z ≡ false)) old.at old.outcome new.at new.outcome
  pub unspent : NoneSpent old.outcome new.outcome
  pub same : Same old new

-- a token that meets the test is taken
abbrev pub Taken : Tokens → Test → ℕ → ℕ → Type 0
Taken tokens test a b = (stands tokens a test ≡ true) × (b ≡ a + 1)

-- no token that meets the test stands there
abbrev pub NotThere : Tokens → Test → ℕ → ℕ → Bool → Type 0
NotThere tokens test a b z = (stands tokens a test ≡ false) × (b ≡ a) × (z ≡ false)

-- a token that meets the test is taken, or the reader stays and is wrong
pub record Takes (test : Test) (old new : Reader) : Type 0 where
  pub takes : Does (Taken old.tokens.now test old.at)
      (NotThere old.tokens.now test old.at) old.at old.outcome new.at new.outcome
  pub unspent : NoneSpent old.outcome new.outcome
  pub same : Same old new

-- an identifier is taken, and this is its name in lower case, with its place; memory may run out
-- only where there is one
pub record TakesName (old : Reader) (used : Used) (new : Reader) : Type 0 where
  pub takes : Does
      (λ b. Taken old.tokens.now (kind Identifier) old.at b
      × IsSomeAnd (slice_get (tokens_of old.tokens.now) old.at)
      (λ token. used.name.bytes ≡ lowered (text_of old.tokens.now) token))
      (NotThere old.tokens.now (kind Identifier) old.at) old.at old.outcome new.at new.outcome
  pub place : used.place ≡ old.at
  pub unasked : stands old.tokens.now old.at (kind Identifier) ≡ false
      → NoneSpent old.outcome new.outcome
  pub same : Same old new

-- a number within bounds is taken, and this is its value
pub record TakesNumber (low high : ℕ) (old : Reader) (value : ℕ) (new : Reader) : Type 0 where
  pub takes : Does
      (λ b. Taken old.tokens.now (number low high) old.at b
      × IsSomeAnd (slice_get (tokens_of old.tokens.now) old.at)
      (λ token. value_in (text_of old.tokens.now) token ≡ value))
      (NotThere old.tokens.now (number low high) old.at) old.at old.outcome new.at new.outcome
  pub bounded : value ≤ high
  pub unspent : NoneSpent old.outcome new.outcome
  pub same : Same old new

-- a number is taken, and this is its value
pub record TakesValue (old : Reader) (value : ℕ) (new : Reader) : Type 0 where
  pub takes : Does
      (λ b. Taken old.tokens.now (kind Number) old.at b
      × IsSomeAnd (slice_get (tokens_of old.tokens.now) old.at)
      (λ token. value_in (text_of old.tokens.now) token ≡ value))
      (NotThere old.tokens.now (kind Number) old.at) old.at old.outcome new.at new.outcome
  pub unspent : NoneSpent old.outcome new.outcome
  pub same : Same old new

-- a character constant is taken, and this is the code of its character
pub record TakesCharacter (old : Reader) (code : ℕ) (new : Reader) : Type 0 where
  pub takes : Does
      (λ b. Taken old.tokens.now (kind Character) old.at b
      × IsSomeAnd (slice_get (tokens_of old.tokens.now) old.at)
      (λ token. code_in (text_of old.tokens.now) token ≡ code))
      (NotThere old.tokens.now (kind Character) old.at) old.at old.outcome new.at new.outcome
  pub unspent : NoneSpent old.outcome new.outcome
  pub same : Same old new

-- a character constant within bounds is taken, and this is the code of its character
pub record TakesCode (low high : ℕ) (old : Reader) (code : ℕ) (new : Reader) : Type 0 where
  pub takes : Does
      (λ b. Taken old.tokens.now (character low high) old.at b
      × IsSomeAnd (slice_get (tokens_of old.tokens.now) old.at)
      (λ token. code_in (text_of old.tokens.now) token ≡ code))
      (NotThere old.tokens.now (character low high) old.at) old.at old.outcome new.at new.outcome
  pub bounded : code ≤ high
  pub unspent : NoneSpent old.outcome new.outcome
  pub same : Same old new

-- the identifier at the place is this in lower case, or none stands there
abbrev pub IsNamedAt : Tokens → ℕ → Option (List ℕ) → Type 0
IsNamedAt tokens at (Some bytes) =
    (name : List ℕ) → stands tokens at (named name) ≡ bytes_eq name bytes
IsNamedAt tokens at None = (name : List ℕ) → stands tokens at (named name) ≡ false

-- the value of the number at the place, where one within these bounds stands there
abbrev pub FindsNumber : ℕ → ℕ → Tokens → ℕ → Option ℕ → Type 0
FindsNumber low high tokens at (Some value) =
    (stands tokens at (number low high) ≡ true)
    × IsSomeAnd (slice_get (tokens_of tokens) at)
    (λ token. value_in (text_of tokens) token ≡ value) × (value ≤ high)
FindsNumber low high tokens at None = stands tokens at (number low high) ≡ false

-- the code of the character at the place, where one within these bounds stands there
abbrev pub FindsCode : ℕ → ℕ → Tokens → ℕ → Option ℕ → Type 0
FindsCode low high tokens at (Some code) =
    (stands tokens at (character low high) ≡ true)
    × IsSomeAnd (slice_get (tokens_of tokens) at)
    (λ token. code_in (text_of tokens) token ≡ code) × (code ≤ high)
FindsCode low high tokens at None = stands tokens at (character low high) ≡ false

-- how many levels there are, and whether all goes well, as a number that gets smaller with each
-- level
abbrev pub weight : Reader → ℕ
weight reader = reader.levels * 2 + bit reader.outcome

-- a token is taken that opens a level; or no level is left
abbrev pub OpensAt : ℕ → ℕ → ℕ → ℕ → Outcome → Type 0
OpensAt a d b e Well = (b ≡ a + 1) × (d ≡ e + 1)
OpensAt a d b e Wrong = ⊥
OpensAt a d b e TooDeep = (b ≡ a) × (d ≡ 0)
OpensAt a d b e NoMemory = ⊥

-- a token is taken that opens a level, where there is one; the answer is how many levels there were
pub record Opens (old : Reader) (levels : ℕ) (new : Reader) : Type 0 where
  pub opens : OpensAt old.at old.levels new.at new.levels new.outcome
  pub tokens : new.tokens.now ≡ old.tokens.now
  pub told : levels ≡ old.levels
  pub onward : old.at ≤ new.at
  pub lighter : weight new < weight old

-- a level is taken; or none is left
abbrev pub EntersAt : ℕ → ℕ → Outcome → Type 0
EntersAt d e Well = d ≡ e + 1
EntersAt d e Wrong = ⊥
EntersAt d e TooDeep = d ≡ 0
EntersAt d e NoMemory = ⊥

-- a level is taken, where there is one, and nothing is read
pub record Enters (old new : Reader) : Type 0 where
  pub enters : EntersAt old.levels new.levels new.outcome
  pub tokens : new.tokens.now ≡ old.tokens.now
  pub place : new.at ≡ old.at

-- the levels are what they were
pub record Closes (levels : ℕ) (old new : Reader) : Type 0 where
  pub tokens : new.tokens.now ≡ old.tokens.now
  pub place : new.at ≡ old.at
  pub outcome : new.outcome ≡ old.outcome
  pub back : new.levels ≡ levels

-- nothing is read, and memory may run out
pub record Still (old new : Reader) : Type 0 where
  pub stays : Does (λ b. b ≡ old.at) (λ b z. ⊥) old.at old.outcome new.at new.outcome
  pub place : new.at ≡ old.at
  pub same : Same old new

-- the reader stays, and where all is well the item is put last
pub record Kept {T : Type 0} (old new : Reader) (items : List T) (item : T)
    (items' : List T) : Type 0 where
  pub still : Still old new
  pub added : new.outcome ≡ Well → items' ≡ items ++ item ∷ []

-- the reader stays, and where all is well the item is put last, if there is one; memory may run out
-- only where there is one
pub record KeptSome {T : Type 0} (old new : Reader) (items : List T) (item : Option T)
    (items' : List T) : Type 0 where
  pub still : Still old new
  pub added : new.outcome ≡ Well → items' ≡ items ++ option_to_list item
  pub unasked : item ≡ None → NoneSpent old.outcome new.outcome
