-- What a reader of a part of a grammar does.
use Rattle.std.specs.Prelude.{◌≡◌, ℕ, Bool, List, ◌++◌, map}
use Rattle.est_lexer.specs.declared.kind.TokenKind.TheVariants.{Identifier}
use Rattle.est_lexer.specs.declared.tokens.Tokens.{Tokens}
use Rattle.est_lexer.specs.Offsets.{text_of, tokens_of}
use Rattle.text_reader.specs.Grammar as grammar
use Rattle.text_reader.specs.Grammar.{Grammar, here, token}
use Rattle.text_reader.specs.Marks.{Marks}
use Rattle.text_reader.specs.Findings.{Found, Refused}
use Rattle.text_reader.specs.Shown as shown
use Rattle.text_reader.specs.Shown.{Shows, at, kept}
use Rattle.est_syntax.specs.declared.name.Used.{Used}
use Rattle.text_reader.specs.declared.reader.Reader.{Reader}
use Rattle.text_reader.specs.declared.outcome.Outcome.TheVariants.{Well}
use Rattle.text_reader.specs.Tests.{Test, kind, Kept, name, language}
use Rattle.text_reader.specs.Moving.{Does, Same}

-- The right side of a production, over tests of tokens.
abbrev pub Rule : Type 0 → Type 0
Rule P = Grammar Test P

-- What a tree keeps: the alternatives chosen, the turns of repetitions, and names, values, codes
-- and places.
abbrev pub Shape : Type 0
Shape = grammar.Shape Kept

-- One layer of a value.
abbrev pub View : Type 0 → Type 0
View N = shown.View Kept N

-- The syntax of one sort of texts: its productions, what is known of each, and what the parts of a
-- value show, a layer at a time.
pub record Syntax (P N : Type 0) : Type 0 where
  pub production : P → Rule P
  pub marks : Marks Test P
  pub layer : N → View N

-- ident, with its place
abbrev pub identifier : {P : Type 0} → Rule P
identifier = here (token (kind Identifier))

-- a name, with its place
abbrev pub used : {N : Type 0} → Used → View N
used u = at u.place (kept (name u.name.bytes))

-- g has a tree from a up to b, and this view shows its shape
abbrev pub Finds : {P N : Type 0} → Syntax P N → Tokens → Rule P → ℕ → ℕ → View N → ℕ → Type 0
Finds X tokens g d a v b = (t : Shape)
    × Found (language X.production (text_of tokens)) X.marks (tokens_of tokens) g d a b t
    × Shows X.layer v t

-- g is refused at i, and where z says so for lack of levels
abbrev pub Fails : {P N : Type 0} → Syntax P N → Tokens → Rule P → ℕ → ℕ → ℕ → Bool → Type 0
Fails X tokens g d a i z =
    Refused (language X.production (text_of tokens)) X.marks (tokens_of tokens) g d a i z

-- A reader of g comes to the end of a tree that the view shows, or to the first bad place.
pub record Goes {P N : Type 0} (X : Syntax P N) (g : Rule P) (old : Reader) (v : View N)
    (new : Reader) : Type 0 where
  pub moves : Does (Finds X old.tokens.now g old.levels old.at v)
      (Fails X old.tokens.now g old.levels old.at) old.at old.outcome new.at new.outcome
  pub same : Same old new

-- A reader of g puts items last in a list, and a layer of these items shows what was read.
pub record Adds {A P N : Type 0} (X : Syntax P N) (g : Rule P) (f : List N → View N) (part : A → N)
    (old : Reader) (items items' : List A) (new : Reader) : Type 0 where
  pub run : List A
  pub goes : Goes X g old (f (map part run)) new
  pub added : new.outcome ≡ Well → items' ≡ items ++ run
