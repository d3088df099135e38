-- The tokens that begin some choices.
use Rattle.std.specs.Prelude.{List, [], ◌∷◌, ◌++◌}
use Rattle.est_lexer.specs.declared.kind.ReservedWord.TheVariants as words
use Rattle.est_lexer.specs.declared.kind.Symbol.TheVariants as symbols
use Rattle.est_lexer.specs.declared.kind.TokenKind.TheVariants.{Identifier, Number, Character}
use Rattle.est_lexer.specs.declared.kind.TokenKind.TheVariants.{Reserved, Symbol}
use Rattle.text_reader.specs.Tests.{Test, kind}

-- the relational operators
abbrev pub relational_tokens : List Test
relational_tokens = kind (Symbol symbols.Equal) ∷ kind (Symbol symbols.Unequal)
    ∷ kind (Symbol symbols.Below) ∷ kind (Symbol symbols.AtMost)
    ∷ kind (Symbol symbols.Above) ∷ kind (Symbol symbols.AtLeast)
    ∷ kind (Reserved words.In) ∷ []

-- the adding operators
abbrev pub adding_tokens : List Test
adding_tokens = kind (Symbol symbols.Plus) ∷ kind (Symbol symbols.Minus)
    ∷ kind (Reserved words.Or) ∷ []

-- the multiplying operators
abbrev pub multiplying_tokens : List Test
multiplying_tokens = kind (Symbol symbols.Star) ∷ kind (Reserved words.Div)
    ∷ kind (Reserved words.Mod) ∷ kind (Reserved words.And) ∷ []

-- the tokens that begin an expression
abbrev pub expression_tokens : List Test
expression_tokens = kind Identifier ∷ kind Number ∷ kind Character
    ∷ kind (Symbol symbols.LeftParenthesis) ∷ kind (Symbol symbols.LeftBracket)
    ∷ kind (Symbol symbols.Plus) ∷ kind (Symbol symbols.Minus) ∷ kind (Reserved words.Not) ∷ []

-- the tokens that begin a factor of more than one token
abbrev pub bracket_tokens : List Test
bracket_tokens = kind Identifier ∷ kind (Symbol symbols.LeftParenthesis)
    ∷ kind (Reserved words.Not) ∷ kind (Symbol symbols.LeftBracket) ∷ []

-- the tokens that begin a selector
abbrev pub selector_tokens : List Test
selector_tokens = kind (Symbol symbols.LeftBracket) ∷ kind (Symbol symbols.Period) ∷ []

-- the words that begin an array, a record or a set
abbrev pub structure_words : List Test
structure_words = kind (Reserved words.Packed) ∷ kind (Reserved words.Array)
    ∷ kind (Reserved words.Record) ∷ kind (Reserved words.Set) ∷ []

-- the tokens that begin a constant
abbrev pub constant_tokens : List Test
constant_tokens = kind Identifier ∷ kind Number ∷ kind Character ∷ kind (Symbol symbols.Plus)
    ∷ kind (Symbol symbols.Minus) ∷ []

-- the tokens after the name of a variable that is assigned
abbrev pub assigned_tokens : List Test
assigned_tokens = kind (Symbol symbols.Assign) ∷ selector_tokens

-- the tokens that begin a statement of Pascal that is no loop
abbrev pub first_statement_tokens : List Test
first_statement_tokens = kind (Reserved words.Begin) ∷ kind Identifier ∷ kind (Reserved words.If)
    ∷ kind (Reserved words.Case) ∷ []

-- the tokens that begin a statement of Pascal, or a loop over values or modules
abbrev pub pascal_tokens : List Test
pascal_tokens = kind (Reserved words.While) ∷ kind (Reserved words.Repeat)
    ∷ kind (Reserved words.For) ∷ kind (Reserved words.All) ∷ first_statement_tokens

-- the tokens that begin a statement that links no interaction points
abbrev pub unlinked_tokens : List Test
unlinked_tokens = kind (Reserved words.Output) ∷ kind (Reserved words.Init)
    ∷ kind (Reserved words.Release) ∷ pascal_tokens

-- the words that begin a part of a block
abbrev pub block_part_tokens : List Test
block_part_tokens = kind (Reserved words.Const) ∷ kind (Reserved words.Type)
    ∷ kind (Reserved words.Var) ∷ []

-- the words that begin a function
abbrev pub function_tokens : List Test
function_tokens = kind (Reserved words.Pure) ∷ kind (Reserved words.Function) ∷ []

-- the words that begin a routine
abbrev pub routine_tokens : List Test
routine_tokens = kind (Reserved words.Procedure) ∷ function_tokens

-- the words that begin a clause
abbrev pub clause_tokens : List Test
clause_tokens = kind (Reserved words.From) ∷ kind (Reserved words.To) ∷ kind (Reserved words.When)
    ∷ kind (Reserved words.Provided) ∷ kind (Reserved words.Any) ∷ kind (Reserved words.Priority)
    ∷ kind (Reserved words.Delay) ∷ []

-- the words that begin a transition
abbrev pub transition_tokens : List Test
transition_tokens = kind (Reserved words.Name) ∷ kind (Reserved words.Begin)
    ∷ kind (Reserved words.Const) ∷ kind (Reserved words.Type) ∷ kind (Reserved words.Var)
    ∷ clause_tokens

-- the words that begin a part of a specification
abbrev pub common_tokens : List Test
common_tokens = kind (Reserved words.Const) ∷ kind (Reserved words.Type)
    ∷ kind (Reserved words.Channel) ∷ kind (Reserved words.Module) ∷ kind (Reserved words.Body)
    ∷ kind (Reserved words.Modvar) ∷ routine_tokens

-- the words that begin a part that bodies alone have
abbrev pub own_tokens : List Test
own_tokens = kind (Reserved words.Ip) ∷ kind (Reserved words.Var) ∷ kind (Reserved words.State)
    ∷ kind (Reserved words.Stateset) ∷ []

-- the words that begin a part of a body
abbrev pub body_part_tokens : List Test
body_part_tokens = own_tokens ++ common_tokens
