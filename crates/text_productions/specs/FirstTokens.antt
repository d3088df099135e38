-- The tokens that each production can begin with, and those with which a tree of it that is whole
-- can go on. The prover checks that the table says enough.
use Rattle.std.specs.Prelude.{Bool, true, false, List, [], ◌∷◌}
use Rattle.est_lexer.specs.declared.kind.ReservedWord.TheVariants as words
use Rattle.est_lexer.specs.declared.kind.Symbol.TheVariants as symbols
use Rattle.est_lexer.specs.declared.kind.TokenKind.TheVariants.{Identifier, Number, Character}
use Rattle.est_lexer.specs.declared.kind.TokenKind.TheVariants.{Reserved, Symbol}
use Rattle.text_reader.specs.Marks.{Marks}
use Rattle.text_reader.specs.Tests.{Test, kind}
use Rattle.text_productions.specs.Productions.{Production, specification, common, own, consts}
use Rattle.text_productions.specs.Productions.{constdef, constant, types, typedef, typetext}
use Rattle.text_productions.specs.Productions.{shorttype, arraytype, recordtype, settype, vars}
use Rattle.text_productions.specs.Productions.{vardef, channel, by_part, interaction, param, header}
use Rattle.text_productions.specs.Productions.{point, dims, queue, export, modvar, stateset, body}
use Rattle.text_productions.specs.Productions.{routine, formal, block, transpart, transition}
use Rattle.text_productions.specs.Productions.{clause}
use Rattle.text_productions.specs.Productions.{access, statement, arm, sending, init, end_point}
use Rattle.text_productions.specs.Productions.{expr, simple, term, factor, selector, member}

-- the tokens that can begin a tree of a production
abbrev pub begins : Production → List Test
begins specification = kind (Reserved words.Specification) ∷ []
begins common =
    kind (Reserved words.Const) ∷ kind (Reserved words.Type) ∷ kind (Reserved words.Channel)
    ∷ kind (Reserved words.Module) ∷ kind (Reserved words.Body) ∷ kind (Reserved words.Procedure)
    ∷ kind (Reserved words.Pure) ∷ kind (Reserved words.Function) ∷ kind (Reserved words.Modvar)
    ∷ []
begins own =
    kind (Reserved words.Ip) ∷ kind (Reserved words.Var) ∷ kind (Reserved words.State)
    ∷ kind (Reserved words.Stateset) ∷ []
begins consts = kind (Reserved words.Const) ∷ []
begins constdef = kind Identifier ∷ []
begins constant =
    kind Number ∷ kind (Symbol symbols.Plus) ∷ kind (Symbol symbols.Minus) ∷ kind Character
    ∷ kind Identifier ∷ []
begins types = kind (Reserved words.Type) ∷ []
begins typedef = kind Identifier ∷ []
begins typetext =
    kind Number ∷ kind (Symbol symbols.Plus) ∷ kind (Symbol symbols.Minus) ∷ kind Character
    ∷ kind Identifier ∷ kind (Symbol symbols.LeftParenthesis) ∷ kind (Reserved words.Packed)
    ∷ kind (Reserved words.Array) ∷ kind (Reserved words.Record) ∷ kind (Reserved words.Set) ∷ []
begins shorttype =
    kind Number ∷ kind (Symbol symbols.Plus) ∷ kind (Symbol symbols.Minus) ∷ kind Character
    ∷ kind Identifier ∷ []
begins arraytype = kind (Reserved words.Array) ∷ []
begins recordtype = kind (Reserved words.Record) ∷ []
begins settype = kind (Reserved words.Set) ∷ []
begins vars = kind (Reserved words.Var) ∷ []
begins vardef = kind Identifier ∷ []
begins channel = kind (Reserved words.Channel) ∷ []
begins by_part = kind (Reserved words.By) ∷ []
begins interaction = kind Identifier ∷ []
begins param = kind Identifier ∷ []
begins header = kind (Reserved words.Module) ∷ []
begins point = kind Identifier ∷ []
begins dims = kind (Reserved words.Array) ∷ []
begins queue = kind (Reserved words.Individual) ∷ kind (Reserved words.Common) ∷ []
begins export = kind Identifier ∷ []
begins modvar = kind Identifier ∷ []
begins stateset = kind Identifier ∷ []
begins body = kind (Reserved words.Body) ∷ []
begins routine =
    kind (Reserved words.Procedure) ∷ kind (Reserved words.Pure) ∷ kind (Reserved words.Function)
    ∷ []
begins formal = kind (Reserved words.Var) ∷ kind Identifier ∷ []
begins block =
    kind (Reserved words.Const) ∷ kind (Reserved words.Type) ∷ kind (Reserved words.Var)
    ∷ kind (Reserved words.Begin) ∷ []
begins transpart = kind (Reserved words.Trans) ∷ []
begins transition =
    kind (Reserved words.From) ∷ kind (Reserved words.To) ∷ kind (Reserved words.When)
    ∷ kind (Reserved words.Provided) ∷ kind (Reserved words.Any) ∷ kind (Reserved words.Priority)
    ∷ kind (Reserved words.Delay) ∷ kind (Reserved words.Name) ∷ kind (Reserved words.Const)
    ∷ kind (Reserved words.Type) ∷ kind (Reserved words.Var) ∷ kind (Reserved words.Begin) ∷ []
begins clause =
    kind (Reserved words.From) ∷ kind (Reserved words.To) ∷ kind (Reserved words.When)
    ∷ kind (Reserved words.Provided) ∷ kind (Reserved words.Any) ∷ kind (Reserved words.Priority)
    ∷ kind (Reserved words.Delay) ∷ []
begins access = kind Identifier ∷ []
begins statement =
    kind (Reserved words.Begin) ∷ kind Identifier ∷ kind (Reserved words.If)
    ∷ kind (Reserved words.Case) ∷ kind (Reserved words.While) ∷ kind (Reserved words.Repeat)
    ∷ kind (Reserved words.For) ∷ kind (Reserved words.All) ∷ kind (Reserved words.Output)
    ∷ kind (Reserved words.Init) ∷ kind (Reserved words.Release) ∷ kind (Reserved words.Connect)
    ∷ kind (Reserved words.Disconnect) ∷ kind (Reserved words.Attach)
    ∷ kind (Reserved words.Detach) ∷ []
begins arm =
    kind Number ∷ kind (Symbol symbols.Plus) ∷ kind (Symbol symbols.Minus) ∷ kind Character
    ∷ kind Identifier ∷ []
begins sending = kind Identifier ∷ []
begins init = kind (Reserved words.Init) ∷ []
begins end_point = kind Identifier ∷ []
begins expr =
    kind (Symbol symbols.Plus) ∷ kind (Symbol symbols.Minus) ∷ kind Number ∷ kind Character
    ∷ kind (Symbol symbols.LeftParenthesis) ∷ kind (Reserved words.Not)
    ∷ kind (Symbol symbols.LeftBracket) ∷ kind Identifier ∷ []
begins simple =
    kind (Symbol symbols.Plus) ∷ kind (Symbol symbols.Minus) ∷ kind Number ∷ kind Character
    ∷ kind (Symbol symbols.LeftParenthesis) ∷ kind (Reserved words.Not)
    ∷ kind (Symbol symbols.LeftBracket) ∷ kind Identifier ∷ []
begins term =
    kind Number ∷ kind Character ∷ kind (Symbol symbols.LeftParenthesis)
    ∷ kind (Reserved words.Not) ∷ kind (Symbol symbols.LeftBracket) ∷ kind Identifier ∷ []
begins factor =
    kind Number ∷ kind Character ∷ kind (Symbol symbols.LeftParenthesis)
    ∷ kind (Reserved words.Not) ∷ kind (Symbol symbols.LeftBracket) ∷ kind Identifier ∷ []
begins selector = kind (Symbol symbols.Period) ∷ kind (Symbol symbols.LeftBracket) ∷ []
begins member =
    kind (Symbol symbols.Plus) ∷ kind (Symbol symbols.Minus) ∷ kind Number ∷ kind Character
    ∷ kind (Symbol symbols.LeftParenthesis) ∷ kind (Reserved words.Not)
    ∷ kind (Symbol symbols.LeftBracket) ∷ kind Identifier ∷ []

-- the tokens with which a tree of a production that is whole can go on
abbrev pub goes_on : Production → List Test
goes_on common = kind Identifier ∷ kind (Reserved words.By) ∷ []
goes_on own = kind Identifier ∷ []
goes_on consts = kind Identifier ∷ []
goes_on types = kind Identifier ∷ []
goes_on typetext = kind (Symbol symbols.DoublePeriod) ∷ []
goes_on shorttype = kind (Symbol symbols.DoublePeriod) ∷ []
goes_on arraytype = kind (Symbol symbols.DoublePeriod) ∷ []
goes_on settype = kind (Symbol symbols.DoublePeriod) ∷ []
goes_on vars = kind Identifier ∷ []
goes_on channel = kind (Reserved words.By) ∷ kind Identifier ∷ []
goes_on by_part = kind Identifier ∷ []
goes_on param = kind (Symbol symbols.DoublePeriod) ∷ []
goes_on transpart =
    kind (Reserved words.From) ∷ kind (Reserved words.To) ∷ kind (Reserved words.When)
    ∷ kind (Reserved words.Provided) ∷ kind (Reserved words.Any) ∷ kind (Reserved words.Priority)
    ∷ kind (Reserved words.Delay) ∷ kind (Reserved words.Name) ∷ kind (Reserved words.Const)
    ∷ kind (Reserved words.Type) ∷ kind (Reserved words.Var) ∷ kind (Reserved words.Begin) ∷ []
goes_on clause =
    kind (Symbol symbols.Comma) ∷ kind (Symbol symbols.Equal) ∷ kind (Symbol symbols.Unequal)
    ∷ kind (Symbol symbols.Below) ∷ kind (Symbol symbols.AtMost) ∷ kind (Symbol symbols.Above)
    ∷ kind (Symbol symbols.AtLeast) ∷ kind (Reserved words.In) ∷ kind (Symbol symbols.Plus)
    ∷ kind (Symbol symbols.Minus) ∷ kind (Reserved words.Or) ∷ kind (Symbol symbols.Star)
    ∷ kind (Reserved words.Div) ∷ kind (Reserved words.Mod) ∷ kind (Reserved words.And)
    ∷ kind (Symbol symbols.LeftParenthesis) ∷ kind (Symbol symbols.Period)
    ∷ kind (Symbol symbols.LeftBracket) ∷ []
goes_on access = kind (Symbol symbols.LeftBracket) ∷ []
goes_on statement =
    kind (Reserved words.Begin) ∷ kind Identifier ∷ kind (Reserved words.If)
    ∷ kind (Reserved words.Case) ∷ kind (Reserved words.While) ∷ kind (Reserved words.Repeat)
    ∷ kind (Reserved words.For) ∷ kind (Reserved words.All) ∷ kind (Reserved words.Output)
    ∷ kind (Reserved words.Init) ∷ kind (Reserved words.Release) ∷ kind (Reserved words.Connect)
    ∷ kind (Reserved words.Disconnect) ∷ kind (Reserved words.Attach)
    ∷ kind (Reserved words.Detach) ∷ kind (Symbol symbols.Period)
    ∷ kind (Symbol symbols.LeftBracket) ∷ kind (Symbol symbols.Assign)
    ∷ kind (Symbol symbols.LeftParenthesis) ∷ kind (Symbol symbols.Equal)
    ∷ kind (Symbol symbols.Unequal) ∷ kind (Symbol symbols.Below) ∷ kind (Symbol symbols.AtMost)
    ∷ kind (Symbol symbols.Above) ∷ kind (Symbol symbols.AtLeast) ∷ kind (Reserved words.In)
    ∷ kind (Symbol symbols.Plus) ∷ kind (Symbol symbols.Minus) ∷ kind (Reserved words.Or)
    ∷ kind (Symbol symbols.Star) ∷ kind (Reserved words.Div) ∷ kind (Reserved words.Mod)
    ∷ kind (Reserved words.And) ∷ kind (Symbol symbols.Comma) ∷ []
goes_on arm =
    kind (Reserved words.Begin) ∷ kind Identifier ∷ kind (Reserved words.If)
    ∷ kind (Reserved words.Case) ∷ kind (Reserved words.While) ∷ kind (Reserved words.Repeat)
    ∷ kind (Reserved words.For) ∷ kind (Reserved words.All) ∷ kind (Reserved words.Output)
    ∷ kind (Reserved words.Init) ∷ kind (Reserved words.Release) ∷ kind (Reserved words.Connect)
    ∷ kind (Reserved words.Disconnect) ∷ kind (Reserved words.Attach)
    ∷ kind (Reserved words.Detach) ∷ kind (Symbol symbols.Period)
    ∷ kind (Symbol symbols.LeftBracket) ∷ kind (Symbol symbols.Assign)
    ∷ kind (Symbol symbols.LeftParenthesis) ∷ kind (Symbol symbols.Equal)
    ∷ kind (Symbol symbols.Unequal) ∷ kind (Symbol symbols.Below) ∷ kind (Symbol symbols.AtMost)
    ∷ kind (Symbol symbols.Above) ∷ kind (Symbol symbols.AtLeast) ∷ kind (Reserved words.In)
    ∷ kind (Symbol symbols.Plus) ∷ kind (Symbol symbols.Minus) ∷ kind (Reserved words.Or)
    ∷ kind (Symbol symbols.Star) ∷ kind (Reserved words.Div) ∷ kind (Reserved words.Mod)
    ∷ kind (Reserved words.And) ∷ kind (Symbol symbols.Comma) ∷ []
goes_on sending = kind (Symbol symbols.LeftParenthesis) ∷ []
goes_on init = kind (Symbol symbols.LeftParenthesis) ∷ []
goes_on end_point = kind (Symbol symbols.Period) ∷ kind (Symbol symbols.LeftBracket) ∷ []
goes_on expr =
    kind (Symbol symbols.Equal) ∷ kind (Symbol symbols.Unequal) ∷ kind (Symbol symbols.Below)
    ∷ kind (Symbol symbols.AtMost) ∷ kind (Symbol symbols.Above) ∷ kind (Symbol symbols.AtLeast)
    ∷ kind (Reserved words.In) ∷ kind (Symbol symbols.Plus) ∷ kind (Symbol symbols.Minus)
    ∷ kind (Reserved words.Or) ∷ kind (Symbol symbols.Star) ∷ kind (Reserved words.Div)
    ∷ kind (Reserved words.Mod) ∷ kind (Reserved words.And)
    ∷ kind (Symbol symbols.LeftParenthesis) ∷ kind (Symbol symbols.Period)
    ∷ kind (Symbol symbols.LeftBracket) ∷ []
goes_on simple =
    kind (Symbol symbols.Plus) ∷ kind (Symbol symbols.Minus) ∷ kind (Reserved words.Or)
    ∷ kind (Symbol symbols.Star) ∷ kind (Reserved words.Div) ∷ kind (Reserved words.Mod)
    ∷ kind (Reserved words.And) ∷ kind (Symbol symbols.LeftParenthesis)
    ∷ kind (Symbol symbols.Period) ∷ kind (Symbol symbols.LeftBracket) ∷ []
goes_on term =
    kind (Symbol symbols.Star) ∷ kind (Reserved words.Div) ∷ kind (Reserved words.Mod)
    ∷ kind (Reserved words.And) ∷ kind (Symbol symbols.LeftParenthesis)
    ∷ kind (Symbol symbols.Period) ∷ kind (Symbol symbols.LeftBracket) ∷ []
goes_on factor =
    kind (Symbol symbols.LeftParenthesis) ∷ kind (Symbol symbols.Period)
    ∷ kind (Symbol symbols.LeftBracket) ∷ []
goes_on member =
    kind (Symbol symbols.DoublePeriod) ∷ kind (Symbol symbols.Equal)
    ∷ kind (Symbol symbols.Unequal) ∷ kind (Symbol symbols.Below) ∷ kind (Symbol symbols.AtMost)
    ∷ kind (Symbol symbols.Above) ∷ kind (Symbol symbols.AtLeast) ∷ kind (Reserved words.In)
    ∷ kind (Symbol symbols.Plus) ∷ kind (Symbol symbols.Minus) ∷ kind (Reserved words.Or)
    ∷ kind (Symbol symbols.Star) ∷ kind (Reserved words.Div) ∷ kind (Reserved words.Mod)
    ∷ kind (Reserved words.And) ∷ kind (Symbol symbols.LeftParenthesis)
    ∷ kind (Symbol symbols.Period) ∷ kind (Symbol symbols.LeftBracket) ∷ []
goes_on _ = []

-- whether a tree of a production can be empty
abbrev pub can_be_left_out : Production → Bool
can_be_left_out statement = true
can_be_left_out _ = false

-- what is known of each production
abbrev pub marks : Marks Test Production
marks = record { starts = begins; goes_on = goes_on; is_empty = can_be_left_out }
