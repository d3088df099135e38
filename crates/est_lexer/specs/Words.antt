-- The words and the symbols of the profile with their kinds (ISO 9074 and ISO 7185, word symbols
-- and special symbols).
use Rattle.std.specs.Prelude.{ℕ, List, [], ◌∷◌, codes}
use Rattle.est_lexer.specs.declared.kind.TokenKind.{TokenKind}
use Rattle.est_lexer.specs.declared.kind.TokenKind.TheVariants.{Reserved, LeftOut, Symbol}
use Rattle.est_lexer.specs.declared.kind.ReservedWord.TheVariants as word
use Rattle.est_lexer.specs.declared.kind.LeftOutToken.TheVariants as left
use Rattle.est_lexer.specs.declared.kind.Symbol.TheVariants as sign

-- A word or a symbol: its spelling, a word in lower case, and its kind.
abbrev pub Word : Type 0
Word = List ℕ × TokenKind

-- The reserved words, and those of Estelle and Pascal that the profile leaves out. No spelling
-- stands twice, so their order says nothing.
unfoldable pub words : List Word
words = (codes "activity", Reserved word.Activity) ∷ (codes "all", Reserved word.All)
    ∷ (codes "and", Reserved word.And) ∷
    (codes "any", Reserved word.Any) ∷ (codes "array", Reserved word.Array)
    ∷ (codes "attach", Reserved word.Attach) ∷
    (codes "begin", Reserved word.Begin) ∷ (codes "body", Reserved word.Body)
    ∷ (codes "by", Reserved word.By) ∷ (codes "case", Reserved word.Case) ∷
    (codes "channel", Reserved word.Channel) ∷ (codes "common", Reserved word.Common)
    ∷ (codes "connect", Reserved word.Connect) ∷
    (codes "const", Reserved word.Const) ∷ (codes "default", Reserved word.Default)
    ∷ (codes "delay", Reserved word.Delay) ∷
    (codes "detach", Reserved word.Detach) ∷ (codes "disconnect", Reserved word.Disconnect)
    ∷ (codes "div", Reserved word.Div) ∷
    (codes "do", Reserved word.Do) ∷ (codes "downto", Reserved word.Downto)
    ∷ (codes "else", Reserved word.Else) ∷ (codes "end", Reserved word.End) ∷
    (codes "exist", LeftOut left.Exist) ∷ (codes "export", Reserved word.Export)
    ∷ (codes "external", LeftOut left.External) ∷
    (codes "file", LeftOut left.File) ∷ (codes "for", Reserved word.For)
    ∷ (codes "forone", LeftOut left.Forone) ∷
    (codes "forward", LeftOut left.Forward) ∷ (codes "from", Reserved word.From)
    ∷ (codes "function", Reserved word.Function) ∷
    (codes "goto", LeftOut left.Goto) ∷ (codes "if", Reserved word.If)
    ∷ (codes "in", Reserved word.In) ∷
    (codes "individual", Reserved word.Individual) ∷ (codes "init", Reserved word.Init)
    ∷ (codes "initialize", Reserved word.Initialize) ∷
    (codes "ip", Reserved word.Ip) ∷ (codes "label", LeftOut left.Label)
    ∷ (codes "mod", Reserved word.Mod) ∷ (codes "module", Reserved word.Module) ∷
    (codes "modvar", Reserved word.Modvar) ∷ (codes "name", Reserved word.Name)
    ∷ (codes "nil", LeftOut left.Nil) ∷ (codes "not", Reserved word.Not) ∷
    (codes "of", Reserved word.Of) ∷ (codes "or", Reserved word.Or)
    ∷ (codes "otherwise", Reserved word.Otherwise) ∷
    (codes "output", Reserved word.Output) ∷ (codes "packed", Reserved word.Packed)
    ∷ (codes "primitive", LeftOut left.Primitive) ∷
    (codes "priority", Reserved word.Priority) ∷ (codes "procedure", Reserved word.Procedure)
    ∷ (codes "process", LeftOut left.Process) ∷
    (codes "provided", Reserved word.Provided) ∷ (codes "pure", Reserved word.Pure)
    ∷ (codes "queue", Reserved word.Queue) ∷
    (codes "real", LeftOut left.Real) ∷ (codes "record", Reserved word.Record)
    ∷ (codes "release", Reserved word.Release) ∷
    (codes "repeat", Reserved word.Repeat) ∷ (codes "same", Reserved word.Same)
    ∷ (codes "set", Reserved word.Set) ∷
    (codes "specification", Reserved word.Specification) ∷ (codes "state", Reserved word.State)
    ∷ (codes "stateset", Reserved word.Stateset) ∷
    (codes "suchthat", LeftOut left.Suchthat)
    ∷ (codes "systemactivity", Reserved word.Systemactivity) ∷
    (codes "systemprocess", LeftOut left.Systemprocess)
    ∷ (codes "terminate", LeftOut left.Terminate) ∷ (codes "then", Reserved word.Then) ∷
    (codes "timescale", Reserved word.Timescale) ∷ (codes "to", Reserved word.To)
    ∷ (codes "trans", Reserved word.Trans) ∷
    (codes "type", Reserved word.Type) ∷ (codes "until", Reserved word.Until)
    ∷ (codes "var", Reserved word.Var) ∷
    (codes "when", Reserved word.When) ∷ (codes "while", Reserved word.While)
    ∷ (codes "with", Reserved word.With) ∷ []

-- The special symbols, with `?` and `_`, and those that the profile leaves out. No spelling stands
-- twice, so their order says nothing.
unfoldable pub symbols : List Word
symbols = (codes "...", LeftOut left.Ellipsis) ∷ (codes "..", Symbol sign.DoublePeriod)
    ∷ (codes ".", Symbol sign.Period) ∷
    (codes ":=", Symbol sign.Assign) ∷ (codes ":", Symbol sign.Colon)
    ∷ (codes "<>", Symbol sign.Unequal) ∷ (codes "<=", Symbol sign.AtMost) ∷
    (codes "<", Symbol sign.Below) ∷ (codes ">=", Symbol sign.AtLeast)
    ∷ (codes ">", Symbol sign.Above) ∷ (codes "=", Symbol sign.Equal) ∷
    (codes "+", Symbol sign.Plus) ∷ (codes "-", Symbol sign.Minus) ∷ (codes "*", Symbol sign.Star)
    ∷ (codes "(", Symbol sign.LeftParenthesis) ∷
    (codes ")", Symbol sign.RightParenthesis) ∷ (codes "[", Symbol sign.LeftBracket)
    ∷ (codes "]", Symbol sign.RightBracket) ∷
    (codes ",", Symbol sign.Comma) ∷ (codes ";", Symbol sign.Semicolon)
    ∷ (codes "_", Symbol sign.Underscore) ∷
    (codes "?", Symbol sign.QuestionMark) ∷ (codes "^", LeftOut left.Caret)
    ∷ (codes "@", LeftOut left.At) ∷ (codes "/", LeftOut left.Slash) ∷ []
