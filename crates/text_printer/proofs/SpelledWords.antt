-- The tables of spellings have words and symbols at their places.
use Rattle.std.proofs.Common.{ℕ, ◌*◌, ◌<◌, List, [], ◌∷◌, get_or, refl, lit<}
use Rattle.std.specs.Prelude.{codes}
use denote.Enum.Declared.{tag_of}
use Rattle.est_lexer.specs.Spellings.{kind_of, word_kind, symbol_kind}
use Rattle.est_lexer.specs.Words.{words, symbols}
use Rattle.est_lexer.specs.contracts.kind.ReservedWord as reserved
use Rattle.est_lexer.specs.contracts.kind.Symbol as symbols_of
use Rattle.est_lexer.specs.declared.kind.ReservedWord.{ReservedWord}
use Rattle.est_lexer.specs.declared.kind.ReservedWord.TheVariants as word
use Rattle.est_lexer.specs.declared.kind.Symbol.{Symbol}
use Rattle.est_lexer.specs.declared.kind.Symbol.TheVariants as sign
use Rattle.est_lexer.specs.declared.kind.TokenKind.TheVariants as token
use Rattle.text_printer.specs.PlainSpelling.{IsSpelledPlainly}

-- the reserved words in their order
abbrev pub word_list : List (List ℕ)
word_list =
    codes "activity" ∷ codes "all" ∷ codes "and" ∷ codes "any" ∷ codes "array" ∷
    codes "attach" ∷ codes "begin" ∷ codes "body" ∷ codes "by" ∷ codes "case" ∷
    codes "channel" ∷ codes "common" ∷ codes "connect" ∷ codes "const" ∷ codes "default" ∷
    codes "delay" ∷ codes "detach" ∷ codes "disconnect" ∷ codes "div" ∷ codes "do" ∷
    codes "downto" ∷ codes "else" ∷ codes "end" ∷ codes "export" ∷ codes "for" ∷ codes "from" ∷
    codes "function" ∷ codes "if" ∷ codes "in" ∷ codes "individual" ∷ codes "init" ∷
    codes "initialize" ∷ codes "ip" ∷ codes "mod" ∷ codes "module" ∷ codes "modvar" ∷
    codes "name" ∷ codes "not" ∷ codes "of" ∷ codes "or" ∷ codes "otherwise" ∷ codes "output" ∷
    codes "packed" ∷ codes "priority" ∷ codes "procedure" ∷ codes "provided" ∷ codes "pure" ∷
    codes "queue" ∷ codes "record" ∷ codes "release" ∷ codes "repeat" ∷ codes "same" ∷
    codes "set" ∷ codes "specification" ∷ codes "state" ∷ codes "stateset" ∷
    codes "systemactivity" ∷ codes "then" ∷ codes "timescale" ∷ codes "to" ∷ codes "trans" ∷
    codes "type" ∷ codes "until" ∷ codes "var" ∷ codes "when" ∷ codes "while" ∷ codes "with" ∷
    []

-- the symbols in their order
abbrev pub symbol_list : List (List ℕ)
symbol_list =
    codes "+" ∷ codes "-" ∷ codes "*" ∷ codes "=" ∷ codes "<>" ∷ codes "<" ∷ codes "<=" ∷
    codes ">" ∷ codes ">=" ∷ codes "(" ∷ codes ")" ∷ codes "[" ∷ codes "]" ∷ codes "," ∷
    codes ";" ∷ codes ":" ∷ codes ":=" ∷ codes "." ∷ codes ".." ∷ codes "_" ∷ codes "?" ∷ []

pub word_within : (w : ReservedWord) → tag_of reserved.the_type w < 67
word_within word.Activity = lit< tt
word_within word.All = lit< tt
word_within word.And = lit< tt
word_within word.Any = lit< tt
word_within word.Array = lit< tt
word_within word.Attach = lit< tt
word_within word.Begin = lit< tt
word_within word.Body = lit< tt
word_within word.By = lit< tt
word_within word.Case = lit< tt
word_within word.Channel = lit< tt
word_within word.Common = lit< tt
word_within word.Connect = lit< tt
word_within word.Const = lit< tt
word_within word.Default = lit< tt
word_within word.Delay = lit< tt
word_within word.Detach = lit< tt
word_within word.Disconnect = lit< tt
word_within word.Div = lit< tt
word_within word.Do = lit< tt
word_within word.Downto = lit< tt
word_within word.Else = lit< tt
word_within word.End = lit< tt
word_within word.Export = lit< tt
word_within word.For = lit< tt
word_within word.From = lit< tt
word_within word.Function = lit< tt
word_within word.If = lit< tt
word_within word.In = lit< tt
word_within word.Individual = lit< tt
word_within word.Init = lit< tt
word_within word.Initialize = lit< tt
word_within word.Ip = lit< tt
word_within word.Mod = lit< tt
word_within word.Module = lit< tt
word_within word.Modvar = lit< tt
word_within word.Name = lit< tt
word_within word.Not = lit< tt
word_within word.Of = lit< tt
word_within word.Or = lit< tt
word_within word.Otherwise = lit< tt
word_within word.Output = lit< tt
word_within word.Packed = lit< tt
word_within word.Priority = lit< tt
word_within word.Procedure = lit< tt
word_within word.Provided = lit< tt
word_within word.Pure = lit< tt
word_within word.Queue = lit< tt
word_within word.Record = lit< tt
word_within word.Release = lit< tt
word_within word.Repeat = lit< tt
word_within word.Same = lit< tt
word_within word.Set = lit< tt
word_within word.Specification = lit< tt
word_within word.State = lit< tt
word_within word.Stateset = lit< tt
word_within word.Systemactivity = lit< tt
word_within word.Then = lit< tt
word_within word.Timescale = lit< tt
word_within word.To = lit< tt
word_within word.Trans = lit< tt
word_within word.Type = lit< tt
word_within word.Until = lit< tt
word_within word.Var = lit< tt
word_within word.When = lit< tt
word_within word.While = lit< tt
word_within word.With = lit< tt

pub symbol_within : (s : Symbol) → tag_of symbols_of.the_type s < 21
symbol_within sign.Plus = lit< tt
symbol_within sign.Minus = lit< tt
symbol_within sign.Star = lit< tt
symbol_within sign.Equal = lit< tt
symbol_within sign.Unequal = lit< tt
symbol_within sign.Below = lit< tt
symbol_within sign.AtMost = lit< tt
symbol_within sign.Above = lit< tt
symbol_within sign.AtLeast = lit< tt
symbol_within sign.LeftParenthesis = lit< tt
symbol_within sign.RightParenthesis = lit< tt
symbol_within sign.LeftBracket = lit< tt
symbol_within sign.RightBracket = lit< tt
symbol_within sign.Comma = lit< tt
symbol_within sign.Semicolon = lit< tt
symbol_within sign.Colon = lit< tt
symbol_within sign.Assign = lit< tt
symbol_within sign.Period = lit< tt
symbol_within sign.DoublePeriod = lit< tt
symbol_within sign.Underscore = lit< tt
symbol_within sign.QuestionMark = lit< tt

pub word_listed : (w : ReservedWord) (d : List ℕ)
    → IsSpelledPlainly (token.Reserved w) (get_or word_list (tag_of reserved.the_type w) d)
unfolding kind_of word_kind words
word_listed word.Activity d = record { token = refl; plain = refl }
word_listed word.All d = record { token = refl; plain = refl }
word_listed word.And d = record { token = refl; plain = refl }
word_listed word.Any d = record { token = refl; plain = refl }
word_listed word.Array d = record { token = refl; plain = refl }
word_listed word.Attach d = record { token = refl; plain = refl }
word_listed word.Begin d = record { token = refl; plain = refl }
word_listed word.Body d = record { token = refl; plain = refl }
word_listed word.By d = record { token = refl; plain = refl }
word_listed word.Case d = record { token = refl; plain = refl }
word_listed word.Channel d = record { token = refl; plain = refl }
word_listed word.Common d = record { token = refl; plain = refl }
word_listed word.Connect d = record { token = refl; plain = refl }
word_listed word.Const d = record { token = refl; plain = refl }
word_listed word.Default d = record { token = refl; plain = refl }
word_listed word.Delay d = record { token = refl; plain = refl }
word_listed word.Detach d = record { token = refl; plain = refl }
word_listed word.Disconnect d = record { token = refl; plain = refl }
word_listed word.Div d = record { token = refl; plain = refl }
word_listed word.Do d = record { token = refl; plain = refl }
word_listed word.Downto d = record { token = refl; plain = refl }
word_listed word.Else d = record { token = refl; plain = refl }
word_listed word.End d = record { token = refl; plain = refl }
word_listed word.Export d = record { token = refl; plain = refl }
word_listed word.For d = record { token = refl; plain = refl }
word_listed word.From d = record { token = refl; plain = refl }
word_listed word.Function d = record { token = refl; plain = refl }
word_listed word.If d = record { token = refl; plain = refl }
word_listed word.In d = record { token = refl; plain = refl }
word_listed word.Individual d = record { token = refl; plain = refl }
word_listed word.Init d = record { token = refl; plain = refl }
word_listed word.Initialize d = record { token = refl; plain = refl }
word_listed word.Ip d = record { token = refl; plain = refl }
word_listed word.Mod d = record { token = refl; plain = refl }
word_listed word.Module d = record { token = refl; plain = refl }
word_listed word.Modvar d = record { token = refl; plain = refl }
word_listed word.Name d = record { token = refl; plain = refl }
word_listed word.Not d = record { token = refl; plain = refl }
word_listed word.Of d = record { token = refl; plain = refl }
word_listed word.Or d = record { token = refl; plain = refl }
word_listed word.Otherwise d = record { token = refl; plain = refl }
word_listed word.Output d = record { token = refl; plain = refl }
word_listed word.Packed d = record { token = refl; plain = refl }
word_listed word.Priority d = record { token = refl; plain = refl }
word_listed word.Procedure d = record { token = refl; plain = refl }
word_listed word.Provided d = record { token = refl; plain = refl }
word_listed word.Pure d = record { token = refl; plain = refl }
word_listed word.Queue d = record { token = refl; plain = refl }
word_listed word.Record d = record { token = refl; plain = refl }
word_listed word.Release d = record { token = refl; plain = refl }
word_listed word.Repeat d = record { token = refl; plain = refl }
word_listed word.Same d = record { token = refl; plain = refl }
word_listed word.Set d = record { token = refl; plain = refl }
word_listed word.Specification d = record { token = refl; plain = refl }
word_listed word.State d = record { token = refl; plain = refl }
word_listed word.Stateset d = record { token = refl; plain = refl }
word_listed word.Systemactivity d = record { token = refl; plain = refl }
word_listed word.Then d = record { token = refl; plain = refl }
word_listed word.Timescale d = record { token = refl; plain = refl }
word_listed word.To d = record { token = refl; plain = refl }
word_listed word.Trans d = record { token = refl; plain = refl }
word_listed word.Type d = record { token = refl; plain = refl }
word_listed word.Until d = record { token = refl; plain = refl }
word_listed word.Var d = record { token = refl; plain = refl }
word_listed word.When d = record { token = refl; plain = refl }
word_listed word.While d = record { token = refl; plain = refl }
word_listed word.With d = record { token = refl; plain = refl }

pub symbol_listed : (s : Symbol) (d : List ℕ)
    → IsSpelledPlainly (token.Symbol s) (get_or symbol_list (tag_of symbols_of.the_type s) d)
unfolding kind_of symbol_kind symbols
symbol_listed sign.Plus d = record { token = refl; plain = tt }
symbol_listed sign.Minus d = record { token = refl; plain = tt }
symbol_listed sign.Star d = record { token = refl; plain = tt }
symbol_listed sign.Equal d = record { token = refl; plain = tt }
symbol_listed sign.Unequal d = record { token = refl; plain = tt }
symbol_listed sign.Below d = record { token = refl; plain = tt }
symbol_listed sign.AtMost d = record { token = refl; plain = tt }
symbol_listed sign.Above d = record { token = refl; plain = tt }
symbol_listed sign.AtLeast d = record { token = refl; plain = tt }
symbol_listed sign.LeftParenthesis d = record { token = refl; plain = tt }
symbol_listed sign.RightParenthesis d = record { token = refl; plain = tt }
symbol_listed sign.LeftBracket d = record { token = refl; plain = tt }
symbol_listed sign.RightBracket d = record { token = refl; plain = tt }
symbol_listed sign.Comma d = record { token = refl; plain = tt }
symbol_listed sign.Semicolon d = record { token = refl; plain = tt }
symbol_listed sign.Colon d = record { token = refl; plain = tt }
symbol_listed sign.Assign d = record { token = refl; plain = tt }
symbol_listed sign.Period d = record { token = refl; plain = tt }
symbol_listed sign.DoublePeriod d = record { token = refl; plain = tt }
symbol_listed sign.Underscore d = record { token = refl; plain = tt }
symbol_listed sign.QuestionMark d = record { token = refl; plain = tt }
