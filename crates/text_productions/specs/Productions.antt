-- The grammar of Estelle specifications (ISO 9074), with the Pascal of ISO 7185 that they use: one
-- definition for each production, below the production as it is written.
--
-- Where two alternatives begin with the same token, what they share stands before the choice, so
-- that the next token alone decides. A token after `deeper` opens a level. Where alternatives are
-- many, a line in brackets tells their numbers, by which the views of trees name them.
use Rattle.est_lexer.specs.declared.kind.ReservedWord.{ReservedWord}
use Rattle.est_lexer.specs.declared.kind.ReservedWord.TheVariants as words
use Rattle.est_lexer.specs.declared.kind.Symbol.{Symbol}
use Rattle.est_lexer.specs.declared.kind.Symbol.TheVariants as symbols
use Rattle.est_lexer.specs.declared.kind.TokenKind.TheVariants.{Number, Character, Reserved}
use Rattle.est_lexer.specs.declared.kind.TokenKind.TheVariants as token
use Rattle.text_reader.specs.Grammar.{done, word, token, here, skip, seq, alt}
use Rattle.text_reader.specs.Grammar.{opt, rep, nearest, ended, deeper, rule}
use Rattle.text_reader.specs.Tests.{kind}
use Rattle.text_reader.specs.Going as going
use Rattle.text_reader.specs.Going.{identifier}

-- The names of the productions.
pub data Production : Type 0 where
  specification common own : Production
  consts constdef constant : Production
  types typedef typetext shorttype arraytype recordtype settype : Production
  vars vardef : Production
  channel by_part interaction param : Production
  header point dims queue export modvar stateset : Production
  body routine formal block : Production
  transpart transition clause : Production
  access : Production
  statement arm sending init end_point : Production
  expr simple term factor selector member : Production

-- The right side of a production.
abbrev pub Rule : Type 0
Rule = going.Rule Production

-- a reserved word, and then the rest
abbrev pub said : ReservedWord → Rule → Rule
said w g = word (kind (Reserved w)) g

-- a symbol, and then the rest
abbrev pub symbol : Symbol → Rule → Rule
symbol s g = word (kind (token.Symbol s)) g

-- a reserved word alone
abbrev pub only : ReservedWord → Rule
only w = said w done

-- a symbol alone
abbrev pub mark : Symbol → Rule
mark s = symbol s done

-- number
abbrev pub number : Rule
number = token (kind Number)

-- character
abbrev pub character : Rule
character = token (kind Character)

-- g { g }
abbrev pub several : Rule → Rule
several g = seq g (rep g)

-- g { s g }
abbrev pub separated : Symbol → Rule → Rule
separated s g = seq g (rep (symbol s g))

-- g { "," g }
abbrev pub listed : Rule → Rule
listed g = separated symbols.Comma g

-- [ "(" g ")" ], without a level of its own
abbrev pub bracketed : Rule → Rule
bracketed g = opt (symbol symbols.LeftParenthesis (seq g (mark symbols.RightParenthesis)))

-- idents = ident { "," ident } .
abbrev pub idents : Rule
idents = listed identifier

-- exprs = expr { "," expr } .
abbrev pub exprs : Rule
exprs = listed (rule expr)

-- params = idents ":" shorttype { ";" idents ":" shorttype } .
abbrev pub params : Rule
params = separated symbols.Semicolon (rule param)

-- formals = formal { ";" formal } .
abbrev pub formals : Rule
formals = separated symbols.Semicolon (rule formal)

-- statements = statement { ";" statement } .
abbrev pub statements : Rule
statements = separated symbols.Semicolon (rule statement)

-- Constants (ISO 7185, 6.3).

-- "+" | "-"
abbrev pub plus_or_minus : Rule
plus_or_minus = alt (mark symbols.Plus) (mark symbols.Minus)

-- ( "+" | "-" ) ( number | ident )
abbrev pub signed : Rule
signed = seq plus_or_minus (alt number identifier)

-- number | ( "+" | "-" ) ( number | ident ) | character, a constant that is no bare name
abbrev pub unnamed : Rule
unnamed = here (alt number (alt signed character))

-- Types (ISO 7185, 6.4).

-- ".." constant
abbrev pub upper : Rule
upper = symbol symbols.DoublePeriod (rule constant)

-- ident [ ".." constant ]
abbrev pub named_type : Rule
named_type = here (seq identifier (opt upper))

-- "(" idents ")"
abbrev pub enumeration : Rule
enumeration = here (symbol symbols.LeftParenthesis (seq idents (mark symbols.RightParenthesis)))

-- [ "packed" ], which leaves no trace
abbrev pub packed : Rule
packed = skip (opt (only words.Packed))

-- arraytype | recordtype | settype
abbrev pub structure : Rule
structure = alt (rule arraytype) (alt (rule recordtype) (rule settype))

-- [ "packed" ] ( arraytype | recordtype | settype )
abbrev pub structured : Rule
structured = here (seq packed structure)

-- idents ":" typetext
abbrev pub field : Rule
field = seq idents (symbol symbols.Colon (rule typetext))

-- fields = idents ":" typetext { ";" idents ":" typetext } .
-- with the ";" that may stand after them
abbrev pub fields : Rule
fields = seq field (ended (kind (token.Symbol symbols.Semicolon)) field)

-- Channels, headers and what they declare (ISO 9074).

-- [ "(" params ")" ]
abbrev pub parameters : Rule
parameters = bracketed params

-- [ "," ident ]
abbrev pub other_role : Rule
other_role = opt (symbol symbols.Comma identifier)

-- "systemactivity" | "activity"
abbrev pub attribute : Rule
attribute = alt (only words.Systemactivity) (only words.Activity)

-- "ip" point { point }
abbrev pub points : Rule
points = said words.Ip (several (rule point))

-- "export" export { export }
abbrev pub exports : Rule
exports = said words.Export (several (rule export))

-- [ dims ], with the place of its first token
abbrev pub dimensions : Rule
dimensions = opt (here (rule dims))

-- "modvar" modvar { modvar }
abbrev pub modvars : Rule
modvars = said words.Modvar (several (rule modvar))

-- "state" idents ";"
abbrev pub states : Rule
states = said words.State (seq idents (mark symbols.Semicolon))

-- "stateset" stateset { stateset }
abbrev pub statesets : Rule
statesets = said words.Stateset (several (rule stateset))

-- Routines and blocks (ISO 7185, 6.2 and 6.6).

-- [ "(" formals ")" ]
abbrev pub formal_part : Rule
formal_part = bracketed formals

-- "procedure" ident [ "(" formals ")" ] ";" block ";"
abbrev pub procedure : Rule
procedure = said words.Procedure (seq identifier (seq formal_part (symbol symbols.Semicolon
    (seq (rule block) (mark symbols.Semicolon)))))

-- [ "pure" ] "function" ident [ "(" formals ")" ] ":" ident ";" block ";"
abbrev pub function : Rule
function = seq (skip (opt (only words.Pure)))
    (said words.Function (seq identifier (seq formal_part (symbol symbols.Colon
    (seq identifier (symbol symbols.Semicolon (seq (rule block) (mark symbols.Semicolon))))))))

-- consts | types | vars
abbrev pub block_part : Rule
block_part = alt (rule consts) (alt (rule types) (rule vars))

-- "begin" statements "end"
abbrev pub begin_end : Rule
begin_end = said words.Begin (seq statements (only words.End))

-- Transitions (ISO 9074, transition-declaration).

-- "from" idents
abbrev pub from_clause : Rule
from_clause = said words.From idents

-- ident | "same"
abbrev pub next_state : Rule
next_state = alt identifier (only words.Same)

-- "to" ( ident | "same" )
abbrev pub to_clause : Rule
to_clause = said words.To next_state

-- "when" access "." ident
abbrev pub when_clause : Rule
when_clause = said words.When (seq (rule access) (symbol symbols.Period identifier))

-- "provided" ( expr | "otherwise" )
abbrev pub provided_clause : Rule
provided_clause = said words.Provided (alt (rule expr) (only words.Otherwise))

-- "any" params "do"
abbrev pub any_clause : Rule
any_clause = said words.Any (seq params (only words.Do))

-- "priority" constant
abbrev pub priority_clause : Rule
priority_clause = said words.Priority (rule constant)

-- [ "," ( expr | "*" ) ]
abbrev pub later_bound : Rule
later_bound = opt (symbol symbols.Comma (alt (rule expr) (mark symbols.Star)))

-- "delay" "(" expr [ "," ( expr | "*" ) ] ")"
abbrev pub delay_clause : Rule
delay_clause = said words.Delay (symbol symbols.LeftParenthesis
    (seq (rule expr) (seq later_bound (mark symbols.RightParenthesis))))

-- [ "name" ident ":" ]
abbrev pub transition_name : Rule
transition_name = opt (said words.Name (seq identifier (mark symbols.Colon)))

-- [ "." access ]
abbrev pub access_given : Rule
access_given = opt (symbol symbols.Period (rule access))

-- Statements (ISO 7185, 6.8, and ISO 9074).

-- "(" exprs ")", which opens a level
abbrev pub called : Rule
called = deeper (symbol symbols.LeftParenthesis (seq exprs (mark symbols.RightParenthesis)))

-- [ "(" exprs ")" ]
abbrev pub arguments : Rule
arguments = opt called

-- "[" exprs "]", which opens a level
abbrev pub subscripts : Rule
subscripts = deeper (symbol symbols.LeftBracket (seq exprs (mark symbols.RightBracket)))

-- "begin" statements "end", a statement
abbrev pub compound : Rule
compound = deeper begin_end

-- { selector }
abbrev pub path : Rule
path = opt (several (rule selector))

-- { selector } ":=" expr
abbrev pub assigned : Rule
assigned = seq path (symbol symbols.Assign (rule expr))

-- ident { selector } ":=" expr | ident [ "(" exprs ")" ]
abbrev pub assignment_or_call : Rule
assignment_or_call = seq identifier (opt (alt assigned called))

-- [ "else" statement ], which belongs to the nearest "if"
abbrev pub else_part : Rule
else_part = nearest (kind (Reserved words.Else)) (rule statement)

-- "if" expr "then" statement [ "else" statement ]
abbrev pub if_statement : Rule
if_statement = deeper (said words.If (seq (rule expr) (said words.Then
    (seq (rule statement) else_part))))

-- arm { ";" arm } [ ";" ]
abbrev pub arms : Rule
arms = seq (rule arm) (ended (kind (token.Symbol symbols.Semicolon)) (rule arm))

-- "case" expr "of" arm { ";" arm } [ ";" ] "end"
abbrev pub case_statement : Rule
case_statement = deeper (said words.Case (seq (rule expr) (said words.Of
    (seq arms (only words.End)))))

-- "while" expr "do" statement
abbrev pub while_statement : Rule
while_statement = deeper (said words.While (seq (rule expr) (said words.Do (rule statement))))

-- "repeat" statements "until" expr
abbrev pub repeat_statement : Rule
repeat_statement = deeper (said words.Repeat (seq statements (said words.Until (rule expr))))

-- "to" | "downto"
abbrev pub direction : Rule
direction = alt (only words.To) (only words.Downto)

-- "for" ident ":=" expr ( "to" | "downto" ) expr "do" statement
abbrev pub for_statement : Rule
for_statement = deeper (said words.For (seq identifier (symbol symbols.Assign
    (seq (rule expr) (seq direction (seq (rule expr) (said words.Do (rule statement))))))))

-- "all" ident ":" shorttype "do" statement
abbrev pub all_statement : Rule
all_statement = deeper (said words.All (seq identifier (symbol symbols.Colon
    (seq (rule shorttype) (said words.Do (rule statement))))))

-- "output" sending { "," sending }
abbrev pub output_statement : Rule
output_statement = said words.Output (listed (rule sending))

-- "release" access
abbrev pub release_statement : Rule
release_statement = said words.Release (rule access)

-- "connect" end "to" end
abbrev pub connect_statement : Rule
connect_statement = said words.Connect (seq (rule end_point) (said words.To (rule end_point)))

-- "disconnect" end
abbrev pub disconnect_statement : Rule
disconnect_statement = said words.Disconnect (rule end_point)

-- "attach" access "to" access "." access
abbrev pub attach_statement : Rule
attach_statement = said words.Attach (seq (rule access) (said words.To
    (seq (rule access) (symbol symbols.Period (rule access)))))

-- "detach" end
abbrev pub detach_statement : Rule
detach_statement = said words.Detach (rule end_point)

-- Expressions (ISO 7185, 6.7).

-- "=" | "<>" | "<" | "<=" | ">" | ">=" | "in"
-- (by number: = 0, <> 1, < 2, <= 3, > 4, >= 5, in 6)
abbrev pub relational_operator : Rule
relational_operator = alt (mark symbols.Equal) (alt (mark symbols.Unequal)
    (alt (mark symbols.Below) (alt (mark symbols.AtMost)
    (alt (mark symbols.Above) (alt (mark symbols.AtLeast) (only words.In))))))

-- "+" | "-" | "or"
abbrev pub adding_operator : Rule
adding_operator = alt (mark symbols.Plus) (alt (mark symbols.Minus) (only words.Or))

-- "*" | "div" | "mod" | "and"
abbrev pub multiplying_operator : Rule
multiplying_operator = alt (mark symbols.Star) (alt (only words.Div)
    (alt (only words.Mod) (only words.And)))

-- [ relational_operator simple ]
abbrev pub relation : Rule
relation = opt (seq relational_operator (rule simple))

-- adding_operator term
abbrev pub sum_step : Rule
sum_step = seq adding_operator (rule term)

-- multiplying_operator factor
abbrev pub product_step : Rule
product_step = seq multiplying_operator (rule factor)

-- [ ".." expr ]
abbrev pub later_end : Rule
later_end = opt (symbol symbols.DoublePeriod (rule expr))

-- "(" expr ")"
abbrev pub group : Rule
group = deeper (symbol symbols.LeftParenthesis (seq (rule expr) (mark symbols.RightParenthesis)))

-- "not" factor
abbrev pub negation : Rule
negation = deeper (said words.Not (rule factor))

-- "[" [ member { "," member } ] "]"
abbrev pub set : Rule
set = deeper (symbol symbols.LeftBracket
    (seq (opt (listed (rule member))) (mark symbols.RightBracket)))

-- ident ( "(" exprs ")" | { selector } )
abbrev pub variable_or_call : Rule
variable_or_call = seq identifier (opt (alt called (several (rule selector))))

-- Declarations and specifications (ISO 9074).

-- [ "default" queue ";" ]
abbrev pub default_queue : Rule
default_queue = opt (said words.Default (seq (rule queue) (mark symbols.Semicolon)))

-- [ "timescale" ident ";" ]
abbrev pub time_scale : Rule
time_scale = opt (said words.Timescale (seq identifier (mark symbols.Semicolon)))

-- "initialize" "begin" init [ ";" ] "end" ";" "end" "."
abbrev pub initialization : Rule
initialization = said words.Initialize (said words.Begin (seq (here (rule init))
    (seq (skip (opt (mark symbols.Semicolon)))
    (said words.End (symbol symbols.Semicolon (said words.End (mark symbols.Period)))))))

-- common | own
abbrev pub body_part : Rule
body_part = alt (rule common) (rule own)

-- [ "to" ident ]
abbrev pub first_state : Rule
first_state = opt (said words.To identifier)

-- [ "initialize" [ "to" ident ] block ";" ]
abbrev pub first_part : Rule
first_part = opt (said words.Initialize (seq first_state
    (seq (rule block) (mark symbols.Semicolon))))

-- the right side of each production
abbrev pub production : Production → Rule
-- specification = "specification" ident ";" [ "default" queue ";" ] [ "timescale" ident ";" ]
--     { common } "initialize" "begin" init [ ";" ] "end" ";" "end" "." .
production specification = said words.Specification (seq identifier (symbol symbols.Semicolon
    (seq default_queue (seq time_scale (seq (rep (rule common)) initialization)))))
-- common = consts | types | channel | header | body | routine | "modvar" modvar { modvar } .
-- (by number: consts 0, types 1, channel 2, header 3, body 4, routine 5, modvar 6)
production common = alt (rule consts) (alt (rule types) (alt (rule channel)
    (alt (rule header) (alt (rule body) (alt (rule routine) modvars)))))
-- own = "ip" point { point } | vars | "state" idents ";" | "stateset" stateset { stateset } .
-- (by number: ip 0, vars 1, state 2, stateset 3)
production own = alt points (alt (rule vars) (alt states statesets))
-- consts = "const" constdef { constdef } .
production consts = said words.Const (several (rule constdef))
-- constdef = ident "=" constant ";" .
production constdef = seq identifier (symbol symbols.Equal
    (seq (rule constant) (mark symbols.Semicolon)))
-- constant = [ "+" | "-" ] ( number | ident ) | character .
production constant = alt unnamed (here identifier)
-- types = "type" typedef { typedef } .
production types = said words.Type (several (rule typedef))
-- typedef = ident "=" typetext ";" .
production typedef = seq identifier (symbol symbols.Equal
    (seq (rule typetext) (mark symbols.Semicolon)))
-- typetext = shorttype | "(" idents ")" | [ "packed" ] ( arraytype | recordtype | settype ) .
production typetext = alt (rule shorttype) (alt enumeration structured)
-- shorttype = ident | constant ".." constant .
production shorttype = alt (seq unnamed upper) named_type
-- arraytype = "array" "[" typetext { "," typetext } "]" "of" typetext .
production arraytype = deeper (said words.Array (symbol symbols.LeftBracket
    (seq (listed (rule typetext)) (symbol symbols.RightBracket (said words.Of (rule typetext))))))
-- recordtype = "record" fields [ ";" ] "end" .
production recordtype = deeper (said words.Record (seq fields (only words.End)))
-- settype = "set" "of" typetext .
production settype = deeper (said words.Set (said words.Of (rule typetext)))
-- vars = "var" vardef { vardef } .
production vars = said words.Var (several (rule vardef))
-- vardef = idents ":" typetext ";" .
production vardef = seq idents (symbol symbols.Colon (seq (rule typetext) (mark symbols.Semicolon)))
-- channel = "channel" ident "(" ident "," ident ")" ";" by { by } .
production channel = said words.Channel (seq identifier (symbol symbols.LeftParenthesis
    (seq identifier (symbol symbols.Comma (seq identifier (symbol symbols.RightParenthesis
    (symbol symbols.Semicolon (several (rule by_part)))))))))
-- by_part = "by" ident [ "," ident ] ":" interaction { interaction } .
production by_part = said words.By (seq identifier (seq other_role
    (symbol symbols.Colon (several (rule interaction)))))
-- interaction = ident [ "(" params ")" ] ";" .
production interaction = seq identifier (seq parameters (mark symbols.Semicolon))
-- idents ":" shorttype, one part of params
production param = seq idents (symbol symbols.Colon (rule shorttype))
-- header = "module" ident ( "systemactivity" | "activity" ) [ "(" params ")" ] ";"
--     { "ip" point { point } | "export" export { export } } "end" ";" .
production header = said words.Module (seq identifier (seq attribute (seq parameters
    (symbol symbols.Semicolon (seq (rep (alt points exports))
    (said words.End (mark symbols.Semicolon)))))))
-- point = idents ":" [ dims ] ident "(" ident ")" [ queue ] ";" .
production point = here (seq idents (symbol symbols.Colon (seq dimensions (seq identifier
    (symbol symbols.LeftParenthesis (seq identifier (symbol symbols.RightParenthesis
    (seq (opt (rule queue)) (mark symbols.Semicolon)))))))))
-- dims = "array" "[" shorttype { "," shorttype } "]" "of" .
production dims = said words.Array (symbol symbols.LeftBracket
    (seq (listed (rule shorttype)) (symbol symbols.RightBracket (only words.Of))))
-- queue = ( "individual" | "common" ) "queue" .
production queue = alt (said words.Individual (only words.Queue))
    (said words.Common (only words.Queue))
-- export = idents ":" shorttype ";" .
production export = seq idents (symbol symbols.Colon
    (seq (rule shorttype) (mark symbols.Semicolon)))
-- modvar = idents ":" [ dims ] ident ";" .
production modvar = here (seq idents (symbol symbols.Colon
    (seq dimensions (seq identifier (mark symbols.Semicolon)))))
-- stateset = ident "=" "[" idents "]" ";" .
production stateset = seq identifier (symbol symbols.Equal (symbol symbols.LeftBracket
    (seq idents (symbol symbols.RightBracket (mark symbols.Semicolon)))))
-- body = "body" ident "for" ident ";" { common | own }
--     [ "initialize" [ "to" ident ] block ";" ] { transpart } "end" ";" .
production body = deeper (said words.Body (seq identifier (said words.For (seq identifier
    (symbol symbols.Semicolon (seq (rep body_part) (seq first_part
    (seq (rep (rule transpart)) (said words.End (mark symbols.Semicolon))))))))))
-- routine = "procedure" ident [ "(" formals ")" ] ";" block ";"
--     | [ "pure" ] "function" ident [ "(" formals ")" ] ":" ident ";" block ";" .
production routine = alt procedure function
-- formal = [ "var" ] idents ":" ident .
production formal = seq (opt (only words.Var)) (seq idents (symbol symbols.Colon identifier))
-- block = { consts | types | vars } "begin" statements "end" .
production block = seq (rep block_part) (here begin_end)
-- transpart = "trans" transition { transition } .
production transpart = said words.Trans (several (rule transition))
-- transition = { clause } [ "name" ident ":" ] block ";" .
production transition = seq (rep (rule clause)) (seq transition_name
    (seq (rule block) (mark symbols.Semicolon)))
-- clause = "from" idents | "to" ( ident | "same" ) | "when" access "." ident
--     | "provided" ( expr | "otherwise" ) | "any" params "do" | "priority" constant
--     | "delay" "(" expr [ "," ( expr | "*" ) ] ")" .
-- (by number: from 0, to 1, when 2, provided 3, any 4, priority 5, delay 6)
production clause = here (alt from_clause (alt to_clause (alt when_clause (alt provided_clause
    (alt any_clause (alt priority_clause delay_clause))))))
-- access = ident [ "[" exprs "]" ] .
production access = seq identifier (opt subscripts)
-- statement = [ "begin" .. | ident .. | "if" .. | "case" .. | "while" .. | "repeat" .. | "for" ..
--     | "all" .. | "output" .. | init | "release" .. | "connect" .. | "disconnect" ..
--     | "attach" .. | "detach" .. ] .
-- (by number: begin 0, ident 1, if 2, case 3, while 4, repeat 5, for 6, all 7, output 8, init 9,
-- release 10, connect 11, disconnect 12, attach 13, detach 14)
production statement = here (opt (alt compound (alt assignment_or_call (alt if_statement
    (alt case_statement (alt while_statement (alt repeat_statement (alt for_statement
    (alt all_statement (alt output_statement (alt (rule init) (alt release_statement
    (alt connect_statement (alt disconnect_statement
    (alt attach_statement detach_statement)))))))))))))))
-- arm = constant { "," constant } ":" statement .
production arm = seq (listed (rule constant)) (symbol symbols.Colon (rule statement))
-- sending = access "." ident [ "(" exprs ")" ] .
production sending = seq (rule access) (symbol symbols.Period (seq identifier arguments))
-- init = "init" access "with" ident [ "(" exprs ")" ] .
production init = said words.Init (seq (rule access) (said words.With (seq identifier arguments)))
-- end_point = access [ "." access ] .
production end_point = seq (rule access) access_given
-- expr = simple [ ( "=" | "<>" | "<" | "<=" | ">" | ">=" | "in" ) simple ] .
production expr = here (seq (rule simple) relation)
-- simple = [ "+" | "-" ] term { ( "+" | "-" | "or" ) term } .
production simple = seq (opt plus_or_minus) (seq (rule term) (rep sum_step))
-- term = factor { ( "*" | "div" | "mod" | "and" ) factor } .
production term = seq (rule factor) (rep product_step)
-- factor = number | character | "(" expr ")" | "not" factor
--     | "[" [ member { "," member } ] "]" | ident ( "(" exprs ")" | { selector } ) .
-- (by number: number 0, character 1, ( 2, not 3, [ 4, ident 5)
production factor = here (alt number (alt character (alt group (alt negation
    (alt set variable_or_call)))))
-- selector = "." ident | "[" exprs "]" .
production selector = alt (symbol symbols.Period identifier) (here subscripts)
-- member = expr [ ".." expr ] .
production member = seq (rule expr) later_end
