-- What the reader of an `init` answers.
use Rattle.std.specs.Prelude.{◌≡◌, List}
use Rattle.est_syntax.specs.declared.name.Used.{Used}
use Rattle.est_syntax.specs.declared.expression.Access.{Access}
use Rattle.est_syntax.specs.declared.expression.Expr.{Expr}
use Rattle.est_syntax.specs.declared.statement.Statement.{Statement, Init}
use Rattle.text_reader.specs.Grammar.{rule}
use Rattle.text_reader.specs.declared.reader.Reader.{Reader}
use Rattle.text_reader.specs.Going.{Goes}
use Rattle.text_productions.specs.Productions as grammar
use Rattle.text_productions.specs.Nodes as node
use Rattle.text_productions.specs.Syntax.{estelle}

-- an `init` is read, whose place is that of its first token
pub record Initializes (old : Reader) (result : Statement) (new : Reader) : Type 0 where
  pub target : Access
  pub body : Used
  pub arguments : List Expr
  pub goes : Goes estelle (rule grammar.init) old (node.init target body arguments) new
  pub same : result ≡ Init target body arguments old.at
