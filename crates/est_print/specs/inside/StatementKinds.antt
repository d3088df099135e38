-- Which statements choose by a condition or repeat others, and which only Estelle knows.
use Rattle.est_syntax.specs.declared.statement.Statement.TheOpen as statements
use Rattle.text_productions.specs.Nodes.{StatementForm}

-- a choice by a condition (ISO 7185, 6.8.3.4)
abbrev pub IsIf : StatementForm → Type 0
IsIf (statements.If condition one other place) = Unit {0}
IsIf _ = ⊥

-- a statement that repeats others (ISO 7185, 6.8.3.6), or goes through what a domain has (ISO 9074)
abbrev pub IsLoop : StatementForm → Type 0
IsLoop (statements.While condition turn place) = Unit {0}
IsLoop (statements.Repeat turn until place) = Unit {0}
IsLoop (statements.For name from down to turn place) = Unit {0}
IsLoop (statements.All name over turn place) = Unit {0}
IsLoop _ = ⊥

-- a statement that only Estelle knows (ISO 9074)
abbrev pub IsEstelle : StatementForm → Type 0
IsEstelle (statements.Output sendings place) = Unit {0}
IsEstelle (statements.Init target body arguments place) = Unit {0}
IsEstelle (statements.Release target place) = Unit {0}
IsEstelle (statements.Connect one other place) = Unit {0}
IsEstelle (statements.Disconnect end_ place) = Unit {0}
IsEstelle (statements.Attach own child ip place) = Unit {0}
IsEstelle (statements.Detach end_ place) = Unit {0}
IsEstelle _ = ⊥
