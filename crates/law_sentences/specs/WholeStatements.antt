-- Statements that lack nothing of what they look up (ISO 7185, 6.8; ISO 9074, statements).
use Rattle.std.specs.Prelude.{◌≡◌, ◌⊎◌, ℕ, true, List, [], ◌∷◌, Option, Some}
use Rattle.est_syntax.specs.Kinds.{is_ordinal}
use Rattle.est_syntax.specs.declared.constant.Constant.{Constant}
use Rattle.est_syntax.specs.declared.expression.Expr.{Expr}
use Rattle.est_syntax.specs.declared.statement.Sending.{Sending}
use Rattle.est_syntax.specs.declared.statement.Statement.{Statement, Row_of-Statement}
use Rattle.est_syntax.specs.declared.statement.Statement.{end_of-Statement, more_of-Statement}
use Rattle.est_syntax.specs.declared.statement.Statement.{Row_of-Arm, end_of-Arm, more_of-Arm}
use Rattle.est_syntax.specs.declared.statement.Statement.{Held-Statement-If-2, None', Some'}
use Rattle.est_syntax.specs.declared.statement.Statement.TheVariants as statement
use Rattle.est_syntax.specs.declared.type_text.TypeText.{TypeText}
use Rattle.rule_scope.specs.Outline.{Outline}
use Rattle.rule_scope.specs.declared.declaration.Measured.{Measured}
use Rattle.rule_scope.specs.declared.declaration.Sort.TheVariants as sort
use Rattle.rule_kinds.specs.Constants.{constant_value}
use Rattle.rule_kinds.specs.TypeTexts.{text_type}
use Rattle.rule_declares.specs.Bodies.{over_header}
use Rattle.est_values.specs.declared.types.Host.{Host}
use Rattle.rule_expressions.specs.Expressions.{expr_type}
use Rattle.rule_expressions.specs.Operators.{kept}
use Rattle.rule_expressions.specs.declared.operators.Wanted.{Wanted}
use Rattle.rule_expressions.specs.declared.operators.Wanted.TheVariants as wanted
use Rattle.rule_statements.specs.Cases.{chosen_host, ordinal_of}
use Rattle.rule_statements.specs.Statements.{statement_faults, within_loop}
use Rattle.law_sentences.specs.Full.{IsThere}
use Rattle.law_sentences.specs.FullExpressions.{IsWhole}
use Rattle.law_sentences.specs.FullProcedures.{IsCalled}
use Rattle.law_sentences.specs.FullStatements.{IsAssigned, HasBounds, IsAccessed, IsSent, IsStarted}
use Rattle.law_sentences.specs.FullStatements.{IsEnd, IsConnected, AreAttached}
use Rattle.law_sentences.specs.WrittenParts.{StatementWritten}

-- an expression yields what its place wants
abbrev pub Yields : Outline → Wanted → Expr → Type 0
Yields o w e = IsThere (kept w (expr_type o e))

-- each constant of a `case` has an ordinal of the host of what is chosen by
abbrev pub AreChosen : Outline → Option Host → List Constant → Type 0
AreChosen o h [] = Unit {0}
AreChosen o h (c ∷ cs) = IsThere (ordinal_of h (constant_value o c)) × AreChosen o h cs

-- a text gives an ordinal kind
abbrev pub HasOrdinalKind : Outline → TypeText → Type 0
HasOrdinalKind o t =
    (m : Measured) × (text_type o t ≡ Some m) × (is_ordinal m.kind ≡ true)

-- what an `all` goes over is a header, or an ordinal type
abbrev pub IsOver : Outline → TypeText → Type 0
IsOver o t = IsThere (over_header o t) ⊎ HasOrdinalKind o t

-- each interaction that is sent takes its arguments
abbrev pub AreSent : Outline → List Sending → Type 0
AreSent o [] = Unit {0}
AreSent o (s ∷ ss) = IsSent o s × AreSent o ss

-- a statement about links lacks nothing
abbrev pub LinkLacksNothing : Outline → Statement → Type 0
LinkLacksNothing o (statement.Connect one other place) = IsConnected o one × IsConnected o other
LinkLacksNothing o (statement.Disconnect end place) = IsEnd o end.first end.second
LinkLacksNothing o (statement.Attach own child point place) = AreAttached o own child point
LinkLacksNothing o (statement.Detach end place) = IsEnd o end.first end.second
LinkLacksNothing o _ = Unit {0}

-- a statement without statements in it lacks nothing
abbrev pub PlainLacksNothing : Outline → Option ℕ → List ℕ → Statement → Type 0
PlainLacksNothing o f loops (statement.Assign target path value place) =
    IsAssigned o f loops target path value
PlainLacksNothing o f loops (statement.Call name arguments place) = IsCalled o loops name arguments
PlainLacksNothing o f loops (statement.Output sendings place) = AreSent o sendings
PlainLacksNothing o f loops (statement.Init target body arguments place) =
    IsStarted o target body arguments
PlainLacksNothing o f loops (statement.Release target place) =
    IsAccessed o sort.ModuleVariable target
PlainLacksNothing o f loops s = LinkLacksNothing o s

-- A statement of the function at a place or of none, within the loops over these control variables,
-- lacks nothing: neither it nor those within it.
abbrev mutual
  pub LacksNothing : Outline → Option ℕ → List ℕ → Statement → Type 0
  LacksNothing o f loops (statement.Compound' n turn place) = RowLacksNothing o f loops turn
  LacksNothing o f loops (statement.If' condition p first second place) =
      Yields o wanted.Boolean condition × RowLacksNothing o f loops first
      × HeldLacksNothing o f loops second
  LacksNothing o f loops (statement.Case' value n arms place) =
      Yields o wanted.Ordinal value
      × ArmsLackNothing o f loops (chosen_host (expr_type o value)) arms
  LacksNothing o f loops (statement.While' condition p turn place) =
      Yields o wanted.Boolean condition × RowLacksNothing o f loops turn
  LacksNothing o f loops (statement.Repeat' n turn condition place) =
      RowLacksNothing o f loops turn × Yields o wanted.Boolean condition
  LacksNothing o f loops (statement.For' name first down last p turn place) =
      HasBounds o f loops name first last × RowLacksNothing o f (within_loop o loops name) turn
  LacksNothing o f loops (statement.All' name over p turn place) =
      IsOver o over × RowLacksNothing o f loops turn
  LacksNothing o f loops s = PlainLacksNothing o f loops s

  -- and of the statements in a row or in a box
  pub RowLacksNothing : Outline → Option ℕ → List ℕ → {n : _} → Row_of-Statement n → Type 0
  RowLacksNothing o f loops end_of-Statement = Unit {0}
  RowLacksNothing o f loops (more_of-Statement s rest) =
      LacksNothing o f loops s × RowLacksNothing o f loops rest

  -- of what else an `if` does
  pub HeldLacksNothing : Outline → Option ℕ → List ℕ → Held-Statement-If-2 → Type 0
  HeldLacksNothing o f loops None' = Unit {0}
  HeldLacksNothing o f loops (Some' p s) = RowLacksNothing o f loops s

  -- of the choices of a `case`
  pub ArmsLackNothing :
      Outline → Option ℕ → List ℕ → Option Host → {n : _} → Row_of-Arm n → Type 0
  ArmsLackNothing o f loops h end_of-Arm = Unit {0}
  ArmsLackNothing o f loops h (more_of-Arm constants turn rest) =
      AreChosen o h constants × LacksNothing o f loops turn × ArmsLackNothing o f loops h rest

-- a statement that breaks no rule, written as sentences have it, lacks nothing
abbrev pub StatementsLackNothing : Type 0
StatementsLackNothing =
    (o : Outline) (f : Option ℕ) (loops : List ℕ) (s : Statement) → IsWhole o
    → StatementWritten s → statement_faults o f loops s ≡ [] → LacksNothing o f loops s
