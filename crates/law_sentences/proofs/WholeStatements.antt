-- A statement that breaks no rule lacks nothing.
use Rattle.std.specs.Prelude.{flat_map}
use mathlib.Core.Former.{none_left, one_more}
use Rattle.std.proofs.Common.{sym, subst, ◌≡◌, ℕ, List, [], ◌∷◌, ◌++◌, Option, Some, None}
use Rattle.est_syntax.specs.declared.expression.Expr.{Expr}
use Rattle.est_syntax.specs.declared.rule.Rule.TheVariants as rule
use Rattle.est_syntax.specs.declared.statement.Sending.{Sending}
use Rattle.est_syntax.specs.declared.statement.Statement.{Statement, Row_of-Statement}
use Rattle.est_syntax.specs.declared.statement.Statement.{end_of-Statement, more_of-Statement}
use Rattle.est_syntax.specs.declared.statement.Statement.{Row_of-Arm, end_of-Arm, more_of-Arm}
use Rattle.est_syntax.specs.declared.statement.Statement.{Held-Statement-If-2, None', Some'}
use Rattle.est_syntax.specs.declared.statement.Statement.TheVariants as statement
use Rattle.rule_scope.specs.Outline.{Outline}
use Rattle.rule_scope.specs.declared.declaration.Sort.TheVariants as sort
use Rattle.est_values.specs.declared.types.Host.{Host}
use Rattle.rule_expressions.specs.Accesses.{access_faults}
use Rattle.rule_expressions.specs.ExpressionPlaces.{expr_place}
use Rattle.rule_expressions.specs.Expressions.{expr_type, expr_faults}
use Rattle.rule_expressions.specs.Operators.{wants}
use Rattle.rule_expressions.specs.declared.operators.Wanted.{Wanted}
use Rattle.rule_expressions.specs.declared.operators.Wanted.TheVariants as wanted
use Rattle.rule_statements.specs.Cases.{Chosen, chosen_host, with_constants, choices_faults}
use Rattle.rule_statements.specs.LinkFaults.{connect_faults, attach_faults, untied_faults}
use Rattle.rule_statements.specs.Modules.{init_faults}
use Rattle.rule_statements.specs.Signals.{sending_faults}
use Rattle.rule_statements.specs.Statements.{wanted_faults, function_faults, call_faults}
use Rattle.rule_statements.specs.Statements.{for_faults}
use Rattle.rule_statements.specs.Statements.{within_loop, over_faults, link_faults, plain_faults}
use Rattle.rule_statements.specs.Statements.{statement_faults, box_statement, held_statement}
use Rattle.rule_statements.specs.Statements.{row_statements, row_arms}
use Rattle.law_sentences.specs.FullExpressions.{IsWhole}
use Rattle.law_sentences.specs.WholeStatements.{Yields, AreSent, LinkLacksNothing}
use Rattle.law_sentences.specs.WholeStatements.{PlainLacksNothing}
use Rattle.law_sentences.specs.WholeStatements.{LacksNothing, RowLacksNothing, HeldLacksNothing}
use Rattle.law_sentences.specs.WholeStatements.{ArmsLackNothing}
use Rattle.law_sentences.specs.WrittenParts.{StatementWritten, StatementsWritten, SecondWritten}
use Rattle.law_sentences.specs.WrittenParts.{ArmsWritten}
use Rattle.law_sentences.proofs.FullExpressions.{expr_full}
use Rattle.law_sentences.proofs.FullLinks.{connects_full, attaches_full, untied_full}
use Rattle.law_sentences.proofs.FullOperators.{kept_full}
use Rattle.law_sentences.proofs.FullProcedures.{calls_full}
use Rattle.law_sentences.proofs.FullStatements.{assigned_full, loops_full, accesses_full}
use Rattle.law_sentences.proofs.FullStatements.{sendings_full, inits_full}
use Rattle.law_sentences.proofs.FullTexts.{host_there, chosen_there, over_there}
use Rattle.law_sentences.proofs.NoFaults.{parted}
use Rattle.law_sentences.proofs.NotBroken.{not_broken, three}

-- an expression yields what its place wants
pub wanted_full : (o : Outline) (v : Wanted) (e : Expr) → IsWhole o → wanted_faults o v e ≡ []
    → Yields o v e
wanted_full o v e w h =
    let s = parted (expr_faults o e) (wants v (expr_type o e) (expr_place e)) h in
    kept_full v (expr_type o e) (expr_place e) (expr_full o e w s.0) s.1

all_sent : (o : Outline) (ss : List Sending) → IsWhole o → flat_map (sending_faults o) ss ≡ []
    → AreSent o ss
all_sent o [] w h = tt
all_sent o (s ∷ ss) w h =
    let q = parted (sending_faults o s) (flat_map (sending_faults o) ss) h in
    (sendings_full o s w q.0, all_sent o ss w q.1)

-- a statement without statements in it
link_whole : (o : Outline) (f : Option ℕ) (s : Statement) → IsWhole o → link_faults o f s ≡ []
    → LinkLacksNothing o s
link_whole o f (statement.Connect one other place) w h =
    connects_full o one other w (parted (function_faults f place) (connect_faults o one other) h).1
link_whole o f (statement.Disconnect end place) w h =
    untied_full o end.first end.second w
    (parted (function_faults f place) (untied_faults o end.first end.second) h).1
link_whole o f (statement.Attach own child point place) w h =
    attaches_full o own child point w
    (parted (function_faults f place) (attach_faults o own child point) h).1
link_whole o f (statement.Detach end place) w h =
    untied_full o end.first end.second w
    (parted (function_faults f place) (untied_faults o end.first end.second) h).1
link_whole o f _ w h = tt

plain_whole : (o : Outline) (f : Option ℕ) (loops : List ℕ) (s : Statement) → IsWhole o
    → plain_faults o f loops s ≡ [] → PlainLacksNothing o f loops s
plain_whole o f loops (statement.Assign target path value place) w h =
    assigned_full o f loops target path value w h
plain_whole o None loops (statement.Call name arguments place) w h =
    calls_full o loops name arguments w h
plain_whole o (Some f) loops (statement.Call name arguments place) w h =
    not_broken place rule.NotInFunction
    (parted (function_faults (Some f) place) (call_faults o (Some f) loops name arguments) h).0
plain_whole o f loops (statement.Output sendings place) w h =
    all_sent o sendings w (parted (function_faults f place) (flat_map (sending_faults o) sendings) h).1
plain_whole o f loops (statement.Init target body arguments place) w h =
    inits_full o target body arguments w
    (parted (function_faults f place) (init_faults o target body arguments) h).1
plain_whole o f loops (statement.Release target place) w h =
    accesses_full o sort.ModuleVariable target w tt
    (parted (function_faults f place) (access_faults o sort.ModuleVariable target) h).1
plain_whole o f loops s w h = link_whole o f s w h

mutual
  pub statement_whole : (o : Outline) (f : Option ℕ) (loops : List ℕ) (s : Statement) → IsWhole o
      → StatementWritten s → statement_faults o f loops s ≡ [] → LacksNothing o f loops s
  statement_whole o f loops (statement.Compound' n turn place) w c h =
      row_whole o f loops turn w c h
  statement_whole o f loops (statement.If' condition p one second place) w c h =
      let s = three (wanted_faults o wanted.Boolean condition) (box_statement o f loops one)
      (held_statement o f loops second) h in (
        wanted_full o wanted.Boolean condition w s.0,
        box_whole o f loops one w c.0 s.1,
        held_whole o f loops second w c.1 s.2,
      )
  statement_whole o f loops (statement.Case' value n arms place) w c h =
      let t = expr_type o value in
      let s = parted (wanted_faults o wanted.Ordinal value)
      (row_arms o f loops (chosen_host t) [] arms) h in
      let k = wanted_full o wanted.Ordinal value w s.0 in
      let g = host_there t k in (
        k,
        subst (λ (x : Option Host). ArmsLackNothing o f loops x arms) (sym g.1)
            (arms_whole o f loops g.0 [] arms w c
            (subst (λ (x : Option Host). row_arms o f loops x [] arms ≡ []) g.1 s.1)),
      )
  statement_whole o f loops (statement.While' condition p turn place) w c h =
      let s = parted (wanted_faults o wanted.Boolean condition) (box_statement o f loops turn) h in
      (wanted_full o wanted.Boolean condition w s.0, box_whole o f loops turn w c s.1)
  statement_whole o f loops (statement.Repeat' n turn condition place) w c h =
      let s = parted (row_statements o f loops turn) (wanted_faults o wanted.Boolean condition) h in
      (row_whole o f loops turn w c s.0, wanted_full o wanted.Boolean condition w s.1)
  statement_whole o f loops (statement.For' name from down last p turn place) w c h =
      let s = parted (for_faults o f loops name from last)
      (box_statement o f (within_loop o loops name) turn) h in (
        loops_full o f loops name from last w s.0,
        box_whole o f (within_loop o loops name) turn w c s.1,
      )
  statement_whole o f loops (statement.All' name over p turn place) w c h =
      let s = parted (over_faults o over) (box_statement o f loops turn) h in
      (over_there o over w.full c.0 s.0, box_whole o f loops turn w c.1 s.1)
  statement_whole o f loops s w c h = plain_whole o f loops s w h

  box_whole : (o : Outline) (f : Option ℕ) (loops : List ℕ)
      (row : Row_of-Statement (one_more none_left)) → IsWhole o → StatementsWritten row
      → box_statement o f loops row ≡ [] → RowLacksNothing o f loops row
  box_whole o f loops (more_of-Statement s end_of-Statement) w c h =
      (statement_whole o f loops s w c.0 h, tt)

  held_whole : (o : Outline) (f : Option ℕ) (loops : List ℕ) (s : Held-Statement-If-2) → IsWhole o
      → SecondWritten s → held_statement o f loops s ≡ [] → HeldLacksNothing o f loops s
  held_whole o f loops None' w c h = tt
  held_whole o f loops (Some' p s) w c h = box_whole o f loops s w c h

  row_whole : (o : Outline) (f : Option ℕ) (loops : List ℕ) {n : _} (row : Row_of-Statement n)
      → IsWhole o → StatementsWritten row → row_statements o f loops row ≡ []
      → RowLacksNothing o f loops row
  row_whole o f loops end_of-Statement w c h = tt
  row_whole o f loops (more_of-Statement s rest) w c h =
      let q = parted (statement_faults o f loops s) (row_statements o f loops rest) h in
      (statement_whole o f loops s w c.0 q.0, row_whole o f loops rest w c.1 q.1)

  arms_whole : (o : Outline) (f : Option ℕ) (loops : List ℕ) (g : Host) (seen : Chosen) {n : _}
      (row : Row_of-Arm n) → IsWhole o → ArmsWritten row
      → row_arms o f loops (Some g) seen row ≡ [] → ArmsLackNothing o f loops (Some g) row
  arms_whole o f loops g seen end_of-Arm w c h = tt
  arms_whole o f loops g seen (more_of-Arm constants turn rest) w c h =
      let own = choices_faults o (Some g) seen constants in
      let more = with_constants o (Some g) seen constants in
      let s = parted (own ++ statement_faults o f loops turn)
      (row_arms o f loops (Some g) more rest)
      h in
      let a = parted own (statement_faults o f loops turn) s.0 in (
        chosen_there o g seen constants w.full a.0,
        statement_whole o f loops turn w c.0 a.1,
        arms_whole o f loops g more rest w c.1 s.1,
      )
