-- What a statement breaks by the lists, boxes and options that it is made of.
use Rattle.std.specs.Prelude.{flat_map}
use Rattle.std.proofs.Common.{◌≡◌, refl, sym, ap, ◌∙◌, ℕ, Bool, List, [], ◌++◌, Option, Some, None}
use Rattle.est_syntax.specs.declared.expression.Expr.{Expr}
use Rattle.est_syntax.specs.declared.name.Used.{Used}
use Rattle.est_syntax.specs.declared.statement.Arm.{Arm}
use Rattle.est_syntax.specs.declared.statement.Statement.{Statement, Row_of-Statement}
use Rattle.est_syntax.specs.declared.statement.Statement.{end_of-Statement, more_of-Statement}
use Rattle.est_syntax.specs.declared.statement.Statement.{items-the_row-Statement}
use Rattle.est_syntax.specs.declared.statement.Statement.{items_hidden-the_row-Statement-0}
use Rattle.est_syntax.specs.declared.statement.Statement.{Row_of-Arm, end_of-Arm, more_of-Arm}
use Rattle.est_syntax.specs.declared.statement.Statement.{items-the_row-Arm}
use Rattle.est_syntax.specs.declared.statement.Statement.{items_hidden-the_row-Arm-2}
use Rattle.est_syntax.specs.declared.statement.Statement.{back-Statement-If-2}
use Rattle.est_syntax.specs.declared.statement.Statement.TheBlock.{hidden-the_row-Statement-0}
use Rattle.est_syntax.specs.declared.statement.Statement.TheBlock.{hidden-the_row-Statement-1}
use Rattle.est_syntax.specs.declared.statement.Statement.TheBlock.{hidden-the_row-Arm-2}
use Rattle.est_syntax.specs.declared.statement.Statement.TheVariants as statement
use Rattle.est_syntax.specs.declared.type_text.TypeText.{TypeText}
use Rattle.est_syntax.specs.declared.rule.Fault.{Fault}
use Rattle.rule_scope.specs.LeastSoFar.{least_with}
use Rattle.rule_scope.specs.Outline.{Outline}
use Rattle.rule_scope.proofs.LeastLaws.{least_append}
use Rattle.est_values.specs.declared.types.Host.{Host}
use Rattle.rule_expressions.specs.declared.operators.Wanted.TheVariants as wanted
use Rattle.rule_expressions.specs.Expressions.{expr_type}
use Rattle.rule_statements.specs.Cases.{Chosen, chosen_host, with_constants}
use Rattle.rule_statements.specs.Statements.{wanted_faults, for_faults, within_loop, over_faults}
use Rattle.rule_statements.specs.Statements.{statement_faults, box_statement, held_statement}
use Rattle.rule_statements.specs.Statements.{row_statements, row_arms, option_faults}
use Rattle.rule_statements.specs.Statements.{arm_faults, arms_faults}

pub statement_hidden : (o : Outline) (f : Option ℕ) (loops : List ℕ) (s : Statement)
    → box_statement o f loops (hidden-the_row-Statement-1 s) ≡ statement_faults o f loops s
unfolding hidden-the_row-Statement-1 denote.Hole.Carrier.hidden
statement_hidden o f loops s = refl

pub second_back : (o : Outline) (f : Option ℕ) (loops : List ℕ) (s : Option Statement)
    → held_statement o f loops (back-Statement-If-2 s) ≡ option_faults o f loops s
second_back o f loops None = refl
second_back o f loops (Some s) = statement_hidden o f loops s

pub statements_listed : (o : Outline) (f : Option ℕ) (loops : List ℕ) (n : _)
    (row : Row_of-Statement n)
    → row_statements o f loops row ≡ flat_map (statement_faults o f loops) (items-the_row-Statement n row)
statements_listed o f loops n end_of-Statement = refl
statements_listed o f loops n (more_of-Statement s rest) =
    ap (λ l. statement_faults o f loops s ++ l) (statements_listed o f loops _ rest)

pub statements_hidden : (o : Outline) (f : Option ℕ) (loops : List ℕ) (ss : List Statement)
    → row_statements o f loops (hidden-the_row-Statement-0 ss) ≡ flat_map (statement_faults o f loops) ss
statements_hidden o f loops ss =
    statements_listed o f loops _ (hidden-the_row-Statement-0 ss)
    ∙ ap (flat_map (statement_faults o f loops)) (items_hidden-the_row-Statement-0 ss)

pub arms_listed : (o : Outline) (f : Option ℕ) (loops : List ℕ) (h : Option Host) (seen : Chosen)
    (n : _) (row : Row_of-Arm n)
    → row_arms o f loops h seen row ≡ arms_faults o f loops h seen (items-the_row-Arm n row)
arms_listed o f loops h seen n end_of-Arm = refl
arms_listed o f loops h seen n (more_of-Arm constants turn rest) =
    ap (λ l. arm_faults o f loops h seen record { constants = constants; turn = turn } ++ l)
    (arms_listed o f loops h (with_constants o h seen constants) _ rest)

pub arms_hidden : (o : Outline) (f : Option ℕ) (loops : List ℕ) (h : Option Host) (seen : Chosen)
    (ns : List Arm)
    → row_arms o f loops h seen (hidden-the_row-Arm-2 ns) ≡ arms_faults o f loops h seen ns
arms_hidden o f loops h seen ns =
    arms_listed o f loops h seen _ (hidden-the_row-Arm-2 ns)
    ∙ ap (arms_faults o f loops h seen) (items_hidden-the_row-Arm-2 ns)

pub compound_at : (o : Outline) (f : Option ℕ) (loops : List ℕ) (s : Statement)
    (ss : List Statement) (place : ℕ)
    → s ≡ statement.Compound ss place
    → statement_faults o f loops s ≡ flat_map (statement_faults o f loops) ss
compound_at o f loops s ss place h =
    ap (statement_faults o f loops) h ∙ statements_hidden o f loops ss

pub if_at : (o : Outline) (f : Option ℕ) (loops : List ℕ) (s : Statement) (condition : Expr)
    (first : Statement) (second : Option Statement) (place : ℕ)
    → s ≡ statement.If condition first second place
    → statement_faults o f loops s
    ≡ wanted_faults o wanted.Boolean condition ++ statement_faults o f loops first
    ++ option_faults o f loops second
if_at o f loops s condition first second place h =
    ap (statement_faults o f loops) h
    ∙ (λ i. wanted_faults o wanted.Boolean condition ++ statement_hidden o f loops first i
    ++ second_back o f loops second i)

pub case_at : (o : Outline) (f : Option ℕ) (loops : List ℕ) (s : Statement) (value : Expr)
    (ns : List Arm) (place : ℕ)
    → s ≡ statement.Case value ns place
    → statement_faults o f loops s
    ≡ wanted_faults o wanted.Ordinal value
    ++ arms_faults o f loops (chosen_host (expr_type o value)) [] ns
case_at o f loops s value ns place h =
    ap (statement_faults o f loops) h
    ∙ (λ i. wanted_faults o wanted.Ordinal value
    ++ arms_hidden o f loops (chosen_host (expr_type o value)) [] ns i)

pub while_at : (o : Outline) (f : Option ℕ) (loops : List ℕ) (s : Statement) (condition : Expr)
    (turn : Statement) (place : ℕ)
    → s ≡ statement.While condition turn place
    → statement_faults o f loops s
    ≡ wanted_faults o wanted.Boolean condition ++ statement_faults o f loops turn
while_at o f loops s condition turn place h =
    ap (statement_faults o f loops) h
    ∙ (λ i. wanted_faults o wanted.Boolean condition ++ statement_hidden o f loops turn i)

pub repeat_at : (o : Outline) (f : Option ℕ) (loops : List ℕ) (s : Statement)
    (turn : List Statement) (condition : Expr) (place : ℕ)
    → s ≡ statement.Repeat turn condition place
    → statement_faults o f loops s
    ≡ flat_map (statement_faults o f loops) turn ++ wanted_faults o wanted.Boolean condition
repeat_at o f loops s turn condition place h =
    ap (statement_faults o f loops) h
    ∙ (λ i. statements_hidden o f loops turn i ++ wanted_faults o wanted.Boolean condition)

pub for_at : (o : Outline) (f : Option ℕ) (loops : List ℕ) (s : Statement) (name : Used)
    (first : Expr) (down : Bool) (last : Expr) (turn : Statement) (place : ℕ)
    → s ≡ statement.For name first down last turn place
    → statement_faults o f loops s
    ≡ for_faults o f loops name first last ++ statement_faults o f (within_loop o loops name) turn
for_at o f loops s name first down last turn place h =
    ap (statement_faults o f loops) h
    ∙ (λ i. for_faults o f loops name first last
    ++ statement_hidden o f (within_loop o loops name) turn i)

pub all_at : (o : Outline) (f : Option ℕ) (loops : List ℕ) (s : Statement) (name : Used)
    (over : TypeText) (turn : Statement) (place : ℕ)
    → s ≡ statement.All name over turn place
    → statement_faults o f loops s ≡ over_faults o over ++ statement_faults o f loops turn
all_at o f loops s name over turn place h =
    ap (statement_faults o f loops) h
    ∙ (λ i. over_faults o over ++ statement_hidden o f loops turn i)

-- checking the parts of an `if` and of a `for` one after the other
pub if_least : (o : Outline) (f : Option ℕ) (loops : List ℕ) (s : Statement) (condition : Expr)
    (first : Statement) (second : Option Statement) (place : ℕ) (before at after : Option Fault)
    → s ≡ statement.If condition first second place
    → at ≡ least_with before (wanted_faults o wanted.Boolean condition ++ statement_faults o f loops
    first)
    → after ≡ least_with at (option_faults o f loops second)
    → after ≡ least_with before (statement_faults o f loops s)
if_least o f loops s condition first second place before at after is done rest =
    rest
    ∙ ap (λ l. least_with l (option_faults o f loops second)) done
    ∙ sym (least_append before (wanted_faults o wanted.Boolean condition ++ statement_faults o f
    loops first) (option_faults o f loops second))
    ∙ ap (least_with before) (sym (if_at o f loops s condition first second place is))

pub for_least : (o : Outline) (f : Option ℕ) (loops : List ℕ) (s : Statement) (name : Used)
    (first : Expr) (down : Bool) (last : Expr) (turn : Statement) (place : ℕ)
    (before at after : Option Fault)
    → s ≡ statement.For name first down last turn place
    → at ≡ least_with before (for_faults o f loops name first last)
    → after ≡ least_with at (statement_faults o f (within_loop o loops name) turn)
    → after ≡ least_with before (statement_faults o f loops s)
for_least o f loops s name first down last turn place before at after is done rest =
    rest
    ∙ ap (λ l. least_with l (statement_faults o f (within_loop o loops name) turn)) done
    ∙ sym (least_append before (for_faults o f loops name first last)
    (statement_faults o f (within_loop o loops name) turn))
    ∙ ap (least_with before) (sym (for_at o f loops s name first down last turn place is))

-- What the functions over statements need.
pub ruleset rows = (least_append, compound_at, case_at, while_at, repeat_at)
