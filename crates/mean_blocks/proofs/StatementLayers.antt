-- The meaning of each form of statement by the lists, boxes and options that it is made of.
use Rattle.std.proofs.Common.{◌≡◌, refl, ap, ◌∙◌, ℕ, Bool, List, Option, Some, None}
use Rattle.std.specs.Prelude.{ℤ, ◌+◌, if◌then◌else◌}
use Rattle.est_syntax.specs.declared.expression.Expr.{Expr}
use Rattle.est_syntax.specs.declared.name.Used.{Used}
use Rattle.est_syntax.specs.declared.statement.Arm.{Arm}
use Rattle.est_syntax.specs.declared.statement.Statement.{Statement, Row_of-Statement}
use Rattle.est_syntax.specs.declared.statement.Statement.{end_of-Statement, more_of-Statement}
use Rattle.est_syntax.specs.declared.statement.Statement.{items-the_row-Statement}
use Rattle.est_syntax.specs.declared.statement.Statement.{items_hidden-the_row-Statement-0}
use Rattle.est_syntax.specs.declared.statement.Statement.{Row_of-Arm, end_of-Arm, more_of-Arm}
use Rattle.est_syntax.specs.declared.statement.Statement.{items-the_row-Arm}
use Rattle.est_syntax.specs.declared.statement.Statement.{items_hidden-the_row-Arm-2}
use Rattle.est_syntax.specs.declared.statement.Statement.{back-Statement-If-2}
use Rattle.est_syntax.specs.declared.statement.Statement.TheBlock.{hidden-the_row-Statement-0}
use Rattle.est_syntax.specs.declared.statement.Statement.TheBlock.{hidden-the_row-Statement-1}
use Rattle.est_syntax.specs.declared.statement.Statement.TheBlock.{hidden-the_row-Arm-2}
use Rattle.est_syntax.specs.declared.statement.Statement.TheVariants as statement
use Rattle.est_syntax.specs.declared.type_text.TypeText.{TypeText}
use Rattle.rule_declares.specs.rule_scope.Outline.{entry_at}
use Rattle.mean_blocks.specs.Outcome.{◌>>=◌, ◌>>◌}
use Rattle.mean_blocks.specs.NamesInRuns.{head_in}
use Rattle.mean_blocks.specs.WorkingState.{State, Site, enter}
use Rattle.mean_blocks.specs.ValueOperators.{choose}
use Rattle.mean_blocks.specs.WriteEffects.{ordinal_of}
use Rattle.mean_blocks.specs.LoopEffects.{turns, repeats, controlled, over}
use Rattle.mean_blocks.specs.StatementEffects.{is_chosen, body_of, row_statement, held_statement}
use Rattle.mean_blocks.specs.StatementEffects.{row_statements, row_arms, statement_of}
use Rattle.mean_blocks.specs.StatementEffects.{statements_in, else_in, arms_in}

pub statements_row : (n : _) (row : Row_of-Statement n) (site : Site)
    → row_statements row site ≡ statements_in (items-the_row-Statement n row) site
statements_row n end_of-Statement site = refl
statements_row n (more_of-Statement x rest) site =
    λ i. (enter >> body_of x site) >> statements_row _ rest site i

boxed_hidden : (x : Statement) (site : Site)
    → row_statement (hidden-the_row-Statement-1 x) site ≡ statement_of x site
unfolding hidden-the_row-Statement-1 denote.Hole.Carrier.hidden
boxed_hidden x site = refl

else_back : (x : Option Statement) (site : Site)
    → held_statement (back-Statement-If-2 x) site ≡ else_in x site
else_back None site = refl
else_back (Some x) site = boxed_hidden x site

pub compound_at : (x : Statement) (turn : List Statement) (place : ℕ) (site : Site) (s : State)
    → x ≡ statement.Compound turn place → body_of x site s ≡ statements_in turn site s
compound_at x turn place site s h =
    ap (λ y. body_of y site s) h
    ∙ ap (λ m. m s) (statements_row _ (hidden-the_row-Statement-0 turn) site
    ∙ ap (λ l. statements_in l site) (items_hidden-the_row-Statement-0 turn))

pub if_at : (x : Statement) (e : Expr) (first : Statement) (second : Option Statement) (place : ℕ)
    (site : Site) (s : State) → x ≡ statement.If e first second place
    → body_of x site s
    ≡ (ordinal_of e site >>= λ z. choose z (statement_of first site) (else_in second site)) s
if_at x e first second place site s h =
    ap (λ y. body_of y site s) h
    ∙ (λ i. (ordinal_of e site
    >>= λ z. choose z (boxed_hidden first site i) (else_back second site i)) s)

pub for_at : (x : Statement) (name : Used) (first : Expr) (down : Bool) (last : Expr)
    (turn : Statement) (place : ℕ) (site : Site) (s : State)
    → x ≡ statement.For name first down last turn place
    → body_of x site s ≡ controlled name first down last (statement_of turn site) site s
for_at x name first down last turn place site s h =
    ap (λ y. body_of y site s) h
    ∙ (λ i. controlled name first down last (boxed_hidden turn site i) site s)

pub arms_row : (n : _) (row : Row_of-Arm n) (z : ℤ) (site : Site)
    → row_arms row z site ≡ arms_in (items-the_row-Arm n row) z site
arms_row n end_of-Arm z site = refl
arms_row n (more_of-Arm constants x rest) z site =
    λ i. if is_chosen site.text.outline constants z then statement_of x site
    else arms_row _ rest z site i

pub case_at : (x : Statement) (e : Expr) (arms : List Arm) (place : ℕ) (site : Site) (s : State)
    → x ≡ statement.Case e arms place
    → body_of x site s ≡ (ordinal_of e site >>= λ z. arms_in arms z site) s
case_at x e arms place site s h =
    ap (λ y. body_of y site s) h
    ∙ (λ i. (ordinal_of e site >>= λ z. (arms_row _ (hidden-the_row-Arm-2 arms) z site
    ∙ ap (λ l. arms_in l z site) (items_hidden-the_row-Arm-2 arms)) i) s)

pub while_at : (x : Statement) (e : Expr) (turn : Statement) (place : ℕ) (site : Site) (s : State)
    → x ≡ statement.While e turn place
    → body_of x site s ≡ turns (s.left + 1) (ordinal_of e site) (statement_of turn site) s
while_at x e turn place site s h =
    ap (λ y. body_of y site s) h
    ∙ (λ i. turns (s.left + 1) (ordinal_of e site) (boxed_hidden turn site i) s)

pub repeat_at : (x : Statement) (turn : List Statement) (e : Expr) (place : ℕ) (site : Site)
    (s : State) → x ≡ statement.Repeat turn e place
    → body_of x site s ≡ repeats (s.left + 1) (statements_in turn site) (ordinal_of e site) s
repeat_at x turn e place site s h =
    ap (λ y. body_of y site s) h
    ∙ (λ i. repeats (s.left + 1) ((statements_row _ (hidden-the_row-Statement-0 turn) site
    ∙ ap (λ l. statements_in l site) (items_hidden-the_row-Statement-0 turn)) i)
    (ordinal_of e site) s)

pub all_at : (x : Statement) (name : Used) (text : TypeText) (turn : Statement) (place : ℕ)
    (site : Site) (s : State) → x ≡ statement.All name text turn place
    → body_of x site s ≡ over (head_in name.place (entry_at site.text.outline name.place))
    (statement_of turn site) site s
all_at x name text turn place site s h =
    ap (λ y. body_of y site s) h
    ∙ (λ i. over (head_in name.place (entry_at site.text.outline name.place))
    (boxed_hidden turn site i) site s)
