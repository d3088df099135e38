-- How much text statements have, and the routines and bodies of a specification.
use Rattle.std.proofs.Common.{◌≡◌, refl, ap, ◌∙◌, ℕ, zero, suc, ◌+◌, ◌-◌, ◌*◌, ◌<◌, ◌≤◌}
use Rattle.std.proofs.Common.{List, [], ◌∷◌, Bool, true, false, cond, Option, Some, None, arith}
use Rattle.std.specs.Prelude.{nat_eq, find}
use Rattle.std.specs.List.{filter_map}
use Rattle.est_syntax.specs.declared.body.Body.{Body, out-Body}
use Rattle.est_syntax.specs.declared.body.FirstPart.{FirstPart}
use Rattle.est_syntax.specs.declared.expression.Access.{Access}
use Rattle.est_syntax.specs.declared.expression.EndPoint.{EndPoint}
use Rattle.est_syntax.specs.declared.expression.Expr.{Expr}
use Rattle.est_syntax.specs.declared.name.Used.{Used}
use Rattle.est_syntax.specs.declared.routine.Routine.{Routine, out-Routine}
use Rattle.est_syntax.specs.declared.statement.Arm.{Arm}
use Rattle.est_syntax.specs.declared.statement.Sending.{Sending}
use Rattle.est_syntax.specs.declared.statement.Statement.{Statement, Row_of-Statement}
use Rattle.est_syntax.specs.declared.statement.Statement.{end_of-Statement, more_of-Statement}
use Rattle.est_syntax.specs.declared.statement.Statement.{items-the_row-Statement}
use Rattle.est_syntax.specs.declared.statement.Statement.{items_hidden-the_row-Statement-0}
use Rattle.est_syntax.specs.declared.statement.Statement.{Row_of-Arm, end_of-Arm, more_of-Arm}
use Rattle.est_syntax.specs.declared.statement.Statement.{items-the_row-Arm}
use Rattle.est_syntax.specs.declared.statement.Statement.{items_hidden-the_row-Arm-2}
use Rattle.est_syntax.specs.declared.statement.Statement.{Held-Statement-If-2}
use Rattle.est_syntax.specs.declared.statement.Statement.{back-Statement-If-2}
use Rattle.est_syntax.specs.declared.statement.Statement.TheBlock.{hidden-the_row-Statement-0}
use Rattle.est_syntax.specs.declared.statement.Statement.TheBlock.{hidden-the_row-Statement-1}
use Rattle.est_syntax.specs.declared.statement.Statement.TheBlock.{hidden-the_row-Arm-2}
use Rattle.est_syntax.specs.declared.statement.Statement.TheBlock as held
use Rattle.est_syntax.specs.declared.statement.Statement.TheVariants as statement
use Rattle.est_syntax.specs.declared.type_text.TypeText.{TypeText}
use Rattle.mean_blocks.specs.TextByPlace.{Text, parts_of, routine_in, body_in, routine_at}
use Rattle.mean_blocks.specs.TextByPlace.{statements_of, body_at, first_statements}
use Rattle.plain_effects.specs.plain_operands.declared.site.Site.{Site}
use Rattle.plain_blocks.proofs.Weights.{weighed, option_weight, expr_weight, exprs_weight}
use Rattle.plain_blocks.proofs.Weights.{path_weight}

-- WEIGHTS OF STATEMENTS

abbrev pub access_weight : Access → ℕ
access_weight a = exprs_weight a.index + 3

abbrev pub end_weight : EndPoint → ℕ
end_weight e = access_weight e.first + option_weight access_weight e.second + 4

abbrev pub sending_weight : Sending → ℕ
sending_weight x = access_weight x.at + exprs_weight x.arguments + 3

abbrev pub sendings_weight : List Sending → ℕ
sendings_weight = weighed (λ x. sending_weight x + 2)

abbrev mutual
  pub statement_weight : Statement → ℕ
  statement_weight (statement.Empty place) = 1
  statement_weight (statement.Compound' a turn place) = row_statements_weight turn + 2
  statement_weight (statement.Assign target path e place) = path_weight path + expr_weight e + 4
  statement_weight (statement.Call name arguments place) = exprs_weight arguments + 4
  statement_weight (statement.If' condition a first second place) =
      expr_weight condition + row_statement_weight first + held_statement_weight second + 4
  statement_weight (statement.Case' e a arms place) = expr_weight e + row_arms_weight arms + 4
  statement_weight (statement.While' e a turn place) = expr_weight e + row_statement_weight turn + 5
  statement_weight (statement.Repeat' a turn e place) = row_statements_weight turn + expr_weight e +
      5
  statement_weight (statement.For' name first down last a turn place) =
      expr_weight first + expr_weight last + row_statement_weight turn + 6
  statement_weight (statement.All' name text a turn place) = row_statement_weight turn + 8
  statement_weight (statement.Output sendings place) = sendings_weight sendings + 4
  statement_weight (statement.Init target body arguments place) =
      access_weight target + exprs_weight arguments + 5
  statement_weight (statement.Release target place) = access_weight target + 4
  statement_weight (statement.Connect one other place) = end_weight one + end_weight other + 4
  statement_weight (statement.Disconnect e place) = end_weight e + 4
  statement_weight (statement.Attach own target point place) =
      access_weight own + access_weight target + access_weight point + 6
  statement_weight (statement.Detach e place) = end_weight e + 4

  -- of the statement in a box
  pub row_statement_weight : {n : _} → Row_of-Statement n → ℕ
  row_statement_weight end_of-Statement = 0
  row_statement_weight (more_of-Statement x rest) = statement_weight x

  pub held_statement_weight : Held-Statement-If-2 → ℕ
  held_statement_weight held.None' = 0
  held_statement_weight (held.Some' a row) = row_statement_weight row

  pub row_statements_weight : {n : _} → Row_of-Statement n → ℕ
  row_statements_weight end_of-Statement = 0
  row_statements_weight (more_of-Statement x rest) =
      statement_weight x + 2 + row_statements_weight rest

  pub row_arms_weight : {n : _} → Row_of-Arm n → ℕ
  row_arms_weight end_of-Arm = 0
  row_arms_weight (more_of-Arm constants x rest) = statement_weight x + 2 + row_arms_weight rest

abbrev pub statements_weight : List Statement → ℕ
statements_weight = weighed (λ x. statement_weight x + 2)

abbrev pub arms_weight : List Arm → ℕ
arms_weight = weighed (λ (a : Arm). statement_weight a.turn + 2)

statements_row : (n : _) (row : Row_of-Statement n)
    → row_statements_weight row ≡ statements_weight (items-the_row-Statement n row)
statements_row n end_of-Statement = refl
statements_row n (more_of-Statement x rest) =
    ap (λ k. statement_weight x + 2 + k) (statements_row _ rest)

arms_row : (n : _) (row : Row_of-Arm n)
    → row_arms_weight row ≡ arms_weight (items-the_row-Arm n row)
arms_row n end_of-Arm = refl
arms_row n (more_of-Arm constants x rest) = ap (λ k. statement_weight x + 2 + k) (arms_row _ rest)

list_hidden : (xs : List Statement)
    → row_statements_weight (hidden-the_row-Statement-0 xs) ≡ statements_weight xs
list_hidden xs = statements_row _ (hidden-the_row-Statement-0 xs)
    ∙ ap statements_weight (items_hidden-the_row-Statement-0 xs)

boxed_hidden : (x : Statement)
    → row_statement_weight (hidden-the_row-Statement-1 x) ≡ statement_weight x
unfolding hidden-the_row-Statement-1 denote.Hole.Carrier.hidden
boxed_hidden x = refl

else_back : (x : Option Statement)
    → held_statement_weight (back-Statement-If-2 x) ≡ option_weight statement_weight x
else_back None = refl
else_back (Some x) = boxed_hidden x

-- EACH FORM OF STATEMENT

pub compound_weighs : (x : Statement) (turn : List Statement) (place : ℕ)
    → x ≡ statement.Compound turn place → statement_weight x ≡ statements_weight turn + 2
compound_weighs x turn place h = ap statement_weight h ∙ ap (λ k. k + 2) (list_hidden turn)

pub if_weighs : (x : Statement) (e : Expr) (first : Statement) (second : Option Statement)
    (place : ℕ) → x ≡ statement.If e first second place → statement_weight x
    ≡ expr_weight e + statement_weight first + option_weight statement_weight second + 4
if_weighs x e first second place h = ap statement_weight h
    ∙ (λ i. expr_weight e + boxed_hidden first i + else_back second i + 4)

pub case_weighs : (x : Statement) (e : Expr) (arms : List Arm) (place : ℕ)
    → x ≡ statement.Case e arms place → statement_weight x ≡ expr_weight e + arms_weight arms + 4
case_weighs x e arms place h = ap statement_weight h ∙ ap (λ k. expr_weight e + k + 4)
    (arms_row _ (hidden-the_row-Arm-2 arms) ∙ ap arms_weight (items_hidden-the_row-Arm-2 arms))

pub while_weighs : (x : Statement) (e : Expr) (turn : Statement) (place : ℕ)
    → x ≡ statement.While e turn place
    → statement_weight x ≡ expr_weight e + statement_weight turn + 5
while_weighs x e turn place h = ap statement_weight h
    ∙ ap (λ k. expr_weight e + k + 5) (boxed_hidden turn)

pub repeat_weighs : (x : Statement) (turn : List Statement) (e : Expr) (place : ℕ)
    → x ≡ statement.Repeat turn e place
    → statement_weight x ≡ statements_weight turn + expr_weight e + 5
repeat_weighs x turn e place h = ap statement_weight h
    ∙ ap (λ k. k + expr_weight e + 5) (list_hidden turn)

pub for_weighs : (x : Statement) (name : Used) (first : Expr) (down : Bool) (last : Expr)
    (turn : Statement) (place : ℕ) → x ≡ statement.For name first down last turn place
    → statement_weight x ≡ expr_weight first + expr_weight last + statement_weight turn + 6
for_weighs x name first down last turn place h = ap statement_weight h
    ∙ ap (λ k. expr_weight first + expr_weight last + k + 6) (boxed_hidden turn)

pub all_weighs : (x : Statement) (name : Used) (text : TypeText) (turn : Statement) (place : ℕ)
    → x ≡ statement.All name text turn place → statement_weight x ≡ statement_weight turn + 8
all_weighs x name text turn place h = ap statement_weight h
    ∙ ap (λ k. k + 8) (boxed_hidden turn)

-- ROUTINES AND BODIES

-- the weight of the statements of a routine
abbrev pub routine_weight : Routine → ℕ
routine_weight r = statements_weight (statements_of r) + 9

-- the weight of an initialize part
abbrev pub first_weight : FirstPart → ℕ
first_weight f = statements_weight (first_statements f) + 9

-- the weight of the initialize part of a body, if it has one
abbrev pub body_weight : Body → ℕ
body_weight b = option_weight first_weight (out-Body b).first

-- more than the statements of each routine and of each initialize part weigh
abbrev pub text_weight : Text → ℕ
text_weight t = weighed routine_weight (filter_map routine_in (parts_of t))
    + weighed body_weight (filter_map body_in (parts_of t))

found_case : {A : Type 0} (f : A → ℕ) (b : Bool) (x y : A) (o : Option A) (n : ℕ)
    → (o ≡ Some y → f y ≤ n) → cond b (Some x) o ≡ Some y → f y ≤ f x + n
found_case f true x y o n ih e = let same : x ≡ y = cc in let w : f x ≡ f y = ap f same in omega
    arith
found_case f false x y o n ih e = omega (arith, ih e)

-- what is found in a list weighs no more than the list
pub found_weighed : {A : Type 0} (f : A → ℕ) (test : A → Bool) (xs : List A) (y : A)
    → find test xs ≡ Some y → f y ≤ weighed f xs
found_weighed f test [] y e = absurd (cc)
found_weighed f test (x ∷ xs) y e =
    found_case f (test x) x y (find test xs) (weighed f xs) (found_weighed f test xs y) e

pub routine_weighed : (t : Text) (place : ℕ) (r : Routine) → routine_at t place ≡ Some r
    → routine_weight r ≤ text_weight t
routine_weighed t place r e = omega (
  arith,
  found_weighed routine_weight
      (λ (r : Routine). nat_eq place (out-Routine r).name.place)
      (filter_map routine_in (parts_of t)) r e,
)

pub body_weighed : (t : Text) (place : ℕ) (b : Body) → body_at t place ≡ Some b
    → body_weight b ≤ text_weight t
body_weighed t place b e = omega (
  arith,
  found_weighed body_weight
      (λ (b : Body). nat_eq place (out-Body b).name.place)
      (filter_map body_in (parts_of t)) b e,
)

-- so much may the levels that are left weigh
abbrev pub room : Site → ℕ
room s = s.levels * text_weight s.text.now

-- a call leaves a level, and so is less than what calls, whatever it weighs
pub level_falls : (n w b : ℕ) → (n ≡ 0 → ⊥) → b < w → (n - 1) * w + b < n * w
level_falls zero w b p q = absurd (p refl)
level_falls (suc n) w b p q = let e : suc n - 1 ≡ n = omega arith in rw e (omega arith)

-- so much is left of a measure where a level is taken, if one is left
abbrev pub below : ℕ → ℕ → ℕ → ℕ
below zero w b = 0
below (suc n) w b = n * w + b

pub below_falls : (n w b : ℕ) → b ≤ w → below n w b ≤ n * w
below_falls zero w b h = omega arith
below_falls (suc n) w b h = omega arith

pub below_opens : (n w b : ℕ) → (n ≡ 0 → ⊥) → below n w b ≡ (n - 1) * w + b
below_opens zero w b h = absurd (h refl)
below_opens (suc n) w b h = let e : suc n - 1 ≡ n = omega arith in rw e refl

pub below_grows : (n w b c : ℕ) → b ≤ c → below n w b ≤ below n w c
below_grows zero w b c h = omega arith
below_grows (suc n) w b c h = omega arith
