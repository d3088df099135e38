-- What lists show that may be empty.
use Rattle.std.proofs.Common.{◌≡◌, ℕ, ◌<◌, ◌≤◌, List, [], ◌∷◌, map, length, refl, arith}
use Rattle.est_syntax.specs.declared.expression.Expr.{Expr}
use Rattle.est_syntax.specs.declared.expression.Member.{Member}
use Rattle.est_syntax.specs.declared.expression.Selector.{Selector}
use Rattle.est_syntax.specs.declared.routine.Formal.{Formal}
use Rattle.est_syntax.specs.declared.type_text.TypeText.{TypeText}
use Rattle.est_syntax.specs.declared.type_text.VarDef.{VarDef}
use Rattle.text_reader.specs.Shown.{at, empty, given, nodes, pair, second}
use Rattle.text_productions.specs.Nodes as view

pub some_exprs : (xs : List Expr) → 0 < length xs
    → given (pair (nodes (map view.an_expr xs)) empty) ≡ view.exprs_given xs
some_exprs [] h = absurd (omega arith)
some_exprs (x ∷ xs) h = refl

pub no_exprs : (xs : List Expr) → length xs ≤ 0 → empty ≡ view.exprs_given xs
no_exprs [] h = refl
no_exprs (x ∷ xs) h = absurd (omega arith)

pub some_members : (xs : List Member) → 0 < length xs
    → given (nodes (map view.a_member xs)) ≡ view.members xs
some_members [] h = absurd (omega arith)
some_members (x ∷ xs) h = refl

pub no_members : (xs : List Member) → length xs ≤ 0 → empty ≡ view.members xs
no_members [] h = refl
no_members (x ∷ xs) h = absurd (omega arith)

pub some_selectors : (xs : List Selector) → 0 < length xs
    → given (second (nodes (map view.a_selector xs))) ≡ view.selectors xs
some_selectors [] h = absurd (omega arith)
some_selectors (x ∷ xs) h = refl

pub no_selectors : (xs : List Selector) → length xs ≤ 0 → empty ≡ view.selectors xs
no_selectors [] h = refl
no_selectors (x ∷ xs) h = absurd (omega arith)

pub some_path : (xs : List Selector) → 0 < length xs
    → given (nodes (map view.a_selector xs)) ≡ view.path xs
some_path [] h = absurd (omega arith)
some_path (x ∷ xs) h = refl

pub no_path : (xs : List Selector) → length xs ≤ 0 → empty ≡ view.path xs
no_path [] h = refl
no_path (x ∷ xs) h = absurd (omega arith)

pub some_call : (xs : List Expr) → 0 < length xs
    → given (second (pair (nodes (map view.an_expr xs)) empty)) ≡ view.call xs
some_call [] h = absurd (omega arith)
some_call (x ∷ xs) h = refl

pub no_call : (xs : List Expr) → length xs ≤ 0 → empty ≡ view.call xs
no_call [] h = refl
no_call (x ∷ xs) h = absurd (omega arith)

pub some_parameters : (xs : List VarDef) → 0 < length xs
    → given (pair (nodes (map view.a_parameter xs)) empty) ≡ view.parameters xs
some_parameters [] h = absurd (omega arith)
some_parameters (x ∷ xs) h = refl

pub no_parameters : (xs : List VarDef) → length xs ≤ 0 → empty ≡ view.parameters xs
no_parameters [] h = refl
no_parameters (x ∷ xs) h = absurd (omega arith)

pub some_formals : (xs : List Formal) → 0 < length xs
    → given (pair (nodes (map view.a_formal xs)) empty) ≡ view.formals xs
some_formals [] h = absurd (omega arith)
some_formals (x ∷ xs) h = refl

pub no_formals : (xs : List Formal) → length xs ≤ 0 → empty ≡ view.formals xs
no_formals [] h = refl
no_formals (x ∷ xs) h = absurd (omega arith)

pub some_dims : (place : ℕ) (xs : List TypeText) → 0 < length xs
    → given (at place (pair (nodes (map view.a_short_type xs)) empty)) ≡ view.dimensions place xs
some_dims place [] h = absurd (omega arith)
some_dims place (x ∷ xs) h = refl

pub no_dims : (place : ℕ) (xs : List TypeText) → length xs ≤ 0 → empty ≡ view.dimensions place xs
no_dims place [] h = refl
no_dims place (x ∷ xs) h = absurd (omega arith)
