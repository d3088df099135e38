-- Statements that are none of those that a match names.
use Rattle.std.proofs.Common.{◌≡◌, ℕ, Bool, List, Option, refl, sym, ◌∙◌, ap}
use Rattle.est_syntax.specs.declared.body.Part.{Part, out-Part, roll-Part, roll-out-Part, Consts}
use Rattle.est_syntax.specs.declared.body.Part.{Types, Vars}
use Rattle.est_syntax.specs.declared.body.Part.TheOpen as parts
use Rattle.est_syntax.specs.declared.body.Part.TheViews as part_views
use Rattle.est_syntax.specs.declared.constant.ConstDef.{ConstDef}
use Rattle.est_syntax.specs.declared.expression.Access.{Access}
use Rattle.est_syntax.specs.declared.expression.EndPoint.{EndPoint}
use Rattle.est_syntax.specs.declared.expression.Expr.{Expr}
use Rattle.est_syntax.specs.declared.name.Used.{Used}
use Rattle.est_syntax.specs.declared.statement.Sending.{Sending}
use Rattle.est_syntax.specs.declared.statement.Statement.{Statement, out-Statement, roll-Statement}
use Rattle.est_syntax.specs.declared.statement.Statement.{roll-out-Statement, If, While, Repeat}
use Rattle.est_syntax.specs.declared.statement.Statement.{For, All, Output, Init, Release, Connect}
use Rattle.est_syntax.specs.declared.statement.Statement.{Disconnect, Attach, Detach}
use Rattle.est_syntax.specs.declared.statement.Statement.TheOpen as forms
use Rattle.est_syntax.specs.declared.statement.Statement.TheViews as views
use Rattle.est_syntax.specs.declared.type_text.TypeDef.{TypeDef}
use Rattle.est_syntax.specs.declared.type_text.TypeText.{TypeText}
use Rattle.est_syntax.specs.declared.type_text.VarDef.{VarDef}
use Rattle.text_reader.specs.Going.{Shape}
use Rattle.text_reader.specs.Shown.{Shows, empty, node, nowhere, pair, s_pair}
use Rattle.text_productions.specs.Nodes as view
use Rattle.text_productions.specs.Nodes.{PartForm, StatementForm, View, layer}
use Rattle.text_productions.specs.Productions as grammar
use Rattle.text_printer.specs.declared.printer.Printer.{Printer}
use Rattle.text_printer.specs.PlainNodes.{estelle}
use Rattle.text_printer.specs.Printing.{Prints}
use Rattle.text_printer.proofs.Printing.{never, never_nowhere, part, shown}
use Rattle.est_print.specs.inside.StatementKinds.{IsIf, IsLoop, IsEstelle}

-- a statement that is rolled up from a form is the one that opens as this form
back : {s : Statement} (z : Statement) (f : StatementForm) → roll-Statement f ≡ s
    → out-Statement z ≡ f → s ≡ z
back z f q o = sym q ∙ ap roll-Statement (sym o) ∙ roll-out-Statement z

pub no_loop : (s : Statement) → IsLoop (out-Statement s)
    → ((e : Expr) (t : Statement) (p : ℕ) → s ≡ While e t p → ⊥)
    → ((ts : List Statement) (e : Expr) (p : ℕ) → s ≡ Repeat ts e p → ⊥)
    → ((u : Used) (e : Expr) (d : Bool) (l : Expr) (t : Statement) (p : ℕ) → s ≡ For u e d l t p
    → ⊥)
    → ((u : Used) (o : TypeText) (t : Statement) (p : ℕ) → s ≡ All u o t p → ⊥) → ⊥
no_loop s h a b c d = by (out-Statement s) (roll-out-Statement s) h
  where
    by : (f : StatementForm) → roll-Statement f ≡ s → IsLoop f → ⊥
    by (forms.While e t p) q h =
        a e t p (back (While e t p) (forms.While e t p) q (views.outs-While e t p))
    by (forms.Repeat ts e p) q h =
        b ts e p (back (Repeat ts e p) (forms.Repeat ts e p) q (views.outs-Repeat ts e p))
    by (forms.For u e f l t p) q h =
        c u e f l t p
        (back (For u e f l t p) (forms.For u e f l t p) q (views.outs-For u e f l t p))
    by (forms.All u o t p) q h =
        d u o t p (back (All u o t p) (forms.All u o t p) q (views.outs-All u o t p))
    by f q h = h

pub no_if : (s : Statement) → IsIf (out-Statement s)
    → ((e : Expr) (t : Statement) (o : Option Statement) (p : ℕ) → s ≡ If e t o p → ⊥) → ⊥
no_if s h a = by (out-Statement s) (roll-out-Statement s) h
  where
    by : (f : StatementForm) → roll-Statement f ≡ s → IsIf f → ⊥
    by (forms.If e t o p) q h =
        a e t o p (back (If e t o p) (forms.If e t o p) q (views.outs-If e t o p))
    by f q h = h

pub no_estelle : (s : Statement) → IsEstelle (out-Statement s)
    → ((ss : List Sending) (p : ℕ) → s ≡ Output ss p → ⊥)
    → ((a : Access) (u : Used) (es : List Expr) (p : ℕ) → s ≡ Init a u es p → ⊥)
    → ((a : Access) (p : ℕ) → s ≡ Release a p → ⊥)
    → ((e f : EndPoint) (p : ℕ) → s ≡ Connect e f p → ⊥)
    → ((e : EndPoint) (p : ℕ) → s ≡ Disconnect e p → ⊥)
    → ((a b c : Access) (p : ℕ) → s ≡ Attach a b c p → ⊥)
    → ((e : EndPoint) (p : ℕ) → s ≡ Detach e p → ⊥) → ⊥
no_estelle s h k l m n o r t = by (out-Statement s) (roll-out-Statement s) h
  where
    by : (f : StatementForm) → roll-Statement f ≡ s → IsEstelle f → ⊥
    by (forms.Output ss p) q h =
        k ss p (back (Output ss p) (forms.Output ss p) q (views.outs-Output ss p))
    by (forms.Init a u es p) q h =
        l a u es p (back (Init a u es p) (forms.Init a u es p) q (views.outs-Init a u es p))
    by (forms.Release a p) q h =
        m a p (back (Release a p) (forms.Release a p) q (views.outs-Release a p))
    by (forms.Connect e f p) q h =
        n e f p (back (Connect e f p) (forms.Connect e f p) q (views.outs-Connect e f p))
    by (forms.Disconnect e p) q h =
        o e p (back (Disconnect e p) (forms.Disconnect e p) q (views.outs-Disconnect e p))
    by (forms.Attach a b c p) q h =
        r a b c p (back (Attach a b c p) (forms.Attach a b c p) q (views.outs-Attach a b c p))
    by (forms.Detach e p) q h =
        t e p (back (Detach e p) (forms.Detach e p) q (views.outs-Detach e p))
    by f q h = h

no_first : (s : Statement)
    → ((a : Access) (u : Used) (es : List Expr) (p : ℕ) → s ≡ Init a u es p → ⊥)
    → nowhere ≡ view.first_statement (out-Statement s)
no_first s h = by (out-Statement s) (roll-out-Statement s)
  where
    by : (f : StatementForm) → roll-Statement f ≡ s → nowhere ≡ view.first_statement f
    by (forms.Init a u es p) q =
        absurd (h a u es p
        (back (Init a u es p) (forms.Init a u es p) q (views.outs-Init a u es p)))
    by f q = refl

no_pair : (v : View) (t : Shape) → Shows layer (pair nowhere v) t → ⊥
no_pair v _ (s_pair j k) = elim j [ ]

-- a specification begins with an `init`
pub initialization_never : (s : Statement) {A : Printer}
    → ((a : Access) (u : Used) (es : List Expr) (p : ℕ) → s ≡ Init a u es p → ⊥)
    → Prints estelle grammar.initialization
    (pair (view.first_statement (out-Statement s)) (pair empty empty)) A A
initialization_never s h = shown (ap (λ v. pair v (pair empty empty)) (no_first s h))
    (never (λ source read d a b u z j. no_pair (pair empty empty) u j))

no_block_part : (q : Part) → ((ds : List ConstDef) → q ≡ Consts ds → ⊥)
    → ((ds : List TypeDef) → q ≡ Types ds → ⊥) → ((vs : List VarDef) → q ≡ Vars vs → ⊥)
    → nowhere ≡ view.block_part (out-Part q)
no_block_part q a b c = by (out-Part q) (roll-out-Part q)
  where
    rolled : (z : Part) (f : PartForm) → roll-Part f ≡ q → out-Part z ≡ f → q ≡ z
    rolled z f r o = sym r ∙ ap roll-Part (sym o) ∙ roll-out-Part z

    by : (f : PartForm) → roll-Part f ≡ q → nowhere ≡ view.block_part f
    by (parts.Consts ds) r =
        absurd (a ds (rolled (Consts ds) (parts.Consts ds) r (part_views.outs-Consts ds)))
    by (parts.Types ds) r =
        absurd (b ds (rolled (Types ds) (parts.Types ds) r (part_views.outs-Types ds)))
    by (parts.Vars vs) r =
        absurd (c vs (rolled (Vars vs) (parts.Vars vs) r (part_views.outs-Vars vs)))
    by f r = refl

-- a block declares constants, types and variables
pub block_part_never : (q : Part) {A : Printer} → ((ds : List ConstDef) → q ≡ Consts ds → ⊥)
    → ((ds : List TypeDef) → q ≡ Types ds → ⊥) → ((vs : List VarDef) → q ≡ Vars vs → ⊥)
    → Prints estelle grammar.block_part (node (view.a_block_part q)) A A
block_part_never q a b c =
    let e = no_block_part q a b c in
    part e e never_nowhere
