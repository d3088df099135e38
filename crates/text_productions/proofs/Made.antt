-- The layers of the parts that the readers make.
use Rattle.std.proofs.Common.{◌≡◌, ℕ, List, [], ◌∷◌, Option}
use Rattle.std.proofs.Common.{Some, None, ◌++◌, map, ap, refl, sym, length}
use Rattle.std.specs.Prelude.{option_to_list}
use Rattle.est_syntax.specs.declared.name.Used.{Used}
use Rattle.est_syntax.specs.declared.constant.Sign.{Sign}
use Rattle.est_syntax.specs.declared.constant.Constant.{Constant}
use Rattle.est_syntax.specs.declared.constant.Constant.TheVariants as constants
use Rattle.est_syntax.specs.declared.type_text.TypeText.{TypeText, out-TypeText, Named}
use Rattle.est_syntax.specs.declared.type_text.TypeText.{Range, Names, Array, Fields, Set}
use Rattle.est_syntax.specs.declared.type_text.TypeText.TheViews as texts
use Rattle.est_syntax.specs.declared.type_text.TypeText.TheOpen as forms
use Rattle.est_syntax.specs.declared.type_text.VarDef.{VarDef, roll-VarDef, out-roll-VarDef}
use Rattle.est_syntax.specs.declared.expression.Operator.{Operator}
use Rattle.est_syntax.specs.declared.expression.Selector.{Selector, Index, Field}
use Rattle.est_syntax.specs.declared.expression.Member.{Member, roll-Member, out-roll-Member}
use Rattle.est_syntax.specs.declared.expression.Factor.{Factor, Number, Character}
use Rattle.est_syntax.specs.declared.expression.Factor.{Group, Not, Variable, Call}
use Rattle.est_syntax.specs.declared.expression.Factor.{Set as SetOf}
use Rattle.est_syntax.specs.declared.expression.Factor.TheViews as factors
use Rattle.est_syntax.specs.declared.expression.ProductStep.{ProductStep, roll-ProductStep}
use Rattle.est_syntax.specs.declared.expression.ProductStep.{out-roll-ProductStep}
use Rattle.est_syntax.specs.declared.expression.Term.{Term, roll-Term, out-roll-Term}
use Rattle.est_syntax.specs.declared.expression.SumStep.{SumStep, roll-SumStep, out-roll-SumStep}
use Rattle.est_syntax.specs.declared.expression.Simple.{Simple, roll-Simple, out-roll-Simple}
use Rattle.est_syntax.specs.declared.expression.Relation.{Relation, roll-Relation}
use Rattle.est_syntax.specs.declared.expression.Relation.{out-roll-Relation}
use Rattle.est_syntax.specs.declared.expression.Expr.{Expr, roll-Expr, out-roll-Expr}
use Rattle.est_lexer.specs.Offsets.{text_of, tokens_of}
use Rattle.text_reader.specs.Grammar.{Shape, both, done, word, seq, deeper, rule, placed}
use Rattle.text_reader.specs.Grammar.{Tree, t_here, t_deeper, t_word, t_seq, t_rule}
use Rattle.text_reader.specs.Shown.{Shows, empty, kept, at, pair, first, second, given}
use Rattle.text_reader.specs.Shown.{node, nodes, s_first, s_pair, s_node, s_at, s_more}
use Rattle.text_reader.specs.declared.reader.Reader.{Reader}
use Rattle.text_reader.specs.Tests as kinds
use Rattle.text_reader.specs.Tests.{Kept, Test, language}
use Rattle.text_reader.specs.declared.outcome.Outcome.TheVariants.{Well}
use Rattle.text_reader.proofs.Seen.{finds}
use Rattle.text_reader.specs.Moving.{TakesName}
use Rattle.text_reader.specs.Going.{used, identifier, Goes}
use Rattle.text_reader.proofs.Going.{part}
use Rattle.text_reader.proofs.Single.{name_goes}
use Rattle.text_productions.specs.Syntax.{estelle}
use Rattle.text_productions.specs.Nodes as node_of
use Rattle.text_productions.specs.Productions as grammar
use Rattle.text_productions.specs.Productions.{production}
use Rattle.text_productions.specs.Nodes.{Node, View, layer, a_use, a_constant, a_type, a_short_type}
use Rattle.text_productions.specs.Nodes.{a_field, a_variable, a_parameter, an_export, an_expr}
use Rattle.text_productions.specs.Nodes.{a_simple, a_sum_step, a_term, a_product_step, a_factor}
use Rattle.text_productions.specs.Nodes.{a_selector, a_member, TypeTextForm, names, unnamed}
use Rattle.text_productions.specs.Nodes.{constant, range, short_type, type_text, structured, choice}
use Rattle.text_productions.specs.Nodes.{last_choice, first_place, beginning, dimensions}
use Rattle.text_productions.specs.inside.Structures.{declared_place}
use Rattle.text_productions.proofs.Fits.{K}

-- a name, as a part
pub name_node : {A B : Reader} {u : Used} → TakesName A u B
    → Goes estelle identifier A (node (a_use u)) B
name_node x = part refl (name_goes K x)

-- what is declared together
pub field_made : (us : List Used) (t : TypeText)
    → layer (a_field (roll-VarDef record { names = us; text = t })) ≡ pair (names us)
    (node (a_type t))
field_made us t = ap (λ x. pair (names x.names) (node (a_type x.text)))
    (out-roll-VarDef record { names = us; text = t })

pub variable_made : (us : List Used) (t : TypeText)
    → layer (a_variable (roll-VarDef record { names = us; text = t })) ≡ pair (names us)
    (pair (node (a_type t)) empty)
variable_made us t = ap (λ x. pair (names x.names) (pair (node (a_type x.text)) empty))
    (out-roll-VarDef record { names = us; text = t })

pub parameter_made : (us : List Used) (t : TypeText)
    → layer (a_parameter (roll-VarDef record { names = us; text = t })) ≡ pair (names us)
    (node (a_short_type t))
parameter_made us t = ap (λ x. pair (names x.names) (node (a_short_type x.text)))
    (out-roll-VarDef record { names = us; text = t })

pub export_made : (us : List Used) (t : TypeText)
    → layer (an_export (roll-VarDef record { names = us; text = t })) ≡ pair (names us)
    (pair (node (a_short_type t)) empty)
export_made us t = ap (λ x. pair (names x.names) (pair (node (a_short_type x.text)) empty))
    (out-roll-VarDef record { names = us; text = t })

-- types
pub named_made : (u : Used)
    → short_type (out-TypeText (Named u)) ≡ second (at u.place (pair (used u) empty))
named_made u = ap short_type (texts.outs-Named u)

pub range_made : (low high : Constant) → short_type (out-TypeText (Range low high)) ≡ range low high
range_made low high = ap short_type (texts.outs-Range low high)

pub names_made : (us : List Used) (place : ℕ)
    → layer (a_type (Names us place)) ≡ choice 1 (at place (pair (names us) empty))
names_made us place = ap type_text (texts.outs-Names us place)

pub array_made : (index : List TypeText) (of_ : TypeText) (place : ℕ)
    → type_text (out-TypeText (Array index of_ place)) ≡ structured place
    (choice 0 (pair (nodes (map a_type index)) (node (a_type of_))))
array_made index of_ place = ap type_text (texts.outs-Array index of_ place)

pub fields_made : (fields : List VarDef) (place : ℕ)
    → type_text (out-TypeText (Fields fields place)) ≡ structured place
    (choice 1 (pair (nodes (map a_field fields)) empty))
fields_made fields place = ap type_text (texts.outs-Fields fields place)

pub set_made : (of_ : TypeText) (place : ℕ) → type_text (out-TypeText (Set of_ place))
    ≡ structured place (last_choice 2 (node (a_type of_)))
set_made of_ place = ap type_text (texts.outs-Set of_ place)

-- expressions
pub expr_made : (l : Simple) (r : Option Relation) (p : ℕ)
    → layer (an_expr (roll-Expr record { left = l; relation = r; place = p }))
    ≡ at p (pair (node (a_simple l)) (node_of.relation r))
expr_made l r p = ap (λ x. at x.place (pair (node (a_simple x.left)) (node_of.relation x.relation)))
    (out-roll-Expr record { left = l; relation = r; place = p })

pub relation_made : (o : Operator) (r : Simple)
    → node_of.relation (Some (roll-Relation record { operator = o; right = r }))
    ≡ given (pair (node_of.relational_operator o) (node (a_simple r)))
relation_made o r =
    ap (λ x. given (pair (node_of.relational_operator x.operator) (node (a_simple x.right))))
    (out-roll-Relation record { operator = o; right = r })

pub simple_made : (s : Option Sign) (f : Term) (rest : List SumStep)
    → layer (a_simple (roll-Simple record { sign = s; first = f; rest = rest }))
    ≡ pair (node_of.sign s) (pair (node (a_term f)) (nodes (map a_sum_step rest)))
simple_made s f rest = ap (λ x. pair (node_of.sign x.sign) (pair (node (a_term x.first))
    (nodes (map a_sum_step x.rest)))) (out-roll-Simple record {
      sign = s;
      first = f;
      rest = rest;
    })

pub sum_step_made : (o : Operator) (r : Term)
    → layer (a_sum_step (roll-SumStep record { operator = o; right = r }))
    ≡ pair (node_of.adding_operator o) (node (a_term r))
sum_step_made o r = ap (λ x. pair (node_of.adding_operator x.operator) (node (a_term x.right)))
    (out-roll-SumStep record { operator = o; right = r })

pub term_made : (f : Factor) (rest : List ProductStep)
    → layer (a_term (roll-Term record { first = f; rest = rest })) ≡ pair (node (a_factor f))
    (nodes (map a_product_step rest))
term_made f rest = ap (λ x. pair (node (a_factor x.first)) (nodes (map a_product_step x.rest)))
    (out-roll-Term record { first = f; rest = rest })

pub product_step_made : (o : Operator) (r : Factor)
    → layer (a_product_step (roll-ProductStep record { operator = o; right = r }))
    ≡ pair (node_of.multiplying_operator o) (node (a_factor r))
product_step_made o r = ap (λ x. pair (node_of.multiplying_operator x.operator)
    (node (a_factor x.right))) (out-roll-ProductStep record { operator = o; right = r })

pub member_made : (l : Expr) (h : Option Expr)
    → layer (a_member (roll-Member record { low = l; high = h })) ≡ pair (node (an_expr l))
    (node_of.expr_given h)
member_made l h = ap (λ x. pair (node (an_expr x.low)) (node_of.expr_given x.high))
    (out-roll-Member record { low = l; high = h })

pub number_made : (n p : ℕ) → layer (a_factor (Number n p)) ≡ at p (choice 0 (kept (kinds.value n)))
number_made n p = ap node_of.factor (factors.outs-Number n p)

pub character_made : (c p : ℕ)
    → layer (a_factor (Character c p)) ≡ at p (choice 1 (kept (kinds.code c)))
character_made c p = ap node_of.factor (factors.outs-Character c p)

pub group_made : (e : Expr) (p : ℕ)
    → layer (a_factor (Group e p)) ≡ at p (choice 2 (pair (node (an_expr e)) empty))
group_made e p = ap node_of.factor (factors.outs-Group e p)

pub not_made : (f : Factor) (p : ℕ)
    → layer (a_factor (Not f p)) ≡ at p (choice 3 (node (a_factor f)))
not_made f p = ap node_of.factor (factors.outs-Not f p)

pub set_of_made : (ms : List Member) (p : ℕ)
    → layer (a_factor (SetOf ms p)) ≡ at p (choice 4 (pair (node_of.members ms) empty))
set_of_made ms p = ap node_of.factor (factors.outs-Set ms p)

pub variable_of_made : (u : Used) (ss : List Selector) (p : ℕ)
    → layer (a_factor (Variable u ss p))
    ≡ at p (last_choice 5 (pair (used u) (node_of.selectors ss)))
variable_of_made u ss p = ap node_of.factor (factors.outs-Variable u ss p)

pub call_made : (u : Used) (es : List Expr) (p : ℕ)
    → layer (a_factor (Call u es p))
    ≡ at p (last_choice 5 (pair (used u) (given (first (pair (nodes (map an_expr es)) empty)))))
call_made u es p = ap node_of.factor (factors.outs-Call u es p)

pub index_made : (es : List Expr) (p : ℕ)
    → layer (a_selector (Index es p)) ≡ second (at p (pair (nodes (map an_expr es)) empty))
index_made es p = ap node_of.selector (factors.outs-Index es p)

pub field_of_made : (u : Used) → layer (a_selector (Field u)) ≡ first (used u)
field_of_made u = ap node_of.selector (factors.outs-Field u)

-- What shows as a constant that is no bare name is one, in each of the places where one may stand.
pub unnamed_constant : (c : Constant) (t : Shape Kept) → Shows layer (first (unnamed c)) t
    → Shows layer (constant c) t
unnamed_constant (constants.Number sign n p) t s = s
unnamed_constant (constants.Named (Some sign) u p) t s = s
unnamed_constant (constants.Named None u p) t (s_first s) = elim s [ ]
unnamed_constant (constants.Character c p) t s = s

pub unnamed_range : (low high : Constant) (t : Shape Kept)
    → Shows layer (first (pair (unnamed low) (node (a_constant high)))) t
    → Shows layer (range low high) t
unnamed_range (constants.Number sign n p) high t s = s
unnamed_range (constants.Named (Some sign) u p) high t s = s
unnamed_range (constants.Named None u p) high t (s_first (s_pair s r)) = elim s [ ]
unnamed_range (constants.Character c p) high t s = s

-- what shows as a short type shows as a type
pub short_type_text : (f : TypeTextForm) (t : Shape Kept) → Shows layer (choice 0 (short_type f)) t
    → Shows layer (type_text f) t
short_type_text (forms.Named u) t s = s
short_type_text (forms.Range low high) t s = s
short_type_text (forms.Names us p) t (s_first s) = elim s [ ]
short_type_text (forms.Array index of_ p) t (s_first s) = elim s [ ]
short_type_text (forms.Fields fields p) t (s_first s) = elim s [ ]
short_type_text (forms.Set of_ p) t (s_first s) = elim s [ ]

-- the name of a type, where it stands
pub named_at : {A B : Reader} {u : Used} → TakesName A u B → second (at A.at (pair (used u) empty))
    ≡ short_type (out-TypeText (Named u))
named_at {u = u} x = rw (named_made u, x.place) refl

-- A list of which a tree has the first item is not empty.
pub some_item : {I : Type 0} (part_of : I → Node) (is : List I) (t u : Shape Kept)
    → Shows layer (nodes (map part_of is)) (both t u) → (i : I) × (rest : List I) × (is ≡ i ∷ rest)
some_item part_of [] t u s = elim s [ ]
some_item part_of (i ∷ rest) t u s = (i, rest, refl)

-- of expressions in brackets
pub some_exprs : {A B : Reader} (es : List Expr) (k l : Test)
    → Goes estelle (deeper (word k (seq grammar.exprs (word l done)))) A
    (pair (nodes (map an_expr es)) empty) B → B.outcome ≡ Well → (e : Expr) × (rest : List Expr)
    × (es ≡ e ∷ rest)
some_exprs {A} {B} es k l x w = let f = finds x w in of_tree f.1.tree f.2
  where
    of_tree : {d a b : ℕ} {t : Shape Kept}
        → Tree (language production (text_of A.tokens.now)) (tokens_of A.tokens.now)
        (length (tokens_of A.tokens.now)) (deeper (word k (seq grammar.exprs (word l done)))) d a b
        t → Shows layer (pair (nodes (map an_expr es)) empty) t → (e : Expr) × (rest : List Expr)
        × (es ≡ e ∷ rest)
    of_tree (t_deeper (t_word m i e (t_seq (t_seq p q) r))) (s_pair y z) = some_item an_expr es _ _
        y

-- of dimensions
pub some_dims : {A B : Reader} (ds : List TypeText)
    → Goes estelle (rule grammar.dims) A (pair (nodes (map a_short_type ds)) empty) B
    → B.outcome ≡ Well → (d : TypeText) × (rest : List TypeText) × (ds ≡ d ∷ rest)
some_dims {A} {B} ds x w = let f = finds x w in of_tree f.1.tree f.2
  where
    of_tree : {d a b : ℕ} {t : Shape Kept}
        → Tree (language production (text_of A.tokens.now)) (tokens_of A.tokens.now)
        (length (tokens_of A.tokens.now)) (rule grammar.dims) d a b t
        → Shows layer (pair (nodes (map a_short_type ds)) empty) t
        → (d : TypeText) × (rest : List TypeText) × (ds ≡ d ∷ rest)
    of_tree (t_rule (t_word m i e (t_word m' i' e' (t_seq (t_seq p q) r)))) (s_pair y z) =
        some_item a_short_type ds _ _ y

-- one role or two
pub roles_made : (one : Used) (other : Option Used) (v : View)
    → node_of.roles ((one ∷ []) ++ option_to_list other) v ≡ pair (used one)
    (pair (node_of.name_given other) v)
roles_made one None v = refl
roles_made one (Some other) v = refl

-- a short type, as a part
pub short_node : {g : grammar.Rule} {A B : Reader} {t : TypeText}
    → Goes estelle g A (short_type (out-TypeText t)) B → Goes estelle g A (node (a_short_type t)) B
short_node x = part refl x

-- names begin where the reader of them did
pub first_at : {A B : Reader} (us : List Used) → Goes estelle grammar.idents A (names us) B
    → B.outcome ≡ Well → first_place us ≡ A.at
first_at {A} {B} us x w = let f = finds x w in of_tree us f.1.tree f.2
  where
    same_place : (p q : ℕ) (t u : Shape Kept) → placed p t ≡ placed q u → p ≡ q
    same_place p q t u e = cc

    of_first : (u : Used) (q : ℕ) (t r : Shape Kept) → placed q t ≡ r
        → Shows layer (node (a_use u)) r → u.place ≡ q
    of_first u q t r e (s_node (s_at p s)) = sym (same_place q u.place t _ e)

    of_tree : (vs : List Used) {d a b : ℕ} {t : Shape Kept}
        → Tree (language production (text_of A.tokens.now)) (tokens_of A.tokens.now)
        (length (tokens_of A.tokens.now)) grammar.idents d a b t → Shows layer (names vs) t
        → first_place vs ≡ a
    of_tree [] (t_seq p q) s = elim s [ ]
    of_tree (v ∷ vs) (t_seq (t_here {t = t} p) q) (s_more s r) = of_first v _ t _ refl s

-- where a declaration begins
pub beginning_is : (ds : List TypeText) (us : List Used) (first there : ℕ) → first_place us ≡ first
    → beginning (declared_place ds first there) ds us ≡ first
beginning_is [] us start there e = refl
beginning_is (d ∷ ds) us start there e = e

-- and its dimensions
pub dimensions_are : (ds : List TypeText) (first there : ℕ)
    → dimensions (declared_place ds first there) ds ≡ dimensions there ds
dimensions_are [] start there = refl
dimensions_are (d ∷ ds) start there = refl
