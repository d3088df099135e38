-- The host of the ordinal that an operand yields, by its form (ISO 7185, 6.6.6.4, 6.7.1 and 6.7.2):
-- where no rule is broken, operators and signs yield an ordinal of the host of their first operand,
-- and comparisons a boolean.
use Rattle.std.specs.Prelude.{ℕ, zero, suc, List, [], ◌∷◌, length, Option, Some, None}
use Rattle.std.specs.Prelude.{option_and_then, if◌then◌else◌}
use Rattle.std.specs.Option.{option_map}
use Rattle.est_syntax.specs.declared.expression.Expr.{Expr, Expr', Held-Expr-relation}
use Rattle.est_syntax.specs.declared.expression.Expr.{Expr-relation-None', Expr-relation-Some'}
use Rattle.est_syntax.specs.declared.expression.Factor.{Factor, Row_of-Expr, end_of-Expr}
use Rattle.est_syntax.specs.declared.expression.Factor.{more_of-Expr, items-the_row-Selector}
use Rattle.est_syntax.specs.declared.expression.Factor.TheOpen as opened
use Rattle.est_syntax.specs.declared.expression.Factor.TheVariants as factor
use Rattle.est_syntax.specs.declared.expression.Member.{Member}
use Rattle.est_syntax.specs.declared.expression.ProductStep.{ProductStep}
use Rattle.est_syntax.specs.declared.expression.Relation.{Relation}
use Rattle.est_syntax.specs.declared.expression.Selector.{Selector, out-Selector}
use Rattle.est_syntax.specs.declared.expression.Simple.{Simple, Simple'}
use Rattle.est_syntax.specs.declared.expression.SumStep.{SumStep}
use Rattle.est_syntax.specs.declared.expression.Term.{Term, Term'}
use Rattle.est_syntax.specs.declared.kind.Kind.{Kind}
use Rattle.est_syntax.specs.declared.name.Used.{Used}
use Rattle.rule_declares.specs.rule_scope.declared.declaration.Meant.{Meant}
use Rattle.rule_declares.specs.rule_scope.declared.declaration.Meant.TheVariants.{Seen, Predeclared}
use Rattle.rule_declares.specs.rule_scope.declared.declaration.Sort.TheVariants as sort
use Rattle.rule_declares.specs.rule_scope.declared.predeclared.PredeclaredName.{PredeclaredName}
use Rattle.rule_declares.specs.rule_scope.declared.predeclared.PredeclaredName.TheVariants as known
use Rattle.rule_declares.specs.rule_scope.Outline.{Outline, entry_at}
use Rattle.rule_declares.specs.rule_scope.Uses.{is_sort, meaning}
use Rattle.est_values.specs.declared.types.Host.{Host}
use Rattle.est_values.specs.declared.types.Host.TheVariants as host
use Rattle.est_values.specs.Types as types
use Rattle.rule_declares.specs.declared.required.Required.{Required}
use Rattle.rule_declares.specs.declared.required.Required.TheVariants as required
use Rattle.rule_declares.specs.RequiredFunctions.{required_function}
use Rattle.mean_blocks.specs.NamesInRuns.{kind_at, array_in, field_in, declared_in_header}

-- WHAT A NAME WITH SELECTORS IS OF

-- What a name with some selectors is of: a kind, or module variables that are declared at a place.
pub data Subject : Type 0 where
  OfKind : Kind → Subject
  OfModules : ℕ → Subject

-- what is declared at a place with a kind
abbrev pub of_kind_at : Outline → ℕ → Option Subject
of_kind_at o p = option_map OfKind (kind_at o p)

-- what is declared at a place, with the kind of its declaration or as module variables
abbrev pub subject_at : Outline → ℕ → Option Subject
subject_at o p =
    if is_sort sort.ModuleVariable (entry_at o p) then Some (OfModules p) else of_kind_at o p

-- the kind of what so many subscripts lead to
abbrev pub component_of : ℕ → Kind → Option Kind
component_of zero k = Some k
component_of (suc n) k = option_and_then (λ (ks : Kind × Kind). component_of n ks.1) (array_in k)

-- what subscripts of what stands before them lead to
abbrev pub subscripted : ℕ → Subject → Option Subject
subscripted n (OfKind k) = option_map OfKind (component_of n k)
subscripted n (OfModules p) = Some (OfModules p)

-- what a field of a record, or an exported variable of a module, is of
abbrev pub field_subject : Outline → Used → Subject → Option Subject
field_subject o u (OfKind k) = option_map (λ (f : ℕ × Kind). OfKind f.1) (field_in k u)
field_subject o u (OfModules p) = option_and_then (of_kind_at o) (declared_in_header o p u)

-- what a selector leads to
abbrev pub selected_subject : Outline → Selector → Subject → Option Subject
selected_subject o x s = held (out-Selector x)
  where
    held : opened.Selector-F Factor Selector Expr Member ProductStep Relation Simple SumStep Term
        → Option Subject
    held (opened.Index es place) = subscripted (length es) s
    held (opened.Field u) = field_subject o u s

-- what selectors lead to
abbrev pub subject_along : Outline → List Selector → Option Subject → Option Subject
subject_along o [] s = s
subject_along o (x ∷ xs) s = subject_along o xs (option_and_then (selected_subject o x) s)

-- the host of what is of a kind
abbrev pub subject_host : Option Subject → Option Host
subject_host (Some (OfKind k)) = types.host_of k
subject_host _ = None

-- HOSTS

-- the host of a constant that is predeclared, if one is
abbrev pub predeclared_host : PredeclaredName → Option Host
predeclared_host known.False = Some host.Boolean
predeclared_host known.True = Some host.Boolean
predeclared_host known.Maxint = Some host.Integer
predeclared_host _ = None

-- the host of a variable, of a constant or of a function without arguments, by what its name means
abbrev pub named_host : Outline → List Selector → Meant → Option Host
named_host o path (Seen p) = subject_host (subject_along o path (subject_at o p))
named_host o path (Predeclared n) = predeclared_host n
named_host o path _ = None

-- the host of what a predeclared function yields for an argument of a host
abbrev pub required_host : Required → Option Host → Option Host
required_host required.Chr h = Some host.Char
required_host required.Odd h = Some host.Boolean
required_host required.Succ h = h
required_host required.Pred h = h
required_host _ h = Some host.Integer

-- the host of what a function yields, by what its name means and the host of its first argument
abbrev pub call_host : Outline → Meant → Option Host → Option Host
call_host o (Seen p) h = option_and_then types.host_of (kind_at o p)
call_host o (Predeclared n) h =
    option_and_then (λ (f : Required). required_host f h) (required_function n)
call_host o _ h = None

-- the host of a comparison, or else of what stands before it
abbrev pub compared : Held-Expr-relation → Option Host → Option Host
compared Expr-relation-None' h = h
compared (Expr-relation-Some' r) h = Some host.Boolean

-- The host of the ordinal that an expression yields.
abbrev mutual
  pub host_of : Outline → Expr → Option Host
  host_of o (Expr' left relation place) = compared relation (simple_host o left)

  pub simple_host : Outline → Simple → Option Host
  simple_host o (Simple' sign first n rest) = term_host o first

  pub term_host : Outline → Term → Option Host
  term_host o (Term' first n rest) = factor_host o first

  pub factor_host : Outline → Factor → Option Host
  factor_host o (factor.Number n place) = Some host.Integer
  factor_host o (factor.Character c place) = Some host.Char
  factor_host o (factor.Group' p e place) = row_host o e
  factor_host o (factor.Not' p f place) = Some host.Boolean
  factor_host o (factor.Set' n members place) = None
  factor_host o (factor.Variable' name n path place) =
      named_host o (items-the_row-Selector _ path) (meaning o name)
  factor_host o (factor.Call' name n arguments place) =
      call_host o (meaning o name) (row_host o arguments)

  -- of the first of these expressions
  pub row_host : Outline → {n : _} → Row_of-Expr n → Option Host
  row_host o end_of-Expr = None
  row_host o (more_of-Expr e rest) = host_of o e
