-- What is given to the parameters of procedures: places of variables, and values.
use Rattle.std.proofs.Common.{◌≡◌, refl, ℕ, Bool, true, false, List, [], ◌∷◌, Option, Some, None}
use Rattle.std.proofs.Common.{sym, ap, subst, ◌∙◌, ◌++◌, length, ◌+◌}
use Rattle.std.proofs.lemmas.Option.{same_Some}
use Rattle.est_syntax.specs.declared.expression.Expr.{Expr}
use Rattle.est_syntax.specs.declared.kind.Kind.{Kind}
use Rattle.est_values.specs.declared.value.Value.{Value}
use Rattle.rule_scope.specs.Outline.{Outline, nth}
use Rattle.rule_scope.specs.declared.declaration.Entry.{Entry}
use Rattle.rule_scope.specs.declared.declaration.Measured.{Measured}
use Rattle.est_values.specs.Alike.{is_alike}
use Rattle.est_values.specs.Types.{Yielded}
use Rattle.rule_expressions.specs.Expressions.{expr_type}
use Rattle.rule_expressions.specs.Operators.{is_given}
use Rattle.rule_expressions.specs.Selections.{Selection, Broken, parameter, type_in, declared_type}
use Rattle.rule_expressions.specs.Selections as select
use Rattle.rule_statements.specs.Statements.{is_place}
use Rattle.rule_statements.specs.Targets.{target, path_target}
use Rattle.rule_declares.specs.BareVariables.{Variable as VariableAccess, bare}
use Rattle.mean_blocks.specs.declared.frame.Slot.{Slot}
use Rattle.mean_blocks.specs.Outcome.{Outcome, Done, Fault, Limit, ◌>>=◌, known}
use Rattle.mean_blocks.specs.WorkingState.{View}
use Rattle.mean_blocks.specs.ReachedVariables.{Reached, Component, Module, placed}
use Rattle.mean_blocks.specs.ExpressionValues.{value_of, variable_of, arguments_in, argument_of}
use Rattle.mean_blocks.specs.ExpressionValues.{variable_place}
use Rattle.mean_blocks.specs.NamesInRuns.{takes_place}
use Rattle.mean_blocks.specs.declared.frame.Slot.TheVariants as slot
use Rattle.law_runs.proofs.GivenThings.{Gives, given_on}
use Rattle.law_sentences.specs.FullProcedures.{IsVariableFor, IsGivenBy, AreGivenTo}
use Rattle.law_values.specs.KindsOfPlaces.{HasKind}
use Rattle.law_values.specs.SteadyOutlines.{IsSteady}
use Rattle.law_values.specs.FittingStates.{FramesFit, SituationFits}
use Rattle.law_values.specs.ValuesOfTypes.{IsYielded}
use Rattle.law_values.proofs.SameKinds.{alike_same, same_on}
use Rattle.law_values.proofs.ReachedKinds.{Agrees, target_on, kind_is}
use Rattle.law_values.proofs.FittingArguments.{AreGivenFor, IsGivenFor, parameter_entry}
use Rattle.law_values.proofs.FittingArguments.{value_given, given_more}
use Rattle.law_values.proofs.FittingExpressions.{CallsFit, expr_yields, variable_agrees}
use Rattle.law_values.proofs.FittingExpressions.{given_some, one_longer}
use Rattle.law_values.proofs.NamedArguments.{place_taken}

-- what is known of two things at once
pub both_given : {S A : Type 0} (Q R : A → Type 0) (x : Outcome S A) → Gives Q x → Gives R x
    → Gives (λ a. Q a × R a) x
both_given Q R (Done a s) h g = (h, g)
both_given Q R (Fault f) h g = tt
both_given Q R Limit h g = tt

-- a list with nothing after it
pub append_nil : (xs : List ℕ) → xs ++ [] ≡ xs
append_nil [] = refl
append_nil (x ∷ xs) = ap (λ ys. x ∷ ys) (append_nil xs)

module _ (v : View) (steady : IsSteady v.site.text.outline)
    (situation : SituationFits v.site.text.outline v.situation)
    (frames : FramesFit v.site.text.outline v.frames)
    (calls : CallsFit v.site.text v.site.deeper) where
  abbrev o : Outline
  o = v.site.text.outline

  abbrev Y : Yielded → Value → Type 0
  Y x a = IsYielded steady.sizes x a

  abbrev Reaches : Selection → Reached → Type 0
  Reaches s r = Agrees o steady.sizes s r

  place_given : (p i : ℕ) (loops : List ℕ) (g : Entry) (e : Expr) (l : ℕ)
      → parameter o p i ≡ Some g → IsVariableFor o loops g.kind (bare e)
      → Gives (IsGivenFor o steady (parameter o p i))
      (variable_place e v l)
  place_given p i loops g e l is = by g.kind refl (bare e)
    where
      reached : (m : Measured) (k : Kind) (r : Reached) (j : ℕ) → g.kind ≡ Some m
          → is_alike m.kind k ≡ true → Reaches (select.Component k) r
          → Gives (IsGivenFor o steady (parameter o p i)) (placed r j)
      reached m k (Module q zs) j a b c = absurd c
      reached m k (Component q w) j a b c =
          let y = parameter_entry o steady (nth o p i) g is in
          let z = alike_same steady.sizes m.kind w
          (steady.sized y.0 m.kind (kind_is o y.0 g m y.2 a)) c.1.sized
          (subst (λ x. is_alike m.kind x ≡ true) c.0 b) in (
            g,
            is,
            λ x f. subst (λ (y : Measured). HasKind o q y.kind)
                (same_Some m x (sym a ∙ f)) record {
                  whole = c.1.has.whole;
                  declared = c.1.has.declared;
                  part = c.1.has.part;
                  reached = c.1.has.reached;
                  same = same_on c.1.has.part w m.kind c.1.has.same z;
                },
          )

      by : (m : Option Measured) → g.kind ≡ m → (x : Option VariableAccess)
          → IsVariableFor o loops m x
          → Gives (IsGivenFor o steady (parameter o p i))
          ((known x >>= λ y. variable_of y.0 y.1 v >>= placed) l)
      by None a x f = absurd f
      by (Some m) a None f = absurd f
      by (Some m) a (Some x) f =
          given_on (Reaches (path_target o None loops x.0 x.1))
          (IsGivenFor o steady (parameter o p i))
          (variable_of x.0 x.1 v l) placed
          (variable_agrees v steady situation frames calls x.0 x.1 (target o None loops x.0) l
          (target_on o None loops x.0))
          (λ r j c. reached m f.0 r j a f.2 (subst (λ y. Reaches y r) f.1 c))

  argument_given : (p i : ℕ) (loops : List ℕ) (g : Entry) (b : Bool) (e : Expr) (l : ℕ)
      → parameter o p i ≡ Some g → IsGivenBy o loops b g e
      → Gives (IsGivenFor o steady (parameter o p i))
      (argument_of e b v l)
  argument_given p i loops g true e l is f = place_given p i loops g e l is f
  argument_given p i loops g false e l is f =
      let x = given_some (type_in g.kind) (expr_type o e) f in
      given_on (Y x.0) (IsGivenFor o steady (parameter o p i))
      (value_of e v l) _ (expr_yields v steady situation frames calls e x.0 l x.1)
      (λ a m q. subst (λ y. IsGivenFor o steady y (slot.Value a)) (sym is)
      (value_given o steady (Some g) a x.0 p i (sym is) q
      (subst (λ y. is_given (type_in g.kind) y ≡ true) x.1 f)))

  pub arguments_given_to : (es : List Expr) (p i : ℕ) (loops : List ℕ) (xs : List Slot) (l : ℕ)
      → i ≡ length xs → AreGivenFor o steady p xs → AreGivenTo o loops p i es
      → Gives (AreGivenFor o steady p) (arguments_in es p xs v l)
  arguments_given_to [] p i loops xs l e f g = f
  arguments_given_to (x ∷ es) p i loops xs l e f g =
      let a = g.0 in
      let b : takes_place o p (length xs) ≡ is_place a.0.section =
      ap (takes_place o p) (sym e) ∙ place_taken o steady p i a.0 a.1 in
      given_on (IsGivenFor o steady (parameter o p i)) (AreGivenFor o steady p)
      (argument_of x (takes_place o p (length xs)) v l) _
      (subst (λ c. Gives (IsGivenFor o steady (parameter o p i))
      (argument_of x c v l)) (sym b)
      (argument_given p i loops a.0 (is_place a.0.section) x l a.1 a.2))
      (λ y m q. arguments_given_to es p (i + 1) loops (xs ++ y ∷ []) m
      (one_longer xs y i e)
      (given_more o steady p xs y f
      (subst (λ j. IsGivenFor o steady (parameter o p j) y) e q)) g.1)
