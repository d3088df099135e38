-- The variables of an `any` have the kinds that its text declares.
use Rattle.std.specs.Prelude.{if◌then◌else◌, option_and_then}
use Rattle.std.proofs.Common.{◌≡◌, refl, sym, ap, subst, ◌∙◌, ℕ, Bool, true, List, [], ◌∷◌}
use Rattle.std.proofs.Common.{◌++◌, Option, Some, None, is_some}
use Rattle.std.specs.List.{cons_option, filter, filter_map}
use Rattle.std.specs.Option.{option_map}
use Rattle.est_syntax.specs.declared.kind.Kind.{Kind}
use Rattle.est_syntax.specs.declared.name.Used.{Used}
use Rattle.est_syntax.specs.declared.type_text.VarDef.{VarDef}
use Rattle.rule_scope.specs.Outline.{Outline, entry_at}
use Rattle.rule_scope.specs.Uses.{is_sort, same_sort}
use Rattle.rule_scope.specs.declared.declaration.Entry.{Entry}
use Rattle.rule_scope.specs.declared.declaration.Measured.{Measured}
use Rattle.rule_scope.specs.declared.declaration.Sort.TheVariants as sort
use Rattle.rule_kinds.specs.TypeTexts.{text_type}
use Rattle.law_places.specs.Said.{Each, IsSaid, HasKind, VarDefSaid}
use Rattle.mean_blocks.specs.NamesInRuns.{kind_at}
use Rattle.law_numbers.specs.WritableLaws.{declared_places, any_names}
use Rattle.law_numbers.proofs.CountedChoices.{kinds_with, named_kinds, written_kinds}

module _ (o : Outline) where
  -- whether a variable is declared at a place
  abbrev is_variable : ℕ → Bool
  is_variable p = is_sort sort.Variable (entry_at o p)

  -- the kinds of the variables that are declared at places
  abbrev variable_kinds : List ℕ → List Kind
  variable_kinds ps = filter_map (kind_at o) (filter is_variable ps)

  with_more : (m : Option Measured) (ks js : List Kind)
      → cons_option (option_map (λ (x : Measured). x.kind) m) (ks ++ js) ≡ kinds_with m ks ++ js
  with_more None ks js = refl
  with_more (Some m) ks js = refl

  one_variable : (u : Used) (e : Entry) (m : Option Measured) (ps : List ℕ)
      → entry_at o u.place ≡ Some e → HasKind sort.Variable m e
      → variable_kinds (u.place ∷ ps)
      ≡ cons_option (option_map (λ (x : Measured). x.kind) m) (variable_kinds ps)
  one_variable u e m ps is said =
      let test : is_variable u.place ≡ true = ap (is_sort sort.Variable) is
      ∙ ap (same_sort sort.Variable) said.0 in
      let its : kind_at o u.place ≡ option_map (λ (x : Measured). x.kind) m =
      ap (λ x. option_map (λ (y : Measured). y.kind)
      (option_and_then (λ (y : Entry). y.kind) x)) is
      ∙ ap (option_map (λ (y : Measured). y.kind)) said.1 in
      ap (λ b. filter_map (kind_at o) (if b then u.place ∷ filter is_variable ps
      else filter is_variable ps)) test
      ∙ ap (λ k. cons_option k (variable_kinds ps)) its

  -- names of one type, and more
  named_are : (m : Option Measured) (us more : List Used)
      → Each (IsSaid o (HasKind sort.Variable m)) us
      → variable_kinds (declared_places o (us ++ more))
      ≡ named_kinds o m us ++ variable_kinds (declared_places o more)
  named_are m [] more said = refl
  named_are m (u ∷ us) more said =
      by (entry_at o u.place) refl (named_are m us more said.1)
    where
      ds : List ℕ
      ds = declared_places o (us ++ more)

      rest : List Kind
      rest = variable_kinds (declared_places o more)

      ks : List Kind
      ks = named_kinds o m us

      Are : Bool → Type 0
      Are b = variable_kinds (if b then u.place ∷ ds else ds)
          ≡ (if b then kinds_with m ks else ks) ++ rest

      by : (x : Option Entry) → entry_at o u.place ≡ x → variable_kinds ds ≡ ks ++ rest
          → Are (is_some (entry_at o u.place))
      by None is h = subst Are (sym (ap is_some is)) h
      by (Some e) is h = subst Are (sym (ap is_some is))
          (one_variable u e m ds is (said.0 e is)
          ∙ ap (cons_option (option_map (λ (x : Measured). x.kind) m)) h ∙ with_more m ks rest)

  -- the variables of an `any`
  pub variables_are : (vs : List VarDef) → Each (VarDefSaid o) vs
      → variable_kinds (declared_places o (any_names vs)) ≡ written_kinds o vs
  variables_are [] said = refl
  variables_are (v ∷ vs) said =
      named_are (text_type o v.text) v.names (any_names vs) said.0.0
      ∙ ap (λ ks. named_kinds o (text_type o v.text) v.names ++ ks) (variables_are vs said.1)
