-- What names and selectors reach is what the rules say that they select.
use Rattle.std.specs.Prelude.{slice_get, option_and_then, if◌then◌else◌}
use Rattle.std.specs.Option.{option_map}
use Rattle.std.proofs.Common.{◌≡◌, refl, sym, ap, subst, ◌∙◌, arith, ℕ, suc, ◌+◌, ℤ, Bool, true}
use Rattle.std.proofs.Common.{false, List, [], ◌∷◌, Option, Some, None, ◌⊎◌, inl, inr, ⊎_elim}
use Rattle.std.proofs.lemmas.Option.{same_Some, none-some}
use Rattle.est_syntax.specs.Names.{is_name, spelled}
use Rattle.est_syntax.specs.declared.expression.Factor.{Row_of-Expr, end_of-Expr, more_of-Expr}
use Rattle.est_syntax.specs.declared.expression.Factor.{Row_of-Selector, end_of-Selector}
use Rattle.est_syntax.specs.declared.expression.Factor.{more_of-Selector}
use Rattle.est_syntax.specs.declared.expression.Selector.{Selector}
use Rattle.est_syntax.specs.declared.kind.Kind.{Kind, out-Kind}
use Rattle.est_syntax.specs.declared.kind.FieldKind.{FieldKind}
use Rattle.est_syntax.specs.declared.name.Used.{Used}
use Rattle.est_syntax.specs.declared.expression.Selector.TheVariants as selector
use Rattle.est_syntax.specs.declared.kind.Kind.TheOpen as seen
use Rattle.est_values.specs.FittingValues.{KindLayer}
use Rattle.rule_scope.specs.Outline.{Outline, entry_at, standing}
use Rattle.rule_scope.specs.Uses.{meaning}
use Rattle.rule_scope.specs.declared.declaration.Entry.{Entry}
use Rattle.rule_scope.specs.declared.declaration.Meant.{Meant}
use Rattle.rule_scope.specs.declared.declaration.Measured.{Measured}
use Rattle.rule_scope.specs.declared.declaration.Sort.{Sort}
use Rattle.rule_scope.specs.declared.declaration.Standing.{Standing}
use Rattle.rule_scope.specs.declared.declaration.Meant.TheVariants as meant
use Rattle.rule_scope.specs.declared.declaration.Sort.TheVariants as sort
use Rattle.rule_kinds.specs.Constants.{named_value}
use Rattle.rule_kinds.specs.declared.value.Valued.{Valued}
use Rattle.est_values.specs.Types.{Yielded, type_of, is_assignable}
use Rattle.rule_expressions.specs.Calls.{subscripts_of}
use Rattle.rule_expressions.specs.Expressions.{expr_type, row_taken}
use Rattle.rule_expressions.specs.Selections.{Selection, Broken, Value, SomeModule, takes_so_many}
use Rattle.rule_expressions.specs.Selections.{variable_head, module_head}
use Rattle.rule_expressions.specs.Selections.{function_head}
use Rattle.rule_expressions.specs.Variables.{indexed, component, chosen_by, field_found, field_of}
use Rattle.rule_expressions.specs.Variables.{is_export, of_header, export_by}
use Rattle.rule_declares.specs.LookUps.{header_in}
use Rattle.rule_expressions.specs.Variables.{has_exports, export_of, selected_type}
use Rattle.rule_expressions.specs.Expressions as rules
use Rattle.rule_expressions.specs.Selections as select
use Rattle.rule_expressions.specs.Variables as variables
use Rattle.rule_statements.specs.Targets.{is_writable, target_by, target_in, target_meant, target}
use Rattle.mean_blocks.specs.declared.frame.Place.{Place}
use Rattle.mean_blocks.specs.Outcome.{Outcome, Done, Fault, Limit, ◌>>=◌, give, lift, known}
use Rattle.mean_blocks.specs.Frames.{whole, component_of}
use Rattle.mean_blocks.specs.NamesInRuns.{Head, Nothing, Constant, Function, Variable, Modules}
use Rattle.mean_blocks.specs.NamesInRuns.{with_kind, head_by, head_in, head_meant, head}
use Rattle.mean_blocks.specs.NamesInRuns.{kind_at, dims_at, declared_within, array_in}
use Rattle.mean_blocks.specs.NamesInRuns.{field_from, field_in}
use Rattle.mean_blocks.specs.WorkingState.{View}
use Rattle.mean_blocks.specs.ValueOperators.{ordinal}
use Rattle.mean_blocks.specs.ReachedVariables.{Reached, Component, Module, variable_begun}
use Rattle.mean_blocks.specs.ReachedVariables.{child_of, exported, with_field, with_component}
use Rattle.mean_blocks.specs.ExpressionValues.{value_of, row_components, row_subscripts}
use Rattle.mean_blocks.specs.ExpressionValues.{selected, row_selected}
use Rattle.mean_blocks.specs.TakenValues.{component_at}
use Rattle.mean_blocks.specs.declared.frame.Holder.TheVariants as holder
use Rattle.law_runs.proofs.GivenThings.{Gives, then_gives, given_on}
use Rattle.law_values.specs.SameKinds.{HasSizes, AreSame}
use Rattle.law_values.specs.KindsOfPlaces.{component_kind, HasKind}
use Rattle.law_values.specs.SteadyOutlines.{IsSteady}
use Rattle.law_values.specs.FittingStates.{FramesFit}
use Rattle.law_values.specs.SameKinds as same
use Rattle.law_values.proofs.SameKinds.{sizes_in, SizesIn, no_array, no_record, other_there}
use Rattle.law_values.proofs.PartsFit.{along_more}
use Rattle.law_values.proofs.FittingFrames.{OnSome, place_has, whole_has}

-- COMPONENTS OF KINDS

-- the component of a kind that the same values fit
same_component : (j k h : Kind) (n : ℕ) → AreSame j k → component_kind n (out-Kind k) ≡ Some h
    → (g : Kind) × (component_kind n (out-Kind j) ≡ Some g) × AreSame g h
same_component j k h n (same.ordinals a b f l) e = absurd (no_component (out-Kind k) refl e)
  where
    no_component : (m : KindLayer) → out-Kind k ≡ m → component_kind n m ≡ Some h → ⊥
    no_component (seen.ArrayOf i of) d g = no_array k i of b d
    no_component (seen.Fields fs) d g = no_record k fs b d
    no_component _ d g = none-some h g
same_component j k h n (same.sets b c d g f l) e =
    absurd (none-some h (sym (ap (component_kind n) g) ∙ e))
same_component j k h n (same.arrays i of x held d g m s) e = (
  of,
  ap (component_kind n) d,
  subst (AreSame of) (same_Some held h (sym (ap (component_kind n) g) ∙ e)) s,
)
same_component j k h n (same.records fs gs d g m s) e =
    by (slice_get gs n) refl (sym (ap (component_kind n) g) ∙ e)
  where
    by : (x : Option FieldKind) → slice_get gs n ≡ x
        → option_map (λ (f : FieldKind). f.kind) x ≡ Some h
        → (g : Kind) × (component_kind n (out-Kind j) ≡ Some g) × AreSame g h
    by None i q = absurd (none-some h q)
    by (Some x) i q = let y = other_there gs fs n x (sym m) i in (
      y.0.kind,
      ap (component_kind n) d ∙ ap (option_map (λ (f : FieldKind). f.kind)) y.1,
      subst (AreSame y.0.kind) (same_Some x.kind h q) (s n y.0 x y.1 i),
    )

-- so a component of a place has the kind of the component
pub component_has : (o : Outline) (p : Place) (k h : Kind) (n : ℕ) → HasKind o p k
    → component_kind n (out-Kind k) ≡ Some h → HasKind o (component_of n p) h
component_has o p k h n has e = let c = same_component has.part k h n has.same e in record {
  whole = has.whole;
  declared = has.declared;
  part = c.0;
  reached = along_more p.path n has.whole has.part c.0 has.reached c.1;
  same = c.2;
}

-- and its sizes
component_sizes : (sizes : ℕ → ℕ) (k h : Kind) (n : ℕ) → HasSizes sizes k
    → component_kind n (out-Kind k) ≡ Some h → HasSizes sizes h
component_sizes sizes k h n s e = by (out-Kind k) e (sizes_in sizes k s)
  where
    by : (l : KindLayer) → component_kind n l ≡ Some h → SizesIn sizes l → HasSizes sizes h
    by (seen.ArrayOf i of) d z = subst (HasSizes sizes) (same_Some of h d) z.1
    by (seen.Fields fs) d z = one (slice_get fs n) refl d
      where
        one : (x : Option FieldKind) → slice_get fs n ≡ x
            → option_map (λ (f : FieldKind). f.kind) x ≡ Some h → HasSizes sizes h
        one None i q = absurd (none-some h q)
        one (Some f) i q = subst (HasSizes sizes) (same_Some f.kind h q) (z n f i)
    by _ d z = absurd (none-some h d)

-- FIELDS

-- what is found under a name is one field, by its number from some number on
abbrev IsField : List FieldKind → List ℕ → ℕ → ℕ × Kind → Type 0
IsField fs name n f = (variables.field_in fs name ≡ Some f.1)
    × ((j : ℕ) × (f.0 ≡ n + j)
    × (option_map (λ (g : FieldKind). g.kind) (slice_get fs j) ≡ Some f.1))

field_found_at : (fs : List FieldKind) (name : List ℕ) (n : ℕ)
    → OnSome (IsField fs name n) (field_from n fs name)
field_found_at [] name n = tt
field_found_at (f ∷ fs) name n =
    by (is_name name f.name.bytes) (field_from (n + 1) fs name) (field_found_at fs name (n + 1))
  where
    by : (b : Bool) (x : Option (ℕ × Kind)) → OnSome (IsField fs name (n + 1)) x
        → OnSome (λ (g : ℕ × Kind). ((if b then Some f.kind else variables.field_in fs name)
        ≡ Some g.1) × ((j : ℕ) × (g.0 ≡ n + j)
        × (option_map (λ (g : FieldKind). g.kind) (slice_get (f ∷ fs) j) ≡ Some g.1)))
        (if b then Some (n, f.kind) else x)
    by true x h = (refl, (0, omega arith, refl))
    by false None h = tt
    by false (Some g) h = let e = h.1.1 in (h.0, (suc h.1.0, omega (arith, e), h.1.2))

-- HEADS

-- one selection, or a broken rule
abbrev pub IsOr : Selection → Selection → Type 0
IsOr s x = (s ≡ x) ⊎ (s ≡ Broken)

-- module variables, some of them, or a broken rule
abbrev pub AreModules : Selection → ℕ → Type 0
AreModules (select.Modules q) p = q ≡ p
AreModules (select.Module q) p = q ≡ p
AreModules SomeModule p = Unit {0}
AreModules Broken p = Unit {0}
AreModules _ p = ⊥

-- what the rules say of what a name stands for
abbrev pub OnHead : Outline → Selection → Head → Type 0
OnHead o s Nothing = Unit {0}
OnHead o s (Constant z) = Unit {0}
OnHead o s (Function p k) = (kind_at o p ≡ Some k) × IsOr s (select.Component k)
OnHead o s (Variable p k) = (kind_at o p ≡ Some k) × IsOr s (select.Component k)
OnHead o s (Modules p) = AreModules s p

module _ (o : Outline) where
  pub kind_is : (p : ℕ) (e : Entry) (m : Measured) → entry_at o p ≡ Some e → e.kind ≡ Some m
      → kind_at o p ≡ Some m.kind
  kind_is p e m i k = ap (λ x. option_map (λ (m : Measured). m.kind)
      (option_and_then (λ (e : Entry). e.kind) x)) i
      ∙ ap (option_map (λ (m : Measured). m.kind)) k

  variable_on : (p : ℕ) (e : Entry) (s : Selection) → entry_at o p ≡ Some e
      → IsOr s (variable_head e.kind) → OnHead o s (with_kind (Variable p) e.kind)
  variable_on p e s i h = by e.kind refl h
    where
      by : (m : Option Measured) → e.kind ≡ m → IsOr s (variable_head m)
          → OnHead o s (with_kind (Variable p) m)
      by None k g = tt
      by (Some m) k g = (kind_is p e m i k, g)

  function_on : (p : ℕ) (e : Entry) (s : Selection) → entry_at o p ≡ Some e
      → IsOr s (variable_head e.kind) → OnHead o s (with_kind (Function p) e.kind)
  function_on p e s i h = by e.kind refl h
    where
      by : (m : Option Measured) → e.kind ≡ m → IsOr s (variable_head m)
          → OnHead o s (with_kind (Function p) m)
      by None k g = tt
      by (Some m) k g = (kind_is p e m i k, g)

  modules_on : (p : ℕ) (dims : Option (List Kind)) → AreModules (module_head dims p) p
  modules_on p None = tt
  modules_on p (Some []) = refl
  modules_on p (Some (k ∷ ks)) = refl

  function_or : (b : Bool) (m : Option Measured) → IsOr (function_head b m) (variable_head m)
  function_or true m = inl refl
  function_or false m = inr refl

  sort_on : (p : ℕ) (e : Entry) (x : Sort) → entry_at o p ≡ Some e
      → OnHead o (select.head_by o p e x) (head_by p e.kind x)
  sort_on p e sort.Variable i = variable_on p e (variable_head e.kind) i (inl refl)
  sort_on p e sort.Function i =
      function_on p e (function_head (takes_so_many o p 0) e.kind) i
      (function_or (takes_so_many o p 0) e.kind)
  sort_on p e sort.ModuleVariable i = modules_on p e.dims
  sort_on p e _ i = tt

  pub entry_on : (p : ℕ) (x : Option Entry) → entry_at o p ≡ x
      → OnHead o (select.head_in o p x) (head_in p x)
  entry_on p None i = tt
  entry_on p (Some e) i = sort_on p e e.declared.sort i

  pub head_on : (u : Used) → OnHead o (select.head o u) (head o u)
  head_on u = by (named_value o u) (meaning o u)
    where
      by : (v : Option Valued) (m : Meant) → OnHead o (select.head_meant o m) (head_meant o v m)
      by (Some v) m = tt
      by None (meant.Seen p) = entry_on p (entry_at o p) refl
      by None _ = tt

  -- targets
  target_sort_on : (p : ℕ) (e : Entry) (x : Sort) → entry_at o p ≡ Some e
      → OnHead o (target_by p e x) (head_by p e.kind x)
  target_sort_on p e sort.Variable i = variable_on p e (variable_head e.kind) i (inl refl)
  target_sort_on p e sort.Function i = function_on p e (variable_head e.kind) i (inl refl)
  target_sort_on p e sort.ModuleVariable i = modules_on p e.dims
  target_sort_on p e _ i = tt

  -- a broken rule says nothing
  broken_on : (h : Head) (s : Selection) → OnHead o s h → OnHead o Broken h
  broken_on Nothing s h = tt
  broken_on (Constant z) s h = tt
  broken_on (Function p k) s h = (h.0, inr refl)
  broken_on (Variable p k) s h = (h.0, inr refl)
  broken_on (Modules p) s h = tt

  pub target_on : (f : Option ℕ) (loops : List ℕ) (u : Used)
      → OnHead o (target o f loops u) (head o u)
  target_on f loops u = by (named_value o u) (meaning o u)
    where
      written : (p : ℕ) (e : Entry) (b : Bool) → entry_at o p ≡ Some e
          → OnHead o (if b then target_by p e e.declared.sort else Broken)
          (head_by p e.kind e.declared.sort)
      written p e true i = target_sort_on p e e.declared.sort i
      written p e false i = broken_on (head_by p e.kind e.declared.sort)
          (target_by p e e.declared.sort) (target_sort_on p e e.declared.sort i)

      entry : (p : ℕ) (x : Option Entry) → entry_at o p ≡ x
          → OnHead o (target_in f loops p x) (head_in p x)
      entry p None i = tt
      entry p (Some e) i = written p e (is_writable f loops p e.section e.declared.sort) i

      by : (v : Option Valued) (m : Meant)
          → OnHead o (target_meant o f loops m) (head_meant o v m)
      by (Some v) m = tt
      by None (meant.Seen p) = entry p (entry_at o p) refl
      by None _ = tt

-- SELECTORS

-- a variable of the kind that is selected, whose sizes are known
pub record IsVariable (o : Outline) (sizes : ℕ → ℕ) (p : Place) (k : Kind) : Type 0 where
  pub has : HasKind o p k
  pub sized : HasSizes sizes k

-- what is reached is what is selected
abbrev pub Agrees : Outline → (ℕ → ℕ) → Selection → Reached → Type 0
Agrees o sizes (select.Component k) (Component p j) = (k ≡ j) × IsVariable o sizes p j
Agrees o sizes (Value t) (Component p j) = (t ≡ type_of j) × IsVariable o sizes p j
Agrees o sizes Broken r = Unit {0}
Agrees o sizes s (Component p j) = ⊥
Agrees o sizes s (Module p zs) = AreModules s p

module _ (v : View) (steady : IsSteady v.site.text.outline)
    (frames : FramesFit v.site.text.outline v.frames) where
  abbrev o : Outline
  o = v.site.text.outline

  abbrev pub Goes : Selection → Reached → Type 0
  Goes s r = Agrees o steady.sizes s r

  anything : (x : Outcome ℕ Reached) → Gives (Goes Broken) x
  anything (Done a l) = tt
  anything (Fault f) = tt
  anything Limit = tt

  begun_as : (p : ℕ) (k : Kind) → kind_at o p ≡ Some k → (q : Place) → HasKind o q k
      → IsVariable o steady.sizes q k
  begun_as p k e q h = record { has = h; sized = steady.sized p k e }

  -- where names begin
  pub begun_agrees : (h : Head) (s : Selection) (l : ℕ) → OnHead o s h
      → Gives (Goes s) (variable_begun v h l)
  begun_agrees Nothing s l g = tt
  begun_agrees (Constant z) s l g = tt
  begun_agrees (Function p k) s l g =
      let x = begun_as p k g.0 _ (place_has o steady v.site.instance p k v.frames g.0 frames) in
      ⊎_elim
      (λ e. subst (λ y. Gives (Goes y) (variable_begun v (Function p k) l)) (sym e) (refl, x))
      (λ e. subst (λ y. Gives (Goes y) (variable_begun v (Function p k) l)) (sym e) tt) g.1
  begun_agrees (Variable p k) s l g =
      let x = begun_as p k g.0 _ (place_has o steady v.site.instance p k v.frames g.0 frames) in
      ⊎_elim
      (λ e. subst (λ y. Gives (Goes y) (variable_begun v (Variable p k) l)) (sym e) (refl, x))
      (λ e. subst (λ y. Gives (Goes y) (variable_begun v (Variable p k) l)) (sym e) tt) g.1
  begun_agrees (Modules p) (select.Modules q) l g = g
  begun_agrees (Modules p) (select.Module q) l g = g
  begun_agrees (Modules p) SomeModule l g = g
  begun_agrees (Modules p) Broken l g = g
  begun_agrees (Modules p) (Value t) l g = absurd g
  begun_agrees (Modules p) (select.Component k) l g = absurd g

  -- subscripts of arrays
  array_agrees : (k j : Kind) (t : Yielded) (p : Place) (z : ℤ) (l : ℕ) → k ≡ j
      → IsVariable o steady.sizes p j
      → Gives (Goes (indexed (out-Kind k) t)) (with_component (Component p j) z l)
  array_agrees k j t p z l e h = by (out-Kind k) (ap out-Kind (sym e))
    where
      chosen : (index of : Kind) (b : Bool) → out-Kind j ≡ seen.ArrayOf index of
          → Gives (Goes (if b then select.Component of else Broken))
          (with_component (Component p j) z l)
      chosen index of false d = anything (with_component (Component p j) z l)
      chosen index of true d =
          let a : array_in j ≡ Some (index, of) = rw d refl in
          subst (λ x. Gives (Goes (select.Component of)) ((known x >>= λ ks.
          lift (component_at ks.0 z) >>= λ n. give (Component (component_of n p) ks.1)) l)) (sym a)
          (then_gives (Goes (select.Component of)) (lift (component_at index z) l) _
          (λ n m. (
            refl,
            record {
              has = component_has o p j of n h.has (ap (component_kind n) d);
              sized = component_sizes steady.sizes j of n h.sized (ap (component_kind n) d);
            },
          )))

      by : (x : KindLayer) → out-Kind j ≡ x
          → Gives (Goes (indexed x t)) (with_component (Component p j) z l)
      by (seen.ArrayOf index of) d = chosen index of (is_assignable (type_of index) t) d
      by _ d = anything (with_component (Component p j) z l)

  component_agrees : (s : Selection) (x : Option Yielded) (r : Reached) (z : ℤ) (l : ℕ) → Goes s r
      → Gives (Goes (component s x)) (with_component r z l)
  component_agrees (select.Component k) (Some t) (Component p j) z l h =
      array_agrees k j t p z l h.0 h.1
  component_agrees (select.Component k) (Some t) (Module p zs) z l h = absurd h
  component_agrees s x r z l h = anything (with_component r z l)

  components_agree : {n : _} (row : Row_of-Expr n) (s : Selection) (r : Reached) (l : ℕ) → Goes s r
      → Gives (Goes (rules.row_components o s row)) (row_components row r v l)
  components_agree end_of-Expr s r l h = h
  components_agree (more_of-Expr e rest) s r l h =
      let Q = Goes (rules.row_components o (component s (expr_type o e)) rest) in
      then_gives Q (value_of e v l) _
      (λ a m. then_gives Q (ordinal a m) _
      (λ z i. given_on (Goes (component s (expr_type o e))) Q (with_component r z i) _
      (component_agrees s (expr_type o e) r z i h)
      (λ q w g. components_agree rest (component s (expr_type o e)) q w g)))

  -- fields
  record_agrees : (k j : Kind) (u : Used) (p : Place) (l : ℕ) → k ≡ j
      → IsVariable o steady.sizes p j
      → Gives (Goes (field_of (out-Kind k) (spelled u))) (with_field v u (Component p j) l)
  record_agrees k j u p l e h = by (out-Kind k) (ap out-Kind (sym e))
    where
      one : (fs : List FieldKind) (x : Option (ℕ × Kind)) → out-Kind j ≡ seen.Fields fs
          → OnSome (IsField fs (spelled u) 0) x
          → Gives (Goes (field_found (variables.field_in fs (spelled u))))
          (known (option_map (λ (f : ℕ × Kind). Component (component_of f.0 p) f.1) x) l)
      one fs None d g = tt
      one fs (Some f) d g =
          let n : f.0 ≡ g.1.0 = (let i = g.1.1 in omega (arith, i)) in
          let c : component_kind f.0 (out-Kind j) ≡ Some f.1 =
          ap (component_kind f.0) d ∙ ap (λ i. option_map (λ (g : FieldKind). g.kind)
          (slice_get fs i)) n ∙ g.1.2 in
          subst (λ x. Goes (field_found x) (Component (component_of f.0 p) f.1)) (sym g.0) (
            refl,
            record {
              has = component_has o p j f.1 f.0 h.has c;
              sized = component_sizes steady.sizes j f.1 f.0 h.sized c;
            },
          )

      by : (x : KindLayer) → out-Kind j ≡ x
          → Gives (Goes (field_of x (spelled u))) (with_field v u (Component p j) l)
      by (seen.Fields fs) d =
          let a : field_in j u ≡ field_from 0 fs (spelled u) = rw d refl in
          subst (λ x. Gives (Goes (field_found (variables.field_in fs (spelled u))))
          (known (option_map
          (λ (f : ℕ × Kind). Component (component_of f.0 p) f.1) x) l)) (sym a)
          (one fs (field_from 0 fs (spelled u)) d (field_found_at fs (spelled u) 0))
      by _ d = anything (with_field v u (Component p j) l)

  -- exported variables
  export_agrees : (n p : ℕ) (u : Used) (l : ℕ) (x : Option ℕ)
      → Gives (Goes (export_of o x u))
      ((known (option_and_then (declared_within o u) x) >>= λ d. exported o n d) l)
  export_agrees n p u l None = tt
  export_agrees n p u l (Some h) = found (standing o h (spelled u)) (has_exports (entry_at o h))
    where
      measured : (d : ℕ) (e : Entry) (b c : Bool) (m : Option Measured) → entry_at o d ≡ Some e
          → e.kind ≡ m → Gives (Goes (if b then (if c then variable_head m else Broken)
          else Broken)) (known (option_map (Component (whole (holder.Instance n) d))
          (option_map (λ (m : Measured). m.kind) m)) l)
      measured d e b c None i k = tt
      measured d e true true (Some m) i k = (
        refl,
        record {
          has = whole_has o steady (holder.Instance n) d m.kind (kind_is o d e m i k);
          sized = steady.sized d m.kind (kind_is o d e m i k);
        },
      )
      measured d e true false (Some m) i k = tt
      measured d e false c (Some m) i k = tt

      entry : (d : ℕ) (b : Bool) (x : Option Entry) → entry_at o d ≡ x
          → Gives (Goes (if b then export_by x else Broken))
          (known (option_map (Component (whole (holder.Instance n) d)) (option_map
          (λ (m : Measured). m.kind) (option_and_then (λ (e : Entry). e.kind) x))) l)
      entry d b None i = tt
      entry d b (Some e) i = measured d e b (is_export e) e.kind i refl

      found : (y : Option Standing) (b : Bool)
          → Gives (Goes (if b then export_by (option_and_then
          (λ (s : Standing). entry_at o s.place) y) else Broken))
          ((known (option_map (λ (s : Standing). s.place) y) >>= λ d. exported o n d) l)
      found None b = tt
      found (Some y) b = entry y.place b (entry_at o y.place) refl

  field_agrees : (u : Used) (s : Selection) (r : Reached) (l : ℕ) → Goes s r
      → Gives (Goes (variables.with_field o s u)) (with_field v u r l)
  field_agrees u (select.Component k) (Component p j) l h = record_agrees k j u p l h.0 h.1
  field_agrees u (select.Component k) (Module p zs) l h = absurd h
  field_agrees u (select.Module q) (Module p zs) l h =
      subst (λ x. Gives (Goes (export_of o (header_in (entry_at o x)) u))
      (with_field v u (Module p zs) l)) (sym h)
      (then_gives (Goes (export_of o (header_in (entry_at o p)) u)) (lift (child_of v p zs) l) _
      (λ n m. export_agrees n p u m (header_in (entry_at o p))))
  field_agrees u (select.Module q) (Component p j) l h = absurd h
  field_agrees u s r l h = anything (with_field v u r l)

  -- selectors
  modules_chosen : (s c : Selection) (b : Bool) (p : ℕ) (zs : List ℤ) → AreModules s p
      → Goes (chosen_by s c b) (Module p zs)
  modules_chosen (select.Modules q) c true p zs h = h
  modules_chosen (select.Modules q) c false p zs h = tt
  modules_chosen (select.Module q) c b p zs h = tt
  modules_chosen SomeModule c b p zs h = tt
  modules_chosen Broken c b p zs h = tt
  modules_chosen (Value t) c b p zs h = absurd h
  modules_chosen (select.Component k) c b p zs h = absurd h

  are_modules : (s : Selection) (p : ℕ) (zs : List ℤ) → Goes s (Module p zs) → AreModules s p
  are_modules (select.Modules q) p zs h = h
  are_modules (select.Module q) p zs h = h
  are_modules SomeModule p zs h = h
  are_modules Broken p zs h = h
  are_modules (Value t) p zs h = h
  are_modules (select.Component k) p zs h = h

  index_agrees : {n : _} (row : Row_of-Expr n) (s : Selection) (b : Bool) (p : Place) (j : Kind)
      (l : ℕ) → Goes s (Component p j)
      → Gives (Goes (chosen_by s (rules.row_components o s row) b))
      (row_components row (Component p j) v l)
  index_agrees row (select.Component k) b p j l h =
      components_agree row (select.Component k) (Component p j) l h
  index_agrees row (select.Modules q) b p j l h = absurd h
  index_agrees row (select.Module q) b p j l h = absurd h
  index_agrees row SomeModule b p j l h = absurd h
  index_agrees row Broken b p j l h = anything (row_components row (Component p j) v l)
  index_agrees row (Value t) b p j l h = anything (row_components row (Component p j) v l)

  pub selected_agrees : (x : Selector) (s : Selection) (r : Reached) (l : ℕ) → Goes s r
      → Gives (Goes (rules.selection o s x)) (selected x r v l)
  selected_agrees (selector.Index' n row place) s (Component p j) l h =
      index_agrees row s (row_taken o (subscripts_of s) 0 row) p j l h
  selected_agrees (selector.Index' n row place) s (Module p zs) l h =
      let Q = Goes (chosen_by s (rules.row_components o s row)
      (row_taken o (subscripts_of s) 0 row)) in
      then_gives Q (row_subscripts row (dims_at o p) zs v l) _
      (λ ys m. modules_chosen s (rules.row_components o s row)
      (row_taken o (subscripts_of s) 0 row) p ys (are_modules s p zs h))
  selected_agrees (selector.Field u) s r l h = field_agrees u s r l h

  pub path_agrees : {n : _} (row : Row_of-Selector n) (s : Selection) (r : Reached) (l : ℕ)
      → Goes s r → Gives (Goes (rules.row_selected o s row)) (row_selected row r v l)
  path_agrees end_of-Selector s r l h = h
  path_agrees (more_of-Selector x rest) s r l h =
      given_on (Goes (rules.selection o s x))
      (Goes (rules.row_selected o (rules.selection o s x) rest)) (selected x r v l) _
      (selected_agrees x s r l h)
      (λ q m g. path_agrees rest (rules.selection o s x) q m g)
