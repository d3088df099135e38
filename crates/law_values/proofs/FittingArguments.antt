-- Frames whose parameters are given what they may be fit.
use Rattle.std.specs.Prelude.{slice_get, option_and_then, if◌then◌else◌}
use Rattle.std.specs.List.{filter}
use Rattle.std.specs.Map.{lookup}
use Rattle.std.specs.Option.{option_map}
use Rattle.std.proofs.Common.{◌≡◌, refl, sym, ap, subst, ◌∙◌, ℕ, zero, suc, Bool, true, false}
use Rattle.std.proofs.Common.{List, [], ◌∷◌, ◌++◌, map, length, Option, Some, None, Result, Ok}
use Rattle.std.proofs.Common.{Err, ◌⊎◌, inl, inr, true≢false, unwrap_or, nat_eq}
use Rattle.std.proofs.lemmas.Option.{same_Some, none-some}
use Rattle.est_syntax.specs.declared.kind.Kind.{Kind}
use Rattle.est_values.specs.declared.value.Value.{Value}
use Rattle.est_values.specs.FittingValues.{Fits, IsUndefinedOf}
use Rattle.est_values.specs.FittingValues as fitting
use Rattle.rule_scope.specs.Outline.{Outline, Region, names_of, nth_in, nth, place_of, entry_at}
use Rattle.rule_scope.specs.Uses.{is_sort, same_sort}
use Rattle.rule_scope.specs.declared.declaration.Entry.{Entry}
use Rattle.rule_scope.specs.declared.declaration.Measured.{Measured}
use Rattle.rule_scope.specs.declared.declaration.Standing.{Standing}
use Rattle.rule_scope.specs.declared.declaration.Sort.TheVariants as sort
use Rattle.est_values.specs.Types.{Yielded, type_of, is_assignable}
use Rattle.rule_expressions.specs.Operators.{is_given}
use Rattle.rule_expressions.specs.Selections.{type_in, declared_type, parameter_in, parameter_at}
use Rattle.rule_expressions.specs.Selections.{parameter, is_parameter}
use Rattle.mean_blocks.specs.declared.fault.BlockFault.{BlockFault}
use Rattle.mean_blocks.specs.declared.frame.Slot.{Slot}
use Rattle.mean_blocks.specs.Outcome.{on_ok}
use Rattle.mean_blocks.specs.TakenValues.{taken, undefined_of}
use Rattle.mean_blocks.specs.NamesInRuns.{kind_at, places_of}
use Rattle.mean_blocks.specs.FunctionCalls.{given, bound, first_value, unset, frame_of}
use Rattle.mean_blocks.specs.FunctionCalls.{results_of, routine_frame}
use Rattle.mean_blocks.specs.declared.frame.Slot.TheVariants as slot
use Rattle.mean_blocks.proofs.UndefinedVariables.{begins_undefined}
use Rattle.law_runs.proofs.GivenThings.{OnGood}
use Rattle.law_values.proofs.TakenArguments.{good_on}
use Rattle.law_values.specs.SteadyOutlines.{IsSteady}
use Rattle.law_values.specs.FittingStates.{SlotFits, BindingFits, FrameFits}
use Rattle.law_values.specs.ValuesOfTypes.{IsYielded}
use Rattle.law_values.proofs.TypedValues.{given_fits}
use Rattle.law_values.proofs.ReachedKinds.{kind_is}

-- what is undefined throughout fits
pub undefined_fits : (k : Kind) (v : Value) → IsUndefinedOf k v → Fits k v
undefined_fits k v (fitting.undefined_scalar e s) = fitting.undefined e s
undefined_fits k v (fitting.undefined_array i of ps d e n each) =
    fitting.array i of ps d e n (λ z w at. undefined_fits of w (each z w at))
undefined_fits k v (fitting.undefined_fields fs ps d e n each) =
    fitting.fields fs ps d e n (λ z f w i at. undefined_fits f.kind w (each z f w i at))

-- what stands in a list with one thing more
pub one_further : {A : Type 0} (xs : List A) (x y : A) (i : ℕ)
    → slice_get (xs ++ x ∷ []) i ≡ Some y
    → (slice_get xs i ≡ Some y) ⊎ ((i ≡ length xs) × (x ≡ y))
one_further [] x y zero e = inr (refl, same_Some x y e)
one_further [] x y (suc i) e = absurd (none-some y e)
one_further (z ∷ xs) x y zero e = inl e
one_further (z ∷ xs) x y (suc i) e = by (one_further xs x y i e)
  where
    by : (slice_get xs i ≡ Some y) ⊎ ((i ≡ length xs) × (x ≡ y))
        → (slice_get xs i ≡ Some y) ⊎ ((suc i ≡ suc (length xs)) × (x ≡ y))
    by (inl h) = inl h
    by (inr h) = inr (ap suc h.0, h.1)

module _ (o : Outline) (steady : IsSteady o) where
  -- GIVEN

  -- what may be given to what is declared at a place
  abbrev pub MayGive : ℕ → Slot → Type 0
  MayGive p x = (k : Kind) → kind_at o p ≡ Some k → OnGood (SlotFits o k) (given (Some k) x)

  abbrev pub MayGiveAll : List ℕ → List Slot → Type 0
  MayGiveAll [] xs = Unit {0}
  MayGiveAll (p ∷ ps) [] = Unit {0}
  MayGiveAll (p ∷ ps) (x ∷ xs) = MayGive p x × MayGiveAll ps xs

  pub nothing_given : (ps : List ℕ) → MayGiveAll ps []
  nothing_given [] = tt
  nothing_given (p ∷ ps) = tt

  pub unset_fits : (p : ℕ) → BindingFits o (unset o p)
  unset_fits p = λ k e. subst (λ x. Fits k (first_value x)) (sym e)
      (undefined_fits k (undefined_of k) (begins_undefined k))

  bound_fits : (p : ℕ) (x : Slot) → MayGive p x
      → OnGood (λ y. BindingFits o (bound p y)) (given (kind_at o p) x)
  bound_fits p x h = by (kind_at o p) refl
    where
      known_kind : (k : Kind) (r : Result Slot BlockFault) → kind_at o p ≡ Some k
          → OnGood (SlotFits o k) r → OnGood (λ y. BindingFits o (bound p y)) r
      known_kind k (Ok y) e g = λ j i. subst (λ z. SlotFits o z y) (same_Some k j (sym e ∙ i)) g
      known_kind k (Err f) e g = tt

      by : (k : Option Kind) → kind_at o p ≡ k
          → OnGood (λ y. BindingFits o (bound p y)) (given k x)
      by None e = λ j i. absurd (none-some j (sym e ∙ i))
      by (Some k) e = known_kind k (given (Some k) x) e (h k e)

  pub frame_given : (ps : List ℕ) (xs : List Slot) → MayGiveAll ps xs
      → OnGood (FrameFits o) (frame_of o ps xs)
  frame_given [] xs h = tt
  frame_given (p ∷ ps) [] h =
      good_on (FrameFits o) (FrameFits o) (frame_of o ps []) (λ f. Ok (unset o p ∷ f))
      (frame_given ps [] (nothing_given ps)) (λ f g. (unset_fits p, g))
  frame_given (p ∷ ps) (x ∷ xs) h =
      good_on (λ y. BindingFits o (bound p y)) (FrameFits o) (given (kind_at o p) x)
      (λ y. on_ok (frame_of o ps xs) (λ f. Ok (bound p y ∷ f))) (bound_fits p x h.0)
      (λ y q. good_on (FrameFits o) (FrameFits o) (frame_of o ps xs)
      (λ f. Ok (bound p y ∷ f)) (frame_given ps xs h.1) (λ f g. (q, g)))

  -- PARAMETERS

  -- what may be given to a parameter
  abbrev pub IsGivenFor : Option Entry → Slot → Type 0
  IsGivenFor e x = (g : Entry) × (e ≡ Some g) × ((m : Measured) → g.kind ≡ Some m
      → OnGood (SlotFits o m.kind) (given (Some m.kind) x))

  -- and the arguments that may be given to those of a declaration
  abbrev pub AreGivenFor : ℕ → List Slot → Type 0
  AreGivenFor p xs = (i : ℕ) (x : Slot) → slice_get xs i ≡ Some x → IsGivenFor (parameter o p i) x

  -- where a parameter is declared
  pub parameter_entry : (p : Option ℕ) (e : Entry) → parameter_at o p ≡ Some e
      → (q : ℕ) × (p ≡ Some q) × (entry_at o q ≡ Some e)
  parameter_entry None e h = absurd (none-some e h)
  parameter_entry (Some q) e h = by (entry_at o q) refl h
    where
      one : (y : Entry) (b : Bool) → entry_at o q ≡ Some y → (if b then Some y else None) ≡ Some e
          → (p : ℕ) × (Some q ≡ Some p) × (entry_at o p ≡ Some e)
      one y true i h = (q, refl, i ∙ h)
      one y false i h = absurd (none-some e h)

      by : (x : Option Entry) → entry_at o q ≡ x → option_and_then parameter_in x ≡ Some e
          → (p : ℕ) × (Some q ≡ Some p) × (entry_at o p ≡ Some e)
      by None i h = absurd (none-some e h)
      by (Some y) i h = one y (is_parameter y.section) i h

  -- the value of an argument whose type is that of its parameter
  pub value_given : (e : Option Entry) (v : Value) (t : Yielded) (p i : ℕ) → e ≡ parameter o p i
      → IsYielded steady.sizes t v → is_given (declared_type e) (Some t) ≡ true
      → IsGivenFor e (slot.Value v)
  value_given None v t p i d h g = absurd (true≢false (sym g))
  value_given (Some e) v t p i d h g = (e, refl, λ m k. by m k (taken m.kind v) refl)
    where
      assigned : (m : Measured) → e.kind ≡ Some m → is_assignable (type_of m.kind) t ≡ true
      assigned m k = subst (λ x. is_given (type_in x) (Some t) ≡ true) k g

      by : (m : Measured) → e.kind ≡ Some m → (r : Result Value BlockFault) → taken m.kind v ≡ r
          → OnGood (SlotFits o m.kind) (on_ok r (λ w. Ok (slot.Value w)))
      by m k (Err f) a = tt
      by m k (Ok w) a = let q = parameter_entry (nth o p i) e (sym d) in
          given_fits steady.sizes m.kind v w t
          (steady.sized q.0 m.kind (kind_is o q.0 e m q.2 k)) h (assigned m k) a

  -- NAMES IN ORDER

  nth_place : (p i : ℕ) → nth o p i ≡ place_of (slice_get (names_of o p) i)
  nth_place p i = by (lookup (nat_eq p) o.regions)
    where
      by : (r : Option Region) → nth_in r i ≡ place_of (slice_get (unwrap_or r []) i)
      by None = refl
      by (Some names) = refl

  -- the places of variables among names, with others after them
  abbrev variable_places : Region → List ℕ
  variable_places names = filter (λ (p : ℕ). is_sort sort.Variable (entry_at o p))
      (map (λ (n : List ℕ × Standing). n.1.place) names)

  -- a variable is one by its sort
  variable_sort : (p : ℕ) (g : Entry) → entry_at o p ≡ Some g → g.declared.sort ≡ sort.Variable
      → is_sort sort.Variable (entry_at o p) ≡ true
  variable_sort p g e s =
      ap (is_sort sort.Variable) e ∙ ap (λ x. same_sort sort.Variable x) s

  -- what may be given to a parameter may be to its place
  may_give : (p : ℕ) (g : Entry) (x : Slot) → entry_at o p ≡ Some g
      → ((m : Measured) → g.kind ≡ Some m → OnGood (SlotFits o m.kind) (given (Some m.kind) x))
      → MayGive p x
  may_give p g x e h k i = by g.kind refl
      (sym (ap (λ y. option_map (λ (m : Measured). m.kind)
      (option_and_then (λ (e : Entry). e.kind) y)) e) ∙ i)
    where
      by : (m : Option Measured) → g.kind ≡ m
          → option_map (λ (m : Measured). m.kind) m ≡ Some k
          → OnGood (SlotFits o k) (given (Some k) x)
      by None j q = absurd (none-some k q)
      by (Some m) j q = subst (λ z. OnGood (SlotFits o z) (given (Some z) x))
          (same_Some m.kind k q) (h m j)

  names_given : (names : Region) (tail : List ℕ) (xs : List Slot)
      → ((i : ℕ) (x : Slot) → slice_get xs i ≡ Some x
      → IsGivenFor (parameter_at o (place_of (slice_get names i))) x)
      → ((i : ℕ) (g : Entry) → parameter_at o (place_of (slice_get names i)) ≡ Some g
      → g.declared.sort ≡ sort.Variable) → MayGiveAll (variable_places names ++ tail) xs
  names_given [] tail [] h s = nothing_given tail
  names_given [] tail (x ∷ xs) h s = let g = h 0 x refl in absurd (none-some g.0 g.1)
  names_given (n ∷ names) tail [] h s = nothing_given (variable_places (n ∷ names) ++ tail)
  names_given (n ∷ names) tail (x ∷ xs) h s =
      let g = h 0 x refl in
      let q = parameter_entry (Some n.1.place) g.0 g.1 in
      let p = same_Some n.1.place q.0 q.1 in
      let e = ap (entry_at o) p ∙ q.2 in
      subst (λ (b : Bool). MayGiveAll ((if b then n.1.place ∷ variable_places names
      else variable_places names) ++ tail) (x ∷ xs))
      (sym (variable_sort n.1.place g.0 e (s 0 g.0 g.1))) (
        may_give n.1.place g.0 x e g.2,
        names_given names tail xs (λ i. h (suc i)) (λ i. s (suc i)),
      )

  -- the arguments of a declaration, and other variables after its parameters
  pub arguments_given : (p : ℕ) (tail : List ℕ) (xs : List Slot) → AreGivenFor p xs
      → MayGiveAll (places_of o sort.Variable p ++ tail) xs
  arguments_given p tail xs h =
      names_given (names_of o p) tail xs
      (λ i x e. subst (λ y. IsGivenFor (parameter_at o y) x) (nth_place p i) (h i x e))
      (λ i g e. steady.parameters p i g (ap (parameter_at o) (nth_place p i) ∙ e))

  pub routine_given : (p : ℕ) (xs : List Slot) → AreGivenFor p xs
      → OnGood (FrameFits o) (routine_frame o p xs)
  routine_given p xs h =
      frame_given (places_of o sort.Variable p ++ results_of o p) xs
      (arguments_given p (results_of o p) xs h)

  pub none_given : (p : ℕ) → AreGivenFor p []
  none_given p i x e = absurd (none-some x e)

  -- one argument more
  pub given_more : (p : ℕ) (xs : List Slot) (x : Slot) → AreGivenFor p xs
      → IsGivenFor (parameter o p (length xs)) x → AreGivenFor p (xs ++ x ∷ [])
  given_more p xs x h g i y e = by (one_further xs x y i e)
    where
      by : (slice_get xs i ≡ Some y) ⊎ ((i ≡ length xs) × (x ≡ y))
          → IsGivenFor (parameter o p i) y
      by (inl s) = h i y s
      by (inr s) = subst (λ j. IsGivenFor (parameter o p j) y) (sym s.0)
          (subst (IsGivenFor (parameter o p (length xs))) s.1 g)
