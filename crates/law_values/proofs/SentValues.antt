-- The values of parameters fit their kinds, and what is bound to them does.
use Rattle.std.specs.Prelude.{if◌then◌else◌, option_to_list}
use Rattle.std.specs.List.{AllByRecursion, AllZip, filter, filter_map, cons_option}
use Rattle.std.specs.Option.{option_map}
use Rattle.std.proofs.Common.{◌≡◌, refl, sym, ap, subst, ◌∙◌, ℕ, Bool, true, false, List, [], ◌∷◌}
use Rattle.std.proofs.Common.{◌++◌, map, Option, Some, None, Result, Ok, Err}
use Rattle.std.proofs.lemmas.Option.{same_Some}
use Rattle.est_syntax.specs.declared.kind.Kind.{Kind}
use Rattle.est_values.specs.declared.value.Value.{Value}
use Rattle.est_values.specs.FittingValues.{Fits}
use Rattle.rule_scope.specs.Outline.{Outline, Region, names_of, entry_at}
use Rattle.rule_scope.specs.Uses.{same_sort, is_sort}
use Rattle.rule_scope.specs.declared.declaration.Entry.{Entry}
use Rattle.rule_scope.specs.declared.declaration.Measured.{Measured}
use Rattle.rule_scope.specs.declared.declaration.Standing.{Standing}
use Rattle.rule_scope.specs.declared.declaration.Sort.TheVariants as sort
use Rattle.rule_declares.specs.PortList.{kind_by, kinds_in}
use Rattle.mean_blocks.specs.declared.fault.BlockFault.{BlockFault}
use Rattle.mean_blocks.specs.declared.frame.Binding.{Binding}
use Rattle.mean_blocks.specs.declared.frame.Slot.{Slot}
use Rattle.mean_blocks.specs.Outcome.{on_ok}
use Rattle.mean_blocks.specs.GlobalSituation.{Frame}
use Rattle.mean_blocks.specs.NamesInRuns.{kind_at, places_of}
use Rattle.mean_blocks.specs.TakenValues.{taken}
use Rattle.mean_blocks.specs.FunctionCalls.{given, bound, unset, frame_of}
use Rattle.mean_blocks.specs.StatementEffects.{slot_value, values_of}
use Rattle.mean_blocks.specs.declared.frame.Slot.TheVariants as slot
use Rattle.est_meaning.specs.TransitionChoices.{bound_all}
use Rattle.law_runs.proofs.GivenThings.{OnGood}
use Rattle.law_sentences.specs.Full.{HasAll, AreFull}
use Rattle.law_sentences.proofs.FullUses.{same_sorts}
use Rattle.law_values.proofs.TakenArguments.{IsValue, AreValues, good_on}
use Rattle.law_values.specs.SteadyOutlines.{IsSteady}
use Rattle.law_values.specs.FittingStates.{SlotFits, FrameFits}
use Rattle.law_values.proofs.ReachedKinds.{kind_is}
use Rattle.law_values.proofs.FittingArguments.{MayGiveAll, nothing_given, unset_fits}

module _ (o : Outline) (steady : IsSteady o) where
  -- each of these places has a kind
  abbrev pub HaveKinds : List ℕ → Type 0
  HaveKinds ps = AllByRecursion (λ (p : ℕ). (k : Kind) × (kind_at o p ≡ Some k)) ps

  abbrev pub kinds_of : List ℕ → List Kind
  kinds_of ps = filter_map (kind_at o) ps

  kinds_more : (p : ℕ) (k : Kind) (ps : List ℕ) → kind_at o p ≡ Some k
      → kinds_of (p ∷ ps) ≡ k ∷ kinds_of ps
  kinds_more p k ps e = ap (λ x. cons_option x (kinds_of ps)) e

  -- BOUND

  pub bound_fit : (ps : List ℕ) (vs : List Value) → HaveKinds ps → AllZip Fits (kinds_of ps) vs
      → FrameFits o (bound_all ps vs)
  bound_fit [] vs h g = tt
  bound_fit (p ∷ ps) [] h g = tt
  bound_fit (p ∷ ps) (v ∷ vs) h g =
      let k = h.0 in
      let a = subst (λ ks. AllZip Fits ks (v ∷ vs)) (kinds_more p k.0 ps k.1) g in
      (λ j e. subst (λ x. Fits x v) (same_Some k.0 j (sym k.1 ∙ e)) a.0, bound_fit ps vs h.1 a.1)

  -- GIVEN

  -- the values in a frame of these names
  abbrev HaveValues : List ℕ → Frame → Type 0
  HaveValues ps f = AllZip Fits (kinds_of ps) (map (λ (b : Binding). slot_value b.slot) f)

  given_value : (k : Kind) (x : Slot) → IsValue x → OnGood (SlotFits o k) (given (Some k) x)
      → OnGood (λ y. Fits k (slot_value y)) (given (Some k) x)
  given_value k (slot.Value v) i h = by (taken k v) h
    where
      by : (r : Result Value BlockFault) → OnGood (SlotFits o k) (on_ok r (λ w. Ok (slot.Value w)))
          → OnGood (λ y. Fits k (slot_value y)) (on_ok r (λ w. Ok (slot.Value w)))
      by (Ok w) g = g
      by (Err f) g = tt
  given_value k (slot.Place p) i h = absurd i
  given_value k (slot.Instance n) i h = absurd i

  pub values_fit : (ps : List ℕ) (xs : List Slot) → HaveKinds ps → AreValues xs
      → MayGiveAll o steady ps xs → OnGood (HaveValues ps) (frame_of o ps xs)
  values_fit [] xs h v g = tt
  values_fit (p ∷ ps) [] h v g =
      good_on (HaveValues ps) (HaveValues (p ∷ ps)) (frame_of o ps []) (λ f. Ok (unset o p ∷ f))
      (values_fit ps [] h.1 tt (nothing_given o steady ps))
      (λ f q. subst (λ ks. AllZip Fits ks (map (λ (b : Binding). slot_value b.slot)
      (unset o p ∷ f)))
      (sym (kinds_more p h.0.0 ps h.0.1)) (unset_fits o steady p h.0.0 h.0.1, q))
  values_fit (p ∷ ps) (x ∷ xs) h v g =
      let k = h.0 in
      good_on (λ y. Fits k.0 (slot_value y)) (HaveValues (p ∷ ps)) (given (kind_at o p) x)
      (λ y. on_ok (frame_of o ps xs) (λ f. Ok (bound p y ∷ f)))
      (subst (λ j. OnGood (λ y. Fits k.0 (slot_value y)) (given j x)) (sym k.1)
      (given_value k.0 x v.0 (g.0 k.0 k.1)))
      (λ y q. good_on (HaveValues ps) (HaveValues (p ∷ ps)) (frame_of o ps xs)
      (λ f. Ok (bound p y ∷ f)) (values_fit ps xs h.1 v.1 g.1)
      (λ f r. subst (λ ks. AllZip Fits ks (map (λ (b : Binding). slot_value b.slot)
      (bound p y ∷ f))) (sym (kinds_more p k.0 ps k.1)) (q, r)))

  -- INTERACTIONS

  module _ (full : AreFull o) where
    -- a variable has a kind
    variable_kind : (p : ℕ) (e : Entry) → entry_at o p ≡ Some e
        → same_sort sort.Variable e.declared.sort ≡ true → (k : Kind) × (kind_at o p ≡ Some k)
        × (kind_by (Some e) ≡ k ∷ [])
    variable_kind p e i h =
        let m = subst (λ s. HasAll s e) (sym (same_sorts sort.Variable e.declared.sort h))
        (full p e i) in (
          m.0.kind,
          kind_is o p e m.0 i m.1,
          ap (λ (b : Bool). if b then option_to_list (option_map (λ (m : Measured). m.kind) e.kind)
              else []) h ∙ ap (λ x. option_to_list (option_map (λ (m : Measured). m.kind) x)) m.1,
        )

    abbrev places : Region → List ℕ
    places names = filter (λ (p : ℕ). is_sort sort.Variable (entry_at o p))
        (map (λ (n : List ℕ × Standing). n.1.place) names)

    -- variables of a region have the kinds that are declared there
    region_kinds : (names : Region)
        → HaveKinds (places names) × (kinds_in o names ≡ kinds_of (places names))
    region_kinds [] = (tt, refl)
    region_kinds (n ∷ names) = entry (entry_at o n.1.place) refl (region_kinds names)
      where
        one : (e : Entry) (b : Bool) → entry_at o n.1.place ≡ Some e
            → same_sort sort.Variable e.declared.sort ≡ b
            → HaveKinds (places names) × (kinds_in o names ≡ kinds_of (places names))
            → HaveKinds (if b then n.1.place ∷ places names else places names)
            × (kind_by (Some e) ++ kinds_in o names
            ≡ kinds_of (if b then n.1.place ∷ places names else places names))
        one e true i s h = let k = variable_kind n.1.place e i s in (
          ((k.0, k.1), h.0),
          ap (λ ks. ks ++ kinds_in o names) k.2 ∙ ap (λ ks. k.0 ∷ ks) h.1
              ∙ sym (kinds_more n.1.place k.0 (places names) k.1),
        )
        one e false i s h = (
          h.0,
          ap (λ (b : Bool). (if b then option_to_list (option_map
              (λ (m : Measured). m.kind) e.kind) else []) ++ kinds_in o names) s ∙ h.1,
        )

        entry : (x : Option Entry) → entry_at o n.1.place ≡ x
            → HaveKinds (places names) × (kinds_in o names ≡ kinds_of (places names))
            → HaveKinds (places (n ∷ names))
            × (kinds_in o (n ∷ names) ≡ kinds_of (places (n ∷ names)))
        entry None i h =
            subst (λ y. HaveKinds (if is_sort sort.Variable y then n.1.place ∷ places names
            else places names) × (kind_by y ++ kinds_in o names
            ≡ kinds_of (if is_sort sort.Variable y then n.1.place ∷ places names
            else places names))) (sym i) h
        entry (Some e) i h =
            subst (λ y. HaveKinds (if is_sort sort.Variable y then n.1.place ∷ places names
            else places names) × (kind_by y ++ kinds_in o names
            ≡ kinds_of (if is_sort sort.Variable y then n.1.place ∷ places names
            else places names))) (sym i) (one e (same_sort sort.Variable e.declared.sort) i refl h)

    pub variables_have_kinds : (region : ℕ) → HaveKinds (places_of o sort.Variable region)
    variables_have_kinds region = (region_kinds (names_of o region)).0

    pub parameters_bound : (d : ℕ) (vs : List Value) → AllZip Fits (kinds_in o (names_of o d)) vs
        → FrameFits o (bound_all (places_of o sort.Variable d) vs)
    parameters_bound d vs h = let r = region_kinds (names_of o d) in
        bound_fit (places_of o sort.Variable d) vs r.0 (subst (λ ks. AllZip Fits ks vs) r.1 h)

    pub item_values : (d : ℕ) (xs : List Slot) → AreValues xs
        → MayGiveAll o steady (places_of o sort.Variable d) xs
        → OnGood (AllZip Fits (kinds_in o (names_of o d))) (values_of o d xs)
    item_values d xs v g = let r = region_kinds (names_of o d) in
        good_on (HaveValues (places_of o sort.Variable d))
        (AllZip Fits (kinds_in o (names_of o d)))
        (frame_of o (places_of o sort.Variable d) xs)
        (λ f. Ok (map (λ (b : Binding). slot_value b.slot) f))
        (values_fit (places_of o sort.Variable d) xs r.0 v g)
        (λ f q. subst (λ ks. AllZip Fits ks (map (λ (b : Binding). slot_value b.slot) f))
        (sym r.1) q)
