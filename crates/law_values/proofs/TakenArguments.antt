-- What the parameters of an interaction take: each value is taken as one of its kind.
use Rattle.std.proofs.Common.{◌≡◌, refl, sym, ap, subst, ◌∙◌, ℕ, Bool, true, false, List, []}
use Rattle.std.proofs.Common.{◌∷◌, ◌++◌, map, Option, Some, None, Result, Ok, Err}
use Rattle.std.specs.Prelude.{if◌then◌else◌, option_to_list}
use Rattle.std.specs.List.{AllByRecursion, AllZip, filter}
use Rattle.std.specs.Option.{option_map}
use Rattle.est_syntax.specs.declared.expression.Expr.{Expr}
use Rattle.est_syntax.specs.declared.kind.Kind.{Kind, out-Kind}
use Rattle.est_syntax.specs.declared.kind.Kind.TheVariants as kind
use Rattle.est_values.specs.declared.value.Value.{Value, roll-Value}
use Rattle.est_values.specs.declared.value.Value.TheVariants as value
use Rattle.rule_scope.specs.declared.declaration.Entry.{Entry}
use Rattle.rule_scope.specs.declared.declaration.Measured.{Measured}
use Rattle.rule_scope.specs.declared.declaration.Sort.TheVariants as sort
use Rattle.rule_scope.specs.declared.declaration.Standing.{Standing}
use Rattle.rule_scope.specs.Outline.{Outline, Region, names_of, entry_at}
use Rattle.rule_scope.specs.Uses.{same_sort, is_sort}
use Rattle.rule_declares.specs.PortList.{kind_by, kinds_in}
use Rattle.mean_blocks.specs.declared.fault.BlockFault.{BlockFault}
use Rattle.mean_blocks.specs.declared.fault.BlockFault.TheVariants.{Range}
use Rattle.mean_blocks.specs.declared.frame.Binding.{Binding}
use Rattle.mean_blocks.specs.declared.frame.Slot.{Slot}
use Rattle.mean_blocks.specs.declared.frame.Slot.TheVariants as slot
use Rattle.mean_blocks.specs.Outcome.{on_ok}
use Rattle.mean_blocks.specs.GlobalSituation.{Frame}
use Rattle.mean_blocks.specs.TakenValues.{is_within, are_within, taken, undefined_of}
use Rattle.mean_blocks.specs.NamesInRuns.{kind_at, places_of}
use Rattle.mean_blocks.specs.WorkingState.{View}
use Rattle.mean_blocks.specs.FunctionCalls.{given, bound, unset, frame_of}
use Rattle.mean_blocks.specs.ExpressionValues.{value_of, values_in}
use Rattle.mean_blocks.specs.StatementEffects.{slot_value, values_of}
use Rattle.law_runs.proofs.GivenThings.{Gives, OnGood, then_gives}
use Rattle.law_sentences.specs.Full.{IsThere, HasAll, AreFull}
use Rattle.law_sentences.proofs.FullUses.{same_sorts}
use Rattle.law_values.specs.SentInteractions.{Takes}

-- WHAT IS TAKEN

-- what a kind takes or refuses
abbrev Taken : Type 0
Taken = Result Value BlockFault

ok_same : (v w : Value) (r : Taken) → r ≡ Ok v → r ≡ Ok w → v ≡ w
ok_same v w r h g = cc

if_same : (b : Bool) (v w : Value) (r : Taken) → r ≡ (if b then Ok v else Err Range) → r ≡ Ok w
    → v ≡ w
if_same true v w r e h = cc
if_same false v w r e h = cc

-- what is taken of a value is this value
taken_same : (k : Kind) (v w : Value) → taken k v ≡ Ok w → v ≡ w
taken_same k (value.Ordinal z) w h =
    if_same (is_within k z) (value.Ordinal z) w (taken k (value.Ordinal z)) refl h
taken_same k (value.Set zs) w h =
    if_same (are_within (out-Kind k) zs) (value.Set zs) w (taken k (value.Set zs)) refl h
taken_same k v w h = ok_same v w (taken k v) refl h

taken_again : (k : Kind) (v w : Value) → taken k v ≡ Ok w → Takes k w
taken_again k v w h = subst (λ x. taken k x ≡ Ok w) (taken_same k v w h) h

undefined_taken : (k : Kind) → Takes k (undefined_of k)
unfolding roll-Value denote.Hole.Carrier.roll
undefined_taken (kind.ArrayOf' a index b of) = refl
undefined_taken (kind.Fields' a fields) = refl
undefined_taken _ = refl

-- ARGUMENTS

-- a value stands in a slot
abbrev pub IsValue : Slot → Type 0
IsValue (slot.Value v) = Unit {0}
IsValue (slot.Place p) = ⊥
IsValue (slot.Instance n) = ⊥

abbrev pub AreValues : List Slot → Type 0
AreValues xs = AllByRecursion IsValue xs

values_more : (xs : List Slot) (v : Value) → AreValues xs → AreValues (xs ++ slot.Value v ∷ [])
values_more [] v h = (tt, tt)
values_more (x ∷ xs) v h = (h.0, values_more xs v h.1)

pub arguments_are_values : (es : List Expr) (xs : List Slot) (v : View) (l : ℕ) → AreValues xs
    → Gives AreValues (values_in es xs v l)
arguments_are_values [] xs v l h = h
arguments_are_values (e ∷ es) xs v l h = then_gives AreValues (value_of e v l)
    (λ a. values_in es (xs ++ slot.Value a ∷ []) v)
    (λ a m. arguments_are_values es (xs ++ slot.Value a ∷ []) v m (values_more xs a h))

-- PARAMETERS

pub good_on : {A B : Type 0} (Q : A → Type 0) (R : B → Type 0) (r : Result A BlockFault)
    (go : A → Result B BlockFault) → OnGood Q r → ((a : A) → Q a → OnGood R (go a))
    → OnGood R (on_ok r go)
good_on Q R (Ok a) go q h = h a q
good_on Q R (Err f) go q h = tt

-- the values of a frame are taken as those of these kinds
abbrev HaveKinds : List Kind → Frame → Type 0
HaveKinds ks f = AllZip Takes ks (map (λ (b : Binding). slot_value b.slot) f)

given_taken : (k : Kind) (x : Slot) → IsValue x
    → OnGood (λ y. Takes k (slot_value y)) (given (Some k) x)
given_taken k (slot.Value v) h = one (taken k v) refl
  where
    one : (r : Result Value BlockFault) → taken k v ≡ r
        → OnGood (λ y. Takes k (slot_value y)) (on_ok r (λ w. Ok (slot.Value w)))
    one (Ok w) e = taken_again k v w e
    one (Err f) e = tt
given_taken k (slot.Place p) h = absurd h
given_taken k (slot.Instance n) h = absurd h

module _ (o : Outline) (full : AreFull o) where
  -- the parameters at some places take values as those of some kinds, whatever they are given
  abbrev Take : List ℕ → List Kind → Type 0
  Take ps ks = (xs : List Slot) → AreValues xs → OnGood (HaveKinds ks) (frame_of o ps xs)

  one_more : (p : ℕ) (k : Kind) (ps : List ℕ) (ks : List Kind) → kind_at o p ≡ Some k → Take ps ks
      → Take (p ∷ ps) (k ∷ ks)
  one_more p k ps ks e rest [] h =
      good_on (HaveKinds ks) (HaveKinds (k ∷ ks)) (frame_of o ps []) (λ f. Ok (unset o p ∷ f))
      (rest [] tt)
      (λ f g. (
        subst (λ x. Takes k (slot_value (slot.Value (first x)))) (sym e)
            (undefined_taken k),
        g,
      ))
    where
      first : Option Kind → Value
      first None = value.Undefined
      first (Some j) = undefined_of j
  one_more p k ps ks e rest (x ∷ xs) h =
      good_on (λ y. Takes k (slot_value y)) (HaveKinds (k ∷ ks)) (given (kind_at o p) x)
      (λ y. on_ok (frame_of o ps xs) (λ f. Ok (bound p y ∷ f)))
      (subst (λ j. OnGood (λ y. Takes k (slot_value y)) (given j x)) (sym e) (given_taken k x h.0))
      (λ y q. good_on (HaveKinds ks) (HaveKinds (k ∷ ks)) (frame_of o ps xs)
      (λ f. Ok (bound p y ∷ f)) (rest xs h.1) (λ f g. (q, g)))

  -- the place of a variable among others
  abbrev kept : Bool → ℕ → List ℕ → List ℕ
  kept b p ps = if b then p ∷ ps else ps

  kind_is : (p : ℕ) (e : Entry) (m : Measured) → entry_at o p ≡ Some e → e.kind ≡ Some m
      → kind_at o p ≡ Some m.kind
  kind_is p e m i k = ap (λ x. option_map (λ (m : Measured). m.kind) (of x)) i
      ∙ ap (λ x. option_map (λ (m : Measured). m.kind) x) k
    where
      of : Option Entry → Option Measured
      of None = None
      of (Some x) = x.kind

  entry_takes : (p : ℕ) (x : Option Entry) (ps : List ℕ) (ks : List Kind) → entry_at o p ≡ x
      → Take ps ks → Take (kept (is_sort sort.Variable x) p ps) (kind_by x ++ ks)
  entry_takes p None ps ks i rest = rest
  entry_takes p (Some e) ps ks i rest = by (same_sort sort.Variable e.declared.sort) refl
    where
      measured : (m : Option Measured) → e.kind ≡ m → IsThere m
          → Take (p ∷ ps) (option_to_list (option_map (λ (m : Measured). m.kind) m) ++ ks)
      measured None k there = absurd (cc)
      measured (Some m) k there = one_more p m.kind ps ks (kind_is p e m i k) rest

      by : (b : Bool) → same_sort sort.Variable e.declared.sort ≡ b
          → Take (kept b p ps)
          ((if b then option_to_list (option_map (λ (m : Measured). m.kind) e.kind) else []) ++ ks)
      by false h = rest
      by true h = measured e.kind refl (subst (λ s. HasAll s e)
          (sym (same_sorts sort.Variable e.declared.sort h)) (full p e i))

  names_take : (names : Region)
      → Take (filter (λ (p : ℕ). is_sort sort.Variable (entry_at o p))
      (map (λ (n : List ℕ × Standing). n.1.place) names)) (kinds_in o names)
  names_take [] = λ xs h. tt
  names_take (n ∷ names) =
      entry_takes n.1.place (entry_at o n.1.place) _ (kinds_in o names) refl (names_take names)

  -- the values of the parameters of an interaction
  pub arguments_taken : (d : ℕ) (xs : List Slot) → AreValues xs
      → OnGood (AllZip Takes (kinds_in o (names_of o d))) (values_of o d xs)
  arguments_taken d xs h =
      good_on (HaveKinds (kinds_in o (names_of o d)))
      (AllZip Takes (kinds_in o (names_of o d)))
      (frame_of o (places_of o sort.Variable d) xs)
      (λ f. Ok (map (λ (b : Binding). slot_value b.slot) f)) (names_take (names_of o d) xs h)
      (λ f g. g)
