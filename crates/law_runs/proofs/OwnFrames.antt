-- Frames of `all`s, each of which names children of the instance that executes it.
use Rattle.std.proofs.Common.{◌≡◌, refl, sym, ap, subst, ◌∙◌, arith, ℕ, zero, suc, ◌+◌, ◌<◌}
use Rattle.std.proofs.Common.{nat_eq, Bool, true, false, List, [], ◌∷◌, ◌++◌, Option, Some, None}
use Rattle.std.proofs.Common.{inl, inr, length, is_some}
use Rattle.std.proofs.Math.Seq.{take-append_seam}
use Rattle.std.proofs.lemmas.Bool.{eqb-true, eq-eqb}
use Rattle.std.proofs.lemmas.List.{length-append}
use Rattle.std.proofs.lemmas.Option.{same_Some, none-some}
use Rattle.std.specs.Prelude.{if◌then◌else◌, ◌⊎◌, ◌-◌, slice_set, take}
use Rattle.std.specs.Option.{option_map, option_or}
use Rattle.est_syntax.specs.declared.specification.Spec.{Spec}
use Rattle.est_values.specs.declared.value.Value.{Value}
use Rattle.mean_blocks.specs.declared.frame.Binding.{Binding}
use Rattle.mean_blocks.specs.declared.frame.Slot.{Slot}
use Rattle.mean_blocks.specs.declared.frame.Slot.TheVariants as slot
use Rattle.mean_blocks.specs.GlobalSituation.{Frame}
use Rattle.mean_blocks.specs.Frames.{is_declared, slot_of, with_value, given_value, frame_at}
use Rattle.mean_blocks.specs.Frames.{innermost, numbered, found_in, found}
use Rattle.mean_blocks.specs.ReachedVariables.{instance_by}
use Rattle.mean_blocks.specs.FunctionCalls.{bound}
use Rattle.mean_blocks.specs.LoopEffects.{naming}
use Rattle.law_runs.specs.UpkeepLaws.{IsPlain}
use Rattle.law_runs.proofs.Executions.{Stack, Bottom, BlockFrame, AllFrame, Execution}
use Rattle.law_runs.proofs.Executions.{within_block, within_all, of_child, alone}
use Rattle.law_runs.proofs.FittingFrames.{OnSlot, OnFrame, OnFrames, OnFound, OnNumber}
use Rattle.law_runs.proofs.FittingFrames.{plain_frame}
use Rattle.law_runs.proofs.FittingFrames.{altered_frames, slot_fits, named_fits, weaker_frames}
use Rattle.law_runs.proofs.ParentsOlder.{changed_all}
use Rattle.law_runs.specs.InsideTargets.{IsPlaceOf, IsInside}
use Rattle.law_runs.specs.NamesOfAlls.{IsOfAll}

true_false : true ≡ false → ⊥
true_false h = cc

-- WHAT FRAMES NAME

-- no instance
abbrev pub NoInstance : ℕ → Type 0
NoInstance i = ⊥

-- one that is younger than an instance
abbrev pub Younger : ℕ → ℕ → Type 0
Younger n i = n < i

-- A frame of an `all` that an instance executes has its name alone. If that stands for an instance,
-- then for a younger one, as a child is.
pub record IsAllFrame (p n : ℕ) (f : Frame) : Type 0 where
  pub binding : Binding
  pub only : f ≡ binding ∷ []
  pub declared : binding.declared ≡ p
  pub younger : OnSlot (Younger n) binding.slot

-- frames are those of a stack
abbrev pub Matches : Stack → List Frame → Type 0
Matches Bottom fs = OnFrames NoInstance fs
Matches (BlockFrame e) fs = (gs : List Frame) × (f : Frame) × (fs ≡ gs ++ f ∷ [])
    × OnFrame NoInstance f × Matches e gs
Matches (AllFrame p n e) fs = (gs : List Frame) × (f : Frame) × (fs ≡ gs ++ f ∷ [])
    × IsAllFrame p n f × Matches e gs

pub opened_block : (e : Stack) (fs : List Frame) (f : Frame) → IsPlain f → Matches e fs
    → Matches (BlockFrame e) (fs ++ f ∷ [])
opened_block e fs f h m = (fs, f, refl, plain_frame NoInstance f h, m)

pub opened_all : (e : Stack) (fs : List Frame) (p n : ℕ) (x : Slot) → OnSlot (Younger n) x
    → Matches e fs → Matches (AllFrame p n e) (fs ++ naming p x ∷ [])
opened_all e fs p n x h m = (
  fs,
  naming p x,
  refl,
  record { binding = bound p x; only = refl; declared = refl; younger = h },
  m,
)

-- the innermost frame is closed
all_but_last : (fs gs : List Frame) (f : Frame) → fs ≡ gs ++ f ∷ []
    → take (length fs - 1) fs ≡ gs
all_but_last fs gs f e =
    let hs = gs ++ f ∷ [] in
    let z : length hs ≡ length gs + 1 = length-append gs (f ∷ []) in
    let k : length hs - 1 ≡ length gs = omega (arith, z) in
    ap (λ (xs : List Frame). take (length xs - 1) xs) e
    ∙ (ap (λ m. take m hs) k ∙ take-append_seam gs (f ∷ []))

pub closed_block : (e : Stack) (fs : List Frame) → Matches (BlockFrame e) fs
    → Matches e (take (length fs - 1) fs)
closed_block e fs h = subst (Matches e) (sym (all_but_last fs h.0 h.1 h.2)) h.4

pub closed_all : (e : Stack) (p n : ℕ) (fs : List Frame) → Matches (AllFrame p n e) fs
    → Matches e (take (length fs - 1) fs)
closed_all e p n fs h = subst (Matches e) (sym (all_but_last fs h.0 h.1 h.2)) h.4

-- A VALUE IS WRITTEN

altered_all : (p n d : ℕ) (v : Value) (f : Frame) → IsAllFrame p n f
    → IsAllFrame p n (with_value d v f)
altered_all p n d v f h = subst (λ g. IsAllFrame p n (with_value d v g)) (sym h.only)
    (one (is_declared d h.binding))
  where
    one : (c : Bool) → IsAllFrame p n
        (if c then given_value v h.binding ∷ [] else h.binding ∷ [])
    one true = record {
      binding = given_value v h.binding;
      only = refl;
      declared = h.declared;
      younger = tt;
    }
    one false = record {
      binding = h.binding;
      only = refl;
      declared = h.declared;
      younger = h.younger;
    }

altered_plain : (d : ℕ) (v : Value) (f : Frame) → OnFrame NoInstance f
    → OnFrame NoInstance (with_value d v f)
altered_plain d v f h = changed_all (λ (b : Binding). OnSlot NoInstance b.slot) (is_declared d)
    (given_value v) (λ b e g. tt) f h

-- a frame is changed
abbrev altered : ℕ → ℕ → Value → List Frame → List Frame
altered k d v fs = slice_set fs k (with_value d v (frame_at fs k))

-- it is one of those around the innermost one, or that itself, or none
altered_end : (k d : ℕ) (v : Value) (gs : List Frame) (f : Frame)
    → (altered k d v (gs ++ f ∷ []) ≡ altered k d v gs ++ f ∷ [])
    ⊎ (altered k d v (gs ++ f ∷ []) ≡ gs ++ with_value d v f ∷ [])
altered_end zero d v [] f = inr refl
altered_end (suc k) d v [] f = inl refl
altered_end zero d v (g ∷ gs) f = inl refl
altered_end (suc k) d v (g ∷ gs) f = one (altered_end k d v gs f)
  where
    one : (altered k d v (gs ++ f ∷ []) ≡ altered k d v gs ++ f ∷ [])
        ⊎ (altered k d v (gs ++ f ∷ []) ≡ gs ++ with_value d v f ∷ [])
        → (g ∷ altered k d v (gs ++ f ∷ []) ≡ g ∷ altered k d v gs ++ f ∷ [])
        ⊎ (g ∷ altered k d v (gs ++ f ∷ []) ≡ g ∷ gs ++ with_value d v f ∷ [])
    one (inl e) = inl (ap (λ hs. g ∷ hs) e)
    one (inr e) = inr (ap (λ hs. g ∷ hs) e)

pub altered_matches : (e : Stack) (fs : List Frame) (k d : ℕ) (v : Value) → Matches e fs
    → Matches e (altered k d v fs)
altered_matches Bottom fs k d v h = altered_frames NoInstance fs k d v h
altered_matches (BlockFrame e) fs k d v h =
    one (altered_end k d v h.0 h.1) (altered_matches e h.0 k d v h.4)
  where
    one : (altered k d v (h.0 ++ h.1 ∷ []) ≡ altered k d v h.0 ++ h.1 ∷ [])
        ⊎ (altered k d v (h.0 ++ h.1 ∷ []) ≡ h.0 ++ with_value d v h.1 ∷ [])
        → Matches e (altered k d v h.0) → Matches (BlockFrame e) (altered k d v fs)
    one (inl z) m = (altered k d v h.0, h.1, ap (altered k d v) h.2 ∙ z, h.3, m)
    one (inr z) m = (
      h.0,
      with_value d v h.1,
      ap (altered k d v) h.2 ∙ z,
      altered_plain d v h.1 h.3,
      h.4,
    )
altered_matches (AllFrame p n e) fs k d v h =
    one (altered_end k d v h.0 h.1) (altered_matches e h.0 k d v h.4)
  where
    one : (altered k d v (h.0 ++ h.1 ∷ []) ≡ altered k d v h.0 ++ h.1 ∷ [])
        ⊎ (altered k d v (h.0 ++ h.1 ∷ []) ≡ h.0 ++ with_value d v h.1 ∷ [])
        → Matches e (altered k d v h.0) → Matches (AllFrame p n e) (altered k d v fs)
    one (inl z) m = (altered k d v h.0, h.1, ap (altered k d v) h.2 ∙ z, h.3, m)
    one (inr z) m = (
      h.0,
      with_value d v h.1,
      ap (altered k d v) h.2 ∙ z,
      altered_all p n d v h.1 h.3,
      h.4,
    )

-- WHAT IS FOUND

-- the innermost frame has a name
innermost_here : (d n : ℕ) (gs : List Frame) (f : Frame) → is_some (slot_of d f) ≡ true
    → innermost d n (gs ++ f ∷ []) ≡ Some (n + length gs)
innermost_here d n [] f e = let k : n ≡ n + 0 = omega arith in
    ap (λ b. if b then Some n else None) e ∙ ap Some k
innermost_here d n (g ∷ gs) f e =
    let k : n + 1 + length gs ≡ n + suc (length gs) = omega arith in
    ap (λ m. option_or m (if is_some (slot_of d g) then Some n else None))
    (innermost_here d (n + 1) gs f e) ∙ ap Some k

-- it has not
innermost_past : (d n : ℕ) (gs : List Frame) (f : Frame) → is_some (slot_of d f) ≡ false
    → innermost d n (gs ++ f ∷ []) ≡ innermost d n gs
innermost_past d n [] f e = ap (λ b. if b then Some n else None) e
innermost_past d n (g ∷ gs) f e =
    ap (λ m. option_or m (if is_some (slot_of d g) then Some n else None))
    (innermost_past d (n + 1) gs f e)

last_frame : (gs : List Frame) (f : Frame) → frame_at (gs ++ f ∷ []) (length gs) ≡ f
last_frame [] f = refl
last_frame (g ∷ gs) f = last_frame gs f

found_here : (d : ℕ) (gs : List Frame) (f : Frame) (x : Slot) → slot_of d f ≡ Some x
    → found d (gs ++ f ∷ []) ≡ Some (length gs, x)
found_here d gs f x e =
    let fs = gs ++ f ∷ [] in
    let z : 0 + length gs ≡ length gs = omega arith in
    ap (found_in d fs) (innermost_here d 0 gs f (ap is_some e) ∙ ap Some z)
    ∙ ap (numbered (length gs)) (ap (slot_of d) (last_frame gs f) ∙ e)

same_slot : (d k : ℕ) (gs : List Frame) (f : Frame) → slot_of d f ≡ None
    → slot_of d (frame_at (gs ++ f ∷ []) k) ≡ slot_of d (frame_at gs k)
same_slot d zero [] f e = e
same_slot d (suc k) [] f e = refl
same_slot d zero (g ∷ gs) f e = refl
same_slot d (suc k) (g ∷ gs) f e = same_slot d k gs f e

found_past : (d : ℕ) (gs : List Frame) (f : Frame) → slot_of d f ≡ None
    → found d (gs ++ f ∷ []) ≡ found d gs
found_past d gs f e = ap (found_in d (gs ++ f ∷ [])) (innermost_past d 0 gs f (ap is_some e))
    ∙ one (innermost d 0 gs)
  where
    one : (m : Option ℕ) → found_in d (gs ++ f ∷ []) m ≡ found_in d gs m
    one None = refl
    one (Some k) = ap (numbered k) (same_slot d k gs f e)

-- WHAT AN INSTANCE SEES

-- a name is that of no `all` of these frames
abbrev pub Apart : ℕ → Stack → Type 0
Apart p Bottom = Unit {0}
Apart p (BlockFrame e) = Apart p e
Apart p (AllFrame q m e) = (p ≡ q → ⊥) × Apart p e

-- the innermost `all` with a name, if there is one, is executed by an instance
abbrev pub Sees : ℕ → ℕ → Stack → Type 0
Sees n p Bottom = Unit {0}
Sees n p (BlockFrame e) = Sees n p e
Sees n p (AllFrame q m e) = (p ≡ q → m ≡ n) × ((p ≡ q → ⊥) → Sees n p e)

apart_sees : (n p : ℕ) (e : Stack) → Apart p e → Sees n p e
apart_sees n p Bottom h = tt
apart_sees n p (BlockFrame e) h = apart_sees n p e h
apart_sees n p (AllFrame q m e) h = ((λ z. absurd (h.0 z)), λ z. apart_sees n p e h.1)

-- what a name stands for that is found
slot_younger : (n k : ℕ) (x : Slot) (other : Option ℕ) → OnSlot (Younger n) x
    → OnNumber (Younger n) other → OnNumber (Younger n) (instance_by (Some (k, x)) other)
slot_younger n k (slot.Value v) other h g = g
slot_younger n k (slot.Place p) other h g = g
slot_younger n k (slot.Instance i) other h g = h

-- in a frame that may have the name, and else in those around it
past_or_here : (n d : ℕ) (gs : List Frame) (f : Frame) (other : Option ℕ)
    → ((x : Slot) → slot_of d f ≡ Some x → OnSlot (Younger n) x)
    → (slot_of d f ≡ None → OnNumber (Younger n) (instance_by (found d gs) other))
    → OnNumber (Younger n) other
    → OnNumber (Younger n) (instance_by (found d (gs ++ f ∷ [])) other)
past_or_here n d gs f other here past g = one (slot_of d f) refl
  where
    one : (o : Option Slot) → slot_of d f ≡ o
        → OnNumber (Younger n) (instance_by (found d (gs ++ f ∷ [])) other)
    one None e = subst (λ x. OnNumber (Younger n) (instance_by x other))
        (sym (found_past d gs f e)) (past e)
    one (Some x) e = subst (λ y. OnNumber (Younger n) (instance_by y other))
        (sym (found_here d gs f x e)) (slot_younger n (length gs) x other (here x e) g)

weaker_slot : (n : ℕ) (x : Slot) → OnSlot NoInstance x → OnSlot (Younger n) x
weaker_slot n (slot.Value v) h = tt
weaker_slot n (slot.Place p) h = tt
weaker_slot n (slot.Instance i) h = absurd h

-- what the one name of a frame stands for
only_slot : (d : ℕ) (b : Binding) (x : Slot) → slot_of d (b ∷ []) ≡ Some x
    → (d ≡ b.declared) × (b.slot ≡ x)
only_slot d b x e = one (nat_eq d b.declared) refl e
  where
    one : (c : Bool) → nat_eq d b.declared ≡ c
        → option_map (λ (y : Binding). y.slot) (if c then Some b else None) ≡ Some x
        → (d ≡ b.declared) × (b.slot ≡ x)
    one true z e = (eqb-true d b.declared z, same_Some b.slot x e)
    one false z e = absurd (none-some x e)

only_none : (d : ℕ) (b : Binding) → slot_of d (b ∷ []) ≡ None → d ≡ b.declared → ⊥
only_none d b e z = one (nat_eq d b.declared) (eq-eqb d b.declared z) e
  where
    one : (c : Bool) → c ≡ true
        → option_map (λ (y : Binding). y.slot) (if c then Some b else None) ≡ None → ⊥
    one true k e = none-some b.slot (sym e)
    one false k e = true_false (sym k)

-- An instance that a name stands for is younger than the one that sees it, or it is what the name
-- stands for elsewhere.
pub found_younger : (e : Stack) (fs : List Frame) (n d : ℕ) (other : Option ℕ) → Matches e fs
    → Sees n d e → OnNumber (Younger n) other
    → OnNumber (Younger n) (instance_by (found d fs) other)
found_younger Bottom fs n d other h s g =
    named_fits (Younger n) fs d (innermost d 0 fs) other
    (weaker_frames NoInstance (Younger n) (λ i a. absurd a) fs h) g
found_younger (BlockFrame e) fs n d other h s g =
    subst (λ hs. OnNumber (Younger n) (instance_by (found d hs) other)) (sym h.2)
    (past_or_here n d h.0 h.1 other
    (λ x k. weaker_slot n x (subst (OnFound NoInstance) k (slot_fits NoInstance d h.1 h.3)))
    (λ k. found_younger e h.0 n d other h.4 s g) g)
found_younger (AllFrame q m e) fs n d other h s g =
    subst (λ hs. OnNumber (Younger n) (instance_by (found d hs) other)) (sym h.2)
    (past_or_here n d h.0 h.1 other
    (λ x k. here x (only_slot d h.3.binding x (sym (ap (slot_of d) h.3.only) ∙ k)))
    (λ k. found_younger e h.0 n d other h.4
    (s.1 (λ z. only_none d h.3.binding (sym (ap (slot_of d) h.3.only) ∙ k)
    (z ∙ sym h.3.declared))) g) g)
  where
    here : (x : Slot) → (d ≡ h.3.binding.declared) × (h.3.binding.slot ≡ x) → OnSlot (Younger n) x
    here x k = subst (λ i. OnSlot (Younger i) x) (s.0 (k.0 ∙ h.3.declared))
        (subst (OnSlot (Younger m)) k.1 h.3.younger)

-- AROUND STATEMENTS

-- Around the statements of an instance stand `all`s with these names, which it executes itself;
-- frames are those of `all`s.
pub record StandsAround (x : Spec) (w : List ℕ) (n : Execution) : Type 0 where
  pub apart : (p : ℕ) → (IsOfAll x p → ⊥) → Apart p n.stack
  pub own : (p : ℕ) → IsPlaceOf w p → Sees n.instance p n.stack

pub around_none : (x : Spec) (n : ℕ) → StandsAround x [] (alone n)
around_none x n = record { apart = λ p h. tt; own = λ p h. absurd h }

pub around_block : (x : Spec) (w : List ℕ) (n : Execution) → StandsAround x w n
    → StandsAround x [] (within_block n)
around_block x w n h = record { apart = λ p g. h.apart p g; own = λ p g. absurd g }

pub around_part : (x : Spec) (w : List ℕ) (n : Execution) (i : ℕ) → StandsAround x w n
    → StandsAround x [] (within_block (of_child i n))
around_part x w n i h = record { apart = λ p g. h.apart p g; own = λ p g. absurd g }

pub around_all : (x : Spec) (w : List ℕ) (n : Execution) (q : ℕ) → IsOfAll x q
    → StandsAround x w n → StandsAround x (q ∷ w) (within_all q n)
around_all x w n q e h = record {
  apart = λ p g. ((λ z. g (subst (IsOfAll x) (sym z) e)), h.apart p g);
  own = λ p g. one p g;
}
  where
    one : (p : ℕ) → (q ≡ p) ⊎ IsPlaceOf w p → Sees n.instance p (AllFrame q n.instance n.stack)
    one p (inl z) = ((λ k. refl), λ k. absurd (k (sym z)))
    one p (inr i) = ((λ k. refl), λ k. h.own p i)

-- the name of a child to which an `attach` leads
pub sees_inside : (x : Spec) (w : List ℕ) (n : Execution) (p : ℕ) → StandsAround x w n
    → IsInside x w p → Sees n.instance p n.stack
sees_inside x w n p h (inl i) = h.own p i
sees_inside x w n p h (inr g) = apart_sees n.instance p n.stack (h.apart p g)
