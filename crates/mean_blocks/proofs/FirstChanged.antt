-- A list of which the first thing that passes a test is changed.
use Rattle.std.proofs.Common.{◌≡◌, refl, sym, ap, ◌∙◌, arith, ℕ, nat_eq, Bool, true, false}
use Rattle.std.proofs.Common.{List, [], ◌∷◌, Option, Some, None}
use Rattle.std.specs.Prelude.{find, if◌then◌else◌}
use Rattle.std.specs.Option.{option_map}
use Rattle.std.proofs.lemmas.Bool.Decides.{nat_tests}
use Rattle.std.proofs.lemmas.Option.{same_Some}
use Rattle.est_values.specs.declared.value.Value.{Value}
use Rattle.mean_blocks.specs.declared.frame.Binding.{Binding}
use Rattle.mean_blocks.specs.declared.frame.Slot.{Slot}
use Rattle.mean_blocks.specs.declared.frame.Slot.TheVariants as slot
use Rattle.mean_blocks.specs.declared.situation.Row.{Row}
use Rattle.mean_blocks.specs.GlobalSituation.{Frame, Situation, first_changed, is_numbered}
use Rattle.mean_blocks.specs.GlobalSituation.{row_of, with_row}
use Rattle.mean_blocks.specs.Frames.{is_declared, slot_of, given_value, with_value}
use Rattle.mean_blocks.specs.PlaceWrites.{KeepsNumber}

-- what is found first is the changed thing, where a change passes the test alike
found_arm : {A : Type 0} (test : A → Bool) (change : A → A) (a x : A) (xs others : List A)
    (c : Bool) → test a ≡ c → test (change a) ≡ test a
    → (if c then Some a else find test xs) ≡ Some x
    → (find test xs ≡ Some x → find test others ≡ Some (change x))
    → find test (if c then change a ∷ xs else a ∷ others) ≡ Some (change x)
found_arm test change a x xs others true e s h k =
    ap (λ b. if b then Some (change a) else find test xs) (s ∙ e)
    ∙ ap (λ y. Some (change y)) (same_Some a x h)
found_arm test change a x xs others false e s h k =
    ap (λ b. if b then Some a else find test others) e ∙ k h

pub found_changed : {A : Type 0} (test : A → Bool) (change : A → A) (xs : List A) (x : A)
    → ((a : A) → test (change a) ≡ test a) → find test xs ≡ Some x
    → find test (first_changed test change xs) ≡ Some (change x)
found_changed test change [] x s h = cc
found_changed test change (a ∷ xs) x s h =
    found_arm test change a x xs (first_changed test change xs) (test a) refl (s a) h
    (λ k. found_changed test change xs x s k)

-- what another test finds stays, where nothing passes both
other_arm : {A : Type 0} (other : A → Bool) (change : A → A) (a : A) (xs changed : List A)
    (c : Bool) → (c ≡ true → other a ≡ false) → other (change a) ≡ other a
    → find other changed ≡ find other xs
    → find other (if c then change a ∷ xs else a ∷ changed) ≡ find other (a ∷ xs)
other_arm other change a xs changed true d s h =
    ap (λ b. if b then Some (change a) else find other xs) (s ∙ d refl)
    ∙ sym (ap (λ b. if b then Some a else find other xs) (d refl))
other_arm other change a xs changed false d s h =
    ap (λ o. if other a then Some a else o) h

pub others_found : {A : Type 0} (test other : A → Bool) (change : A → A) (xs : List A)
    → ((a : A) → test a ≡ true → other a ≡ false) → ((a : A) → other (change a) ≡ other a)
    → find other (first_changed test change xs) ≡ find other xs
others_found test other change [] d s = refl
others_found test other change (a ∷ xs) d s =
    other_arm other change a xs (first_changed test change xs) (test a) (d a) (s a)
    (others_found test other change xs d s)

-- FRAMES AND ROWS

apart : (d e p : ℕ) → nat_eq d e ≡ false → nat_eq d p ≡ true → nat_eq e p ≡ false
apart d e p h k = grind (arith, nat_tests, h, k)

-- a slot that is there is that of some name
bound_by : (o : Option Binding) (x : Slot) → option_map (λ (b : Binding). b.slot) o ≡ Some x
    → (b : Binding) × (o ≡ Some b)
bound_by None x h = cc
bound_by (Some b) x h = (b, refl)

pub written_found : (d : ℕ) (v : Value) (f : Frame) (x : Slot) → slot_of d f ≡ Some x
    → slot_of d (with_value d v f) ≡ Some (slot.Value v)
written_found d v f x h =
    let b = bound_by (find (is_declared d) f) x h in
    ap (option_map (λ (y : Binding). y.slot))
    (found_changed (is_declared d) (given_value v) f b.0 (λ y. refl) b.1)

pub names_stay : (d e : ℕ) (v : Value) (f : Frame) → nat_eq d e ≡ false
    → slot_of e (with_value d v f) ≡ slot_of e f
names_stay d e v f h = ap (option_map (λ (y : Binding). y.slot))
    (others_found (is_declared d) (is_declared e) (given_value v) f
    (λ b k. apart d e b.declared h k) (λ b. refl))

pub row_found : (n : ℕ) (change : Row → Row) (s : Situation) (r : Row) → KeepsNumber change
    → row_of s n ≡ Some r → row_of (with_row n change s) n ≡ Some (change r)
row_found n change s r k h =
    found_changed (is_numbered n) change s.rows r (λ q. ap (nat_eq n) (k q)) h

pub rows_stay : (n m : ℕ) (change : Row → Row) (s : Situation) → KeepsNumber change
    → nat_eq n m ≡ false → row_of (with_row n change s) m ≡ row_of s m
rows_stay n m change s k h = others_found (is_numbered n) (is_numbered m) change s.rows
    (λ r e. apart n m r.number h e) (λ r. ap (nat_eq m) (k r))
