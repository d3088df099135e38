-- Rows and holdings that are changed.
use Rattle.std.proofs.Common.{◌≡◌, refl, sym, ap, ◌∙◌, ℕ, Bool, true, false, cond, List, [], ◌∷◌}
use Rattle.std.proofs.Common.{Option, Some, None, slice_get, slice_set, get_or, length}
use Rattle.std.specs.Prelude.{find, if◌then◌else◌}
use Rattle.std.specs.List.{position}
use Rattle.std.proofs.lemmas.Option.{slice_get_read, slice_get_within}
use Rattle.plain_texts.specs.mean_blocks.declared.situation.Row.{Row}
use Rattle.plain_texts.specs.mean_blocks.GlobalSituation.{first_changed, Situation}
use Rattle.plain_frames.proofs.of_plain_systems.FirstFound.{none_found, first_there, changed_at}

-- a situation with other rows
abbrev pub with_rows : Situation → List Row → Situation
with_rows s rows = record s { rows = rows }

unchanged_arm : {A : Type 0} (change : A → A) (x : A) (xs ys : List A) (o : Option A) (b : Bool)
    → cond b (Some x) o ≡ None → (o ≡ None → ys ≡ xs)
    → (if b then change x ∷ xs else x ∷ ys) ≡ x ∷ xs
unchanged_arm change x xs ys o true h k = absurd (cc)
unchanged_arm change x xs ys o false h k = ap (λ zs. x ∷ zs) (k h)

unchanged : {A : Type 0} (test : A → Bool) (change : A → A) (xs : List A) → find test xs ≡ None
    → first_changed test change xs ≡ xs
unchanged test change [] h = refl
unchanged test change (x ∷ xs) h =
    unchanged_arm change x xs (first_changed test change xs) (find test xs) (test x) h
    (unchanged test change xs)

-- a list in which nothing passes
pub none_changed : {A : Type 0} (test : A → Bool) (change : A → A) (xs : List A)
    → position test xs ≡ None → first_changed test change xs ≡ xs
none_changed test change xs h = unchanged test change xs (none_found test xs h)

-- a list that is read and written at the index of the first thing that passes
pub changed_there : {A : Type 0} (test : A → Bool) (change : A → A) (xs ys : List A) (i : ℕ)
    (x y : A) → ys ≡ xs → position test xs ≡ Some i → x ≡ get_or ys i x → y ≡ change x
    → slice_set ys i y ≡ first_changed test change xs
changed_there test change xs ys i x y e p g h =
    let r = first_there test xs i p in
    let at : slice_get xs i ≡ Some x = slice_get_read xs (length xs) i x refl
    (slice_get_within xs i r.0 r.1) (g ∙ ap (λ l. get_or l i x) e) in
    ap (λ l. slice_set l i y) e ∙ ap (slice_set xs i) h
    ∙ sym (changed_at test change xs i x p at)

-- a change that changes nothing
same_arm : {A : Type 0} (change : A → A) (x : A) (xs ys : List A) (b : Bool) → change x ≡ x
    → ys ≡ xs → (if b then change x ∷ xs else x ∷ ys) ≡ x ∷ xs
same_arm change x xs ys true h k = ap (λ z. z ∷ xs) h
same_arm change x xs ys false h k = ap (λ zs. x ∷ zs) k

pub same_changed : {A : Type 0} (test : A → Bool) (change : A → A) (xs : List A)
    → ((x : A) → change x ≡ x) → first_changed test change xs ≡ xs
same_changed test change [] h = refl
same_changed test change (x ∷ xs) h =
    same_arm change x xs (first_changed test change xs) (test x) (h x)
    (same_changed test change xs h)
