-- What is found in a list of entries with one more, or with another value.
use Rattle.std.proofs.Common.{◌≡◌, ℕ, Bool, true, false, if◌then◌else◌}
use Rattle.std.proofs.Common.{List, [], ◌∷◌, ◌++◌, refl, sym, subst, ap, ◌∙◌, Option}
use Rattle.std.proofs.Common.{Some, None, nat_eq}
use Rattle.std.proofs.lemmas.Bool.Decides.{Decides-eqb}
use Rattle.std.specs.Map.{lookup, set_value}
use Rattle.std.specs.Option.{option_or, unwrap_or}
use Rattle.indexmap.specs.IndexMap.{insert_entry}
use Rattle.est_syntax.specs.Names.{is_name}
use Rattle.rule_scope.specs.declared.declaration.Standing.{Standing}
use Rattle.rule_scope.specs.Outline.{Region, standing_in}
use Rattle.rule_scope.specs.Declaring.{named_in}

-- numbers that are one, and that are not
pub one_number : (x y : ℕ) → nat_eq x y ≡ true → x ≡ y
one_number x y h = (Decides-eqb x y).0 h

pub two_numbers : (x y : ℕ) → (x ≡ y → ⊥) → nat_eq x y ≡ false
two_numbers x y h = by (nat_eq x y) refl
  where
    by : (b : Bool) → nat_eq x y ≡ b → b ≡ false
    by true e = absurd (h (one_number x y e))
    by false e = refl

pub same_number : (x : ℕ) → nat_eq x x ≡ true
same_number x = (Decides-eqb x x).1 refl

-- a boolean that is tested, with what the test says
pub tested : {A : Type 0} (b : Bool) → (b ≡ true → A) → (b ≡ false → A) → A
tested true f g = f refl
tested false f g = g refl

module _ {X : Type 0} where
  -- the answer of a test that is known
  on_true : (b : Bool) (x y : X) → b ≡ true → (if b then x else y) ≡ x
  on_true true x y e = refl
  on_true false x y e = cc

  on_false : (b : Bool) (x y : X) → b ≡ false → (if b then x else y) ≡ y
  on_false true x y e = cc
  on_false false x y e = refl

module _ {X : Type 0} (place : ℕ) (v : X) where
  pub inserted_here : (xs : List (ℕ × X))
      → lookup (nat_eq place) (insert_entry nat_eq xs place v) ≡ Some v
  inserted_here [] = on_true (nat_eq place place) (Some v) None (same_number place)
  inserted_here (x ∷ xs) = by (nat_eq place x.0) refl (inserted_here xs)
    where
      by : (b : Bool) → nat_eq place x.0 ≡ b
          → lookup (nat_eq place) (insert_entry nat_eq xs place v) ≡ Some v
          → lookup (nat_eq place) (if b then (x.0, v) ∷ xs else x ∷ insert_entry nat_eq xs place v)
          ≡ Some v
      by true e h = on_true (nat_eq place x.0) (Some v) (lookup (nat_eq place) xs) e
      by false e h = on_false (nat_eq place x.0) (Some x.1)
          (lookup (nat_eq place) (insert_entry nat_eq xs place v)) e ∙ h

  pub inserted_apart : (q : ℕ) (xs : List (ℕ × X)) → nat_eq q place ≡ false
      → lookup (nat_eq q) (insert_entry nat_eq xs place v) ≡ lookup (nat_eq q) xs
  inserted_apart q [] h = on_false (nat_eq q place) (Some v) None h
  inserted_apart q (x ∷ xs) h = by (nat_eq place x.0) refl (inserted_apart q xs h)
    where
      by : (b : Bool) → nat_eq place x.0 ≡ b
          → lookup (nat_eq q) (insert_entry nat_eq xs place v) ≡ lookup (nat_eq q) xs
          → lookup (nat_eq q) (if b then (x.0, v) ∷ xs else x ∷ insert_entry nat_eq xs place v)
          ≡ lookup (nat_eq q) (x ∷ xs)
      by true e k =
          let n : nat_eq q x.0 ≡ false =
          subst (λ y. nat_eq q y ≡ false) (one_number place x.0 e) h in
          on_false (nat_eq q x.0) (Some v) (lookup (nat_eq q) xs) n
          ∙ sym (on_false (nat_eq q x.0) (Some x.1) (lookup (nat_eq q) xs) n)
      by false e k = ap (λ r. if nat_eq q x.0 then Some x.1 else r) k

  pub set_here : (xs : List (ℕ × X)) (w : X) → lookup (nat_eq place) xs ≡ Some w
      → lookup (nat_eq place) (set_value (nat_eq place) xs v) ≡ Some v
  set_here [] w h = cc
  set_here (x ∷ xs) w h = by (nat_eq place x.0) refl h (set_here xs w)
    where
      by : (b : Bool) → nat_eq place x.0 ≡ b
          → (if b then Some x.1 else lookup (nat_eq place) xs) ≡ Some w
          → (lookup (nat_eq place) xs ≡ Some w
          → lookup (nat_eq place) (set_value (nat_eq place) xs v) ≡ Some v)
          → lookup (nat_eq place)
          (if b then (x.0, v) ∷ xs else x ∷ set_value (nat_eq place) xs v) ≡ Some v
      by true e k rest = on_true (nat_eq place x.0) (Some v) (lookup (nat_eq place) xs) e
      by false e k rest = on_false (nat_eq place x.0) (Some x.1)
          (lookup (nat_eq place) (set_value (nat_eq place) xs v)) e ∙ rest k

  pub set_apart : (q : ℕ) (xs : List (ℕ × X)) → nat_eq q place ≡ false
      → lookup (nat_eq q) (set_value (nat_eq place) xs v) ≡ lookup (nat_eq q) xs
  set_apart q [] h = refl
  set_apart q (x ∷ xs) h = by (nat_eq place x.0) refl (set_apart q xs h)
    where
      by : (b : Bool) → nat_eq place x.0 ≡ b
          → lookup (nat_eq q) (set_value (nat_eq place) xs v) ≡ lookup (nat_eq q) xs
          → lookup (nat_eq q) (if b then (x.0, v) ∷ xs else x ∷ set_value (nat_eq place) xs v)
          ≡ lookup (nat_eq q) (x ∷ xs)
      by true e k =
          let n : nat_eq q x.0 ≡ false =
          subst (λ y. nat_eq q y ≡ false) (one_number place x.0 e) h in
          on_false (nat_eq q x.0) (Some v) (lookup (nat_eq q) xs) n
          ∙ sym (on_false (nat_eq q x.0) (Some x.1) (lookup (nat_eq q) xs) n)
      by false e k = ap (λ r. if nat_eq q x.0 then Some x.1 else r) k

-- an option, or else nothing
or_nothing : {X : Type 0} (r : Option X) → option_or r None ≡ r
or_nothing None = refl
or_nothing (Some r) = refl

-- one entry more, at the end
module _ {K X : Type 0} (test : K → Bool) where
  pub pushed : (xs : List (K × X)) (k : K) (v : X)
      → lookup test (xs ++ (k, v) ∷ [])
      ≡ option_or (lookup test xs) (if test k then Some v else None)
  pushed [] k v = refl
  pushed (x ∷ xs) k v = by (test x.0) (pushed xs k v)
    where
      by : (b : Bool) → lookup test (xs ++ (k, v) ∷ [])
          ≡ option_or (lookup test xs) (if test k then Some v else None)
          → (if b then Some x.1 else lookup test (xs ++ (k, v) ∷ []))
          ≡ option_or (if b then Some x.1 else lookup test xs) (if test k then Some v else None)
      by true h = refl
      by false h = h

-- the regions with one name more
module _ (rs : List (ℕ × Region)) (region : ℕ) (name : List ℕ) (s : Standing) where
  -- another region
  other_region : (q : ℕ) (x : Option Region) → nat_eq q region ≡ false
      → lookup (nat_eq q) (named_in x rs region name s) ≡ lookup (nat_eq q) rs
  other_region q None h =
      pushed (nat_eq q) rs region ((name, s) ∷ [])
      ∙ ap (λ r. option_or (lookup (nat_eq q) rs) r)
      (on_false (nat_eq q region) (Some ((name, s) ∷ [])) None h)
      ∙ or_nothing (lookup (nat_eq q) rs)
  other_region q (Some names) h = set_apart region (names ++ (name, s) ∷ []) q rs h

  -- its own region
  own_region : (x : Option Region) → lookup (nat_eq region) rs ≡ x
      → lookup (nat_eq region) (named_in x rs region name s)
      ≡ Some (unwrap_or x [] ++ (name, s) ∷ [])
  own_region None e =
      pushed (nat_eq region) rs region ((name, s) ∷ [])
      ∙ ap (λ r. option_or r (if nat_eq region region then Some ((name, s) ∷ []) else None)) e
      ∙ on_true (nat_eq region region) (Some ((name, s) ∷ [])) None (same_number region)
  own_region (Some names) e = set_here region (names ++ (name, s) ∷ []) rs names e

  -- where a name stands then
  last_name : (n : List ℕ) (x : Option Region)
      → standing_in (Some (unwrap_or x [] ++ (name, s) ∷ [])) n
      ≡ option_or (standing_in x n) (if is_name n name then Some s else None)
  last_name n None = refl
  last_name n (Some names) = pushed (is_name n) names name s

  -- where a name stands, it is where it stood, or the new place
  pub one_more : (q : ℕ) (n : List ℕ)
      → standing_in (lookup (nat_eq q) (named_in (lookup (nat_eq region) rs) rs region name s)) n
      ≡ option_or (standing_in (lookup (nat_eq q) rs) n)
      (if nat_eq q region then (if is_name n name then Some s else None) else None)
  one_more q n = by (nat_eq q region) refl
    where
      here : standing_in
          (lookup (nat_eq region) (named_in (lookup (nat_eq region) rs) rs region name s)) n
          ≡ option_or (standing_in (lookup (nat_eq region) rs) n)
          (if is_name n name then Some s else None)
      here = ap (λ r. standing_in r n) (own_region (lookup (nat_eq region) rs) refl)
          ∙ last_name n (lookup (nat_eq region) rs)

      by : (b : Bool) → nat_eq q region ≡ b
          → standing_in
          (lookup (nat_eq q) (named_in (lookup (nat_eq region) rs) rs region name s)) n
          ≡ option_or (standing_in (lookup (nat_eq q) rs) n)
          (if b then (if is_name n name then Some s else None) else None)
      by true e = subst (λ z. standing_in
          (lookup (nat_eq z) (named_in (lookup (nat_eq region) rs) rs region name s)) n
          ≡ option_or (standing_in (lookup (nat_eq z) rs) n)
          (if is_name n name then Some s else None)) (sym (one_number q region e)) here
      by false e = ap (λ r. standing_in r n) (other_region q (lookup (nat_eq region) rs) e)
          ∙ sym (or_nothing (standing_in (lookup (nat_eq q) rs) n))
