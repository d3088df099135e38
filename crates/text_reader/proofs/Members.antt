-- Lists of tests.
use Rattle.std.proofs.Common.{◌≡◌, Bool, true, false, ◌&&◌, ◌||◌, ◌⊎◌, inl, inr}
use Rattle.std.proofs.Common.{List, [], ◌∷◌, ◌++◌, refl, Option, Some, None}
use Rattle.text_reader.specs.Grammar.{Language, meets}
use Rattle.text_reader.specs.Marks.{MeetsOne, Apart, Within, apart_from}
use Rattle.text_reader.specs.Marks.{disjoint, implies_one, covered}

pub and_left : (a b : Bool) → (a && b) ≡ true → a ≡ true
and_left true b h = refl
and_left false b h = h

pub and_right : (a b : Bool) → (a && b) ≡ true → b ≡ true
and_right true b h = h
and_right false b h = cc

pub either : (a b : Bool) → (a || b) ≡ true → (a ≡ true) ⊎ (b ≡ true)
either true b h = inl h
either false b h = inr h

module _ {Token T : Type 0} (holds : T → Token → Bool) (o : Option Token) where
  pub In-left : (xs ys : List T) → MeetsOne holds o xs → MeetsOne holds o (xs ++ ys)
  In-left [] ys h = elim h [ ]
  In-left (x ∷ xs) ys (inl e) = inl e
  In-left (x ∷ xs) ys (inr h) = inr (In-left xs ys h)

  pub In-right : (xs ys : List T) → MeetsOne holds o ys → MeetsOne holds o (xs ++ ys)
  In-right [] ys h = h
  In-right (x ∷ xs) ys h = inr (In-right xs ys h)

  pub In-split : (xs ys : List T) → MeetsOne holds o (xs ++ ys)
      → MeetsOne holds o xs ⊎ MeetsOne holds o ys
  In-split [] ys h = inr h
  In-split (x ∷ xs) ys (inl e) = inl (inl e)
  In-split (x ∷ xs) ys (inr h) = elim (In-split xs ys h) [ inl q ↦ inl (inr q) | inr q ↦ inr q ]

-- A test of pairs of tests that is right makes the computed relations right.
module _ {Token V T P : Type 0} (L : Language Token V T P) (apart : T → T → Bool)
    (sound : (x y : T) (v : Token) → apart x y ≡ true → L.holds x v ≡ true → L.holds y v ≡ true
    → ⊥) where
  meets_sound : (x y : T) (o : Option Token) → apart x y ≡ true → meets L.holds x o ≡ true
      → meets L.holds y o ≡ true → ⊥
  meets_sound x y None e h w = absurd cc
  meets_sound x y (Some v) e h w = sound x y v e h w

  apart_one : (o : Option Token) (x : T) (ys : List T) → apart_from apart x ys ≡ true
      → meets L.holds x o ≡ true → MeetsOne L.holds o ys → ⊥
  apart_one o x [] e h w = w
  apart_one o x (y ∷ ys) e h (inl w) = meets_sound x y o (and_left _ _ e) h w
  apart_one o x (y ∷ ys) e h (inr w) = apart_one o x ys (and_right _ _ e) h w

  clear_at : (xs ys : List T) → disjoint apart xs ys ≡ true → (o : Option Token)
      → MeetsOne L.holds o xs → MeetsOne L.holds o ys → ⊥
  clear_at [] ys e o h w = h
  clear_at (x ∷ xs) ys e o (inl q) w = apart_one o x ys (and_left _ _ e) q w
  clear_at (x ∷ xs) ys e o (inr h) w = clear_at xs ys (and_right _ _ e) o h w

  pub clear : (xs ys : List T) → disjoint apart xs ys ≡ true → Apart L xs ys
  clear xs ys e = record { none_meets = clear_at xs ys e }

module _ {Token V T P : Type 0} (L : Language Token V T P) (implies : T → T → Bool)
    (sound : (x y : T) (v : Token) → implies x y ≡ true → L.holds x v ≡ true
    → L.holds y v ≡ true) where
  implied_sound : (x y : T) (o : Option Token) → implies x y ≡ true → meets L.holds x o ≡ true
      → meets L.holds y o ≡ true
  implied_sound x y None e h = h
  implied_sound x y (Some v) e h = sound x y v e h

  pub among : (o : Option Token) (x : T) (ys : List T) → implies_one implies x ys ≡ true
      → meets L.holds x o ≡ true → MeetsOne L.holds o ys
  among o x [] e h = cc
  among o x (y ∷ ys) e h = elim (either _ _ e) [
    | inl q ↦ inl (implied_sound x y o q h)
    | inr q ↦ inr (among o x ys q h)
  ]

  pub cover : (xs ys : List T) → covered implies xs ys ≡ true → Within L xs ys
  cover [] ys e o h = elim h [ ]
  cover (x ∷ xs) ys e o (inl q) = among o x ys (and_left _ _ e) q
  cover (x ∷ xs) ys e o (inr h) = cover xs ys (and_right _ _ e) o h
