-- Things that may be there or not.
use Rattle.std.proofs.Common.{◌≡◌, refl, Bool, true, false, Option, Some, None}
use Rattle.std.specs.Prelude.{option_and_then}
use Rattle.std.specs.Option.{option_map, option_map_or}

pub some_is : {A : Type 0} (a b : A) → Some a ≡ Some b → a ≡ b
some_is a b e = cc

pub then_some : {A B : Type 0} (f : A → Option B) (o : Option A) (b : B)
    → option_and_then f o ≡ Some b → (a : A) × (o ≡ Some a) × (f a ≡ Some b)
then_some f None b h = absurd (cc)
then_some f (Some a) b h = (a, refl, h)

pub map_some : {A B : Type 0} (f : A → B) (o : Option A) (b : B) → option_map f o ≡ Some b
    → (a : A) × (o ≡ Some a) × (f a ≡ b)
map_some f None b h = absurd (cc)
map_some f (Some a) b h = (a, refl, cc)

pub or_true : {A : Type 0} (test : A → Bool) (o : Option A) → option_map_or test o false ≡ true
    → (a : A) × (o ≡ Some a) × (test a ≡ true)
or_true test None h = absurd (cc)
or_true test (Some a) h = (a, refl, h)

pub by_option : {X A : Type 0} (P : X → Type 0) (f : A → X) (o : Option A) (d : X)
    → ((a : A) → o ≡ Some a → P (f a)) → P d → P (option_map_or f o d)
by_option P f (Some a) d h k = h a refl
by_option P f None d h k = k
