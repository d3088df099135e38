-- What a map has under its keys.
use Rattle.std.specs.Prelude.{if◌then◌else◌}
use Rattle.std.specs.Map.{lookup}
use Rattle.std.proofs.Common.{◌≡◌, refl, ap, ℕ, Bool, List, [], ◌∷◌, ◌++◌, map, Some}

-- a look-up among keys that are seen as texts
pub lookup-map : {K X : Type 0} (text : K → List ℕ) (test : List ℕ → Bool) (es : List (K × X))
    → lookup test (map {B = List ℕ × X} (λ e. (text e.0, e.1)) es) ≡ lookup (λ k. test (text k)) es
lookup-map text test [] = refl
lookup-map text test (e ∷ es) = λ i. if test (text e.0) then Some e.1 else lookup-map text test es i

pub map-push : {K X : Type 0} (text : K → List ℕ) (es : List (K × X)) (k : K) (x : X)
    → map {B = List ℕ × X} (λ e. (text e.0, e.1)) (es ++ (k, x) ∷ []) ≡ map {B = List ℕ × X}
    (λ e. (text e.0, e.1)) es ++ (text k, x) ∷ []
map-push text [] k x = refl
map-push text (e ∷ es) k x = ap (λ l. (text e.0, e.1) ∷ l) (map-push text es k x)
