-- The numbers of interaction points by their names.
use Rattle.std.proofs.Common.{◌≡◌, ℕ, zero, suc, Bool, true, false, if◌then◌else◌, List, []}
use Rattle.std.proofs.Common.{◌∷◌, map, refl, sym, ap, ◌∙◌, Option, Some, None, slice_get, is_some}
use Rattle.std.proofs.Common.{get_or, Vec, Global, position}
use Rattle.std.specs.Map.{lookup}
use Rattle.std.proofs.lemmas.List.Quantifiers.{position-Some}
use Rattle.std.proofs.lemmas.Option.{same_Some, slice_get-get_or}
use Rattle.std.proofs.lemmas.Slice.Eq.{bytes_eq-Decides}
use Rattle.est_syntax.specs.Names.{is_name}
use Rattle.rule_ports.specs.declared.table.Elements.{Elements}
use Rattle.rule_ports.specs.PortTable.{IsNumberOf}

abbrev Key : Type 0
Key = Vec ℕ Global

abbrev pub seen : Key × Elements → List ℕ × Elements
seen e = (e.0.items, e.1)

-- where a test first passes, it passes
first_passes : {A : Type 0} (p : A → Bool) (xs : List A) (i : ℕ) → position p xs ≡ Some i
    → (x : A) × (slice_get xs i ≡ Some x) × (p x ≡ true)
first_passes p [] i e = cc
first_passes p (y ∷ ys) i e = let q = position-Some p (y ∷ ys) i y e
    in (get_or (y ∷ ys) i y, slice_get-get_or (y ∷ ys) i y q.0, q.1)

-- an item of a mapped list
unmapped : {A B : Type 0} (f : A → B) (xs : List A) (i : ℕ) (y : B)
    → slice_get (map f xs) i ≡ Some y → (x : A) × (slice_get xs i ≡ Some x) × (f x ≡ y)
unmapped f [] i y e = cc
unmapped f (x ∷ xs) zero y e = (x, refl, same_Some (f x) y e)
unmapped f (x ∷ xs) (suc i) y e = unmapped f xs i y e

mapped : {A B : Type 0} (f : A → B) (xs : List A) (i : ℕ) (x : A) → slice_get xs i ≡ Some x
    → slice_get (map f xs) i ≡ Some (f x)
mapped f [] i x e = cc
mapped f (y ∷ ys) zero x e = ap (λ z. Some (f z)) (same_Some y x e)
mapped f (y ∷ ys) (suc i) x e = mapped f ys i x e

none_there : (name : List ℕ) (es : List (Key × Elements)) (g : ℕ) (x : Elements)
    → is_some (lookup (λ (k : Key). is_name name k.items) es) ≡ false
    → slice_get (map {B = List ℕ × Elements} seen es) g ≡ Some (name, x) → ⊥
none_there name [] g x n e = cc
none_there name (y ∷ ys) zero x n e =
    let s = same_Some (seen y) (name, x) e in
    let t : is_name name y.0.items ≡ true = (bytes_eq-Decides name y.0.items).1
    (ap (λ (p : List ℕ × Elements). p.0) (sym s)) in
    by (is_name name y.0.items) t n
  where
    by : (b : Bool) → b ≡ true
        → is_some (if b then Some y.1 else lookup (λ (k : Key). is_name name k.items) ys) ≡ false
        → ⊥
    by true t n = cc
    by false t n = cc
none_there name (y ∷ ys) (suc g) x n e =
    by (is_name name y.0.items) n (λ m. none_there name ys g x m e)
  where
    by : (b : Bool)
        → is_some (if b then Some y.1 else lookup (λ (k : Key). is_name name k.items) ys) ≡ false
        → (is_some (lookup (λ (k : Key). is_name name k.items) ys) ≡ false → ⊥) → ⊥
    by true n rest = cc
    by false n rest = rest n

pub number_found : (es : List (Key × Elements)) (name : List ℕ) (r : Option ℕ)
    → r ≡ position (λ (k : Key). is_name name k.items) (map (λ (e : Key × Elements). e.0) es)
    → is_some r ≡ is_some (lookup (λ (k : Key). is_name name k.items) es)
    → IsNumberOf name (map seen es) r
number_found es name (Some g) e h =
    let keys = map (λ (x : Key × Elements). x.0) es in
    let p = first_passes (λ (k : Key). is_name name k.items) keys g (sym e) in
    let q = unmapped (λ (x : Key × Elements). x.0) es g p.0 p.1 in
    let s : name ≡ p.0.items = (bytes_eq-Decides name p.0.items).0 p.2 in
    let t : q.0.0.items ≡ name = ap (λ (k : Key). k.items) q.2 ∙ sym s in
    (q.0.1, mapped seen es g q.0 q.1 ∙ ap (λ n. Some (n, q.0.1)) t)
number_found es name None e h = λ g x q. none_there name es g x (sym h) q
