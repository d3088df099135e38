-- The first names that stand at places.
use Rattle.std.proofs.Common.{◌≡◌, refl, sym, ap, ◌∙◌, ℕ, ◌+◌, ◌<◌, Bool, true, false, cond, nat_eq}
use Rattle.std.proofs.Common.{List, [], ◌∷◌, ◌++◌, take, length, Option, Some, None, is_some}
use Rattle.std.proofs.Common.{slice_get}
use Rattle.std.proofs.lemmas.Bool.Decides.{Decides-eqb}
use Rattle.std.proofs.lemmas.List.{take_more}
use Rattle.std.proofs.lemmas.List.Folds.{find-append}
use Rattle.std.proofs.lemmas.Option.{get_or_from_slice_get}
use Rattle.std.specs.List.{find}
use Rattle.std.specs.Map.{lookup}
use Rattle.std.specs.Option.{option_or, option_map, option_copied}
use Rattle.std.specs.Borrow.{Bor}
use Rattle.est_syntax.specs.declared.name.Name.{Name}
use Rattle.est_meaning.specs.rule_scope.declared.declaration.Standing.{Standing}
use Rattle.est_meaning.specs.rule_scope.Outline.{Region}
use Rattle.plain_outside.specs.inside.NamedPlaces.{stands_at, first_name, named, IsAdded, AreFirst}

abbrev Entries : Type 0
Entries = List (ℕ × Name)

or_none : {T : Type 0} (o : Option T) → option_or o None ≡ o
or_none None = refl
or_none (Some x) = refl

-- ONE NAME

-- where a name is there already, none is added
same_name : (es : Entries) (place p : ℕ) (name other : List ℕ) (b : Bool)
    → named es place ≡ Some other → nat_eq p place ≡ b
    → named es p ≡ option_or (named es p) (cond b (Some name) None)
same_name es place p name other false e h = sym (or_none (named es p))
same_name es place p name other true e h =
    let here : named es p ≡ Some other = ap (named es) ((Decides-eqb p place).0 h) ∙ e in
    here ∙ ap (λ o. option_or o (Some name)) (sym here)

pub kept_there : (es : Entries) (place : ℕ) (name : List ℕ) (r : Option (Bor Name))
    → option_copied r ≡ lookup (nat_eq place) es → is_some r ≡ true → IsAdded name place es es
kept_there es place name None h there = absurd cc
kept_there es place name (Some x) h there = λ p.
    same_name es place p name x.now.bytes (nat_eq p place)
    (ap (option_map (λ (n : Name). n.bytes)) (sym h)) refl

pub copied_none : {T : Type 0} (r : Option (Bor T)) → is_some r ≡ false → option_copied r ≡ None
copied_none None h = refl
copied_none (Some x) h = absurd cc

last_name : (es : Entries) (place p : ℕ) (n : Name) → named (es ++ (place, n) ∷ []) p
    ≡ option_or (named es p) (cond (nat_eq p place) (Some n.bytes) None)
last_name [] place p n =
    elim (nat_eq p place) as (λ b. option_map (λ (x : Name). x.bytes) (cond b (Some n) None)
    ≡ cond b (Some n.bytes) None) [ true ↦ refl | false ↦ refl ]
last_name (e ∷ es) place p n =
    elim (nat_eq p e.0) as (λ b. option_map (λ (x : Name). x.bytes)
    (cond b (Some e.1) (lookup (nat_eq p) (es ++ (place, n) ∷ [])))
    ≡ option_or (option_map (λ (x : Name). x.bytes) (cond b (Some e.1) (lookup (nat_eq p) es)))
    (cond (nat_eq p place) (Some n.bytes) None)) [ true ↦ refl | false ↦ last_name es place p n ]

pub put_last : (es after : Entries) (place : ℕ) (n : Name) (name : List ℕ) → n.bytes ≡ name
    → after ≡ es ++ (place, n) ∷ [] → IsAdded name place es after
put_last es after place n name same put = λ p.
    ap (λ l. named l p) put ∙ last_name es place p n
    ∙ ap (λ m. option_or (named es p) (cond (nat_eq p place) (Some m) None)) same

-- A REGION

mapped_or : (o q : Option (List ℕ × Standing)) → option_map (λ (n : List ℕ × Standing). n.0)
    (option_or o q) ≡ option_or (option_map (λ (n : List ℕ × Standing). n.0) o)
    (option_map (λ (n : List ℕ × Standing). n.0) q)
mapped_or None q = refl
mapped_or (Some x) q = refl

one_name : (x : List ℕ × Standing) (p : ℕ)
    → first_name (x ∷ []) p ≡ cond (nat_eq p x.1.place) (Some x.0) None
one_name x p = elim (nat_eq p x.1.place) as (λ b. option_map (λ (n : List ℕ × Standing). n.0)
    (cond b (Some x) None) ≡ cond b (Some x.0) None) [ true ↦ refl | false ↦ refl ]

pub name_more : (names : Region) (i : ℕ) (x : List ℕ × Standing) (old new : Entries)
    → i < length names → slice_get names i ≡ Some x → AreFirst (take i names) old
    → IsAdded x.0 x.1.place old new → AreFirst (take (i + 1) names) new
name_more names i x old new within at h added = λ p.
    added p
    ∙ ap (λ o. option_or o (cond (nat_eq p x.1.place) (Some x.0) None)) (h p)
    ∙ ap (option_or (first_name (take i names) p)) (sym (one_name x p))
    ∙ sym (mapped_or (find (stands_at p) (take i names)) (find (stands_at p) (x ∷ [])))
    ∙ ap (option_map (λ (n : List ℕ × Standing). n.0))
    (sym (find-append (stands_at p) (take i names) (x ∷ [])))
    ∙ ap (λ l. first_name l p) (sym (take_more names i x within
    ∙ ap (λ y. take i names ++ y ∷ []) (get_or_from_slice_get names i x x at)))
