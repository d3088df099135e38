-- What is found in an index of parts.
use Rattle.std.proofs.Common.{◌≡◌, refl, sym, ap, ◌∙◌, ℕ, Bool, true, false, cond, nat_eq}
use Rattle.std.proofs.Common.{List, [], ◌∷◌, ◌++◌, Option, Some, None, is_some}
use Rattle.std.proofs.lemmas.Bool.Decides.{Decides-eqb}
use Rattle.std.proofs.lemmas.List.Elements.{filter_map-append}
use Rattle.std.proofs.lemmas.List.Folds.{find-append}
use Rattle.std.specs.Borrow.{Bor}
use Rattle.std.specs.List.{filter_map, find}
use Rattle.std.specs.Map.{lookup}
use Rattle.std.specs.Option.{option_or, option_copied}
use Rattle.est_syntax.specs.declared.body.Part.{Part}
use Rattle.plain_declared.specs.mean_blocks.TextByPlace.{routine_in, body_in}
use Rattle.plain_texts.specs.declared.indices.Index.{Index}
use Rattle.plain_texts.specs.PartIndices.{found, is_routine, is_body, IsNoted}

pub or_none : {T : Type 0} (o : Option T) → option_or o None ≡ o
or_none None = refl
or_none (Some x) = refl

or_assoc : {T : Type 0} (o p q : Option T)
    → option_or (option_or o p) q ≡ option_or o (option_or p q)
or_assoc None p q = refl
or_assoc (Some x) p q = refl

-- nothing is there
pub copied_none : {T : Type 0} (r : Option (Bor T)) → is_some r ≡ false → option_copied r ≡ None
copied_none None h = refl
copied_none (Some x) h = absurd cc

-- where something is there already, nothing changes
found_same : {T : Type 0} (es : List (ℕ × Bor T)) (place p : ℕ) (x y : T) (b : Bool)
    → found es place ≡ Some y → nat_eq p place ≡ b
    → found es p ≡ option_or (found es p) (cond b (Some x) None)
found_same es place p x y false e h = sym (or_none (found es p))
found_same es place p x y true e h =
    let here : found es p ≡ Some y = ap (found es) ((Decides-eqb p place).0 h) ∙ e
    in here ∙ ap (λ o. option_or o (Some x)) (sym here)

pub kept_there : {T : Type 0} (es : List (ℕ × Bor T)) (place p : ℕ) (x : T)
    (r : Option (Bor (Bor T))) → option_copied r ≡ lookup (nat_eq place) es → is_some r ≡ true
    → found es p ≡ option_or (found es p) (cond (nat_eq p place) (Some x) None)
kept_there es place p x None h there = absurd cc
kept_there es place p x (Some y) h there =
    found_same es place p x y.now.now (nat_eq p place) (ap option_copied (sym h)) refl

-- an entry more
found_last : {T : Type 0} (es : List (ℕ × Bor T)) (place p : ℕ) (x : Bor T)
    → found (es ++ (place, x) ∷ []) p
    ≡ option_or (found es p) (cond (nat_eq p place) (Some x.now) None)
found_last [] place p x =
    elim (nat_eq p place) as (λ b. option_copied (cond b (Some x) None)
    ≡ cond b (Some x.now) None) [ true ↦ refl | false ↦ refl ]
found_last (e ∷ es) place p x =
    elim (nat_eq p e.0) as (λ b.
    option_copied (cond b (Some e.1) (lookup (nat_eq p) (es ++ (place, x) ∷ [])))
    ≡ option_or (option_copied (cond b (Some e.1) (lookup (nat_eq p) es)))
    (cond (nat_eq p place) (Some x.now) None)) [ true ↦ refl | false ↦ found_last es place p x ]

pub put_last : {T : Type 0} (es after : List (ℕ × Bor T)) (place p : ℕ) (x : Bor T)
    → after ≡ es ++ (place, x) ∷ []
    → found after p ≡ option_or (found es p) (cond (nat_eq p place) (Some x.now) None)
put_last es after place p x put = ap (λ l. found l p) put ∙ found_last es place p x

-- parts after others
found_both : {T : Type 0} (inside : Part → Option T) (is : T → Bool) (xs ys : List Part)
    (a b c : Option T) → b ≡ option_or a (find is (filter_map inside xs))
    → c ≡ option_or b (find is (filter_map inside ys))
    → c ≡ option_or a (find is (filter_map inside (xs ++ ys)))
found_both inside is xs ys a b c h k =
    k ∙ ap (λ o. option_or o (find is (filter_map inside ys))) h
    ∙ or_assoc a (find is (filter_map inside xs)) (find is (filter_map inside ys))
    ∙ ap (option_or a) (sym (ap (find is) (filter_map-append inside xs ys)
    ∙ find-append is (filter_map inside xs) (filter_map inside ys)))

pub noted_both : (xs ys : List Part) (a b c : Index) → IsNoted xs a b → IsNoted ys b c
    → IsNoted (xs ++ ys) a c
noted_both xs ys a b c h k = record {
  routines = λ p. found_both routine_in (is_routine p) xs ys (found a.routines.entries p)
      (found b.routines.entries p) (found c.routines.entries p) (h.routines p) (k.routines p);
  bodies = λ p. found_both body_in (is_body p) xs ys (found a.bodies.entries p)
      (found b.bodies.entries p) (found c.bodies.entries p) (h.bodies p) (k.bodies p);
}
