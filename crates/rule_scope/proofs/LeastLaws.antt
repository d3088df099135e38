-- The least of a union, and that it is the least.
use Rattle.std.specs.Prelude.{nat_lt, if◌then◌else◌}
use Rattle.std.proofs.Common.{arith, Bool, true, false, ◌⊎◌, inl, inr, subst, ◌≡◌}
use Rattle.std.proofs.Common.{refl, sym, ap, ◌∙◌, ℕ, ◌+◌, ◌<◌, List, [], ◌∷◌}
use Rattle.std.proofs.Common.{◌++◌, Option, Some, None, length, drop, get_or}
use Rattle.std.proofs.lemmas.List.{drop_more}
use Rattle.est_syntax.specs.declared.rule.Fault.{Fault}
use Rattle.est_syntax.specs.Least.{is_before, number, IsIn, IsLeast}
use Rattle.rule_scope.specs.LeastSoFar.{lesser, least_with}

pub least_append : (least : Option Fault) (xs ys : List Fault)
    → least_with least (xs ++ ys) ≡ least_with (least_with least xs) ys
least_append least [] ys = refl
least_append least (x ∷ xs) ys = least_append (lesser least x) xs ys

-- a turn of a loop over a list that checks one item
pub least_loop : {X : Type 0} (F : List X → List Fault) (g : X → List Fault) (xs : List X) (i : ℕ)
    (x : X) (before after total : Option Fault)
    → ((y : X) (ys : List X) → F (y ∷ ys) ≡ g y ++ F ys)
    → i < length xs → x ≡ get_or xs i x → after ≡ least_with before (g x)
    → least_with before (F (drop i xs)) ≡ total → least_with after (F (drop (i + 1) xs)) ≡ total
least_loop F g xs i x before after total step within is done h =
    ap (λ l. least_with l (F (drop (i + 1) xs))) done
    ∙ sym (least_append before (g x) (F (drop (i + 1) xs)))
    ∙ ap (least_with before) (sym (step x (drop (i + 1) xs)))
    ∙ ap (λ y. least_with before (F (y ∷ drop (i + 1) xs))) is
    ∙ ap (λ l. least_with before (F l)) (sym (drop_more xs i x within))
    ∙ h

-- the order is total, and what is not before is transitive
abbrev pub lex : ℕ → ℕ → ℕ → ℕ → Bool
lex a x b y = if nat_lt a b then true else (if nat_lt b a then false else nat_lt x y)

pub not_lex : (a x b y c z : ℕ) → lex a x b y ≡ false → lex b y c z ≡ false → lex a x c z ≡ false
not_lex a x b y c z h k = grind arith

pub lex_not : (a x b y : ℕ) → lex a x b y ≡ true → lex b y a x ≡ false
lex_not a x b y h = grind arith

pub lex_self : (a x : ℕ) → lex a x a x ≡ false
lex_self a x = grind arith

pub not_before : (a b c : Fault) → is_before a b ≡ false → is_before b c ≡ false
    → is_before a c ≡ false
not_before a b c = not_lex a.place (number a.rule) b.place (number b.rule) c.place (number c.rule)

pub before_not : (a b : Fault) → is_before a b ≡ true → is_before b a ≡ false
before_not a b = lex_not a.place (number a.rule) b.place (number b.rule)

pub before_self : (a : Fault) → is_before a a ≡ false
before_self a = lex_self a.place (number a.rule)

-- where one pair was met, the least of it and a list is one of them, and none of them is before it
abbrev pub IsFirst : Fault → List Fault → Option Fault → Type 0
IsFirst q ps None = ⊥
IsFirst q ps (Some m) = ((q ≡ m) ⊎ IsIn m ps) × (is_before q m ≡ false) × ((p : Fault) → IsIn p ps
    → is_before p m ≡ false)

-- one pair more
pub one_taken : (q p m : Fault) (ps : List Fault) → (p ≡ m) ⊎ IsIn m ps
    → (q ≡ m) ⊎ ((p ≡ m) ⊎ IsIn m ps)
one_taken q p m ps e = inr e

pub one_kept : (q p m : Fault) (ps : List Fault) → (q ≡ m) ⊎ IsIn m ps
    → (q ≡ m) ⊎ ((p ≡ m) ⊎ IsIn m ps)
one_kept q p m ps (inl e) = inl e
one_kept q p m ps (inr e) = inr (inr e)

pub all_with : (p m : Fault) (ps : List Fault) → is_before p m ≡ false
    → ((x : Fault) → IsIn x ps → is_before x m ≡ false) → (x : Fault) → (p ≡ x) ⊎ IsIn x ps
    → is_before x m ≡ false
all_with p m ps b h x (inl e) = subst (λ y. is_before y m ≡ false) e b
all_with p m ps b h x (inr i) = h x i

pub first_taken : (q p : Fault) (ps : List Fault) (o : Option Fault) → is_before p q ≡ true
    → IsFirst p ps o → IsFirst q (p ∷ ps) o
first_taken q p ps None e h = h
first_taken q p ps (Some m) e h =
    (one_taken q p m ps h.0, not_before q p m (before_not p q e) h.1, all_with p m ps h.1 h.2)

pub first_kept : (q p : Fault) (ps : List Fault) (o : Option Fault) → is_before p q ≡ false
    → IsFirst q ps o → IsFirst q (p ∷ ps) o
first_kept q p ps None e h = h
first_kept q p ps (Some m) e h =
    (one_kept q p m ps h.0, h.1, all_with p m ps (not_before p q m e h.1) h.2)

pub first_by : (q p : Fault) (ps : List Fault) (b : Bool) → is_before p q ≡ b
    → ((r : Fault) → IsFirst r ps (least_with (Some r) ps))
    → IsFirst q (p ∷ ps) (least_with (if b then Some p else Some q) ps)
first_by q p ps true e h = first_taken q p ps (least_with (Some p) ps) e (h p)
first_by q p ps false e h = first_kept q p ps (least_with (Some q) ps) e (h q)

pub first_of_list : (ps : List Fault) (q : Fault) → IsFirst q ps (least_with (Some q) ps)
first_of_list [] q = (inl refl, before_self q, λ p i. absurd i)
first_of_list (p ∷ ps) q = first_by q p ps (is_before p q) refl (first_of_list ps)

pub least_by : (p : Fault) (ps : List Fault) (o : Option Fault) → IsFirst p ps o
    → IsLeast (λ x. IsIn x (p ∷ ps)) o
least_by p ps None h = absurd h
least_by p ps (Some m) h = (h.0, all_with p m ps h.1 h.2)

-- what a list's pairs leave is the least of them
pub least_is : (ps : List Fault) → IsLeast (λ p. IsIn p ps) (least_with None ps)
least_is [] = λ p i. i
least_is (p ∷ ps) = least_by p ps (least_with (Some p) ps) (first_of_list ps p)
