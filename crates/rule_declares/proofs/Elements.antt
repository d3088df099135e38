-- The elements of declarations are those that their subscripts give them.
use Rattle.std.proofs.Common.{◌≡◌, ℕ, Bool, true, false, if◌then◌else◌, List, [], ◌∷◌}
use Rattle.std.proofs.Common.{refl, subst, Option, Some, None, nat_eq}
use Rattle.std.proofs.lemmas.Option.{same_Some}
use Rattle.std.specs.Map.{lookup, set_value}
use Rattle.indexmap.specs.IndexMap.{insert_entry}
use Rattle.est_syntax.specs.Names.{spelled}
use Rattle.est_syntax.specs.declared.name.Used.{Used}
use Rattle.est_syntax.specs.declared.specification.Spec.{Spec}
use Rattle.rule_kinds.specs.rule_scope.declared.declaration.Entry.{Entry}
use Rattle.rule_kinds.specs.rule_scope.declared.declaration.Member.{Member}
use Rattle.rule_kinds.specs.rule_scope.declared.declaration.Sort.TheVariants as sort
use Rattle.rule_kinds.specs.rule_scope.declared.declaration.Standing.{Standing}
use Rattle.rule_kinds.specs.rule_scope.declared.declaration.Within.{Within}
use Rattle.rule_kinds.specs.rule_scope.Outline.{Outline, standing, entry_at}
use Rattle.rule_kinds.specs.rule_scope.Declaring.{taken, declared_by, put_by, amended_by}
use Rattle.rule_kinds.specs.rule_scope.Uses.{same_sort}
use Rattle.rule_kinds.specs.declared.value.Valued.{Valued}
use Rattle.rule_declares.specs.Entries.{constant}
use Rattle.rule_declares.specs.Bodies.{outline_of}
use Rattle.rule_declares.specs.OutlineLaws.{elements_of, HaveElements}
use Rattle.rule_declares.proofs.Growing.{IsOfEach, IsKept}
use Rattle.rule_declares.proofs.Grown.{grown}

abbrev HasElements : Entry → Type 0
HasElements e = e.elements ≡ elements_of e

-- what has no subscripts has no elements
none_of : (b : Bool) → ◌≡◌ {A = ℕ} 0 (if b then 0 else 0)
none_of true = refl
none_of false = refl

constant_of : (w : Within) (v : Option Valued) → HasElements (constant w v)
constant_of w None = refl
constant_of w (Some v) = refl

of_elements : IsOfEach HasElements
of_elements = record {
  of_typed = λ w s k. none_of (same_sort sort.Point s);
  of_constant = constant_of;
  of_numbered = λ w i. refl;
  of_point = λ w dims side q. refl;
  of_variable = λ w dims h. refl;
  of_state_set = λ w places. refl;
  of_header = λ w system exports. refl;
  given_kind = λ k e h. h;
  given_closed = λ b e h. h;
  given_header = λ h e q. q;
}

-- so it is of each declaration of an outline
abbrev AllHave : List (ℕ × Entry) → Type 0
AllHave [] = Unit {0}
AllHave (x ∷ xs) = HasElements x.1 × AllHave xs

inserted : (xs : List (ℕ × Entry)) (place : ℕ) (e : Entry) → HasElements e → AllHave xs
    → AllHave (insert_entry nat_eq xs place e)
inserted [] place e h a = (h, tt)
inserted (x ∷ xs) place e h a = by (nat_eq place x.0) (inserted xs place e h a.1)
  where
    by : (b : Bool) → AllHave (insert_entry nat_eq xs place e)
        → AllHave (if b then (x.0, e) ∷ xs else x ∷ insert_entry nat_eq xs place e)
    by true rest = (h, a.1)
    by false rest = (a.0, rest)

set : (xs : List (ℕ × Entry)) (place : ℕ) (e : Entry) → HasElements e → AllHave xs
    → AllHave (set_value (nat_eq place) xs e)
set [] place e h a = tt
set (x ∷ xs) place e h a = by (nat_eq place x.0) (set xs place e h a.1)
  where
    by : (b : Bool) → AllHave (set_value (nat_eq place) xs e)
        → AllHave (if b then (x.0, e) ∷ xs else x ∷ set_value (nat_eq place) xs e)
    by true rest = (h, a.1)
    by false rest = (a.0, rest)

found : (xs : List (ℕ × Entry)) (place : ℕ) (e : Entry) → AllHave xs
    → lookup (nat_eq place) xs ≡ Some e → HasElements e
found [] place e a q = cc
found (x ∷ xs) place e a q = by (nat_eq place x.0) q (found xs place e a.1)
  where
    by : (b : Bool) → (if b then Some x.1 else lookup (nat_eq place) xs) ≡ Some e
        → (lookup (nat_eq place) xs ≡ Some e → HasElements e) → HasElements e
    by true r rest = subst HasElements (same_Some x.1 e r) a.0
    by false r rest = rest r

-- and while an outline grows
declared_all : (t : Option Standing) (o : Outline) (w : Within) (u : Used) (last : ℕ) (e : Entry)
    → HasElements e → AllHave o.entries → AllHave (declared_by t w u last e o).entries
declared_all (Some s) o w u last e h a = a
declared_all None o w u last e h a = inserted o.entries u.place e h a

put_all : (t : Option Standing) (o : Outline) (region : ℕ) (u : Used) (m : Member)
    → AllHave o.entries → AllHave (put_by t region u m o).entries
put_all (Some s) o region u m a = a
put_all None o region u m a = a

amended_all : (x : Option Entry) (o : Outline) (f : Entry → Entry) (place : ℕ)
    → entry_at o place ≡ x → ((e : Entry) → HasElements e → HasElements (f e)) → AllHave o.entries
    → AllHave (amended_by x f place o).entries
amended_all None o f place q h a = a
amended_all (Some e) o f place q h a =
    set o.entries place (f e) (h e (found o.entries place e a q)) a

all_kept : IsKept HasElements (λ o. AllHave o.entries)
all_kept = record {
  begins = tt;
  declares = λ o w u last e h a. declared_all (taken o w (spelled u)) o w u last e h a;
  puts = λ o region u m a. put_all (standing o region (spelled u)) o region u m a;
  amends = λ o f place h a. amended_all (entry_at o place) o f place refl h a;
  lies = λ o w place a. a;
}

pub have_elements : (s : Spec) → HaveElements (outline_of s)
have_elements s place e q =
    found (outline_of s).entries place e
    (grown HasElements (λ o. AllHave o.entries) of_elements all_kept s) q
