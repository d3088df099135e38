-- What a name means in a later outline.
use Rattle.std.proofs.Common.{◌≡◌, ℕ, ◌<◌, ◌≤◌, Bool, true, false, if◌then◌else◌, List}
use Rattle.std.proofs.Common.{[], ◌∷◌, refl, sym, subst, ap, ◌∙◌, Option}
use Rattle.std.proofs.Common.{Some, None, nat_lt, arith}
use Rattle.std.proofs.lemmas.Option.{same_Some}
use Rattle.std.proofs.lemmas.Bool.Decides.{nat_tests}
use Rattle.est_syntax.specs.Names.{spelled}
use Rattle.rule_scope.specs.declared.predeclared.PredeclaredName.{PredeclaredName}
use Rattle.rule_scope.specs.Predeclared.{predeclared_name}
use Rattle.est_syntax.specs.declared.name.Used.{Used}
use Rattle.rule_scope.specs.declared.declaration.Entry.{Entry}
use Rattle.rule_scope.specs.declared.declaration.Extent.{Extent}
use Rattle.rule_scope.specs.declared.declaration.Meant.{Meant}
use Rattle.rule_scope.specs.declared.declaration.Meant.TheVariants.{Nothing, Predeclared}
use Rattle.rule_scope.specs.declared.declaration.Meant.TheVariants.{Unseen, Seen}
use Rattle.rule_scope.specs.declared.declaration.Sort.{Sort}
use Rattle.rule_scope.specs.declared.declaration.Sort.TheVariants as sort
use Rattle.rule_scope.specs.declared.declaration.Standing.{Standing}
use Rattle.rule_scope.specs.Outline.{Outline, standing, entry_at, extent_at, in_force, found}
use Rattle.rule_scope.specs.Outline.{is_shared, seen_around, meant_by, meant_within, meant}
use Rattle.rule_scope.specs.Uses.{same_sort, is_sort, meant_as, meaning, declaration_of}
use Rattle.rule_kinds.specs.Constants.{value_by, value_with, value_meant, predeclared_constant}
use Rattle.rule_kinds.specs.Constants.{named_value}
use Rattle.rule_kinds.specs.TypeTexts.{type_by, type_meant, predeclared_type, named_type}
use Rattle.law_places.specs.Growth.{is_completed, AreLike}
use Rattle.law_places.specs.Later.{Later, MeaningsStay}

-- a place that is not in force yet
pub not_below : (x y : ℕ) → y ≤ x → nat_lt x y ≡ false
not_below x y l = grind (arith, nat_tests)

pub below : (x y : ℕ) → nat_lt x y ≡ true → x < y
below x y h = grind (arith, nat_tests)

if_false : {X : Type 0} (b : Bool) (x y : X) → b ≡ false → (if b then x else y) ≡ y
if_false true x y e = cc
if_false false x y e = refl

module _ (a c : ℕ) (o p : Outline) (later : Later a c o p) where
  -- the same declarations are found
  pub found_stays : (rs : List ℕ) (name : List ℕ) (q : ℕ) → q ≤ c
      → found p rs name q ≡ found o rs name q
  found_stays [] name q l = refl
  found_stays (r ∷ rs) name q l =
      by (standing o r name) refl (standing p r name) refl (found_stays rs name q l)
    where
      by : (x : Option Standing) → standing o r name ≡ x → (y : Option Standing)
          → standing p r name ≡ y → found p rs name q ≡ found o rs name q
          → in_force y q (found p rs name q) ≡ in_force x q (found o rs name q)
      by (Some s) e y k rest =
          subst (λ z. in_force z q (found p rs name q) ≡ in_force (Some s) q (found o rs name q))
          (sym (sym k ∙ later.stands r name s e)) (ap (in_force (Some s) q) rest)
      by None e None k rest = rest
      by None e (Some s) k rest =
          let late : c ≤ s.last = later.news r name s e k in
          if_false (nat_lt s.last q) (Some s.place) (found p rs name q)
          (not_below s.last q (omega arith)) ∙ rest

  -- and what is found is known as it was
  pub found_known : (rs : List ℕ) (name : List ℕ) (q : ℕ) → q ≤ c → (x : ℕ)
      → found o rs name q ≡ Some x → AreLike true (entry_at o x) (entry_at p x)
  found_known [] name q l x h = absurd cc
  found_known (r ∷ rs) name q l x h = by (standing o r name) refl h (found_known rs name q l x)
    where
      forced : (s : Standing) → standing o r name ≡ Some s → (b : Bool) → nat_lt s.last q ≡ b
          → (if b then Some s.place else found o rs name q) ≡ Some x
          → (found o rs name q ≡ Some x → AreLike true (entry_at o x) (entry_at p x))
          → AreLike true (entry_at o x) (entry_at p x)
      forced s e true t k rest =
          let early : s.last < q = below s.last q t in
          subst (λ z. AreLike true (entry_at o z) (entry_at p z)) (same_Some s.place x k)
          (later.known r name s e (omega arith))
      forced s e false t k rest = rest k

      by : (y : Option Standing) → standing o r name ≡ y
          → in_force y q (found o rs name q) ≡ Some x
          → (found o rs name q ≡ Some x → AreLike true (entry_at o x) (entry_at p x))
          → AreLike true (entry_at o x) (entry_at p x)
      by None e k rest = rest k
      by (Some s) e k rest = forced s e (nat_lt s.last q) refl k rest

-- what is read of a meaning: something of a declaration that is seen, something of a predeclared
-- name, and else nothing
abbrev reading : {X : Type 0} → X → (PredeclaredName → X) → (ℕ → Option Entry → X) → Outline
    → Meant → X
reading d k f o Nothing = d
reading d k f o (Predeclared n) = k n
reading d k f o (Unseen x) = d
reading d k f o (Seen x) = f x (entry_at o x)

module _ {X : Type 0} (d : X) (k : PredeclaredName → X) (f : ℕ → Option Entry → X)
    (ignores : (x : ℕ) (e : Entry) → is_completed e.declared.sort ≡ true → f x (Some e) ≡ d) where
  -- the same is read of what is known alike
  one_entry : (x : ℕ) (u v : Option Entry) → AreLike true u v → f x v ≡ f x u
  one_entry x None v h = ap (f x) h
  one_entry x (Some e) v h = ap (f x) h.1 ∙ by (is_completed e.declared.sort) refl
    where
      by : (b : Bool) → is_completed e.declared.sort ≡ b → f x (Some h.0) ≡ f x (Some e)
      by true t = ignores x h.0 (ap (λ z. is_completed z.sort) h.2.0 ∙ t) ∙ sym (ignores x e t)
      by false t = ap (λ z. f x (Some z)) (h.2.1 t)

  -- also of what is declared around a body
  seen_read : (o : Outline) (b : Bool) (x : ℕ)
      → reading d k f o (seen_around b x) ≡ (if b then f x (entry_at o x) else d)
  seen_read o true x = refl
  seen_read o false x = refl

  either_way : (b : Bool) (y : X) → y ≡ d → (if b then y else d) ≡ d
  either_way true y h = h
  either_way false y h = refl

  around : (x : ℕ) (u v : Option Entry) → AreLike true u v
      → (if is_shared v then f x v else d) ≡ (if is_shared u then f x u else d)
  around x None v h = ap (λ z. if is_shared z then f x z else d) h
  around x (Some e) v h = ap (λ z. if is_shared z then f x z else d) h.1
      ∙ by (is_completed e.declared.sort) refl
    where
      by : (b : Bool) → is_completed e.declared.sort ≡ b
          → (if is_shared (Some h.0) then f x (Some h.0) else d)
          ≡ (if is_shared (Some e) then f x (Some e) else d)
      by true t = either_way (is_shared (Some h.0)) (f x (Some h.0)) (ignores x h.0
          (ap (λ z. is_completed z.sort) h.2.0 ∙ t))
          ∙ sym (either_way (is_shared (Some e)) (f x (Some e)) (ignores x e t))
      by false t = ap (λ z. if is_shared (Some z) then f x (Some z) else d) (h.2.1 t)

  module _ (a c : ℕ) (o p : Outline) (later : Later a c o p) where
    meant_read : (known : Option PredeclaredName) (x y : Option ℕ)
        → ((z : ℕ) → x ≡ Some z → AreLike true (entry_at o z) (entry_at p z))
        → ((z : ℕ) → y ≡ Some z → AreLike true (entry_at o z) (entry_at p z))
        → reading d k f p (meant_by p known x y) ≡ reading d k f o (meant_by o known x y)
    meant_read known (Some z) y g h = one_entry z (entry_at o z) (entry_at p z) (g z refl)
    meant_read known None (Some z) g h =
        seen_read p (is_shared (entry_at p z)) z
        ∙ around z (entry_at o z) (entry_at p z) (h z refl)
        ∙ sym (seen_read o (is_shared (entry_at o z)) z)
    meant_read None None None g h = refl
    meant_read (Some n) None None g h = refl

    within_read : (x : Option Extent) (name : List ℕ) (q : ℕ) → q ≤ c
        → reading d k f p (meant_within p x name q) ≡ reading d k f o (meant_within o x name q)
    within_read None name q l =
        meant_read (predeclared_name name) None None (λ z h. absurd cc) (λ z h. absurd cc)
    within_read (Some e) name q l =
        (λ i. reading d k f p (meant_by p (predeclared_name name)
        (found_stays a c o p later e.own name q l i)
        (found_stays a c o p later e.around name q l i)))
        ∙ meant_read (predeclared_name name) (found o e.own name q) (found o e.around name q)
        (found_known a c o p later e.own name q l) (found_known a c o p later e.around name q l)

    -- the same is read of what a name means
    reading_stays : (name : List ℕ) (q : ℕ) → q ≤ c
        → reading d k f p (meant p name q) ≡ reading d k f o (meant o name q)
    reading_stays name q l =
        ap (λ e. reading d k f p (meant_within p e name q)) (later.extents q l)
        ∙ within_read (extent_at o.extents q) name q l

-- a sort that is completed is none that is not
other_sorts : (s t : Sort) → is_completed s ≡ false → is_completed t ≡ true → same_sort s t ≡ false
other_sorts sort.Procedure t h k = absurd cc
other_sorts sort.Function t h k = absurd cc
other_sorts sort.Body t h k = absurd cc
other_sorts sort.Constant sort.Procedure h k = refl
other_sorts sort.Constant sort.Function h k = refl
other_sorts sort.Constant sort.Body h k = refl
other_sorts sort.TypeName sort.Procedure h k = refl
other_sorts sort.TypeName sort.Function h k = refl
other_sorts sort.TypeName sort.Body h k = refl
other_sorts sort.Channel sort.Procedure h k = refl
other_sorts sort.Channel sort.Function h k = refl
other_sorts sort.Channel sort.Body h k = refl
other_sorts sort.Header sort.Procedure h k = refl
other_sorts sort.Header sort.Function h k = refl
other_sorts sort.Header sort.Body h k = refl
other_sorts sort.Variable sort.Procedure h k = refl
other_sorts sort.Variable sort.Function h k = refl
other_sorts sort.Variable sort.Body h k = refl
other_sorts sort.ModuleVariable sort.Procedure h k = refl
other_sorts sort.ModuleVariable sort.Function h k = refl
other_sorts sort.ModuleVariable sort.Body h k = refl
other_sorts sort.Point sort.Procedure h k = refl
other_sorts sort.Point sort.Function h k = refl
other_sorts sort.Point sort.Body h k = refl
other_sorts sort.State sort.Procedure h k = refl
other_sorts sort.State sort.Function h k = refl
other_sorts sort.State sort.Body h k = refl
other_sorts sort.StateSet sort.Procedure h k = refl
other_sorts sort.StateSet sort.Function h k = refl
other_sorts sort.StateSet sort.Body h k = refl
other_sorts s t h k = absurd cc

-- what is looked up as of a sort, and values and types, are read so
as_read : (o : Outline) (s : Sort) (m : Meant) → meant_as o s m
    ≡ reading None (λ n. None) (λ x y. if is_sort s y then Some x else None) o m
as_read o s Nothing = refl
as_read o s (Predeclared n) = refl
as_read o s (Unseen x) = refl
as_read o s (Seen x) = refl

value_read : (o : Outline) (m : Meant) → value_meant o m
    ≡ reading None predeclared_constant (λ x y. value_by y) o m
value_read o Nothing = refl
value_read o (Predeclared n) = refl
value_read o (Unseen x) = refl
value_read o (Seen x) = refl

type_read : (o : Outline) (m : Meant) → type_meant o m
    ≡ reading None predeclared_type (λ x y. type_by y) o m
type_read o Nothing = refl
type_read o (Predeclared n) = refl
type_read o (Unseen x) = refl
type_read o (Seen x) = refl

module _ (a c : ℕ) (o p : Outline) (later : Later a c o p) (u : Used) (l : u.place ≤ c) where
  pub declaration_stays : (s : Sort) → is_completed s ≡ false
      → declaration_of p s u ≡ declaration_of o s u
  declaration_stays s h =
      as_read p s (meaning p u)
      ∙ reading_stays None (λ n. None) (λ x y. if is_sort s y then Some x else None)
      (λ x e t. if_false (same_sort s e.declared.sort) (Some x) None
      (other_sorts s e.declared.sort h t)) a c o p later (spelled u) u.place l
      ∙ sym (as_read o s (meaning o u))

  pub value_stays : named_value p u ≡ named_value o u
  value_stays =
      value_read p (meaning p u)
      ∙ reading_stays None predeclared_constant (λ x y. value_by y)
      (λ x e t. if_false (same_sort sort.Constant e.declared.sort) (value_with e.kind e.ordinal)
      None (other_sorts sort.Constant e.declared.sort refl t)) a c o p later (spelled u) u.place l
      ∙ sym (value_read o (meaning o u))

  pub type_stays : named_type p u ≡ named_type o u
  type_stays =
      type_read p (meaning p u)
      ∙ reading_stays None predeclared_type (λ x y. type_by y)
      (λ x e t. if_false (same_sort sort.TypeName e.declared.sort) e.kind
      None (other_sorts sort.TypeName e.declared.sort refl t)) a c o p later (spelled u) u.place l
      ∙ sym (type_read o (meaning o u))

pub meanings_stay : MeaningsStay
meanings_stay a c o p u later l = (
  λ s h. declaration_stays a c o p later u l s h,
  value_stays a c o p later u l,
  type_stays a c o p later u l,
)
