-- Outlines in which the enumeration of one place has as many constants in each kind, and parameters
-- are variables; they stay so by each declaration.
use Rattle.std.proofs.Common.{◌≡◌, refl, sym, subst, ◌∙◌, arith, ℕ, suc, ◌<◌, ◌≤◌, true}
use Rattle.std.proofs.Common.{false}
use Rattle.std.proofs.Common.{List, [], ◌∷◌, length, Option, Some, None, nat_eq, true≢false}
use Rattle.std.specs.Prelude.{slice_get}
use Rattle.std.specs.Map.{lookup, set_value}
use Rattle.indexmap.specs.IndexMap.{insert_entry}
use Rattle.std.proofs.lemmas.Option.{same_Some, none-some}
use Rattle.est_syntax.specs.declared.kind.Kind.{Kind, out-Kind}
use Rattle.est_syntax.specs.declared.kind.Kind.TheOpen as seen
use Rattle.est_syntax.specs.declared.kind.FieldKind.{FieldKind}
use Rattle.est_syntax.specs.declared.name.Name.{Name}
use Rattle.est_syntax.specs.declared.name.Used.{Used}
use Rattle.est_syntax.specs.Names.{spelled}
use Rattle.rule_scope.specs.Declaring.{declared_by, declared, put_by, put, amended_by, amended}
use Rattle.rule_scope.specs.Declaring.{with_kind, lying, taken}
use Rattle.rule_scope.specs.Outline.{Outline, entry_at, standing}
use Rattle.rule_scope.specs.declared.declaration.Entry.{Entry}
use Rattle.rule_scope.specs.declared.declaration.Measured.{Measured}
use Rattle.rule_scope.specs.declared.declaration.Member.{Member}
use Rattle.rule_scope.specs.declared.declaration.Sort.TheVariants as sort
use Rattle.rule_scope.specs.declared.declaration.Standing.{Standing}
use Rattle.rule_scope.specs.declared.declaration.Within.{Within}
use Rattle.rule_declares.specs.Declares.{names_declare, numbers_declare, kinds_given}
use Rattle.rule_declares.specs.Entries.{numbered}
use Rattle.law_places.proofs.Tables.{one_number, tested, inserted_here, inserted_apart, set_here}
use Rattle.law_places.proofs.Tables.{set_apart}
use Rattle.rule_expressions.specs.Selections.{is_parameter}
use Rattle.law_values.specs.SameKinds.{is_unnamed, HasSizes}
use Rattle.law_values.specs.SameKinds as same

-- each enumeration within a kind stands before a place, and has as many constants as is said of its
-- own
pub data Bounded (n : ℕ → ℕ) (c : ℕ) : Kind → Type 0 where
  unnamed : {k : Kind} → is_unnamed (out-Kind k) ≡ true → Bounded n c k
  enumeration : {k : Kind} (place : ℕ) (names : List Name)
      → out-Kind k ≡ seen.Enumeration place names → length names ≡ n place → place < c
      → Bounded n c k
  set : {k : Kind} (base : Kind) → out-Kind k ≡ seen.SetOf base → Bounded n c base → Bounded n c k
  array : {k : Kind} (index of : Kind) → out-Kind k ≡ seen.ArrayOf index of → Bounded n c index
      → Bounded n c of → Bounded n c k
  fields : {k : Kind} (fields : List FieldKind) → out-Kind k ≡ seen.Fields fields
      → ((i : ℕ) (field : FieldKind) → slice_get fields i ≡ Some field → Bounded n c field.kind)
      → Bounded n c k

-- the same is said of places before this one
abbrev pub AgreeBefore : ℕ → (ℕ → ℕ) → (ℕ → ℕ) → Type 0
AgreeBefore c n m = (q : ℕ) → q < c → m q ≡ n q

pub bounded_more : (n m : ℕ → ℕ) (c d : ℕ) (k : Kind) → c ≤ d → AgreeBefore c n m → Bounded n c k
    → Bounded m d k
bounded_more n m c d k l a (unnamed h) = unnamed h
bounded_more n m c d k l a (enumeration place names e s b) =
    enumeration place names e (s ∙ sym (a place b)) (omega (arith, l, b))
bounded_more n m c d k l a (set base e h) = set base e (bounded_more n m c d base l a h)
bounded_more n m c d k l a (array index of e h g) =
    array index of e (bounded_more n m c d index l a h) (bounded_more n m c d of l a g)
bounded_more n m c d k l a (fields fs e each) =
    fields fs e (λ i f h. bounded_more n m c d f.kind l a (each i f h))

pub bounded_sizes : (n : ℕ → ℕ) (c : ℕ) (k : Kind) → Bounded n c k → HasSizes n k
bounded_sizes n c k (unnamed h) = same.unnamed h
bounded_sizes n c k (enumeration place names e s b) = same.enumeration place names e s
bounded_sizes n c k (set base e h) = same.set base e (bounded_sizes n c base h)
bounded_sizes n c k (array index of e h g) =
    same.array index of e (bounded_sizes n c index h) (bounded_sizes n c of g)
bounded_sizes n c k (fields fs e each) =
    same.fields fs e (λ i f h. bounded_sizes n c f.kind (each i f h))

-- ENTRIES

-- a kind that is measured, if there is one
abbrev pub MeasuredKnown : (ℕ → ℕ) → ℕ → Option Measured → Type 0
MeasuredKnown n c x = (m : Measured) → x ≡ Some m → Bounded n c m.kind

abbrev pub EntryKnown : (ℕ → ℕ) → ℕ → Entry → Type 0
EntryKnown n c e = MeasuredKnown n c e.kind
    × (is_parameter e.section ≡ true → e.declared.sort ≡ sort.Variable)

pub record Known (n : ℕ → ℕ) (c : ℕ) (o : Outline) : Type 0 where
  pub entries : (p : ℕ) (e : Entry) → entry_at o p ≡ Some e → EntryKnown n c e

pub known_more : (n m : ℕ → ℕ) (c d : ℕ) (o : Outline) → c ≤ d → AgreeBefore c n m → Known n c o
    → Known m d o
known_more n m c d o l a k = record {
  entries = λ p e is. let x = k.entries p e is in
      ((λ y i. bounded_more n m c d y.kind l a (x.0 y i)), x.1);
}

pub known_later : (n : ℕ → ℕ) (c d : ℕ) (o : Outline) → c ≤ d → Known n c o → Known n d o
known_later n c d o l k = known_more n n c d o l (λ q h. refl) k

pub nothing_measured : (n : ℕ → ℕ) (c : ℕ) → MeasuredKnown n c None
nothing_measured n c m e = absurd (none-some m e)

-- an entry by a section that is of no parameter
pub other_known : (n : ℕ → ℕ) (c : ℕ) (e : Entry) → MeasuredKnown n c e.kind
    → is_parameter e.section ≡ false → EntryKnown n c e
other_known n c e k h = (k, λ t. absurd (true≢false (sym t ∙ h)))

module _ (n : ℕ → ℕ) (c : ℕ) where
  pub declared_known : (w : Within) (u : Used) (last : ℕ) (e : Entry) (o : Outline)
      → EntryKnown n c e → Known n c o → Known n c (declared w u last e o)
  declared_known w u last e o h k = by (taken o w (spelled u))
    where
      new : (p : ℕ) (d : Entry)
          → lookup (nat_eq p) (insert_entry nat_eq o.entries u.place e) ≡ Some d
          → EntryKnown n c d
      new p d is = tested (nat_eq p u.place)
          (λ r. subst (EntryKnown n c) (same_Some e d (sym (inserted_here u.place e o.entries)
          ∙ subst (λ q. lookup (nat_eq q) (insert_entry nat_eq o.entries u.place e) ≡ Some d)
          (one_number p u.place r) is)) h)
          (λ r. k.entries p d (sym (inserted_apart u.place e p o.entries r) ∙ is))

      by : (s : Option Standing) → Known n c (declared_by s w u last e o)
      by (Some s) = k
      by None = record { entries = new }

  pub amended_known : (f : Entry → Entry) (place : ℕ) (o : Outline)
      → ((e : Entry) → EntryKnown n c e → EntryKnown n c (f e)) → Known n c o
      → Known n c (amended f place o)
  amended_known f place o h k = by (entry_at o place) refl
    where
      new : (e : Entry) → entry_at o place ≡ Some e → (p : ℕ) (d : Entry)
          → lookup (nat_eq p) (set_value (nat_eq place) o.entries (f e)) ≡ Some d
          → EntryKnown n c d
      new e at p d is = tested (nat_eq p place)
          (λ r. subst (EntryKnown n c) (same_Some (f e) d
          (sym (set_here place (f e) o.entries e at)
          ∙ subst (λ q. lookup (nat_eq q) (set_value (nat_eq place) o.entries (f e)) ≡ Some d)
          (one_number p place r) is)) (h e (k.entries place e at)))
          (λ r. k.entries p d (sym (set_apart place (f e) p o.entries r) ∙ is))

      by : (x : Option Entry) → entry_at o place ≡ x → Known n c (amended_by x f place o)
      by None e = k
      by (Some e) at = record { entries = new e at }

  pub put_known : (region : ℕ) (u : Used) (m : Member) (o : Outline) → Known n c o
      → Known n c (put region u m o)
  put_known region u m o k = by (standing o region (spelled u))
    where
      by : (s : Option Standing) → Known n c (put_by s region u m o)
      by (Some s) = k
      by None = record { entries = k.entries }

  pub lying_known : (w : Within) (place : ℕ) (o : Outline) → Known n c o
      → Known n c (lying w place o)
  lying_known w place o k = record { entries = k.entries }

  -- NAMES

  pub names_known : (w : Within) (us : List Used) (last : ℕ) (e : Entry) (o : Outline)
      → EntryKnown n c e → Known n c o → Known n c (names_declare w us last e o)
  names_known w [] last e o h k = k
  names_known w (u ∷ us) last e o h k =
      names_known w us last e (declared w u last e o) h (declared_known w u last e o h k)

  pub kinds_known : (us : List Used) (x : Option Measured) (o : Outline) → MeasuredKnown n c x
      → Known n c o → Known n c (kinds_given us x o)
  kinds_known [] x o h k = k
  kinds_known (u ∷ us) x o h k =
      kinds_known us x (amended (with_kind x) u.place o) h
      (amended_known (with_kind x) u.place o (λ e g. (h, g.1)) k)

  pub numbers_known : (w : Within) (us : List Used) (last i : ℕ) (o : Outline)
      → is_parameter w.section ≡ false → Known n c o
      → Known n c (numbers_declare w us last i o)
  numbers_known w [] last i o h k = k
  numbers_known w (u ∷ us) last i o h k =
      numbers_known w us last (suc i) (declared w u last (numbered w i) o) h
      (declared_known w u last (numbered w i) o
      (other_known n c (numbered w i) (nothing_measured n c) h) k)
