-- What is told of the port of a number is what its interaction point tells.
use Rattle.std.proofs.Common.{◌≡◌, ℕ, ◌+◌, ◌-◌, ◌<◌, ◌^◌, min, ℤ, List, take, length, sym, ap, ◌∙◌}
use Rattle.std.proofs.Common.{subst, Option, Some, None, slice_get, refl, arith}
use Rattle.std.specs.Option.{option_map}
use Rattle.std.proofs.lemmas.List.{length-map}
use Rattle.std.proofs.lemmas.Option.{same_Some}
use Rattle.est_syntax.specs.declared.ports.Port.{Port}
use Rattle.rule_ports.specs.declared.table.Elements.{Elements}
use Rattle.rule_declares.specs.OrdinalValues.{tuples_of}
use Rattle.rule_declares.specs.PortList.{element}
use Rattle.rule_ports.specs.PortTable.{Points, ports_at, listed, capped, IsTable, IsSplit}
use Rattle.rule_ports.specs.PortTable.{IsNumberOf, IsPortNumber}
use Rattle.rule_ports.specs.inside.Making.{IsRank}
use Rattle.rule_ports.proofs.Capped.{most}
use Rattle.rule_ports.proofs.Listing.{IsPlaced, placed, within, mapped, flat_get, flat_place, ahead}
use Rattle.rule_ports.proofs.Ranks.{unmapped}
use Rattle.est_syntax.specs.declared.kind.Kind.{Kind}
use Rattle.rule_declares.proofs.Names.{once_differ}
use Rattle.rule_ports.proofs.Tuples.{itself, tuples_once}

abbrev Point : Type 0
Point = List ℕ × Elements

module _ {A : Type 0} (ps : Points) (ports : List Port) (n g : ℕ) (f : Port → A)
    (are : listed ps ≡ ports) (t : IsTable ps) (s : IsSplit ps n g g) (l : n < 2 ^ 32) where
  pub told : (h : Point → A)
      → ((p : Point) (t : List ℤ) → f (element p.0 p.1.kinds p.1.signals t) ≡ h p)
      → option_map h (slice_get ps g) ≡ option_map f (slice_get ports n)
  told h same = by (slice_get ps g) refl
    where
      here : IsPlaced ps g n
      here = placed ps n g t s l

      by : (x : Option Point) → slice_get ps g ≡ x
          → option_map h x ≡ option_map f (slice_get ports n)
      by None e =
          ap (option_map f) (sym (here.not_found e)) ∙ ap (λ xs. option_map f (slice_get xs n)) are
      by (Some p) e =
          let k = here.found p e in
          ap Some (sym (same p k.0)) ∙ ap (option_map f) (sym k.1)
          ∙ ap (λ xs. option_map f (slice_get xs n)) are

  -- by the elements of the interaction point
  abbrev elements_of : Point → Elements
  elements_of p = p.1

  of_both : (h : Elements → A) (x : Option Point)
      → option_map h (option_map elements_of x) ≡ option_map (λ p. h (elements_of p)) x
  of_both h None = refl
  of_both h (Some p) = refl

  pub told_by : (h : Elements → A)
      → ((p : Point) (t : List ℤ) → f (element p.0 p.1.kinds p.1.signals t) ≡ h p.1)
      → (x : Option Elements) → x ≡ option_map elements_of (slice_get ps g)
      → option_map h x ≡ option_map f (slice_get ports n)
  told_by h same x e =
      ap (option_map h) e ∙ of_both h (slice_get ps g) ∙ told (λ p. h (elements_of p)) same

-- the number of a port
pub found : (ps : Points) (g : ℕ) (name : List ℕ) (e : Elements) (t : List ℤ) (r before n : ℕ)
    → slice_get ps g ≡ Some (name, e) → IsRank e.kinds t (Some r)
    → before ≡ capped (length (listed (take g ps))) → n ≡ min (before + r) most → n < 2 ^ 32
    → IsPortNumber name t (listed ps) (Some n)
found ps g name e t r before n h rank b m l =
    let q = rank.0 in
    let w = within (tuples_of e.kinds) q t rank.1 in
    let k = length-map (tuples_of e.kinds) (element name e.kinds e.signals) in
    let rank_is = rank.2 in
    let z : ahead ports_at g ps + q ≡ n = omega (arith, b, m, l, rank_is) in (
      element name e.kinds e.signals t,
      ap (slice_get (listed ps)) (sym z) ∙ flat_get ports_at ps g (name, e) q h (omega (arith, w, k))
          ∙ mapped (element name e.kinds e.signals) (tuples_of e.kinds) q t rank.1,
      refl,
      refl,
    )

-- a port of this name and these subscripts is an element of an interaction point of this name
pub element_of : (ps : Points) (name : List ℕ) (t : List ℤ) (n : ℕ) (p : Port)
    → slice_get (listed ps) n ≡ Some p → p.name.bytes ≡ name → p.index ≡ t
    → (g : ℕ) × ((e : Elements) × ((r : ℕ) × (slice_get ps g ≡ Some (name, e))
    × (slice_get (tuples_of e.kinds) r ≡ Some t) × (ahead ports_at g ps + r ≡ n)))
element_of ps name t n p h a b =
    let f = flat_place ports_at ps n p h in
    let x = f.1.0 in
    let u = unmapped (element x.0 x.1.kinds x.1.signals) (tuples_of x.1.kinds) f.1.1.0 p f.1.1.2 in
    let same : x.0 ≡ name = ap (λ (q : Port). q.name.bytes) u.2 ∙ a in
    let index : u.0 ≡ t = ap (λ (q : Port). q.index) u.2 ∙ b in (
      f.0,
      (x.1, (f.1.1.0, f.1.1.1 ∙ ap (λ m. Some (m, x.1)) same, u.1 ∙ ap Some index, f.1.1.3)),
    )

pub no_name : (ps : Points) (name : List ℕ) (t : List ℤ) → IsNumberOf name ps None
    → IsPortNumber name t (listed ps) None
no_name ps name t none = λ n p l h a b.
    let f = element_of ps name t n p h a b in none f.0 f.1.0 f.1.1.1

-- the interaction point of a name is one
same_point : (ps : Points) → IsTable ps → (name : List ℕ) (g h : ℕ) (d e : Elements)
    → slice_get ps g ≡ Some (name, d) → slice_get ps h ≡ Some (name, e) → (g ≡ h) × (d ≡ e)
same_point ps t name g h d e p q =
    let same = t.different g h (name, d) (name, e) p q refl in
    let x : Some (name, d) ≡ Some (name, e) = sym p ∙ ap (slice_get ps) same ∙ q in
    (same, ap (λ (v : Point). v.1) (same_Some (name, d) (name, e) x))

pub no_tuple : (ps : Points) → IsTable ps → (name : List ℕ) (t : List ℤ) (g : ℕ) (e : Elements)
    → slice_get ps g ≡ Some (name, e) → IsRank e.kinds t None
    → IsPortNumber name t (listed ps) None
no_tuple ps table name t g e q none = λ n p l h a b.
    let f = element_of ps name t n p h a b in
    let s = same_point ps table name f.0 g f.1.0 e f.1.1.1 q in
    none f.1.1.0 (subst (λ (v : Elements). slice_get (tuples_of v.kinds) f.1.1.0 ≡ Some t) s.1
    f.1.1.2)

-- the elements that are found at a number
abbrev elements_in : Point → Elements
elements_in p = p.1

pub no_elements : (ps : Points) (g : ℕ) (name : List ℕ) (e : Elements)
    → slice_get ps g ≡ Some (name, e) → None ≡ option_map elements_in (slice_get ps g) → ⊥
no_elements ps g name e h n =
    let q : None ≡ Some e = n ∙ ap (option_map elements_in) h in cc

pub elements_are : (ps : Points) (g : ℕ) (name : List ℕ) (e found : Elements)
    → slice_get ps g ≡ Some (name, e) → Some found ≡ option_map elements_in (slice_get ps g)
    → slice_get ps g ≡ Some (name, found)
elements_are ps g name e found h n =
    let q : Some found ≡ Some e = n ∙ ap (option_map elements_in) h in
    h ∙ ap (λ x. Some (name, x)) (sym (same_Some found e q))

pub rank_along : (ks others : List Kind) (t : List ℤ) (r : Option ℕ) → others ≡ ks
    → IsRank others t r → IsRank ks t r
rank_along ks others t r e h = subst (λ l. IsRank l t r) e h

-- a port that 32 bits cannot tell
pub too_far : (ps : Points) → IsTable ps → (g : ℕ) (name : List ℕ) (e : Elements) (t : List ℤ)
    (r before n : ℕ) → slice_get ps g ≡ Some (name, e) → IsRank e.kinds t (Some r)
    → before ≡ capped (length (listed (take g ps))) → n ≡ min (before + r) most → 2 ^ 32 - 1 < n
    → IsPortNumber name t (listed ps) None
too_far ps table g name e t r before n h rank b m l = λ j p k q c d.
    let f = element_of ps name t j p q c d in
    let s = same_point ps table name f.0 g f.1.0 e f.1.1.1 h in
    let x : slice_get (tuples_of e.kinds) f.1.1.0 ≡ Some t = subst (λ (v : Elements).
    slice_get (tuples_of v.kinds) f.1.1.0 ≡ Some t) s.1 f.1.1.2 in
    let same : f.1.1.0 ≡ rank.0 = once_differ itself (tuples_of e.kinds) (tuples_once e.kinds)
    f.1.1.0 rank.0 t t x rank.1 refl in
    let ahead_is : ahead ports_at f.0 ps ≡ ahead ports_at g ps = ap (λ i. ahead ports_at i ps) s.0 in
    let rank_is = rank.2 in
    let number = f.1.1.3 in
    omega (arith, same, ahead_is, rank_is, number, b, m, l, k)
