-- No two ports have one name and the same subscripts, and no two signals of a port one name.
use Rattle.std.proofs.Common.{◌≡◌, ℕ, zero, suc, ℤ, Bool, true, false, if◌then◌else◌}
use Rattle.std.proofs.Common.{List, [], ◌∷◌, ◌++◌, map, refl, ap, subst, Option, Some, None}
use Rattle.std.proofs.Common.{slice_get}
use Rattle.std.specs.Prelude.{flat_map}
use Rattle.std.proofs.lemmas.Option.{same_Some}
use Rattle.est_syntax.specs.declared.channel.Role.{Role}
use Rattle.est_syntax.specs.declared.kind.Kind.{Kind}
use Rattle.est_syntax.specs.declared.ports.Signal.{Signal}
use Rattle.est_syntax.specs.declared.ports.Port.{Port}
use Rattle.est_syntax.specs.declared.specification.Spec.{Spec}
use Rattle.rule_scope.specs.declared.declaration.Entry.{Entry}
use Rattle.rule_scope.specs.declared.declaration.Member.{Member}
use Rattle.rule_scope.specs.declared.declaration.Member.TheVariants as member
use Rattle.rule_scope.specs.declared.declaration.Side.{Side}
use Rattle.rule_scope.specs.declared.declaration.Sort.TheVariants as sort
use Rattle.rule_scope.specs.declared.declaration.Standing.{Standing}
use Rattle.rule_scope.specs.Outline.{Outline, names_of, entry_at, member_at}
use Rattle.rule_scope.specs.Uses.{same_sort}
use Rattle.rule_declares.specs.Bodies.{outline_of}
use Rattle.rule_declares.specs.Differing.{HaveDifferentNames}
use Rattle.rule_declares.proofs.Names.{AreOnce, once_differ}
use Rattle.rule_declares.proofs.Regions.{region_name, region_once}
use Rattle.rule_declares.specs.LookUps.{started_header}
use Rattle.rule_declares.specs.OrdinalValues.{tuples_of}
use Rattle.rule_declares.specs.PortList.{signal_by, signals_of, element, elements_with}
use Rattle.rule_declares.specs.PortList.{elements_by, header_ports, ports_of}
use Rattle.rule_ports.proofs.Once.{AreOf, of_map, once_map, once_flat}
use Rattle.rule_ports.proofs.Tuples.{tuples_once}

-- what holds of each item of a list
abbrev pub Each : {A : Type 0} → (A → Type 0) → List A → Type 0
Each {A} P xs = (i : ℕ) (x : A) → slice_get xs i ≡ Some x → P x

pub each_none : {A : Type 0} (P : A → Type 0) → Each P []
each_none P i x e = cc

pub each_both : {A : Type 0} (P : A → Type 0) (xs ys : List A) → Each P xs → Each P ys
    → Each P (xs ++ ys)
each_both P [] ys h k i x e = k i x e
each_both P (z ∷ zs) ys h k zero x e = h zero x e
each_both P (z ∷ zs) ys h k (suc i) x e = each_both P zs ys (λ j. h (suc j)) k i x e

pub each_flat : {A X : Type 0} (P : A → Type 0) (f : X → List A) → ((x : X) → Each P (f x))
    → (xs : List X) → Each P (flat_map f xs)
each_flat P f h [] = each_none P
each_flat P f h (x ∷ xs) = each_both P (f x) (flat_map f xs) (h x) (each_flat P f h xs)

pub each_map : {A B : Type 0} (P : A → Type 0) (g : B → A) → ((y : B) → P (g y)) → (ys : List B)
    → Each P (map g ys)
each_map P g h [] i x e = cc
each_map P g h (y ∷ ys) zero x e = subst P (same_Some (g y) x e) (h y)
each_map P g h (y ∷ ys) (suc i) x e = each_map P g h ys i x e

-- the names of signals and ports
abbrev pub signal_name : Signal → List ℕ
signal_name x = x.name.bytes

abbrev pub port_name : Port → List ℕ × List ℤ
port_name p = (p.name.bytes, p.index)

abbrev itself : List ℕ → List ℕ
itself n = n

abbrev first : List ℕ × List ℤ → List ℕ
first n = n.0

-- signals
signal_of : (o : Outline) (r : Role) (n : List ℕ × Standing) (m : Option Member)
    → AreOf signal_name itself n.0 (signal_by o r n m)
signal_of o r n (Some (member.Interaction s)) = (refl, tt)
signal_of o r n _ = tt

signal_once : (o : Outline) (r : Role) (n : List ℕ × Standing) (m : Option Member)
    → AreOnce signal_name (signal_by o r n m)
signal_once o r n (Some (member.Interaction s)) = (tt, tt)
signal_once o r n _ = tt

signals_once : (s : Spec) (side : Option Side)
    → AreOnce signal_name (signals_of (outline_of s) side)
signals_once s None = tt
signals_once s (Some side) =
    let o = outline_of s in
    once_flat signal_name itself region_name
    (λ (n : List ℕ × Standing). signal_by o side.role n (member_at o n.1.place))
    (λ n. signal_of o side.role n (member_at o n.1.place))
    (λ n. signal_once o side.role n (member_at o n.1.place))
    (names_of o side.channel) (region_once s side.channel)

-- ports
elements_of : (name : List ℕ) (signals : List Signal) (dims : Option (List Kind))
    → AreOf port_name first name (elements_with name signals dims)
elements_of name signals None = tt
elements_of name signals (Some kinds) =
    of_map port_name first name (element name kinds signals) (λ t. refl) (tuples_of kinds)

elements_once : (name : List ℕ) (signals : List Signal) (dims : Option (List Kind))
    → AreOnce port_name (elements_with name signals dims)
elements_once name signals None = tt
elements_once name signals (Some kinds) =
    once_map {B = List ℤ} (λ (t : List ℤ). t) port_name (element name kinds signals)
    (λ s t e. ap (λ (n : List ℕ × List ℤ). n.1) e) (tuples_of kinds) (tuples_once kinds)

point_of : (o : Outline) (name : List ℕ) (e : Option Entry)
    → AreOf port_name first name (elements_by o name e)
point_of o name None = tt
point_of o name (Some e) = by (same_sort sort.Point e.declared.sort)
  where
    by : (b : Bool) → AreOf port_name first name (if b then elements_with name (signals_of o e.side)
        e.dims else [])
    by true = elements_of name (signals_of o e.side) e.dims
    by false = tt

point_once : (o : Outline) (name : List ℕ) (e : Option Entry)
    → AreOnce port_name (elements_by o name e)
point_once o name None = tt
point_once o name (Some e) = by (same_sort sort.Point e.declared.sort)
  where
    by : (b : Bool) → AreOnce port_name (if b then elements_with name (signals_of o e.side) e.dims
        else [])
    by true = elements_once name (signals_of o e.side) e.dims
    by false = tt

ports_once : (s : Spec) (header : Option ℕ)
    → AreOnce port_name (header_ports (outline_of s) header)
ports_once s None = tt
ports_once s (Some header) =
    let o = outline_of s in
    once_flat port_name first region_name
    (λ (n : List ℕ × Standing). elements_by o n.0 (entry_at o n.1.place))
    (λ n. point_of o n.0 (entry_at o n.1.place)) (λ n. point_once o n.0 (entry_at o n.1.place))
    (names_of o header) (region_once s header)

pub ports_differ : (s : Spec)
    → HaveDifferentNames {N = List ℕ × List ℤ} (λ p. (p.name.bytes, p.index)) (ports_of s)
unfolding ports_of
ports_differ s = once_differ port_name (ports_of s)
    (ports_once s (started_header (outline_of s) s.first))

-- a property of ports of any name, kinds, side and subscripts is one of each port
module _ (P : Port → Type 0) (o : Outline) (each : (name : List ℕ) (kinds : List Kind)
    (side : Option Side) (t : List ℤ) → P (element name kinds (signals_of o side) t)) where
  elements_each : (name : List ℕ) (side : Option Side) (dims : Option (List Kind))
      → Each P (elements_with name (signals_of o side) dims)
  elements_each name side None = each_none P
  elements_each name side (Some kinds) = each_map P (element name kinds (signals_of o side))
      (each name kinds side) (tuples_of kinds)

  point_each : (name : List ℕ) (e : Option Entry) → Each P (elements_by o name e)
  point_each name None = each_none P
  point_each name (Some e) = by (same_sort sort.Point e.declared.sort)
    where
      by : (b : Bool) → Each P (if b then elements_with name (signals_of o e.side) e.dims else [])
      by true = elements_each name e.side e.dims
      by false = each_none P

  header_each : (header : Option ℕ) → Each P (header_ports o header)
  header_each None = each_none P
  header_each (Some header) =
      each_flat P (λ (n : List ℕ × Standing). elements_by o n.0 (entry_at o n.1.place))
      (λ n. point_each n.0 (entry_at o n.1.place)) (names_of o header)

pub of_each : (s : Spec) (P : Port → Type 0) → ((name : List ℕ) (kinds : List Kind)
    (side : Option Side) (t : List ℤ) → P (element name kinds (signals_of (outline_of s) side) t))
    → Each P (ports_of s)
unfolding ports_of
of_each s P each = header_each P (outline_of s) each (started_header (outline_of s) s.first)

pub signals_differ : (s : Spec) (i : ℕ) (p : Port) → slice_get (ports_of s) i ≡ Some p
    → HaveDifferentNames (λ (x : Signal). x.name.bytes) p.signals
signals_differ s = of_each s (λ p. HaveDifferentNames signal_name p.signals)
    (λ name kinds side t. once_differ signal_name (signals_of (outline_of s) side)
    (signals_once s side))
