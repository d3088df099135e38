-- The ports of a specification are found by their names and subscripts.
use Rattle.std.proofs.Common.{◌≡◌, ℕ, ℤ, Bool, true, false, if◌then◌else◌, List, [], map, refl}
use Rattle.std.proofs.Common.{sym, ◌∙◌, Option, Some, None, slice_get}
use Rattle.std.specs.Option.{unwrap_or}
use Rattle.est_syntax.specs.declared.kind.Kind.{Kind}
use Rattle.est_syntax.specs.declared.ports.Port.{Port}
use Rattle.est_syntax.specs.declared.specification.Spec.{Spec}
use Rattle.est_meaning.specs.rule_scope.declared.declaration.Entry.{Entry}
use Rattle.est_meaning.specs.rule_scope.declared.declaration.Sort.TheVariants as sort
use Rattle.est_meaning.specs.rule_scope.declared.declaration.Standing.{Standing}
use Rattle.est_meaning.specs.rule_scope.Outline.{Outline, Region, names_of, entry_at}
use Rattle.est_meaning.specs.rule_scope.Uses.{same_sort}
use Rattle.est_meaning.specs.rule_declares.Bodies.{outline_of}
use Rattle.est_meaning.specs.rule_declares.Differing.{HaveDifferentNames}
use Rattle.est_meaning.proofs.of_rule_declares.Names.{once_differ}
use Rattle.est_meaning.proofs.of_rule_declares.Regions.{region_name, region_once}
use Rattle.est_meaning.specs.rule_declares.LookUps.{started_header}
use Rattle.est_meaning.specs.rule_declares.OrdinalValues.{tuples_of}
use Rattle.est_meaning.specs.rule_declares.PortList.{signals_of, element, elements_with}
use Rattle.est_meaning.specs.rule_declares.PortList.{elements_by, ports_in}
use Rattle.est_meaning.specs.rule_declares.PortList.{header_ports, ports_of}
use Rattle.rule_ports.proofs.Different.{ports_differ, signals_differ}
use Rattle.est_trace.specs.PortNames.{GoodPorts, signal_name}
use Rattle.est_trace.proofs.Blocks.{Block, elements, good}

-- the array that a name declares, and one without ports where it declares none
abbrev block_by : Outline → List ℕ → Option Entry → Block
block_by o name None = record { name = name; kinds = []; signals = [] }
block_by o name (Some e) = record {
  name = name;
  kinds = unwrap_or e.dims [];
  signals = signals_of o e.side;
}

made_by : (o : Outline) (name : List ℕ) (e : Option Entry) (r : ℕ) (p : Port)
    → slice_get (elements_by o name e) r ≡ Some p
    → elements_by o name e ≡ elements (block_by o name e)
made_by o name None r p h = cc
made_by o name (Some e) r p h = by (same_sort sort.Point e.declared.sort) e.dims h
  where
    by : (b : Bool) (d : Option (List Kind))
        → slice_get (if b then elements_with name (signals_of o e.side) d else []) r ≡ Some p
        → (if b then elements_with name (signals_of o e.side) d else [])
        ≡ map (element name (unwrap_or d []) (signals_of o e.side)) (tuples_of (unwrap_or d []))
    by true None q = cc
    by true (Some ks) q = refl
    by false d q = cc

abbrev Named : Type 0
Named = List ℕ × Standing

module _ (o : Outline) where
  abbrev ports_by : Named → List Port
  ports_by n = elements_by o n.0 (entry_at o n.1.place)

  abbrev block_of : Named → Block
  block_of n = block_by o n.0 (entry_at o n.1.place)

  block_name : (name : List ℕ) (e : Option Entry) → (block_by o name e).name ≡ name
  block_name name None = refl
  block_name name (Some e) = refl

  good_in : (names : Region) → HaveDifferentNames region_name names
      → HaveDifferentNames {N = List ℕ × List ℤ} (λ p. (p.name.bytes, p.index)) (ports_in o names)
      → ((i : ℕ) (p : Port) → slice_get (ports_in o names) i ≡ Some p
      → HaveDifferentNames signal_name p.signals) → GoodPorts (ports_in o names)
  good_in names once = good ports_by block_of
      (λ n r p h. made_by o n.0 (entry_at o n.1.place) r p h) names
      (λ i j x y e d q. once i j x y e d (sym (block_name x.0 (entry_at o x.1.place)) ∙ q
      ∙ block_name y.0 (entry_at o y.1.place)))

good_header : (s : Spec) (header : Option ℕ)
    → HaveDifferentNames {N = List ℕ × List ℤ} (λ p. (p.name.bytes, p.index))
    (header_ports (outline_of s) header)
    → ((i : ℕ) (p : Port) → slice_get (header_ports (outline_of s) header) i ≡ Some p
    → HaveDifferentNames signal_name p.signals)
    → GoodPorts (header_ports (outline_of s) header)
good_header s None d g = good_in (outline_of s) [] (λ i j x y e f q. cc) d g
good_header s (Some header) d g =
    let o = outline_of s in
    good_in o (names_of o header) (once_differ region_name (names_of o header)
    (region_once s header)) d g

pub good_ports : (s : Spec) → GoodPorts (ports_of s)
unfolding ports_of
good_ports s = good_header s (started_header (outline_of s) s.first) (ports_differ s)
    (signals_differ s)
