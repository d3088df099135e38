-- The number of ports is the one that is told.
use Rattle.std.proofs.Common.{◌≡◌, ℕ, ◌+◌, ◌*◌, min, Bool, true, false}
use Rattle.std.proofs.Common.{if◌then◌else◌, List, [], ◌∷◌, length, refl, sym, ap, ◌∙◌}
use Rattle.std.proofs.Common.{Option, Some, None, arith, length-append}
use Rattle.std.proofs.lemmas.List.{length-map}
use Rattle.est_syntax.specs.declared.kind.Kind.{Kind}
use Rattle.est_syntax.specs.declared.specification.Spec.{Spec}
use Rattle.rule_scope.specs.declared.declaration.Entry.{Entry}
use Rattle.rule_scope.specs.declared.declaration.Sort.TheVariants as sort
use Rattle.rule_scope.specs.Outline.{Outline, Region, names_of, entry_at}
use Rattle.rule_scope.specs.Uses.{same_sort}
use Rattle.rule_declares.specs.rule_kinds.TypeTexts.{count}
use Rattle.rule_declares.specs.rule_kinds.Dims.{elements, dims_elements}
use Rattle.rule_declares.specs.Bodies.{outline_of}
use Rattle.rule_declares.specs.OutlineLaws.{HaveElements}
use Rattle.rule_declares.proofs.Elements.{have_elements}
use Rattle.rule_declares.specs.LookUps.{started_header}
use Rattle.rule_ports.specs.Counts.{counted, counts_of, header_elements}
use Rattle.rule_ports.specs.Counts.{names_elements, declared_elements}
use Rattle.rule_declares.specs.OrdinalValues.{tuples_of}
use Rattle.rule_declares.specs.PortList.{signals_of, element, elements_with, elements_by, ports_in}
use Rattle.rule_declares.specs.PortList.{header_ports, ports_of}
use Rattle.rule_ports.proofs.Capped.{most, capped_product, capped_sum}
use Rattle.rule_ports.proofs.Tuples.{number_of, tuples_number}

pub elements_number : (ks : List Kind) → elements ks ≡ min (number_of ks) most
elements_number [] = refl
elements_number (k ∷ ks) =
    ap (λ n. min (count k * n) most) (elements_number ks)
    ∙ capped_product (count k) (number_of ks) most

dims_number : (name : List ℕ) (o : Outline) (e : Entry)
    → dims_elements e.dims ≡ min (length (elements_with name (signals_of o e.side) e.dims)) most
dims_number name o e = by e.dims
  where
    by : (d : Option (List Kind))
        → dims_elements d ≡ min (length (elements_with name (signals_of o e.side) d)) most
    by None = refl
    by (Some ks) =
        elements_number ks
        ∙ ap (λ n. min n most) (sym (length-map (tuples_of ks) (element name ks (signals_of o e.side))
        ∙ tuples_number ks))

-- the elements of a name are its ports
point_number : (o : Outline) → HaveElements o → (name : List ℕ) (place : ℕ)
    → declared_elements (entry_at o place)
    ≡ min (length (elements_by o name (entry_at o place))) most
point_number o h name place = by (entry_at o place) refl
  where
    sorted : (e : Entry) (b : Bool) → (if b then dims_elements e.dims else 0)
        ≡ min (length (if b then elements_with name (signals_of o e.side) e.dims else [])) most
    sorted e true = dims_number name o e
    sorted e false = refl

    by : (x : Option Entry) → entry_at o place ≡ x
        → declared_elements x ≡ min (length (elements_by o name x)) most
    by None q = refl
    by (Some e) q = h place e q ∙ sorted e (same_sort sort.Point e.declared.sort)

names_number : (o : Outline) → HaveElements o → (names : Region)
    → names_elements o names ≡ min (length (ports_in o names)) most
names_number o h [] = refl
names_number o h ((name, s) ∷ names) =
    let a = point_number o h name s.place in
    let b = names_number o h names in
    ap (λ n. min (n + names_elements o names) most) a
    ∙ ap (λ n. min (min (length (elements_by o name (entry_at o s.place))) most + n) most) b
    ∙ capped_sum (length (elements_by o name (entry_at o s.place))) (length (ports_in o names)) most
    ∙ ap (λ n. min n most) (sym (length-append (elements_by o name (entry_at o s.place))
    (ports_in o names)))

header_number : (o : Outline) → HaveElements o → (header : Option ℕ)
    → header_elements o header ≡ min (length (header_ports o header)) most
header_number o h None = refl
header_number o h (Some header) = names_number o h (names_of o header)

of_32 : (n : ℕ) → counted (min n most) ≡ counted n
of_32 n = omega arith

pub ports_counted : (s : Spec) → (counts_of s).ports ≡ counted (length (ports_of s))
unfolding counts_of ports_of
ports_counted s =
    let header = started_header (outline_of s) s.first in
    ap counted (header_number (outline_of s) (have_elements s) header)
    ∙ of_32 (length (header_ports (outline_of s) header))
