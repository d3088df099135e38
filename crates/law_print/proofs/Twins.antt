-- What a specification tells and another shows: they are the same but for their places.
use Rattle.std.proofs.Common.{◌≡◌, ◌⊎◌, inl, inr, List, [], ◌∷◌, map, refl, sym, ◌∙◌, subst}
use Rattle.text_reader.specs.Shown.{Shows, empty, first, second, node, nodes, sections, s_node}
use Rattle.text_reader.proofs.Alike as alike
use Rattle.text_reader.proofs.Alike.{f_empty}
use Rattle.est_syntax.specs.declared.header.Header.{Header}
use Rattle.est_syntax.specs.declared.specification.Spec.{Spec}
use Rattle.text_reader.specs.Going.{Shape}
use Rattle.text_productions.specs.Nodes as whole
use Rattle.text_productions.specs.Nodes.{Node, a_header, a_specification, a_point, an_export}
use Rattle.text_productions.proofs.Sorts.{Tag, headers, points, exports, tag, IsOf, all}
use Rattle.text_productions.proofs.Sorts.{used_is, attribute_is, parameters_are}
use Rattle.text_productions.proofs.Layers.{sort_of, layer_is}
use Rattle.text_printer.specs.Aside.{Tells, a_node, b_node}
use Rattle.text_printer.specs.PlainNodes.{plain_layer, section}
use Rattle.est_print.specs.PrintedText.{SameButPlaces}
use Rattle.law_print.proofs.SameViews.{Twin, w_same, w_pair, w_neither, w_first}
use Rattle.law_print.proofs.SameViews.{w_second, w_both, Twins, same_twin}

abbrev All : Tag → List Node → Type 0
All g ns = alike.All tag g ns

-- but for headers a printer is shown what a reader is shown
plain_is : (n : Node) → (tag n ≡ headers → ⊥) → whole.layer n ≡ plain_layer n
plain_is (a_header h) other = absurd (other refl)
plain_is n other = refl

header_of : (n : Node) → tag n ≡ headers → (h : Header) × (n ≡ a_header h)
header_of (a_header h) e = (h, refl)
header_of n e = absurd cc

sections_twin : (ns ms os qs : List Node) → All points ns → All exports ms → All points os
    → All exports qs
    → Twin tag whole.layer plain_layer (section first ns (section second ms empty))
    (sections nodes nodes os qs) (section first os (section second qs empty))
sections_twin [] [] os qs a b c d = w_neither os qs
sections_twin (n ∷ ns) [] os qs a b c d = w_first points n ns os qs a c
sections_twin [] (m ∷ ms) os qs a b c d = w_second exports m ms os qs b d
sections_twin (n ∷ ns) (m ∷ ms) os qs a b c d = w_both points exports n m ns ms os qs a b c d

header_twin : (h g : Header)
    → Twin tag whole.layer plain_layer (plain_layer (a_header h)) (whole.layer (a_header g))
    (plain_layer (a_header g))
header_twin h g =
    w_pair (w_same (used_is h.name) (used_is g.name))
    (w_pair (w_same (attribute_is h.system) (attribute_is g.system))
    (w_pair (w_same (parameters_are h.params) (parameters_are g.params))
    (w_pair (sections_twin (map a_point h.points) (map an_export h.exports)
    (map a_point g.points) (map an_export g.exports)
    (all a_point points (λ x. refl) h.points) (all an_export exports (λ x. refl) h.exports)
    (all a_point points (λ x. refl) g.points) (all an_export exports (λ x. refl) g.exports))
    (w_same f_empty f_empty))))

other_twin : (n m : Node) → tag n ≡ tag m → (tag n ≡ headers → ⊥)
    → Twin tag whole.layer plain_layer (plain_layer n) (whole.layer m) (plain_layer m)
other_twin n m e other =
    let p = plain_is n other in
    let q = plain_is m (λ f. other (e ∙ f)) in
    subst (λ v. Twin tag whole.layer plain_layer v (whole.layer m) (plain_layer m)) p
    (subst (λ v. Twin tag whole.layer plain_layer (whole.layer n) (whole.layer m) v) q
    (w_same (layer_is n)
    (subst (λ g. IsOf (sort_of g) (whole.layer m)) (sym e) (layer_is m))))

is_header : (g : Tag) → (g ≡ headers) ⊎ (g ≡ headers → ⊥)
is_header headers = inl refl
is_header g = inr (λ e. cc)

twins : Twins tag whole.layer plain_layer
twins n m e = elim (is_header (tag n)) [
  | inl p ↦ headers_twin n m p (sym e ∙ p)
  | inr other ↦ other_twin n m e other
]
  where
    headers_twin : (n m : Node) → tag n ≡ headers → tag m ≡ headers
        → Twin tag whole.layer plain_layer (plain_layer n) (whole.layer m) (plain_layer m)
    headers_twin n m p q =
        let h = header_of n p in
        let g = header_of m q in
        subst
        (λ v. Twin tag whole.layer plain_layer (plain_layer v) (whole.layer m) (plain_layer m))
        (sym h.1) (subst (λ v. Twin tag whole.layer plain_layer (plain_layer (a_header h.0))
        (whole.layer v) (plain_layer v)) (sym g.1) (header_twin h.0 g.0))

-- a specification that tells a shape is the same, but for places, as one that shows it
pub told_and_shown : (a b : Spec) (t : Shape) → Tells plain_layer (node (a_specification a)) t
    → Shows whole.layer (node (a_specification b)) t → SameButPlaces a b
told_and_shown a b t (a_node d) (s_node e) = b_node (same_twin tag whole.layer plain_layer twins d
    (twins (a_specification a) (a_specification b) refl) e)
