-- Where a view tells a shape and another of its sort shows it, they are the same but for places.
use Rattle.std.proofs.Common.{◌≡◌, List, [], ◌∷◌, ◌++◌, sym, ◌∙◌, subst}
use Rattle.std.proofs.lemmas.List.{append-nil}
use Rattle.text_reader.specs.Grammar.{Shape}
use Rattle.text_reader.specs.Shown.{View, Shows, empty, pair, first, second, nodes, sections}
use Rattle.text_reader.specs.Shown.{s_kept, s_at, s_pair, s_first, s_second, s_given, s_node}
use Rattle.text_reader.specs.Shown.{s_more, s_no_section, s_first_section, s_second_section}
use Rattle.text_reader.proofs.Alike.{Sort, IsOf, All, all_tagged, f_nowhere, f_empty, f_kept, f_at}
use Rattle.text_reader.proofs.Alike.{f_pair, f_first, f_second, f_out, f_in, f_part, f_parts}
use Rattle.text_reader.proofs.Alike.{f_sections}
use Rattle.text_printer.specs.Aside.{Tells, a_empty, a_kept, a_at, a_pair, a_first, a_second}
use Rattle.text_printer.specs.Aside.{a_given, a_node, a_none, a_more, Alike, b_empty, b_kept, b_at}
use Rattle.text_printer.specs.Aside.{b_pair, b_first, b_second, b_given, b_node, b_none, b_more}
use Rattle.text_printer.specs.PlainNodes.{section}

module _ {V N G : Type 0} (tag : N → G) (layer plain : N → View V N) where
  -- What one part tells and another of its tag shows: views of one sort; or points and exports in
  -- one section each, and in sections in any order.
  pub data Twin : View V N → View V N → View V N → Type 0 where
    w_same : {s : Sort V N G} {w x : View V N} → IsOf tag s w → IsOf tag s x → Twin w x x
    w_pair : {w x y w' x' y' : View V N} → Twin w x y → Twin w' x' y'
        → Twin (pair w w') (pair x x') (pair y y')
    w_neither : (os qs : List N)
        → Twin empty (sections nodes nodes os qs) (section first os (section second qs empty))
    w_first : (h : G) (n : N) (ns os qs : List N) → All tag h (n ∷ ns) → All tag h os
        → Twin (pair (first (nodes (n ∷ ns))) empty) (sections nodes nodes os qs)
        (section first os (section second qs empty))
    w_second : (k : G) (n : N) (ns os qs : List N) → All tag k (n ∷ ns) → All tag k qs
        → Twin (pair (second (nodes (n ∷ ns))) empty) (sections nodes nodes os qs)
        (section first os (section second qs empty))
    w_both : (h k : G) (n n' : N) (ns ns' os qs : List N) → All tag h (n ∷ ns)
        → All tag k (n' ∷ ns') → All tag h os → All tag k qs
        → Twin (pair (first (nodes (n ∷ ns))) (pair (second (nodes (n' ∷ ns'))) empty))
        (sections nodes nodes os qs) (section first os (section second qs empty))

  -- Parts of one tag have layers of one sort, or such sections.
  abbrev pub Twins : Type 0
  Twins = (n m : N) → tag n ≡ tag m → Twin (plain n) (layer m) (plain m)

  module _ (twins : Twins) where
    none_more : {n : N} {ns : List N} {t : Shape V} → Tells plain (nodes (n ∷ ns)) t
        → Shows layer (nodes []) t → ⊥
    none_more (a_more d d') e = elim e [ ]

    pub same_twin : {w x y : View V N} {t : Shape V} → Tells plain w t → Twin w x y
        → Shows layer x t → Alike plain w y
    same_twin d (w_same f_nowhere k) e = elim d [ ]
    same_twin d (w_same h f_nowhere) e = elim e [ ]
    same_twin a_empty (w_same f_empty f_empty) e = b_empty
    same_twin (a_kept _) (w_same (f_kept v) (f_kept u)) (s_kept _) = b_kept v
    same_twin (a_at p q d) (w_same (f_at _ h) (f_at r k)) (s_at _ e) =
        b_at p r (same_twin d (w_same h k) e)
    same_twin (a_pair d d') (w_same (f_pair h i) (f_pair k l)) (s_pair e e') =
        b_pair (same_twin d (w_same h k) e) (same_twin d' (w_same i l) e')
    same_twin (a_first d) (w_same (f_first h) (f_first k)) (s_first e) =
        b_first (same_twin d (w_same h k) e)
    same_twin (a_first d) (w_same (f_first h) (f_second k)) e = elim e [ ]
    same_twin (a_second d) (w_same (f_second h) (f_first k)) e = elim e [ ]
    same_twin (a_second d) (w_same (f_second h) (f_second k)) (s_second e) =
        b_second (same_twin d (w_same h k) e)
    same_twin a_empty (w_same f_out f_out) e = b_empty
    same_twin a_empty (w_same f_out (f_in k)) e = elim e [ ]
    same_twin (a_given d) (w_same (f_in h) f_out) e = elim e [ ]
    same_twin (a_given d) (w_same (f_in h) (f_in k)) (s_given e) =
        b_given (same_twin d (w_same h k) e)
    same_twin (a_node d) (w_same (f_part n p) (f_part m q)) (s_node e) =
        b_node (same_twin d (twins n m (p ∙ sym q)) e)
    same_twin a_none (w_same (f_parts [] p) (f_parts [] q)) e = b_none
    same_twin a_none (w_same (f_parts [] p) (f_parts (m ∷ ms) q)) e = elim e [ ]
    same_twin (a_more d d') (w_same (f_parts (n ∷ ns) p) (f_parts [] q)) e = elim e [ ]
    same_twin (a_more (a_node d) d') (w_same (f_parts {g} (n ∷ ns) p) (f_parts (m ∷ ms) q))
        (s_more (s_node e) e') =
        b_more (b_node (same_twin d (twins n m (p.0 ∙ sym q.0)) e))
        (same_twin d' (w_same (f_parts {g = g} ns p.1) (f_parts ms q.1)) e')
    same_twin d (w_same (f_sections ns ms h i h' i' p p') k) e = elim d [ ]
    same_twin (a_pair d d') (w_pair p q) (s_pair e e') =
        b_pair (same_twin d p e) (same_twin d' q e')
    same_twin a_empty (w_neither os qs) s_no_section = b_empty
    same_twin (a_pair (a_first d) a_empty) (w_first h n ns os qs a c)
        (s_first_section [] e s_no_section) = absurd (none_more d e)
    same_twin (a_pair (a_first d) a_empty) (w_first h n ns os qs a c)
        (s_first_section (m ∷ ks) e s_no_section) =
        subst (λ l. Alike plain (pair (first (nodes (n ∷ ns))) empty)
        (pair (first (nodes (m ∷ l))) empty)) (sym (append-nil ks))
        (b_pair (b_first (same_twin d (w_same (f_parts {g = h} (n ∷ ns) a) (f_parts (m ∷ ks)
        (all_tagged {N = N} tag h (m ∷ ks) [] c).0)) e)) b_empty)
    same_twin (a_pair (a_second d) a_empty) (w_second k n ns os qs b f)
        (s_second_section [] e s_no_section) = absurd (none_more d e)
    same_twin (a_pair (a_second d) a_empty) (w_second k n ns os qs b f)
        (s_second_section (m ∷ ks) e s_no_section) =
        subst (λ l. Alike plain (pair (second (nodes (n ∷ ns))) empty)
        (pair (second (nodes (m ∷ l))) empty)) (sym (append-nil ks))
        (b_pair (b_second (same_twin d (w_same (f_parts {g = k} (n ∷ ns) b) (f_parts (m ∷ ks)
        (all_tagged {N = N} tag k (m ∷ ks) [] f).0)) e)) b_empty)
    same_twin (a_pair (a_first d) (a_pair (a_second d') a_empty))
        (w_both h k n n' ns ns' os qs a b c f)
        (s_first_section [] e (s_second_section ls e' s_no_section)) = absurd (none_more d e)
    same_twin (a_pair (a_first d) (a_pair (a_second d') a_empty))
        (w_both h k n n' ns ns' os qs a b c f)
        (s_first_section (m ∷ ks) e (s_second_section [] e' s_no_section)) =
        absurd (none_more d' e')
    same_twin (a_pair (a_first d) (a_pair (a_second d') a_empty))
        (w_both h k n n' ns ns' os qs a b c f)
        (s_first_section (m ∷ ks) e (s_second_section (m' ∷ ls) e' s_no_section)) =
        subst (λ l. Alike plain (pair (first (nodes (n ∷ ns))) (pair (second (nodes (n' ∷ ns')))
        empty)) (pair (first (nodes (m ∷ l))) (section second ((m' ∷ ls) ++ []) empty)))
        (sym (append-nil ks))
        (subst (λ l. Alike plain (pair (first (nodes (n ∷ ns)))
        (pair (second (nodes (n' ∷ ns'))) empty)) (pair (first (nodes (m ∷ ks)))
        (pair (second (nodes (m' ∷ l))) empty))) (sym (append-nil ls))
        (b_pair (b_first (same_twin d (w_same (f_parts {g = h} (n ∷ ns) a) (f_parts (m ∷ ks)
        (all_tagged {N = N} tag h (m ∷ ks) [] c).0)) e))
        (b_pair (b_second (same_twin d' (w_same (f_parts {g = k} (n' ∷ ns') b) (f_parts (m' ∷ ls)
        (all_tagged {N = N} tag k (m' ∷ ls) [] f).0)) e')) b_empty)))
