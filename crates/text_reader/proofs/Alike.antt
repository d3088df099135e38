-- Where two views of one sort show one shape, they are the same. A layer, or a part of it, that
-- shows no shape at all is of any sort.
use Rattle.std.proofs.Common.{◌≡◌, ℕ, List, [], ◌∷◌, ◌++◌, Option, Some, refl, sym, ◌∙◌, ap, subst}
use Rattle.text_reader.specs.Grammar.{Shape}
use Rattle.text_reader.specs.Shown.{View, Shows, empty, kept, at, pair, first, second, given}
use Rattle.text_reader.specs.Shown.{node, nowhere, nodes, sections, s_empty, s_kept, s_at}
use Rattle.text_reader.specs.Shown.{s_pair, s_first, s_second, s_given, s_node, s_none}
use Rattle.text_reader.specs.Shown.{s_more, s_no_section, s_first_section, s_second_section}

-- What a view at one position of a grammar looks like, over tags G of parts.
pub data Sort (V N G : Type 0) : Type 0 where
  of_nothing of_kept : Sort V N G
  of_at of_option : Sort V N G → Sort V N G
  of_pair of_choice : Sort V N G → Sort V N G → Sort V N G
  of_part of_parts : G → Sort V N G
  of_sections : (f g : List N → View V N) → (s r : Sort V N G) → (h k : G) → Sort V N G

-- each part has this tag
abbrev pub All : {N G : Type 0} → (N → G) → G → List N → Type 0
All tag g [] = Unit {0}
All tag g (n ∷ ns) = (tag n ≡ g) × All tag g ns

pub all_tagged : {N G : Type 0} (tag : N → G) (g : G) (ms ls : List N) → All tag g (ms ++ ls)
    → All tag g ms × All tag g ls
all_tagged {N = N} tag g [] ls a = (tt, a)
all_tagged {N = N} tag g (m ∷ ms) ls a = let r = all_tagged {N = N} tag g ms ls a.1
    in ((a.0, r.0), r.1)

module _ {V N G : Type 0} (tag : N → G) where
  -- a view is of a sort
  pub data IsOf : Sort V N G → View V N → Type 0 where
    f_nowhere : {s : Sort V N G} → IsOf s nowhere
    f_empty : IsOf of_nothing empty
    f_kept : (v : V) → IsOf of_kept (kept v)
    f_at : {s : Sort V N G} {w : View V N} (p : ℕ) → IsOf s w → IsOf (of_at s) (at p w)
    f_pair : {s r : Sort V N G} {w x : View V N} → IsOf s w → IsOf r x
        → IsOf (of_pair s r) (pair w x)
    f_first : {s r : Sort V N G} {w : View V N} → IsOf s w → IsOf (of_choice s r) (first w)
    f_second : {s r : Sort V N G} {w : View V N} → IsOf r w → IsOf (of_choice s r) (second w)
    f_out : {s : Sort V N G} → IsOf (of_option s) empty
    f_in : {s : Sort V N G} {w : View V N} → IsOf s w → IsOf (of_option s) (given w)
    f_part : {g : G} (n : N) → tag n ≡ g → IsOf (of_part g) (node n)
    f_parts : {g : G} (ns : List N) → All tag g ns → IsOf (of_parts g) (nodes ns)
    f_sections : {f f' : List N → View V N} {s r : Sort V N G} {h k : G} (ns ms : List N)
        → ((ls : List N) → All tag h ls → IsOf s (f ls)) → ((ks ls : List N) → f ks ≡ f ls
        → ks ≡ ls)
        → ((ls : List N) → All tag k ls → IsOf r (f' ls)) → ((ks ls : List N) → f' ks ≡ f' ls
        → ks ≡ ls)
        → All tag h ns → All tag k ms → IsOf (of_sections f f' s r h k) (sections f f' ns ms)

-- Each layer is of the sort of its part, and a layer that shows a shape tells its part.
module _ {V N G : Type 0} (tag : N → G) (layer : N → View V N) (sort_of : G → Sort V N G)
    (layer_is : (n : N) → IsOf tag (sort_of (tag n)) (layer n))
    (from : G → View V N → Option N) (told : (n : N) (t : Shape V) → Shows layer (layer n) t
    → from (tag n) (layer n) ≡ Some n) where
  -- parts of one tag that have one layer are the same
  layer_one : (n m : N) {t : Shape V} → Shows layer (layer n) t → Shows layer (layer m) t
      → tag n ≡ tag m → layer n ≡ layer m → n ≡ m
  layer_one n m {t} d e p q = let r : Some n ≡ Some m = sym (told n t d) ∙ ap (from (tag n)) q
      ∙ ap (λ g. from g (layer m)) p ∙ told m t e in cc

  layer_of : (n : N) (g : G) → tag n ≡ g → IsOf tag (sort_of g) (layer n)
  layer_of n g e = subst (λ h. IsOf tag (sort_of h) (layer n)) e (layer_is n)

  -- one more part first
  abbrev push : N → View V N → View V N
  push n (nodes ns) = nodes (n ∷ ns)
  push n v = v

  -- one more section first
  abbrev join_first : List N → View V N → View V N
  join_first ls (sections f g ns ms) = sections f g (ls ++ ns) ms
  join_first ls v = v

  abbrev join_second : List N → View V N → View V N
  join_second ls (sections f g ns ms) = sections f g ns (ls ++ ms)
  join_second ls v = v

  pub same_view : {w : View V N} {t : Shape V} → Shows layer w t → {s : Sort V N G} {x : View V N}
      → IsOf tag s w → IsOf tag s x → Shows layer x t → w ≡ x
  same_view d f_nowhere k e = elim d [ ]
  same_view d h f_nowhere e = elim e [ ]
  same_view d f_empty f_empty e = refl
  same_view (s_kept y) (f_kept v) (f_kept u) (s_kept z) = refl
  same_view (s_at y d) (f_at p h) (f_at q k) (s_at z e) = ap (at y) (same_view d h k e)
  same_view (s_pair d d') (f_pair {w = w} {x} h i) (f_pair {w = w'} {x = x'} k l) (s_pair e e') =
      ap (λ v. pair v x) (same_view d h k e) ∙ ap (pair w') (same_view d' i l e')
  same_view (s_first d) (f_first h) (f_first k) (s_first e) = ap first (same_view d h k e)
  same_view (s_first d) (f_first h) (f_second k) e = elim e [ ]
  same_view (s_second d) (f_second h) (f_first k) e = elim e [ ]
  same_view (s_second d) (f_second h) (f_second k) (s_second e) = ap second (same_view d h k e)
  same_view d f_out f_out e = refl
  same_view s_empty f_out (f_in k) e = elim e [ ]
  same_view (s_given d) (f_in h) f_out e = elim e [ ]
  same_view (s_given d) (f_in h) (f_in k) (s_given e) = ap given (same_view d h k e)
  same_view (s_node d) (f_part {g} n p) (f_part m q) (s_node e) =
      ap node (layer_one n m d e (p ∙ sym q) (same_view d (layer_of n g p) (layer_of m g q) e))
  same_view d (f_parts [] p) (f_parts [] q) e = refl
  same_view s_none (f_parts [] p) (f_parts (m ∷ ms) q) e = elim e [ ]
  same_view (s_more d d') (f_parts (n ∷ ns) p) (f_parts [] q) e = elim e [ ]
  same_view (s_more (s_node d) d') (f_parts {g} (n ∷ ns) p) (f_parts (m ∷ ms) q)
      (s_more (s_node e) e') =
      ap (λ v. nodes (v ∷ ns)) (layer_one n m d e (p.0 ∙ sym q.0) (same_view d (layer_of n g p.0)
      (layer_of m g q.0) e)) ∙ ap (push m) (same_view d' (f_parts {g = g} ns p.1)
      (f_parts ms q.1) e')
  same_view s_no_section (f_sections ns ms h i h' i' p p') (f_sections os qs k j k' j' q q')
      s_no_section = refl
  same_view (s_first_section ks {ns = bs} d d') (f_sections {f} {f'} {s} {r} {h = g} {k = g'} ns ms
      h i h' i' p p') (f_sections os qs k j k' j' q q') (s_first_section cs {ns = ds} e e') =
      let a = all_tagged {N = N} tag g ks bs p in let b = all_tagged {N = N} tag g cs ds q in
      ap (λ v. sections f f' (v ++ bs) ms) (i ks cs (same_view d (h ks a.0) (h cs b.0) e))
      ∙ ap (join_first cs) (same_view d' (f_sections {s = s} {r = r} bs ms h i h' i' a.1 p')
      (f_sections ds qs k j k' j' b.1 q') e')
  same_view (s_second_section ks {ms = bs} d d') (f_sections {f} {f'} {s} {r} {h = g} {k = g'} ns ms
      h i h' i' p p') (f_sections os qs k j k' j' q q') (s_second_section cs {ms = ds} e e') =
      let a = all_tagged {N = N} tag g' ks bs p' in let b = all_tagged {N = N} tag g' cs ds q' in
      ap (λ v. sections f f' ns (v ++ bs)) (i' ks cs (same_view d (h' ks a.0) (h' cs b.0) e))
      ∙ ap (join_second cs) (same_view d' (f_sections {s = s} {r = r} ns bs h i h' i' p a.1)
      (f_sections os ds k j k' j' q b.1) e')

  pub same_node : (n m : N) (g : G) {t : Shape V} → tag n ≡ g → tag m ≡ g → Shows layer (node n) t
      → Shows layer (node m) t → n ≡ m
  same_node n m g p q (s_node d) (s_node e) = layer_one n m d e (p ∙ sym q)
      (same_view d (layer_of n g p) (layer_of m g q) e)
