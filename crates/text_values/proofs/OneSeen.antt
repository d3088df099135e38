-- A shape shows one thing at most that was seen of a value of a kind.
use Rattle.std.proofs.Common.{◌≡◌, List, ◌∷◌, refl, ap, ap₂, replicate}
use Rattle.est_syntax.specs.declared.kind.Kind.{Kind}
use Rattle.est_values.specs.FittingValues.{ordinal_count}
use Rattle.est_seen.specs.declared.seen.Seen.{Seen, out-Seen, roll-Seen, roll-out-Seen}
use Rattle.est_seen.specs.declared.seen.Seen.TheOpen as opened
use Rattle.text_reader.specs.Going.{Shape}
use Rattle.text_values.specs.TraceGrammar.{field_kinds}
use Rattle.text_values.specs.ValueShapes.{AreBracketed}
use Rattle.text_values.specs.SeenShapes.{ShowsSeen, ShowsSeens, any, undefined, ordinal, set, array}
use Rattle.text_values.specs.SeenShapes.{fields, no_values, one_more}
use Rattle.text_values.proofs.OneValue.{one_ordinal, no_ordinal_set, one_set, alike_by, same_array}
use Rattle.text_values.proofs.OneValue.{same_fields, same_set, not_both, one_bracketed}

abbrev SeenLayer : Type 0
SeenLayer = opened.Seen-F Seen

alike : (x y : Seen) (l m : SeenLayer) → out-Seen x ≡ l → out-Seen y ≡ m → l ≡ m → x ≡ y
alike x y l m e f g = alike_by out-Seen roll-Seen roll-out-Seen x y l m e f g

mutual
  pub one_seen : (k : Kind) (x y : Seen) (t : Shape) → ShowsSeen k x t → ShowsSeen k y t → x ≡ y
  one_seen k x y _ (any e) (any f) = alike x y opened.Any opened.Any e f refl
  one_seen k x y _ (undefined s e) (undefined r f) =
      alike x y opened.Undefined opened.Undefined e f refl
  one_seen k x y _ (ordinal {t = t} z e s) (ordinal w f r) =
      alike x y (opened.Ordinal z) (opened.Ordinal w) e f
      (ap opened.Ordinal (one_ordinal k z w t s r))
  one_seen k x y _ (ordinal {t = t} z e s) (set base zs i f r) =
      absurd (no_ordinal_set k base z t i s)
  one_seen k x y _ (set base zs i e s) (ordinal {t = t} z f r) =
      absurd (no_ordinal_set k base z t i r)
  one_seen k x y _ (set {t = t} base zs i e s) (set base' ws j f r) =
      alike x y (opened.Set zs) (opened.Set ws) e f
      (ap opened.Set (one_set base zs ws t s (same_set ws t i j r)))
  one_seen k x y _ (array {t = t} index of ps i e s) (array index' of' qs j f r) =
      alike x y (opened.Group ps) (opened.Group qs) e f
      (ap opened.Group (one_list (replicate (ordinal_count index) of) ps qs t s
      (same_array (λ ks. ShowsSeens ks qs t) i j r)))
  one_seen k x y _ (array {t = t} index of ps i e s) (fields fs qs j f r) = not_both i j
  one_seen k x y _ (fields {t = t} fs ps i e s) (array index of qs j f r) = not_both j i
  one_seen k x y _ (fields {t = t} fs ps i e s) (fields gs qs j f r) =
      alike x y (opened.Group ps) (opened.Group qs) e f
      (ap opened.Group (one_list (field_kinds fs) ps qs t s
      (same_fields (λ ks. ShowsSeens ks qs t) i j r)))

  one_list : (ks : List Kind) (xs ys : List Seen) (t : Shape) → ShowsSeens ks xs t
      → ShowsSeens ks ys t → xs ≡ ys
  one_list _ _ _ _ no_values no_values = refl
  one_list _ _ _ _ (one_more {k = k} {ks} {x} {xs} {t} {u} s r) (one_more {x = y} {xs = ys} p q) =
      ap₂ (λ z zs. z ∷ zs) (one_seen k x y t s p) (one_list ks xs ys u r q)

-- what was seen of parameters
pub one_seens : (ks : List Kind) (xs ys : List Seen) (t : Shape) → AreBracketed ShowsSeen ks xs t
    → AreBracketed ShowsSeen ks ys t → xs ≡ ys
one_seens = one_bracketed ShowsSeen one_seen
