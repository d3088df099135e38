-- Which shapes what was seen of values has.
use Rattle.std.specs.Prelude.{◌≡◌, ℤ, List, [], ◌∷◌, IsTrue, replicate}
use Rattle.text_reader.specs.Grammar.{nothing, both, left, right}
use Rattle.est_syntax.specs.declared.kind.Kind.{Kind, out-Kind}
use Rattle.est_syntax.specs.declared.kind.Kind.TheOpen as kinds
use Rattle.est_syntax.specs.declared.kind.FieldKind.{FieldKind}
use Rattle.est_values.specs.FittingValues.{ordinal_count, is_scalar}
use Rattle.est_seen.specs.declared.seen.Seen.{Seen, out-Seen}
use Rattle.est_seen.specs.declared.seen.Seen.TheOpen as seen
use Rattle.text_reader.specs.Going.{Shape}
use Rattle.text_values.specs.TraceGrammar.{field_kinds}
use Rattle.text_values.specs.ValueShapes.{ShowsOrdinal, ShowsSet}

mutual
  -- What was seen of a value of a kind has this shape (`seen`): `?`, or that of a value with `?`
  -- among its components.
  pub data ShowsSeen : Kind → Seen → Shape → Type 0 where
    any : {k : Kind} {x : Seen} → out-Seen x ≡ seen.Any → ShowsSeen k x (left nothing)
    undefined : {k : Kind} {x : Seen} → IsTrue (is_scalar k) → out-Seen x ≡ seen.Undefined
        → ShowsSeen k x (right (right nothing))
    ordinal : {k : Kind} {x : Seen} {t : Shape} (z : ℤ) → out-Seen x ≡ seen.Ordinal z
        → ShowsOrdinal k z t → ShowsSeen k x (right (left t))
    set : {k : Kind} {x : Seen} {t : Shape} (base : Kind) (zs : List ℤ)
        → out-Kind k ≡ kinds.SetOf base → out-Seen x ≡ seen.Set zs → ShowsSet base zs t
        → ShowsSeen k x (right (left t))
    array : {k : Kind} {x : Seen} {t : Shape} (index of : Kind) (parts : List Seen)
        → out-Kind k ≡ kinds.ArrayOf index of → out-Seen x ≡ seen.Group parts
        → ShowsSeens (replicate (ordinal_count index) of) parts t
        → ShowsSeen k x (right (both t nothing))
    fields : {k : Kind} {x : Seen} {t : Shape} (fields : List FieldKind) (parts : List Seen)
        → out-Kind k ≡ kinds.Fields fields → out-Seen x ≡ seen.Group parts
        → ShowsSeens (field_kinds fields) parts t → ShowsSeen k x (right (both t nothing))

  -- What was seen of values of these kinds has shapes one after the other: `AreShown ShowsSeen`.
  pub data ShowsSeens : List Kind → List Seen → Shape → Type 0 where
    no_values : ShowsSeens [] [] nothing
    one_more : {k : Kind} {ks : List Kind} {x : Seen} {xs : List Seen} {t u : Shape}
        → ShowsSeen k x t → ShowsSeens ks xs u → ShowsSeens (k ∷ ks) (x ∷ xs) (both t u)
