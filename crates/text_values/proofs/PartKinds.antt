-- The kinds of the parts of groups.
use Rattle.std.proofs.Common.{◌≡◌, ◌∙◌, sym, ap, ℕ, List, Option, Some, slice_get}
use Rattle.est_syntax.specs.declared.kind.Kind.{Kind, out-Kind}
use Rattle.est_syntax.specs.declared.kind.Kind.TheOpen as kinds
use Rattle.est_syntax.specs.declared.kind.FieldKind.{FieldKind}
use Rattle.est_values.specs.FittingValues.{KindLayer}
use Rattle.text_values.specs.WrittenValues.{kinds_by, field_kinds}
use Rattle.text_values.specs.inside.Parts.{IsPartKind}
use Rattle.text_values.proofs.ValueTexts.{replicated}

pub element_part : (k index of given : Kind) (i : ℕ) → out-Kind k ≡ kinds.ArrayOf index of
    → given ≡ of → IsPartKind k i (Some given)
element_part k index of given i e q = λ n l.
    ap (λ (m : KindLayer). slice_get (kinds_by m n) i) e ∙ (replicated n i of l ∙ ap Some (sym q))

pub field_part : (k : Kind) (fs given : List FieldKind) (i : ℕ) (part : Option Kind)
    → out-Kind k ≡ kinds.Fields fs → given ≡ fs → part ≡ slice_get (field_kinds given) i
    → IsPartKind k i part
field_part k fs given i part e q r = λ n l.
    ap (λ (m : KindLayer). slice_get (kinds_by m n) i) e
    ∙ sym (r ∙ ap (λ (gs : List FieldKind). slice_get (field_kinds gs) i) q)
