-- The texts of what was seen of values, by their forms.
use Rattle.std.proofs.Common.{◌≡◌, ◌∙◌, sym, ap, ℤ, List, codes}
use Rattle.est_syntax.specs.declared.kind.Kind.{Kind, out-Kind}
use Rattle.est_seen.specs.declared.seen.Seen.{Seen, out-Seen}
use Rattle.est_seen.specs.declared.seen.Seen.TheOpen as opened
use Rattle.est_seen.specs.declared.seen.Seen.TheFolds.{fold-Seen, fold_out-Seen}
use Rattle.text_values.specs.WrittenOrdinals.{ordinal_text}
use Rattle.text_values.specs.WrittenSeen.{seen_by, seen_text, seen_group_text}
use Rattle.text_values.specs.WrittenValues.{Text, told, set_text, base_by}
use Rattle.text_values.proofs.ValueTexts.{folded_group}

-- the text of what was seen, by its kind
abbrev folded : Seen → Text
folded = fold-Seen Text seen_by

-- any value,
pub any_text : (k : Kind) (x : Seen) → out-Seen x ≡ opened.Any → codes "?" ≡ seen_text k x
unfolding seen_text
any_text k x e = sym (ap (told k) (rw e at (fold_out-Seen Text seen_by x)))

-- an undefined scalar,
pub undefined_seen : (k : Kind) (x : Seen) → out-Seen x ≡ opened.Undefined
    → codes "_" ≡ seen_text k x
unfolding seen_text
undefined_seen k x e = sym (ap (told k) (rw e at (fold_out-Seen Text seen_by x)))

-- an ordinal,
pub ordinal_seen : (k : Kind) (x : Seen) (z : ℤ) → out-Seen x ≡ opened.Ordinal z
    → ordinal_text k z ≡ seen_text k x
unfolding seen_text
ordinal_seen k x z e = sym (ap (told k) (rw e at (fold_out-Seen Text seen_by x)))

-- a set
pub set_seen : (k : Kind) (x : Seen) (zs : List ℤ) → out-Seen x ≡ opened.Set zs
    → set_text (base_by (out-Kind k) k) zs ≡ seen_text k x
unfolding seen_text
set_seen k x zs e = sym (ap (told k) (rw e at (fold_out-Seen Text seen_by x)))

-- and a group
pub group_seen : (k : Kind) (x : Seen) (parts : List Seen) → out-Seen x ≡ opened.Group parts
    → seen_group_text k parts ≡ seen_text k x
unfolding seen_text
group_seen k x parts e =
    let all = ap (told k) (rw e at (fold_out-Seen Text seen_by x)) in
    sym (all ∙ folded_group folded k parts)
