-- The canonical texts of what was seen of values.
use Rattle.std.specs.Prelude.{ℕ, List, codes}
use Rattle.est_syntax.specs.declared.kind.Kind.{Kind, out-Kind}
use Rattle.est_seen.specs.declared.seen.Seen.{Seen}
use Rattle.est_seen.specs.declared.seen.Seen.TheOpen as seen
use Rattle.est_seen.specs.declared.seen.Seen.TheFolds.{fold-Seen}
use Rattle.text_values.specs.WrittenLists.{paired}
use Rattle.text_values.specs.WrittenOrdinals.{ordinal_text}
use Rattle.text_values.specs.WrittenValues.{Text, set_text, base_by, parts_by, group_by, told}

-- the text of what was seen in this form, where those of its parts are known: `?` for any value,
-- and else as a value is written
abbrev pub seen_by : seen.Seen-F Text → Text
seen_by seen.Any k = codes "?"
seen_by seen.Undefined k = codes "_"
seen_by (seen.Ordinal z) k = ordinal_text k z
seen_by (seen.Set zs) k = set_text (base_by (out-Kind k) k) zs
seen_by (seen.Group parts) k = group_by told k parts

-- the text of what was seen of a value of a kind
unfoldable pub seen_text : Kind → Seen → List ℕ
seen_text k x = fold-Seen Text seen_by x k

-- the texts of what was seen of values of these kinds
abbrev pub seen_texts : List Kind → List Seen → List (List ℕ)
seen_texts ks xs = paired seen_text ks xs

-- those of the parts of a group of a kind
abbrev pub seen_part_texts : Kind → List Seen → List (List ℕ)
seen_part_texts k parts = parts_by seen_text k parts

-- the text of a group
abbrev pub seen_group_text : Kind → List Seen → List ℕ
seen_group_text k parts = group_by seen_text k parts
