-- Outputs and links leave the instances as they are.
use Rattle.std.proofs.Common.{◌≡◌, refl, ◌∙◌, ℕ, nat_eq, Bool, true, false, List, [], ◌∷◌, ◌++◌}
use Rattle.std.proofs.Common.{Option, Some, None}
use Rattle.std.specs.Prelude.{if◌then◌else◌}
use Rattle.mean_blocks.specs.declared.situation.InteractionPoint.{InteractionPoint}
use Rattle.mean_blocks.specs.declared.situation.Item.{Item}
use Rattle.mean_blocks.specs.TextByPlace.{Text}
use Rattle.mean_blocks.specs.GlobalSituation.{Situation}
use Rattle.mean_blocks.specs.Attachments.{above}
use Rattle.mean_blocks.specs.QueueEffects.{passed_to}
use Rattle.mean_blocks.specs.OutputEffects.{Sent, is_outside, crossed}
use Rattle.mean_blocks.specs.LinkEffects.{parted, loosened, detached, detached_from}
use Rattle.mean_blocks.specs.LinkEffects.{detached_above, detached_end, each}
use Rattle.mean_blocks.specs.InstanceEffects.{untied}

-- rows and the next number are the same
pub record HasSameRows (s u : Situation) : Type 0 where
  pub rows : u.rows ≡ s.rows
  pub next : u.next ≡ s.next

pub same_rows : (s : Situation) → HasSameRows s s
same_rows s = record { rows = refl; next = refl }

rows_after : (r s u : Situation) → HasSameRows r s → HasSameRows s u → HasSameRows r u
rows_after r s u h k = record { rows = k.rows ∙ h.rows; next = k.next ∙ h.next }

sent_rows : (b : Bool) (x y : Sent) → HasSameRows x.situation y.situation
    → HasSameRows x.situation (if b then y else x).situation
sent_rows true x y h = h
sent_rows false x y h = same_rows x.situation

pub crossed_rows : (t : Text) (i : Item) (q : InteractionPoint) (o : Option InteractionPoint)
    (x : Sent) → HasSameRows x.situation (crossed t i q o x).situation
crossed_rows t i q (Some other) x = record { rows = refl; next = refl }
crossed_rows t i q None x = sent_rows (is_outside t x.situation q) x
    (record x { outs = x.outs ++ passed_to q i ∷ [] }) (same_rows x.situation)

pub parted_rows : (p : InteractionPoint) (o : Option InteractionPoint) (s : Situation)
    → HasSameRows s (parted p o s)
parted_rows p None s = same_rows s
parted_rows p (Some q) s = record { rows = refl; next = refl }

loosened_rows : (t : Text) (e : InteractionPoint) (o : Option InteractionPoint) (s : Situation)
    → HasSameRows s (loosened t e o s)
loosened_rows t e None s = same_rows s
loosened_rows t e (Some q) s = record { rows = refl; next = refl }

from_rows : (t : Text) (o : Option InteractionPoint) (s : Situation)
    → HasSameRows s (detached_from t o s)
from_rows t None s = same_rows s
from_rows t (Some e) s = loosened_rows t e (s.down e) s

pub end_rows : (t : Text) (n : ℕ) (p : InteractionPoint) (s : Situation)
    → HasSameRows s (detached_end t n p s)
end_rows t n p s = one (nat_eq n p.instance)
  where
    one : (b : Bool) → HasSameRows s (if b then detached t p s else detached_above t p s)
    one true = loosened_rows t p (s.down p) s
    one false = from_rows t (above t s p) s

untied_rows : (t : Text) (p : InteractionPoint) (s : Situation) → HasSameRows s (untied t p s)
untied_rows t p s = let u = detached_above t p s in
    rows_after s u (untied t p s) (from_rows t (above t s p) s) (parted_rows p (u.peer p) u)

pub each_rows : (t : Text) (ps : List InteractionPoint) (s : Situation)
    → HasSameRows s (each (untied t) ps s)
each_rows t [] s = same_rows s
each_rows t (p ∷ ps) s = rows_after s (untied t p s) (each (untied t) ps (untied t p s))
    (untied_rows t p s) (each_rows t ps (untied t p s))
