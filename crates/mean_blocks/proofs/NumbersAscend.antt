-- Blocks let no time pass, use no number again, and leave instances in ascending number.
use Rattle.std.proofs.Common.{◌≡◌, refl, sym, subst, ◌∙◌, arith, ℕ, ◌+◌, ◌<◌, ◌≤◌, nat_eq, nat_lt}
use Rattle.std.proofs.Common.{Bool, true, false, ◌||◌, List, [], ◌∷◌, ◌++◌, Option, Some, None}
use Rattle.std.proofs.Common.{Result, Ok, Err, is_some}
use Rattle.std.specs.Prelude.{if◌then◌else◌, not}
use Rattle.std.specs.List.{filter}
use Rattle.mean_blocks.specs.declared.fault.BlockFault.{BlockFault}
use Rattle.mean_blocks.specs.declared.situation.InteractionPoint.{InteractionPoint}
use Rattle.mean_blocks.specs.declared.situation.Item.{Item}
use Rattle.mean_blocks.specs.declared.situation.Row.{Row}
use Rattle.mean_blocks.specs.Outcome.{on_ok}
use Rattle.mean_blocks.specs.TextByPlace.{Text}
use Rattle.mean_blocks.specs.GlobalSituation.{Frame, Situation, first_changed, is_numbered}
use Rattle.mean_blocks.specs.GlobalSituation.{with_row, is_point}
use Rattle.mean_blocks.specs.FunctionCalls.{frame_of}
use Rattle.mean_blocks.specs.InstancePoints.{external_of}
use Rattle.mean_blocks.specs.Attachments.{up, above}
use Rattle.mean_blocks.specs.QueueEffects.{passed_to}
use Rattle.mean_blocks.specs.OutputEffects.{Sent, is_outside, crossed}
use Rattle.mean_blocks.specs.LinkEffects.{is_taken, parted, loosened, detached, detached_from}
use Rattle.mean_blocks.specs.LinkEffects.{detached_above, detached_end, each}
use Rattle.mean_blocks.specs.InstanceEffects.{most_instances, variables_of, with_next, holds}
use Rattle.mean_blocks.specs.InstanceEffects.{in_state, is_among, descendants, without, untied}
use Rattle.mean_blocks.specs.KeepingLaws.{OnChange, Keeps, AscendBelow, GoesOver}
use Rattle.mean_blocks.specs.KeepingLaws.{SituationsGoOver}
use Rattle.mean_blocks.proofs.KeptByBlocks.{blocks_keep}

-- ROWS

-- ascending numbers ascend from an earlier one too
from_earlier : (least from next : ℕ) (rs : List Row) → least ≤ from → AscendBelow from next rs
    → AscendBelow least next rs
from_earlier least from next [] e h = tt
from_earlier least from next (r ∷ rs) e h =
    (let k = h.0 in omega (arith, e, k), h.1, h.2)

-- one row is changed, but not its number
changed_arm : (least next : ℕ) (r : Row) (change : Row → Row) (rs other : List Row) (b : Bool)
    → (change r).number ≡ r.number → AscendBelow least next (r ∷ rs)
    → AscendBelow (r.number + 1) next other
    → AscendBelow least next (if b then change r ∷ rs else r ∷ other)
changed_arm least next r change rs other true e h k = subst
    (λ n. (least ≤ n) × (n < next) × AscendBelow (n + 1) next rs) (sym e) h
changed_arm least next r change rs other false e h k = (h.0, h.1, k)

rows_changed : (least next n : ℕ) (change : Row → Row) (rs : List Row)
    → ((r : Row) → (change r).number ≡ r.number) → AscendBelow least next rs
    → AscendBelow least next (first_changed (is_numbered n) change rs)
rows_changed least next n change [] e h = tt
rows_changed least next n change (r ∷ rs) e h =
    changed_arm least next r change rs (first_changed (is_numbered n) change rs)
    (nat_eq n r.number) (e r) h
    (rows_changed (r.number + 1) next n change rs e h.2)

-- some rows go
kept_arm : (least next : ℕ) (r : Row) (rs : List Row) (b : Bool) → least ≤ r.number
    → r.number < next → AscendBelow (r.number + 1) next rs
    → AscendBelow least next (if b then r ∷ rs else rs)
kept_arm least next r rs true e h k = (e, h, k)
kept_arm least next r rs false e h k =
    from_earlier least (r.number + 1) next rs (omega (arith, e)) k

rows_filtered : (least next : ℕ) (p : Row → Bool) (rs : List Row) → AscendBelow least next rs
    → AscendBelow least next (filter p rs)
rows_filtered least next p [] h = tt
rows_filtered least next p (r ∷ rs) h = kept_arm least next r (filter p rs) (p r) h.0 h.1
    (rows_filtered (r.number + 1) next p rs h.2)

-- the next instance comes
rows_appended : (least next : ℕ) (rs : List Row) (r : Row) → least ≤ next → r.number ≡ next
    → AscendBelow least next rs → AscendBelow least (next + 1) (rs ++ r ∷ [])
rows_appended least next [] r e h k = (omega (arith, e, h), omega (arith, h), tt)
rows_appended least next (q ∷ qs) r e h k =
    let a = k.0 in
    let b = k.1 in
    (a, omega (arith, b), rows_appended (q.number + 1) next qs r (omega (arith, b)) h k.2)

-- SITUATIONS

-- rows, clock and the next number are the same
record IsAlike (s u : Situation) : Type 0 where
  rows : u.rows ≡ s.rows
  clock : u.clock ≡ s.clock
  next : u.next ≡ s.next

alike : (s : Situation) → IsAlike s s
alike s = record { rows = refl; clock = refl; next = refl }

alike_after : (r s u : Situation) → IsAlike r s → IsAlike s u → IsAlike r u
alike_after r s u h k = record {
  rows = k.rows ∙ h.rows;
  clock = k.clock ∙ h.clock;
  next = k.next ∙ h.next;
}

goes_alike : (s u : Situation) → IsAlike s u → GoesOver s u
goes_alike s u h = record {
  clock = h.clock;
  next = (let e = h.next in omega (arith, e));
  numbers = λ k. (
    (let e = h.next in let a = k.0 in omega (arith, e, a)),
    subst (λ n. AscendBelow 1 n u.rows) (sym h.next)
        (subst (AscendBelow 1 s.next) (sym h.rows) k.1),
  );
}

goes_after : (r s u : Situation) → GoesOver r s → GoesOver s u → GoesOver r u
goes_after r s u h k = record {
  clock = k.clock ∙ h.clock;
  next = (let a = h.next in let b = k.next in omega (arith, a, b));
  numbers = λ n. k.numbers (h.numbers n);
}

goes_changed : (n : ℕ) (change : Row → Row) (s : Situation)
    → ((r : Row) → (change r).number ≡ r.number) → GoesOver s (with_row n change s)
goes_changed n change s e = record {
  clock = refl;
  next = omega arith;
  numbers = λ k. (k.0, rows_changed 1 s.next n change s.rows e k.1);
}

-- LINKS AND OUTPUT

sent_alike : (b : Bool) (x y : Sent) → IsAlike x.situation y.situation
    → IsAlike x.situation (if b then y else x).situation
sent_alike true x y h = h
sent_alike false x y h = alike x.situation

crossed_alike : (t : Text) (i : Item) (q : InteractionPoint) (o : Option InteractionPoint)
    (x : Sent) → IsAlike x.situation (crossed t i q o x).situation
crossed_alike t i q (Some other) x = record { rows = refl; clock = refl; next = refl }
crossed_alike t i q None x = sent_alike (is_outside t x.situation q) x
    (record x { outs = x.outs ++ passed_to q i ∷ [] }) (alike x.situation)

parted_alike : (p : InteractionPoint) (o : Option InteractionPoint) (s : Situation)
    → IsAlike s (parted p o s)
parted_alike p None s = alike s
parted_alike p (Some q) s = record { rows = refl; clock = refl; next = refl }

loosened_alike : (t : Text) (e : InteractionPoint) (o : Option InteractionPoint) (s : Situation)
    → IsAlike s (loosened t e o s)
loosened_alike t e None s = alike s
loosened_alike t e (Some q) s = record { rows = refl; clock = refl; next = refl }

from_alike : (t : Text) (o : Option InteractionPoint) (s : Situation)
    → IsAlike s (detached_from t o s)
from_alike t None s = alike s
from_alike t (Some e) s = loosened_alike t e (s.down e) s

end_alike : (t : Text) (n : ℕ) (p : InteractionPoint) (s : Situation)
    → IsAlike s (detached_end t n p s)
end_alike t n p s = one (nat_eq n p.instance)
  where
    one : (b : Bool) → IsAlike s (if b then detached t p s else detached_above t p s)
    one true = loosened_alike t p (s.down p) s
    one false = from_alike t (above t s p) s

untied_alike : (t : Text) (p : InteractionPoint) (s : Situation) → IsAlike s (untied t p s)
untied_alike t p s = let u = detached_above t p s in
    alike_after s u (untied t p s) (from_alike t (above t s p) s) (parted_alike p (u.peer p) u)

each_alike : (t : Text) (ps : List InteractionPoint) (s : Situation)
    → IsAlike s (each (untied t) ps s)
each_alike t [] s = alike s
each_alike t (p ∷ ps) s = alike_after s (untied t p s) (each (untied t) ps (untied t p s))
    (untied_alike t p s) (each_alike t ps (untied t p s))

-- one of two changes
either_changes : (s : Situation) (b : Bool) (x y : Result Situation BlockFault)
    → OnChange GoesOver s x → OnChange GoesOver s y
    → OnChange GoesOver s (if b then x else y)
either_changes s true x y h k = h
either_changes s false x y h k = k

-- INSTANCES

state_number : (p : Option ℕ) (r : Row) → (in_state p r).number ≡ r.number
state_number None r = refl
state_number (Some x) r = refl

goes_without : (ns : List ℕ) (s : Situation) → GoesOver s (without ns s)
goes_without ns s = record {
  clock = refl;
  next = omega arith;
  numbers = λ k. (k.0, rows_filtered 1 s.next (λ (r : Row). not (is_among ns r.number)) s.rows k.1);
}

goes_next : (t : Text) (parent body : ℕ) (f : Frame) (s : Situation)
    → GoesOver s (with_next t.outline parent body f s)
goes_next t parent body f s = record {
  clock = refl;
  next = omega arith;
  numbers = λ k. (omega arith, rows_appended 1 s.next s.rows _ k.0 refl k.1);
}

born_goes : (s : Situation) (r : Result Frame BlockFault) (go : Frame → Situation)
    → ((f : Frame) → GoesOver s (go f)) → OnChange GoesOver s (on_ok r (λ f. Ok (go f)))
born_goes s (Ok f) go h = h f
born_goes s (Err f) go h = tt

-- each change lets the situation go over
pub goes_kept : (t : Text) → Keeps t GoesOver
goes_kept t = record {
  same = λ s. goes_alike s s (alike s);
  after = goes_after;
  writes = λ n f s. goes_changed n (λ r. record r { variables = f }) s (λ r. refl);
  states = λ n p s. goes_changed n (in_state p) s (state_number p);
  sends = λ i x. let q = up t x.situation i.at in
      goes_alike x.situation (crossed t i q (x.situation.peer q) x).situation
      (crossed_alike t i q (x.situation.peer q) x);
  connects = λ p q s. either_changes s (is_point p q) _ _ tt
      (either_changes s (is_taken t s p || is_taken t s q) _ _ tt
      (goes_alike s _ (record { rows = refl; clock = refl; next = refl })));
  attaches = λ e c s. either_changes s (is_some (s.down e) || is_taken t s c) _ _ tt
      (goes_alike s _ (record { rows = refl; clock = refl; next = refl }));
  disconnects = λ p s. goes_alike s _ (parted_alike p (s.peer p) s);
  detaches = λ n p s. goes_alike s _ (end_alike t n p s);
  releases = λ n s. let u = each (untied t) (external_of t.outline s n) s in
      goes_after s u (without (descendants (n ∷ []) u.rows) u)
      (goes_alike s u (each_alike t (external_of t.outline s n) s))
      (goes_without (descendants (n ∷ []) u.rows) u);
  begins = λ parent e body xs s. either_changes s (nat_lt most_instances s.next) _ _ tt
      (born_goes s (frame_of t.outline (variables_of t.outline body) xs) _
      (λ f. goes_after s (with_next t.outline parent body f s) _
      (goes_next t parent body f s)
      (goes_changed parent (holds e s.next) (with_next t.outline parent body f s) (λ r. refl))));
}

pub situations_go_over : SituationsGoOver
situations_go_over = blocks_keep GoesOver goes_kept
