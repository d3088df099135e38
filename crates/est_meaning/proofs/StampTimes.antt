-- A stamp after a firing is the clock, or it stood before; those of other transitions stay.
use Rattle.std.proofs.Common.{◌≡◌, refl, sym, ◌∙◌, ap, arith, ℕ, ◌<◌, ◌≤◌, ◌+◌, Bool, true}
use Rattle.std.proofs.Common.{false, List, [], ◌∷◌, ◌++◌, Option, Some, None, Result, Ok, Err}
use Rattle.std.proofs.Common.{is_some, nat_eq, nat_lt, ◌||◌, ◌⊎◌, inl, inr}
use Rattle.std.proofs.lemmas.Bool.{eqb-true}
use Rattle.std.specs.Prelude.{if◌then◌else◌, unwrap_or, not, find, option_and_then}
use Rattle.std.specs.List.{filter}
use Rattle.std.specs.Option.{option_map_or}
use Rattle.mean_blocks.specs.declared.fault.BlockFault.{BlockFault}
use Rattle.mean_blocks.specs.declared.situation.InteractionPoint.{InteractionPoint}
use Rattle.mean_blocks.specs.declared.situation.Item.{Item}
use Rattle.mean_blocks.specs.declared.situation.Row.{Row}
use Rattle.mean_blocks.specs.Outcome.{on_ok}
use Rattle.mean_blocks.specs.TextByPlace.{Text}
use Rattle.mean_blocks.specs.GlobalSituation.{Frame, Situation, Clocked, is_point, is_numbered}
use Rattle.mean_blocks.specs.GlobalSituation.{row_of, with_row, first_changed}
use Rattle.mean_blocks.specs.FunctionCalls.{frame_of}
use Rattle.mean_blocks.specs.InstancePoints.{external_of}
use Rattle.mean_blocks.specs.Attachments.{up, above}
use Rattle.mean_blocks.specs.QueueEffects.{passed_to, without_head}
use Rattle.mean_blocks.specs.OutputEffects.{Sent, is_outside, crossed}
use Rattle.mean_blocks.specs.LinkEffects.{is_taken, parted, loosened, detached, detached_from}
use Rattle.mean_blocks.specs.LinkEffects.{detached_above, detached_end, each}
use Rattle.mean_blocks.specs.InstanceEffects.{most_instances, variables_of, with_next, holds}
use Rattle.mean_blocks.specs.InstanceEffects.{in_state, is_among, descendants, without, untied}
use Rattle.mean_blocks.specs.KeepingLaws.{OnChange, Keeps, BlocksKeep, AscendBelow}
use Rattle.mean_blocks.specs.StartMeaning.{no_instances}
use Rattle.mean_blocks.proofs.KeptByBlocks.{blocks_keep}
use Rattle.est_meaning.specs.TransitionChoices.{Choice, choice_in}
use Rattle.est_meaning.specs.DelayStamps.{is_waiting, is_timed, is_fired, first_choice}
use Rattle.est_meaning.specs.FiringSteps.{taking_point, without_awaited, with_next_state}
use Rattle.est_meaning.specs.FiringSteps.{completed}
use Rattle.est_meaning.specs.SelectionLaws.{StampsAreOfTheirTime, StampsOfOthersStay}
use Rattle.est_meaning.proofs.Stamps.{timed_again}
use Rattle.est_meaning.proofs.Options.{some_is}
use Rattle.est_meaning.proofs.Steps.{firing_leads, start_leads, state_number}

-- BLOCKS

-- A situation goes over into one in which no time has passed, and each stamp stood before. Those
-- stamps stay which are of instances that live on, and no instance lives again.
record GoesOn (s u : Situation) : Type 0 where
  clock : u.clock ≡ s.clock
  next : s.next ≤ u.next
  stood : (k : Clocked) (n : ℕ) → u.stamps k ≡ Some n → s.stamps k ≡ Some n
  stays : (k : Clocked) → k.instance < s.next
      → (u.stamps k ≡ s.stamps k) ⊎ (row_of u k.instance ≡ None)
  gone : (m : ℕ) → m < s.next → row_of s m ≡ None → row_of u m ≡ None

-- both have the same rows, stamps, clock and next number
record IsAlike (s u : Situation) : Type 0 where
  rows : u.rows ≡ s.rows
  stamps : u.stamps ≡ s.stamps
  clock : u.clock ≡ s.clock
  next : u.next ≡ s.next

alike : (s : Situation) → IsAlike s s
alike s = record { rows = refl; stamps = refl; clock = refl; next = refl }

alike_after : (r s u : Situation) → IsAlike r s → IsAlike s u → IsAlike r u
alike_after r s u h g = record {
  rows = g.rows ∙ h.rows;
  stamps = g.stamps ∙ h.stamps;
  clock = g.clock ∙ h.clock;
  next = g.next ∙ h.next;
}

on_alike : (s u : Situation) → IsAlike s u → GoesOn s u
on_alike s u h = record {
  clock = h.clock;
  next = (let e = h.next in omega (arith, e));
  stood = λ k n e. sym (ap (λ m. m k) h.stamps) ∙ e;
  stays = λ k l. inl (ap (λ m. m k) h.stamps);
  gone = λ m l e. ap (find (is_numbered m)) h.rows ∙ e;
}

on_after : (r s u : Situation) → GoesOn r s → GoesOn s u → GoesOn r u
on_after r s u h g = record {
  clock = g.clock ∙ h.clock;
  next = (let a = h.next in let b = g.next in omega (arith, a, b));
  stood = λ k n e. h.stood k n (g.stood k n e);
  stays = λ k l. one k l (h.stays k l);
  gone = λ m l e. g.gone m (later m l) (h.gone m l e);
}
  where
    later : (m : ℕ) → m < r.next → m < s.next
    later m l = (let a = h.next in omega (arith, a, l))

    one : (k : Clocked) → k.instance < r.next
        → (s.stamps k ≡ r.stamps k) ⊎ (row_of s k.instance ≡ None)
        → (u.stamps k ≡ r.stamps k) ⊎ (row_of u k.instance ≡ None)
    one k l (inr e) = inr (g.gone k.instance (later k.instance l) e)
    one k l (inl e) = other (g.stays k (later k.instance l))
      where
        other : (u.stamps k ≡ s.stamps k) ⊎ (row_of u k.instance ≡ None)
            → (u.stamps k ≡ r.stamps k) ⊎ (row_of u k.instance ≡ None)
        other (inl f) = inl (f ∙ e)
        other (inr f) = inr f

-- ROWS

some_none : {A : Type 0} (a : A) → Some a ≡ None → ⊥
some_none a e = cc

-- no row is found that was not there
changed_arm : (m : ℕ) (r : Row) (change : Row → Row) (rs other : List Row) (b : Bool)
    → ((x : Row) → (change x).number ≡ x.number) → find (is_numbered m) (r ∷ rs) ≡ None
    → (find (is_numbered m) rs ≡ None → find (is_numbered m) other ≡ None)
    → find (is_numbered m) (if b then change r ∷ rs else r ∷ other) ≡ None
changed_arm m r change rs other true e h k = ap (λ n. if nat_eq m n then Some (change r)
    else find (is_numbered m) rs) (e r) ∙ same (nat_eq m r.number) h
  where
    same : (b : Bool) → (if b then Some r else find (is_numbered m) rs) ≡ None
        → (if b then Some (change r) else find (is_numbered m) rs) ≡ None
    same true h = absurd (some_none r h)
    same false h = h
changed_arm m r change rs other false e h k = same (nat_eq m r.number) h
  where
    same : (b : Bool) → (if b then Some r else find (is_numbered m) rs) ≡ None
        → (if b then Some r else find (is_numbered m) other) ≡ None
    same true h = absurd (some_none r h)
    same false h = k h

not_found : (b : Bool) (r : Row) (o : Option Row) → (if b then Some r else o) ≡ None → o ≡ None
not_found true r o h = absurd (some_none r h)
not_found false r o h = h

rows_changed : (m n : ℕ) (change : Row → Row) (rs : List Row)
    → ((x : Row) → (change x).number ≡ x.number) → find (is_numbered m) rs ≡ None
    → find (is_numbered m) (first_changed (is_numbered n) change rs) ≡ None
rows_changed m n change [] e h = refl
rows_changed m n change (r ∷ rs) e h =
    changed_arm m r change rs (first_changed (is_numbered n) change rs) (nat_eq n r.number) e h
    (rows_changed m n change rs e)

-- some rows go
rows_filtered : (m : ℕ) (test : Row → Bool) (rs : List Row) → find (is_numbered m) rs ≡ None
    → find (is_numbered m) (filter test rs) ≡ None
rows_filtered m test [] h = refl
rows_filtered m test (r ∷ rs) h = one (test r)
    (rows_filtered m test rs (not_found (nat_eq m r.number) r (find (is_numbered m) rs) h))
  where
    same : (b : Bool) (o : Option Row) → (if b then Some r else find (is_numbered m) rs) ≡ None
        → o ≡ None → (if b then Some r else o) ≡ None
    same true o h k = absurd (some_none r h)
    same false o h k = k

    one : (b : Bool) → find (is_numbered m) (filter test rs) ≡ None
        → find (is_numbered m) (if b then r ∷ filter test rs else filter test rs) ≡ None
    one true k = same (nat_eq m r.number) (find (is_numbered m) (filter test rs)) h k
    one false k = k

-- those of some instances
rows_gone : (m : ℕ) (ns : List ℕ) (rs : List Row) → is_among ns m ≡ true
    → find (is_numbered m) (filter (λ (r : Row). not (is_among ns r.number)) rs) ≡ None
rows_gone m ns [] h = refl
rows_gone m ns (r ∷ rs) h = one (is_among ns r.number) refl (rows_gone m ns rs h)
  where
    kept : List Row
    kept = filter (λ (r : Row). not (is_among ns r.number)) rs

    differs : (b : Bool) → nat_eq m r.number ≡ b → is_among ns r.number ≡ false
        → find (is_numbered m) kept ≡ None
        → (if b then Some r else find (is_numbered m) kept) ≡ None
    differs true e g k = absurd (cc (sym h ∙ ap (is_among ns) (eqb-true m r.number e) ∙ g))
    differs false e g k = k

    one : (b : Bool) → is_among ns r.number ≡ b → find (is_numbered m) kept ≡ None
        → find (is_numbered m) (if not b then r ∷ kept else kept) ≡ None
    one true e k = k
    one false e k = differs (nat_eq m r.number) refl e k

-- the next instance comes
rows_appended : (m : ℕ) (rs : List Row) (r : Row) → m < r.number → find (is_numbered m) rs ≡ None
    → find (is_numbered m) (rs ++ r ∷ []) ≡ None
rows_appended m [] r l h = one (nat_eq m r.number) refl
  where
    one : (b : Bool) → nat_eq m r.number ≡ b → (if b then Some r else None) ≡ None
    one true e = absurd (let f = eqb-true m r.number e in omega (arith, f, l))
    one false e = refl
rows_appended m (q ∷ qs) r l h = one (nat_eq m q.number) h (rows_appended m qs r l)
  where
    one : (b : Bool) → (if b then Some q else find (is_numbered m) qs) ≡ None
        → (find (is_numbered m) qs ≡ None → find (is_numbered m) (qs ++ r ∷ []) ≡ None)
        → (if b then Some q else find (is_numbered m) (qs ++ r ∷ [])) ≡ None
    one true h k = absurd (some_none q h)
    one false h k = k h

-- CHANGES

on_changed : (n : ℕ) (change : Row → Row) (s : Situation)
    → ((r : Row) → (change r).number ≡ r.number) → GoesOn s (with_row n change s)
on_changed n change s e = record {
  clock = refl;
  next = omega arith;
  stood = λ k x h. h;
  stays = λ k l. inl refl;
  gone = λ m l h. rows_changed m n change s.rows e h;
}

sent_alike : (b : Bool) (x y : Sent) → IsAlike x.situation y.situation
    → IsAlike x.situation (if b then y else x).situation
sent_alike true x y h = h
sent_alike false x y h = alike x.situation

crossed_alike : (t : Text) (i : Item) (q : InteractionPoint) (o : Option InteractionPoint)
    (x : Sent) → IsAlike x.situation (crossed t i q o x).situation
crossed_alike t i q (Some other) x =
    record { rows = refl; stamps = refl; clock = refl; next = refl }
crossed_alike t i q None x = sent_alike (is_outside t x.situation q) x
    (record x { outs = x.outs ++ passed_to q i ∷ [] }) (alike x.situation)

parted_alike : (p : InteractionPoint) (o : Option InteractionPoint) (s : Situation)
    → IsAlike s (parted p o s)
parted_alike p None s = alike s
parted_alike p (Some q) s = record { rows = refl; stamps = refl; clock = refl; next = refl }

loosened_alike : (t : Text) (e : InteractionPoint) (o : Option InteractionPoint) (s : Situation)
    → IsAlike s (loosened t e o s)
loosened_alike t e None s = alike s
loosened_alike t e (Some q) s = record { rows = refl; stamps = refl; clock = refl; next = refl }

from_alike : (t : Text) (o : Option InteractionPoint) (s : Situation)
    → IsAlike s (detached_from t o s)
from_alike t None s = alike s
from_alike t (Some e) s = loosened_alike t e (s.down e) s

end_alike : (t : Text) (n : ℕ) (p : InteractionPoint) (s : Situation)
    → IsAlike s (detached_end t n p s)
end_alike t n p s = one (nat_eq n p.instance)
  where
    one : (b : Bool) → IsAlike s (if b then detached t p s else detached_above t p s)
    one true = loosened_alike t p (s.down p) s
    one false = from_alike t (above t s p) s

untied_alike : (t : Text) (p : InteractionPoint) (s : Situation) → IsAlike s (untied t p s)
untied_alike t p s = let u = detached_above t p s in
    alike_after s u (untied t p s) (from_alike t (above t s p) s) (parted_alike p (u.peer p) u)

each_alike : (t : Text) (ps : List InteractionPoint) (s : Situation)
    → IsAlike s (each (untied t) ps s)
each_alike t [] s = alike s
each_alike t (p ∷ ps) s = alike_after s (untied t p s) (each (untied t) ps (untied t p s))
    (untied_alike t p s) (each_alike t ps (untied t p s))

either_on : (s : Situation) (b : Bool) (x y : Result Situation BlockFault) → OnChange GoesOn s x
    → OnChange GoesOn s y → OnChange GoesOn s (if b then x else y)
either_on s true x y h g = h
either_on s false x y h g = g

-- INSTANCES

stood_without : (b : Bool) (o : Option ℕ) (n : ℕ) → (if b then None else o) ≡ Some n → o ≡ Some n
stood_without true o n e = absurd (cc)
stood_without false o n e = e

on_without : (ns : List ℕ) (s : Situation) → GoesOn s (without ns s)
on_without ns s = record {
  clock = refl;
  next = omega arith;
  stood = λ k n e. stood_without (is_among ns k.instance) (s.stamps k) n e;
  stays = λ k l. one k (is_among ns k.instance) refl;
  gone = λ m l e. rows_filtered m (λ (r : Row). not (is_among ns r.number)) s.rows e;
}
  where
    one : (k : Clocked) (b : Bool) → is_among ns k.instance ≡ b
        → ((if b then None else s.stamps k) ≡ s.stamps k)
        ⊎ (row_of (without ns s) k.instance ≡ None)
    one k true e = inr (rows_gone k.instance ns s.rows e)
    one k false e = inl refl

on_next : (t : Text) (parent body : ℕ) (f : Frame) (s : Situation)
    → GoesOn s (with_next t.outline parent body f s)
on_next t parent body f s = record {
  clock = refl;
  next = omega arith;
  stood = λ k n e. e;
  stays = λ k l. inl refl;
  gone = λ m l e. rows_appended m s.rows _ l e;
}

born_on : (s : Situation) (r : Result Frame BlockFault) (go : Frame → Situation)
    → ((f : Frame) → GoesOn s (go f)) → OnChange GoesOn s (on_ok r (λ f. Ok (go f)))
born_on s (Ok f) go h = h f
born_on s (Err f) go h = tt

on_kept : (t : Text) → Keeps t GoesOn
on_kept t = record {
  same = λ s. on_alike s s (alike s);
  after = on_after;
  writes = λ n f s. on_changed n (λ r. record r { variables = f }) s (λ r. refl);
  states = λ n p s. on_changed n (in_state p) s (state_number p);
  sends = λ i x. let q = up t x.situation i.at in
      on_alike x.situation (crossed t i q (x.situation.peer q) x).situation
      (crossed_alike t i q (x.situation.peer q) x);
  connects = λ p q s. either_on s (is_point p q) _ _ tt
      (either_on s (is_taken t s p || is_taken t s q) _ _ tt
      (on_alike s _ (record { rows = refl; stamps = refl; clock = refl; next = refl })));
  attaches = λ e c s. either_on s (is_some (s.down e) || is_taken t s c) _ _ tt
      (on_alike s _ (record { rows = refl; stamps = refl; clock = refl; next = refl }));
  disconnects = λ p s. on_alike s _ (parted_alike p (s.peer p) s);
  detaches = λ n p s. on_alike s _ (end_alike t n p s);
  releases = λ n s. let u = each (untied t) (external_of t.outline s n) s in
      on_after s u (without (descendants (n ∷ []) u.rows) u)
      (on_alike s u (each_alike t (external_of t.outline s n) s))
      (on_without (descendants (n ∷ []) u.rows) u);
  begins = λ parent e body xs s. either_on s (nat_lt most_instances s.next) _ _ tt
      (born_on s (frame_of t.outline (variables_of t.outline body) xs) _
      (λ f. on_after s (with_next t.outline parent body f s) _ (on_next t parent body f s)
      (on_changed parent (holds e s.next) (with_next t.outline parent body f s) (λ r. refl))));
}

blocks_go_on : BlocksKeep GoesOn
blocks_go_on = blocks_keep GoesOn on_kept

taken_on : (t : Text) (o : Option InteractionPoint) (s : Situation)
    → GoesOn s (option_map_or (λ p. without_head t p s) o s)
taken_on t None s = on_alike s s (alike s)
taken_on t (Some p) s =
    on_alike s _ (record { rows = refl; stamps = refl; clock = refl; next = refl })

-- from before a firing to after its block
block_on : (limit : ℕ) (t : Text) (s u : Situation) (c : Choice)
    → GoesOn (without_awaited limit t s c) u → GoesOn s u
block_on limit t s u c h = on_after s (without_awaited limit t s c) u
    (taken_on t (taking_point limit t s c) s) h

-- THE TIME OF A STAMP

-- a stamp that a transition gets, which had this one or none
abbrev OfTime : ℕ → Option ℕ → Bool → ℕ → Type 0
OfTime clock earlier fired n = (n ≡ clock) ⊎ ((earlier ≡ Some n) × (fired ≡ false))

since_of : (fired : Bool) (o : Option ℕ) (clock n : ℕ)
    → (if fired then clock else unwrap_or o clock) ≡ n → OfTime clock o fired n
since_of true o clock n e = inl (sym e)
since_of false None clock n e = inl (sym e)
since_of false (Some m) clock n e = inr (ap (λ x. Some x) e, refl)

stamp_of : (timed fired : Bool) (o : Option ℕ) (clock n : ℕ)
    → (if timed then Some (if fired then clock else unwrap_or o clock) else None) ≡ Some n
    → OfTime clock o fired n
stamp_of false fired o clock n e = absurd (cc)
stamp_of true fired o clock n e = since_of fired o clock n (some_is _ n e)

-- from a situation in which stamps stood before
earlier_time : (s u : Situation) (k : Clocked) (fired : Bool) (n : ℕ) → GoesOn s u
    → OfTime u.clock (u.stamps k) fired n → OfTime s.clock (s.stamps k) fired n
earlier_time s u k fired n h (inl e) = inl (e ∙ h.clock)
earlier_time s u k fired n h (inr (e, g)) = inr (h.stood k n e, g)

none_stood : (n : ℕ) → None ≡ Some n → ⊥
none_stood n e = cc

time_at_start : (u : Situation) (k : Clocked) (n : ℕ) → GoesOn no_instances u
    → OfTime u.clock (u.stamps k) false n → n ≡ 0
time_at_start u k n h (inl e) = e ∙ h.clock
time_at_start u k n h (inr (e, g)) = absurd (none_stood n (h.stood k n e))

pub stamps_are_of_their_time : StampsAreOfTheirTime
stamps_are_of_their_time = record {
  start = λ limit t s outs k n e. start_leads GoesOn (λ next. next.stamps k ≡ Some n → n ≡ 0)
      blocks_go_on limit t s outs
      (λ u h g. time_at_start u k n h
      (stamp_of (is_timed limit t u k) false (u.stamps k) u.clock n g)) e;
  firing = λ limit t s next f outs k n e. firing_leads GoesOn
      (λ next. next.stamps k ≡ Some n → OfTime s.clock (s.stamps k) (is_fired (Some f) k) n)
      blocks_go_on limit t s next f outs
      (λ c _ u h g. earlier_time s u k (is_fired (Some f) k) n (block_on limit t s u c h)
      (stamp_of (is_timed limit t (with_next_state t c u) k) (is_fired (Some f) k) (u.stamps k)
      u.clock n g)) e;
}

-- STAMPS THAT STAY

found_below : (least next n : ℕ) (rs : List Row) → AscendBelow least next rs
    → is_some (find (is_numbered n) rs) ≡ true → n < next
found_below least next n [] h e = absurd (cc)
found_below least next n (r ∷ rs) h e =
    one (nat_eq n r.number) refl e (found_below (r.number + 1) next n rs h.2)
  where
    one : (b : Bool) → nat_eq n r.number ≡ b
        → is_some (if b then Some r else find (is_numbered n) rs) ≡ true
        → (is_some (find (is_numbered n) rs) ≡ true → n < next) → n < next
    one true g e k = (let f = eqb-true n r.number g in let l = h.1 in omega (arith, f, l))
    one false g e k = k e

-- a transition of an instance that does not live is not enabled
not_timed : (limit : ℕ) (t : Text) (s : Situation) (k : Clocked) → row_of s k.instance ≡ None
    → is_timed limit t s k ≡ false
not_timed limit t s k e = ap (λ o. option_map_or (is_waiting limit t s)
    (option_and_then (choice_in t (first_choice k)) o) false) e

stamp_stays : (timed fired : Bool) (o : Option ℕ) (clock n : ℕ) → timed ≡ true → fired ≡ false
    → o ≡ Some n
    → (if timed then Some (if fired then clock else unwrap_or o clock) else None) ≡ Some n
stamp_stays false fired o clock n h g e = absurd (cc)
stamp_stays true true o clock n h g e = absurd (cc)
stamp_stays true false None clock n h g e = absurd (cc)
stamp_stays true false (Some m) clock n h g e = e

true_false : (b : Bool) → b ≡ true → b ≡ false → ⊥
true_false true h g = cc
true_false false h g = cc

pub stamps_of_others_stay : StampsOfOthersStay
stamps_of_others_stay limit t s next f outs k n numbers alive stamp other timed e =
    firing_leads GoesOn (λ v. is_timed limit t v k ≡ true → v.stamps k ≡ Some n) blocks_go_on
    limit t s next f outs (λ c _ u h g. one c u g ((block_on limit t s u c h).stays k
    (found_below 1 s.next k.instance s.rows numbers.1 alive))) e timed
  where
    again : (c : Choice) (u : Situation)
        → is_timed limit t (completed limit t f c u) k ≡ is_timed limit t (with_next_state t c u) k
    again c u = timed_again limit t (Some f) (with_next_state t c u) k

    one : (c : Choice) (u : Situation) → is_timed limit t (completed limit t f c u) k ≡ true
        → (u.stamps k ≡ s.stamps k) ⊎ (row_of u k.instance ≡ None)
        → (completed limit t f c u).stamps k ≡ Some n
    one c u g (inl h) = stamp_stays (is_timed limit t (with_next_state t c u) k)
        (is_fired (Some f) k) (u.stamps k) u.clock n (sym (again c u) ∙ g) other (h ∙ stamp)
    one c u g (inr h) = absurd (true_false (is_timed limit t (with_next_state t c u) k)
        (sym (again c u) ∙ g) (not_timed limit t (with_next_state t c u) k
        (rows_changed k.instance c.row.number (in_state _) u.rows (state_number _) h)))
