-- Statements, one step further.
use Rattle.std.proofs.Common.{◌≡◌, refl, sym, ap, ◌∙◌, ℕ, suc, ◌+◌, ◌<◌, List, []}
use Rattle.std.proofs.Common.{length, get_or, drop, Bool, true, Ok, Err}
use Rattle.std.specs.Prelude.{ℤ, map, if◌then◌else◌}
use Rattle.std.specs.List.{range_with_len}
use Rattle.plain_effects.specs.plain_systems.declared.system.Working.{Working}
use Rattle.plain_effects.specs.plain_systems.HeldSystems.{state_of, LooksSame}
use Rattle.est_syntax.specs.declared.expression.Expr.{Expr}
use Rattle.est_syntax.specs.declared.name.Used.{Used}
use Rattle.est_syntax.specs.declared.statement.Arm.{Arm}
use Rattle.est_syntax.specs.declared.statement.Statement.{Statement}
use Rattle.est_values.specs.declared.value.Value.{Value}
use Rattle.est_values.specs.declared.value.Value.TheVariants as value
use Rattle.mean_blocks.specs.declared.frame.Slot.{Slot}
use Rattle.mean_blocks.specs.declared.frame.Slot.TheVariants as slot
use Rattle.mean_blocks.specs.declared.stop.Stop.{Stop}
use Rattle.mean_blocks.specs.AnswersOfCalls.{Answers}
use Rattle.mean_blocks.specs.ExpressionValues.{value_of, variable_of}
use Rattle.mean_blocks.specs.GlobalSituation.{Frame}
use Rattle.mean_blocks.specs.LoopEffects.{counts, distance, step, controlled, naming, turn_for}
use Rattle.mean_blocks.specs.LoopEffects.{for_each, for_child, for_children}
use Rattle.mean_blocks.specs.Outcome.{Done, onward, ◌>>=◌, ◌>>◌, lift, counted}
use Rattle.mean_blocks.specs.ReachedVariables.{Reached}
use Rattle.mean_blocks.specs.StatementEffects.{statement_of, arms_in, is_chosen}
use Rattle.mean_blocks.specs.ValueOperators.{ordinal_in, ordinal}
use Rattle.mean_blocks.specs.WorkingState.{State, Site, Does, view, counting}
use Rattle.mean_blocks.specs.WriteEffects.{stored, ordinal_of, opened, closed, framed}
use Rattle.mean_blocks.proofs.Answering.{answers_by, answers_stop}
use Rattle.plain_effects.specs.plain_operands.TurnsOfLoops.{valued_turn, counted_turn}
use Rattle.plain_blocks.proofs.LoopSteps.{drop_item}

-- a state is the same where everything looks the same
pub state_same : (w u : Working) (n : ℕ) → LooksSame w u → state_of u n ≡ state_of w n
state_same w u n h =
    λ i. record { situation = h.0 i; outs = h.1.0 i; frames = h.1.1 i; left = n }

-- A TURN OF A FOR

module _ (r : Reached) (x : Statement) (site : Site) (v : Value) (s t u : State) (n : ℕ)
    (h : counted s.left ≡ Done tt n) where
  pub turn_runs : stored site.function r v (record s { left = n }) ≡ Done tt t
      → counted_turn r x site v s ≡ statement_of x site t
  turn_runs k = ap (λ o. onward (counting s o) (λ _. valued_turn r x site v)) h
      ∙ ap (λ o. onward o (λ _. statement_of x site)) k

  pub turn_stops : (e : Stop) → Answers (stored site.function r v (record s { left = n })) (Err e) t
      → Answers (counted_turn r x site v s) (Err e) u
  turn_stops e k = answers_by
      (onward (stored site.function r v (record s { left = n })) (λ _. statement_of x site))
      (counted_turn r x site v s) (Err e) u
      (ap (λ o. onward (counting s o) (λ _. valued_turn r x site v)) h)
      (answers_stop (stored site.function r v (record s { left = n }))
      (λ _. statement_of x site) e t u k)

-- FRAMES

module _ (f : Frame) (m : Does) (s t u w : State) where
  pub framed_runs : opened f s ≡ Done tt t → m t ≡ Done tt u → framed f m s ≡ closed u
  framed_runs h k = ap (λ o. onward o (λ _. m >> closed)) h ∙ ap (λ o. onward o (λ _. closed)) k

  pub framed_stops : (e : Stop) → opened f s ≡ Done tt t → Answers (m t) (Err e) u
      → Answers (framed f m s) (Err e) w
  framed_stops e h k = answers_by (onward (m t) (λ _. closed)) (framed f m s) (Err e) w
      (ap (λ o. onward o (λ _. m >> closed)) h) (answers_stop (m t) (λ _. closed) e u w k)

  pub framed_unopened : (e : Stop) → Answers (opened f s) (Err e) t → Answers (framed f m s) (Err e)
      w
  framed_unopened e h = answers_stop (opened f s) (λ _. m >> closed) e t w h

-- A TURN OF AN ALL

module _ (p : ℕ) (x : Slot) (turn : Does) (s t u w : State) (n : ℕ)
    (h : counted s.left ≡ Done tt n) where
  named_at : turn_for p x turn s ≡ framed (naming p x) turn (record s { left = n })
  named_at = ap (λ o. onward (counting s o) (λ _. framed (naming p x) turn)) h

  pub named_runs : opened (naming p x) (record s { left = n }) ≡ Done tt t → turn t ≡ Done tt u
      → turn_for p x turn s ≡ closed u
  named_runs k l = named_at ∙ framed_runs (naming p x) turn (record s { left = n }) t u u k l

  pub named_stops : (e : Stop) → opened (naming p x) (record s { left = n }) ≡ Done tt t
      → Answers (turn t) (Err e) u → Answers (turn_for p x turn s) (Err e) w
  named_stops e k l = answers_by (framed (naming p x) turn (record s { left = n }))
      (turn_for p x turn s) (Err e) w named_at
      (framed_stops (naming p x) turn (record s { left = n }) t u w e k l)

  pub named_unopened : (e : Stop) → Answers (opened (naming p x) (record s { left = n })) (Err e) t
      → Answers (turn_for p x turn s) (Err e) w
  named_unopened e k = answers_by (framed (naming p x) turn (record s { left = n }))
      (turn_for p x turn s) (Err e) w named_at
      (framed_unopened (naming p x) turn (record s { left = n }) t u w e k)

-- THE TURNS OF AN ALL

module _ (p : ℕ) (f : ℕ → ℤ) (turn : Does) (i j k : ℕ) (s t : State) where
  pub each_on : turn_for p (slot.Value (value.Ordinal (f i))) turn s ≡ Done tt t → j ≡ i + 1
      → for_each p (map f (range_with_len i (suc k))) turn s
      ≡ for_each p (map f (range_with_len j k)) turn t
  each_on h e = ap (λ o. onward o (λ _. for_each p (map f (range_with_len (i + 1) k)) turn)) h
      ∙ ap (λ m. for_each p (map f (range_with_len m k)) turn t) (sym e)

  pub each_stop : (e : Stop) → Answers (turn_for p (slot.Value (value.Ordinal (f i))) turn s)
      (Err e) t
      → Answers (for_each p (map f (range_with_len i (suc k))) turn s) (Err e) t
  each_stop e h = answers_stop (turn_for p (slot.Value (value.Ordinal (f i))) turn s)
      (λ _. for_each p (map f (range_with_len (i + 1) k)) turn) e t t h

-- FOR

module _ (name : Used) (first : Expr) (down : Bool) (last : Expr) (turn : Does) (site : Site)
    (s : State) (r : Reached) (n m l : ℕ) (a b : Value) (y z : ℤ)
    (reached : variable_of name [] (view site s) s.left ≡ Done r n)
    (begins : value_of first (view site s) n ≡ Done a m) (low : ordinal_in a ≡ Ok y)
    (ends : value_of last (view site s) m ≡ Done b l) (high : ordinal_in b ≡ Ok z) where
  -- what is done at the bounds
  abbrev turned : ℤ → ℤ → Does
  turned y z =
      counts (distance down y z) y (step down)
      (λ x. stored site.function r (value.Ordinal x) >> turn)
      >> stored site.function r value.Undefined

  control_at : controlled name first down last turn site s ≡ turned y z (record s { left = l })
  control_at =
      ap (λ o. onward (counting s o) (λ r. ordinal_of first site >>= λ a. ordinal_of last site
      >>= λ b. counts (distance down a b) a (step down)
      (λ x. stored site.function r (value.Ordinal x) >> turn)
      >> stored site.function r value.Undefined)) reached
      ∙ ap (λ o. onward (counting (record s { left = n }) (onward o ordinal))
      (λ a. ordinal_of last site >>= λ b. turned a b)) begins
      ∙ ap (λ x. onward (counting (record s { left = n }) (lift x m))
      (λ a. ordinal_of last site >>= λ b. turned a b)) low
      ∙ ap (λ o. onward (counting (record s { left = m }) (onward o ordinal)) (λ b. turned y b))
      ends
      ∙ ap (λ x. onward (counting (record s { left = m }) (lift x l)) (λ b. turned y b)) high

  pub control_runs : (t : State)
      → counts (distance down y z) y (step down)
      (λ x. stored site.function r (value.Ordinal x) >> turn) (record s { left = l }) ≡ Done tt t
      → controlled name first down last turn site s ≡ stored site.function r value.Undefined t
  control_runs t h =
      control_at ∙ ap (λ o. onward o (λ _. stored site.function r value.Undefined)) h

  pub control_stops : (e : Stop) (t u : State)
      → Answers (counts (distance down y z) y (step down)
      (λ x. stored site.function r (value.Ordinal x) >> turn) (record s { left = l })) (Err e) t
      → Answers (controlled name first down last turn site s) (Err e) u
  control_stops e t u h = answers_by (turned y z (record s { left = l }))
      (controlled name first down last turn site s) (Err e) u control_at
      (answers_stop (counts (distance down y z) y (step down)
      (λ x. stored site.function r (value.Ordinal x) >> turn) (record s { left = l }))
      (λ _. stored site.function r value.Undefined) e t u h)

-- CASE

pub arms_found : (arms : List Arm) (i : ℕ) (a d : Arm) (z : ℤ) (site : Site) (s : State)
    → i < length arms → a ≡ get_or arms i d → is_chosen site.text.outline a.constants z ≡ true
    → arms_in (drop i arms) z site s ≡ statement_of a.turn site s
arms_found arms i a d z site s h e k =
    ap (λ l. arms_in l z site s) (drop_item arms i (suc i) a d h e refl)
    ∙ ap (λ b. (if b then statement_of a.turn site else arms_in (drop (suc i) arms) z site) s) k

-- THE CHILDREN OF AN ALL

pub children_stop : (p : ℕ) (ns : List ℕ) (i x d : ℕ) (turn : Does) (s t : State) (e : Stop)
    → i < length ns → x ≡ get_or ns i d → Answers (for_child p x turn s) (Err e) t
    → Answers (for_children p (drop i ns) turn s) (Err e) t
children_stop p ns i x d turn s t e h q k = answers_by
    (onward (for_child p x turn s) (λ _. for_children p (drop (suc i) ns) turn))
    (for_children p (drop i ns) turn s) (Err e) t
    (ap (λ l. for_children p l turn s) (drop_item ns i (suc i) x d h q refl))
    (answers_stop (for_child p x turn s) (λ _. for_children p (drop (suc i) ns) turn) e t t k)
