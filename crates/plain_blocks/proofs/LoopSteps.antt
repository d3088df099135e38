-- Loops over lists, one item further.
use Rattle.std.proofs.Common.{◌≡◌, refl, sym, ap, ◌∙◌, subst, ℕ, zero, suc, ◌<◌, ◌≤◌, List, []}
use Rattle.std.proofs.Common.{◌∷◌}
use Rattle.std.proofs.Common.{length, get_or, drop, Option, Ok, Err, arith}
use Rattle.std.specs.Prelude.{ℤ}
use Rattle.plain_effects.specs.plain_systems.declared.system.Working.{Working}
use Rattle.plain_effects.specs.plain_systems.HeldSystems.{LooksSame}
use Rattle.est_syntax.specs.declared.expression.Expr.{Expr}
use Rattle.est_syntax.specs.declared.expression.Member.{Member}
use Rattle.est_syntax.specs.declared.kind.Kind.{Kind}
use Rattle.est_values.specs.declared.value.Value.{Value}
use Rattle.mean_blocks.specs.declared.stop.Stop.{Stop}
use Rattle.mean_blocks.specs.AnswersOfCalls.{Answers}
use Rattle.mean_blocks.specs.ExpressionValues.{value_of, components_in, subscripts_in, member_of}
use Rattle.mean_blocks.specs.ExpressionValues.{members_in}
use Rattle.mean_blocks.specs.Outcome.{Done, onward, ◌>>=◌, lift}
use Rattle.mean_blocks.specs.ReachedVariables.{Reached, with_component, with_subscript}
use Rattle.mean_blocks.specs.ValueOperators.{ordinal_in, ordinal}
use Rattle.mean_blocks.specs.WorkingState.{View, Counts}
use Rattle.mean_blocks.proofs.Answering.{answers_by, answers_stop}
use Rattle.plain_effects.specs.plain_operands.declared.site.Site.{Site}
use Rattle.plain_effects.specs.plain_operands.ExecutionSites.{view_of}

-- an expression sees the same where everything looks the same
pub view_same : (s : Site) (w u : Working) → LooksSame w u → view_of s u ≡ view_of s w
view_same s w u h = λ i. record (view_of s w) { situation = h.0 i; frames = h.1.1 i }

-- and so from one to another
pub looks_after : (w u x : Working) → LooksSame w u → LooksSame u x → LooksSame w x
looks_after w u x h k = (k.0 ∙ h.0, (k.1.0 ∙ h.1.0, k.1.1 ∙ h.1.1))

-- the rest of a list from an item on
pub drop_item : {A : Type 0} (xs : List A) (i j : ℕ) (x d : A) → i < length xs → x ≡ get_or xs i d
    → j ≡ suc i → drop i xs ≡ x ∷ drop j xs
drop_item [] i j x d h e k = absurd (omega arith)
drop_item (y ∷ ys) zero j x d h e k =
    (λ i. sym e i ∷ ys) ∙ ap (λ m. x ∷ drop m (y ∷ ys)) (sym k)
drop_item (y ∷ ys) (suc i) j x d h e k =
    drop_item ys i (suc i) x d (omega arith) e refl ∙ ap (λ m. x ∷ drop m (y ∷ ys)) (sym k)

-- nothing is left of a list after its end
pub drop_end : {A : Type 0} (xs : List A) (i : ℕ) → length xs ≤ i → drop i xs ≡ []
drop_end [] i h = drop_none i
  where
    drop_none : {A : Type 0} (i : ℕ) → drop {A = A} i [] ≡ []
    drop_none zero = refl
    drop_none (suc i) = refl
drop_end (x ∷ xs) zero h = absurd (omega arith)
drop_end (x ∷ xs) (suc i) h = drop_end xs i (omega arith)

module _ (es : List Expr) (i j : ℕ) (e d : Expr) (v u : View) (n m : ℕ) (a : Value) (z : ℤ)
    (within : i < length es) (item : e ≡ get_or es i d) (next : j ≡ suc i) (same : u ≡ v)
    (value : value_of e u n ≡ Done a m) (number : ordinal_in a ≡ Ok z) where
  -- an ordinal, and what is done with it
  ordinal_then : {B : Type 0} (go : ℤ → Counts B) → (value_of e v >>= λ b. ordinal b >>= go) n ≡ go
      z m
  ordinal_then go =
      ap (λ o. onward o (λ b. ordinal b >>= go)) (ap (λ w. value_of e w n) (sym same) ∙ value)
      ∙ ap (λ x. (lift x >>= go) m) number

  pub components_step : (r q : Reached) → with_component r z m ≡ Done q m
      → components_in (drop j es) q v m ≡ components_in (drop i es) r v n
  components_step r q h = sym (
      ap (λ l. components_in l r v n) (drop_item es i j e d within item next)
      ∙ ordinal_then (λ y. with_component r y >>= λ q. components_in (drop j es) q v)
      ∙ ap (λ o. onward o (λ q. components_in (drop j es) q v)) h)

  pub components_stop : (r : Reached) (f : Stop) (t : ℕ) → Answers (with_component r z m) (Err f) t
      → Answers (components_in (drop i es) r v n) (Err f) t
  components_stop r f t h = answers_by
      (onward (with_component r z m) (λ q. components_in (drop j es) q v))
      (components_in (drop i es) r v n) (Err f) t
      (ap (λ l. components_in l r v n) (drop_item es i j e d within item next)
      ∙ ordinal_then (λ y. with_component r y >>= λ q. components_in (drop j es) q v))
      (answers_stop (with_component r z m) (λ q. components_in (drop j es) q v) f t t h)

  pub subscripts_step : (ks : Option (List Kind)) (xs ys : List ℤ)
      → with_subscript ks xs z m ≡ Done ys m
      → subscripts_in (drop j es) ks ys v m ≡ subscripts_in (drop i es) ks xs v n
  subscripts_step ks xs ys h = sym (
      ap (λ l. subscripts_in l ks xs v n) (drop_item es i j e d within item next)
      ∙ ordinal_then (λ y. with_subscript ks xs y >>= λ q. subscripts_in (drop j es) ks q v)
      ∙ ap (λ o. onward o (λ q. subscripts_in (drop j es) ks q v)) h)

  pub subscripts_stop : (ks : Option (List Kind)) (xs : List ℤ) (f : Stop) (t : ℕ)
      → Answers (with_subscript ks xs z m) (Err f) t
      → Answers (subscripts_in (drop i es) ks xs v n) (Err f) t
  subscripts_stop ks xs f t h = answers_by
      (onward (with_subscript ks xs z m) (λ q. subscripts_in (drop j es) ks q v))
      (subscripts_in (drop i es) ks xs v n) (Err f) t
      (ap (λ l. subscripts_in l ks xs v n) (drop_item es i j e d within item next)
      ∙ ordinal_then (λ y. with_subscript ks xs y >>= λ q. subscripts_in (drop j es) ks q v))
      (answers_stop (with_subscript ks xs z m) (λ q. subscripts_in (drop j es) ks q v) f t t h)

module _ (ms : List Member) (i j : ℕ) (x d : Member) (v u : View) (n m : ℕ) (zs : List ℤ)
    (within : i < length ms) (item : x ≡ get_or ms i d) (next : j ≡ suc i) (same : u ≡ v) where
  pub members_step : (ys : List ℤ) → member_of x zs u n ≡ Done ys m
      → members_in (drop j ms) ys v m ≡ members_in (drop i ms) zs v n
  members_step ys h = sym (
      ap (λ l. members_in l zs v n) (drop_item ms i j x d within item next)
      ∙ ap (λ o. onward o (λ ys. members_in (drop j ms) ys v))
      (ap (λ w. member_of x zs w n) (sym same) ∙ h))

  pub members_stop : (f : Stop) (t : ℕ) → Answers (member_of x zs u n) (Err f) t
      → Answers (members_in (drop i ms) zs v n) (Err f) t
  members_stop f t h = answers_by
      (onward (member_of x zs v n) (λ ys. members_in (drop j ms) ys v))
      (members_in (drop i ms) zs v n) (Err f) t
      (ap (λ l. members_in l zs v n) (drop_item ms i j x d within item next))
      (answers_stop (member_of x zs v n) (λ ys. members_in (drop j ms) ys v) f t t
      (subst (λ w. Answers (member_of x zs w n) (Err f) t) same h))
