-- What operators yield: ordinals, and sets whose members ascend.
use Rattle.std.specs.Prelude.{if◌then◌else◌, nat_le, length}
use Rattle.std.proofs.Common.{◌≡◌, refl, sym, ap, subst, ◌∙◌, ℕ, ℤ, pos, Bool, true, false, List}
use Rattle.std.proofs.Common.{Option, Some, None, Result, Ok, Err, true≢false}
use Rattle.std.proofs.lemmas.Option.{none-some}
use Rattle.est_syntax.specs.declared.constant.Sign.{Sign}
use Rattle.est_syntax.specs.declared.constant.Sign.TheVariants.{Plus, Minus}
use Rattle.est_syntax.specs.declared.expression.Operator.{Operator}
use Rattle.est_syntax.specs.Kinds.{maxint}
use Rattle.est_syntax.specs.declared.expression.Operator.TheVariants as operator
use Rattle.est_values.specs.declared.value.Value.{Value, out-Value}
use Rattle.est_values.specs.Integers.{negative}
use Rattle.est_values.specs.PartsOfValues.{parts_of}
use Rattle.est_values.specs.declared.value.Value.TheVariants as value
use Rattle.rule_kinds.specs.TypeTexts.{most_members}
use Rattle.est_values.specs.Types.{Yielded, Ordinal, Set, Group}
use Rattle.rule_expressions.specs.declared.operators.Wanted.{Wanted}
use Rattle.rule_expressions.specs.declared.operators.Wanted.TheVariants as wanted
use Rattle.rule_expressions.specs.Operators as types
use Rattle.mean_blocks.specs.declared.fault.BlockFault.{BlockFault}
use Rattle.mean_blocks.specs.declared.fault.BlockFault.TheVariants.{Range, Undefined}
use Rattle.mean_blocks.specs.Outcome.{Outcome, Done, Fault, Limit, ◌>>=◌, give, lift, on_ok}
use Rattle.mean_blocks.specs.OrdinalOperators.{truth, is_true, exact}
use Rattle.mean_blocks.specs.SetOperators.{united, common, others, set_of, combined, decided}
use Rattle.mean_blocks.specs.ValueOperators.{ordinal, operated, joined, signed, negated}
use Rattle.mean_blocks.specs.ValueOperators.{spanned, unsigned_integer}
use Rattle.mean_blocks.specs.WorkingState.{Counts}
use Rattle.mean_blocks.specs.OrdinalOperators as ordinals
use Rattle.law_runs.proofs.GivenThings.{Gives, OnGood, then_gives, good_gives, given_on}
use Rattle.law_values.specs.ValuesOfTypes.{DoAscend, IsYielded}
use Rattle.law_values.specs.ValuesOfTypes as yields
use Rattle.law_values.proofs.AscendingSets.{united_ascend, common_ascend, others_ascend}
use Rattle.law_values.proofs.AscendingSets.{with_span_ascends}

module _ (sizes : ℕ → ℕ) where
  -- what every type may have
  abbrev pub IsSimple : Value → Type 0
  IsSimple v = (t : Yielded) → IsYielded sizes t v

  pub ordinal_simple : (z : ℤ) → IsSimple (value.Ordinal z)
  ordinal_simple z t = yields.ordinal z refl

  pub set_simple : (zs : List ℤ) → DoAscend zs → IsSimple (value.Set zs)
  set_simple zs h t = yields.set zs refl h

  pub decided_simple : (b : Bool) → OnGood IsSimple (decided b)
  decided_simple b = ordinal_simple (truth b)

  pub set_of_simple : (zs : List ℤ) → DoAscend zs → OnGood IsSimple (set_of zs)
  set_of_simple zs h = by (nat_le (length zs) most_members)
    where
      by : (b : Bool) → OnGood IsSimple (if b then Ok (value.Set zs) else Err Range)
      by true = set_simple zs h
      by false = tt

  combined_simple : (op : Operator) (xs ys : List ℤ) → DoAscend xs → DoAscend ys
      → OnGood IsSimple (combined op xs ys)
  combined_simple operator.Plus xs ys h g = set_of_simple (united xs ys) (united_ascend xs ys h)
  combined_simple operator.Minus xs ys h g = set_of_simple (others xs ys) (others_ascend xs ys h)
  combined_simple operator.Times xs ys h g = set_of_simple (common xs ys) (common_ascend xs ys h)
  combined_simple operator.Equal xs ys h g = decided_simple _
  combined_simple operator.Unequal xs ys h g = decided_simple _
  combined_simple operator.AtMost xs ys h g = decided_simple _
  combined_simple operator.AtLeast xs ys h g = decided_simple _
  combined_simple _ xs ys h g = tt

  ordinal_result : (r : Result ℤ BlockFault)
      → OnGood IsSimple (on_ok r (λ z. Ok (value.Ordinal z)))
  ordinal_result (Ok z) = ordinal_simple z
  ordinal_result (Err f) = tt

  within_simple : (op : Operator) (a : ℤ) (ys : List ℤ)
      → OnGood IsSimple (operated op (value.Ordinal a) (value.Set ys))
  within_simple operator.Within a ys = decided_simple _
  within_simple _ a ys = tt

  others_simple : (op : Operator) (a b : Value) → ((xs ys : List ℤ) → a ≡ value.Set xs
      → b ≡ value.Set ys → DoAscend xs × DoAscend ys) → OnGood IsSimple (operated op a b)
  others_simple op (value.Ordinal a) (value.Ordinal b) h = ordinal_result (ordinals.operated op a b)
  others_simple op (value.Ordinal a) (value.Set ys) h = within_simple op a ys
  others_simple op (value.Set xs) (value.Set ys) h =
      let s = h xs ys refl refl in combined_simple op xs ys s.0 s.1
  others_simple op _ b h = tt

  -- the members of a set that is yielded
  set_members : (t : Yielded) (v : Value) (xs : List ℤ) → v ≡ value.Set xs → IsYielded sizes t v
      → DoAscend xs
  set_members t v xs e (yields.ordinal z i) = absurd (differ (sym i ∙ e))
    where
      differ : {x : ℤ} → value.Ordinal x ≡ value.Set xs → ⊥
      differ d = cc
  set_members t v xs e (yields.set zs i h) = subst DoAscend (one (sym i ∙ e)) h
    where
      one : value.Set zs ≡ value.Set xs → zs ≡ xs
      one d = cc
  set_members t v xs e (yields.group k ps i s g f) =
      absurd (none-some ps (sym (ap parts_of (value.outs-Set xs))
      ∙ ap (λ x. parts_of (out-Value x)) (sym e ∙ g) ∙ ap parts_of (value.outs-Group ps)))

  pub operated_simple : (op : Operator) (a b : Value) (s t : Yielded) → IsYielded sizes s a
      → IsYielded sizes t b → OnGood IsSimple (operated op a b)
  operated_simple op a b s t h g =
      others_simple op a b (λ xs ys d e. (set_members s a xs d h, set_members t b ys e g))

  -- what is no group is of each type
  pub simple_of : (r t : Yielded) (v : Value) → ((k : _) → r ≡ Group k → ⊥) → IsYielded sizes r v
      → IsYielded sizes t v
  simple_of r t v h (yields.ordinal z e) = yields.ordinal z e
  simple_of r t v h (yields.set zs e d) = yields.set zs e d
  simple_of r t v h (yields.group k ps e s i f) = absurd (h k e)

  pub good_more : (t : Yielded) (r : Result Value BlockFault) → OnGood IsSimple r
      → OnGood (IsYielded sizes t) r
  good_more t (Ok v) h = h t
  good_more t (Err f) h = tt

  -- `and` and `or` take no groups
  no_agreement : (s : Yielded) (k : _) → types.do_agree s (Group k) ≡ false
  no_agreement (Ordinal h) k = refl
  no_agreement (Set h) k = refl
  no_agreement (Group j) k = refl

  never : (b c : Bool) (t u : Yielded) → c ≡ false
      → (if b then (if c then Some u else None) else None) ≡ Some t → ⊥
  never true true t u e h = absurd (true≢false e)
  never true false t u e h = none-some t h
  never false c t u e h = none-some t h

  or_no_group : (s t : Yielded) (k : _)
      → types.operated operator.Or (Some s) (Some (Group k)) ≡ Some t → ⊥
  or_no_group s t k h = never (types.is_taken (types.left_of operator.Or) s)
      (types.do_agree s (Group k)) t (types.result_of operator.Or s (Group k)) (no_agreement s k) h

  and_no_group : (s t : Yielded) (k : _)
      → types.operated operator.And (Some s) (Some (Group k)) ≡ Some t → ⊥
  and_no_group s t k h = never (types.is_taken (types.left_of operator.And) s)
      (types.do_agree s (Group k)) t (types.result_of operator.And s (Group k)) (no_agreement s k) h

  arm : (b : Bool) (t : Yielded) (m n : Counts Value) (l : ℕ) → Gives (IsYielded sizes t) (m l)
      → Gives (IsYielded sizes t) (n l) → Gives (IsYielded sizes t) ((if b then m else n) l)
  arm true t m n l h g = h
  arm false t m n l h g = g

  -- the other one of `and` and `or`
  other_one : (op : Operator) (s r t : Yielded) (x : Outcome ℕ Value)
      → ((k : _) → r ≡ Group k → ⊥) → Gives (IsYielded sizes r) x → Gives (IsYielded sizes t) x
  other_one op s r t (Done v l) h g = simple_of r t v h g
  other_one op s r t (Fault f) h g = tt
  other_one op s r t Limit h g = tt

  or_yields : (a : Value) (right : Counts Value) (s r t : Yielded) (l : ℕ)
      → types.operated operator.Or (Some s) (Some r) ≡ Some t
      → ((m : ℕ) → Gives (IsYielded sizes r) (right m))
      → Gives (IsYielded sizes t) (joined operator.Or a right l)
  or_yields (value.Ordinal z) right s r t l h g =
      arm (is_true z) t (give (value.Ordinal z)) right l (ordinal_simple z t)
      (other_one operator.Or s r t (right l) (λ k e. or_no_group s t k
      (sym (ap (λ x. types.operated operator.Or (Some s) (Some x)) e) ∙ h)) (g l))
  or_yields _ right s r t l h g = tt

  and_yields : (a : Value) (right : Counts Value) (s r t : Yielded) (l : ℕ)
      → types.operated operator.And (Some s) (Some r) ≡ Some t
      → ((m : ℕ) → Gives (IsYielded sizes r) (right m))
      → Gives (IsYielded sizes t) (joined operator.And a right l)
  and_yields (value.Ordinal z) right s r t l h g =
      arm (is_true z) t right (give (value.Ordinal z)) l
      (other_one operator.And s r t (right l) (λ k e. and_no_group s t k
      (sym (ap (λ x. types.operated operator.And (Some s) (Some x)) e) ∙ h)) (g l))
      (ordinal_simple z t)
  and_yields _ right s r t l h g = tt

  both_yield : (op : Operator) (a : Value) (right : Counts Value) (s r t : Yielded) (l : ℕ)
      → IsYielded sizes s a → ((m : ℕ) → Gives (IsYielded sizes r) (right m))
      → Gives (IsYielded sizes t) ((right >>= λ b. lift (operated op a b)) l)
  both_yield op a right s r t l h g =
      given_on (IsYielded sizes r) (IsYielded sizes t) (right l) (λ b. lift (operated op a b)) (g l)
      (λ b m q. good_gives (IsYielded sizes t) (operated op a b) m
      (good_more t (operated op a b) (operated_simple op a b s r h q)))

  pub joined_yields : (op : Operator) (a : Value) (right : Counts Value) (s r t : Yielded) (l : ℕ)
      → types.operated op (Some s) (Some r) ≡ Some t → IsYielded sizes s a
      → ((m : ℕ) → Gives (IsYielded sizes r) (right m))
      → Gives (IsYielded sizes t) (joined op a right l)
  joined_yields operator.Or a right s r t l h i g = or_yields a right s r t l h g
  joined_yields operator.And a right s r t l h i g = and_yields a right s r t l h g
  joined_yields op a right s r t l h i g = both_yield op a right s r t l i g

  pub signed_yields : (sign : Option Sign) (a : Value) (t : Yielded) (l : ℕ)
      → IsYielded sizes t a → Gives (IsYielded sizes t) (signed sign a l)
  signed_yields None a t l h = h
  signed_yields (Some Plus) a t l h = h
  signed_yields (Some Minus) a t l h = then_gives (IsYielded sizes t) (ordinal a l) _
      (λ z m. then_gives (IsYielded sizes t) (lift (exact (negative z)) m) _
      (λ y k. ordinal_simple y t))

  pub negated_yields : (a : Value) (t : Yielded) (l : ℕ)
      → Gives (IsYielded sizes t) (negated a l)
  negated_yields a t l = then_gives (IsYielded sizes t) (ordinal a l) _
      (λ z m. ordinal_simple (truth _) t)

  pub integer_yields : (n : ℕ) (t : Yielded) (l : ℕ)
      → Gives (IsYielded sizes t) (lift (unsigned_integer n) l)
  integer_yields n t l = by (nat_le n maxint)
    where
      by : (b : Bool) → Gives (IsYielded sizes t)
          (lift (if b then Ok (value.Ordinal (pos n)) else Err Undefined) l)
      by true = ordinal_simple (pos n) t
      by false = tt

pub spanned_ascend : (a b : Value) (zs : List ℤ) (l : ℕ) → DoAscend zs
    → Gives DoAscend (spanned a b zs l)
spanned_ascend a b zs l h = then_gives DoAscend (ordinal a l) _
    (λ x m. then_gives DoAscend (ordinal b m) _ (λ y k. with_span_ascends x y zs h))

-- TYPES

pub kept_same : (w : Wanted) (x : Option Yielded) (t : Yielded) → types.kept w x ≡ Some t
    → x ≡ Some t
kept_same w None t h = h
kept_same w (Some s) t h = by (types.is_taken w s) h
  where
    by : (b : Bool) → (if b then Some s else None) ≡ Some t → Some s ≡ Some t
    by true e = e
    by false e = absurd (none-some t e)

pub signed_same : (sign : Option Sign) (x : Option Yielded) (t : Yielded)
    → types.signed sign x ≡ Some t → x ≡ Some t
signed_same (Some sign) x t h = kept_same wanted.Integer x t h
signed_same None x t h = h

-- the types of both operands
pub operand_types : (op : Operator) (x y : Option Yielded) (t : Yielded)
    → types.operated op x y ≡ Some t
    → (s : Yielded) × (r : Yielded) × (x ≡ Some s) × (y ≡ Some r)
    × (types.operated op (Some s) (Some r) ≡ Some t)
operand_types op None y t h = absurd (none-some t h)
operand_types op (Some s) None t h = absurd (none-some t h)
operand_types op (Some s) (Some r) t h = (s, r, refl, refl, h)
