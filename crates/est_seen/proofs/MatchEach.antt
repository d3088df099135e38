-- Values match what is seen of as many, one for one.
use Rattle.std.proofs.Common.{◌≡◌, refl, sym, ap, ◌∙◌, subst, arith, ◌↔◌, ℕ, zero, suc, ◌+◌, ◌<◌}
use Rattle.std.proofs.Common.{◌≤◌, Bool, true, false, true≢false, IsTrue, List, [], ◌∷◌, length}
use Rattle.std.proofs.Common.{get_or, Some, None, slice_get, inl, inr}
use Rattle.std.proofs.lemmas.Bool.{false≢true, cases_lt}
use Rattle.std.proofs.lemmas.Option.{same_Some, none-some, slice_get_within, slice_get-get_or}
use Rattle.est_values.specs.declared.value.Value.{Value}
use Rattle.est_seen.specs.declared.seen.Seen.{Seen}
use Rattle.est_seen.specs.SeenValues.{Matches, MatchEach, nothing_seen, one_more}

-- as many match as are seen
as_many : (xs : List Seen) (vs : List Value) → MatchEach xs vs → length xs ≡ length vs
as_many _ _ nothing_seen = refl
as_many _ _ (one_more {xs = xs} {vs = vs} m rest) = (let n = as_many xs vs rest in omega arith)

-- each matches what is seen at its place
at_each : (xs : List Seen) (vs : List Value) → MatchEach xs vs → (k : ℕ) (x : Seen) (v : Value)
    → slice_get xs k ≡ Some x → slice_get vs k ≡ Some v → Matches x v
at_each _ _ nothing_seen k x v a b = absurd (none-some x a)
at_each _ _ (one_more {x = y} {v = w} m rest) zero x v a b =
    subst (λ z. Matches z v) (same_Some y x a) (subst (Matches y) (same_Some w v b) m)
at_each _ _ (one_more {xs = xs} {vs = vs} m rest) (suc k) x v a b = at_each xs vs rest k x v a b

-- so many of the values match
abbrev pub EachBefore : ℕ → List Seen → List Value → Type 0
EachBefore n xs vs = (k : ℕ) (x : Seen) (v : Value) → k < n → slice_get xs k ≡ Some x
    → slice_get vs k ≡ Some v → Matches x v

-- as many that do so match
from_each : (xs : List Seen) (vs : List Value) → length xs ≡ length vs
    → ((k : ℕ) (x : Seen) (v : Value) → slice_get xs k ≡ Some x → slice_get vs k ≡ Some v
    → Matches x v) → MatchEach xs vs
from_each [] [] n each = nothing_seen
from_each [] (v ∷ vs) n each = (let never : ⊥ = omega arith in absurd never)
from_each (x ∷ xs) [] n each = (let never : ⊥ = omega arith in absurd never)
from_each (x ∷ xs) (v ∷ vs) n each = one_more (each zero x v refl refl)
    (from_each xs vs (omega arith) (λ k y w a b. each (suc k) y w a b))

-- THE ANSWERS

-- where the lists differ in length,
pub not_as_many : (xs given : List Seen) (vs : List Value) (n : ℕ) → given ≡ xs → n ≡ length vs
    → (length given ≡ n → ⊥) → IsTrue false ↔ MatchEach xs vs
not_as_many xs given vs n same count differ = (
  λ t. absurd (false≢true t),
  λ m. absurd (differ (ap length same ∙ as_many xs vs m ∙ sym count)),
)

-- where one does not match,
pub one_fails : (xs given : List Seen) (vs : List Value) (i : ℕ) (x : Seen) (v : Value) (r : Bool)
    → given ≡ xs → i < length given → x ≡ get_or given i x → Some v ≡ slice_get vs i
    → (IsTrue r ↔ Matches x v) → r ≡ false → IsTrue false ↔ MatchEach xs vs
one_fails xs given vs i x v r same lt is there answer fails =
    let at : slice_get given i ≡ Some x = slice_get-get_or given i x lt ∙ ap Some (sym is) in (
      λ t. absurd (false≢true t),
      λ m. absurd (true≢false (sym (answer.1 (at_each xs vs m i x v
          (subst (λ l. slice_get l i ≡ Some x) same at) (sym there))) ∙ fails)),
    )

-- and where all do
pub all_match : (xs given : List Seen) (vs : List Value) (n i : ℕ) → given ≡ xs → n ≡ length vs
    → length given ≡ n → length given ≤ i → EachBefore i given vs → IsTrue true ↔ MatchEach xs vs
all_match xs given vs n i same count many all each = (
  λ t. subst (λ l. MatchEach l vs) same (from_each given vs (many ∙ count)
      (λ k x v a b. let lt = slice_get_within given k x a in each k x v (omega arith) a b)),
  λ m. refl,
)

-- a value stands at each place
pub never_missing : {A : Type 0} (vs : List Value) (m n i : ℕ) → n ≡ length vs → m ≡ n → i < m
    → None ≡ slice_get vs i → A
never_missing vs m n i count many lt e = absurd (none vs i (omega arith) e)
  where
    none : (ws : List Value) (k : ℕ) → k < length ws → None ≡ slice_get ws k → ⊥
    none [] k less d = omega arith
    none (w ∷ ws) zero less d = none-some w d
    none (w ∷ ws) (suc k) less d = none ws k (omega arith) d

-- one match more
pub one_more_matches : (given : List Seen) (vs : List Value) (i : ℕ) (x : Seen) (v : Value)
    → i < length given → x ≡ get_or given i x → Some v ≡ slice_get vs i → Matches x v
    → EachBefore i given vs → EachBefore (i + 1) given vs
one_more_matches given vs i x v lt is there m before k y w less a b =
    elim (cases_lt k i) [ inl l ↦ before k y w l a b | inr ge ↦ last (omega arith) ]
  where
    last : k ≡ i → Matches y w
    last e =
        let at : slice_get given i ≡ Some x = slice_get-get_or given i x lt ∙ ap Some (sym is) in
        subst (λ z. Matches z w) (same_Some x y (sym at ∙ ap (slice_get given) (sym e) ∙ a))
        (subst (Matches x) (same_Some v w (there ∙ ap (slice_get vs) (sym e) ∙ b)) m)
