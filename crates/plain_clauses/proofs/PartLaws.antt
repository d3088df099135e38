-- What is held of parts says what comes of them.
use Rattle.std.proofs.Common.{◌≡◌, refl, ap, ◌∙◌, ℕ, ℤ, ◌||◌, List, []}
use Rattle.std.proofs.Common.{◌∷◌, ◌++◌, map, append-nil, drop, length, ◌≤◌}
use Rattle.std.proofs.Common.{Option}
use Rattle.std.proofs.Math.ListN.{drop_of_length-le}
use Rattle.std.specs.Prelude.{option_and_then}
use Rattle.std.specs.List.{list_any}
use Rattle.std.specs.Option.{option_map}
use Rattle.est_syntax.specs.declared.expression.Expr.{Expr}
use Rattle.est_syntax.specs.declared.kind.Kind.{Kind}
use Rattle.est_meaning.specs.mean_blocks.Outcome.{Done, Fault, Limit}
use Rattle.est_meaning.specs.mean_blocks.WorkingState.{View}
use Rattle.est_meaning.specs.GuardParts.{Part, subscripts_of, is_limit}
use Rattle.est_meaning.specs.GuardParts.{ordinal_by, ordinals_by}
use Rattle.plain_clauses.specs.declared.evaluated.Evaluated.{Evaluated}
use Rattle.plain_clauses.specs.EvaluatedParts.{held}
use Rattle.plain_clauses.specs.EvaluatedParts.{is_past, ordinal_held, ordinals_held}

-- WHAT IT SAYS

pub past_held : (x : Part) → is_past (held x) ≡ is_limit x
past_held (Done z n) = refl
past_held (Fault f) = refl
past_held Limit = refl

pub pasts_held : (xs : List Part) → list_any is_past (map held xs) ≡ list_any is_limit xs
pasts_held [] = refl
pasts_held (x ∷ xs) = λ i. past_held x i || pasts_held xs i

pub ordinal_is : (x : Part) → ordinal_held (held x) ≡ ordinal_by x
ordinal_is (Done z n) = refl
ordinal_is (Fault f) = refl
ordinal_is Limit = refl

pub ordinals_are : (xs : List Part) → ordinals_held (map held xs) ≡ ordinals_by xs
ordinals_are [] = refl
ordinals_are (x ∷ xs) = λ i.
    option_and_then (λ z. option_map (λ zs. z ∷ zs) (ordinals_are xs i)) (ordinal_is x i)

-- SUBSCRIPTS, ONE BY ONE

pub no_more : (limit : ℕ) (ks : List Kind) (v : View) → subscripts_of limit ks [] v ≡ []
no_more limit [] v = refl
no_more limit (k ∷ ks) v = refl

-- where there is no subscript more
pub subscripts_end : (limit : ℕ) (ks : List Kind) (es : List Expr) (v : View)
    (before : List Evaluated) (i : ℕ) → length es ≤ i
    → before ++ map held (subscripts_of limit (drop i ks) (drop i es) v) ≡ before
subscripts_end limit ks es v before i h =
    ap (λ l. before ++ map held (subscripts_of limit (drop i ks) l v)) (drop_of_length-le es h)
    ∙ ap (λ ps. before ++ map held ps) (no_more limit (drop i ks) v) ∙ append-nil before

-- ORDINALS, ONE BY ONE

-- the ordinals before, and then those of parts
abbrev pub after : List ℤ → Option (List ℤ) → Option (List ℤ)
after before o = option_map (λ zs. before ++ zs) o
