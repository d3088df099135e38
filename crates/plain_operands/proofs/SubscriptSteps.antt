-- A subscript, step by step.
use Rattle.std.proofs.Common.{◌≡◌, refl, ℕ, List, [], ◌∷◌, ◌++◌, length, Option, Some, None}
use Rattle.std.specs.Prelude.{ℤ}
use Rattle.est_syntax.specs.declared.kind.Kind.{Kind}
use Rattle.mean_blocks.specs.Outcome.{◌>>=◌, give, lift, known}
use Rattle.mean_blocks.specs.ReachedVariables.{with_subscript}
use Rattle.mean_blocks.specs.TakenValues.{within_kind}
use Rattle.plain_operands.specs.HeldVariables.{kind_by}

pub subscript_known : (ks : Option (List Kind)) (zs : List ℤ) (z : ℤ) (n : ℕ)
    → with_subscript ks zs z n ≡ (known (kind_by ks (length zs))
    >>= λ k. lift (within_kind k z) >>= λ x. give (zs ++ x ∷ [])) n
subscript_known None zs z n = refl
subscript_known (Some ks) zs z n = refl
