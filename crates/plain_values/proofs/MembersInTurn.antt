-- Members that are put into a set one after another.
use Rattle.std.proofs.Common.{◌≡◌, ap, ◌∙◌, arith, ℕ, suc, ◌+◌, ◌-◌, ◌<◌, ℤ, pos, ◌+ℤ◌, List}
use Rattle.std.proofs.lemmas.Int.{ints}
use Rattle.mean_blocks.specs.SetOperators.{with_member, with_members}

-- one of so many members that are put one after another
pub put_next : (n i : ℕ) (z y : ℤ) (xs zs all : List ℤ) → zs ≡ with_member y xs
    → with_members (n - i) (z +ℤ pos i) xs ≡ all → y ≡ z +ℤ pos i → i < n
    → with_members (n - (i + 1)) (z +ℤ pos (i + 1)) zs ≡ all
put_next n i z y xs zs all put so at h =
    let m = n - (i + 1) in
    let w = z +ℤ pos i in
    let next : z +ℤ pos (i + 1) ≡ w +ℤ pos 1 = omega (arith, ints) in
    let left : suc m ≡ n - i = omega arith in
    ap (λ t. with_members m t zs) next
    ∙ ap (with_members m (w +ℤ pos 1)) (put ∙ ap (λ t. with_member t xs) at)
    ∙ ap (λ k. with_members k w xs) left
    ∙ so
