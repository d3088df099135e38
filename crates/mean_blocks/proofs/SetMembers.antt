-- The members of intersections and differences of sets.
use Rattle.std.proofs.Common.{◌≡◌, sym, ap, ℤ, List, int_eq, ◌&&◌}
use Rattle.std.specs.Prelude.{not}
use Rattle.std.proofs.lemmas.Bool.Decides.{Decides-int_eq}
use Rattle.std.proofs.lemmas.Map.Views.{any-filter_same}
use Rattle.mean_blocks.specs.SetOperators.{is_member, common, others}

pub common_members : (xs ys : List ℤ) (z : ℤ)
    → is_member (common xs ys) z ≡ is_member ys z && is_member xs z
common_members xs ys z = any-filter_same (int_eq z) (is_member ys) (is_member ys z)
    (λ x h. ap (is_member ys) (sym ((Decides-int_eq z x).0 h))) xs

pub other_members : (xs ys : List ℤ) (z : ℤ)
    → is_member (others xs ys) z ≡ not (is_member ys z) && is_member xs z
other_members xs ys z =
    any-filter_same (int_eq z) (λ x. not (is_member ys x)) (not (is_member ys z))
    (λ x h. ap (λ y. not (is_member ys y)) (sym ((Decides-int_eq z x).0 h))) xs
