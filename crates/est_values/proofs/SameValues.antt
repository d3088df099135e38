-- Lists that begin with the same items.
use Rattle.std.proofs.Common.{◌≡◌, ◌∙◌, sym, ℕ, ◌+◌, List, take, Some, slice_get}
use Rattle.std.proofs.lemmas.List.{take_more_same}
use Rattle.std.proofs.lemmas.Option.{slice_get_within, get_or_from_slice_get}

-- they do so with one item more, where that is one
pub same_more : {T : Type 0} (xs ys : List T) (i : ℕ) (x y : T) → take i xs ≡ take i ys
    → Some x ≡ slice_get xs i → Some y ≡ slice_get ys i → x ≡ y
    → take (i + 1) xs ≡ take (i + 1) ys
same_more xs ys i x y same a b e =
    take_more_same xs ys i x (slice_get_within xs i x (sym a)) (slice_get_within ys i y (sym b))
    same
    (get_or_from_slice_get xs i x x (sym a) ∙ e ∙ sym (get_or_from_slice_get ys i y x (sym b)))
