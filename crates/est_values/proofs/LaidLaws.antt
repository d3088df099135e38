-- Where the items of chunks stand.
use Rattle.std.specs.Prelude.{◌≡◌, ℕ, zero, suc, ◌+◌, ◌-◌, ◌*◌, ◌/◌, ◌%◌, ◌<◌, ◌≤◌, List, [], ◌∷◌}
use Rattle.std.specs.Prelude.{◌++◌, length, slice_get, slice_set, Some, None, refl, drop}
use Rattle.std.proofs.Common.{sym, ◌∙◌, ap, arith, length-append, length-set, length-drop}
use Rattle.std.proofs.Common.{zero-add}
use Rattle.std.specs.Option.{unwrap_or}
use Rattle.std.specs.List.{slice_index_or}
use Rattle.std.proofs.lemmas.Option.{none-some, slice_get_read}
use Rattle.std.proofs.lemmas.Nat.{div-add-mod'}
use Rattle.std.proofs.Math.Seq.{drop-append-add}
use Rattle.std.proofs.lemmas.List.{append_assoc, set-append_left, set-append_right}
use Rattle.est_values.specs.Laid.{laid, AreFull}

-- what both hold is one
pub same_held : {T : Type 0} (x y : T) → Some x ≡ Some y → x ≡ y
same_held x y h = ap (λ o. unwrap_or o x) h

-- an item of the first of two lists
pub front : {T : Type 0} (xs ys : List T) (k : ℕ) → k < length xs
    → slice_get (xs ++ ys) k ≡ slice_get xs k
front [] ys k h = absurd (omega (arith, h))
front (x ∷ xs) ys zero h = refl
front (x ∷ xs) ys (suc k) h = front xs ys k (omega (arith, h))

-- an item of the second
pub behind : {T : Type 0} (xs ys : List T) (k : ℕ)
    → slice_get (xs ++ ys) (length xs + k) ≡ slice_get ys k
behind [] ys k = ap (slice_get ys) (zero-add k)
behind (x ∷ xs) ys k =
    let e : length (x ∷ xs) + k ≡ suc (length xs + k) = omega arith in
    ap (slice_get (x ∷ (xs ++ ys))) e ∙ behind xs ys k

-- an item of the second is written
pub set_behind : {T : Type 0} (xs ys : List T) (k : ℕ) (y : T)
    → slice_set (xs ++ ys) (length xs + k) y ≡ xs ++ slice_set ys k y
set_behind xs ys k y =
    let e : length xs + k - length xs ≡ k = omega arith in
    set-append_right xs ys (length xs) (length xs + k) y refl (omega arith)
    ∙ ap (λ n. xs ++ slice_set ys n y) e

-- a chunk is full
pub full_at : {T : Type 0} (xss : List (List T)) (q : ℕ) (xs : List T) → AreFull xss
    → slice_get xss q ≡ Some xs → length xs ≡ 128
full_at [] q xs f h = absurd (none-some xs h)
full_at (x ∷ xss) zero xs f h = ap length (sym (same_held x xs h)) ∙ f.0
full_at (x ∷ xss) (suc q) xs f h = full_at xss q xs f.1 h

-- one more full chunk
pub full_more : {T : Type 0} (xss : List (List T)) (xs : List T) → AreFull xss
    → length xs ≡ 128 → AreFull (xss ++ xs ∷ [])
full_more [] xs f h = (h, tt)
full_more (x ∷ xss) xs f h = (f.0, full_more xss xs f.1 h)

-- one full chunk in the place of another
pub full_set : {T : Type 0} (xss : List (List T)) (q : ℕ) (xs : List T) → AreFull xss
    → length xs ≡ 128 → AreFull (slice_set xss q xs)
full_set [] q xs f h = f
full_set (x ∷ xss) zero xs f h = (h, f.1)
full_set (x ∷ xss) (suc q) xs f h = (f.0, full_set xss q xs f.1 h)

-- what stands behind one more chunk
pub laid_more : {T : Type 0} (xss : List (List T)) (xs ys : List T)
    → laid (xss ++ xs ∷ []) ys ≡ laid xss (xs ++ ys)
laid_more [] xs ys = refl
laid_more (x ∷ xss) xs ys = ap (λ l. x ++ l) (laid_more xss xs ys)

-- a longer last chunk
pub laid_append : {T : Type 0} (xss : List (List T)) (xs ys : List T)
    → laid xss (xs ++ ys) ≡ laid xss xs ++ ys
laid_append [] xs ys = refl
laid_append (x ∷ xss) xs ys =
    ap (λ l. x ++ l) (laid_append xss xs ys) ∙ sym (append_assoc x (laid xss xs) ys)

-- how many items there are
pub laid_length : {T : Type 0} (xss : List (List T)) (ys : List T) → AreFull xss
    → length (laid xss ys) ≡ length xss * 128 + length ys
laid_length [] ys f = omega arith
laid_length (x ∷ xss) ys f =
    length-append x (laid xss ys) ∙ omega (arith, f.0, laid_length xss ys f.1)

-- an item of a full chunk
pub get_full : {T : Type 0} (xss : List (List T)) (ys : List T) (q r : ℕ) (xs : List T)
    → AreFull xss → r < 128 → slice_get xss q ≡ Some xs
    → slice_get (laid xss ys) (q * 128 + r) ≡ slice_get xs r
get_full [] ys q r xs f h at = absurd (none-some xs at)
get_full (x ∷ xss) ys zero r xs f h at =
    ap (slice_get (x ++ laid xss ys)) (zero-add r) ∙ front x (laid xss ys) r (omega (arith, f.0, h))
    ∙ ap (λ l. slice_get l r) (same_held x xs at)
get_full (x ∷ xss) ys (suc q) r xs f h at =
    let e : suc q * 128 + r ≡ length x + (q * 128 + r) = omega (arith, f.0) in
    ap (slice_get (x ++ laid xss ys)) e
    ∙ behind x (laid xss ys) (q * 128 + r) ∙ get_full xss ys q r xs f.1 h at

-- an item of the last chunk
pub get_last : {T : Type 0} (xss : List (List T)) (ys : List T) (k : ℕ) → AreFull xss
    → slice_get (laid xss ys) (length xss * 128 + k) ≡ slice_get ys k
get_last [] ys k f = ap (slice_get ys) (zero-add k)
get_last (x ∷ xss) ys k f =
    let e : length (x ∷ xss) * 128 + k ≡ length x + (length xss * 128 + k) = omega (arith, f.0) in
    ap (slice_get (x ++ laid xss ys)) e
    ∙ behind x (laid xss ys) (length xss * 128 + k) ∙ get_last xss ys k f.1

-- an item of a full chunk is written
pub set_full : {T : Type 0} (xss : List (List T)) (ys : List T) (q r : ℕ) (xs : List T) (y : T)
    → AreFull xss → r < 128 → slice_get xss q ≡ Some xs
    → laid (slice_set xss q (slice_set xs r y)) ys ≡ slice_set (laid xss ys) (q * 128 + r) y
set_full [] ys q r xs y f h at = absurd (none-some xs at)
set_full (x ∷ xss) ys zero r xs y f h at =
    ap (λ l. slice_set l r y ++ laid xss ys) (sym (same_held x xs at))
    ∙ sym (set-append_left x (laid xss ys) r y (omega (arith, f.0, h)))
    ∙ ap (λ n. slice_set (x ++ laid xss ys) n y) (sym (zero-add r))
set_full (x ∷ xss) ys (suc q) r xs y f h at =
    let e : length x + (q * 128 + r) ≡ suc q * 128 + r = omega (arith, f.0) in
    ap (λ l. x ++ l) (set_full xss ys q r xs y f.1 h at)
    ∙ sym (set_behind x (laid xss ys) (q * 128 + r) y)
    ∙ ap (λ n. slice_set (x ++ laid xss ys) n y) e

-- an item of the last chunk
pub set_last : {T : Type 0} (xss : List (List T)) (ys : List T) (k : ℕ) (y : T) → AreFull xss
    → laid xss (slice_set ys k y) ≡ slice_set (laid xss ys) (length xss * 128 + k) y
set_last [] ys k y f = ap (λ n. slice_set ys n y) (sym (zero-add k))
set_last (x ∷ xss) ys k y f =
    let e : length x + (length xss * 128 + k) ≡ length (x ∷ xss) * 128 + k = omega (arith, f.0) in
    ap (λ l. x ++ l) (set_last xss ys k y f.1)
    ∙ sym (set_behind x (laid xss ys) (length xss * 128 + k) y)
    ∙ ap (λ n. slice_set (x ++ laid xss ys) n y) e

-- a chunk that is there is one of the full ones
pub at_within : {T : Type 0} (xss : List (List T)) (q : ℕ) → slice_get xss q ≡ None → length xss ≤ q
at_within [] q h = omega arith
at_within (x ∷ xss) zero h = absurd (none-some x (sym h))
at_within (x ∷ xss) (suc q) h = omega (arith, at_within xss q h)

-- the item at a place, where that is in a full chunk
pub get_in : {T : Type 0} (xss : List (List T)) (ys : List T) (k : ℕ) (xs : List T) → AreFull xss
    → slice_get xss (k / 128) ≡ Some xs → slice_get (laid xss ys) k ≡ slice_get xs (k % 128)
get_in xss ys k xs f at =
    ap (slice_get (laid xss ys)) (sym (div-add-mod' k 128))
    ∙ get_full xss ys (k / 128) (k % 128) xs f (omega arith) at

-- and where it is past the full chunks
pub get_past : {T : Type 0} (xss : List (List T)) (ys : List T) (k : ℕ) → AreFull xss
    → length xss ≤ k / 128 → slice_get (laid xss ys) k ≡ slice_get ys (k - length xss * 128)
get_past xss ys k f h =
    let e : k ≡ length xss * 128 + (k - length xss * 128) = omega (arith, h) in
    ap (slice_get (laid xss ys)) e ∙ get_last xss ys (k - length xss * 128) f

-- and where it is not
pub get_behind : {T : Type 0} (xss : List (List T)) (ys : List T) (k : ℕ) → AreFull xss
    → slice_get xss (k / 128) ≡ None
    → slice_get (laid xss ys) k ≡ slice_get ys (k - length xss * 128)
get_behind xss ys k f at = get_past xss ys k f (at_within xss (k / 128) at)

-- a chunk that is read by its place
pub read : {T : Type 0} (xss : List (List T)) (q : ℕ) (xs : List T) → q < length xss
    → xs ≡ slice_index_or xss q xs → slice_get xss q ≡ Some xs
read xss q xs h at = slice_get_read xss (length xss) q xs refl h at

-- it is full
pub read_full : {T : Type 0} (xss : List (List T)) (q : ℕ) (xs : List T) → AreFull xss
    → q < length xss → xs ≡ slice_index_or xss q xs → length xs ≡ 128
read_full xss q xs f h at = full_at xss q xs f (read xss q xs h at)

-- an item is written in a full chunk
pub set_at : {T : Type 0} (xss : List (List T)) (ys : List T) (k : ℕ) (xs : List T) (y : T)
    → AreFull xss → k / 128 < length xss → xs ≡ slice_index_or xss (k / 128) xs
    → laid (slice_set xss (k / 128) (slice_set xs (k % 128) y)) ys ≡ slice_set (laid xss ys) k y
set_at xss ys k xs y f h at =
    set_full xss ys (k / 128) (k % 128) xs y f (omega arith) (read xss (k / 128) xs h at)
    ∙ ap (λ n. slice_set (laid xss ys) n y) (div-add-mod' k 128)

-- and the chunks stay full with one of the same length
pub full_kept : {T : Type 0} (xss : List (List T)) (q : ℕ) (xs ys : List T) → AreFull xss
    → q < length xss → xs ≡ slice_index_or xss q xs → length ys ≡ length xs
    → AreFull (slice_set xss q ys)
full_kept xss q xs ys f h at same = full_set xss q ys f (same ∙ read_full xss q xs f h at)

-- an item is written in the last chunk
pub set_behind_full : {T : Type 0} (xss : List (List T)) (ys : List T) (k : ℕ) (y : T) → AreFull xss
    → length xss ≤ k / 128
    → laid xss (slice_set ys (k - length xss * 128) y) ≡ slice_set (laid xss ys) k y
set_behind_full xss ys k y f h =
    let e : length xss * 128 + (k - length xss * 128) ≡ k = omega (arith, h) in
    set_last xss ys (k - length xss * 128) y f ∙ ap (λ n. slice_set (laid xss ys) n y) e

-- its place in the last chunk
pub place_behind : {T : Type 0} (xss : List (List T)) (ys : List T) (k : ℕ) → AreFull xss
    → k < length (laid xss ys) → length xss ≤ k / 128 → k - length xss * 128 < length ys
place_behind xss ys k f h q = omega (arith, h, laid_length xss ys f, q)

-- a full last chunk joins the others
pub laid_moved : {T : Type 0} (xss : List (List T)) (xs ys : List T)
    → laid (xss ++ xs ∷ []) ys ≡ laid xss xs ++ ys
laid_moved xss xs ys = laid_more xss xs ys ∙ laid_append xss xs ys

-- without full chunks at the front
pub full_drop : {T : Type 0} (xss : List (List T)) (n : ℕ) → AreFull xss → AreFull (drop n xss)
full_drop [] zero f = f
full_drop [] (suc n) f = f
full_drop (x ∷ xss) zero f = f
full_drop (x ∷ xss) (suc n) f = full_drop xss n f.1

-- the items go that they hold
pub laid_drop : {T : Type 0} (xss : List (List T)) (ys : List T) (n : ℕ) → AreFull xss
    → n ≤ length xss → laid (drop n xss) ys ≡ drop (n * 128) (laid xss ys)
laid_drop xss ys zero f h = refl
laid_drop [] ys (suc n) f h = absurd (omega (arith, h))
laid_drop (x ∷ xss) ys (suc n) f h =
    let e : length x + n * 128 ≡ suc n * 128 = omega (arith, f.0) in
    laid_drop xss ys n f.1 (omega (arith, h)) ∙ sym (drop-append-add x (laid xss ys) (n * 128))
    ∙ ap (λ k. drop k (x ++ laid xss ys)) e

-- full chunks that are there hold items that are there
pub items_there : {T : Type 0} (xss : List (List T)) (ys : List T) (n : ℕ) → AreFull xss
    → n ≤ length xss → n * 128 ≤ length (laid xss ys)
items_there xss ys n f h = omega (arith, laid_length xss ys f, h)

-- the item at a place, where that is in a chunk that is read by its place
pub get_read : {T : Type 0} (xss : List (List T)) (ys : List T) (k : ℕ) (xs : List T)
    → AreFull xss → k / 128 < length xss → xs ≡ slice_index_or xss (k / 128) xs
    → slice_get (laid xss ys) k ≡ slice_get xs (k % 128)
get_read xss ys k xs f h at = get_in xss ys k xs f (read xss (k / 128) xs h at)

-- how many items there are with one more in the last chunk
pub count_append : {T : Type 0} (n m : ℕ) (xss : List (List T)) (ys : List T) (y : T)
    → AreFull xss → n ≡ length (laid xss ys) → m ≡ n + 1
    → m ≡ length (laid xss (ys ++ y ∷ []))
count_append n m xss ys y f e more =
    omega (
      arith,
      e,
      more,
      laid_length xss ys f,
      laid_length xss (ys ++ y ∷ []) f,
      length-append ys (y ∷ []),
    )

-- and with one in a chunk of its own, after a last one that was full
pub count_moved : {T : Type 0} (n m : ℕ) (xss : List (List T)) (ys : List T) (y : T)
    → AreFull xss → n ≡ length (laid xss ys) → length ys ≡ 128 → m ≡ n + 1
    → m ≡ length (laid (xss ++ ys ∷ []) (y ∷ []))
count_moved n m xss ys y f e full more =
    omega (
      arith,
      e,
      full,
      more,
      laid_length xss ys f,
      laid_length (xss ++ ys ∷ []) (y ∷ []) (full_more xss ys f full),
      length-append xss (ys ∷ []),
    )

-- they are as many with a chunk of the same length in the place of another
pub count_kept : {T : Type 0} (n : ℕ) (xss : List (List T)) (ys : List T) (q : ℕ)
    (xs zs : List T) → AreFull xss → n ≡ length (laid xss ys) → q < length xss
    → xs ≡ slice_index_or xss q xs → length zs ≡ length xs
    → n ≡ length (laid (slice_set xss q zs) ys)
count_kept n xss ys q xs zs f e h at same =
    omega (
      arith,
      e,
      laid_length xss ys f,
      laid_length (slice_set xss q zs) ys (full_kept xss q xs zs f h at same),
      length-set xss q zs,
    )

-- and with a last one of the same length
pub count_last : {T : Type 0} (n : ℕ) (xss : List (List T)) (ys zs : List T) → AreFull xss
    → n ≡ length (laid xss ys) → length zs ≡ length ys → n ≡ length (laid xss zs)
count_last n xss ys zs f e same =
    omega (arith, e, laid_length xss ys f, laid_length xss zs f, same)

-- full chunks that are there hold items that are counted
pub count_there : {T : Type 0} (n : ℕ) (xss : List (List T)) (ys : List T) (k : ℕ)
    → AreFull xss → n ≡ length (laid xss ys) → k ≤ length xss → k * 128 ≤ n
count_there n xss ys k f e h = omega (arith, e, items_there xss ys k f h)

-- and the others are so many without them
pub count_drop : {T : Type 0} (n : ℕ) (xss : List (List T)) (ys : List T) (k : ℕ)
    → AreFull xss → n ≡ length (laid xss ys) → k ≤ length xss
    → n - k * 128 ≡ length (laid (drop k xss) ys)
count_drop n xss ys k f e h =
    omega (
      arith,
      e,
      laid_length xss ys f,
      laid_length (drop k xss) ys (full_drop xss k f),
      length-drop k xss,
      h,
    )

-- where no chunk is full, the items of the last are all
pub none_full : {T : Type 0} (xss : List (List T)) (ys : List T) → length xss ≡ 0
    → laid xss ys ≡ ys
none_full [] ys h = refl
none_full (x ∷ xss) ys h = absurd (omega (arith, h))

-- some of them are counted
pub last_there : {T : Type 0} (n : ℕ) (xss : List (List T)) (ys : List T) (k : ℕ)
    → n ≡ length (laid xss ys) → length xss ≡ 0 → k ≤ length ys → k ≤ n
last_there n xss ys k e none h = omega (arith, e, ap length (none_full xss ys none), h)

-- some of them go
pub last_drop : {T : Type 0} (xss : List (List T)) (ys : List T) (k : ℕ) → length xss ≡ 0
    → laid xss (drop k ys) ≡ drop k (laid xss ys)
last_drop xss ys k none =
    none_full xss (drop k ys) none ∙ ap (drop k) (sym (none_full xss ys none))

-- and the others are so many without them
pub count_last_drop : {T : Type 0} (n : ℕ) (xss : List (List T)) (ys : List T) (k : ℕ)
    → n ≡ length (laid xss ys) → length xss ≡ 0 → n - k ≡ length (laid xss (drop k ys))
count_last_drop n xss ys k e none =
    ap (λ m. m - k) e ∙ sym (length-drop k (laid xss ys))
    ∙ ap length (sym (last_drop xss ys k none))
