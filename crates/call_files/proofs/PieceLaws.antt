-- How pieces that are read or written one after another join.
use Rattle.std.proofs.Common.{◌≡◌, ℕ, ◌+◌, ◌-◌, ◌≤◌, List, ◌++◌, length, take, drop}
use Rattle.std.proofs.Common.{Option, Some, None, arith, ap, sym, ◌∙◌, refl, append_assoc}
use Rattle.std.proofs.Common.{take-add, length-drop, length-take-le, drop-drop}
use Rattle.std.proofs.Math.Seq.{take-append_seam}
use Rattle.std.proofs.lemmas.List.{take-append-drop, take_rest}
use Rattle.call_files.specs.Pieces.{SameTold, appended, IsPrefix, TakesOff}

-- the same is told after two parts of a call
pub SameTold-then : {old middle new : List ℕ → Option (List ℕ)} → SameTold old middle
    → SameTold middle new → SameTold old new
SameTold-then first second name = second name ∙ first name

-- a front part of a list is one
pub IsPrefix-take : (n : ℕ) (xs : List ℕ) → IsPrefix (take n xs) xs
IsPrefix-take n xs = (drop n xs, sym (take-append-drop n xs))

-- two pieces are appended
pub appended-twice : (old : Option (List ℕ)) (xs ys : List ℕ)
    → appended (appended old xs) ys ≡ appended old (xs ++ ys)
appended-twice None xs ys = refl
appended-twice (Some bytes) xs ys = ap (λ (bs : List ℕ). Some bs) (append_assoc bytes xs ys)

-- the next part of a list is appended after its first part
pub appended-next : (before old new : Option (List ℕ)) (bytes : List ℕ) (done n : ℕ)
    → old ≡ appended before (take done bytes)
    → new ≡ appended old (take n (take (length bytes - done) (drop done bytes)))
    → new ≡ appended before (take (done + n) bytes)
appended-next before old new bytes done n g h =
    h
    ∙ ap (λ (part : List ℕ). appended old (take n part)) (take_rest bytes done)
    ∙ ap (λ (w : Option (List ℕ)). appended w (take n (drop done bytes))) g
    ∙ appended-twice before (take done bytes) (take n (drop done bytes))
    ∙ ap (λ (part : List ℕ). appended before part) (sym (take-add done n bytes))

-- the next part of a list goes no further than its end
pub next_within : (bytes : List ℕ) (done n : ℕ) → done ≤ length bytes
    → n ≤ length (take (length bytes - done) (drop done bytes)) → done + n ≤ length bytes
next_within bytes done n g h =
    let e : length (take (length bytes - done) (drop done bytes)) ≡ length (drop done bytes) =
    ap length (take_rest bytes done) in
    omega (arith, e, length-drop done bytes)

-- the next bytes of a file that is read, as far as they were copied, and what is left of it then
pub next_piece : (bytes front tail : List ℕ) (taken n : ℕ)
    → front ≡ take n (take (length bytes - taken) (drop taken bytes))
    → n ≤ length (take (length bytes - taken) (drop taken bytes))
    → drop taken bytes ≡ take n (front ++ tail) ++ drop (taken + n) bytes
next_piece bytes front tail taken n copied h =
    let rest = drop taken bytes in
    let e : take (length bytes - taken) (drop taken bytes) ≡ drop taken bytes = take_rest bytes
    taken in
    let piece : front ≡ take n rest = copied ∙ ap (λ (part : List ℕ). take n part) e in
    let l : n ≤ length rest = omega (arith, ap length e) in
    let size : length front ≡ n = ap length piece ∙ length-take-le n rest l in
    let seam : take n (front ++ tail) ≡ front = ap (λ (k : ℕ). take k (front ++ tail)) (sym size)
    ∙ take-append_seam front tail in
    sym (ap (λ (part : List ℕ). part ++ drop (taken + n) bytes) (seam ∙ piece)
    ∙ ap (λ (part : List ℕ). take n rest ++ part) (sym (drop-drop n taken bytes))
    ∙ take-append-drop n rest)

-- two pieces that were taken off one after the other are one piece
pub TakesOff-next : (o l m : Option (List ℕ)) (xs ys : List ℕ) → TakesOff o xs l → TakesOff l ys m
    → TakesOff o (xs ++ ys) m
TakesOff-next None l m xs ys h k = tt
TakesOff-next (Some rest) None m xs ys h k = absurd h
TakesOff-next (Some rest) (Some after) None xs ys h k = absurd k
TakesOff-next (Some rest) (Some after) (Some end) xs ys h k = h ∙ ap (λ (part : List ℕ). xs ++ part)
    k ∙ sym (append_assoc xs ys end)
