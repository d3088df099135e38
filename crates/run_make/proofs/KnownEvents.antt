-- Events that are all known.
use Rattle.std.proofs.Common.{◌≡◌, ◌<◌, ℕ, zero, suc, List, [], ◌∷◌, ◌++◌, All, length, map, reverse}
use Rattle.std.proofs.Common.{◌≤◌, take, drop, ap, sym, subst, ◌∙◌, append_assoc, arith}
use Rattle.std.proofs.lemmas.List.{map-append, reverse-append, reverse-reverse, length-reverse}
use Rattle.std.proofs.lemmas.List.{drop_all, take_all, append-nil}
use Rattle.est_meaning.specs.declared.event.Event.{Event}
use Rattle.est_meaning.specs.declared.trace.Expected.{Expected}
use Rattle.est_meaning.specs.declared.trace.Expected.TheVariants.{Known}
use Rattle.est_meaning.specs.RecordedTraces.{HasUnseen}

-- none of them was seen in part
pub known_whole : (es : List Event) → All HasUnseen (map Known es)
known_whole [] k d lt = (let never : ⊥ = omega arith in absurd never)
known_whole (e ∷ es) zero d lt = tt
known_whole (e ∷ es) (suc k) d lt = known_whole es k d (omega arith)

-- where the last one is taken off
pub known_last : (es : List Event) (e : Event)
    → reverse (map Known (es ++ e ∷ [])) ≡ Known e ∷ reverse (map Known es)
known_last es e = ap reverse (map-append Known es (e ∷ []))
    ∙ reverse-append (map Known es) (Known e ∷ [])

-- after the first events a trace goes on with the others
pub known_on : (trace : List Expected) (events outs : List Event) (rest : List Expected)
    → trace ≡ map Known (events ++ outs) ++ rest
    → trace ≡ map Known events ++ (map Known outs ++ rest)
known_on trace events outs rest is = is ∙ ap (λ xs. xs ++ rest) (map-append Known events outs)
    ∙ append_assoc (map Known events) (map Known outs) rest

-- what is put down from the last one back, and then turned round
pub known_back : (es : List Event) (n : ℕ) (none put shown back : List Expected) → none ≡ []
    → put ≡ none ++ reverse (map Known es) → shown ≡ put → back ≡ reverse shown
    → length shown ≡ n → take n (back ++ drop (length back) put) ≡ map Known es
known_back es n none put shown back empty made same turned many =
    let is : put ≡ reverse (map Known es) = made
    ∙ ap (λ xs. xs ++ reverse (map Known es)) empty in
    let all : back ≡ map Known es = turned ∙ ap reverse (same ∙ is)
    ∙ reverse-reverse (map Known es) in
    let few : length back ≡ n = ap length turned ∙ length-reverse shown ∙ many in
    let fits : length put ≤ length back =
    (let a : length shown ≡ length put = ap length same in
    let b : length back ≡ length shown = ap length turned ∙ length-reverse shown in
    omega arith) in
    ap (λ xs. take n (back ++ xs)) (drop_all (length back) put fits)
    ∙ ap (take n) (append-nil back)
    ∙ take_all n back (let b : length back ≤ n = omega arith in b) ∙ all

-- none of such was seen in part
pub known_unseen : (es : List Event) (xs : List Expected) → xs ≡ map Known es
    → All HasUnseen xs
known_unseen es xs is = subst (λ ys. All HasUnseen ys) (sym is) (known_whole es)
