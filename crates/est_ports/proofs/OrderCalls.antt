-- What the functions that write merges answer.
use Rattle.std.proofs.Common.{◌≡◌, ◌≤◌, ◌<◌, ◌+◌, ℕ, zero, suc, List, [], ◌∷◌, ◌++◌, length}
use Rattle.std.proofs.Common.{drop, map, Some, None, refl, sym, ap, ◌∙◌, append_assoc, arith}
use Rattle.std.proofs.lemmas.List.{append-nil, map-append}
use Rattle.std.specs.Prelude.{slice_get}
use Rattle.est_meaning.specs.declared.event.Event.{Event}
use Rattle.est_meaning.specs.declared.trace.Expected.{Expected}
use Rattle.est_meaning.specs.declared.trace.Expected.TheVariants.{Known}
use Rattle.mean_ports.specs.declared.lists.PortLists.{PortLists}
use Rattle.mean_ports.specs.PortRuns.{all_left}
use Rattle.est_ports.specs.inside.Cursors.{cut}
use Rattle.est_ports.specs.inside.Leftover.{lists_of, left_at}
use Rattle.est_ports.specs.inside.PortOrder.{in_order, first_list, phases_in_order, left_in_order}
use Rattle.est_ports.specs.inside.PortOrder.{time_of}
use Rattle.est_ports.proofs.CursorLaws.{get_drop}
use Rattle.est_ports.proofs.LeftLaws.{drop_none, drop_some, times_are}

-- ONE LIST AFTER THE OTHER

-- what is dropped one more of
pub drop_suc : {X : Type 0} (xs : List X) (n : ℕ) → drop 1 (drop n xs) ≡ drop (suc n) xs
drop_suc [] zero = refl
drop_suc [] (suc n) = refl
drop_suc (x ∷ xs) zero = refl
drop_suc (x ∷ xs) (suc n) = drop_suc xs n

-- the first list and then the others
first_order : (ls : List (List Event)) → in_order ls ≡ first_list ls ++ in_order (drop 1 ls)
first_order [] = refl
first_order (es ∷ ls) = refl

-- more is written of what is to be written
write_on : (old mid new : List Expected) (es fs gs : List Event) → fs ≡ es ++ gs
    → new ≡ mid ++ map Known es → mid ++ map Known fs ≡ old → new ++ map Known gs ≡ old
write_on old mid new es fs gs split written before =
    ap (λ w. w ++ map Known gs) written ∙ append_assoc mid (map Known es) (map Known gs)
    ∙ ap (λ w. mid ++ w) (sym (map-append Known es gs) ∙ ap (λ w. map Known w) (sym split)) ∙ before

-- one list more is written
pub write_list_on : (old mid new : List Expected) (ls : List (List Event)) (n next : ℕ)
    → new ≡ mid ++ map Known (first_list (drop n ls)) → next ≡ suc n
    → mid ++ map Known (in_order (drop n ls)) ≡ old
    → new ++ map Known (in_order (drop next ls)) ≡ old
write_list_on old mid new ls n next written same before =
    let more : drop 1 (drop n ls) ≡ drop next ls = drop_suc ls n ∙ ap (λ w. drop w ls) (sym same) in
    write_on old mid new (first_list (drop n ls)) (in_order (drop n ls)) (in_order (drop next ls))
    (first_order (drop n ls) ∙ ap (λ w. first_list (drop n ls) ++ in_order w) more) written before

-- the list that is written next
pub first_of_drop : (ls : List (List Event)) (n : ℕ) (es : List Event) → slice_get ls n ≡ Some es
    → es ≡ first_list (drop n ls)
first_of_drop [] n es h = (let never : ⊥ = cc in absurd never)
first_of_drop (fs ∷ ls) zero es h = (let same : fs ≡ es = cc in sym same)
first_of_drop (fs ∷ ls) (suc n) es h = first_of_drop ls n es h

-- all are written
pub write_end : (old new : List Expected) (ls : List (List Event)) (n : ℕ) → length ls ≤ n
    → new ++ map Known (in_order (drop n ls)) ≡ old → new ≡ old
write_end old new ls n le h =
    let none : drop n ls ≡ [] = drop_none ls n le in
    sym (append-nil new) ∙ ap (λ w. new ++ map Known (in_order w)) (sym none) ∙ h

-- WHAT IS LEFT OF A LIST

pub cut_first : (cs : List ℕ) (ls : List (List Event)) (port at : ℕ) (es : List Event)
    → slice_get cs port ≡ Some at → slice_get ls port ≡ Some es
    → first_list (drop port (cut cs ls)) ≡ drop at es
cut_first [] ls port at es a b = (let never : ⊥ = cc in absurd never)
cut_first (n ∷ cs) [] port at es a b = (let never : ⊥ = cc in absurd never)
cut_first (n ∷ cs) (fs ∷ ls) zero at es a b =
    let same : n ≡ at = cc in
    let list : fs ≡ es = cc in
    ap (λ w. drop w fs) same ∙ ap (λ w. drop at w) list
cut_first (n ∷ cs) (fs ∷ ls) (suc port) at es a b = cut_first cs ls port at es a b

pub cut_no_cursor : (cs : List ℕ) (ls : List (List Event)) (port : ℕ) → slice_get cs port ≡ None
    → first_list (drop port (cut cs ls)) ≡ []
cut_no_cursor [] ls zero h = refl
cut_no_cursor [] ls (suc port) h = refl
cut_no_cursor (n ∷ cs) [] zero h = refl
cut_no_cursor (n ∷ cs) [] (suc port) h = refl
cut_no_cursor (n ∷ cs) (es ∷ ls) zero h = (let never : ⊥ = cc in absurd never)
cut_no_cursor (n ∷ cs) (es ∷ ls) (suc port) h = cut_no_cursor cs ls port h

pub cut_no_list : (cs : List ℕ) (ls : List (List Event)) (port : ℕ) → slice_get ls port ≡ None
    → first_list (drop port (cut cs ls)) ≡ []
cut_no_list [] ls zero h = refl
cut_no_list [] ls (suc port) h = refl
cut_no_list (n ∷ cs) [] zero h = refl
cut_no_list (n ∷ cs) [] (suc port) h = refl
cut_no_list (n ∷ cs) (es ∷ ls) zero h = (let never : ⊥ = cc in absurd never)
cut_no_list (n ∷ cs) (es ∷ ls) (suc port) h = cut_no_list cs ls port h

-- PHASES

-- the times and phases that are left, with one phase at least
phases_more : (ps : List (List (List Event))) (times : List ℕ) (p : List (List Event))
    (qs : List (List (List Event))) → ps ≡ p ∷ qs
    → phases_in_order ps times
    ≡ time_of (slice_get times 0) ++ (in_order p ++ phases_in_order qs (drop 1 times))
phases_more ps times p qs is = ap (λ w. phases_in_order w times) is

-- one phase more is written, and the time before it
pub write_phase : (lists : PortLists) (old mid half new : List Expected) (n next : ℕ)
    → n + 1 < length lists.phases → next ≡ n + 1
    → half ≡ mid ++ map Known (time_of (slice_get lists.times n))
    → new ≡ half ++ map Known (in_order (lists_of lists next))
    → mid ++ map Known (phases_in_order (drop (n + 1) lists.phases) (drop n lists.times)) ≡ old
    → new ++ map Known (phases_in_order (drop (next + 1) lists.phases) (drop next lists.times))
    ≡ old
write_phase lists old mid half new n next lt same time all before =
    let here = drop_some lists.phases (n + 1) lt in
    let p = here.0 in
    let qs = here.1 in
    let one : n + 1 ≡ suc n = omega arith in
    let there : lists_of lists next ≡ p =
    ap (λ w. (all_left (drop w lists.phases) (drop w lists.times)).now) same
    ∙ ap (λ w. (all_left w (drop (n + 1) lists.times)).now) here.2 in
    let rest : drop (next + 1) lists.phases ≡ qs =
    (let more : next + 1 ≡ suc (n + 1) = omega arith in ap (λ w. drop w lists.phases) more)
    ∙ sym (drop_suc lists.phases (n + 1)) ∙ ap (λ w. drop 1 w) here.2 in
    let later : drop next lists.times ≡ drop 1 (drop n lists.times) =
    ap (λ w. drop w lists.times) (same ∙ one) ∙ sym (drop_suc lists.times n) in
    let behind = phases_in_order (drop (next + 1) lists.phases) (drop next lists.times) in
    let split : phases_in_order (drop (n + 1) lists.phases) (drop n lists.times)
    ≡ time_of (slice_get lists.times n) ++ (in_order (lists_of lists next) ++ behind) =
    phases_more (drop (n + 1) lists.phases) (drop n lists.times) p qs here.2
    ∙ ap (λ w. time_of w ++ (in_order p ++ phases_in_order qs (drop 1 (drop n lists.times))))
    (get_drop lists.times n)
    ∙ ap (λ w. time_of (slice_get lists.times n) ++ (in_order w
    ++ phases_in_order qs (drop 1 (drop n lists.times)))) (sym there)
    ∙ ap (λ w. time_of (slice_get lists.times n) ++ (in_order (lists_of lists next)
    ++ phases_in_order w (drop 1 (drop n lists.times)))) (sym rest)
    ∙ ap (λ w. time_of (slice_get lists.times n) ++ (in_order (lists_of lists next)
    ++ phases_in_order (drop (next + 1) lists.phases) w)) (sym later) in
    let halfway : half ++ map Known (in_order (lists_of lists next) ++ behind) ≡ old =
    write_on old mid half (time_of (slice_get lists.times n))
    (phases_in_order (drop (n + 1) lists.phases) (drop n lists.times))
    (in_order (lists_of lists next) ++ behind) split time before in
    write_on old half new (in_order (lists_of lists next))
    (in_order (lists_of lists next) ++ behind) behind refl all halfway

-- all phases are written
pub write_phases_end : (lists : PortLists) (old new : List Expected) (n : ℕ)
    → length lists.phases ≤ n + 1
    → new ++ map Known (phases_in_order (drop (n + 1) lists.phases) (drop n lists.times)) ≡ old
    → new ≡ old
write_phases_end lists old new n le h =
    let none : drop (n + 1) lists.phases ≡ [] = drop_none lists.phases (n + 1) le in
    sym (append-nil new)
    ∙ ap (λ w. new ++ map Known (phases_in_order w (drop n lists.times))) (sym none) ∙ h

-- the phases behind the first one
later_parts : (ps : List (List (List Event))) (times : List ℕ)
    → (all_left ps times).later ≡ drop 1 ps
later_parts [] times = refl
later_parts (p ∷ ps) times = refl

-- what is left of a phase, and the later ones
pub left_parts : (lists : PortLists) (phase : ℕ) (cursors : List ℕ)
    → left_in_order (left_at lists phase cursors)
    ≡ in_order (cut cursors (lists_of lists phase))
    ++ phases_in_order (drop (phase + 1) lists.phases) (drop phase lists.times)
left_parts lists phase cursors =
    let one : phase + 1 ≡ suc phase = omega arith in
    let here = in_order (cut cursors (lists_of lists phase)) in
    let later : (all_left (drop phase lists.phases) (drop phase lists.times)).later
    ≡ drop (phase + 1) lists.phases =
    later_parts (drop phase lists.phases) (drop phase lists.times)
    ∙ drop_suc lists.phases phase ∙ ap (λ w. drop w lists.phases) (sym one) in
    let times = times_are (drop phase lists.phases) (drop phase lists.times) in
    ap (λ w. here ++ phases_in_order w
    (all_left (drop phase lists.phases) (drop phase lists.times)).times) later
    ∙ ap (λ w. here ++ phases_in_order (drop (phase + 1) lists.phases) w) times

-- they are written
pub left_written : (lists : PortLists) (phase : ℕ) (cursors : List ℕ) (old mid new : List Expected)
    → mid ≡ old ++ map Known (in_order (cut cursors (lists_of lists phase)))
    → new ≡ mid ++ map Known (phases_in_order (drop (phase + 1) lists.phases)
    (drop phase lists.times))
    → new ≡ old ++ map Known (left_in_order (left_at lists phase cursors))
left_written lists phase cursors old mid new first then =
    let here = in_order (cut cursors (lists_of lists phase)) in
    let later = phases_in_order (drop (phase + 1) lists.phases) (drop phase lists.times) in
    then ∙ ap (λ w. w ++ map Known later) first
    ∙ append_assoc old (map Known here) (map Known later)
    ∙ ap (λ w. old ++ w) (sym (map-append Known here later)
    ∙ ap (λ w. map Known w) (sym (left_parts lists phase cursors)))
