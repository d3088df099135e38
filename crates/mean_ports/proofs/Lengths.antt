-- All merges have as many events.
use Rattle.std.proofs.Common.{◌≡◌, ◌+◌, ℕ, zero, suc, List, [], ◌∷◌, length, map}
use Rattle.std.proofs.Common.{Some, refl, sym, ap, ◌∙◌, arith}
use Rattle.std.specs.Prelude.{slice_get, slice_set}
use Rattle.std.proofs.lemmas.List.{length-append}
use Rattle.est_meaning.specs.RecordedTraces.{Recorded}
use Rattle.est_meaning.specs.declared.event.Event.{Event}
use Rattle.est_meaning.specs.declared.event.Event.TheVariants as event
use Rattle.est_meaning.specs.declared.trace.Expected.TheVariants.{Known}
use Rattle.mean_ports.specs.MergeLaws.{MergesAreAsLong}
use Rattle.mean_ports.specs.Merges.{AreUsedUp, Interleaves, used_up, next, MergesOf}
use Rattle.mean_ports.specs.Merges.{phase_count, list_count}

-- lists that are used up have no events
none_left : (lists : List (List Event)) → AreUsedUp lists → phase_count lists ≡ 0
none_left [] a = refl
none_left (es ∷ lists) a =
    let first : es ≡ [] = a 0 es (omega arith) in
    let n : length es ≡ 0 = ap length first in
    let rest = none_left lists (λ k d lt. a (suc k) d (omega arith)) in
    omega arith

-- lists have one event less without the next one of a port
one_less : (lists : List (List Event)) (port : ℕ) (e : Event) (rest : List Event)
    → slice_get lists port ≡ Some (e ∷ rest)
    → phase_count lists ≡ phase_count (slice_set lists port rest) + 1
one_less [] port e rest b = (let never : ⊥ = cc in absurd never)
one_less (es ∷ lists) zero e rest b =
    let here : es ≡ e ∷ rest = cc in
    let n : length es ≡ length (e ∷ rest) = ap length here in
    omega arith
one_less (es ∷ lists) (suc port) e rest b =
    (let n = one_less lists port e rest b in omega arith)

-- an interleaving has as many events as the lists
interleaved : (lists : List (List Event)) (es : List Event) → Interleaves lists es
    → length es ≡ phase_count lists
interleaved lists es (used_up a) = sym (none_left lists a)
interleaved lists es (next {left = left} {e = e} {es = later} port n i) =
    let rest = interleaved left later i in
    let less = one_less lists port e n.rest n.begins in
    let same : phase_count left ≡ phase_count (slice_set lists port n.rest) =
    ap phase_count n.left_is in
    omega arith

-- a merge has as many events as the lists of its phases, and its times
merged : (phases : List (List (List Event))) (times : List ℕ) (es : List Event)
    → MergesOf phases times es → length es ≡ list_count phases + length times
merged [] times es m = absurd m
merged (p ∷ ps) [] es m =
    let n = interleaved p es m.1 in
    let none : list_count ps ≡ 0 = ap list_count m.0 in
    omega arith
merged (p ∷ ps) (u ∷ us) es m =
    let front = m.0 in
    let rest = m.1 in
    let n = interleaved p front m.3 in
    let later = merged ps us rest m.4 in
    let whole : length es ≡ length front + length (event.Passes u ∷ rest) =
    ap length m.2 ∙ length-append front (event.Passes u ∷ rest) in
    omega arith

-- as many events are expected as are known
pub known_length : (es : List Event) → length (map Known es) ≡ length es
known_length [] = refl
known_length (e ∷ es) = (let n = known_length es in omega arith)

pub merges_as_long : MergesAreAsLong
merges_as_long lists merge m =
    let n = merged lists.phases lists.times m.events m.merges in
    let k = known_length m.events in
    let w : length merge.events ≡ length (map Known m.events) =
    ap (λ (r : Recorded). length r.events) m.known in
    omega arith
