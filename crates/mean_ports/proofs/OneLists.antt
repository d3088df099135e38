-- Events are a merge of one choice of lists at most.
use Rattle.std.proofs.Common.{◌≡◌, ◌+◌, ℕ, zero, suc, List, [], ◌∷◌, ◌++◌, length, All, Some}
use Rattle.std.proofs.Common.{refl, sym, ap, ap₂, subst, ◌∙◌, arith}
use Rattle.std.specs.Prelude.{slice_get, slice_set}
use Rattle.est_meaning.specs.declared.event.Event.{Event}
use Rattle.est_meaning.specs.declared.event.Event.TheVariants as event
use Rattle.mean_ports.specs.ListsOfEvents.{IsPhaseAt, EventsTellTheirLists}
use Rattle.mean_ports.specs.Merges.{AreUsedUp, IsNextOf, Interleaves, used_up, next, MergesOf, IsAt}
use Rattle.mean_ports.proofs.FromMerges.{AreAtFrom, at_next, listed_from}

-- LISTS OF ONE PHASE

-- an event is at one port
one_port : (e : Event) (j k : ℕ) → IsAt j e → IsAt k e → j ≡ k
one_port (event.Arrives i) j k a b = sym a ∙ b
one_port (event.Leaves i) j k a b = sym a ∙ b
one_port (event.Passes units) j k a b = absurd a

-- a list that is written and written back is there again
written_back : (lists : List (List Event)) (k : ℕ) (xs ys : List Event)
    → slice_get lists k ≡ Some xs → slice_set (slice_set lists k ys) k xs ≡ lists
written_back [] k xs ys is = refl
written_back (es ∷ lists) zero xs ys is =
    (let same : es ≡ xs = cc in ap (λ w. w ∷ lists) (sym same))
written_back (es ∷ lists) (suc k) xs ys is = ap (λ w. es ∷ w) (written_back lists k xs ys is)

-- what is written stands there
written_there : (lists : List (List Event)) (k : ℕ) (xs ys : List Event)
    → slice_get lists k ≡ Some xs → slice_get (slice_set lists k ys) k ≡ Some ys
written_there [] k xs ys is = (let never : ⊥ = cc in absurd never)
written_there (es ∷ lists) zero xs ys is = refl
written_there (es ∷ lists) (suc k) xs ys is = written_there lists k xs ys is

-- writing keeps how many lists there are
written_length : (lists : List (List Event)) (k : ℕ) (ys : List Event)
    → length (slice_set lists k ys) ≡ length lists
written_length [] k ys = refl
written_length (es ∷ lists) zero ys = refl
written_length (es ∷ lists) (suc k) ys = (let n = written_length lists k ys in omega arith)

-- as many lists without events are the same
both_used : (p q : List (List Event)) → AreUsedUp p → AreUsedUp q → length p ≡ length q → p ≡ q
both_used [] [] a b n = refl
both_used [] (y ∷ q) a b n = (let never : ⊥ = omega arith in absurd never)
both_used (x ∷ p) [] a b n = (let never : ⊥ = omega arith in absurd never)
both_used (x ∷ p) (y ∷ q) a b n =
    let e : x ≡ [] = a 0 x (omega arith) in
    let f : y ≡ [] = b 0 y (omega arith) in
    ap₂ (λ v w. v ∷ w) (e ∙ sym f)
    (both_used p q (λ k d lt. a (suc k) d (omega arith)) (λ k d lt. b (suc k) d (omega arith))
    (omega arith))

-- the port of an event that is the next one of a list
port_of : (p : List (List Event)) (k : ℕ) (e : Event) (left : List (List Event))
    (n : IsNextOf p k e left) → AreAtFrom 0 p → IsAt k e × AreAtFrom 0 left
port_of p k e left n at =
    let a = at_next 0 p k e n.rest at n.begins in
    let same : 0 + k ≡ k = omega arith in
    (subst (λ m. IsAt m e) same a.0, subst (λ w. AreAtFrom 0 w) (sym n.left_is) a.1)

-- lists without the next event of a port are as many
left_length : (p : List (List Event)) (k : ℕ) (e : Event) (left : List (List Event))
    → IsNextOf p k e left → length left ≡ length p
left_length p k e left n = ap length n.left_is ∙ written_length p k n.rest

-- the lists are told by those that are left without an event
before_next : (p q : List (List Event)) (j k : ℕ) (e : Event) (l m : List (List Event))
    (n : IsNextOf p j e l) (o : IsNextOf q k e m) → j ≡ k → l ≡ m → p ≡ q
before_next p q j k e l m n o same lists =
    let there : slice_get l j ≡ Some n.rest = ap (λ w. slice_get w j) n.left_is
    ∙ written_there p j (e ∷ n.rest) n.rest n.begins in
    let here : slice_get m k ≡ Some o.rest = ap (λ w. slice_get w k) o.left_is
    ∙ written_there q k (e ∷ o.rest) o.rest o.begins in
    let rests : Some n.rest ≡ Some o.rest = sym there ∙ ap₂ (λ w i. slice_get w i) lists same
    ∙ here in
    let rest : n.rest ≡ o.rest = cc in
    let mine : slice_set l j (e ∷ n.rest) ≡ p = ap (λ w. slice_set w j (e ∷ n.rest)) n.left_is
    ∙ written_back p j (e ∷ n.rest) n.rest n.begins in
    let other : slice_set m k (e ∷ o.rest) ≡ q = ap (λ w. slice_set w k (e ∷ o.rest)) o.left_is
    ∙ written_back q k (e ∷ o.rest) o.rest o.begins in
    sym mine ∙ ap₂ (λ w i. slice_set w i (e ∷ n.rest)) lists same
    ∙ ap (λ r. slice_set m k (e ∷ r)) rest ∙ other

-- of two phases that the same events use up, each is the other
one_phase : (es : List Event) (p q : List (List Event)) → length p ≡ length q → AreAtFrom 0 p
    → AreAtFrom 0 q → Interleaves p es → Interleaves q es → p ≡ q
one_phase [] p q n a b (used_up u) (used_up v) = both_used p q u v n
one_phase (e ∷ es) p q n a b (next {left = l} j x i) (next {left = m} k y h) =
    let f = port_of p j e l x a in
    let g = port_of q k e m y b in
    let lengths : length l ≡ length m = left_length p j e l x ∙ n ∙ sym (left_length q k e m y) in
    before_next p q j k e l m x y (one_port e j k f.0 g.0)
    (one_phase es l m lengths f.1 g.1 i h)

-- PHASES

-- the events of a phase are no passing of time
no_time : (front rest : List Event) (p : List (List Event)) (units : ℕ) → AreAtFrom 0 p
    → Interleaves p (front ++ event.Passes units ∷ rest) → ⊥
no_time [] rest p units a (next {left = l} k n i) = (port_of p k (event.Passes units) l n a).0
no_time (e ∷ front) rest p units a (next {left = l} k n i) =
    no_time front rest l units (port_of p k e l n a).1 i

-- where two lists of events go on with a time each, and are phases before it, they are the same
record SameParts (front other rest behind : List Event) (u v : ℕ) : Type 0 where
  fronts : front ≡ other
  times : u ≡ v
  rests : rest ≡ behind

same_parts : (front other rest behind : List Event) (u v : ℕ) (p q : List (List Event))
    → AreAtFrom 0 p → AreAtFrom 0 q → Interleaves p front → Interleaves q other
    → front ++ event.Passes u ∷ rest ≡ other ++ event.Passes v ∷ behind
    → SameParts front other rest behind u v
same_parts [] [] rest behind u v p q a b i h is =
    let heads : event.Passes u ≡ event.Passes v = cc in
    let tails : rest ≡ behind = cc in
    let times : u ≡ v = cc in
    record { fronts = refl; times = times; rests = tails }
same_parts [] (f ∷ other) rest behind u v p q a b i (next {left = m} k y h) is =
    let time : event.Passes u ≡ f = cc in
    absurd (subst (λ e. IsAt k e) (sym time) (port_of q k f m y b).0)
same_parts (e ∷ front) [] rest behind u v p q a b (next {left = l} j x i) h is =
    let time : e ≡ event.Passes v = cc in
    absurd (subst (λ w. IsAt j w) time (port_of p j e l x a).0)
same_parts (e ∷ front) (f ∷ other) rest behind u v p q a b (next {left = l} j x i)
    (next {left = m} k y h) is =
    let heads : e ≡ f = cc in
    let tails : front ++ event.Passes u ∷ rest ≡ other ++ event.Passes v ∷ behind = cc in
    let s = same_parts front other rest behind u v l m (port_of p j e l x a).1
    (port_of q k f m y b).1 i h tails in
    record {
      fronts = ap₂ (λ x y. x ∷ y) heads s.fronts;
      times = s.times;
      rests = s.rests;
    }

-- phases of so many lists, each with events at its port
abbrev ArePhases : ℕ → List (List (List Event)) → Type 0
ArePhases many [] = Unit {0}
ArePhases many (p ∷ ps) = (length p ≡ many) × AreAtFrom 0 p × ArePhases many ps

are_phases : (many : ℕ) (ps : List (List (List Event))) → All (IsPhaseAt many) ps
    → ArePhases many ps
are_phases many [] all = tt
are_phases many (p ∷ ps) all =
    let first : IsPhaseAt many p = all 0 p (omega arith) in (
      first.many_are,
      listed_from 0 p (λ k es is.
          let same : k ≡ 0 + k = omega arith in
          subst (λ m. All (IsAt m) es) same (first.each k es is)),
      are_phases many ps (λ k d lt. all (suc k) d (omega arith)),
    )

record SameLists (ps qs : List (List (List Event))) (us vs : List ℕ) : Type 0 where
  phases : ps ≡ qs
  times : us ≡ vs

-- phases and times that the same events are a merge of are the same
one_lists : (many : ℕ) (ps qs : List (List (List Event))) (us vs : List ℕ) (es : List Event)
    → ArePhases many ps → ArePhases many qs → MergesOf ps us es → MergesOf qs vs es
    → SameLists ps qs us vs
one_lists many [] qs us vs es a b m n = absurd m
one_lists many (p ∷ ps) [] us vs es a b m n = absurd n
one_lists many (p ∷ ps) (q ∷ qs) [] [] es a b m n =
    let phase = one_phase es p q (a.0 ∙ sym b.0) a.1 b.1 m.1 n.1 in
    record {
      phases = ap₂ (λ v w. v ∷ w) phase (m.0 ∙ sym n.0);
      times = refl;
    }
one_lists many (p ∷ ps) (q ∷ qs) [] (v ∷ vs) es a b m n =
    absurd (no_time n.0 n.1 p v a.1 (subst (λ w. Interleaves p w) n.2 m.1))
one_lists many (p ∷ ps) (q ∷ qs) (u ∷ us) [] es a b m n =
    absurd (no_time m.0 m.1 q u b.1 (subst (λ w. Interleaves q w) m.2 n.1))
one_lists many (p ∷ ps) (q ∷ qs) (u ∷ us) (v ∷ vs) es a b m n =
    let s = same_parts m.0 n.0 m.1 n.1 u v p q a.1 b.1 m.3 n.3 (sym m.2 ∙ n.2) in
    let phase = one_phase n.0 p q (a.0 ∙ sym b.0) a.1 b.1
    (subst (λ w. Interleaves p w) s.fronts m.3) n.3 in
    let later = one_lists many ps qs us vs n.1 a.2 b.2
    (subst (λ w. MergesOf ps us w) s.rests m.4) n.4 in
    record {
      phases = ap₂ (λ x y. x ∷ y) phase later.phases;
      times = ap₂ (λ x y. x ∷ y) s.times later.times;
    }

pub events_tell_their_lists : EventsTellTheirLists
events_tell_their_lists many lists other events a b =
    let s = one_lists many other.phases lists.phases other.times lists.times events
    (are_phases many other.phases b.phases) (are_phases many lists.phases a.phases) b.merges
    a.merges in
    ap₂ (λ (ps : List (List (List Event))) (us : List ℕ). record { phases = ps; times = us })
    s.phases s.times
