-- What may come next from outside, as it is listed.
use Rattle.std.proofs.Common.{◌≡◌, ℕ, zero, suc, ◌+◌, ◌<◌, ◌⊎◌, List, [], ◌∷◌, ◌++◌, Some, length}
use Rattle.std.proofs.Common.{refl, sym, ap, subst, ◌∙◌, inl, inr, append_assoc, arith}
use Rattle.std.proofs.lemmas.List.{append-nil}
use Rattle.std.specs.Prelude.{slice_get}
use Rattle.std.proofs.lemmas.Bool.{cases_lt}
use Rattle.est_syntax.specs.Least.{IsIn}
use Rattle.est_meaning.specs.declared.event.Event.{Event}
use Rattle.est_meaning.specs.declared.event.Event.TheVariants as event
use Rattle.mean_ports.specs.declared.lists.PortLists.{PortLists}
use Rattle.mean_ports.specs.declared.moves.PortMove.{PortMove}
use Rattle.mean_ports.specs.declared.moves.PortMove.TheVariants.{TakeAt, Pass, Fire}
use Rattle.mean_ports.specs.PortRuns.{Left}
use Rattle.est_ports.specs.declared.left.Rest.{Rest}
use Rattle.est_ports.specs.inside.Cursors.{cut}
use Rattle.est_ports.specs.inside.Leftover.{Stands, ArrivesNext, PassesNext}
use Rattle.est_ports.specs.inside.Standing.{AreApart}
use Rattle.est_ports.specs.inside.Walk.{IsTakeIn, ArrivalsBelow, AreTakes, AddsArrivals}
use Rattle.est_ports.specs.inside.Walk.{AddsTakes}

-- AT THE END OF A LIST

in_front : (m : PortMove) (xs ys : List PortMove) → IsIn m xs → IsIn m (xs ++ ys)
in_front m [] ys i = absurd i
in_front m (x ∷ xs) ys i = elim i [ inl e ↦ inl e | inr j ↦ inr (in_front m xs ys j) ]

in_last : (m : PortMove) (xs : List PortMove) → IsIn m (xs ++ m ∷ [])
in_last m [] = inl refl
in_last m (x ∷ xs) = inr (in_last m xs)

in_cases : (m n : PortMove) (xs : List PortMove) → IsIn m (xs ++ n ∷ []) → IsIn m xs ⊎ (n ≡ m)
in_cases m n [] i = elim i [ inl e ↦ inr e | inr j ↦ absurd j ]
in_cases m n (x ∷ xs) i = elim i [
  | inl e ↦ inl (inl e)
  | inr j ↦ elim (in_cases m n xs j) [ inl k ↦ inl (inr k) | inr e ↦ inr e ]
]

apart_more : (xs : List PortMove) (n : PortMove) → AreApart xs → (IsIn n xs → ⊥)
    → AreApart (xs ++ n ∷ [])
apart_more [] n a never = (λ i. i, tt)
apart_more (x ∷ xs) n a never = (
  λ i. elim (in_cases x n xs i) [ inl j ↦ a.0 j | inr e ↦ never (inl (sym e)) ],
  apart_more xs n a.1 (λ i. never (inr i)),
)

-- ARRIVALS

same_port : (j k : ℕ) → TakeAt j ≡ TakeAt k → j ≡ k
same_port j k e = cc

-- no port was looked at
arrivals_none : (left : Left) → ArrivalsBelow left 0 []
arrivals_none left = record {
  apart = tt;
  each = λ m i. absurd i;
  all = λ port lt. absurd (omega arith);
}

-- at the next one there is an arrival
arrivals_more : (left : Left) (n : ℕ) (moves : List PortMove) (e : Event)
    → ArrivalsBelow left n moves → ArrivesNext left n e
    → ArrivalsBelow left (n + 1) (moves ++ TakeAt n ∷ [])
arrivals_more left n moves e a next = record {
  apart = apart_more moves (TakeAt n) a.apart (λ i.
      (let o = a.each (TakeAt n) i in
      let same : n ≡ o.0 = same_port n o.0 o.1 in
      let lt = o.2 in
      omega arith));
  each = λ m i. elim (in_cases m (TakeAt n) moves i) [
    | inl j ↦ (let o = a.each m j in let lt = o.2 in (o.0, o.1, omega arith, o.3))
    | inr w ↦ (n, sym w, omega arith, (e, next))
  ];
  all = λ port lt t. elim (cases_lt port n) [
    | inl less ↦ in_front (TakeAt port) moves (TakeAt n ∷ []) (a.all port less t)
    | inr ge ↦
        (let same : port ≡ n = omega arith in
        subst (λ k. IsIn (TakeAt k) (moves ++ TakeAt n ∷ [])) (sym same) (in_last (TakeAt n) moves))
  ];
}

-- there is none
arrivals_same : (left : Left) (n : ℕ) (moves : List PortMove) → ArrivalsBelow left n moves
    → ((e : Event) → ArrivesNext left n e → ⊥) → ArrivalsBelow left (n + 1) moves
arrivals_same left n moves a never = record {
  apart = a.apart;
  each = λ m i. (let o = a.each m i in let lt = o.2 in (o.0, o.1, omega arith, o.3));
  all = λ port lt t. elim (cases_lt port n) [
    | inl less ↦ a.all port less t
    | inr ge ↦
        (let same : port ≡ n = omega arith in
        absurd (never t.0 (subst (λ k. ArrivesNext left k t.0) same t.1)))
  ];
}

-- ALL

cut_bound : (cursors : List ℕ) (lists : List (List Event)) (k : ℕ) (es : List Event)
    → slice_get (cut cursors lists) k ≡ Some es → k < length cursors
cut_bound [] lists k es e = (let never : ⊥ = cc in absurd never)
cut_bound (n ∷ cursors) [] k es e = (let never : ⊥ = cc in absurd never)
cut_bound (n ∷ cursors) (x ∷ lists) zero es e = omega arith
cut_bound (n ∷ cursors) (x ∷ lists) (suc k) es e =
    (let lt = cut_bound cursors lists k es e in omega arith)

-- an arrival is at a port that has a cursor
arrival_bound : (lists : PortLists) (rest : Rest) (left : Left) (events : List Event) (port : ℕ)
    (e : Event) → Stands lists rest left events → ArrivesNext left port e
    → port < length rest.cursors.items
arrival_bound lists rest left events port e s a =
    let here : a.next.port ≡ port = sym a.next.at ∙ a.here in
    let begins = subst (λ (l : Left). slice_get l.now a.next.port
    ≡ Some (event.Arrives a.interaction ∷ a.next.next.rest)) s.left_is a.next.next.begins in
    let lt = cut_bound rest.cursors.items _ a.next.port _ begins in
    omega arith

module _ (left : Left) (many : ℕ) (moves : List PortMove) (a : ArrivalsBelow left many moves)
    (bound : (port : ℕ) (e : Event) → ArrivesNext left port e → port < many) where
  arrival_in : (m : PortMove) → IsIn m moves → IsTakeIn left m
  arrival_in m i = (let o = a.each m i in subst (λ x. IsTakeIn left x) (sym o.1) o.3)

  all_without : ((units : ℕ) (after : Left) → PassesNext left units after → ⊥) → (m : PortMove)
      → IsTakeIn left m → IsIn m moves
  all_without never (TakeAt port) t = a.all port (bound port t.0 t.1) t
  all_without never Pass t = absurd (never t.0 t.1 t.2)
  all_without never (Fire f) t = absurd t

  all_with : (m : PortMove) → IsTakeIn left m → IsIn m (moves ++ Pass ∷ [])
  all_with (TakeAt port) t = in_front (TakeAt port) moves (Pass ∷ [])
      (a.all port (bound port t.0 t.1) t)
  all_with Pass t = in_last Pass moves
  all_with (Fire f) t = absurd t

  takes_without : ((units : ℕ) (after : Left) → PassesNext left units after → ⊥)
      → AreTakes left moves
  takes_without never = record {
    apart = a.apart;
    each = arrival_in;
    all = all_without never;
  }

  no_pass : IsIn Pass moves → ⊥
  no_pass i = (let o = a.each Pass i in let e = o.1 in cc)

  takes_with : (units : ℕ) (after : Left) → PassesNext left units after
      → AreTakes left (moves ++ Pass ∷ [])
  takes_with units after p = record {
    apart = apart_more moves Pass a.apart no_pass;
    each = λ m i. elim (in_cases m Pass moves i) [
      | inl j ↦ arrival_in m j
      | inr e ↦ subst (λ x. IsTakeIn left x) e (units, after, p)
    ];
    all = all_with;
  }

-- AS THE CODE ASKS FOR THEM

module _ (lists : PortLists) (rest : Rest) (old : List PortMove) where
  pub adds_none : (new : List PortMove) → new ≡ old → AddsArrivals lists rest 0 old new
  adds_none new same = record {
    moves = [];
    added = same ∙ sym (append-nil old);
    below = λ left events s. arrivals_none left;
  }

  pub adds_more : (n : ℕ) (now new : List PortMove) (e : Event) → AddsArrivals lists rest n old now
      → ((left : Left) (events : List Event) → Stands lists rest left events
      → ArrivesNext left n e) → new ≡ now ++ TakeAt n ∷ []
      → AddsArrivals lists rest (n + 1) old new
  adds_more n now new e a next is = record {
    moves = a.moves ++ TakeAt n ∷ [];
    added = is ∙ ap (λ w. w ++ TakeAt n ∷ []) a.added ∙ append_assoc old a.moves (TakeAt n ∷ []);
    below = λ left events s. arrivals_more left n a.moves e (a.below left events s)
        (next left events s);
  }

  pub adds_same : (n : ℕ) (now : List PortMove) → AddsArrivals lists rest n old now
      → ((left : Left) (events : List Event) → Stands lists rest left events
      → (e : Event) → ArrivesNext left n e → ⊥) → AddsArrivals lists rest (n + 1) old now
  adds_same n now a never = record {
    moves = a.moves;
    added = a.added;
    below = λ left events s. arrivals_same left n a.moves (a.below left events s)
        (never left events s);
  }

  pub adds_pass : (now new : List PortMove) (units : ℕ)
      → AddsArrivals lists rest (length rest.cursors.items) old now
      → ((left : Left) (events : List Event) → Stands lists rest left events
      → (after : Left) × PassesNext left units after) → new ≡ now ++ Pass ∷ []
      → AddsTakes lists rest old new
  adds_pass now new units a passes is = record {
    moves = a.moves ++ Pass ∷ [];
    added = is ∙ ap (λ w. w ++ Pass ∷ []) a.added ∙ append_assoc old a.moves (Pass ∷ []);
    takes = λ left events s.
        (let p = passes left events s in
        takes_with left (length rest.cursors.items) a.moves (a.below left events s)
        (λ port e n. arrival_bound lists rest left events port e s n) units p.0 p.1);
  }

  pub adds_no_pass : (now : List PortMove)
      → AddsArrivals lists rest (length rest.cursors.items) old now
      → ((left : Left) (events : List Event) → Stands lists rest left events
      → (units : ℕ) (after : Left) → PassesNext left units after → ⊥)
      → AddsTakes lists rest old now
  adds_no_pass now a never = record {
    moves = a.moves;
    added = a.added;
    takes = λ left events s. takes_without left (length rest.cursors.items) a.moves
        (a.below left events s) (λ port e n. arrival_bound lists rest left events port e s n)
        (never left events s);
  }
