-- Ascending numbers of transitions.
use Rattle.std.proofs.Common.{◌≡◌, refl, sym, ap, subst, ◌∙◌, arith, ℕ, ◌+◌}
use Rattle.std.proofs.Common.{◌<◌, ◌≤◌, Bool, true, false, cond, nat_eq, nat_lt, ◌||◌, List, []}
use Rattle.std.proofs.Common.{◌∷◌, ◌++◌, map, length, length-append, get_or, Option, Some, None}
use Rattle.std.proofs.Common.{inl, inr, ◌⊎◌}
use Rattle.std.proofs.Math.Nat.{eq-or-lt_of_le}
use Rattle.std.proofs.lemmas.Bool.{ltb-true, ltb-false}
use Rattle.std.proofs.lemmas.List.{append-nil, get_or_append_left, get_or_push}
use Rattle.std.specs.List.{filter, list_any}
use Rattle.plain_transitions.specs.inside.KeyedNumbers.{AreNumbers, IsLeastAbove, IsNext}
use Rattle.plain_transitions.specs.inside.KeyedNumbers.{smaller}
use Rattle.plain_transitions.proofs.ListLaws.{append_once}

-- a number more that may pass
module _ (test : ℕ → Bool) (last n : ℕ) (ns : List ℕ) (a : AreNumbers test last ns)
    (l : last ≤ n) (m : n ≤ last + 1) where
  stays : (i : ℕ) → i < length ns → get_or (ns ++ n ∷ []) i 0 ≡ get_or ns i 0
  stays i h = get_or_append_left ns (n ∷ []) 0 i h

  at_end : (i : ℕ) → length ns ≡ i → get_or (ns ++ n ∷ []) i 0 ≡ n
  at_end i h = get_or_push ns n 0 i h

  long : length (ns ++ n ∷ []) ≡ length ns + 1
  long = length-append ns (n ∷ [])

  place : (i : ℕ) → i < length (ns ++ n ∷ []) → (i ≡ length ns) ⊎ (i < length ns)
  place i h = eq-or-lt_of_le (omega (arith, h, long))

  ascends : (i j : ℕ) → i ≤ j → j < length (ns ++ n ∷ [])
      → get_or (ns ++ n ∷ []) i 0 ≤ get_or (ns ++ n ∷ []) j 0
  ascends i j h k = elim (place j k) [
    | inl e ↦ elim (place i (omega (arith, h, k))) [
      | inl f ↦ omega (arith, at_end j (sym e), at_end i (sym f))
      | inr f ↦ omega (arith, at_end j (sym e), stays i f, a.few i f, l)
    ]
    | inr e ↦ omega (arith, stays j e, stays i (omega (arith, h, e)), a.ascend i j h e)
  ]

  few : (i : ℕ) → i < length (ns ++ n ∷ []) → get_or (ns ++ n ∷ []) i 0 ≤ n
  few i h = elim (place i h) [
    | inl e ↦ omega (arith, at_end i (sym e))
    | inr e ↦ omega (arith, stays i e, a.few i e, l)
  ]

  passes : test n ≡ true → (i : ℕ) → i < length (ns ++ n ∷ [])
      → test (get_or (ns ++ n ∷ []) i 0) ≡ true
  passes t i h = elim (place i h) [
    | inl e ↦ ap test (at_end i (sym e)) ∙ t
    | inr e ↦ ap test (stays i e) ∙ a.pass i e
  ]

  old_place : (k : ℕ) → k < last + 1 → test k ≡ true
      → (i : ℕ) × (i < length (ns ++ n ∷ [])) × (get_or (ns ++ n ∷ []) i 0 ≡ k)
  old_place k h t =
      let p = a.all k (omega (arith, h)) t in
      (p.0, omega (arith, p.1, long), stays p.0 p.1 ∙ p.2)

  all : (k : ℕ) → k ≤ n → test k ≡ true
      → (i : ℕ) × (i < length (ns ++ n ∷ [])) × (get_or (ns ++ n ∷ []) i 0 ≡ k)
  all k h t = elim (eq-or-lt_of_le h) [
    | inl e ↦ (length ns, omega (arith, long), at_end (length ns) refl ∙ sym e)
    | inr e ↦ old_place k (omega (arith, e, m)) t
  ]

  number_more : test n ≡ true → AreNumbers test n (ns ++ n ∷ [])
  number_more t = record { ascend = ascends; few = few; pass = passes t; all = all }

-- a number that does not pass
pub number_less : (test : ℕ → Bool) (last : ℕ) (ns : List ℕ) → AreNumbers test last ns
    → test (last + 1) ≡ false → AreNumbers test (last + 1) ns
number_less test last ns a t = record {
  ascend = a.ascend;
  few = λ i h. omega (arith, a.few i h);
  pass = a.pass;
  all = λ k h p. elim (eq-or-lt_of_le h) [
    | inl e ↦ let no : test k ≡ false = ap test e ∙ t in absurd (cc)
    | inr e ↦ a.all k (omega (arith, e)) p
  ];
}

pub number_next : (test : ℕ → Bool) (last : ℕ) (ns : List ℕ) (b : Bool)
    → AreNumbers test last ns → test (last + 1) ≡ b
    → AreNumbers test (last + 1) (ns ++ cond b ((last + 1) ∷ []) [])
number_next test last ns true a t =
    number_more test last (last + 1) ns a (omega arith) (omega arith) t
number_next test last ns false a t =
    subst (AreNumbers test (last + 1)) (sym (append-nil ns)) (number_less test last ns a t)

-- a number as often as a list names a state
module _ (test : ℕ → Bool) (n state : ℕ) (t : test n ≡ true) where
  abbrev often : List ℕ → List ℕ
  often ss = map (λ (s : ℕ). n) (filter (nat_eq state) ss)

  again : (ss ns : List ℕ) → AreNumbers test n ns → AreNumbers test n (ns ++ often ss)
  again [] ns a = subst (AreNumbers test n) (sym (append-nil ns)) a
  again (s ∷ ss) ns a =
      by (nat_eq state s) (again ss ns a) (again ss (ns ++ n ∷ [])
      (number_more test n n ns a (omega arith) (omega arith) t))
    where
      by : (b : Bool) → AreNumbers test n (ns ++ often ss)
          → AreNumbers test n ((ns ++ n ∷ []) ++ often ss) → AreNumbers test n
          (ns ++ map (λ (x : ℕ). n)
          (cond b (s ∷ filter (nat_eq state) ss) (filter (nat_eq state) ss)))
      by false h k = h
      by true h k = subst (AreNumbers test n) (append_once n ns (often ss)) k

  at_first : (last : ℕ) (ss ns : List ℕ) → last + 1 ≡ n → AreNumbers test last ns
      → list_any (nat_eq state) ss ≡ true → AreNumbers test n (ns ++ often ss)
  at_first last [] ns e a h = absurd (cc)
  at_first last (s ∷ ss) ns e a h =
      by (nat_eq state s) h (at_first last ss ns e a) (again ss (ns ++ n ∷ [])
      (number_more test last n ns a (omega (arith, e)) (omega (arith, e)) t))
    where
      by : (b : Bool) → (b || list_any (nat_eq state) ss) ≡ true
          → (list_any (nat_eq state) ss ≡ true → AreNumbers test n (ns ++ often ss))
          → AreNumbers test n ((ns ++ n ∷ []) ++ often ss) → AreNumbers test n
          (ns ++ map (λ (x : ℕ). n)
          (cond b (s ∷ filter (nat_eq state) ss) (filter (nat_eq state) ss)))
      by false g h k = h g
      by true g h k = subst (AreNumbers test n) (append_once n ns (often ss)) k

none_named : (n state : ℕ) (ss : List ℕ) → list_any (nat_eq state) ss ≡ false
    → map (λ (s : ℕ). n) (filter (nat_eq state) ss) ≡ []
none_named n state [] h = refl
none_named n state (s ∷ ss) h = by (nat_eq state s) h (none_named n state ss)
  where
    by : (b : Bool) → (b || list_any (nat_eq state) ss) ≡ false
        → (list_any (nat_eq state) ss ≡ false
        → map (λ (x : ℕ). n) (filter (nat_eq state) ss) ≡ []) → map (λ (x : ℕ). n)
        (cond b (s ∷ filter (nat_eq state) ss) (filter (nat_eq state) ss)) ≡ []
    by false g k = k g
    by true g k = absurd (cc)

pub numbers_named : (test : ℕ → Bool) (last state : ℕ) (ss ns : List ℕ)
    → AreNumbers test last ns → test (last + 1) ≡ list_any (nat_eq state) ss
    → AreNumbers test (last + 1)
    (ns ++ map (λ (s : ℕ). last + 1) (filter (nat_eq state) ss))
numbers_named test last state ss ns a is = by (list_any (nat_eq state) ss) refl
  where
    by : (b : Bool) → list_any (nat_eq state) ss ≡ b → AreNumbers test (last + 1)
        (ns ++ map (λ (s : ℕ). last + 1) (filter (nat_eq state) ss))
    by true h = at_first test (last + 1) state (is ∙ h) last ss ns refl a h
    by false h = subst (AreNumbers test (last + 1))
        (sym (ap (λ l. ns ++ l) (none_named (last + 1) state ss h) ∙ append-nil ns))
        (number_less test last ns a (is ∙ h))

-- NEXT NUMBERS

pub next_number : (test : ℕ → Bool) (last after : ℕ) (ns : List ℕ) (r : Option ℕ)
    → AreNumbers test last ns → ((n : ℕ) → test n ≡ true → n ≤ last)
    → IsLeastAbove ns after r → IsNext test after r
next_number test last after ns None a within h = λ m l t.
    let p = a.all m (within m t) t in
    let q : get_or ns p.0 0 ≤ after = h p.0 p.1 in omega (arith, p.2, q, l)
next_number test last after ns (Some n) a within h = (
  h.0,
  ap test (sym h.1.2) ∙ a.pass h.1.0 h.1.1,
  λ m l k t.
      let p = a.all m (within m t) t in
      let q : n ≤ get_or ns p.0 0 = h.2 p.0 p.1 (omega (arith, p.2, l)) in
      omega (arith, p.2, q, k),
)

either : (a b : Bool) → (a || b) ≡ true → (a ≡ true) ⊎ (b ≡ true)
either true b h = inl refl
either false b h = inr h

left_or : (a b : Bool) → a ≡ true → (a || b) ≡ true
left_or true b h = refl
left_or false b h = absurd (cc)

right_or : (a b : Bool) → b ≡ true → (a || b) ≡ true
right_or true b h = refl
right_or false b h = h

pub next_either : (one other : ℕ → Bool) (after : ℕ) (r s : Option ℕ) → IsNext one after r
    → IsNext other after s → IsNext (λ n. one n || other n) after (smaller r s)
next_either one other after None None h k = λ m l t. elim (either (one m) (other m) t) [
  | inl e ↦ h m l e
  | inr e ↦ k m l e
]
next_either one other after None (Some m) h k = (
  k.0,
  right_or (one m) (other m) k.1,
  λ n l b t. elim (either (one n) (other n) t) [ inl e ↦ h n l e | inr e ↦ k.2 n l b e ],
)
next_either one other after (Some n) None h k = (
  h.0,
  left_or (one n) (other n) h.1,
  λ m l b t. elim (either (one m) (other m) t) [ inl e ↦ h.2 m l b e | inr e ↦ k m l e ],
)
next_either one other after (Some n) (Some m) h k = by (nat_lt m n) refl
  where
    by : (b : Bool) → nat_lt m n ≡ b
        → IsNext (λ i. one i || other i) after (cond b (Some m) (Some n))
    by true is =
        let less : m < n = ltb-true m n is in (
          k.0,
          right_or (one m) (other m) k.1,
          λ i l b t. elim (either (one i) (other i) t) [
            | inl e ↦ h.2 i l (omega (arith, b, less)) e
            | inr e ↦ k.2 i l b e
          ],
        )
    by false is =
        let less : n ≤ m = ltb-false m n is in (
          h.0,
          left_or (one n) (other n) h.1,
          λ i l b t. elim (either (one i) (other i) t) [
            | inl e ↦ h.2 i l b e
            | inr e ↦ k.2 i l (omega (arith, b, less)) e
          ],
        )
