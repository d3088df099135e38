-- Numbers under keys, with one number more.
use Rattle.std.proofs.Common.{◌≡◌, refl, sym, ap, ◌∙◌, ℕ, ◌+◌, ◌<◌, Bool, true, false, cond, nat_eq}
use Rattle.std.proofs.Common.{List, [], ◌∷◌, ◌++◌, map, append_assoc, length, get_or, take}
use Rattle.std.proofs.Common.{Option, Some, None, unwrap_or}
use Rattle.std.proofs.lemmas.Bool.Decides.{Decides-eqb}
use Rattle.std.proofs.lemmas.List.{append-nil, map-append}
use Rattle.std.proofs.lemmas.List.Elements.{filter_more}
use Rattle.std.specs.List.{filter}
use Rattle.std.specs.Map.{lookup, set_value}
use Rattle.std.specs.Option.{option_or}
use Rattle.plain_transitions.specs.inside.KeyedNumbers.{listed, added}
use Rattle.plain_transitions.specs.inside.StateNumbers.{as_often, ArePut}

same_key : (a b : ℕ) → nat_eq a b ≡ true → a ≡ b
same_key a b = (Decides-eqb a b).0

other_key : (a b c : ℕ) → nat_eq a c ≡ true → nat_eq b c ≡ false → nat_eq a b ≡ false
other_key a b c h k = by (nat_eq a b) refl
  where
    by : (r : Bool) → nat_eq a b ≡ r → nat_eq a b ≡ false
    by false e = e
    by true e =
        let same : b ≡ c = sym (same_key a b e) ∙ same_key a c h in
        let yes : nat_eq b c ≡ true = (Decides-eqb b c).1 same in absurd (cc)

-- a value that is set
module _ (key state : ℕ) (w : List ℕ) where
  abbrev goes : Option (List ℕ) → Option (List ℕ)
  goes o = cond (nat_eq state key) (Some w) o

  set_here : (k : ℕ) (x : List ℕ) (o : Option (List ℕ)) → key ≡ k
      → cond (nat_eq state k) (Some w) o ≡ goes (cond (nat_eq state k) (Some x) o)
  set_here k x o e =
      by (nat_eq state k) ∙ ap (λ j. cond (nat_eq state j) (Some w)
      (cond (nat_eq state k) (Some x) o)) (sym e)
    where
      by : (b : Bool) → cond b (Some w) o ≡ cond b (Some w) (cond b (Some x) o)
      by true = refl
      by false = refl

  set_later : (k : ℕ) (x : List ℕ) (o p : Option (List ℕ)) → nat_eq key k ≡ false → o ≡ goes p
      → cond (nat_eq state k) (Some x) o ≡ goes (cond (nat_eq state k) (Some x) p)
  set_later k x o p e h = by (nat_eq state k) refl
    where
      by : (b : Bool) → nat_eq state k ≡ b
          → cond b (Some x) o ≡ goes (cond b (Some x) p)
      by true is = sym (ap (λ c. cond c (Some w) (Some x)) (other_key state key k is e))
      by false is = h

  found_set : (es : List (ℕ × List ℕ)) (ns : List ℕ) → lookup (nat_eq key) es ≡ Some ns
      → lookup (nat_eq state) (set_value (nat_eq key) es w) ≡ goes (lookup (nat_eq state) es)
  found_set [] ns h = absurd (cc)
  found_set (e ∷ es) ns h = by (nat_eq key e.0) refl h (found_set es ns)
    where
      by : (b : Bool) → nat_eq key e.0 ≡ b
          → cond b (Some e.1) (lookup (nat_eq key) es) ≡ Some ns
          → (lookup (nat_eq key) es ≡ Some ns → lookup (nat_eq state)
          (set_value (nat_eq key) es w) ≡ goes (lookup (nat_eq state) es))
          → lookup (nat_eq state) (cond b ((e.0, w) ∷ es) (e ∷ set_value (nat_eq key) es w))
          ≡ goes (cond (nat_eq state e.0) (Some e.1) (lookup (nat_eq state) es))
      by true is k rest = set_here e.0 e.1 (lookup (nat_eq state) es) (same_key key e.0 is)
      by false is k rest =
          set_later e.0 e.1 (lookup (nat_eq state) (set_value (nat_eq key) es w))
          (lookup (nat_eq state) es) is (rest k)

-- an entry more
found_last : (es : List (ℕ × List ℕ)) (key state : ℕ) (w : List ℕ)
    → lookup (nat_eq state) (es ++ (key, w) ∷ [])
    ≡ option_or (lookup (nat_eq state) es) (cond (nat_eq state key) (Some w) None)
found_last [] key state w = refl
found_last (e ∷ es) key state w =
    elim (nat_eq state e.0) as (λ b.
    cond b (Some e.1) (lookup (nat_eq state) (es ++ (key, w) ∷ []))
    ≡ option_or (cond b (Some e.1) (lookup (nat_eq state) es))
    (cond (nat_eq state key) (Some w) None)) [ true ↦ refl | false ↦ found_last es key state w ]

abbrev given : Option (List ℕ) → List ℕ
given o = unwrap_or o []

or_none : (o : Option (List ℕ)) → option_or o None ≡ o
or_none None = refl
or_none (Some x) = refl

module _ (es : List (ℕ × List ℕ)) (key n state : ℕ) where
  one_more : (o : Option (List ℕ)) (b : Bool) → lookup (nat_eq key) es ≡ o
      → nat_eq state key ≡ b
      → listed (added o es key n) state ≡ listed es state ++ cond b (n ∷ []) []
  one_more None true h e =
      let none : lookup (nat_eq state) es ≡ None =
      ap (λ s. lookup (nat_eq s) es) (same_key state key e) ∙ h in
      ap given (found_last es key state (n ∷ [])
      ∙ ap (λ o. option_or o (cond (nat_eq state key) (Some (n ∷ [])) None)) none
      ∙ ap (λ c. cond c (Some (n ∷ [])) None) e)
      ∙ sym (ap (λ o. given o ++ n ∷ []) none)
  one_more None false h e =
      ap given (found_last es key state (n ∷ [])
      ∙ ap (λ c. option_or (lookup (nat_eq state) es) (cond c (Some (n ∷ [])) None)) e
      ∙ or_none (lookup (nat_eq state) es)) ∙ sym (append-nil (listed es state))
  one_more (Some ns) true h e =
      let some : lookup (nat_eq state) es ≡ Some ns =
      ap (λ s. lookup (nat_eq s) es) (same_key state key e) ∙ h in
      ap given (found_set key state (ns ++ n ∷ []) es ns h
      ∙ ap (λ c. cond c (Some (ns ++ n ∷ [])) (lookup (nat_eq state) es)) e)
      ∙ sym (ap (λ o. given o ++ n ∷ []) some)
  one_more (Some ns) false h e =
      ap given (found_set key state (ns ++ n ∷ []) es ns h
      ∙ ap (λ c. cond c (Some (ns ++ n ∷ [])) (lookup (nat_eq state) es)) e)
      ∙ sym (append-nil (listed es state))

  listed_added : listed (added (lookup (nat_eq key) es) es key n) state
      ≡ listed es state ++ cond (nat_eq state key) (n ∷ []) []
  listed_added = one_more (lookup (nat_eq key) es) (nat_eq state key) refl refl

-- a number that is put under a state more
mapped_cond : (n s : ℕ) (b : Bool)
    → map (λ (x : ℕ). n) (cond b (s ∷ []) []) ≡ cond b (n ∷ []) []
mapped_cond n s true = refl
mapped_cond n s false = refl

pub put_more : (n : ℕ) (ss : List ℕ) (i : ℕ) (old now next : List (ℕ × List ℕ))
    → i < length ss → ArePut n (take i ss) old now
    → next ≡ added (lookup (nat_eq (get_or ss i 0)) now) now (get_or ss i 0) n
    → ArePut n (take (i + 1) ss) old next
put_more n ss i old now next within h is = λ state.
    let s : ℕ = get_or ss i 0 in
    ap (λ es. listed es state) is ∙ listed_added now s n state
    ∙ ap (λ l. l ++ cond (nat_eq state s) (n ∷ []) []) (h state)
    ∙ append_assoc (listed old state) (as_often n (take i ss) state)
    (cond (nat_eq state s) (n ∷ []) [])
    ∙ ap (λ l. listed old state ++ l)
    (ap (λ l. as_often n (take i ss) state ++ l) (sym (mapped_cond n s (nat_eq state s)))
    ∙ sym (map-append (λ (x : ℕ). n) (filter (nat_eq state) (take i ss))
    (cond (nat_eq state s) (s ∷ []) []))
    ∙ sym (ap (map (λ (x : ℕ). n)) (filter_more (nat_eq state) ss i 0 within)))

pub none_put : (n : ℕ) (es : List (ℕ × List ℕ)) → ArePut n [] es es
none_put n es = λ state. sym (append-nil (listed es state))
