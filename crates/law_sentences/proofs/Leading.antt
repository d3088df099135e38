-- Lists in which what passes a test stands first.
use Rattle.std.proofs.Common.{◌≡◌, refl, sym, ap, ◌∙◌, true≢false, ℕ, zero, suc, ◌<◌, Bool, true}
use Rattle.std.proofs.Common.{false, List, [], ◌∷◌, ◌++◌, Option, Some, None, slice_get, arith}
use Rattle.std.proofs.lemmas.Option.{none-some}

-- what holds of the rest of a list after an item that passes a test, or does not
abbrev Led : Bool → Type 0 → Type 0 → Type 0
Led true leads not = leads
Led false leads not = not

module _ {X : Type 0} (f : X → Bool) where
  -- each item passes a test
  abbrev pub AllAre : List X → Type 0
  AllAre [] = Unit {0}
  AllAre (x ∷ xs) = (f x ≡ true) × AllAre xs

  -- none does
  abbrev pub NoneIs : List X → Type 0
  NoneIs [] = Unit {0}
  NoneIs (x ∷ xs) = (f x ≡ false) × NoneIs xs

  -- those that pass it stand first
  abbrev pub Leads : List X → Type 0
  Leads [] = Unit {0}
  Leads (x ∷ xs) = Led (f x) (Leads xs) (NoneIs xs)

  none_more : (xs : List X) (y : X) → NoneIs xs → f y ≡ false → NoneIs (xs ++ y ∷ [])
  none_more [] y h k = (k, tt)
  none_more (x ∷ xs) y h k = (h.0, none_more xs y h.1 k)

  none_leads : (y : X) → f y ≡ false → Leads (y ∷ [])
  none_leads y k = by (f y)
    where
      by : (b : Bool) → Led b (Unit {0}) (Unit {0})
      by true = tt
      by false = tt

  -- one more at the end that does not pass it
  pub leads_more : (xs : List X) (y : X) → Leads xs → f y ≡ false → Leads (xs ++ y ∷ [])
  leads_more [] y h k = none_leads y k
  leads_more (x ∷ xs) y h k = by (f x) (λ g. leads_more xs y g k) h
    where
      by : (b : Bool) → (Leads xs → Leads (xs ++ y ∷ [])) → Led b (Leads xs) (NoneIs xs)
          → Led b (Leads (xs ++ y ∷ [])) (NoneIs (xs ++ y ∷ []))
      by true rest h = rest h
      by false rest h = none_more xs y h k

  -- one more that does
  pub all_more : (xs : List X) (y : X) → AllAre xs → f y ≡ true → AllAre (xs ++ y ∷ [])
  all_more [] y h k = (k, tt)
  all_more (x ∷ xs) y h k = (h.0, all_more xs y h.1 k)

  pub all_lead : (xs : List X) → AllAre xs → Leads xs
  all_lead [] h = tt
  all_lead (x ∷ xs) h = by (f x) h.0 (all_lead xs h.1)
    where
      by : (b : Bool) → b ≡ true → Leads xs → Led b (Leads xs) (NoneIs xs)
      by true e rest = rest
      by false e rest = absurd (true≢false (sym e))

  -- where one passes it, each before it does
  none_at : (xs : List X) (n : ℕ) (y : X) → NoneIs xs → slice_get xs n ≡ Some y → f y ≡ false
  none_at [] n y h e = absurd (none-some y e)
  none_at (x ∷ xs) zero y h e = ap (λ (o : Option X). passed o) (sym e) ∙ h.0
    where
      passed : Option X → Bool
      passed None = true
      passed (Some z) = f z
  none_at (x ∷ xs) (suc n) y h e = none_at xs n y h.1 e

  pub leads_at : (xs : List X) (i n : ℕ) (y : X) → Leads xs → i < n → slice_get xs n ≡ Some y
      → f y ≡ true → (x : X) × (slice_get xs i ≡ Some x) × (f x ≡ true)
  leads_at [] i n y h l e k = absurd (none-some y e)
  leads_at (x ∷ xs) i zero y h l e k = absurd (omega arith)
  leads_at (x ∷ xs) i (suc n) y h l e k =
      by i (f x) refl (λ j g m. leads_at xs j n y g m e k) h l
    where
      by : (i : ℕ) (b : Bool) → f x ≡ b
          → ((j : ℕ) → Leads xs → j < n
          → (z : X) × (slice_get xs j ≡ Some z) × (f z ≡ true)) → Led b (Leads xs) (NoneIs xs)
          → i < suc n → (z : X) × (slice_get (x ∷ xs) i ≡ Some z) × (f z ≡ true)
      by zero true is rest h l = (x, refl, is)
      by (suc i) true is rest h l = rest i h (omega arith)
      by i false is rest h l = absurd (true≢false (sym k ∙ none_at xs n y h e))

-- the same by another test that says the same of each item
module _ {X : Type 0} (f g : X → Bool) where
  abbrev pub AgreeOn : List X → Type 0
  AgreeOn [] = Unit {0}
  AgreeOn (x ∷ xs) = (f x ≡ g x) × AgreeOn xs

  pub all_same : (xs : List X) → AgreeOn xs → AllAre f xs → AllAre g xs
  all_same [] s h = tt
  all_same (x ∷ xs) s h = (sym s.0 ∙ h.0, all_same xs s.1 h.1)

  none_same : (xs : List X) → AgreeOn xs → NoneIs f xs → NoneIs g xs
  none_same [] s h = tt
  none_same (x ∷ xs) s h = (sym s.0 ∙ h.0, none_same xs s.1 h.1)

  pub leads_same : (xs : List X) → AgreeOn xs → Leads f xs → Leads g xs
  leads_same [] s h = tt
  leads_same (x ∷ xs) s h = by (f x) (g x) s.0 (λ k. leads_same xs s.1 k) h
    where
      by : (b c : Bool) → b ≡ c → (Leads f xs → Leads g xs) → Led b (Leads f xs) (NoneIs f xs)
          → Led c (Leads g xs) (NoneIs g xs)
      by true true e rest h = rest h
      by false false e rest h = none_same xs s.1 h
      by true false e rest h = absurd (true≢false e)
      by false true e rest h = absurd (true≢false (sym e))

  pub agree : ((x : X) → f x ≡ g x) → (xs : List X) → AgreeOn xs
  agree h [] = tt
  agree h (x ∷ xs) = (h x, agree h xs)
