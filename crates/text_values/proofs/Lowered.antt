-- Bytes that are a name in lower case.
use Rattle.std.proofs.Common.{◌≡◌, ◌<◌, ℕ, Bool, true, false, List, length, get_or, bytes_eq}
use Rattle.std.proofs.Common.{refl, sym, ap, ◌∙◌, arith}
use Rattle.std.specs.Char.{to_ascii_lowercase}
use Rattle.std.specs.Str.{str_to_ascii_lowercase}
use Rattle.std.proofs.lemmas.List.{ext_get_or, get_or-map, length-map}
use Rattle.std.proofs.lemmas.Slice.Eq.{bytes_eq-Decides}

module _ (name bytes : List ℕ) where
  abbrev lower : List ℕ
  lower = str_to_ascii_lowercase bytes

  -- at a place they are one
  abbrev AreOneAt : ℕ → Type 0
  AreOneAt i = get_or name i 0 ≡ to_ascii_lowercase (get_or bytes i 0)

  lower_at : (i : ℕ) → i < length bytes
      → get_or lower i 0 ≡ to_ascii_lowercase (get_or bytes i 0)
  lower_at i lt = get_or-map to_ascii_lowercase bytes i 0 0 lt

  by : (b : Bool) → bytes_eq name lower ≡ b → (name ≡ lower → ⊥) → bytes_eq name lower ≡ false
  by false e n = e
  by true e n = absurd (n ((bytes_eq-Decides name lower).0 e))

  pub they_differ : (i : ℕ) → i < length bytes → (AreOneAt i → ⊥) → bytes_eq name lower ≡ false
  they_differ i lt n = by (bytes_eq name lower) refl
      (λ e. n (ap (λ w. get_or w i 0) e ∙ lower_at i lt))

  pub lengths_differ : (length bytes ≡ length name → ⊥) → bytes_eq name lower ≡ false
  lengths_differ n = by (bytes_eq name lower) refl
      (λ e. n (sym (ap length e ∙ length-map bytes to_ascii_lowercase)))

  pub they_agree : length bytes ≡ length name → ((i : ℕ) → i < length bytes → AreOneAt i)
      → bytes_eq name lower ≡ true
  they_agree e h = (bytes_eq-Decides name lower).1 (ext_get_or 0 name lower
      (sym e ∙ sym (length-map bytes to_ascii_lowercase))
      (λ i lt. let l : i < length bytes = omega (arith, e, lt) in h i l ∙ sym (lower_at i l)))
