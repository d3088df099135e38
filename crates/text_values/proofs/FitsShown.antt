-- What a tree of a value shows fits the kind.
use Rattle.std.proofs.Common.{◌≡◌, ℕ, suc, ◌≤◌, ℤ, pos, negsuc, neg_ℤ, ◌≤ℤ◌, max, true, List}
use Rattle.std.proofs.Common.{[], ◌∷◌, replicate, refl, sym, ap, ◌∙◌, subst, arith, Option, Some}
use Rattle.std.proofs.Common.{None, slice_get}
use Rattle.std.specs.List.{AllZip}
use Rattle.std.proofs.lemmas.Int.{ints}
use Rattle.est_lexer.specs.declared.kind.Token.{Token}
use Rattle.est_lexer.specs.declared.kind.TokenKind.{TokenKind}
use Rattle.est_lexer.specs.declared.kind.TokenKind.TheVariants.{Identifier, Reserved, LeftOut}
use Rattle.est_lexer.specs.declared.kind.TokenKind.TheVariants.{Number, Character, Bad}
use Rattle.est_lexer.specs.declared.kind.TokenKind.TheVariants as token_kind
use Rattle.est_lexer.specs.declared.kind.Symbol.{Symbol}
use Rattle.est_lexer.specs.declared.kind.Symbol.TheVariants as symbols
use Rattle.est_lexer.specs.TokenKinds.{is_same}
use Rattle.est_lexer.specs.Spans.{spelling}
use Rattle.text_reader.specs.Grammar.{Tree, t_done, t_word, t_token, t_seq, t_left, t_right, t_rule}
use Rattle.text_reader.specs.Grammar.{meets, KeptOf, leaf, both, left, right, nothing, Language}
use Rattle.text_reader.proofs.Members.{and_left}
use Rattle.est_syntax.specs.declared.kind.Kind.{Kind, out-Kind}
use Rattle.est_syntax.specs.declared.kind.Kind.TheOpen as kinds
use Rattle.est_values.specs.declared.value.Value.{Value}
use Rattle.est_values.specs.FittingValues as fit
use Rattle.est_values.specs.FittingValues.{Fits, KindLayer, ordinal_count, IsOrdinalOf}
use Rattle.est_values.specs.FittingValues.{first_ordinal, last_ordinal}
use Rattle.text_reader.specs.Tests.{Test, number, character, Kept, name, value, code, kept_as}
use Rattle.text_reader.specs.Tests.{code_of, value_in, code_in, holds, language}
use Rattle.text_reader.specs.Going.{Shape}
use Rattle.text_reader.proofs.Apart.{within, coded}
use Rattle.text_reader.proofs.Single.{kept_number}
use Rattle.text_values.specs.TraceGrammar as grammar
use Rattle.text_values.specs.TraceGrammar.{Production, Rule, to_natural, numbers, integers}
use Rattle.text_values.specs.TraceGrammar.{characters, host_by, ordinal_by, a_value, formed}
use Rattle.text_values.specs.TraceGrammar.{listed, more, bracketed, group_of, field_kinds}
use Rattle.text_values.specs.TraceGrammar.{production}
use Rattle.text_values.specs.ValueShapes.{AreShown, AreBracketed, ShowsInteger, ShowsCharacter}
use Rattle.text_values.specs.ValueShapes.{ShowsOrdinalBy, ShowsOrdinal, ShowsValue, ShowsValues}
use Rattle.text_values.specs.ValueShapes.{undefined, ordinal, set, array, fields, no_values}
use Rattle.text_values.specs.ValueShapes.{one_more}
use Rattle.text_values.specs.inside.Scalars.{ShowsNumber}
use Rattle.text_values.proofs.Numbering.{ordinal_here}
use Rattle.text_values.proofs.Numbers.{below_zero}
use Rattle.text_values.proofs.OneValue.{no_ordinal_set, no_ordinal_array, no_ordinal_record}
use Rattle.text_values.proofs.FittingGroups.{array_fits, record_fits}

-- what is kept of a character
kept_character : (k : TokenKind) (bytes : List ℕ) → is_same k Character ≡ true
    → kept_as k bytes ≡ code (code_of bytes)
kept_character Identifier bytes e = cc
kept_character (Reserved w) bytes e = cc
kept_character (LeftOut w) bytes e = cc
kept_character Number bytes e = cc
kept_character Character bytes e = refl
kept_character (token_kind.Symbol mark) bytes e = cc
kept_character Bad bytes e = cc

module _ (text : List ℕ) where
  abbrev L : Language Token Kept Test Production
  L = language production text

  -- a number and a character that are kept lie within the bounds
  number_within : (low high n : ℕ) (o : Option Token)
      → meets (holds text) (number low high) o ≡ true → KeptOf L o (value n)
      → (low ≤ n) × (n ≤ high)
  number_within low high n None m k = absurd k
  number_within low high n (Some t) m k =
      let w = within low high text t m in
      let q = sym (kept_number t.kind (spelling text t) (and_left (is_same t.kind Number) _ m)) ∙ k
      in
      let e : value_in text t ≡ n = cc in
      (subst (λ v. low ≤ v) e w.0, subst (λ v. v ≤ high) e w.1)

  character_within : (low high n : ℕ) (o : Option Token)
      → meets (holds text) (character low high) o ≡ true → KeptOf L o (code n)
      → (low ≤ n) × (n ≤ high)
  character_within low high n None m k = absurd k
  character_within low high n (Some t) m k =
      let w = coded low high text t m in
      let q = sym (kept_character t.kind (spelling text t)
      (and_left (is_same t.kind Character) _ m)) ∙ k in
      let e : code_in text t ≡ n = cc in
      (subst (λ v. low ≤ v) e w.0, subst (λ v. v ≤ high) e w.1)

natural_below : (low : ℤ) (n : ℕ) → to_natural low ≤ n → low ≤ℤ pos n
natural_below (pos a) n l = omega (arith, ints, l)
natural_below (negsuc a) n l = omega (arith, ints)

negative_above : (high : ℤ) (n : ℕ) → max (to_natural (neg_ℤ high)) 1 ≤ n → neg_ℤ (pos n) ≤ℤ high
negative_above (pos b) n l = omega (arith, ints)
negative_above (negsuc b) n l =
    let m : suc b ≤ n = omega (arith, l) in omega (arith, ints, m)

module _ (text : List ℕ) (s : List Token) (n : ℕ) where
  abbrev T : Rule → ℕ → ℕ → ℕ → Shape → Type 0
  T = Tree (language production text) s n

  -- INTEGERS AND CHARACTERS
  numbers_fit : (low high z : ℤ) {d a b : ℕ} {t : Shape} → T (numbers low high) d a b t
      → ShowsNumber z t → (low ≤ℤ z) × (z ≤ℤ high)
  numbers_fit low (negsuc c) z x e = elim x [ ]
  numbers_fit low (pos c) z {a = a} (t_token (value m) k l w q) e =
      let r = number_within text (to_natural low) c m (slice_get s a) w q in
      let h : pos m ≤ℤ pos c = omega (arith, ints, r.1) in
      (subst (λ y. low ≤ℤ y) (sym e) (natural_below low m r.0), subst (λ y. y ≤ℤ pos c) (sym e) h)
  numbers_fit low (pos c) z (t_token (name m) k l w q) e = absurd e
  numbers_fit low (pos c) z (t_token (code m) k l w q) e = absurd e

  below_fit : (low high z : ℤ) {d a b : ℕ} {t : Shape} → T (below_zero low high) d a b t
      → ShowsInteger z (right t) → (low ≤ℤ z) × (z ≤ℤ high)
  below_fit (pos c) high z x e = elim x [ ]
  below_fit (negsuc c) high z {a = a} (t_word k l w (t_token (value m) j l' w' q)) e =
      let r = number_within text (max (to_natural (neg_ℤ high)) 1) (suc c) m (slice_get s (suc a)) w' q
      in
      let h : negsuc c ≤ℤ neg_ℤ (pos m) = omega (arith, ints, r.1) in (
        subst (λ y. negsuc c ≤ℤ y) (sym e) h,
        subst (λ y. y ≤ℤ high) (sym e) (negative_above high m r.0),
      )
  below_fit (negsuc c) high z (t_word k l w (t_token (name m) j l' w' q)) e = absurd e
  below_fit (negsuc c) high z (t_word k l w (t_token (code m) j l' w' q)) e = absurd e

  as_number : (z : ℤ) (t : Shape) → ShowsInteger z (left t) → ShowsNumber z t
  as_number z (leaf (value m)) e = e
  as_number z _ e = absurd e

  integers_fit : (low high z : ℤ) {d a b : ℕ} {t : Shape} → T (integers low high) d a b t
      → ShowsInteger z t → (low ≤ℤ z) × (z ≤ℤ high)
  integers_fit low high z (t_left {t = t} x) e = numbers_fit low high z x (as_number z t e)
  integers_fit low high z (t_right x) e = below_fit low high z x e

  characters_fit : (low high z : ℤ) {d a b : ℕ} {t : Shape} → T (characters low high) d a b t
      → ShowsCharacter z t → (low ≤ℤ z) × (z ≤ℤ high)
  characters_fit low (negsuc c) z x e = elim x [ ]
  characters_fit low (pos c) z {a = a} (t_left (t_token (code m) k l w q)) e =
      let r = character_within text (to_natural low) c m (slice_get s a) w q in
      let h : pos m ≤ℤ pos c = omega (arith, ints, r.1) in
      (subst (λ y. low ≤ℤ y) (sym e) (natural_below low m r.0), subst (λ y. y ≤ℤ pos c) (sym e) h)
  characters_fit low (pos c) z (t_left (t_token (name m) k l w q)) e = absurd e
  characters_fit low (pos c) z (t_left (t_token (value m) k l w q)) e = absurd e
  characters_fit low (pos c) z {a = a}
      (t_right (t_word k l w (t_word k' l' w' (t_seq (t_token (value m) j i h q)
      (t_word k'' l'' w'' t_done))))) e =
      let r = number_within text (to_natural low) c m (slice_get s (suc (suc a))) h q in
      let u : pos m ≤ℤ pos c = omega (arith, ints, r.1) in
      (subst (λ y. low ≤ℤ y) (sym e) (natural_below low m r.0), subst (λ y. y ≤ℤ pos c) (sym e) u)
  characters_fit low (pos c) z
      (t_right (t_word k l w (t_word k' l' w' (t_seq (t_token (name m) j i h q) y)))) e = absurd e
  characters_fit low (pos c) z
      (t_right (t_word k l w (t_word k' l' w' (t_seq (t_token (code m) j i h q) y)))) e = absurd e

  -- ORDINALS
  ordinal_by_fits : (l : KindLayer) (k : Kind) (z : ℤ) {d a b : ℕ} {t : Shape}
      → T (ordinal_by l k) d a b t → ShowsOrdinalBy l k z t → IsOrdinalOf k z
  ordinal_by_fits kinds.Integer k z x e = integers_fit (first_ordinal k) (last_ordinal k) z x e
  ordinal_by_fits kinds.Boolean k z x e = (ordinal_here k e.0 z e.1).1
  ordinal_by_fits kinds.Char k z x e = characters_fit (first_ordinal k) (last_ordinal k) z x e
  ordinal_by_fits (kinds.Enumeration declared names) k z x e = (ordinal_here k e.0 z e.1).1
  ordinal_by_fits (kinds.Part host low high) k z x e = absurd e
  ordinal_by_fits (kinds.SetOf base) k z x e = absurd e
  ordinal_by_fits (kinds.ArrayOf index of) k z x e = absurd e
  ordinal_by_fits (kinds.Fields fs) k z x e = absurd e

  pub ordinal_fits : (k : Kind) (z : ℤ) {d a b : ℕ} {t : Shape} → T (grammar.ordinal k) d a b t
      → ShowsOrdinal k z t → IsOrdinalOf k z
  ordinal_fits k z x e = ordinal_by_fits (out-Kind (host_by (out-Kind k) k)) k z x e

  -- VALUES
  module _ (part : Kind → Rule) where
    pub scalar_fits : (l : KindLayer) (k : Kind) (z : ℤ) {d a b : ℕ} {t : Shape} → out-Kind k ≡ l
        → T (formed part l k) d a b (left t) → ShowsOrdinal k z t → IsOrdinalOf k z
    scalar_fits kinds.Integer k z e (t_left x) h = ordinal_fits k z x h
    scalar_fits kinds.Boolean k z e (t_left x) h = ordinal_fits k z x h
    scalar_fits kinds.Char k z e (t_left x) h = ordinal_fits k z x h
    scalar_fits (kinds.Enumeration declared names) k z e (t_left x) h = ordinal_fits k z x h
    scalar_fits (kinds.Part host low high) k z e (t_left x) h = ordinal_fits k z x h
    scalar_fits (kinds.SetOf base) k z {t = t} e x h = absurd (no_ordinal_set k base z t e h)
    scalar_fits (kinds.ArrayOf index of) k z {t = t} e x h =
        absurd (no_ordinal_array k index of z t e h)
    scalar_fits (kinds.Fields fs) k z {t = t} e x h = absurd (no_ordinal_record k fs z t e h)

    -- the tree in the brackets of a group
    abbrev pub InBrackets : List Kind → Shape → Type 0
    InBrackets ks t = (d : ℕ) × (a : ℕ) × (b : ℕ) × T (listed part ks) d a b t

    bracketed_tree : (ks : List Kind) {d a b : ℕ} {t : Shape}
        → T (group_of part ks) d a b (both t nothing) → InBrackets ks t
    bracketed_tree ks (t_word k l w (t_seq x y)) = (_, _, _, x)

    pub group_tree : (l : KindLayer) (k : Kind) (ks : List Kind) {d a b : ℕ} {t : Shape}
        → out-Kind k ≡ l → formed part l k ≡ group_of part ks
        → T (formed part (out-Kind k) k) d a b (both t nothing) → InBrackets ks t
    group_tree l k ks {d} {a} {b} {t} e f x = bracketed_tree ks
        (subst (λ g. T g d a b (both t nothing)) (ap (λ m. formed part m k) e ∙ f) x)

  mutual
    pub value_fits : (k : Kind) (v : Value) (t : Shape) {d a b : ℕ} → ShowsValue k v t
        → T (a_value k) d a b t → Fits k v
    value_fits k v _ (undefined s e) x = fit.undefined e s
    value_fits k v _ (ordinal z e h) (t_rule x) =
        fit.ordinal z e (scalar_fits a_value (out-Kind k) k z refl x h)
    value_fits k v _ (set base zs i e h) x = fit.set base zs i e h.0
    value_fits k v _ (array {t = t} index of vs i e h) (t_rule x) =
        let ks = replicate (ordinal_count index) of in
        let g = group_tree a_value (kinds.ArrayOf index of) k ks i refl x in
        array_fits k index of v vs i e (listed_fit ks vs t h g.3)
    value_fits k v _ (fields {t = t} fs vs i e h) (t_rule x) =
        let g = group_tree a_value (kinds.Fields fs) k (field_kinds fs) i refl x in
        record_fits k fs v vs i e (listed_fit (field_kinds fs) vs t h g.3)

    listed_fit : (ks : List Kind) (vs : List Value) (t : Shape) {d a b : ℕ} → ShowsValues ks vs t
        → T (listed a_value ks) d a b t → AllZip Fits ks vs
    listed_fit _ _ _ no_values x = tt
    listed_fit _ _ _ (one_more {k = k} {ks} {v} {vs} {t} {u} h hs) (t_seq x y) =
        (value_fits k v t h x, more_fit ks vs u hs y)

    more_fit : (ks : List Kind) (vs : List Value) (t : Shape) {d a b : ℕ} → ShowsValues ks vs t
        → T (more a_value ks) d a b t → AllZip Fits ks vs
    more_fit _ _ _ no_values x = tt
    more_fit _ _ _ (one_more {k = k} {ks} {v} {vs} {t} {u} h hs) (t_seq (t_word c l w x) y) =
        (value_fits k v t h x, more_fit ks vs u hs y)

  -- LISTS
  module _ {K V : Type 0} (f : K → Rule) (R : K → V → Shape → Type 0) (Good : K → V → Type 0)
      (good : (k : K) (v : V) (d a b : ℕ) (t : Shape) → T (f k) d a b t → R k v t
      → Good k v) where
    more_good : (ks : List K) (vs : List V) {d a b : ℕ} {t : Shape} → T (more f ks) d a b t
        → AreShown R ks vs t → AllZip Good ks vs
    more_good [] [] t_done h = tt
    more_good [] (v ∷ vs) x h = absurd h
    more_good (k ∷ ks) [] x h = absurd h
    more_good (k ∷ ks) (v ∷ vs) (t_seq (t_word c l w x) y) h =
        (good k v _ _ _ _ x h.0, more_good ks vs y h.1)

    listed_good : (ks : List K) (vs : List V) {d a b : ℕ} {t : Shape} → T (listed f ks) d a b t
        → AreShown R ks vs t → AllZip Good ks vs
    listed_good [] [] t_done h = tt
    listed_good [] (v ∷ vs) x h = absurd h
    listed_good (k ∷ ks) [] x h = absurd h
    listed_good (k ∷ ks) (v ∷ vs) (t_seq x y) h = (good k v _ _ _ _ x h.0, more_good ks vs y h.1)

    pub bracketed_good : (first last : Symbol) (ks : List K) (vs : List V) {d a b : ℕ} {t : Shape}
        → T (bracketed first last f ks) d a b t → AreBracketed R ks vs t → AllZip Good ks vs
    bracketed_good first last [] [] x h = tt
    bracketed_good first last [] (v ∷ vs) x h = absurd h
    bracketed_good first last (k ∷ ks) vs (t_word c l w (t_seq x (t_word c' l' w' t_done))) h =
        listed_good (k ∷ ks) vs x h

  -- the values of parameters, and subscripts
  pub values_fit : (ks : List Kind) (vs : List Value) {d a b : ℕ} {t : Shape}
      → T (grammar.parameters ks) d a b t → AreBracketed ShowsValue ks vs t → AllZip Fits ks vs
  values_fit ks vs x h =
      bracketed_good a_value ShowsValue Fits (λ j v d a b t y g. value_fits j v t g y)
      symbols.LeftParenthesis symbols.RightParenthesis ks vs x h

  pub index_fits : (ks : List Kind) (zs : List ℤ) {d a b : ℕ} {t : Shape}
      → T (grammar.subscripts ks) d a b t → AreBracketed ShowsOrdinal ks zs t
      → AllZip IsOrdinalOf ks zs
  index_fits ks zs x h =
      bracketed_good grammar.ordinal ShowsOrdinal IsOrdinalOf
      (λ j z d a b t y g. ordinal_fits j z y g) symbols.LeftBracket symbols.RightBracket ks zs x h
