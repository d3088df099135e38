-- Lists, as they are written.
use Rattle.std.proofs.Common.{◌≡◌, ℕ, suc, ℤ, pos, ◌+ℤ◌, ◌≤ℤ◌, List, [], ◌∷◌, ◌++◌, length, refl}
use Rattle.std.proofs.Common.{sym, subst, arith, inl, inr, ◌↔◌, flat_map, Some, slice_get}
use Rattle.std.specs.List.{AllZip}
use Rattle.std.specs.Prelude.{codes}
use Rattle.std.proofs.lemmas.Int.{ints}
use Rattle.est_lexer.specs.declared.kind.Symbol as mark
use Rattle.est_lexer.specs.declared.kind.Symbol.TheVariants as symbols
use Rattle.text_reader.specs.Grammar.{done, rep, t_done, t_rep_out, nothing, both, left, right}
use Rattle.est_syntax.specs.Least.{IsIn}
use Rattle.est_syntax.specs.declared.kind.Kind.{Kind}
use Rattle.est_values.specs.FittingValues.{AreMembersOf, AscendFrom, IsOrdinalOf, first_ordinal}
use Rattle.est_values.specs.FittingValues.{last_ordinal}
use Rattle.text_reader.specs.Going.{Shape}
use Rattle.text_values.specs.TraceGrammar as grammar
use Rattle.text_values.specs.TraceGrammar.{Rule, symbol}
use Rattle.text_values.specs.ValueShapes.{AreShown, AreEnclosed, AreBracketed, ShowsOrdinal}
use Rattle.text_values.specs.ValueShapes.{IsAmong, ShowsSet}
use Rattle.text_values.proofs.OneValue.{one_ordinal}
use Rattle.text_values.specs.WrittenLists.{listed, paired, enclosed, bracketed}
use Rattle.text_values.specs.WrittenOrdinals.{ordinal_text}
use Rattle.text_values.specs.WrittenValues.{set_text}
use Rattle.law_texts.specs.ReadableKinds.{IsReadableOrdinal}
use Rattle.law_texts.proofs.Wholes.{Ends}
use Rattle.law_texts.proofs.Writing.{Writes, nothing_written, both_written, turn_written}
use Rattle.law_texts.proofs.Writing.{first_written, second_written, shown_written}
use Rattle.law_texts.proofs.Marks.{IsMark, mark_written, mark_ends, comma_written, left_bracket}
use Rattle.law_texts.proofs.Marks.{right_bracket}
use Rattle.law_texts.proofs.Scalars.{done_written, ordinal_written}

-- an item after a comma
abbrev pub after_comma : List ℕ → List ℕ
after_comma item = codes ", " ++ item

-- what ends an item still does where more items stand between
pub items_end : {X : Type 0} (f : X → List ℕ) (xs : List X) (rest : List ℕ) → Ends rest
    → Ends (flat_map (λ x. codes ", " ++ f x) xs ++ rest)
items_end f [] rest h = h
items_end f (x ∷ xs) rest h = record { no_part = refl; no_star = refl }

-- ITEMS, PAIR BY PAIR

module _ {K V : Type 0} (f : K → Rule) (R : K → V → Shape → Type 0) (text : K → V → List ℕ) where
  -- an item that is written
  abbrev pub IsWritten : K → V → Type 0
  IsWritten k v = Writes Ends 0 (f k) (λ t. R k v t) (text k v)

  -- those that stand after another
  more_written : (ks : List K) (vs : List V) → AllZip IsWritten ks vs
      → Writes Ends 0 (grammar.more f ks) (λ t. AreShown R ks vs t)
      (flat_map after_comma (paired text ks vs))
  more_written [] [] h =
      nothing_written done (λ t. AreShown R [] [] t) (λ rest e. e.no_star) tt
      (λ x s d a. t_done)
  more_written [] (v ∷ vs) h = absurd h
  more_written (k ∷ ks) [] h = absurd h
  more_written (k ∷ ks) (v ∷ vs) h =
      both_written (λ t. AreShown R (k ∷ ks) (v ∷ vs) t) (comma_written h.0)
      (more_written ks vs h.1) (items_end (λ (item : List ℕ). item) (paired text ks vs))
      (λ t u i j. (i, j))

  pub listed_written : (ks : List K) (vs : List V) → AllZip IsWritten ks vs
      → Writes Ends 0 (grammar.listed f ks) (λ t. AreShown R ks vs t) (listed (paired text ks vs))
  listed_written [] [] h =
      nothing_written done (λ t. AreShown R [] [] t) (λ rest e. e.no_star) tt
      (λ x s d a. t_done)
  listed_written [] (v ∷ vs) h = absurd h
  listed_written (k ∷ ks) [] h = absurd h
  listed_written (k ∷ ks) (v ∷ vs) h =
      both_written (λ t. AreShown R (k ∷ ks) (v ∷ vs) t) h.0 (more_written ks vs h.1)
      (items_end (λ (item : List ℕ). item) (paired text ks vs)) (λ t u i j. (i, j))

  module _ (first last : mark.Symbol) (a b : ℕ) (m : IsMark first a) (n : IsMark last b) where
    -- between two symbols
    pub enclosed_written : (ks : List K) (vs : List V) → AllZip IsWritten ks vs
        → Writes Ends 0 (grammar.enclosed first last f ks) (λ t. AreEnclosed R ks vs t)
        (enclosed (a ∷ []) (b ∷ []) (paired text ks vs))
    enclosed_written ks vs h =
        mark_written first a m
        (both_written (λ t. AreEnclosed R ks vs t) (listed_written ks vs h)
        (mark_written last b n done_written) (λ rest e. mark_ends last b n rest)
        (λ t u i j. subst (λ z. AreEnclosed R ks vs (both t z)) (sym j) i))

    pub bracketed_written : (ks : List K) (vs : List V) → AllZip IsWritten ks vs
        → Writes Ends 0 (grammar.bracketed first last f ks) (λ t. AreBracketed R ks vs t)
        (bracketed (a ∷ []) (b ∷ []) (paired text ks vs))
    bracketed_written [] [] h =
        nothing_written done (λ t. AreBracketed R [] [] t) (λ rest e. e.no_star) tt
        (λ x s d c. t_done)
    bracketed_written [] (v ∷ vs) h = absurd h
    bracketed_written (k ∷ ks) [] h = absurd h
    bracketed_written (k ∷ ks) (v ∷ vs) h =
        shown_written (λ t. AreBracketed R (k ∷ ks) (v ∷ vs) t)
        (enclosed_written (k ∷ ks) (v ∷ vs) h) (λ t i. i)

-- from a place to the pair there
pub zipped : {K V : Type 0} (R : K → V → Type 0) (ks : List K) (vs : List V)
    → length ks ≡ length vs
    → ((i : ℕ) (k : K) (v : V) → slice_get ks i ≡ Some k → slice_get vs i ≡ Some v → R k v)
    → AllZip R ks vs
zipped R [] [] e f = tt
zipped R [] (v ∷ vs) e f = absurd (omega (arith, e))
zipped R (k ∷ ks) [] e f = absurd (omega (arith, e))
zipped R (k ∷ ks) (v ∷ vs) e f =
    (f 0 k v refl refl, zipped R ks vs (omega (arith, e)) (λ i j w p q. f (suc i) j w p q))

-- SETS

module _ (base : Kind) (r : IsReadableOrdinal base) where
  -- ordinals have the shapes of the turns of a repetition
  abbrev pub AreRun : List ℤ → Shape → Type 0
  AreRun [] nothing = Unit {0}
  AreRun (z ∷ zs) (both t u) = ShowsOrdinal base z t × AreRun zs u
  AreRun _ _ = ⊥

  among : (zs : List ℤ) (t : Shape) (w : ℤ) → AreRun zs t → IsIn w zs ↔ IsAmong base w t
  among [] nothing w h = (λ x. x, λ x. x)
  among [] _ w h = absurd h
  among (z ∷ zs) (both t u) w h =
      let q = among zs u w h.1 in (
        λ x. elim x [
          | inl e ↦ inl (subst (λ y. ShowsOrdinal base y t) e h.0)
          | inr y ↦ inr (q.0 y)
        ],
        λ x. elim x [
          | inl s ↦ inl (one_ordinal base z w t h.0 s)
          | inr y ↦ inr (q.1 y)
        ],
      )
  among (z ∷ zs) _ w h = absurd h

  turns_written : (low : ℤ) (zs : List ℤ) → first_ordinal base ≤ℤ low
      → AscendFrom low (last_ordinal base) zs
      → Writes Ends 0 (rep (symbol symbols.Comma (grammar.ordinal base))) (λ t. AreRun zs t)
      (flat_map (λ z. codes ", " ++ ordinal_text base z) zs)
  turns_written low [] l h =
      nothing_written _ (λ t. AreRun [] t) (λ rest e. e.no_star) tt (λ x s d a. t_rep_out)
  turns_written low (z ∷ zs) l h =
      let o : IsOrdinalOf base z = (omega (arith, ints, l, h.0), h.1) in
      turn_written (λ t. AreRun (z ∷ zs) t) (comma_written (ordinal_written base z o r))
      (turns_written (z +ℤ pos 1) zs (omega (arith, ints, l, h.0)) h.2)
      (items_end (ordinal_text base) zs) (λ t u i j. (i, j))

  -- and nothing after them
  abbrev pub AreClosedRun : List ℤ → Shape → Type 0
  AreClosedRun zs (both t nothing) = AreRun zs t
  AreClosedRun zs _ = ⊥

  run_shown : (zs : List ℤ) (t : Shape) → AreMembersOf base zs → AreClosedRun zs t
      → ShowsSet base zs (right t)
  run_shown zs (both t nothing) m h = (m, λ w. among zs t w h)
  run_shown zs _ m h = absurd h

  -- the members in brackets
  pub set_written : (zs : List ℤ) → AreMembersOf base zs
      → Writes Ends 0 (grammar.set base) (λ t. ShowsSet base zs t) (set_text base zs)
  set_written [] m =
      mark_written symbols.LeftBracket 91 left_bracket
      (first_written (λ t. ShowsSet base [] t)
      (mark_written symbols.RightBracket 93 right_bracket done_written) _
      (λ t i. subst (λ v. ShowsSet base [] (left v)) (sym i) (tt, λ z. (λ h. h, λ h. h))))
  set_written (z ∷ zs) m =
      mark_written symbols.LeftBracket 91 left_bracket
      (second_written (λ t. ShowsSet base (z ∷ zs) t)
      (both_written (λ t. AreClosedRun (z ∷ zs) t)
      (both_written (λ t. AreRun (z ∷ zs) t) (ordinal_written base z (m.0, m.1) r)
      (turns_written (z +ℤ pos 1) zs (omega (arith, ints, m.0)) m.2)
      (items_end (ordinal_text base) zs) (λ t u i j. (i, j)))
      (mark_written symbols.RightBracket 93 right_bracket done_written)
      (λ rest e. mark_ends symbols.RightBracket 93 right_bracket rest)
      (λ t u i j. subst (λ v. AreClosedRun (z ∷ zs) (both t v)) (sym j) i)) _
      (λ t i. run_shown (z ∷ zs) t m i))
