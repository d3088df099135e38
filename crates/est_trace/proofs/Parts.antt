-- Ports and signals, as they are found and refused.
use Rattle.std.proofs.Common.{◌≡◌, ℕ, ◌+◌, ◌<◌, Bool, true, false, List, length}
use Rattle.std.proofs.Common.{sym, ◌∙◌, ap, subst, slice_get, Option, Some, None, is_some}
use Rattle.std.specs.Option.{unwrap_or}
use Rattle.est_lexer.specs.declared.tokens.Tokens.{Tokens}
use Rattle.est_lexer.specs.Offsets.{text_of, tokens_of}
use Rattle.text_reader.specs.Grammar.{one_of, pick}
use Rattle.text_reader.specs.Findings.{Found}
use Rattle.text_reader.proofs.GrammarLaws as laws
use Rattle.text_reader.specs.declared.reader.Reader.{Reader}
use Rattle.text_reader.specs.declared.outcome.Outcome.TheVariants.{Well}
use Rattle.text_reader.specs.Moving.{Still, Steps}
use Rattle.text_reader.specs.Going.{Shape, Fails}
use Rattle.text_reader.proofs.Steps.{after, same_on}
use Rattle.text_values.specs.TraceGrammar.{Rule, marks}
use Rattle.text_values.specs.ValueReading.{plain, Reads}
use Rattle.text_values.proofs.Known.{known}
use Rattle.est_trace.specs.inside.Lookups.{Begins, IsChosen, Chooses}
use Rattle.est_trace.specs.TraceText.{traces}
use Rattle.est_trace.proofs.Names.{AreTold, named_item, item_begun, item_solid, items_distinct}
use Rattle.est_trace.proofs.Readings.{FindsOne, with_well, read_well, from_reads, reads_of}

-- a token that begins something is there
begun_inside : (tokens : Tokens) (at : ℕ) (g : Rule) → Begins tokens at g
    → at < length (tokens_of tokens)
begun_inside tokens at g h = laws.some_inside (traces (text_of tokens)) (tokens_of tokens) at _ h

-- where an item is looked up, and then taken
module _ {A : Type 0} (f : A → Rule) (xs : List A) where
  -- there is a token where an item is found
  pub found_inside : (tokens : Tokens) (at : ℕ) (o : Option ℕ) → IsChosen f xs tokens at o
      → is_some o ≡ true → at < length (tokens_of tokens)
  found_inside tokens at (Some i) h e = begun_inside tokens at (f h.0) h.2
  found_inside tokens at None h e = cc

  chosen_by : (tokens : Tokens) (a b : ℕ) (o : Option ℕ) → IsChosen f xs tokens a o
      → (is_some o ≡ true) × (b ≡ a + 1)
      → IsChosen f xs tokens a (Some (unwrap_or o 0)) × (b ≡ a + 1)
  chosen_by tokens a b (Some i) h q = (h, q.1)
  chosen_by tokens a b None h q = absurd (let e : false ≡ true = q.0 in cc)

  none_by : (tokens : Tokens) (a b : ℕ) (z : Bool) (o : Option ℕ) → IsChosen f xs tokens a o
      → (is_some o ≡ false) × (b ≡ a) × (z ≡ false)
      → IsChosen f xs tokens a None × (b ≡ a) × (z ≡ false)
  none_by tokens a b z (Some i) h q = absurd (let e : true ≡ false = q.0 in cc)
  none_by tokens a b z None h q = (h, q.1, q.2)

  -- what is looked up is taken, or refused
  pub chooses_found : {A B C : Reader} (o : Option ℕ) → Still A B
      → (B.outcome ≡ Well → IsChosen f xs A.tokens.now A.at o) → Steps (is_some o) B C
      → Chooses f xs A (unwrap_or o 0) C
  chooses_found {A} {B} {C} o s h x = record {
    chooses = after
        (λ b. (b ≡ A.at) × (B.outcome ≡ Well)) (λ c. (is_some o ≡ true) × (c ≡ B.at + 1))
        (λ c. IsChosen f xs A.tokens.now A.at (Some (unwrap_or o 0)) × (c ≡ A.at + 1))
        (λ b z. ⊥) (λ c z. (is_some o ≡ false) × (c ≡ B.at) × (z ≡ false))
        (λ c z. IsChosen f xs A.tokens.now A.at None × (c ≡ A.at) × (z ≡ false))
        A.at B.at C.at A.outcome B.outcome C.outcome
        (λ e p q. chosen_by A.tokens.now A.at C.at o (h p.1) (q.0, q.1 ∙ ap (λ v. v + 1) p.0))
        (λ e z p q. none_by A.tokens.now A.at C.at z o (h p.1) (q.0, q.1 ∙ p.0, q.2))
        (λ e z q. absurd q)
        (with_well (λ b. b ≡ A.at) (λ b z. ⊥) A.at B.at A.outcome B.outcome s.stays) x.steps;
    same = same_on s.same x.same;
  }

  -- what was chosen, where all went well
  pub chosen_well : {A B : Reader} {n : ℕ} → Chooses f xs A n B → B.outcome ≡ Well
      → IsChosen f xs A.tokens.now A.at (Some n)
  chosen_well {A} {B} {n} x e =
      (read_well (λ b. IsChosen f xs A.tokens.now A.at (Some n) × (b ≡ A.at + 1))
      (λ b z. IsChosen f xs A.tokens.now A.at None × (b ≡ A.at) × (z ≡ false)) A.at B.at A.outcome
      B.outcome x.chooses e).1.0

-- an item that is chosen by its name, and then the rest
module _ {A : Type 0} (name : A → List ℕ) (allowed : A → Bool) (rest : A → Rule) (xs : List A)
    (told : AreTold name allowed xs) where
  abbrev item : A → Rule
  item = named_item name allowed rest

  -- the item that is chosen
  pub chosen_allowed : {B C : Reader} {n : ℕ} → Chooses item xs B n C → C.outcome ≡ Well
      → (x : A) × (slice_get xs n ≡ Some x) × (allowed x ≡ true)
  chosen_allowed {B} {C} {n} x e =
      let r = chosen_well item xs x e in (
        r.0,
        r.1,
        (item_begun name allowed rest (text_of B.tokens.now) r.0
            (slice_get (tokens_of B.tokens.now) B.at) r.2).0,
      )

  module _ (tk : Tokens) (d a n : ℕ) (g : Rule)
      (r : IsChosen item xs tk a (Some n)) (same : g ≡ rest r.0) where
    item_found : (c : ℕ) (t : Shape)
        → Found (traces (text_of tk)) marks (tokens_of tk) g d (a + 1) c t
        → Found (traces (text_of tk)) marks (tokens_of tk) (one_of item xs) d a c (pick n t)
    item_found c t h =
        let F = known.fits (text_of tk) in
        let b = item_begun name allowed rest (text_of tk) r.0 (slice_get (tokens_of tk) a) r.2 in
        laws.one_of_found F item (item_solid name allowed rest) xs n r.0
        (items_distinct name allowed rest (text_of tk) xs told) r.1
        (laws.when_found b.0 (laws.word_found F b.1
        (subst (λ v. Found (traces (text_of tk)) marks (tokens_of tk) v d (a + 1) c t) same h)))

    item_refused : (c : ℕ) (z : Bool) → Fails plain tk g d (a + 1) c z
        → Fails plain tk (one_of item xs) d a c z
    item_refused c z h =
        let F = known.fits (text_of tk) in
        let b = item_begun name allowed rest (text_of tk) r.0 (slice_get (tokens_of tk) a) r.2 in
        laws.one_of_refused F item (item_solid name allowed rest) xs n r.0
        (items_distinct name allowed rest (text_of tk) xs told) r.1 r.2
        (laws.when_refused b.0 (laws.word_refused F b.1
        (subst (λ v. Fails plain tk v d (a + 1) c z) same h)))

  pub chosen_reads : {B C D : Reader} {n : ℕ} {Is More : Shape → Type 0} (g : Rule)
      → ((x : A) → slice_get xs n ≡ Some x → g ≡ rest x)
      → ((x : A) → slice_get xs n ≡ Some x → allowed x ≡ true → (t : Shape) → Is t
      → More (pick n t))
      → Chooses item xs B n C → Reads g Is C D → Reads (one_of item xs) More B D
  chosen_reads {B} {C} {D} {n} {Is} {More} g same more x y =
      let tk = B.tokens.now in
      let choice = one_of item xs in
      reads_of
      (after (λ b. IsChosen item xs tk B.at (Some n) × (b ≡ B.at + 1))
      (FindsOne tk g B.levels C.at Is) (FindsOne tk choice B.levels B.at More)
      (λ b z. IsChosen item xs tk B.at None × (b ≡ B.at) × (z ≡ false))
      (Fails plain tk g B.levels C.at) (Fails plain tk choice B.levels B.at)
      B.at C.at D.at B.outcome C.outcome D.outcome
      (λ e p q. (
        pick n q.0,
        item_found tk B.levels B.at n g p.0 (same p.0.0 p.0.1) D.at q.0
            (subst (λ i. Found (traces (text_of tk)) marks (tokens_of tk) g B.levels i D.at q.0) p.1
            q.1),
        more p.0.0 p.0.1 (item_begun name allowed rest (text_of tk) p.0.0
            (slice_get (tokens_of tk) B.at) p.0.2).0 q.0 q.2,
      ))
      (λ e z p q. item_refused tk B.levels B.at n g p.0 (same p.0.0 p.0.1) D.at z
      (subst (λ i. Fails plain tk g B.levels i D.at z) p.1 q))
      (λ e z q.
      subst (λ u. Fails plain tk choice B.levels B.at C.at u) (sym q.2)
      (subst (λ i. Fails plain tk choice B.levels B.at i false) (sym q.1)
      (laws.refused_here (known.fits (text_of tk)) (laws.one_of_solid (traces (text_of tk)) marks
      item xs (item_solid name allowed rest)) B.inside q.0)))
      x.chooses (from_reads x.same y))
      (same_on x.same y.goes.same)
