-- Parts of a line of lists, and what they are as a line.
use Rattle.std.proofs.Common.{◌≡◌, ℕ, suc, ◌-◌, ◌<◌, ◌≤◌, true, false, List, length}
use Rattle.std.proofs.Common.{refl, sym, ◌∙◌, ap, subst, arith}
use Rattle.est_lexer.specs.declared.tokens.Tokens.{Tokens}
use Rattle.est_lexer.specs.Offsets.{text_of, tokens_of}
use Rattle.text_reader.specs.Grammar.{alt, opt, deeper, rule, nothing, left, right, some, Partial}
use Rattle.text_reader.specs.Marks.{can_begin, can_be_empty, disjoint, covered, implies_one}
use Rattle.text_reader.specs.Shown.{node}
use Rattle.text_reader.specs.declared.reader.Reader.{Reader}
use Rattle.text_reader.specs.declared.outcome.Outcome.{Outcome}
use Rattle.text_reader.specs.declared.outcome.Outcome.TheVariants.{Well, Wrong, TooDeep, NoMemory}
use Rattle.text_reader.specs.Tests.{Test, apart, implies, stands}
use Rattle.text_reader.specs.Moving.{bit, Does, Seen, Sees, NoneSeen, Still, Enters, EntersAt}
use Rattle.text_reader.specs.Moving.{Closes}
use Rattle.text_reader.specs.Going.{Shape, Finds, Fails}
use Rattle.text_reader.proofs.Flat.{too_deep_any}
use Rattle.text_reader.proofs.Going.{from, part, goes_still, rule_goes, first_in, second_in}
use Rattle.text_reader.proofs.Going.{first_else, opt_in, opt_out}
use Rattle.text_reader.proofs.GrammarLaws as laws
use Rattle.text_reader.proofs.Steps.{after, same_on, sees_well, sees_it, still_well, bit_small}
use Rattle.text_values.specs.TraceGrammar.{Production, Rule, production, marks}
use Rattle.text_values.specs.ValueReading.{plain, Reads}
use Rattle.text_values.proofs.Known.{known}
use Rattle.est_trace.specs.TraceText.{traces}
use Rattle.est_trace.specs.inside.ListReading.{with_levels}
use Rattle.est_trace.proofs.Readings.{FindsOne, moves_of, reads_of}

-- OUTCOMES

-- what goes well went well before
pub well_before : (o o' : Outcome) → bit o' ≤ bit o → o' ≡ Well → o ≡ Well
well_before Well o' l w = refl
well_before Wrong o' l w = let b : bit o' ≡ 1 = ap bit w in absurd (omega (arith, l, b))
well_before TooDeep o' l w = let b : bit o' ≡ 1 = ap bit w in absurd (omega (arith, l, b))
well_before NoMemory o' l w = let b : bit o' ≡ 1 = ap bit w in absurd (omega (arith, l, b))

-- ALTERNATIVES

module _ {g h : Rule} {Is More : Shape → Type 0} {A B : Reader} where
  -- one of two alternatives, which a token tells
  pub first_reads : (k : Test) → implies_one implies k (can_begin marks g) ≡ true
      → disjoint apart (can_begin marks g) (can_begin marks h) ≡ true
      → can_be_empty marks g ≡ false → can_be_empty marks h ≡ false
      → ((t : Shape) → Is t → More (left t)) → Sees A k true → Reads g Is A B
      → Reads (alt g h) More A B
  first_reads k i j e f more s x = record {
    shape = left x.shape;
    goes = part refl (first_in known k i j e f s x.goes);
    is = λ w. more x.shape (x.is w);
  }

  pub second_reads : (k : Test) → implies_one implies k (can_begin marks h) ≡ true
      → disjoint apart (can_begin marks g) (can_begin marks h) ≡ true
      → can_be_empty marks g ≡ false → can_be_empty marks h ≡ false
      → ((t : Shape) → Is t → More (right t)) → Sees A k true → Reads h Is A B
      → Reads (alt g h) More A B
  second_reads k i j e f more s x = record {
    shape = right x.shape;
    goes = part refl (second_in known k i j e f s x.goes);
    is = λ w. more x.shape (x.is w);
  }

  -- the first, where no token is seen that begins the second
  pub first_reads_else : (ks : List Test) → covered implies (can_begin marks h) ks ≡ true
      → disjoint apart (can_begin marks g) (can_begin marks h) ≡ true
      → can_be_empty marks g ≡ false → can_be_empty marks h ≡ false
      → ((t : Shape) → Is t → More (left t)) → NoneSeen A ks → Reads g Is A B
      → Reads (alt g h) More A B
  first_reads_else ks i j e f more n x = record {
    shape = left x.shape;
    goes = part refl (first_else known ks i j e f n x.goes);
    is = λ w. more x.shape (x.is w);
  }

-- what may be left out, and is there
pub some_reads : {g : Rule} {Is More : Shape → Type 0} {A B : Reader} (k : Test)
    → implies_one implies k (can_begin marks g) ≡ true → can_be_empty marks g ≡ false
    → ((t : Shape) → Is t → More (some t)) → Sees A k true → Reads g Is A B
    → Reads (opt g) More A B
some_reads k i e more s x = record {
  shape = some x.shape;
  goes = part refl (opt_in known k i e s x.goes);
  is = λ w. more x.shape (x.is w);
}

-- or is left out
pub out_reads : {g : Rule} {Is : Shape → Type 0} {A : Reader} (ks : List Test)
    → covered implies (can_begin marks g) ks ≡ true → can_be_empty marks g ≡ false
    → NoneSeen A ks → Is nothing → Reads (opt g) Is A A
out_reads ks i e n p = record {
  shape = nothing;
  goes = part refl (opt_out known ks i e n);
  is = λ w. p;
}

-- a production
pub rule_reads : (p : Production) {Is : Shape → Type 0} {A B : Reader}
    → Reads (production p) Is A B → Reads (rule p) Is A B
rule_reads p x = record { shape = x.shape; goes = rule_goes known {p = p} x.goes; is = x.is }

-- READERS THAT STAY

module _ {g : Rule} {Is : Shape → Type 0} {A B C : Reader} where
  -- before and after what is read
  pub still_reads : Still A B → Reads g Is B C → Reads g Is A C
  still_reads s x =
      let tk = A.tokens.now in
      let v = node x.shape in record {
        shape = x.shape;
        goes = record {
          moves = after (λ i. i ≡ A.at) (Finds plain tk g A.levels B.at v)
              (Finds plain tk g A.levels A.at v) (λ i z. ⊥) (Fails plain tk g A.levels B.at)
              (Fails plain tk g A.levels A.at) A.at B.at C.at A.outcome B.outcome C.outcome
              (λ e p q. subst (λ i. Finds plain tk g A.levels i v C.at) p q)
              (λ e z p q. subst (λ i. Fails plain tk g A.levels i C.at z) p q)
              (λ e z q. absurd q)
              s.stays (from s.same x.goes);
          same = same_on s.same x.goes.same;
        };
        is = x.is;
      }

  pub reads_still : Reads g Is A B → Still B C → Reads g Is A C
  reads_still x s = record {
    shape = x.shape;
    goes = goes_still x.goes s (λ w. refl);
    is = λ w. x.is (still_well s w);
  }

  -- the levels are what they were
  pub closed_reads : Reads g Is A (with_levels A.levels B) → Closes A.levels B C → Reads g Is A C
  closed_reads x z =
      let P = Finds plain A.tokens.now g A.levels A.at (node x.shape) in
      let Q = Fails plain A.tokens.now g A.levels A.at in record {
        shape = x.shape;
        goes = record {
          moves = subst (λ o. Does P Q A.at A.outcome C.at o) (sym z.outcome)
              (subst (λ i. Does P Q A.at A.outcome i B.outcome) (sym z.place) x.goes.moves);
          same = record {
            tokens = z.tokens ∙ x.goes.same.tokens;
            levels = z.back;
            onward = subst (λ i. A.at ≤ i) (sym z.place) x.goes.same.onward;
            sticky = subst (λ o. bit o ≤ bit A.outcome) (sym z.outcome) x.goes.same.sticky;
          };
        };
        is = λ w. x.is (sym z.outcome ∙ w);
      }

pub levels_reads : {g : Rule} {Is : Shape → Type 0} {A B : Reader} → Reads g Is A B
    → Reads g Is A (with_levels A.levels B)
levels_reads x = record {
  shape = x.shape;
  goes = record {
    moves = x.goes.moves;
    same = record {
      tokens = x.goes.same.tokens;
      levels = refl;
      onward = x.goes.same.onward;
      sticky = x.goes.same.sticky;
    };
  };
  is = x.is;
}

-- where all is not well, nothing more is read
pub reads_if : {g h : Rule} {Is More : Shape → Type 0} {A B : Reader}
    → (A.outcome ≡ Well → Reads h More A B) → Reads g Is A B → Reads h More A B
reads_if {g} {h} {Is} {More} {A} {B} f x = by A.outcome refl
  where
    stopped : (o : Outcome) → A.outcome ≡ o
        → Does (FindsOne A.tokens.now h A.levels A.at More)
        (Fails plain A.tokens.now h A.levels A.at) A.at o B.at B.outcome → Reads h More A B
    stopped o e y = reads_of (subst (λ u. Does (FindsOne A.tokens.now h A.levels A.at More)
        (Fails plain A.tokens.now h A.levels A.at) A.at u B.at B.outcome) (sym e) y) x.goes.same

    moves : (o : Outcome) → A.outcome ≡ o
        → Does (FindsOne A.tokens.now g A.levels A.at Is)
        (Fails plain A.tokens.now g A.levels A.at) A.at o B.at B.outcome
    moves o e = subst (λ u. Does (FindsOne A.tokens.now g A.levels A.at Is)
        (Fails plain A.tokens.now g A.levels A.at) A.at u B.at B.outcome) e (moves_of x)

    by : (o : Outcome) → A.outcome ≡ o → Reads h More A B
    by Well e = f e
    by Wrong e = stopped Wrong e (moves Wrong e)
    by TooDeep e = stopped TooDeep e (moves TooDeep e)
    by NoMemory e = stopped NoMemory e (moves NoMemory e)

-- LEVELS

-- what is seen before a level is taken is seen after it
pub seen_within : {B C : Reader} {k : Test} → Sees B k true → Enters B C → C.outcome ≡ Well
    → Sees C k true
seen_within {B} {C} {k} s n w =
    let there : stands C.tokens.now C.at k ≡ true =
    subst (λ i. stands C.tokens.now i k ≡ true) (sym n.place)
    (subst (λ v. stands v B.at k ≡ true) (sym n.tokens) (sees_it s)) in
    record { seen = subst (λ o. Seen o (stands C.tokens.now C.at k) true) (sym w) there }

level_moves : (tk : Tokens) (g : Rule) (Is : Shape → Type 0) (d e b b' c : ℕ) (o o' : Outcome)
    → b < length (tokens_of tk) → Partial (traces (text_of tk)) (tokens_of tk) (suc b) g 0 b
    → EntersAt d e o → b' ≡ b
    → Does (FindsOne tk g e b' Is) (Fails plain tk g e b') b' o c o'
    → Does (FindsOne tk (deeper g) d b Is) (Fails plain tk (deeper g) d b) b Well c o'
level_moves tk g Is d e b b' c Well Well l p z q y =
    let s : e ≡ d - 1 = omega (arith, z) in
    let at : FindsOne tk g (d - 1) b Is c = subst (λ v. FindsOne tk g v b Is c) s
    (subst (λ v. FindsOne tk g e v Is c) q y) in
    (at.0, laws.deeper_found (known.fits (text_of tk)) (omega (arith, z)) at.1, at.2)
level_moves tk g Is d e b b' c Well Wrong l p z q y =
    let s : e ≡ d - 1 = omega (arith, z) in
    laws.deeper_refused (known.fits (text_of tk)) (omega (arith, z))
    (subst (λ v. Fails plain tk g v b c false) s (subst (λ v. Fails plain tk g e v c false) q y))
level_moves tk g Is d e b b' c Well TooDeep l p z q y =
    let s : e ≡ d - 1 = omega (arith, z) in
    laws.deeper_refused (known.fits (text_of tk)) (omega (arith, z))
    (subst (λ v. Fails plain tk g v b c true) s (subst (λ v. Fails plain tk g e v c true) q y))
level_moves tk g Is d e b b' c Well NoMemory l p z q y = tt
level_moves tk g Is d e b b' c TooDeep o' l p z q y =
    subst (λ v. Does (FindsOne tk (deeper g) d b Is) (Fails plain tk (deeper g) d b) b Well c v)
    (sym y.0) (subst (λ i. Fails plain tk (deeper g) d b i true) (sym (y.1 ∙ q))
    (subst (λ v. Fails plain tk (deeper g) v b b true) (sym z) (too_deep_any l p)))
level_moves tk g Is d e b b' c Wrong o' l p z q y = elim z [ ]
level_moves tk g Is d e b b' c NoMemory o' l p z q y = elim z [ ]

-- a part within a level, of which the token that is seen is a partial tree
pub level_reads : {g : Rule} {Is : Shape → Type 0} {B C D : Reader} (k : Test) → Sees B k true
    → Partial (traces (text_of B.tokens.now)) (tokens_of B.tokens.now) (suc B.at) g 0 B.at
    → Enters B C → Reads g Is C D → Reads (deeper g) Is B (with_levels B.levels D)
level_reads {g} {Is} {B} {C} {D} k s p n x =
    let tk = B.tokens.now in
    let P = FindsOne tk (deeper g) B.levels B.at Is in
    let Q = Fails plain tk (deeper g) B.levels B.at in
    let inside = laws.at_inside (traces (text_of tk)) (tokens_of tk) B.at k (sees_it s) in
    reads_of (subst (λ o. Does P Q B.at o D.at D.outcome) (sym (sees_well s))
    (level_moves tk g Is B.levels C.levels B.at C.at D.at C.outcome D.outcome inside p n.enters
    n.place (subst (λ v. Does (FindsOne v g C.levels C.at Is) (Fails plain v g C.levels C.at) C.at
    C.outcome D.at D.outcome) n.tokens (moves_of x))))
    record {
      tokens = x.goes.same.tokens ∙ n.tokens;
      levels = refl;
      onward = (let l = x.goes.same.onward in let q = n.place in omega (arith, l, q));
      sticky = subst (λ o. bit D.outcome ≤ bit o) (sym (sees_well s)) (bit_small D.outcome);
    }
