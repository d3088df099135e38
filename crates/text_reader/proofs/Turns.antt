-- The turns of a loop of a reader.
use Rattle.std.proofs.Common.{◌≡◌, ℕ, ◌+◌, ◌*◌, ◌-◌, ◌<◌, ◌≤◌, true, false, List, []}
use Rattle.std.proofs.Common.{◌∷◌, ◌++◌, length, refl, sym, ◌∙◌, ap, subst, arith, map}
use Rattle.std.proofs.Common.{slice_get, Bool, not, ◌&&◌, append_assoc, append-nil}
use Rattle.std.proofs.lemmas.List.{map-append}
use Rattle.est_lexer.specs.declared.tokens.Tokens.{Tokens}
use Rattle.est_lexer.specs.Offsets.{text_of, tokens_of}
use Rattle.text_reader.specs.Grammar.{seq, alt, rep, ended, nothing, leaf}
use Rattle.text_reader.specs.Grammar.{placed, both, left, right, some, chain}
use Rattle.text_reader.specs.Marks.{MeetsOne, can_begin, can_go_on, can_be_empty}
use Rattle.text_reader.specs.Marks.{disjoint, covered, implies_one}
use Rattle.text_reader.specs.Findings.{Found}
use Rattle.text_reader.specs.Shown.{Shows, first, second, node, nodes, sections}
use Rattle.text_reader.specs.Shown.{s_first, s_second, s_no_section, s_first_section}
use Rattle.text_reader.specs.Shown.{s_second_section, s_none, s_more}
use Rattle.text_reader.proofs.GrammarLaws as laws
use Rattle.text_reader.proofs.Members.{and_left, and_right}
use Rattle.text_reader.specs.declared.reader.Reader.{Reader}
use Rattle.text_reader.specs.declared.outcome.Outcome.{Outcome}
use Rattle.text_reader.specs.declared.outcome.Outcome.TheVariants.{Well, Wrong, TooDeep, NoMemory}
use Rattle.text_reader.specs.Tests.{Test, holds, stands, apart, implies, language}
use Rattle.text_reader.specs.Moving.{bit, Does, Sees, NoneSeen, Same}
use Rattle.text_reader.specs.Moving.{Taken, NotThere, Takes, Still, Kept}
use Rattle.text_reader.specs.Going.{Rule, Shape, View, Finds, Fails, Goes, Adds}
use Rattle.text_reader.proofs.Apart.{far}
use Rattle.text_reader.proofs.Steps.{onto, after, stay, sees_well, sees_it, sees_not}
use Rattle.text_reader.proofs.Steps.{same_here, same_on, bit_small, left_of, taken, shift}
use Rattle.text_reader.proofs.Going.{Known, from, begins_it, begins_not}
use Rattle.text_reader.proofs.Going.{first_in, second_in, parted, not_true}

module _ {P N : Type 0} (K : Known P N) where
  -- The turns of a loop.
  -- each of the parts shows a shape
  abbrev pub Each : List N → List Shape → Type 0
  Each [] [] = Unit {0}
  Each (n ∷ ns) (t ∷ ts) = Shows K.syntax.layer (node n) t × Each ns ts
  Each ns ts = ⊥

  each_chain : (ns : List N) (ts : List Shape) → Each ns ts
      → Shows K.syntax.layer (nodes ns) (chain ts nothing)
  each_chain [] [] e = s_none
  each_chain (n ∷ ns) (t ∷ ts) e = s_more e.0 (each_chain ns ts e.1)
  each_chain [] (t ∷ ts) e = elim e [ ]
  each_chain (n ∷ ns) [] e = elim e [ ]

  each_more : (ns : List N) (ts : List Shape) (n : N) (t : Shape) → Each ns ts
      → Shows K.syntax.layer (node n) t → Each (ns ++ n ∷ []) (ts ++ t ∷ [])
  each_more [] [] n t e s = (s, tt)
  each_more (m ∷ ns) (u ∷ ts) n t e s = (e.0, each_more ns ts n t e.1 s)
  each_more [] (u ∷ ts) n t e s = elim e [ ]
  each_more (m ∷ ns) [] n t e s = elim e [ ]

  abbrev pub Turned : Tokens → Rule P → Rule P → ℕ → ℕ → (List Shape → Type 0) → ℕ → Type 0
  Turned tokens whole rest d a S b = (ts : List Shape)
      × laws.Turns (language K.syntax.production (text_of tokens)) K.syntax.marks
      (K.fits (text_of tokens)) (tokens_of tokens) whole rest d a b ts × S ts

  pub record Turning (whole rest : Rule P) (old : Reader) (S : List Shape
      → Type 0) (new : Reader) : Type 0 where
    pub turns : Does (Turned old.tokens.now whole rest old.levels old.at S)
        (Fails K.syntax old.tokens.now whole old.levels old.at) old.at old.outcome new.at
        new.outcome
    pub same : Same old new

  pub turning_on : {whole rest : Rule P} {A B : Reader} {S S' : List Shape → Type 0}
      → (B.outcome ≡ Well → (ts : List Shape) → S ts → S' ts) → Turning whole rest A S B
      → Turning whole rest A S' B
  turning_on {whole} {rest} {A} {B} {S} {S'} f x = record {
    turns = on A.outcome B.outcome f x.turns;
    same = x.same;
  }
    where
      on : (o o' : Outcome) → (o' ≡ Well → (ts : List Shape) → S ts → S' ts)
          → Does (Turned A.tokens.now whole rest A.levels A.at S) (Fails K.syntax A.tokens.now whole
          A.levels A.at) A.at o B.at o'
          → Does (Turned A.tokens.now whole rest A.levels A.at S') (Fails K.syntax A.tokens.now
          whole A.levels A.at) A.at o B.at o'
      on Well Well f x = (x.0, x.1, f refl x.0 x.2)
      on Well Wrong f x = x
      on Well TooDeep f x = x
      on Well NoMemory f x = tt
      on Wrong o' f x = x
      on TooDeep o' f x = x
      on NoMemory o' f x = x

  pub no_turn : {g : Rule P} {A : Reader} (S : List Shape → Type 0) → S [] → Turning g g A S A
  no_turn {g} {A} S e = record {
    turns = stay (Turned A.tokens.now g g A.levels A.at S) (Fails K.syntax A.tokens.now g A.levels
        A.at) A.at A.outcome (λ w.
        ([], laws.turns_none (K.fits (text_of A.tokens.now)) A.inside, e));
    same = same_here;
  }

  pub one_turn : {g rest : Rule P} {A B : Reader} {v : View N} (S : List Shape → Type 0)
      → disjoint apart (can_go_on K.syntax.marks g) (can_begin K.syntax.marks rest) ≡ true
      → ((t : Shape) → Shows K.syntax.layer v t → S (t ∷ [])) → Goes K.syntax g A v B
      → Turning (seq g rest) rest A S B
  one_turn {g} {rest} {A} {B} {v} S j f x =
      let tk = A.tokens.now in let F = K.fits (text_of tk) in let D = far K.syntax.production
      (text_of tk) (can_go_on K.syntax.marks g) (can_begin K.syntax.marks rest) j in
      record {
        turns = onto (Finds K.syntax tk g A.levels A.at v) (Turned tk (seq g rest) rest A.levels
            A.at S) (Fails K.syntax tk g A.levels A.at) (Fails K.syntax tk (seq g rest) A.levels
            A.at) A.at B.at A.outcome B.outcome
            (λ e q. (q.0 ∷ [], laws.turns_first F D q.1, f q.0 q.2))
            (λ e z q. laws.seq_refused_first F D q) x.moves;
        same = x.same;
      }

  pub one_more : {whole h : Rule P} {A B C : Reader} {v : View N} (S S' : List Shape
      → Type 0) (k : Test) → implies_one implies k (can_begin K.syntax.marks h) ≡ true
      → disjoint apart (can_go_on K.syntax.marks h) (can_begin K.syntax.marks h) ≡ true
      → can_be_empty K.syntax.marks h ≡ false
      → Sees B k true → ((ts : List Shape) (t : Shape) → S ts → Shows K.syntax.layer v t
      → S' (ts ++ t ∷ [])) → Turning whole (rep h) A S B → Goes K.syntax h B v C
      → Turning whole (rep h) A S' C
  one_more {whole} {h} {A} {B} {C} {v} S S' k i j f s m x y =
      let tk = A.tokens.now in let F = K.fits (text_of tk) in let D = far K.syntax.production
      (text_of tk) (can_go_on K.syntax.marks h) (can_begin K.syntax.marks h) j in
      record {
        turns = after (Turned tk whole (rep h) A.levels A.at S) (Finds K.syntax tk h A.levels B.at
            v) (Turned tk whole (rep h) A.levels A.at S')
            (Fails K.syntax tk whole A.levels A.at) (Fails K.syntax tk h A.levels B.at)
            (Fails K.syntax tk whole A.levels A.at) A.at B.at C.at A.outcome B.outcome C.outcome
            (λ e p q. (p.0 ++ q.0 ∷ [], laws.turns_more F D f p.1 q.1, m p.0 q.0 p.2 q.2))
            (λ e z p q. p.1.off C.at z
            (laws.rep_refused F D (subst (λ ts. MeetsOne (holds (text_of ts))
            (slice_get (tokens_of ts) B.at) (can_begin K.syntax.marks h)) x.same.tokens
            (begins_it K (can_begin K.syntax.marks h) i s)) q))
            (λ e z q. q)
            x.turns (from x.same y);
        same = same_on x.same y.same;
      }

  pub no_more : {whole h : Rule P} {A B : Reader} {v : View N} (S : List Shape
      → Type 0) (ks : List Test) → covered implies (can_begin K.syntax.marks h) ks ≡ true
      → can_be_empty K.syntax.marks h ≡ false → NoneSeen B ks
      → ((ts : List Shape) → S ts → Shows K.syntax.layer v (chain ts nothing))
      → Turning whole (rep h) A S B → Goes K.syntax whole A v B
  no_more {whole} {h} {A} {B} {v} S ks i f n m x =
      let tk = A.tokens.now in let F = K.fits (text_of tk) in
      record {
        moves = after (Turned tk whole (rep h) A.levels A.at S) (λ b. (b ≡ B.at)
            × (B.outcome ≡ Well)) (Finds K.syntax tk whole A.levels A.at v)
            (Fails K.syntax tk whole A.levels A.at) (λ b z. ⊥) (Fails K.syntax tk whole A.levels
            A.at) A.at B.at B.at A.outcome B.outcome B.outcome
            (λ e p q. (
              chain p.0 nothing,
              p.1.on B.at nothing (laws.rep_out F f (subst (λ ts. B.at ≤ length (tokens_of ts))
                  x.same.tokens B.inside)
                  (λ o. begins_not K B (can_begin K.syntax.marks h) ks i n e
                  (subst (λ ts. MeetsOne (holds (text_of ts)) (slice_get (tokens_of ts) B.at)
                  (can_begin K.syntax.marks h)) (sym x.same.tokens) o))),
              m p.0 p.2,
            ))
            (λ e z p q. absurd q) (λ e z q. q) x.turns (stay (λ b. (b ≡ B.at) × (B.outcome ≡ Well))
            (λ b z. ⊥) B.at B.outcome (λ w. (refl, w)));
        same = x.same;
      }

  -- the same, for a list of parts
  pub no_part : {g : Rule P} {A : Reader} → Turning g g A (Each []) A
  no_part = no_turn (Each []) tt

  pub turning_still : {whole rest : Rule P} {A B C : Reader} {S S' : List Shape → Type 0}
      → Turning whole rest A S B → Still B C → (C.outcome ≡ Well → S ≡ S')
      → Turning whole rest A S' C
  turning_still {whole} {rest} {A} {B} {C} {S} {S'} x s q =
      let tk = A.tokens.now in
      record {
        turns = after (Turned tk whole rest A.levels A.at S) (λ i. i ≡ B.at)
            (Turned tk whole rest A.levels A.at S') (Fails K.syntax tk whole A.levels A.at)
            (λ i z. ⊥) (Fails K.syntax tk whole A.levels A.at) A.at B.at C.at A.outcome B.outcome
            C.outcome
            (λ e p r. subst (λ u. Turned tk whole rest A.levels A.at u C.at) (q e)
            (subst (λ i. Turned tk whole rest A.levels A.at S i) (sym r) p))
            (λ e z p r. absurd r)
            (λ e z p. p)
            x.turns s.stays;
        same = same_on x.same s.same;
      }

  pub one_part : {g rest : Rule P} {A B C : Reader} {n : N} {ns : List N}
      → disjoint apart (can_go_on K.syntax.marks g) (can_begin K.syntax.marks rest) ≡ true
      → Goes K.syntax g A (node n) B → Still B C → (C.outcome ≡ Well → n ∷ [] ≡ ns)
      → Turning (seq g rest) rest A (Each ns) C
  one_part {n = n} {ns} j x s q = turning_still (one_turn (Each (n ∷ [])) j (λ t m. (m, tt)) x) s
      (λ w. ap Each (q w))

  pub more_parts : {whole h : Rule P} {A B C D : Reader} {n : N} (ns : List N) {ms : List N}
      (k : Test) → implies_one implies k (can_begin K.syntax.marks h) ≡ true
      → disjoint apart (can_go_on K.syntax.marks h) (can_begin K.syntax.marks h) ≡ true
      → can_be_empty K.syntax.marks h ≡ false
      → Sees B k true → Turning whole (rep h) A (Each ns) B → Goes K.syntax h B (node n) C
      → Still C D → (D.outcome ≡ Well → ns ++ n ∷ [] ≡ ms) → Turning whole (rep h) A (Each ms) D
  more_parts {n = n} ns k i j f s x y z q = turning_still (one_more (Each ns) (Each (ns ++ n ∷ []))
      k i j f s (λ ts t e m. each_more ns ts n t e m) x y) z (λ w. ap Each (q w))

  pub all_parts : {whole h : Rule P} {A B : Reader} {ns : List N} (ks : List Test)
      → covered implies (can_begin K.syntax.marks h) ks ≡ true
      → can_be_empty K.syntax.marks h ≡ false → NoneSeen B ks → Turning whole (rep h) A (Each ns) B
      → Goes K.syntax whole A (nodes ns) B
  all_parts {ns = ns} ks i f n x = no_more (Each ns) ks i f n (λ ts e. each_chain ns ts e) x

  less : (tk : Tokens) (h : Rule P) (v : View N) (n d b c e : ℕ) (o o' o'' : Outcome)
      → can_be_empty K.syntax.marks h ≡ false → o ≡ Well
      → Does (Finds K.syntax tk h d b v) (Fails K.syntax tk h d b) b o c o' → bit o'' ≤ bit o'
      → e ≡ c → b ≤ c → c ≤ n → (n - e) * 2 + bit o'' < (n - b) * 2 + bit o
  less tk h v n d b c e Well Well o'' f w x s q l m = let p : b < c =
      laws.moves (K.fits (text_of tk)) f x.1 in let r : bit o'' ≤ 1 = bit_small o'' in omega
      (arith, p, r, q, m)
  less tk h v n d b c e Well Wrong o'' f w x s q l m = omega (arith, s, q, l, m)
  less tk h v n d b c e Well TooDeep o'' f w x s q l m = omega (arith, s, q, l, m)
  less tk h v n d b c e Well NoMemory o'' f w x s q l m = omega (arith, s, q, l, m)
  less tk h v n d b c e Wrong o' o'' f w x s q l m = absurd cc
  less tk h v n d b c e TooDeep o' o'' f w x s q l m = absurd cc
  less tk h v n d b c e NoMemory o' o'' f w x s q l m = absurd cc

  pub lessens : {h : Rule P} {B C D : Reader} {v : View N} {k : Test}
      → can_be_empty K.syntax.marks h ≡ false → Sees B k true → Goes K.syntax h B v C → Still C D
      → left_of D < left_of B
  lessens {h} {B} {C} {D} {v} f z x s =
      subst (λ ts. (length (tokens_of ts) - D.at) * 2 + bit D.outcome < left_of B)
      (sym (s.same.tokens ∙ x.same.tokens))
      (less B.tokens.now h v (length (tokens_of B.tokens.now)) B.levels B.at C.at D.at B.outcome
      C.outcome D.outcome f (sees_well z) x.moves s.same.sticky s.place x.same.onward
      (subst (λ ts. C.at ≤ length (tokens_of ts)) x.same.tokens C.inside))

  -- Sections of two sorts, in any order: `while .. { if .. { reads g } else { reads h } }`. The
  -- loop's invariant is `Turning K (rep (alt g h)) (rep (alt g h)) start (Sections K e f
  -- (map p points) (map q exports)) reader`, and `no_section` holds where it begins. A turn that
  -- reads g, told by the token k that is seen, is `more_first points k refl`, and one that reads h
  -- is `more_second exports k refl`, each before what was seen, the invariant and the `Adds` of
  -- the inner reader. After the last turn `all_sections` with the tests that are not seen gives
  -- the view `sections e f (map p points) (map q exports)`.
  abbrev pub Sections : (List N → View N) → (List N → View N) → List N → List N → List Shape
      → Type 0
  Sections f g ns ms [] = (ns ≡ []) × (ms ≡ [])
  Sections f g ns ms (left t ∷ ts) = (ks : List N) × (ls : List N) × (ns ≡ ks ++ ls)
      × Shows K.syntax.layer (f ks) t × Sections f g ls ms ts
  Sections f g ns ms (right t ∷ ts) = (ks : List N) × (ls : List N) × (ms ≡ ks ++ ls)
      × Shows K.syntax.layer (g ks) t × Sections f g ns ls ts
  Sections f g ns ms (t ∷ ts) = ⊥

  sections_first : (f g : List N → View N) (ns ms ks : List N) (ts : List Shape) (t : Shape)
      → Sections f g ns ms ts → Shows K.syntax.layer (f ks) t
      → Sections f g (ns ++ ks) ms (ts ++ left t ∷ [])
  sections_first f g ns ms ks [] t e s =
      (ks, [], subst (λ l. l ++ ks ≡ ks ++ []) (sym e.0) (sym (append-nil ks)), s, (refl, e.1))
  sections_first f g ns ms ks (left u ∷ ts) t e s = (
    e.0,
    e.1 ++ ks,
    ap (λ l. l ++ ks) e.2 ∙ append_assoc e.0 e.1 ks,
    e.3,
    sections_first f g e.1
        ms ks ts t e.4 s,
  )
  sections_first f g ns ms ks (right u ∷ ts) t e s =
      (e.0, e.1, e.2, e.3, sections_first f g ns e.1 ks ts t e.4 s)
  sections_first f g ns ms ks (nothing ∷ ts) t e s = absurd e
  sections_first f g ns ms ks (leaf v ∷ ts) t e s = absurd e
  sections_first f g ns ms ks (placed p u ∷ ts) t e s = absurd e
  sections_first f g ns ms ks (both u v ∷ ts) t e s = absurd e
  sections_first f g ns ms ks (some u ∷ ts) t e s = absurd e

  sections_second : (f g : List N → View N) (ns ms ks : List N) (ts : List Shape) (t : Shape)
      → Sections f g ns ms ts → Shows K.syntax.layer (g ks) t
      → Sections f g ns (ms ++ ks) (ts ++ right t ∷ [])
  sections_second f g ns ms ks [] t e s =
      (ks, [], subst (λ l. l ++ ks ≡ ks ++ []) (sym e.1) (sym (append-nil ks)), s, (e.0, refl))
  sections_second f g ns ms ks (left u ∷ ts) t e s =
      (e.0, e.1, e.2, e.3, sections_second f g e.1 ms ks ts t e.4 s)
  sections_second f g ns ms ks (right u ∷ ts) t e s = (
    e.0,
    e.1 ++ ks,
    ap (λ l. l ++ ks) e.2 ∙ append_assoc e.0 e.1 ks,
    e.3,
    sections_second f g ns
        e.1 ks ts t e.4 s,
  )
  sections_second f g ns ms ks (nothing ∷ ts) t e s = absurd e
  sections_second f g ns ms ks (leaf v ∷ ts) t e s = absurd e
  sections_second f g ns ms ks (placed p u ∷ ts) t e s = absurd e
  sections_second f g ns ms ks (both u v ∷ ts) t e s = absurd e
  sections_second f g ns ms ks (some u ∷ ts) t e s = absurd e

  sections_chain : (f g : List N → View N) (ns ms : List N) (ts : List Shape)
      → Sections f g ns ms ts → Shows K.syntax.layer (sections f g ns ms) (chain ts nothing)
  sections_chain f g ns ms [] e = subst (λ l. Shows K.syntax.layer (sections f g l ms) nothing)
      (sym e.0) (subst (λ l. Shows K.syntax.layer (sections f g [] l) nothing) (sym e.1)
      s_no_section)
  sections_chain f g ns ms (left t ∷ ts) e = subst (λ l. Shows K.syntax.layer (sections f g l ms)
      (both (left t) (chain ts nothing))) (sym e.2)
      (s_first_section e.0 e.3 (sections_chain f g e.1 ms ts e.4))
  sections_chain f g ns ms (right t ∷ ts) e = subst (λ l. Shows K.syntax.layer (sections f g ns l)
      (both (right t) (chain ts nothing))) (sym e.2)
      (s_second_section e.0 e.3 (sections_chain f g ns e.1 ts e.4))
  sections_chain f g ns ms (nothing ∷ ts) e = absurd e
  sections_chain f g ns ms (leaf v ∷ ts) e = absurd e
  sections_chain f g ns ms (placed p u ∷ ts) e = absurd e
  sections_chain f g ns ms (both u v ∷ ts) e = absurd e
  sections_chain f g ns ms (some u ∷ ts) e = absurd e

  pub no_section : {g : Rule P} {A : Reader} {e f : List N → View N}
      → Turning g g A (Sections e f [] []) A
  no_section {e = e} {f} = no_turn (Sections e f [] []) (refl, refl)

  -- the token k tells that r comes next, of g and h, and one token tells where the turns end
  abbrev pub turns_to : Test → (g h r : Rule P) → Bool
  turns_to k g h r = implies_one implies k (can_begin K.syntax.marks r) &&
      (parted K g h && (implies_one implies k (can_begin K.syntax.marks (alt g h)) && disjoint apart
      (can_go_on K.syntax.marks (alt g h)) (can_begin K.syntax.marks (alt g h))))

  -- what it says
  record TurnsTo (k : Test) (g h r : Rule P) : Type 0 where
    begins : implies_one implies k (can_begin K.syntax.marks r) ≡ true
    two : disjoint apart (can_begin K.syntax.marks g) (can_begin K.syntax.marks h) ≡ true
    some_first : can_be_empty K.syntax.marks g ≡ false
    some_second : can_be_empty K.syntax.marks h ≡ false
    whole : implies_one implies k (can_begin K.syntax.marks (alt g h)) ≡ true
    ends : disjoint apart (can_go_on K.syntax.marks (alt g h)) (can_begin K.syntax.marks (alt g h))
        ≡ true
    some_whole : can_be_empty K.syntax.marks (alt g h) ≡ false

  turning_to : (k : Test) (g h r : Rule P) → turns_to k g h r ≡ true → TurnsTo k g h r
  turning_to k g h r e =
      let p = and_right (implies_one implies k (can_begin K.syntax.marks r)) _ e in
      let q = and_right (parted K g h) _ p in
      let d = and_left (parted K g h) _ p in
      let n = and_right (disjoint apart (can_begin K.syntax.marks g) (can_begin K.syntax.marks h)) _
      d in
      let a = not_true K _ (and_left (not (can_be_empty K.syntax.marks g)) _ n) in
      let b = not_true K _ (and_right (not (can_be_empty K.syntax.marks g)) _ n) in
      record {
        begins = and_left (implies_one implies k (can_begin K.syntax.marks r)) _ e;
        two = and_left (disjoint apart (can_begin K.syntax.marks g) (can_begin K.syntax.marks h)) _
            d;
        some_first = a;
        some_second = b;
        whole = and_left (implies_one implies k (can_begin K.syntax.marks (alt g h))) _ q;
        ends = and_right (implies_one implies k (can_begin K.syntax.marks (alt g h))) _ q;
        some_whole = rw (a, b) refl;
      }

  pub more_first : {I : Type 0} {part : I → N} {whole g h : Rule P} {A B C : Reader}
      {e f : List N → View N} {ms : List N} (items : List I) {items' : List I} (k : Test)
      → turns_to k g h g ≡ true
      → Sees B k true → Turning whole (rep (alt g h)) A (Sections e f (map part items) ms) B
      → Adds K.syntax g e part B items items' C
      → Turning whole (rep (alt g h)) A (Sections e f (map part items') ms) C
  more_first {part = part} {g = g} {h} {e = e} {f} {ms} items k d s x y =
      let o = turning_to k g h g d in
      turning_on (λ w ts r. subst (λ l. Sections e f l ms ts) (sym (ap (map part) (y.added w)
      ∙ map-append part items y.run)) r)
      (one_more (Sections e f (map part items) ms) (Sections e f (map part items ++ map part y.run)
      ms) k o.whole o.ends o.some_whole s (λ ts t q m. first_of ts t q m) x
      (first_in K k o.begins o.two o.some_first o.some_second s y.goes))
    where
      first_of : (ts : List Shape) (t : Shape) → Sections e f (map part items) ms ts
          → Shows K.syntax.layer (first (e (map part y.run))) t
          → Sections e f (map part items ++ map part y.run) ms (ts ++ t ∷ [])
      first_of ts t q (s_first {t = u} m) = sections_first e f (map part items) ms (map part y.run)
          ts u q m

  pub more_second : {I : Type 0} {part : I → N} {whole g h : Rule P} {A B C : Reader}
      {e f : List N → View N} {ns : List N} (items : List I) {items' : List I} (k : Test)
      → turns_to k g h h ≡ true
      → Sees B k true → Turning whole (rep (alt g h)) A (Sections e f ns (map part items)) B
      → Adds K.syntax h f part B items items' C
      → Turning whole (rep (alt g h)) A (Sections e f ns (map part items')) C
  more_second {part = part} {g = g} {h} {e = e} {f} {ns} items k d s x y =
      let o = turning_to k g h h d in
      turning_on (λ w ts r. subst (λ l. Sections e f ns l ts) (sym (ap (map part) (y.added w)
      ∙ map-append part items y.run)) r)
      (one_more (Sections e f ns (map part items))
      (Sections e f ns (map part items ++ map part y.run)) k o.whole o.ends o.some_whole s
      (λ ts t q m. second_of ts t q m) x
      (second_in K k o.begins o.two o.some_first o.some_second s y.goes))
    where
      second_of : (ts : List Shape) (t : Shape) → Sections e f ns (map part items) ts
          → Shows K.syntax.layer (second (f (map part y.run))) t
          → Sections e f ns (map part items ++ map part y.run) (ts ++ t ∷ [])
      second_of ts t q (s_second {t = u} m) = sections_second e f ns (map part items)
          (map part y.run) ts u q m

  pub all_sections : {whole h : Rule P} {A B : Reader} {e f : List N → View N} {ns ms : List N}
      (ks : List Test) → covered implies (can_begin K.syntax.marks h) ks ≡ true
      → can_be_empty K.syntax.marks h ≡ false → NoneSeen B ks
      → Turning whole (rep h) A (Sections e f ns ms) B
      → Goes K.syntax whole A (sections e f ns ms) B
  all_sections {e = e} {f} {ns} {ms} ks i d n x = no_more (Sections e f ns ms) ks i d n
      (λ ts r. sections_chain e f ns ms ts r) x

  -- items that are put last in a list
  pub record Adding {I : Type 0} (part : I → N) (whole rest : Rule P) (old : Reader)
      (items items' : List I) (new : Reader) : Type 0 where
    pub run : List I
    pub turning : Turning whole rest old (Each (map part run)) new
    pub added : new.outcome ≡ Well → items' ≡ items ++ run

  pub first_added : {I : Type 0} {part : I → N} {g rest : Rule P} {A B C : Reader} {s : I}
      {items items' : List I} → disjoint apart (can_go_on K.syntax.marks g)
      (can_begin K.syntax.marks rest) ≡ true → Goes K.syntax g A (node (part s)) B
      → Kept B C items s items' → Adding part (seq g rest) rest A items items' C
  first_added {s = s} j x k = record {
    run = s ∷ [];
    turning = one_part j x k.still (λ w. refl);
    added = k.added;
  }

  pub next_added : {I : Type 0} {part : I → N} {whole h : Rule P} {A B C D : Reader} {s : I}
      {items items' items'' : List I} (k : Test)
      → implies_one implies k (can_begin K.syntax.marks h) ≡ true
      → disjoint apart (can_go_on K.syntax.marks h) (can_begin K.syntax.marks h) ≡ true
      → can_be_empty K.syntax.marks h ≡ false
      → Sees B k true → Adding part whole (rep h) A items items' B
      → Goes K.syntax h B (node (part s)) C → Kept C D items' s items''
      → Adding part whole (rep h) A items items'' D
  next_added {part = part} {s = s} {items} k i j e z x y q = record {
    run = x.run ++ s ∷ [];
    turning = more_parts (map part x.run) k i j e z x.turning y q.still
        (λ w. sym (map-append part x.run (s ∷ [])));
    added = λ w. q.added w ∙ ap (λ l. l ++ s ∷ []) (x.added (sees_well z))
        ∙ append_assoc items x.run (s ∷ []);
  }

  pub all_added : {I : Type 0} {part : I → N} {whole h : Rule P} {A B : Reader}
      {items items' : List I} (ks : List Test) → covered implies (can_begin K.syntax.marks h) ks
      ≡ true → can_be_empty K.syntax.marks h ≡ false → NoneSeen B ks
      → Adding part whole (rep h) A items items' B → Adds K.syntax whole nodes part A items items' B
  all_added ks i e n x = record {
    run = x.run;
    goes = all_parts ks i e n x.turning;
    added = x.added;
  }

  -- what a production does with them
  pub adds_within : {I : Type 0} {part : I → N} {g h : Rule P} {e f : List N → View N}
      {A B C D : Reader} {items items' : List I} → Adds K.syntax g e part B items items' C
      → (D.outcome ≡ Well → C.outcome ≡ Well) → ((ns : List N) → Goes K.syntax g B (e ns) C
      → Goes K.syntax h A (f ns) D) → Adds K.syntax h f part A items items' D
  adds_within {part = part} {f = f} x w m = record {
    run = x.run;
    goes = m (map part x.run) x.goes;
    added = λ e. x.added (w e);
  }

  pub more_ended : {whole h : Rule P} {A B C D E : Reader} {n : N} (ns : List N) {ms : List N}
      (k l : Test) → implies_one implies l (can_begin K.syntax.marks h) ≡ true
      → disjoint apart (k ∷ []) (can_go_on K.syntax.marks h) ≡ true
      → can_be_empty K.syntax.marks h ≡ false
      → Sees B k true → Turning whole (ended k h) A (Each ns) B → Takes k B C → Sees C l true
      → Goes K.syntax h C (node n) D → Still D E → (E.outcome ≡ Well → ns ++ n ∷ [] ≡ ms)
      → Turning whole (ended k h) A (Each ms) E
  more_ended {whole} {h} {A} {B} {C} {D} {E} {n} ns k l i j f s x t m y z q =
      let tk = A.tokens.now in let F = K.fits (text_of tk) in let O = far K.syntax.production
      (text_of tk) (k ∷ []) (can_go_on K.syntax.marks h) j in
      let there : stands tk B.at k ≡ true = subst (λ ts. stands ts B.at k ≡ true) x.same.tokens
      (sees_it s) in
      let next : C.at ≡ B.at + 1 = taken s t (sees_well m) in
      let begun : MeetsOne (holds (text_of tk)) (slice_get (tokens_of tk) (B.at + 1))
      (can_begin K.syntax.marks h) =
      subst (λ c. MeetsOne (holds (text_of tk)) (slice_get (tokens_of tk) c)
      (can_begin K.syntax.marks h)) next
      (subst (λ ts. MeetsOne (holds (text_of ts)) (slice_get (tokens_of ts) C.at)
      (can_begin K.syntax.marks h)) (t.same.tokens ∙ x.same.tokens)
      (begins_it K (can_begin K.syntax.marks h) i m)) in
      turning_still {S = Each (ns ++ n ∷ [])} (record {
        turns = after (Turned tk whole (ended k h) A.levels A.at (Each ns))
            (Finds K.syntax tk h A.levels C.at (node n)) (Turned tk whole (ended k h) A.levels A.at
            (Each (ns ++ n ∷ [])))
            (Fails K.syntax tk whole A.levels A.at) (Fails K.syntax tk h A.levels C.at)
            (Fails K.syntax tk whole A.levels A.at) A.at B.at D.at A.outcome B.outcome D.outcome
            (λ e p r. (
              p.0 ++ r.0 ∷ [],
              laws.turns_ended F O f there p.1
                  (subst (λ c. Found (language K.syntax.production (text_of tk)) K.syntax.marks
                  (tokens_of tk) h A.levels c D.at r.0) next r.1),
              each_more ns p.0 n r.0 p.2 r.2,
            ))
            (λ e v p r. p.1.off D.at v (laws.ended_refused F O there begun
            (subst (λ c. Fails K.syntax tk h A.levels c D.at v) next r)))
            (λ e v r. r)
            x.turns (shift (Finds K.syntax tk h A.levels C.at (node n))
            (Fails K.syntax tk h A.levels C.at) B.at C.at D.at B.outcome C.outcome D.outcome
            (sees_well s) (sees_well m) (from (same_on x.same t.same) y));
        same = same_on (same_on x.same t.same) y.same;
      }) z (λ w. ap Each (q w))

  pub last_ended : {whole h : Rule P} {k : Test} {A B C : Reader} {ns : List N} (ks : List Test)
      → covered implies (can_begin K.syntax.marks h) ks ≡ true
      → can_be_empty K.syntax.marks h ≡ false
      → Sees B k true → Takes k B C → NoneSeen C ks → Turning whole (ended k h) A (Each ns) B
      → Goes K.syntax whole A (nodes ns) C
  last_ended {whole} {h} {k} {A} {B} {C} {ns} ks i f s t n x =
      let tk = A.tokens.now in let F = K.fits (text_of tk) in
      record {
        moves = after (Turned tk whole (ended k h) A.levels A.at (Each ns)) (Taken tk k B.at)
            (Finds K.syntax tk whole A.levels A.at (nodes ns))
            (Fails K.syntax tk whole A.levels A.at) (NotThere tk k B.at)
            (Fails K.syntax tk whole A.levels A.at) A.at B.at C.at A.outcome B.outcome C.outcome
            (λ e p r. (
              chain p.0 nothing,
              p.1.on C.at nothing (subst (λ c. Found (language K.syntax.production (text_of tk))
                  K.syntax.marks (tokens_of tk) (ended k h) A.levels B.at c nothing) (sym r.1)
                  (laws.ended_last F f r.0
                  (λ m. begins_not K C (can_begin K.syntax.marks h) ks i n e
                  (subst (λ ts. MeetsOne (holds (text_of ts)) (slice_get (tokens_of ts) C.at)
                  (can_begin K.syntax.marks h)) (sym (t.same.tokens ∙ x.same.tokens))
                  (subst (λ c. MeetsOne (holds (text_of tk)) (slice_get (tokens_of tk) c)
                  (can_begin K.syntax.marks h)) (sym r.1) m))))),
              each_chain ns p.0 p.2,
            ))
            (λ e v p r. absurd (let a : stands tk B.at k ≡ true = subst (λ ts. stands ts B.at k
            ≡ true) x.same.tokens (sees_it s) in let b : stands tk B.at k ≡ false = r.0 in cc))
            (λ e v r. r)
            x.turns (subst (λ ts. Does (Taken ts k B.at) (NotThere ts k B.at) B.at B.outcome C.at
            C.outcome) x.same.tokens t.takes);
        same = same_on x.same t.same;
      }

  pub all_ended : {whole h : Rule P} {k : Test} {A B : Reader} {ns : List N} → Sees B k false
      → Turning whole (ended k h) A (Each ns) B → Goes K.syntax whole A (nodes ns) B
  all_ended {whole} {h} {k} {A} {B} {ns} s x =
      let tk = A.tokens.now in let F = K.fits (text_of tk) in
      record {
        moves = after (Turned tk whole (ended k h) A.levels A.at (Each ns)) (λ b. (b ≡ B.at)
            × (B.outcome ≡ Well)) (Finds K.syntax tk whole A.levels A.at (nodes ns))
            (Fails K.syntax tk whole A.levels A.at) (λ b z. ⊥) (Fails K.syntax tk whole A.levels
            A.at) A.at B.at B.at A.outcome B.outcome B.outcome
            (λ e p q. (
              chain p.0 nothing,
              p.1.on B.at nothing (laws.ended_out F (subst (λ ts. B.at ≤ length (tokens_of ts))
                  x.same.tokens B.inside)
                  (λ o. let a : stands tk B.at k ≡ true = o in let b : stands tk B.at k ≡ false =
                  subst (λ ts. stands ts B.at k ≡ false) x.same.tokens (sees_not e s) in cc)),
              each_chain ns p.0 p.2,
            ))
            (λ e z p q. absurd q) (λ e z q. q) x.turns (stay (λ b. (b ≡ B.at) × (B.outcome ≡ Well))
            (λ b z. ⊥) B.at B.outcome (λ w. (refl, w)));
        same = x.same;
      }
