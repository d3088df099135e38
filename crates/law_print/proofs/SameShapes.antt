-- Shapes that are the same but for places, and what tokens they have.
use Rattle.std.proofs.Common.{◌≡◌, ℕ, suc, ◌+◌, ◌-◌, ◌<◌, ◌≤◌, Bool, true, false, ◌&&◌, inl, inr}
use Rattle.std.proofs.Common.{List, refl, subst, arith, Option, Some, None, slice_get}
use Rattle.std.proofs.lemmas.Bool.{and_parts, cases_lt}
use Rattle.est_lexer.specs.declared.kind.Token.{Token}
use Rattle.est_lexer.specs.Spans.{spelling}
use Rattle.text_reader.specs.Grammar.{Shape, nothing, leaf, placed, both, left, right, some, done}
use Rattle.text_reader.specs.Grammar.{none, word, token, here, skip, seq, alt, opt, rep, nearest}
use Rattle.text_reader.specs.Grammar.{ended, deeper, rule, meets, KeptOf, Tree, t_done, t_word}
use Rattle.text_reader.specs.Grammar.{t_token, t_here, t_skip, t_seq, t_left, t_right, t_opt_out}
use Rattle.text_reader.specs.Grammar.{t_opt_in, t_rep_out, t_rep_in, t_nearest_out, t_nearest_in}
use Rattle.text_reader.specs.Grammar.{t_ended_out, t_ended_last, t_ended_in, t_deeper, t_rule}
use Rattle.text_reader.specs.Shown.{View}
use Rattle.text_reader.specs.Tests.{Test, Kept, holds, language}
use Rattle.text_reader.specs.Going.{Rule}
use Rattle.text_printer.specs.Aside.{Tells, a_empty, a_kept, a_at, a_pair, a_first, a_second}
use Rattle.text_printer.specs.Aside.{a_given, a_node, a_none, a_more, Alike, b_empty, b_kept, b_at}
use Rattle.text_printer.specs.Aside.{b_pair, b_first, b_second, b_given, b_node, b_none, b_more}
use Rattle.text_printer.specs.PlainSpelling.{AreSpelledPlainly}
use Rattle.law_print.proofs.SameTokens.{is_word, is_kept, met_same, kept_same}

-- Two shapes are the same but for places.
pub data Same {V : Type 0} : Shape V → Shape V → Type 0 where
  m_nothing : Same nothing nothing
  m_leaf : (v : V) → Same (leaf v) (leaf v)
  m_placed : {t u : Shape V} (p q : ℕ) → Same t u → Same (placed p t) (placed q u)
  m_both : {t u t' u' : Shape V} → Same t u → Same t' u' → Same (both t t') (both u u')
  m_left : {t u : Shape V} → Same t u → Same (left t) (left u)
  m_right : {t u : Shape V} → Same t u → Same (right t) (right u)
  m_some : {t u : Shape V} → Same t u → Same (some t) (some u)

-- views that are the same but for places tell such shapes
pub told_same : {V N : Type 0} (layer : N → View V N) {v w : View V N} {t u : Shape V}
    → Alike layer v w → Tells layer v t → Tells layer w u → Same t u
told_same layer b_empty a_empty a_empty = m_nothing
told_same layer (b_kept v) (a_kept _) (a_kept _) = m_leaf v
told_same layer (b_at _ _ h) (a_at _ p d) (a_at _ q e) = m_placed p q (told_same layer h d e)
told_same layer (b_pair h k) (a_pair d d') (a_pair e e') =
    m_both (told_same layer h d e) (told_same layer k d' e')
told_same layer (b_first h) (a_first d) (a_first e) = m_left (told_same layer h d e)
told_same layer (b_second h) (a_second d) (a_second e) = m_right (told_same layer h d e)
told_same layer (b_given h) (a_given d) (a_given e) = m_some (told_same layer h d e)
told_same layer (b_node h) (a_node d) (a_node e) = told_same layer h d e
told_same layer b_none a_none a_none = m_nothing
told_same layer (b_more h k) (a_more d d') (a_more e e') =
    m_both (told_same layer h d e) (told_same layer k d' e')

-- whether the shape of a tree by a grammar tells all of its tokens
abbrev pub tells_all : {P : Type 0} → Rule P → Bool
tells_all done = true
tells_all none = true
tells_all (word k g) = is_word k && tells_all g
tells_all (token k) = is_kept k
tells_all (here g) = tells_all g
tells_all (skip done) = true
tells_all (skip _) = false
tells_all (seq g h) = tells_all g && tells_all h
tells_all (alt g h) = tells_all g && tells_all h
tells_all (opt g) = tells_all g
tells_all (rep g) = tells_all g
tells_all (nearest k g) = is_word k && tells_all g
tells_all (ended k g) = false
tells_all (deeper g) = tells_all g
tells_all (rule p) = true

-- Two tokens at places of two texts are spelled alike.
pub record Twin (text other : List ℕ) (s s' : List Token) (i j : ℕ) : Type 0 where
  pub one : Token
  pub two : Token
  pub there : slice_get s i ≡ Some one
  pub there_too : slice_get s' j ≡ Some two
  pub spelled : spelling text one ≡ spelling other two

-- As many tokens are spelled alike, from two places up to two others.
pub record Level (text other : List ℕ) (s s' : List Token) (a b a' b' : ℕ) : Type 0 where
  pub many : ℕ
  pub ends : b ≡ a + many
  pub ends_too : b' ≡ a' + many
  pub twins : (i : ℕ) → i < many → Twin text other s s' (a + i) (a' + i)

module _ (text other : List ℕ) (s s' : List Token) where
  level_none : (a a' : ℕ) → Level text other s s' a a a' a'
  level_none a a' = record {
    many = 0;
    ends = omega arith;
    ends_too = omega arith;
    twins = λ i h. absurd (omega arith);
  }

  level_one : {a a' : ℕ} → Twin text other s s' a a' → Level text other s s' a (suc a) a' (suc a')
  level_one {a} {a'} t = record {
    many = 1;
    ends = omega arith;
    ends_too = omega arith;
    twins = λ i h. subst (λ k. Twin text other s s' k (a' + i)) (omega arith)
        (subst (λ k. Twin text other s s' a k) (omega arith) t);
  }

  level_later : {a b c a' b' c' : ℕ} (x : Level text other s s' a b a' b')
      (y : Level text other s s' b c b' c') (i : ℕ) → i < x.many + y.many → x.many ≤ i
      → Twin text other s s' (a + i) (a' + i)
  level_later {a} {b} {c} {a'} {b'} {c'} x y i h k =
      let t = y.twins (i - x.many) (omega arith) in
      subst (λ n. Twin text other s s' n (a' + i)) (omega (arith, x.ends))
      (subst (λ n. Twin text other s s' (b + (i - x.many)) n) (omega (arith, x.ends_too)) t)

  level_both : {a b c a' b' c' : ℕ} → Level text other s s' a b a' b'
      → Level text other s s' b c b' c' → Level text other s s' a c a' c'
  level_both x y = record {
    many = x.many + y.many;
    ends = omega (arith, x.ends, y.ends);
    ends_too = omega (arith, x.ends_too, y.ends_too);
    twins = λ i h. elim (cases_lt i x.many) [
      | inl k ↦ x.twins i k
      | inr k ↦ level_later x y i h k
    ];
  }

  module _ {P : Type 0} (production : P → Rule P)
      (all : (p : P) → tells_all (production p) ≡ true) (plain : AreSpelledPlainly text s)
      (plain_too : AreSpelledPlainly other s') (n n' : ℕ) where
    abbrev pub By : Rule P → ℕ → ℕ → ℕ → Shape Kept → Type 0
    By g d a b t = Tree (language production text) s n g d a b t

    abbrev pub Too : Rule P → ℕ → ℕ → ℕ → Shape Kept → Type 0
    Too g d a b t = Tree (language production other) s' n' g d a b t

    -- tokens that meet the test of one word
    word_twin : (k : Test) (a a' : ℕ) → is_word k ≡ true
        → meets (holds text) k (slice_get s a) ≡ true
        → meets (holds other) k (slice_get s' a') ≡ true → Twin text other s s' a a'
    word_twin k a a' w e f = by (slice_get s a) (slice_get s' a') refl refl e f
      where
        by : (o p : Option Token) → slice_get s a ≡ o → slice_get s' a' ≡ p
            → meets (holds text) k o ≡ true → meets (holds other) k p ≡ true
            → Twin text other s s' a a'
        by None p i j e f = absurd cc
        by (Some x) None i j e f = absurd cc
        by (Some x) (Some y) i j e f = record {
          one = x;
          two = y;
          there = i;
          there_too = j;
          spelled = met_same k w text other x y e f (plain a x i) (plain_too a' y j);
        }

    -- tokens of which a tree keeps the same
    kept_twin : (k : Test) (v : Kept) (a a' : ℕ) → is_kept k ≡ true
        → meets (holds text) k (slice_get s a) ≡ true
        → meets (holds other) k (slice_get s' a') ≡ true
        → KeptOf (language production text) (slice_get s a) v
        → KeptOf (language production other) (slice_get s' a') v → Twin text other s s' a a'
    kept_twin k v a a' w e f g h = by (slice_get s a) (slice_get s' a') refl refl e f g h
      where
        by : (o p : Option Token) → slice_get s a ≡ o → slice_get s' a' ≡ p
            → meets (holds text) k o ≡ true → meets (holds other) k p ≡ true
            → KeptOf (language production text) o v → KeptOf (language production other) p v
            → Twin text other s s' a a'
        by None p i j e f g h = absurd g
        by (Some x) None i j e f g h = absurd h
        by (Some x) (Some y) i j e f g h = record {
          one = x;
          two = y;
          there = i;
          there_too = j;
          spelled = kept_same k w v text other x y e f g h (plain a x i) (plain_too a' y j);
        }

    -- Trees of shapes that are the same but for places have tokens that are spelled alike.
    pub same_level : {g : Rule P} {d a b d' a' b' : ℕ} {t u : Shape Kept} → tells_all g ≡ true
        → By g d a b t → Too g d' a' b' u → Same t u → Level text other s s' a b a' b'
    same_level {a = a} {a' = a'} w t_done t_done m = level_none a a'
    same_level {a = a} {a' = a'} w (t_word k i e x) (t_word _ j f y) m =
        let p = and_parts _ _ w in
        level_both (level_one (word_twin k a a' p.0 e f)) (same_level p.1 x y m)
    same_level {a = a} {a' = a'} w (t_token v k i e z) (t_token _ _ j f z') (m_leaf _) =
        level_one (kept_twin k v a a' w e f z z')
    same_level w (t_here x) (t_here y) (m_placed p q m) = same_level w x y m
    same_level {a = a} {a' = a'} w (t_skip t_done) (t_skip t_done) m = level_none a a'
    same_level w (t_skip x) (t_skip y) m = absurd cc
    same_level w (t_seq x x') (t_seq y y') (m_both m m') =
        let p = and_parts _ _ w in
        level_both (same_level p.0 x y m) (same_level p.1 x' y' m')
    same_level w (t_left x) (t_left y) (m_left m) = same_level (and_parts _ _ w).0 x y m
    same_level w (t_right x) (t_right y) (m_right m) = same_level (and_parts _ _ w).1 x y m
    same_level w (t_left x) (t_right y) m = elim m [ ]
    same_level w (t_right x) (t_left y) m = elim m [ ]
    same_level {a = a} {a' = a'} w t_opt_out t_opt_out m = level_none a a'
    same_level w (t_opt_in x) (t_opt_in y) (m_some m) = same_level w x y m
    same_level w t_opt_out (t_opt_in y) m = elim m [ ]
    same_level w (t_opt_in x) t_opt_out m = elim m [ ]
    same_level {a = a} {a' = a'} w t_rep_out t_rep_out m = level_none a a'
    same_level w (t_rep_in x x') (t_rep_in y y') (m_both m m') =
        level_both (same_level w x y m) (same_level w x' y' m')
    same_level w t_rep_out (t_rep_in y y') m = elim m [ ]
    same_level w (t_rep_in x x') t_rep_out m = elim m [ ]
    same_level {a = a} {a' = a'} w (t_nearest_out z) (t_nearest_out z') m = level_none a a'
    same_level {a = a} {a' = a'} w (t_nearest_in k i e x) (t_nearest_in _ j f y) (m_some m) =
        let p = and_parts _ _ w in
        level_both (level_one (word_twin k a a' p.0 e f)) (same_level p.1 x y m)
    same_level w (t_nearest_out z) (t_nearest_in k j f y) m = elim m [ ]
    same_level w (t_nearest_in k i e x) (t_nearest_out z) m = elim m [ ]
    same_level w t_ended_out y m = absurd cc
    same_level w (t_ended_last k i e) y m = absurd cc
    same_level w (t_ended_in k i e x x') y m = absurd cc
    same_level w (t_deeper x) (t_deeper y) m = same_level w x y m
    same_level w (t_rule {p = p} x) (t_rule y) m = same_level (all p) x y m
