-- Texts that are written, put together from their parts: their words, and what is read of the
-- tokens of these words.
use Rattle.std.proofs.Common.{◌≡◌, ℕ, zero, suc, ◌<◌, ◌≤◌, true, false, List, [], ◌∷◌, ◌++◌, length}
use Rattle.std.proofs.Common.{drop, get_or, refl, sym, ap, subst, ◌∙◌, append_assoc, arith, eqb}
use Rattle.std.proofs.Common.{Some, slice_get}
use Rattle.est_lexer.specs.declared.kind.Token.{Token}
use Rattle.text_reader.specs.Grammar.{word, token, seq, alt, opt, rep, rule, one_of, meets, Tree}
use Rattle.text_reader.specs.Grammar.{KeptOf, t_word, t_token, t_seq, t_left, t_right, t_opt_in}
use Rattle.text_reader.specs.Grammar.{t_rep_in, t_rule, nothing, leaf, both, left, right, some}
use Rattle.text_reader.specs.Grammar.{pick}
use Rattle.text_reader.specs.Tests.{Test, Kept, holds, kept_of, language}
use Rattle.text_reader.specs.Going.{Shape}
use Rattle.text_values.specs.TraceGrammar.{Production, Rule, production}
use Rattle.text_values.proofs.Places.{some_same}
use Rattle.est_explanation.proofs.Words.{Written, IsWhole, text_of, text_append, IsWritten}
use Rattle.est_explanation.proofs.Words.{AreWritten}
use Rattle.law_texts.proofs.Wholes.{AreWholeBefore, whole_append}

-- A token that is a word meets a test.
abbrev pub Meets : Written → Test → Type 0
Meets w k = (text : List ℕ) (t : Token) → IsWritten text t w → holds text k t ≡ true

-- A tree keeps this of a token that is a word.
abbrev pub IsKept : Written → Kept → Type 0
IsKept w v = (text : List ℕ) (t : Token) → IsWritten text t w → kept_of text t ≡ v

-- the token at a place is this word, and those after it are these
record Standing (text : List ℕ) (s : List Token) (a : ℕ) (w : Written) (ws : List Written)
    : Type 0 where
  token : Token
  there : slice_get s a ≡ Some token
  written : IsWritten text token w
  inside : a < length s
  rest : AreWritten text (drop (suc a) s) ws

standing : (text : List ℕ) (s : List Token) (a : ℕ) (w : Written) (ws : List Written)
    → AreWritten text (drop a s) (w ∷ ws) → Standing text s a w ws
standing text [] zero w ws h = elim h [ ]
standing text [] (suc a) w ws h = elim h [ ]
standing text (t ∷ s) zero w ws h = record {
  token = t;
  there = refl;
  written = h.0;
  inside = omega arith;
  rest = h.1;
}
standing text (t ∷ s) (suc a) w ws h =
    let r = standing text s a w ws h in
    record {
      token = r.token;
      there = r.there;
      written = r.written;
      inside = omega (arith, r.inside);
      rest = r.rest;
    }

-- From a place on, the words up to those that are left have a tree by g, of a shape of which this
-- holds.
pub record Parsed (text : List ℕ) (s : List Token) (g : Rule) (d : ℕ) (Is : Shape → Type 0) (a : ℕ)
    (ws : List Written) : Type 0 where
  pub last : ℕ
  pub shape : Shape
  pub tree : Tree (language production text) s (length s) g d a last shape
  pub is : Is shape
  pub rest : AreWritten text (drop last s) ws

-- A text is written so that its tokens have a tree by g, of a shape of which this holds, whatever
-- stands before it, and where such a text stands after it. No comment begins with a `(` before it.
pub record Writes (After : List ℕ → Type 0) (least : ℕ) (g : Rule) (Is : Shape → Type 0)
    (bytes : List ℕ) : Type 0 where
  pub words : List Written
  pub spelled : text_of words ≡ bytes
  pub whole : (rest : List ℕ) → After rest → AreWholeBefore words rest
  pub no_star : (rest : List ℕ) → After rest → eqb (get_or (bytes ++ rest) 0 0) 42 ≡ false
  pub read : (text : List ℕ) (s : List Token) (d a : ℕ) (ws : List Written) → least ≤ d
      → AreWritten text (drop a s) (words ++ ws) → Parsed text s g d Is a ws

-- NOTHING

-- where no tokens are taken
pub nothing_written : {After : List ℕ → Type 0} {least : ℕ} (g : Rule) (Is : Shape → Type 0)
    → ((rest : List ℕ) → After rest → eqb (get_or rest 0 0) 42 ≡ false) → Is nothing
    → ((text : List ℕ) (s : List Token) (d a : ℕ)
    → Tree (language production text) s (length s) g d a a nothing)
    → Writes After least g Is []
nothing_written g Is n is t = record {
  words = [];
  spelled = refl;
  whole = λ rest h. tt;
  no_star = n;
  read = λ text s d a ws l h. record {
    last = a;
    shape = nothing;
    tree = t text s d a;
    is = is;
    rest = h;
  };
}

-- WORDS

-- a word, and then the rest
pub word_written : {After : List ℕ → Type 0} {least : ℕ} {g : Rule} {Is : Shape → Type 0}
    {bytes : List ℕ} (k : Test) (w : Written) → Writes After least g Is bytes → Meets w k
    → ((rest : List ℕ) → After rest → IsWhole w (w.gap ++ (bytes ++ rest)))
    → ((rest : List ℕ) → eqb (get_or (w.bytes ++ rest) 0 0) 42 ≡ false)
    → Writes After least (word k g) Is (w.bytes ++ (w.gap ++ bytes))
word_written {bytes = bytes} k w x m whole n = record {
  words = w ∷ x.words;
  spelled = ap (λ r. w.bytes ++ (w.gap ++ r)) x.spelled;
  whole = λ rest h. (
    subst (λ r. IsWhole w (w.gap ++ (r ++ rest))) (sym x.spelled) (whole rest h),
    x.whole rest h,
  );
  no_star = λ rest h. subst (λ r. eqb (get_or r 0 0) 42 ≡ false)
      (sym (append_assoc w.bytes (w.gap ++ bytes) rest)) (n ((w.gap ++ bytes) ++ rest));
  read = λ text s d a ws l h. let r = standing text s a w (x.words ++ ws) h in
      let q = x.read text s d (suc a) ws l r.rest in
      record {
        last = q.last;
        shape = q.shape;
        tree = t_word k r.inside (ap (meets (holds text) k) r.there ∙ m text r.token r.written)
            q.tree;
        is = q.is;
        rest = q.rest;
      };
}

-- a word of which a tree keeps something
pub token_written : {After : List ℕ → Type 0} {least : ℕ} (k : Test) (v : Kept) (w : Written)
    → w.gap ≡ [] → Meets w k → IsKept w v
    → ((rest : List ℕ) → After rest → IsWhole w (w.gap ++ ([] ++ rest)))
    → ((rest : List ℕ) → eqb (get_or (w.bytes ++ rest) 0 0) 42 ≡ false)
    → w.bytes ++ [] ≡ w.bytes
    → Writes After least (token k) (λ t. t ≡ leaf v) w.bytes
token_written k v w e m kept whole n nil = record {
  words = w ∷ [];
  spelled = ap (λ r. w.bytes ++ (r ++ [])) e ∙ nil;
  whole = λ rest h. (whole rest h, tt);
  no_star = λ rest h. n rest;
  read = λ text s d a ws l h. let r = standing text s a w ws h in
      record {
        last = suc a;
        shape = leaf v;
        tree = t_token v k r.inside (ap (meets (holds text) k) r.there ∙ m text r.token r.written)
            (subst (λ o. KeptOf (language production text) o v) (sym r.there)
            (kept text r.token r.written));
        is = refl;
        rest = r.rest;
      };
}

-- PARTS

-- one, and then the other
pub both_written : {A B : List ℕ → Type 0} {least : ℕ} {g h : Rule} {P Q : Shape → Type 0}
    {x y : List ℕ} (More : Shape → Type 0) → Writes A least g P x → Writes B least h Q y
    → ((rest : List ℕ) → B rest → A (y ++ rest))
    → ((t u : Shape) → P t → Q u → More (both t u)) → Writes B least (seq g h) More (x ++ y)
both_written {A} {B} {x = x} {y} More p q after f = record {
  words = p.words ++ q.words;
  spelled = text_append p.words q.words ∙ ap (λ r. r ++ text_of q.words) p.spelled
      ∙ ap (λ r. x ++ r) q.spelled;
  whole = λ rest h. whole_append p.words q.words rest
      (subst (λ r. AreWholeBefore p.words (r ++ rest)) (sym q.spelled)
      (p.whole (y ++ rest) (after rest h))) (q.whole rest h);
  no_star = λ rest h. subst (λ r. eqb (get_or r 0 0) 42 ≡ false) (sym (append_assoc x y rest))
      (p.no_star (y ++ rest) (after rest h));
  read = λ text s d a ws l h.
      let r = p.read text s d a (q.words ++ ws) l
      (subst (λ vs. AreWritten text (drop a s) vs) (append_assoc p.words q.words ws) h) in
      let u = q.read text s d r.last ws l r.rest in
      record {
        last = u.last;
        shape = both r.shape u.shape;
        tree = t_seq r.tree u.tree;
        is = f r.shape u.shape r.is u.is;
        rest = u.rest;
      };
}

-- a tree by g is made into one by h
abbrev pub Makes : (g h : Rule) → (P Q : Shape → Type 0) → Type 0
Makes g h P Q = (text : List ℕ) (s : List Token) (d a b : ℕ) (t : Shape) → P t
    → Tree (language production text) s (length s) g d a b t
    → (u : Shape) × Tree (language production text) s (length s) h d a b u × Q u

pub made_written : {A : List ℕ → Type 0} {least : ℕ} {g h : Rule} {P Q : Shape → Type 0}
    {x : List ℕ} → Writes A least g P x → Makes g h P Q → Writes A least h Q x
made_written p f = record {
  words = p.words;
  spelled = p.spelled;
  whole = p.whole;
  no_star = p.no_star;
  read = λ text s d a ws l h. let r = p.read text s d a ws l h in
      let m = f text s d a r.last r.shape r.is r.tree in
      record { last = r.last; shape = m.0; tree = m.1; is = m.2; rest = r.rest };
}

module _ {A : List ℕ → Type 0} {least : ℕ} {g : Rule} {P : Shape → Type 0} {x : List ℕ}
    (More : Shape → Type 0) (p : Writes A least g P x) where
  -- what holds of the shape implies more
  pub shown_written : ((t : Shape) → P t → More t) → Writes A least g More x
  shown_written f = made_written p (λ text s d a b t i y. (t, y, f t i))

  -- the first alternative, and the second one
  pub first_written : (h : Rule) → ((t : Shape) → P t → More (left t))
      → Writes A least (alt g h) More x
  first_written h f = made_written p (λ text s d a b t i y. (left t, t_left y, f t i))

  pub second_written : (h : Rule) → ((t : Shape) → P t → More (right t))
      → Writes A least (alt h g) More x
  second_written h f = made_written p (λ text s d a b t i y. (right t, t_right y, f t i))

  -- what need not stand there
  pub some_written : ((t : Shape) → P t → More (some t)) → Writes A least (opt g) More x
  some_written f = made_written p (λ text s d a b t i y. (some t, t_opt_in y, f t i))

-- a production
pub rule_written : {A : List ℕ → Type 0} {least : ℕ} (p : Production) {P : Shape → Type 0}
    {x : List ℕ} → Writes A least (production p) P x → Writes A least (rule p) P x
rule_written p w = made_written w (λ text s d a b t i y. (t, t_rule y, i))

-- one more turn
seq_turns : (text : List ℕ) (s : List Token) {g : Rule} {d a b : ℕ} {t : Shape}
    → Tree (language production text) s (length s) (seq g (rep g)) d a b t
    → Tree (language production text) s (length s) (rep g) d a b t
seq_turns text s (t_seq x y) = t_rep_in x y

pub turn_written : {A B : List ℕ → Type 0} {least : ℕ} {g : Rule} {P Q : Shape → Type 0}
    {x y : List ℕ} (More : Shape → Type 0) → Writes A least g P x → Writes B least (rep g) Q y
    → ((rest : List ℕ) → B rest → A (y ++ rest))
    → ((t u : Shape) → P t → Q u → More (both t u)) → Writes B least (rep g) More (x ++ y)
turn_written More p q after f =
    made_written (both_written More p q after f) (λ text s d a b t i y. (t, seq_turns text s y, i))

-- an alternative of a list
pub picked : {X : Type 0} (text : List ℕ) (s : List Token) (f : X → Rule) (xs : List X) (i : ℕ)
    (x : X) (d a b : ℕ) (t : Shape) → slice_get xs i ≡ Some x
    → Tree (language production text) s (length s) (f x) d a b t
    → Tree (language production text) s (length s) (one_of f xs) d a b (pick i t)
picked text s f [] i x d a b t e y = absurd cc
picked text s f (z ∷ zs) zero x d a b t e y =
    t_left (subst (λ v. Tree (language production text) s (length s) (f v) d a b t)
    (sym (some_same e)) y)
picked text s f (z ∷ zs) (suc i) x d a b t e y = t_right (picked text s f zs i x d a b t e y)
