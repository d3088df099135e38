-- The tokens of the words of an explanation have a tree that the explanation shows.
use Rattle.std.proofs.Common.{◌≡◌, ℕ, zero, suc, ◌+◌, ◌<◌, ◌≤◌, ◌^◌, Bool, true, ◌&&◌, List, []}
use Rattle.std.proofs.Common.{◌∷◌, ◌++◌, length, drop, map, Some, slice_get, refl, sym, ap, subst}
use Rattle.std.proofs.Common.{◌∙◌, arith, append_assoc, flat_map, bytes_eq, le-leb}
use Rattle.std.specs.Prelude.{All, codes}
use Rattle.std.specs.Str.{str_to_ascii_lowercase}
use Rattle.std.proofs.lemmas.List.Elements.{All-head, All-tail}
use Rattle.est_lexer.specs.declared.kind.Token.{Token}
use Rattle.est_lexer.specs.Spellings.{name_kind, word_kind}
use Rattle.est_lexer.specs.Words.{words}
use Rattle.text_reader.specs.Grammar.{done, word, token, seq, rep, Tree, At, KeptOf}
use Rattle.text_reader.specs.Grammar.{meets, t_done, t_word, t_token, t_seq, t_left, t_right}
use Rattle.text_reader.specs.Grammar.{t_rep_out, t_rep_in}
use Rattle.text_reader.specs.Shown.{Shows, empty, pair, node, nodes, s_empty, s_kept}
use Rattle.text_reader.specs.Shown.{s_pair, s_first, s_second, s_node, s_none, s_more}
use Rattle.est_meaning.specs.declared.firing.Firing.{Firing}
use Rattle.est_meaning.specs.declared.run.Move.{Move}
use Rattle.est_meaning.specs.declared.run.Move.TheVariants.{Take, Fire}
use Rattle.est_meaning.specs.AllowedEvents.{most_events}
use Rattle.text_reader.specs.Tests.{Test, spelled, said, number, is_spelled, holds, kept_of, value}
use Rattle.text_reader.specs.Going.{Shape}
use Rattle.est_explanation.specs.declared.explanation.Explanation.{Explanation}
use Rattle.est_explanation.specs.ExplanationGrammar as grammar
use Rattle.est_explanation.specs.ExplanationGrammar.{Rule, most_ordinal}
use Rattle.est_explanation.specs.ExplanationNodes.{View, layer, a_move, an_explanation}
use Rattle.est_explanation.specs.ExplanationNodes.{number_view, firing_view}
use Rattle.est_explanation.specs.ExplanationText.{explanations}
use Rattle.est_explanation.specs.CanonicalExplanation.{IsWritable, IsWritableMove}
use Rattle.est_explanation.specs.CanonicalExplanation.{IsWritableFiring}
use Rattle.est_explanation.proofs.Words.{Written, IsWritten, AreWritten}
use Rattle.est_explanation.proofs.Numerals.{decimal_value}
use Rattle.est_explanation.proofs.CanonicalWords.{named, numeral, firing_words, move_words}
use Rattle.est_explanation.proofs.CanonicalWords.{claim_words, words_of}

-- the token at a place is this word, and those after it are these
record Standing (text : List ℕ) (s : List Token) (a : ℕ) (w : Written) (ws : List Written)
    : Type 0 where
  token : Token
  there : slice_get s a ≡ Some token
  written : IsWritten text token w
  inside : a < length s
  rest : AreWritten text (drop (suc a) s) ws

standing : (text : List ℕ) (s : List Token) (a : ℕ) (w : Written) (ws : List Written)
    → AreWritten text (drop a s) (w ∷ ws) → Standing text s a w ws
standing text [] zero w ws h = elim h [ ]
standing text [] (suc a) w ws h = elim h [ ]
standing text (t ∷ s) zero w ws h = record {
  token = t;
  there = refl;
  written = h.0;
  inside = omega arith;
  rest = h.1;
}
standing text (t ∷ s) (suc a) w ws h =
    let r = standing text s a w ws h in
    record {
      token = r.token;
      there = r.there;
      written = r.written;
      inside = omega (arith, r.inside);
      rest = r.rest;
    }

-- a token that is a word meets a test
abbrev Meets : List ℕ → Written → Test → Type 0
Meets text w k = (t : Token) → IsWritten text t w → holds text k t ≡ true

-- whether a word of these bytes is the one that is spelled so
abbrev is_word : List ℕ → List ℕ → Bool
is_word spelling bytes =
    is_spelled (name_kind bytes) && bytes_eq spelling (str_to_ascii_lowercase bytes)

word_meets : (text : List ℕ) (spelling bytes : List ℕ) (b : ℕ) → is_word spelling bytes ≡ true
    → Meets text (named bytes b) (spelled spelling)
word_meets text spelling bytes b e = λ t w. rw (w.kind, w.spelled) e

number_meets : (text : List ℕ) (n b low high : ℕ) → low ≤ n → n ≤ high → n < 10 ^ 18
    → Meets text (numeral n b) (number low high)
number_meets text n b low high l u h = λ t w.
    rw (w.kind, w.spelled, decimal_value n h, le-leb low n l, le-leb n high u) refl

take_is : is_word (codes "take") (codes "take") ≡ true
unfolding word_kind words
take_is = refl

fire_is : is_word (codes "fire") (codes "fire") ≡ true
unfolding word_kind words
fire_is = refl

yields_is : is_word (codes "yields") (codes "yields") ≡ true
unfolding word_kind words
yields_is = refl

explanation_is : is_word (codes "explanation") (codes "explanation") ≡ true
unfolding word_kind words
explanation_is = refl

module _ (text : List ℕ) (s : List Token) where
  -- from a place on, the words up to those that are left have a tree that the view shows
  pub record Reads (g : Rule) (v : View) (a : ℕ) (left : List Written) : Type 0 where
    pub last : ℕ
    pub shape : Shape
    pub tree : Tree (explanations text) s (length s) g 0 a last shape
    pub shows : Shows layer v shape
    pub rest : AreWritten text (drop last s) left

  -- the words from a place on
  abbrev Are : ℕ → List Written → Type 0
  Are a ws = AreWritten text (drop a s) ws

  meets_there : (k : Test) {a : ℕ} {w : Written} {ws : List Written} → Standing text s a w ws
      → Meets text w k → At (explanations text) s a k
  meets_there k r m = ap (meets (holds text) k) r.there ∙ m r.token r.written

  -- a word, and then the rest
  take : {g : Rule} {v : View} (k : Test) (a : ℕ) (w : Written) (ws left : List Written)
      → Meets text w k → Are a (w ∷ ws) → (Are (suc a) ws → Reads g v (suc a) left)
      → Reads (word k g) v a left
  take k a w ws left m h onward =
      let r = standing text s a w ws h in
      let q = onward r.rest in
      record {
        last = q.last;
        shape = q.shape;
        tree = t_word k r.inside (meets_there k r m) q.tree;
        shows = q.shows;
        rest = q.rest;
      }

  -- a number within bounds
  take_number : (n b low high a : ℕ) (ws : List Written) → low ≤ n → n ≤ high → n < 10 ^ 18
      → Are a (numeral n b ∷ ws) → Reads (token (number low high)) (number_view n) a ws
  take_number n b low high a ws l u h x =
      let r = standing text s a (numeral n b) ws x in
      let m = number_meets text n b low high l u h in
      let is : kept_of text r.token ≡ value n =
      rw (r.written.kind, r.written.spelled) (ap value (decimal_value n h)) in
      record {
        last = suc a;
        shape = _;
        tree = t_token (value n) (number low high) r.inside (meets_there (number low high) r m)
            (subst (λ o. KeptOf (explanations text) o (value n)) (sym r.there) is);
        shows = s_kept (value n);
        rest = r.rest;
      }

  -- one, and then the other
  both : {g h : Rule} {v w : View} {a : ℕ} {ws left : List Written} → Reads g v a ws
      → ((b : ℕ) → Are b ws → Reads h w b left) → Reads (seq g h) (pair v w) a left
  both r onward =
      let q = onward r.last r.rest in
      record {
        last = q.last;
        shape = _;
        tree = t_seq r.tree q.tree;
        shows = s_pair r.shows q.shows;
        rest = q.rest;
      }

  ordinal : (n b a : ℕ) (ws : List Written) → n ≤ most_ordinal → Are a (numeral n b ∷ ws)
      → Reads grammar.ordinal (number_view n) a ws
  ordinal n b a ws h x =
      take_number n b 0 most_ordinal a ws (omega arith) h (omega (arith, h)) x

  firing : (f : Firing) (a : ℕ) (ws : List Written) → IsWritableFiring f
      → Are a (firing_words f ++ ws) → Reads grammar.firing (firing_view f) a ws
  firing f a ws w x =
      both (ordinal f.instance 32 a _ w.instance x) (λ b y.
      both (ordinal f.transition 32 b _ w.transition y) (λ c z.
      ordinal f.choice 10 c ws w.choice z))

  move : (m : Move) (a : ℕ) (ws : List Written) → IsWritableMove m → Are a (move_words m ++ ws)
      → Reads grammar.move (node (a_move m)) a ws
  move Take a ws w x =
      let r = take (said "take") a (named (codes "take") 10) ws ws
      (word_meets text (codes "take") (codes "take") 10 take_is) x
      (λ y. nothing_more (suc a) ws y) in
      record {
        last = r.last;
        shape = _;
        tree = t_left r.tree;
        shows = s_node (s_first r.shows);
        rest = r.rest;
      }
    where
      nothing_more : (b : ℕ) (vs : List Written) → Are b vs → Reads done empty b vs
      nothing_more b vs y = record {
        last = b;
        shape = _;
        tree = t_done;
        shows = s_empty;
        rest = y;
      }
  move (Fire f) a ws w x =
      let r = take (said "fire") a (named (codes "fire") 32) (firing_words f ++ ws) ws
      (word_meets text (codes "fire") (codes "fire") 32 fire_is) x
      (λ y. firing f (suc a) ws w y) in
      record {
        last = r.last;
        shape = _;
        tree = t_right r.tree;
        shows = s_node (s_second r.shows);
        rest = r.rest;
      }

  moves : (ms : List Move) (a : ℕ) (ws : List Written) → All IsWritableMove ms
      → Are a (flat_map move_words ms ++ ws) → Reads (rep grammar.move) (nodes (map a_move ms)) a ws
  moves [] a ws w x = record {
    last = a;
    shape = _;
    tree = t_rep_out;
    shows = s_none;
    rest = x;
  }
  moves (m ∷ ms) a ws w x =
      let y = subst (λ vs. Are a vs) (append_assoc (move_words m) (flat_map move_words ms) ws) x in
      let r = move m a (flat_map move_words ms ++ ws) (All-head IsWritableMove m ms w) y in
      let q = moves ms r.last ws (All-tail IsWritableMove m ms w) r.rest in
      record {
        last = q.last;
        shape = _;
        tree = t_rep_in r.tree q.tree;
        shows = s_more r.shows q.shows;
        rest = q.rest;
      }

  claim : (n a : ℕ) → n ≤ most_events + 1 → Are a (claim_words n)
      → Reads (word (said "yields") (token (number 0 (most_events + 1)))) (number_view n) a []
  claim n a h x =
      take (said "yields") a (named (codes "yields") 32) (numeral n 10 ∷ []) []
      (word_meets text (codes "yields") (codes "yields") 32 yields_is) x
      (λ y. take_number n 10 0 (most_events + 1) (suc a) [] (omega arith) h (omega (arith, h)) y)

  -- the words of an explanation have a tree that it shows
  pub whole : (x : Explanation) → IsWritable x → Are 0 (words_of x)
      → Reads grammar.explanation (node (an_explanation x)) 0 []
  whole x w h =
      let rest = flat_map move_words x.moves ++ claim_words x.claim in
      let r = take (said "explanation") 0 (named (codes "explanation") 32) (numeral 1 10 ∷ rest) []
      (word_meets text (codes "explanation") (codes "explanation") 32 explanation_is) h
      (λ y. take (number 1 1) 1 (numeral 1 10) rest []
      (number_meets text 1 10 1 1 (omega arith) (omega arith) (omega arith)) y
      (λ z. both (moves x.moves 2 (claim_words x.claim) w.moves z)
      (λ b u. claim x.claim b w.claim u))) in
      record {
        last = r.last;
        shape = r.shape;
        tree = r.tree;
        shows = s_node r.shows;
        rest = r.rest;
      }
