-- One explanation shows a shape, and it has no more moves than its text has tokens.
use Rattle.std.proofs.Common.{◌≡◌, ℕ, ◌+◌, ◌≤◌, List, [], ◌∷◌, length, map, refl, ap, arith}
use Rattle.est_lexer.specs.declared.kind.Token.{Token}
use Rattle.text_reader.specs.Grammar.{rep, Tree, t_word, t_seq, t_left}
use Rattle.text_reader.specs.Grammar.{t_right, t_rep_out, t_rep_in}
use Rattle.text_reader.specs.Shown.{Shows, node, nodes, s_kept, s_pair}
use Rattle.text_reader.specs.Shown.{s_first, s_second, s_node, s_none, s_more}
use Rattle.text_reader.proofs.Trees.{tree_forward}
use Rattle.est_meaning.specs.declared.firing.Firing.{Firing}
use Rattle.est_meaning.specs.declared.run.Move.{Move}
use Rattle.est_meaning.specs.declared.run.Move.TheVariants.{Take, Fire}
use Rattle.text_reader.specs.Going.{Shape}
use Rattle.est_explanation.specs.declared.explanation.Explanation.{Explanation}
use Rattle.est_explanation.specs.ExplanationGrammar.{move, explanation}
use Rattle.est_explanation.specs.ExplanationNodes.{layer, a_move, an_explanation}
use Rattle.est_explanation.specs.ExplanationNodes.{number_view, firing_view}
use Rattle.est_explanation.specs.ExplanationText.{explanations, IsExplanationText}

one_number : (m n : ℕ) {t : Shape} → Shows layer (number_view m) t → Shows layer (number_view n) t
    → m ≡ n
one_number m n (s_kept v) (s_kept w) = refl

equal_firings : {a b c a' b' c' : ℕ} → a ≡ a' → b ≡ b' → c ≡ c'
    → let x : Firing = record {
      instance = a;
      transition = b;
      choice = c;
    } in x ≡ record { instance = a'; transition = b'; choice = c' }
equal_firings p q r = cc

one_firing : (x y : Firing) {t : Shape} → Shows layer (firing_view x) t
    → Shows layer (firing_view y) t → x ≡ y
one_firing x y (s_pair a (s_pair b c)) (s_pair d (s_pair e f)) =
    equal_firings (one_number x.instance y.instance a d) (one_number x.transition y.transition b e)
    (one_number x.choice y.choice c f)

one_move : (x y : Move) {t : Shape} → Shows layer (node (a_move x)) t
    → Shows layer (node (a_move y)) t → x ≡ y
one_move Take Take d e = refl
one_move Take (Fire f) (s_node (s_first d)) (s_node e) = elim e [ ]
one_move (Fire f) Take (s_node (s_second d)) (s_node e) = elim e [ ]
one_move (Fire f) (Fire g) (s_node (s_second d)) (s_node (s_second e)) =
    ap Fire (one_firing f g d e)

same_moves : (xs ys : List Move) {t : Shape} → Shows layer (nodes (map a_move xs)) t
    → Shows layer (nodes (map a_move ys)) t → xs ≡ ys
same_moves [] [] d e = refl
same_moves [] (y ∷ ys) s_none e = elim e [ ]
same_moves (x ∷ xs) [] (s_more d d') e = elim e [ ]
same_moves (x ∷ xs) (y ∷ ys) (s_more d d') (s_more e e') =
    let p = one_move x y d e in let q = same_moves xs ys d' e' in cc

equal_explanations : {xs ys : List Move} {m n : ℕ} → xs ≡ ys → m ≡ n
    → let x : Explanation = record { moves = xs; claim = m } in x ≡ record { moves = ys; claim = n }
equal_explanations p q = cc

-- one explanation shows a shape
pub one_explanation : (x y : Explanation) {t : Shape} → Shows layer (node (an_explanation x)) t
    → Shows layer (node (an_explanation y)) t → x ≡ y
one_explanation x y (s_node (s_pair d d')) (s_node (s_pair e e')) =
    equal_explanations (same_moves x.moves y.moves d e) (one_number x.claim y.claim d' e')

module _ (text : List ℕ) (s : List Token) (n : ℕ) where
  -- a move takes a token
  move_onward : {d a b : ℕ} {t : Shape} → Tree (explanations text) s n move d a b t → a + 1 ≤ b
  move_onward (t_left (t_word k l w x)) = omega (arith, tree_forward (explanations text) s n x)
  move_onward (t_right (t_word k l w x)) = omega (arith, tree_forward (explanations text) s n x)

  few_moves : {d a b : ℕ} {t : Shape} (xs : List Move)
      → Tree (explanations text) s n (rep move) d a b t → Shows layer (nodes (map a_move xs)) t
      → length xs + a ≤ b
  few_moves [] t_rep_out e = omega arith
  few_moves [] (t_rep_in x y) e = elim e [ ]
  few_moves (x ∷ xs) t_rep_out e = elim e [ ]
  few_moves (x ∷ xs) (t_rep_in m r) (s_more e e') = omega (arith, move_onward m, few_moves xs r e')

  few_in_text : {d a b : ℕ} {t : Shape} (x : Explanation)
      → Tree (explanations text) s n explanation d a b t → Shows layer (node (an_explanation x)) t
      → length x.moves ≤ b
  few_in_text x (t_word k l w (t_word k' l' w' (t_seq y z))) (s_node (s_pair e e')) =
      omega (arith, few_moves x.moves y e, tree_forward (explanations text) s n z)

-- a text has no fewer tokens than moves
pub few : (text : List ℕ) (tokens : List Token) (x : Explanation) → IsExplanationText text tokens x
    → length x.moves ≤ length tokens
few text tokens x h = few_in_text text tokens (length tokens) x h.1 h.2
