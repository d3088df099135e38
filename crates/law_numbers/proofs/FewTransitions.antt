-- A body of a sentence has no more transitions than the sentence has tokens.
use Rattle.std.specs.Prelude.{map}
use Rattle.std.proofs.Common.{◌≡◌, refl, ap, ℕ, suc, ◌+◌, ◌≤◌, List, [], ◌∷◌, length, arith}
use Rattle.std.specs.List.{flat_map}
use Rattle.std.proofs.lemmas.List.Concat.{length-flat_map}
use Rattle.est_lexer.specs.declared.kind.Token.{Token}
use Rattle.est_syntax.specs.declared.body.Body.{Body, out-Body}
use Rattle.est_syntax.specs.declared.transition.Clause.{Clause}
use Rattle.est_syntax.specs.declared.transition.Group.{Group, out-Group}
use Rattle.est_syntax.specs.declared.transition.Transition.{Transition, out-Transition}
use Rattle.text_reader.specs.Grammar.{rep, rule, t_rule, t_word}
use Rattle.text_reader.specs.Shown.{Shows, node, nodes, s_node}
use Rattle.text_reader.proofs.Sums.{turns_fit, several_fit, one_fits, ones}
use Rattle.text_reader.specs.Going.{Shape}
use Rattle.text_reader.specs.Tests.{language}
use Rattle.text_productions.specs.FirstTokens.{marks}
use Rattle.text_productions.specs.Nodes.{a_body, a_group, a_transition, layer}
use Rattle.text_productions.specs.Productions as grammar
use Rattle.text_productions.specs.Productions.{production}
use Rattle.text_productions.proofs.Fits.{fits}
use Rattle.est_meaning.specs.ClauseContexts.{GivenClause, context_after, full_after}
use Rattle.est_meaning.specs.ClauseContexts.{given_after, clauses_of, group_transitions}
use Rattle.law_sentences.proofs.Reading.{TreeOf, Reads}
use Rattle.law_numbers.specs.WritableLaws.{TransitionsAreFew}
use Rattle.law_numbers.proofs.EachBody.{transitions_are}
use Rattle.law_numbers.proofs.ReadBodies.{body_parts, bodies_read}

-- transitions keep their number with all their clauses
full_length : (gs : List GivenClause) (cs : List Clause) (xs : List Transition)
    → length (full_after gs cs xs) ≡ length xs
full_length gs cs [] = refl
full_length gs cs (x ∷ xs) =
    ap suc (full_length gs (context_after cs (out-Transition x).clauses) xs)

module _ (text : List ℕ) (tokens : List Token) where
  -- each transition has a token, so a group has as many
  transition_long : (x : Transition) (d a b : ℕ) (t : Shape)
      → Shows layer (node (a_transition x)) t → TreeOf text tokens (rule grammar.transition) d a b t
      → a + 1 ≤ b
  transition_long x d a b t h tree = one_fits (language production text) marks (fits text) tokens
      (length tokens) (rule grammar.transition) refl d a b t tree

  group_long : (g : Group) (d a b : ℕ) (t : Shape) → Shows layer (node (a_group g)) t
      → TreeOf text tokens (rule grammar.transpart) d a b t → a + length (group_transitions g) ≤ b
  group_long g d a b t (s_node h) (t_rule (t_word k i e tree)) =
      let xs = (out-Group g).transitions in
      omega (
        arith,
        several_fit (language production text) tokens (length tokens) layer (λ x. 1)
            a_transition (rule grammar.transition) transition_long xs h tree,
        ones xs,
        full_length (given_after [] (clauses_of xs)) [] xs,
      )

  -- a body has no more transitions than there are tokens
  abbrev HasFew : Body → Type 0
  HasFew b = length (flat_map group_transitions (out-Body b).groups) ≤ length tokens

  groups_few : (gs : List Group) → Reads text tokens (rep (rule grammar.transpart))
      (nodes (map a_group gs)) → length (flat_map group_transitions gs) ≤ length tokens
  groups_few gs r =
      omega (
        arith,
        length-flat_map group_transitions gs,
        turns_fit (language production text) tokens (length tokens) layer
            (λ g. length (group_transitions g)) a_group (rule grammar.transpart) group_long gs r.5
            r.4,
        r.6,
      )

  body_few : (b : Body) → Reads text tokens (rule grammar.body) (node (a_body b)) → HasFew b
  body_few b r = groups_few (out-Body b).groups (body_parts text tokens b r).1

pub transitions_few : TransitionsAreFew
transitions_few spec sentence body =
    let text = sentence.text in
    let tokens = sentence.tokens in
    transitions_are (HasFew text tokens) (λ xs. length xs ≤ length tokens) (omega arith)
    (λ b h. h) spec
    (bodies_read text tokens (HasFew text tokens) (body_few text tokens) spec sentence.tree) body
