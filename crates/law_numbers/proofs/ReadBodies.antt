-- What each body of a sentence is read as.
use Rattle.std.specs.Prelude.{map}
use Rattle.std.proofs.Common.{subst, ℕ, List, [], ◌∷◌, length, arith}
use Rattle.est_lexer.specs.declared.kind.Token.{Token}
use Rattle.est_syntax.specs.declared.body.Body.{Body, Body', out-Body}
use Rattle.est_syntax.specs.declared.body.Part.{Part, out-Part, Row_of-Part, end_of-Part}
use Rattle.est_syntax.specs.declared.body.Part.{more_of-Part, items-the_row-Part}
use Rattle.est_syntax.specs.declared.body.Part.{items_shown-the_row-Part-0}
use Rattle.est_syntax.specs.declared.body.Part.TheOpen as forms
use Rattle.est_syntax.specs.declared.body.Part.TheVariants as part
use Rattle.est_syntax.specs.declared.specification.Spec.{Spec}
use Rattle.text_reader.specs.Grammar.{rep, rule}
use Rattle.text_reader.specs.Shown.{node, nodes}
use Rattle.text_productions.specs.Nodes as views
use Rattle.text_productions.specs.Nodes.{PartForm, a_body, a_body_part, a_common_part, a_group}
use Rattle.text_productions.specs.Nodes.{a_specification}
use Rattle.text_productions.specs.Productions as grammar
use Rattle.text_productions.specs.Productions.{body_part}
use Rattle.est_grammar.specs.Answer.{HasOneTree, levels}
use Rattle.law_sentences.proofs.Reading.{Reads, in_word, in_deeper, in_rule, in_node, in_seq}
use Rattle.law_sentences.proofs.Reading.{in_left, in_right, in_rep}
use Rattle.law_numbers.proofs.EachBody.{PartBodies, RowBodies, AllBodies}

module _ (text : List ℕ) (tokens : List Token) where
  -- the parts and the groups of transitions of a body
  pub body_parts : (b : Body) → Reads text tokens (rule grammar.body) (node (a_body b))
      → Reads text tokens (rep body_part) (nodes (map a_body_part (out-Body b).parts))
      × Reads text tokens (rep (rule grammar.transpart)) (nodes (map a_group (out-Body b).groups))
  body_parts b r =
      let q = in_seq text tokens (in_word text tokens (in_deeper text tokens
      (in_node text tokens (in_rule text tokens r)))) in
      let w = in_seq text tokens (in_word text tokens q.1) in
      let x = in_seq text tokens (in_word text tokens w.1) in
      let y = in_seq text tokens x.1 in (x.0, (in_seq text tokens y.1).0)

  -- what a part is read as, if it is a body
  abbrev Content : PartForm → Type 0
  Content (forms.Body b) = Reads text tokens (rule grammar.body) (node (a_body b))
  Content _ = Unit {0}

  of_common : (x : PartForm) → Reads text tokens (rule grammar.common) (views.common_part x)
      → Content x
  of_common (forms.Body b) r =
      in_left text tokens (in_right text tokens (in_right text tokens (in_right text tokens
      (in_right text tokens (in_rule text tokens r)))))
  of_common _ r = tt

  of_body : (x : PartForm) → Reads text tokens body_part (views.body_part x) → Content x
  of_body (forms.Body b) r = of_common (forms.Body b) (in_left text tokens r)
  of_body _ r = tt

  -- the parts of a sentence
  pub sentence_parts : (s : Spec) → HasOneTree text tokens s
      → Reads text tokens (rep (rule grammar.common)) (nodes (map a_common_part s.parts))
  sentence_parts s h =
      let r : Reads text tokens (rule grammar.specification) (node (a_specification s)) =
      (levels, 0, length tokens, h.shape, h.tree, h.shows, omega arith) in
      let q = in_seq text tokens (in_word text tokens
      (in_node text tokens (in_rule text tokens r))) in
      let w = in_seq text tokens (in_word text tokens q.1) in
      let x = in_seq text tokens w.1 in (in_seq text tokens x.1).0

  -- what holds of a body as it is read holds of each
  module _ (Q : Body → Type 0)
      (gives : (b : Body) → Reads text tokens (rule grammar.body) (node (a_body b)) → Q b) where
    mutual
      unfolding out-Part out-Body denote.Hole.Carrier.out denote.Hole.Carrier.shown

      part_read : (x : Part) → Content (out-Part x) → PartBodies Q x
      part_read (part.Body (Body' name header a ps f c groups)) r = (
        gives (Body' name header a ps f c groups) r,
        row_read ps (subst (λ l. Reads text tokens (rep body_part) (nodes (map a_body_part l)))
            (items_shown-the_row-Part-0 a ps)
            (body_parts (Body' name header a ps f c groups) r).0),
      )
      part_read _ r = tt

      row_read : {n : _} (row : Row_of-Part n)
          → Reads text tokens (rep body_part) (nodes (map a_body_part (items-the_row-Part n row)))
          → RowBodies Q row
      row_read end_of-Part r = tt
      row_read (more_of-Part x rest) r =
          let q = in_rep text tokens r in (
            part_read x (of_body (out-Part x) (in_node text tokens q.0)),
            row_read rest q.1,
          )

    parts_read : (xs : List Part)
        → Reads text tokens (rep (rule grammar.common)) (nodes (map a_common_part xs))
        → AllBodies Q xs
    parts_read [] r = tt
    parts_read (x ∷ xs) r =
        let q = in_rep text tokens r in (
          part_read x (of_common (out-Part x) (in_node text tokens q.0)),
          parts_read xs q.1,
        )

    pub bodies_read : (s : Spec) → HasOneTree text tokens s → AllBodies Q s.parts
    bodies_read s h = parts_read s.parts (sentence_parts s h)
