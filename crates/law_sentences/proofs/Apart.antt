-- The names of a sentence's routines, headers and interactions do not stand where blocks begin.
use Rattle.std.specs.Prelude.{map}
use Rattle.std.proofs.Common.{◌≡◌, refl, sym, true≢false, ℕ, subst, List, [], ◌∷◌, length, Option}
use Rattle.std.proofs.Common.{Some, None, true, slice_get}
use Rattle.est_lexer.specs.declared.kind.ReservedWord.TheVariants as words
use Rattle.est_lexer.specs.declared.kind.Token.{Token}
use Rattle.est_lexer.specs.declared.kind.TokenKind.TheVariants.{Identifier, Reserved}
use Rattle.est_syntax.specs.declared.body.Block.{Block, out-Block}
use Rattle.est_syntax.specs.declared.body.Body.{Body, Body', out-Body, Row_of-Group, end_of-Group}
use Rattle.est_syntax.specs.declared.body.Body.{more_of-Group, items-the_row-Group}
use Rattle.est_syntax.specs.declared.body.Body.{items_shown-the_row-Group-1, Held-Body-first}
use Rattle.est_syntax.specs.declared.body.Part.{Part, out-Part, Row_of-Part, end_of-Part}
use Rattle.est_syntax.specs.declared.body.Part.{more_of-Part, items-the_row-Part}
use Rattle.est_syntax.specs.declared.body.Part.{items_shown-the_row-Part-0}
use Rattle.est_syntax.specs.declared.body.Part.TheBlock as first
use Rattle.est_syntax.specs.declared.body.Part.TheBlock.{shown-the_row-Part-0}
use Rattle.est_syntax.specs.declared.body.Part.TheBlock.{shown-the_row-Group-1}
use Rattle.est_syntax.specs.declared.body.Part.TheOpen as forms
use Rattle.est_syntax.specs.declared.body.Part.TheVariants as part
use Rattle.est_syntax.specs.declared.channel.ByPart.{ByPart}
use Rattle.est_syntax.specs.declared.channel.Channel.{Channel}
use Rattle.est_syntax.specs.declared.channel.InteractionDef.{InteractionDef}
use Rattle.est_syntax.specs.declared.header.Header.{Header}
use Rattle.est_syntax.specs.declared.name.Used.{Used}
use Rattle.est_syntax.specs.declared.routine.Formal.{Formal}
use Rattle.est_syntax.specs.declared.transition.Group.{Group', out-Group, Row_of-Transition}
use Rattle.est_syntax.specs.declared.transition.Group.{end_of-Transition, more_of-Transition}
use Rattle.est_syntax.specs.declared.transition.Group.{items-the_row-Transition}
use Rattle.est_syntax.specs.declared.transition.Group.{items_shown-the_row-Transition-2}
use Rattle.est_syntax.specs.declared.transition.Transition.{Transition, out-Transition}
use Rattle.text_reader.specs.Grammar.{Tree, here, alt, rep, rule, meets, t_here, t_word, t_token}
use Rattle.text_reader.specs.Shown.{Shows, at, pair, node, nodes, s_at}
use Rattle.text_reader.specs.Going.{Shape, identifier, used}
use Rattle.text_reader.specs.Tests.{Test, kind, holds, language}
use Rattle.text_reader.proofs.Apart.{apart-holds}
use Rattle.text_productions.specs.Nodes as views
use Rattle.text_productions.specs.Nodes.{View, PartForm, an_interaction, a_by_part, a_channel}
use Rattle.text_productions.specs.Nodes.{a_header, a_routine, a_body, a_common_part, a_body_part}
use Rattle.text_productions.specs.Nodes.{a_block_part, a_block, a_transition, a_group, layer}
use Rattle.text_productions.specs.Productions as grammar
use Rattle.text_productions.specs.Productions.{Rule, production, several, said, symbol, begin_end}
use Rattle.text_productions.specs.Productions.{body_part, block_part, first_part, procedure}
use Rattle.text_productions.specs.Productions.{function, other_role}
use Rattle.law_sentences.proofs.ParametersDeclared.{InteractionsApart, ByPartsApart}
use Rattle.law_sentences.proofs.ParametersLead.{PartApart, RowApart, FirstApart, GroupsApart}
use Rattle.law_sentences.proofs.ParametersLead.{TransitionsApart, AllApart}
use Rattle.law_sentences.proofs.Reading.{Reads, in_word, in_deeper, in_rule, in_node, in_seq}
use Rattle.law_sentences.proofs.Reading.{in_left, in_right, in_opt, in_list, in_rep, no_text}

module _ (text : List ℕ) (tokens : List Token) where
  -- the token at a place meets a test
  abbrev Meets : Test → ℕ → Type 0
  Meets k place = meets (holds text) k (slice_get tokens place) ≡ true

  -- a block begins at a place
  abbrev pub IsBegin : ℕ → Type 0
  IsBegin place = Meets (kind (Reserved words.Begin)) place

  not_both : (x : Option Token) → meets (holds text) (kind Identifier) x ≡ true
      → meets (holds text) (kind (Reserved words.Begin)) x ≡ true → ⊥
  not_both None h k = absurd (true≢false (sym h))
  not_both (Some t) h k =
      apart-holds text (kind Identifier) (kind (Reserved words.Begin)) t refl h k

  abbrev TreeOf : Rule → ℕ → ℕ → ℕ → Shape → Type 0
  TreeOf g d a b t = Tree (language production text) tokens (length tokens) g d a b t

  identifier_by : {p : ℕ} {w : View} {d a b : ℕ} {t : Shape} → TreeOf identifier d a b t
      → Shows layer (at p w) t → Meets (kind Identifier) p
  identifier_by (t_here (t_token v k l e x)) (s_at p s) = e

  named : (u : Used) → Reads text tokens identifier (used u) → IsBegin u.place → ⊥
  named u r h = not_both (slice_get tokens u.place) (identifier_by r.4 r.5) h

  begin_by : {p : ℕ} {w : View} {d a b : ℕ} {t : Shape} → TreeOf (here begin_end) d a b t
      → Shows layer (at p w) t → IsBegin p
  begin_by (t_here (t_word k l e x)) (s_at p s) = e

  begins : {p : ℕ} {w : View} → Reads text tokens (here begin_end) (at p w) → IsBegin p
  begins r = begin_by r.4 r.5

  -- channels
  interaction_apart : (x : InteractionDef)
      → Reads text tokens (rule grammar.interaction) (node (an_interaction x))
      → IsBegin x.name.place → ⊥
  interaction_apart x r =
      named x.name (in_seq text tokens (in_node text tokens (in_rule text tokens r))).0

  interactions_apart : (xs : List InteractionDef)
      → Reads text tokens (rep (rule grammar.interaction)) (nodes (map an_interaction xs))
      → InteractionsApart IsBegin xs
  interactions_apart [] r = tt
  interactions_apart (x ∷ xs) r =
      let q = in_rep text tokens r in (interaction_apart x q.0, interactions_apart xs q.1)

  several_interactions_apart : (xs : List InteractionDef)
      → Reads text tokens (several (rule grammar.interaction)) (nodes (map an_interaction xs))
      → InteractionsApart IsBegin xs
  several_interactions_apart [] r = tt
  several_interactions_apart (x ∷ xs) r =
      let q = in_list text tokens r in (interaction_apart x q.0, interactions_apart xs q.1)

  by_part_apart : (us : List Used) (xs : List InteractionDef)
      → Reads text tokens (production grammar.by_part)
      (views.roles us (nodes (map an_interaction xs))) → InteractionsApart IsBegin xs
  by_part_apart [] xs r = absurd (no_text text tokens r)
  by_part_apart (one ∷ []) xs r =
      several_interactions_apart xs (in_word text tokens
      (in_seq text tokens (in_seq text tokens (in_word text tokens r)).1).1)
  by_part_apart (one ∷ other ∷ []) xs r =
      several_interactions_apart xs (in_word text tokens
      (in_seq text tokens (in_seq text tokens (in_word text tokens r)).1).1)
  by_part_apart (one ∷ other ∷ more ∷ us) xs r = absurd (no_text text tokens r)

  by_parts_apart : (xs : List ByPart)
      → Reads text tokens (rep (rule grammar.by_part)) (nodes (map a_by_part xs))
      → ByPartsApart IsBegin xs
  by_parts_apart [] r = tt
  by_parts_apart (x ∷ xs) r =
      let q = in_rep text tokens r in (
        by_part_apart x.roles x.interactions (in_node text tokens (in_rule text tokens q.0)),
        by_parts_apart xs q.1,
      )

  several_by_parts_apart : (xs : List ByPart)
      → Reads text tokens (several (rule grammar.by_part)) (nodes (map a_by_part xs))
      → ByPartsApart IsBegin xs
  several_by_parts_apart [] r = tt
  several_by_parts_apart (x ∷ xs) r =
      let q = in_list text tokens r in (
        by_part_apart x.roles x.interactions (in_node text tokens (in_rule text tokens q.0)),
        by_parts_apart xs q.1,
      )

  channel_by : (name : Used) (us : List Used) (xs : List ByPart)
      → Reads text tokens (production grammar.channel)
      (pair (used name) (views.two_names us (nodes (map a_by_part xs))))
      → ByPartsApart IsBegin xs
  channel_by name [] xs r =
      absurd (no_text text tokens (in_seq text tokens (in_word text tokens r)).1)
  channel_by name (one ∷ []) xs r =
      absurd (no_text text tokens (in_seq text tokens (in_word text tokens r)).1)
  channel_by name (one ∷ other ∷ []) xs r =
      let q = in_seq text tokens (in_word text tokens r) in
      let w = in_seq text tokens (in_word text tokens q.1) in
      let x = in_seq text tokens (in_word text tokens w.1) in
      several_by_parts_apart xs (in_word text tokens (in_word text tokens x.1))
  channel_by name (one ∷ other ∷ more ∷ us) xs r =
      absurd (no_text text tokens (in_seq text tokens (in_word text tokens r)).1)

  channel_apart : (c : Channel) → Reads text tokens (rule grammar.channel) (node (a_channel c))
      → ByPartsApart IsBegin c.by
  channel_apart c r =
      channel_by c.name c.roles c.by (in_node text tokens (in_rule text tokens r))

  -- headers
  header_apart : (x : Header) → Reads text tokens (rule grammar.header) (node (a_header x))
      → IsBegin x.name.place → ⊥
  header_apart x r =
      named x.name (in_seq text tokens (in_word text tokens
      (in_node text tokens (in_rule text tokens r)))).0

  -- what a part is read as that has names of its own
  abbrev Content : PartForm → Type 0
  Content (forms.Channel c) = Reads text tokens (rule grammar.channel) (node (a_channel c))
  Content (forms.Header h) = Reads text tokens (rule grammar.header) (node (a_header h))
  Content (forms.Body b) = Reads text tokens (rule grammar.body) (node (a_body b))
  Content (forms.Routine r) = Reads text tokens (rule grammar.routine) (node (a_routine r))
  Content _ = Unit {0}

  of_common : (x : PartForm) → Reads text tokens (rule grammar.common) (views.common_part x)
      → Content x
  of_common (forms.Channel c) r =
      in_left text tokens (in_right text tokens (in_right text tokens (in_rule text tokens r)))
  of_common (forms.Header x) r =
      in_left text tokens (in_right text tokens (in_right text tokens (in_right text tokens
      (in_rule text tokens r))))
  of_common (forms.Body b) r =
      in_left text tokens (in_right text tokens (in_right text tokens (in_right text tokens
      (in_right text tokens (in_rule text tokens r)))))
  of_common (forms.Routine x) r =
      in_left text tokens (in_right text tokens (in_right text tokens (in_right text tokens
      (in_right text tokens (in_right text tokens (in_rule text tokens r))))))
  of_common _ r = tt

  of_bodies : (x : PartForm) → Reads text tokens body_part (views.body_part x) → Content x
  of_bodies (forms.Channel c) r = of_common (forms.Channel c) (in_left text tokens r)
  of_bodies (forms.Header x) r = of_common (forms.Header x) (in_left text tokens r)
  of_bodies (forms.Body b) r = of_common (forms.Body b) (in_left text tokens r)
  of_bodies (forms.Routine x) r = of_common (forms.Routine x) (in_left text tokens r)
  of_bodies _ r = tt

  -- blocks, whose parts have no such names
  block_part_apart : (x : Part) → Reads text tokens block_part (node (a_block_part x))
      → PartApart IsBegin x
  unfolding out-Part denote.Hole.Carrier.out
  block_part_apart (part.Channel c) r = absurd (no_text text tokens (in_node text tokens r))
  block_part_apart (part.Header x) r = absurd (no_text text tokens (in_node text tokens r))
  block_part_apart (part.Body b) r = absurd (no_text text tokens (in_node text tokens r))
  block_part_apart (part.Routine' name formals result a ps ss place) r =
      absurd (no_text text tokens (in_node text tokens r))
  block_part_apart _ r = tt

  block_row_apart : {n : _} (row : Row_of-Part n)
      → Reads text tokens (rep block_part) (nodes (map a_block_part (items-the_row-Part n row)))
      → RowApart IsBegin row
  block_row_apart end_of-Part r = tt
  block_row_apart (more_of-Part x rest) r =
      let q = in_rep text tokens r in (block_part_apart x q.0, block_row_apart rest q.1)

  block_parts : (b : Block) → Reads text tokens (rule grammar.block) (node (a_block b))
      → Reads text tokens (rep block_part) (nodes (map a_block_part (out-Block b).parts))
      × IsBegin (out-Block b).place
  block_parts b r =
      let q = in_seq text tokens (in_node text tokens (in_rule text tokens r)) in
      (q.0, begins q.1)

  -- the name and the block of a routine
  routine_parts : (name : Used) (fs : List Formal) (result : Option Used) (b : Block)
      → Reads text tokens (alt procedure function) (views.routine_of name fs result b)
      → Reads text tokens identifier (used name)
      × Reads text tokens (rule grammar.block) (node (a_block b))
  routine_parts name fs None b r =
      let q = in_seq text tokens (in_word text tokens (in_left text tokens r)) in
      (q.0, (in_seq text tokens (in_word text tokens (in_seq text tokens q.1).1)).0)
  routine_parts name fs (Some u) b r =
      let q = in_seq text tokens (in_word text tokens
      (in_seq text tokens (in_right text tokens r)).1) in
      let w = in_seq text tokens (in_word text tokens (in_seq text tokens q.1).1) in
      (q.0, (in_seq text tokens (in_word text tokens w.1)).0)

  -- transitions
  first_apart : (f : Held-Body-first)
      → Reads text tokens first_part (views.first_part (first.view-Body-first f))
      → FirstApart IsBegin f
  unfolding out-Part denote.Hole.Carrier.out denote.Hole.Carrier.shown
  first_apart first.None' r = tt
  first_apart (first.Some' to a parts ss place) r =
      let q = in_seq text tokens (in_word text tokens (in_opt text tokens r)) in
      let b = block_parts _ (in_seq text tokens q.1).0 in (
        b.1,
        block_row_apart parts
            (subst (λ ps. Reads text tokens (rep block_part) (nodes (map a_block_part ps)))
            (items_shown-the_row-Part-0 a parts) b.0),
      )

  transition_block : (t : Transition)
      → Reads text tokens (rule grammar.transition) (node (a_transition t))
      → Reads text tokens (rule grammar.block) (node (a_block (out-Transition t).block))
  transition_block t r =
      let q = in_seq text tokens (in_node text tokens (in_rule text tokens r)) in
      (in_seq text tokens (in_seq text tokens q.1).1).0

  transitions_apart : {n : _} (row : Row_of-Transition n)
      → Reads text tokens (rep (rule grammar.transition))
      (nodes (map a_transition (items-the_row-Transition n row))) → TransitionsApart IsBegin row
  unfolding out-Part denote.Hole.Carrier.out denote.Hole.Carrier.shown
  transitions_apart end_of-Transition r = tt
  transitions_apart (more_of-Transition cs name a parts ss place rest) r =
      let q = in_rep text tokens r in
      let b = block_parts _ (transition_block _ q.0) in (
        b.1,
        block_row_apart parts
            (subst (λ ps. Reads text tokens (rep block_part) (nodes (map a_block_part ps)))
            (items_shown-the_row-Part-0 a parts) b.0),
        transitions_apart rest q.1,
      )

  several_transitions_apart : {n : _} (row : Row_of-Transition n)
      → Reads text tokens (several (rule grammar.transition))
      (nodes (map a_transition (items-the_row-Transition n row))) → TransitionsApart IsBegin row
  unfolding out-Part denote.Hole.Carrier.out denote.Hole.Carrier.shown
  several_transitions_apart end_of-Transition r = tt
  several_transitions_apart (more_of-Transition cs name a parts ss place rest) r =
      let q = in_list text tokens r in
      let b = block_parts _ (transition_block _ q.0) in (
        b.1,
        block_row_apart parts
            (subst (λ ps. Reads text tokens (rep block_part) (nodes (map a_block_part ps)))
            (items_shown-the_row-Part-0 a parts) b.0),
        transitions_apart rest q.1,
      )

  groups_apart : {n : _} (row : Row_of-Group n)
      → Reads text tokens (rep (rule grammar.transpart))
      (nodes (map a_group (items-the_row-Group n row))) → GroupsApart IsBegin row
  unfolding out-Group denote.Hole.Carrier.out denote.Hole.Carrier.shown
  groups_apart end_of-Group r = tt
  groups_apart (more_of-Group (Group' a transitions) rest) r =
      let q = in_rep text tokens r in
      let t = in_word text tokens (in_node text tokens (in_rule text tokens q.0)) in (
        several_transitions_apart transitions
            (subst (λ ts. Reads text tokens (several (rule grammar.transition))
            (nodes (map a_transition ts))) (items_shown-the_row-Transition-2 a transitions) t),
        groups_apart rest q.1,
      )

  -- the parts of a body
  body_parts : (b : Body) → Reads text tokens (rule grammar.body) (node (a_body b))
      → Reads text tokens (rep body_part) (nodes (map a_body_part (out-Body b).parts))
      × Reads text tokens first_part (views.first_part (out-Body b).first)
      × Reads text tokens (rep (rule grammar.transpart)) (nodes (map a_group (out-Body b).groups))
  body_parts b r =
      let q = in_seq text tokens (in_word text tokens (in_deeper text tokens
      (in_node text tokens (in_rule text tokens r)))) in
      let w = in_seq text tokens (in_word text tokens q.1) in
      let x = in_seq text tokens (in_word text tokens w.1) in
      let y = in_seq text tokens x.1 in (x.0, y.0, (in_seq text tokens y.1).0)

  mutual
    unfolding out-Part out-Body denote.Hole.Carrier.out denote.Hole.Carrier.shown

    part_apart : (x : Part) → Content (out-Part x) → PartApart IsBegin x
    part_apart (part.Channel c) r = channel_apart c r
    part_apart (part.Header x) r = header_apart x r
    part_apart (part.Body (Body' name header a ps f b groups)) r =
        let q = body_parts (Body' name header a ps f b groups) r in (
          body_row_apart ps
              (subst (λ l. Reads text tokens (rep body_part) (nodes (map a_body_part l)))
              (items_shown-the_row-Part-0 a ps) q.0),
          first_apart f q.1,
          groups_apart groups
              (subst (λ l. Reads text tokens (rep (rule grammar.transpart)) (nodes (map a_group l)))
              (items_shown-the_row-Group-1 b groups) q.2),
        )
    part_apart (part.Routine' name formals result a ps ss place) r =
        let q = routine_parts name formals result _ (in_node text tokens (in_rule text tokens r)) in
        let b = block_parts _ q.1 in (
          named name q.0,
          block_row_apart ps
              (subst (λ l. Reads text tokens (rep block_part) (nodes (map a_block_part l)))
              (items_shown-the_row-Part-0 a ps) b.0),
        )
    part_apart _ r = tt

    body_row_apart : {n : _} (row : Row_of-Part n)
        → Reads text tokens (rep body_part) (nodes (map a_body_part (items-the_row-Part n row)))
        → RowApart IsBegin row
    body_row_apart end_of-Part r = tt
    body_row_apart (more_of-Part x rest) r =
        let q = in_rep text tokens r in (
          part_apart x (of_bodies (out-Part x) (in_node text tokens q.0)),
          body_row_apart rest q.1,
        )

  pub common_parts_apart : (xs : List Part)
      → Reads text tokens (rep (rule grammar.common)) (nodes (map a_common_part xs))
      → AllApart IsBegin xs
  common_parts_apart [] r = tt
  common_parts_apart (x ∷ xs) r =
      let q = in_rep text tokens r in (
        part_apart x (of_common (out-Part x) (in_node text tokens q.0)),
        common_parts_apart xs q.1,
      )
