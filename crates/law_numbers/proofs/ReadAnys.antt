-- What each `any` of a sentence is read as: names of short types, after a word with which no block
-- begins.
use Rattle.std.specs.Prelude.{map}
use Rattle.std.proofs.Common.{◌≡◌, ℕ, List, [], ◌∷◌, Option, Some, None, true, slice_get}
use Rattle.std.proofs.Common.{refl, subst, sym, true≢false}
use Rattle.std.specs.List.{AllByRecursion}
use Rattle.est_lexer.specs.declared.kind.ReservedWord.TheVariants as words
use Rattle.est_lexer.specs.declared.kind.Symbol.TheVariants as symbols
use Rattle.est_lexer.specs.declared.kind.Token.{Token}
use Rattle.est_lexer.specs.declared.kind.TokenKind.TheVariants.{Reserved}
use Rattle.est_syntax.specs.declared.body.Body.{Body, Body', out-Body, Row_of-Group, end_of-Group}
use Rattle.est_syntax.specs.declared.body.Body.{more_of-Group, items-the_row-Group}
use Rattle.est_syntax.specs.declared.body.Body.{items_shown-the_row-Group-1}
use Rattle.est_syntax.specs.declared.body.Part.{out-Part}
use Rattle.est_syntax.specs.declared.specification.Spec.{Spec}
use Rattle.est_syntax.specs.declared.transition.Clause.{Clause}
use Rattle.est_syntax.specs.declared.transition.Clause.TheVariants as clauses
use Rattle.est_syntax.specs.declared.transition.Group.{Group', out-Group, Row_of-Transition}
use Rattle.est_syntax.specs.declared.transition.Group.{end_of-Transition, more_of-Transition}
use Rattle.est_syntax.specs.declared.transition.Group.{items-the_row-Transition}
use Rattle.est_syntax.specs.declared.transition.Group.{items_shown-the_row-Transition-2}
use Rattle.est_syntax.specs.declared.transition.Transition.{Transition, out-Transition}
use Rattle.est_syntax.specs.declared.type_text.TypeText.{TypeText}
use Rattle.est_syntax.specs.declared.type_text.TypeText.TheVariants as text_form
use Rattle.est_syntax.specs.declared.type_text.VarDef.{VarDef}
use Rattle.text_reader.specs.Grammar.{word, here, alt, rep, rule, meets, t_here, t_word, t_left}
use Rattle.text_reader.specs.Grammar.{t_right}
use Rattle.text_reader.specs.Shown.{Shows, at, pair, empty, first, second, node, nodes, s_at}
use Rattle.text_reader.specs.Shown.{s_first, s_second}
use Rattle.text_reader.specs.Going.{Shape}
use Rattle.text_reader.specs.Tests.{Test, kind, holds}
use Rattle.text_reader.proofs.Apart.{apart-holds}
use Rattle.text_productions.specs.Nodes.{View, choice, a_body, a_clause, a_group}
use Rattle.text_productions.specs.Nodes.{a_parameter, a_short_type, a_transition, layer}
use Rattle.text_productions.specs.Productions as grammar
use Rattle.text_productions.specs.Productions.{Rule, production, several, symbol, params}
use Rattle.est_grammar.specs.Answer.{HasOneTree}
use Rattle.law_places.proofs.FromTexts.{short_placed}
use Rattle.law_places.proofs.Placed.{ShortPlaced}
use Rattle.law_sentences.proofs.Apart.{IsBegin}
use Rattle.law_sentences.proofs.Reading.{TreeOf, Reads, reads_stands, in_word, in_rule, in_node}
use Rattle.law_sentences.proofs.Reading.{in_here, in_left, in_right, in_seq, in_list, in_rep}
use Rattle.law_sentences.proofs.Reading.{no_list}
use Rattle.law_numbers.proofs.EachBody.{AllBodies}
use Rattle.law_numbers.proofs.EachClause.{TransitionsHave, GroupsHave, BodyHas}
use Rattle.law_numbers.proofs.ReadBodies.{body_parts, bodies_read}

-- a type is a name or a range, so its text declares nothing
abbrev pub IsShortText : TypeText → Type 0
IsShortText (text_form.Named u) = Unit {0}
IsShortText (text_form.Range low high) = Unit {0}
IsShortText _ = ⊥

short_is : (i j : ℕ) (t : TypeText) → ShortPlaced i j t → IsShortText t
short_is i j (text_form.Named u) h = tt
short_is i j (text_form.Range low high) h = tt
short_is i j (text_form.Names names place) h = h
short_is i j (text_form.Array' a index b of place) h = h
short_is i j (text_form.Fields' a defs place) h = h
short_is i j (text_form.Set' a of place) h = h

abbrev pub HasShortText : VarDef → Type 0
HasShortText v = IsShortText v.text

module _ (text : List ℕ) (tokens : List Token) where
  -- an `any` has names, of short types, and no block begins with its word
  abbrev pub IsRead : Clause → Type 0
  IsRead (clauses.Any [] place) = ⊥
  IsRead (clauses.Any (v ∷ vs) place) =
      (IsBegin text tokens place → ⊥) × AllByRecursion HasShortText (v ∷ vs)
  IsRead _ = Unit {0}

  -- WORDS

  abbrev Meets : Test → ℕ → Type 0
  Meets k place = meets (holds text) k (slice_get tokens place) ≡ true

  abbrev any_word : Test
  any_word = kind (Reserved words.Any)

  not_begin : (x : Option Token) → meets (holds text) any_word x ≡ true
      → meets (holds text) (kind (Reserved words.Begin)) x ≡ true → ⊥
  not_begin None h k = absurd (true≢false (sym h))
  not_begin (Some t) h k =
      apart-holds text any_word (kind (Reserved words.Begin)) t refl h k

  -- a tree from a place on
  abbrev ReadsFrom : ℕ → Rule → View → Type 0
  ReadsFrom a g v = (d : ℕ) × (b : ℕ) × (t : Shape) × TreeOf text tokens g d a b t × Shows layer v t

  from_here_by : {g : Rule} {p : ℕ} {w : View} {d a b : ℕ} {t : Shape}
      → TreeOf text tokens (here g) d a b t → Shows layer (at p w) t → ReadsFrom p g w
  from_here_by (t_here x) (s_at p s) = (_, _, _, x, s)

  from_left_by : {g h : Rule} {w : View} {d a b : ℕ} {t : Shape}
      → TreeOf text tokens (alt g h) d a b t → Shows layer (first w) t → ReadsFrom a g w
  from_left_by (t_left x) (s_first s) = (_, _, _, x, s)
  from_left_by (t_right x) s = elim s [ ]

  from_right_by : {g h : Rule} {w : View} {d a b : ℕ} {t : Shape}
      → TreeOf text tokens (alt g h) d a b t → Shows layer (second w) t → ReadsFrom a h w
  from_right_by (t_right x) (s_second s) = (_, _, _, x, s)
  from_right_by (t_left x) s = elim s [ ]

  from_left : {g h : Rule} {w : View} {a : ℕ} → ReadsFrom a (alt g h) (first w) → ReadsFrom a g w
  from_left r = from_left_by r.3 r.4

  from_right : {g h : Rule} {w : View} {a : ℕ} → ReadsFrom a (alt g h) (second w)
      → ReadsFrom a h w
  from_right r = from_right_by r.3 r.4

  word_by : {k : Test} {g : Rule} {d a b : ℕ} {t : Shape} → TreeOf text tokens (word k g) d a b t
      → Meets k a
  word_by (t_word k l e x) = e

  -- CLAUSES

  param_short : (v : VarDef) → Reads text tokens (rule grammar.param) (node (a_parameter v))
      → HasShortText v
  param_short v r =
      let q = in_word text tokens (in_seq text tokens
      (in_node text tokens (in_rule text tokens r))).1 in
      let s = reads_stands text tokens (rule grammar.shorttype) (node (a_short_type v.text)) q in
      short_is s.0 s.1 v.text (short_placed v.text s.2)

  more_short : (vs : List VarDef)
      → Reads text tokens (rep (symbol symbols.Semicolon (rule grammar.param)))
      (nodes (map a_parameter vs)) → AllByRecursion HasShortText vs
  more_short [] r = tt
  more_short (v ∷ vs) r =
      let q = in_rep text tokens r in (param_short v (in_word text tokens q.0), more_short vs q.1)

  any_params : (vs : List VarDef) (place : ℕ)
      → Reads text tokens (production grammar.clause)
      (at place (choice 4 (pair (nodes (map a_parameter vs)) empty)))
      → Reads text tokens params (nodes (map a_parameter vs))
  any_params vs place r =
      (in_seq text tokens (in_word text tokens (in_left text tokens (in_right text tokens
      (in_right text tokens (in_right text tokens (in_right text tokens
      (in_here text tokens r)))))))).0

  any_read : (vs : List VarDef) (place : ℕ)
      → Reads text tokens (production grammar.clause)
      (at place (choice 4 (pair (nodes (map a_parameter vs)) empty)))
      → IsRead (clauses.Any vs place)
  any_read [] place r = absurd (no_list text tokens (any_params [] place r))
  any_read (v ∷ vs) place r =
      let w = from_left (from_right (from_right (from_right (from_right
      (from_here_by r.4 r.5))))) in
      let q = in_list text tokens (any_params (v ∷ vs) place r) in (
        not_begin (slice_get tokens place) (word_by w.3),
        (param_short v q.0, more_short vs q.1),
      )

  clause_read : (c : Clause) → Reads text tokens (rule grammar.clause) (node (a_clause c))
      → IsRead c
  clause_read (clauses.Any vs place) r =
      any_read vs place (in_node text tokens (in_rule text tokens r))
  clause_read (clauses.From states place) r = tt
  clause_read (clauses.To state place) r = tt
  clause_read (clauses.When ip signal place) r = tt
  clause_read (clauses.Provided condition place) r = tt
  clause_read (clauses.Otherwise place) r = tt
  clause_read (clauses.Priority value place) r = tt
  clause_read (clauses.Delay least most place) r = tt

  clauses_read : (cs : List Clause)
      → Reads text tokens (rep (rule grammar.clause)) (nodes (map a_clause cs))
      → AllByRecursion IsRead cs
  clauses_read [] r = tt
  clauses_read (c ∷ cs) r =
      let q = in_rep text tokens r in (clause_read c q.0, clauses_read cs q.1)

  -- TRANSITIONS

  own_clauses : (t : Transition)
      → Reads text tokens (rule grammar.transition) (node (a_transition t))
      → AllByRecursion IsRead (out-Transition t).clauses
  own_clauses t r =
      clauses_read (out-Transition t).clauses
      (in_seq text tokens (in_node text tokens (in_rule text tokens r))).0

  transitions_read : {n : _} (row : Row_of-Transition n)
      → Reads text tokens (rep (rule grammar.transition))
      (nodes (map a_transition (items-the_row-Transition n row))) → TransitionsHave IsRead row
  unfolding out-Part denote.Hole.Carrier.out denote.Hole.Carrier.shown
  transitions_read end_of-Transition r = tt
  transitions_read (more_of-Transition cs name a parts ss place rest) r =
      let q = in_rep text tokens r in (own_clauses _ q.0, transitions_read rest q.1)

  several_transitions_read : {n : _} (row : Row_of-Transition n)
      → Reads text tokens (several (rule grammar.transition))
      (nodes (map a_transition (items-the_row-Transition n row))) → TransitionsHave IsRead row
  unfolding out-Part denote.Hole.Carrier.out denote.Hole.Carrier.shown
  several_transitions_read end_of-Transition r = tt
  several_transitions_read (more_of-Transition cs name a parts ss place rest) r =
      let q = in_list text tokens r in (own_clauses _ q.0, transitions_read rest q.1)

  groups_read : {n : _} (row : Row_of-Group n)
      → Reads text tokens (rep (rule grammar.transpart))
      (nodes (map a_group (items-the_row-Group n row))) → GroupsHave IsRead row
  unfolding out-Group denote.Hole.Carrier.out denote.Hole.Carrier.shown
  groups_read end_of-Group r = tt
  groups_read (more_of-Group (Group' a transitions) rest) r =
      let q = in_rep text tokens r in
      let t = in_word text tokens (in_node text tokens (in_rule text tokens q.0)) in (
        several_transitions_read transitions
            (subst (λ ts. Reads text tokens (several (rule grammar.transition))
            (nodes (map a_transition ts))) (items_shown-the_row-Transition-2 a transitions) t),
        groups_read rest q.1,
      )

  -- BODIES

  body_read : (b : Body) → Reads text tokens (rule grammar.body) (node (a_body b))
      → BodyHas IsRead b
  unfolding out-Body denote.Hole.Carrier.out denote.Hole.Carrier.shown
  body_read (Body' name header a ps f c groups) r =
      groups_read groups
      (subst (λ l. Reads text tokens (rep (rule grammar.transpart)) (nodes (map a_group l)))
      (items_shown-the_row-Group-1 c groups)
      (body_parts text tokens (Body' name header a ps f c groups) r).1)

  -- each `any` of a sentence is read so
  pub sentence_read : (s : Spec) → HasOneTree text tokens s → AllBodies (BodyHas IsRead) s.parts
  sentence_read s h = bodies_read text tokens (BodyHas IsRead) body_read s h
