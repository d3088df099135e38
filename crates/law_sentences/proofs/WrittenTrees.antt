-- The declarations of a tree are written as sentences have them.
use Rattle.std.specs.Prelude.{map}
use Rattle.std.proofs.Common.{◌≡◌, refl, ℕ, suc, ◌+◌, ◌≤◌, ◌<◌, subst, List, [], ◌∷◌, length}
use Rattle.std.proofs.Common.{arith}
use Rattle.est_lexer.specs.declared.kind.Token.{Token}
use Rattle.est_lexer.specs.declared.kind.Symbol.TheVariants as symbols
use Rattle.est_lexer.specs.declared.kind.TokenKind.TheVariants as token
use Rattle.est_syntax.specs.Kinds.{maxint}
use Rattle.est_syntax.specs.declared.name.Used.{Used}
use Rattle.est_syntax.specs.declared.type_text.TypeText.{TypeText, out-TypeText, Row_of-TypeText}
use Rattle.est_syntax.specs.declared.type_text.TypeText.{end_of-TypeText, more_of-TypeText}
use Rattle.est_syntax.specs.declared.type_text.TypeText.{items-the_row-TypeText, Row_of-VarDef}
use Rattle.est_syntax.specs.declared.type_text.TypeText.{end_of-VarDef, more_of-VarDef}
use Rattle.est_syntax.specs.declared.type_text.TypeText.{items-the_row-VarDef}
use Rattle.est_syntax.specs.declared.type_text.TypeText.{items_shown-the_row-TypeText-0}
use Rattle.est_syntax.specs.declared.type_text.TypeText.{items_shown-the_row-VarDef-2}
use Rattle.est_syntax.specs.declared.type_text.TypeText.TheBlock.{shape-the_row-TypeText-1}
use Rattle.est_syntax.specs.declared.type_text.TypeText.TheBlock.{hidden-the_row-TypeText-1}
use Rattle.est_syntax.specs.declared.type_text.TypeText.TheBlock.{shown-the_row-TypeText-1}
use Rattle.est_syntax.specs.declared.type_text.TypeText.TheVariants as texts
use Rattle.est_syntax.specs.declared.type_text.TypeDef.{TypeDef}
use Rattle.est_syntax.specs.declared.type_text.VarDef.{VarDef}
use Rattle.rule_declares.specs.Lasts.{text_last}
use Rattle.text_reader.specs.Grammar.{word, here, seq, rep, ended, rule, t_word, t_here, t_seq}
use Rattle.text_reader.specs.Shown.{Shows, at, pair, node, nodes, s_at, s_pair, s_node, s_more}
use Rattle.text_reader.specs.Tests.{Test, kind}
use Rattle.text_reader.specs.Going.{Shape, identifier, used}
use Rattle.law_places.specs.PlaceOrder.{Stands, o_none, o_more, o_node, o_at, o_kept}
use Rattle.text_productions.specs.Productions as grammar
use Rattle.text_productions.specs.Productions.{Rule, idents, several, listed, symbol, field, fields}
use Rattle.text_productions.specs.Productions.{typetext, typedef, vardef}
use Rattle.text_productions.specs.Nodes.{Node, View, layer, a_use, a_type, a_field}
use Rattle.text_productions.specs.Nodes.{a_type_definition, a_variable}
use Rattle.law_places.specs.Said.{Each}
use Rattle.law_sentences.specs.WrittenExpressions.{FirstAfter, HasConstants, RowHas, FieldsHave}
use Rattle.law_sentences.specs.WrittenParts.{TypeDefWritten, VarDefWritten}
use Rattle.law_sentences.proofs.Places as places
use Rattle.law_sentences.proofs.Uses.{text_then}
use Rattle.law_sentences.proofs.UsesStand.{text_to_last}
use Rattle.law_sentences.proofs.Reading.{TreeOf, Reads, reads_stands, in_word, in_here, in_deeper}
use Rattle.law_sentences.proofs.Reading.{in_rule, in_node, in_seq, in_left, in_right, in_list}
use Rattle.law_sentences.proofs.Reading.{no_list, in_rep, in_ended}

-- each name of a list takes a place
names_count : (us : List Used) (a b : ℕ) → Stands layer (nodes (map a_use us)) a b
    → a + length us ≤ b
names_count [] a b (o_none l) = omega arith
names_count (u ∷ us) a b (o_more {k = k} (o_node (o_at l (o_kept m))) t) =
    let n = names_count us k b t in omega arith

module _ (text : List ℕ) (tokens : List Token) (few : length tokens ≤ suc maxint) where
  -- the items of a list, of which each is read so
  rep_written : {A : Type 0} (part : A → Node) (g : Rule) (P : A → Type 0)
      (f : (x : A) → Reads text tokens g (node (part x)) → P x) (xs : List A)
      → Reads text tokens (rep g) (nodes (map part xs)) → Each P xs
  rep_written part g P f [] r = tt
  rep_written part g P f (x ∷ xs) r =
      let q = in_rep text tokens r in (f x q.0, rep_written part g P f xs q.1)

  several_written : {A : Type 0} (part : A → Node) (g : Rule) (P : A → Type 0)
      (f : (x : A) → Reads text tokens g (node (part x)) → P x) (xs : List A)
      → Reads text tokens (several g) (nodes (map part xs)) → Each P xs
  several_written part g P f [] r = tt
  several_written part g P f (x ∷ xs) r =
      let q = in_list text tokens r in (f x q.0, rep_written part g P f xs q.1)

  -- the constants of an enumeration
  names_written : (us : List Used) → Reads text tokens idents (nodes (map a_use us))
      → (0 < length us) × (length us ≤ suc maxint)
  names_written [] r = absurd (no_list text tokens r)
  names_written (u ∷ us) r =
      let s = reads_stands text tokens idents (nodes (map a_use (u ∷ us))) r in
      let n = names_count (u ∷ us) s.0 s.1 s.2 in
      let m = s.3 in (omega arith, omega arith)

  -- the first of them stands right after the parenthesis
  name_at : {u : Used} {d a b : ℕ} {t : Shape} → TreeOf text tokens identifier d a b t
      → Shows layer (used u) t → u.place ≡ a
  name_at (t_here x) (s_at place s) = refl

  first_name : {g : Rule} {u : Used} (us : List Used) {d a b : ℕ} {t : Shape}
      → TreeOf text tokens (seq identifier g) d a b t
      → Shows layer (nodes (map a_use (u ∷ us))) t → u.place ≡ a
  first_name us (t_seq x y) (s_more (s_node s) r) = name_at x s

  first_in : {h : Rule} (us : List Used) {v : View} {d a b : ℕ} {t : Shape}
      → TreeOf text tokens (seq idents h) d (suc a) b t
      → Shows layer (pair (nodes (map a_use us)) v) t → FirstAfter a us
  first_in [] x s = tt
  first_in (u ∷ us) (t_seq x y) (s_pair s r) = first_name us x s

  first_by : {k : Test} {h : Rule} (us : List Used) {v : View} {place d a b : ℕ} {t : Shape}
      → TreeOf text tokens (here (word k (seq idents h))) d a b t
      → Shows layer (at place (pair (nodes (map a_use us)) v)) t → FirstAfter place us
  first_by us (t_here (t_word k l e x)) (s_at place s) = first_in us x s

  first_after : {k : Test} {h : Rule} {v : View} (place : ℕ) (us : List Used)
      → Reads text tokens (here (word k (seq idents h)))
      (at place (pair (nodes (map a_use us)) v)) → FirstAfter place us
  first_after place us r = first_by us r.4 r.5

  -- texts of types
  mutual
    unfolding out-TypeText denote.Hole.Carrier.out shape-the_row-TypeText-1
        hidden-the_row-TypeText-1 shown-the_row-TypeText-1 denote.Hole.Carrier.shown

    text_written : (t : TypeText) → Reads text tokens (rule typetext) (node (a_type t))
        → HasConstants t
    text_written (texts.Named u) r = tt
    text_written (texts.Range low high) r = tt
    text_written (texts.Names names place) r =
        let q = in_left text tokens (in_right text tokens
        (in_node text tokens (in_rule text tokens r))) in
        let n = names_written names
        (in_seq text tokens (in_word text tokens (in_here text tokens q))).0 in
        (n.0, n.1, first_after place names q)
    text_written (texts.Array' x index y (more_of-TypeText of end_of-TypeText) place) r =
        let q = in_right text tokens (in_right text tokens
        (in_node text tokens (in_rule text tokens r))) in
        let w = in_left text tokens (in_seq text tokens (in_here text tokens q)).1 in
        let v = in_seq text tokens (in_word text tokens (in_word text tokens
        (in_deeper text tokens (in_rule text tokens w)))) in (
          first_row_written index
              (subst (λ ts. Reads text tokens (listed (rule typetext)) (nodes (map a_type ts)))
              (items_shown-the_row-TypeText-0 x index) v.0),
          (text_written of (in_word text tokens (in_word text tokens v.1)), tt),
        )
    text_written (texts.Fields' x defs place) r =
        let q = in_right text tokens (in_right text tokens
        (in_node text tokens (in_rule text tokens r))) in
        let w = in_left text tokens (in_right text tokens
        (in_seq text tokens (in_here text tokens q)).1) in
        let v = in_seq text tokens (in_word text tokens
        (in_deeper text tokens (in_rule text tokens w))) in
        first_fields_written defs
        (subst (λ ds. Reads text tokens fields (nodes (map a_field ds)))
        (items_shown-the_row-VarDef-2 x defs) v.0)
    text_written (texts.Set' x (more_of-TypeText of end_of-TypeText) place) r =
        let q = in_right text tokens (in_right text tokens
        (in_node text tokens (in_rule text tokens r))) in
        let w = in_right text tokens (in_right text tokens
        (in_seq text tokens (in_here text tokens q)).1) in (
          text_written of (in_word text tokens (in_word text tokens
              (in_deeper text tokens (in_rule text tokens w)))),
          tt,
        )

    first_row_written : {n : _} (row : Row_of-TypeText n)
        → Reads text tokens (listed (rule typetext))
        (nodes (map a_type (items-the_row-TypeText n row)))
        → RowHas row
    first_row_written end_of-TypeText r = tt
    first_row_written (more_of-TypeText t rest) r =
        let q = in_list text tokens r in (text_written t q.0, row_written rest q.1)

    row_written : {n : _} (row : Row_of-TypeText n)
        → Reads text tokens (rep (symbol symbols.Comma (rule typetext)))
        (nodes (map a_type (items-the_row-TypeText n row)))
        → RowHas row
    row_written end_of-TypeText r = tt
    row_written (more_of-TypeText t rest) r =
        let q = in_rep text tokens r in
        (text_written t (in_word text tokens q.0), row_written rest q.1)

    first_fields_written : {n : _} (row : Row_of-VarDef n)
        → Reads text tokens fields (nodes (map a_field (items-the_row-VarDef n row)))
        → FieldsHave row
    first_fields_written end_of-VarDef r = tt
    first_fields_written (more_of-VarDef names t rest) r =
        let q = in_list text tokens r in
        let w = in_seq text tokens (in_node text tokens q.0) in
        (text_written t (in_word text tokens w.1), fields_written rest q.1)

    fields_written : {n : _} (row : Row_of-VarDef n)
        → Reads text tokens (ended (kind (token.Symbol symbols.Semicolon)) field)
        (nodes (map a_field (items-the_row-VarDef n row)))
        → FieldsHave row
    fields_written end_of-VarDef r = tt
    fields_written (more_of-VarDef names t rest) r =
        let q = in_ended text tokens r in
        let w = in_seq text tokens (in_node text tokens q.0) in
        (text_written t (in_word text tokens w.1), fields_written rest q.1)

  -- types and variables
  typedef_written : (d : TypeDef) → Reads text tokens (rule typedef) (node (a_type_definition d))
      → TypeDefWritten d
  typedef_written d r =
      let s = reads_stands text tokens (rule typedef) (node (a_type_definition d)) r in
      let m = s.3 in
      let p = places.in_pair (places.in_node s.2) in
      let q = places.in_pair p.2 in
      let k = places.ascends q.2 in
      let uses = text_to_last d.text p.0 q.0 (omega arith) q.1 in
      let x = in_seq text tokens (in_node text tokens (in_rule text tokens r)) in
      let y = in_seq text tokens (in_word text tokens x.1) in (
        text_then (λ u. u.place < suc (text_last d.text)) (λ u. u.place ≤ text_last d.text)
            (λ u le. omega arith) d.text uses,
        text_written d.text y.0,
      )

  pub types_written : (ds : List TypeDef)
      → Reads text tokens (rule grammar.types) (nodes (map a_type_definition ds))
      → Each TypeDefWritten ds
  types_written ds r =
      several_written a_type_definition (rule typedef) TypeDefWritten typedef_written ds
      (in_word text tokens (in_rule text tokens r))

  vardef_written : (v : VarDef) → Reads text tokens (rule vardef) (node (a_variable v))
      → VarDefWritten v
  vardef_written v r =
      let x = in_seq text tokens (in_node text tokens (in_rule text tokens r)) in
      let y = in_seq text tokens (in_word text tokens x.1) in text_written v.text y.0

  pub vars_written : (vs : List VarDef)
      → Reads text tokens (rule grammar.vars) (nodes (map a_variable vs)) → Each VarDefWritten vs
  vars_written vs r =
      several_written a_variable (rule vardef) VarDefWritten vardef_written vs
      (in_word text tokens (in_rule text tokens r))
