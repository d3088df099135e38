-- A value opens no level: what holds no other production is read alike at all levels.
use Rattle.std.proofs.Common.{◌≡◌, ℕ, ℤ, pos, negsuc, Bool, true, false, ◌&&◌, not, List, []}
use Rattle.std.proofs.Common.{◌∷◌, take, refl, ap₂, Option, Some, None, slice_get, bytes_eq}
use Rattle.std.proofs.Common.{replicate}
use Rattle.std.specs.List.{list_any}
use Rattle.est_lexer.specs.declared.kind.Token.{Token}
use Rattle.est_lexer.specs.declared.kind.Symbol.{Symbol}
use Rattle.est_lexer.specs.declared.kind.Symbol.TheVariants as symbols
use Rattle.text_reader.specs.Grammar.{done, none, word, token, here, skip, seq, alt, opt, rep}
use Rattle.text_reader.specs.Grammar.{nearest, ended, deeper, rule, when, one_of, Language}
use Rattle.text_reader.specs.Grammar.{Tree, t_done, t_word, t_token, t_here, t_skip, t_seq}
use Rattle.text_reader.specs.Grammar.{t_left, t_right, t_opt_out, t_opt_in, t_rep_out, t_rep_in}
use Rattle.text_reader.specs.Grammar.{t_nearest_out, t_nearest_in, t_ended_out, t_ended_last}
use Rattle.text_reader.specs.Grammar.{t_ended_in, t_deeper, t_rule, Partial, p_none, p_whole}
use Rattle.text_reader.specs.Grammar.{p_word, p_here, p_skip, p_first, p_second, p_left}
use Rattle.text_reader.specs.Grammar.{p_right, p_opt, p_rep_first, p_rep_more, p_nearest}
use Rattle.text_reader.specs.Grammar.{p_ended_first, p_ended_more, p_deeper, p_rule}
use Rattle.text_reader.specs.Opening.{OpensOneMore, o_now, o_word, o_here, o_skip, o_first}
use Rattle.text_reader.specs.Opening.{o_second, o_left, o_right, o_opt, o_rep_first, o_rep_more}
use Rattle.text_reader.specs.Opening.{o_nearest, o_ended_first, o_ended_more, o_deeper, o_rule}
use Rattle.text_reader.proofs.Members.{and_left, and_right}
use Rattle.est_syntax.specs.declared.kind.Kind.{Kind, out-Kind}
use Rattle.est_syntax.specs.declared.kind.Kind.TheOpen as kinds
use Rattle.est_syntax.specs.declared.ports.Direction.{Direction}
use Rattle.est_syntax.specs.declared.ports.Direction.TheVariants.{Receives, Sends}
use Rattle.est_syntax.specs.declared.ports.Port.{Port}
use Rattle.est_syntax.specs.declared.ports.Signal.{Signal}
use Rattle.est_values.specs.FittingValues.{first_ordinal, last_ordinal, ordinal_count, KindLayer}
use Rattle.est_values.specs.OrdinalTuples.{ordinals_of}
use Rattle.text_reader.specs.Tests.{Test, Kept, named, language}
use Rattle.text_reader.specs.Going as going
use Rattle.text_values.specs.declared.formats.Format.{Format}
use Rattle.text_values.specs.declared.formats.Format.TheVariants as formats
use Rattle.text_values.specs.TraceGrammar.{Production, events_at, lists_at, value_of, seen_of, Rule}
use Rattle.text_values.specs.TraceGrammar.{more}
use Rattle.text_values.specs.TraceGrammar.{listed, bracketed, integers, characters, constant}
use Rattle.text_values.specs.TraceGrammar.{numbered_constant, constants, boolean_names}
use Rattle.text_values.specs.TraceGrammar.{bytes_of, host_by, ordinal_by, ordinal, field_kinds}
use Rattle.text_values.specs.TraceGrammar.{scalar, set, group_of, formed, a_value, value, a_seen}
use Rattle.text_values.specs.TraceGrammar.{seen, passes, some_pass, parenthesized, brackets}
use Rattle.text_values.specs.TraceGrammar.{subscripts, signal, dot_signal, is_head, port, event}
use Rattle.text_values.specs.TraceGrammar.{production}

-- whether it opens no level
abbrev pub level_free : Rule → Bool
level_free done = true
level_free none = true
level_free (word k g) = level_free g
level_free (token k) = true
level_free (here g) = level_free g
level_free (skip g) = level_free g
level_free (seq g h) = level_free g && level_free h
level_free (alt g h) = level_free g && level_free h
level_free (opt g) = level_free g
level_free (rep g) = level_free g
level_free (nearest k g) = level_free g
level_free (ended k g) = level_free g
level_free (deeper g) = false
level_free (rule (events_at f ports)) = false
level_free (rule (lists_at ports at)) = false
level_free (rule (value_of k)) = true
level_free (rule (seen_of k)) = true

both_free : (a b : Bool) → a ≡ true → b ≡ true → (a && b) ≡ true
both_free a b e f = ap₂ (λ x y. x && y) e f

pub when_free : (b : Bool) (g : Rule) → level_free g ≡ true → level_free (when b g) ≡ true
when_free true g e = e
when_free false g e = refl

pub one_of_free : {A : Type 0} (f : A → Rule) (xs : List A)
    → ((x : A) → level_free (f x) ≡ true) → level_free (one_of f xs) ≡ true
one_of_free f [] h = refl
one_of_free f (x ∷ xs) h = both_free _ _ (h x) (one_of_free f xs h)

more_free : {A : Type 0} (f : A → Rule) (xs : List A) → ((x : A) → level_free (f x) ≡ true)
    → level_free (more f xs) ≡ true
more_free f [] h = refl
more_free f (x ∷ xs) h = both_free _ _ (h x) (more_free f xs h)

listed_free : {A : Type 0} (f : A → Rule) (xs : List A) → ((x : A) → level_free (f x) ≡ true)
    → level_free (listed f xs) ≡ true
listed_free f [] h = refl
listed_free f (x ∷ xs) h = both_free _ _ (h x) (more_free f xs h)

bracketed_free : {A : Type 0} (first last : Symbol) (f : A → Rule) (xs : List A)
    → ((x : A) → level_free (f x) ≡ true) → level_free (bracketed first last f xs) ≡ true
bracketed_free first last f [] h = refl
bracketed_free first last f (x ∷ xs) h = both_free _ _ (listed_free f (x ∷ xs) h) refl

numbered_free : (names : List (List ℕ)) (n : ℕ) (o : Option (List ℕ))
    → level_free (numbered_constant names n o) ≡ true
numbered_free names n None = refl
numbered_free names n (Some name) =
    when_free (not (list_any (bytes_eq name) (take n names))) (word (named name) done) refl

constant_free : (names : List (List ℕ)) (z : ℤ) → level_free (constant names z) ≡ true
constant_free names (pos n) = numbered_free names n (slice_get names n)
constant_free names (negsuc n) = refl

constants_free : (names : List (List ℕ)) (k : Kind) → level_free (constants names k) ≡ true
constants_free names k = one_of_free (constant names) (ordinals_of k) (constant_free names)

integers_free : (low high : ℤ) → level_free (integers low high) ≡ true
integers_free (pos a) (pos b) = refl
integers_free (pos a) (negsuc b) = refl
integers_free (negsuc a) (pos b) = refl
integers_free (negsuc a) (negsuc b) = refl

characters_free : (low high : ℤ) → level_free (characters low high) ≡ true
characters_free low (pos b) = refl
characters_free low (negsuc b) = refl

ordinal_by_free : (l : KindLayer) (k : Kind) → level_free (ordinal_by l k) ≡ true
ordinal_by_free kinds.Integer k = integers_free (first_ordinal k) (last_ordinal k)
ordinal_by_free kinds.Boolean k = constants_free boolean_names k
ordinal_by_free kinds.Char k = characters_free (first_ordinal k) (last_ordinal k)
ordinal_by_free (kinds.Enumeration declared names) k = constants_free (bytes_of names) k
ordinal_by_free (kinds.Part host low high) k = refl
ordinal_by_free (kinds.SetOf base) k = refl
ordinal_by_free (kinds.ArrayOf index of) k = refl
ordinal_by_free (kinds.Fields fields) k = refl

pub ordinal_free : (k : Kind) → level_free (ordinal k) ≡ true
ordinal_free k = ordinal_by_free (out-Kind (host_by (out-Kind k) k)) k

scalar_free : (g : Rule) → level_free g ≡ true → level_free (scalar g) ≡ true
scalar_free g e = both_free _ _ e refl

set_free : (base : Kind) → level_free (set base) ≡ true
set_free base = both_free _ _ (both_free _ _ (ordinal_free base) (ordinal_free base)) refl

-- what is made of parts that open no level
module _ (part : Kind → Rule) (free : (k : Kind) → level_free (part k) ≡ true) where
  group_free : (ks : List Kind) → level_free (group_of part ks) ≡ true
  group_free ks = both_free _ _ (listed_free part ks free) refl

  formed_free : (l : KindLayer) (k : Kind) → level_free (formed part l k) ≡ true
  formed_free kinds.Integer k = scalar_free (ordinal k) (ordinal_free k)
  formed_free kinds.Boolean k = scalar_free (ordinal k) (ordinal_free k)
  formed_free kinds.Char k = scalar_free (ordinal k) (ordinal_free k)
  formed_free (kinds.Enumeration declared names) k = scalar_free (ordinal k) (ordinal_free k)
  formed_free (kinds.Part host low high) k = scalar_free (ordinal k) (ordinal_free k)
  formed_free (kinds.SetOf base) k = scalar_free (set base) (set_free base)
  formed_free (kinds.ArrayOf index of) k = group_free (replicate (ordinal_count index) of)
  formed_free (kinds.Fields fields) k = group_free (field_kinds fields)

  parenthesized_free : (ks : List Kind) → level_free (parenthesized part ks) ≡ true
  parenthesized_free ks =
      bracketed_free symbols.LeftParenthesis symbols.RightParenthesis part ks free

value_free : (k : Kind) → level_free (value k) ≡ true
value_free k = formed_free a_value (λ j. refl) (out-Kind k) k

seen_free : (k : Kind) → level_free (seen k) ≡ true
seen_free k = formed_free a_seen (λ j. refl) (out-Kind k) k

-- parameters, subscripts, signals, ports and events
brackets_free : (direction : Direction) (f : Format) (ks : List Kind)
    → level_free (brackets direction f ks) ≡ true
brackets_free Receives f ks = parenthesized_free a_value (λ j. refl) ks
brackets_free Sends formats.Complete ks = parenthesized_free a_value (λ j. refl) ks
brackets_free Sends formats.Partial ks = parenthesized_free a_seen (λ j. refl) ks

pub subscripts_free : (ks : List Kind) → level_free (subscripts ks) ≡ true
subscripts_free ks =
    bracketed_free symbols.LeftBracket symbols.RightBracket ordinal ks ordinal_free

pub signal_free : (f : Format) (direction : Direction) (x : Signal)
    → level_free (signal f direction x) ≡ true
signal_free f direction x = when_free (passes direction x)
    (word (named x.name.bytes) (brackets direction f x.kinds)) (brackets_free direction f x.kinds)

pub port_free : (f : Format) (direction : Direction) (p : Port)
    → level_free (port f direction p) ≡ true
port_free f direction p = when_free (is_head p && some_pass direction p.signals)
    (word (named p.name.bytes)
    (seq (subscripts p.index_kinds) (dot_signal f direction p.signals)))
    (both_free _ _ (subscripts_free p.index_kinds)
    (one_of_free (signal f direction) p.signals (signal_free f direction)))

pub event_free : (f : Format) (ports : List Port) → level_free (event f ports) ≡ true
event_free f ports = both_free _ _ (one_of_free (port f Receives) ports (port_free f Receives))
    (one_of_free (port f Sends) ports (port_free f Sends))

module _ (text : List ℕ) (s : List Token) where
  abbrev L : Language Token Kept Test Production
  L = language production text

  pub tree_any : (n e : ℕ) {g : Rule} {d a b : ℕ} {t : going.Shape} → level_free g ≡ true
      → Tree L s n g d a b t → Tree L s n g e a b t
  tree_any n e f t_done = t_done
  tree_any n e f (t_word k l w x) = t_word k l w (tree_any n e f x)
  tree_any n e f (t_token v k l w z) = t_token v k l w z
  tree_any n e f (t_here x) = t_here (tree_any n e f x)
  tree_any n e f (t_skip x) = t_skip (tree_any n e f x)
  tree_any n e f (t_seq x y) = t_seq (tree_any n e (and_left _ _ f) x)
      (tree_any n e (and_right _ _ f) y)
  tree_any n e f (t_left x) = t_left (tree_any n e (and_left _ _ f) x)
  tree_any n e f (t_right x) = t_right (tree_any n e (and_right _ _ f) x)
  tree_any n e f t_opt_out = t_opt_out
  tree_any n e f (t_opt_in x) = t_opt_in (tree_any n e f x)
  tree_any n e f t_rep_out = t_rep_out
  tree_any n e f (t_rep_in x y) = t_rep_in (tree_any n e f x) (tree_any n e f y)
  tree_any n e f (t_nearest_out k) = t_nearest_out k
  tree_any n e f (t_nearest_in k l w x) = t_nearest_in k l w (tree_any n e f x)
  tree_any n e f t_ended_out = t_ended_out
  tree_any n e f (t_ended_last k l w) = t_ended_last k l w
  tree_any n e f (t_ended_in k l w x y) = t_ended_in k l w (tree_any n e f x) (tree_any n e f y)
  tree_any n e f (t_deeper x) = absurd cc
  tree_any n e f (t_rule {p = events_at format ports} x) = absurd cc
  tree_any n e f (t_rule {p = lists_at ports at} x) = absurd cc
  tree_any n e f (t_rule {p = value_of k} x) = t_rule (tree_any n e (value_free k) x)
  tree_any n e f (t_rule {p = seen_of k} x) = t_rule (tree_any n e (seen_free k) x)

  pub partial_any : (n e : ℕ) {g : Rule} {d a : ℕ} → level_free g ≡ true → Partial L s n g d a
      → Partial L s n g e a
  partial_any n e f (p_none q) = p_none q
  partial_any n e f (p_whole x q) = p_whole (tree_any n e f x) q
  partial_any n e f (p_word k l w x) = p_word k l w (partial_any n e f x)
  partial_any n e f (p_here x) = p_here (partial_any n e f x)
  partial_any n e f (p_skip x) = p_skip (partial_any n e f x)
  partial_any n e f (p_first x) = p_first (partial_any n e (and_left _ _ f) x)
  partial_any n e f (p_second x y) = p_second (tree_any n e (and_left _ _ f) x)
      (partial_any n e (and_right _ _ f) y)
  partial_any n e f (p_left x) = p_left (partial_any n e (and_left _ _ f) x)
  partial_any n e f (p_right x) = p_right (partial_any n e (and_right _ _ f) x)
  partial_any n e f (p_opt x) = p_opt (partial_any n e f x)
  partial_any n e f (p_rep_first x) = p_rep_first (partial_any n e f x)
  partial_any n e f (p_rep_more x y) = p_rep_more (tree_any n e f x) (partial_any n e f y)
  partial_any n e f (p_nearest k l w x) = p_nearest k l w (partial_any n e f x)
  partial_any n e f (p_ended_first k l w x) = p_ended_first k l w (partial_any n e f x)
  partial_any n e f (p_ended_more k l w x y) = p_ended_more k l w (tree_any n e f x)
      (partial_any n e f y)
  partial_any n e f (p_deeper x) = absurd cc
  partial_any n e f (p_rule {p = events_at format ports} x) = absurd cc
  partial_any n e f (p_rule {p = lists_at ports at} x) = absurd cc
  partial_any n e f (p_rule {p = value_of k} x) = p_rule (partial_any n e (value_free k) x)
  partial_any n e f (p_rule {p = seen_of k} x) = p_rule (partial_any n e (seen_free k) x)

  -- no token opens a level too many
  pub free_opens_none : (i : ℕ) {g : Rule} {d a : ℕ} → level_free g ≡ true
      → OpensOneMore L s i g d a → ⊥
  free_opens_none i f (o_now e x) = cc
  free_opens_none i f (o_word k l e x) = free_opens_none i f x
  free_opens_none i f (o_here x) = free_opens_none i f x
  free_opens_none i f (o_skip x) = free_opens_none i f x
  free_opens_none i f (o_first x) = free_opens_none i (and_left _ _ f) x
  free_opens_none i f (o_second x y) = free_opens_none i (and_right _ _ f) y
  free_opens_none i f (o_left x) = free_opens_none i (and_left _ _ f) x
  free_opens_none i f (o_right x) = free_opens_none i (and_right _ _ f) x
  free_opens_none i f (o_opt x) = free_opens_none i f x
  free_opens_none i f (o_rep_first x) = free_opens_none i f x
  free_opens_none i f (o_rep_more x y) = free_opens_none i f y
  free_opens_none i f (o_nearest k l e x) = free_opens_none i f x
  free_opens_none i f (o_ended_first k l e x) = free_opens_none i f x
  free_opens_none i f (o_ended_more k l e x y) = free_opens_none i f y
  free_opens_none i f (o_deeper x) = cc
  free_opens_none i f (o_rule {p = events_at format ports} x) = cc
  free_opens_none i f (o_rule {p = lists_at ports at} x) = cc
  free_opens_none i f (o_rule {p = value_of k} x) = free_opens_none i (value_free k) x
  free_opens_none i f (o_rule {p = seen_of k} x) = free_opens_none i (seen_free k) x
