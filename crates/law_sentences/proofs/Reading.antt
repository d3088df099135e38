-- What a view shows of a tree by a grammar, by the parts of both.
use Rattle.std.proofs.Common.{ℕ, ◌≤◌, List, [], ◌∷◌, length, arith}
use Rattle.est_lexer.specs.declared.kind.Token.{Token}
use Rattle.text_reader.specs.Grammar.{Tree, word, here, seq, alt, opt, rep, ended, deeper}
use Rattle.text_reader.specs.Grammar.{rule, t_word, t_here, t_seq, t_left, t_right, t_opt_out}
use Rattle.text_reader.specs.Grammar.{t_opt_in, t_rep_out, t_rep_in, t_ended_out, t_ended_last}
use Rattle.text_reader.specs.Grammar.{t_ended_in, t_deeper, t_rule}
use Rattle.text_reader.specs.Shown.{Shows, at, pair, first, second, given, node, nodes, nowhere}
use Rattle.text_reader.specs.Shown.{s_at, s_pair, s_first, s_second, s_given, s_node, s_more}
use Rattle.text_reader.proofs.Trees.{tree_forward}
use Rattle.text_reader.specs.Tests.{Test, language}
use Rattle.text_reader.specs.Going.{Shape}
use Rattle.text_productions.specs.Productions.{Production, Rule, production}
use Rattle.text_productions.specs.Nodes.{Node, View, layer}
use Rattle.law_places.specs.PlaceOrder.{Stands}
use Rattle.law_places.proofs.Ascending as order

module _ (text : List ℕ) (tokens : List Token) where
  -- a tree of the tokens by a grammar
  abbrev pub TreeOf : Rule → ℕ → ℕ → ℕ → Shape → Type 0
  TreeOf g d a b t = Tree (language production text) tokens (length tokens) g d a b t

  -- tokens have a tree by a grammar whose shape a view shows
  abbrev pub Reads : Rule → View → Type 0
  Reads g v = (d : ℕ) × (a : ℕ) × (b : ℕ) × (t : Shape) × TreeOf g d a b t × Shows layer v t
      × (b ≤ length tokens)

  -- it stands in order
  pub reads_stands : (g : Rule) (v : View) → Reads g v
      → (a : ℕ) × (b : ℕ) × Stands layer v a b × (b ≤ length tokens)
  reads_stands g v r = (
    r.1,
    r.2,
    order.shown_stands layer r.1 r.2 r.5
        (order.ascends (language production text) tokens (length tokens) r.4),
    r.6,
  )

  -- a token, a place, a level, a production and a part
  word_by : {k : Test} {g : Rule} {v : View} {d a b : ℕ} {t : Shape} → TreeOf (word k g) d a b t
      → Shows layer v t → b ≤ length tokens → Reads g v
  word_by (t_word k l e x) s h = (_, _, _, _, x, s, h)

  pub in_word : {k : Test} {g : Rule} {v : View} → Reads (word k g) v → Reads g v
  in_word r = word_by r.4 r.5 r.6

  here_by : {g : Rule} {p : ℕ} {w : View} {d a b : ℕ} {t : Shape} → TreeOf (here g) d a b t
      → Shows layer (at p w) t → b ≤ length tokens → Reads g w
  here_by (t_here x) (s_at p s) h = (_, _, _, _, x, s, h)

  pub in_here : {g : Rule} {p : ℕ} {w : View} → Reads (here g) (at p w) → Reads g w
  in_here r = here_by r.4 r.5 r.6

  deeper_by : {g : Rule} {v : View} {d a b : ℕ} {t : Shape} → TreeOf (deeper g) d a b t
      → Shows layer v t → b ≤ length tokens → Reads g v
  deeper_by (t_deeper x) s h = (_, _, _, _, x, s, h)

  pub in_deeper : {g : Rule} {v : View} → Reads (deeper g) v → Reads g v
  in_deeper r = deeper_by r.4 r.5 r.6

  rule_by : {p : Production} {v : View} {d a b : ℕ} {t : Shape} → TreeOf (rule p) d a b t
      → Shows layer v t → b ≤ length tokens → Reads (production p) v
  rule_by (t_rule x) s h = (_, _, _, _, x, s, h)

  pub in_rule : {p : Production} {v : View} → Reads (rule p) v → Reads (production p) v
  in_rule r = rule_by r.4 r.5 r.6

  node_by : {g : Rule} {n : Node} {d a b : ℕ} {t : Shape} → TreeOf g d a b t
      → Shows layer (node n) t → b ≤ length tokens → Reads g (layer n)
  node_by x (s_node s) h = (_, _, _, _, x, s, h)

  pub in_node : {g : Rule} {n : Node} → Reads g (node n) → Reads g (layer n)
  in_node r = node_by r.4 r.5 r.6

  -- one and then the other
  seq_by : {g h : Rule} {w x : View} {d a b : ℕ} {t : Shape} → TreeOf (seq g h) d a b t
      → Shows layer (pair w x) t → b ≤ length tokens → Reads g w × Reads h x
  seq_by (t_seq x y) (s_pair p q) h =
      let f = tree_forward (language production text) tokens (length tokens) y in
      ((_, _, _, _, x, p, omega arith), (_, _, _, _, y, q, h))

  pub in_seq : {g h : Rule} {w x : View} → Reads (seq g h) (pair w x) → Reads g w × Reads h x
  in_seq r = seq_by r.4 r.5 r.6

  -- alternatives
  left_by : {g h : Rule} {w : View} {d a b : ℕ} {t : Shape} → TreeOf (alt g h) d a b t
      → Shows layer (first w) t → b ≤ length tokens → Reads g w
  left_by (t_left x) (s_first s) h = (_, _, _, _, x, s, h)
  left_by (t_right x) s h = elim s [ ]

  pub in_left : {g h : Rule} {w : View} → Reads (alt g h) (first w) → Reads g w
  in_left r = left_by r.4 r.5 r.6

  right_by : {g h : Rule} {w : View} {d a b : ℕ} {t : Shape} → TreeOf (alt g h) d a b t
      → Shows layer (second w) t → b ≤ length tokens → Reads h w
  right_by (t_right x) (s_second s) h = (_, _, _, _, x, s, h)
  right_by (t_left x) s h = elim s [ ]

  pub in_right : {g h : Rule} {w : View} → Reads (alt g h) (second w) → Reads h w
  in_right r = right_by r.4 r.5 r.6

  -- what may be left out
  opt_by : {g : Rule} {w : View} {d a b : ℕ} {t : Shape} → TreeOf (opt g) d a b t
      → Shows layer (given w) t → b ≤ length tokens → Reads g w
  opt_by (t_opt_in x) (s_given s) h = (_, _, _, _, x, s, h)
  opt_by t_opt_out s h = elim s [ ]

  pub in_opt : {g : Rule} {w : View} → Reads (opt g) (given w) → Reads g w
  in_opt r = opt_by r.4 r.5 r.6

  -- lists, of which the first is there
  list_by : {g h : Rule} {n : Node} {ns : List Node} {d a b : ℕ} {t : Shape}
      → TreeOf (seq g h) d a b t → Shows layer (nodes (n ∷ ns)) t → b ≤ length tokens
      → Reads g (node n) × Reads h (nodes ns)
  list_by (t_seq x y) (s_more p q) h =
      let f = tree_forward (language production text) tokens (length tokens) y in
      ((_, _, _, _, x, p, omega arith), (_, _, _, _, y, q, h))

  pub in_list : {g h : Rule} {n : Node} {ns : List Node} → Reads (seq g h) (nodes (n ∷ ns))
      → Reads g (node n) × Reads h (nodes ns)
  in_list r = list_by r.4 r.5 r.6

  empty_by : {g h : Rule} {d a b : ℕ} {t : Shape} → TreeOf (seq g h) d a b t
      → Shows layer (nodes []) t → ⊥
  empty_by (t_seq x y) s = elim s [ ]

  pub no_list : {g h : Rule} → Reads (seq g h) (nodes []) → ⊥
  no_list r = empty_by r.4 r.5

  -- what no text has
  shows_nothing : {t : Shape} → Shows layer nowhere t → ⊥
  shows_nothing s = elim s [ ]

  pub no_text : {g : Rule} → Reads g nowhere → ⊥
  no_text r = shows_nothing r.5

  -- more turns
  rep_by : {g : Rule} {n : Node} {ns : List Node} {d a b : ℕ} {t : Shape} → TreeOf (rep g) d a b t
      → Shows layer (nodes (n ∷ ns)) t → b ≤ length tokens
      → Reads g (node n) × Reads (rep g) (nodes ns)
  rep_by (t_rep_in x y) (s_more p q) h =
      let f = tree_forward (language production text) tokens (length tokens) y in
      ((_, _, _, _, x, p, omega arith), (_, _, _, _, y, q, h))
  rep_by t_rep_out s h = elim s [ ]

  pub in_rep : {g : Rule} {n : Node} {ns : List Node} → Reads (rep g) (nodes (n ∷ ns))
      → Reads g (node n) × Reads (rep g) (nodes ns)
  in_rep r = rep_by r.4 r.5 r.6

  ended_by : {k : Test} {g : Rule} {n : Node} {ns : List Node} {d a b : ℕ} {t : Shape}
      → TreeOf (ended k g) d a b t → Shows layer (nodes (n ∷ ns)) t → b ≤ length tokens
      → Reads g (node n) × Reads (ended k g) (nodes ns)
  ended_by (t_ended_in k l e x y) (s_more p q) h =
      let f = tree_forward (language production text) tokens (length tokens) y in
      ((_, _, _, _, x, p, omega arith), (_, _, _, _, y, q, h))
  ended_by t_ended_out s h = elim s [ ]
  ended_by (t_ended_last k l e) s h = elim s [ ]

  pub in_ended : {k : Test} {g : Rule} {n : Node} {ns : List Node}
      → Reads (ended k g) (nodes (n ∷ ns)) → Reads g (node n) × Reads (ended k g) (nodes ns)
  in_ended r = ended_by r.4 r.5 r.6
