-- What stands in order: how far it goes, and between which places.
use Rattle.std.proofs.Common.{ℕ, ◌≤◌, List, [], ◌∷◌, ◌++◌, arith}
use Rattle.text_reader.specs.Shown.{View, node, nodes, sections}
use Rattle.law_places.specs.PlaceOrder.{Stands, o_empty, o_kept, o_at, o_pair, o_first, o_second}
use Rattle.law_places.specs.PlaceOrder.{o_given, o_node, o_none, o_more, o_no_section}
use Rattle.law_places.specs.PlaceOrder.{o_first_section, o_second_section}

module _ {V N : Type 0} (layer : N → View V N) where
  -- the second place is not before the first
  pub goes_on : {v : View V N} {a b : ℕ} → Stands layer v a b → a ≤ b
  goes_on (o_empty l) = l
  goes_on (o_kept l) = omega arith
  goes_on (o_at l x) = omega (arith, goes_on x)
  goes_on (o_pair x y) = omega (arith, goes_on x, goes_on y)
  goes_on (o_first x) = goes_on x
  goes_on (o_second x) = goes_on x
  goes_on (o_given x) = goes_on x
  goes_on (o_node x) = goes_on x
  goes_on (o_none l) = l
  goes_on (o_more x y) = omega (arith, goes_on x, goes_on y)
  goes_on (o_no_section l) = l
  goes_on (o_first_section ks x y) = omega (arith, goes_on x, goes_on y)
  goes_on (o_second_section ks x y) = omega (arith, goes_on x, goes_on y)

  -- what stands from a place on stands from an earlier one on
  pub from_earlier : (a : ℕ) {v : View V N} {c b : ℕ} → a ≤ c → Stands layer v c b
      → Stands layer v a b
  from_earlier a l (o_empty m) = o_empty (omega arith)
  from_earlier a l (o_kept m) = o_kept (omega arith)
  from_earlier a l (o_at m x) = o_at (omega arith) x
  from_earlier a l (o_pair x y) = o_pair (from_earlier a l x) y
  from_earlier a l (o_first x) = o_first (from_earlier a l x)
  from_earlier a l (o_second x) = o_second (from_earlier a l x)
  from_earlier a l (o_given x) = o_given (from_earlier a l x)
  from_earlier a l (o_node x) = o_node (from_earlier a l x)
  from_earlier a l (o_none m) = o_none (omega arith)
  from_earlier a l (o_more x y) = o_more (from_earlier a l x) y
  from_earlier a l (o_no_section m) = o_no_section (omega arith)
  from_earlier a l (o_first_section ks x y) = o_first_section ks (from_earlier a l x) y
  from_earlier a l (o_second_section ks x y) = o_second_section ks (from_earlier a l x) y

  -- and what stands to a place stands to a later one
  pub to_later : (b : ℕ) {v : View V N} {a c : ℕ} → c ≤ b → Stands layer v a c
      → Stands layer v a b
  to_later b l (o_empty m) = o_empty (omega arith)
  to_later b l (o_kept m) = o_kept (omega arith)
  to_later b l (o_at m x) = o_at m (to_later b l x)
  to_later b l (o_pair x y) = o_pair x (to_later b l y)
  to_later b l (o_first x) = o_first (to_later b l x)
  to_later b l (o_second x) = o_second (to_later b l x)
  to_later b l (o_given x) = o_given (to_later b l x)
  to_later b l (o_node x) = o_node (to_later b l x)
  to_later b l (o_none m) = o_none (omega arith)
  to_later b l (o_more x y) = o_more x (to_later b l y)
  to_later b l (o_no_section m) = o_no_section (omega arith)
  to_later b l (o_first_section ks x y) = o_first_section ks x (to_later b l y)
  to_later b l (o_second_section ks x y) = o_second_section ks x (to_later b l y)

  -- Parts of two sorts, one after the other.
  pub data Mixed : ℕ → ℕ → List N → List N → Type 0 where
    x_none : {i j : ℕ} → i ≤ j → Mixed i j [] []
    x_first : {i k j : ℕ} {n : N} {ns ms : List N} → Stands layer (node n) i k → Mixed k j ns ms
        → Mixed i j (n ∷ ns) ms
    x_second : {i k j : ℕ} {m : N} {ns ms : List N} → Stands layer (node m) i k → Mixed k j ns ms
        → Mixed i j ns (m ∷ ms)

  mixed_earlier : (a : ℕ) {i j : ℕ} {ns ms : List N} → a ≤ i → Mixed i j ns ms → Mixed a j ns ms
  mixed_earlier a l (x_none m) = x_none (omega arith)
  mixed_earlier a l (x_first x y) = x_first (from_earlier a l x) y
  mixed_earlier a l (x_second x y) = x_second (from_earlier a l x) y

  first_run : {ks ns ms : List N} {i k j : ℕ} → Stands layer (nodes ks) i k → Mixed k j ns ms
      → Mixed i j (ks ++ ns) ms
  first_run {i = i} (o_none l) y = mixed_earlier i l y
  first_run (o_more x z) y = x_first x (first_run z y)

  second_run : {ks ns ms : List N} {i k j : ℕ} → Stands layer (nodes ks) i k → Mixed k j ns ms
      → Mixed i j ns (ks ++ ms)
  second_run {i = i} (o_none l) y = mixed_earlier i l y
  second_run (o_more x z) y = x_second x (second_run z y)

  -- parts of two sorts in runs of either sort
  pub merged : {ns ms : List N} {i j : ℕ} → Stands layer (sections nodes nodes ns ms) i j
      → Mixed i j ns ms
  merged (o_no_section l) = x_none l
  merged (o_first_section ks x y) = first_run x (merged y)
  merged (o_second_section ks x y) = second_run x (merged y)
