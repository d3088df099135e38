-- What stands in order as a view stands as its rows do: names, constants and the texts of types.
use Rattle.std.proofs.Common.{ℕ, suc, List, [], ◌∷◌, map}
use Rattle.std.proofs.Common.{subst, arith}
use Rattle.std.proofs.Common.{Some, None}
use Rattle.est_syntax.specs.declared.name.Used.{Used}
use Rattle.est_syntax.specs.declared.constant.Constant.{Constant}
use Rattle.est_syntax.specs.declared.constant.Constant.TheVariants as constant
use Rattle.est_syntax.specs.declared.type_text.TypeText.{TypeText, out-TypeText, Row_of-TypeText}
use Rattle.est_syntax.specs.declared.type_text.TypeText.{end_of-TypeText, more_of-TypeText}
use Rattle.est_syntax.specs.declared.type_text.TypeText.{items-the_row-TypeText}
use Rattle.est_syntax.specs.declared.type_text.TypeText.{items_shown-the_row-TypeText-0}
use Rattle.est_syntax.specs.declared.type_text.TypeText.{Row_of-VarDef, end_of-VarDef}
use Rattle.est_syntax.specs.declared.type_text.TypeText.{more_of-VarDef, items-the_row-VarDef}
use Rattle.est_syntax.specs.declared.type_text.TypeText.{items_shown-the_row-VarDef-2}
use Rattle.est_syntax.specs.declared.type_text.TypeText.TheBlock.{shape-the_row-TypeText-1}
use Rattle.est_syntax.specs.declared.type_text.TypeText.TheBlock.{hidden-the_row-TypeText-1}
use Rattle.est_syntax.specs.declared.type_text.TypeText.TheBlock.{shown-the_row-TypeText-1}
use Rattle.est_syntax.specs.declared.type_text.TypeText.TheVariants as text
use Rattle.text_reader.specs.Shown.{node, nodes}
use Rattle.text_productions.specs.Nodes as shown
use Rattle.text_productions.specs.Nodes.{Node, View, a_use, a_constant, a_type, a_short_type}
use Rattle.text_productions.specs.Nodes.{a_field, layer}
use Rattle.law_places.specs.PlaceOrder.{Stands, o_kept, o_at, o_pair, o_first, o_second}
use Rattle.law_places.specs.PlaceOrder.{o_given, o_node, o_none, o_more}
use Rattle.law_places.proofs.Standing.{goes_on, from_earlier, to_later}
use Rattle.law_places.proofs.Placed.{NamesPlaced, ConstantPlaced, TextPlaced, RowPlaced}
use Rattle.law_places.proofs.Placed.{FieldsPlaced, ShortPlaced, short_text}

abbrev pub Stand : View → ℕ → ℕ → Type 0
Stand v i j = Stands layer v i j

-- names
pub names_placed : (us : List Used) {i j : ℕ} → Stand (nodes (map a_use us)) i j
    → NamesPlaced i j us
names_placed [] (o_none l) = l
names_placed (u ∷ us) (o_more (o_node (o_at l (o_kept m))) y) =
    (l, names_placed us (from_earlier layer (suc u.place) (omega arith) y))

-- constants
unnamed_placed : (c : Constant) {i j : ℕ} → Stand (shown.unnamed c) i j → ConstantPlaced i j c
unnamed_placed (constant.Number (Some sign) number place)
    (o_at l (o_second (o_first (o_pair x (o_first (o_kept m)))))) =
    (l, omega (arith, goes_on layer x))
unnamed_placed (constant.Number None number place) (o_at l (o_first (o_kept m))) = (l, m)
unnamed_placed (constant.Named (Some sign) name place)
    (o_at l (o_second (o_first (o_pair x (o_second (o_at m (o_kept n))))))) =
    (l, omega (arith, goes_on layer x), n)
unnamed_placed (constant.Named None name place) d = elim d [ ]
unnamed_placed (constant.Character code place) (o_at l (o_second (o_second (o_kept m)))) = (l, m)

pub constant_placed : (c : Constant) {i j : ℕ} → Stand (node (a_constant c)) i j
    → ConstantPlaced i j c
constant_placed (constant.Named None name place)
    (o_node (o_second (o_at l (o_at m (o_kept n))))) = (l, m, n)
constant_placed (constant.Named (Some sign) name place) (o_node (o_first x)) =
    unnamed_placed (constant.Named (Some sign) name place) x
constant_placed (constant.Number sign number place) (o_node (o_first x)) =
    unnamed_placed (constant.Number sign number place) x
constant_placed (constant.Character code place) (o_node (o_first x)) =
    unnamed_placed (constant.Character code place) x

-- ranges
abbrev RangePlaced : ℕ → ℕ → Constant → Constant → Type 0
RangePlaced i j low high = (k : ℕ) × ConstantPlaced i k low × ConstantPlaced k j high

pair_placed : (low high : Constant) {i k j : ℕ} → Stand (shown.unnamed low) i k
    → Stand (node (a_constant high)) k j → RangePlaced i j low high
pair_placed low high {k = k} x y = (k, unnamed_placed low x, constant_placed high y)

range_placed : (low high : Constant) {i j : ℕ} → Stand (shown.range low high) i j
    → RangePlaced i j low high
range_placed (constant.Named None name place) high
    (o_second (o_at l (o_pair {k = k} (o_at m (o_kept n)) (o_given y)))) =
    (k, (l, m, n), constant_placed high y)
range_placed (constant.Named (Some sign) name place) high (o_first (o_pair x y)) =
    pair_placed (constant.Named (Some sign) name place) high x y
range_placed (constant.Number sign number place) high (o_first (o_pair x y)) =
    pair_placed (constant.Number sign number place) high x y
range_placed (constant.Character code place) high (o_first (o_pair x y)) =
    pair_placed (constant.Character code place) high x y

-- the texts of types
mutual
  unfolding out-TypeText denote.Hole.Carrier.out shape-the_row-TypeText-1
      hidden-the_row-TypeText-1 shown-the_row-TypeText-1 denote.Hole.Carrier.shown

  pub type_placed : (t : TypeText) {i j : ℕ} → Stand (node (a_type t)) i j → TextPlaced i j t
  type_placed (text.Named u) (o_node (o_first (o_second (o_at l (o_pair (o_at m (o_kept n)) e))))) =
      (l, omega (arith, goes_on layer e))
  type_placed (text.Range low high) (o_node (o_first x)) = range_placed low high x
  type_placed (text.Names names place) {j = j} (o_node (o_second (o_first (o_at l (o_pair x y))))) =
      (l, names_placed names (to_later layer j (goes_on layer y) x))
  type_placed (text.Array' a index b (more_of-TypeText of end_of-TypeText) place) {j = j}
      (o_node (o_second (o_second (o_at l (o_pair e (o_first (o_pair {k = k} x y))))))) =
      let z = from_earlier layer place (goes_on layer e) x in (
        k,
        l,
        types_placed index (subst (λ ts. Stand (nodes (map a_type ts)) place k)
            (items_shown-the_row-TypeText-0 a index) z),
        (j, type_placed of y, omega arith),
        tt,
      )
  type_placed (text.Fields' a defs place) {j = j}
      (o_node (o_second (o_second (o_at l (o_pair e (o_second (o_first (o_pair x y)))))))) =
      let z = from_earlier layer place (goes_on layer e) (to_later layer j (goes_on layer y) x) in (
        l,
        fields_placed defs (subst (λ ds. Stand (nodes (map a_field ds)) place j)
            (items_shown-the_row-VarDef-2 a defs) z),
      )
  type_placed (text.Set' a (more_of-TypeText of end_of-TypeText) place) {j = j}
      (o_node (o_second (o_second (o_at l (o_pair e (o_second (o_second x))))))) =
      (l, (j, type_placed of (from_earlier layer place (goes_on layer e) x), omega arith))

  types_placed : {n : _} (row : Row_of-TypeText n) {i j : ℕ}
      → Stand (nodes (map a_type (items-the_row-TypeText n row))) i j → RowPlaced i j row
  types_placed end_of-TypeText (o_none l) = l
  types_placed (more_of-TypeText t rest) (o_more {k = k} x y) =
      (k, type_placed t x, types_placed rest y)

  fields_placed : {n : _} (row : Row_of-VarDef n) {i j : ℕ}
      → Stand (nodes (map a_field (items-the_row-VarDef n row))) i j → FieldsPlaced i j row
  fields_placed end_of-VarDef (o_none l) = l
  fields_placed (more_of-VarDef names t rest) (o_more {k = m} (o_node (o_pair {k = k} x y)) z) =
      (k, m, names_placed names x, type_placed t y, fields_placed rest z)

-- types that are short
pub short_placed : (t : TypeText) {i j : ℕ} → Stand (node (a_short_type t)) i j
    → ShortPlaced i j t
unfolding out-TypeText denote.Hole.Carrier.out
short_placed (text.Named u) (o_node (o_second (o_at l (o_pair (o_at m (o_kept n)) e)))) =
    (l, omega (arith, goes_on layer e))
short_placed (text.Range low high) (o_node x) = range_placed low high x
short_placed (text.Names names place) (o_node x) = elim x [ ]
short_placed (text.Array' a index b of place) (o_node x) = elim x [ ]
short_placed (text.Fields' a defs place) (o_node x) = elim x [ ]
short_placed (text.Set' a of place) (o_node x) = elim x [ ]

pub short_text_placed : (t : TypeText) (i j : ℕ) → Stand (node (a_short_type t)) i j
    → TextPlaced i j t
short_text_placed t i j h = short_text i j t (short_placed t h)
