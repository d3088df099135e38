-- What a view shows of constants and of the texts of types is spelled so.
use Rattle.std.proofs.Common.{subst, List, [], ◌∷◌, map}
use Rattle.std.proofs.Common.{Some, None}
use Rattle.est_syntax.specs.declared.name.Used.{Used}
use Rattle.est_syntax.specs.declared.constant.Constant.{Constant}
use Rattle.est_syntax.specs.declared.constant.Constant.TheVariants as constant
use Rattle.est_syntax.specs.declared.type_text.TypeText.{TypeText, out-TypeText, Row_of-TypeText}
use Rattle.est_syntax.specs.declared.type_text.TypeText.{end_of-TypeText, more_of-TypeText}
use Rattle.est_syntax.specs.declared.type_text.TypeText.{items-the_row-TypeText}
use Rattle.est_syntax.specs.declared.type_text.TypeText.{items_shown-the_row-TypeText-0}
use Rattle.est_syntax.specs.declared.type_text.TypeText.{Row_of-VarDef, end_of-VarDef}
use Rattle.est_syntax.specs.declared.type_text.TypeText.{more_of-VarDef, items-the_row-VarDef}
use Rattle.est_syntax.specs.declared.type_text.TypeText.{items_shown-the_row-VarDef-2}
use Rattle.est_syntax.specs.declared.type_text.TypeText.TheBlock.{shape-the_row-TypeText-1}
use Rattle.est_syntax.specs.declared.type_text.TypeText.TheBlock.{hidden-the_row-TypeText-1}
use Rattle.est_syntax.specs.declared.type_text.TypeText.TheBlock.{shown-the_row-TypeText-1}
use Rattle.est_syntax.specs.declared.type_text.TypeText.TheVariants as text
use Rattle.text_reader.specs.Shown.{node, nodes}
use Rattle.text_productions.specs.Nodes as views
use Rattle.text_productions.specs.Nodes.{Node, a_use, a_constant, a_type, a_short_type, a_field}
use Rattle.law_places.specs.Said.{Each}
use Rattle.law_texts.proofs.Spells.{w_kept, w_at, w_pair, w_first, w_second, w_node}
use Rattle.law_texts.proofs.Spells.{w_more}
use Rattle.law_texts.proofs.Spells.{w_given}
use Rattle.law_texts.proofs.PlainTrees.{Says}
use Rattle.law_texts.proofs.Spelt.{IsSpelt, CodeFits, TextSpelt, RowSpelt, FieldsSpelt}
use Rattle.law_texts.proofs.Spelt.{ShortSpelt}

-- the items of a list, of which each shows plain names
pub each_says : {A : Type 0} (part : A → Node) (P : A → Type 0)
    (f : (x : A) → Says (node (part x)) → P x) (xs : List A) → Says (nodes (map part xs))
    → Each P xs
each_says part P f [] s = tt
each_says part P f (x ∷ xs) (w_more s t) = (f x s, each_says part P f xs t)

-- names
pub names_spelt : (us : List Used) → Says (nodes (map a_use us)) → Each IsSpelt us
names_spelt [] s = tt
names_spelt (u ∷ us) (w_more (w_node (w_at (w_kept p))) s) = (p, names_spelt us s)

-- constants
unnamed_fits : (c : Constant) → Says (views.unnamed c) → CodeFits c
unnamed_fits (constant.Number sign number place) s = tt
unnamed_fits (constant.Named sign name place) s = tt
unnamed_fits (constant.Character code place) (w_at (w_second (w_second (w_kept p)))) = p

pub constant_fits : (c : Constant) → Says (node (a_constant c)) → CodeFits c
constant_fits (constant.Number sign number place) s = tt
constant_fits (constant.Named sign name place) s = tt
constant_fits (constant.Character code place) (w_node (w_first s)) =
    unnamed_fits (constant.Character code place) s

-- ranges
pair_fits : (low high : Constant) → Says (views.unnamed low) → Says (node (a_constant high))
    → CodeFits low × CodeFits high
pair_fits low high x y = (unnamed_fits low x, constant_fits high y)

range_fits : (low high : Constant) → Says (views.range low high) → CodeFits low × CodeFits high
range_fits (constant.Named None name place) high
    (w_second (w_at (w_pair x (w_given y)))) = (tt, constant_fits high y)
range_fits (constant.Named (Some sign) name place) high (w_first (w_pair x y)) =
    pair_fits (constant.Named (Some sign) name place) high x y
range_fits (constant.Number sign number place) high (w_first (w_pair x y)) =
    pair_fits (constant.Number sign number place) high x y
range_fits (constant.Character code place) high (w_first (w_pair x y)) =
    pair_fits (constant.Character code place) high x y

-- the texts of types
mutual
  unfolding out-TypeText denote.Hole.Carrier.out shape-the_row-TypeText-1
      hidden-the_row-TypeText-1 shown-the_row-TypeText-1 denote.Hole.Carrier.shown

  pub text_spelt : (t : TypeText) → Says (node (a_type t)) → TextSpelt t
  text_spelt (text.Named u) s = tt
  text_spelt (text.Range low high) (w_node (w_first s)) = range_fits low high s
  text_spelt (text.Names names place) (w_node (w_second (w_first (w_at (w_pair x y))))) =
      names_spelt names x
  text_spelt (text.Array' a index b (more_of-TypeText of end_of-TypeText) place)
      (w_node (w_second (w_second (w_at (w_pair e (w_first (w_pair x y))))))) = (
        types_spelt index (subst (λ ts. Says (nodes (map a_type ts)))
            (items_shown-the_row-TypeText-0 a index) x),
        (text_spelt of y, tt),
      )
  text_spelt (text.Fields' a defs place)
      (w_node (w_second (w_second (w_at (w_pair e (w_second (w_first (w_pair x y)))))))) =
      fields_spelt defs (subst (λ ds. Says (nodes (map a_field ds)))
      (items_shown-the_row-VarDef-2 a defs) x)
  text_spelt (text.Set' a (more_of-TypeText of end_of-TypeText) place)
      (w_node (w_second (w_second (w_at (w_pair e (w_second (w_second x))))))) =
      (text_spelt of x, tt)

  types_spelt : {n : _} (row : Row_of-TypeText n)
      → Says (nodes (map a_type (items-the_row-TypeText n row))) → RowSpelt row
  types_spelt end_of-TypeText s = tt
  types_spelt (more_of-TypeText t rest) (w_more x y) = (text_spelt t x, types_spelt rest y)

  fields_spelt : {n : _} (row : Row_of-VarDef n)
      → Says (nodes (map a_field (items-the_row-VarDef n row))) → FieldsSpelt row
  fields_spelt end_of-VarDef s = tt
  fields_spelt (more_of-VarDef names t rest) (w_more (w_node (w_pair x y)) z) =
      (names_spelt names x, text_spelt t y, fields_spelt rest z)

-- types that are short
pub short_spelt : (t : TypeText) → Says (node (a_short_type t)) → ShortSpelt t
unfolding out-TypeText denote.Hole.Carrier.out
short_spelt (text.Named u) s = tt
short_spelt (text.Range low high) (w_node s) = range_fits low high s
short_spelt (text.Names names place) (w_node s) = elim s [ ]
short_spelt (text.Array' a index b of place) (w_node s) = elim s [ ]
short_spelt (text.Fields' a defs place) (w_node s) = elim s [ ]
short_spelt (text.Set' a of place) (w_node s) = elim s [ ]

pub short_text : (t : TypeText) → ShortSpelt t → TextSpelt t
short_text (text.Named u) h = tt
short_text (text.Range low high) h = h
short_text (text.Names names place) h = absurd h
short_text (text.Array' a index b of place) h = absurd h
short_text (text.Fields' a defs place) h = absurd h
short_text (text.Set' a of place) h = absurd h
