-- Texts that stand in a list or a box look up the same as within a text.
use Rattle.std.proofs.Common.{◌≡◌, refl, ap, ◌∙◌, ℕ, List, ◌++◌}
use Rattle.est_syntax.specs.declared.type_text.TypeText.{TypeText, Row_of-TypeText}
use Rattle.est_syntax.specs.declared.type_text.TypeText.{end_of-TypeText}
use Rattle.est_syntax.specs.declared.type_text.TypeText.{more_of-TypeText}
use Rattle.est_syntax.specs.declared.type_text.TypeText.{items-the_row-TypeText}
use Rattle.est_syntax.specs.declared.type_text.TypeText.{items_hidden-the_row-TypeText-0}
use Rattle.est_syntax.specs.declared.type_text.TypeText.{Row_of-VarDef, end_of-VarDef}
use Rattle.est_syntax.specs.declared.type_text.TypeText.{more_of-VarDef}
use Rattle.est_syntax.specs.declared.type_text.TypeText.{items-the_row-VarDef}
use Rattle.est_syntax.specs.declared.type_text.TypeText.{items_hidden-the_row-VarDef-2}
use Rattle.est_syntax.specs.declared.type_text.TypeText.TheBlock.{hidden-the_row-TypeText-0}
use Rattle.est_syntax.specs.declared.type_text.TypeText.TheBlock.{hidden-the_row-TypeText-1}
use Rattle.est_syntax.specs.declared.type_text.TypeText.TheBlock.{hidden-the_row-VarDef-2}
use Rattle.est_syntax.specs.declared.type_text.TypeText.TheVariants as text
use Rattle.est_syntax.specs.declared.type_text.VarDef.{VarDef}
use Rattle.rule_uses.specs.NamesInTexts.{text_names, text_box, texts_row}
use Rattle.rule_uses.specs.NamesInTexts.{fields_row, texts_names, vardefs_names}

pub texts_listed : (n : _) (row : Row_of-TypeText n)
    → texts_row row ≡ texts_names (items-the_row-TypeText n row)
texts_listed n end_of-TypeText = refl
texts_listed n (more_of-TypeText t rest) = ap (λ l. text_names t ++ l) (texts_listed _ rest)

pub texts_hidden : (ts : List TypeText)
    → texts_row (hidden-the_row-TypeText-0 ts) ≡ texts_names ts
texts_hidden ts =
    texts_listed _ (hidden-the_row-TypeText-0 ts)
    ∙ ap texts_names (items_hidden-the_row-TypeText-0 ts)

pub text_hidden : (t : TypeText) → text_box (hidden-the_row-TypeText-1 t) ≡ text_names t
unfolding hidden-the_row-TypeText-1 denote.Hole.Carrier.hidden
text_hidden t = refl

pub fields_listed : (n : _) (row : Row_of-VarDef n)
    → fields_row row ≡ vardefs_names (items-the_row-VarDef n row)
fields_listed n end_of-VarDef = refl
fields_listed n (more_of-VarDef names t rest) = ap (λ l. text_names t ++ l) (fields_listed _ rest)

pub fields_hidden : (ds : List VarDef)
    → fields_row (hidden-the_row-VarDef-2 ds) ≡ vardefs_names ds
fields_hidden ds =
    fields_listed _ (hidden-the_row-VarDef-2 ds)
    ∙ ap vardefs_names (items_hidden-the_row-VarDef-2 ds)

pub array_at : (t : TypeText) (index : List TypeText) (element : TypeText) (place : ℕ)
    → t ≡ text.Array index element place
    → text_names t ≡ texts_names index ++ text_names element
array_at t index element place h =
    ap text_names h ∙ (λ i. texts_hidden index i ++ text_hidden element i)

pub fields_at : (t : TypeText) (ds : List VarDef) (place : ℕ)
    → t ≡ text.Fields ds place → text_names t ≡ vardefs_names ds
fields_at t ds place h = ap text_names h ∙ fields_hidden ds

pub base_at : (t base : TypeText) (place : ℕ)
    → t ≡ text.Set base place → text_names t ≡ text_names base
base_at t base place h = ap text_names h ∙ text_hidden base

-- What the functions over texts need.
pub ruleset rows = (fields_at, base_at)
