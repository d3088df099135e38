-- What a text declares by the lists and boxes that it is made of.
use Rattle.std.proofs.Common.{◌≡◌, refl, ap, ◌∙◌, ℕ, List}
use Rattle.est_syntax.specs.declared.type_text.TypeText.{TypeText, Row_of-TypeText, end_of-TypeText}
use Rattle.est_syntax.specs.declared.type_text.TypeText.{more_of-TypeText, items-the_row-TypeText}
use Rattle.est_syntax.specs.declared.type_text.TypeText.{items_hidden-the_row-TypeText-0}
use Rattle.est_syntax.specs.declared.type_text.TypeText.{Row_of-VarDef, end_of-VarDef}
use Rattle.est_syntax.specs.declared.type_text.TypeText.{more_of-VarDef, items-the_row-VarDef}
use Rattle.est_syntax.specs.declared.type_text.TypeText.{items_hidden-the_row-VarDef-2}
use Rattle.est_syntax.specs.declared.type_text.TypeText.TheBlock.{hidden-the_row-TypeText-0}
use Rattle.est_syntax.specs.declared.type_text.TypeText.TheBlock.{hidden-the_row-TypeText-1}
use Rattle.est_syntax.specs.declared.type_text.TypeText.TheBlock.{shape-the_row-TypeText-1}
use Rattle.est_syntax.specs.declared.type_text.TypeText.TheBlock.{hidden-the_row-VarDef-2}
use Rattle.est_syntax.specs.declared.type_text.TypeText.TheVariants as text
use Rattle.est_syntax.specs.declared.type_text.VarDef.{VarDef}
use Rattle.rule_declares.specs.rule_scope.declared.declaration.Within.{Within}
use Rattle.rule_declares.specs.rule_scope.Outline.{Outline}
use Rattle.rule_declares.specs.Lasts.{text_last, row_last, row_fields_last, vars_last}
use Rattle.rule_declares.specs.Declares.{text_declares, row_declares, row_fields_declare}
use Rattle.rule_outline.specs.inside.DeclaredTexts.{texts_declare, field_declares, fields_declare}

-- the last places of texts
box_last : (t : TypeText) (last : ℕ) → row_last (hidden-the_row-TypeText-1 t) last ≡ text_last t
unfolding shape-the_row-TypeText-1 hidden-the_row-TypeText-1 denote.Hole.Carrier.hidden
box_last t last = refl

fields_last_row : (n : _) (row : Row_of-VarDef n) (last : ℕ)
    → row_fields_last row last ≡ vars_last (items-the_row-VarDef n row) last
fields_last_row n end_of-VarDef last = refl
fields_last_row n (more_of-VarDef names t rest) last = fields_last_row _ rest (text_last t)

pub array_last : (t of : TypeText) (ts : List TypeText) (place : ℕ) → t ≡ text.Array ts of place
    → text_last t ≡ text_last of
array_last t of ts place h = ap text_last h ∙ box_last of place

pub record_last : (t : TypeText) (ds : List VarDef) (place : ℕ) → t ≡ text.Fields ds place
    → text_last t ≡ vars_last ds place
record_last t ds place h =
    ap text_last h
    ∙ fields_last_row _ (hidden-the_row-VarDef-2 ds) place
    ∙ ap (λ l. vars_last l place) (items_hidden-the_row-VarDef-2 ds)

pub set_last : (t of : TypeText) (place : ℕ) → t ≡ text.Set of place → text_last t ≡ text_last of
set_last t of place h = ap text_last h ∙ box_last of place

-- What the functions over last places need.
pub ruleset last_rows = (array_last, record_last, set_last)

-- what they declare
box_declares : (w : Within) (t : TypeText) (o : Outline)
    → row_declares w (hidden-the_row-TypeText-1 t) o ≡ text_declares w t o
unfolding shape-the_row-TypeText-1 hidden-the_row-TypeText-1 denote.Hole.Carrier.hidden
box_declares w t o = refl

texts_row : (w : Within) (n : _) (row : Row_of-TypeText n) (o : Outline)
    → row_declares w row o ≡ texts_declare w (items-the_row-TypeText n row) o
texts_row w n end_of-TypeText o = refl
texts_row w n (more_of-TypeText t rest) o = texts_row w _ rest (text_declares w t o)

fields_row : (w : Within) (region : ℕ) (n : _) (row : Row_of-VarDef n) (o : Outline)
    → row_fields_declare w region row o ≡ fields_declare w region (items-the_row-VarDef n row) o
fields_row w region n end_of-VarDef o = refl
fields_row w region n (more_of-VarDef names t rest) o = fields_row w region _ rest
    (field_declares w region record { names = names; text = t } o)

pub array_declares : (w : Within) (t of : TypeText) (ts : List TypeText) (place : ℕ) (o : Outline)
    → t ≡ text.Array ts of place → text_declares w t o ≡ text_declares w of (texts_declare w ts o)
array_declares w t of ts place o h =
    ap (λ x. text_declares w x o) h
    ∙ box_declares w of (row_declares w (hidden-the_row-TypeText-0 ts) o)
    ∙ ap (text_declares w of) (texts_row w _ (hidden-the_row-TypeText-0 ts) o
    ∙ ap (λ l. texts_declare w l o) (items_hidden-the_row-TypeText-0 ts))

pub record_declares : (w : Within) (t : TypeText) (ds : List VarDef) (place : ℕ) (o : Outline)
    → t ≡ text.Fields ds place → text_declares w t o ≡ fields_declare w place ds o
record_declares w t ds place o h =
    ap (λ x. text_declares w x o) h
    ∙ fields_row w place _ (hidden-the_row-VarDef-2 ds) o
    ∙ ap (λ l. fields_declare w place l o) (items_hidden-the_row-VarDef-2 ds)

pub set_declares : (w : Within) (t of : TypeText) (place : ℕ) (o : Outline) → t ≡ text.Set of place
    → text_declares w t o ≡ text_declares w of o
set_declares w t of place o h = ap (λ x. text_declares w x o) h ∙ box_declares w of o

-- What the functions over what texts declare need.
pub ruleset declared_rows = (array_declares, record_declares, set_declares)
