-- Texts of types by the lists and boxes that they are made of, and the turns of the loops over
-- these.
use Rattle.std.proofs.Common.{◌≡◌, refl, sym, ap, ◌∙◌, ℕ, List, ◌++◌, Option, Some}
use Rattle.est_syntax.specs.declared.rule.Fault.{Fault}
use Rattle.est_syntax.specs.declared.type_text.TypeText.{TypeText, Row_of-TypeText}
use Rattle.est_syntax.specs.declared.type_text.TypeText.{end_of-TypeText}
use Rattle.est_syntax.specs.declared.type_text.TypeText.{more_of-TypeText}
use Rattle.est_syntax.specs.declared.type_text.TypeText.{items-the_row-TypeText}
use Rattle.est_syntax.specs.declared.type_text.TypeText.{items_hidden-the_row-TypeText-0}
use Rattle.est_syntax.specs.declared.type_text.TypeText.{Row_of-VarDef, end_of-VarDef}
use Rattle.est_syntax.specs.declared.type_text.TypeText.{more_of-VarDef}
use Rattle.est_syntax.specs.declared.type_text.TypeText.{items-the_row-VarDef}
use Rattle.est_syntax.specs.declared.type_text.TypeText.{items_hidden-the_row-VarDef-2}
use Rattle.est_syntax.specs.declared.type_text.TypeText.TheBlock.{hidden-the_row-TypeText-0}
use Rattle.est_syntax.specs.declared.type_text.TypeText.TheBlock.{hidden-the_row-TypeText-1}
use Rattle.est_syntax.specs.declared.type_text.TypeText.TheBlock.{shape-the_row-TypeText-1}
use Rattle.est_syntax.specs.declared.type_text.TypeText.TheBlock.{hidden-the_row-VarDef-2}
use Rattle.est_syntax.specs.declared.type_text.TypeText.TheVariants as text
use Rattle.est_syntax.specs.declared.type_text.VarDef.{VarDef}
use Rattle.rule_scope.specs.declared.declaration.Measured.{Measured}
use Rattle.rule_scope.specs.LeastSoFar.{least_with}
use Rattle.rule_scope.specs.Outline.{Outline}
use Rattle.rule_scope.proofs.LeastLaws.{least_append}
use Rattle.rule_kinds.specs.declared.value.Gathered.{Gathered}
use Rattle.rule_kinds.specs.TypeTexts.{text_type, row_type, row_arrays, row_fields, text_faults}
use Rattle.rule_kinds.specs.TypeTexts.{row_faults, row_place, row_index_faults, row_field_faults}
use Rattle.rule_kinds.specs.TypeTexts.{text_place, arrays, with_def, fields_after, index_faults}
use Rattle.rule_kinds.specs.TypeTexts.{indices_faults, def_faults, defs_faults, array_of, set_of}
use Rattle.rule_kinds.specs.TypeTexts.{set_faults, record_of, record_faults, no_fields}

-- rows are lists
pub arrays_row : (o : Outline) (n : _) (row : Row_of-TypeText n) (m : Option Measured)
    → row_arrays o row m ≡ arrays o (items-the_row-TypeText n row) m
arrays_row o n end_of-TypeText m = refl
arrays_row o n (more_of-TypeText t rest) m = ap (array_of (text_type o t)) (arrays_row o _ rest m)

pub index_row : (o : Outline) (n : _) (row : Row_of-TypeText n) (m : Option Measured) (place : ℕ)
    → row_index_faults o row m place ≡ indices_faults o (items-the_row-TypeText n row) m place
index_row o n end_of-TypeText m place = refl
index_row o n (more_of-TypeText t rest) m place = λ i. index_row o _ rest m place i ++ index_faults
    o t (arrays_row o _ rest m i) place

pub fields_row : (o : Outline) (n : _) (row : Row_of-VarDef n) (g : Option Gathered)
    → row_fields o row g ≡ fields_after o (items-the_row-VarDef n row) g
fields_row o n end_of-VarDef g = refl
fields_row o n (more_of-VarDef names t rest) g = fields_row o _ rest
    (with_def o g record { names = names; text = t })

pub defs_row : (o : Outline) (n : _) (row : Row_of-VarDef n)
    → row_field_faults o row ≡ defs_faults o (items-the_row-VarDef n row)
defs_row o n end_of-VarDef = refl
defs_row o n (more_of-VarDef names t rest) = ap (λ fs. def_faults o record {
  names = names;
  text = t;
} ++ fs) (defs_row o _ rest)

-- a box is its text
box_type : (o : Outline) (t : TypeText) → row_type o (hidden-the_row-TypeText-1 t) ≡ text_type o t
unfolding shape-the_row-TypeText-1 hidden-the_row-TypeText-1 denote.Hole.Carrier.hidden
box_type o t = refl

box_faults : (o : Outline) (t : TypeText) → row_faults o (hidden-the_row-TypeText-1 t)
    ≡ text_faults o t
unfolding shape-the_row-TypeText-1 hidden-the_row-TypeText-1 denote.Hole.Carrier.hidden
box_faults o t = refl

box_place : (t : TypeText) → row_place (hidden-the_row-TypeText-1 t) ≡ text_place t
unfolding shape-the_row-TypeText-1 hidden-the_row-TypeText-1 denote.Hole.Carrier.hidden
box_place t = refl

-- an array, a record and a set by their parts
pub array_type : (o : Outline) (t of : TypeText) (ts : List TypeText) (place : ℕ)
    → t ≡ text.Array ts of place → text_type o t ≡ arrays o ts (text_type o of)
array_type o t of ts place h =
    ap (text_type o) h
    ∙ arrays_row o _ (hidden-the_row-TypeText-0 ts) (row_type o (hidden-the_row-TypeText-1 of))
    ∙ (λ i. arrays o (items_hidden-the_row-TypeText-0 ts i) (box_type o of i))

pub array_broken : (o : Outline) (t of : TypeText) (ts : List TypeText) (place : ℕ)
    → t ≡ text.Array ts of place
    → text_faults o t ≡ text_faults o of ++ indices_faults o ts (text_type o of) place
array_broken o t of ts place h =
    ap (text_faults o) h
    ∙ ap (λ fs. row_faults o (hidden-the_row-TypeText-1 of) ++ fs)
    (index_row o _ (hidden-the_row-TypeText-0 ts) (row_type o (hidden-the_row-TypeText-1 of))
    place)
    ∙ (λ i. box_faults o of i ++ indices_faults o (items_hidden-the_row-TypeText-0 ts i)
    (box_type o of i) place)

pub record_type : (o : Outline) (t : TypeText) (ds : List VarDef) (place : ℕ)
    → t ≡ text.Fields ds place → text_type o t ≡ record_of (fields_after o ds (Some no_fields))
record_type o t ds place h =
    ap (text_type o) h
    ∙ ap record_of (fields_row o _ (hidden-the_row-VarDef-2 ds) (Some no_fields))
    ∙ (λ i. record_of (fields_after o (items_hidden-the_row-VarDef-2 ds i) (Some no_fields)))

pub record_broken : (o : Outline) (t : TypeText) (ds : List VarDef) (place : ℕ)
    → t ≡ text.Fields ds place
    → text_faults o t ≡ defs_faults o ds ++ record_faults (fields_after o ds (Some no_fields)) place
record_broken o t ds place h =
    ap (text_faults o) h
    ∙ (λ i. defs_row o _ (hidden-the_row-VarDef-2 ds) i ++ record_faults
    (fields_row o _ (hidden-the_row-VarDef-2 ds) (Some no_fields) i) place)
    ∙ (λ i. defs_faults o (items_hidden-the_row-VarDef-2 ds i) ++ record_faults
    (fields_after o (items_hidden-the_row-VarDef-2 ds i) (Some no_fields)) place)

pub set_type : (o : Outline) (t of held : TypeText) (place : ℕ) → t ≡ text.Set of place → held ≡ of
    → text_type o t ≡ set_of (text_type o held)
set_type o t of held place is holds =
    ap (text_type o) is ∙ ap set_of (box_type o of) ∙ ap (λ x. set_of (text_type o x)) (sym holds)

pub set_broken : (o : Outline) (t of held : TypeText) (place : ℕ) → t ≡ text.Set of place
    → held ≡ of
    → text_faults o t ≡ text_faults o held ++ set_faults (text_type o held) (text_place held) place
set_broken o t of held place is holds =
    ap (text_faults o) is
    ∙ (λ i. box_faults o of i ++ set_faults (box_type o of i) (box_place of i) place)
    ∙ ap (λ x. text_faults o x ++ set_faults (text_type o x) (text_place x) place) (sym holds)

-- and what checking the parts one after the other notes
pub array_least : (o : Outline) (t of held : TypeText) (ts : List TypeText) (place : ℕ)
    (m : Option Measured) (before at after : Option Fault)
    → t ≡ text.Array ts of place → held ≡ of → m ≡ text_type o held
    → at ≡ least_with before (text_faults o held)
    → after ≡ least_with at (indices_faults o ts m place)
    → after ≡ least_with before (text_faults o t)
array_least o t of held ts place m before at after is holds kind done rest =
    rest
    ∙ (λ i. least_with (done i) (indices_faults o ts (kind i) place))
    ∙ sym (least_append before (text_faults o held) (indices_faults o ts (text_type o held) place))
    ∙ ap (λ x. least_with before (text_faults o x ++ indices_faults o ts (text_type o x) place))
    holds
    ∙ ap (least_with before) (sym (array_broken o t of ts place is))

pub record_least : (o : Outline) (t : TypeText) (ds : List VarDef) (place : ℕ) (g : Option Gathered)
    (before at after : Option Fault)
    → t ≡ text.Fields ds place → g ≡ fields_after o ds (Some no_fields)
    → at ≡ least_with before (defs_faults o ds)
    → after ≡ least_with at (record_faults g place) → after ≡ least_with before (text_faults o t)
record_least o t ds place g before at after is fields done rest =
    rest
    ∙ (λ i. least_with (done i) (record_faults (fields i) place))
    ∙ sym (least_append before (defs_faults o ds)
    (record_faults (fields_after o ds (Some no_fields)) place))
    ∙ ap (least_with before) (sym (record_broken o t ds place is))
