-- The kinds of the texts of types, with their sizes, and the rules that such texts break (ISO 7185,
-- 6.4).
use Rattle.std.specs.Prelude.{ℕ, suc, ◌+◌, ◌*◌, ◌-◌, ◌^◌, min, max, ℤ, pos, negsuc, ◌-ℤ◌}
use Rattle.std.specs.Prelude.{int_lt, Bool, true, false, ◌&&◌, nat_lt, nat_eq, List, [], ◌∷◌}
use Rattle.std.specs.Prelude.{◌++◌, map, length, Option, Some, None, is_some, is_none}
use Rattle.std.specs.Prelude.{if◌then◌else◌}
use Rattle.est_syntax.specs.Faults.{broken, broken_if}
use Rattle.est_syntax.specs.Kinds.{is_ordinal}
use Rattle.est_syntax.specs.declared.name.Used.{Used}
use Rattle.est_syntax.specs.declared.kind.Kind.{Kind, out-Kind}
use Rattle.est_syntax.specs.declared.kind.Kind.TheOpen as seen
use Rattle.est_syntax.specs.declared.kind.Kind.TheVariants as kind
use Rattle.est_syntax.specs.declared.kind.FieldKind.{FieldKind}
use Rattle.est_syntax.specs.declared.type_text.TypeText.{TypeText, Row_of-TypeText}
use Rattle.est_syntax.specs.declared.type_text.TypeText.{end_of-TypeText}
use Rattle.est_syntax.specs.declared.type_text.TypeText.{more_of-TypeText, Row_of-VarDef}
use Rattle.est_syntax.specs.declared.type_text.TypeText.{end_of-VarDef, more_of-VarDef}
use Rattle.est_syntax.specs.declared.type_text.TypeText.TheVariants as text
use Rattle.est_syntax.specs.declared.type_text.VarDef.{VarDef}
use Rattle.est_syntax.specs.declared.rule.Fault.{Fault}
use Rattle.est_syntax.specs.declared.rule.Rule.TheVariants.{WrongSort, WrongBounds}
use Rattle.est_syntax.specs.declared.rule.Rule.TheVariants.{TooLarge, WrongKind}
use Rattle.rule_scope.specs.declared.declaration.Entry.{Entry}
use Rattle.rule_scope.specs.declared.declaration.Measured.{Measured}
use Rattle.rule_scope.specs.declared.declaration.Meant.{Meant}
use Rattle.rule_scope.specs.declared.declaration.Meant.TheVariants.{Predeclared, Seen}
use Rattle.rule_scope.specs.declared.declaration.Sort.TheVariants as sort
use Rattle.rule_scope.specs.declared.predeclared.PredeclaredName.{PredeclaredName}
use Rattle.rule_scope.specs.declared.predeclared.PredeclaredName.TheVariants as known
use Rattle.rule_scope.specs.Outline.{Outline, entry_at, member_at}
use Rattle.rule_scope.specs.Uses.{is_sort, meaning, meaning_faults, other_sort_faults}
use Rattle.rule_scope.specs.Uses.{twices_faults, agains_faults}
use Rattle.rule_kinds.specs.declared.value.Valued.{Valued}
use Rattle.rule_kinds.specs.declared.value.Gathered.{Gathered}
use Rattle.rule_kinds.specs.Constants.{constant_value, constant_faults, constant_place}

-- the greatest number of scalars of a type
abbrev pub most_scalars : ℕ
most_scalars = 65536

-- the greatest number of its levels of arrays and records
abbrev pub most_levels : ℕ
most_levels = 32

-- the greatest number of members of a set
abbrev pub most_members : ℕ
most_members = 64

-- the greatest number of elements of an array of interaction points or module variables
abbrev pub most_elements : ℕ
most_elements = 256

-- a sum of sizes, which are numbers of 64 bits and stay at the greatest one
abbrev pub added : ℕ → ℕ → ℕ
added a b = min (a + b) (2 ^ 64 - 1)

-- a product of sizes
abbrev pub multiplied : ℕ → ℕ → ℕ
multiplied a b = min (a * b) (2 ^ 64 - 1)

-- a kind with one scalar
abbrev pub scalar : Kind → Measured
scalar k = record { kind = k; scalars = 1; levels = 0 }

-- whether so many scalars and levels are within the limits of a type
abbrev pub is_within : ℕ → ℕ → Bool
is_within scalars levels = if nat_lt most_scalars scalars then false else
    (if nat_lt most_levels levels then false else true)

-- a kind within the limits of a type
abbrev pub limited : Measured → Option Measured
limited m = if is_within m.scalars m.levels then Some m else None

-- whether two hosts are one: an enumeration is known by the place of its declaration
abbrev pub same_host : Kind → Kind → Bool
same_host j k = same (out-Kind j) (out-Kind k)
  where
    same : seen.Kind-F Kind FieldKind → seen.Kind-F Kind FieldKind → Bool
    same seen.Integer seen.Integer = true
    same seen.Boolean seen.Boolean = true
    same seen.Char seen.Char = true
    same (seen.Enumeration p names) (seen.Enumeration q others) = nat_eq p q
    same _ _ = false

-- how many ordinals lie from one to another
abbrev pub counted : ℤ → ℕ
counted (pos n) = suc n
counted (negsuc n) = 0

-- how many values an ordinal kind has
abbrev pub count : Kind → ℕ
count k = of (out-Kind k)
  where
    of : seen.Kind-F Kind FieldKind → ℕ
    of seen.Integer = 4294967295
    of seen.Boolean = 2
    of seen.Char = 128
    of (seen.Enumeration place names) = length names
    of (seen.Part host low high) = counted (high -ℤ low)
    of _ = 0

-- the types that are predeclared
abbrev pub predeclared_type : PredeclaredName → Option Measured
predeclared_type known.Integer = Some (scalar kind.Integer)
predeclared_type known.Boolean = Some (scalar kind.Boolean)
predeclared_type known.Char = Some (scalar kind.Char)
predeclared_type _ = None

-- the kind of a declaration, where it is that of a type and has one
abbrev pub type_by : Option Entry → Option Measured
type_by None = None
type_by (Some e) = if is_sort sort.TypeName (Some e) then e.kind else None

-- the kind of the type that a name of this meaning means
abbrev pub type_meant : Outline → Meant → Option Measured
type_meant o (Predeclared n) = predeclared_type n
type_meant o (Seen p) = type_by (entry_at o p)
type_meant o _ = None

-- the kind of the type that a name means
abbrev pub named_type : Outline → Used → Option Measured
named_type o u = type_meant o (meaning o u)

-- a name of this meaning where a type is wanted
abbrev pub type_used : Outline → Used → Meant → List Fault
type_used o u m = meaning_faults m u.place
    (λ (n : PredeclaredName). broken_if (is_none (predeclared_type n)) u.place WrongSort)
    (other_sort_faults o sort.TypeName u.place)

-- a name where a type is wanted
abbrev pub type_faults : Outline → Used → List Fault
type_faults o u = type_used o u (meaning o u)

-- whether two constants bound a range: both have one host, and the first is not greater
abbrev pub are_bounds : Valued → Valued → Bool
are_bounds a b =
    if same_host a.host b.host then (if int_lt b.ordinal a.ordinal then false else true) else false

-- the kind of a range between two constants
abbrev pub range : Option Valued → Option Valued → Option Measured
range (Some a) (Some b) =
    if are_bounds a b then Some (scalar (kind.Part a.host a.ordinal b.ordinal)) else None
range _ _ = None

-- what a range at a place breaks by two constants that do not bound it
abbrev pub range_faults : Option Valued → Option Valued → ℕ → List Fault
range_faults (Some a) (Some b) place = if are_bounds a b then [] else broken place WrongBounds
range_faults _ _ place = []

-- whether all of these names of an enumeration are declared by it
abbrev pub are_declared : Outline → List Used → Bool
are_declared o [] = true
are_declared o (u ∷ us) = is_some (entry_at o u.place) && are_declared o us

-- the kind of an enumeration of names at a place, all of which are declared by it
abbrev pub enumeration : Outline → List Used → ℕ → Option Measured
enumeration o [] place = None
enumeration o (u ∷ us) place = if are_declared o (u ∷ us)
    then Some (scalar (kind.Enumeration place (map (λ (x : Used). x.name) (u ∷ us)))) else None

-- the kind of an array over an index
abbrev pub array : Measured → Measured → Measured
array i m = record {
  kind = kind.ArrayOf i.kind m.kind;
  scalars = multiplied (count i.kind) m.scalars;
  levels = added 1 m.levels;
}

-- the same where the index is ordinal and the array is within the limits of a type
abbrev pub array_of : Option Measured → Option Measured → Option Measured
array_of (Some i) (Some m) = if is_ordinal i.kind then limited (array i m) else None
array_of _ _ = None

-- what is too large at a place has no kind
abbrev pub size_faults : Option Measured → ℕ → List Fault
size_faults None place = broken place TooLarge
size_faults (Some m) place = []

-- an array at a place over an index, where it is too large
abbrev pub array_size : Measured → Option Measured → ℕ → List Fault
array_size i None place = []
array_size i (Some m) place = size_faults (limited (array i m)) place

-- what an array breaks by an index that begins at the first place, where the array does at the
-- second
abbrev pub array_faults : Option Measured → Option Measured → ℕ → ℕ → List Fault
array_faults None m first place = []
array_faults (Some i) m first place =
    if is_ordinal i.kind then array_size i m place else broken first WrongKind

-- the kind of a set over a base that has not too many values
abbrev pub set_by : Measured → Option Measured
set_by b = if nat_lt most_members (count b.kind) then None else Some (scalar (kind.SetOf b.kind))

-- the kind of a set over a base, which is ordinal
abbrev pub set_of : Option Measured → Option Measured
set_of None = None
set_of (Some b) = if is_ordinal b.kind then set_by b else None

-- what a set breaks by a base that begins at the first place, where the set does at the second
abbrev pub set_faults : Option Measured → ℕ → ℕ → List Fault
set_faults None first place = []
set_faults (Some b) first place =
    if is_ordinal b.kind then size_faults (set_by b) place else broken first WrongKind

-- no fields of a record so far, with their scalars and their greatest level
abbrev pub no_fields : Gathered
no_fields = record { kinds = []; scalars = 0; levels = 0 }

-- fields of these names and one kind
abbrev pub field_kinds : List Used → Kind → List FieldKind
field_kinds [] k = []
field_kinds (u ∷ us) k = record { name = u.name; kind = k } ∷ field_kinds us k

-- the fields so far, and some names more that are declared with one type
abbrev pub with_fields : Option Gathered → List Used → Option Measured → Option Gathered
with_fields (Some g) us (Some m) = Some record {
  kinds = g.kinds ++ field_kinds us m.kind;
  scalars = added g.scalars (multiplied (length us) m.scalars);
  levels = max g.levels m.levels;
}
with_fields _ us _ = None

-- whether all of these names of a record are declared by it
abbrev pub are_members : Outline → List Used → Bool
are_members o [] = true
are_members o (u ∷ us) = is_some (member_at o u.place) && are_members o us

-- the fields so far, where all of these names are declared by their record
abbrev pub known_fields : Outline → List Used → Option Gathered → Option Gathered
known_fields o us g = if are_members o us then g else None

-- the kind of a record of these fields
abbrev pub fields : Gathered → Measured
fields g = record { kind = kind.Fields g.kinds; scalars = g.scalars; levels = added 1 g.levels }

-- the same where it is within the limits of a type
abbrev pub record_of : Option Gathered → Option Measured
record_of None = None
record_of (Some g) = limited (fields g)

-- what a record of these fields at a place breaks
abbrev pub record_faults : Option Gathered → ℕ → List Fault
record_faults None place = []
record_faults (Some g) place = size_faults (limited (fields g)) place

-- the place of the first token of the text of a type
abbrev pub text_place : TypeText → ℕ
text_place (text.Named u) = u.place
text_place (text.Range low high) = constant_place low
text_place (text.Names names place) = place
text_place (text.Array' a index b of place) = place
text_place (text.Fields' a fields place) = place
text_place (text.Set' a of place) = place

-- The kind of the text of a type, where it and all its parts break no rule. An array of several
-- indices is an array of arrays.
abbrev mutual
  pub text_type : Outline → TypeText → Option Measured
  text_type o (text.Named u) = named_type o u
  text_type o (text.Range low high) = range (constant_value o low) (constant_value o high)
  text_type o (text.Names names place) = enumeration o names place
  text_type o (text.Array' a index b of place) = row_arrays o index (row_type o of)
  text_type o (text.Fields' a defs place) = record_of (row_fields o defs (Some no_fields))
  text_type o (text.Set' a of place) = set_of (row_type o of)

  -- of the one text in a box
  pub row_type : Outline → {n : _} → Row_of-TypeText n → Option Measured
  row_type o end_of-TypeText = None
  row_type o (more_of-TypeText t rest) = text_type o t

  pub row_arrays : Outline → {n : _} → Row_of-TypeText n → Option Measured → Option Measured
  row_arrays o end_of-TypeText m = m
  row_arrays o (more_of-TypeText t rest) m = array_of (text_type o t) (row_arrays o rest m)

  pub row_fields : Outline → {n : _} → Row_of-VarDef n → Option Gathered → Option Gathered
  row_fields o end_of-VarDef g = g
  row_fields o (more_of-VarDef names t rest) g =
      row_fields o rest (with_fields (known_fields o names g) names (text_type o t))

-- What the text of a type breaks, the parts of an array from the last one on: the order says
-- nothing.
abbrev mutual
  pub text_faults : Outline → TypeText → List Fault
  text_faults o (text.Named u) = type_faults o u
  text_faults o (text.Range low high) = constant_faults o low ++ constant_faults o high
      ++ range_faults (constant_value o low) (constant_value o high) (constant_place low)
  text_faults o (text.Names names place) = twices_faults o names
  text_faults o (text.Array' a index b of place) =
      row_faults o of ++ row_index_faults o index (row_type o of) place
  text_faults o (text.Fields' a defs place) =
      row_field_faults o defs ++ record_faults (row_fields o defs (Some no_fields)) place
  text_faults o (text.Set' a of place) =
      row_faults o of ++ set_faults (row_type o of) (row_place of) place

  pub row_faults : Outline → {n : _} → Row_of-TypeText n → List Fault
  row_faults o end_of-TypeText = []
  row_faults o (more_of-TypeText t rest) = text_faults o t

  pub row_place : {n : _} → Row_of-TypeText n → ℕ
  row_place end_of-TypeText = 0
  row_place (more_of-TypeText t rest) = text_place t

  pub row_index_faults : Outline → {n : _} → Row_of-TypeText n → Option Measured → ℕ → List Fault
  row_index_faults o end_of-TypeText m place = []
  row_index_faults o (more_of-TypeText t rest) m place = row_index_faults o rest m place
      ++ (text_faults o t
      ++ array_faults (text_type o t) (row_arrays o rest m) (text_place t) place)

  pub row_field_faults : Outline → {n : _} → Row_of-VarDef n → List Fault
  row_field_faults o end_of-VarDef = []
  row_field_faults o (more_of-VarDef names t rest) =
      (agains_faults o names ++ text_faults o t) ++ row_field_faults o rest

-- The same over lists. The kind of an array over these indices, of what it holds:
abbrev pub arrays : Outline → List TypeText → Option Measured → Option Measured
arrays o [] m = m
arrays o (t ∷ ts) m = array_of (text_type o t) (arrays o ts m)

-- the fields so far, and those of one declaration more
abbrev pub with_def : Outline → Option Gathered → VarDef → Option Gathered
with_def o g d = with_fields (known_fields o d.names g) d.names (text_type o d.text)

-- and those of these declarations
abbrev pub fields_after : Outline → List VarDef → Option Gathered → Option Gathered
fields_after o [] g = g
fields_after o (d ∷ ds) g = fields_after o ds (with_def o g d)

-- what an index breaks in an array at a place, of what it holds
abbrev pub index_faults : Outline → TypeText → Option Measured → ℕ → List Fault
index_faults o t m place = text_faults o t ++ array_faults (text_type o t) m (text_place t) place

-- and what these indices break
abbrev pub indices_faults : Outline → List TypeText → Option Measured → ℕ → List Fault
indices_faults o [] m place = []
indices_faults o (t ∷ ts) m place =
    indices_faults o ts m place ++ index_faults o t (arrays o ts m) place

-- what fields break that are declared with one type
abbrev pub def_faults : Outline → VarDef → List Fault
def_faults o d = agains_faults o d.names ++ text_faults o d.text

-- and what these declarations of fields break
abbrev pub defs_faults : Outline → List VarDef → List Fault
defs_faults o [] = []
defs_faults o (d ∷ ds) = def_faults o d ++ defs_faults o ds
