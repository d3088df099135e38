-- Where a declaration breaks no rule, nothing of it is missing.
use Rattle.std.specs.Prelude.{◌≡◌, ℕ, suc, ◌^◌, ◌≤◌, List, [], ◌∷◌, Option, Some, map}
use Rattle.est_syntax.specs.Kinds.{maxint}
use Rattle.est_syntax.specs.declared.name.Used.{Used}
use Rattle.est_syntax.specs.declared.constant.Constant.{Constant}
use Rattle.est_syntax.specs.declared.constant.ConstDef.{ConstDef}
use Rattle.est_syntax.specs.declared.type_text.TypeText.{TypeText}
use Rattle.est_syntax.specs.declared.type_text.TypeDef.{TypeDef}
use Rattle.est_syntax.specs.declared.type_text.VarDef.{VarDef}
use Rattle.est_syntax.specs.declared.header.Point.{Point}
use Rattle.est_syntax.specs.declared.header.ModvarDef.{ModvarDef}
use Rattle.est_syntax.specs.declared.routine.Formal.{Formal}
use Rattle.est_syntax.specs.declared.body.StateSet.{StateSet}
use Rattle.est_syntax.specs.declared.rule.Fault.{Fault}
use Rattle.rule_scope.specs.declared.declaration.Entry.{Entry}
use Rattle.rule_scope.specs.declared.declaration.Sort.{Sort}
use Rattle.rule_scope.specs.declared.declaration.Sort.TheVariants as sort
use Rattle.rule_scope.specs.declared.declaration.Meant.{Meant}
use Rattle.rule_scope.specs.declared.declaration.Meant.TheVariants.{Predeclared, Seen}
use Rattle.rule_scope.specs.declared.declaration.Standing.{Standing}
use Rattle.rule_scope.specs.declared.predeclared.PredeclaredName.{PredeclaredName}
use Rattle.rule_scope.specs.Outline.{Outline, standing, entry_at}
use Rattle.rule_scope.specs.Uses.{meaning_faults, use_faults, declaration_of, twices_faults}
use Rattle.rule_kinds.specs.declared.value.Valued.{Valued}
use Rattle.rule_kinds.specs.Constants.{constant_value, constant_faults, constant_last}
use Rattle.rule_kinds.specs.Constants.{value_with}
use Rattle.rule_kinds.specs.TypeTexts.{text_type, text_faults, named_type, enumeration, type_faults}
use Rattle.rule_kinds.specs.Dims.{dims_of, dims_faults}
use Rattle.rule_declares.specs.Entries.{ordinal_of}
use Rattle.rule_declares.specs.Declares.{side_of, states_named}
use Rattle.rule_declares.specs.Bodies.{body_header}
use Rattle.rule_declares.specs.Lasts.{text_last}
use Rattle.est_types.specs.declared.modules.Owner.{Owner}
use Rattle.est_types.specs.DeclarationFaults.{constdef_faults, typedef_faults, vardef_faults}
use Rattle.est_types.specs.DeclarationFaults.{point_faults, modvar_faults, formal_faults}
use Rattle.est_types.specs.DeclarationFaults.{stateset_faults}
use Rattle.text_reader.specs.Shown.{node, nodes}
use Rattle.law_places.specs.PlaceOrder.{Stands}
use Rattle.text_productions.specs.Nodes.{layer, a_use, a_constant, a_constant_definition}
use Rattle.text_productions.specs.Nodes.{a_type, a_short_type, a_type_definition, a_variable}
use Rattle.text_productions.specs.Nodes.{a_parameter, an_export, a_point, a_module_variable}
use Rattle.text_productions.specs.Nodes.{a_formal}
use Rattle.law_sentences.specs.Full.{IsThere, MayBeNegated, IsFull, IsFullFor, AreFullTo}
use Rattle.law_sentences.specs.Full.{AreFullBefore, AreInForceAfter}
use Rattle.law_sentences.specs.WrittenExpressions.{HasConstants}

-- where the declarations to a place are full, the constants and types in force before it are
abbrev pub WhatIsInForceIsFull : Type 0
WhatIsInForceIsFull = (o : Outline) (b : ℕ) → AreInForceAfter o → AreFullTo o b → AreFullBefore o b

-- each constant and each type of a region is full where those are that are in force at its last
-- place or before it
abbrev pub EachIsFullInTime : Outline → Type 0
EachIsFullInTime o = (region : ℕ) (name : List ℕ) (s : Standing) (e : Entry)
    → standing o region name ≡ Some s → entry_at o s.place ≡ Some e → AreFullBefore o (suc s.last)
    → IsFullFor e.declared.sort e

-- then all that are in force are full, one place after the other
abbrev pub PlaceByPlace : Type 0
PlaceByPlace = (o : Outline) → EachIsFullInTime o → (b : ℕ) → AreFullBefore o b

-- what is predeclared or declared breaks nothing of its own
abbrev pub IsKnown : Meant → (PredeclaredName → List Fault) → (ℕ → List Fault) → Type 0
IsKnown (Predeclared n) known declared = known n ≡ []
IsKnown (Seen place) known declared = declared place ≡ []
IsKnown _ known declared = ⊥

-- a use that breaks nothing means what is predeclared, or a declaration that is seen
abbrev pub MeaningsAreKnown : Type 0
MeaningsAreKnown = (m : Meant) (place : ℕ) (known : PredeclaredName → List Fault)
    (declared : ℕ → List Fault) → meaning_faults m place known declared ≡ []
    → IsKnown m known declared

-- a name whose use as a sort breaks nothing means a declaration of that sort
abbrev pub UsesAreSeen : Type 0
UsesAreSeen = (o : Outline) (s : Sort) (u : Used) → use_faults o s u ≡ []
    → IsThere (declaration_of o s u)

-- there is a value, which may be negated
abbrev pub HasValue : Option Valued → Type 0
HasValue k = (v : Valued) × (k ≡ Some v) × MayBeNegated v.host v.ordinal

-- a constant that breaks no rule has a value
abbrev pub ConstantsAreFull : Type 0
ConstantsAreFull = (o : Outline) (c : Constant) (a b : ℕ) → AreFullBefore o b
    → Stands layer (node (a_constant c)) a b → constant_faults o c ≡ []
    → HasValue (constant_value o c)

-- the text of a type that breaks no rule has a kind
abbrev pub TextsAreFull : Type 0
TextsAreFull = (o : Outline) (t : TypeText) (a b : ℕ) → AreFullBefore o b
    → Stands layer (node (a_type t)) a b → HasConstants t → text_faults o t ≡ []
    → IsThere (text_type o t)

-- a name or a range that breaks no rule as a type has a kind
abbrev pub ShortTypesAreFull : Type 0
ShortTypesAreFull = (o : Outline) (t : TypeText) (a b : ℕ) → AreFullBefore o b
    → Stands layer (node (a_short_type t)) a b → text_faults o t ≡ [] → IsThere (text_type o t)

-- dims that break no rule have kinds
abbrev pub DimsAreFull : Type 0
DimsAreFull = (o : Outline) (ts : List TypeText) (a b place : ℕ) → AreFullBefore o b
    → Stands layer (nodes (map a_short_type ts)) a b → dims_faults o ts place ≡ []
    → IsThere (dims_of o ts)

-- a constant with the value that the outline gives it is full
abbrev pub ConstantDefinitionsAreFull : Type 0
ConstantDefinitionsAreFull = (o : Outline) (d : ConstDef) (e : Entry) (a b : ℕ)
    → AreFullBefore o b → Stands layer (node (a_constant_definition d)) a b
    → constdef_faults o d ≡ [] → e.declared.sort ≡ sort.Constant
    → value_with e.kind e.ordinal ≡ constant_value o d.value → IsFull e

-- the same, where those are full that are in force at its last place or before it
abbrev pub ConstantDefinitionsAreFullInTime : Type 0
ConstantDefinitionsAreFullInTime = (o : Outline) (d : ConstDef) (e : Entry)
    → AreFullBefore o (suc (constant_last d.value)) → constdef_faults o d ≡ []
    → e.declared.sort ≡ sort.Constant → value_with e.kind e.ordinal ≡ constant_value o d.value
    → IsFull e

-- a constant of an enumeration with the kind and the number that the outline gives it is full
abbrev pub NumberedConstantsAreFull : Type 0
NumberedConstantsAreFull = (o : Outline) (u : Used) (us : List Used) (place i : ℕ) (e : Entry)
    → twices_faults o (u ∷ us) ≡ [] → i ≤ maxint → e.declared.sort ≡ sort.Constant
    → e.kind ≡ enumeration o (u ∷ us) place → e.ordinal ≡ ordinal_of i → IsFull e

-- a type with the kind that the outline gives it is full
abbrev pub TypeDefinitionsAreFull : Type 0
TypeDefinitionsAreFull = (o : Outline) (d : TypeDef) (e : Entry) (a b : ℕ) → AreFullBefore o b
    → Stands layer (node (a_type_definition d)) a b → HasConstants d.text
    → typedef_faults o d ≡ [] → e.declared.sort ≡ sort.TypeName → e.kind ≡ text_type o d.text
    → IsFull e

-- the same, where those are full that are in force at its last place or before it; places are
-- numbers of 32 bits
abbrev pub TypeDefinitionsAreFullInTime : Type 0
TypeDefinitionsAreFullInTime = (o : Outline) (d : TypeDef) (e : Entry) (a b : ℕ) → b ≤ 2 ^ 32
    → AreFullBefore o (suc (text_last d.text)) → Stands layer (node (a_type_definition d)) a b
    → HasConstants d.text → typedef_faults o d ≡ [] → e.declared.sort ≡ sort.TypeName
    → e.kind ≡ text_type o d.text → IsFull e

-- a variable with the kind that the outline gives it is full
abbrev pub VariableDeclarationsAreFull : Type 0
VariableDeclarationsAreFull = (o : Outline) (v : VarDef) (e : Entry) (a b : ℕ) → AreFullBefore o b
    → Stands layer (node (a_variable v)) a b → HasConstants v.text → vardef_faults o v ≡ []
    → e.declared.sort ≡ sort.Variable → e.kind ≡ text_type o v.text → IsFull e

-- and so is a parameter, or a name of an `any`, of which the text alone is asked for
abbrev pub ParametersAreFull : Type 0
ParametersAreFull = (o : Outline) (v : VarDef) (e : Entry) (a b : ℕ) → AreFullBefore o b
    → Stands layer (node (a_parameter v)) a b → text_faults o v.text ≡ []
    → e.declared.sort ≡ sort.Variable → e.kind ≡ text_type o v.text → IsFull e

-- and an export
abbrev pub ExportsAreFull : Type 0
ExportsAreFull = (o : Outline) (v : VarDef) (e : Entry) (a b : ℕ) → AreFullBefore o b
    → Stands layer (node (an_export v)) a b → vardef_faults o v ≡ []
    → e.declared.sort ≡ sort.Variable → e.kind ≡ text_type o v.text → IsFull e

-- an interaction point with the subscripts and the side that the outline gives it is full
abbrev pub PointsAreFull : Type 0
PointsAreFull = (o : Outline) (p : Point) (e : Entry) (a b : ℕ) → AreFullBefore o b
    → Stands layer (node (a_point p)) a b → point_faults o p ≡ []
    → e.declared.sort ≡ sort.Point → e.dims ≡ dims_of o p.dims → e.side ≡ side_of o p → IsFull e

-- a module variable with the subscripts and the header that the outline gives it is full
abbrev pub ModuleVariablesAreFull : Type 0
ModuleVariablesAreFull = (o : Outline) (owner : Owner) (m : ModvarDef) (e : Entry) (a b : ℕ)
    → AreFullBefore o b → Stands layer (node (a_module_variable m)) a b
    → modvar_faults o owner m ≡ [] → e.declared.sort ≡ sort.ModuleVariable
    → e.dims ≡ dims_of o m.dims → e.header ≡ declaration_of o sort.Header m.header → IsFull e

-- a formal with the kind that the outline gives it is full
abbrev pub FormalsAreFull : Type 0
FormalsAreFull = (o : Outline) (result : Option Used) (f : Formal) (e : Entry) (a b : ℕ)
    → AreFullBefore o b → Stands layer (node (a_formal f)) a b → formal_faults o result f ≡ []
    → e.declared.sort ≡ sort.Variable → e.kind ≡ named_type o f.kind → IsFull e

-- a function with the kind that the outline gives its result is full
abbrev pub FunctionsAreFull : Type 0
FunctionsAreFull = (o : Outline) (u : Used) (e : Entry) (a b : ℕ) → AreFullBefore o b
    → Stands layer (node (a_use u)) a b → type_faults o u ≡ []
    → e.declared.sort ≡ sort.Function → e.kind ≡ named_type o u → IsFull e

-- of a state set the place of each state that it names is known, in the order of the text
abbrev pub StateSetsAreFull : Type 0
StateSetsAreFull = (o : Outline) (s : StateSet) → stateset_faults o s ≡ []
    → map Some (states_named o s.states) ≡ map (declaration_of o sort.State) s.states

-- a body with the header that the outline gives it is full
abbrev pub BodiesAreFull : Type 0
BodiesAreFull = (o : Outline) (header : Used) (e : Entry) → use_faults o sort.Header header ≡ []
    → e.declared.sort ≡ sort.Body → e.header ≡ body_header o header → IsFull e
