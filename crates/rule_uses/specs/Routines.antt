-- The names that the text of a routine looks up, in its order (ISO 7185, 6.6).
use Rattle.std.specs.Prelude.{List, [], ◌∷◌, ◌++◌, Option, Some, None}
use Rattle.est_syntax.specs.declared.body.Block.{Block, out-Block}
use Rattle.est_syntax.specs.declared.body.Part.{Part}
use Rattle.est_syntax.specs.declared.body.Part.TheVariants as part
use Rattle.est_syntax.specs.declared.constant.ConstDef.{ConstDef}
use Rattle.est_syntax.specs.declared.name.Used.{Used}
use Rattle.est_syntax.specs.declared.routine.Formal.{Formal}
use Rattle.est_syntax.specs.declared.routine.Routine.{Routine, out-Routine}
use Rattle.est_syntax.specs.declared.type_text.TypeDef.{TypeDef}
use Rattle.rule_uses.specs.NamesInStatements.{statements_names}
use Rattle.rule_uses.specs.NamesInTexts.{constant_names, text_names, vardefs_names}

-- A constant's definition looks up what its value does.
abbrev pub constdef_names : ConstDef → List Used
constdef_names d = constant_names d.value

-- Definitions of constants look up what each of them does.
abbrev pub constdefs_names : List ConstDef → List Used
constdefs_names [] = []
constdefs_names (d ∷ ds) = constdef_names d ++ constdefs_names ds

-- A type's definition looks up what its text does.
abbrev pub typedef_names : TypeDef → List Used
typedef_names d = text_names d.text

-- Definitions of types look up what each of them does.
abbrev pub typedefs_names : List TypeDef → List Used
typedefs_names [] = []
typedefs_names (d ∷ ds) = typedef_names d ++ typedefs_names ds

-- A part of a routine's block looks up what its definitions do: it has constants, types or
-- variables.
abbrev pub part_names : Part → List Used
part_names (part.Consts defs) = constdefs_names defs
part_names (part.Types defs) = typedefs_names defs
part_names (part.Vars defs) = vardefs_names defs
part_names _ = []

-- The parts of such a block look up what each of them does.
abbrev pub parts_names : List Part → List Used
parts_names [] = []
parts_names (p ∷ ps) = part_names p ++ parts_names ps

-- The block of a routine looks up what its parts and its statements do.
abbrev pub block_names : Block → List Used
block_names b = parts_names (out-Block b).parts ++ statements_names (out-Block b).statements

-- Parameters declared together look up their type.
abbrev pub formal_names : Formal → List Used
formal_names f = f.kind ∷ []

-- Parameters look up their types.
abbrev pub formals_names : List Formal → List Used
formals_names [] = []
formals_names (f ∷ fs) = formal_names f ++ formals_names fs

-- The result of a function looks up its type.
abbrev pub result_names : Option Used → List Used
result_names None = []
result_names (Some u) = u ∷ []

-- A routine looks up the types of its parameters and of its result, and what its block does.
abbrev pub routine_names : Routine → List Used
routine_names r = formals_names (out-Routine r).formals ++ result_names (out-Routine r).result
    ++ block_names (out-Routine r).block
