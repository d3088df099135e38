-- What is known of each sort of declaration, and where the parts of a text stand.
use Rattle.std.specs.Prelude.{ℕ, ℤ, pos, Bool, false, nat_le, List, []}
use Rattle.std.specs.Prelude.{◌∷◌, ◌++◌, Option, Some, None, if◌then◌else◌}
use Rattle.est_syntax.specs.Kinds.{maxint}
use Rattle.est_syntax.specs.declared.header.Queue.{Queue}
use Rattle.est_syntax.specs.declared.kind.Kind.{Kind}
use Rattle.rule_kinds.specs.rule_scope.declared.declaration.Sort.{Sort}
use Rattle.rule_kinds.specs.rule_scope.declared.declaration.Sort.TheVariants as sort
use Rattle.rule_kinds.specs.rule_scope.declared.declaration.Section.{Section}
use Rattle.rule_kinds.specs.rule_scope.declared.declaration.Section.TheVariants as section
use Rattle.rule_kinds.specs.rule_scope.declared.declaration.Entry.{Entry}
use Rattle.rule_kinds.specs.rule_scope.declared.declaration.Measured.{Measured}
use Rattle.rule_kinds.specs.rule_scope.declared.declaration.Side.{Side}
use Rattle.rule_kinds.specs.rule_scope.declared.declaration.Within.{Within}
use Rattle.rule_kinds.specs.declared.value.Valued.{Valued}
use Rattle.rule_kinds.specs.TypeTexts.{scalar}

-- a declaration of this sort with a kind, an ordinal, subscripts and a side, where it has such
abbrev pub entry :
    Within → Sort → Option Measured → Option ℤ → Option (List Kind) → Option Side → Entry
entry w s k z dims side = record {
  declared = record { sort = s; body = w.body };
  section = w.section;
  kind = k;
  ordinal = z;
  dims = dims;
  elements = 0;
  side = side;
  queue = None;
  states = None;
  header = None;
  closed = false;
  system = false;
  exports = false;
}

-- a declaration that has none of them
abbrev pub plain : Within → Sort → Entry
plain w s = entry w s None None None None

-- a type or a variable
abbrev pub typed : Within → Sort → Option Measured → Entry
typed w s k = entry w s k None None None

-- a constant, by its value
abbrev pub constant : Within → Option Valued → Entry
constant w None = plain w sort.Constant
constant w (Some v) = entry w sort.Constant (Some (scalar v.host)) (Some v.ordinal) None None

-- the constant of an enumeration with this number, whose kind is not known yet
abbrev pub ordinal_of : ℕ → Option ℤ
ordinal_of i = if nat_le i maxint then Some (pos i) else None

abbrev pub numbered : Within → ℕ → Entry
numbered w i = entry w sort.Constant None (ordinal_of i) None None

-- an interaction point, of so many elements, with the queue that its declaration names, if any
abbrev pub point : Within → Option (List Kind) → ℕ → Option Side → Option Queue → Entry
point w dims n side queue =
    record (entry w sort.Point None None dims side) { elements = n; queue = queue }

-- a module variable, of a header
abbrev pub module_variable : Within → Option (List Kind) → Option ℕ → Entry
module_variable w dims header =
    record (plain w sort.ModuleVariable) { dims = dims; header = header }

-- a state set, of the states at these places
abbrev pub state_set : Within → List ℕ → Entry
state_set w places = record (plain w sort.StateSet) { states = Some places }

-- a module header, with its attribute, and whether it has exports
abbrev pub header : Within → Bool → Bool → Entry
header w system exports = record (plain w sort.Header) { system = system; exports = exports }

-- the parts of a specification
abbrev pub outermost : Within
outermost = record {
  body = 0;
  region = 0;
  section = section.Body;
  header = None;
  own = 0 ∷ [];
  around = [];
}

-- the regions of a body: its own, and that of its header, where it has one
abbrev pub body_regions : ℕ → Option ℕ → List ℕ
body_regions place None = place ∷ []
body_regions place (Some header) = place ∷ header ∷ []

-- what stands in a body, which has the names of its header too
abbrev pub in_body : Within → ℕ → Option ℕ → Within
in_body w place header = record {
  body = place;
  region = place;
  section = section.Body;
  header = header;
  own = body_regions place header;
  around = w.own ++ w.around;
}

-- what stands in a region within the same body
abbrev pub inner : Within → ℕ → Within
inner w place = record w {
  region = place;
  section = section.Block;
  header = None;
  own = place ∷ w.own;
}

-- what a section declares in another region, and is looked up in the same ones
abbrev pub in_region : Section → Within → ℕ → Within
in_region s w place = record w { region = place; section = s; header = None }

-- what another section declares
abbrev pub in_section : Section → Within → Within
in_section s w = record w { section = s }

-- the regions of a transition lie within those of its body
abbrev pub with_region : Option ℕ → Within → Within
with_region None w = w
with_region (Some place) w = record w { own = place ∷ w.own }
