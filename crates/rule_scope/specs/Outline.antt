-- What a specification declares, and what a name means at a place (ISO 9074, scope of identifiers;
-- ISO 7185, 6.2.2).
use Rattle.std.specs.Prelude.{ℕ, Bool, true, false, nat_lt, nat_eq, List, [], ◌∷◌}
use Rattle.std.specs.Prelude.{◌++◌, slice_get, Option, Some, None, unwrap_or, option_and_then}
use Rattle.std.specs.Prelude.{if◌then◌else◌}
use Rattle.std.specs.List.{list_any}
use Rattle.std.specs.Map.{lookup}
use Rattle.std.specs.Option.{option_or, option_map, option_map_or}
use Rattle.est_syntax.specs.Names.{is_name}
use Rattle.rule_scope.specs.declared.declaration.Sort.{Sort}
use Rattle.rule_scope.specs.declared.declaration.Sort.TheVariants as sort
use Rattle.rule_scope.specs.declared.declaration.Entry.{Entry}
use Rattle.rule_scope.specs.declared.declaration.Member.{Member}
use Rattle.rule_scope.specs.declared.declaration.Standing.{Standing}
use Rattle.rule_scope.specs.declared.declaration.Extent.{Extent}
use Rattle.rule_scope.specs.declared.declaration.Meant.{Meant}
use Rattle.rule_scope.specs.declared.declaration.Meant.TheVariants.{Unseen, Seen}
use Rattle.rule_scope.specs.declared.predeclared.PredeclaredName.{PredeclaredName}
use Rattle.rule_scope.specs.Predeclared.{predeclared_name, undeclared}

-- a region: the names that are declared in it, in the order of the text
abbrev pub Region : Type 0
Region = List (List ℕ × Standing)

-- What a text declares: the declarations by their places, and likewise the names of channels and
-- records; the regions by the places of their owners; and from which place on the text lies in
-- which regions.
pub record Outline : Type 0 where
  pub entries : List (ℕ × Entry)
  pub members : List (ℕ × Member)
  pub regions : List (ℕ × Region)
  pub extents : List Extent

-- the names of a region, in the order of the text
abbrev pub names_of : Outline → ℕ → Region
names_of o region = unwrap_or (lookup (nat_eq region) o.regions) []

-- where a name stands in a region, if there is one and it does
abbrev pub standing_in : Option Region → List ℕ → Option Standing
standing_in r name = option_and_then (λ (names : Region). lookup (is_name name) names) r

-- where a name stands in the region of this owner, if it does
abbrev pub standing : Outline → ℕ → List ℕ → Option Standing
standing o region name = standing_in (lookup (nat_eq region) o.regions) name

-- where a name of a region stands, if there is one
abbrev pub place_of : Option (List ℕ × Standing) → Option ℕ
place_of n = option_map (λ (x : List ℕ × Standing). x.1.place) n

-- where the name of a region stands that has this number, counted from 0
abbrev pub nth_in : Option Region → ℕ → Option ℕ
nth_in r i = option_and_then (λ (names : Region). place_of (slice_get names i)) r

-- the same in the region of this owner
abbrev pub nth : Outline → ℕ → ℕ → Option ℕ
nth o region i = nth_in (lookup (nat_eq region) o.regions) i

-- what is declared at a place
abbrev pub entry_at : Outline → ℕ → Option Entry
entry_at o place = lookup (nat_eq place) o.entries

-- the name of a channel or a record that stands at a place
abbrev pub member_at : Outline → ℕ → Option Member
member_at o place = lookup (nat_eq place) o.members

-- the place of a declaration where it is in force, else the other
abbrev pub in_force : Option Standing → ℕ → Option ℕ → Option ℕ
in_force None place other = other
in_force (Some s) place other = if nat_lt s.last place then Some s.place else other

-- the innermost declaration of a name that is in force at a place, of regions that are given from
-- the innermost on
abbrev pub found : Outline → List ℕ → List ℕ → ℕ → Option ℕ
found o [] name place = None
found o (r ∷ rs) name place = in_force (standing o r name) place (found o rs name place)

-- what a nested body sees of the bodies around it: constants, types, channels, headers, bodies, and
-- routines that are closed
abbrev pub is_shared_sort : Sort → Bool → Bool
is_shared_sort sort.Constant closed = true
is_shared_sort sort.TypeName closed = true
is_shared_sort sort.Channel closed = true
is_shared_sort sort.Header closed = true
is_shared_sort sort.Body closed = true
is_shared_sort sort.Procedure closed = closed
is_shared_sort sort.Function closed = closed
is_shared_sort _ closed = false

-- whether a nested body sees a declaration around it
abbrev pub is_shared : Option Entry → Bool
is_shared e = option_map_or (λ (x : Entry). is_shared_sort x.declared.sort x.closed) e false

-- what a declaration around a body means within it
abbrev pub seen_around : Bool → ℕ → Meant
seen_around shared place = if shared then Seen place else Unseen place

-- what a name means, predeclared or not, with these innermost declarations within its body and
-- around it
abbrev pub meant_by : Outline → Option PredeclaredName → Option ℕ → Option ℕ → Meant
meant_by o known (Some p) other = Seen p
meant_by o known None (Some p) = seen_around (is_shared (entry_at o p)) p
meant_by o known None None = undeclared known

-- the same where the text lies in these regions, if in any
abbrev pub meant_within : Outline → Option Extent → List ℕ → ℕ → Meant
meant_within o None name place = meant_by o (predeclared_name name) None None
meant_within o (Some e) name place =
    meant_by o (predeclared_name name) (found o e.own name place) (found o e.around name place)

-- an extent that begins at a place or before it
abbrev pub from_or_before : ℕ → Extent → Option Extent
from_or_before place e = if nat_lt place e.from then None else Some e

-- the last extent that begins at a place or before it
abbrev pub extent_at : List Extent → ℕ → Option Extent
extent_at [] place = None
extent_at (e ∷ es) place = option_or (extent_at es place) (from_or_before place e)

-- what a name means at a place
abbrev pub meant : Outline → List ℕ → ℕ → Meant
meant o name place = meant_within o (extent_at o.extents place) name place

-- whether a place of the text lies in the region of this owner
abbrev pub lies_in : Outline → ℕ → ℕ → Bool
lies_in o place region = option_map_or
    (λ (e : Extent). list_any (nat_eq region) (e.own ++ e.around)) (extent_at o.extents place) false
