-- How an outline grows by a declaration.
use Rattle.std.specs.Prelude.{ℕ, max, Bool, nat_eq, List, [], ◌∷◌, ◌++◌}
use Rattle.std.specs.Prelude.{Option, Some, None, option_and_then}
use Rattle.std.specs.Map.{lookup, set_value}
use Rattle.std.specs.Option.{option_or}
use Rattle.indexmap.specs.IndexMap.{insert_entry}
use Rattle.est_syntax.specs.Names.{spelled}
use Rattle.est_syntax.specs.declared.name.Used.{Used}
use Rattle.rule_scope.specs.declared.declaration.Entry.{Entry}
use Rattle.rule_scope.specs.declared.declaration.Measured.{Measured}
use Rattle.rule_scope.specs.declared.declaration.Member.{Member}
use Rattle.rule_scope.specs.declared.declaration.Standing.{Standing}
use Rattle.rule_scope.specs.declared.declaration.Extent.{Extent}
use Rattle.rule_scope.specs.declared.declaration.Within.{Within}
use Rattle.rule_scope.specs.Outline.{Region, Outline, standing, entry_at}

-- nothing declared
abbrev pub empty : Outline
empty = record { entries = []; members = []; regions = []; extents = [] }

-- regions with one name more in one of them, which has these names if it has any
abbrev pub named_in : Option Region → List (ℕ × Region) → ℕ → List ℕ → Standing → List (ℕ × Region)
named_in None rs region name s = rs ++ (region, (name, s) ∷ []) ∷ []
named_in (Some names) rs region name s = set_value (nat_eq region) rs (names ++ (name, s) ∷ [])

-- regions with one name more in one of them
abbrev pub named : Outline → ℕ → List ℕ → Standing → List (ℕ × Region)
named o region name s = named_in (lookup (nat_eq region) o.regions) o.regions region name s

-- where a name stands among those of a header, if there is one
abbrev pub standing_of : Outline → Option ℕ → List ℕ → Option Standing
standing_of o header name = option_and_then (λ (h : ℕ). standing o h name) header

-- where a name stands that a region has, or the header whose names it has too
abbrev pub taken : Outline → Within → List ℕ → Option Standing
taken o w name = option_or (standing o w.region name) (standing_of o w.header name)

-- A name is declared in its region, and is in force after this place. One that stands there already
-- is not declared again.
abbrev pub declared_by : Option Standing → Within → Used → ℕ → Entry → Outline → Outline
declared_by (Some s) w u last e o = o
declared_by None w u last e o = record o {
  entries = insert_entry nat_eq o.entries u.place e;
  regions = named o w.region (spelled u) record { place = u.place; last = last };
}

-- a name is declared by a part of the text
abbrev pub declared : Within → Used → ℕ → Entry → Outline → Outline
declared w u last e o = declared_by (taken o w (spelled u)) w u last e o

-- a name of a channel or a record is put under it, where it does not stand there yet
abbrev pub put_by : Option Standing → ℕ → Used → Member → Outline → Outline
put_by (Some s) region u m o = o
put_by None region u m o = record o {
  members = insert_entry nat_eq o.members u.place m;
  regions = named o region (spelled u) record { place = u.place; last = u.place };
}

-- a name of a channel or a record is put under it, once
abbrev pub put : ℕ → Used → Member → Outline → Outline
put region u m o = put_by (standing o region (spelled u)) region u m o

-- what is known of the declaration at a place, if this is one, becomes that
abbrev pub amended_by : Option Entry → (Entry → Entry) → ℕ → Outline → Outline
amended_by None f place o = o
amended_by (Some e) f place o = record o { entries = set_value (nat_eq place) o.entries (f e) }

-- what is known of the declaration at a place changes
abbrev pub amended : (Entry → Entry) → ℕ → Outline → Outline
amended f place o = amended_by (entry_at o place) f place o

-- a declaration gets its kind
abbrev pub with_kind : Option Measured → Entry → Entry
with_kind k e = record e { kind = k }

-- a routine is closed, or it is not
abbrev pub with_closed : Bool → Entry → Entry
with_closed b e = record e { closed = b }

-- a body gets its header
abbrev pub with_header : Option ℕ → Entry → Entry
with_header h e = record e { header = h }

-- where the last of these extents begins, and this place if there is none
abbrev pub last_from : List Extent → ℕ → ℕ
last_from [] from = from
last_from (e ∷ es) from = last_from es e.from

-- From a place on, the text lies within these regions. No extent begins before the one before it.
abbrev pub extended : Within → ℕ → List Extent → List Extent
extended w place es =
    es ++ record { from = max (last_from es 0) place; own = w.own; around = w.around } ∷ []

-- from a place on, the text of an outline lies within these regions
abbrev pub lying : Within → ℕ → Outline → Outline
lying w place o = record o { extents = extended w place o.extents }
