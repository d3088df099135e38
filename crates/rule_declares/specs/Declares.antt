-- What the parts of a specification declare, in the order of the text: each name is looked up in
-- what is declared before it (ISO 9074, scope of identifiers; ISO 7185, 6.2.2).
use Rattle.std.specs.Prelude.{ℕ, suc, Bool, true, false, nat_lt, List}
use Rattle.std.specs.Prelude.{[], ◌∷◌, Option, Some, None, if◌then◌else◌}
use Rattle.est_syntax.specs.Names.{spelled}
use Rattle.est_syntax.specs.declared.name.Used.{Used}
use Rattle.est_syntax.specs.declared.constant.ConstDef.{ConstDef}
use Rattle.est_syntax.specs.declared.type_text.TypeText.{TypeText, Row_of-TypeText}
use Rattle.est_syntax.specs.declared.type_text.TypeText.{end_of-TypeText}
use Rattle.est_syntax.specs.declared.type_text.TypeText.{more_of-TypeText, Row_of-VarDef}
use Rattle.est_syntax.specs.declared.type_text.TypeText.{end_of-VarDef, more_of-VarDef}
use Rattle.est_syntax.specs.declared.type_text.TypeText.TheVariants as text
use Rattle.est_syntax.specs.declared.type_text.VarDef.{VarDef}
use Rattle.est_syntax.specs.declared.type_text.TypeDef.{TypeDef}
use Rattle.est_syntax.specs.declared.channel.Role.{Role}
use Rattle.est_syntax.specs.declared.channel.Role.TheVariants.{First, Second}
use Rattle.est_syntax.specs.declared.channel.InteractionDef.{InteractionDef}
use Rattle.est_syntax.specs.declared.channel.ByPart.{ByPart}
use Rattle.est_syntax.specs.declared.channel.Channel.{Channel}
use Rattle.est_syntax.specs.declared.header.Point.{Point}
use Rattle.est_syntax.specs.declared.header.Header.{Header}
use Rattle.est_syntax.specs.declared.header.ModvarDef.{ModvarDef}
use Rattle.est_syntax.specs.declared.routine.Formal.{Formal}
use Rattle.est_syntax.specs.declared.body.StateSet.{StateSet}
use Rattle.rule_kinds.specs.rule_scope.declared.declaration.Sort.TheVariants as sort
use Rattle.rule_kinds.specs.rule_scope.declared.declaration.Entry.{Entry}
use Rattle.rule_kinds.specs.rule_scope.declared.declaration.Measured.{Measured}
use Rattle.rule_kinds.specs.rule_scope.declared.declaration.Member.{Member}
use Rattle.rule_kinds.specs.rule_scope.declared.declaration.Member.TheVariants as member
use Rattle.rule_kinds.specs.rule_scope.declared.declaration.Section.{Section}
use Rattle.rule_kinds.specs.rule_scope.declared.declaration.Section.TheVariants as section
use Rattle.rule_kinds.specs.rule_scope.declared.declaration.Senders.{Senders}
use Rattle.rule_kinds.specs.rule_scope.declared.declaration.Standing.{Standing}
use Rattle.rule_kinds.specs.rule_scope.declared.declaration.Side.{Side}
use Rattle.rule_kinds.specs.rule_scope.declared.declaration.Within.{Within}
use Rattle.rule_kinds.specs.rule_scope.Outline.{Outline, standing, member_at}
use Rattle.rule_kinds.specs.rule_scope.Declaring.{declared, put, amended, with_kind, lying}
use Rattle.rule_kinds.specs.rule_scope.Uses.{declaration_of}
use Rattle.rule_kinds.specs.Constants.{constant_value, constant_last}
use Rattle.rule_kinds.specs.TypeTexts.{text_type, text_place, named_type, enumeration}
use Rattle.rule_kinds.specs.Dims.{dims_of, dims_elements}
use Rattle.rule_declares.specs.Entries.{plain, constant, numbered, point}
use Rattle.rule_declares.specs.Entries.{module_variable, state_set, header, in_region, in_section}
use Rattle.rule_declares.specs.Lasts.{names_last, text_last, channel_last, header_last}

-- names that are declared together
abbrev pub names_declare : Within → List Used → ℕ → Entry → Outline → Outline
names_declare w [] last e o = o
names_declare w (u ∷ us) last e o = names_declare w us last e (declared w u last e o)

-- a constant
abbrev pub constdef_declares : Within → ConstDef → Outline → Outline
constdef_declares w c o = declared w c.name (constant_last c.value)
    (constant w (constant_value (lying w c.name.place o) c.value)) (lying w c.name.place o)

abbrev pub consts_declare : Within → List ConstDef → Outline → Outline
consts_declare w [] o = o
consts_declare w (c ∷ cs) o = consts_declare w cs (constdef_declares w c o)

-- The constants of an enumeration, numbered from 0. They get its kind, which it has where none of
-- them is declared twice.
abbrev pub numbers_declare : Within → List Used → ℕ → ℕ → Outline → Outline
numbers_declare w [] last i o = o
numbers_declare w (u ∷ us) last i o =
    numbers_declare w us last (suc i) (declared w u last (numbered w i) o)

abbrev pub kinds_given : List Used → Option Measured → Outline → Outline
kinds_given [] k o = o
kinds_given (u ∷ us) k o = kinds_given us k (amended (with_kind k) u.place o)

abbrev pub enumerated : List Used → ℕ → Outline → Outline
enumerated names place o = kinds_given names (enumeration o names place) o

abbrev pub enumeration_declares : Within → List Used → ℕ → Outline → Outline
enumeration_declares w names place o =
    enumerated names place (numbers_declare w names (names_last names place) 0 o)

-- the names of the fields of a record
abbrev pub names_put : ℕ → List Used → Member → Outline → Outline
names_put region [] m o = o
names_put region (u ∷ us) m o = names_put region us m (put region u m o)

-- the enumerations and the fields within the text of a type
abbrev mutual
  pub text_declares : Within → TypeText → Outline → Outline
  text_declares w (text.Named u) o = o
  text_declares w (text.Range low high) o = o
  text_declares w (text.Names names place) o = enumeration_declares w names place o
  text_declares w (text.Array' a index b of place) o = row_declares w of (row_declares w index o)
  text_declares w (text.Fields' a defs place) o = row_fields_declare w place defs o
  text_declares w (text.Set' a of place) o = row_declares w of o

  pub row_declares : Within → {n : _} → Row_of-TypeText n → Outline → Outline
  row_declares w end_of-TypeText o = o
  row_declares w (more_of-TypeText t rest) o = row_declares w rest (text_declares w t o)

  pub row_fields_declare : Within → ℕ → {n : _} → Row_of-VarDef n → Outline → Outline
  row_fields_declare w region end_of-VarDef o = o
  row_fields_declare w region (more_of-VarDef names t rest) o =
      row_fields_declare w region rest (text_declares w t (names_put region names member.Field o))

-- A type. Its name is declared before those within its text, and gets its kind after them.
abbrev pub typedef_named : Within → TypeDef → Outline → Outline
typedef_named w t o = declared w t.name (text_last t.text) (plain w sort.TypeName) o

abbrev pub typedef_given : TypeDef → Outline → Outline
typedef_given t o = amended (with_kind (text_type o t.text)) t.name.place o

abbrev pub typedef_declares : Within → TypeDef → Outline → Outline
typedef_declares w t o =
    typedef_given t (text_declares w t.text (typedef_named w t (lying w t.name.place o)))

abbrev pub types_declare : Within → List TypeDef → Outline → Outline
types_declare w [] o = o
types_declare w (t ∷ ts) o = types_declare w ts (typedef_declares w t o)

-- variables, parameters, exports or `any` variables of one type, in the same way
abbrev pub vardef_named : Within → VarDef → Outline → Outline
vardef_named w v o = names_declare w v.names (text_last v.text) (plain w sort.Variable) o

abbrev pub vardef_given : VarDef → Outline → Outline
vardef_given v o = kinds_given v.names (text_type o v.text) o

abbrev pub vardef_declares : Within → VarDef → Outline → Outline
vardef_declares w v o =
    vardef_given v (text_declares w v.text (vardef_named w v (lying w (text_place v.text) o)))

abbrev pub vars_declare : Within → List VarDef → Outline → Outline
vars_declare w [] o = o
vars_declare w (v ∷ vs) o = vars_declare w vs (vardef_declares w v o)

-- the roles of a channel, of which the first stands first
abbrev pub roles_put : ℕ → List Used → Role → Outline → Outline
roles_put region [] r o = o
roles_put region (u ∷ us) r o = roles_put region us Second (put region u (member.Role r) o)

-- the interactions of a channel that these roles may send, each with a region for its parameters
abbrev pub interaction_declares : Within → ℕ → Senders → InteractionDef → Outline → Outline
interaction_declares w region senders i o =
    vars_declare (in_region section.Interaction w i.name.place) i.params
    (put region i.name (member.Interaction senders) o)

abbrev pub interactions_declare : Within → ℕ → Senders → List InteractionDef → Outline → Outline
interactions_declare w region senders [] o = o
interactions_declare w region senders (i ∷ is) o =
    interactions_declare w region senders is (interaction_declares w region senders i o)

-- what a name of a channel stands for
abbrev pub member_by : Outline → Option Standing → Option Member
member_by o None = None
member_by o (Some s) = member_at o s.place

abbrev pub member_named : Outline → ℕ → Used → Option Member
member_named o region u = member_by o (standing o region (spelled u))

-- the roles that a `by` names
abbrev pub sender : Option Member → Senders → Senders
sender (Some (member.Role First)) s = record { first = true; second = s.second }
sender (Some (member.Role Second)) s = record { first = s.first; second = true }
sender _ s = s

abbrev pub with_senders : Outline → ℕ → List Used → Senders → Senders
with_senders o region [] s = s
with_senders o region (u ∷ us) s = with_senders o region us (sender (member_named o region u) s)

abbrev pub senders : Outline → ℕ → List Used → Senders
senders o region us = with_senders o region us record { first = false; second = false }

-- the parts of a channel
abbrev pub by_part_declares : Within → ℕ → ByPart → Outline → Outline
by_part_declares w region b o =
    interactions_declare w region (senders o region b.roles) b.interactions o

abbrev pub by_parts_declare : Within → ℕ → List ByPart → Outline → Outline
by_parts_declare w region [] o = o
by_parts_declare w region (b ∷ bs) o = by_parts_declare w region bs (by_part_declares w region b o)

-- a channel, with a region for its roles and interactions
abbrev pub channel_declares : Within → Channel → Outline → Outline
channel_declares w c o = by_parts_declare w c.name.place c.by (roles_put c.name.place c.roles First
    (declared w c.name (channel_last c) (plain w sort.Channel) (lying w c.name.place o)))

-- the side of an interaction point, where its channel is one and has its role
abbrev pub side_with : ℕ → Option Member → Option Side
side_with channel (Some (member.Role r)) = Some record { channel = channel; role = r }
side_with channel _ = None

abbrev pub side_by : Outline → Option ℕ → Used → Option Side
side_by o None role = None
side_by o (Some channel) role = side_with channel (member_named o channel role)

abbrev pub side_of : Outline → Point → Option Side
side_of o p = side_by o (declaration_of o sort.Channel p.channel) p.role

-- interaction points
abbrev pub point_named : Within → Point → Outline → Outline
point_named w p o = names_declare w p.names p.role.place
    (point w (dims_of o p.dims) (dims_elements (dims_of o p.dims)) (side_of o p) p.queue) o

abbrev pub point_declares : Within → Point → Outline → Outline
point_declares w p o = point_named w p (lying w p.place o)

abbrev pub points_declare : Within → List Point → Outline → Outline
points_declare w [] o = o
points_declare w (p ∷ ps) o = points_declare w ps (point_declares w p o)

-- module variables
abbrev pub modvar_named : Within → ModvarDef → Outline → Outline
modvar_named w m o = names_declare w m.names m.header.place
    (module_variable w (dims_of o m.dims) (declaration_of o sort.Header m.header)) o

abbrev pub modvar_declares : Within → ModvarDef → Outline → Outline
modvar_declares w m o = modvar_named w m (lying w m.place o)

abbrev pub modvars_declare : Within → List ModvarDef → Outline → Outline
modvars_declare w [] o = o
modvars_declare w (m ∷ ms) o = modvars_declare w ms (modvar_declares w m o)

-- the exports that stand before a place, and the others
abbrev pub stands_before : VarDef → ℕ → Bool
stands_before v place = nat_lt (text_place v.text) place

abbrev pub before : List VarDef → ℕ → List VarDef
before [] place = []
before (v ∷ vs) place = if stands_before v place then v ∷ before vs place else []

abbrev pub after : List VarDef → ℕ → List VarDef
after [] place = []
after (v ∷ vs) place = if stands_before v place then after vs place else v ∷ vs

-- the interaction points and the exports of a header, in the order of the text
abbrev pub sections_declare : Within → List Point → List VarDef → Outline → Outline
sections_declare w [] vs o = vars_declare w vs o
sections_declare w (p ∷ ps) vs o = sections_declare w ps (after vs p.place)
    (point_declares w p (vars_declare w (before vs p.place) o))

abbrev pub has_exports : List VarDef → Bool
has_exports [] = false
has_exports (v ∷ vs) = true

-- a header, with a region for its parameters, interaction points and exports
abbrev pub header_named : Within → Header → Outline → Outline
header_named w h o = declared w h.name (header_last h) (header w h.system (has_exports h.exports))
    (lying w h.name.place o)

abbrev pub header_declares : Within → Header → Outline → Outline
header_declares w h o =
    sections_declare (in_region section.Header w h.name.place) h.points h.exports
    (vars_declare (in_region section.Parameter w h.name.place) h.params (header_named w h o))

-- states
abbrev pub states_declare : Within → List Used → Outline → Outline
states_declare w [] o = o
states_declare w (u ∷ us) o = states_declare w us (declared w u u.place (plain w sort.State) o)

-- the places of the states that these names mean, in the order of the text; a name that means none
-- gives no place
abbrev pub with_state : Option ℕ → List ℕ → List ℕ
with_state None places = places
with_state (Some p) places = p ∷ places

abbrev pub states_named : Outline → List Used → List ℕ
states_named o [] = []
states_named o (u ∷ us) = with_state (declaration_of o sort.State u) (states_named o us)

-- state sets
abbrev pub stateset_named : Within → StateSet → Outline → Outline
stateset_named w s o = declared w s.name (names_last s.states s.name.place)
    (state_set w (states_named o s.states)) o

abbrev pub stateset_declares : Within → StateSet → Outline → Outline
stateset_declares w s o = stateset_named w s (lying w s.name.place o)

abbrev pub statesets_declare : Within → List StateSet → Outline → Outline
statesets_declare w [] o = o
statesets_declare w (s ∷ ss) o = statesets_declare w ss (stateset_declares w s o)

-- formals of a routine
abbrev pub formal_section : Formal → Section
formal_section f = if f.by_place then section.Place else section.Value

abbrev pub formal_named : Within → Formal → Outline → Outline
formal_named w f o = names_declare w f.names f.kind.place (plain w sort.Variable) o

abbrev pub formal_given : Formal → Outline → Outline
formal_given f o = kinds_given f.names (named_type o f.kind) o

abbrev pub formal_declares : Within → Formal → Outline → Outline
formal_declares w f o = formal_given f
    (formal_named (in_section (formal_section f) w) f (lying w f.kind.place o))

abbrev pub formals_declare : Within → List Formal → Outline → Outline
formals_declare w [] o = o
formals_declare w (f ∷ fs) o = formals_declare w fs (formal_declares w f o)
