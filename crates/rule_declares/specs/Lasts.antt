-- The last place of a part that declares names, after which they are in force.
use Rattle.std.specs.Prelude.{ℕ, max, List, [], ◌∷◌}
use Rattle.est_syntax.specs.declared.name.Used.{Used}
use Rattle.est_syntax.specs.declared.type_text.TypeText.{TypeText, Row_of-TypeText}
use Rattle.est_syntax.specs.declared.type_text.TypeText.{end_of-TypeText}
use Rattle.est_syntax.specs.declared.type_text.TypeText.{more_of-TypeText, Row_of-VarDef}
use Rattle.est_syntax.specs.declared.type_text.TypeText.{end_of-VarDef, more_of-VarDef}
use Rattle.est_syntax.specs.declared.type_text.TypeText.TheVariants as text
use Rattle.est_syntax.specs.declared.type_text.VarDef.{VarDef}
use Rattle.est_syntax.specs.declared.channel.InteractionDef.{InteractionDef}
use Rattle.est_syntax.specs.declared.channel.ByPart.{ByPart}
use Rattle.est_syntax.specs.declared.channel.Channel.{Channel}
use Rattle.est_syntax.specs.declared.header.Point.{Point}
use Rattle.est_syntax.specs.declared.header.Header.{Header}
use Rattle.rule_kinds.specs.Constants.{constant_last}

-- of names, or else this place
abbrev pub names_last : List Used → ℕ → ℕ
names_last [] last = last
names_last (u ∷ us) last = names_last us u.place

-- of the text of a type
abbrev mutual
  pub text_last : TypeText → ℕ
  text_last (text.Named u) = u.place
  text_last (text.Range low high) = constant_last high
  text_last (text.Names names place) = names_last names place
  text_last (text.Array' a index b of place) = row_last of place
  text_last (text.Fields' a defs place) = row_fields_last defs place
  text_last (text.Set' a of place) = row_last of place

  pub row_last : {n : _} → Row_of-TypeText n → ℕ → ℕ
  row_last end_of-TypeText last = last
  row_last (more_of-TypeText t rest) last = text_last t

  pub row_fields_last : {n : _} → Row_of-VarDef n → ℕ → ℕ
  row_fields_last end_of-VarDef last = last
  row_fields_last (more_of-VarDef names t rest) last = row_fields_last rest (text_last t)

-- of parameters or exports, or else this place
abbrev pub vars_last : List VarDef → ℕ → ℕ
vars_last [] last = last
vars_last (v ∷ vs) last = vars_last vs (text_last v.text)

-- of interactions, or else this place
abbrev pub interactions_last : List InteractionDef → ℕ → ℕ
interactions_last [] last = last
interactions_last (i ∷ is) last = interactions_last is (vars_last i.params i.name.place)

-- of the parts of a channel, or else this place
abbrev pub by_last : List ByPart → ℕ → ℕ
by_last [] last = last
by_last (b ∷ bs) last = by_last bs (interactions_last b.interactions last)

-- of a channel
abbrev pub channel_last : Channel → ℕ
channel_last c = by_last c.by c.name.place

-- of interaction points, or else this place
abbrev pub points_last : List Point → ℕ → ℕ
points_last [] last = last
points_last (p ∷ ps) last = points_last ps p.role.place

-- of a header, whose sections stand in any order
abbrev pub header_last : Header → ℕ
header_last h = max (vars_last h.params h.name.place)
    (max (points_last h.points h.name.place) (vars_last h.exports h.name.place))
