-- Where declarations stand between two places.
use Rattle.std.proofs.Common.{ℕ, suc, ◌<◌, ◌≤◌, List, [], ◌∷◌}
use Rattle.est_syntax.specs.declared.constant.ConstDef.{ConstDef}
use Rattle.est_syntax.specs.declared.type_text.VarDef.{VarDef}
use Rattle.est_syntax.specs.declared.type_text.TypeDef.{TypeDef}
use Rattle.est_syntax.specs.declared.channel.InteractionDef.{InteractionDef}
use Rattle.est_syntax.specs.declared.channel.ByPart.{ByPart}
use Rattle.est_syntax.specs.declared.channel.Channel.{Channel}
use Rattle.est_syntax.specs.declared.header.Point.{Point}
use Rattle.est_syntax.specs.declared.header.Header.{Header}
use Rattle.est_syntax.specs.declared.header.ModvarDef.{ModvarDef}
use Rattle.est_syntax.specs.declared.routine.Formal.{Formal}
use Rattle.est_syntax.specs.declared.body.StateSet.{StateSet}
use Rattle.rule_kinds.specs.TypeTexts.{text_place}
use Rattle.law_places.proofs.Placed.{NamesPlaced, ConstantPlaced, TextPlaced, ShortPlaced}

-- the items of a list stand between two places, each after the one before it
abbrev pub InOrder : {A : Type 0} → (ℕ → ℕ → A → Type 0) → ℕ → ℕ → List A → Type 0
InOrder P i j [] = i ≤ j
InOrder P i j (x ∷ xs) = (k : ℕ) × P i k x × InOrder P k j xs

-- constants and types
abbrev pub ConstDefPlaced : ℕ → ℕ → ConstDef → Type 0
ConstDefPlaced i j c = (i ≤ c.name.place) × ConstantPlaced (suc c.name.place) j c.value

abbrev pub TypeDefPlaced : ℕ → ℕ → TypeDef → Type 0
TypeDefPlaced i j t = (i ≤ t.name.place) × TextPlaced (suc t.name.place) j t.text

-- names that are declared together with a type
abbrev pub VarDefPlaced : ℕ → ℕ → VarDef → Type 0
VarDefPlaced i j v = (k : ℕ) × NamesPlaced i k v.names × TextPlaced k j v.text

-- the parts of a channel
abbrev pub InteractionPlaced : ℕ → ℕ → InteractionDef → Type 0
InteractionPlaced i j x =
    (i ≤ x.name.place) × InOrder VarDefPlaced (suc x.name.place) j x.params

abbrev pub ByPartPlaced : ℕ → ℕ → ByPart → Type 0
ByPartPlaced i j b =
    (k : ℕ) × NamesPlaced i k b.roles × InOrder InteractionPlaced k j b.interactions

abbrev pub ChannelPlaced : ℕ → ℕ → Channel → Type 0
ChannelPlaced i j c = (k : ℕ) × (i ≤ c.name.place) × NamesPlaced (suc c.name.place) k c.roles
    × InOrder ByPartPlaced k j c.by

-- interaction points and module variables
abbrev pub PointPlaced : ℕ → ℕ → Point → Type 0
PointPlaced i j p = (k : ℕ) × (m : ℕ) × (i ≤ p.place) × NamesPlaced i k p.names
    × InOrder ShortPlaced k m p.dims × (m ≤ p.channel.place)
    × (p.channel.place < p.role.place) × (p.role.place < j) × (p.place ≤ m)

abbrev pub ModvarPlaced : ℕ → ℕ → ModvarDef → Type 0
ModvarPlaced i j v = (k : ℕ) × (m : ℕ) × (i ≤ v.place) × NamesPlaced i k v.names
    × InOrder ShortPlaced k m v.dims × (m ≤ v.header.place) × (v.header.place < j)
    × (v.place ≤ m)

-- headers, whose points and exports stand in any order
pub data Merged : ℕ → ℕ → List Point → List VarDef → Type 0 where
  m_none : {i j : ℕ} → i ≤ j → Merged i j [] []
  m_point : {i k j : ℕ} {p : Point} {ps : List Point} {vs : List VarDef} → PointPlaced i k p
      → Merged k j ps vs → Merged i j (p ∷ ps) vs
  m_export : {i k j : ℕ} {v : VarDef} {ps : List Point} {vs : List VarDef} → VarDefPlaced i k v
      → text_place v.text < k → Merged k j ps vs → Merged i j ps (v ∷ vs)

abbrev pub HeaderPlaced : ℕ → ℕ → Header → Type 0
HeaderPlaced i j h = (k : ℕ) × (i ≤ h.name.place)
    × InOrder VarDefPlaced (suc h.name.place) k h.params × Merged k j h.points h.exports

-- state sets and formals
abbrev pub StateSetPlaced : ℕ → ℕ → StateSet → Type 0
StateSetPlaced i j s = (i ≤ s.name.place) × NamesPlaced (suc s.name.place) j s.states

abbrev pub FormalPlaced : ℕ → ℕ → Formal → Type 0
FormalPlaced i j f =
    (k : ℕ) × NamesPlaced i k f.names × (k ≤ f.kind.place) × (f.kind.place < j)
