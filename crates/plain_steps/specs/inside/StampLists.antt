-- How stamps are made, instance by instance.
use Rattle.std.specs.Prelude.{◌≡◌, ℕ, List, [], ◌∷◌, Option, Some, None, is_some, find, take}
use Rattle.std.specs.Prelude.{if◌then◌else◌}
use Rattle.std.specs.Option.{option_map}
use Rattle.est_meaning.specs.mean_blocks.declared.situation.Row.{Row}
use Rattle.est_meaning.specs.mean_blocks.TextByPlace.{Text}
use Rattle.est_meaning.specs.mean_blocks.GlobalSituation.{Map, Situation, Clocked, is_numbered}
use Rattle.est_meaning.specs.mean_blocks.GlobalSituation.{row_of}
use Rattle.plain_frames.specs.plain_systems.declared.system.Stamp.{Stamp}
use Rattle.est_meaning.specs.declared.firing.Firing.{Firing}
use Rattle.est_meaning.specs.DelayStamps.{stamp_after}
use Rattle.plain_steps.specs.declared.living.Living.{Living}

-- what stamps look at of an instance
abbrev pub living : Row → Living
living r = record { number = r.number; body = r.body; state = r.state }

-- an instance lives and looks so
abbrev pub IsLiving : Situation → Living → Type 0
IsLiving s l = option_map living (row_of s l.number) ≡ Some l

-- a transition of an instance, by its number
abbrev pub clocked : ℕ → ℕ → Clocked
clocked instance transition = record { instance = instance; transition = transition }

-- the stamp of a transition, if it has one
abbrev pub stamp_list : Clocked → Option ℕ → List Stamp
stamp_list k None = []
stamp_list k (Some since) =
    record { instance = k.instance; transition = k.transition; since = since } ∷ []

-- the stamps of an instance become these, and those of others stay
pub record AreOfInstance (n : ℕ) (after old new : Map Clocked ℕ) : Type 0 where
  pub own : (k : Clocked) → k.instance ≡ n → new k ≡ after k
  pub others : (k : Clocked) → (k.instance ≡ n → ⊥) → new k ≡ old k

-- the stamps of the first instances, of so many
abbrev pub stamps_until : ℕ → Text → Option Firing → Situation → ℕ → Map Clocked ℕ
stamps_until limit t fired s i k = if is_some (find (is_numbered k.instance) (take i s.rows))
    then stamp_after limit t fired s k else None
