-- Lists as they are read: what their events so far are a merge of.
use Rattle.std.specs.Prelude.{◌≡◌, ◌<◌, ℕ, List, [], ◌∷◌, ◌++◌, All, length, Option, Some}
use Rattle.est_meaning.specs.declared.event.Event.{Event}
use Rattle.est_meaning.specs.declared.event.Event.TheVariants as event
use Rattle.mean_ports.specs.ListsOfEvents.{IsPhaseAt}
use Rattle.mean_ports.specs.Merges.{Interleaves, IsAt}
use Rattle.est_trace.specs.declared.growing.Growing.{Growing}

-- the events are those of phases in order, each of which ends with the time after it
abbrev pub MergesEnded : List (List (List Event)) → List ℕ → List Event → Type 0
MergesEnded [] [] es = es ≡ []
MergesEnded (p ∷ ps) (u ∷ us) es = (front : List Event) × (rest : List Event)
    × (es ≡ front ++ event.Passes u ∷ rest) × Interleaves p front × MergesEnded ps us rest
MergesEnded _ _ es = ⊥

-- the events so far are a merge of the phases that have ended, and of the one that goes on
pub record IsGrown (many : ℕ) (found : Growing) (es : List Event) : Type 0 where
  pub before : List Event
  pub now : List Event
  pub events_are : es ≡ before ++ now
  pub ended : MergesEnded found.phases found.times before
  pub goes_on : Interleaves found.phase now
  pub phases : All (IsPhaseAt many) found.phases
  pub phase : IsPhaseAt many found.phase

-- there are so many lists, and none has an event
pub record IsEmptyPhase (many : ℕ) (phase : List (List Event)) : Type 0 where
  pub many_are : length phase ≡ many
  pub empty : All (λ (es : List Event). es ≡ []) phase

-- of whatever events the lists were, they are those of them and of these after them
abbrev pub GrowsBy : ℕ → List Event → Growing → Growing → Type 0
GrowsBy many more found found' =
    (es : List Event) → IsGrown many found es → IsGrown many found' (es ++ more)

-- the same of an event at a port, if there is one
abbrev pub GrowsAt : ℕ → Option Event → Growing → Growing → Type 0
GrowsAt port o found found' = (e : Event) (many : ℕ) → o ≡ Some e → IsAt port e → port < many
    → GrowsBy many (e ∷ []) found found'
