-- When a claim is met.
use Rattle.std.proofs.Common.{◌≡◌, ◌≤◌, ◌<◌, ◌+◌, ◌↔◌, ℕ, Bool, false, IsTrue, length, nat_le}
use Rattle.std.proofs.Common.{inl, inr, leb-true, le-leb, arith}
use Rattle.est_meaning.specs.mean_blocks.GlobalSituation.{Situation}
use Rattle.est_meaning.specs.mean_blocks.TextByPlace.{Text}
use Rattle.est_meaning.specs.Endings.{IsTraceEnd}
use Rattle.est_meaning.specs.RecordedTraces.{Recorded}
use Rattle.est_meaning.proofs.Endings.{not_true}
use Rattle.est_explanation.specs.inside.Standing.{IsMet}

module _ (trace : Recorded) (limit : ℕ) (t : Text) (s : Situation) (claim events : ℕ) where
  -- a claim of events of the trace asks for as many
  pub met_within : claim ≤ length trace.events
      → IsTrue (nat_le claim events) ↔ IsMet trace limit t s claim events
  met_within within = (
    λ e. inl (within, leb-true claim events e),
    λ m. elim m [
      | inl a ↦ le-leb claim events a.1
      | inr a ↦ (let n = a.0 in absurd (omega arith))
    ],
  )

  module _ (lt : length trace.events < claim) where
    -- one above the end is not met
    pub met_beyond : (claim ≡ length trace.events + 1 → ⊥)
        → IsTrue false ↔ IsMet trace limit t s claim events
    met_beyond other = (
      λ e. absurd (not_true e),
      λ m. elim m [
        | inl a ↦ (let n = a.0 in absurd (omega arith))
        | inr a ↦ absurd (other a.0)
      ],
    )

    -- one more than all asks for the end
    pub met_at_end : claim ≡ length trace.events + 1 → (ends : Bool)
        → IsTrue ends ↔ IsTraceEnd trace limit t s events
        → IsTrue ends ↔ IsMet trace limit t s claim events
    met_at_end is ends h = (
      λ e. inr (is, h.0 e),
      λ m. elim m [
        | inl a ↦ (let n = a.0 in absurd (omega arith))
        | inr a ↦ h.1 a.1
      ],
    )
